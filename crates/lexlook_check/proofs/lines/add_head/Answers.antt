use Rattle.std.proofs.Common.{◌≡◌, ◌++◌, ◌∙◌, List, [], ◌∷◌, ℕ, ap, codes}
use Rattle.std.specs.List.{concat}
use Rattle.std.proofs.lemmas.Result.{on_ok_weaker}
use Rattle.lexlook_check.specs.CheckLines.{severity_words, what_words}
use Rattle.lexlook_check.proofs.Parts.{three}
use Rattle.lexlook_check.proofs.lines.add_head.Goals as goal

pub returns : goal.returns
returns c =
    let kind = c.args.finding.what in
    let before = c.add_column.new.text.items in
    let severity : c.as_bytes-severity.result.now ≡ severity_words kind = c.as_bytes-severity.ensures.value ∙ c.severity_text.ensures in
    let what : c.as_bytes-what.result.now ≡ what_words kind = c.as_bytes-what.ensures.value ∙ c.what_text.ensures in
    on_ok_weaker c.add_each.result
    (λ h. three _ _ _ _ _ _ _ c.in_ok-add_place.ensures c.in_ok-add_column.ensures
    (h ∙ ap (λ (s : List ℕ). before ++ concat (codes ": " ∷ s ∷ codes ": " ∷ c.as_bytes-what.result.now ∷ codes "\n" ∷ [])) severity
    ∙ ap (λ (w : List ℕ). before ++ concat (codes ": " ∷ severity_words kind ∷ codes ": " ∷ w ∷ codes "\n" ∷ [])) what)) c.add_each.ensures
