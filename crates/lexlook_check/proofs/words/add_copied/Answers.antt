use Rattle.std.proofs.Common.{◌++◌, ◌∙◌, List, [], ◌∷◌, ℕ, ap, codes}
use Rattle.std.specs.List.{concat}
use Rattle.std.proofs.lemmas.Result.{on_ok_weaker}
use Rattle.lexlook_check.proofs.words.add_copied.Goals as goal

pub returns : goal.returns
returns c =
    on_ok_weaker c.add_each.result
    (λ h. h ∙ ap (λ (z : List ℕ). c.args.text.now.items ++ concat (codes "the first byte that it copies is " ∷ z ∷ codes "; " ∷ [])) (c.as_bytes-digits.ensures.value ∙ c.format.ensures.text)) c.add_each.ensures
