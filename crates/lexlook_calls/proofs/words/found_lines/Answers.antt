use Rattle.std.proofs.Common.{◌≡◌, ◌∙◌, ℕ, List, map, ap}
use Rattle.std.specs.Borrow.{Bor}
use Rattle.std.proofs.lemmas.Result.{IfOk-weaker}
use Rattle.lexspec.specs.Views.{conditions_in, rules_in, spec_of}
use Rattle.lexkit.specs.Generated.{lines_of}
use Rattle.lexlook_calls.specs.Looks.{names_of}
use Rattle.lexlook_calls.specs.Words.{word_lines}
use Rattle.lexlook_calls.proofs.words.found_lines.Goals as goal

pub returns : goal.returns
returns c =
    let S = spec_of c.args.found.now.spec in
    let names : map (λ (n : Bor (List ℕ)). n.now) c.deref.result.now ≡ names_of (conditions_in S) =
    ap (map (λ (n : Bor (List ℕ)). n.now)) c.deref.ensures.value ∙ c.in_ok-names.ensures ∙ ap names_of c.conditions.ensures.conditions in
    let lines : c.deref-2.result.now ≡ lines_of (rules_in S) = c.deref-2.ensures.value ∙ c.in_ok-lines.ensures ∙ ap lines_of c.rules.ensures.rules in
    IfOk-weaker c.word_lines.result _ _ (λ text h. h ∙ ap (λ (n : List (List ℕ)). word_lines n c.deref-2.result.now c.args.found.now.words) names
    ∙ ap (λ (l : List ℕ). word_lines (names_of (conditions_in S)) l c.args.found.now.words) lines) c.word_lines.ensures
