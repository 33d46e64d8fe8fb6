use Rattle.std.proofs.Common.{◌≡◌, ◌∙◌, ℕ, List, map, ap}
use Rattle.std.specs.Borrow.{Bor}
use Rattle.std.proofs.lemmas.Result.{IfOk-weaker}
use Rattle.lexspec.specs.Views.{conditions_in, rules_in, spec_of}
use Rattle.lexkit.specs.Generated.{lines_of}
use Rattle.lexlook_specs.specs.declared.words.overlapping.Overlap.{Overlap}
use Rattle.lexlook_calls.specs.Looks.{names_of}
use Rattle.lexlook_calls.specs.Overlaps.{overlap_lines}
use Rattle.lexlook_calls.proofs.overlaps.found_lines.Goals as goal

pub returns : goal.returns
returns c =
    let S = spec_of c.args.found.now.spec in
    let found = c.args.found.now.overlaps.items in
    let names : map (λ (n : Bor (List ℕ)). n.now) c.deref.result.now ≡ names_of (conditions_in S) =
    ap (map (λ (n : Bor (List ℕ)). n.now)) c.deref.ensures.value ∙ c.in_ok-names.ensures ∙ ap names_of c.conditions.ensures.conditions in
    let lines : c.deref-2.result.now ≡ lines_of (rules_in S) = c.deref-2.ensures.value ∙ c.in_ok-lines.ensures ∙ ap lines_of c.rules.ensures.rules in
    IfOk-weaker c.overlap_lines.result _ _ (λ text h. h ∙ ap (λ (v : List Overlap). overlap_lines (map (λ (n : Bor (List ℕ)). n.now) c.deref.result.now) c.deref-2.result.now v) c.deref-3.ensures.value
    ∙ ap (λ (n : List (List ℕ)). overlap_lines n c.deref-2.result.now found) names
    ∙ ap (λ (l : List ℕ). overlap_lines (names_of (conditions_in S)) l found) lines) c.overlap_lines.ensures
