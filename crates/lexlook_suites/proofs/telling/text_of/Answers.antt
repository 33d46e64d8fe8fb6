use Rattle.std.proofs.Common.{◌≡◌, ◌∙◌, ℕ, List, ap, length, map, subst, sym}
use Rattle.std.specs.Borrow.{Bor}
use Rattle.std.proofs.lemmas.List.{length-map}
use Rattle.std.proofs.lemmas.Result.{IfOk-weaker}
use Rattle.lex_semantics.specs.Spec.{Condition}
use Rattle.lexspec.specs.Views.{conditions_in, rules_in, spec_of}
use Rattle.lexkit.specs.Generated.{lines_of}
use Rattle.lexlook_suites.specs.CoverLines.{cover_lines}
use Rattle.lexlook_suites.specs.Covers.{IsCoverOf}
use Rattle.lexlook_suites.proofs.Members.{texts_named}
use Rattle.lexlook_suites.proofs.telling.text_of.Goals as goal

pub cover_lines-requires-clause-names : goal.cover_lines-requires-clause-names
cover_lines-requires-clause-names c =
    let S = spec_of c.args.spec.now in
    let count = ap length c.deref.ensures.value ∙ sym (length-map c.in_ok-names.names.items (λ (n : Bor (List ℕ)). n.now))
    ∙ ap length (c.in_ok-names.ensures ∙ ap (map (λ (k : Condition). k.name)) c.conditions.ensures.conditions) ∙ length-map (conditions_in S) (λ (k : Condition). k.name) ∙ sym c.requires in
    texts_named c.args.dfa.now.parts (length c.deref.result.now) _ c.in_ok-cover.cover.missed.items count c.in_ok-cover.ensures.missed_are

pub returns : goal.returns
returns c =
    let S = spec_of c.args.spec.now in
    let p = c.args.dfa.now.parts in
    let cover = c.in_ok-cover.cover in
    let names : map (λ (n : Bor (List ℕ)). n.now) c.deref.result.now ≡ map (λ (k : Condition). k.name) (conditions_in S) =
    ap (map (λ (n : Bor (List ℕ)). n.now)) c.deref.ensures.value ∙ c.in_ok-names.ensures ∙ ap (map (λ (k : Condition). k.name)) c.conditions.ensures.conditions in
    let lines : c.deref-2.result.now ≡ lines_of (rules_in S) = c.deref-2.ensures.value ∙ c.in_ok-lines.ensures ∙ ap lines_of c.rules.ensures.rules in
    IfOk-weaker c.cover_lines.result _ _ (λ text h. record {
      marks = c.in_ok-marks.marks;
      walked = c.in_ok-marks.ensures;
      cover = cover;
      is_cover = subst (λ (n : ℕ). IsCoverOf p c.in_ok-marks.marks n cover) c.rule_count-rules.ensures c.in_ok-cover.ensures;
      lines = h ∙ ap (λ (l : List (List ℕ)). cover_lines l c.deref-2.result.now c.rule_count-rules.result cover) names
          ∙ ap (λ (l : List ℕ). cover_lines (map (λ (k : Condition). k.name) (conditions_in S)) l c.rule_count-rules.result cover) lines
          ∙ ap (λ (n : ℕ). cover_lines (map (λ (k : Condition). k.name) (conditions_in S)) (lines_of (rules_in S)) n cover) c.rule_count-rules.ensures;
    }) c.cover_lines.ensures
