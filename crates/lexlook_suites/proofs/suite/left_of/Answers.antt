use Rattle.std.proofs.Common.{◌≡◌, ◌∙◌, ℕ, List, ap, length, map, subst, sym}
use Rattle.std.specs.Borrow.{Bor}
use Rattle.std.proofs.lemmas.List.{length-map}
use Rattle.lex_semantics.specs.Spec.{Condition}
use Rattle.lexspec.specs.Views.{conditions_in, spec_of}
use Rattle.lexlook_suites.specs.CoverLines.{HasName}
use Rattle.lexlook_suites.specs.Covers.{IsCoverOf}
use Rattle.lexlook_suites.specs.SuiteLines.{left_lines}
use Rattle.lexlook_suites.specs.declared.texts.Missed.{Missed}
use Rattle.lexlook_suites.proofs.Members.{texts_named}
use Rattle.lexlook_suites.proofs.suite.left_of.Goals as goal

pub left_lines-requires : goal.left_lines-requires
left_lines-requires c =
    let S = spec_of c.args.spec.now in
    let count = ap length c.deref.ensures.value ∙ sym (length-map c.in_ok-names.names.items (λ (n : Bor (List ℕ)). n.now))
    ∙ ap length (c.in_ok-names.ensures ∙ ap (map (λ (k : Condition). k.name)) c.conditions.ensures.conditions) ∙ length-map (conditions_in S) (λ (k : Condition). k.name) ∙ sym c.requires.conditions in
    subst (λ (ms : List Missed). HasName (length c.deref.result.now) ms) (sym c.deref-2.ensures.value)
    (texts_named c.args.dfa.now.parts (length c.deref.result.now) _ c.in_ok-cover.cover.missed.items count c.in_ok-cover.ensures.missed_are)

pub returns : goal.returns
returns c =
    let S = spec_of c.args.spec.now in
    let p = c.args.dfa.now.parts in
    let cover = c.in_ok-cover.cover in
    let is_cover = subst (λ (n : ℕ). IsCoverOf p c.args.marks.now n cover) c.rule_count-rules.ensures c.in_ok-cover.ensures in
    let names : map (λ (n : Bor (List ℕ)). n.now) c.deref.result.now ≡ map (λ (k : Condition). k.name) (conditions_in S) =
    ap (map (λ (n : Bor (List ℕ)). n.now)) c.deref.ensures.value ∙ c.in_ok-names.ensures ∙ ap (map (λ (k : Condition). k.name)) c.conditions.ensures.conditions in
    record {
      missed = cover.missed.items;
      missed_are = is_cover.missed_are;
      lines = c.in_ok-left.ensures ∙ ap (λ (l : List (List ℕ)). left_lines l c.deref-2.result.now cover.more) names
          ∙ ap (λ (ms : List Missed). left_lines (map (λ (k : Condition). k.name) (conditions_in S)) ms cover.more) c.deref-2.ensures.value
          ∙ ap (left_lines (map (λ (k : Condition). k.name) (conditions_in S)) cover.missed.items) is_cover.more_are;
    }
