use Rattle.std.proofs.Common.{rules, ◌≡◌, ℕ, ◌-◌, ◌<◌, ◌≤◌, Bool, false, length, map, inl, inr, sym, ap, ◌∙◌, arith}
use Rattle.std.specs.Prelude.{slice_index, slice_index_or}
use Rattle.std.proofs.lemmas.Bool.{cases_eq}
use Rattle.std.proofs.lemmas.List.{get_or_past}
use Rattle.lex_semantics.specs.ByteSets.{has, empty_set}
use Rattle.lexspec.specs.RuleViews.{rule_of}
use Rattle.lexauto.specs.Moving.{place_at}
use Rattle.lexauto.proofs.ChangeLaws.{has_nothing}
use Rattle.lexauto.proofs.StepLemmas.{reading_alike}
use Rattle.lexauto.proofs.stepping.RuleMovesMoves.changes.Goals.{then-place-last, else-place-last}
use Rattle.lexauto.proofs.stepping.RuleMovesMoves.changes.Goals as goal

pub loop-position-init : goal.loop-position-init
loop-position-init c = record {
  told = λ j b none. absurd (omega (arith, none));
  last = λ b low not.
      let n = c.len-last.result in
      let past : length c.args.self.now.changes.items ≤ n = search rules in
      ap (λ s. has s b) (get_or_past c.args.self.now.changes.items n empty_set past) ∙ has_nothing b low;
}

pub loop-position-preserved : goal.loop-position-preserved
loop-position-preserved c =
    let own : ℕ → ℕ → Bool = λ k. has (slice_index_or c.args.self.now.changes.items k empty_set) in
    let at = c.loop-position.position-index in
    let place = place_at c.args.self.now.places.items (length c.args.self.now.changes.items) (slice_index c.args.followers.now at) in
    let here : (b : ℕ) → b < 256 → has c.if-place-last.changes b ≡ false
    → (has c.loop-position.changes b ≡ false) × (own place b ≡ false) × (own c.if-place-last.last b ≡ false) = λ b byte not.
    elim c.if-place-last.branch [
      | then-place-last w ↦
          (let is : c.place-place.result ≡ place = search rules in
          let both = w.with_changes-changes.ensures b byte (ap (λ s. has s b) (sym w.changes-is) ∙ not) in
          (both.0, ap (λ k. own k b) (sym is) ∙ both.1, ap (λ k. own k b) w.last-is ∙ both.1))
      | else-place-last w ↦
          (let is : c.place-place.result ≡ place = search rules in
          let same : c.place-place.result ≡ c.loop-position.last = (let f = w.if-place-last.false in search (rules, f)) in
          let old = ap (λ s. has s b) (sym w.changes-is) ∙ not in
          let last = c.loop-position.invariant.last b byte old in
          (old, ap (λ k. own k b) (sym is ∙ same) ∙ last, ap (λ k. own k b) w.last-is ∙ last))
    ] in
    record {
      told = λ j b low byte not.
          elim (cases_eq j at) [
            | inl e ↦ ap (λ k. own (place_at c.args.self.now.places.items (length c.args.self.now.changes.items) (slice_index c.args.followers.now k)) b) e ∙ (here b byte not).1
            | inr other ↦ c.loop-position.invariant.told j b (omega (arith, low, other)) byte (here b byte not).0
          ];
      last = λ b byte not. (here b byte not).2;
    }

pub returns : goal.returns
returns c = λ b some low not.
    let moves = c.args.self.now in
    reading_alike (map rule_of moves.spec.now.rules.items) c.args.followers.now (b - 1) b
    (λ j lt. moves.changing (slice_index c.args.followers.now j) b some low (c.loop-position.invariant.told j b (omega (arith, lt, c.loop-position-test.false)) low not))
