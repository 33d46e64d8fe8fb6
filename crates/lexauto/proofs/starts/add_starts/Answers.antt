use Rattle.std.proofs.Common.{rules, ◌≡◌, ◌<◌, ℕ, List, length, inr, arith, sym, ap, subst, ◌∙◌, Err}
use Rattle.std.proofs.lemmas.Result.{err_from_is_err_and}
use Rattle.lexspec_actions.specs.Views.{condition_of}
use Rattle.lexspec.specs.Views.{spec_of, conditions_in}
use Rattle.lexauto.specs.declared.explore.ExploreError.TheVariants.{TooMany}
use Rattle.lexauto.specs.Keys.{Key, At}
use Rattle.lexauto.specs.KeyPacking.{look_kept, kept_in}
use Rattle.lexauto.specs.WordKeys.{AreStartPlaces}
use Rattle.lexauto.proofs.Kept.{kept_length}
use Rattle.lexauto.proofs.Roots.{grown, more_roots, more_places, too_many_roots}
use Rattle.lexauto_positions.proofs.Mapped.{length_map}
use Rattle.lexauto.proofs.starts.add_starts.Goals as goal

pub returns-in_err-place-clause-too_many : goal.returns-in_err-place-clause-too_many
returns-in_err-place-clause-too_many c = λ e.
    let S = spec_of c.args.spec.now in
    let number = c.loop-number.number in
    let keys = kept_in c.loop-number.table.keys.items in
    let some : length (conditions_in S) ≡ length c.conditions-number-end.result.now = sym (ap length c.conditions-number-end.ensures.conditions) ∙ length_map condition_of c.conditions-number-end.result.now in
    let lt : number < length c.conditions-number-end.result.now = search rules in
    let low : number < length (conditions_in S) = omega (arith, some, lt) in
    let p = err_from_is_err_and c.from_residual-in_err-place.result c.from_residual-in_err-place.ensures.1 in
    let told = rw (p.1, p.2) at e in
    let same : c.in_err-place.field-0.0 ≡ TooMany = cc in
    let full = c.in_err-place.ensures.full (ap Err same) in
    too_many_roots S (look_kept c.loop-number.table) keys c.in_ok-key.key.items c.args.limit c.loop-number.invariant.roots full.0 (inr (number, c.args.line_start, low, c.in_ok-key.ensures)) (rw kept_length full.1)

pub loop-number-preserved : goal.loop-number-preserved
loop-number-preserved c =
    let S = spec_of c.args.spec.now in
    let number = c.loop-number.number in
    let keys = kept_in c.loop-number.table.keys.items in
    let new = kept_in c.intern.new.table.keys.items in
    let some : length (conditions_in S) ≡ length c.conditions-number-end.result.now = sym (ap length c.conditions-number-end.ensures.conditions) ∙ length_map condition_of c.conditions-number-end.result.now in
    let lt : number < length c.conditions-number-end.result.now = search rules in
    let low : number < length (conditions_in S) = omega (arith, some, lt) in
    let grows = grown keys new c.in_ok-key.key.items c.in_ok-place.ensures.found in
    let before = c.loop-number.invariant in
    record {
      roots = more_roots S (look_kept c.loop-number.table) (look_kept c.intern.new.table) keys new c.in_ok-key.key.items before.roots c.in_ok-place.ensures.finds c.in_ok-place.ensures.found (inr (number, c.args.line_start, low, c.in_ok-key.ensures));
      grows = λ i k a. grows i k (before.grows i k a);
      places = subst (λ (ps : List ℕ). AreStartPlaces S c.args.line_start new ps) (sym c.in_ok-push.ensures.items)
          (more_places S c.args.line_start keys new c.loop-number.places.items c.in_ok-place.place number before.len grows before.places
          (subst (λ (k : Key). At new c.in_ok-place.place k) c.in_ok-key.ensures c.in_ok-place.ensures.place));
      len = search rules;
      room = λ h. c.in_ok-place.ensures.room (before.room h);
    }
