use Rattle.std.proofs.Common.{◌≡◌, ◌<◌, length, map, inl, inr, sym, subst, ◌∙◌, arith}
use Rattle.std.specs.Prelude.{slice_index}
use Rattle.std.proofs.lemmas.Bool.{cases_lt}
use Rattle.std.proofs.lemmas.List.{get_or_read, length-map}
use Rattle.lextab_packed.specs.Predecessors.{IsSource}
use Rattle.lextab_packed.specs.Steps.{slot_at}
use Rattle.lextab_packed.specs.Table as T
use Rattle.lextab_packed.specs.Views.{row_of, table_of}
use Rattle.lextab_packed.proofs.Places.{slot_is}
use Rattle.lextab_packed.proofs.Preceding.{slots_high}
use Rattle.lextab_packed.proofs.Stepping.{slots_at, slots_low}
use Rattle.lextab_packed.proofs.predecessors.add_slots.Goals as goal

pub add_source-requires : goal.add_source-requires
add_source-requires c =
    let p = c.args.parts.now in
    let place = c.loop-place.place in
    let in_checks : place < length p.checks.items = omega (arith, c.loop-place-test.true, c.min-slots.ensures, c.len.ensures, c.len-2.ensures, p.checks.ok.0) in
    let in_nexts : place < length p.nexts.items = omega (arith, c.loop-place-test.true, c.min-slots.ensures, c.len.ensures, c.len-2.ensures, p.nexts.ok.0) in
    let low = slots_high p.checks.items p.nexts.items place in_checks in_nexts in
    let read = get_or_read p.nexts.items place c.index.result.now in_nexts c.index.ensures 0 in
    let known = subst (λ (l : T.Slot). l.next < length (map row_of p.rows.items)) (slots_at p.checks.items p.nexts.items place low) (slot_is (table_of p) c.requires.table place low).next in
    let rows = length-map p.rows.items row_of in
    omega (arith, c.from.ensures, read, known, rows, c.loop-place.invariant.len)

pub loop-place-preserved : goal.loop-place-preserved
loop-place-preserved c =
    let p = c.args.parts.now in
    let t = table_of p in
    let place = c.loop-place.place in
    let new = c.add_source.new.sources.items in
    let in_checks : place < length p.checks.items = omega (arith, c.loop-place-test.true, c.min-slots.ensures, c.len.ensures, c.len-2.ensures, p.checks.ok.0) in
    let in_nexts : place < length p.nexts.items = omega (arith, c.loop-place-test.true, c.min-slots.ensures, c.len.ensures, c.len-2.ensures, p.nexts.ok.0) in
    let low = slots_high p.checks.items p.nexts.items place in_checks in_nexts in
    let next = c.from.ensures ∙ get_or_read p.nexts.items place c.index.result.now in_nexts c.index.ensures 0 in
    let check = c.from-in-loop-place.ensures ∙ get_or_read p.checks.items place c.index-in-loop-place.result.now in_checks c.index-in-loop-place.ensures 0 in
    let read : IsSource new (slice_index p.nexts.items place) (slice_index p.checks.items place) =
    subst (λ n. IsSource new n (slice_index p.checks.items place)) next (subst (λ s. IsSource new c.from.result s) check c.add_source.ensures.added) in
    let here : IsSource new (slot_at t place).next (slot_at t place).check = subst (λ (l : T.Slot). IsSource new l.next l.check) (sym (slots_at p.checks.items p.nexts.items place low)) read in
    record {
      len = c.add_source.ensures.len ∙ c.loop-place.invariant.len;
      added = λ i lt. elim (cases_lt i place) [
        | inl before ↦ c.add_source.ensures.stay (slot_at t i).next (slot_at t i).check (c.loop-place.invariant.added i before)
        | inr from ↦ (let e : place ≡ i = omega (arith, lt, from) in subst (λ n. IsSource new (slot_at t n).next (slot_at t n).check) e here)
      ];
      stay = λ target s is. c.add_source.ensures.stay target s (c.loop-place.invariant.stay target s is);
    }

pub returns-clause-added : goal.returns-clause-added
returns-clause-added c = λ i lt.
    let p = c.args.parts.now in
    let low = slots_low p.checks.items p.nexts.items i lt in
    c.loop-place.invariant.added i (omega (arith, low.0, low.1, c.loop-place-test.false, c.min-slots.ensures, c.len.ensures, c.len-2.ensures, p.checks.ok.0, p.nexts.ok.0))
