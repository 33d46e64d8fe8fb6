use Rattle.std.proofs.Common.{◌≡◌, ℕ, ◌+◌, ◌<◌, List, length, get_or, slice_index, inl, inr, sym, ap, subst, ◌∙◌, arith}
use Rattle.std.proofs.lemmas.Bool.{cases_lt}
use Rattle.std.proofs.lemmas.List.{get_or_read}
use Rattle.lextab_packed.specs.Alike.{IsSpread}
use Rattle.lextab_packed.specs.Checks.{IsTable}
use Rattle.lextab_packed.specs.Table.{Table}
use Rattle.lextab_packed.specs.declared.parts.Row.{Row}
use Rattle.lextab_packed.specs.declared.parts.TableParts.{TableParts}
use Rattle.lextab_packed.specs.Views.{table_of}
use Rattle.lextab_packed.proofs.Places.{class_below}
use Rattle.lextab_packed.proofs.Stepping.{class_target, default_known, class_next_known, class_check_low, class_next_low, class_by_slot, class_by_default, step_by_class}
use Rattle.lextab_packed.proofs.rows.turn_to.Goals.{then-from-state, else-from-state}
use Rattle.lextab_packed.proofs.rows.turn_to.Goals as goal

pub bounds-marks-packed : goal.bounds-marks-packed
bounds-marks-packed c =
    let p = c.args.parts.now in
    let known = default_known p c.requires.table c.args.state c.requires.state c.index-packed.result.now c.index-packed.ensures in
    omega (arith, known, c.requires.marks)

pub index-requires : goal.index-requires
index-requires c =
    let p = c.args.parts.now in
    omega (arith, class_check_low p c.requires.table c.args.state c.requires.state c.index-packed.result.now c.index-packed.ensures c.loop-class.class (omega (arith, c.loop-class-test.true)), p.checks.ok.0)

pub index-requires-then-from-state : goal.index-requires-then-from-state
index-requires-then-from-state c =
    let p = c.args.parts.now in
    omega (arith, class_next_low p c.requires.table c.args.state c.requires.state c.index-packed.result.now c.index-packed.ensures c.loop-class.class (omega (arith, c.loop-class-test.true)), p.nexts.ok.0)

pub bounds-marks-from : goal.bounds-marks-from
bounds-marks-from c =
    let p = c.args.parts.now in
    let row = c.index-packed.result.now in
    let k = c.loop-class.class in
    let known : k < p.classes = omega (arith, c.loop-class-test.true) in
    let low = class_next_low p c.requires.table c.args.state c.requires.state row c.index-packed.ensures k known in
    let read = get_or_read p.nexts.items (row.base + k) c.index-then-from-state.result.now low c.index-then-from-state.ensures 0 in
    let below = class_next_known p c.requires.table c.args.state c.requires.state row c.index-packed.ensures k known in
    omega (arith, c.from-then-from-state.ensures, read, below, c.requires.marks)

pub loop-class-preserved : goal.loop-class-preserved
loop-class-preserved c = (
  subst (λ l. IsSpread l c.set.new.self.by_class c.set.new.self.by_byte) c.deref.ensures.value c.set.ensures.spread,
  λ j lt. elim (cases_lt j k) [
    | inl before ↦ c.set.ensures.kept j (λ e. absurd (omega (arith, e, before))) ∙ c.loop-class.invariant.1 j before
    | inr from ↦ (
        let e : k ≡ j = omega (arith, lt, from) in
        subst (λ i. slice_index c.set.new.self.by_class i ≡ slice_index marks (class_target t s i)) e (c.set.ensures.put ∙ mark)
        )
  ],
)
  where
    marks : List ℕ
    marks = c.args.marks.now

    p : TableParts
    p = c.args.parts.now

    t : Table
    t = table_of p

    ok : IsTable t
    ok = c.requires.table

    s : ℕ
    s = c.args.state

    k : ℕ
    k = c.loop-class.class

    low : s < length p.rows.items
    low = c.requires.state

    row : Row
    row = c.index-packed.result.now

    is : row ≡ get_or p.rows.items s row
    is = c.index-packed.ensures

    known : k < p.classes
    known = omega (arith, c.loop-class-test.true)

    check : c.from.result ≡ slice_index p.checks.items (row.base + k)
    check = c.from.ensures ∙ get_or_read p.checks.items (row.base + k) c.index.result.now (class_check_low p ok s low row is k known) c.index.ensures 0

    mark : c.if-from-state.mark ≡ slice_index marks (class_target t s k)
    mark = elim c.if-from-state.branch [
      | then-from-state w ↦ (
          let next = w.from-then-from-state.ensures ∙ get_or_read p.nexts.items (row.base + k) w.index-then-from-state.result.now (class_next_low p ok s low row is k known) w.index-then-from-state.ensures 0 in
          w.mark-is ∙ ap (λ (x : ℕ). slice_index marks x) (next ∙ class_by_slot p ok s low row is k known (sym check ∙ w.if-from-state.true))
          )
      | else-from-state w ↦ w.mark-is ∙ ap (λ (x : ℕ). slice_index marks x) (class_by_default p ok s low row is k known (λ e. w.if-from-state.false (check ∙ e)))
    ]

pub returns-clause-each : goal.returns-clause-each
returns-clause-each c b byte =
    let p = c.args.parts.now in let row = c.index-packed.result.now in
    c.loop-class.invariant.0 b byte
    ∙ c.loop-class.invariant.1 (slice_index p.class_of.items b) (omega (arith, c.loop-class-test.false, class_below (table_of p) c.requires.table b byte))
    ∙ ap (λ (x : ℕ). slice_index c.args.marks.now x) (step_by_class p c.requires.table c.args.state c.requires.state row c.index-packed.ensures b byte)
