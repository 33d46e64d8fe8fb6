use Rattle.std.proofs.Common.{◌≡◌, ℕ, ◌*◌, ◌<◌, true, get_or, inl, inr, ap, subst, ◌∙◌, arith}
use Rattle.std.proofs.lemmas.Bool.{cases_lt}
use Rattle.lex_semantics.specs.Machine.{Machine}
use Rattle.lextab_packed.specs.Flats.{kind_of, marked_target}
use Rattle.lex_semantics.specs.Text.{flag}
use Rattle.lextab_packed.specs.declared.tables.Tables.{Tables}
use Rattle.lextab_packed.specs.Machines.{table_machine, table_states}
use Rattle.lextab_packed.proofs.Leaping.{leaves_at, ends_at, run_then}
use Rattle.lextab_packed.proofs.Marks as Mark
use Rattle.lextab_packed.proofs.flat.Flat.run_end.Goals as goal
use Rattle.lextab_packed.proofs.flat.Flat.run_end.Goals.{then-run-test+else-row-from, else-run-test}

pub run-preserved : goal.run-preserved
run-preserved c = (
  omega (arith, c.run.invariant.0),
  λ s is known.
      let old = c.run.invariant.1 s is known in
      let gone = goes s is known in
      let e : M.next s (get_or c.args.bytes.now c.run.end 0) ≡ s = omega (arith, gone.1, is, c.if-row-from.true) in
      record {
        order = omega (arith, old.order);
        inside = omega (arith, c.run.invariant.0);
        stays = λ i from less. elim (cases_lt i c.run.end) [
          | inl before ↦ old.stays i from before
          | inr high ↦ (let at : c.run.end ≡ i = omega (arith, less, high) in subst (λ k. M.next s (get_or c.args.bytes.now k 0) ≡ s) at e)
        ];
        goes_on = λ some. subst (λ n. M.goes_on n ≡ true) e gone.0;
      },
)
  where
    t : Tables
    t = c.args.self.now.tables

    M : Machine
    M = table_machine t

    target : (s : ℕ) → c.args.place ≡ 256 * s → s < table_states t → get_or c.row-row.result.now c.from.result 0 ≡ marked_target t s (get_or c.args.bytes.now c.run.end 0)
    target s is known =
        let small = c.type_inv.bytes c.run.end in
        ap (λ b. get_or c.row-row.result.now b 0) c.from.ensures ∙ c.row-row.ensures.each s is known (get_or c.args.bytes.now c.run.end 0) (omega (arith, small))

    goes : (s : ℕ) → c.args.place ≡ 256 * s → s < table_states t → (M.goes_on (M.next s (get_or c.args.bytes.now c.run.end 0)) ≡ true) × (get_or c.row-row.result.now c.from.result 0 ≡ 256 * M.next s (get_or c.args.bytes.now c.run.end 0))
    goes s is known =
        let next : ℕ = M.next s (get_or c.args.bytes.now c.run.end 0) in
        Mark.gone (flag t.goes_on.items next) (kind_of M next) next (get_or c.row-row.result.now c.from.result 0) (target s is known) (omega (arith, c.if-row-from.true, is, known, Mark.few_states t))

pub returns-then-end-near : goal.returns-then-end-near
returns-then-end-near c s is known =
    let t : Tables = c.args.self.now.tables in
    ends_at (table_machine t) s c.args.bytes.now c.args.start c.run.end (c.run.invariant.1 s is known)
    (λ inside. elim c.run-test.branch [
      | then-run-test+else-row-from w ↦ leaves_at t s (get_or c.args.bytes.now c.run.end 0) (get_or c.row-row.result.now w.from.result 0) c.args.place is
          (let small = c.type_inv.bytes c.run.end in ap (λ b. get_or c.row-row.result.now b 0) w.from.ensures ∙ c.row-row.ensures.each s is known (get_or c.args.bytes.now c.run.end 0) (omega (arith, small)))
          w.if-row-from.false
      | else-run-test w ↦ absurd (omega (arith, w.run-test.false, c.if-end-near.true))
    ])

pub returns : goal.returns
returns c s is known =
    run_then (table_machine c.args.self.now.tables) s c.args.bytes.now c.args.start c.run.end c.far_end.result (c.run.invariant.1 s is known) (c.far_end.ensures s is known)
