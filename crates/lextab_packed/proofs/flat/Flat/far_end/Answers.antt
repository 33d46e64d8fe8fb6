use Rattle.std.proofs.Common.{◌≡◌, ℕ, ◌*◌, ◌<◌, true, get_or, inl, inr, subst, arith}
use Rattle.std.proofs.lemmas.Bool.{cases_lt}
use Rattle.lex_semantics.specs.Machine.{Machine}
use Rattle.lextab_packed.specs.Flats.{kind_of}
use Rattle.lex_semantics.specs.Text.{flag}
use Rattle.lextab_packed.specs.declared.tables.Tables.{Tables}
use Rattle.lextab_packed.specs.Machines.{table_machine, table_states}
use Rattle.lextab_packed.proofs.Leaping.{leaves_at, ends_at}
use Rattle.lextab_packed.proofs.Marks as Mark
use Rattle.lextab_packed.proofs.flat.Flat.far_end.Goals as goal

pub run-preserved : goal.run-preserved
run-preserved c = (
  omega (arith, c.run.invariant.0),
  λ s is known.
      let old = c.run.invariant.1 s is known in
      let gone = goes s is known in
      let e : M.next s (get_or c.args.bytes.now c.run.end 0) ≡ s = omega (arith, gone.1, is, c.if-target-place.true) in
      record {
        order = omega (arith, old.order);
        inside = omega (arith, c.run.invariant.0);
        stays = λ i from less. elim (cases_lt i c.run.end) [
          | inl before ↦ old.stays i from before
          | inr high ↦ (let at : c.run.end ≡ i = omega (arith, less, high) in subst (λ k. M.next s (get_or c.args.bytes.now k 0) ≡ s) at e)
        ];
        goes_on = λ some. subst (λ n. M.goes_on n ≡ true) e gone.0;
      },
)
  where
    t : Tables
    t = c.args.self.now.tables

    M : Machine
    M = table_machine t

    goes : (s : ℕ) → c.args.place ≡ 256 * s → s < table_states t → (M.goes_on (M.next s (get_or c.args.bytes.now c.run.end 0)) ≡ true) × (c.target.result ≡ 256 * M.next s (get_or c.args.bytes.now c.run.end 0))
    goes s is known =
        let next : ℕ = M.next s (get_or c.args.bytes.now c.run.end 0) in
        Mark.gone (flag t.goes_on.items next) (kind_of M next) next c.target.result (c.target.ensures s is known) (omega (arith, c.if-target-place.true, is, known, Mark.few_states t))

pub run-init : goal.run-init
run-init c = ((c.leap_end-end.ensures c.requires.place.0 c.requires.place.2 c.requires.place.1).inside, c.leap_end-end.ensures)

pub returns-else-target-place : goal.returns-else-target-place
returns-else-target-place c s is known =
    let t : Tables = c.args.self.now.tables in
    ends_at (table_machine t) s c.args.bytes.now c.args.start c.run.end (c.run.invariant.1 s is known)
    (λ inside. leaves_at t s (get_or c.args.bytes.now c.run.end 0) c.target.result c.args.place is (c.target.ensures s is known) c.if-target-place.false)

pub returns-after-run : goal.returns-after-run
returns-after-run c s is known =
    ends_at (table_machine c.args.self.now.tables) s c.args.bytes.now c.args.start c.run.end (c.run.invariant.1 s is known) (λ inside. absurd (omega (arith, inside, c.run-test.false)))
