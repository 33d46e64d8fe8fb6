use Rattle.std.proofs.Common.{◌≡◌, ℕ, ◌+◌, ◌-◌, ◌*◌, ◌/◌, ◌<◌, length, take, get_or, sym, ap, subst, ◌∙◌, arith}
use Rattle.std.proofs.Math.Nat.{mul-div_cancel_left}
use Rattle.lex_semantics.specs.Text.{flag}
use Rattle.lex_semantics.specs.Machine.{Machine, walk}
use Rattle.lextab_packed.specs.declared.tables.Tables.{Tables}
use Rattle.lex_machine.specs.Glances.{Gists}
use Rattle.lextab_packed.specs.Flats.{as_target, kind_of}
use Rattle.lextab_packed.specs.Steps.{step_of}
use Rattle.lextab_packed.specs.Views.{table_of}
use Rattle.lextab_packed.specs.Machines.{table_machine, table_states}
use Rattle.lextab_packed.proofs.Ways.{run_within, asked_run}
use Rattle.lextab_packed.proofs.Marks as Mark
use Rattle.lextab_packed.proofs.flat.FlatMachine.way.Goals as goal

pub returns-then-next-ge-STOP-clause-way : goal.returns-then-next-ge-STOP-clause-way
returns-then-next-ge-STOP-clause-way c =
    let t : Tables = c.args.self.now.tables in
    let M : Machine = table_machine t in
    let lt : c.bytes.count < length c.args.bytes.now = omega (arith, c.bytes-test.true) in
    let small : get_or c.args.bytes.now c.bytes.count 0 < 256 = let f = c.type_inv.bytes c.bytes.count in omega (arith, f) in
    let next : ℕ = step_of (table_of t.parts) (walk M c.args.first (take c.bytes.count c.args.bytes.now)) (get_or c.args.bytes.now c.bytes.count 0) in
    let below = Mark.next_below t c.args.first c.bytes.count c.args.bytes.now lt small c.bytes.invariant.known in
    let is = Mark.next_is t c.args.first c.bytes.count c.args.bytes.now lt small c.bytes.invariant.known in
    let r : c.target-next.result ≡ as_target (flag t.goes_on.items next) (kind_of (table_machine t) next) next = c.target-next.ensures (walk M c.args.first (take c.bytes.count c.args.bytes.now)) c.bytes.invariant.place_is c.bytes.invariant.known in
    let k = Mark.stopped (flag t.goes_on.items next) (kind_of M next) next c.target-next.result r (omega (arith, below, Mark.few_states t)) (omega (arith, c.if-next-ge-STOP.true)) in
    let state = c.state_of.ensures.stops (kind_of M next) next (omega (arith, below, Mark.few_states t)) k.1 in
    record {
      some = omega arith;
      inside = omega (arith, lt);
      state_is = state ∙ is;
      before_is = ap (λ n. n / 256) c.bytes.invariant.place_is ∙ mul-div_cancel_left (walk M c.args.first (take c.bytes.count c.args.bytes.now)) (omega arith)
          ∙ (let e : c.bytes.count ≡ c.bytes.count + 1 - 1 = omega arith in ap (λ n. walk M c.args.first (take n c.args.bytes.now)) e);
      asked = λ i some less. c.bytes.invariant.asked i some (omega (arith, less));
      stops = ap (flag t.goes_on.items) state ∙ k.0;
      gist_is = subst (λ s. Gists M s c.gist_at.result) (sym state) (c.gist_at.ensures next below k.1);
    }

pub returns-then-next-ge-STOP-clause-known : goal.returns-then-next-ge-STOP-clause-known
returns-then-next-ge-STOP-clause-known c =
    let t : Tables = c.args.self.now.tables in
    let M : Machine = table_machine t in
    let lt : c.bytes.count < length c.args.bytes.now = omega (arith, c.bytes-test.true) in
    let small : get_or c.args.bytes.now c.bytes.count 0 < 256 = let f = c.type_inv.bytes c.bytes.count in omega (arith, f) in
    let next : ℕ = step_of (table_of t.parts) (walk M c.args.first (take c.bytes.count c.args.bytes.now)) (get_or c.args.bytes.now c.bytes.count 0) in
    let below = Mark.next_below t c.args.first c.bytes.count c.args.bytes.now lt small c.bytes.invariant.known in
    let r : c.target-next.result ≡ as_target (flag t.goes_on.items next) (kind_of (table_machine t) next) next = c.target-next.ensures (walk M c.args.first (take c.bytes.count c.args.bytes.now)) c.bytes.invariant.place_is c.bytes.invariant.known in
    let k = Mark.stopped (flag t.goes_on.items next) (kind_of M next) next c.target-next.result r (omega (arith, below, Mark.few_states t)) (omega (arith, c.if-next-ge-STOP.true)) in
    let state = c.state_of.ensures.stops (kind_of M next) next (omega (arith, below, Mark.few_states t)) k.1 in
    omega (arith, state, below)

pub gist_at-requires : goal.gist_at-requires
gist_at-requires c =
    let t : Tables = c.args.self.now.tables in
    let M : Machine = table_machine t in
    let lt : c.bytes.count < length c.args.bytes.now = omega (arith, c.bytes-test.true) in
    let small : get_or c.args.bytes.now c.bytes.count 0 < 256 = let f = c.type_inv.bytes c.bytes.count in omega (arith, f) in
    let next : ℕ = step_of (table_of t.parts) (walk M c.args.first (take c.bytes.count c.args.bytes.now)) (get_or c.args.bytes.now c.bytes.count 0) in
    let below = Mark.next_below t c.args.first c.bytes.count c.args.bytes.now lt small c.bytes.invariant.known in
    let r : c.target-next.result ≡ as_target (flag t.goes_on.items next) (kind_of (table_machine t) next) next = c.target-next.ensures (walk M c.args.first (take c.bytes.count c.args.bytes.now)) c.bytes.invariant.place_is c.bytes.invariant.known in
    let k = Mark.stopped (flag t.goes_on.items next) (kind_of M next) next c.target-next.result r (omega (arith, below, Mark.few_states t)) (omega (arith, c.if-next-ge-STOP.true)) in
    (next, below, k.1)

pub bytes-preserved : goal.bytes-preserved
bytes-preserved c =
    let t : Tables = c.args.self.now.tables in
    let M : Machine = table_machine t in
    let lt : c.bytes.count < length c.args.bytes.now = omega (arith, c.bytes-test.true) in
    let small : get_or c.args.bytes.now c.bytes.count 0 < 256 = let f = c.type_inv.bytes c.bytes.count in omega (arith, f) in
    let next : ℕ = step_of (table_of t.parts) (walk M c.args.first (take c.bytes.count c.args.bytes.now)) (get_or c.args.bytes.now c.bytes.count 0) in
    let r : c.target-next.result ≡ as_target (flag t.goes_on.items next) (kind_of (table_machine t) next) next = c.target-next.ensures (walk M c.args.first (take c.bytes.count c.args.bytes.now)) c.bytes.invariant.place_is c.bytes.invariant.known in
    let k = Mark.goes_further t c.args.first c.bytes.count c.args.bytes.now lt small c.bytes.invariant.known c.target-next.result r (omega (arith, c.if-next-ge-STOP.false)) c.bytes.invariant.asked in
    record { inside = omega (arith, lt); place_is = k.0; known = k.1; asked = k.2 }

pub overflow_mul-place : goal.overflow_mul-place
overflow_mul-place c = omega (arith, c.requires, Mark.few_states c.args.self.now.tables)

pub bytes-smaller-then-place-before : goal.bytes-smaller-then-place-before
bytes-smaller-then-place-before c =
    let t : Tables = c.args.self.now.tables in
    let M : Machine = table_machine t in
    let lt : c.bytes.count < length c.args.bytes.now = omega (arith, c.bytes-test.true) in
    let small : get_or c.args.bytes.now c.bytes.count 0 < 256 = let f = c.type_inv.bytes c.bytes.count in omega (arith, f) in
    let next : ℕ = step_of (table_of t.parts) (walk M c.args.first (take c.bytes.count c.args.bytes.now)) (get_or c.args.bytes.now c.bytes.count 0) in
    let r : c.target-next.result ≡ as_target (flag t.goes_on.items next) (kind_of (table_machine t) next) next = c.target-next.ensures (walk M c.args.first (take c.bytes.count c.args.bytes.now)) c.bytes.invariant.place_is c.bytes.invariant.known in
    let k = Mark.goes_further t c.args.first c.bytes.count c.args.bytes.now lt small c.bytes.invariant.known c.target-next.result r (omega (arith, c.if-next-ge-STOP.false)) c.bytes.invariant.asked in
    let run = c.run_end-count.ensures (walk M c.args.first (take (c.bytes.count + 1) c.args.bytes.now)) k.0 k.1 in
    omega (arith, lt, run.order, run.inside)

pub bytes-preserved-then-place-before : goal.bytes-preserved-then-place-before
bytes-preserved-then-place-before c =
    let t : Tables = c.args.self.now.tables in
    let M : Machine = table_machine t in
    let lt : c.bytes.count < length c.args.bytes.now = omega (arith, c.bytes-test.true) in
    let small : get_or c.args.bytes.now c.bytes.count 0 < 256 = let f = c.type_inv.bytes c.bytes.count in omega (arith, f) in
    let next : ℕ = step_of (table_of t.parts) (walk M c.args.first (take c.bytes.count c.args.bytes.now)) (get_or c.args.bytes.now c.bytes.count 0) in
    let r : c.target-next.result ≡ as_target (flag t.goes_on.items next) (kind_of (table_machine t) next) next = c.target-next.ensures (walk M c.args.first (take c.bytes.count c.args.bytes.now)) c.bytes.invariant.place_is c.bytes.invariant.known in
    let k = Mark.goes_further t c.args.first c.bytes.count c.args.bytes.now lt small c.bytes.invariant.known c.target-next.result r (omega (arith, c.if-next-ge-STOP.false)) c.bytes.invariant.asked in
    let run = c.run_end-count.ensures (walk M c.args.first (take (c.bytes.count + 1) c.args.bytes.now)) k.0 k.1 in
    let end : ℕ = c.run_end-count.result in
    let within = run_within M c.args.first c.args.bytes.now (c.bytes.count + 1) end run end run.order (omega arith) in
    record {
      inside = run.inside;
      place_is = k.0 ∙ ap (λ n. 256 * n) (sym within);
      known = subst (λ s. s < table_states t) (sym within) k.1;
      asked = asked_run M c.args.first c.args.bytes.now (c.bytes.count + 1) end run k.2;
    }
