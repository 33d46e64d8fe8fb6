use Rattle.std.proofs.Common.{◌≡◌, ℕ, ◌≤◌, Bool, true, false, refl, arith}
use Rattle.lex_semantics.specs.Text.{flag}
use Rattle.lextab_packed.specs.Flats.{as_target, kind_of}
use Rattle.lextab_packed.specs.Machines.{table_machine}
use Rattle.lextab_packed.specs.declared.kinds.Kind.{Kind}
use Rattle.lextab_packed.specs.Steps.{step_of}
use Rattle.lextab_packed.specs.Views.{table_of}
use Rattle.lextab_packed.proofs.Marks.{few_states}
use Rattle.lextab_packed.proofs.flat.FlatMachine.step.Goals as goal

unmarked : (f : Bool) (k : Kind) (t r x : ℕ) → x ≡ as_target f k t → t ≤ 8192 → ((k : Kind) (s : ℕ) → s ≤ 8192 → x ≡ as_target true k s → r ≡ s) → ((k : Kind) (s : ℕ) → s ≤ 8192 → x ≡ as_target false k s → r ≡ s) → r ≡ t
unmarked true k t r x e low goes stops = goes k t low e
unmarked false k t r x e low goes stops = stops k t low e

pub returns-clause-state : goal.returns-clause-state
returns-clause-state c =
    let t = c.args.self.now.tables in
    let next : ℕ = step_of (table_of t.parts) c.args.state c.args.byte in
    let below = t.below.next c.args.state c.args.byte c.requires (omega arith) in
    unmarked (flag c.args.self.now.tables.goes_on.items next) (kind_of (table_machine t) next) next c.state_of.result c.target.result (c.target.ensures c.args.state refl c.requires) (omega (arith, below, few_states t)) c.state_of.ensures.goes c.state_of.ensures.stops

pub returns-clause-known : goal.returns-clause-known
returns-clause-known c =
    let t = c.args.self.now.tables in
    let below = t.below.next c.args.state c.args.byte c.requires (omega arith) in
    omega (arith, returns-clause-state c, below)
