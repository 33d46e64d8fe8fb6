use Rattle.std.proofs.Common.{◌≡◌, ℕ, zero, suc, ◌<◌, Bool, true, false, List, [], ◌∷◌, length, map, get_or, sym, ap, subst, ◌∙◌, arith}
use Rattle.std.specs.Prelude.{slice_get}
use Rattle.lextab_packed.proofs.Finding.{start_at}
use Rattle.lextab_packed.specs.Views.{condition_of}
use Rattle.lextab_packed.specs.Machines.{table_states}
use Rattle.lextab_packed.specs.declared.parts.TableCondition.{TableCondition}
use Rattle.lextab_packed.proofs.machine.TablesMachine.start.Goals as goal

line_start_at : (cs : List TableCondition) (i : ℕ) (c : TableCondition) → i < length (map condition_of cs) → c ≡ get_or cs i c → c.line_start ≡ start_at (slice_get (map condition_of cs) i) true
line_start_at [] i c h e = absurd (omega (arith, h))
line_start_at (d ∷ cs) zero c h e = ap (λ (c : TableCondition). c.line_start) e
line_start_at (d ∷ cs) (suc i) c h e = line_start_at cs i c (omega (arith, h)) e

start_elsewhere : (cs : List TableCondition) (i : ℕ) (c : TableCondition) → i < length (map condition_of cs) → c ≡ get_or cs i c → c.start ≡ start_at (slice_get (map condition_of cs) i) false
start_elsewhere [] i c h e = absurd (omega (arith, h))
start_elsewhere (d ∷ cs) zero c h e = ap (λ (c : TableCondition). c.start) e
start_elsewhere (d ∷ cs) (suc i) c h e = start_elsewhere cs i c (omega (arith, h)) e

pub returns-then-line_start-clause-known : goal.returns-then-line_start-clause-known
returns-then-line_start-clause-known c =
    let t = c.args.self.now in
    subst (λ (s : ℕ). s < table_states t) (sym (line_start_at t.parts.conditions.items c.args.condition c.index-condition.result.now c.requires (rw c.from.ensures at c.index-condition.ensures))) (t.below.start c.args.condition true c.requires)

pub returns-else-line_start-clause-state : goal.returns-else-line_start-clause-state
returns-else-line_start-clause-state c =
    let t = c.args.self.now in
    start_elsewhere t.parts.conditions.items c.args.condition c.index-condition.result.now c.requires (rw c.from.ensures at c.index-condition.ensures)
    ∙ ap (λ (b : Bool). start_at (slice_get (map condition_of t.parts.conditions.items) c.args.condition) b) (sym c.if-line_start.false)

pub returns-else-line_start-clause-known : goal.returns-else-line_start-clause-known
returns-else-line_start-clause-known c =
    let t = c.args.self.now in
    subst (λ (s : ℕ). s < table_states t) (sym (start_elsewhere t.parts.conditions.items c.args.condition c.index-condition.result.now c.requires (rw c.from.ensures at c.index-condition.ensures))) (t.below.start c.args.condition false c.requires)
