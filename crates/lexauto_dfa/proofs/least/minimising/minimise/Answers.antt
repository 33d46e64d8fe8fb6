use Rattle.std.proofs.Common.{ℕ, List, sym, subst}
use Rattle.lexauto_dfa.specs.Invariant.{IsAutomaton}
use Rattle.lexauto_dfa.specs.declared.dfa.Parts.{Parts}
use Rattle.lexauto_dfa.specs.Numbers.{AreMade}
use Rattle.lexauto_dfa.specs.Least.{by_turns}
use Rattle.lexauto_dfa.proofs.Assembled.{IsLeastOf, fits, is_least_of}
use Rattle.lexauto_dfa.proofs.least.minimising.minimise.Goals as goal

pub parts_of-requires-clause-fits : goal.parts_of-requires-clause-fits
parts_of-requires-clause-fits c =
    let p = c.parts-parts.result.now in
    let a = subst (λ (r : Parts). IsAutomaton r) (sym c.parts-parts.ensures) c.args.dfa.now.lawful in
    let t = c.in_ok-table.table in
    let made = subst (λ (cs : List ℕ). AreMade cs (by_turns p.starts.items p.line_starts.items) p.next.items t.members.items t.starts.items t.table.items) c.deref-3.ensures.value c.in_ok-table.ensures in
    fits p a c.in_ok-classes.classes.items c.in_ok-classes.ensures.classes t made

pub new-requires : goal.new-requires
new-requires c =
    let p = c.parts-parts.result.now in
    let a = subst (λ (r : Parts). IsAutomaton r) (sym c.parts-parts.ensures) c.args.dfa.now.lawful in
    let t = c.in_ok-table.table in
    let made = subst (λ (cs : List ℕ). AreMade cs (by_turns p.starts.items p.line_starts.items) p.next.items t.members.items t.starts.items t.table.items) c.deref-3.ensures.value c.in_ok-table.ensures in
    let of : IsLeastOf p c.in_ok-least.least = is_least_of p a c.in_ok-classes.classes.items c.in_ok-classes.ensures.classes t made c.in_ok-least.least c.in_ok-least.ensures in
    of.automaton

pub returns : goal.returns
returns c =
    let p = c.parts-parts.result.now in
    let a = subst (λ (r : Parts). IsAutomaton r) (sym c.parts-parts.ensures) c.args.dfa.now.lawful in
    let t = c.in_ok-table.table in
    let made = subst (λ (cs : List ℕ). AreMade cs (by_turns p.starts.items p.line_starts.items) p.next.items t.members.items t.starts.items t.table.items) c.deref-3.ensures.value c.in_ok-table.ensures in
    let of : IsLeastOf p c.in_ok-least.least = is_least_of p a c.in_ok-classes.classes.items c.in_ok-classes.ensures.classes t made c.in_ok-least.least c.in_ok-least.ensures in
    let from : IsLeastOf c.args.dfa.now.parts c.in_ok-least.least = subst (λ (r : Parts). IsLeastOf r c.in_ok-least.least) c.parts-parts.ensures of in
    let all : IsLeastOf c.args.dfa.now.parts c.new.result.parts = subst (λ (r : Parts). IsLeastOf c.args.dfa.now.parts r) (sym c.new.ensures) from in
    record {
      conditions = sym all.conditions_are;
      accepts = all.accepts_alike;
      goes_on = all.goes_on_alike;
      least = all.least;
      numbered = all.numbered;
      laws = all.laws;
      table = all.table;
    }
