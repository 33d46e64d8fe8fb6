use Rattle.std.proofs.Common.{rules, ◌≡◌, sym, ap, ◌∙◌}
use Rattle.std.specs.Prelude.{slice_index_or}
use Rattle.lex_semantics.specs.ByteSets.{has, union, empty_set}
use Rattle.lexauto.proofs.ChangeLaws.{has_nothing, in_neither}
use Rattle.lexauto.proofs.stepping.RuleMoves.with_changes.Goals as goal

pub returns-in-Some : goal.returns-in-Some
returns-in-Some c = λ b byte not.
    let own = slice_index_or c.args.self.now.changes.items c.args.place empty_set in
    let is : c.union.result ≡ union c.args.changes own = search rules in
    in_neither c.args.changes own b byte (ap (λ s. has s b) (sym is) ∙ not)

pub returns-in-None : goal.returns-in-None
returns-in-None c = λ b byte not.
    let own = slice_index_or c.args.self.now.changes.items c.args.place empty_set in
    let none : own ≡ empty_set = search rules in
    (not, ap (λ s. has s b) none ∙ has_nothing b byte)
