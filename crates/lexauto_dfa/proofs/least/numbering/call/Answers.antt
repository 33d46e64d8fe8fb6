use Rattle.std.proofs.Common.{rules, ◌≡◌, ℕ, List, length, slice_index, arith, sym, refl, subst, set}
use Rattle.lexauto_dfa.specs.Numbers.{Numbering}
use Rattle.lexauto_dfa.proofs.Numbered.{one_number_more, few_numbers}
use Rattle.lexauto_dfa.proofs.least.numbering.call.Goals as goal

pub overflow_cast-len : goal.overflow_cast-len
overflow_cast-len c =
    let ns = c.args.numbers.now in
    let next : c.len.result ≡ length ns.members.items = search rules in
    omega (arith, next, few_numbers c.args.classes.now ns.of_class.items ns.members.items c.requires.numbers, c.requires.few)

pub returns-clause-numbers : goal.returns-clause-numbers
returns-clause-numbers c =
    let cs = c.args.classes.now in
    let ns = c.args.numbers.now in
    let x = c.args.state in
    let low = c.requires.classes x c.requires.state in
    let next : c.len.result ≡ length ns.members.items = search rules in
    subst (λ (ms : List ℕ). Numbering cs (set ns.of_class.items (slice_index cs x) c.len.result) ms) (sym c.in_ok-push.ensures.items)
    (one_number_more cs ns.of_class.items ns.members.items x (slice_index cs x) c.len.result c.requires.numbers c.requires.state refl low next c.requires.none)
