use Rattle.std.proofs.Common.{◌≡◌, ◌<◌, ◌↔◌, Bool, false, List, length, arith, subst, ap}
use Rattle.lex_semantics.specs.Text.{Among, flag}
use Rattle.lexauto_dfa.proofs.Accepting.{unaccepted_by_flag}
use Rattle.lexauto_dfa.proofs.accepted.unaccepted_rules.Goals as goal

pub unset-requires : goal.unset-requires
unset-requires c =
    let len = c.in_ok-accepted.ensures.len in
    let value = ap length c.deref.ensures.value in
    let few = c.requires.few in
    record { few = omega (arith, few, len, value) }

pub returns-clause-unaccepted : goal.returns-clause-unaccepted
returns-clause-unaccepted c = λ i.
    let by_flag = unaccepted_by_flag c.args.dfa.now c.args.rules c.in_ok-accepted.accepted.items c.in_ok-accepted.ensures.len c.in_ok-accepted.ensures.flags i in
    let unset = subst (λ (l : List Bool). Among c.in_ok-unaccepted.unaccepted.items i ↔ ((i < length l) × (flag l i ≡ false))) c.deref.ensures.value (c.in_ok-unaccepted.ensures.unset i) in
    (λ a. by_flag.0 (unset.0 a), λ u. unset.1 (by_flag.1 u))
