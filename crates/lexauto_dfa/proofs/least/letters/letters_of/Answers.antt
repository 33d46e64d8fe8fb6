use Rattle.std.proofs.Common.{rules, ◌≡◌, ℕ, subst}
use Rattle.lexauto_dfa.specs.Columns.{HaveLetters}
use Rattle.lexauto_dfa.proofs.FirstBytes.{every_byte}
use Rattle.lexauto_dfa.proofs.least.letters.letters_of.Goals as goal

pub returns : goal.returns
returns c =
    let firsts = c.in_ok-firsts.firsts.items in
    let letters = c.loop-byte.letters.items in
    let end : c.loop-byte.byte ≡ 256 = search rules in
    every_byte c.args.next.now firsts c.args.states letters c.in_ok-firsts.ensures.leads
    (subst (λ (m : ℕ). HaveLetters c.args.next.now firsts c.args.states letters m) end c.loop-byte.invariant)
