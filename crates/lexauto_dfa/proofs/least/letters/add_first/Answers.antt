use Rattle.std.proofs.Common.{◌≡◌, ℕ, ◌+◌, List, length, slice_index, ap, sym, subst, ◌∙◌}
use Rattle.lexauto_dfa.specs.declared.least.sources.Letter.{Letter}
use Rattle.lexauto_dfa.specs.Columns.{HaveLetters}
use Rattle.lexauto_dfa.proofs.FirstBytes.{pushed}
use Rattle.lexauto_dfa.proofs.least.letters.add_first.Goals as goal

pub returns : goal.returns
returns c =
    let row = c.in_ok-row.ensures in
    let letter = c.in_ok-chain.field-0 in
    let same : letter.row.items ≡ c.in_ok-row.row.items = c.in_ok-chain.ensures in
    subst (λ (letters : List Letter). HaveLetters c.args.next.now c.args.firsts.now c.args.states letters (c.args.byte + 1)) (sym c.in_ok-push.ensures.items)
    (pushed c.args.next.now c.args.firsts.now c.args.states c.args.letters.now.items c.args.byte c.requires.letters letter c.requires.byte
    (ap (λ (xs : List ℕ). length xs) same ∙ row.len) (λ x h. ap (λ (xs : List ℕ). slice_index xs x) same ∙ row.each x h))
