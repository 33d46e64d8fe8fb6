use Rattle.std.proofs.Common.{rules, ◌≡◌, ℕ, List, length, slice_index, arith, sym, subst}
use Rattle.lexauto_dfa.specs.Columns.{AreBytes}
use Rattle.lexauto_dfa.specs.Letters.{AreLetters}
use Rattle.lexauto_dfa.specs.declared.least.sources.Letter.{Letter}
use Rattle.lexauto_dfa.proofs.Bytes.{by_bytes}
use Rattle.lexauto_dfa.proofs.FirstBytes.{are_letters}
use Rattle.lexauto_dfa.proofs.Rounds.{closed}
use Rattle.lexauto_dfa.proofs.Dividing.{few_blocks}
use Rattle.lexauto_dfa.proofs.least.futures.classes.Goals as goal

pub refine-requires-clause-rows : goal.refine-requires-clause-rows
refine-requires-clause-rows c =
    let labels = c.args.labels.items in
    let n : c.len.result ≡ length labels = search rules in
    subst (λ (i : ℕ). AreLetters c.deref.result.now i) n
    (subst (λ (letters : List Letter). AreLetters letters c.len.result) (sym c.deref.ensures.value)
    (are_letters c.args.next.now c.len.result c.in_ok-letters.letters.items c.in_ok-letters.ensures))

pub returns-clause-row : goal.returns-clause-row
returns-clause-row c =
    let b = c.in_ok-blocks.blocks in
    let a = c.in_ok-blocks.ensures.arranged in
    let f = few_blocks b.order.items b.place.items b.block.items b.first.items b.middle.items b.end.items a in
    λ x h. let l = a.numbered x h in omega (arith, l, f)

pub returns-clause-coarsest : goal.returns-clause-coarsest
returns-clause-coarsest c =
    let labels = c.args.labels.items in
    let table = c.args.next.now in
    let n : c.len.result ≡ length labels = search rules in
    let letters = c.deref.result.now in
    let are : AreBytes table (length labels) letters = subst (λ (i : ℕ). AreBytes table i letters) n
    (subst (λ (ls : List Letter). AreBytes table c.len.result ls) (sym c.deref.ensures.value) c.in_ok-letters.ensures) in
    by_bytes letters table labels (λ x. slice_index c.in_ok-blocks.blocks.block.items x) are c.requires.len c.requires.known
    (closed letters labels (are_letters table (length labels) letters are)) c.in_ok-blocks.ensures.coarsest
