use Rattle.std.proofs.Common.{◌∙◌, ◌+◌, ◌*◌, false, sym, arith}
use Rattle.std.proofs.lemmas.List.{get_or_read}
use Rattle.lexauto_dfa.specs.Automata.{next_of}
use Rattle.lexlook_suites.specs.Edges.{marked_by}
use Rattle.lexlook_suites.proofs.Edged.{goes_found, goes_none}
use Rattle.lexlook_suites.proofs.edges.is_walked.Goals as goal

pub returns-then-next-target : goal.returns-then-next-target
returns-then-next-target c =
    let m = c.args.marks.now in
    let low = c.loop-byte-test.true in
    let known = c.requires.known in
    let size = c.requires.size.bytes in
    sym (goes_found (marked_by m c.args.state) (next_of c.args.dfa.now c.args.state) c.args.target c.loop-byte.byte low
    (sym (get_or_read m.bytes.items (256 * c.args.state + c.loop-byte.byte) _ (omega (arith, low, known, size)) c.index-marked.ensures false) ∙ c.if-marked.true)
    (sym c.next.ensures.state ∙ c.if-next-target.true))

pub returns : goal.returns
returns c =
    let end = c.loop-byte-test.false in
    let most = c.loop-byte.auto.byte-end in
    sym (goes_none (marked_by c.args.marks.now c.args.state) (next_of c.args.dfa.now c.args.state) c.args.target c.loop-byte.byte (omega (arith, end, most)) c.loop-byte.invariant)
