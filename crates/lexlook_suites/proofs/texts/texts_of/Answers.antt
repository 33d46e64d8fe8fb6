use Rattle.std.proofs.Common.{refl, take}
use Rattle.std.proofs.lemmas.List.{take_more}
use Rattle.lexlook_suites.proofs.Members.{texts_more}
use Rattle.lexlook_suites.proofs.Over.{among_at}
use Rattle.lexlook_suites.proofs.texts.texts_of.Goals as goal

pub text_over-requires-clause-edge : goal.text_over-requires-clause-edge
text_over-requires-clause-edge c = c.requires.edges _ (among_at c.args.edges.now c.loop-edge.edge-index _ c.loop-edge-test.true)

pub loop-edge-preserved : goal.loop-edge-preserved
loop-edge-preserved c =
    let edges = c.args.edges.now in
    let i = c.loop-edge.edge-index in
    texts_more c.args.dfa.now.parts (take i edges) _ c.loop-edge.texts.items _ _ _ c.loop-edge.invariant refl (take_more edges i _ c.loop-edge-test.true) c.in_ok-push.ensures.items c.in_ok-text.ensures
