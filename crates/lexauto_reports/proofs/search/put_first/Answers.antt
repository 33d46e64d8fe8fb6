use Rattle.std.proofs.Common.{rules, ◌<◌, Some, length, get_or, arith, ◌∙◌}
use Rattle.std.proofs.lemmas.List.{length-set}
use Rattle.lexauto_dfa.proofs.Accepting.{among_get}
use Rattle.lexauto_reports.proofs.Starting.{put_more, put_only}
use Rattle.lexauto_reports.proofs.search.put_first.Goals as goal

pub index_mut-requires : goal.index_mut-requires
index_mut-requires c =
    let low : c.loop-state.state-index < length c.args.states.now = search rules in
    let known = c.requires.known (get_or c.args.states.now c.loop-state.state-index 0) (among_get c.args.states.now c.loop-state.state-index low) in
    let len = c.loop-state.invariant.len in
    let size = c.loop-state.places.ok.0 in
    omega (arith, known, len, size)

pub loop-state-preserved : goal.loop-state-preserved
loop-state-preserved c =
    let i = c.loop-state.state-index in
    let states = c.args.states.now in
    let low : i < length states = search rules in
    let known = c.requires.known (get_or states i 0) (among_get states i low) in
    let len = c.loop-state.invariant.len in
    let room : get_or states i 0 < length c.loop-state.places.items = omega (arith, known, len) in
    record {
      len = length-set c.loop-state.places.items (get_or states i 0) (Some 0) ∙ len;
      first = put_more c.args.places.now.items c.loop-state.places.items states i low room c.loop-state.invariant.first;
      only = put_only c.args.places.now.items c.loop-state.places.items states i low room c.loop-state.invariant.only;
    }
