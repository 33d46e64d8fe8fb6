use Rattle.std.proofs.Common.{◌++◌, take, refl}
use Rattle.std.proofs.KnownBytes.{Appends-trans}
use Rattle.lex_io.proofs.Rests.{moved}
use Rattle.lex_io.proofs.sink.write_whole.Goals as goal

pub loop-rest-preserved : goal.loop-rest-preserved
loop-rest-preserved g c =
    let so_far = c.loop-rest.invariant in (
      so_far.0 ++ take c.in-Ok.count c.loop-rest.rest.now,
      moved _ so_far.0 c.loop-rest.rest.now c.in-Ok.count _ so_far.1 refl,
      Appends-trans _ _ _ _ _ so_far.2 c.in-Ok.ensures.bytes,
    )
