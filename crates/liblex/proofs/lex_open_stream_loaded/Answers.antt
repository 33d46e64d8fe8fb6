use Rattle.std.proofs.Common.{rules, ◌≡◌, Bool, subst, w32, to_z, of_z}
use Rattle.liblex_calls.specs.Numbers.{number_of}
use Rattle.liblex_calls.specs.Streams.{OpensStream}
use Rattle.liblex.proofs.lex_open_stream_loaded.Goals as goal

pub returns : goal.returns
returns c =
    let number : to_z w32 (of_z w32 c.number.result) ≡ number_of c.open_stream_loaded.result = search rules in (
      c.open_stream_loaded.result,
      number,
      λ file holds. subst (λ (b : Bool). OpensStream file b c.open_stream_loaded.new.stream c.open_stream_loaded.result) c.counts_lines.ensures (c.open_stream_loaded.ensures.opened file holds),
      c.open_stream_loaded.ensures.same,
      c.open_stream_loaded.ensures.unloaded,
    )
