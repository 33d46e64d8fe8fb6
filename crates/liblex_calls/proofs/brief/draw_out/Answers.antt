use Rattle.std.proofs.Common.{rules, ◌<◌, length, arith, ◌∙◌}
use Rattle.liblex_calls.specs.Brief.{long_tokens}
use Rattle.liblex_calls.proofs.Drawn.{drawn_length, next_fits, next_end, next_put, front_put, either_way}
use Rattle.liblex_calls.proofs.brief.draw_out.Goals as goal

pub long_token-token-requires : goal.long_token-token-requires
long_token-token-requires c =
    let low : c.loop-i.i < length c.args.tokens.now = first_of (search rules, grind arith) in
    next_fits c.args.tokens.now 0 c.loop-i.i c.loop-i.start _ low c.loop-i.invariant.start c.requires

pub loop-i-preserved : goal.loop-i-preserved
loop-i-preserved c =
    let low : c.loop-i.i < length c.args.tokens.now = first_of (search rules, grind arith) in
    let high : c.loop-i.i < length c.args.buffer.now = first_of (search rules, grind arith) in
    record {
      start = next_end c.args.tokens.now 0 c.loop-i.i c.loop-i.start _ low c.loop-i.invariant.start c.long_token-token.result c.long_token-token.ensures;
      buffer = next_put c.args.tokens.now 0 c.loop-i.i c.loop-i.start _ low c.loop-i.invariant.start c.args.buffer.now c.loop-i.buffer c.long_token-token.result c.long_token-token.ensures high c.loop-i.invariant.buffer;
    }

pub returns : goal.returns
returns c =
    let ts = c.args.tokens.now in
    let old = c.args.buffer.now in
    c.loop-i.invariant.buffer ∙ front_put (long_tokens 0 ts) old (length ts) c.loop-i.i (drawn_length 0 ts) (first_of (search rules, grind arith)) (either_way (length ts) (length old))
