use Rattle.std.proofs.Common.{◌^◌, ◌<◌, sym, subst, arith}
use Rattle.lexscan.specs.Series.{end_of}
use Rattle.std.proofs.lemmas.List.{length-map}
use Rattle.liblex_calls.specs.Listing.{text_token}
use Rattle.liblex_calls.proofs.Gathered.{handed_kept}
use Rattle.liblex_calls.proofs.gathering.KeptTokens.hand_tokens.Goals as goal

pub draw_out-requires : goal.draw_out-requires
draw_out-requires c = subst (λ l. end_of 0 l < 2 ^ 64) (sym c.deref.ensures.value) c.args.self.now.small

pub returns-then-self-buffer-clause-handed : goal.returns-then-self-buffer-clause-handed
returns-then-self-buffer-clause-handed c tokens h =
    handed_kept tokens c.args.self.now c.args.buffer.now c.draw_out.new.buffer c.put_behind.new.buffer c.deref.result.now c.deref-2.result.now c.len.result h c.requires c.deref.ensures.value c.deref-2.ensures.value (omega arith) c.draw_out.ensures c.put_behind.ensures.front c.put_behind.ensures.tokens c.put_behind.ensures.rest

pub returns-else-self-buffer-clause-handed : goal.returns-else-self-buffer-clause-handed
returns-else-self-buffer-clause-handed c tokens h =
    handed_kept tokens c.args.self.now c.args.buffer.now c.draw_out.new.buffer c.put_behind.new.buffer c.deref.result.now c.deref-2.result.now c.len.result h c.requires c.deref.ensures.value c.deref-2.ensures.value (omega arith) c.draw_out.ensures c.put_behind.ensures.front c.put_behind.ensures.tokens c.put_behind.ensures.rest

pub returns-then-self-buffer-clause-fits : goal.returns-then-self-buffer-clause-fits
returns-then-self-buffer-clause-fits c tokens h = omega (arith, length-map tokens text_token, h.count_is)

pub returns-else-self-buffer-clause-fits : goal.returns-else-self-buffer-clause-fits
returns-else-self-buffer-clause-fits c tokens h = omega (arith, length-map tokens text_token, h.count_is)
