use Rattle.lexspec.specs.Views.{spec_of}
use Rattle.lexlook_calls.proofs.Drawn.{drawn_in_part}
use Rattle.lexlook_calls.proofs.picture.draw.Goals as goal

pub returns-in-Err-clause-told : goal.returns-in-Err-clause-told
returns-in-Err-clause-told g c =
    rw c.from.ensures (drawn_in_part g.K.Sink.wrote c.args.options c.args.text.now c.args.sink.now c.draw_automaton.new.sink (spec_of c.in_ok-spec.spec) c.in_ok-spec.ensures.spells c.in_ok-least.least.automaton (c.in_ok-least.least.subsets, c.in_ok-least.ensures.made) c.in-Err.error c.in-Err.ensures.bytes)
