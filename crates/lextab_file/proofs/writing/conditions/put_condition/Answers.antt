use Rattle.std.proofs.Common.{refl, ◌++◌}
use Rattle.std.specs.Int.{w32, to_be_bytes}
use Rattle.std.proofs.lemmas.Result.{err_from_is_err_and}
use Rattle.lex_machine.specs.Views.{end_action_of}
use Rattle.lextab_file.specs.File.{end_text}
use Rattle.lextab_file.proofs.Written.{begun_first, begun_then, appended_then}
use Rattle.lextab_file.proofs.writing.conditions.put_condition.Goals as goal

pub returns-in_err-put_long-clause-bytes : goal.returns-in_err-put_long-clause-bytes
returns-in_err-put_long-clause-bytes g c =
    let p = err_from_is_err_and c.from_residual.result c.from_residual.ensures.1 in
    rw p.1 (begun_first (λ xs. g.K.Sink.wrote c.args.sink.now xs c.put_long.new.sink) _ (to_be_bytes w32 c.args.condition.now.start) (to_be_bytes w32 c.args.condition.now.line_start ++ (end_text (end_action_of c.args.condition.now.end))) refl c.in_err-put_long.ensures.bytes)

pub returns-in_err-put_long-2-clause-bytes : goal.returns-in_err-put_long-2-clause-bytes
returns-in_err-put_long-2-clause-bytes g c =
    let p = err_from_is_err_and c.from_residual-in_err-put_long-2.result c.from_residual-in_err-put_long-2.ensures.1 in
    rw p.1 (begun_then g.K.Sink.wrote g.met.K.Sink.wrote_more c.args.sink.now c.put_long.new.sink _ (to_be_bytes w32 c.args.condition.now.start) (to_be_bytes w32 c.args.condition.now.line_start ++ (end_text (end_action_of c.args.condition.now.end))) c.in_ok-put_long.ensures.bytes (begun_first (λ xs. g.K.Sink.wrote c.put_long.new.sink xs c.put_long-2.new.sink) _ (to_be_bytes w32 c.args.condition.now.line_start) (end_text (end_action_of c.args.condition.now.end)) refl c.in_err-put_long-2.ensures.bytes))

pub returns-clause-bytes : goal.returns-clause-bytes
returns-clause-bytes g c = (appended_then g.K.Sink.wrote g.met.K.Sink.wrote_more c.args.sink.now c.put_long.new.sink _ _ (to_be_bytes w32 c.args.condition.now.start) _ (to_be_bytes w32 c.args.condition.now.line_start ++ (end_text (end_action_of c.args.condition.now.end))) _ refl refl c.in_ok-put_long.ensures.bytes (appended_then g.K.Sink.wrote g.met.K.Sink.wrote_more c.put_long.new.sink c.put_long-2.new.sink _ _ (to_be_bytes w32 c.args.condition.now.line_start) _ (end_text (end_action_of c.args.condition.now.end)) _ refl refl c.in_ok-put_long-2.ensures.bytes c.put_end.ensures.bytes))
