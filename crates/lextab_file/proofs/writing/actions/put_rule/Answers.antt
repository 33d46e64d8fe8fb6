use Rattle.std.proofs.Common.{ℕ, List, refl, ap, subst, ◌++◌, length, rules}
use Rattle.std.specs.Int.{w32, to_be_bytes}
use Rattle.std.specs.List.{flat_map}
use Rattle.std.proofs.lemmas.Result.{err_from_is_err_and}
use Rattle.lex_machine.specs.Views.{cut_of, statement_of}
use Rattle.lextab_file.specs.File.{cut_text, statement_text}
use Rattle.lex_io.specs.Sink.{Appended}
use Rattle.lextab_file.proofs.Written.{Begun, begun_first, begun_then, appended_then}
use Rattle.lextab_file.proofs.Texts.{rule_same}
use Rattle.lextab_file.proofs.writing.actions.put_rule.Goals as goal

pub returns-in_err-put_cut-clause-bytes : goal.returns-in_err-put_cut-clause-bytes
returns-in_err-put_cut-clause-bytes g c =
    let p = err_from_is_err_and c.from_residual.result c.from_residual.ensures.1 in
    rw p.1 (subst (λ (z : List ℕ). Begun (λ xs. g.K.Sink.wrote c.args.sink.now xs c.put_cut.new.sink) z) (rule_same c.args.rule.now) (begun_first (λ xs. g.K.Sink.wrote c.args.sink.now xs c.put_cut.new.sink) _ (cut_text (cut_of c.args.rule.now.cut)) (to_be_bytes w32 (length c.args.rule.now.statements.items) ++ (flat_map (λ s. statement_text (statement_of s)) c.args.rule.now.statements.items)) refl c.in_err-put_cut.ensures.bytes))

pub returns-in_err-put_long-clause-bytes : goal.returns-in_err-put_long-clause-bytes
returns-in_err-put_long-clause-bytes g c =
    let p = err_from_is_err_and c.from_residual-in_err-put_long.result c.from_residual-in_err-put_long.ensures.1 in
    rw p.1 (subst (λ (z : List ℕ). Begun (λ xs. g.K.Sink.wrote c.args.sink.now xs c.put_long.new.sink) z) (rule_same c.args.rule.now) (begun_then g.K.Sink.wrote g.met.K.Sink.wrote_more c.args.sink.now c.put_cut.new.sink _ (cut_text (cut_of c.args.rule.now.cut)) (to_be_bytes w32 (length c.args.rule.now.statements.items) ++ (flat_map (λ s. statement_text (statement_of s)) c.args.rule.now.statements.items)) c.in_ok-put_cut.ensures.bytes (begun_first (λ xs. g.K.Sink.wrote c.put_cut.new.sink xs c.put_long.new.sink) _ (to_be_bytes w32 (length c.args.rule.now.statements.items)) (flat_map (λ s. statement_text (statement_of s)) c.args.rule.now.statements.items) (search rules) c.in_err-put_long.ensures.bytes)))

pub returns-clause-bytes : goal.returns-clause-bytes
returns-clause-bytes g c = subst (λ (z : List ℕ). Appended (λ xs. g.K.Sink.wrote c.args.sink.now xs c.put_statements.new.sink) z c.put_statements.result) (rule_same c.args.rule.now) (appended_then g.K.Sink.wrote g.met.K.Sink.wrote_more c.args.sink.now c.put_cut.new.sink _ _ (cut_text (cut_of c.args.rule.now.cut)) _ (to_be_bytes w32 (length c.args.rule.now.statements.items) ++ (flat_map (λ s. statement_text (statement_of s)) c.args.rule.now.statements.items)) _ refl refl c.in_ok-put_cut.ensures.bytes (appended_then g.K.Sink.wrote g.met.K.Sink.wrote_more c.put_cut.new.sink c.put_long.new.sink _ _ (to_be_bytes w32 (length c.args.rule.now.statements.items)) _ (flat_map (λ s. statement_text (statement_of s)) c.args.rule.now.statements.items) _ (search rules) (ap (flat_map (λ s. statement_text (statement_of s))) c.deref.ensures.value) c.in_ok-put_long.ensures.bytes c.put_statements.ensures.bytes))
