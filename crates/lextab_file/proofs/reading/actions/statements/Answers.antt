use Rattle.std.proofs.Common.{◌≡◌, ◌++◌, ◌∷◌, [], map, rules}
use Rattle.lex_machine.specs.Views.{statement_of}
use Rattle.lextab_file.specs.Views.{seen_of}
use Rattle.lextab_file.specs.Seen.{seen_after, unseen}
use Rattle.lextab_file.specs.Reading.{many, read_statement}
use Rattle.std.proofs.lemmas.Result.{err_from_is_err_and}
use Rattle.std.proofs.lemmas.List.{map_push}
use Rattle.lextab_file.proofs.Loops.{goes_on, ends, is_done}
use Rattle.lextab_file.proofs.reading.actions.statements.Goals as goal

pub returns-in_err-one : goal.returns-in_err-one
returns-in_err-one c =
    let p = err_from_is_err_and c.from_residual.result c.from_residual.ensures.1 in
    rw (p.1, p.2) (ends (read_statement c.args.conditions) seen_after c.in_err-one.field-0.0 (map statement_of c.loop-i.read.items) c.args.count c.loop-i.i (seen_of c.loop-i.before) c.loop-i.rest.now (many (read_statement c.args.conditions) seen_after c.args.count (unseen c.args.stack c.args.count) c.args.bytes.now) c.loop-i-test.true c.in_err-one.ensures.gives c.loop-i.invariant.read)

pub loop-i-preserved : goal.loop-i-preserved
loop-i-preserved c =
    let e : map statement_of c.push.new.self.items ≡ map statement_of c.loop-i.read.items ++ statement_of c.in_ok-one.one ∷ [] = rw c.in_ok-push.ensures.items (map_push _ c.loop-i.read.items c.in_ok-one.one) in
    record { low = search rules; left = search rules; read = rw (e, c.and-before.ensures) (goes_on (read_statement c.args.conditions) seen_after (map statement_of c.loop-i.read.items) c.args.count c.loop-i.i (seen_of c.loop-i.before) c.loop-i.rest.now (statement_of c.in_ok-one.one) c.in_ok-one.after.now (many (read_statement c.args.conditions) seen_after c.args.count (unseen c.args.stack c.args.count) c.args.bytes.now) c.loop-i-test.true c.in_ok-one.ensures.gives c.loop-i.invariant.read) }

pub returns : goal.returns
returns c = is_done (read_statement c.args.conditions) seen_after (map statement_of c.loop-i.read.items) c.args.count c.loop-i.i (seen_of c.loop-i.before) c.loop-i.rest.now (many (read_statement c.args.conditions) seen_after c.args.count (unseen c.args.stack c.args.count) c.args.bytes.now) c.loop-i-test.false c.loop-i.invariant.read
