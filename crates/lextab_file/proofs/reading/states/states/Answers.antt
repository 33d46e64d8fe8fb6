use Rattle.std.proofs.Common.{◌≡◌, ◌++◌, ◌∷◌, [], map, rules}
use Rattle.lextab_packed.specs.Views.{row_of}
use Rattle.lextab_file.specs.Views.{sizes_in}
use Rattle.lextab_file.specs.Seen.{following}
use Rattle.lextab_file.specs.Reading.{many, read_row}
use Rattle.std.proofs.lemmas.Result.{err_from_is_err_and}
use Rattle.std.proofs.lemmas.List.{map_push}
use Rattle.lextab_file.proofs.Loops.{goes_on, ends, is_done}
use Rattle.lextab_file.proofs.reading.states.states.Goals as goal

pub returns-in_err-one-clause-gives : goal.returns-in_err-one-clause-gives
returns-in_err-one-clause-gives c =
    let p = err_from_is_err_and c.from_residual-in_err-one.result c.from_residual-in_err-one.ensures.1 in
    rw (p.1, p.2) (ends (read_row (sizes_in c.args.counts) c.args.rejects) following c.in_err-one.field-0.0 (map row_of c.loop-i.read.items) c.args.counts.states c.loop-i.i c.loop-i.i c.loop-i.rest.now (many (read_row (sizes_in c.args.counts) c.args.rejects) following c.args.counts.states 0 c.args.bytes.now) c.loop-i-test.true c.in_err-one.ensures.gives c.loop-i.invariant.read)

pub loop-i-preserved : goal.loop-i-preserved
loop-i-preserved c =
    let e : map row_of c.push.new.self.items ≡ map row_of c.loop-i.read.items ++ row_of c.in_ok-one.one ∷ [] = rw c.in_ok-push.ensures.items (map_push _ c.loop-i.read.items c.in_ok-one.one) in
    record { length = let l = c.in_ok-push.ensures.len in let k = c.loop-i.invariant.length in search rules; read = rw e (goes_on (read_row (sizes_in c.args.counts) c.args.rejects) following (map row_of c.loop-i.read.items) c.args.counts.states c.loop-i.i c.loop-i.i c.loop-i.rest.now (row_of c.in_ok-one.one) c.in_ok-one.after.now (many (read_row (sizes_in c.args.counts) c.args.rejects) following c.args.counts.states 0 c.args.bytes.now) c.loop-i-test.true c.in_ok-one.ensures.gives c.loop-i.invariant.read) }

pub returns-clause-gives : goal.returns-clause-gives
returns-clause-gives c = is_done (read_row (sizes_in c.args.counts) c.args.rejects) following (map row_of c.loop-i.read.items) c.args.counts.states c.loop-i.i c.loop-i.i c.loop-i.rest.now (many (read_row (sizes_in c.args.counts) c.args.rejects) following c.args.counts.states 0 c.args.bytes.now) c.loop-i-test.false c.loop-i.invariant.read
