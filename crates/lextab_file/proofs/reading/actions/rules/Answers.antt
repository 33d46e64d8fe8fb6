use Rattle.std.proofs.Common.{◌≡◌, ◌++◌, ◌∷◌, [], map}
use Rattle.lextab_packed.specs.Views.{table_rule_of}
use Rattle.lextab_file.specs.Seen.{following}
use Rattle.lextab_file.specs.Reading.{many, read_rule}
use Rattle.std.proofs.lemmas.Result.{err_from_is_err_and}
use Rattle.std.proofs.lemmas.List.{map_push}
use Rattle.lextab_file.proofs.Loops.{goes_on, ends, is_done}
use Rattle.lextab_file.proofs.reading.actions.rules.Goals as goal

pub returns-in_err-one : goal.returns-in_err-one
returns-in_err-one c =
    let p = err_from_is_err_and c.from_residual.result c.from_residual.ensures.1 in
    rw (p.1, p.2) (ends (λ i. read_rule c.args.conditions c.args.stack) following c.in_err-one.field-0.0 (map table_rule_of c.loop-i.read.items) c.args.count c.loop-i.i c.loop-i.i c.loop-i.rest.now (many (λ i. read_rule c.args.conditions c.args.stack) following c.args.count 0 c.args.bytes.now) c.loop-i-test.true c.in_err-one.ensures.gives c.loop-i.invariant)

pub loop-i-preserved : goal.loop-i-preserved
loop-i-preserved c =
    let e : map table_rule_of c.push.new.self.items ≡ map table_rule_of c.loop-i.read.items ++ table_rule_of c.in_ok-one.one ∷ [] = rw c.in_ok-push.ensures.items (map_push _ c.loop-i.read.items c.in_ok-one.one) in
    rw e (goes_on (λ i. read_rule c.args.conditions c.args.stack) following (map table_rule_of c.loop-i.read.items) c.args.count c.loop-i.i c.loop-i.i c.loop-i.rest.now (table_rule_of c.in_ok-one.one) c.in_ok-one.after.now (many (λ i. read_rule c.args.conditions c.args.stack) following c.args.count 0 c.args.bytes.now) c.loop-i-test.true c.in_ok-one.ensures.gives c.loop-i.invariant)

pub returns : goal.returns
returns c = is_done (λ i. read_rule c.args.conditions c.args.stack) following (map table_rule_of c.loop-i.read.items) c.args.count c.loop-i.i c.loop-i.i c.loop-i.rest.now (many (λ i. read_rule c.args.conditions c.args.stack) following c.args.count 0 c.args.bytes.now) c.loop-i-test.false c.loop-i.invariant
