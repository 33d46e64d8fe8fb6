use Rattle.std.proofs.Common.{◌≡◌, ◌<◌, length, Some, ap, ◌∙◌, arith}
use Rattle.std.proofs.lemmas.Result.{err_from_is_err_and}
use Rattle.lexre_bytes.specs.Lexical.{element_at}
use Rattle.lexre_bytes.proofs.PassingLaws.{rest_of, element_shorter, class_first, class_none, class_next, class_end, class_stuck, class_open}
use Rattle.lexre_bytes.proofs.EndLaws.{element_known}
use Rattle.lexre_bytes.proofs.UnreadLaws.{negation_left, open_told}
use Rattle.lexre_bytes.proofs.passing.skip_class.Goals as goal

pub returns-in_err-rest-clause-rest : goal.returns-in_err-rest-clause-rest
returns-in_err-rest-clause-rest c =
    let p = err_from_is_err_and c.from_residual.result c.from_residual.ensures.1 in
    rw p.1 (class_none c.args.text.now _ c.skip_negation-inside.ensures.rest (ap rest_of c.in_err-rest.ensures.found))

pub loop-first-init : goal.loop-first-init
loop-first-init c =
    let inside = c.skip_negation-inside.result.now in
    let rest = c.in_ok-rest.rest.now in
    let found : rest_of (element_at inside) ≡ Some rest = ap rest_of c.in_ok-rest.ensures.found in
    let shorter : length rest < length inside = element_shorter inside rest found in
    record {
      so = class_first c.args.text.now inside rest c.skip_negation-inside.ensures.rest c.skip_negation-inside.ensures.shorter found shorter;
      shorter = omega (arith, c.skip_negation-inside.ensures.shorter);
      known = element_known inside rest _ _ c.find_stop-stop.ensures c.in_ok-rest.ensures.found;
      left = negation_left c.args.text.now inside c.skip_negation-inside.ensures.rest ∙ c.in_ok-rest.ensures.left;
    }

pub returns-then-first-eq93-clause-rest : goal.returns-then-first-eq93-clause-rest
returns-then-first-eq93-clause-rest c = class_end _ _ _ _ c.loop-first.invariant.so c.in-Some.ensures.cases.0 c.if-first-eq93.true

pub returns-in_err-next-clause-rest : goal.returns-in_err-next-clause-rest
returns-in_err-next-clause-rest c =
    let p = err_from_is_err_and c.from_residual-in_err-next.result c.from_residual-in_err-next.ensures.1 in
    rw p.1 (class_stuck _ _ _ _ c.loop-first.invariant.so c.in-Some.ensures.cases.0 c.if-first-eq93.false (ap rest_of c.in_err-next.ensures.found))

pub loop-first-smaller : goal.loop-first-smaller
loop-first-smaller c = element_shorter c.loop-first.rest.now c.in_ok-next.next.now (ap rest_of c.in_ok-next.ensures.found)

pub loop-first-preserved : goal.loop-first-preserved
loop-first-preserved c =
    let rest = c.loop-first.rest.now in
    let next = c.in_ok-next.next.now in
    let found : rest_of (element_at rest) ≡ Some next = ap rest_of c.in_ok-next.ensures.found in
    let shorter : length next < length rest = element_shorter rest next found in
    record {
      so = class_next _ rest next _ _ c.loop-first.invariant.so c.in-Some.ensures.cases.0 c.if-first-eq93.false found shorter;
      shorter = omega arith;
      known = element_known rest next _ _ c.next_stop-stop.ensures c.in_ok-next.ensures.found;
      left = c.loop-first.invariant.left ∙ c.in_ok-next.ensures.left;
    }

pub returns-clause-rest : goal.returns-clause-rest
returns-clause-rest c = class_open _ _ c.loop-first.invariant.so c.in_default.ensures.cases

pub returns-in_err-rest-clause-told : goal.returns-in_err-rest-clause-told
returns-in_err-rest-clause-told c =
    let p = err_from_is_err_and c.from_residual.result c.from_residual.ensures.1 in
    rw (p.1, p.2, negation_left c.args.text.now _ c.skip_negation-inside.ensures.rest) c.in_err-rest.ensures.left

pub returns-in_err-next-clause-told : goal.returns-in_err-next-clause-told
returns-in_err-next-clause-told c =
    let p = err_from_is_err_and c.from_residual-in_err-next.result c.from_residual-in_err-next.ensures.1 in
    rw (p.1, p.2, c.loop-first.invariant.left) c.in_err-next.ensures.left

pub returns-clause-told : goal.returns-clause-told
returns-clause-told c = open_told _ _ _ c.loop-first.invariant.left c.in_default.ensures.cases
