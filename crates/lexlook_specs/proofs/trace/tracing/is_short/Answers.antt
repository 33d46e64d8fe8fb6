use Rattle.std.proofs.Common.{rules, ◌≡◌, ◌≤◌, ◌<◌, suc, length, map, drop, sym, ap, subst, [], ◌∙◌, arith}
use Rattle.std.specs.Prelude.{nat_le}
use Rattle.std.specs.List.{filter}
use Rattle.std.proofs.Math.ListN.{drop_of_length-le}
use Rattle.lex_machine.specs.Views.{statement_of}
use Rattle.lexspec.specs.RuleViews.{rule_of}
use Rattle.lexlook_specs.specs.Traced.{steers}
use Rattle.lexlook_specs.proofs.Sounding.{short_is}
use Rattle.lexlook_specs.proofs.trace.tracing.is_short.Goals as goal

pub returns : goal.returns
returns c =
    let items = c.args.rule.now.statements.items in
    let end : length items ≤ c.loop-statement.statement-index = subst (λ z. length z ≤ c.loop-statement.statement-index) c.deref-statement-items.ensures.value c.loop-statement-test.false in
    let none : drop c.loop-statement.statement-index items ≡ [] = drop_of_length-le items end in
    let left : length (filter steers (map statement_of (drop c.loop-statement.statement-index items))) ≡ 0 = ap (λ z. length (filter steers (map statement_of z))) none in
    let same : c.loop-statement.count ≡ suc (suc (suc (length (filter steers (map statement_of items))))) = omega (arith, left, c.loop-statement.invariant.same) in
    let fits : c.args.rule.now.line < 4294967296 = search rules in
    ap (λ n. nat_le n 256) same ∙ sym (short_is (rule_of c.args.rule.now) fits)
