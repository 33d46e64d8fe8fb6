use Rattle.std.proofs.Common.{rules, ◌≡◌, [], ◌∷◌, ◌++◌, ap, ◌∙◌, arith}
use Rattle.std.proofs.lemmas.List.{take_all}
use Rattle.liblex_calls.specs.Brief.{long_tokens}
use Rattle.liblex_calls.proofs.Drawn.{next_fits, next_end, next_listed, few_listed}
use Rattle.liblex_calls.proofs.brief.append_long.Goals as goal

pub long_token-long-requires : goal.long_token-long-requires
long_token-long-requires c = next_fits c.args.tokens.now c.args.start c.loop-i.i c.loop-i.next _ c.loop-i-test.true c.loop-i.invariant.next c.requires

pub returns-in_err-push-clause-few : goal.returns-in_err-push-clause-few
returns-in_err-push-clause-few c =
    let same : c.push.new.self.items ≡ c.loop-i.list.items = search rules in
    few_listed c.args.list.now.items c.push.new.self.items c.args.start c.loop-i.i c.args.tokens.now (same ∙ c.loop-i.invariant.list)

pub loop-i-preserved : goal.loop-i-preserved
loop-i-preserved c =
    let ts = c.args.tokens.now in
    let i = c.loop-i.i in
    let t = c.long_token-long.result in
    let pushed : c.push.new.self.items ≡ c.loop-i.list.items ++ t ∷ [] = search rules in
    record {
      next = next_end ts c.args.start i c.loop-i.next _ c.loop-i-test.true c.loop-i.invariant.next t c.long_token-long.ensures;
      list = pushed ∙ next_listed ts c.args.start i c.loop-i.next _ c.loop-i-test.true c.loop-i.invariant.next c.args.list.now.items c.loop-i.list.items t c.long_token-long.ensures c.loop-i.invariant.list;
    }

pub returns-clause-appended : goal.returns-clause-appended
returns-clause-appended c = c.loop-i.invariant.list ∙ ap (λ l. c.args.list.now.items ++ long_tokens c.args.start l) (take_all c.loop-i.i c.args.tokens.now (first_of (search rules, grind arith)))

pub returns-clause-few : goal.returns-clause-few
returns-clause-few c = few_listed c.args.list.now.items c.loop-i.list.items c.args.start c.loop-i.i c.args.tokens.now c.loop-i.invariant.list
