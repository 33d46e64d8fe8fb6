use Rattle.std.proofs.Common.{sym, ◌∙◌}
use Rattle.lexauto_dfa.proofs.Accepting.{among_get}
use Rattle.lexlook_specs.proofs.Takers.{kept_here, kept_end, kept_only, kept_some}
use Rattle.lexlook_specs.proofs.words.taking.taker.Goals as goal

pub bounds-rejects-rule : goal.bounds-rejects-rule
bounds-rejects-rule c = c.requires _ (among_get c.args.rules.now c.loop-rule.rule-index c.loop-rule-test.true)

pub returns-then-not-rejects-rule-clause-some : goal.returns-then-not-rejects-rule-clause-some
returns-then-not-rejects-rule-clause-some c =
    kept_some c.args.rejects.now c.args.rules.now _ (kept_here c.args.rejects.now c.args.rules.now c.loop-rule.rule-index c.loop-rule-test.true c.if-not-rejects-rule.true c.loop-rule.invariant)

pub returns-then-not-rejects-rule-clause-only : goal.returns-then-not-rejects-rule-clause-only
returns-then-not-rejects-rule-clause-only c = λ j a f.
    sym (kept_here c.args.rejects.now c.args.rules.now c.loop-rule.rule-index c.loop-rule-test.true c.if-not-rejects-rule.true c.loop-rule.invariant) ∙ kept_only c.args.rejects.now c.args.rules.now j a f

pub returns-clause-only : goal.returns-clause-only
returns-clause-only c = λ j a f.
    sym (kept_end c.args.rejects.now c.args.rules.now c.loop-rule.rule-index c.loop-rule-test.false c.loop-rule.invariant) ∙ kept_only c.args.rejects.now c.args.rules.now j a f
