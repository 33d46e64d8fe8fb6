use Rattle.std.proofs.Common.{List, ◌+◌, drop, subst}
use Rattle.std.proofs.lemmas.List.{drop_all}
use Rattle.lex_semantics.specs.Text.{Among}
use Rattle.lexscan.specs.declared.token.Token.{Token}
use Rattle.lexscan_window.specs.declared.memo.Mark.{Mark}
use Rattle.lexlook_suites.proofs.Turned.{Turning, turned_all, turning_on, turning_start}
use Rattle.lexlook_suites.proofs.Walked.{left_first}
use Rattle.lexlook_suites.proofs.marks.Marks.turns.Goals as goal

pub loop-token-init : goal.loop-token-init
loop-token-init c = record {
  turning = turning_start c.args.dfa.now.parts c.args.input.now c.args.tokens.now c.args.self.now c.requires;
  passed = λ k a. absurd (subst (λ (ks : List Mark). Among ks k) c.new-memo.ensures a);
}

pub loop-token-preserved : goal.loop-token-preserved
loop-token-preserved c =
    let p = c.args.dfa.now.parts in
    let us = c.args.tokens.now in
    let i = c.loop-token.token-index in
    record {
      turning = turning_on p c.args.input.now us c.args.self.now c.loop-token.self c.turn.new.self c.loop-token.at _ (drop (i + 1) us)
          (subst (λ (l : List Token). Turning p c.args.input.now us c.args.self.now c.loop-token.self c.loop-token.at l) (left_first us i _ c.loop-token-test.true) c.loop-token.invariant.turning)
          c.turn.ensures.adds;
      passed = c.turn.ensures.passed;
    }

pub returns : goal.returns
returns c =
    let end = c.loop-token-test.false in
    turned_all c.args.dfa.now.parts c.args.input.now c.args.tokens.now c.args.self.now c.loop-token.self c.loop-token.at (drop c.loop-token.token-index c.args.tokens.now) (drop_all c.loop-token.token-index c.args.tokens.now end) c.loop-token.invariant.turning
