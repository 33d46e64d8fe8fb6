use Rattle.std.proofs.Common.{sym, subst}
use Rattle.lex_semantics.specs.Text.{Ascending}
use Rattle.lexspec.specs.Views.{spec_of, rules_in}
use Rattle.lexauto.proofs.StepLemmas.{followers_ascend}
use Rattle.lexauto.proofs.stepping.RuleMovesMoves.walk.Goals as goal

pub returns : goal.returns
returns c = record {
  followers = c.in_ok-walked.ensures.followers;
  ascending = subst Ascending (sym c.in_ok-walked.ensures.followers) (followers_ascend (rules_in (spec_of c.args.self.now.spec.now)) c.args.self.now.count c.args.key.now);
  accepted = c.in_ok-walked.ensures.accepted;
}
