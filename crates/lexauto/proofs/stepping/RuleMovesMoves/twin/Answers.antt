use Rattle.std.proofs.Common.{map}
use Rattle.std.specs.Prelude.{slice_index}
use Rattle.lexspec.specs.RuleViews.{rule_of}
use Rattle.lexauto.proofs.StepLemmas.{reading_alike}
use Rattle.lexauto.proofs.stepping.RuleMovesMoves.twin.Goals as goal

pub returns-clause-same : goal.returns-clause-same
returns-clause-same c = λ followers.
    reading_alike (map rule_of c.args.self.now.spec.now.rules.items) followers c.kind.result.now.first c.args.byte
    (λ j _. c.kind.ensures.same (slice_index followers j))
