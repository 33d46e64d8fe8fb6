use Rattle.std.proofs.Common.{◌≡◌, Some, sym, ap, ◌∙◌}
use Rattle.lex_semantics.specs.Spec.{EndAction}
use Rattle.lexspec_actions.specs.ActionSteps.{end_of}
use Rattle.lexspec_actions.proofs.EndLemmas.{end_is}
use Rattle.lexspec_actions.proofs.OneAction.{one_statements}
use Rattle.lexspec_actions.proofs.laws.one_end_action.Goals as goal

some_is : (e f : EndAction) → Some e ≡ Some f → e ≡ f
some_is e f p = cc

pub returns : goal.returns
returns c = λ condition text e f h k.
    (let same = one_statements condition text h.0 k.0 h.1 k.1 in some_is e f (sym (end_is h.0 e h.3) ∙ ap end_of same ∙ end_is k.0 f k.3))
