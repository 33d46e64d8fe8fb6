-- The worked example of states whose first rule sets a start condition, and does yymore.
use Rattle.std.proofs.Common.{◌≡◌, ℕ, List, [], ◌∷◌, refl}
use Rattle.lex_semantics.specs.Spec.{Begin, More, Whole, Trail}
use Rattle.lex_machine.specs.Glances.{FirstBegins}
use Rattle.lexscan.specs.BeginExamples.{begun, BeginExamples}

pub begin_examples : BeginExamples
begin_examples = record {
  first = record { rule = 0; others = 1 ∷ []; accepts = refl; cut_is = refl; does = refl };
  keeps_less = λ f. let a = f.accepts in let c = f.cut_is in cc;
  sets_another = λ f. let a = f.accepts in let d = f.does in cc;
  second_alone = λ f. let a = f.accepts in let c = f.cut_is in cc;
  no_yymore = λ f. let a = f.accepts in let d = f.does in cc;
  no_rule = λ f. let a = f.accepts in cc;
}
