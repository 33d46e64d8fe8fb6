-- What the rules of the code stand for.
use Rattle.std.specs.Prelude.{map, option_map}
use Rattle.lex_semantics.specs.Spec as S
use Rattle.lexre.specs.Views.{tree_of}
use Rattle.lexspec_actions.specs.Views.{statement_of}
pub use Rattle.lex_machine.specs.Views.{cut_of}
use Rattle.lexspec.specs.declared.rule.Rule.{Rule}

abbrev pub rule_of : Rule → S.Rule
rule_of r = record {
  line = r.line;
  conditions = option_map (λ v. v.items) r.conditions;
  anchored = r.anchored;
  head = tree_of r.head;
  trail = option_map tree_of r.trail;
  cut = cut_of r.cut;
  statements = map statement_of r.statements.items;
}
