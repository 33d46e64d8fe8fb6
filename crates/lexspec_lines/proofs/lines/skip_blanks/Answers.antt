use Rattle.std.proofs.Common.{rules, List, ℕ, ap, sym, not}
use Rattle.lex_semantics.specs.ByteSets.{is_blank}
use Rattle.lexspec_lines.proofs.RunLaws.{blanks_split}
use Rattle.lexspec_lines.proofs.lines.skip_blanks.Goals as goal

pub returns-clause-after : goal.returns-clause-after
returns-clause-after c = sym (ap (λ (s : List ℕ × List ℕ). s.1) (blanks_split c.args.text.now _ _ (c.split_before.ensures.split (λ b. not (is_blank b)) (λ b r h post. search rules))))
