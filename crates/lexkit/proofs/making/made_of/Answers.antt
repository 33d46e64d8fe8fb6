use Rattle.std.proofs.Common.{◌++◌, ◌∙◌, ℕ, List, map, ap, subst}
use Rattle.std.specs.List.Sorted.{IsPermutation}
use Rattle.lexauto_reports.specs.Warned.{of_code, of_rule}
use Rattle.lex_semantics.specs.Spec.{Spec}
use Rattle.lexspec.specs.Views.{spec_of, skipped_in, rules_in}
use Rattle.lexkit.specs.Generated.{lines_of}
use Rattle.lexkit.proofs.Refusing.{within}
use Rattle.lexkit.proofs.Canonical.{canonical_of}
use Rattle.lexkit.proofs.making.made_of.Goals as goal

pub returns-clause-made : goal.returns-clause-made
returns-clause-made c =
    let S : Spec = spec_of c.args.spec.now in
    let l = c.requires.least in
    record {
      tables = record {
        sound = c.tested_specifications.ensures S c.args.spec.now.sound;
        within = within c.args.limits S c.args.least.now.subsets c.args.least.now.automaton l;
        canonical = canonical_of S c.args.least.now.automaton c.in_ok-tables.tables l.conditions l.table l.least l.numbered c.in_ok-tables.ensures.machine c.in_ok-tables.ensures.packed;
      };
      rule_lines = c.in_ok-rule_lines.ensures ∙ ap lines_of c.rules.ensures.rules;
      warnings = (c.in_ok-warnings.ensures.in_order, (c.in_ok-useless.useless.items, c.in_ok-useless.ensures.ascending, c.in_ok-useless.ensures.useless, subst (λ (xs : List ℕ). IsPermutation (map of_code (skipped_in c.args.spec.now) ++ map (of_rule (rules_in S)) xs) c.in_ok-warnings.warnings.items) c.deref.ensures.value c.in_ok-warnings.ensures.all));
      stats = c.stats_of-stats.ensures;
    }
