use Rattle.std.proofs.Common.{◌++◌, List, ℕ, map, sym, subst}
use Rattle.std.specs.List.Sorted.{IsPermutation}
use Rattle.lex_semantics.specs.Spec.{Spec}
use Rattle.lex_semantics.specs.TableFor.{TableFor}
use Rattle.lexauto_reports.specs.Warned.{of_code, of_rule}
use Rattle.lexspec.specs.Views.{spec_of, skipped_in, rules_in}
use Rattle.lexkit.proofs.ready.ready_by.Goals as goal

pub returns : goal.returns
returns c =
    let S : Spec = spec_of c.args.spec.now in
    let useless = c.in_ok-useless in
    record {
      machine = record {
        sound = c.tested_specifications.ensures S c.args.spec.now.sound;
        within = c.requires.within;
        table = subst (λ M. TableFor M S) (sym c.in_ok-machine.ensures) c.requires.table;
      };
      warnings = (c.in_ok-warnings.ensures.in_order, (useless.useless.items, useless.ensures.ascending, useless.ensures.useless, subst (λ (xs : List ℕ). IsPermutation (map of_code (skipped_in c.args.spec.now) ++ map (of_rule (rules_in S)) xs) c.in_ok-warnings.warnings.items) c.deref.ensures.value c.in_ok-warnings.ensures.all));
    }
