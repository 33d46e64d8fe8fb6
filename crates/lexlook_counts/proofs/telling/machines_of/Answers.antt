use Rattle.std.proofs.Common.{subst, sym}
use Rattle.lex_semantics.specs.Machine.{Machine}
use Rattle.lex_semantics.specs.TableFor.{TableFor}
use Rattle.lexspec.specs.Views.{spec_of}
use Rattle.lexkit.proofs.Refusing.{within}
use Rattle.lexlook_counts.proofs.telling.machines_of.Goals as goal

pub returns-clause-made : goal.returns-clause-made
returns-clause-made c =
    let S = spec_of c.args.spec.now in
    let made = c.in_ok-least.ensures.made in
    let inside = within c.args.limits S c.in_ok-least.least.subsets c.in_ok-least.least.automaton made in
    record {
      scans = record { within = inside; table = subst (λ (M : Machine). TableFor M S) (sym c.in-Ok.ensures) made.table };
      looks = record { within = inside; table = subst (λ (M : Machine). TableFor M S) (sym c.in-Ok-pack_flat.ensures) made.table };
    }
