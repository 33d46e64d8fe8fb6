use Rattle.std.proofs.Common.{◌≡◌, ℕ, ◌-◌, ◌≤◌, true, List, length, take, Option, Some, None, ap, subst, ◌∙◌, arith}
use Rattle.std.specs.Prelude.{IfSome}
use Rattle.std.proofs.lemmas.List.{length-take-le, take-take}
use Rattle.lex_semantics.specs.Machine.{Machine, walk}
use Rattle.lex_machine.specs.Glances.{Leads}
use Rattle.lex_machine.specs.declared.glance.Way.{Way}
use Rattle.lexscan.proofs.burst.way_within.Goals as goal

-- a walk over some of the bytes is one over all of them
pub leads_longer : (M : Machine) (first : ℕ) (bytes : List ℕ) (k : ℕ) (w : Way) → k ≤ length bytes → Leads M first (take k bytes) w → Leads M first bytes w
leads_longer M first bytes k w few l =
    let len : length (take k bytes) ≡ k = length-take-le k bytes few in
    let le : w.count ≤ k = omega (arith, l.inside, len) in
    record {
      some = l.some;
      inside = omega (arith, le, few);
      state_is = l.state_is ∙ ap (walk M first) (take-take w.count k bytes le);
      before_is = l.before_is ∙ ap (walk M first) (take-take (w.count - 1) k bytes (omega (arith, le)));
      asked = λ i some lt. subst (λ t. M.goes_on (walk M first t) ≡ true) (take-take i k bytes (omega (arith, lt, le))) (l.asked i some lt);
      stops = l.stops;
      gist_is = l.gist_is;
    }

some_longer : (M : Machine) (first : ℕ) (bytes : List ℕ) (k : ℕ) (o : Option Way) → k ≤ length bytes → IfSome o (Leads M first (take k bytes)) → IfSome o (Leads M first bytes)
some_longer M first bytes k (Some w) few l = leads_longer M first bytes k w few l
some_longer M first bytes k None few l = l

pub returns-clause-way : goal.returns-clause-way
returns-clause-way g c = some_longer (g.M.Machine.machine c.args.machine.now) c.args.first c.args.bytes.now c.min.result c.way.result (omega (arith, c.min.ensures)) c.way.ensures.way
