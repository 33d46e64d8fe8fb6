-- A turn whose rule sets a start condition and does yymore, as it would be planned.
use Rattle.std.proofs.Common.{ℕ, true, List, [], ◌∷◌, inl, refl, arith}
use Rattle.lex_semantics.specs.Machine.{Machine}
use Rattle.lex_machine.specs.declared.action.Statement.TheVariants.{Begin}
use Rattle.lexscan_window.specs.declared.state.TextPlace.{TextPlace}
use Rattle.lexscan_matching.specs.declared.begun.BegunMatch.{BegunMatch}
use Rattle.lexscan_matching.specs.declared.plan.Plan.{Plan}
use Rattle.lexscan_matching.specs.Begins.{IsBegun}
use Rattle.lexscan_matching.specs.Plans.{IsPlan}

-- the plan of such a match
abbrev pub plan_begun : BegunMatch → Plan
plan_begun begun = record {
  rejected = record { ref_ptr = (0, 0); now = [] };
  rejected_keep = 0;
  said = record { ref_ptr = (0, 0); now = Begin begun.condition ∷ [] };
  keep = begun.keep;
  more = true;
}

pub is_planned : (M : Machine) (p : TextPlace) (w : List ℕ) (count : ℕ) (begun : BegunMatch) → IsBegun M p w count begun → IsPlan M p w count (plan_begun begun)
is_planned M p w count begun is = record {
  gone = [];
  taken = is.taken;
  others = is.others;
  in_order = is.in_order;
  rejected = inl (refl, refl);
  does = record { known = is.known; keep_is = is.keep_is; simple = refl; does = is.does };
  some = is.some;
  short = is.short;
  short_rejected = omega arith;
}
