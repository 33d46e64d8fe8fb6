use Rattle.std.proofs.Common.{◌≡◌, ℕ, ◌<◌, length, map}
use Rattle.std.specs.Prelude.{slice_get, get_or}
use Rattle.lexlook_calls.proofs.same.naming.order_of.Given as goal

abbrev pub invariant-loop-name : goal.invariant-loop-name
invariant-loop-name l = record {
  long : length l.order.items ≡ l.name-index;
  named : (c : ℕ) → c < l.name-index → slice_get (map (λ x. x.now) l.others) (get_or l.order.items c c) ≡ slice_get (map (λ x. x.now) l.names) c;
}
