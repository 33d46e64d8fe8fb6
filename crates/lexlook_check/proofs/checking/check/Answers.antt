use Rattle.std.proofs.Common.{◌≡◌, ◌∙◌, ℕ, List, Vec, Global, Option, Some, None, option_map, refl, sym, ap, subst}
use Rattle.lexkit.specs.Headline.{reading}
use Rattle.lexlook_check.specs.Finding.{AreFaultsOf, ReadsSpec, max_faults}
use Rattle.lexlook_check.proofs.checking.check.Goals as goal

pub check_left-requires-clause-faults : goal.check_left-requires-clause-faults
check_left-requires-clause-faults c =
    let left : option_map (λ (v : Vec ℕ Global). v.items) c.in_ok-faults.field-0.left ≡ Some c.as_slice.result.now =
    ap (option_map (λ (v : Vec ℕ Global). v.items)) c.in-Some.is ∙ ap Some (sym c.as_slice.ensures.value) in
    subst (λ (o : Option (List ℕ)). AreFaultsOf (ReadsSpec (reading c.args.options)) max_faults c.args.text.now c.in_ok-faults.field-0.faults.items o) left c.in_ok-faults.ensures

pub returns-in-None : goal.returns-in-None
returns-in-None c =
    let left : option_map (λ (v : Vec ℕ Global). v.items) c.in_ok-faults.field-0.left ≡ None = ap (option_map (λ (v : Vec ℕ Global). v.items)) c.in-None.is in
    record {
      left = None;
      faults = subst (λ (o : Option (List ℕ)). AreFaultsOf (ReadsSpec (reading c.args.options)) max_faults c.args.text.now c.in_ok-faults.field-0.faults.items o) left c.in_ok-faults.ensures;
      found = (refl, c.new.ensures.items, c.new-in-None-2.ensures.items, c.new-in-None-3.ensures.items);
      weights = refl;
    }
