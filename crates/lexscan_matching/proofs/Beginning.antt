-- A match whose rule sets a start condition and does yymore.
use Rattle.std.proofs.Common.{◌≡◌, ℕ, ◌+◌, ◌-◌, ◌≤◌, ◌<◌, List, [], ◌++◌, length, drop, inl, Option, Some, None, refl, sym, ◌∙◌, ap, subst, arith}
use Rattle.std.specs.Prelude.{filter_map, IfSome}
use Rattle.std.proofs.lemmas.List.{length-drop}
use Rattle.lex_semantics.specs.Spec as S
use Rattle.lex_semantics.specs.Machine.{Machine}
use Rattle.lex_semantics.specs.MachineLaws.{MachineLaws}
use Rattle.lex_semantics.specs.PlainMachine.{kept_by, match_of}
use Rattle.lex_semantics.specs.Text.{Among}
use Rattle.lex_semantics.specs.Trail.{falling}
use Rattle.lex_machine.specs.declared.glance.Way.{Way}
use Rattle.lex_machine.specs.Glances.{Leads, FirstBegins}
use Rattle.lexscan_window.specs.declared.state.TextPlace.{TextPlace}
use Rattle.lexscan_matching.specs.declared.begun.BegunMatch.{BegunMatch}
use Rattle.lexscan_matching.specs.Begins.{IsBegun, IsBegunFrom}
use Rattle.lexscan_matching.specs.Picks.{path_of}
use Rattle.lexscan_matching.proofs.Descending.{one_match}
use Rattle.lexscan_matching.proofs.Picking.{falling_last}
use Rattle.lexscan_matching.proofs.Planning.{kept_some}

-- the first match of so many bytes
pub begins_there : (M : Machine) (laws : MachineLaws M) (state len keep condition : ℕ) (cut : S.Cut) → FirstBegins M state cut condition → 1 ≤ len → Some keep ≡ kept_by cut len → keep ≤ len → IsBegunFrom M len state (record { keep = keep; condition = condition })
begins_there M laws state len keep condition cut first some kept short p w a = record {
  taken = record { len = len; rule = first.rule; keep = keep };
  others = filter_map (match_of M len) first.others ++ falling M 0 (path_of M p w (len - 1));
  in_order =
      falling_last M p w len a.some a.inside
      ∙ ap (λ s. filter_map (match_of M len) (M.accepts s) ++ falling M 0 (path_of M p w (len - 1))) (sym a.state_is)
      ∙ ap (λ l. filter_map (match_of M len) l ++ falling M 0 (path_of M p w (len - 1))) first.accepts
      ∙ ap (λ l. l ++ falling M 0 (path_of M p w (len - 1))) (one_match M len first.rule keep first.others (ap (λ c. kept_by c len) first.cut_is ∙ sym kept));
  known = laws.in_range state first.rule (subst (λ l. Among l first.rule) (sym first.accepts) (inl refl));
  keep_is = refl;
  does = first.does;
  some = kept_some cut len keep some (sym kept);
  short = short;
}

-- the first match of a walk that ends there, in all but its last byte, after which no rule is accepted
pub begins_before : (M : Machine) (way : Way) (o : Option BegunMatch) → 1 < way.count → M.accepts way.state ≡ [] → IfSome o (IsBegunFrom M (way.count - 1) way.before) →
    IfSome o (λ begun. (p : TextPlace) (w : List ℕ) → Leads M (M.start p.condition p.line_start) (drop p.at w) way → IsBegun M p w way.count begun)
begins_before M way None more none h = tt
begins_before M way (Some begun) more none h = λ p w leads.
    let inside : p.at + way.count ≤ length w = omega (arith, leads.inside, length-drop p.at w, leads.some) in
    let q : IsBegun M p w (way.count - 1) begun = h p w (record { some = omega (arith, more); inside = omega (arith, inside); state_is = leads.before_is; before_is = tt }) in
    record {
      taken = q.taken;
      others = q.others;
      in_order = falling_last M p w way.count (omega (arith, more)) inside ∙ ap (λ l. filter_map (match_of M way.count) l ++ falling M 0 (path_of M p w (way.count - 1))) (ap M.accepts (sym leads.state_is) ∙ none) ∙ q.in_order;
      known = q.known;
      keep_is = q.keep_is;
      does = q.does;
      some = q.some;
      short = omega (arith, q.short);
    }
