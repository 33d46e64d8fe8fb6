-- What a match does to the plain state is the turn of every consistent input.
use Rattle.std.proofs.Common.{◌≡◌, ℕ, zero, suc, ◌+◌, ◌-◌, ◌≤◌, ◌<◌, true, false, List, [], ◌++◌, length, take, drop, Some, inl, inr, refl, sym, ◌∙◌, ap, subst, arith}
use Rattle.std.proofs.lemmas.List.{length-append, length-drop, drop-drop}
use Rattle.lex_semantics.specs.Text.{part, at_line_start}
use Rattle.lex_semantics.specs.Candidates.{Candidates}
use Rattle.lex_semantics.specs.Acting.{Acting}
use Rattle.lex_semantics.specs.ActionResults.{perform_results}
use Rattle.lex_semantics.specs.Demand.{AsksAt}
use Rattle.lex_semantics.specs.Scanned.{Seen}
use Rattle.lex_semantics.specs.Machine.{Machine, rules_of_machine, state_after}
use Rattle.lex_semantics.specs.MachineLaws.{MachineLaws}
use Rattle.lex_semantics.proofs.Texts.{line_start_front}
use Rattle.lex_semantics.proofs.Wanted.{WantsMore}
use Rattle.lexscan_window.specs.declared.state.Reading.{Reading}
use Rattle.lexscan_window.specs.declared.state.TextPlace.{TextPlace}
use Rattle.lexscan_matching.specs.Looks.{SoFar, IsLiveAfter, Wants}
use Rattle.lexscan_matching.specs.Descends.{outcome, matches_of}
use Rattle.lexscan.proofs.Outcomes.{seen_matches, all_seen, seen_outcome}

-- where a match stands in the input
module _ (M : Machine) (laws : MachineLaws M) (given got : List ℕ) (start : ℕ) (p : TextPlace) (cs w : List ℕ)
    (covered : start + p.at ≤ length given) (win : drop start (given ++ got) ≡ w) (line : p.line_start ≡ at_line_start given (start + p.at)) where
  from_here : drop (start + p.at) (given ++ got) ≡ drop p.at w
  from_here = sym (drop-drop p.at start (given ++ got)) ∙ ap (drop p.at) win

  kept_is : part (given ++ got) start (start + p.at) ≡ take p.at w
  kept_is = let e : start + p.at - start ≡ p.at = omega arith in ap (λ n. take n (drop start (given ++ got))) e ∙ ap (take p.at) win

  line_is : at_line_start (given ++ got) (start + p.at) ≡ p.line_start
  line_is = line_start_front given got (start + p.at) covered ∙ sym line

  pub window_size : length w ≡ length (given ++ got) - start
  window_size = ap length (sym win) ∙ length-drop start (given ++ got)

  pub input_size : length (given ++ got) ≡ length given + length got
  input_size = length-append given got

  to_input : (i : ℕ) → IsLiveAfter M p (drop p.at w) i → M.goes_on (state_after M p.condition (at_line_start (given ++ got) (start + p.at)) (take i (drop (start + p.at) (given ++ got)))) ≡ true
  to_input i k = subst (λ b. M.goes_on (state_after M p.condition b (take i (drop (start + p.at) (given ++ got)))) ≡ true) (sym line_is)
      (subst (λ z. M.goes_on (state_after M p.condition p.line_start (take i z)) ≡ true) (sym from_here) k)

  from_input : (i : ℕ) → M.goes_on (state_after M p.condition (at_line_start (given ++ got) (start + p.at)) (take i (drop (start + p.at) (given ++ got)))) ≡ true → IsLiveAfter M p (drop p.at w) i
  from_input i k =
      subst (λ z. M.goes_on (state_after M p.condition p.line_start (take i z)) ≡ true) from_here
      (subst (λ b. M.goes_on (state_after M p.condition b (take i (drop (start + p.at) (given ++ got)))) ≡ true) line_is k)

  -- a match that asks for all bytes held and for one more
  pub wants_here : (new : Reading) → new.window.bytes ≡ w → Wants M p new → WantsMore (rules_of_machine M) (given ++ got) (record { start = start; at = start + p.at; condition = p.condition; stack = cs })
  wants_here new same h = (omega (arith, window_size, input_size, covered, ap length same, h.inside), asks)
    where
      asks : (i : ℕ) → start + p.at + i ≤ length (given ++ got) → AsksAt (rules_of_machine M) (given ++ got) (record { start = start; at = start + p.at; condition = p.condition; stack = cs }) i
      asks zero le = inl refl
      asks (suc i) le = inr (to_input (suc i) (subst (λ z. IsLiveAfter M p (drop p.at z) (suc i)) same (h.asked (suc i) (omega arith) (omega (arith, le, window_size, ap length same)))))

  -- what a match has seen
  module _ (reach state : ℕ) (path : List ℕ) (some : 1 ≤ reach) (h : SoFar M p (drop p.at w) reach state path) where
    pub inside_here : start + p.at + reach ≤ length (given ++ got)
    inside_here = omega (arith, h.inside, length-drop p.at w, window_size, some)

    pub dead_here : M.goes_on state ≡ false → AsksAt (rules_of_machine M) (given ++ got) (record { start = start; at = start + p.at; condition = p.condition; stack = cs }) reach → ⊥
    dead_here dead (inl e) = omega (arith, some, e)
    dead_here dead (inr k) = no (sym dead ∙ ap M.goes_on h.state_is ∙ from_input reach k)
      where
        no : false ≡ true → ⊥
        no e = cc

    pub live_here : M.goes_on state ≡ true → AsksAt (rules_of_machine M) (given ++ got) (record { start = start; at = start + p.at; condition = p.condition; stack = cs }) reach
    live_here live = inr (to_input reach (ap M.goes_on (sym h.state_is) ∙ live))

    pub asks_here : (i : ℕ) → i < reach → AsksAt (rules_of_machine M) (given ++ got) (record { start = start; at = start + p.at; condition = p.condition; stack = cs }) i
    asks_here zero lt = inl refl
    asks_here (suc i) lt = inr (to_input (suc i) (h.asked (suc i) (omega arith) lt))

    pub seen_here : (o : Acting) → outcome M w p.at (matches_of M w p.at path) [] (record { next = p.condition; stack = cs }) ≡ Some o →
        (s : Seen (rules_of_machine M) (given ++ got) (record { start = start; at = start + p.at; condition = p.condition; stack = cs }) reach) × (s.outcome ≡ o)
    seen_here o is =
        let yw : List ℕ = drop p.at w in
        let y : List ℕ = drop (start + p.at) (given ++ got) in (
          record {
            inside = inside_here;
            some = some;
            asked = asks_here;
            matches = seen_matches M laws p w reach state path some h;
            all = subst (λ q. Candidates (rules_of_machine M) p.condition q (take reach y) (seen_matches M laws p w reach state path some h)) (sym line_is)
                (subst (λ z. Candidates (rules_of_machine M) p.condition p.line_start (take reach z) (seen_matches M laws p w reach state path some h)) (sym from_here) (all_seen M laws p w reach state path some h));
            outcome = o;
            performed = ap (λ k. perform_results (rules_of_machine M) k (take reach y) (seen_matches M laws p w reach state path some h) [] p.condition cs) kept_is
                ∙ ap (λ z. perform_results (rules_of_machine M) (take p.at w) (take reach z) (seen_matches M laws p w reach state path some h) [] p.condition cs) from_here
                ∙ sym (seen_outcome M laws p w reach state path some h [] (record { next = p.condition; stack = cs })) ∙ is;
          },
          refl,
        )
