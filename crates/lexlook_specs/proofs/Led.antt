-- Texts that lead to states, and where the first of them stands among the words of a search.
use Rattle.std.proofs.Common.{◌≡◌, ◌⊎◌, ◌<◌, ◌≤◌, ◌+◌, ◌*◌, ℕ, Bool, List, [], length, Option, inl, inr, refl, sym, ap, subst, ◌∙◌, arith}
use Rattle.std.specs.Prelude.{min}
use Rattle.std.proofs.lemmas.Bool.{cases_eq, cases_lt}
use Rattle.std.proofs.lemmas.List.{length-map}
use Rattle.lex_semantics.specs.Text.{IsText, Among, Ascending}
use Rattle.lexauto_dfa.specs.Parts.{conditions, states, start, accepts, after, lists_in}
use Rattle.lexauto_dfa.specs.Invariant.{IsAutomaton}
use Rattle.lexauto_dfa.specs.declared.dfa.Parts.{Parts}
use Rattle.lexauto_dfa.proofs.Machinery.{past_end}
use Rattle.lexauto_reports.specs.BackWords.{NotAfter}
use Rattle.lexauto_reports.specs.Counting.{walk, LeadsTo}
use Rattle.lexauto_reports.specs.Searching.{at, AreFound}
use Rattle.lexauto_reports.proofs.Counted.{from_start}
use Rattle.lexlook_specs.specs.Placing.{IsPlacedAt}

-- a text of one byte or more leads to the state
pub record Leads (p : Parts) (s : ℕ) (c : ℕ) (line : Bool) (w : List ℕ) : Type 0 where
  pub condition : c < conditions p
  pub text : IsText w
  pub some : 1 ≤ length w
  pub there : after p (start p c line) w ≡ s

counted : (p : Parts) (s c : ℕ) (line : Bool) (w : List ℕ) → Leads p s c line w → (x : ℕ) → walk p (3 * start p c line) w ≡ x → LeadsTo p w x
counted p s c line w l x e = (3 * start p c line, (c, line, l.condition, refl), l.text, e)

-- a word leads to the state with one byte read, or with more
pub led_in : (p : Parts) (s c : ℕ) (line : Bool) (w : List ℕ) → Leads p s c line w → LeadsTo p w (3 * s + 1) ⊎ LeadsTo p w (3 * s + 2)
led_in p s c line w l =
    let there = from_start p (start p c line) w in
    let is = l.there in
    let some = l.some in
    elim (cases_eq (length w) 1) [
      | inl one ↦ inl (counted p s c line w l (3 * s + 1) (there ∙ (omega (arith, is, one))))
      | inr more ↦ inr (counted p s c line w l (3 * s + 2) (there ∙ (omega (arith, is, some, more))))
    ]

pub led_from : (p : Parts) (s n : ℕ) (w : List ℕ) → 1 ≤ n → n ≤ 2 → LeadsTo p w (3 * s + n) → (c : ℕ) × (line : Bool) × Leads p s c line w
led_from p s n w some few (y, (c, line, known, e), text, is) =
    let there : 3 * after p (start p c line) w + min (length w) 2 ≡ 3 * s + n = sym (from_start p (start p c line) w) ∙ ap (λ (x : ℕ). walk p x w) (sym e) ∙ is in (
      c,
      line,
      record {
        condition = known;
        text = text;
        some = omega (arith, there, some, few);
        there = omega (arith, there, some, few);
      },
    )

past_accepts : (p : Parts) → IsAutomaton p → (s : ℕ) → states p ≤ s → accepts p s ≡ []
past_accepts p a s h =
    let n = length-map p.accepts.items (λ v. v.value.items) in
    let m = a.lists in
    past_end (lists_in p) s [] (omega (arith, n, m, h))

pub ascending_at : (p : Parts) → IsAutomaton p → (s : ℕ) → Ascending (accepts p s)
ascending_at p a s = elim (cases_lt s (states p)) [
  | inl h ↦ a.ascending s h
  | inr h ↦ subst Ascending (sym (past_accepts p a s h)) tt
]

pub accepted_at : (p : Parts) → IsAutomaton p → (s i : ℕ) → Among (accepts p s) i → s < states p
accepted_at p a s i m = elim (cases_lt s (states p)) [
  | inl h ↦ h
  | inr h ↦ absurd (subst (λ l. Among l i) (past_accepts p a s h) m)
]

-- the word at the place of a state leads to it
pub placed_leads : (p : Parts) (words : List (List ℕ)) (places : List (Option ℕ)) → AreFound p words places → (s j : ℕ) → IsPlacedAt places s j → (j < length words) × (c : ℕ) × (line : Bool) × Leads p s c line (at words j)
placed_leads p words places found s j (inl e) = let k = found.known (3 * s + 1) j e in let r = led_from p s 1 (at words j) (omega arith) (omega arith) k.1 in (k.0, r.0, r.1, r.2)
placed_leads p words places found s j (inr e) = let k = found.known (3 * s + 2) j e in let r = led_from p s 2 (at words j) (omega arith) (omega arith) k.1 in (k.0, r.0, r.1, r.2)

-- a state to which a text leads has a place, with a word that is not after the text
pub leads_placed : (p : Parts) (words : List (List ℕ)) (places : List (Option ℕ)) → AreFound p words places → (s c : ℕ) (line : Bool) (w : List ℕ) → Leads p s c line w
    → (j : ℕ) × IsPlacedAt places s j × NotAfter (at words j) w
leads_placed p words places found s c line w l = elim (led_in p s c line w l) [
  | inl h ↦ (let r = found.least (3 * s + 1) w h in (r.0, inl r.1, r.2))
  | inr h ↦ (let r = found.least (3 * s + 2) w h in (r.0, inr r.1, r.2))
]
