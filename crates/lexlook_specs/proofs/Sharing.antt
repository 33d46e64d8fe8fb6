-- What is told of two rules, by the places of the words that they share.
use Rattle.std.proofs.Common.{◌≡◌, ◌↔◌, ◌<◌, ◌≤◌, ℕ, Bool, true, false, List, length, Option, inl, inr, refl, sym, subst, arith}
use Rattle.std.proofs.lemmas.Bool.{cases_Bool, cases_lt}
use Rattle.lex_semantics.specs.Text.{Among}
use Rattle.lexauto_dfa.specs.Parts.{states, start, accepts, after}
use Rattle.lexauto_dfa.specs.Invariant.{IsAutomaton}
use Rattle.lexauto_dfa.specs.declared.dfa.Parts.{Parts}
use Rattle.lexauto_reports.specs.BackWords.{NotAfter, Precedes}
use Rattle.lexauto_reports.specs.Searching.{at, AreFound}
use Rattle.lexauto_reports.proofs.Orders.{before_trans}
use Rattle.lexlook_specs.specs.Matches.{IsInput, matches_in}
use Rattle.lexlook_specs.specs.Overlaps.{IsFirstShared, IsShared, SharesText}
use Rattle.lexlook_specs.specs.Placing.{MeetsAfter, SharesAt, behind, takers}
use Rattle.lexlook_specs.specs.declared.words.starting.Wish.TheVariants.{Shares}
use Rattle.lexlook_specs.proofs.Behind.{behind_are}
use Rattle.lexlook_specs.proofs.Led.{Leads, ascending_at, accepted_at, placed_leads, leads_placed}
use Rattle.lexlook_specs.proofs.Told.{takes_is}

module _ (p : Parts) (a : IsAutomaton p) (rejects : List Bool) where
  -- an automaton's state tells which rules share the text
  pub shares_is : (c : ℕ) (line : Bool) (w : List ℕ) (i j : ℕ) → SharesText (matches_in p rejects) i j c line w ↔ MeetsAfter p rejects w (Shares i j) c line
  shares_is c line w i j = let r = takes_is p a rejects c line w i in (λ t. (r.0 t.0, t.1), λ t. (r.1 t.0, t.1))

  -- at neither start they do
  pub shared_nowhere : (c : ℕ) (w : List ℕ) (i j : ℕ) → (MeetsAfter p rejects w (Shares i j) c false → ⊥) → (MeetsAfter p rejects w (Shares i j) c true → ⊥) → (line : Bool) → SharesText (matches_in p rejects) i j c line w → ⊥
  shared_nowhere c w i j within begins true t = begins ((shares_is c true w i j).0 t)
  shared_nowhere c w i j within begins false t = within ((shares_is c false w i j).0 t)

  -- a rule that shares a text is one of the automaton's
  pub shared_known : ((s i : ℕ) → s < states p → Among (accepts p s) i → i < length rejects) → (i j : ℕ) (w : List ℕ) → IsShared (matches_in p rejects) i j w → j < length rejects
  shared_known known i j w (c, line, h, t) = known (after p (start p c line) w) j (accepted_at p a (after p (start p c line) w) j t.1) t.1

  module _ (words : List (List ℕ)) (places : List (Option ℕ)) (found : AreFound p words places) (i j : ℕ) where
    -- a text that they share leads to a state with a place, with a word that is not after it
    shared_placed : (w : List ℕ) → i < j → IsShared (matches_in p rejects) i j w → (k : ℕ) × SharesAt p rejects places (states p) i j k × NotAfter (at words k) w
    shared_placed w order (c, line, h, t) =
        let s = after p (start p c line) w in
        let r = leads_placed p words places found s c line w (record { condition = h.condition; text = h.text; some = h.some; there = refl }) in
        let both = (shares_is c line w i j).0 t in
        (r.0, (s, accepted_at p a s j t.1, (behind_are rejects i j (accepts p s) (ascending_at p a s)).1 (both.0, t.1, order), r.1), r.2)

    pub not_shared : ((k : ℕ) → SharesAt p rejects places (states p) i j k → ⊥) → (w : List ℕ) → i < j → IsShared (matches_in p rejects) i j w → ⊥
    not_shared none w order shared = let r = shared_placed w order shared in none r.0 r.1

    -- they are in order
    pub shared_order : (k : ℕ) → SharesAt p rejects places (states p) i j k → i < j
    shared_order k (s, low, m, is) = ((behind_are rejects i j (accepts p s) (ascending_at p a s)).0 m).2

    -- the word at their first place is the first that they share
    pub first_shared : (k : ℕ) → SharesAt p rejects places (states p) i j k → ((l : ℕ) → SharesAt p rejects places (states p) i j l → k ≤ l) → IsFirstShared (matches_in p rejects) i j (at words k)
    first_shared k (s, low, m, is) least =
        let there = placed_leads p words places found s k is in
        let l = there.3 in
        let both = (behind_are rejects i j (accepts p s) (ascending_at p a s)).0 m in
        record {
          shared = (
            there.1,
            there.2,
            record { condition = l.condition; text = l.text; some = l.some },
            (shares_is there.1 there.2 (at words k) i j).1 (
              subst (λ (u : ℕ). Among (takers rejects (accepts p u)) i) (sym l.there) both.0,
              subst (λ (u : ℕ). Among (accepts p u) j) (sym l.there) both.1,
            ),
          );
          first = λ v shared.
              let r = shared_placed v both.2 shared in
              let le = least r.0 r.1 in
              elim (cases_lt k r.0) [
                | inl lt ↦ inr (before_all r.0 v lt r.1 r.2)
                | inr ge ↦ (let e : r.0 ≡ k = omega (arith, le, ge) in subst (λ (n : ℕ). NotAfter (at words n) v) e r.2)
              ];
        }
      where
        before_all : (l : ℕ) (v : List ℕ) → k < l → SharesAt p rejects places (states p) i j l → NotAfter (at words l) v → Precedes (at words k) v
        before_all l v lt (s, low, m, is) after =
            let l_in = (placed_leads p words places found s l is).0 in
            let b = found.rising k l lt l_in in
            elim after [ inl e ↦ subst (Precedes (at words k)) e b | inr c ↦ before_trans (at words k) (at words l) v b c ]
