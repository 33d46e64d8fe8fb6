-- How the last positions of a specification move, over the position automata of its rules.
use Rattle.std.specs.Prelude.{◌≢◌, ◌↔◌}
use Rattle.std.proofs.Common.{ℕ, ◌+◌, Bool, List, [], ◌∷◌, ◌++◌}
use Rattle.lex_semantics.specs.Positions.{MarkedByte, Readings, ReadsWord}
use Rattle.lex_semantics.specs.Spec.{Spec}
use Rattle.lex_semantics.specs.Rules.{Live}
use Rattle.lex_semantics.specs.Sound.{IsSound}
use Rattle.lex_semantics.specs.Subsets.{IsLast, ReadsActive, all_positions}
use Rattle.lexauto_positions.specs.RuleAutomaton.{active_quad, is_active, active_automaton, automaton}
use Rattle.lexauto_positions.proofs.ActiveRules.{ReadsSomeRule, AreSound, active_is, active_finishes, last_step, last_goes_on}
use Rattle.lexauto_positions.proofs.LastPositions.{GoesOn, begin_is, starts_is}
use Rattle.lexauto_positions.proofs.Meaning.{active_some, live_goes_on, sound_rules}

-- the last positions under readings that are the same
pub same_last : (A B : Readings) → ((rs : List MarkedByte) → A rs ↔ B rs) → (w : List ℕ) (p : ℕ) → IsLast A w p ↔ IsLast B w p
same_last A B same w p = (
  λ (rs, zs, b, e, h). (rs, zs, b, e, (same (rs ++ (b, p) ∷ zs)).0 h),
  λ (rs, zs, b, e, h). (rs, zs, b, e, (same (rs ++ (b, p) ∷ zs)).1 h),
)

same_word : (A B : Readings) → ((rs : List MarkedByte) → A rs ↔ B rs) → (w : List ℕ) → ReadsWord A w ↔ ReadsWord B w
same_word A B same w = (λ (rs, e, h). (rs, e, (same rs).0 h), λ (rs, e, h). (rs, e, (same rs).1 h))

same_goes_on : (A B : Readings) → ((rs : List MarkedByte) → A rs ↔ B rs) → (w : List ℕ) → GoesOn A w ↔ GoesOn B w
same_goes_on A B same w = (λ (z, some, h). (z, some, (same_word A B same (w ++ z)).0 h), λ (z, some, h). (z, some, (same_word A B same (w ++ z)).1 h))

module _ (S : Spec) (sound : IsSound S) (c : ℕ) (line_start : Bool) where
  all_sound : AreSound S.rules
  all_sound = sound_rules S.rules _ sound.rules

  last_is : (w : List ℕ) (p : ℕ) → IsLast (ReadsActive S c line_start) w p ↔ IsLast (ReadsSomeRule (is_active S c line_start) 0 0 S.rules) w p
  last_is w p = same_last (ReadsActive S c line_start) (ReadsSomeRule (is_active S c line_start) 0 0 S.rules) (active_some S c line_start) w p

  -- after one byte
  pub first_move : (b q : ℕ) → IsLast (ReadsActive S c line_start) (b ∷ []) q
      ↔ ((active_automaton S c line_start).first q × (active_automaton S c line_start).letter (b, q))
  first_move b q =
      let own : ℕ → Bool = is_active S c line_start in
      let r = begin_is (active_quad own 0 0 S.rules) (ReadsSomeRule own 0 0 S.rules) 0 (0 + all_positions S.rules) (active_is own 0 0 S.rules) (active_finishes own 0 0 S.rules all_sound) b q in
      (λ h. r.0 ((last_is (b ∷ []) q).0 h), λ h. (last_is (b ∷ []) q).1 (r.1 h))

  -- after one byte more
  pub move : (w : List ℕ) (b q : ℕ) → w ≢ [] → IsLast (ReadsActive S c line_start) (w ++ b ∷ []) q
      ↔ ((automaton S).letter (b, q) × ((p : ℕ) × IsLast (ReadsActive S c line_start) w p × (automaton S).follow p q))
  move w b q some =
      let own : ℕ → Bool = is_active S c line_start in
      let r = last_step own S.rules all_sound w b q some in (
        λ h. (let k = r.0 ((last_is (w ++ b ∷ []) q).0 h) in (k.0, (k.1.0, (last_is w k.1.0).1 k.1.1, k.1.2))),
        λ (l, (p, last, follow)). (last_is (w ++ b ∷ []) q).1 (r.1 (l, (p, (last_is w p).0 last, follow))),
      )

  -- a word is live where some position follows one that it left
  pub live_after : (w : List ℕ) → w ≢ [] → Live S c line_start w ↔ ((p q : ℕ) × IsLast (ReadsActive S c line_start) w p × (automaton S).follow p q)
  live_after w some =
      let own : ℕ → Bool = is_active S c line_start in
      let r = last_goes_on own S.rules all_sound w some in
      let live = live_goes_on S c line_start w in
      let same = same_goes_on (ReadsActive S c line_start) (ReadsSomeRule own 0 0 S.rules) (active_some S c line_start) w in (
        λ h. (let k = r.0 (same.0 (live.0 h)) in (k.0, k.1, (last_is w k.0).1 k.2, k.3)),
        λ (p, q, last, follow). live.1 (same.1 (r.1 (p, q, (last_is w p).0 last, follow))),
      )

  -- and the empty word where some rule has a first position
  pub live_first : Live S c line_start [] ↔ ((q : ℕ) × (active_automaton S c line_start).first q)
  live_first =
      let own : ℕ → Bool = is_active S c line_start in
      let r = starts_is (active_quad own 0 0 S.rules) (ReadsSomeRule own 0 0 S.rules) 0 (0 + all_positions S.rules) (active_is own 0 0 S.rules) (active_finishes own 0 0 S.rules all_sound) in
      let live = live_goes_on S c line_start [] in
      let same = same_goes_on (ReadsActive S c line_start) (ReadsSomeRule own 0 0 S.rules) (active_some S c line_start) [] in
      (λ h. r.0 (same.0 (live.0 h)), λ h. live.1 (same.1 (r.1 h)))
