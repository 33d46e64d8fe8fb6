-- What a survey of the keys gives the automaton.
use Rattle.std.specs.Prelude.{◌≡◌, ℕ, ◌+◌, ◌*◌, ◌/◌, ◌%◌, ◌<◌, true, false, List, [], length, Option, slice_index}
use Rattle.std.proofs.Common.{sym, subst, arith}
use Rattle.std.proofs.lemmas.Option.{slice_get_within, slice_get-get_or}
use Rattle.lex_semantics.specs.Spec.{Spec}
use Rattle.lex_semantics.specs.Sound.{IsSound}
use Rattle.lex_semantics.specs.Subsets.{HasSubsets, all_positions}
use Rattle.lexauto.specs.Moving.{followers_in, reading_in}
use Rattle.lexauto.specs.Keys.{Key, At}
use Rattle.lexauto.specs.Explored.{IsExplored, MoreThan, Reached, key_at, step_by}
use Rattle.lexauto.specs.WordKeys.{step_in, IsRoot, AreRoots, AreStartPlaces, Grows, Surveys}
use Rattle.lexauto.proofs.Counting.{root_shape, reached_shape, too_many_subsets}

module _ (S : Spec) (keys : List Key) (next starts line_starts : List ℕ) (s : Surveys S keys next starts line_starts) where
  pub starts_range : (c : ℕ) → c < length starts → slice_index starts c < length keys
  starts_range c h = slice_get_within keys (slice_index starts c) _ (s.automaton.starts (slice_index starts c) _ (s.starts_are c h))

  pub lines_range : (c : ℕ) → c < length line_starts → slice_index line_starts c < length keys
  lines_range c h = slice_get_within keys (slice_index line_starts c) _ (s.automaton.starts (slice_index line_starts c) _ (s.lines_are c h))

  pub next_range : (i : ℕ) → i < length next → slice_index next i < length keys
  next_range i h =
      let len = s.automaton.len in
      let row : i / 256 < length keys = omega (arith, len, h) in
      let byte : i % 256 < 256 = omega arith in
      let there : At keys (i / 256) (key_at keys (i / 256)) = slice_get-get_or keys (i / 256) [] row in
      let at = s.automaton.moves (i / 256) (i % 256) (key_at keys (i / 256)) byte there in
      let same : i / 256 * 256 + i % 256 ≡ i = omega arith in
      slice_get_within keys (slice_index next i) _ (subst (λ (j : ℕ). At keys (slice_index next j) (step_in S (key_at keys (i / 256)) (i % 256))) same at)

module _ (S : Spec) (limit n : ℕ) where
  pub more_roots_than : MoreThan limit (IsRoot S) → HasSubsets S n → limit < n
  more_roots_than (ks, many, apart, roots) s = too_many_subsets S limit n (ks, many, apart, λ i k a. root_shape S k (roots i k a)) s

  pub more_keys_than : IsSound S → (count : ℕ) → all_positions S.rules ≡ count → (roots : List Key) → ((i : ℕ) (k : Key) → At roots i k → IsRoot S k)
      → MoreThan limit (Reached (step_by (followers_in S.rules count) (reading_in S.rules)) roots) → HasSubsets S n → limit < n
  more_keys_than sound count same roots only more s =
      let (ks, many, apart, reached) = subst (λ (m : ℕ). MoreThan limit (Reached (step_by (followers_in S.rules m) (reading_in S.rules)) roots)) (sym same) more in
      too_many_subsets S limit n (ks, many, apart, λ i k a. reached_shape S sound roots only k (reached i k a)) s

pub surveyed : (S : Spec) (count : ℕ) → all_positions S.rules ≡ count → (find : Key → Option ℕ) (old roots keys : List Key) (next starts line_starts : List ℕ)
    → AreRoots S find roots → IsExplored (step_by (followers_in S.rules count) (reading_in S.rules)) roots keys next
    → AreStartPlaces S false old starts → Grows old roots → length starts ≡ length S.conditions
    → AreStartPlaces S true roots line_starts → length line_starts ≡ length S.conditions → Surveys S keys next starts line_starts
surveyed S count same find old roots keys next starts line_starts r automaton first grows first_len second second_len = record {
  roots = roots;
  only = r.only;
  automaton = subst (λ (m : ℕ). IsExplored (step_by (followers_in S.rules m) (reading_in S.rules)) roots keys next) (sym same) automaton;
  dead = r.dead;
  starts_are = λ c h. grows (slice_index starts c) _ (first c h);
  starts_len = first_len;
  lines_are = second;
  lines_len = second_len;
}
