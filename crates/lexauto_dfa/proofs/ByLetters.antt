-- Blocks that are cut by one letter after another, and blocks that no letter cuts any more.
use Rattle.std.proofs.Common.{◌≡◌, ℕ, zero, suc, ◌+◌, ◌<◌, Bool, true, List, length, slice_index, sym, subst, arith}
use Rattle.lexauto_dfa.specs.declared.least.blocks.Blocks.{Blocks}
use Rattle.lexauto_dfa.specs.declared.least.sources.Letter.{Letter}
use Rattle.lexauto_dfa.specs.Arranged.{Arranged, IsAlone, IsTouched, count, states, block_of}
use Rattle.lexauto_dfa.specs.Going.{Counts}
use Rattle.lexauto_dfa.specs.Letters.{AreLetters, IsMembership, machine, row_of}
use Rattle.lexauto_dfa.specs.Sources.{Has}
use Rattle.lexauto_dfa.specs.Splits.{Cuts, Using}
use Rattle.lexauto_dfa.proofs.GoesOn.{both_true}
use Rattle.lexauto_dfa.proofs.Rounds.{letter_step}

-- where each marked state is alone in its block, blocks stay
pub nothing_cut : (b : Blocks) (waiting : ℕ → Type 0) (m : ℕ → Bool) → ((x : ℕ) → x < states b → m x ≡ true → IsAlone b x) → Cuts (states b) (block_of b) (block_of b) m waiting waiting
nothing_cut b waiting m alone = record {
  finer = λ x y hx hy e. (
    e,
    both_true (m x) (m y)
        (λ t. subst (λ (z : ℕ). m z ≡ true) (sym (alone x hx t y hy (sym e))) t)
        (λ t. subst (λ (z : ℕ). m z ≡ true) (sym (alone y hy t x hx e)) t),
  );
  no_finer = λ x y hx hy e k. e;
  waits = λ x h w. w;
  one_waits = λ x y hx hy e ne. absurd (ne e);
}

-- The blocks were cut by the letters below k.
pub record CutBy (letters : List Letter) (targets : List ℕ) (old : Blocks) (waited : List ℕ) (blocks : Blocks) (waiting : List ℕ) (k : ℕ) : Type 0 where
  pub arranged : Arranged blocks
  pub untouched : (c : ℕ) → c < count blocks → IsTouched blocks c → ⊥
  pub counts : Counts old waited blocks waiting
  pub used : (labels : List ℕ) (coarse : ℕ → ℕ) (inside : ℕ → Bool) → length labels ≡ states old → IsMembership inside targets (states old)
      → Using (machine letters labels) (block_of old) (Has waited) coarse inside 0
      → Using (machine letters labels) (block_of blocks) (Has waiting) coarse inside k

module _ (letters : List Letter) (targets : List ℕ) (old : Blocks) (waited : List ℕ) (blocks : Blocks) (waiting : List ℕ) (rows : AreLetters letters (states old)) where
  -- where each state that goes to a target by a letter is alone in its block, the letter cuts nothing
  pub passed_over : (k : ℕ) → k < length letters → ((x : ℕ) → x < states old → Has targets (slice_index (row_of letters k) x) → IsAlone blocks x)
      → CutBy letters targets old waited blocks waiting k → CutBy letters targets old waited blocks waiting (k + 1)
  passed_over k low alone so =
      let same = so.counts.same_states in
      record {
        arranged = so.arranged;
        untouched = so.untouched;
        counts = so.counts;
        used = λ labels coarse inside len tells u.
            letter_step letters labels (states old) len rows coarse inside (block_of blocks) (block_of blocks) (Has waiting) (Has waiting) targets k low tells
            (λ m is. subst (λ (n : ℕ). Cuts n (block_of blocks) (block_of blocks) m (Has waiting) (Has waiting)) same
            (nothing_cut blocks (Has waiting) m (λ x h marked. (let less : x < states old = omega (arith, same, h) in alone x less ((is x less).0 marked)))))
            (so.used labels coarse inside len tells u);
      }

  -- so it is of all letters that are left
  pub all_passed : ((a x : ℕ) → a < length letters → x < states old → Has targets (slice_index (row_of letters a) x) → IsAlone blocks x)
      → (left k : ℕ) → k + left ≡ length letters → CutBy letters targets old waited blocks waiting k → CutBy letters targets old waited blocks waiting (length letters)
  all_passed alone zero k all so = subst (λ (n : ℕ). CutBy letters targets old waited blocks waiting n) (let e : k ≡ length letters = omega (arith, all) in e) so
  all_passed alone (suc left) k all so = all_passed alone left (k + 1) (omega (arith, all)) (passed_over k (omega (arith, all)) (λ x h has. alone k x (omega (arith, all)) h has) so)
