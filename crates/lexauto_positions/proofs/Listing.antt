-- One set more.
use Rattle.std.proofs.Common.{◌≡◌, ◌+◌, ◌||◌, ℕ, Bool, List, [], ◌∷◌, ◌++◌, length, sym, ap, ◌∙◌, arith}
use Rattle.std.specs.Prelude.{◌&&◌, ◌==◌}
use Rattle.lex_semantics.specs.ByteSets.{ByteSet, has}
use Rattle.lex_semantics.specs.Tree.{Tree, Set}
use Rattle.lexauto_positions.specs.RuleFlow.{reads}
use Rattle.lexauto_positions.specs.Letters.{reads_at}
use Rattle.lexauto_positions.proofs.Copies.{or_false, or_assoc}

reads_push : (xs : List ByteSet) (s : ByteSet) (b q base : ℕ) → reads_at (xs ++ s ∷ []) b q base ≡ (reads_at xs b q base || (has s b && (q == base + length xs)))
reads_push [] s b q base =
    let e : base ≡ base + 0 = omega arith in
    or_false (has s b && (q == base)) ∙ ap (λ (n : ℕ). has s b && (q == n)) e
reads_push (x ∷ xs) s b q base =
    let e : base + 1 + length xs ≡ base + length (x ∷ xs) = omega arith in
    let here = has x b && (q == base) in
    ap (λ (j : Bool). here || j) (reads_push xs s b q (base + 1))
    ∙ sym (or_assoc here (reads_at xs b q (base + 1)) (has s b && (q == base + 1 + length xs)))
    ∙ ap (λ (n : ℕ). reads_at (x ∷ xs) b q base || (has s b && (q == n))) e

-- the set of a letter
pub reads_letter : (xs : List ByteSet) (s : ByteSet) (t : Tree) → t ≡ Set s → (b q : ℕ) → reads_at (xs ++ s ∷ []) b q 0 ≡ (reads_at xs b q 0 || reads t b q (length xs))
reads_letter xs s t e b q =
    let z : 0 + length xs ≡ length xs = omega arith in
    reads_push xs s b q 0
    ∙ ap (λ (n : ℕ). reads_at xs b q 0 || (has s b && (q == n))) z
    ∙ ap (λ (u : Tree). reads_at xs b q 0 || reads u b q (length xs)) (sym e)
