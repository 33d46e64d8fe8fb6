-- Blocks, which are skipped.
use Rattle.std.proofs.Common.{◌≡◌, ℕ, zero, suc, ◌<◌, ◌≤◌, ◌==◌, Bool, true, false, if◌then◌else◌, List, [], ◌∷◌, length, Option, Some, None, refl, ap, ◌∙◌, arith}
use Rattle.std.specs.Prelude.{codes}
use Rattle.lex_semantics.specs.Reading.{begins}
use Rattle.lexspec_lines.specs.Lines.{line_in, after_block}

abbrev Split : Type 0
Split = List ℕ × List ℕ

abbrev choose : Bool → Split → Split → Split
choose b x y = if b then x else y

pub line_shorter : (c : ℕ) (t : List ℕ) → length (line_in (c ∷ t)).1 ≤ length t
line_shorter c t =
    elim (c == 10) as (λ b. length (choose b ([], t) (c ∷ (line_in t).0, (line_in t).1)).1 ≤ length t) [
      | true ↦ omega arith
      | false ↦ rest t
    ]
  where
    rest : (t : List ℕ) → length (line_in t).1 ≤ length t
    rest [] = omega arith
    rest (d ∷ t) =
        elim (d == 10) as (λ b. length (choose b ([], t) (d ∷ (line_in t).0, (line_in t).1)).1 ≤ length (d ∷ t)) [
          | true ↦ omega arith
          | false ↦ omega (arith, rest t)
        ]

-- after one line of a block
abbrev past_line : ℕ → Split → Option (List ℕ)
past_line n s = if begins (codes "%}") s.0 then Some s.1 else after_block n s.1

block_step : (n c : ℕ) (t : List ℕ) → after_block (suc n) (c ∷ t) ≡ past_line n (line_in (c ∷ t))
unfolding after_block
block_step n c t = refl

pub block_same : (m n : ℕ) (t : List ℕ) → length t < m → length t < n → after_block m t ≡ after_block n t
unfolding after_block
block_same zero n t h k = absurd (omega arith)
block_same (suc m) zero t h k = absurd (omega arith)
block_same (suc m) (suc n) [] h k = refl
block_same (suc m) (suc n) (c ∷ t) h k =
    ap (λ (o : Option (List ℕ)). if begins (codes "%}") (line_in (c ∷ t)).0 then Some (line_in (c ∷ t)).1 else o)
    (block_same m n (line_in (c ∷ t)).1 (omega (arith, line_shorter c t)) (omega (arith, line_shorter c t)))

-- a line that does not end the block is passed over
pub block_goes : (t text rest : List ℕ) → (length t ≡ 0 → ⊥) → ◌≡◌ {A = Split} (line_in t) (text, rest) → begins (codes "%}") text ≡ false → length rest < length t
    → after_block (suc (length t)) t ≡ after_block (suc (length rest)) rest
block_goes [] text rest h e off shorter = absurd (h refl)
block_goes (c ∷ t) text rest h e off shorter =
    let here : past_line (suc (length t)) (text, rest) ≡ after_block (suc (length t)) rest = rw off refl in
    block_step (suc (length t)) c t ∙ ap (past_line (suc (length t))) e ∙ here ∙ block_same (suc (length t)) (suc (length rest)) rest (omega arith) (omega arith)

pub block_ends : (t text rest : List ℕ) → (length t ≡ 0 → ⊥) → ◌≡◌ {A = Split} (line_in t) (text, rest) → begins (codes "%}") text ≡ true → after_block (suc (length t)) t ≡ Some rest
block_ends [] text rest h e on = absurd (h refl)
block_ends (c ∷ t) text rest h e on =
    let here : past_line (suc (length t)) (text, rest) ≡ Some rest = rw on refl in
    block_step (suc (length t)) c t ∙ ap (past_line (suc (length t))) e ∙ here

pub block_open : (t : List ℕ) → length t ≡ 0 → after_block (suc (length t)) t ≡ None
unfolding after_block
block_open [] h = refl
block_open (c ∷ t) h = absurd (omega arith)
