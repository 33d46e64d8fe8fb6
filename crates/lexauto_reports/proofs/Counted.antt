-- The automaton that counts bytes.
use Rattle.std.proofs.Common.{◌≡◌, ◌<◌, ◌≤◌, ◌+◌, ◌*◌, ◌/◌, ◌%◌, ℕ, List, [], ◌∷◌, ◌++◌, length, sym, ap, refl, ◌∙◌, arith}
use Rattle.std.specs.Prelude.{min}
use Rattle.lex_semantics.proofs.Texts.{is_text_append}
use Rattle.lexauto_dfa.specs.Automata.{bare}
use Rattle.lexauto_dfa.specs.Parts.{start, next, after}
use Rattle.lexauto_dfa.specs.declared.dfa.Parts.{Parts}
use Rattle.lexauto_reports.specs.BackWords.{IsWordTo}
use Rattle.lexauto_reports.specs.Counting.{step, walk, LeadsTo}

step_is : (p : Parts) (s n b : ℕ) → n ≤ 2 → step p (3 * s + n) b ≡ 3 * next p s b + min (n + 1) 2
step_is p s n b low =
    let d : (3 * s + n) / 3 ≡ s = omega (arith, low) in
    let m : (3 * s + n) % 3 ≡ n = omega (arith, low) in
    ap (λ (t : ℕ). 3 * next p t b + min ((3 * s + n) % 3 + 1) 2) d ∙ ap (λ (k : ℕ). 3 * next p s b + min (k + 1) 2) m

walk_is : (p : Parts) (s n : ℕ) (w : List ℕ) → n ≤ 2 → walk p (3 * s + n) w ≡ 3 * after p s w + min (n + length w) 2
walk_is p s n [] low = let e : n ≡ min (n + 0) 2 = omega (arith, low) in ap (λ (k : ℕ). 3 * s + k) e
walk_is p s n (b ∷ w) low =
    let m : min (n + 1) 2 ≤ 2 = omega arith in
    let e : min (min (n + 1) 2 + length w) 2 ≡ min (n + length (b ∷ w)) 2 = omega arith in
    ap (λ (x : ℕ). walk p x w) (step_is p s n b low) ∙ walk_is p (next p s b) (min (n + 1) 2) w m ∙ ap (λ (k : ℕ). 3 * after p (next p s b) w + k) e

pub from_start : (p : Parts) (s : ℕ) (w : List ℕ) → walk p (3 * s) w ≡ 3 * after p s w + min (length w) 2
from_start p s w =
    let e : 3 * s ≡ 3 * s + 0 = omega arith in
    let n : min (0 + length w) 2 ≡ min (length w) 2 = omega arith in
    ap (λ (x : ℕ). walk p x w) e ∙ walk_is p s 0 w (omega arith) ∙ ap (λ (k : ℕ). 3 * after p s w + k) n

pub leads_from : (p : Parts) (s : ℕ) (w : List ℕ) → LeadsTo p w (3 * s + 2) → IsWordTo (bare p) s w
leads_from p s w (y, (c, line_start, known, e), text, is) =
    let there : 3 * after p (start p c line_start) w + min (length w) 2 ≡ 3 * s + 2 = sym (from_start p (start p c line_start) w) ∙ ap (λ (x : ℕ). walk p x w) (sym e) ∙ is in
    (c, line_start, known, text, omega (arith, there), omega (arith, there))

pub leads_into : (p : Parts) (s : ℕ) (w : List ℕ) → IsWordTo (bare p) s w → LeadsTo p w (3 * s + 2)
leads_into p s w (c, line_start, known, text, two, is) =
    let there = from_start p (start p c line_start) w in
    (3 * start p c line_start, (c, line_start, known, refl), text, omega (arith, there, two, is))

walk_more : (p : Parts) (x : ℕ) (w : List ℕ) (b : ℕ) → walk p x (w ++ b ∷ []) ≡ step p (walk p x w) b
walk_more p x [] b = refl
walk_more p x (c ∷ w) b = walk_more p (step p x c) w b

pub leads_more : (p : Parts) (w : List ℕ) (x b : ℕ) → b < 256 → LeadsTo p w x → LeadsTo p (w ++ b ∷ []) (step p x b)
leads_more p w x b low (y, known, text, is) = (y, known, is_text_append w (b ∷ []) text (low, tt), walk_more p y w b ∙ ap (λ (z : ℕ). step p z b) is)
