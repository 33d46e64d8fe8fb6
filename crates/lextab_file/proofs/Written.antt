-- One thing written after another.
use Rattle.std.proofs.Common.{◌≡◌, ℕ, zero, suc, ◌+◌, ◌<◌, ◌≤◌, List, [], ◌∷◌, ◌++◌, length, take, drop, get_or, Result, Ok, Err, refl, sym, ap, subst, ◌∙◌, append_assoc, append-nil, arith}
use Rattle.std.specs.List.{flat_map}
use Rattle.std.proofs.lemmas.List.{take_more, take-append-drop, take_all}
use Rattle.std.proofs.lemmas.List.Concat.{flat_map-append, flat_map-cons}
use Rattle.lex_io.specs.Sink.{Appended}
use Rattle.lex_semantics.specs.Text.{BeginsWith}

-- a prefix of the bytes was written
abbrev pub Begun : (List ℕ → Type 0) → List ℕ → Type 0
Begun P bytes = (front : List ℕ) × BeginsWith bytes front × P front

-- the first of two was not written whole
pub begun_first : (P : List ℕ → Type 0) (a' a b : List ℕ) → a' ≡ a → Begun P a' → Begun P (a ++ b)
begun_first P a' a b e h = (h.0, (h.1.0 ++ b, ap (λ (x : List ℕ). x ++ b) (sym e ∙ h.1.1) ∙ append_assoc h.0 h.1.0 b), h.2)

module _ {S : Type 0} (wrote : S → List ℕ → S → Type 0) (more : (s t u : S) (xs ys : List ℕ) → wrote s xs t → wrote t ys u → wrote s (xs ++ ys) u) where
  -- the second of two was not written whole
  pub begun_then : (s t u : S) (a b : List ℕ) → wrote s a t → Begun (λ xs. wrote t xs u) b → Begun (λ xs. wrote s xs u) (a ++ b)
  begun_then s t u a b h k = (a ++ k.0, (k.1.0, ap (λ (x : List ℕ). a ++ x) k.1.1 ∙ sym (append_assoc a k.0 k.1.0)), more s t u a k.0 h k.2)

  -- the second of two, whole or not
  pub appended_then : {T E : Type 0} (s t u : S) (a' a b' b : List ℕ) (r : Result T E) → a' ≡ a → b' ≡ b → wrote s a' t → Appended (λ xs. wrote t xs u) b' r → Appended (λ xs. wrote s xs u) (a ++ b) r
  appended_then s t u a' a b' b (Ok v) e f h k = subst (λ (z : List ℕ). wrote s (a ++ z) u) f (subst (λ (z : List ℕ). wrote s (z ++ b') u) e (more s t u a' b' h k))
  appended_then s t u a' a b' b (Err x) e f h k = begun_then s t u a b (subst (λ (z : List ℕ). wrote s z t) e h) (subst (λ (z : List ℕ). Begun (λ xs. wrote t xs u) z) f k)

  module _ {X : Type 0} (text : X → List ℕ) (xs : List X) (i : ℕ) (x : X) (lt : i < length xs) (is : x ≡ get_or xs i x) where
    one_more : flat_map text (take (i + 1) xs) ≡ flat_map text (take i xs) ++ text x
    one_more = ap (flat_map text) (take_more xs i x lt ∙ ap (λ (y : X). take i xs ++ y ∷ []) (sym is)) ∙ flat_map-append text (take i xs) (x ∷ []) ∙ ap (λ (z : List ℕ). flat_map text (take i xs) ++ z) (flat_map-cons text x [] ∙ append-nil (text x))

    -- a loop over xs writes one more
    pub loop_more : (s t u : S) → wrote s (flat_map text (take i xs)) t → wrote t (text x) u → wrote s (flat_map text (take (i + 1) xs)) u
    loop_more s t u h k = subst (λ (z : List ℕ). wrote s z u) (sym one_more) (more s t u _ _ h k)

    -- a loop over xs fails in the middle of one
    pub loop_fails : (s t u : S) → wrote s (flat_map text (take i xs)) t → Begun (λ ys. wrote t ys u) (text x) → Begun (λ ys. wrote s ys u) (flat_map text xs)
    loop_fails s t u h k =
        let whole : flat_map text xs ≡ flat_map text (take (i + 1) xs) ++ flat_map text (drop (i + 1) xs) = ap (flat_map text) (sym (take-append-drop (i + 1) xs)) ∙ flat_map-append text (take (i + 1) xs) (drop (i + 1) xs) in
        let so_far = begun_then s t u (flat_map text (take i xs)) (text x) h k in
        subst (λ (z : List ℕ). Begun (λ ys. wrote s ys u) z) (sym whole) (begun_first (λ ys. wrote s ys u) _ (flat_map text (take (i + 1) xs)) (flat_map text (drop (i + 1) xs)) (sym one_more) so_far)

  pub loop_done : {X : Type 0} (text : X → List ℕ) (xs : List X) (i : ℕ) (s t : S) → length xs ≤ i → wrote s (flat_map text (take i xs)) t → wrote s (flat_map text xs) t
  loop_done text xs i s t le h = subst (λ ys. wrote s (flat_map text ys) t) (take_all i xs le) h

-- within a list the default does not count
pub either_default : {X : Type 0} (xs : List X) (i : ℕ) (d e : X) → i < length xs → get_or xs i d ≡ get_or xs i e
either_default [] i d e h = absurd (omega arith)
either_default (x ∷ xs) zero d e h = refl
either_default (x ∷ xs) (suc i) d e h = either_default xs i d e (omega arith)

pub same_wrote : {S : Type 0} (wrote : S → List ℕ → S → Type 0) (s t : S) (a' a : List ℕ) → a' ≡ a → wrote s a' t → wrote s a t
same_wrote wrote s t a' a e h = subst (λ (z : List ℕ). wrote s z t) e h
