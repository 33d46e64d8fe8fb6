-- The first fault of a text that has no cutting, piece by piece.
use Rattle.std.proofs.Common.{◌≡◌, ℕ, zero, suc, ◌+◌, ◌-◌, ◌<◌, ◌≤◌, ◌&&◌, Bool, true, false, nat_lt, if◌then◌else◌, List, length, drop, length-drop, Option, Some, None, refl, sym, ap, ◌∙◌, subst, arith, lt-ltb}
use Rattle.std.specs.Prelude.{codes, option_map}
use Rattle.lex_semantics.specs.Reading.{◌>>=◌, begins}
use Rattle.lexre_bytes.specs.Unread.{Fault, unread, after_byte, after_part, fault_inside}
use Rattle.lexre_bytes.specs.declared.error.PatternErrorKind.{PatternErrorKind}
use Rattle.lexre_bytes.specs.declared.error.PatternErrorKind.TheVariants.{UnclosedQuote, UnclosedClass, BadEscape, MisplacedSlash}
use Rattle.lexre_bytes.proofs.UnreadLaws.{byte_takes, part_takes, unread_within}
use Rattle.lexre.specs.Cutting.{deeper, ends_pattern, piece_at}
use Rattle.lexre.specs.CuttingFaults.{piece_fault, fault_from, placed, cutting_fault}
use Rattle.lexre.specs.CuttingSoFar.{depth_past}
use Rattle.lexre.specs.Pieces.{Piece, opens, closes, slash, dollar, other, kind_of, kind_at, IsEnd}
use Rattle.lexre.proofs.PieceLaws.{Looks, looks, front_of, end_of, ends_of, kind_is}

abbrev Cut : Type 0
Cut = Option (List ℕ × List ℕ)

abbrev is_inside : ℕ → List ℕ → Bool
is_inside n t = begins (codes "/") t && nat_lt 0 n

abbrev passed : ℕ → ℕ → List ℕ → List ℕ → Option Fault
passed bound n t rest = if is_inside n t then Some (MisplacedSlash, t) else fault_from bound (deeper n t) rest

abbrev after_piece : ℕ → ℕ → List ℕ → Cut → Option Fault
after_piece bound n t o = elim o [
  | None ↦ Some (piece_fault t)
  | Some x ↦ passed bound n t x.1
]

-- the number that bounds the pieces tells nothing once there is room
enough : (i j n : ℕ) (t : List ℕ) → length t < i → length t < j → fault_from i n t ≡ fault_from j n t
unfolding fault_from
enough zero j n t h k = absurd (omega arith)
enough (suc i) zero n t h k = absurd (omega arith)
enough (suc i) (suc j) n t h k = go (ends_pattern t) (after_piece i n t (piece_at t)) (after_piece j n t (piece_at t)) (pieces (λ m rest a b. enough i j m rest a b) (piece_at t) refl)
  where
    inner : (b : Bool) (x y : Option Fault) → x ≡ y → (if b then Some (MisplacedSlash, t) else x) ≡ (if b then Some (MisplacedSlash, t) else y)
    inner true x y e = refl
    inner false x y e = e

    pieces : ((m : ℕ) (rest : List ℕ) → length rest < i → length rest < j → fault_from i m rest ≡ fault_from j m rest) → (o : Cut) → ◌≡◌ {A = Cut} (piece_at t) o → after_piece i n t o ≡ after_piece j n t o
    pieces more None e = refl
    pieces more (Some x) e =
        let shorter = (front_of t x.0 x.1 e).1 in
        inner (is_inside n t) (fault_from i (deeper n t) x.1) (fault_from j (deeper n t) x.1) (more (deeper n t) x.1 (omega arith) (omega arith))

    go : (b : Bool) (x y : Option Fault) → x ≡ y → (if b then None else x) ≡ (if b then None else y)
    go true x y e = refl
    go false x y e = e

-- the first fault from a text on
abbrev pub from : ℕ → List ℕ → Option Fault
from n t = fault_from (suc (length t)) n t

pub at_end : (n : ℕ) (t : List ℕ) → IsEnd t → from n t ≡ None
unfolding fault_from
at_end n t h = rw (end_of t h) refl

goes_on : (t : List ℕ) → (IsEnd t → ⊥) → ends_pattern t ≡ false
goes_on t h = go (ends_pattern t) refl
  where
    go : (b : Bool) → ends_pattern t ≡ b → b ≡ false
    go true e = absurd (h (ends_of t e))
    go false e = refl

piece_goes_on : (t rest : List ℕ) → ◌≡◌ {A = Cut} (piece_at t) (Some (t, rest)) → ends_pattern t ≡ false
unfolding piece_at
piece_goes_on t rest e = go (ends_pattern t) refl
  where
    none : (x : List ℕ × List ℕ) → ◌≡◌ {A = Cut} None (Some x) → ⊥
    none x f = cc

    nothing : ends_pattern t ≡ true → ◌≡◌ {A = Cut} (piece_at t) None
    nothing h = rw h refl

    go : (b : Bool) → ends_pattern t ≡ b → b ≡ false
    go true h = absurd (none (t, rest) (sym (nothing h) ∙ e))
    go false h = refl

depth_is : (u : List ℕ) (p : Piece) (n : ℕ) → Looks u p → depth_past n p ≡ (if is_inside n u then None else Some (deeper n u))
depth_is u opens n h = rw (h.opening, h.slashed) refl
depth_is u closes n h = rw (h.opening, h.closing, h.slashed) refl
depth_is u slash zero h = rw (h.opening, h.closing, h.slashed) refl
depth_is u slash (suc n) h = rw (h.slashed, lt-ltb 0 (suc n) (omega arith)) refl
depth_is u dollar n h = rw (h.opening, h.closing, h.slashed) refl
depth_is u other n h = rw (h.opening, h.closing, h.slashed) refl

abbrev IsPiece : List ℕ → Piece → List ℕ → Type 0
IsPiece t p rest = ◌≡◌ {A = Option (Piece × List ℕ)} (kind_at t) (Some (p, rest))

at_piece : (n : ℕ) (t rest : List ℕ) (p : Piece) → IsPiece t p rest → from n t ≡ passed (length t) n t rest
unfolding fault_from
at_piece n t rest p found =
    let cut = (kind_is t rest p found).1 in
    rw (piece_goes_on t rest cut) (ap (after_piece (length t) n t) cut)

depth_of : (n : ℕ) (t rest : List ℕ) (p : Piece) → IsPiece t p rest → depth_past n p ≡ (if is_inside n t then None else Some (deeper n t))
depth_of n t rest p found = ap (depth_past n) (kind_is t rest p found).0 ∙ depth_is t (kind_of t) n (looks t)

-- a piece is passed
pub piece_passed : (n m : ℕ) (t rest : List ℕ) (p : Piece) → IsPiece t p rest → depth_past n p ≡ Some m → from n t ≡ from m rest
piece_passed n m t rest p found depth = at_piece n t rest p found ∙ go (is_inside n t) (sym (depth_of n t rest p found) ∙ depth)
  where
    some : (x y : ℕ) → Some x ≡ Some y → x ≡ y
    some x y e = cc

    none : (x : ℕ) → None ≡ Some x → ⊥
    none x e = cc

    shorter : length rest < length t
    shorter = (front_of t t rest (kind_is t rest p found).1).1

    go : (b : Bool) → (if b then None else Some (deeper n t)) ≡ Some m → (if b then Some (MisplacedSlash, t) else fault_from (length t) (deeper n t) rest) ≡ from m rest
    go true d = absurd (none m d)
    go false d = enough (length t) (suc (length rest)) (deeper n t) rest shorter (omega arith) ∙ ap (λ k. from k rest) (some (deeper n t) m d)

-- a slash inside parentheses is told
pub slash_told : (n : ℕ) (t rest : List ℕ) (p : Piece) → IsPiece t p rest → depth_past n p ≡ None → from n t ≡ Some (MisplacedSlash, t)
slash_told n t rest p found depth = at_piece n t rest p found ∙ go (is_inside n t) (sym (depth_of n t rest p found) ∙ depth)
  where
    some : (x : ℕ) → Some x ≡ None → ⊥
    some x e = cc

    go : (b : Bool) → (if b then None else Some (deeper n t)) ≡ None → (if b then Some (MisplacedSlash, t) else fault_from (length t) (deeper n t) rest) ≡ Some (MisplacedSlash, t)
    go true d = refl
    go false d = absurd (some (deeper n t) d)

-- what no piece begins is told
pub piece_told : (n : ℕ) (t : List ℕ) → ◌≡◌ {A = Option (Piece × List ℕ)} (kind_at t) None → (IsEnd t → ⊥) → from n t ≡ Some (piece_fault t)
unfolding fault_from kind_at
piece_told n t none h = rw (goes_on t h) (go (piece_at t) none)
  where
    go : (o : Cut) → ◌≡◌ {A = Option (Piece × List ℕ)} (o >>= λ (u, rest). Some (kind_of t, rest)) None → after_piece (length t) n t o ≡ Some (piece_fault t)
    go None e = refl
    go (Some x) e = cc

-- Places.

abbrev rest_in : Fault → List ℕ
rest_in fault = fault.1

inside_within : (unclosed : PatternErrorKind) (t left : List ℕ) → length left ≤ length t → length (fault_inside unclosed t left).1 ≤ length t
inside_within unclosed t left h = go (begins (codes "\\") left)
  where
    go : (b : Bool) → length (rest_in (if b then (BadEscape, left) else (unclosed, t))) ≤ length t
    go true = h
    go false = omega arith

pub fault_within : (t : List ℕ) → length (piece_fault t).1 ≤ length t
fault_within t = go (begins (codes "\"") t) (begins (codes "[") t)
  where
    go : (q b : Bool) → length (rest_in (if q then fault_inside UnclosedQuote t (unread after_byte (drop 1 t)) else if b then fault_inside UnclosedClass t (unread after_part (drop 1 t)) else (BadEscape, t))) ≤ length t
    go true b = inside_within UnclosedQuote t (unread after_byte (drop 1 t)) (omega (arith, unread_within after_byte byte_takes (drop 1 t), length-drop 1 t))
    go false true = inside_within UnclosedClass t (unread after_part (drop 1 t)) (omega (arith, unread_within after_part part_takes (drop 1 t), length-drop 1 t))
    go false false = omega arith

-- a fault of the rest is one of the whole, at its place there
pub told_of : (text rest : List ℕ) (at : ℕ) (n : ℕ) (fault : Fault) → from 0 text ≡ from n rest → from n rest ≡ Some fault → at + length rest ≡ length text → length fault.1 ≤ length rest
    → cutting_fault text ≡ Some (placed at rest fault)
told_of text rest at n fault same told place within =
    let e : 0 + (length text - length fault.1) ≡ at + (length rest - length fault.1) = omega arith in
    ap (option_map (placed 0 text)) (same ∙ told) ∙ ap (λ k. Some (record { kind = fault.0; at = k })) e

-- A slash stands at its own place.
pub slash_of : (text rest after : List ℕ) (at n : ℕ) (p : Piece) → from 0 text ≡ from n rest → IsPiece rest p after → depth_past n p ≡ None → at + length rest ≡ length text
    → cutting_fault text ≡ Some (record { kind = MisplacedSlash; at = at })
slash_of text rest after at n p same found depth place =
    let e : at + (length rest - length rest) ≡ at = omega arith in
    told_of text rest at n (MisplacedSlash, rest) same (slash_told n rest after p found depth) place (omega arith) ∙ ap (λ k. Some (record { kind = MisplacedSlash; at = k })) e

pub piece_of_text : (text rest : List ℕ) (at n : ℕ) → from 0 text ≡ from n rest → ◌≡◌ {A = Option (Piece × List ℕ)} (kind_at rest) None → (IsEnd rest → ⊥) → at + length rest ≡ length text
    → cutting_fault text ≡ Some (placed at rest (piece_fault rest))
piece_of_text text rest at n same none h place = told_of text rest at n (piece_fault rest) same (piece_told n rest none h) place (fault_within rest)

pub none_of : (text rest : List ℕ) (n : ℕ) → from 0 text ≡ from n rest → IsEnd rest → cutting_fault text ≡ None
none_of text rest n same h = ap (option_map (placed 0 text)) (same ∙ at_end n rest h)

pub one_deeper : (n m : ℕ) (p : Piece) → depth_past n p ≡ Some m → m ≤ n + 1
one_deeper n m p e = go p e
  where
    some : (x y : ℕ) → Some x ≡ Some y → x ≡ y
    some x y e = cc

    is : (x : ℕ) → x ≤ n + 1 → Some x ≡ Some m → m ≤ n + 1
    is x h e = subst (λ k. k ≤ n + 1) (some x m e) h

    slashed : (k : ℕ) → k ≡ n → depth_past k slash ≡ Some m → m ≤ n + 1
    slashed zero h e = is zero (omega arith) e
    slashed (suc k) h e = absurd (none m e)
      where
        none : (x : ℕ) → None ≡ Some x → ⊥
        none x e = cc

    go : (p : Piece) → depth_past n p ≡ Some m → m ≤ n + 1
    go opens e = is (suc n) (omega arith) e
    go closes e = is (n - 1) (omega arith) e
    go slash e = slashed n refl e
    go dollar e = is n (omega arith) e
    go other e = is n (omega arith) e
