-- Names at the end of a pattern, and of the pattern of these.
use Rattle.std.proofs.Common.{◌≡◌, ℕ, suc, ◌+◌, ◌-◌, ◌<◌, ◌≤◌, ◌&&◌, ◌||◌, Bool, true, false, not, List, Option, Some, length, refl, ap, arith, take, take_all}
use Rattle.std.specs.List.{filter}
use Rattle.lexlook_text.specs.Pieces.{pieces_from}
use Rattle.lexlook_check.specs.NamedTrails.{has_branches, last_name, last_piece, loses_bar, pattern_of}

-- a `|` of the pattern of this name divides more
abbrev pub divides : List (ℕ × List ℕ) → Bool × List ℕ → Bool
divides definitions e = not e.0 && has_branches 0 (pieces_from 0 0 (pattern_of definitions e.1))

-- the name at the end of its pattern
abbrev pub name_behind : List (ℕ × List ℕ) → Bool × List ℕ → Option (Bool × List ℕ)
name_behind definitions e = last_name (last_piece e.0 (pieces_from 0 0 (pattern_of definitions e.1)))

-- one name is less left
one_less : (k i : ℕ) → i < k → k - i ≡ suc (k - (i + 1))
one_less k i near = omega (arith, near)

pub stepped : (k i : ℕ) (definitions : List (ℕ × List ℕ)) (e : Bool × List ℕ) → i < k
    → loses_bar (k - i) definitions (Some e) ≡ (divides definitions e || loses_bar (k - (i + 1)) definitions (name_behind definitions e))
stepped k i definitions e near = ap (λ n. loses_bar n definitions (Some e)) (one_less k i near)

pub undivided : (b c : Bool) → b ≡ false → (b || c) ≡ c
undivided true c e = cc
undivided false c e = refl

-- what passes of so many of the elements as there are
pub all_passed : (p : ℕ → Bool) (n : ℕ) (xs : List ℕ) → length xs ≤ n → filter p (take n xs) ≡ filter p xs
all_passed p n xs all = ap (filter p) (take_all n xs all)
