-- What legal actions keep to, one statement at a time.
use Rattle.std.proofs.Common.{◌≡◌, ℕ, ◌≤◌, ◌<◌, Bool, true, false, List, [], ◌∷◌, ◌⊎◌, inl, inr, refl}
use Rattle.std.specs.Prelude.{not, ◌&&◌, ◌||◌, nat_le, ⊤}
use Rattle.std.proofs.lemmas.Bool.{ltb-true, leb-true, and_parts}
use Rattle.lex_semantics.specs.Spec.{Statement, Echo, Print, Begin, More, Less, Reject, End, Push, Pop, has_reject}
use Rattle.lex_semantics.specs.Legal.{in_range, all_in_range, has_less, has_more, count_less, IsAction, IsLegal}

-- each yyless keeps at least one byte
abbrev pub LessFromOne : List Statement → Type 0
LessFromOne [] = ⊤
LessFromOne (Less n ∷ ss) = (1 ≤ n) × LessFromOne ss
LessFromOne (Echo ∷ ss) = LessFromOne ss
LessFromOne (Print s ∷ ss) = LessFromOne ss
LessFromOne (Begin d ∷ ss) = LessFromOne ss
LessFromOne (More ∷ ss) = LessFromOne ss
LessFromOne (Reject ∷ ss) = LessFromOne ss
LessFromOne (End s ∷ ss) = LessFromOne ss
LessFromOne (Push d ∷ ss) = LessFromOne ss
LessFromOne (Pop ∷ ss) = LessFromOne ss

-- each BEGIN and each push names a condition
abbrev pub BeginsBelow : ℕ → List Statement → Type 0
BeginsBelow n [] = ⊤
BeginsBelow n (Begin d ∷ ss) = (d < n) × BeginsBelow n ss
BeginsBelow n (Echo ∷ ss) = BeginsBelow n ss
BeginsBelow n (Print s ∷ ss) = BeginsBelow n ss
BeginsBelow n (More ∷ ss) = BeginsBelow n ss
BeginsBelow n (Less m ∷ ss) = BeginsBelow n ss
BeginsBelow n (Reject ∷ ss) = BeginsBelow n ss
BeginsBelow n (End s ∷ ss) = BeginsBelow n ss
BeginsBelow n (Push d ∷ ss) = (d < n) × BeginsBelow n ss
BeginsBelow n (Pop ∷ ss) = BeginsBelow n ss

pub less_from_one : (n : ℕ) (ss : List Statement) → all_in_range n ss ≡ true → LessFromOne ss
less_from_one n [] h = tt
less_from_one n (Less k ∷ ss) h =
    let both = and_parts (in_range n (Less k)) (all_in_range n ss) h in
    let bounds = and_parts (nat_le 1 k) (nat_le k 65535) both.0 in
    (leb-true 1 k bounds.0, less_from_one n ss both.1)
less_from_one n (Echo ∷ ss) h = less_from_one n ss h
less_from_one n (Print s ∷ ss) h = less_from_one n ss (and_parts (in_range n (Print s)) (all_in_range n ss) h).1
less_from_one n (Begin d ∷ ss) h = less_from_one n ss (and_parts (in_range n (Begin d)) (all_in_range n ss) h).1
less_from_one n (More ∷ ss) h = less_from_one n ss h
less_from_one n (Reject ∷ ss) h = less_from_one n ss h
less_from_one n (End s ∷ ss) h = less_from_one n ss (and_parts (in_range n (End s)) (all_in_range n ss) h).1
less_from_one n (Push d ∷ ss) h = less_from_one n ss (and_parts (in_range n (Push d)) (all_in_range n ss) h).1
less_from_one n (Pop ∷ ss) h = less_from_one n ss h

pub begins_below : (n : ℕ) (ss : List Statement) → all_in_range n ss ≡ true → BeginsBelow n ss
begins_below n [] h = tt
begins_below n (Begin d ∷ ss) h =
    let both = and_parts (in_range n (Begin d)) (all_in_range n ss) h in
    (ltb-true d n both.0, begins_below n ss both.1)
begins_below n (Echo ∷ ss) h = begins_below n ss h
begins_below n (Print s ∷ ss) h = begins_below n ss (and_parts (in_range n (Print s)) (all_in_range n ss) h).1
begins_below n (Less k ∷ ss) h = begins_below n ss (and_parts (in_range n (Less k)) (all_in_range n ss) h).1
begins_below n (More ∷ ss) h = begins_below n ss h
begins_below n (Reject ∷ ss) h = begins_below n ss h
begins_below n (End s ∷ ss) h = begins_below n ss (and_parts (in_range n (End s)) (all_in_range n ss) h).1
begins_below n (Push d ∷ ss) h =
    let both = and_parts (in_range n (Push d)) (all_in_range n ss) h in
    (ltb-true d n both.0, begins_below n ss both.1)
begins_below n (Pop ∷ ss) h = begins_below n ss h

not_both : (a b : Bool) → not (a && b) ≡ true → (a ≡ false) ⊎ (b ≡ false)
not_both true true h = absurd (no h)
  where
    no : false ≡ true → ⊥
    no e = cc
not_both true false h = inr refl
not_both false b h = inl refl

-- an action in normal form is an action
pub action_of : (n : ℕ) (ss : List Statement) → IsLegal n ss → IsAction n ss
action_of n ss legal = legal.0

-- yyless and yymore don't stand in one action
pub apart : (n : ℕ) (ss : List Statement) → IsAction n ss → (has_less ss ≡ false) ⊎ (has_more ss ≡ false)
apart n ss h =
    let first = and_parts (not (has_reject ss && (has_more ss || has_less ss)) && not (has_less ss && has_more ss)) (nat_le (count_less ss) 1) h.compatible in
    let second = and_parts (not (has_reject ss && (has_more ss || has_less ss))) (not (has_less ss && has_more ss)) first.0 in
    not_both (has_less ss) (has_more ss) second.1

-- the default rule's action is one
pub echo_legal : (n : ℕ) → IsAction n (Echo ∷ [])
echo_legal n = record { ranges = refl; last = refl; compatible = refl }
