-- The words of the tree of branches.
use Rattle.std.proofs.Common.{◌≡◌, ◌↔◌, ℕ, zero, suc, ◌<◌, ◌≤◌, nat_le, Bool, true, false, if◌then◌else◌, ◌&&◌, ◌||◌, List, [], ◌∷◌, ◌++◌, ◌⊎◌, inl, inr, refl, sym, ap, ◌∙◌, subst, append-nil, arith}
use Rattle.std.proofs.lemmas.Bool.{and_from, and_parts, le-leb, leb-true}
use Rattle.std.specs.List.{AllByRecursion}
use Rattle.lex_semantics.specs.ByteSets.{ByteSet, IsIn, has, range_set, union, within}
use Rattle.lex_semantics.specs.Tree.{Tree, Alt, Cat, In, InEach, InSome, trees}
use Rattle.lexre_bytes.specs.Symbols.{grouped}
use Rattle.lexre_bytes.proofs.SetLaws.{has-set_of}
use Rattle.lexlook_letters.specs.Sequences.{FollowsOne, HasByteOfEach, IsSoundRange, IsSoundSequence, byte_ranges}
use Rattle.lexlook_letters.specs.Text.{Branches, none, last, through, branches_at, bytes_in, choices, class_tree, no_branch, is_one, letters_tree, parts, same_range, with_ranges}
use Rattle.lexlook_letters.specs.declared.sequence.ByteRange.{ByteRange}
use Rattle.lexlook_letters.specs.declared.sequence.Sequence.{Sequence}
use Rattle.lexlook_letters.specs.declared.sequence.Sequence.TheVariants.{One, Two, Three, Four}
use Rattle.lexlook_letters.proofs.Groups.{range_is}
use Rattle.lexlook_letters.proofs.Spelled.{IsSoundWithin, sound_branches}

abbrev Bytes : Type 1
Bytes = ℕ → Type 0

abbrev Within : ByteRange → Bytes
Within r b = (r.first ≤ b) × (b ≤ r.last)

abbrev InRanges : List ByteRange → Bytes
InRanges [] b = ⊥
InRanges (r ∷ rs) b = Within r b ⊎ InRanges rs b

-- a byte out of ranges, and nothing more
abbrev OfClass : ByteRange → List ByteRange → List ℕ → Type 0
OfClass r rs w = (b : ℕ) × (w ≡ b ∷ []) × (Within r b ⊎ InRanges rs b)

-- a byte out of a range, and a word that is so
abbrev Then : ByteRange → (List ℕ → Type 0) → List ℕ → Type 0
Then r P w = (b : ℕ) × (v : List ℕ) × (w ≡ b ∷ v) × Within r b × P v

-- a word of one of the branches
abbrev Follows : Branches → List ℕ → Type 0
Follows none w = ⊥
Follows (last r rs bs) w = OfClass r rs w ⊎ Follows bs w
Follows (through r inner bs) w = Then r (Follows inner) w ⊎ Follows bs w

-- a word of the first branch
abbrev FollowsFirst : Branches → List ℕ → Type 0
FollowsFirst none w = w ≡ []
FollowsFirst (last r rs bs) w = OfClass r rs w
FollowsFirst (through r inner bs) w = Then r (Follows inner) w

-- Sets.

has_range : (lo hi b : ℕ) → b < 256 → has (range_set lo hi) b ≡ (nat_le lo b && nat_le b hi)
unfolding range_set
has_range lo hi b h = has-set_of (within lo hi) b h

in_range_of : (r : ByteRange) (b : ℕ) → IsIn (range_set r.first r.last) b → Within r b
in_range_of r b (h, k) =
    let both = and_parts (nat_le r.first b) (nat_le b r.last) (sym (has_range r.first r.last b h) ∙ k) in
    (leb-true r.first b both.0, leb-true b r.last both.1)

is_in_range : (r : ByteRange) (b : ℕ) → IsSoundRange r → Within r b → IsIn (range_set r.first r.last) b
is_in_range r b (h, k) (l, m) =
    let small : b < 256 = omega arith in
    (small, has_range r.first r.last b small ∙ and_from (nat_le r.first b) (nat_le b r.last) (le-leb r.first b l) (le-leb b r.last m))

one_of : (x y : Bool) → (x || y) ≡ true → (x ≡ true) ⊎ (y ≡ true)
one_of true y h = inl refl
one_of false y h = inr h

first_of_both : (x y : Bool) → x ≡ true → (x || y) ≡ true
first_of_both x y h = rw h refl

second_of_both : (x y : Bool) → y ≡ true → (x || y) ≡ true
second_of_both true y h = refl
second_of_both false y h = h

has_union : (s t : ByteSet) (b : ℕ) → b < 256 → has (union s t) b ≡ (has s b || has t b)
unfolding union
has_union s t b h = has-set_of (λ x. has s x || has t x) b h

to_union : (s t : ByteSet) (b : ℕ) → IsIn (union s t) b → IsIn s b ⊎ IsIn t b
to_union s t b (h, k) = elim (one_of (has s b) (has t b) (sym (has_union s t b h) ∙ k)) [ inl l ↦ inl (h, l) | inr l ↦ inr (h, l) ]

from_union : (s t : ByteSet) (b : ℕ) → IsIn s b ⊎ IsIn t b → IsIn (union s t) b
from_union s t b (inl (h, k)) = (h, has_union s t b h ∙ first_of_both (has s b) (has t b) k)
from_union s t b (inr (h, k)) = (h, has_union s t b h ∙ second_of_both (has s b) (has t b) k)

to_bytes : (s : ByteSet) (rs : List ByteRange) (b : ℕ) → IsIn (bytes_in s rs) b → IsIn s b ⊎ InRanges rs b
to_bytes s [] b h = inl h
to_bytes s (r ∷ rs) b h = elim (to_bytes (union s (range_set r.first r.last)) rs b h) [
  | inl k ↦ elim (to_union s (range_set r.first r.last) b k) [ inl l ↦ inl l | inr l ↦ inr (inl (in_range_of r b l)) ]
  | inr k ↦ inr (inr k)
]

from_bytes : (s : ByteSet) (rs : List ByteRange) (b : ℕ) → AllByRecursion IsSoundRange rs → IsIn s b ⊎ InRanges rs b → IsIn (bytes_in s rs) b
from_bytes s [] b sound (inl h) = h
from_bytes s [] b sound (inr h) = absurd h
from_bytes s (r ∷ rs) b sound (inl h) = from_bytes (union s (range_set r.first r.last)) rs b sound.1 (inl (from_union s (range_set r.first r.last) b (inl h)))
from_bytes s (r ∷ rs) b sound (inr (inl h)) =
    from_bytes (union s (range_set r.first r.last)) rs b sound.1 (inl (from_union s (range_set r.first r.last) b (inr (is_in_range r b sound.0 h))))
from_bytes s (r ∷ rs) b sound (inr (inr h)) = from_bytes (union s (range_set r.first r.last)) rs b sound.1 (inr h)

-- a class has the bytes of its ranges

to_class : (r : ByteRange) (rs : List ByteRange) (b : ℕ) → IsIn (bytes_in (range_set r.first r.last) rs) b → Within r b ⊎ InRanges rs b
to_class r rs b h = elim (to_bytes (range_set r.first r.last) rs b h) [ inl k ↦ inl (in_range_of r b k) | inr k ↦ inr k ]

from_class : (r : ByteRange) (rs : List ByteRange) (b : ℕ) → IsSoundRange r → AllByRecursion IsSoundRange rs → Within r b ⊎ InRanges rs b
    → IsIn (bytes_in (range_set r.first r.last) rs) b
from_class r rs b one sound (inl h) = from_bytes (range_set r.first r.last) rs b sound (inl (is_in_range r b one h))
from_class r rs b one sound (inr h) = from_bytes (range_set r.first r.last) rs b sound (inr h)

-- Branches of sequences.

abbrev Words : Type 1
Words = List ℕ → Type 0

-- one range, before others or not
class_first : (r : ByteRange) (w : List ℕ) (X : Type 0) → (OfClass r [] w ⊎ X) ↔ (HasByteOfEach (r ∷ []) w ⊎ X)
class_first r w X = (to, from)
  where
    to : OfClass r [] w ⊎ X → HasByteOfEach (r ∷ []) w ⊎ X
    to (inl (b, e, inl h)) = inl (b, [], e, h.0, h.1, refl)
    to (inl (b, e, inr h)) = absurd h
    to (inr h) = inr h

    from : HasByteOfEach (r ∷ []) w ⊎ X → OfClass r [] w ⊎ X
    from (inl (b, v, e, h, k, done)) = inl (b, e ∙ ap (λ x. b ∷ x) done, inl (h, k))
    from (inr h) = inr h

class_more : (r q : ByteRange) (qs : List ByteRange) (w : List ℕ) (X : Type 0) → (OfClass r (q ∷ qs) w ⊎ X) ↔ (HasByteOfEach (r ∷ []) w ⊎ (OfClass q qs w ⊎ X))
class_more r q qs w X = (to, from)
  where
    to : OfClass r (q ∷ qs) w ⊎ X → HasByteOfEach (r ∷ []) w ⊎ (OfClass q qs w ⊎ X)
    to (inl (b, e, inl h)) = inl (b, [], e, h.0, h.1, refl)
    to (inl (b, e, inr h)) = inr (inl (b, e, h))
    to (inr h) = inr (inr h)

    from : HasByteOfEach (r ∷ []) w ⊎ (OfClass q qs w ⊎ X) → OfClass r (q ∷ qs) w ⊎ X
    from (inl (b, v, e, h, k, done)) = inl (b, e ∙ ap (λ x. b ∷ x) done, inl (h, k))
    from (inr (inl (b, e, h))) = inl (b, e, inr h)
    from (inr (inr h)) = inr h

-- ranges that go on, before others
range_first : (r : ByteRange) (rs : List ByteRange) (P : Words) (w : List ℕ) (X : Type 0) → ((v : List ℕ) → P v ↔ (HasByteOfEach rs v ⊎ ⊥))
    → (Then r P w ⊎ X) ↔ (HasByteOfEach (r ∷ rs) w ⊎ X)
range_first r rs P w X same = (to, from)
  where
    to : Then r P w ⊎ X → HasByteOfEach (r ∷ rs) w ⊎ X
    to (inl (b, v, e, h, k)) = elim ((same v).0 k) [ inl l ↦ inl (b, v, e, h.0, h.1, l) | inr l ↦ absurd l ]
    to (inr h) = inr h

    from : HasByteOfEach (r ∷ rs) w ⊎ X → Then r P w ⊎ X
    from (inl (b, v, e, h, k, l)) = inl (b, v, e, (h, k), (same v).1 (inl l))
    from (inr h) = inr h

range_more : (r q : ByteRange) (rs : List ByteRange) (P Q : Words) (w : List ℕ) (X : Type 0) → r ≡ q → ((v : List ℕ) → P v ↔ (HasByteOfEach rs v ⊎ Q v))
    → (Then r P w ⊎ X) ↔ (HasByteOfEach (r ∷ rs) w ⊎ (Then q Q w ⊎ X))
range_more r q rs P Q w X is same = (to, from)
  where
    to : Then r P w ⊎ X → HasByteOfEach (r ∷ rs) w ⊎ (Then q Q w ⊎ X)
    to (inl (b, v, e, h, k)) = elim ((same v).0 k) [
      | inl l ↦ inl (b, v, e, h.0, h.1, l)
      | inr l ↦ inr (inl (b, v, e, subst (λ x. Within x b) is h, l))
    ]
    to (inr h) = inr (inr h)

    from : HasByteOfEach (r ∷ rs) w ⊎ (Then q Q w ⊎ X) → Then r P w ⊎ X
    from (inl (b, v, e, h, k, l)) = inl (b, v, e, (h, k), (same v).1 (inl l))
    from (inr (inl (b, v, e, h, l))) = inl (b, v, e, subst (λ x. Within x b) (sym is) h, (same v).1 (inr l))
    from (inr (inr h)) = inr h

either_words : (b : Bool) (r q : ByteRange) (rs : List ByteRange) (x y inner bs : Branches) (w : List ℕ) → same_range r q ≡ b
    → ((v : List ℕ) → Follows x v ↔ (HasByteOfEach rs v ⊎ Follows inner v)) → ((v : List ℕ) → Follows y v ↔ (HasByteOfEach rs v ⊎ ⊥))
    → Follows (if b then through r x bs else through r y (through q inner bs)) w ↔ (HasByteOfEach (r ∷ rs) w ⊎ Follows (through q inner bs) w)
either_words true r q rs x y inner bs w e one other = range_more r q rs (Follows x) (Follows inner) w (Follows bs w) (range_is r q e) one
either_words false r q rs x y inner bs w e one other = range_first r rs (Follows y) w (Follows (through q inner bs) w) other

with_words : (rs : List ByteRange) (r : ByteRange) (bs : Branches) (w : List ℕ) → Follows (with_ranges (r ∷ rs) bs) w ↔ (HasByteOfEach (r ∷ rs) w ⊎ Follows bs w)
with_words [] r none w = class_first r w ⊥
with_words [] r (last q qs bs) w = class_more r q qs w (Follows bs w)
with_words [] r (through q inner bs) w = class_first r w (Follows (through q inner bs) w)
with_words (s ∷ rs) r none w = range_first r (s ∷ rs) (Follows (with_ranges (s ∷ rs) none)) w ⊥ (with_words rs s none)
with_words (s ∷ rs) r (last q qs bs) w = range_first r (s ∷ rs) (Follows (with_ranges (s ∷ rs) none)) w (Follows (last q qs bs) w) (with_words rs s none)
with_words (s ∷ rs) r (through q inner bs) w =
    either_words (same_range r q) r q (s ∷ rs) (with_ranges (s ∷ rs) inner) (with_ranges (s ∷ rs) none) inner bs w refl (with_words rs s inner) (with_words rs s none)

with_sequence : (s : Sequence) (bs : Branches) (w : List ℕ) → Follows (with_ranges (byte_ranges s) bs) w ↔ (HasByteOfEach (byte_ranges s) w ⊎ Follows bs w)
with_sequence (One a) bs w = with_words [] a bs w
with_sequence (Two a b) bs w = with_words (b ∷ []) a bs w
with_sequence (Three a b c) bs w = with_words (b ∷ c ∷ []) a bs w
with_sequence (Four a b c d) bs w = with_words (b ∷ c ∷ d ∷ []) a bs w

to_sequences : (ss : List Sequence) (w : List ℕ) → Follows (branches_at 0 ss) w → FollowsOne ss w
to_sequences [] w h = h
to_sequences (s ∷ ss) w h = elim ((with_sequence s (branches_at 0 ss) w).0 h) [ inl k ↦ inl k | inr k ↦ inr (to_sequences ss w k) ]

from_sequences : (ss : List Sequence) (w : List ℕ) → FollowsOne ss w → Follows (branches_at 0 ss) w
from_sequences [] w h = h
from_sequences (s ∷ ss) w (inl h) = (with_sequence s (branches_at 0 ss) w).1 (inl h)
from_sequences (s ∷ ss) w (inr h) = (with_sequence s (branches_at 0 ss) w).1 (inr (from_sequences ss w h))

-- Trees.

to_alt : (t : Tree) (ts : List Tree) (w : List ℕ) → In (grouped Alt (t ∷ ts)) w → InSome (trees (t ∷ ts)) w
to_alt t [] w h = inl h
to_alt t (u ∷ ts) w h = h

from_alt : (t : Tree) (ts : List Tree) (w : List ℕ) → InSome (trees (t ∷ ts)) w → In (grouped Alt (t ∷ ts)) w
from_alt t [] w (inl h) = h
from_alt t [] w (inr h) = absurd h
from_alt t (u ∷ ts) w h = h

to_cat : (t : Tree) (ts : List Tree) (w : List ℕ) → In (grouped Cat (t ∷ ts)) w → InEach (trees (t ∷ ts)) w
to_cat t [] w h = (w, [], sym (append-nil w), h, refl)
to_cat t (u ∷ ts) w h = h

from_cat : (t : Tree) (ts : List Tree) (w : List ℕ) → InEach (trees (t ∷ ts)) w → In (grouped Cat (t ∷ ts)) w
from_cat t [] w (u, v, e, h, done) = subst (In t) (sym (e ∙ ap (λ x. u ++ x) done ∙ append-nil u)) h
from_cat t (u ∷ ts) w h = h

-- a choice of some branches
to_choice : (bs : Branches) (w : List ℕ) → no_branch bs ≡ false → In (grouped Alt (choices bs)) w → InSome (trees (choices bs)) w
to_choice none w some h = absurd cc
to_choice (last r rs bs) w some h = to_alt (class_tree r rs) (choices bs) w h
to_choice (through r inner bs) w some h = to_alt _ (choices bs) w h

from_choice : (bs : Branches) (w : List ℕ) → no_branch bs ≡ false → InSome (trees (choices bs)) w → In (grouped Alt (choices bs)) w
from_choice none w some h = absurd cc
from_choice (last r rs bs) w some h = from_alt (class_tree r rs) (choices bs) w h
from_choice (through r inner bs) w some h = from_alt _ (choices bs) w h

-- a class, and what follows it

to_then : (r : ByteRange) (ts : List Tree) (P : Words) (w : List ℕ) → ((v : List ℕ) → InEach (trees ts) v → P v) → InEach (trees (class_tree r [] ∷ ts)) w → Then r P w
to_then r ts P w so (u, v, e, (b, f, is), rest) = (b, v, e ∙ ap (λ x. x ++ v) f, in_range_of r b is, so v rest)

from_then : (r : ByteRange) (ts : List Tree) (P : Words) (w : List ℕ) → IsSoundRange r → ((v : List ℕ) → P v → InEach (trees ts) v) → Then r P w
    → InEach (trees (class_tree r [] ∷ ts)) w
from_then r ts P w sound so (b, v, e, h, rest) = (b ∷ [], v, e, (b, refl, is_in_range r b sound h), so v rest)

abbrev tails_by : Bool → Branches → List Tree
tails_by one bs = if one then parts bs else grouped Alt (choices bs) ∷ []

only_first : (bs : Branches) (w : List ℕ) → is_one bs ≡ true → FollowsFirst bs w ↔ Follows bs w
only_first none w h = cc
only_first (last r rs none) w h = ((λ k. inl k), (λ k. elim k [ inl l ↦ l | inr l ↦ absurd l ]))
only_first (last r rs (last q qs bs)) w h = cc
only_first (last r rs (through q inner bs)) w h = cc
only_first (through r inner none) w h = ((λ k. inl k), (λ k. elim k [ inl l ↦ l | inr l ↦ absurd l ]))
only_first (through r inner (last q qs bs)) w h = cc
only_first (through r inner (through q other bs)) w h = cc

to_tail : (bs : Branches) (b : Bool) → is_one bs ≡ b → no_branch bs ≡ false → ((v : List ℕ) → InEach (trees (parts bs)) v → FollowsFirst bs v)
    → ((v : List ℕ) → InSome (trees (choices bs)) v → Follows bs v) → (v : List ℕ) → InEach (trees (tails_by b bs)) v → Follows bs v
to_tail bs true e some first all v h = (only_first bs v e).0 (first v h)
to_tail bs false e some first all v (u, x, f, h, done) =
    all v (to_choice bs v some (subst (In (grouped Alt (choices bs))) (sym (f ∙ ap (λ y. u ++ y) done ∙ append-nil u)) h))

from_tail : (bs : Branches) (b : Bool) → is_one bs ≡ b → no_branch bs ≡ false → ((v : List ℕ) → FollowsFirst bs v → InEach (trees (parts bs)) v)
    → ((v : List ℕ) → Follows bs v → InSome (trees (choices bs)) v) → (v : List ℕ) → Follows bs v → InEach (trees (tails_by b bs)) v
from_tail bs true e some first all v h = first v ((only_first bs v e).1 h)
from_tail bs false e some first all v h = (v, [], sym (append-nil v), from_choice bs v some (all v h), refl)

mutual
  to_first : (bs : Branches) (d : ℕ) → IsSoundWithin d bs → (w : List ℕ) → InEach (trees (parts bs)) w → FollowsFirst bs w
  to_first none d sound w h = h
  to_first (last r rs bs) d sound w (u, v, e, (b, f, is), done) = (b, e ∙ ap (λ x. x ++ v) f ∙ ap (λ x. b ∷ x) done, to_class r rs b is)
  to_first (through r inner bs) zero sound w h = absurd sound
  to_first (through r inner bs) (suc d) sound w h =
      to_then r (tails_by (is_one inner) inner) (Follows inner) w (to_tail inner (is_one inner) refl sound.1 (to_first inner d sound.2) (to_all inner d sound.2)) h

  to_all : (bs : Branches) (d : ℕ) → IsSoundWithin d bs → (w : List ℕ) → InSome (trees (choices bs)) w → Follows bs w
  to_all none d sound w h = h
  to_all (last r rs bs) d sound w (inl (b, f, is)) = inl (b, f, to_class r rs b is)
  to_all (last r rs bs) d sound w (inr h) = inr (to_all bs d sound.2 w h)
  to_all (through r inner bs) zero sound w h = absurd sound
  to_all (through r inner bs) (suc d) sound w (inl h) =
      inl (to_then r (tails_by (is_one inner) inner) (Follows inner) w (to_tail inner (is_one inner) refl sound.1 (to_first inner d sound.2) (to_all inner d sound.2))
      (to_cat (class_tree r []) (tails_by (is_one inner) inner) w h))
  to_all (through r inner bs) (suc d) sound w (inr h) = inr (to_all bs (suc d) sound.3 w h)

mutual
  from_first : (bs : Branches) (d : ℕ) → IsSoundWithin d bs → (w : List ℕ) → FollowsFirst bs w → InEach (trees (parts bs)) w
  from_first none d sound w h = h
  from_first (last r rs bs) d sound w (b, e, is) = (b ∷ [], [], e, (b, refl, from_class r rs b sound.0 sound.1 is), refl)
  from_first (through r inner bs) zero sound w h = absurd sound
  from_first (through r inner bs) (suc d) sound w h =
      from_then r (tails_by (is_one inner) inner) (Follows inner) w sound.0
      (from_tail inner (is_one inner) refl sound.1 (from_first inner d sound.2) (from_all inner d sound.2)) h

  from_all : (bs : Branches) (d : ℕ) → IsSoundWithin d bs → (w : List ℕ) → Follows bs w → InSome (trees (choices bs)) w
  from_all none d sound w h = h
  from_all (last r rs bs) d sound w (inl (b, f, is)) = inl (b, f, from_class r rs b sound.0 sound.1 is)
  from_all (last r rs bs) d sound w (inr h) = inr (from_all bs d sound.2 w h)
  from_all (through r inner bs) zero sound w h = absurd sound
  from_all (through r inner bs) (suc d) sound w (inl h) =
      inl (from_cat (class_tree r []) (tails_by (is_one inner) inner) w
      (from_then r (tails_by (is_one inner) inner) (Follows inner) w sound.0
      (from_tail inner (is_one inner) refl sound.1 (from_first inner d sound.2) (from_all inner d sound.2)) h))
  from_all (through r inner bs) (suc d) sound w (inr h) = inr (from_all bs (suc d) sound.3 w h)

-- the words of the tree of some sequences
pub letters_words : (ss : List Sequence) → AllByRecursion IsSoundSequence ss → no_branch (branches_at 0 ss) ≡ false → (w : List ℕ)
    → In (letters_tree ss) w ↔ FollowsOne ss w
letters_words ss sound some w =
    let bs : Branches = branches_at 0 ss in
    let within = sound_branches ss sound in (
      λ h. to_sequences ss w (to_all bs 64 within w (to_choice bs w some h)),
      λ h. from_choice bs w some (from_all bs 64 within w (from_sequences ss w h)),
    )
