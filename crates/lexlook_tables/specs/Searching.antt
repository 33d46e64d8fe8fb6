-- A search over pairs of states, one of each machine, from those in which matches start. (This project's.)
use Rattle.std.specs.Prelude.{◌≡◌, ℕ, suc, ◌+◌, ◌*◌, ◌≤◌, ◌<◌, Bool, true, false, List, [], ◌∷◌, ◌++◌, length, map, reverse, Some, ◌⊎◌, nat_eq, slice_get, slice_index_or, ⊤}
use Rattle.lex_semantics.specs.Text.{IsText}
use Rattle.lex_semantics.specs.Machine.{Machine, state_after, walk}
use Rattle.lexlook_tables.specs.Same.{deed_of, deed_in, asked, deeds_at, deeds_in, number_in, key}
use Rattle.lexauto_reports.specs.BackWords.{Precedes, NotAfter}
use Rattle.lexlook_tables.specs.declared.same.pairs.From.{From}
use Rattle.lexlook_tables.specs.declared.same.pairs.From.TheVariants.{Start, Byte}
use Rattle.lexlook_tables.specs.declared.same.pairs.Pair.{Pair}
use Rattle.lexlook_tables.specs.declared.same.pairs.Sight.{Sight}
use Rattle.lexlook_tables.specs.declared.same.pairs.Sight.TheVariants.{Unseen, Single, Longer}
use Rattle.lexlook_tables.specs.declared.same.differing.Difference.{Difference}

-- by these rules, which accept a text, both do the same of it
abbrev pub DoAlike : List ℕ → Bool → Machine → Machine → List ℕ → List ℕ → Type 0
DoAlike order single M N is js = map (deed_in order M) (asked single M is) ≡ map (deed_of N) (asked single N js)

abbrev pub HasAt : List Pair → ℕ → Pair → Type 0
HasAt ps i p = slice_get ps i ≡ Some p

-- a pair in which a match starts
pub record IsStart (order : List ℕ) (M N : Machine) (c : ℕ) (line : Bool) (p : Pair) : Type 0 where
  pub left : p.left ≡ M.start c line
  pub right : p.right ≡ N.start (number_in order c) line
  pub far : p.far ≡ 0

-- a pair to which a byte leads from another
pub record IsNext (M N : Machine) (q : Pair) (b : ℕ) (p : Pair) : Type 0 where
  pub left : p.left ≡ M.next q.left b
  pub right : p.right ≡ N.next q.right b
  pub far : p.far ≡ suc q.far

-- how the pair at a place was come to
abbrev pub IsFrom : List ℕ → Machine → Machine → List Pair → ℕ → Pair → From → Type 0
IsFrom order M N ps i p (Start c line) = (c < M.conditions) × IsStart order M N c line p
IsFrom order M N ps i p (Byte j b) = (b < 256) × (j < i) × (q : Pair) × HasAt ps j q × IsNext M N q b p

abbrev pub AreLinked : List ℕ → Machine → Machine → List Pair → Type 0
AreLinked order M N ps = (i : ℕ) (p : Pair) → HasAt ps i p → IsFrom order M N ps i p p.from

-- each pair has a key, that of the text by which it was come to
abbrev pub KeyAt : List (List ℕ) → ℕ → List ℕ → Type 0
KeyAt keys i u = slice_get keys i ≡ Some u

abbrev pub IsKey : List (List ℕ) → List ℕ → From → Type 0
IsKey keys u (Start c line) = u ≡ key c line []
IsKey keys u (Byte j b) = (t : List ℕ) × KeyAt keys j t × (u ≡ t ++ b ∷ [])

abbrev pub AreKeyed : List (List ℕ) → List Pair → Type 0
AreKeyed keys ps = (i : ℕ) (p : Pair) (u : List ℕ) → HasAt ps i p → KeyAt keys i u → IsKey keys u p.from

abbrev pub start_key : From → List ℕ
start_key (Start c line) = key c line []
start_key (Byte j b) = []

-- a text was seen that leads there: a single byte, or a longer one, of which more is asked
abbrev pub was_seen : Bool → Sight → Bool
was_seen single Unseen = false
was_seen single Single = single
was_seen single Longer = true

abbrev pub sight_of : Bool → Sight
sight_of true = Single
sight_of false = Longer

-- a text was seen that leads to the pair of these states, where the second machine has n states
abbrev pub IsSeen : List Sight → ℕ → Bool → ℕ → ℕ → Type 0
IsSeen seen n single s t = was_seen single (slice_index_or seen (s * n + t) Unseen) ≡ true

-- how often pairs of states may still be seen
abbrev pub unseen : List Sight → ℕ
unseen [] = 0
unseen (Unseen ∷ seen) = suc (suc (unseen seen))
unseen (Single ∷ seen) = suc (unseen seen)
unseen (Longer ∷ seen) = unseen seen

-- a byte after a text that leads to this pair is a single one
abbrev pub is_first : Pair → Bool
is_first p = nat_eq p.far 0

-- a pair that a byte leads to from the one at this place was found, by a text that is not after
pub record IsFound (M N : Machine) (n : ℕ) (ps : List Pair) (keys : List (List ℕ)) (seen : List Sight) (i : ℕ)
    (p : Pair) (b : ℕ) : Type 0 where
  pub place : ℕ
  pub pair : Pair
  pub at : HasAt ps place pair
  pub left : pair.left ≡ M.next p.left b
  pub right : pair.right ≡ N.next p.right b
  pub far : pair.far ≤ suc p.far
  pub some : 1 ≤ pair.far
  pub was_seen : IsSeen seen n (is_first p) pair.left pair.right
  pub first : (t u : List ℕ) → KeyAt keys i t → KeyAt keys place u → NotAfter u (t ++ b ∷ [])

-- The pairs found so far, where those before this place were widened by each byte, and the one at this place by the
-- bytes below b.
pub record Searched (order : List ℕ) (M N : Machine) (m n : ℕ) (ps : List Pair) (seen : List Sight)
    (at b : ℕ) : Type 0 where
  pub linked : AreLinked order M N ps
  pub within : (i : ℕ) (p : Pair) → HasAt ps i p → (p.left < m) × (p.right < n)
  pub few : (i : ℕ) (p : Pair) → HasAt ps i p → p.far ≤ i
  pub rising : (i j : ℕ) (p q : Pair) → HasAt ps i p → HasAt ps j q → i ≤ j → p.far ≤ q.far
  pub near : (j : ℕ) (p q : Pair) → HasAt ps at p → HasAt ps j q → q.far ≤ suc p.far
  pub keys : List (List ℕ)
  pub sized : length keys ≡ length ps
  pub keyed : AreKeyed keys ps
  pub ascending : (i j : ℕ) (u v : List ℕ) → KeyAt keys i u → KeyAt keys j v → i < j → Precedes u v
  pub ahead : (t : List ℕ) (j : ℕ) (u : List ℕ) → KeyAt keys at t → KeyAt keys j u → Precedes u (t ++ b ∷ [])
  pub starts : (c : ℕ) (line : Bool) → c < M.conditions → (i : ℕ) × (p : Pair) × HasAt ps i p
      × IsStart order M N c line p × KeyAt keys i (key c line [])
  pub size : length seen ≡ m * n
  pub known : (single : Bool) (s t : ℕ) → s < m → t < n → IsSeen seen n single s t → (i : ℕ) × (p : Pair)
      × HasAt ps i p × (p.left ≡ s) × (p.right ≡ t) × (1 ≤ p.far)
  pub agree : (single : Bool) (s t : ℕ) → s < m → t < n → IsSeen seen n single s t
      → deeds_in order single M s ≡ deeds_at single N t
  pub closed : (i : ℕ) (p : Pair) (c : ℕ) → HasAt ps i p → c < 256 → (i < at) ⊎ ((i ≡ at) × (c < b))
      → IsFound M N n ps keys seen i p c

-- the pairs in which matches start, in the first k conditions
pub record AreStarts (order : List ℕ) (M N : Machine) (m n : ℕ) (ps : List Pair) (k : ℕ) : Type 0 where
  pub each : (i : ℕ) (p : Pair) → HasAt ps i p → (c : ℕ) × (line : Bool) × (p.from ≡ Start c line) × (c < k)
      × IsStart order M N c line p
  pub within : (i : ℕ) (p : Pair) → HasAt ps i p → (p.left < m) × (p.right < n)
  pub all : (c : ℕ) (line : Bool) → c < k → (i : ℕ) × (p : Pair) × HasAt ps i p × IsStart order M N c line p
      × (p.from ≡ Start c line)
  pub ascending : (i j : ℕ) (p q : Pair) → HasAt ps i p → HasAt ps j q → i < j
      → Precedes (start_key p.from) (start_key q.from)

-- of a match that the byte ends, after a text that leads to the pair at this place, they do not do the same
abbrev pub DifferAt : List ℕ → Machine → Machine → List Pair → ℕ → ℕ → Type 0
DifferAt order M N ps at b =
    (p : Pair) → HasAt ps at p
    → deeds_in order (is_first p) M (M.next p.left b) ≡ deeds_at (is_first p) N (N.next p.right b) → ⊥

-- one list goes on where the other ends
abbrev pub GoesOn : List Pair → List Pair → Type 0
GoesOn old new = (i : ℕ) (p : Pair) → HasAt old i p → HasAt new i p

-- a pair was come to from an earlier one
abbrev pub IsBefore : ℕ → From → Type 0
IsBefore i (Start c line) = ⊤
IsBefore i (Byte j b) = j < i

abbrev pub LeadBack : List Pair → Type 0
LeadBack ps = (i : ℕ) (p : Pair) → HasAt ps i p → IsBefore i p.from

-- The text leads to where the byte leads from the pair p, from the condition in which its match starts.
pub record IsTextOf (order : List ℕ) (M N : Machine) (p : Pair) (b : ℕ) (d : Difference) : Type 0 where
  pub condition : d.condition < M.conditions
  pub text : IsText d.text.items
  pub left : state_after M d.condition d.line_start d.text.items ≡ M.next p.left b
  pub right : state_after N (number_in order d.condition) d.line_start d.text.items ≡ N.next p.right b
  pub size : length d.text.items ≡ suc p.far

-- the same of the text so far, last byte first, from the pair q on
pub record IsSuffixOf (M N : Machine) (p : Pair) (b : ℕ) (q : Pair) (t : List ℕ) : Type 0 where
  pub text : IsText t
  pub left : walk M q.left (reverse t) ≡ M.next p.left b
  pub right : walk N q.right (reverse t) ≡ N.next p.right b
  pub size : length t + q.far ≡ suc p.far
