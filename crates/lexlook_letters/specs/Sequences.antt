-- Sequences of ranges of bytes, and their words. (This project's.)
use Rattle.std.specs.Prelude.{◌≡◌, ◌↔◌, ℕ, ◌<◌, ◌≤◌, ◌⊎◌, List, [], ◌∷◌}
use Rattle.std.specs.List.{AllByRecursion}
use Rattle.lexlook_letters.specs.declared.sequence.ByteRange.{ByteRange}
use Rattle.lexlook_letters.specs.declared.sequence.Sequence.{Sequence}
use Rattle.lexlook_letters.specs.declared.sequence.Sequence.TheVariants.{One, Two, Three, Four}

-- from one byte to another
abbrev pub bytes_between : ℕ → ℕ → ByteRange
bytes_between first last = record { first = first; last = last }

-- its ranges, in order
abbrev pub byte_ranges : Sequence → List ByteRange
byte_ranges (One a) = a ∷ []
byte_ranges (Two a b) = a ∷ b ∷ []
byte_ranges (Three a b c) = a ∷ b ∷ c ∷ []
byte_ranges (Four a b c d) = a ∷ b ∷ c ∷ d ∷ []

abbrev pub last_range : Sequence → ByteRange
last_range (One a) = a
last_range (Two a b) = b
last_range (Three a b c) = c
last_range (Four a b c d) = d

-- a byte out of each range
abbrev pub HasByteOfEach : List ByteRange → List ℕ → Type 0
HasByteOfEach [] w = w ≡ []
HasByteOfEach (r ∷ rs) w = (b : ℕ) × (v : List ℕ) × (w ≡ b ∷ v) × (r.first ≤ b) × (b ≤ r.last) × HasByteOfEach rs v

-- a word of one of the sequences
abbrev pub FollowsOne : List Sequence → List ℕ → Type 0
FollowsOne [] w = ⊥
FollowsOne (s ∷ ss) w = HasByteOfEach (byte_ranges s) w ⊎ FollowsOne ss w

-- bytes are in the range
abbrev pub IsSoundRange : ByteRange → Type 0
IsSoundRange r = (r.first ≤ r.last) × (r.last < 0x100)

abbrev pub IsSoundSequence : Sequence → Type 0
IsSoundSequence s = AllByRecursion IsSoundRange (byte_ranges s)

-- After this there are more sequences, whose words are these.
pub record AddsWords (before after : List Sequence) (P : List ℕ → Type 0) : Type 0 where
  pub words : (w : List ℕ) → FollowsOne after w ↔ (FollowsOne before w ⊎ P w)
  pub sound : AllByRecursion IsSoundSequence before → AllByRecursion IsSoundSequence after
