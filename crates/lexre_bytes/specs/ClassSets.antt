-- A class as one set, and what follows it. None where the class is not closed, or has an element that may not stand.
use Rattle.std.specs.Prelude.{ℕ, Bool, Some, List, Option, ◌∷◌, []}
use Rattle.lex_semantics.specs.ByteSets.{ByteSet, empty_set, union}
use Rattle.lex_semantics.specs.Reading.{◌>>=◌, Reader}
use Rattle.lexre_bytes.specs.Lexical.{element_at, elements_at, class_at, class_set}

-- the bytes of all elements, if each has a set
unfoldable pub union_set : List (Option ByteSet) → Option ByteSet
union_set [] = Some empty_set
union_set (e ∷ es) = e >>= λ s. union_set es >>= λ rest. Some (union s rest)

-- the set of the element at the front of the text
abbrev pub member_at : Reader ByteSet
member_at t = element_at t >>= λ (e, rest). e >>= λ s. Some (s, rest)

-- the bytes of the elements up to the closing bracket
abbrev pub members_at : ℕ → Bool → Reader ByteSet
members_at n first t = elements_at n first t >>= λ (es, rest). union_set es >>= λ s. Some (s, rest)

-- after the opening bracket
abbrev pub class_set_at : Bool → Reader ByteSet
class_set_at fold t = class_at t >>= λ (negated, es, rest). class_set fold negated es >>= λ s. Some (s, rest)
