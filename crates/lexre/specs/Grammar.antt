-- The grammar of patterns over their symbols: which tree they spell, from tight to loose items with their signs,
-- series, and choices. An interval applies to the item directly to its left, as a sign does; under `posix` to the whole
-- series to its left. (POSIX, lex, Regular Expressions in lex: under `posix` its precedences; flex, Patterns. The
-- bounds are this project's.)
use Rattle.std.specs.Prelude.{◌≡◌, ℕ, suc, ◌<◌, Bool, true, false, ◌&&◌, ◌⊎◌, List, [], ◌∷◌, ◌++◌, Option, Some, None}
use Rattle.lex_semantics.specs.Reading.{Reader, IsReadAs}
use Rattle.lex_semantics.specs.Tree.{Tree, Cat, Alt}
use Rattle.lexre_bytes.specs.Symbols.{Symbol, item, name, opening, closing, bar, sign, grouped}
use Rattle.lexre.specs.Limits.{max_signs}

-- `symbol_at` cuts a text into symbols, and `defined` has the text of each name. The number d in each type bounds how
-- many parentheses and names may be open inside.
module _ (posix : Bool) (symbol_at : Reader Symbol) (defined : List ℕ → Option (List ℕ)) where
  mutual
    -- an item: one by itself, a pattern in parentheses, or a name, which stands for its text as if in parentheses
    pub data IsItem : ℕ → List Symbol → Tree → Type 0 where
      alone : (d : ℕ) (t : Tree) → IsItem d (item t ∷ []) t
      group : (d : ℕ) (ss : List Symbol) (ts : List Tree) → IsPattern d ss ts
          → IsItem (suc d) (opening ∷ ss ++ closing ∷ []) (grouped Alt ts)
      defines : (d : ℕ) (n text : List ℕ) (ss : List Symbol) (ts : List Tree) → defined n ≡ Some text
          → IsReadAs symbol_at (λ rest. rest ≡ []) text ss → IsPattern d ss ts
          → IsItem (suc d) (name n ∷ []) (grouped Alt ts)

    -- A series of items, with not too many signs: its parts, how many signs stand on the whole series, and how many on
    -- its last item. There is no such item right after an interval on the whole series, and the signs that follow that.
    pub data IsSeries : ℕ → List Symbol → List Tree → ℕ → Option ℕ → Type 0 where
      first : (d : ℕ) (ss : List Symbol) (t : Tree) → IsItem d ss t → IsSeries d ss (t ∷ []) 0 (Some 0)
      next : (d : ℕ) (ss : List Symbol) (ts : List Tree) (n : ℕ) (k : Option ℕ) (more : List Symbol) (t : Tree)
          → IsSeries d ss ts n k → IsItem d more t → IsSeries d (ss ++ more) (ts ++ t ∷ []) n (Some 0)
      repeated : (d : ℕ) (ss : List Symbol) (ts : List Tree) (t : Tree) (n k : ℕ) (braces : Bool) (f : Tree → Tree)
          → (braces && posix) ≡ false → IsSeries d ss (ts ++ t ∷ []) n (Some k) → k < max_signs
          → IsSeries d (ss ++ sign braces f ∷ []) (ts ++ f t ∷ []) n (Some (suc k))
      repeated_whole : (d : ℕ) (ss : List Symbol) (ts : List Tree) (n : ℕ) (k : Option ℕ) (braces : Bool)
          (f : Tree → Tree)
          → posix ≡ true → (braces ≡ true) ⊎ (k ≡ None) → IsSeries d ss ts n k → n < max_signs
          → IsSeries d (ss ++ sign braces f ∷ []) (f (grouped Cat ts) ∷ []) (suc n) None

    -- series joined by bars: the tree of each
    pub data IsPattern : ℕ → List Symbol → List Tree → Type 0 where
      only : (d : ℕ) (ss : List Symbol) (parts : List Tree) (n : ℕ) (k : Option ℕ)
          → IsSeries d ss parts n k → IsPattern d ss (grouped Cat parts ∷ [])
      choice : (d : ℕ) (ss : List Symbol) (ts : List Tree) (more : List Symbol) (parts : List Tree) (n : ℕ)
          (k : Option ℕ)
          → IsPattern d ss ts → IsSeries d more parts n k
          → IsPattern d (ss ++ bar ∷ more) (ts ++ grouped Cat parts ∷ [])

  -- the text is a pattern, and this is its tree
  abbrev pub SpellsWithin : ℕ → List ℕ → Tree → Type 0
  SpellsWithin d text tree =
      (ss : List Symbol) × (ts : List Tree) × IsReadAs symbol_at (λ rest. rest ≡ []) text ss × IsPattern d ss ts
      × (tree ≡ grouped Alt ts)
