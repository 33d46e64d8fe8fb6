-- Names whose texts lead to other names. (That a name which stands inside its own text is refused is this project's.)
use Rattle.std.specs.Prelude.{ℕ, ◌<◌, List, ⊤}
use Rattle.lexre_bytes.specs.Symbols.{Symbol, item, name, opening, closing, bar, sign}
use Rattle.lex_semantics.specs.Text.{Among}
use Rattle.lex_semantics.specs.Tree.{Tree}
use Rattle.lexre.specs.Definitions.{Definitions}
use Rattle.lexre.specs.Reading.{SpellsIn, StandsIn}
use Rattle.lexre.specs.declared.options.ReadOptions.{ReadOptions}

-- where the name m stands for a tree, so does the name n, where fewer may be opened
abbrev pub LeadsTo : ReadOptions → Definitions → List ℕ → List ℕ → Type 0
LeadsTo how definitions m n =
    (d : ℕ) (t : Tree) → StandsIn how definitions d m t → (below : ℕ) × (u : Tree) × (below < d)
    × StandsIn how definitions below n u

-- where the name m stands for a tree, the text spells one, where fewer may be opened
abbrev pub LeadsToText : ReadOptions → Definitions → List ℕ → List ℕ → Type 0
LeadsToText how definitions m text =
    (d : ℕ) (t : Tree) → StandsIn how definitions d m t → (below : ℕ) × (u : Tree) × (below < d)
    × SpellsIn how definitions below text u

-- each of the names leads to the name
abbrev pub AllLead : ReadOptions → Definitions → List (List ℕ) → List ℕ → Type 0
AllLead how definitions ns n = (m : List ℕ) → Among ns m → LeadsTo how definitions m n

-- each of the names leads to the text
abbrev pub AllLeadToText : ReadOptions → Definitions → List (List ℕ) → List ℕ → Type 0
AllLeadToText how definitions ns text = (m : List ℕ) → Among ns m → LeadsToText how definitions m text

-- each of the names leads to the symbol, if that is a name
abbrev pub AllLeadToSymbol : ReadOptions → Definitions → List (List ℕ) → Symbol → Type 0
AllLeadToSymbol how definitions ns (item t) = ⊤
AllLeadToSymbol how definitions ns (name n) = AllLead how definitions ns n
AllLeadToSymbol how definitions ns opening = ⊤
AllLeadToSymbol how definitions ns closing = ⊤
AllLeadToSymbol how definitions ns bar = ⊤
AllLeadToSymbol how definitions ns (sign braces f) = ⊤
