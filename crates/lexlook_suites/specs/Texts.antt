-- The texts that lead over edges, and the first of them. (This project's.)
use Rattle.std.specs.Prelude.{◌≡◌, ℕ, ◌<◌, Bool, false, not, List, [], ◌∷◌, ◌++◌, filter, map, Option, Some, None}
use Rattle.lex_semantics.specs.Text.{Among, IsText}
use Rattle.lexauto_dfa.specs.Parts.{after, conditions, next, start, states}
use Rattle.lexauto_dfa.specs.declared.dfa.Parts.{Parts}
use Rattle.lexlook_specs.specs.Words.{IsNotLater, StartsFirst}
use Rattle.lexlook_specs.specs.declared.words.finding.ShownText.{ShownText}
use Rattle.lexlook_specs.specs.Pictures.{leads_below}
use Rattle.lexlook_suites.specs.declared.edges.Edge.{Edge}
use Rattle.lexlook_suites.specs.declared.texts.Missed.{Missed}
use Rattle.lexlook_suites.specs.declared.texts.Start.{Start}

-- In this condition, at the start of a line or not, the text without its last byte leads to state s, and with it to
-- state t.
abbrev pub LeadsOver : Parts → ℕ → ℕ → ℕ → Bool → List ℕ → Type 0
LeadsOver p s t c line text =
    (w : List ℕ) × (b : ℕ) × (text ≡ w ++ b ∷ []) × IsText w × (b < 256) × (c < conditions p)
    × (after p (start p c line) w ≡ s) × (next p s b ≡ t)

-- the first of these texts, if there is one: the shortest, of these the first in byte order, and then by its start
abbrev pub IsTextOver : Parts → ℕ → ℕ → Option ShownText → Type 0
IsTextOver p s t None = (c : ℕ) (line : Bool) (w : List ℕ) → LeadsOver p s t c line w → ⊥
IsTextOver p s t (Some shown) = LeadsOver p s t shown.condition shown.line_start shown.text.items
    × ((c : ℕ) (line : Bool) (w : List ℕ) → LeadsOver p s t c line w → IsNotLater shown c line w)

-- the edges that no match goes through
abbrev pub unwalked : List Edge → List Edge
unwalked edges = filter (λ e. not e.part.walked) edges

-- these edges, in their order, each with the first text that leads over it
pub record AreTexts (p : Parts) (edges : List Edge) (ms : List Missed) : Type 0 where
  pub edges_are : map (λ m. m.edge) ms ≡ edges
  pub texts : (m : Missed) → Among ms m → IsTextOver p m.edge.state m.edge.target m.text

-- Words of proofs: an edge stands at the first byte that leads from its state to its target; and the first start from
-- which a word leads to a state.
pub record IsEdge (p : Parts) (e : Edge) : Type 0 where
  pub known : e.state < states p
  pub byte : e.byte < 256
  pub leads : next p e.state e.byte ≡ e.target
  pub first : leads_below (next p e.state) e.target e.byte ≡ false

abbrev pub LeadsFrom : Parts → ℕ → List ℕ → ℕ → Bool → Type 0
LeadsFrom p s w c line = after p (start p c line) w ≡ s

abbrev pub IsFirstStart : Parts → ℕ → List ℕ → ℕ → Option Start → Type 0
IsFirstStart p s w n None = (c : ℕ) (line : Bool) → c < n → LeadsFrom p s w c line → ⊥
IsFirstStart p s w n (Some a) = (a.condition < n) × LeadsFrom p s w a.condition a.line_start
    × ((c : ℕ) (line : Bool) → c < n → LeadsFrom p s w c line → StartsFirst a.condition a.line_start c line)
