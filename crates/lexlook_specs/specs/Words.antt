-- What is shown of rules: a text that each takes. (flex tells by -s of a default rule that is taken, and warns of a
-- rule that cannot be matched; the rest is this project's.)
use Rattle.std.specs.Prelude.{◌≡◌, ◌⊎◌, ◌↔◌, ℕ, ◌<◌, Bool, true, List, length, Option, Some, None, slice_get}
use Rattle.lex_semantics.specs.Text.{Among, Ascending}
use Rattle.lexauto_reports.specs.BackWords.{Precedes}
use Rattle.lexlook_specs.specs.Matches.{RuleMatches, IsInput, TakesText, TakesOf, CopiesFirst}
use Rattle.lexlook_specs.specs.declared.words.finding.ShownText.{ShownText}
use Rattle.lexlook_specs.specs.declared.words.finding.Word.{Word}
use Rattle.lexlook_specs.specs.declared.words.finding.Word.TheVariants.{Taken, Never}
use Rattle.lexlook_specs.specs.declared.words.finding.Words.{Words}

-- an earlier condition, or the same and not at the start of a line rather than there
abbrev pub StartsFirst : ℕ → Bool → ℕ → Bool → Type 0
StartsFirst c line d line' = (c < d) ⊎ ((c ≡ d) × (line ≡ true → line' ≡ true))

-- the first text is shorter, or as long and first in byte order, or the same and of an earlier start
abbrev pub IsNotLater : ShownText → ℕ → Bool → List ℕ → Type 0
IsNotLater p c line w = Precedes p.text.items w ⊎ ((p.text.items ≡ w) × StartsFirst p.condition p.line_start c line)

-- of the texts of which this holds it is the first
pub record IsFirst (m : RuleMatches) (P : ℕ → Bool → List ℕ → Type 0) (p : ShownText) : Type 0 where
  pub input : IsInput m p.condition p.text.items
  pub holds : P p.condition p.line_start p.text.items
  pub first : (c : ℕ) (line : Bool) (w : List ℕ) → IsInput m c w → P c line w → IsNotLater p c line w

-- the rules that take the texts of one that takes none, ascending
pub record AreTakers (m : RuleMatches) (i : ℕ) (js : List ℕ) : Type 0 where
  pub none : (c : ℕ) (line : Bool) (w : List ℕ) → IsInput m c w → TakesText m c line w i → ⊥
  pub ascending : Ascending js
  pub takers : (j : ℕ) → Among js j ↔ TakesOf m i j

-- what is told of a rule: the first text that it takes, or by which rules its texts are taken
abbrev pub IsWordOf : RuleMatches → ℕ → Word → Type 0
IsWordOf m i (Taken p) = IsFirst m (λ c line w. TakesText m c line w i) p
IsWordOf m i (Never js) = AreTakers m i js.items

-- the default rule copies the first byte of the text, in this condition
abbrev pub IsCopiedIn : RuleMatches → ℕ → ℕ → Bool → List ℕ → Type 0
IsCopiedIn m d c line w = (c ≡ d) × CopiesFirst m c line w

-- what is told of the default rule in a condition: the first text of which it copies a byte there, which is one byte
-- long
abbrev pub TellsDefault : RuleMatches → ℕ → Option ShownText → Type 0
TellsDefault m d None = (c : ℕ) (line : Bool) (w : List ℕ) → IsInput m c w → IsCopiedIn m d c line w → ⊥
TellsDefault m d (Some p) = IsFirst m (IsCopiedIn m d) p × (length p.text.items ≡ 1)

-- what is told of each rule, and of the default rule in each condition
pub record AreWords (m : RuleMatches) (v : Words) : Type 0 where
  pub each : length v.rules.items ≡ m.count
  pub rules : (i : ℕ) (x : Word) → slice_get v.rules.items i ≡ Some x → IsWordOf m i x
  pub in_each : length v.defaults.items ≡ m.conditions
  pub defaults : (c : ℕ) (o : Option ShownText) → slice_get v.defaults.items c ≡ Some o → TellsDefault m c o
