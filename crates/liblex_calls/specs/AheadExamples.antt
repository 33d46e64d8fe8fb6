-- Worked examples of tokens that are told ahead, and of the bytes that are kept for them. (This project's.)
use Rattle.std.specs.Prelude.{◌≡◌, ℕ, Bool, List, [], ◌∷◌, Some, None, codes}
use Rattle.lex_semantics.specs.Demand.{Consistent}
use Rattle.lex_semantics.specs.Machine.{Machine, rules_of_machine}
use Rattle.lexscan_window.specs.declared.matched.MatchedRule.TheVariants.{Numbered}
use Rattle.lexscan_window.specs.declared.state.State.{State}
use Rattle.lexscan.specs.declared.pull.PulledToken.{PulledToken}
use Rattle.lexscan.specs.declared.series.BriefToken.{BriefToken}
use Rattle.lexscan.specs.declared.token.Token.{Token}
use Rattle.lexscan.specs.Pulls.{TokensTold}
use Rattle.lexscan.specs.Tokens.{TokensOf}
use Rattle.liblex_calls.specs.Ahead.{HoldsFed, held_text, tokens_ahead, HandsToken, IsAhead}
use Rattle.liblex_calls.specs.declared.ahead.Ahead.{Ahead}
use Rattle.liblex_calls.specs.declared.texts.Texts.{Texts}

-- the bytes that are kept, and how many were fed before them
abbrev pub KeepsBytes : Texts → ℕ → List ℕ → Type 0
KeepsBytes t before bytes = (t.before ≡ before) × (t.bytes.items ≡ bytes)

-- What was told in one go, how many of it were handed on, where the next one begins, and where the last one handed on
-- does.
abbrev pub StandsAhead : Ahead → List BriefToken → ℕ → ℕ → ℕ → Type 0
StandsAhead a tokens given start last =
    (a.tokens.items ≡ tokens) × (a.given ≡ given) × (a.start ≡ start) × (a.last ≡ last)

-- three tokens of 2, 3 and 1 bytes, in few bytes each, and with their places, where the first begins at 4
abbrev pub three : List BriefToken
three =
    record { rule = 7; length = 2; condition = 0 } ∷ record { rule = 1; length = 3; condition = 5 }
    ∷ record { rule = 7; length = 1; condition = 0 } ∷ []

abbrev pub first : Token
first = record { rule = Numbered 7; start = 4; end = 6; condition = 0 }

abbrev pub second : Token
second = record { rule = Numbered 1; start = 6; end = 9; condition = 5 }

abbrev pub third : Token
third = record { rule = Numbered 7; start = 9; end = 10; condition = 0 }

-- the second, as it is handed on
abbrev pub handed : PulledToken
handed = record { rule = Numbered 1; start = 6; length = 3; condition = 5 }

-- The last of the bytes fed are kept, and their places are those of the input.
pub record KeptBytes : Type 0 where
  pub last_bytes : (t : Texts) → KeepsBytes t 2 (codes "cdef") → HoldsFed (codes "abcdef") t
  pub all_bytes : (t : Texts) → KeepsBytes t 0 (codes "abcdef") → HoldsFed (codes "abcdef") t
  pub first_bytes : (t : Texts) → KeepsBytes t 0 (codes "abcd") → HoldsFed (codes "abcdef") t → ⊥
  pub other_bytes : (t : Texts) → KeepsBytes t 2 (codes "abcd") → HoldsFed (codes "abcdef") t → ⊥
  pub text : (t : Texts) → KeepsBytes t 2 (codes "cdef") → held_text t 3 2 ≡ codes "de"

-- The second is handed on: it was not told yet, and the third is left.
pub record HandedNext : Type 0 where
  pub left : (a : Ahead) → StandsAhead a three 1 6 4 → tokens_ahead a ≡ second ∷ third ∷ []
  pub all_left : (a : Ahead) → StandsAhead a three 0 4 0 → tokens_ahead a ≡ first ∷ second ∷ third ∷ []
  pub none_left : (a : Ahead) → StandsAhead a three 3 10 9 → tokens_ahead a ≡ []
  pub on : (a b : Ahead) → StandsAhead a three 1 6 4 → StandsAhead b three 2 9 6 → b.texts ≡ a.texts
      → HandsToken a b (Some handed)
  pub twice : (a b : Ahead) → StandsAhead a three 1 6 4 → StandsAhead b three 1 6 4 → HandsToken a b (Some handed) → ⊥
  pub left_out : (a b : Ahead) → StandsAhead a three 1 6 4 → StandsAhead b three 3 10 9
      → HandsToken a b (Some handed) → ⊥
  pub not_none : (a b : Ahead) → StandsAhead a three 1 6 4 → HandsToken a b None → ⊥

-- The first was handed on, and the others were told ahead of it. All three are those of the scan, and the first is that
-- of its first turns. The bytes are kept from it on.
pub record ToldAhead : Type 0 where
  pub all : (M : Machine) (fed waiting : List ℕ) (told : Bool) (s : State) (a : Ahead) → StandsAhead a three 1 6 4
      → IsAhead M fed told (first ∷ []) s waiting a → TokensTold M fed told (first ∷ second ∷ third ∷ []) s waiting
  pub handed_on : (M : Machine) (fed waiting : List ℕ) (told : Bool) (s : State) (a : Ahead) (x : List ℕ)
      → IsAhead M fed told (first ∷ []) s waiting a → Consistent fed told x
      → (turns : ℕ) × TokensOf (rules_of_machine M) x turns (first ∷ [])
  pub begins : (M : Machine) (fed waiting : List ℕ) (told : Bool) (s : State) (a : Ahead)
      → IsAhead M fed told (first ∷ second ∷ []) s waiting a → a.last ≡ 6
  pub kept : (M : Machine) (fed waiting : List ℕ) (told : Bool) (s : State) (a : Ahead) → a.texts.before ≡ 5
      → IsAhead M fed told (first ∷ []) s waiting a → ⊥
  pub inside : (M : Machine) (waiting : List ℕ) (told : Bool) (s : State) (a : Ahead) → StandsAhead a three 1 6 4
      → IsAhead M (codes "abcde") told (first ∷ []) s waiting a → ⊥
