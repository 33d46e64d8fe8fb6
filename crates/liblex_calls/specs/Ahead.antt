-- Tokens that a scan tells ahead of those that it hands on. (Own.)
use Rattle.std.specs.Prelude.{◌≡◌, ℕ, ◌+◌, ◌-◌, ◌≤◌, Bool, List, [], ◌∷◌, ◌++◌, length, take, drop, Option, Some, None, ◌==◌, if◌then◌else◌}
use Rattle.lex_machine.specs.declared.machine.Machine as Trait
use Rattle.lex_semantics.specs.Demand.{Consistent}
use Rattle.lex_semantics.specs.Machine.{Machine, rules_of_machine}
use Rattle.lexscan_window.specs.declared.state.State.{State}
use Rattle.lexscan.specs.declared.token.Token.{Token}
use Rattle.lexscan.specs.declared.pull.PullScanner.{PullScanner}
use Rattle.lexscan.specs.declared.pull.PulledToken.{PulledToken}
use Rattle.lexscan.specs.Pulls.{TokensTold, whole_token}
use Rattle.lexscan.specs.Scanners.{pull_text}
use Rattle.lexscan.specs.Series.{drawn_out}
use Rattle.lexscan.specs.Tokens.{TokensOf}
use Rattle.liblex_calls.specs.Lines.{last_start, last_end}
use Rattle.liblex_calls.specs.declared.ahead.Ahead.{Ahead}
use Rattle.liblex_calls.specs.declared.texts.Texts.{Texts}

-- of all bytes that were fed, these are the last
pub record HoldsFed (fed : List ℕ) (t : Texts) : Type 0 where
  pub bytes_are : t.bytes.items ≡ drop t.before fed
  pub size : t.before + length t.bytes.items ≡ length fed

-- so many of these bytes from a place of the input on
abbrev pub held_text : Texts → ℕ → ℕ → List ℕ
held_text t start count = take count (drop (start - t.before) t.bytes.items)

-- the tokens that were told and not handed on
abbrev pub tokens_ahead : Ahead → List Token
tokens_ahead a = drawn_out a.start (drop a.given a.tokens.items)

module _ {M : Type 0} {of_machine : Trait.Ghosts M} where
  -- The text that is shown: that of the token that was handed on last, if it was told ahead, or of the one that the
  -- scan told last.
  abbrev pub text_shown : PullScanner M of_machine → Ahead → List ℕ
  text_shown s a = if a.given == 0 then pull_text s else held_text a.texts a.last (a.start - a.last)

-- The first of them was handed on, or there was none.
abbrev pub HandsToken : Ahead → Ahead → Option PulledToken → Type 0
HandsToken old new None = (new ≡ old) × (tokens_ahead old ≡ [])
HandsToken old new (Some t) =
    (tokens_ahead old ≡ whole_token t ∷ tokens_ahead new) × (t.start ≡ old.start) × (new.start ≡ t.start + t.length)
    × (new.last ≡ t.start) × (1 ≤ new.given) × (new.texts ≡ old.texts)

-- A scan was fed these bytes, and their end was told or not. It has told these tokens, and those that are kept ahead of
-- them. Over every input that goes on so, these are the tokens of its first turns.
pub record IsAhead (M : Machine) (fed : List ℕ) (told : Bool) (tokens : List Token) (s : State) (waiting : List ℕ)
    (a : Ahead) : Type 0 where
  pub all : TokensTold M fed told (tokens ++ tokens_ahead a) s waiting
  pub handed : (x : List ℕ) → Consistent fed told x → (turns : ℕ) × TokensOf (rules_of_machine M) x turns tokens
  pub last_is : a.last ≡ last_start tokens
  pub order : last_start tokens ≤ last_end tokens
  pub onward : 1 ≤ length (tokens_ahead a) → a.last ≤ a.start
  pub low : a.texts.before ≤ a.last
  pub inside : 1 ≤ a.given → a.start - a.last ≤ length fed - a.last
