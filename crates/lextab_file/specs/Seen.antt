-- What stood before a statement in its action, and whether it may stand there. (A device of the reader.)
use Rattle.std.specs.Prelude.{◌≡◌, ℕ, ◌+◌, ◌-◌, ◌<◌, ◌≤◌, Bool, true, false, ◌||◌, List, [], ◌∷◌, length, ⊤}
use Rattle.lex_semantics.specs.Text.{IsText}
use Rattle.lex_semantics.specs.Spec.{Statement, Echo, Print, Begin, More, Less, Reject, End, Push, Pop}
use Rattle.lex_semantics.specs.Legal.{is_literal, is_yyless, is_yymore}
use Rattle.lex_semantics.specs.Limits.{max_literal_bytes, max_kept}
use Rattle.lex_semantics.specs.Literals.{literal_of}

-- each of the list meets P at the state that those before it left
abbrev pub EachFrom : {A S : Type 0} → (S → A → Type 0) → (S → A → S) → S → List A → Type 0
EachFrom P next s [] = ⊤
EachFrom P next s (x ∷ xs) = P s x × EachFrom P next (next s x) xs

abbrev pub following : {A : Type 0} → ℕ → A → ℕ
following i x = i + 1

abbrev pub IsString : ℕ → ℕ → List ℕ → Type 0
IsString least most bytes = ((least ≤ length bytes) × (length bytes ≤ most)) × IsText bytes

-- the bytes of literals before it, whether a literal stands directly before it, a More and a Less before it, how many
-- statements there are from it on, and whether the file's version has statements of the stack
pub record Seen : Type 0 where
  pub literal : ℕ
  pub printed : Bool
  pub more : Bool
  pub less : Bool
  pub left : ℕ
  pub stack : Bool

abbrev pub unseen : Bool → ℕ → Seen
unseen stack n = record { literal = 0; printed = false; more = false; less = false; left = n; stack = stack }

abbrev pub seen_after : Seen → Statement → Seen
seen_after s statement =
    record {
      literal = s.literal + length (literal_of statement);
      printed = is_literal statement;
      more = is_yymore statement || s.more;
      less = is_yyless statement || s.less;
      left = s.left - 1;
      stack = s.stack;
    }

-- the statement may stand there, where there are so many conditions
abbrev pub MayStand : ℕ → Seen → Statement → Type 0
MayStand conditions s Echo = ⊤
MayStand conditions s (Print bytes) = (s.printed ≡ false) × IsString 1 (max_literal_bytes - s.literal) bytes
MayStand conditions s (Begin c) = c < conditions
MayStand conditions s More = s.less ≡ false
MayStand conditions s (Less n) = (s.less ≡ false) × ((s.more ≡ false) × ((1 ≤ n) × (n < max_kept + 1)))
MayStand conditions s Reject = ((s.less ≡ false) × (s.more ≡ false)) × (s.left ≤ 1)
MayStand conditions s (End status) = (s.left ≤ 1) × (status < 64)
MayStand conditions s (Push c) = (s.stack ≡ true) × (c < conditions)
MayStand conditions s Pop = s.stack ≡ true
