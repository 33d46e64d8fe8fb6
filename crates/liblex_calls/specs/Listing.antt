-- What listing the tokens of a whole input, or the lines of rules, leaves in a buffer of the caller. (The matches are
-- those of POSIX and flex; the rest is own.)
use Rattle.std.specs.Prelude.{◌≡◌, ℕ, List, map}
use Rattle.lex_semantics.specs.Spec.{Spec}
use Rattle.lex_semantics.specs.Acting.{Status}
use Rattle.lextab_packed.specs.Table.{Table}
use Rattle.lextab_file.specs.File.{IsFileOf}
use Rattle.lexspec.specs.Files.{SpellsSpec}
use Rattle.lexscan_window.specs.declared.matched.MatchedRule.{MatchedRule}
use Rattle.lexscan_window.specs.declared.matched.MatchedRule.TheVariants as rules
use Rattle.lexscan_window.specs.declared.error.RunError.TheVariants as runs
use Rattle.lexscan.specs.declared.token.Token.{Token}
use Rattle.lexscan.specs.declared.pull.PulledToken.{PulledToken}
use Rattle.lexscan.specs.Tokens.{Tokenised, Stopped}
use Rattle.lexkit.specs.Generated.{lines_of}
use Rattle.lexkit.specs.Headline.{reading}
use Rattle.lexkit.specs.declared.options.Options.{Options}
use Rattle.liblex_calls.specs.Buffers.{HandedOut, FitsInto, NothingOut}
use Rattle.liblex_calls.specs.Files.{ByFile}
use Rattle.liblex_calls.specs.declared.answer.Answer.{Answer}
use Rattle.liblex_calls.specs.declared.answer.Answer.TheVariants as answers
use Rattle.liblex_calls.specs.declared.lines.Spot.{Spot}
use Rattle.liblex_calls.specs.declared.listing.TextToken.{TextToken}
use Rattle.liblex_calls.specs.declared.token_scan.NextToken.{NextToken}

-- the number of a rule; the default rule has the greatest of 32 bits
abbrev pub rule_number : MatchedRule → ℕ
rule_number (rules.Numbered rule) = rule
rule_number rules.Default = 4294967295

-- a token with a number for its rule
abbrev pub text_token : Token → TextToken
text_token t = record { start = t.start; end = t.end; rule = rule_number t.rule; condition = t.condition }

-- the same of one that was asked for, with where it stands
abbrev pub next_token : PulledToken → Spot → NextToken
next_token t spot =
    record {
      start = t.start;
      length = t.length;
      rule = rule_number t.rule;
      condition = t.condition;
      line = spot.line;
      column = spot.column;
    }

-- All tokens of the scan of the input by the rules of the file were handed out, with the status that it ends with.
pub record TokensHandedOut (file input : List ℕ) (old new : List TextToken) (count status : ℕ)
    (answer : Answer) : Type 0 where
  pub tokens : List Token
  pub listed : ByFile file (λ R. Tokenised R input tokens (Status status))
  pub handed : HandedOut (map text_token tokens) old new count
  pub fits : FitsInto (map text_token tokens) old answer

-- So were those before a turn that ends the scan at a fault of the stack of conditions.
pub record TokensBeforeFault (file input : List ℕ) (old new : List TextToken) (count : ℕ) : Type 0 where
  pub tokens : List Token
  pub listed : ByFile file (λ R. Stopped R input tokens runs.Stack)
  pub handed : HandedOut (map text_token tokens) old new count

-- What listing tokens leaves, by what it answers.
abbrev pub ListsInto : List ℕ → List ℕ → List TextToken → List TextToken → ℕ → ℕ → Answer → Type 0
ListsInto file input old new count status answers.Done = TokensHandedOut file input old new count status answers.Done
ListsInto file input old new count status answers.TooSmall =
    TokensHandedOut file input old new count status answers.TooSmall
ListsInto file input old new count status answers.Stack = TokensBeforeFault file input old new count × (status ≡ 0)
ListsInto file input old new count status answers.Refused =
    ((t : Table) → IsFileOf t file → ⊥) × NothingOut old new count × (status ≡ 0)
ListsInto file input old new count status answers.OutOfMemory = NothingOut old new count × (status ≡ 0)
ListsInto file input old new count status answers.Ended = ⊥
ListsInto file input old new count status answers.Closed = ⊥
ListsInto file input old new count status answers.More = ⊥
ListsInto file input old new count status answers.TooManyReads = ⊥

-- The lines of the rules of the specification that the text spells were handed out.
pub record LinesHandedOut (options : Options) (text old new : List ℕ) (count : ℕ) (answer : Answer) : Type 0 where
  pub spec : Spec
  pub spells : SpellsSpec (reading options) text spec
  pub handed : HandedOut (lines_of spec.rules) old new count
  pub fits : FitsInto (lines_of spec.rules) old answer

-- What telling the lines of rules leaves, by what it answers.
abbrev pub TellsLines : Options → List ℕ → List ℕ → List ℕ → ℕ → Answer → Type 0
TellsLines options text old new count answers.Done = LinesHandedOut options text old new count answers.Done
TellsLines options text old new count answers.TooSmall = LinesHandedOut options text old new count answers.TooSmall
TellsLines options text old new count answers.Refused =
    ((S : Spec) → SpellsSpec (reading options) text S → ⊥) × NothingOut old new count
TellsLines options text old new count answers.OutOfMemory = NothingOut old new count
TellsLines options text old new count answers.Ended = ⊥
TellsLines options text old new count answers.Closed = ⊥
TellsLines options text old new count answers.More = ⊥
TellsLines options text old new count answers.Stack = ⊥
TellsLines options text old new count answers.TooManyReads = ⊥
