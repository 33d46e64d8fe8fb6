-- How the tokens of a whole input are gathered, as a scan tells one after another. (Which tokens these are is POSIX's
-- and flex's; the rest is own.)
use Rattle.std.specs.Prelude.{◌≡◌, ℕ, true, List, ◌++◌, map, take, length, Option, Some, None, Result, Ok, Err}
use Rattle.lex_semantics.specs.Rules.{Rules}
use Rattle.lex_semantics.specs.Acting.{Status}
use Rattle.lex_semantics.specs.Machine.{Machine, rules_of_machine}
use Rattle.lexscan_window.specs.declared.error.RunError.{RunError}
use Rattle.lexscan_window.specs.declared.error.RunError.TheVariants as runs
use Rattle.lexscan.specs.declared.token.Token.{Token}
use Rattle.lexscan.specs.Pulls.{TokensTold}
use Rattle.lexscan.specs.Scanners.{pull_machine, pull_state, pull_waiting, pull_finished}
use Rattle.lexscan.specs.Tokens.{Tokenised, Stopped}
use Rattle.liblex_calls.specs.Listing.{text_token}
use Rattle.liblex_calls.specs.Brief.{long_tokens}
use Rattle.liblex_calls.specs.Rules.{rules_machine}
use Rattle.liblex_calls.specs.declared.gathering.KeptTokens.{KeptTokens}
use Rattle.liblex_calls.specs.declared.gathering.WholeScan.{WholeScan}
use Rattle.liblex_calls.specs.declared.listing.TextToken.{TextToken}

-- all that are kept, those in few bytes and those behind them
abbrev pub kept_tokens : KeptTokens → List TextToken
kept_tokens k = long_tokens 0 k.brief.items ++ k.long.items

-- The first of these tokens are kept, as many as there is room for, and all of them are counted.
pub record AreKept (tokens : List Token) (k : KeptTokens) : Type 0 where
  pub first : kept_tokens k ≡ take k.room (map text_token tokens)
  pub count_is : k.count ≡ length tokens

-- The scan goes by this machine. It was fed the first bytes of the input, all of them where their end was told, and it
-- has told these tokens.
pub record Feeds (M : Machine) (input : List ℕ) (tokens : List Token) (w : WholeScan) : Type 0 where
  pub machine : rules_machine (pull_machine w.scanner) ≡ M
  pub whole : pull_finished w.scanner ≡ true → w.fed ≡ length input
  pub told : TokensTold M (take w.fed input) (pull_finished w.scanner) tokens (pull_state w.scanner)
      (pull_waiting w.scanner)

-- The tokens of the whole input were gathered, and its scan ends with this status.
abbrev pub KeepsAll : Rules → List ℕ → ℕ → KeptTokens → Type 0
KeepsAll R input status k = (tokens : List Token) × AreKept tokens k × Tokenised R input tokens (Status status)

-- So were those before a fault of the stack of conditions.
abbrev pub KeepsSome : Rules → List ℕ → KeptTokens → Type 0
KeepsSome R input k = (tokens : List Token) × AreKept tokens k × Stopped R input tokens runs.Stack

-- What gathering comes to: all tokens, or those before a fault of the stack. Where memory is refused nothing is said.
abbrev pub Gathers : Machine → List ℕ → KeptTokens → Result ℕ RunError → Type 0
Gathers M input k (Ok status) = KeepsAll (rules_of_machine M) input status k
Gathers M input k (Err e) = e ≡ runs.Stack → KeepsSome (rules_of_machine M) input k

-- the tokens so far
abbrev pub HasGathered : Machine → List ℕ → WholeScan → KeptTokens → Type 0
HasGathered M input w k = (tokens : List Token) × Feeds M input tokens w × AreKept tokens k

-- What one step leaves: the tokens so far, or what gathering comes to.
abbrev pub Steps : Machine → List ℕ → WholeScan → KeptTokens → Result (Option ℕ) RunError → Type 0
Steps M input w k (Ok None) = HasGathered M input w k
Steps M input w k (Ok (Some status)) = Gathers M input k (Ok status)
Steps M input w k (Err e) = Gathers M input k (Err e)
