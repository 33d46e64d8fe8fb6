-- Reading the tokens of a source one by one. (POSIX, lex, Rules in lex: which matches these are; the rest is this
-- project's.)
use Rattle.std.specs.Prelude.{◌≡◌, ℕ, ◌+◌, Bool, false, List, [], ◌∷◌, ◌++◌, Result, Ok, Err, OnOk}
use Rattle.lex_semantics.specs.Acting.{Status}
use Rattle.lex_semantics.specs.ByteSets.{bit_of}
use Rattle.lex_semantics.specs.Demand.{Consistent}
use Rattle.lex_semantics.specs.Machine.{Machine, rules_of_machine}
use Rattle.lex_semantics.specs.Rules.{Rules}
use Rattle.lex_semantics.specs.Text.{part}
use Rattle.lextab_packed.specs.FlatViews.{tables_of}
use Rattle.lextab_packed.specs.Machines.{table_machine}
use Rattle.lexscan.specs.Pulls.{TokensTold, TokenisedSo, StoppedSo, whole_token}
use Rattle.lexscan.specs.Scanners.{pull_finished, pull_machine, pull_state, pull_text, pull_waiting}
use Rattle.lexscan.specs.Tokens.{TokensOf}
use Rattle.lexscan.specs.declared.token.Token.{Token}
use Rattle.lexscan_window.specs.Reads.{read_fault_count}
use Rattle.lexscan_window.specs.declared.error.RunError.{RunError}
use Rattle.lexscan_window.specs.declared.error.RunError.TheVariants as runs
use Rattle.lexlook_counts.specs.Ends.{ComesToSo}
use Rattle.lexlook_counts.specs.declared.reading.Read.{Read}
use Rattle.lexlook_counts.specs.declared.reading.Read.TheVariants as reads
use Rattle.lexlook_counts.specs.declared.reading.TokenReader.{TokenReader}

-- the machine by which it scans, and the text of the token that was read last
abbrev pub reader_machine : TokenReader → Machine
reader_machine r = table_machine (tables_of (pull_machine r.scanner))

abbrev pub text_read : TokenReader → List ℕ
text_read r = pull_text r.scanner

-- the condition of the next turn, or of the last one
abbrev pub condition_read : TokenReader → ℕ
condition_read r = (pull_state r.scanner).place.condition

-- Nothing was fed.
pub record IsNew (M : Machine) (r : TokenReader) : Type 0 where
  pub machine : reader_machine r ≡ M
  pub unfinished : pull_finished r.scanner ≡ false
  pub told : TokensTold M [] false [] (pull_state r.scanner) (pull_waiting r.scanner)

-- it has told some tokens of what was fed
abbrev pub HasTold : TokenReader → Type 0
HasTold r = (fed : List ℕ) × (tokens : List Token)
    × TokensTold (reader_machine r) fed (pull_finished r.scanner) tokens (pull_state r.scanner)
    (pull_waiting r.scanner)

-- Over every input that goes on so, these are the tokens of the first turns.
abbrev pub AreFirst : Rules → List ℕ → Bool → List Token → Type 0
AreFirst R given at_end tokens =
    (turns : ℕ) × ((x : List ℕ) → Consistent given at_end x → TokensOf R x turns tokens)

-- What the source gave from s to s' was fed and appended to what is kept, and its end was told where it has answered
-- that; or that is refused.
pub record Feeds {A : Type 0} (gave : A → List ℕ → A → Type 0) (s s' : A) (q r : TokenReader) (kept kept' : List ℕ)
    (result : Result (Unit {0}) RunError) : Type 0 where
  pub given : List ℕ
  pub source : gave s given s'
  pub keeps : OnOk result (kept' ≡ kept ++ given)
  pub told : (fed : List ℕ) (tokens : List Token)
      → TokensTold (reader_machine q) fed false tokens (pull_state q.scanner) (pull_waiting q.scanner)
      → OnOk result (TokensTold (reader_machine q) (fed ++ given) (pull_finished r.scanner) tokens
      (pull_state r.scanner) (pull_waiting r.scanner))

-- The stack of conditions is at fault in the scan of each input that goes on as what the source gave.
pub record FaultsSo {A : Type 0} (gave : A → List ℕ → A → Type 0) (ends_of : A → ℕ) (M : Machine)
    (s s' : A) : Type 0 where
  pub given : List ℕ
  pub at_end : Bool
  pub tokens : List Token
  pub source : gave s given s'
  pub ends : ends_of s' ≡ ends_of s + bit_of at_end
  pub stopped : StoppedSo (rules_of_machine M) given at_end tokens runs.Stack

-- What the calls of a source from s to s' gave; how often it has answered its end, and how often it failed.
module _ {A : Type 0} (gave : A → List ℕ → A → Type 0) (ends_of reads_of : A → ℕ) (M : Machine) (s s' : A) where
  -- All that the source gave was fed, and its end was told where it answered that. These tokens were told.
  pub record HasRead (given : List ℕ) (tokens : List Token) (r : TokenReader) : Type 0 where
    pub machine : reader_machine r ≡ M
    pub source : gave s given s'
    pub ends : ends_of s' ≡ ends_of s + bit_of (pull_finished r.scanner)
    pub reads : reads_of s' ≡ reads_of s
    pub told : TokensTold M given (pull_finished r.scanner) tokens (pull_state r.scanner) (pull_waiting r.scanner)

  -- These are all tokens of each input that goes on as what the source gave, and its scan ends with this status.
  pub record HasReadAll (given : List ℕ) (at_end : Bool) (tokens : List Token) (status : ℕ) : Type 0 where
    pub source : gave s given s'
    pub ends : ends_of s' ≡ ends_of s + bit_of at_end
    pub reads : reads_of s' ≡ reads_of s
    pub all : TokenisedSo (rules_of_machine M) given at_end tokens (Status status)

  -- Reading stopped before all tokens were told.
  pub record StopsBy (given : List ℕ) (at_end : Bool) (e : RunError) : Type 0 where
    pub source : gave s given s'
    pub ends : ends_of s' ≡ ends_of s + bit_of at_end
    pub reads : reads_of s' ≡ reads_of s + read_fault_count {T = ℕ} (Err e)
    pub stack : e ≡ runs.Stack → FaultsSo gave ends_of M s s'
    pub not_write : e ≡ runs.Write → ⊥

  -- It stopped, and these tokens were told before. The source may have given more.
  pub record StopsBehind (given : List ℕ) (tokens : List Token) (e : RunError) : Type 0 where
    pub more : List ℕ
    pub at_end : Bool
    pub first : AreFirst (rules_of_machine M) (given ++ more) at_end tokens
    pub stops : StopsBy (given ++ more) at_end e

  -- What asking for the next token leaves, and what is kept then of the source: one token more, whose text is that part
  -- of what the source gave; or more of the source, which is kept; or all tokens, and the
  -- condition that the scan has come to; or a fault.
  abbrev pub ReadsOn : List ℕ → List Token → TokenReader → TokenReader → List ℕ → List ℕ → Result Read RunError → Type 0
  ReadsOn given tokens q r kept kept' (Ok (reads.Token t)) =
      HasRead given (tokens ++ whole_token t ∷ []) r × (text_read r ≡ part given t.start (t.start + t.length))
      × (pull_finished r.scanner ≡ pull_finished q.scanner) × (kept' ≡ kept)
  ReadsOn given tokens q r kept kept' (Ok reads.Fed) =
      (more : List ℕ) × HasRead (given ++ more) tokens r × (pull_finished q.scanner ≡ false) × (kept' ≡ kept ++ more)
  ReadsOn given tokens q r kept kept' (Ok (reads.Ended status)) =
      HasReadAll given (pull_finished q.scanner) tokens status
      × ComesToSo (rules_of_machine M) given (pull_finished q.scanner) tokens (condition_read r)
  ReadsOn given tokens q r kept kept' (Err e) = StopsBehind given tokens e
