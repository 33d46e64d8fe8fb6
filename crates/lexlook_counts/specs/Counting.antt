-- What counting the turns of a scan of a source leaves. (POSIX, lex, Rules in lex: which matches these are; the rest is
-- this project's.)
use Rattle.std.specs.Prelude.{◌≡◌, ℕ, Bool, List, [], Option, Some, None, Result, Ok, Err}
use Rattle.std.specs.List.{concat}
use Rattle.lex_semantics.specs.Machine.{Machine, rules_of_machine}
use Rattle.lexscan.specs.Scanners.{pull_finished}
use Rattle.lexscan_window.specs.declared.error.RunError.{RunError}
use Rattle.lexlook_counts.specs.Costs.{CostsSo, TurnCost, end_of, tokens_in}
use Rattle.lexlook_counts.specs.Counts.{IsTallyOf}
use Rattle.lexlook_counts.specs.GivenUp.{GivenUpSo, given_counts}
use Rattle.lexlook_counts.specs.Looking.{Holds, looker_machine}
use Rattle.lexlook_counts.specs.Ends.{ComesToSo, last_rule}
use Rattle.lexscan_window.specs.declared.matched.MatchedRule.{MatchedRule}
use Rattle.lexlook_counts.specs.Reading.{condition_read, HasRead, HasReadAll, IsNew, StopsBy}
use Rattle.lexlook_counts.specs.declared.counting.Counter.{Counter}
use Rattle.lexlook_counts.specs.declared.counting.Counted.{Counted}
use Rattle.lexlook_counts.specs.declared.tally.Tally.{Tally}

-- Nothing was fed or counted, by a machine that scans and one that tells how far turns look.
pub record IsFresh (M N : Machine) (rules conditions : ℕ) (c : Counter) : Type 0 where
  pub reader : IsNew M c.reader
  pub machine : looker_machine c.looker ≡ N
  pub holds : Holds [] 0 c.looker
  pub counts : IsTallyOf rules conditions [] c.tally
  pub none_given_up : c.given_up.counts.items ≡ given_counts rules []
  pub none_yet : c.last ≡ None

-- What the calls of a source from s to s' gave; how often it has answered its end, and how often it failed.
module _ {A : Type 0} (gave : A → List ℕ → A → Type 0) (ends_of reads_of : A → ℕ) (M N : Machine)
    (rules conditions : ℕ) (s s' : A) where
  -- the turns of the tokens that were told so far are counted
  pub record HasCounted (c : Counter) : Type 0 where
    pub given : List ℕ
    pub costs : List TurnCost
    pub read : HasRead gave ends_of reads_of M s s' given (tokens_in costs) c.reader
    pub machine : looker_machine c.looker ≡ N
    pub holds : Holds given (end_of 0 costs) c.looker
    pub looked : CostsSo (rules_of_machine N) given (pull_finished c.reader.scanner) costs
    pub counts : IsTallyOf rules conditions costs c.tally
    pub given_up : List (List ℕ)
    pub gave_up : GivenUpSo (rules_of_machine N) given (pull_finished c.reader.scanner) costs given_up
    pub counts_given_up : c.given_up.counts.items ≡ given_counts rules (concat given_up)
    pub last : c.last ≡ last_rule (tokens_in costs)

  -- All turns over each input that goes on as what the source gave are counted, and its scan ends with this status, and
  -- in this condition. That is the rule of the last one.
  pub record CountsAll (status : ℕ) (t : Tally) (counts_given_up : List ℕ) (rule : Option MatchedRule)
      (condition : ℕ) : Type 0 where
    pub given : List ℕ
    pub at_end : Bool
    pub costs : List TurnCost
    pub read : HasReadAll gave ends_of reads_of M s s' given at_end (tokens_in costs) status
    pub looked : CostsSo (rules_of_machine N) given at_end costs
    pub counts : IsTallyOf rules conditions costs t
    pub given_up : List (List ℕ)
    pub gave_up : GivenUpSo (rules_of_machine N) given at_end costs given_up
    pub given_up_is : counts_given_up ≡ given_counts rules (concat given_up)
    pub last : rule ≡ last_rule (tokens_in costs)
    pub comes : ComesToSo (rules_of_machine M) given at_end (tokens_in costs) condition

  -- counting stopped before the end
  abbrev pub CountingStops : RunError → Type 0
  CountingStops e = (given : List ℕ) × (at_end : Bool) × StopsBy gave ends_of reads_of M s s' given at_end e

  -- what one step leaves: the turns so far, or all, or a fault
  abbrev pub CountsOn : Counter → Result (Option ℕ) RunError → Type 0
  CountsOn c (Ok None) = HasCounted c
  CountsOn c (Ok (Some status)) = CountsAll status c.tally c.given_up.counts.items c.last (condition_read c.reader)
  CountsOn c (Err e) = CountingStops e

  -- what all steps leave
  abbrev pub CountsSource : Result Counted RunError → Type 0
  CountsSource (Ok counted) =
      CountsAll counted.status counted.tally counted.given_up.items counted.last counted.condition
  CountsSource (Err e) = CountingStops e

-- So it is for some scan, of which the calls of a source came to this one.
abbrev pub IsCounting : {A : Type 0} → (A → List ℕ → A → Type 0) → (A → ℕ) → (A → ℕ) → A → Counter → Type 0
IsCounting gave ends_of reads_of s' c =
    (M N : Machine) × (rules conditions : ℕ) × (s : _)
    × HasCounted gave ends_of reads_of M N rules conditions s s' c
