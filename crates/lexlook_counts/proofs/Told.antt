-- What is told of a scan by a table for a specification.
use Rattle.std.proofs.Common.{◌≡◌, ◌∙◌, ℕ, ◌+◌, List, length, Result, Ok, Err, ap, arith, refl, subst}
use Rattle.std.proofs.lemmas.List.FromFn.{length-map-range_with_len}
use Rattle.lex_semantics.specs.Acting.{Status}
use Rattle.lex_semantics.specs.Machine.{Machine}
use Rattle.lex_semantics.specs.Sound.{IsSound}
use Rattle.lex_semantics.specs.Spec.{Spec}
use Rattle.lexspec.specs.Files.{SpellsSpec}
use Rattle.lextab_packed.specs.FlatViews.{tables_of}
use Rattle.lextab_packed.specs.Machines.{laws_of, table_machine}
use Rattle.lexscan.proofs.Tables.{table_tokens}
use Rattle.lexscan_window.specs.Reads.{read_fault_count, write_fault_count}
use Rattle.lexscan_window.specs.declared.error.RunError.{RunError}
use Rattle.lexscan_window.specs.declared.error.RunError.TheVariants as runs
use Rattle.lexkit.specs.Generated.{SpecRefusal}
use Rattle.lexkit.specs.Headline.{Refusal, reading}
use Rattle.lexkit.specs.ScanCounts.{read_faults, write_faults}
use Rattle.lexkit.specs.declared.errors.GenError.{GenError}
use Rattle.lexkit.specs.declared.errors.GenError.TheVariants as gens
use Rattle.lexkit.specs.declared.errors.ScanError.TheVariants.{Run}
use Rattle.lexkit.specs.declared.options.Options.{Options}
use Rattle.lexlook_counts.specs.Costs.{TurnCost, tokens_in}
use Rattle.lexlook_counts.specs.Counting.{CountingStops, CountsAll, CountsSource}
use Rattle.lexlook_counts.specs.Counts.{IsTallyOf, rule_count, turn_count}
use Rattle.lexlook_counts.specs.GivenUp.{given_count, given_counts}
use Rattle.lexlook_counts.specs.Told.{AreMadeFor, CountsStopped, CountsTold, LinesTold, TellsCounts, TellsOf}
use Rattle.lexlook_counts.specs.declared.counting.Counted.{Counted}
use Rattle.lexlook_counts.specs.declared.counting.Machines.{Machines}
use Rattle.lexlook_counts.specs.declared.lines.CountForm.{CountForm}
use Rattle.lexlook_counts.specs.declared.tally.Tally.{Tally}
use Rattle.lexscan_window.specs.declared.matched.MatchedRule.TheVariants.{Numbered}
use Rattle.std.proofs.Common.{Option, sym}
use Rattle.lex_semantics.specs.Rules.{rules_of}
use Rattle.lexscan_window.specs.declared.matched.MatchedRule.{MatchedRule}
use Rattle.lexlook_counts.specs.Ends.{IsEndOf, ended_in, exits_by, exits_last}
use Rattle.lexlook_counts.proofs.Endings.{table_end}
use Rattle.lexlook_counts.proofs.Spelled.{table_costs, table_given}

-- ---- counts of faults, by the fault

pub no_write : (T : Type 0) (e : RunError) → (e ≡ runs.Write → ⊥) → write_fault_count {T = T} (Err e) ≡ 0
no_write T runs.Read not = refl
no_write T runs.TooManyReads not = refl
no_write T runs.Write not = absurd (not refl)
no_write T runs.OutOfMemory not = refl
no_write T runs.Stack not = refl
no_write T runs.Failed not = refl

pub reads_of_run : (e : RunError) → read_fault_count {T = ℕ} (Err e) ≡ read_faults {T = ℕ} (Err (Run e))
reads_of_run runs.Read = refl
reads_of_run runs.TooManyReads = refl
reads_of_run runs.Write = refl
reads_of_run runs.OutOfMemory = refl
reads_of_run runs.Stack = refl
reads_of_run runs.Failed = refl

pub writes_of_run : (e : RunError) → write_fault_count {T = ℕ} (Err e) ≡ write_faults {T = ℕ} (Err (Run e))
writes_of_run runs.Read = refl
writes_of_run runs.TooManyReads = refl
writes_of_run runs.Write = refl
writes_of_run runs.OutOfMemory = refl
writes_of_run runs.Stack = refl
writes_of_run runs.Failed = refl

-- a specification that is refused refuses the text that spells it
pub refused_text : (options : Options) (text : List ℕ) (S : Spec) (e : GenError) → SpellsSpec (reading options) text S → SpecRefusal options.limits S e → Refusal options text e
refused_text options text S (gens.Build e) spells h = (S, spells, h)
refused_text options text S gens.OutOfMemory spells h = tt
refused_text options text S (gens.Spec e) spells h = absurd h

-- ---- what is told

-- the numbers of rules and conditions by other names
pub recounted : {A : Type 0} (gave : A → List ℕ → A → Type 0) (ends_of reads_of : A → ℕ) (M N : Machine) (n m n' m' : ℕ) (s s' : A) (r : Result Counted RunError) → n ≡ n' → m ≡ m' → CountsSource gave ends_of reads_of M N n m s s' r → CountsSource gave ends_of reads_of M N n' m' s s' r
recounted gave ends_of reads_of M N n m n' m' s s' r e f h =
    subst (λ (k : ℕ). CountsSource gave ends_of reads_of M N n' k s s' r) f (subst (λ (k : ℕ). CountsSource gave ends_of reads_of M N k m s s' r) e h)

-- memory ran out after all turns were counted
pub late_memory : {A : Type 0} (gave : A → List ℕ → A → Type 0) (ends_of reads_of : A → ℕ) (M N : Machine) (n m : ℕ) (s s' : A) (status : ℕ) (t : Tally) (g : List ℕ) (rule : Option MatchedRule) (condition : ℕ) → CountsAll gave ends_of reads_of M N n m s s' status t g rule condition → CountingStops gave ends_of reads_of M N n m s s' runs.OutOfMemory
late_memory gave ends_of reads_of M N n m s s' status t g rule condition h = (
  h.given,
  h.at_end,
  record {
    source = h.read.source;
    ends = h.read.ends;
    reads = (let zero : reads_of s' ≡ reads_of s + 0 = omega (arith, h.read.reads) in zero);
    stack = λ e. cc;
    not_write = λ e. cc;
  },
)

-- there are counts of each rule and condition
pub each_rule : (n m : ℕ) (costs : List TurnCost) (t : Tally) → IsTallyOf n m costs t → length t.rules.items ≡ n
each_rule n m costs t h = ap length h.of_rules ∙ length-map-range_with_len (λ i. rule_count costs (Numbered i)) 0 n

pub each_given : (n : ℕ) (rules given : List ℕ) → given ≡ given_counts n rules → length given ≡ n
each_given n rules given h = ap length h ∙ length-map-range_with_len (given_count rules) 0 n

pub each_condition : (n m : ℕ) (costs : List TurnCost) (t : Tally) → IsTallyOf n m costs t → length t.turns.items ≡ m
each_condition n m costs t h = ap length h.of_conditions ∙ length-map-range_with_len (turn_count costs) 0 m

module _ {A B : Type 0} (gave : A → List ℕ → A → Type 0) (ends_of reads_of : A → ℕ) (wrote : B → List ℕ → B → Type 0) (M N : Machine) (S : Spec) (form : CountForm) (s s' : A) (t : B) where
  -- counting stopped, and nothing was written
  pub stops_told : (e : RunError) → CountingStops gave ends_of reads_of M N (length S.rules) (length S.conditions) s s' e → TellsOf gave ends_of reads_of wrote M N S form s s' t t (Err e)
  stops_told runs.Read h = (h, refl)
  stops_told runs.TooManyReads h = (h, refl)
  stops_told runs.Write h = absurd (h.2.not_write refl)
  stops_told runs.OutOfMemory h = (h, refl)
  stops_told runs.Stack h = (h, refl)
  stops_told runs.Failed h = (h, refl)

module _ {A B : Type 0} (gave : A → List ℕ → A → Type 0) (ends_of reads_of : A → ℕ) (wrote : B → List ℕ → B → Type 0) (options : Options) (form : CountForm) (text : List ℕ) (s s' : A) (t t' : B)
    (S : Spec) (sound : IsSound S) (spells : SpellsSpec (reading options) text S) (f : Machines) (made : AreMadeFor options.limits S f) where
  all_told : (status : ℕ) (answer : Result ℕ RunError) → LinesTold gave ends_of reads_of wrote (table_machine (tables_of f.scans)) (table_machine (tables_of f.looks)) S form s s' t t' status answer → CountsTold gave ends_of wrote s s' t t' options form text status answer
  all_told status answer h = record {
    spec = S;
    spells = spells;
    within = made.scans.within;
    given = h.counted.given;
    at_end = h.counted.at_end;
    costs = h.counted.costs;
    given_up = h.counted.given_up;
    counted = h.counts;
    source = h.counted.read.source;
    ends = h.counted.read.ends;
    all = λ x c. table_tokens (table_machine (tables_of f.scans)) S (laws_of (tables_of f.scans)) sound made.scans.table x (tokens_in h.counted.costs) (Status status) c.0 (h.counted.read.all x c);
    looked = λ x c. table_costs (table_machine (tables_of f.scans)) (table_machine (tables_of f.looks)) S sound made.scans.table made.looks.table x h.counted.costs (Status status) c.0 (h.counted.read.all x c) (h.counted.looked x c);
    gave_up = λ x c. table_given (table_machine (tables_of f.scans)) (table_machine (tables_of f.looks)) S sound made.scans.table made.looks.table x h.counted.costs h.counted.given_up (Status status) c.0 (h.counted.read.all x c) (h.counted.gave_up x c);
    counts = h.counted.counts;
    counts_given_up = h.counted.given_up_is;
    ended = λ x c. subst (λ (rule : Option MatchedRule). IsEndOf (rules_of S) x (ended_in (exits_last (exits_by (rules_of S)) rule) h.counts.condition)) (sym h.counted.last)
        (table_end (table_machine (tables_of f.scans)) (laws_of (tables_of f.scans)) S sound made.scans.table x (tokens_in h.counted.costs) status h.counts.condition c.0 (h.counted.read.all x c) (h.counted.comes x c));
    written = h.written;
  }

  stopped_told : (e : RunError) → CountingStops gave ends_of reads_of (table_machine (tables_of f.scans)) (table_machine (tables_of f.looks)) (length S.rules) (length S.conditions) s s' e → t' ≡ t → CountsStopped gave ends_of wrote s s' t t' options form text e
  stopped_told e h unwritten = record {
    spec = S;
    spells = spells;
    within = made.scans.within;
    given = h.0;
    at_end = h.1;
    source = h.2.source;
    ends = h.2.ends;
    unwritten = unwritten;
    stack = λ is. (table_machine (tables_of f.scans), made.scans.table, h.2.stack is);
  }

  pub came_to : (status : ℕ) → TellsOf gave ends_of reads_of wrote (table_machine (tables_of f.scans)) (table_machine (tables_of f.looks)) S form s s' t t' (Ok status) → TellsCounts gave ends_of wrote s s' t t' options form text (Ok status)
  came_to status h = all_told status (Ok status) h

  pub stopped_at : (e : RunError) → TellsOf gave ends_of reads_of wrote (table_machine (tables_of f.scans)) (table_machine (tables_of f.looks)) S form s s' t t' (Err e) → TellsCounts gave ends_of wrote s s' t t' options form text (Err (Run e))
  stopped_at runs.Read h = stopped_told runs.Read h.0 h.1
  stopped_at runs.TooManyReads h = stopped_told runs.TooManyReads h.0 h.1
  stopped_at runs.Write h = (h.0, all_told h.0 (Err runs.Write) h.1)
  stopped_at runs.OutOfMemory h = stopped_told runs.OutOfMemory h.0 h.1
  stopped_at runs.Stack h = stopped_told runs.Stack h.0 h.1
  stopped_at runs.Failed h = stopped_told runs.Failed h.0 h.1
