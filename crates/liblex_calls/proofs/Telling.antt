-- What a call hands out, by what it answers.
use Rattle.std.proofs.Common.{◌≡◌, ℕ, ◌-◌, Some, ◌≤◌, Bool, true, false, List, [], ◌++◌, length, Result, Ok, Err, refl, sym, ap, subst, ◌∙◌, length-append, arith}
use Rattle.std.specs.Prelude.{nat_lt}
use Rattle.std.proofs.lemmas.Bool.{ltb-true}
use Rattle.lex_semantics.specs.Text.{IsText, flag}
use Rattle.lex_semantics.specs.Spec.{Spec}
use Rattle.lex_semantics.specs.Rules.{Rules}
use Rattle.lex_semantics.specs.Acting.{Ending, Status, StackFault}
use Rattle.lex_semantics.specs.Run.{Run}
use Rattle.lex_semantics.specs.Demand.{ExtendsGiven}
use Rattle.lex_semantics.specs.Machine.{rules_of_machine}
use Rattle.lex_semantics.proofs.After.{turns_of}
use Rattle.lexspec.specs.Files.{SpellsSpec}
use Rattle.lextab_packed.specs.Table.{Table}
use Rattle.lextab_file.specs.File.{IsFileOf}
use Rattle.lextab_packed.specs.Steps.{machine_of_table}
use Rattle.lextab_file.specs.declared.error.TableError.TheVariants as tables
use Rattle.lexscan.specs.TurnInvariants.{RunCompleted}
use Rattle.lexscan_window.specs.declared.error.RunError.{RunError}
use Rattle.lexscan_window.specs.declared.error.RunError.TheVariants as runs
use Rattle.lexkit.specs.Canonical.{IsCanonical}
use Rattle.lexkit.specs.Headline.{reading, TableHeadline, ScansTable, max_reads}
use Rattle.lexkit.specs.declared.options.Options.{Options}
use Rattle.lexkit.specs.declared.errors.ScanError.{ScanError}
use Rattle.lexkit.specs.declared.errors.ScanError.TheVariants as scans
use Rattle.liblex_calls.specs.Buffers.{HandedOut, FitsInto, NothingOut}
use Rattle.lex_io.specs.Source.{Gives}
use Rattle.lex_io.specs.SliceSources.{slice_rest, slice_ends}
use Rattle.lex_io.specs.declared.slice_source.SliceSource.{SliceSource}
use Rattle.liblex_calls.specs.Ends.{Kept}
use Rattle.liblex_calls.specs.Generating.{Generates, no_fault}
use Rattle.liblex_calls.specs.Scanning.{RunsByFile, ScansInto, TellsScan}
use Rattle.liblex_calls.specs.declared.answer.Answer.{Answer}
use Rattle.liblex_calls.specs.declared.answer.Answer.TheVariants as answers
use Rattle.liblex_calls.specs.declared.memory.Kept.{Kept as Sink}

-- a file that was handed out
pub file_out : (options : Options) (text file old new : List ℕ) (count : ℕ) (answer : Answer) (S : Spec) → SpellsSpec (reading options) text S → IsCanonical S file → HandedOut file old new count → FitsInto file old answer → Generates options text old new count no_fault answer
file_out options text file old new count answers.Done S spells canonical handed fits = record { spec = S; spells = spells; file = file; canonical = canonical; handed = handed; fits = fits; none = refl }
file_out options text file old new count answers.TooSmall S spells canonical handed fits = record { spec = S; spells = spells; file = file; canonical = canonical; handed = handed; fits = fits; none = refl }
file_out options text file old new count answers.Ended S spells canonical handed fits = absurd fits
file_out options text file old new count answers.More S spells canonical handed fits = absurd fits
file_out options text file old new count answers.Closed S spells canonical handed fits = absurd fits
file_out options text file old new count answers.Refused S spells canonical handed fits = absurd fits
file_out options text file old new count answers.Stack S spells canonical handed fits = absurd fits
file_out options text file old new count answers.OutOfMemory S spells canonical handed fits = absurd fits
file_out options text file old new count answers.TooManyReads S spells canonical handed fits = absurd fits

goes : (x given rest : List ℕ) (ends ends' : ℕ) (b : Bool) → nat_lt ends ends' ≡ b → Gives (Some x) (Some rest) ends ends' given → ExtendsGiven given b x
goes x given rest ends ends' true e h = h.whole (ltb-true ends ends' e)
goes x given rest ends ends' false e h = (rest, h.taken)

-- a scan to the end over a slice is the run over all of it
pub whole_run : (R : Rules) (x given out rest : List ℕ) (ends ends' : ℕ) (ending : Ending) → IsText x → Gives (Some x) (Some rest) ends ends' given → RunCompleted R given out (nat_lt ends ends') ending → Run R x out ending
whole_run R x given out rest ends ends' ending text gave ran = (ran.turns, ran.place, (turns_of _ _ _ _ _ (ran.scanned x (text, goes x given rest ends ends' (nat_lt ends ends') refl gave))))

abbrev gave_by : SliceSource → List ℕ → SliceSource → Type 0
gave_by s xs t = Gives (Some (slice_rest s)) (Some (slice_rest t)) (slice_ends s) (slice_ends t) xs

abbrev wrote_by : Sink → List ℕ → Sink → Type 0
wrote_by s xs t = Kept s.bytes.items t.bytes.items xs

module _ (file input old new : List ℕ) (count : ℕ) (s s' : SliceSource) (t t' : Sink) (starts : slice_rest s ≡ input) (empty : t.bytes.items ≡ []) (text : IsText input) where
  gave_input : (given : List ℕ) → gave_by s given s' → Gives (Some input) (Some (slice_rest s')) (slice_ends s) (slice_ends s') given
  gave_input given h = subst (λ l. Gives (Some l) (Some (slice_rest s')) (slice_ends s) (slice_ends s') given) starts h

  kept_all : (out : List ℕ) → wrote_by t out t' → t'.bytes.items ≡ out
  kept_all out h = h ∙ ap (λ l. l ++ out) empty

  run_out : (answer : Result ℕ RunError) (h : ScansTable gave_by wrote_by s s' t t' (nat_lt (slice_ends s) (slice_ends s')) (0 - 0) file answer) (ending : Ending) → RunCompleted (rules_of_machine (machine_of_table h.table (λ state. flag h.goes_on state))) h.scans.given h.scans.out (nat_lt (slice_ends s) (slice_ends s')) ending → RunsByFile file input t'.bytes.items ending
  run_out answer h ending ran =
      let R : Rules = rules_of_machine (machine_of_table h.table (λ state. flag h.goes_on state)) in
      record {
        table = h.table;
        is_file = h.file;
        goes_on = h.goes_on;
        leads = h.leads;
        holds = subst (λ l. Run R input l ending) (sym (kept_all h.scans.out h.scans.sink)) (whole_run R input h.scans.given h.scans.out (slice_rest s') (slice_ends s) (slice_ends s') ending text (gave_input h.scans.given h.scans.source) ran);
      }

  -- the scan came to its end
  pub ended_out : (end : ℕ) (answer : Answer) → TableHeadline gave_by wrote_by s s' t t' (nat_lt (slice_ends s) (slice_ends s')) (0 - 0) file (Ok end) → HandedOut t'.bytes.items old new count → FitsInto t'.bytes.items old answer → ScansInto file input old new count end answer
  ended_out end answers.Done told handed fits = record { out = t'.bytes.items; run = run_out (Ok end) told (Status end) told.scans.ran; handed = handed; fits = fits }
  ended_out end answers.TooSmall told handed fits = record { out = t'.bytes.items; run = run_out (Ok end) told (Status end) told.scans.ran; handed = handed; fits = fits }
  ended_out end answers.Ended told handed fits = absurd fits
  ended_out end answers.More told handed fits = absurd fits
  ended_out end answers.Closed told handed fits = absurd fits
  ended_out end answers.Refused told handed fits = absurd fits
  ended_out end answers.Stack told handed fits = absurd fits
  ended_out end answers.OutOfMemory told handed fits = absurd fits
  ended_out end answers.TooManyReads told handed fits = absurd fits

  no_memory : (answer : Answer) → (answer ≡ answers.OutOfMemory) × NothingOut old new count → ScansInto file input old new count 0 answer
  no_memory answer h = subst (λ a. ScansInto file input old new count 0 a) (sym h.0) (h.1, refl)

  refused : (answer : Answer) → ((t : Table) → IsFileOf t file → ⊥) → (answer ≡ answers.Refused) × NothingOut old new count → ScansInto file input old new count 0 answer
  refused answer none h = subst (λ a. ScansInto file input old new count 0 a) (sym h.0) (none, h.1, refl)

  -- it was refused, or it stopped
  pub stopped_out : (error : ScanError) (answer : Answer) → TableHeadline gave_by wrote_by s s' t t' (nat_lt (slice_ends s) (slice_ends s')) (0 - 0) file (Err error) → TellsScan error t'.bytes.items old new count answer → ScansInto file input old new count 0 answer
  stopped_out (scans.Generate e) answer told tells = absurd told
  stopped_out (scans.Table tables.OutOfMemory) answer told tells = no_memory answer tells
  stopped_out (scans.Table tables.BadMagic) answer told tells = refused answer told.0 tells
  stopped_out (scans.Table tables.BadVersion) answer told tells = refused answer told.0 tells
  stopped_out (scans.Table tables.Truncated) answer told tells = refused answer told.0 tells
  stopped_out (scans.Table tables.TrailingBytes) answer told tells = refused answer told.0 tells
  stopped_out (scans.Table (tables.BadField at)) answer told tells = refused answer told.0 tells
  stopped_out (scans.Run runs.Stack) answer told tells =
      subst (λ a. ScansInto file input old new count 0 a) (sym tells.0) (record { out = t'.bytes.items; run = run_out (Err runs.Stack) told StackFault (told.scans.ran.fault refl); handed = tells.1 }, refl)
  stopped_out (scans.Run runs.TooManyReads) answer told tells =
      let taken = ap length (gave_input told.scans.given told.scans.source).taken in
      let many : max_reads ≤ length input = omega (arith, taken, length-append told.scans.given (slice_rest s'), (told.scans.ran.too_many refl).0) in
      subst (λ a. ScansInto file input old new count 0 a) (sym tells.0) (many, tells.1, refl)
  stopped_out (scans.Run runs.Read) answer told tells = no_memory answer tells
  stopped_out (scans.Run runs.Write) answer told tells = no_memory answer tells
  stopped_out (scans.Run runs.OutOfMemory) answer told tells = no_memory answer tells
  stopped_out (scans.Run runs.Failed) answer told tells = no_memory answer tells
