use Rattle.std.proofs.Common.{◌≡◌, ◌∙◌, Bool, [], ◌∷◌, ◌++◌, Ok, Err, ap, false, refl, subst}
use Rattle.lex_semantics.specs.Machine.{Machine}
use Rattle.lexscan.specs.Pulls.{AfterPull, TokensTold, whole_token}
use Rattle.lexscan.specs.Scanners.{pull_finished, pull_state, pull_text, pull_waiting}
use Rattle.lexscan.specs.declared.pull.Pulled.{Pulled}
use Rattle.lexscan.specs.declared.pull.Pulled.TheVariants as pulls
use Rattle.lexscan_window.specs.declared.error.RunError.TheVariants as runs
use Rattle.lextab_packed.specs.FlatViews.{tables_of}
use Rattle.lextab_packed.specs.Machines.{table_machine}
use Rattle.lextab_packed.specs.declared.flat.Flat.{Flat}
use Rattle.lexlook_counts.specs.Reading.{reader_machine}
use Rattle.lexlook_counts.specs.declared.reading.TokenReader.{TokenReader}
use Rattle.lexlook_counts.proofs.Endings.{comes_from}
use Rattle.lexlook_counts.proofs.Fed.{by_feeding, by_memory, by_stack, fed_more, pulled_by, still, stopped_here}
use Rattle.lexlook_counts.proofs.reading.TokenReader.read_on.Goals as goal

pub feed_on-requires-clause-ends : goal.feed_on-requires-clause-ends
feed_on-requires-clause-ends g c =
    let w = c.args.self.now in
    let s = c.next.new.self in
    let (fed, tokens, told) = c.requires.told in
    let after = subst (λ (u : Pulled). AfterPull (reader_machine w) fed (pull_finished w.scanner) tokens (pull_state s) (pull_waiting s) (pull_text s) (Ok u)) c.in-Ok-More.field-0-is (c.in-Ok-More.ensures.pulled fed tokens told) in
    c.requires.ends after.0.1

pub feed_on-requires-clause-unfinished : goal.feed_on-requires-clause-unfinished
feed_on-requires-clause-unfinished g c =
    let w = c.args.self.now in
    let s = c.next.new.self in
    let (fed, tokens, told) = c.requires.told in
    let after = subst (λ (u : Pulled). AfterPull (reader_machine w) fed (pull_finished w.scanner) tokens (pull_state s) (pull_waiting s) (pull_text s) (Ok u)) c.in-Ok-More.field-0-is (c.in-Ok-More.ensures.pulled fed tokens told) in
    c.next.ensures.finished ∙ after.0.1

pub returns-in-Ok-Token : goal.returns-in-Ok-Token
returns-in-Ok-Token g c M s0 given tokens h =
    let w = c.args.self.now in
    let s = c.next.new.self in
    let t = c.in-Ok-Token.token in
    let q : TokenReader = record { scanner = s } in
    let after = pulled_by (reader_machine w) M given (pull_finished w.scanner) tokens (pull_state w.scanner) (pull_state s) (pull_waiting w.scanner) (pull_waiting s) (pull_text s) (Ok c.in-Ok-Token.field-0) (Ok (pulls.Token t)) h.machine (ap Ok c.in-Ok-Token.field-0-is) (c.in-Ok-Token.ensures.pulled given tokens) h.told in (
      still g.S.Source.gave g.S.Source.ends g.S.Source.failures M s0 c.args.source.now given tokens w h q (tokens ++ whole_token t ∷ []) (ap (λ (f : Flat). table_machine (tables_of f)) c.next.ensures.machine) c.next.ensures.finished after.0,
      after.1,
      c.next.ensures.finished,
      refl,
    )

pub returns-in-Ok-Ended : goal.returns-in-Ok-Ended
returns-in-Ok-Ended g c M s0 given tokens h =
    let w = c.args.self.now in
    let s = c.next.new.self in
    let after = pulled_by (reader_machine w) M given (pull_finished w.scanner) tokens (pull_state w.scanner) (pull_state s) (pull_waiting w.scanner) (pull_waiting s) (pull_text s) (Ok c.in-Ok-Ended.field-0) (Ok (pulls.Ended c.in-Ok-Ended.status)) h.machine (ap Ok c.in-Ok-Ended.field-0-is) (c.in-Ok-Ended.ensures.pulled given tokens) h.told in (
      record { source = h.source; ends = h.ends; reads = h.reads; all = after.1 },
      comes_from M given (pull_finished w.scanner) tokens (pull_state s) (pull_waiting s) after.0,
    )

pub returns-in-Err-feed_on : goal.returns-in-Err-feed_on
returns-in-Err-feed_on g c M s0 given tokens h =
    let w = c.args.self.now in
    let s = c.next.new.self in
    let fed = c.feed_on.ensures.fed in
    let after = pulled_by (reader_machine w) M given (pull_finished w.scanner) tokens (pull_state w.scanner) (pull_state s) (pull_waiting w.scanner) (pull_waiting s) (pull_text s) (Ok c.in-Ok-More.field-0) (Ok pulls.More) h.machine (ap Ok c.in-Ok-More.field-0-is) (c.in-Ok-More.ensures.pulled given tokens) h.told in
    by_feeding g.S.Source.gave g.S.Source.ends g.S.Source.failures M s0 c.args.source.now given tokens w h c.feed_on.new.source fed.given (pull_finished c.feed_on.new.self.scanner) c.in-Err-feed_on.error after.0.1
    (g.met.S.Source.gave_more s0 c.args.source.now c.feed_on.new.source given fed.given h.source fed.source) c.feed_on.ensures.ends c.in-Err-feed_on.ensures.reads c.in-Err-feed_on.ensures.refusals

pub returns-in-Ok : goal.returns-in-Ok
returns-in-Ok g c M s0 given tokens h =
    let w = c.args.self.now in
    let s = c.next.new.self in
    let q = c.feed_on.new.self in
    let fed = c.in-Ok.ensures.fed in
    let same : reader_machine (record { scanner = s }) ≡ reader_machine w = ap (λ (f : Flat). table_machine (tables_of f)) c.next.ensures.machine in
    let after = pulled_by (reader_machine w) M given (pull_finished w.scanner) tokens (pull_state w.scanner) (pull_state s) (pull_waiting w.scanner) (pull_waiting s) (pull_text s) (Ok c.in-Ok-More.field-0) (Ok pulls.More) h.machine (ap Ok c.in-Ok-More.field-0-is) (c.in-Ok-More.ensures.pulled given tokens) h.told in
    let open_end : pull_finished w.scanner ≡ false = after.0.1 in
    let told = subst (λ (b : Bool). TokensTold M given b tokens (pull_state s) (pull_waiting s)) open_end after.0.0 in
    let more = subst (λ (K : Machine). TokensTold K given false tokens (pull_state s) (pull_waiting s) → TokensTold K (given ++ fed.given) (pull_finished q.scanner) tokens (pull_state q.scanner) (pull_waiting q.scanner)) (same ∙ h.machine) (fed.told given tokens) in (
      fed.given,
      fed_more g.S.Source.gave g.S.Source.ends g.S.Source.failures M s0 c.args.source.now given tokens w h c.feed_on.new.source fed.given q open_end (c.feed_on.ensures.machine ∙ same)
          (g.met.S.Source.gave_more s0 c.args.source.now c.feed_on.new.source given fed.given h.source fed.source) c.feed_on.ensures.ends c.in-Ok.ensures.reads (more told),
      open_end,
      fed.keeps,
    )

pub returns-in-Err-Stack : goal.returns-in-Err-Stack
returns-in-Err-Stack g c M s0 given tokens h =
    let w = c.args.self.now in
    let s = c.next.new.self in
    let after = pulled_by (reader_machine w) M given (pull_finished w.scanner) tokens (pull_state w.scanner) (pull_state s) (pull_waiting w.scanner) (pull_waiting s) (pull_text s) (Err c.in-Err-Stack.field-0) (Err runs.Stack) h.machine (ap Err c.in-Err-Stack.field-0-is) (c.in-Err-Stack.ensures.pulled given tokens) h.told in
    stopped_here g.S.Source.gave g.S.Source.ends g.S.Source.failures M s0 c.args.source.now given tokens w h runs.Stack (by_stack g.S.Source.gave g.S.Source.ends g.S.Source.failures M s0 c.args.source.now given tokens w h after.0)

pub returns-in-Err : goal.returns-in-Err
returns-in-Err g c M s0 given tokens h =
    let w = c.args.self.now in
    stopped_here g.S.Source.gave g.S.Source.ends g.S.Source.failures M s0 c.args.source.now given tokens w h runs.OutOfMemory (by_memory g.S.Source.gave g.S.Source.ends g.S.Source.failures M s0 c.args.source.now given tokens w h)
