use Rattle.std.proofs.Common.{[], ◌∷◌, ◌++◌, Err, refl, subst, ◌∙◌, take, arith}
use Rattle.lex_machine.proofs.Growing.{is_text_from}
use Rattle.lex_semantics.specs.Text.{IsText}
use Rattle.lex_semantics.specs.Machine.{Machine, rules_of_machine}
use Rattle.lexscan_window.specs.declared.error.RunError.{RunError}
use Rattle.lexscan.specs.Pulls.{TokensTold, AfterPull, EndsInRange, whole_token}
use Rattle.lexscan.specs.Scanners.{pull_machine, pull_state, pull_waiting, pull_finished, pull_text}
use Rattle.lexscan.specs.Tokens.{Stopped}
use Rattle.lexscan.specs.declared.pull.Pulled.{Pulled}
use Rattle.lexscan.specs.declared.pull.Pulled.TheVariants as pulls
use Rattle.liblex_calls.specs.Rules.{rules_machine}
use Rattle.liblex_calls.specs.declared.gathering.WholeScan.{WholeScan}
use Rattle.liblex_calls.proofs.Gathered.{goes_on_so, pulled_by, still_feeds, memory_is_no_fault}
use Rattle.liblex_calls.proofs.gathering.WholeScan.step.Goals as goal

pub returns-in-Err-clause-steps : goal.returns-in-Err-clause-steps
returns-in-Err-clause-steps c M tokens h k is =
    let w = c.args.self.now in
    let s = c.next.new.self in
    let input = c.args.input.now in
    let fed = take w.fed input in
    let text : IsText input = is_text_from input (λ i. omega (arith, c.type_inv.input i)) in
    let by_machine =
    subst (λ (K : Machine). TokensTold K fed (pull_finished w.scanner) tokens (pull_state w.scanner) (pull_waiting w.scanner) → AfterPull K fed (pull_finished w.scanner) tokens (pull_state s) (pull_waiting s) (pull_text s) (Err c.in-Err.error)) h.machine (c.in-Err.ensures.pulled fed tokens) in
    let stopped = (by_machine h.told).0 input (goes_on_so input w.fed (pull_finished w.scanner) text h.whole) in
    (tokens, k, subst (λ (e : RunError). Stopped (rules_of_machine M) input tokens e) is stopped)

pub returns-in-Ok-Ended-clause-steps : goal.returns-in-Ok-Ended-clause-steps
returns-in-Ok-Ended-clause-steps c M tokens h k =
    let w = c.args.self.now in
    let s = c.next.new.self in
    let input = c.args.input.now in
    let fed = take w.fed input in
    let text : IsText input = is_text_from input (λ i. omega (arith, c.type_inv.input i)) in
    let after = pulled_by (rules_machine (pull_machine w.scanner)) M fed (pull_finished w.scanner) tokens (pull_state w.scanner) (pull_state s) (pull_waiting w.scanner) (pull_waiting s) (pull_text s) c.in-Ok-Ended.field-0 (pulls.Ended c.in-Ok-Ended.status) h.machine c.in-Ok-Ended.field-0-is (c.in-Ok-Ended.ensures.pulled fed tokens) h.told in
    (tokens, k, after.1 input (goes_on_so input w.fed (pull_finished w.scanner) text h.whole))

pub keep-requires : goal.keep-requires
keep-requires c = subst (λ (p : Pulled). EndsInRange p) c.in-Ok-Token.field-0-is c.in-Ok-Token.ensures.small

pub returns-in-Err-keep-clause-steps : goal.returns-in-Err-keep-clause-steps
returns-in-Err-keep-clause-steps c M tokens h k is = absurd (memory_is_no_fault is)

pub returns-in-Ok-clause-steps : goal.returns-in-Ok-clause-steps
returns-in-Ok-clause-steps c M tokens h k =
    let w = c.args.self.now in
    let s = c.next.new.self in
    let v : WholeScan = record { scanner = s; fed = w.fed; several = w.several } in
    let input = c.args.input.now in
    let fed = take w.fed input in
    let t = c.in-Ok-Token.token in
    let after = pulled_by (rules_machine (pull_machine w.scanner)) M fed (pull_finished w.scanner) tokens (pull_state w.scanner) (pull_state s) (pull_waiting w.scanner) (pull_waiting s) (pull_text s) c.in-Ok-Token.field-0 (pulls.Token t) h.machine c.in-Ok-Token.field-0-is (c.in-Ok-Token.ensures.pulled fed tokens) h.told in (
      tokens ++ whole_token t ∷ [],
      still_feeds M input tokens (tokens ++ whole_token t ∷ []) w v h c.next.ensures.machine c.next.ensures.finished refl after.0,
      c.in-Ok.ensures.kept tokens k,
    )

pub returns-in-Err-feed_on-clause-steps : goal.returns-in-Err-feed_on-clause-steps
returns-in-Err-feed_on-clause-steps c M tokens h k is = absurd (memory_is_no_fault is)

pub returns-in-Ok-feed_on-clause-steps : goal.returns-in-Ok-feed_on-clause-steps
returns-in-Ok-feed_on-clause-steps c M tokens h k =
    let w = c.args.self.now in
    let s = c.next.new.self in
    let v : WholeScan = record { scanner = s; fed = w.fed; several = w.several } in
    let input = c.args.input.now in
    let fed = take w.fed input in
    let after = pulled_by (rules_machine (pull_machine w.scanner)) M fed (pull_finished w.scanner) tokens (pull_state w.scanner) (pull_state s) (pull_waiting w.scanner) (pull_waiting s) (pull_text s) c.in-Ok-More.field-0 pulls.More h.machine c.in-Ok-More.field-0-is (c.in-Ok-More.ensures.pulled fed tokens) h.told in
    let still = still_feeds M input tokens tokens w v h c.next.ensures.machine c.next.ensures.finished refl after.0.0 in
    (tokens, c.in-Ok-feed_on.ensures.feeds M tokens (c.next.ensures.finished ∙ after.0.1) still, k)
