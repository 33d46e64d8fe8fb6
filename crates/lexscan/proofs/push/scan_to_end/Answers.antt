use Rattle.std.proofs.lemmas.Grind.{common_steps}
use Rattle.std.proofs.Common.{ℕ, List, subst, ◌∙◌, append-nil, arith}
use Rattle.lexscan_window.specs.Waits.{GivesWaiting, bytes_left}
use Rattle.lexscan_window.specs.declared.waiting.Waiting.{Waiting}
use Rattle.lexscan_window.specs.declared.state.State.{State}
use Rattle.lexscan.proofs.Pushing as Push
use Rattle.lexscan.proofs.push.scan_to_end.Goals as goal

pub unreachable-requires : goal.unreachable-requires
unreachable-requires g c =
    let M = g.M.Machine.machine c.args.machine.now in
    let ran = rw c.in-Ok-Went.field-0-is at c.in-Ok-Went.ensures.ran in
    let p = ran.5 in
    let source = c.new-source.result in
    let first = subst (λ l. GivesWaiting l source.ends (bytes_left ran.2) ran.2.ends ran.0) (c.new-source.ensures.bytes ∙ append-nil c.args.waiting.now) ran.3 in
    Push.never_open M _ ran.2 c.turns_between.new.source c.args.scan.now.state c.turns_between.new.self.state c.args.waiting.now ran.0 ran.1 (bytes_left ran.2) (bytes_left c.turns_between.new.source) source.ends ran.2.ends c.turns_between.new.source.ends c.requires.paused.reachable p first p.source c.requires.limit

pub returns-in-Ok-Ended-clause-finished : goal.returns-in-Ok-Ended-clause-finished
returns-in-Ok-Ended-clause-finished g c =
    let M = g.M.Machine.machine c.args.machine.now in
    let now = c.in-Ok-Ended.ensures in
    let old : State = c.args.scan.now.state in
    let new : State = c.turns_between.new.self.state in
    let waiting : List ℕ = c.args.waiting.now in
    let ran = rw c.in-Ok-Ended.field-0-is at now.ran in
    let t = ran.5 in
    let source = c.new-source.result in
    let last = c.turns_between.new.source in
    let gave = subst (λ (z : Waiting). GivesWaiting waiting source.ends (bytes_left z) z.ends ran.0) t.1 (subst (λ l. GivesWaiting l source.ends (bytes_left ran.2) ran.2.ends ran.0) (c.new-source.ensures.bytes ∙ append-nil c.args.waiting.now) ran.3) in (
      ran.1,
      ran.4,
      λ fed out h. Push.end_reached M old new waiting fed out h c.requires.paused.going.going t.0 c.in-Ok-Ended.status ran.0 ran.1 (bytes_left last) t.3 t.2 (Push.all_given M old new waiting (bytes_left last) source.ends last.ends ran.0 gave now.counts.ends now.left.max_reads) gave.taken,
    )

pub returns-in-Ok-Ended-clause-left : goal.returns-in-Ok-Ended-clause-left
returns-in-Ok-Ended-clause-left g c = record {
  failed = grind (arith, common_steps);
  kept = grind (arith, common_steps);
  reachable = λ _. (
      let M = g.M.Machine.machine c.args.machine.now in
      let ran = rw c.in-Ok-Ended.field-0-is at c.in-Ok-Ended.ensures.ran in
      let t = ran.5 in
      Push.standing_on M c.args.scan.now.state c.turns_between.new.self.state t.0 ran.0 ran.1 c.requires.paused.reachable t.3
      );
}

pub returns-in-Err-clause-finished : goal.returns-in-Err-clause-finished
returns-in-Err-clause-finished g c =
    let M = g.M.Machine.machine c.args.machine.now in
    let now = c.in-Err.ensures in
    let old : State = c.args.scan.now.state in
    let new : State = c.turns_between.new.self.state in
    let waiting : List ℕ = c.args.waiting.now in
    let ran = now.ran in
    let t = ran.5 in
    let source = c.new-source.result in
    let last = c.turns_between.new.source in
    let gave = subst (λ (z : Waiting). GivesWaiting waiting source.ends (bytes_left z) z.ends ran.0) t.1 (subst (λ l. GivesWaiting l source.ends (bytes_left ran.2) ran.2.ends ran.0) (c.new-source.ensures.bytes ∙ append-nil c.args.waiting.now) ran.3) in (
      ran.1,
      ran.4,
      λ fed out h. (let refusal = t.5 h.turns h.given out h.invariant in
          Push.end_refused M old new waiting fed out h c.requires.paused.going.going t.0 ran.0 ran.1 t.2 t.3 (bytes_left last) c.in-Err.e t.4 gave.taken refusal (Push.all_given M old new waiting (bytes_left last) source.ends last.ends ran.0 gave now.counts.ends now.left.max_reads)),
    )
