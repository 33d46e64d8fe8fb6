use Rattle.std.proofs.lemmas.Grind.{common_steps}
use Rattle.std.proofs.Common.{ℕ, List, ◌++◌, length, ap, subst, ◌∙◌, arith}
use Rattle.std.proofs.lemmas.List.{length-append}
use Rattle.lexscan_window.specs.Waits.{GivesWaiting, bytes_left}
use Rattle.lexscan_window.specs.declared.waiting.Waiting.{Waiting}
use Rattle.lexscan_window.specs.declared.state.State.{State}
use Rattle.lexscan.proofs.Pushing as Push
use Rattle.lexscan.proofs.push.scan_waiting.Goals as goal

pub overflow_sub-taken : goal.overflow_sub-taken
overflow_sub-taken g c =
    let M = g.M.Machine.machine c.args.machine.now in
    let ran = rw c.in-Ok-Went.field-0-is at c.in-Ok-Went.ensures.ran in
    let p = ran.5 in
    let taken = Push.made_taken M c.args.scan.now.state c.turns_between.new.self.state p.turns ran.0 ran.1 c.requires.paused.reachable p.made in
    omega (arith, taken)

pub keep_rest-requires-clause-inside : goal.keep_rest-requires-clause-inside
keep_rest-requires-clause-inside g c =
    let M = g.M.Machine.machine c.args.machine.now in
    let ran = rw c.in-Ok-Went.field-0-is at c.in-Ok-Went.ensures.ran in
    let p = ran.5 in
    let taken = Push.made_taken M c.args.scan.now.state c.turns_between.new.self.state p.turns ran.0 ran.1 c.requires.paused.reachable p.made in
    let bytes = c.new-source.ensures.bytes ∙ ap (λ l. l ++ c.args.piece.now) c.as_slice.ensures.value in
    let gave = ran.3 in
    let sizes = ap length gave.taken in
    omega (arith, taken, ap length bytes, sizes, length-append ran.0 (bytes_left ran.2), length-append c.args.waiting.now.items c.args.piece.now)

pub returns-in-Ok-Went-clause-fed : goal.returns-in-Ok-Went-clause-fed
returns-in-Ok-Went-clause-fed g c =
    let M = g.M.Machine.machine c.args.machine.now in
    let ran = rw c.in-Ok-Went.field-0-is at c.in-Ok-Went.ensures.ran in
    let p = ran.5 in
    let source = c.new-source.result in
    let bytes = c.new-source.ensures.bytes ∙ ap (λ l. l ++ c.args.piece.now) c.as_slice.ensures.value in
    let first = subst (λ l. GivesWaiting l source.ends (bytes_left ran.2) ran.2.ends ran.0) bytes ran.3 in (
      ran.1,
      ran.4,
      λ fed out h. Push.fed_on M c.args.scan.now.state c.turns_between.new.self.state (c.args.waiting.now.items ++ c.args.piece.now) fed out h c.requires.paused.going.going _ ran.2 c.turns_between.new.source ran.0 ran.1 (bytes_left ran.2) (bytes_left c.turns_between.new.source) source.ends ran.2.ends c.turns_between.new.source.ends _ p first p.source c.requires.limit c.keep_rest.ensures,
    )

pub returns-in-Ok-Went-clause-left : goal.returns-in-Ok-Went-clause-left
returns-in-Ok-Went-clause-left g c = record {
  next = record {
    failed = grind (arith, common_steps);
    kept = grind (arith, common_steps);
    reachable = λ _. (
        let M = g.M.Machine.machine c.args.machine.now in
        let ran = rw c.in-Ok-Went.field-0-is at c.in-Ok-Went.ensures.ran in
        let p = ran.5 in
        Push.standing_on M c.args.scan.now.state c.turns_between.new.self.state p.turns ran.0 ran.1 c.requires.paused.reachable p.made
        );
  };
  room = grind (arith, common_steps);
  reading = grind (arith, common_steps);
  asking_more = grind (arith, common_steps);
}

pub returns-in-Ok-Ended-clause-fed : goal.returns-in-Ok-Ended-clause-fed
returns-in-Ok-Ended-clause-fed g c =
    let M = g.M.Machine.machine c.args.machine.now in
    let now = c.in-Ok-Ended.ensures in
    let old : State = c.args.scan.now.state in
    let new : State = c.turns_between.new.self.state in
    let waiting : List ℕ = c.args.waiting.now.items ++ c.args.piece.now in
    let ran = rw c.in-Ok-Ended.field-0-is at now.ran in
    let t = ran.5 in
    let source = c.new-source.result in
    let last = c.turns_between.new.source in
    let bytes = c.new-source.ensures.bytes ∙ ap (λ l. l ++ c.args.piece.now) c.as_slice.ensures.value in
    let gave = subst (λ (z : Waiting). GivesWaiting waiting source.ends (bytes_left z) z.ends ran.0) t.1 (subst (λ l. GivesWaiting l source.ends (bytes_left ran.2) ran.2.ends ran.0) bytes ran.3) in (
      ran.1,
      ran.4,
      λ fed out h. (let reading = Push.not_ended M old new waiting (bytes_left last) source.ends last.ends ran.0 gave now.counts.ends now.left.max_reads c.requires.limit (Push.taken_of M old new waiting fed out h c.requires.paused.going.going t.0 ran.0 ran.1 t.3) in
          Push.fed_ended M old new waiting fed out h c.requires.paused.going.going t.0 c.in-Ok-Ended.status ran.0 ran.1 (bytes_left last) _ t.3 t.2 reading gave.taken),
    )

pub returns-in-Ok-Ended-clause-left : goal.returns-in-Ok-Ended-clause-left
returns-in-Ok-Ended-clause-left g c = record {
  next = record {
    failed = grind (arith, common_steps);
    kept = grind (arith, common_steps);
    reachable = λ _. (
        let M = g.M.Machine.machine c.args.machine.now in
        let ran = rw c.in-Ok-Ended.field-0-is at c.in-Ok-Ended.ensures.ran in
        let t = ran.5 in
        Push.standing_on M c.args.scan.now.state c.turns_between.new.self.state t.0 ran.0 ran.1 c.requires.paused.reachable t.3
        );
  };
  room = grind (arith, common_steps);
  reading = grind (arith, common_steps);
  asking_more = grind (arith, common_steps);
}

pub returns-in-Err-clause-fed : goal.returns-in-Err-clause-fed
returns-in-Err-clause-fed g c =
    let M = g.M.Machine.machine c.args.machine.now in
    let now = c.in-Err.ensures in
    let old : State = c.args.scan.now.state in
    let new : State = c.turns_between.new.self.state in
    let waiting : List ℕ = c.args.waiting.now.items ++ c.args.piece.now in
    let ran = now.ran in
    let t = ran.5 in
    let source = c.new-source.result in
    let last = c.turns_between.new.source in
    let bytes = c.new-source.ensures.bytes ∙ ap (λ l. l ++ c.args.piece.now) c.as_slice.ensures.value in
    let gave = subst (λ (z : Waiting). GivesWaiting waiting source.ends (bytes_left z) z.ends ran.0) t.1 (subst (λ l. GivesWaiting l source.ends (bytes_left ran.2) ran.2.ends ran.0) bytes ran.3) in (
      ran.1,
      ran.4,
      λ fed out h. (let refusal = t.5 h.turns h.given out h.invariant in
          let reading = Push.not_ended M old new waiting (bytes_left last) source.ends last.ends ran.0 gave now.counts.ends now.left.max_reads c.requires.limit (Push.fallen_of M old new waiting fed out h c.requires.paused.going.going t.0 ran.0 ran.1 t.2 t.3 c.in-Err.e t.4 refusal) in
          Push.fed_refused M old new waiting fed out h c.requires.paused.going.going t.0 ran.0 ran.1 t.2 t.3 (bytes_left last) c.in-Err.e t.4 gave.taken refusal waiting reading),
    )
