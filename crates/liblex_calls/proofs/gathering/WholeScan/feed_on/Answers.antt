use Rattle.std.proofs.Common.{Bool, ap, sym, subst, ◌+◌, take, ◌∙◌, arith}
use Rattle.lexscan.specs.Pulls.{TokensTold}
use Rattle.lexscan.specs.Scanners.{pull_machine, pull_state, pull_waiting, pull_finished}
use Rattle.liblex_calls.specs.Rules.{rules_machine}
use Rattle.liblex_calls.proofs.Gathered.{piece_told, end_told, not_whole}
use Rattle.liblex_calls.proofs.gathering.WholeScan.feed_on.Goals as goal

pub returns-then-end-input-clause-feeds : goal.returns-then-end-input-clause-feeds
returns-then-end-input-clause-feeds c M tokens open_end h =
    let w = c.args.self.now in
    let s = c.feed.new.self in
    let input = c.args.input.now in
    let end = w.fed + c.min-size.result in
    let told = piece_told (rules_machine (pull_machine w.scanner)) M input w.fed end (pull_finished w.scanner) tokens (pull_state w.scanner) (pull_state s) (pull_waiting w.scanner) (pull_waiting s) h.machine open_end (omega arith) (c.in-Ok.ensures.told (take w.fed input) tokens open_end) h.told in
    let unfinished = c.feed.ensures.unfinished ∙ open_end in
    record {
      machine = ap rules_machine c.feed.ensures.machine ∙ h.machine;
      whole = λ e. absurd (not_whole _ unfinished e);
      told = subst (λ (b : Bool). TokensTold M (take end input) b tokens (pull_state s) (pull_waiting s)) (sym unfinished) told;
    }

pub returns-clause-feeds : goal.returns-clause-feeds
returns-clause-feeds c M tokens open_end h =
    let w = c.args.self.now in
    let s = c.feed.new.self in
    let t = c.finish.new.self in
    let input = c.args.input.now in
    let end = w.fed + c.min-size.result in
    let told = piece_told (rules_machine (pull_machine w.scanner)) M input w.fed end (pull_finished w.scanner) tokens (pull_state w.scanner) (pull_state s) (pull_waiting w.scanner) (pull_waiting s) h.machine open_end (omega arith) (c.in-Ok.ensures.told (take w.fed input) tokens open_end) h.told in
    let machine = ap rules_machine c.feed.ensures.machine ∙ h.machine in
    let over = end_told (rules_machine (pull_machine s)) M (take end input) (pull_finished s) tokens (pull_state s) (pull_state t) (pull_waiting s) (pull_waiting t) machine (c.feed.ensures.unfinished ∙ open_end) (c.finish.ensures.told (take end input) tokens) told in
    record {
      machine = ap rules_machine c.finish.ensures.machine ∙ machine;
      whole = λ e. omega arith;
      told = subst (λ (b : Bool). TokensTold M (take end input) b tokens (pull_state t) (pull_waiting t)) (sym c.finish.ensures.finished) over;
    }
