use Rattle.std.specs.Prelude.{IfOk, IfErr}
use Rattle.std.proofs.Common.{◌≡◌, ℕ, ◌+◌, ◌++◌, ◌<◌, ◌^◌, length, Ok, Err, List, Some, None, false, sym, ap, subst, ◌∙◌, arith}
use Rattle.lex_machine.proofs.Growing.{is_text_from}
use Rattle.lex_semantics.specs.Text.{IsText}
use Rattle.lexscan.specs.Matches.{match_in}
use Rattle.lexscan.specs.TurnSteps.{TellsEnd}
use Rattle.lexscan_window.specs.Reads.{end_step}
use Rattle.lexscan.specs.TurnInvariants.{TurnPreserves}
use Rattle.lexscan.proofs.Lasting as Last
use Rattle.lex_semantics.specs.Machine.{rules_of_machine}
use Rattle.lexscan_window.specs.declared.error.RunError.TheVariants.{OutOfMemory}
use Rattle.lexscan.specs.declared.token.Token.{Token}
use Rattle.lex_semantics.specs.Acting.{Status}
use Rattle.lexscan.specs.Tokens.{tokens_by, Stopped, Tokenised}
use Rattle.std.proofs.lemmas.Result.{err_from_is_err_and}
use Rattle.lexscan.proofs.Lying.{lie_after}
use Rattle.lexscan.proofs.SoFar.{Listed, listed_more, listed_all, stopped_at, stopped_by_memory}
use Rattle.lexscan.proofs.token.tokens.Goals as goal

pub turns-smaller : goal.turns-smaller
turns-smaller g c =
    let inv = c.turns.invariant in
    let now = c.in-Ok.ensures in
    let m = now.goes_on in
    let old = c.turns.scanner.scan.state in
    let new = c.turn.new.self.scan.state in
    let k : TurnPreserves (g.M.Machine.machine c.args.machine.now) old new m.0 m.1 (Ok c.in-Ok.turn) = subst (λ z. TurnPreserves (g.M.Machine.machine z) old new m.0 m.1 (Ok c.in-Ok.turn)) inv.same_machine m.5 in
    let going : new.ended ≡ None = subst (λ t. TellsEnd t new.ended) c.in-Went.is k.0 in
    let h = inv.listed in
    subst (λ n. Last.left_over n new < Last.left_over old.reading.max_reads old) (sym now.max_reads)
    (Last.turn_falls (g.M.Machine.machine c.args.machine.now) (g.M.Machine.laws c.args.machine.now) old.reading.max_reads h.turns h.given m.0 h.out m.1 old new h.invariant (k.1 h.turns h.given h.out h.invariant) m.4 going
    (omega (arith, old.reading.few_reads)) (omega (arith, new.reading.few_reads, now.max_reads)))

pub turns-preserved : goal.turns-preserved
turns-preserved g c =
    let inv = c.turns.invariant in
    let now = c.in-Ok.ensures in
    let m = now.goes_on in
    let old = c.turns.scanner.scan.state in
    let new = c.turn.new.self.scan.state in
    let input : List ℕ = c.args.input.now in
    let text : IsText input = is_text_from input (λ i. omega (arith, c.type_inv.input i)) in
    let k : TurnPreserves (g.M.Machine.machine c.args.machine.now) old new m.0 m.1 (Ok c.in-Ok.turn) = subst (λ z. TurnPreserves (g.M.Machine.machine z) old new m.0 m.1 (Ok c.in-Ok.turn)) inv.same_machine m.5 in
    let ends : c.turn.new.self.ends.intake.source.now.ends ≡ 0 + end_step false new.reading.at_end = omega (arith, now.ends, inv.ends, Last.answered_once old.reading.at_end new.reading.at_end (λ e. (m.4 e).1)) in
    let appended : c.append.new.list.items ≡ c.turns.list.items ++ tokens_by (match_in new) old.place.condition =
    c.in_ok-append.ensures.appended ∙ ap (λ z. c.turns.list.items ++ tokens_by z c.condition-condition.result) c.matched.ensures.told ∙ ap (λ n. c.turns.list.items ++ tokens_by (match_in new) n) c.condition-condition.ensures in
    let listed = subst (λ l. Listed (g.M.Machine.machine c.args.machine.now) input (Some c.turn.new.self.ends.intake.source.now.rest.now) 0 c.turn.new.self.ends.intake.source.now.ends c.args.list.now.items l new) (sym appended)
    (listed_more (g.M.Machine.machine c.args.machine.now) (g.M.Machine.laws c.args.machine.now) input text (Some c.turns.scanner.ends.intake.source.now.rest.now) (Some c.turn.new.self.ends.intake.source.now.rest.now) 0 c.turns.scanner.ends.intake.source.now.ends c.turn.new.self.ends.intake.source.now.ends c.args.list.now.items c.turns.list.items old new
    inv.listed inv.going inv.ends ends c.in-Ok.turn m.0 m.1 m.2 k) in
    record {
      same_machine = now.same_machine ∙ inv.same_machine;
      going = subst (λ t. TellsEnd t new.ended) c.in-Went.is k.0;
      most = now.max_reads ∙ inv.most;
      ends = ends;
      listed = listed;
    }

pub returns-in-Ended : goal.returns-in-Ended
returns-in-Ended g c =
    let inv = c.turns.invariant in
    let now = c.in-Ok.ensures in
    let m = now.goes_on in
    let old = c.turns.scanner.scan.state in
    let new = c.turn.new.self.scan.state in
    let input : List ℕ = c.args.input.now in
    let text : IsText input = is_text_from input (λ i. omega (arith, c.type_inv.input i)) in
    let k : TurnPreserves (g.M.Machine.machine c.args.machine.now) old new m.0 m.1 (Ok c.in-Ok.turn) = subst (λ z. TurnPreserves (g.M.Machine.machine z) old new m.0 m.1 (Ok c.in-Ok.turn)) inv.same_machine m.5 in
    let ends : c.turn.new.self.ends.intake.source.now.ends ≡ 0 + end_step false new.reading.at_end = omega (arith, now.ends, inv.ends, Last.answered_once old.reading.at_end new.reading.at_end (λ e. (m.4 e).1)) in
    let appended : c.append.new.list.items ≡ c.turns.list.items ++ tokens_by (match_in new) old.place.condition =
    c.in_ok-append.ensures.appended ∙ ap (λ z. c.turns.list.items ++ tokens_by z c.condition-condition.result) c.matched.ensures.told ∙ ap (λ n. c.turns.list.items ++ tokens_by (match_in new) n) c.condition-condition.ensures in
    let listed = subst (λ l. Listed (g.M.Machine.machine c.args.machine.now) input (Some c.turn.new.self.ends.intake.source.now.rest.now) 0 c.turn.new.self.ends.intake.source.now.ends c.args.list.now.items l new) (sym appended)
    (listed_more (g.M.Machine.machine c.args.machine.now) (g.M.Machine.laws c.args.machine.now) input text (Some c.turns.scanner.ends.intake.source.now.rest.now) (Some c.turn.new.self.ends.intake.source.now.rest.now) 0 c.turns.scanner.ends.intake.source.now.ends c.turn.new.self.ends.intake.source.now.ends c.args.list.now.items c.turns.list.items old new
    inv.listed inv.going inv.ends ends c.in-Ok.turn m.0 m.1 m.2 k) in
    let over : new.ended ≡ Some c.in-Ended.status = subst (λ t. TellsEnd t new.ended) c.in-Ended.is k.0 in
    record {
      listed = (listed.tokens, listed.appended, listed_all (g.M.Machine.machine c.args.machine.now) input (Some c.turn.new.self.ends.intake.source.now.rest.now) 0 c.turn.new.self.ends.intake.source.now.ends c.in-Ended.status c.args.list.now.items c.append.new.list.items new text ends over listed);
      refused = tt;
      inside = lie_after (length input) c.args.list.now.items c.append.new.list.items listed.tokens listed.appended listed.lie;
    }

pub returns-in-Err : goal.returns-in-Err
returns-in-Err g c =
    let inv = c.turns.invariant in
    let now = c.in-Err.ensures in
    let m = now.goes_on in
    let old = c.turns.scanner.scan.state in
    let new = c.turn.new.self.scan.state in
    let input : List ℕ = c.args.input.now in
    let text : IsText input = is_text_from input (λ i. omega (arith, c.type_inv.input i)) in
    let k : TurnPreserves (g.M.Machine.machine c.args.machine.now) old new m.0 m.1 (Err c.in-Err.fault) = subst (λ z. TurnPreserves (g.M.Machine.machine z) old new m.0 m.1 (Err c.in-Err.fault)) inv.same_machine m.5 in
    let ends : c.turn.new.self.ends.intake.source.now.ends ≡ 0 + end_step false new.reading.at_end = omega (arith, now.ends, inv.ends, Last.answered_once old.reading.at_end new.reading.at_end (λ e. (m.4 e).1)) in
    let few : length input < 2 ^ 63 = c.new-source.ensures.small in
    record {
      listed = tt;
      refused = (
        inv.listed.tokens,
        inv.listed.appended,
        stopped_at (g.M.Machine.machine c.args.machine.now) (g.M.Machine.laws c.args.machine.now) input text (Some c.turns.scanner.ends.intake.source.now.rest.now) (Some c.turn.new.self.ends.intake.source.now.rest.now) 0 c.turns.scanner.ends.intake.source.now.ends c.turn.new.self.ends.intake.source.now.ends c.args.list.now.items c.turns.list.items old new
            inv.listed inv.going inv.ends ends c.in-Err.fault m.0 m.1 m.2 k now.read_faults now.write_faults
            (λ is. omega (arith, few, (now.too_many (ap Err is)).0, now.max_reads, inv.most)) (λ is. now.refused (ap Err is)),
      );
      inside = lie_after (length input) c.args.list.now.items c.turns.list.items inv.listed.tokens (inv.listed.appended) inv.listed.lie;
    }

pub returns-in_err-append : goal.returns-in_err-append
returns-in_err-append g c =
    let inv = c.turns.invariant in
    let now = c.in-Ok.ensures in
    let m = now.goes_on in
    let old = c.turns.scanner.scan.state in
    let new = c.turn.new.self.scan.state in
    let input : List ℕ = c.args.input.now in
    let text : IsText input = is_text_from input (λ i. omega (arith, c.type_inv.input i)) in
    let ends : c.turn.new.self.ends.intake.source.now.ends ≡ 0 + end_step false new.reading.at_end = omega (arith, now.ends, inv.ends, Last.answered_once old.reading.at_end new.reading.at_end (λ e. (m.4 e).1)) in
    let p = err_from_is_err_and c.from_residual.result c.from_residual.ensures.1 in
    let full : c.from_residual.result ≡ Err OutOfMemory = p.1 ∙ ap Err (p.2 ∙ c.in_err-append.ensures.memory) in
    record {
      listed = subst (λ r. IfOk r (λ status. (us : List Token) × (c.append.new.list.items ≡ c.args.list.now.items ++ us) × Tokenised (rules_of_machine (g.M.Machine.machine c.args.machine.now)) input us (Status status))) (sym full) tt;
      refused = subst (λ r. IfErr r (λ e. (us : List Token) × (c.append.new.list.items ≡ c.args.list.now.items ++ us) × Stopped (rules_of_machine (g.M.Machine.machine c.args.machine.now)) input us e)) (sym full) (
        inv.listed.tokens,
        c.in_err-append.ensures.unchanged ∙ inv.listed.appended,
        (stopped_by_memory (g.M.Machine.machine c.args.machine.now) (g.M.Machine.laws c.args.machine.now) input text (Some c.turns.scanner.ends.intake.source.now.rest.now) (Some c.turn.new.self.ends.intake.source.now.rest.now) 0 c.turns.scanner.ends.intake.source.now.ends c.turn.new.self.ends.intake.source.now.ends c.args.list.now.items c.turns.list.items old new
            inv.listed inv.going inv.ends ends),
      );
      inside = lie_after (length input) c.args.list.now.items c.append.new.list.items inv.listed.tokens (c.in_err-append.ensures.unchanged ∙ inv.listed.appended) inv.listed.lie;
    }
