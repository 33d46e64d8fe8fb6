use Rattle.std.proofs.Common.{◌≡◌, ◌++◌, ◌+◌, ◌-◌, ◌<◌, arith, ◌∙◌, ap, rules}
use Rattle.std.proofs.lemmas.Result.{err_from_is_err_and}
use Rattle.lexauto_dfa.specs.Automata.{states_of}
use Rattle.lexlook_specs.specs.Pictures.{state_lines}
use Rattle.lexlook_specs.proofs.Writing.{loop_stopped, loop_fails, loop_more}
use Rattle.lexlook_specs.proofs.picture.writing.write_states.Goals as goal

pub returns-in_err-add_state_lines-clause-bytes : goal.returns-in_err-add_state_lines-clause-bytes
returns-in_err-add_state_lines-clause-bytes g c =
    let p = err_from_is_err_and c.from_residual-in_err-add_state_lines.result c.from_residual-in_err-add_state_lines.ensures.1 in
    let lines = state_lines c.args.dfa.now c.args.lines.now in
    let within : c.loop-state.state - 1 < states_of c.args.dfa.now - 1 = omega (arith, c.len-state-end.ensures.states) in
    rw p.1 (loop_stopped g.K.Sink.wrote g.met.K.Sink.wrote_more lines 1 (states_of c.args.dfa.now - 1) (c.loop-state.state - 1) within c.args.sink.now c.loop-state.sink c.loop-state.invariant.told)

pub returns-in_err-put-clause-bytes : goal.returns-in_err-put-clause-bytes
returns-in_err-put-clause-bytes g c =
    let p = err_from_is_err_and c.from_residual-in_err-put.result c.from_residual-in_err-put.ensures.1 in
    let lines = state_lines c.args.dfa.now c.args.lines.now in
    let s = c.loop-state.state in
    let within : c.loop-state.state - 1 < states_of c.args.dfa.now - 1 = omega (arith, c.len-state-end.ensures.states) in
    let text : c.deref.result.now ≡ lines s = c.deref.ensures.value ∙ c.in_ok-add_state_lines.ensures.text ∙ ap (λ l. l ++ lines s) c.clear.ensures.items in
    rw p.1 (loop_fails g.K.Sink.wrote g.met.K.Sink.wrote_more lines 1 (states_of c.args.dfa.now - 1) (s - 1) within c.args.sink.now c.loop-state.sink c.put.new.self s c.deref.result.now (omega arith) text c.loop-state.invariant.told c.in_err-put.ensures.bytes)

pub loop-state-preserved : goal.loop-state-preserved
loop-state-preserved g c =
    let lines = state_lines c.args.dfa.now c.args.lines.now in
    let s = c.loop-state.state in
    let text : c.deref.result.now ≡ lines s = c.deref.ensures.value ∙ c.in_ok-add_state_lines.ensures.text ∙ ap (λ l. l ++ lines s) c.clear.ensures.items in
    record {
      told = loop_more g.K.Sink.wrote g.met.K.Sink.wrote_more lines 1 (s - 1) s (s + 1 - 1) c.args.sink.now c.loop-state.sink c.put.new.self c.deref.result.now (omega arith) (omega arith) text c.loop-state.invariant.told c.in_ok-put.ensures.bytes;
      good = let a = c.in_ok-put.ensures.failures in let b = c.loop-state.invariant.good in omega arith;
      room = search rules;
      earlier = c.in_ok-add_state_lines.ensures.drawn;
    }
