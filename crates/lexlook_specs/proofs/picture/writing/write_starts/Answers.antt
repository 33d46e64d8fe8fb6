use Rattle.std.proofs.Common.{◌≡◌, ℕ, List, ◌++◌, ◌+◌, ◌<◌, map, arith, refl, ◌∙◌, ap, length, flat_map, subst}
use Rattle.std.specs.List.{range_with_len}
use Rattle.std.specs.Borrow.{Bor}
use Rattle.std.proofs.lemmas.List.{length-map}
use Rattle.std.proofs.lemmas.Result.{err_from_is_err_and}
use Rattle.lexlook_specs.specs.Pictures.{starts_of}
use Rattle.lexlook_specs.proofs.Writing.{loop_stopped, loop_fails, loop_more}
use Rattle.lexlook_specs.proofs.picture.writing.write_starts.Goals as goal

pub returns-in_err-add_condition-clause-bytes : goal.returns-in_err-add_condition-clause-bytes
returns-in_err-add_condition-clause-bytes g c =
    let p = err_from_is_err_and c.from_residual.result c.from_residual.ensures.1 in
    let names = map (λ (n : Bor (List ℕ)). n.now) c.args.names.now in
    let lines = starts_of c.args.dfa.now names in
    let count = length-map c.args.names.now (λ (n : Bor (List ℕ)). n.now) in
    let within : c.loop-condition.condition < length names = omega (arith, count) in
    rw p.1 (loop_stopped g.K.Sink.wrote g.met.K.Sink.wrote_more lines 0 (length names) c.loop-condition.condition within c.args.sink.now c.loop-condition.sink c.loop-condition.invariant.told)

pub returns-in_err-put-clause-bytes : goal.returns-in_err-put-clause-bytes
returns-in_err-put-clause-bytes g c =
    let p = err_from_is_err_and c.from_residual-in_err-put.result c.from_residual-in_err-put.ensures.1 in
    let names = map (λ (n : Bor (List ℕ)). n.now) c.args.names.now in
    let lines = starts_of c.args.dfa.now names in
    let count = length-map c.args.names.now (λ (n : Bor (List ℕ)). n.now) in
    let within : c.loop-condition.condition < length names = omega (arith, count) in
    let i = c.loop-condition.condition in
    let text : c.deref.result.now ≡ lines i = c.deref.ensures.value ∙ c.in_ok-add_condition.ensures ∙ ap (λ l. l ++ lines i) c.clear.ensures.items in
    rw p.1 (loop_fails g.K.Sink.wrote g.met.K.Sink.wrote_more lines 0 (length names) i within c.args.sink.now c.loop-condition.sink c.put.new.self i c.deref.result.now (omega arith) text c.loop-condition.invariant.told c.in_err-put.ensures.bytes)

pub returns-clause-bytes : goal.returns-clause-bytes
returns-clause-bytes g c =
    let names = map (λ (n : Bor (List ℕ)). n.now) c.args.names.now in
    let count : c.loop-condition.condition ≡ length names = omega (arith, length-map c.args.names.now (λ (n : Bor (List ℕ)). n.now)) in
    subst (λ (n : ℕ). g.K.Sink.wrote c.args.sink.now (flat_map (starts_of c.args.dfa.now names) (range_with_len 0 n)) c.loop-condition.sink) count c.loop-condition.invariant.told

pub loop-condition-preserved : goal.loop-condition-preserved
loop-condition-preserved g c =
    let names = map (λ (n : Bor (List ℕ)). n.now) c.args.names.now in
    let lines = starts_of c.args.dfa.now names in
    let count = length-map c.args.names.now (λ (n : Bor (List ℕ)). n.now) in
    let within : c.loop-condition.condition < length names = omega (arith, count) in
    let i = c.loop-condition.condition in
    let text : c.deref.result.now ≡ lines i = c.deref.ensures.value ∙ c.in_ok-add_condition.ensures ∙ ap (λ l. l ++ lines i) c.clear.ensures.items in
    record {
      told = loop_more g.K.Sink.wrote g.met.K.Sink.wrote_more lines 0 i i (i + 1) c.args.sink.now c.loop-condition.sink c.put.new.self c.deref.result.now (omega arith) refl text c.loop-condition.invariant.told c.in_ok-put.ensures.bytes;
      good = let a = c.in_ok-put.ensures.failures in let b = c.loop-condition.invariant.good in omega arith;
    }
