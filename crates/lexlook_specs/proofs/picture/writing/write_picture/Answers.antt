use Rattle.std.proofs.Common.{ℕ, List, ◌++◌, map, codes}
use Rattle.std.specs.Borrow.{Bor}
use Rattle.std.proofs.lemmas.Result.{err_from_is_err_and}
use Rattle.lexlook_specs.specs.Pictures.{head, all_starts, all_states}
use Rattle.lexlook_specs.proofs.Writing.{begun_first, begun_then}
use Rattle.lexlook_specs.proofs.picture.writing.write_picture.Goals as goal

pub returns-in_err-put-clause-bytes : goal.returns-in_err-put-clause-bytes
returns-in_err-put-clause-bytes g c =
    let p = err_from_is_err_and c.from_residual.result c.from_residual.ensures.1 in
    let starts = all_starts c.args.dfa.now (map (λ (n : Bor (List ℕ)). n.now) c.args.names.now) in
    let states = all_states c.args.dfa.now c.args.lines.now in
    rw p.1 (begun_first (λ xs. g.K.Sink.wrote c.args.sink.now xs c.put.new.self) head (starts ++ (states ++ codes "}\n")) c.in_err-put.ensures.bytes)

pub returns-in_err-write_starts-clause-bytes : goal.returns-in_err-write_starts-clause-bytes
returns-in_err-write_starts-clause-bytes g c =
    let p = err_from_is_err_and c.from_residual-in_err-write_starts.result c.from_residual-in_err-write_starts.ensures.1 in
    let starts = all_starts c.args.dfa.now (map (λ (n : Bor (List ℕ)). n.now) c.args.names.now) in
    let states = all_states c.args.dfa.now c.args.lines.now in
    rw p.1 (begun_then g.K.Sink.wrote g.met.K.Sink.wrote_more c.args.sink.now c.put.new.self c.write_starts.new.sink head (starts ++ (states ++ codes "}\n")) c.in_ok-put.ensures.bytes
    (begun_first (λ xs. g.K.Sink.wrote c.put.new.self xs c.write_starts.new.sink) starts (states ++ codes "}\n") c.in_err-write_starts.ensures.bytes))

pub returns-in_err-write_states-clause-bytes : goal.returns-in_err-write_states-clause-bytes
returns-in_err-write_states-clause-bytes g c =
    let p = err_from_is_err_and c.from_residual-in_err-write_states.result c.from_residual-in_err-write_states.ensures.1 in
    let starts = all_starts c.args.dfa.now (map (λ (n : Bor (List ℕ)). n.now) c.args.names.now) in
    let states = all_states c.args.dfa.now c.args.lines.now in
    rw p.1 (begun_then g.K.Sink.wrote g.met.K.Sink.wrote_more c.args.sink.now c.put.new.self c.write_states.new.sink head (starts ++ (states ++ codes "}\n")) c.in_ok-put.ensures.bytes
    (begun_then g.K.Sink.wrote g.met.K.Sink.wrote_more c.put.new.self c.write_starts.new.sink c.write_states.new.sink starts (states ++ codes "}\n") c.in_ok-write_starts.ensures.bytes
    (begun_first (λ xs. g.K.Sink.wrote c.write_starts.new.sink xs c.write_states.new.sink) states (codes "}\n") c.in_err-write_states.ensures.bytes)))

pub returns-in_err-put-2-clause-bytes : goal.returns-in_err-put-2-clause-bytes
returns-in_err-put-2-clause-bytes g c =
    let p = err_from_is_err_and c.from_residual-in_err-put-2.result c.from_residual-in_err-put-2.ensures.1 in
    let starts = all_starts c.args.dfa.now (map (λ (n : Bor (List ℕ)). n.now) c.args.names.now) in
    let states = all_states c.args.dfa.now c.args.lines.now in
    rw p.1 (begun_then g.K.Sink.wrote g.met.K.Sink.wrote_more c.args.sink.now c.put.new.self c.put-2.new.self head (starts ++ (states ++ codes "}\n")) c.in_ok-put.ensures.bytes
    (begun_then g.K.Sink.wrote g.met.K.Sink.wrote_more c.put.new.self c.write_starts.new.sink c.put-2.new.self starts (states ++ codes "}\n") c.in_ok-write_starts.ensures.bytes
    (begun_then g.K.Sink.wrote g.met.K.Sink.wrote_more c.write_starts.new.sink c.write_states.new.sink c.put-2.new.self states (codes "}\n") c.in_ok-write_states.ensures.bytes c.in_err-put-2.ensures.bytes)))

pub returns-clause-bytes : goal.returns-clause-bytes
returns-clause-bytes g c =
    g.met.K.Sink.wrote_more c.args.sink.now c.put.new.self c.put-2.new.self _ _ c.in_ok-put.ensures.bytes
    (g.met.K.Sink.wrote_more c.put.new.self c.write_starts.new.sink c.put-2.new.self _ _ c.in_ok-write_starts.ensures.bytes
    (g.met.K.Sink.wrote_more c.write_starts.new.sink c.write_states.new.sink c.put-2.new.self _ _ c.in_ok-write_states.ensures.bytes c.in_ok-put-2.ensures.bytes))
