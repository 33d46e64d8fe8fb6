use Rattle.std.proofs.Common.{refl, ap, ◌++◌, length, rules}
use Rattle.std.specs.Int.{w32, to_be_bytes}
use Rattle.std.specs.List.{flat_map}
use Rattle.std.proofs.lemmas.Result.{err_from_is_err_and}
use Rattle.lextab_file.proofs.Written.{begun_first, begun_then, appended_then}
use Rattle.lextab_file.proofs.writing.states.put_row.Goals as goal

pub returns-in_err-put_long-clause-bytes : goal.returns-in_err-put_long-clause-bytes
returns-in_err-put_long-clause-bytes g c =
    let p = err_from_is_err_and c.from_residual.result c.from_residual.ensures.1 in
    rw p.1 (begun_first (λ xs. g.K.Sink.wrote c.args.sink.now xs c.put_long.new.sink) _ (to_be_bytes w32 c.args.row.now.default_target) (to_be_bytes w32 c.args.row.now.base ++ (to_be_bytes w32 (length c.args.row.now.rules.items) ++ (flat_map (to_be_bytes w32) c.args.row.now.rules.items))) refl c.in_err-put_long.ensures.bytes)

pub returns-in_err-put_long-2-clause-bytes : goal.returns-in_err-put_long-2-clause-bytes
returns-in_err-put_long-2-clause-bytes g c =
    let p = err_from_is_err_and c.from_residual-in_err-put_long-2.result c.from_residual-in_err-put_long-2.ensures.1 in
    rw p.1 (begun_then g.K.Sink.wrote g.met.K.Sink.wrote_more c.args.sink.now c.put_long.new.sink _ (to_be_bytes w32 c.args.row.now.default_target) (to_be_bytes w32 c.args.row.now.base ++ (to_be_bytes w32 (length c.args.row.now.rules.items) ++ (flat_map (to_be_bytes w32) c.args.row.now.rules.items))) c.in_ok-put_long.ensures.bytes (begun_first (λ xs. g.K.Sink.wrote c.put_long.new.sink xs c.put_long-2.new.sink) _ (to_be_bytes w32 c.args.row.now.base) (to_be_bytes w32 (length c.args.row.now.rules.items) ++ (flat_map (to_be_bytes w32) c.args.row.now.rules.items)) refl c.in_err-put_long-2.ensures.bytes))

pub returns-in_err-put_long-3-clause-bytes : goal.returns-in_err-put_long-3-clause-bytes
returns-in_err-put_long-3-clause-bytes g c =
    let p = err_from_is_err_and c.from_residual-in_err-put_long-3.result c.from_residual-in_err-put_long-3.ensures.1 in
    rw p.1 (begun_then g.K.Sink.wrote g.met.K.Sink.wrote_more c.args.sink.now c.put_long.new.sink _ (to_be_bytes w32 c.args.row.now.default_target) (to_be_bytes w32 c.args.row.now.base ++ (to_be_bytes w32 (length c.args.row.now.rules.items) ++ (flat_map (to_be_bytes w32) c.args.row.now.rules.items))) c.in_ok-put_long.ensures.bytes (begun_then g.K.Sink.wrote g.met.K.Sink.wrote_more c.put_long.new.sink c.put_long-2.new.sink _ (to_be_bytes w32 c.args.row.now.base) (to_be_bytes w32 (length c.args.row.now.rules.items) ++ (flat_map (to_be_bytes w32) c.args.row.now.rules.items)) c.in_ok-put_long-2.ensures.bytes (begun_first (λ xs. g.K.Sink.wrote c.put_long-2.new.sink xs c.put_long-3.new.sink) _ (to_be_bytes w32 (length c.args.row.now.rules.items)) (flat_map (to_be_bytes w32) c.args.row.now.rules.items) (search rules) c.in_err-put_long-3.ensures.bytes)))

pub returns-clause-bytes : goal.returns-clause-bytes
returns-clause-bytes g c = (appended_then g.K.Sink.wrote g.met.K.Sink.wrote_more c.args.sink.now c.put_long.new.sink _ _ (to_be_bytes w32 c.args.row.now.default_target) _ (to_be_bytes w32 c.args.row.now.base ++ (to_be_bytes w32 (length c.args.row.now.rules.items) ++ (flat_map (to_be_bytes w32) c.args.row.now.rules.items))) _ refl refl c.in_ok-put_long.ensures.bytes (appended_then g.K.Sink.wrote g.met.K.Sink.wrote_more c.put_long.new.sink c.put_long-2.new.sink _ _ (to_be_bytes w32 c.args.row.now.base) _ (to_be_bytes w32 (length c.args.row.now.rules.items) ++ (flat_map (to_be_bytes w32) c.args.row.now.rules.items)) _ refl refl c.in_ok-put_long-2.ensures.bytes (appended_then g.K.Sink.wrote g.met.K.Sink.wrote_more c.put_long-2.new.sink c.put_long-3.new.sink _ _ (to_be_bytes w32 (length c.args.row.now.rules.items)) _ (flat_map (to_be_bytes w32) c.args.row.now.rules.items) _ (search rules) (ap (flat_map (to_be_bytes w32)) c.deref.ensures.value) c.in_ok-put_long-3.ensures.bytes c.put_longs.ensures.bytes)))
