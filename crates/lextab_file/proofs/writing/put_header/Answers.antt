use Rattle.std.proofs.Common.{ℕ, List, refl, ap, subst, ◌∙◌, ◌++◌, length, map, rules}
use Rattle.std.specs.Int.{w16, w32, to_be_bytes}
use Rattle.std.proofs.lemmas.Result.{err_from_is_err_and}
use Rattle.lextab_packed.specs.Views.{table_rule_of, slots_of}
use Rattle.lextab_file.specs.File.{magic, version_of}
use Rattle.lex_io.specs.Sink.{Appended}
use Rattle.lextab_file.proofs.Written.{Begun, same_wrote, begun_first, begun_then, appended_then}
use Rattle.lextab_file.proofs.Texts.{header_same}
use Rattle.lextab_file.proofs.writing.put_header.Goals as goal

pub returns-in_err-put-clause-bytes : goal.returns-in_err-put-clause-bytes
returns-in_err-put-clause-bytes g c =
    let p = err_from_is_err_and c.from_residual.result c.from_residual.ensures.1 in
    rw p.1 (subst (λ (z : List ℕ). Begun (λ xs. g.K.Sink.wrote c.args.sink.now xs c.put.new.self) z) (header_same c.args.parts.now c.version_of-version.result (c.version_of-version.ensures ∙ ap (λ rs. version_of (map table_rule_of rs)) c.as_slice.ensures.value)) (begun_first (λ xs. g.K.Sink.wrote c.args.sink.now xs c.put.new.self) _ (magic) (to_be_bytes w16 c.version_of-version.result ++ (to_be_bytes w32 (length c.args.parts.now.conditions.items) ++ (to_be_bytes w32 (length c.args.parts.now.rules.items) ++ (to_be_bytes w32 (length c.args.parts.now.rows.items) ++ (to_be_bytes w32 c.args.parts.now.classes ++ (to_be_bytes w32 (length (slots_of c.args.parts.now.checks.items c.args.parts.now.nexts.items)))))))) refl c.in_err-put.ensures.bytes))

pub returns-in_err-put_short-clause-bytes : goal.returns-in_err-put_short-clause-bytes
returns-in_err-put_short-clause-bytes g c =
    let p = err_from_is_err_and c.from_residual-in_err-put_short.result c.from_residual-in_err-put_short.ensures.1 in
    rw p.1 (subst (λ (z : List ℕ). Begun (λ xs. g.K.Sink.wrote c.args.sink.now xs c.put_short.new.sink) z) (header_same c.args.parts.now c.version_of-version.result (c.version_of-version.ensures ∙ ap (λ rs. version_of (map table_rule_of rs)) c.as_slice.ensures.value)) (begun_then g.K.Sink.wrote g.met.K.Sink.wrote_more c.args.sink.now c.put.new.self _ (magic) (to_be_bytes w16 c.version_of-version.result ++ (to_be_bytes w32 (length c.args.parts.now.conditions.items) ++ (to_be_bytes w32 (length c.args.parts.now.rules.items) ++ (to_be_bytes w32 (length c.args.parts.now.rows.items) ++ (to_be_bytes w32 c.args.parts.now.classes ++ (to_be_bytes w32 (length (slots_of c.args.parts.now.checks.items c.args.parts.now.nexts.items)))))))) c.in_ok-put.ensures.bytes (begun_first (λ xs. g.K.Sink.wrote c.put.new.self xs c.put_short.new.sink) _ (to_be_bytes w16 c.version_of-version.result) (to_be_bytes w32 (length c.args.parts.now.conditions.items) ++ (to_be_bytes w32 (length c.args.parts.now.rules.items) ++ (to_be_bytes w32 (length c.args.parts.now.rows.items) ++ (to_be_bytes w32 c.args.parts.now.classes ++ (to_be_bytes w32 (length (slots_of c.args.parts.now.checks.items c.args.parts.now.nexts.items))))))) refl c.in_err-put_short.ensures.bytes)))

pub returns-in_err-put_long-clause-bytes : goal.returns-in_err-put_long-clause-bytes
returns-in_err-put_long-clause-bytes g c =
    let p = err_from_is_err_and c.from_residual-in_err-put_long.result c.from_residual-in_err-put_long.ensures.1 in
    rw p.1 (subst (λ (z : List ℕ). Begun (λ xs. g.K.Sink.wrote c.args.sink.now xs c.put_long.new.sink) z) (header_same c.args.parts.now c.version_of-version.result (c.version_of-version.ensures ∙ ap (λ rs. version_of (map table_rule_of rs)) c.as_slice.ensures.value)) (begun_then g.K.Sink.wrote g.met.K.Sink.wrote_more c.args.sink.now c.put.new.self _ (magic) (to_be_bytes w16 c.version_of-version.result ++ (to_be_bytes w32 (length c.args.parts.now.conditions.items) ++ (to_be_bytes w32 (length c.args.parts.now.rules.items) ++ (to_be_bytes w32 (length c.args.parts.now.rows.items) ++ (to_be_bytes w32 c.args.parts.now.classes ++ (to_be_bytes w32 (length (slots_of c.args.parts.now.checks.items c.args.parts.now.nexts.items)))))))) c.in_ok-put.ensures.bytes (begun_then g.K.Sink.wrote g.met.K.Sink.wrote_more c.put.new.self c.put_short.new.sink _ (to_be_bytes w16 c.version_of-version.result) (to_be_bytes w32 (length c.args.parts.now.conditions.items) ++ (to_be_bytes w32 (length c.args.parts.now.rules.items) ++ (to_be_bytes w32 (length c.args.parts.now.rows.items) ++ (to_be_bytes w32 c.args.parts.now.classes ++ (to_be_bytes w32 (length (slots_of c.args.parts.now.checks.items c.args.parts.now.nexts.items))))))) c.in_ok-put_short.ensures.bytes (begun_first (λ xs. g.K.Sink.wrote c.put_short.new.sink xs c.put_long.new.sink) _ (to_be_bytes w32 (length c.args.parts.now.conditions.items)) (to_be_bytes w32 (length c.args.parts.now.rules.items) ++ (to_be_bytes w32 (length c.args.parts.now.rows.items) ++ (to_be_bytes w32 c.args.parts.now.classes ++ (to_be_bytes w32 (length (slots_of c.args.parts.now.checks.items c.args.parts.now.nexts.items)))))) (search rules) c.in_err-put_long.ensures.bytes))))

pub returns-in_err-put_long-2-clause-bytes : goal.returns-in_err-put_long-2-clause-bytes
returns-in_err-put_long-2-clause-bytes g c =
    let p = err_from_is_err_and c.from_residual-in_err-put_long-2.result c.from_residual-in_err-put_long-2.ensures.1 in
    rw p.1 (subst (λ (z : List ℕ). Begun (λ xs. g.K.Sink.wrote c.args.sink.now xs c.put_long-2.new.sink) z) (header_same c.args.parts.now c.version_of-version.result (c.version_of-version.ensures ∙ ap (λ rs. version_of (map table_rule_of rs)) c.as_slice.ensures.value)) (begun_then g.K.Sink.wrote g.met.K.Sink.wrote_more c.args.sink.now c.put.new.self _ (magic) (to_be_bytes w16 c.version_of-version.result ++ (to_be_bytes w32 (length c.args.parts.now.conditions.items) ++ (to_be_bytes w32 (length c.args.parts.now.rules.items) ++ (to_be_bytes w32 (length c.args.parts.now.rows.items) ++ (to_be_bytes w32 c.args.parts.now.classes ++ (to_be_bytes w32 (length (slots_of c.args.parts.now.checks.items c.args.parts.now.nexts.items)))))))) c.in_ok-put.ensures.bytes (begun_then g.K.Sink.wrote g.met.K.Sink.wrote_more c.put.new.self c.put_short.new.sink _ (to_be_bytes w16 c.version_of-version.result) (to_be_bytes w32 (length c.args.parts.now.conditions.items) ++ (to_be_bytes w32 (length c.args.parts.now.rules.items) ++ (to_be_bytes w32 (length c.args.parts.now.rows.items) ++ (to_be_bytes w32 c.args.parts.now.classes ++ (to_be_bytes w32 (length (slots_of c.args.parts.now.checks.items c.args.parts.now.nexts.items))))))) c.in_ok-put_short.ensures.bytes (begun_then g.K.Sink.wrote g.met.K.Sink.wrote_more c.put_short.new.sink c.put_long.new.sink _ (to_be_bytes w32 (length c.args.parts.now.conditions.items)) (to_be_bytes w32 (length c.args.parts.now.rules.items) ++ (to_be_bytes w32 (length c.args.parts.now.rows.items) ++ (to_be_bytes w32 c.args.parts.now.classes ++ (to_be_bytes w32 (length (slots_of c.args.parts.now.checks.items c.args.parts.now.nexts.items)))))) (same_wrote g.K.Sink.wrote _ _ _ _ (search rules) c.in_ok-put_long.ensures.bytes) (begun_first (λ xs. g.K.Sink.wrote c.put_long.new.sink xs c.put_long-2.new.sink) _ (to_be_bytes w32 (length c.args.parts.now.rules.items)) (to_be_bytes w32 (length c.args.parts.now.rows.items) ++ (to_be_bytes w32 c.args.parts.now.classes ++ (to_be_bytes w32 (length (slots_of c.args.parts.now.checks.items c.args.parts.now.nexts.items))))) (search rules) c.in_err-put_long-2.ensures.bytes)))))

pub returns-in_err-put_long-3-clause-bytes : goal.returns-in_err-put_long-3-clause-bytes
returns-in_err-put_long-3-clause-bytes g c =
    let p = err_from_is_err_and c.from_residual-in_err-put_long-3.result c.from_residual-in_err-put_long-3.ensures.1 in
    rw p.1 (subst (λ (z : List ℕ). Begun (λ xs. g.K.Sink.wrote c.args.sink.now xs c.put_long-3.new.sink) z) (header_same c.args.parts.now c.version_of-version.result (c.version_of-version.ensures ∙ ap (λ rs. version_of (map table_rule_of rs)) c.as_slice.ensures.value)) (begun_then g.K.Sink.wrote g.met.K.Sink.wrote_more c.args.sink.now c.put.new.self _ (magic) (to_be_bytes w16 c.version_of-version.result ++ (to_be_bytes w32 (length c.args.parts.now.conditions.items) ++ (to_be_bytes w32 (length c.args.parts.now.rules.items) ++ (to_be_bytes w32 (length c.args.parts.now.rows.items) ++ (to_be_bytes w32 c.args.parts.now.classes ++ (to_be_bytes w32 (length (slots_of c.args.parts.now.checks.items c.args.parts.now.nexts.items)))))))) c.in_ok-put.ensures.bytes (begun_then g.K.Sink.wrote g.met.K.Sink.wrote_more c.put.new.self c.put_short.new.sink _ (to_be_bytes w16 c.version_of-version.result) (to_be_bytes w32 (length c.args.parts.now.conditions.items) ++ (to_be_bytes w32 (length c.args.parts.now.rules.items) ++ (to_be_bytes w32 (length c.args.parts.now.rows.items) ++ (to_be_bytes w32 c.args.parts.now.classes ++ (to_be_bytes w32 (length (slots_of c.args.parts.now.checks.items c.args.parts.now.nexts.items))))))) c.in_ok-put_short.ensures.bytes (begun_then g.K.Sink.wrote g.met.K.Sink.wrote_more c.put_short.new.sink c.put_long.new.sink _ (to_be_bytes w32 (length c.args.parts.now.conditions.items)) (to_be_bytes w32 (length c.args.parts.now.rules.items) ++ (to_be_bytes w32 (length c.args.parts.now.rows.items) ++ (to_be_bytes w32 c.args.parts.now.classes ++ (to_be_bytes w32 (length (slots_of c.args.parts.now.checks.items c.args.parts.now.nexts.items)))))) (same_wrote g.K.Sink.wrote _ _ _ _ (search rules) c.in_ok-put_long.ensures.bytes) (begun_then g.K.Sink.wrote g.met.K.Sink.wrote_more c.put_long.new.sink c.put_long-2.new.sink _ (to_be_bytes w32 (length c.args.parts.now.rules.items)) (to_be_bytes w32 (length c.args.parts.now.rows.items) ++ (to_be_bytes w32 c.args.parts.now.classes ++ (to_be_bytes w32 (length (slots_of c.args.parts.now.checks.items c.args.parts.now.nexts.items))))) (same_wrote g.K.Sink.wrote _ _ _ _ (search rules) c.in_ok-put_long-2.ensures.bytes) (begun_first (λ xs. g.K.Sink.wrote c.put_long-2.new.sink xs c.put_long-3.new.sink) _ (to_be_bytes w32 (length c.args.parts.now.rows.items)) (to_be_bytes w32 c.args.parts.now.classes ++ (to_be_bytes w32 (length (slots_of c.args.parts.now.checks.items c.args.parts.now.nexts.items)))) (search rules) c.in_err-put_long-3.ensures.bytes))))))

pub returns-in_err-put_long-4-clause-bytes : goal.returns-in_err-put_long-4-clause-bytes
returns-in_err-put_long-4-clause-bytes g c =
    let p = err_from_is_err_and c.from_residual-in_err-put_long-4.result c.from_residual-in_err-put_long-4.ensures.1 in
    rw p.1 (subst (λ (z : List ℕ). Begun (λ xs. g.K.Sink.wrote c.args.sink.now xs c.put_long-4.new.sink) z) (header_same c.args.parts.now c.version_of-version.result (c.version_of-version.ensures ∙ ap (λ rs. version_of (map table_rule_of rs)) c.as_slice.ensures.value)) (begun_then g.K.Sink.wrote g.met.K.Sink.wrote_more c.args.sink.now c.put.new.self _ (magic) (to_be_bytes w16 c.version_of-version.result ++ (to_be_bytes w32 (length c.args.parts.now.conditions.items) ++ (to_be_bytes w32 (length c.args.parts.now.rules.items) ++ (to_be_bytes w32 (length c.args.parts.now.rows.items) ++ (to_be_bytes w32 c.args.parts.now.classes ++ (to_be_bytes w32 (length (slots_of c.args.parts.now.checks.items c.args.parts.now.nexts.items)))))))) c.in_ok-put.ensures.bytes (begun_then g.K.Sink.wrote g.met.K.Sink.wrote_more c.put.new.self c.put_short.new.sink _ (to_be_bytes w16 c.version_of-version.result) (to_be_bytes w32 (length c.args.parts.now.conditions.items) ++ (to_be_bytes w32 (length c.args.parts.now.rules.items) ++ (to_be_bytes w32 (length c.args.parts.now.rows.items) ++ (to_be_bytes w32 c.args.parts.now.classes ++ (to_be_bytes w32 (length (slots_of c.args.parts.now.checks.items c.args.parts.now.nexts.items))))))) c.in_ok-put_short.ensures.bytes (begun_then g.K.Sink.wrote g.met.K.Sink.wrote_more c.put_short.new.sink c.put_long.new.sink _ (to_be_bytes w32 (length c.args.parts.now.conditions.items)) (to_be_bytes w32 (length c.args.parts.now.rules.items) ++ (to_be_bytes w32 (length c.args.parts.now.rows.items) ++ (to_be_bytes w32 c.args.parts.now.classes ++ (to_be_bytes w32 (length (slots_of c.args.parts.now.checks.items c.args.parts.now.nexts.items)))))) (same_wrote g.K.Sink.wrote _ _ _ _ (search rules) c.in_ok-put_long.ensures.bytes) (begun_then g.K.Sink.wrote g.met.K.Sink.wrote_more c.put_long.new.sink c.put_long-2.new.sink _ (to_be_bytes w32 (length c.args.parts.now.rules.items)) (to_be_bytes w32 (length c.args.parts.now.rows.items) ++ (to_be_bytes w32 c.args.parts.now.classes ++ (to_be_bytes w32 (length (slots_of c.args.parts.now.checks.items c.args.parts.now.nexts.items))))) (same_wrote g.K.Sink.wrote _ _ _ _ (search rules) c.in_ok-put_long-2.ensures.bytes) (begun_then g.K.Sink.wrote g.met.K.Sink.wrote_more c.put_long-2.new.sink c.put_long-3.new.sink _ (to_be_bytes w32 (length c.args.parts.now.rows.items)) (to_be_bytes w32 c.args.parts.now.classes ++ (to_be_bytes w32 (length (slots_of c.args.parts.now.checks.items c.args.parts.now.nexts.items)))) (same_wrote g.K.Sink.wrote _ _ _ _ (search rules) c.in_ok-put_long-3.ensures.bytes) (begun_first (λ xs. g.K.Sink.wrote c.put_long-3.new.sink xs c.put_long-4.new.sink) _ (to_be_bytes w32 c.args.parts.now.classes) (to_be_bytes w32 (length (slots_of c.args.parts.now.checks.items c.args.parts.now.nexts.items))) refl c.in_err-put_long-4.ensures.bytes)))))))

pub returns-clause-bytes : goal.returns-clause-bytes
returns-clause-bytes g c = subst (λ (z : List ℕ). Appended (λ xs. g.K.Sink.wrote c.args.sink.now xs c.put_long-5.new.sink) z c.put_long-5.result) (header_same c.args.parts.now c.version_of-version.result (c.version_of-version.ensures ∙ ap (λ rs. version_of (map table_rule_of rs)) c.as_slice.ensures.value)) (appended_then g.K.Sink.wrote g.met.K.Sink.wrote_more c.args.sink.now c.put.new.self _ _ (magic) _ (to_be_bytes w16 c.version_of-version.result ++ (to_be_bytes w32 (length c.args.parts.now.conditions.items) ++ (to_be_bytes w32 (length c.args.parts.now.rules.items) ++ (to_be_bytes w32 (length c.args.parts.now.rows.items) ++ (to_be_bytes w32 c.args.parts.now.classes ++ (to_be_bytes w32 (length (slots_of c.args.parts.now.checks.items c.args.parts.now.nexts.items)))))))) _ refl refl c.in_ok-put.ensures.bytes (appended_then g.K.Sink.wrote g.met.K.Sink.wrote_more c.put.new.self c.put_short.new.sink _ _ (to_be_bytes w16 c.version_of-version.result) _ (to_be_bytes w32 (length c.args.parts.now.conditions.items) ++ (to_be_bytes w32 (length c.args.parts.now.rules.items) ++ (to_be_bytes w32 (length c.args.parts.now.rows.items) ++ (to_be_bytes w32 c.args.parts.now.classes ++ (to_be_bytes w32 (length (slots_of c.args.parts.now.checks.items c.args.parts.now.nexts.items))))))) _ refl refl c.in_ok-put_short.ensures.bytes (appended_then g.K.Sink.wrote g.met.K.Sink.wrote_more c.put_short.new.sink c.put_long.new.sink _ _ (to_be_bytes w32 (length c.args.parts.now.conditions.items)) _ (to_be_bytes w32 (length c.args.parts.now.rules.items) ++ (to_be_bytes w32 (length c.args.parts.now.rows.items) ++ (to_be_bytes w32 c.args.parts.now.classes ++ (to_be_bytes w32 (length (slots_of c.args.parts.now.checks.items c.args.parts.now.nexts.items)))))) _ (search rules) refl c.in_ok-put_long.ensures.bytes (appended_then g.K.Sink.wrote g.met.K.Sink.wrote_more c.put_long.new.sink c.put_long-2.new.sink _ _ (to_be_bytes w32 (length c.args.parts.now.rules.items)) _ (to_be_bytes w32 (length c.args.parts.now.rows.items) ++ (to_be_bytes w32 c.args.parts.now.classes ++ (to_be_bytes w32 (length (slots_of c.args.parts.now.checks.items c.args.parts.now.nexts.items))))) _ (search rules) refl c.in_ok-put_long-2.ensures.bytes (appended_then g.K.Sink.wrote g.met.K.Sink.wrote_more c.put_long-2.new.sink c.put_long-3.new.sink _ _ (to_be_bytes w32 (length c.args.parts.now.rows.items)) _ (to_be_bytes w32 c.args.parts.now.classes ++ (to_be_bytes w32 (length (slots_of c.args.parts.now.checks.items c.args.parts.now.nexts.items)))) _ (search rules) refl c.in_ok-put_long-3.ensures.bytes (appended_then g.K.Sink.wrote g.met.K.Sink.wrote_more c.put_long-3.new.sink c.put_long-4.new.sink _ _ (to_be_bytes w32 c.args.parts.now.classes) _ (to_be_bytes w32 (length (slots_of c.args.parts.now.checks.items c.args.parts.now.nexts.items))) _ refl (search rules) c.in_ok-put_long-4.ensures.bytes c.put_long-5.ensures.bytes))))))
