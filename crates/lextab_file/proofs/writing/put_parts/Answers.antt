use Rattle.std.proofs.Common.{ℕ, List, refl, ap, subst, map, ◌++◌, rules}
use Rattle.std.specs.Int.{w16, to_be_bytes}
use Rattle.std.specs.List.{flat_map}
use Rattle.std.proofs.lemmas.Result.{err_from_is_err_and}
use Rattle.lextab_packed.specs.Checks.{sizes_of}
use Rattle.lextab_packed.specs.Views.{condition_of, table_rule_of, row_of, slots_of, table_of}
use Rattle.lextab_file.specs.File.{condition_text, rule_text, row_text, slot_text, sizes_text, magic, version_of}
use Rattle.lex_io.specs.Sink.{Appended}
use Rattle.lextab_file.proofs.Written.{Begun, same_wrote, begun_first, begun_then, appended_then}
use Rattle.lextab_file.proofs.Texts.{file_same}
use Rattle.lextab_file.proofs.writing.put_parts.Goals as goal

pub returns-in_err-put_header-clause-bytes : goal.returns-in_err-put_header-clause-bytes
returns-in_err-put_header-clause-bytes g c =
    let p = err_from_is_err_and c.from_residual.result c.from_residual.ensures.1 in
    rw p.1 (subst (λ (z : List ℕ). Begun (λ xs. g.K.Sink.wrote c.args.sink.now xs c.put_header.new.sink) z) (file_same c.args.parts.now) (begun_first (λ xs. g.K.Sink.wrote c.args.sink.now xs c.put_header.new.sink) _ (magic ++ (to_be_bytes w16 (version_of (map table_rule_of c.args.parts.now.rules.items)) ++ sizes_text (sizes_of (table_of c.args.parts.now)))) (flat_map (λ c. condition_text (condition_of c)) c.args.parts.now.conditions.items ++ (flat_map (λ r. rule_text (table_rule_of r)) c.args.parts.now.rules.items ++ (c.args.parts.now.class_of.items ++ (flat_map (λ r. row_text (row_of r)) c.args.parts.now.rows.items ++ (flat_map slot_text (slots_of c.args.parts.now.checks.items c.args.parts.now.nexts.items)))))) refl c.in_err-put_header.ensures.bytes))

pub returns-in_err-put_conditions-clause-bytes : goal.returns-in_err-put_conditions-clause-bytes
returns-in_err-put_conditions-clause-bytes g c =
    let p = err_from_is_err_and c.from_residual-in_err-put_conditions.result c.from_residual-in_err-put_conditions.ensures.1 in
    rw p.1 (subst (λ (z : List ℕ). Begun (λ xs. g.K.Sink.wrote c.args.sink.now xs c.put_conditions.new.sink) z) (file_same c.args.parts.now) (begun_then g.K.Sink.wrote g.met.K.Sink.wrote_more c.args.sink.now c.put_header.new.sink _ (magic ++ (to_be_bytes w16 (version_of (map table_rule_of c.args.parts.now.rules.items)) ++ sizes_text (sizes_of (table_of c.args.parts.now)))) (flat_map (λ c. condition_text (condition_of c)) c.args.parts.now.conditions.items ++ (flat_map (λ r. rule_text (table_rule_of r)) c.args.parts.now.rules.items ++ (c.args.parts.now.class_of.items ++ (flat_map (λ r. row_text (row_of r)) c.args.parts.now.rows.items ++ (flat_map slot_text (slots_of c.args.parts.now.checks.items c.args.parts.now.nexts.items)))))) c.in_ok-put_header.ensures.bytes (begun_first (λ xs. g.K.Sink.wrote c.put_header.new.sink xs c.put_conditions.new.sink) _ (flat_map (λ c. condition_text (condition_of c)) c.args.parts.now.conditions.items) (flat_map (λ r. rule_text (table_rule_of r)) c.args.parts.now.rules.items ++ (c.args.parts.now.class_of.items ++ (flat_map (λ r. row_text (row_of r)) c.args.parts.now.rows.items ++ (flat_map slot_text (slots_of c.args.parts.now.checks.items c.args.parts.now.nexts.items))))) (ap (flat_map (λ c. condition_text (condition_of c))) c.deref.ensures.value) c.in_err-put_conditions.ensures.bytes)))

pub returns-in_err-put_rules-clause-bytes : goal.returns-in_err-put_rules-clause-bytes
returns-in_err-put_rules-clause-bytes g c =
    let p = err_from_is_err_and c.from_residual-in_err-put_rules.result c.from_residual-in_err-put_rules.ensures.1 in
    rw p.1 (subst (λ (z : List ℕ). Begun (λ xs. g.K.Sink.wrote c.args.sink.now xs c.put_rules.new.sink) z) (file_same c.args.parts.now) (begun_then g.K.Sink.wrote g.met.K.Sink.wrote_more c.args.sink.now c.put_header.new.sink _ (magic ++ (to_be_bytes w16 (version_of (map table_rule_of c.args.parts.now.rules.items)) ++ sizes_text (sizes_of (table_of c.args.parts.now)))) (flat_map (λ c. condition_text (condition_of c)) c.args.parts.now.conditions.items ++ (flat_map (λ r. rule_text (table_rule_of r)) c.args.parts.now.rules.items ++ (c.args.parts.now.class_of.items ++ (flat_map (λ r. row_text (row_of r)) c.args.parts.now.rows.items ++ (flat_map slot_text (slots_of c.args.parts.now.checks.items c.args.parts.now.nexts.items)))))) c.in_ok-put_header.ensures.bytes (begun_then g.K.Sink.wrote g.met.K.Sink.wrote_more c.put_header.new.sink c.put_conditions.new.sink _ (flat_map (λ c. condition_text (condition_of c)) c.args.parts.now.conditions.items) (flat_map (λ r. rule_text (table_rule_of r)) c.args.parts.now.rules.items ++ (c.args.parts.now.class_of.items ++ (flat_map (λ r. row_text (row_of r)) c.args.parts.now.rows.items ++ (flat_map slot_text (slots_of c.args.parts.now.checks.items c.args.parts.now.nexts.items))))) (same_wrote g.K.Sink.wrote _ _ _ _ (ap (flat_map (λ c. condition_text (condition_of c))) c.deref.ensures.value) c.in_ok-put_conditions.ensures.bytes) (begun_first (λ xs. g.K.Sink.wrote c.put_conditions.new.sink xs c.put_rules.new.sink) _ (flat_map (λ r. rule_text (table_rule_of r)) c.args.parts.now.rules.items) (c.args.parts.now.class_of.items ++ (flat_map (λ r. row_text (row_of r)) c.args.parts.now.rows.items ++ (flat_map slot_text (slots_of c.args.parts.now.checks.items c.args.parts.now.nexts.items)))) (ap (flat_map (λ r. rule_text (table_rule_of r))) c.deref-2.ensures.value) c.in_err-put_rules.ensures.bytes))))

pub returns-in_err-put-clause-bytes : goal.returns-in_err-put-clause-bytes
returns-in_err-put-clause-bytes g c =
    let p = err_from_is_err_and c.from_residual-in_err-put.result c.from_residual-in_err-put.ensures.1 in
    rw p.1 (subst (λ (z : List ℕ). Begun (λ xs. g.K.Sink.wrote c.args.sink.now xs c.put.new.self) z) (file_same c.args.parts.now) (begun_then g.K.Sink.wrote g.met.K.Sink.wrote_more c.args.sink.now c.put_header.new.sink _ (magic ++ (to_be_bytes w16 (version_of (map table_rule_of c.args.parts.now.rules.items)) ++ sizes_text (sizes_of (table_of c.args.parts.now)))) (flat_map (λ c. condition_text (condition_of c)) c.args.parts.now.conditions.items ++ (flat_map (λ r. rule_text (table_rule_of r)) c.args.parts.now.rules.items ++ (c.args.parts.now.class_of.items ++ (flat_map (λ r. row_text (row_of r)) c.args.parts.now.rows.items ++ (flat_map slot_text (slots_of c.args.parts.now.checks.items c.args.parts.now.nexts.items)))))) c.in_ok-put_header.ensures.bytes (begun_then g.K.Sink.wrote g.met.K.Sink.wrote_more c.put_header.new.sink c.put_conditions.new.sink _ (flat_map (λ c. condition_text (condition_of c)) c.args.parts.now.conditions.items) (flat_map (λ r. rule_text (table_rule_of r)) c.args.parts.now.rules.items ++ (c.args.parts.now.class_of.items ++ (flat_map (λ r. row_text (row_of r)) c.args.parts.now.rows.items ++ (flat_map slot_text (slots_of c.args.parts.now.checks.items c.args.parts.now.nexts.items))))) (same_wrote g.K.Sink.wrote _ _ _ _ (ap (flat_map (λ c. condition_text (condition_of c))) c.deref.ensures.value) c.in_ok-put_conditions.ensures.bytes) (begun_then g.K.Sink.wrote g.met.K.Sink.wrote_more c.put_conditions.new.sink c.put_rules.new.sink _ (flat_map (λ r. rule_text (table_rule_of r)) c.args.parts.now.rules.items) (c.args.parts.now.class_of.items ++ (flat_map (λ r. row_text (row_of r)) c.args.parts.now.rows.items ++ (flat_map slot_text (slots_of c.args.parts.now.checks.items c.args.parts.now.nexts.items)))) (same_wrote g.K.Sink.wrote _ _ _ _ (ap (flat_map (λ r. rule_text (table_rule_of r))) c.deref-2.ensures.value) c.in_ok-put_rules.ensures.bytes) (begun_first (λ xs. g.K.Sink.wrote c.put_rules.new.sink xs c.put.new.self) _ (c.args.parts.now.class_of.items) (flat_map (λ r. row_text (row_of r)) c.args.parts.now.rows.items ++ (flat_map slot_text (slots_of c.args.parts.now.checks.items c.args.parts.now.nexts.items))) c.deref-3.ensures.value c.in_err-put.ensures.bytes)))))

pub returns-in_err-put_rows-clause-bytes : goal.returns-in_err-put_rows-clause-bytes
returns-in_err-put_rows-clause-bytes g c =
    let p = err_from_is_err_and c.from_residual-in_err-put_rows.result c.from_residual-in_err-put_rows.ensures.1 in
    rw p.1 (subst (λ (z : List ℕ). Begun (λ xs. g.K.Sink.wrote c.args.sink.now xs c.put_rows.new.sink) z) (file_same c.args.parts.now) (begun_then g.K.Sink.wrote g.met.K.Sink.wrote_more c.args.sink.now c.put_header.new.sink _ (magic ++ (to_be_bytes w16 (version_of (map table_rule_of c.args.parts.now.rules.items)) ++ sizes_text (sizes_of (table_of c.args.parts.now)))) (flat_map (λ c. condition_text (condition_of c)) c.args.parts.now.conditions.items ++ (flat_map (λ r. rule_text (table_rule_of r)) c.args.parts.now.rules.items ++ (c.args.parts.now.class_of.items ++ (flat_map (λ r. row_text (row_of r)) c.args.parts.now.rows.items ++ (flat_map slot_text (slots_of c.args.parts.now.checks.items c.args.parts.now.nexts.items)))))) c.in_ok-put_header.ensures.bytes (begun_then g.K.Sink.wrote g.met.K.Sink.wrote_more c.put_header.new.sink c.put_conditions.new.sink _ (flat_map (λ c. condition_text (condition_of c)) c.args.parts.now.conditions.items) (flat_map (λ r. rule_text (table_rule_of r)) c.args.parts.now.rules.items ++ (c.args.parts.now.class_of.items ++ (flat_map (λ r. row_text (row_of r)) c.args.parts.now.rows.items ++ (flat_map slot_text (slots_of c.args.parts.now.checks.items c.args.parts.now.nexts.items))))) (same_wrote g.K.Sink.wrote _ _ _ _ (ap (flat_map (λ c. condition_text (condition_of c))) c.deref.ensures.value) c.in_ok-put_conditions.ensures.bytes) (begun_then g.K.Sink.wrote g.met.K.Sink.wrote_more c.put_conditions.new.sink c.put_rules.new.sink _ (flat_map (λ r. rule_text (table_rule_of r)) c.args.parts.now.rules.items) (c.args.parts.now.class_of.items ++ (flat_map (λ r. row_text (row_of r)) c.args.parts.now.rows.items ++ (flat_map slot_text (slots_of c.args.parts.now.checks.items c.args.parts.now.nexts.items)))) (same_wrote g.K.Sink.wrote _ _ _ _ (ap (flat_map (λ r. rule_text (table_rule_of r))) c.deref-2.ensures.value) c.in_ok-put_rules.ensures.bytes) (begun_then g.K.Sink.wrote g.met.K.Sink.wrote_more c.put_rules.new.sink c.put.new.self _ (c.args.parts.now.class_of.items) (flat_map (λ r. row_text (row_of r)) c.args.parts.now.rows.items ++ (flat_map slot_text (slots_of c.args.parts.now.checks.items c.args.parts.now.nexts.items))) (same_wrote g.K.Sink.wrote _ _ _ _ c.deref-3.ensures.value c.in_ok-put.ensures.bytes) (begun_first (λ xs. g.K.Sink.wrote c.put.new.self xs c.put_rows.new.sink) _ (flat_map (λ r. row_text (row_of r)) c.args.parts.now.rows.items) (flat_map slot_text (slots_of c.args.parts.now.checks.items c.args.parts.now.nexts.items)) (ap (flat_map (λ r. row_text (row_of r))) c.deref-4.ensures.value) c.in_err-put_rows.ensures.bytes))))))

pub returns-clause-bytes : goal.returns-clause-bytes
returns-clause-bytes g c = subst (λ (z : List ℕ). Appended (λ xs. g.K.Sink.wrote c.args.sink.now xs c.put_slots.new.sink) z c.put_slots.result) (file_same c.args.parts.now) (appended_then g.K.Sink.wrote g.met.K.Sink.wrote_more c.args.sink.now c.put_header.new.sink _ _ (magic ++ (to_be_bytes w16 (version_of (map table_rule_of c.args.parts.now.rules.items)) ++ sizes_text (sizes_of (table_of c.args.parts.now)))) _ (flat_map (λ c. condition_text (condition_of c)) c.args.parts.now.conditions.items ++ (flat_map (λ r. rule_text (table_rule_of r)) c.args.parts.now.rules.items ++ (c.args.parts.now.class_of.items ++ (flat_map (λ r. row_text (row_of r)) c.args.parts.now.rows.items ++ (flat_map slot_text (slots_of c.args.parts.now.checks.items c.args.parts.now.nexts.items)))))) _ refl refl c.in_ok-put_header.ensures.bytes (appended_then g.K.Sink.wrote g.met.K.Sink.wrote_more c.put_header.new.sink c.put_conditions.new.sink _ _ (flat_map (λ c. condition_text (condition_of c)) c.args.parts.now.conditions.items) _ (flat_map (λ r. rule_text (table_rule_of r)) c.args.parts.now.rules.items ++ (c.args.parts.now.class_of.items ++ (flat_map (λ r. row_text (row_of r)) c.args.parts.now.rows.items ++ (flat_map slot_text (slots_of c.args.parts.now.checks.items c.args.parts.now.nexts.items))))) _ (ap (flat_map (λ c. condition_text (condition_of c))) c.deref.ensures.value) refl c.in_ok-put_conditions.ensures.bytes (appended_then g.K.Sink.wrote g.met.K.Sink.wrote_more c.put_conditions.new.sink c.put_rules.new.sink _ _ (flat_map (λ r. rule_text (table_rule_of r)) c.args.parts.now.rules.items) _ (c.args.parts.now.class_of.items ++ (flat_map (λ r. row_text (row_of r)) c.args.parts.now.rows.items ++ (flat_map slot_text (slots_of c.args.parts.now.checks.items c.args.parts.now.nexts.items)))) _ (ap (flat_map (λ r. rule_text (table_rule_of r))) c.deref-2.ensures.value) refl c.in_ok-put_rules.ensures.bytes (appended_then g.K.Sink.wrote g.met.K.Sink.wrote_more c.put_rules.new.sink c.put.new.self _ _ (c.args.parts.now.class_of.items) _ (flat_map (λ r. row_text (row_of r)) c.args.parts.now.rows.items ++ (flat_map slot_text (slots_of c.args.parts.now.checks.items c.args.parts.now.nexts.items))) _ c.deref-3.ensures.value refl c.in_ok-put.ensures.bytes (appended_then g.K.Sink.wrote g.met.K.Sink.wrote_more c.put.new.self c.put_rows.new.sink _ _ (flat_map (λ r. row_text (row_of r)) c.args.parts.now.rows.items) _ (flat_map slot_text (slots_of c.args.parts.now.checks.items c.args.parts.now.nexts.items)) _ (ap (flat_map (λ r. row_text (row_of r))) c.deref-4.ensures.value) (search rules) c.in_ok-put_rows.ensures.bytes c.put_slots.ensures.bytes)))))
