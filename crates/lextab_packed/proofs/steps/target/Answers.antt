use Rattle.std.proofs.Common.{◌≡◌, ◌+◌, ◌<◌, sym, ◌∙◌, arith}
use Rattle.std.specs.Prelude.{slice_index}
use Rattle.std.proofs.lemmas.List.{get_or_read, length-map}
use Rattle.lextab_packed.specs.Views.{row_of, table_of}
use Rattle.lextab_packed.proofs.Places.{step_below}
use Rattle.lextab_packed.proofs.Stepping.{classes_len, check_low, next_low, by_slot, by_default}
use Rattle.lextab_packed.proofs.steps.target.Goals as goal

pub index-requires-2 : goal.index-requires-2
index-requires-2 c =
    let p = c.args.parts.now in let row = c.index-row.result.now in
    let len = classes_len p c.requires.table c.args.state c.requires.state row c.index-row.ensures c.args.byte (omega arith) in
    let class : c.from-2.result ≡ slice_index p.class_of.items c.args.byte = c.from-2.ensures ∙ get_or_read p.class_of.items c.args.byte c.index.result.now len (rw c.from.ensures at c.index.ensures) 0 in
    let low = check_low p c.requires.table c.args.state c.requires.state row c.index-row.ensures c.args.byte (omega arith) in
    let all = p.checks.ok.0 in
    omega (arith, class, low, all)

pub index-requires-then-from-state : goal.index-requires-then-from-state
index-requires-then-from-state c =
    let p = c.args.parts.now in let row = c.index-row.result.now in
    let len = classes_len p c.requires.table c.args.state c.requires.state row c.index-row.ensures c.args.byte (omega arith) in
    let class : c.from-2.result ≡ slice_index p.class_of.items c.args.byte = c.from-2.ensures ∙ get_or_read p.class_of.items c.args.byte c.index.result.now len (rw c.from.ensures at c.index.ensures) 0 in
    let low = next_low p c.requires.table c.args.state c.requires.state row c.index-row.ensures c.args.byte (omega arith) in
    let all = p.nexts.ok.0 in
    omega (arith, class, low, all)

pub returns-then-from-state-clause-state : goal.returns-then-from-state-clause-state
returns-then-from-state-clause-state c =
    let p = c.args.parts.now in let row = c.index-row.result.now in
    let byte : c.args.byte < 256 = omega arith in
    let len = classes_len p c.requires.table c.args.state c.requires.state row c.index-row.ensures c.args.byte byte in
    let class : c.from-2.result ≡ slice_index p.class_of.items c.args.byte = c.from-2.ensures ∙ get_or_read p.class_of.items c.args.byte c.index.result.now len (rw c.from.ensures at c.index.ensures) 0 in
    let check = c.from-3.ensures ∙ get_or_read p.checks.items (row.base + slice_index p.class_of.items c.args.byte) c.index-2.result.now (check_low p c.requires.table c.args.state c.requires.state row c.index-row.ensures c.args.byte byte) (rw class at c.index-2.ensures) 0 in
    let next = c.from-then-from-state.ensures ∙ get_or_read p.nexts.items (row.base + slice_index p.class_of.items c.args.byte) c.index-then-from-state.result.now (next_low p c.requires.table c.args.state c.requires.state row c.index-row.ensures c.args.byte byte) (rw class at c.index-then-from-state.ensures) 0 in
    next ∙ by_slot p c.requires.table c.args.state c.requires.state row c.index-row.ensures c.args.byte byte (sym check ∙ c.if-from-state.true)

pub returns-then-from-state-clause-known : goal.returns-then-from-state-clause-known
returns-then-from-state-clause-known c =
    let p = c.args.parts.now in
    let is = returns-then-from-state-clause-state c in
    let low = step_below (table_of p) c.requires.table c.args.state c.args.byte in
    let n = length-map p.rows.items row_of in
    omega (arith, is, low, n)

pub returns-else-from-state-clause-state : goal.returns-else-from-state-clause-state
returns-else-from-state-clause-state c =
    let p = c.args.parts.now in let row = c.index-row.result.now in
    let byte : c.args.byte < 256 = omega arith in
    let len = classes_len p c.requires.table c.args.state c.requires.state row c.index-row.ensures c.args.byte byte in
    let class : c.from-2.result ≡ slice_index p.class_of.items c.args.byte = c.from-2.ensures ∙ get_or_read p.class_of.items c.args.byte c.index.result.now len (rw c.from.ensures at c.index.ensures) 0 in
    let check = c.from-3.ensures ∙ get_or_read p.checks.items (row.base + slice_index p.class_of.items c.args.byte) c.index-2.result.now (check_low p c.requires.table c.args.state c.requires.state row c.index-row.ensures c.args.byte byte) (rw class at c.index-2.ensures) 0 in
    by_default p c.requires.table c.args.state c.requires.state row c.index-row.ensures c.args.byte byte (λ e. c.if-from-state.false (check ∙ e))

pub returns-else-from-state-clause-known : goal.returns-else-from-state-clause-known
returns-else-from-state-clause-known c =
    let p = c.args.parts.now in
    let is = returns-else-from-state-clause-state c in
    let low = step_below (table_of p) c.requires.table c.args.state c.args.byte in
    let n = length-map p.rows.items row_of in
    omega (arith, is, low, n)
