use Rattle.std.proofs.Common.{◌≡◌, ℕ, ◌+◌, ◌*◌, ◌<◌, List, length, slice_index, Result, Ok, Err, IfOk, ap, ◌∙◌, arith}
use Rattle.std.proofs.lemmas.List.{length-map}
use Rattle.lextab_packed.specs.Steps.{step_of}
use Rattle.lextab_packed.specs.Views.{row_of, table_of}
use Rattle.lextab_packed.proofs.Places.{step_below}
use Rattle.lextab_packed.proofs.rows.flat_rows.Goals as goal

where_ok : {T E : Type 0} (r : Result T E) (P Q : T → Type 0) → ((v : T) → P v → Q v) → IfOk r P → IfOk r Q
where_ok (Ok v) P Q f h = f v h
where_ok (Err e) P Q f h = h

pub returns-clause-each : goal.returns-clause-each
returns-clause-each c =
    let p = c.args.parts.now in
    where_ok c.marked_rows.result (λ v. (s b : ℕ) → s < length p.rows.items → b < 256 → slice_index v.items (256 * s + b) ≡ slice_index c.deref.result.now (step_of (table_of p) s b))
    (λ v. (s b : ℕ) → s < length p.rows.items → b < 256 → slice_index v.items (256 * s + b) ≡ step_of (table_of p) s b)
    (λ v each s b hs hb.
    let low = step_below (table_of p) c.requires s b in
    let n = length-map p.rows.items row_of in
    each s b hs hb
    ∙ ap (λ (l : List ℕ). slice_index l (step_of (table_of p) s b)) c.deref.ensures.value
    ∙ c.in_ok-states.ensures.each (step_of (table_of p) s b) (omega (arith, low, n, c.len.ensures)))
    c.marked_rows.ensures.each
