use Rattle.std.proofs.Common.{ℕ, ◌<◌, Bool, List, length, map, get_or, Result, Ok, Err, IfOk, sym, subst, ◌∙◌, ap}
use Rattle.std.proofs.lemmas.List.{length-map}
use Rattle.lextab_packed.specs.Invariant.{GoesOn}
use Rattle.lextab_packed.specs.Views.{table_of}
use Rattle.lextab_packed.specs.Live.{AreLive}
use Rattle.lextab_packed.proofs.Going.{accepts, targets_known, goes_on}
use Rattle.lextab_packed.proofs.laying.going_on.Goals as goal

where_ok : {T E : Type 0} (r : Result T E) (P Q : T → Type 0) → ((v : T) → P v → Q v) → IfOk r P → IfOk r Q
where_ok (Ok v) P Q f h = f v h
where_ok (Err e) P Q f h = h

pub live_states-requires-clause-known : goal.live_states-requires-clause-known
live_states-requires-clause-known c = λ i h.
    let rows = c.args.parts.now.rows.items in
    let flags = c.deref-2.ensures.value ∙ c.in_ok-accepting.ensures ∙ ap (map accepts) c.deref.ensures.value in
    let t = targets_known c.args.parts.now c.requires.table c.args.next.now c.requires.len c.requires.steps i h in
    subst (λ (k : ℕ). get_or c.args.next.now i 0 < k) (sym (ap length flags ∙ length-map rows accepts)) t

pub returns : goal.returns
returns c =
    let rows = c.args.parts.now.rows.items in
    let flags = c.deref-2.ensures.value ∙ c.in_ok-accepting.ensures ∙ ap (map accepts) c.deref.ensures.value in
    where_ok c.live_states.result (λ v. AreLive c.args.next.now c.deref-2.result.now v.items) (λ v. GoesOn (table_of c.args.parts.now) v.items)
    (λ v l. goes_on c.args.parts.now c.requires.table c.args.next.now c.requires.len c.requires.steps v.items (subst (λ (a : List Bool). AreLive c.args.next.now a v.items) flags l))
    c.live_states.ensures
