use Rattle.std.proofs.Common.{◌≡◌, rules, length, sym, refl, ap, subst, ◌∙◌, arith}
use Rattle.lextab.specs.Searching.{HasRows}
use Rattle.lextab.proofs.Whole.{bases_at, defaults_at, slots_at, size_at, whole}
use Rattle.lextab.proofs.packing.pack_rows.Goals as goal

pub defaults_of-requires-clause-laid : goal.defaults_of-requires-clause-laid
defaults_of-requires-clause-laid c = subst (λ hs. HasRows c.args.next.now hs c.args.states) (sym c.deref.ensures.value) (record { rows = c.requires.rows; few = c.in_ok-classes.ensures.few.1; all = c.in_ok-classes.ensures.all })

pub bases_of-requires-clause-laid : goal.bases_of-requires-clause-laid
bases_of-requires-clause-laid c = subst (λ hs. HasRows c.args.next.now hs c.args.states) (sym c.deref-2.ensures.value) (record { rows = c.requires.rows; few = c.in_ok-classes.ensures.few.1; all = c.in_ok-classes.ensures.all })

pub slots_of-requires-clause-laid : goal.slots_of-requires-clause-laid
slots_of-requires-clause-laid c =
    let len : length c.deref-6.result.now ≡ c.args.states = ap length c.deref-6.ensures.value ∙ c.in_ok-bases.ensures.len in
    subst (λ hs. HasRows c.args.next.now hs (length c.deref-6.result.now)) (sym c.deref-4.ensures.value)
    (record { rows = omega (arith, c.requires.rows, len); few = c.in_ok-classes.ensures.few.1; all = c.in_ok-classes.ensures.all })

pub slots_of-requires-clause-placed : goal.slots_of-requires-clause-placed
slots_of-requires-clause-placed c = bases_at c.args.next.now c.deref-2.result.now c.deref-4.result.now c.deref-3.result.now c.deref-5.result.now
    c.in_ok-bases.bases.items c.deref-6.result.now c.args.states
    (c.deref-4.ensures.value ∙ sym c.deref-2.ensures.value) (c.deref-5.ensures.value ∙ sym c.deref-3.ensures.value) c.deref-6.ensures.value
    c.in_ok-bases.ensures.len c.in_ok-bases.ensures.each

pub returns : goal.returns
returns c =
    let next = c.args.next.now in
    let n = c.args.states in
    let cls = c.in_ok-classes.classes.class_of.items in
    let hs = c.in_ok-classes.classes.heads.items in
    let ds = c.in_ok-defaults.defaults.items in
    let bs = c.in_ok-bases.bases.items in
    let cs = c.in_ok-slots.slots.check.items in
    let xs = c.in_ok-slots.slots.targets.items in
    whole n next cls hs ds bs cs xs c.len.result (search rules) c.in_ok-classes.ensures.map c.in_ok-classes.ensures.heads
    c.in_ok-defaults.ensures.len (defaults_at next hs c.deref.result.now ds n c.deref.ensures.value c.in_ok-defaults.ensures.each)
    c.in_ok-bases.ensures.len
    (bases_at next c.deref-2.result.now hs c.deref-3.result.now ds bs bs n (sym c.deref-2.ensures.value) (sym c.deref-3.ensures.value) refl c.in_ok-bases.ensures.len c.in_ok-bases.ensures.each)
    (size_at hs c.deref-4.result.now bs c.deref-6.result.now (length cs) c.deref-4.ensures.value c.deref-6.ensures.value c.in_ok-slots.ensures.check)
    (size_at hs c.deref-4.result.now bs c.deref-6.result.now (length xs) c.deref-4.ensures.value c.deref-6.ensures.value c.in_ok-slots.ensures.targets)
    (slots_at next hs c.deref-4.result.now ds c.deref-5.result.now bs c.deref-6.result.now cs xs c.deref-4.ensures.value c.deref-5.ensures.value c.deref-6.ensures.value c.in_ok-slots.ensures.slots)
