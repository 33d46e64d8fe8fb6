use Rattle.std.proofs.Common.{ℕ, ◌+◌, ◌≤◌, List, length, drop, sym, ◌∙◌, subst, arith}
use Rattle.std.proofs.lemmas.List.{length-drop}
use Rattle.lex_semantics.specs.Text.{IsText}
use Rattle.lex_semantics.specs.Machine.{Machine}
use Rattle.lexscan_window.specs.Memos.{TellsWalk}
use Rattle.lexscan_window.specs.declared.state.Reading.{Reading}
use Rattle.lexscan_matching.specs.Backs.{IsSettled}
use Rattle.lexscan_matching.proofs.Barrens as Look
use Rattle.lexscan_matching.proofs.back.walk_over.Goals as goal

pub told_by-requires : goal.told_by-requires
told_by-requires g c =
    let M : Machine = g.M.Machine.machine c.args.machine.now in
    let r : Reading = c.args.reading.now in
    let w : List ℕ = r.window.bytes in
    let at : ℕ = c.args.place.at + c.marks.walked.len in
    let inside : at ≤ length w = c.marks.invariant.walked.inside in
    let tells : TellsWalk M r.at_end c.in-Some.mark (drop at w) = Look.marked M r c.args.memo.now c.in-Some.mark at _ c.requires.marks c.in-Some.ensures.0 c.in-Some.ensures.2 (omega (arith, c.len.ensures, c.requires.inside, inside)) in
    omega (arith, tells.0, length-drop at w, c.len.ensures, c.requires.inside, inside, c.len.type_inv)

pub returns-in-Some-clause-ahead : goal.returns-in-Some-clause-ahead
returns-in-Some-clause-ahead g c =
    let M : Machine = g.M.Machine.machine c.args.machine.now in
    let r : Reading = c.args.reading.now in
    let w : List ℕ = r.window.bytes in
    let at : ℕ = c.args.place.at + c.marks.walked.len in
    let inside : at ≤ length w = c.marks.invariant.walked.inside in
    let text : IsText (drop c.args.place.at w) = subst IsText (c.slice-bytes.ensures ∙ Look.whole_slice w c.args.place.at _ (omega (arith, c.len.ensures, c.requires.inside))) c.is_text.ensures in
    let tells : TellsWalk M r.at_end c.in-Some.mark (drop at w) = Look.marked M r c.args.memo.now c.in-Some.mark at _ c.requires.marks c.in-Some.ensures.0 c.in-Some.ensures.2 (omega (arith, c.len.ensures, c.requires.inside, inside)) in
    Look.settled_told M (g.M.Machine.states c.args.machine.now) (g.M.Machine.below c.args.machine.now) c.args.place r c.marks.walked c.told_by.result c.in-Some.mark c.requires.condition text c.marks.invariant.walked (sym c.goes_on.ensures ∙ c.marks-test.true) c.in-Some.ensures.1 tells (λ none. c.told_by.ensures.silent none ∙ c.settled_by.ensures) c.told_by.ensures.further

pub returns-then-held-walked-clause-ahead : goal.returns-then-held-walked-clause-ahead
returns-then-held-walked-clause-ahead g c = Look.looks_all (g.M.Machine.machine c.args.machine.now) (g.M.Machine.states c.args.machine.now) c.args.place c.args.reading.now c.marks.walked c.ended_by.result c.marks.invariant.walked
    (omega (arith, c.if-held-walked.true, c.len.ensures, c.requires.inside)) (sym c.goes_on.ensures ∙ c.marks-test.true) c.ended_by.ensures.ended c.ended_by.ensures.open

pub returns-clause-ahead : goal.returns-clause-ahead
returns-clause-ahead g c =
    let M : Machine = g.M.Machine.machine c.args.machine.now in
    let r : Reading = c.args.reading.now in
    subst (IsSettled M (g.M.Machine.states c.args.machine.now) c.args.place r) (sym c.settled_by-2.ensures) (Look.settled_at M (g.M.Machine.states c.args.machine.now) c.args.place r c.marks.walked c.marks.invariant.walked
    (Look.barren_stopped M r.at_end c.marks.walked.state (drop (c.args.place.at + c.marks.walked.len) r.window.bytes) (sym c.goes_on.ensures ∙ c.marks-test.false)))
