use Rattle.std.proofs.Common.{ℕ, ◌+◌, ◌≤◌, List, length, drop, sym, ◌∙◌, subst, arith}
use Rattle.std.proofs.lemmas.List.{length-drop}
use Rattle.lex_semantics.specs.Text.{IsText}
use Rattle.lex_semantics.specs.Machine.{Machine}
use Rattle.lexscan_window.specs.Memos.{TellsWalk}
use Rattle.lexscan_window.specs.declared.state.Reading.{Reading}
use Rattle.lexscan_matching.specs.Backs.{IsSettled}
use Rattle.lexscan_matching.proofs.Barrens as Look
use Rattle.lexscan_matching.proofs.back.walk_near.Goals as goal

pub returns-then-not-goes_on : goal.returns-then-not-goes_on
returns-then-not-goes_on g c =
    let M : Machine = g.M.Machine.machine c.args.machine.now in
    let r : Reading = c.args.reading.now in
    subst (IsSettled M (g.M.Machine.states c.args.machine.now) c.args.place r) (sym c.settled_by.ensures) (Look.settled_at M (g.M.Machine.states c.args.machine.now) c.args.place r c.first_walked-first.result c.first_walked-first.ensures.walked
    (Look.barren_stopped M r.at_end c.first_walked-first.result.state (drop (c.args.place.at + c.first_walked-first.result.len) r.window.bytes) (sym c.goes_on.ensures ∙ c.if-not-goes_on.true)))

pub returns-then-not-goes_on-2 : goal.returns-then-not-goes_on-2
returns-then-not-goes_on-2 g c =
    let M : Machine = g.M.Machine.machine c.args.machine.now in
    let r : Reading = c.args.reading.now in
    subst (IsSettled M (g.M.Machine.states c.args.machine.now) c.args.place r) (sym c.settled_by-then-not-goes_on-2.ensures) (Look.settled_at M (g.M.Machine.states c.args.machine.now) c.args.place r c.walk_to-walked.result c.walk_to-walked.ensures.walked
    (Look.barren_stopped M r.at_end c.walk_to-walked.result.state (drop (c.args.place.at + c.walk_to-walked.result.len) r.window.bytes) (sym c.goes_on-2.ensures ∙ c.if-not-goes_on-2.true)))

pub returns-then-held-walked : goal.returns-then-held-walked
returns-then-held-walked g c = Look.looks_all (g.M.Machine.machine c.args.machine.now) (g.M.Machine.states c.args.machine.now) c.args.place c.args.reading.now c.walk_to-walked.result c.ended_by.result c.walk_to-walked.ensures.walked
    (omega (arith, c.if-held-walked.true, c.len.ensures, c.requires.inside)) (sym c.goes_on-2.ensures ∙ c.if-not-goes_on-2.false) c.ended_by.ensures.ended c.ended_by.ensures.open

pub told_by-requires : goal.told_by-requires
told_by-requires g c =
    let M : Machine = g.M.Machine.machine c.args.machine.now in
    let r : Reading = c.args.reading.now in
    let w : List ℕ = r.window.bytes in
    let at : ℕ = c.args.place.at + c.walk_to-walked.result.len in
    let inside : at ≤ length w = c.walk_to-walked.ensures.walked.inside in
    let tells : TellsWalk M r.at_end c.in_ok-mark.mark (drop at w) = Look.marked M r c.args.memo.now c.in_ok-mark.mark at _ c.requires.marks c.in_ok-mark.ensures.0 c.in_ok-mark.ensures.2 (omega (arith, c.len.ensures, c.requires.inside, inside)) in
    omega (arith, tells.0, length-drop at w, c.len.ensures, c.requires.inside, inside, c.len.type_inv)

pub returns : goal.returns
returns g c =
    let M : Machine = g.M.Machine.machine c.args.machine.now in
    let r : Reading = c.args.reading.now in
    let w : List ℕ = r.window.bytes in
    let at : ℕ = c.args.place.at + c.walk_to-walked.result.len in
    let inside : at ≤ length w = c.walk_to-walked.ensures.walked.inside in
    let text : IsText (drop c.args.place.at w) = subst IsText (c.slice-bytes.ensures ∙ Look.whole_slice w c.args.place.at _ (omega (arith, c.len.ensures, c.requires.inside))) c.is_text.ensures in
    let tells : TellsWalk M r.at_end c.in_ok-mark.mark (drop at w) = Look.marked M r c.args.memo.now c.in_ok-mark.mark at _ c.requires.marks c.in_ok-mark.ensures.0 c.in_ok-mark.ensures.2 (omega (arith, c.len.ensures, c.requires.inside, inside)) in
    Look.settled_told M (g.M.Machine.states c.args.machine.now) (g.M.Machine.below c.args.machine.now) c.args.place r c.walk_to-walked.result c.told_by.result c.in_ok-mark.mark c.requires.condition text c.walk_to-walked.ensures.walked (sym c.goes_on-2.ensures ∙ c.if-not-goes_on-2.false) c.in_ok-mark.ensures.1 tells (λ none. c.told_by.ensures.silent none ∙ c.settled_by-2.ensures) c.told_by.ensures.further
