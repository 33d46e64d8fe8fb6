use Rattle.std.proofs.Common.{◌≡◌, ℕ, ◌+◌, ◌<◌, List, [], ◌∷◌, ◌++◌, length, take, drop, get_or, refl, sym, ap, subst, ◌∙◌, arith, rules}
use Rattle.std.specs.Prelude.{slice_set}
use Rattle.std.proofs.lemmas.List.{take_more, take_more_set, length-set, length-take, length-take-le, take-append-le, take_all}
use Rattle.lex_semantics.specs.Machine.{Machine}
use Rattle.lexscan_window.specs.Walks.{Walked, Filled}
use Rattle.lexscan_window.proofs.Walking as Walk
use Rattle.lexscan_window.proofs.Walking.{walked_none, walked_ready}
use Rattle.lex_machine.specs.declared.glance.Way.{Way}
use Rattle.lex_machine.specs.Glances.{Leads}
use Rattle.lex_machine.proofs.Growing.{is_text_from}
use Rattle.lex_semantics.specs.Text.{IsText}
use Rattle.lexscan_window.proofs.walk.walk_into.Goals as goal

pub bytes-init : goal.bytes-init
bytes-init g c = record {
  within = omega arith;
  held = refl;
  walked = walked_none _ _;
  goes_on = λ some. absurd (omega (arith, some));
  known = c.requires.known;
  known_before = c.requires.known;
}

pub bytes-preserved : goal.bytes-preserved
bytes-preserved g c = record {
  within = omega (arith, c.bytes-test.true, length-set c.bytes.place c.bytes.count b);
  held = take_more_set c.bytes.place c.bytes.count b (omega (arith, c.bytes-test.true)) ∙ ap (λ z. z ++ b ∷ []) c.bytes.invariant.held ∙ sym (take_more ready c.bytes.count 0 inside);
  walked = subst (λ k. Walked M c.args.first (take (c.bytes.count + 1) ready) k c.bytes.state) (sym c.step-state.ensures.state)
      (walked_ready M c.args.first ready c.bytes.count c.bytes.state c.bytes.before b inside (search rules) refl c.bytes.invariant.walked c.bytes.invariant.goes_on);
  goes_on = λ some. sym c.goes_on.ensures ∙ c.if-not-goes_on.false;
  known = c.step-state.ensures.known;
  known_before = c.bytes.invariant.known;
}
  where
    M : Machine
    M = g.M.Machine.machine c.args.machine.now

    ready : List ℕ
    ready = c.args.ready.now

    b : ℕ
    b = get_or ready c.bytes.count 0

    inside : c.bytes.count < length ready
    inside = omega (arith, c.bytes-test.true, c.bytes.auto.place, c.requires.room)

pub returns-then-not-goes_on-clause-filled : goal.returns-then-not-goes_on-clause-filled
returns-then-not-goes_on-clause-filled g c =
    subst (λ w. Filled M ready [] (take w.count (slice_set c.bytes.place c.bytes.count b)) c.args.first (length c.args.place.now) w) (sym c.new-then-not-goes_on.ensures)
    (record {
      held = take_more_set c.bytes.place c.bytes.count b (omega (arith, c.bytes-test.true)) ∙ ap (λ z. z ++ b ∷ []) c.bytes.invariant.held ∙ sym (take_more ready c.bytes.count 0 inside);
      inside = omega (arith, inside);
      few = omega (arith, c.bytes-test.true, c.bytes.auto.place);
      walked = subst (λ k. Walked M c.args.first (take (c.bytes.count + 1) ready) k c.bytes.state) (sym c.step-state.ensures.state)
          (walked_ready M c.args.first ready c.bytes.count c.bytes.state c.bytes.before b inside (search rules) refl c.bytes.invariant.walked c.bytes.invariant.goes_on);
      stops = (omega (arith, inside, length-take (c.bytes.count + 1) ready), sym c.goes_on.ensures ∙ c.if-not-goes_on.true);
      reading = refl;
    })
  where
    M : Machine
    M = g.M.Machine.machine c.args.machine.now

    ready : List ℕ
    ready = c.args.ready.now

    b : ℕ
    b = get_or ready c.bytes.count 0

    inside : c.bytes.count < length ready
    inside = omega (arith, c.bytes-test.true, c.bytes.auto.place, c.requires.room)

pub returns-in-Some-clause-filled : goal.returns-in-Some-clause-filled
returns-in-Some-clause-filled g c =
    subst (λ w. Filled M ready [] (take w.count (copied ++ rest)) c.args.first n w) (sym c.new.ensures)
    (record {
      held = take-append-le way.count copied rest (omega (arith, size)) ∙ take_all way.count copied (omega (arith, size)) ∙ c.copy_from_slice.ensures.after;
      inside = Walk.within M c.args.first n ready way text leads;
      few = Walk.fits M c.args.first n ready way text leads;
      walked = Walk.led M c.args.first n ready way text leads;
      stops = Walk.stops M c.args.first n ready way text leads;
      reading = refl;
    })
  where
    M : Machine
    M = g.M.Machine.machine c.args.machine.now

    ready : List ℕ
    ready = c.args.ready.now

    n : ℕ
    n = length c.args.place.now

    way : Way
    way = c.in-Some.way

    copied : List ℕ
    copied = c.copy_from_slice.new.self

    rest : List ℕ
    rest = drop way.count c.args.place.now

    text : IsText ready
    text = is_text_from ready (λ k. let f = c.type_inv.ready k in omega (arith, f))

    leads : Leads M c.args.first (take n ready) way
    leads = c.in-Some.ensures.way

    size : length copied ≡ way.count
    size = ap length c.copy_from_slice.ensures.after ∙ length-take-le way.count ready (Walk.within M c.args.first n ready way text leads)
