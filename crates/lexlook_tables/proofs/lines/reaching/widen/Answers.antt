use Rattle.std.proofs.Common.{◌≡◌, ℕ, ◌<◌, length, List, Bool, refl, sym, ◌∙◌, ap, subst, get_or, arith}
use Rattle.lex_semantics.specs.Machine.{Machine}
use Rattle.lexlook_tables.specs.Reaching.{Found, Followed, Added}
use Rattle.lexlook_tables.proofs.Searches.{among_at, any_default, no_more, longer, same_size, same_place, followed}
use Rattle.lexlook_tables.proofs.Exploring.{followed_none, followed_more}
use Rattle.lexlook_tables.proofs.lines.reaching.widen.Goals as goal

pub step-requires : goal.step-requires
step-requires g c = subst (λ s. s < g.M.Machine.states c.args.machine.now) (sym (c.index-state.ensures ∙ any_default c.args.found.now.items c.args.place c.index-state.result.now 0 c.requires.place))
    (c.requires.known (get_or c.args.found.now.items c.args.place 0) (among_at c.args.found.now.items c.args.place c.requires.place))

pub bytes-preserved : goal.bytes-preserved
bytes-preserved g c = record {
  here = same_place found found' marks marks' s c.args.place inside add ∙ c.bytes.invariant.here;
  longer = (let more = longer found found' marks marks' s add in omega (arith, more, c.bytes.invariant.longer));
  fewer = (let less = no_more found found' marks marks' s in_marks add in omega (arith, less, c.bytes.invariant.fewer));
  size = same_size found found' marks marks' s add ∙ c.bytes.invariant.size;
  found = λ from f. followed M n from found marks c.args.place c.bytes.byte (c.bytes.invariant.found from f) inside small (subst (λ z. z < n) is c.step.ensures.known) found' marks' (subst (λ z. Added found marks z found' marks') is add);
  followed = followed_more M c.index-state.result.now c.bytes.byte c.args.found.now.items c.args.marks.now.items found found' marks marks' c.bytes.invariant.followed (subst (λ z. z < length marks) c.step.ensures.state in_marks) (subst (λ z. Added found marks z found' marks') c.step.ensures.state add);
}
  where
    M : Machine
    M = g.M.Machine.machine c.args.machine.now

    n : ℕ
    n = g.M.Machine.states c.args.machine.now

    found : List ℕ
    found = c.bytes.found.items

    found' : List ℕ
    found' = c.add.new.found.items

    marks : List Bool
    marks = c.bytes.marks.items

    marks' : List Bool
    marks' = c.add.new.marks.items

    s : ℕ
    s = c.step.result

    small : c.bytes.byte < 256
    small = omega (arith, c.bytes-test.true)

    inside : c.args.place < length found
    inside = omega (arith, c.requires.place, c.bytes.invariant.longer)

    add : Added found marks s found' marks'
    add = c.in_ok-add.ensures

    in_marks : s < length marks
    in_marks = (let k = c.step.ensures.known in omega (arith, k, c.bytes.invariant.size))

    is : s ≡ M.next (get_or found c.args.place 0) c.bytes.byte
    is = c.step.ensures.state ∙ ap (λ z. M.next z c.bytes.byte) (sym c.bytes.invariant.here)

pub returns-clause-found : goal.returns-clause-found
returns-clause-found g c = (let all : c.bytes.byte ≡ 256 = omega (arith, c.bytes-test.false, c.bytes.auto.byte-end) in λ from f. subst (Found (g.M.Machine.machine c.args.machine.now) (g.M.Machine.states c.args.machine.now) from c.bytes.found.items c.bytes.marks.items c.args.place) all (c.bytes.invariant.found from f))

pub bytes-init : goal.bytes-init
bytes-init g c = record {
  here = sym (c.index-state.ensures ∙ any_default c.args.found.now.items c.args.place c.index-state.result.now 0 c.requires.place);
  longer = omega arith;
  fewer = omega arith;
  size = c.requires.size;
  found = λ from f. f;
  followed = followed_none (g.M.Machine.machine c.args.machine.now) c.index-state.result.now 0 c.args.found.now.items c.args.marks.now.items refl;
}

pub returns-clause-followed : goal.returns-clause-followed
returns-clause-followed g c =
    let all : c.bytes.byte ≡ 256 = omega (arith, c.bytes-test.false, c.bytes.auto.byte-end) in
    let here : c.index-state.result.now ≡ get_or c.args.found.now.items c.args.place 0 = c.index-state.ensures ∙ any_default c.args.found.now.items c.args.place c.index-state.result.now 0 c.requires.place in
    subst (λ s. Followed M s 256 c.args.found.now.items c.args.marks.now.items c.bytes.found.items c.bytes.marks.items) here
    (subst (λ b. Followed M c.index-state.result.now b c.args.found.now.items c.args.marks.now.items c.bytes.found.items c.bytes.marks.items) all c.bytes.invariant.followed)
  where
    M : Machine
    M = g.M.Machine.machine c.args.machine.now
