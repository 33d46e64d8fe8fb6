use Rattle.std.proofs.Common.{◌≡◌, ℕ, ◌<◌, List, length, get_or, sym, ◌∙◌, subst, arith}
use Rattle.lex_semantics.specs.Machine.{Machine}
use Rattle.lexlook_tables.specs.Discarding.{DiscardsAt, SearchFrom}
use Rattle.lexlook_tables.proofs.Searches.{among_at, any_default}
use Rattle.lexlook_tables.proofs.Exploring.{begun, one_more, not_all, all_discarded}
use Rattle.lexlook_tables.proofs.lines.discarding.all_discard.Goals as goal

pub states-init : goal.states-init
states-init g c = subst (SearchFrom M n c.args.state (length found) c.add.new.found.items c.add.new.marks.items) (sym place)
    (begun M n c.args.state found c.add.new.found.items c.args.known.now.marks.items c.add.new.marks.items c.requires.known c.requires.state c.in_ok-add.ensures)
  where
    M : Machine
    M = g.M.Machine.machine c.args.machine.now

    n : ℕ
    n = g.M.Machine.states c.args.machine.now

    found : List ℕ
    found = c.args.known.now.found.items

    place : c.len-place.result ≡ length found
    place = omega (arith, c.len-place.ensures, c.args.known.now.found.ok.0)

pub discards_at-requires : goal.discards_at-requires
discards_at-requires g c = subst (λ s. s < g.M.Machine.states c.args.machine.now) (sym is) (c.states.invariant.explored.within (get_or found c.states.place 0) (among_at found c.states.place lt))
  where
    found : List ℕ
    found = c.states.known.found.items

    lt : c.states.place < length found
    lt = omega (arith, c.states-test.true, c.len.ensures, c.states.known.found.ok.0)

    is : c.index.result.now ≡ get_or found c.states.place 0
    is = c.index.ensures ∙ any_default found c.states.place c.index.result.now 0 lt

pub returns-then-not-discards_at-clause-no : goal.returns-then-not-discards_at-clause-no
returns-then-not-discards_at-clause-no g c = λ _. not_all M (g.M.Machine.states c.args.machine.now) c.args.state (length c.args.known.now.found.items) c.states.place found c.states.known.marks.items c.states.invariant lt
    (subst (λ s. DiscardsAt M s → ⊥) is (c.discards_at.ensures.no c.if-not-discards_at.true))
  where
    M : Machine
    M = g.M.Machine.machine c.args.machine.now

    found : List ℕ
    found = c.states.known.found.items

    lt : c.states.place < length found
    lt = omega (arith, c.states-test.true, c.len.ensures, c.states.known.found.ok.0)

    is : c.index.result.now ≡ get_or found c.states.place 0
    is = c.index.ensures ∙ any_default found c.states.place c.index.result.now 0 lt

pub states-preserved : goal.states-preserved
states-preserved g c = one_more M (g.M.Machine.states c.args.machine.now) c.args.state (length c.args.known.now.found.items) c.states.place found c.states.known.marks.items c.states.invariant (g.M.Machine.below c.args.machine.now) lt
    (subst (DiscardsAt M) is (c.discards_at.ensures.yes c.if-not-discards_at.false)) c.widen.new.found.items c.widen.new.marks.items c.in_ok-widen.ensures.followed
  where
    M : Machine
    M = g.M.Machine.machine c.args.machine.now

    found : List ℕ
    found = c.states.known.found.items

    lt : c.states.place < length found
    lt = omega (arith, c.states-test.true, c.len.ensures, c.states.known.found.ok.0)

    is : c.index.result.now ≡ get_or found c.states.place 0
    is = c.index.ensures ∙ any_default found c.states.place c.index.result.now 0 lt

pub returns-clause-yes : goal.returns-clause-yes
returns-clause-yes g c = λ _. all_discarded (g.M.Machine.machine c.args.machine.now) (g.M.Machine.states c.args.machine.now) c.args.state (length c.args.known.now.found.items) c.states.place c.states.known.found.items c.states.known.marks.items c.states.invariant
    (omega (arith, c.states-test.false, c.len.ensures, c.states.known.found.ok.0))
