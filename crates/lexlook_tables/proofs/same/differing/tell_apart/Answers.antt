use Rattle.std.proofs.Common.{◌≡◌, ℕ, zero, suc, replicate, ◌*◌, rules, List, length, refl, sym, ap, subst, ◌∙◌, get_or, false, arith}
use Rattle.lex_semantics.specs.Machine.{Machine}
use Rattle.lexlook_tables.specs.declared.same.pairs.From.TheVariants.{Start}
use Rattle.lexlook_tables.specs.declared.same.pairs.Pair.{Pair}
use Rattle.lexlook_tables.specs.declared.same.pairs.Sight.TheVariants.{Unseen}
use Rattle.lexlook_tables.specs.Searching.{HasAt, AreKeyed, Searched, DifferAt, AreLinked}
use Rattle.lexlook_tables.proofs.Lists.{at_place}
use Rattle.lexlook_tables.proofs.Ending as End
use Rattle.lexlook_tables.proofs.same.differing.tell_apart.Goals as goal

pub returns-in-Some-clause-differ : goal.returns-in-Some-clause-differ
returns-in-Some-clause-differ g c = End.differs order M N m n ps _ c.pairs.place c.in-Some.byte found.0 p c.in_ok-text_to-in-Some.field-0 at found.1 (c.in_ok-text_to-in-Some.ensures.text order M N p (subst (AreLinked order M N) (sym c.as_slice.ensures.value) found.0.linked) (subst (λ l. HasAt l c.pairs.place p) (sym c.as_slice.ensures.value) at))
    (λ t is. c.in_ok-text_to-in-Some.ensures.key found.0.keys t (subst (AreKeyed found.0.keys) (sym c.as_slice.ensures.value) found.0.keyed) (found.0.sized ∙ ap length (sym c.as_slice.ensures.value)) is)
  where
    order : List ℕ
    order = c.args.order.now

    M : Machine
    M = g.A.Machine.machine c.args.left.now

    N : Machine
    N = g.B.Machine.machine c.args.right.now

    m : ℕ
    m = g.A.Machine.states c.args.left.now

    n : ℕ
    n = g.B.Machine.states c.args.right.now

    ps : List Pair
    ps = c.widen.new.pairs.items

    found : Searched order M N m n ps c.widen.new.seen.items c.pairs.place c.in-Some.byte × DifferAt order M N ps c.pairs.place c.in-Some.byte
    found = rw c.in-Some.is at c.in_ok-widen.ensures.some

    p : Pair
    p = get_or ps c.pairs.place (record { left = 0; right = 0; far = 0; from = Start 0 false })

    at : HasAt ps c.pairs.place p
    at = at_place ps c.pairs.place _ (omega (arith, c.pairs-test.true, c.in_ok-widen.ensures.longer))

pub pairs-preserved : goal.pairs-preserved
pairs-preserved g c = End.searched_next c.args.order.now (g.A.Machine.machine c.args.left.now) (g.B.Machine.machine c.args.right.now) _ _ _ _ c.pairs.place 256 (c.in_ok-widen.ensures.none c.in-None.is) refl

pub returns-clause-same : goal.returns-clause-same
returns-clause-same g c = λ _. End.are_same c.args.order.now (g.A.Machine.machine c.args.left.now) (g.B.Machine.machine c.args.right.now) _ _ _ _ c.pairs.place 0 c.pairs.invariant (omega (arith, c.pairs-test.false))

all_unseen : (n i : ℕ) → get_or (replicate n Unseen) i Unseen ≡ Unseen
all_unseen zero i = refl
all_unseen (suc n) zero = refl
all_unseen (suc n) (suc i) = all_unseen n i

pub pairs-init : goal.pairs-init
pairs-init g c = End.searched_none c.args.order.now (g.A.Machine.machine c.args.left.now) (g.B.Machine.machine c.args.right.now) _ _ c.args.sizes.conditions _ _ c.in_ok-pairs.ensures c.requires.left_conditions size none
  where
    size : length c.in_ok-seen.seen.items ≡ g.A.Machine.states c.args.left.now * g.B.Machine.states c.args.right.now
    size = search rules

    none : (i : ℕ) → get_or c.in_ok-seen.seen.items i Unseen ≡ Unseen
    none i = ap (λ l. get_or l i Unseen) (c.in_ok-seen.ensures.items_if_clones_equal (search rules)) ∙ all_unseen _ i
