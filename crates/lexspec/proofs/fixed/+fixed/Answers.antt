use Rattle.std.proofs.Common.{rules, ◌≡◌, ◌≤◌, ◌<◌, ◌+◌, ℕ, map, drop, length, Option, Some, None, refl, sym, subst, ◌∙◌, arith}
use Rattle.lex_semantics.specs.Shapes.{IsSoundTree, AreSoundTrees}
use Rattle.lex_semantics.specs.Tree.{Tree, Trees, Alt, tree, trees}
use Rattle.lexre.specs.Views.{items_of, tree_of}
use Rattle.lexre.proofs.BareLaws.{marked_least, marked_least_some, marked_greatest, marked_greatest_some, series_tree_of, choice_tree_of}
use Rattle.lexre.specs.declared.pattern.Pattern.TheFolds as P
use Rattle.lexspec.specs.Fixed.{HasOne, JoinHasOne, AllHaveOne, TellsLength}
use Rattle.lexspec.proofs.FixedLaws.{rest_one, rest_none, join_split, join_more, no_length_joined, too_long_joined, tells_some, no_common, another_common, next_one, next_all}
use Rattle.lexspec.proofs.fixed.+fixed.Goals as goal

pub joined_length-returns-in_err-one : goal.joined_length-returns-in_err-one
joined_length-returns-in_err-one t c =
    let i = c.loop-part.part-index in
    let rest = rest_one tree_of c.args.parts.now i c.part-item.result c.loop-part-test.true c.part-item.is in
    let sound = subst AreSoundTrees rest c.loop-part.invariant.sound in
    rw c.from_residual.ensures (no_length_joined (trees (map tree_of c.args.parts.now)) (tree_of c.part-item.result) (trees (map tree_of (drop (i + 1) c.args.parts.now))) c.loop-part.total sound
    (subst (λ (us : Trees). (n : ℕ) → JoinHasOne (trees (map tree_of c.args.parts.now)) n → (m : ℕ) × JoinHasOne us m × (c.loop-part.total + m ≡ n)) rest c.loop-part.invariant.split)
    (subst (λ (o : Option ℕ). TellsLength (HasOne (tree_of c.part-item.result)) o) c.in_err-one.was c.one_length.ensures))

pub joined_length-returns-in_err-total : goal.joined_length-returns-in_err-total
joined_length-returns-in_err-total t c =
    let i = c.loop-part.part-index in
    let rest = rest_one tree_of c.args.parts.now i c.part-item.result c.loop-part-test.true c.part-item.is in
    let sound = subst AreSoundTrees rest c.loop-part.invariant.sound in
    rw c.from_residual-in_err-total.ensures (too_long_joined (trees (map tree_of c.args.parts.now)) (tree_of c.part-item.result) (trees (map tree_of (drop (i + 1) c.args.parts.now))) c.loop-part.total sound
    (subst (λ (us : Trees). (n : ℕ) → JoinHasOne (trees (map tree_of c.args.parts.now)) n → (m : ℕ) × JoinHasOne us m × (c.loop-part.total + m ≡ n)) rest c.loop-part.invariant.split)
    c.in_ok-one.one c.in_ok-one.ensures.0 (omega (arith, c.in_err-total.ensures)))

pub joined_length-loop-part-preserved : goal.joined_length-loop-part-preserved
joined_length-loop-part-preserved t c =
    let i = c.loop-part.part-index in
    let all = trees (map tree_of c.args.parts.now) in
    let later = trees (map tree_of (drop (i + 1) c.args.parts.now)) in
    let one = tree_of c.part-item.result in
    let rest = rest_one tree_of c.args.parts.now i c.part-item.result c.loop-part-test.true c.part-item.is in
    let sound = subst AreSoundTrees rest c.loop-part.invariant.sound in
    let room : c.loop-part.total + c.in_ok-one.one < 65536 = c.in_ok-total.ensures.0 in
    let total : c.in_ok-total.total ≡ c.loop-part.total + c.in_ok-one.one = c.in_ok-total.ensures.1 in
    let joined = subst (λ (us : Trees). (n : ℕ) → JoinHasOne us n → JoinHasOne all (c.loop-part.total + n)) rest c.loop-part.invariant.joined in
    let split = subst (λ (us : Trees). (n : ℕ) → JoinHasOne all n → (m : ℕ) × JoinHasOne us m × (c.loop-part.total + m ≡ n)) rest c.loop-part.invariant.split in
    record {
      sound = sound.1;
      few = omega (arith, room, total);
      joined = λ n h. subst (JoinHasOne all) (omega (arith, total)) (joined (c.in_ok-one.one + n) (join_more one later c.in_ok-one.one n c.in_ok-one.ensures.0 h));
      split = λ n h. (let s = split n h in
          let p = join_split one later sound.0 sound.1 s.0 s.1 in
          let same : p.0 ≡ c.in_ok-one.one = sym p.2.0 ∙ c.in_ok-one.ensures.0.0 in
          (p.1, p.3, omega (arith, total, same, p.4, s.2)));
    }

pub joined_length-returns : goal.joined_length-returns
joined_length-returns t c =
    let done : length c.args.parts.now ≤ c.loop-part.part-index = search rules in
    let none = rest_none tree_of c.args.parts.now c.loop-part.part-index done in
    let all = trees (map tree_of c.args.parts.now) in
    let joined = subst (λ (us : Trees). (n : ℕ) → JoinHasOne us n → JoinHasOne all (c.loop-part.total + n)) none c.loop-part.invariant.joined in
    (subst (JoinHasOne all) (omega arith) (joined 0 (refl, refl)), c.loop-part.invariant.few)

pub common_length-returns-in_err-one : goal.common_length-returns-in_err-one
common_length-returns-in_err-one t c =
    let i = c.loop-part.part-index in
    let rest = rest_one tree_of c.args.parts.now i c.part-item.result c.loop-part-test.true c.part-item.is in
    rw c.from_residual.ensures (no_common (trees (map tree_of c.args.parts.now)) (tree_of c.part-item.result) (trees (map tree_of (drop (i + 1) c.args.parts.now))) c.loop-part.found
    (λ e. sym rest ∙ c.loop-part.invariant.whole e)
    (subst (λ (us : Trees). (m n : ℕ) → c.loop-part.found ≡ Some m → AllHaveOne (trees (map tree_of c.args.parts.now)) n → (n ≡ m) × AllHaveOne us n) rest c.loop-part.invariant.one)
    (subst (λ (o : Option ℕ). TellsLength (HasOne (tree_of c.part-item.result)) o) c.in_err-one.was c.one_length.ensures))

pub common_length-returns-then-unwrap_or-one : goal.common_length-returns-then-unwrap_or-one
common_length-returns-then-unwrap_or-one t c =
    let i = c.loop-part.part-index in
    let rest = rest_one tree_of c.args.parts.now i c.part-item.result c.loop-part-test.true c.part-item.is in
    another_common (trees (map tree_of c.args.parts.now)) (tree_of c.part-item.result) (trees (map tree_of (drop (i + 1) c.args.parts.now))) c.loop-part.found
    (λ e. sym rest ∙ c.loop-part.invariant.whole e)
    (subst (λ (us : Trees). (m n : ℕ) → c.loop-part.found ≡ Some m → AllHaveOne (trees (map tree_of c.args.parts.now)) n → (n ≡ m) × AllHaveOne us n) rest c.loop-part.invariant.one)
    c.in_ok-one.one c.in_ok-one.ensures.0 (λ e. c.if-unwrap_or-one.true (c.unwrap_or.ensures ∙ e))

pub common_length-loop-part-preserved : goal.common_length-loop-part-preserved
common_length-loop-part-preserved t c =
    let i = c.loop-part.part-index in
    let all = trees (map tree_of c.args.parts.now) in
    let one = tree_of c.part-item.result in
    let later = trees (map tree_of (drop (i + 1) c.args.parts.now)) in
    let m = c.in_ok-one.one in
    let rest = rest_one tree_of c.args.parts.now i c.part-item.result c.loop-part-test.true c.part-item.is in
    let sound = subst AreSoundTrees rest c.loop-part.invariant.sound in
    let whole : c.loop-part.found ≡ None → tree one later ≡ all = λ e. sym rest ∙ c.loop-part.invariant.whole e in
    let only = subst (λ (us : Trees). (m n : ℕ) → c.loop-part.found ≡ Some m → AllHaveOne all n → (n ≡ m) × AllHaveOne us n) rest c.loop-part.invariant.one in
    let up = subst (λ (us : Trees). (n : ℕ) → c.loop-part.found ≡ Some n → AllHaveOne us n → AllHaveOne all n) rest c.loop-part.invariant.all in
    record {
      sound = sound.1;
      few = c.in_ok-one.ensures.1;
      whole = λ e. cc;
      all = next_all all one later c.loop-part.found whole only up m c.in_ok-one.ensures.0 (sym c.unwrap_or.ensures ∙ c.if-unwrap_or-one.false);
      one = next_one all one later c.loop-part.found whole only m c.in_ok-one.ensures.0;
    }

pub one_length-returns-then-is_bare : goal.one_length-returns-then-is_bare
one_length-returns-then-is_bare t c =
    let marked = sym c.is_bare.ensures ∙ c.if-is_bare.true in
    let parts = c.in-Cat.parts in
    let all = trees (map tree_of (items_of parts)) in
    let one : HasOne (tree_of c.args.pattern.now) 0 = rw c.in-Cat.is (rw (series_tree_of parts) (marked_least parts.is_bare all marked, marked_greatest parts.is_bare all marked)) in
    (one, omega arith)

pub one_length-returns-then-is_bare-2 : goal.one_length-returns-then-is_bare-2
one_length-returns-then-is_bare-2 t c =
    let marked = sym c.is_bare-in-Alt.ensures ∙ c.if-is_bare-2.true in
    let parts = c.in-Alt.parts in
    let all = trees (map tree_of (items_of parts)) in
    let one : HasOne (tree_of c.args.pattern.now) 0 = rw c.in-Alt.is (rw (choice_tree_of parts) (marked_least_some parts.is_bare all marked, marked_greatest_some parts.is_bare all marked)) in
    (one, omega arith)

pub one_length-returns-else-is_bare-2 : goal.one_length-returns-else-is_bare-2
one_length-returns-else-is_bare-2 t c =
    let all = trees (map tree_of c.items-in-Alt.result.now) in
    let is : Alt all ≡ tree_of c.args.pattern.now = search (rules, P.the_lemmas) in
    let sound = subst IsSoundTree (sym is) c.requires in
    subst (λ (u : Tree). TellsLength (HasOne u) c.common_length.result) is (tells_some all sound.0 sound.1 c.common_length.result c.common_length.ensures)
