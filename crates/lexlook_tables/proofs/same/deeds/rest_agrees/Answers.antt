use Rattle.std.proofs.Common.{◌≡◌, ℕ, ◌<◌, Bool, true, false, List, length, sym, ◌∙◌, arith}
use Rattle.std.specs.Prelude.{nat_eq}
use Rattle.std.proofs.lemmas.Bool.{eqb-false}
use Rattle.lexlook_tables.proofs.Asked.{among_at, left_alike, right_alike}
use Rattle.lexlook_tables.proofs.same.deeds.rest_agrees.Goals as goal

not_both : (b : Bool) → b ≡ false → b ≡ true → ⊥
not_both true e f = cc
not_both false e f = cc

some : (xs : List ℕ) (b : Bool) → b ≡ nat_eq (length xs) 0 → b ≡ false → 0 < length xs
some xs b is e = (let no : nat_eq (length xs) 0 ≡ false = sym is ∙ e in let ne = eqb-false (length xs) 0 no in omega (arith, ne))

pub copies-requires : goal.copies-requires
copies-requires g c = c.requires.rules _ (among_at c.args.rules.now 0 (some c.args.rules.now _ c.is_empty.ensures c.if-not-is_empty.true))

pub copies-requires-then-single-2 : goal.copies-requires-then-single-2
copies-requires-then-single-2 g c = c.requires.others _ (among_at c.args.others.now 0 (some c.args.others.now _ c.is_empty-else-not-is_empty.ensures c.if-not-is_empty-2.true))

pub returns-then-single-clause-no : goal.returns-then-single-clause-no
returns-then-single-clause-no g c = λ no order same. c.copies.ensures.no no
    (left_alike order (g.A.Machine.machine c.args.left.now) (g.B.Machine.machine c.args.right.now) c.args.single c.args.rules.now c.args.others.now c.requires.one (some c.args.rules.now _ c.is_empty.ensures c.if-not-is_empty.true) same).1

pub returns-else-single-clause-no : goal.returns-else-single-clause-no
returns-else-single-clause-no g c = λ no order same. not_both c.args.single no
    (left_alike order (g.A.Machine.machine c.args.left.now) (g.B.Machine.machine c.args.right.now) c.args.single c.args.rules.now c.args.others.now c.requires.one (some c.args.rules.now _ c.is_empty.ensures c.if-not-is_empty.true) same).0

pub returns-else-single-2-clause-no : goal.returns-else-single-2-clause-no
returns-else-single-2-clause-no g c = λ no order same. not_both c.args.single no
    (right_alike order (g.A.Machine.machine c.args.left.now) (g.B.Machine.machine c.args.right.now) c.args.single c.args.rules.now c.args.others.now c.requires.one (some c.args.others.now _ c.is_empty-else-not-is_empty.ensures c.if-not-is_empty-2.true) same).0
