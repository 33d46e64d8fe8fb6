use Rattle.std.proofs.Common.{◌≡◌, Bool, true, false, ℕ, Option, Some, None, subst}
use Rattle.std.specs.Prelude.{IfSome, not}
use Rattle.std.specs.Option.{is_some}
use Rattle.lex_semantics.specs.Text.{Among, flag}
use Rattle.lexlook_specs.specs.Placing.{takers}
use Rattle.lexlook_specs.proofs.Takers.{none_keeps, takers_among}
use Rattle.lexlook_specs.proofs.words.taking.is_given_up.Goals as goal

no_taker : (o : Option ℕ) (b : Bool) → is_some o ≡ not b → b ≡ true → (j : ℕ) → o ≡ Some j → ⊥
no_taker None b e t j s = absurd cc
no_taker (Some k) true e t j s = absurd cc
no_taker (Some k) false e t j s = absurd cc

a_taker : (o : Option ℕ) (b : Bool) → is_some o ≡ not b → b ≡ false → (j : ℕ) × (o ≡ Some j)
a_taker None true e f = absurd cc
a_taker None false e f = absurd cc
a_taker (Some k) b e f = (k, (let s : Some k ≡ Some k = cc in s))

some_at : (P : ℕ → Type 0) (o : Option ℕ) (j : ℕ) → IfSome o P → o ≡ Some j → P j
some_at P None j h e = absurd cc
some_at P (Some k) j h e = (let same : k ≡ j = cc in subst P same h)

pub returns-clause-yes : goal.returns-clause-yes
returns-clause-yes c = λ t. none_keeps c.args.rejects.now c.args.rules.now
    (λ j a f. no_taker c.taker.result c.is_none.result c.is_none.ensures t j (c.taker.ensures.only j a f))

pub returns-clause-no : goal.returns-clause-no
returns-clause-no c = λ f none.
    let some = a_taker c.taker.result c.is_none.result c.is_none.ensures f in
    let at = some_at (λ j. Among (takers c.args.rejects.now c.args.rules.now) j × (flag c.args.rejects.now j ≡ false)) c.taker.result some.0 c.taker.ensures.some some.1 in
    none some.0 (takers_among c.args.rejects.now c.args.rules.now some.0 at.0) at.1
