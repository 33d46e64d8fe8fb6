use Rattle.std.proofs.Common.{◌≡◌, ℕ, ◌++◌, ◌∷◌, [], Bool, true, false, List, inl, inr, ap, sym, subst, ◌∙◌, arith}
use Rattle.lex_semantics.specs.Text.{flag}
use Rattle.lextab_packed.specs.Inverse.{Has}
use Rattle.lextab_packed.proofs.Spreads.{flag_inside, has_last, has_less, has_more, same_or_not}
use Rattle.lextab_packed.proofs.live.accepting_states.Goals as goal
use Rattle.lextab_packed.proofs.live.accepting_states.Goals.{then-accepting-state+in_ok-push, else-accepting-state}

no : true ≡ false → ⊥
no e = cc

pub loop-state-preserved : goal.loop-state-preserved
loop-state-preserved c =
    let accepting : List Bool = c.args.accepting.now in
    let s : ℕ = c.loop-state.state in
    let old : List ℕ = c.loop-state.states.items in
    elim c.if-accepting-state.branch [
      | then-accepting-state+in_ok-push w ↦ rw w.states-is (record {
        known = λ x h. elim (has_less old s x (subst (λ (xs : List ℕ). Has xs x) w.in_ok-push.ensures.items h)) [
          | inl g ↦ c.loop-state.invariant.known x g
          | inr e ↦ ap (λ (i : ℕ). flag accepting i) e ∙ w.if-accepting-state.true
        ];
        all = λ x lt f. subst (λ (xs : List ℕ). Has xs x) (sym w.in_ok-push.ensures.items) (elim (same_or_not x s) [
          | inl e ↦ subst (λ (i : ℕ). Has (old ++ s ∷ []) i) (sym e) (has_last old s)
          | inr n ↦ has_more old s x (c.loop-state.invariant.all x (omega (arith, lt, n)) f)
        ]);
      })
      | else-accepting-state w ↦ rw w.states-is (record {
        known = c.loop-state.invariant.known;
        all = λ x lt f. elim (same_or_not x s) [
          | inl e ↦ absurd (no (sym f ∙ ap (λ (i : ℕ). flag accepting i) e ∙ w.if-accepting-state.false))
          | inr n ↦ c.loop-state.invariant.all x (omega (arith, lt, n)) f
        ];
      })
    ]

pub returns-clause-known : goal.returns-clause-known
returns-clause-known c = c.loop-state.invariant.known

pub returns-clause-all : goal.returns-clause-all
returns-clause-all c = λ x f. c.loop-state.invariant.all x (let h = flag_inside c.args.accepting.now x f in omega (arith, h, c.loop-state-test.false)) f
