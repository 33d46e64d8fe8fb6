use Rattle.std.proofs.Common.{rules, ◌≡◌, ℕ, List, [], ◌∷◌, ◌++◌, arith, inl, inr, sym, subst, length, ap, ◌∙◌}
use Rattle.lextab_packed.specs.Live.{GoesTo}
use Rattle.lextab_packed.specs.Inverse.{Has}
use Rattle.lextab_packed.specs.Spreading.{Spreads}
use Rattle.lextab_packed.proofs.Spreads.{flag_inside, has_none, has_more, has_less, has_last}
use Rattle.lextab_packed.proofs.Leading.{round, closed}
use Rattle.std.proofs.lemmas.List.{length-append}
use Rattle.lextab_packed.proofs.live.live_states.Goals as goal

pub mark_sources-requires-clause-target : goal.mark_sources-requires-clause-target
mark_sources-requires-clause-target c =
    let v = c.rounds.invariant in
    let one = v.one_each in
    let there : Has c.rounds.waiting.items c.in-Some.target = subst (λ (xs : List ℕ). Has xs c.in-Some.target) (sym c.in-Some.ensures.items) (has_last c.pop.new.self.items c.in-Some.target) in
    elim (v.known c.in-Some.target there) [
      | inl a ↦ let h = flag_inside c.args.accepting.now c.in-Some.target a in omega (arith, h, one)
      | inr l ↦ flag_inside c.rounds.live.items c.in-Some.target l
    ]

pub rounds-preserved : goal.rounds-preserved
rounds-preserved c =
    let items : c.rounds.waiting.items ≡ c.pop.new.self.items ++ c.in-Some.target ∷ [] = c.in-Some.ensures.items in
    round c.args.next.now c.args.accepting.now c.requires.rows c.rounds.live.items c.mark_sources.new.live.items c.rounds.waiting.items c.pop.new.self.items c.mark_sources.new.waiting.items c.in-Some.target
    (λ x h. has_less c.pop.new.self.items c.in-Some.target x (subst (λ (xs : List ℕ). Has xs x) items h))
    (λ x h. subst (λ (xs : List ℕ). Has xs x) (sym items) (has_more c.pop.new.self.items c.in-Some.target x h))
    (subst (λ (xs : List ℕ). Has xs c.in-Some.target) (sym items) (has_last c.pop.new.self.items c.in-Some.target))
    (subst (λ (ns : List ℕ). Spreads (GoesTo ns c.in-Some.target) c.args.accepting.now c.rounds.live.items c.pop.new.self.items c.mark_sources.new.live.items c.mark_sources.new.waiting.items) c.in_ok-sources.ensures.next c.in_ok-mark_sources.ensures)
    c.rounds.invariant

pub returns : goal.returns
returns c =
    let none : c.rounds.waiting.items ≡ [] = search (rules, c.in_default.ensures.cases) in
    closed c.args.next.now c.args.accepting.now c.requires.rows c.requires.known c.rounds.live.items c.rounds.waiting.items (λ x h. has_none c.rounds.waiting.items x none h) c.rounds.invariant

pub inverse_transitions-requires-clause-few : goal.inverse_transitions-requires-clause-few
inverse_transitions-requires-clause-few c = omega (arith, c.requires.rows, c.requires.few)

pub rounds-smaller : goal.rounds-smaller
rounds-smaller c =
    let size = ap length c.in-Some.ensures.items ∙ length-append c.pop.new.self.items (c.in-Some.target ∷ []) in
    let fewer = c.in_ok-mark_sources.ensures.fewer in
    omega (arith, size, fewer)
