use Rattle.std.proofs.lemmas.Grind.{common_steps}
use Rattle.std.proofs.Common.{◌≡◌, ℕ, ◌-◌, List, Some, None, ap, subst, ◌∙◌, arith}
use Rattle.std.specs.Prelude.{filter_map}
use Rattle.lex_semantics.specs.Machine.{Machine}
use Rattle.lex_semantics.specs.PlainMachine.{match_of}
use Rattle.lex_semantics.specs.Trail.{falling}
use Rattle.lexscan_window.specs.declared.state.TextPlace.{TextPlace}
use Rattle.lexscan_matching.specs.Picks.{IsFirst, path_of}
use Rattle.lexscan_matching.proofs.Picking as Pick
use Rattle.lexscan_matching.proofs.pick.near_end.Goals as goal

pub returns-in-Some : goal.returns-in-Some
returns-in-Some g c = record {
  first = (let M : Machine = g.M.Machine.machine c.args.machine.now in
      let w : List ℕ = c.args.window.now.bytes in
      let p : TextPlace = c.args.place in
      let n : ℕ = c.args.ahead.reach in
      Pick.first_same _ _ (Some c.in-Some.pick) (Pick.falling_last M p w n c.requires.tells.some c.requires.tells.inside)
      (Pick.first_before _ (falling M 0 (path_of M p w (n - 1))) c.in-Some.pick (subst (λ l. IsFirst (filter_map (match_of M n) l) (Some c.in-Some.pick)) (c.accepts.ensures ∙ ap M.accepts c.requires.tells.state_is) c.in-Some.ensures.first)));
  one = grind (arith, common_steps);
  known = grind (arith, common_steps);
  statements = grind (arith, common_steps);
  short = grind (arith, common_steps);
}

pub returns-then-len-eq1 : goal.returns-then-len-eq1
returns-then-len-eq1 g c = record {
  first = grind (arith, common_steps);
  one = (λ _. (let M : Machine = g.M.Machine.machine c.args.machine.now in
      let w : List ℕ = c.args.window.now.bytes in
      let p : TextPlace = c.args.place in
      let n : ℕ = c.args.ahead.reach in
      let none : n - 1 ≡ 0 = omega (arith, c.if-len-eq1.true) in
      Pick.first_same _ _ None (Pick.falling_last M p w n c.requires.tells.some c.requires.tells.inside)
      (Pick.first_after _ (falling M 0 (path_of M p w (n - 1))) None (subst (λ l. IsFirst (filter_map (match_of M n) l) None) (c.accepts.ensures ∙ ap M.accepts c.requires.tells.state_is) c.in_default.ensures.first)
      (ap (λ k. falling M 0 (path_of M p w k)) none))));
  known = grind (arith, common_steps);
  statements = grind (arith, common_steps);
  short = grind (arith, common_steps);
}

pub returns-in-Some-first_candidate : goal.returns-in-Some-first_candidate
returns-in-Some-first_candidate g c = record {
  first = (let M : Machine = g.M.Machine.machine c.args.machine.now in
      let w : List ℕ = c.args.window.now.bytes in
      let p : TextPlace = c.args.place in
      let n : ℕ = c.args.ahead.reach in
      let k : ℕ = n - 1 in
      let pick = c.in-Some-first_candidate.pick in
      Pick.first_same _ _ (Some pick) (Pick.falling_last M p w n c.requires.tells.some c.requires.tells.inside)
      (Pick.first_after _ (falling M 0 (path_of M p w k)) (Some pick) (subst (λ l. IsFirst (filter_map (match_of M n) l) None) (c.accepts.ensures ∙ ap M.accepts c.requires.tells.state_is) c.in_default.ensures.first)
      (Pick.first_same _ _ (Some pick) (Pick.falling_last M p w k (omega (arith, c.requires.tells.some, c.if-len-eq1.false)) (omega (arith, c.requires.tells.inside)))
      (Pick.first_before _ (falling M 0 (path_of M p w (k - 1))) pick
      (subst (λ l. IsFirst (filter_map (match_of M k) l) (Some pick)) (c.accepts-2.ensures ∙ ap M.accepts c.requires.tells.before_is) c.in-Some-first_candidate.ensures.first)))));
  one = grind (arith, common_steps);
  known = grind (arith, common_steps);
  statements = grind (arith, common_steps);
  short = grind (arith, common_steps);
}
