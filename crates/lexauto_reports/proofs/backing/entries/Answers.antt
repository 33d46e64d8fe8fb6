use Rattle.std.proofs.Common.{rules, ◌≡◌, ◌++◌, ◌∷◌, ◌+◌, [], List, Vec, Global, sym, ap, subst, ◌∙◌, arith}
use Rattle.lexauto_dfa.specs.Parts.{states}
use Rattle.lexauto_reports.specs.BackWords.{IsEntry}
use Rattle.lexauto_reports.specs.declared.backup.BackUp.{BackUp}
use Rattle.lexauto_reports.proofs.Entered.{AreEntries, one_entry, not_entry, is_state}
use Rattle.lexauto_reports.proofs.backing.entries.Goals as goal
use Rattle.lexauto_reports.proofs.backing.entries.Goals.{in-Some+in_ok-push, in_default}

pub loop-state-preserved : goal.loop-state-preserved
loop-state-preserved c =
    let p = c.args.dfa.now.parts in
    let n = c.loop-state.state in
    elim c.match-branch-2.branch [
      | in-Some+in_ok-push w ↦
          (let is : c.match-branch-2.entries.items ≡ c.loop-state.entries.items ++ w.in-Some.entry ∷ [] = ap (λ (v : Vec BackUp Global). v.items) w.entries-is ∙ w.in_ok-push.ensures.items in
          let e = subst (IsEntry p n) w.in-Some.is c.in_ok-entry.ensures in
          subst (λ (l : List BackUp). AreEntries p l (n + 1)) (sym is) (one_entry p c.loop-state.entries.items n w.in-Some.entry c.loop-state.invariant e.0 e.1 e.2))
      | in_default w ↦
          (let is = ap (λ (v : Vec BackUp Global). v.items) w.entries-is in
          let e = subst (IsEntry p n) w.in_default.is c.in_ok-entry.ensures in
          subst (λ (l : List BackUp). AreEntries p l (n + 1)) (sym is) (not_entry p c.loop-state.entries.items n c.loop-state.invariant e))
    ]

pub returns-clause-states : goal.returns-clause-states
returns-clause-states c = λ s.
    let a = c.loop-state.invariant.states s in
    let all : c.loop-state.state ≡ states c.args.dfa.now.parts = search rules in
    (λ m. (a.0 m).1, λ b. (let lt = is_state c.args.dfa.now.parts s b in a.1 (omega (arith, lt, all), b)))
