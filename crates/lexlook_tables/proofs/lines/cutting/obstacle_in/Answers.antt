use Rattle.std.proofs.Common.{ℕ, ◌≤◌, Bool, false, true, None, Some, [], ◌∷◌, sym, subst}
use Rattle.lex_semantics.specs.Machine.{Machine, state_after}
use Rattle.lexlook_tables.specs.Lines.{TakesLine}
use Rattle.lexlook_tables.specs.Reaching.{IsReached}
use Rattle.lexlook_tables.specs.Obstacles.{FirstOf, Along, HindersAt}
use Rattle.lexlook_tables.proofs.Firsts.{AfterTexts}
use Rattle.lexlook_tables.proofs.Standing.{looked, found_all, newline_first, copies_first, none_in, lines_end}
use Rattle.lexlook_tables.proofs.lines.cutting.obstacle_in.Goals as goal

pub returns-in-Some-clause-first : goal.returns-in-Some-clause-first
returns-in-Some-clause-first g c = newline_first M c.args.condition c.in-Some.obstacle
    (looked M c.args.condition n c.deref.result.now c.start.result c.start-2.result c.start.ensures.state c.start-2.ensures.state (subst (IsReached M n (c.start.result ∷ c.start-2.result ∷ [])) (sym c.deref.ensures.value) c.in_ok-found.ensures) (Some c.in-Some.obstacle)
    (subst (FirstOf (Along c.deref.result.now (HindersAt M c.args.condition))) c.in-Some.is c.in_ok-obstacle.ensures.first))
  where
    M : Machine
    M = g.M.Machine.machine c.args.machine.now

    n : ℕ
    n = g.M.Machine.states c.args.machine.now

pub returns-then-copies_line-clause-first : goal.returns-then-copies_line-clause-first
returns-then-copies_line-clause-first g c = copies_first M c.args.condition none copied.0 copied.1 copied.2
  where
    M : Machine
    M = g.M.Machine.machine c.args.machine.now

    n : ℕ
    n = g.M.Machine.states c.args.machine.now

    none : FirstOf (AfterTexts M (M.start c.args.condition false ∷ M.start c.args.condition true ∷ []) (HindersAt M c.args.condition)) None
    none = looked M c.args.condition n c.deref.result.now c.start.result c.start-2.result c.start.ensures.state c.start-2.ensures.state (subst (IsReached M n (c.start.result ∷ c.start-2.result ∷ [])) (sym c.deref.ensures.value) c.in_ok-found.ensures) None
        (subst (FirstOf (Along c.deref.result.now (HindersAt M c.args.condition))) c.in_default.is c.in_ok-obstacle.ensures.first)

    copied : (1 ≤ c.args.condition) × (line : Bool) × (TakesLine M c.args.condition line → ⊥)
    copied = c.copies_line.ensures.yes c.if-copies_line.true

pub returns-clause-none : goal.returns-clause-none
returns-clause-none g c = λ _. lines_end M c.args.condition none (c.copies_line.ensures.no c.if-copies_line.false)
    (λ line w text. c.in_ok-obstacle.ensures.ends c.in_default.is (state_after M c.args.condition line w)
    (found_all M c.args.condition n c.deref.result.now c.start.result c.start-2.result c.start.ensures.state c.start-2.ensures.state (subst (IsReached M n (c.start.result ∷ c.start-2.result ∷ [])) (sym c.deref.ensures.value) c.in_ok-found.ensures) line w text))
  where
    M : Machine
    M = g.M.Machine.machine c.args.machine.now

    n : ℕ
    n = g.M.Machine.states c.args.machine.now

    none : FirstOf (AfterTexts M (M.start c.args.condition false ∷ M.start c.args.condition true ∷ []) (HindersAt M c.args.condition)) None
    none = looked M c.args.condition n c.deref.result.now c.start.result c.start-2.result c.start.ensures.state c.start-2.ensures.state (subst (IsReached M n (c.start.result ∷ c.start-2.result ∷ [])) (sym c.deref.ensures.value) c.in_ok-found.ensures) None
        (subst (FirstOf (Along c.deref.result.now (HindersAt M c.args.condition))) c.in_default.is c.in_ok-obstacle.ensures.first)

pub returns-clause-first : goal.returns-clause-first
returns-clause-first g c = none_in M c.args.condition none (c.copies_line.ensures.no c.if-copies_line.false)
  where
    M : Machine
    M = g.M.Machine.machine c.args.machine.now

    n : ℕ
    n = g.M.Machine.states c.args.machine.now

    none : FirstOf (AfterTexts M (M.start c.args.condition false ∷ M.start c.args.condition true ∷ []) (HindersAt M c.args.condition)) None
    none = looked M c.args.condition n c.deref.result.now c.start.result c.start-2.result c.start.ensures.state c.start-2.ensures.state (subst (IsReached M n (c.start.result ∷ c.start-2.result ∷ [])) (sym c.deref.ensures.value) c.in_ok-found.ensures) None
        (subst (FirstOf (Along c.deref.result.now (HindersAt M c.args.condition))) c.in_default.is c.in_ok-obstacle.ensures.first)
