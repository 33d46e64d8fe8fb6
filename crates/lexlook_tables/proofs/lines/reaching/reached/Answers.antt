use Rattle.std.proofs.Common.{◌≡◌, ℕ, zero, suc, [], replicate, false, rules, refl, sym, ap, subst, ◌∙◌, get_or, arith}
use Rattle.lex_semantics.specs.Machine.{Machine}
use Rattle.lexlook_tables.specs.Reaching.{Begun}
use Rattle.lexlook_tables.proofs.Searches.{none_found, next_place, is_reached}
use Rattle.lexlook_tables.proofs.lines.reaching.reached.Goals as goal

-- a flag that is false everywhere
all_false : (n i : ℕ) → get_or (replicate n false) i false ≡ false
all_false zero i = refl
all_false (suc n) zero = refl
all_false (suc n) (suc i) = all_false n i

pub states-preserved : goal.states-preserved
states-preserved g c = next_place (g.M.Machine.machine c.args.machine.now) (g.M.Machine.states c.args.machine.now) c.args.starts.now c.widen.new.found.items c.widen.new.marks.items c.states.place 256
    (c.in_ok-widen.ensures.found c.args.starts.now c.states.invariant) refl

pub returns : goal.returns
returns g c = is_reached (g.M.Machine.machine c.args.machine.now) (g.M.Machine.states c.args.machine.now) c.args.starts.now c.states.found.items c.states.marks.items c.states.place 0 c.states.invariant (omega (arith, c.states-test.false))

pub states-init : goal.states-init
states-init g c = (c.in_ok-add_all.ensures M n [] first).search
  where
    M : Machine
    M = g.M.Machine.machine c.args.machine.now

    n : ℕ
    n = g.M.Machine.states c.args.machine.now

    first : Begun M n [] c.new-found.result.items c.in_ok-marks.marks.items
    first = subst (λ z. Begun M n [] z c.in_ok-marks.marks.items) (sym c.new-found.ensures.items) (none_found M n c.in_ok-marks.marks.items (sym c.in_ok-marks.marks.ok.0 ∙ c.in_ok-marks.ensures.len ∙ c.requires.states) none)
      where
        none : (i : ℕ) → get_or c.in_ok-marks.marks.items i false ≡ false
        none i = ap (λ l. get_or l i false) (c.in_ok-marks.ensures.items_if_clones_equal (search rules)) ∙ all_false c.args.states i
