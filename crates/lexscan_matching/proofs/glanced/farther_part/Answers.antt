use Rattle.std.proofs.Common.{◌≡◌, ◌-◌, [], length, sym, ap, ◌∙◌, arith}
use Rattle.lex_semantics.specs.Machine.{Machine}
use Rattle.lexscan_matching.proofs.Planning.{none_there}
use Rattle.lexscan_matching.proofs.Telling.{one_before, none_less}
use Rattle.lexscan_matching.proofs.glanced.farther_part.Goals as goal

pub accepts-requires : goal.accepts-requires
accepts-requires g c =
    let back = c.back.invariant in
    (one_before (g.M.Machine.machine c.args.machine.now) (g.M.Machine.states c.args.machine.now) c.args.first c.args.bytes.now (g.M.Machine.below c.args.machine.now) c.requires.first (λ i. let b = c.type_inv.bytes i in omega (arith, b)) c.back.keep c.back.state c.in-Some.earlier back.some back.inside back.state_is c.in-Some.ensures).1

pub returns-then-not-is_empty-clause-part : goal.returns-then-not-is_empty-clause-part
returns-then-not-is_empty-clause-part g c =
    let back = c.back.invariant in
    record {
      short = omega (arith, back.inside);
      state_is =
          (one_before (g.M.Machine.machine c.args.machine.now) (g.M.Machine.states c.args.machine.now) c.args.first c.args.bytes.now (g.M.Machine.below c.args.machine.now) c.requires.first (λ i. let b = c.type_inv.bytes i in omega (arith, b)) c.back.keep c.back.state c.in-Some.earlier back.some back.inside back.state_is c.in-Some.ensures).0;
      none = back.none;
    }

pub returns-then-not-is_empty-clause-known : goal.returns-then-not-is_empty-clause-known
returns-then-not-is_empty-clause-known g c =
    let back = c.back.invariant in
    (one_before (g.M.Machine.machine c.args.machine.now) (g.M.Machine.states c.args.machine.now) c.args.first c.args.bytes.now (g.M.Machine.below c.args.machine.now) c.requires.first (λ i. let b = c.type_inv.bytes i in omega (arith, b)) c.back.keep c.back.state c.in-Some.earlier back.some back.inside back.state_is c.in-Some.ensures).1

pub back-preserved : goal.back-preserved
back-preserved g c =
    let M : Machine = g.M.Machine.machine c.args.machine.now in
    let bytes = c.args.bytes.now in
    let back = c.back.invariant in
    let k = one_before M (g.M.Machine.states c.args.machine.now) c.args.first bytes (g.M.Machine.below c.args.machine.now) c.requires.first (λ i. let b = c.type_inv.bytes i in omega (arith, b)) c.back.keep c.back.state c.in-Some.earlier back.some back.inside back.state_is c.in-Some.ensures in
    let none : M.accepts c.in-Some.earlier ≡ [] = sym c.accepts.ensures ∙ none_there c.accepts.result.now (sym c.is_empty.ensures ∙ c.if-not-is_empty.false) in
    record {
      some = omega (arith, c.back-test.true);
      inside = omega (arith, back.inside);
      known = k.1;
      state_is = k.0;
      none = none_less M c.args.first bytes (c.back.keep - 1) (length bytes) back.none (ap M.accepts (sym k.0) ∙ none);
    }
