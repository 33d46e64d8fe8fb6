use Rattle.std.proofs.Common.{◌∙◌, ap, map, arith}
use Rattle.lex_semantics.specs.Rules.{rules_of}
use Rattle.lex_semantics.specs.Spec.{Condition}
use Rattle.lexauto_dfa.specs.Automata.{machine_of}
use Rattle.lexspec.proofs.TestLaws.{spec_is_sound}
use Rattle.lexspec.specs.Views.{spec_of}
use Rattle.lexscan_window.specs.declared.error.RunError.TheVariants as runs
use Rattle.lexlook_suites.specs.Gathers.{Faults, rules_by}
use Rattle.lexlook_suites.specs.Told.{Stops}
use Rattle.lexlook_suites.proofs.Collected.{inputs_by, over_all_by}
use Rattle.lexlook_suites.proofs.Covered.{some_conditions}
use Rattle.lexlook_suites.proofs.Suited.{input_of, stops_of}
use Rattle.lexlook_suites.proofs.suite.suite_by.Goals as goal

pub gather-requires : goal.gather-requires
gather-requires c =
    let some = some_conditions (spec_of c.args.spec.now) c.args.spec.now.sound in
    omega (arith, some, c.requires.conditions)

pub returns : goal.returns
returns c =
    let S = spec_of c.args.spec.now in
    let p = c.args.dfa.now.parts in
    let f = c.in-Ok.machine in
    let R = rules_by f in
    let g = c.in_ok-gathered.gathered in
    let sound = spec_is_sound S c.args.spec.now.sound in
    let K = machine_of c.args.dfa.now S in
    record {
      inputs = inputs_by R (rules_of S) g.inputs.items (input_of S sound K c.requires.table f c.in-Ok.ensures) c.in_ok-gathered.ensures.gathered.inputs;
      all = over_all_by p (Faults R) (λ v. Stops S v runs.Stack) g.inputs.items (stops_of S sound K c.requires.table f c.in-Ok.ensures) c.in_ok-gathered.ensures.all;
      marks = g.marks;
      marked = c.in_ok-gathered.ensures.gathered.marks;
      left = c.in_ok-left.ensures;
      names = c.in_ok-names.ensures ∙ ap (map (λ (k : Condition). k.name)) c.conditions.ensures.conditions;
    }
