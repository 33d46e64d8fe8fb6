use Rattle.std.proofs.Common.{◌≡◌, ◌∙◌, ◌<◌, ◌++◌, ◌∷◌, [], ℕ, List, Vec, Global, ap, codes, get_or, length, map, arith}
use Rattle.std.specs.List.{concat}
use Rattle.lexlook_specs.proofs.Joining.{more_in_range}
use Rattle.lexlook_suites.specs.SuiteLines.{lines_under, lines_in}
use Rattle.lexlook_suites.specs.declared.inputs.Input.{Input}
use Rattle.lexlook_suites.proofs.Suited.{at_map}
use Rattle.lexlook_suites.proofs.suite_lines.Suite.lines.Goals as goal

pub loop-condition-preserved : goal.loop-condition-preserved
loop-condition-preserved c =
    let i = c.loop-condition.condition in
    let names = c.args.self.now.names.items in
    let inputs = c.args.self.now.inputs.items in
    let before = c.loop-condition.text.items in
    let low : i < length names = omega (arith, c.loop-condition-test.true, c.len-condition-end.ensures, c.args.self.now.names.ok.0) in
    let f : Vec ℕ Global → List ℕ = λ v. v.items in
    let name : c.deref.result.now ≡ get_or (map f names) i [] = c.deref.ensures.value ∙ at_map f names i c.index.result.now low c.index.ensures in
    more_in_range (lines_under (map f names) inputs) [] before c.add_condition.new.text.items i c.loop-condition.invariant
    (c.in_ok-add_condition.ensures ∙ ap (λ (l : List ℕ). before ++ concat (l ∷ codes ":\n" ∷ lines_in c.deref-in-loop-condition.result.now i ∷ [])) name
    ∙ ap (λ (l : List Input). before ++ concat (get_or (map f names) i [] ∷ codes ":\n" ∷ lines_in l i ∷ [])) c.deref-in-loop-condition.ensures.value)
