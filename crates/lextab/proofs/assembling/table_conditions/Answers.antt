use Rattle.std.proofs.Common.{◌≡◌, ℕ, ◌+◌, ◌∷◌, [], ◌++◌, ◌∙◌, map, drop, List, rules, sym, subst, ap, append_assoc, add-one}
use Rattle.std.specs.Prelude.{slice_index}
use Rattle.std.proofs.lemmas.List.{map_push}
use Rattle.lex_semantics.specs.Spec.{EndAction}
use Rattle.lex_semantics.specs.Text.{IsText}
use Rattle.lexspec_actions.specs.Views.{condition_of as condition_in}
use Rattle.lex_machine.specs.Views.{end_action_of}
use Rattle.lextab_packed.specs.Table as T
use Rattle.lextab_packed.specs.Checks.{Each}
use Rattle.lextab_packed.specs.Views.{condition_of}
use Rattle.lextab_packed.specs.declared.parts.TableCondition.{TableCondition}
use Rattle.lextab.specs.Assembled.{start_in, conditions_with}
use Rattle.lex_machine.proofs.Growing.{each_push}
use Rattle.lextab.proofs.Pushes.{next_condition}
use Rattle.lextab.proofs.assembling.table_conditions.Goals as goal

pub loop-i-preserved : goal.loop-i-preserved
loop-i-preserved c =
    let i = c.loop-i.i in
    let starts = c.args.starts.now in
    let lines = c.args.line_starts.now in
    let old = c.loop-i.all.items in
    let done : List T.ConditionOfTable = map condition_of old in
    let one : TableCondition = record { start = slice_index starts i; line_start = slice_index lines i; end = c.in_ok-end.end } in
    let rest : ℕ → List T.ConditionOfTable = λ n. conditions_with (start_in starts lines) n (map condition_in (drop (i + 1) c.args.conditions.now)) in
    let with_end : EndAction → T.ConditionOfTable = λ e. record { start = slice_index starts i; line_start = slice_index lines i; end = e } in
    let same : end_action_of c.in_ok-end.end ≡ end_action_of c.index-conditions-i.result.end = search rules in
    let views : map condition_of c.push.new.self.items ≡ done ++ condition_of one ∷ [] = ap (λ (xs : List TableCondition). map condition_of xs) c.in_ok-push.ensures.items ∙ map_push condition_of old one in
    let next = next_condition (start_in starts lines) c.args.conditions.now i i c.index-conditions-i.result c.loop-i-test.true c.index-conditions-i.is in (
      ap (λ (l : List T.ConditionOfTable). l ++ rest (i + 1)) views
          ∙ append_assoc done (condition_of one ∷ []) (rest (i + 1))
          ∙ ap (λ (e : EndAction). done ++ (with_end e ∷ rest (i + 1))) same
          ∙ ap (λ (n : ℕ). done ++ (with_end (condition_in c.index-conditions-i.result).end ∷ rest n)) (add-one i)
          ∙ ap (λ (l : List T.ConditionOfTable). done ++ l) (sym next)
          ∙ c.loop-i.invariant.0,
      subst (λ (l : List T.ConditionOfTable). Each (λ (n : ℕ) (x : T.ConditionOfTable). IsText x.end.print) 0 l) (sym views) (each_push (λ (n : ℕ) (x : T.ConditionOfTable). IsText x.end.print) done (condition_of one) c.loop-i.invariant.1 (λ n. c.in_ok-end.ensures.text)),
    )
