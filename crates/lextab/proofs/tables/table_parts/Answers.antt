use Rattle.std.proofs.Common.{◌≡◌, ℕ, List, map, ap, ◌∙◌, Vec, Global}
use Rattle.std.specs.declared.rc.Rc.{Rc}
use Rattle.lex_semantics.specs.Spec as S
use Rattle.lexspec_actions.specs.Views.{condition_of as condition_in}
use Rattle.lexspec.specs.Views.{spec_of}
use Rattle.lextab_packed.specs.Views.{condition_of, table_rule_of, row_of, slots_of}
use Rattle.lexauto_dfa.specs.Parts.{lists_in}
use Rattle.lextab.specs.Assembled.{start_in, conditions_with, action_in, rows_with}
use Rattle.lextab.proofs.tables.table_parts.Goals as goal

pub returns-clause-table : goal.returns-clause-table
returns-clause-table c =
    let p = c.args.parts.now in
    let spec = spec_of c.args.spec.now in
    let q = c.args.packed in
    let seen : List S.Condition = map condition_in c.conditions.result.now in
    let conditions_are : map condition_of c.in_ok-conditions.conditions.items ≡ conditions_with (start_in p.starts.items p.line_starts.items) 0 spec.conditions =
    c.in_ok-conditions.ensures.same
    ∙ ap (λ (l : List ℕ). conditions_with (start_in l c.deref-2.result.now) 0 seen) c.deref.ensures.value
    ∙ ap (λ (l : List ℕ). conditions_with (start_in p.starts.items l) 0 seen) c.deref-2.ensures.value
    ∙ ap (λ (l : List S.Condition). conditions_with (start_in p.starts.items p.line_starts.items) 0 l) c.conditions.ensures.conditions in
    let rules_are : map table_rule_of c.in_ok-rules.rules.items ≡ map action_in spec.rules = c.in_ok-rules.ensures.same ∙ ap (λ (l : List S.Rule). map action_in l) c.rules.ensures.rules in
    let rows_are : map row_of c.in_ok-rows.rows.items ≡ rows_with q.defaults.items q.bases.items (lists_in p) =
    c.in_ok-rows.ensures
    ∙ ap (λ (l : List ℕ). rows_with l c.deref-4.result.now (map (λ (v : Rc (Vec ℕ Global) Global). v.value.items) c.deref-5.result.now)) c.deref-3.ensures.value
    ∙ ap (λ (l : List ℕ). rows_with q.defaults.items l (map (λ (v : Rc (Vec ℕ Global) Global). v.value.items) c.deref-5.result.now)) c.deref-4.ensures.value
    ∙ ap (λ (l : List (Rc (Vec ℕ Global) Global)). rows_with q.defaults.items q.bases.items (map (λ (v : Rc (Vec ℕ Global) Global). v.value.items) l)) c.deref-5.ensures.value in
    λ k. record {
      conditions = conditions_are k;
      rules = rules_are k;
      classes = q.class_count;
      class_of = q.class_of.items;
      rows = rows_are k;
      slots = slots_of q.check.items q.next.items;
    }

pub returns-clause-texts : goal.returns-clause-texts
returns-clause-texts c = record { prints = c.in_ok-conditions.ensures.text; literals = c.in_ok-rules.ensures.text }
