use Rattle.std.proofs.Common.{rules, ◌≡◌, length, map, suc, [], ◌∷◌, ◌++◌, ap, sym, ◌∙◌}
use Rattle.std.specs.Vec.Iter.{into_iter_items}
use Rattle.std.proofs.lemmas.List.{map-append}
use Rattle.lex_semantics.specs.Spec.{Condition}
use Rattle.lexspec_actions.specs.Views.{condition_of}
use Rattle.lexlook_specs.specs.Traced.{end_line, traced_conditions}
use Rattle.lexlook_specs.proofs.Sounding.{one_end_more}
use Rattle.lexlook_specs.proofs.trace.ends.telling_ends.Goals as goal

pub loop-condition-preserved : goal.loop-condition-preserved
loop-condition-preserved c =
    let n = length c.loop-condition.told.items in
    let line : c.in_ok-line.line.items ≡ end_line n = search rules in
    let before : into_iter_items c.loop-condition.condition-iterator ≡ c.in-Some.condition ∷ into_iter_items c.next.new.self = search rules in
    let told : Condition = condition_of c.with_line.result in
    let items : map condition_of c.push.new.self.items ≡ map condition_of c.loop-condition.told.items ++ told ∷ [] =
    ap (map condition_of) c.in_ok-push.ensures.items ∙ map-append condition_of c.loop-condition.told.items (c.with_line.result ∷ []) in
    let size : length c.push.new.self.items ≡ suc n = search rules in
    let was : map condition_of c.loop-condition.told.items ++ traced_conditions n (condition_of c.in-Some.condition ∷ map condition_of (into_iter_items c.next.new.self)) ≡ traced_conditions 0 (map condition_of c.args.conditions.items) =
    ap (λ z. map condition_of c.loop-condition.told.items ++ traced_conditions n (map condition_of z)) (sym before) ∙ c.loop-condition.invariant.same in
    let is : told ≡ record { name = c.in-Some.condition.name.items; exclusive = c.in-Some.condition.exclusive; end = record { print = end_line n; status = c.in-Some.condition.end.status } } = search rules in
    record {
      count = search rules;
      same = ap (λ z. z ++ traced_conditions (length c.push.new.self.items) (map condition_of (into_iter_items c.next.new.self))) items ∙ one_end_more _ _ _ (condition_of c.in-Some.condition) told n (length c.push.new.self.items) size is was;
    }
