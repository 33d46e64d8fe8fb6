use Rattle.std.proofs.Common.{◌∙◌, ℕ, List, Ok, Err, ap, arith, length, refl, subst, sym}
use Rattle.std.specs.List.{concat}
use Rattle.std.proofs.lemmas.List.{length-map}
use Rattle.lex_io.specs.Sink.{Appended}
use Rattle.lexspec.specs.RuleViews.{rule_of}
use Rattle.lexspec.specs.Views.{conditions_in, rules_in, spec_of}
use Rattle.lexspec_actions.specs.Views.{condition_of}
use Rattle.lextab_packed.specs.FlatViews.{tables_of}
use Rattle.lextab_packed.specs.Machines.{table_machine}
use Rattle.lexscan_window.specs.declared.error.RunError.TheVariants as runs
use Rattle.lexlook_counts.proofs.Told.{each_condition, each_given, each_rule, late_memory, no_write, recounted, stops_told}
use Rattle.lexlook_counts.proofs.telling.tell_of.Goals as goal

pub lines_for-requires-clause-rules : goal.lines_for-requires-clause-rules
lines_for-requires-clause-rules g c =
    let h = c.in-Ok.ensures in
    each_rule _ _ h.costs c.in-Ok.counted.tally h.counts ∙ sym (length-map c.rules-rules.result.now rule_of) ∙ ap length c.rules-rules.ensures.rules

pub lines_for-requires-clause-given_up : goal.lines_for-requires-clause-given_up
lines_for-requires-clause-given_up g c =
    let h = c.in-Ok.ensures in
    each_given _ (concat h.given_up) c.in-Ok.counted.given_up.items h.given_up_is ∙ sym (length-map c.rules-rules.result.now rule_of) ∙ ap length c.rules-rules.ensures.rules

pub lines_for-requires-clause-conditions : goal.lines_for-requires-clause-conditions
lines_for-requires-clause-conditions g c =
    let h = c.in-Ok.ensures in
    each_condition _ _ h.costs c.in-Ok.counted.tally h.counts ∙ sym (length-map c.conditions-conditions.result.now condition_of) ∙ ap length c.conditions-conditions.ensures.conditions

pub returns-in-Err-clause-told : goal.returns-in-Err-clause-told
returns-in-Err-clause-told g c =
    let S = spec_of c.args.spec.now in
    let rules = sym (length-map c.rules-rules.result.now rule_of) ∙ ap length c.rules-rules.ensures.rules in
    let conditions = sym (length-map c.conditions-conditions.result.now condition_of) ∙ ap length c.conditions-conditions.ensures.conditions in
    let M = table_machine (tables_of c.args.machines.scans) in
    let N = table_machine (tables_of c.args.machines.looks) in
    stops_told g.S.Source.gave g.S.Source.ends g.S.Source.failures g.K.Sink.wrote M N S c.args.form c.args.source.now c.count_source.new.source c.args.sink.now c.in-Err.error
    (recounted g.S.Source.gave g.S.Source.ends g.S.Source.failures M N _ _ (length (rules_in S)) (length (conditions_in S)) c.args.source.now c.count_source.new.source (Err c.in-Err.error) rules conditions c.in-Err.ensures)

pub returns-in-Err-clause-reads : goal.returns-in-Err-clause-reads
returns-in-Err-clause-reads g c = c.in-Err.ensures.2.reads

pub returns-in-Err-clause-writes : goal.returns-in-Err-clause-writes
returns-in-Err-clause-writes g c = let none = no_write ℕ c.in-Err.error c.in-Err.ensures.2.not_write in omega (arith, none)

pub returns-in-Err-lines_for-clause-told : goal.returns-in-Err-lines_for-clause-told
returns-in-Err-lines_for-clause-told g c =
    let S = spec_of c.args.spec.now in
    let rules = sym (length-map c.rules-rules.result.now rule_of) ∙ ap length c.rules-rules.ensures.rules in
    let conditions = sym (length-map c.conditions-conditions.result.now condition_of) ∙ ap length c.conditions-conditions.ensures.conditions in
    let M = table_machine (tables_of c.args.machines.scans) in
    let N = table_machine (tables_of c.args.machines.looks) in (
      late_memory g.S.Source.gave g.S.Source.ends g.S.Source.failures M N (length (rules_in S)) (length (conditions_in S)) c.args.source.now c.count_source.new.source c.in-Ok.counted.status c.in-Ok.counted.tally c.in-Ok.counted.given_up.items c.in-Ok.counted.last c.in-Ok.counted.condition
          (recounted g.S.Source.gave g.S.Source.ends g.S.Source.failures M N _ _ (length (rules_in S)) (length (conditions_in S)) c.args.source.now c.count_source.new.source (Ok c.in-Ok.counted) rules conditions c.in-Ok.ensures),
      refl,
    )

pub returns-in-Err-put-clause-told : goal.returns-in-Err-put-clause-told
returns-in-Err-put-clause-told g c =
    let S = spec_of c.args.spec.now in
    let rules = sym (length-map c.rules-rules.result.now rule_of) ∙ ap length c.rules-rules.ensures.rules in
    let conditions = sym (length-map c.conditions-conditions.result.now condition_of) ∙ ap length c.conditions-conditions.ensures.conditions in
    let M = table_machine (tables_of c.args.machines.scans) in
    let N = table_machine (tables_of c.args.machines.looks) in (
      c.in-Ok.counted.status,
      record {
        counts = c.in-Ok.counted;
        counted = recounted g.S.Source.gave g.S.Source.ends g.S.Source.failures M N _ _ (length (rules_in S)) (length (conditions_in S)) c.args.source.now c.count_source.new.source (Ok c.in-Ok.counted) rules conditions c.in-Ok.ensures;
        written = subst (λ (bytes : List ℕ). Appended {T = ℕ} (λ xs. g.K.Sink.wrote c.args.sink.now xs c.put.new.self) bytes (Err runs.Write)) (c.as_slice.ensures.value ∙ c.in-Ok-lines_for.ensures) c.in-Err-put.ensures.bytes;
      },
    )

pub returns-clause-told : goal.returns-clause-told
returns-clause-told g c =
    let S = spec_of c.args.spec.now in
    let rules = sym (length-map c.rules-rules.result.now rule_of) ∙ ap length c.rules-rules.ensures.rules in
    let conditions = sym (length-map c.conditions-conditions.result.now condition_of) ∙ ap length c.conditions-conditions.ensures.conditions in
    let M = table_machine (tables_of c.args.machines.scans) in
    let N = table_machine (tables_of c.args.machines.looks) in
    record {
      counts = c.in-Ok.counted;
      counted = recounted g.S.Source.gave g.S.Source.ends g.S.Source.failures M N _ _ (length (rules_in S)) (length (conditions_in S)) c.args.source.now c.count_source.new.source (Ok c.in-Ok.counted) rules conditions c.in-Ok.ensures;
      written = subst (λ (bytes : List ℕ). g.K.Sink.wrote c.args.sink.now bytes c.put.new.self) (c.as_slice.ensures.value ∙ c.in-Ok-lines_for.ensures) c.in-Ok-put.ensures.bytes;
    }
