use Rattle.std.proofs.Common.{rules, ◌≡◌, ◌≤◌, ◌<◌, ◌^◌, ◌∙◌, length, map, min, arith, ap, sym, subst}
use Rattle.lex_semantics.specs.Subsets.{all_positions}
use Rattle.std.proofs.lemmas.List.{length-map}
use Rattle.lexspec.specs.RuleViews.{rule_of}
use Rattle.lexspec.specs.Views.{spec_of, rules_in}
use Rattle.lextab_packed.specs.Views.{row_of}
use Rattle.lextab_packed.specs.declared.parts.TableParts.{TableParts}
use Rattle.lextab_file.proofs.Columns.{slots_length}
use Rattle.lexkit.proofs.FileBound.{found_count}
use Rattle.lexkit.proofs.stats.stats_of.Goals as goal

pub overflow_cast-result-4 : goal.overflow_cast-result-4
overflow_cast-result-4 c =
    let p = c.args.tables.now.parts in
    let many = c.args.tables.now.lawful.sizes.some_slots.1 in
    let is = slots_length p.checks.items p.nexts.items in
    let parts : c.parts-parts.result.now ≡ p = c.parts-parts.ensures in
    let checks : c.len-2.result ≡ length p.checks.items = (let e : c.len-2.result ≡ length c.parts-parts.result.now.checks.items = search rules in e) ∙ ap (λ (q : TableParts). length q.checks.items) parts in
    let nexts : c.len-3.result ≡ length p.nexts.items = (let e : c.len-3.result ≡ length c.parts-parts.result.now.nexts.items = search rules in e) ∙ ap (λ (q : TableParts). length q.nexts.items) parts in
    let least : c.min.result ≡ min c.len-2.result c.len-3.result = c.min.ensures in
    let low : c.min.result < 2 ^ 32 = omega (arith, many, is, checks, nexts, least) in
    search (rules, low)

pub returns : goal.returns
returns c =
    let p = c.args.tables.now.parts in
    let parts : c.parts-parts.result.now ≡ p = c.parts-parts.ensures in
    let is = slots_length p.checks.items p.nexts.items in
    let checks : c.len-2.result ≡ length p.checks.items = (let e : c.len-2.result ≡ length c.parts-parts.result.now.checks.items = search rules in e) ∙ ap (λ (q : TableParts). length q.checks.items) parts in
    let nexts : c.len-3.result ≡ length p.nexts.items = (let e : c.len-3.result ≡ length c.parts-parts.result.now.nexts.items = search rules in e) ∙ ap (λ (q : TableParts). length q.nexts.items) parts in
    let least : c.min.result ≡ min c.len-2.result c.len-3.result = c.min.ensures in
    let same : map rule_of c.rules-2.result.now ≡ rules_in (spec_of c.args.spec.now) = c.rules-2.ensures.rules in
    record {
      rules = sym (length-map c.rules.result.now rule_of) ∙ ap length c.rules.ensures.rules;
      conditions = sym (length-map c.conditions.result.now _) ∙ ap length c.conditions.ensures.conditions;
      positions = c.unwrap_or.ensures ∙ found_count c.count_positions.result (all_positions (map rule_of c.rules-2.result.now)) c.args.limits.positions c.count_positions.ensures.found c.count_positions.ensures.none
          (subst (λ rs. all_positions rs ≤ c.args.limits.positions) (sym same) c.requires.few) ∙ ap all_positions same;
      subsets = c.requires.subsets;
      states = (let e : c.len.result ≡ length c.parts-parts.result.now.rows.items = search rules in e) ∙ ap (λ (q : TableParts). length q.rows.items) parts ∙ sym (length-map p.rows.items row_of);
      classes = ap (λ (q : TableParts). q.classes) parts;
      slots = omega (arith, is, checks, nexts, least);
      bytes = c.file_length.ensures;
    }
