use Rattle.std.proofs.Common.{◌≡◌, ◌∙◌, ◌++◌, ℕ, Bool, List, [], ap, append-nil, codes, map, sym}
use Rattle.std.proofs.lemmas.Result.{on_ok_weaker}
use Rattle.lexlook_specs.proofs.Joining.{in_six}
use Rattle.lexlook_counts.specs.CountLines.{condition_lines, count_lines, kind_lines, rule_heads}
use Rattle.lexlook_counts.specs.declared.lines.CountForm.{CountForm}
use Rattle.lexlook_counts.specs.declared.lines.CountForm.TheVariants as forms
use Rattle.lexlook_counts.specs.declared.lines.LineKind.TheVariants as kinds
use Rattle.lexlook_counts.specs.declared.counting.Counted.{Counted}
use Rattle.lexlook_counts.proofs.lines.add_count_lines.Goals as goal

-- the parts of what is told in columns
parts_are : (form : CountForm) (rejecting : Bool) (lines : List ℕ) (names : List (List ℕ)) (c : Counted) (turns : List ℕ) (old one two three four text : List ℕ) → form ≡ forms.Columns → turns ≡ c.tally.turns.items
    → one ≡ old ++ rule_heads rejecting → two ≡ one ++ kind_lines kinds.Matched rejecting lines c → three ≡ two ++ kind_lines kinds.Never rejecting lines c → four ≡ three ++ codes "       turns\n"
    → text ≡ four ++ condition_lines form names turns → text ≡ old ++ count_lines form rejecting lines names c
parts_are form rejecting lines names c turns old one two three four text columns same h1 h2 h3 h4 h5 =
    in_six old (rule_heads rejecting) (kind_lines kinds.Matched rejecting lines c) (kind_lines kinds.Never rejecting lines c) _ (condition_lines forms.Columns names c.tally.turns.items) [] one two three four text text h1 h2 h3 h4
    (h5 ∙ ap (λ (f : CountForm). four ++ condition_lines f names turns) columns ∙ ap (λ l. four ++ condition_lines forms.Columns names l) same) (sym (append-nil text))
    ∙ ap (λ (f : CountForm). old ++ count_lines f rejecting lines names c) (sym columns)

pub returns-in_ok-add-in-Columns : goal.returns-in_ok-add-in-Columns
returns-in_ok-add-in-Columns c =
    on_ok_weaker c.add_conditions.result
    (parts_are c.args.form c.args.rejecting c.args.lines.now (map (λ n. n.now) c.args.names.now) c.args.counted.now _ c.args.text.now.items _ _ _ _ _ c.in-Columns.is c.deref.ensures.value
    c.in_ok-add_rule_heads-in-Columns.ensures c.in_ok-add_rules-in-Columns.ensures c.in_ok-add_rules-in-Columns-2.ensures c.in_ok-add-in-Columns.ensures)
    c.add_conditions.ensures
