use Rattle.std.proofs.Common.{rules, arith, ◌≡◌, ◌∙◌, ◌<◌, ◌++◌, Some, ap, length, map, refl, sym}
use Rattle.std.specs.Prelude.{slice_get}
use Rattle.std.proofs.lemmas.Option.{slice_get_read}
use Rattle.lexlook_specs.proofs.Joining.{more_in_range}
use Rattle.lexlook_calls.specs.Words.{word_line}
use Rattle.lexlook_calls.proofs.words.add_rules.Goals as goal

pub add_word-requires-clause-labels : goal.add_word-requires-clause-labels
add_word-requires-clause-labels c =
    let xs = c.args.words.now.rules.items in
    let low : c.loop-rule.rule < length xs = first_of (search rules, grind arith) in
    c.requires.rules c.loop-rule.rule c.index.result.now (slice_get_read xs (length xs) c.loop-rule.rule c.index.result.now refl low c.index.ensures)

pub loop-rule-preserved : goal.loop-rule-preserved
loop-rule-preserved c =
    let xs = c.args.words.now.rules.items in
    let low : c.loop-rule.rule < length xs = first_of (search rules, grind arith) in
    let at : slice_get xs c.loop-rule.rule ≡ Some c.index.result.now = slice_get_read xs (length xs) c.loop-rule.rule c.index.result.now refl low c.index.ensures in
    more_in_range (λ i. word_line (map (λ n. n.now) c.args.names.now) c.args.lines.now i (slice_get xs i)) c.args.text.now.items _ _ c.loop-rule.rule c.loop-rule.invariant
    (c.in_ok-add_word.ensures ∙ ap (λ o. c.loop-rule.text.items ++ word_line (map (λ n. n.now) c.args.names.now) c.args.lines.now c.loop-rule.rule o) (sym at))
