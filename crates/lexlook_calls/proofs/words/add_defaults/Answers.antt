use Rattle.std.proofs.Common.{rules, arith, ◌≡◌, ◌∙◌, ◌<◌, ◌++◌, Some, ap, length, map, refl, sym}
use Rattle.std.specs.Prelude.{slice_get}
use Rattle.std.proofs.lemmas.Option.{slice_get_read}
use Rattle.lexlook_specs.proofs.Joining.{more_in_range}
use Rattle.lexlook_calls.specs.Words.{default_line}
use Rattle.lexlook_calls.proofs.words.add_defaults.Goals as goal

pub add_default-requires-clause-label : goal.add_default-requires-clause-label
add_default-requires-clause-label c =
    let xs = c.args.words.now.defaults.items in
    let low : c.loop-condition.condition < length xs = first_of (search rules, grind arith) in
    c.requires.1.defaults c.loop-condition.condition c.index.result.now (slice_get_read xs (length xs) c.loop-condition.condition c.index.result.now refl low c.index.ensures)

pub loop-condition-preserved : goal.loop-condition-preserved
loop-condition-preserved c =
    let xs = c.args.words.now.defaults.items in
    let low : c.loop-condition.condition < length xs = first_of (search rules, grind arith) in
    let at : slice_get xs c.loop-condition.condition ≡ Some c.index.result.now = slice_get_read xs (length xs) c.loop-condition.condition c.index.result.now refl low c.index.ensures in
    more_in_range (λ i. default_line (map (λ n. n.now) c.args.names.now) i (slice_get xs i)) c.args.text.now.items _ _ c.loop-condition.condition c.loop-condition.invariant
    (c.in_ok-add_default.ensures ∙ ap (λ o. c.loop-condition.text.items ++ default_line (map (λ n. n.now) c.args.names.now) c.loop-condition.condition o) (sym at))
