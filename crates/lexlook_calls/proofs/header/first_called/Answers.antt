use Rattle.std.proofs.Common.{◌≡◌, ◌<◌, ◌∙◌, [], false, get_or, length, map, sym, arith}
use Rattle.std.proofs.lemmas.List.{length-map}
use borrow.Author.Count.{below_more}
use Rattle.lex_semantics.specs.ByteSets.{same_bytes}
use Rattle.lexspec_lines.proofs.DeclaringLaws.{word_same}
use Rattle.lexlook_calls.proofs.Called.{is_first, same_named}
use Rattle.lexlook_calls.proofs.header.first_called.Goals as goal

pub loop-other-preserved : goal.loop-other-preserved
loop-other-preserved c =
    let names = c.args.names.now in
    let low : c.loop-other.other < length names = omega (arith, c.requires, c.loop-other-test.true) in
    let same = same_named names c.args.rule c.loop-other.other c.index-names-rule.result c.index-names-other.result _ _ c.requires low c.index-names-rule.is c.index-names-other.is c.as_slice.ensures.value c.as_slice-in-loop-other.ensures.value in
    below_more (λ k. same_bytes (get_or (map (λ n. n.items) names) c.args.rule []) (get_or (map (λ n. n.items) names) k []) ≡ false) c.loop-other.other c.loop-other.invariant
    (sym same ∙ sym c.same_bytes.ensures ∙ c.if-same_bytes.false)

pub returns-then-same_bytes : goal.returns-then-same_bytes
returns-then-same_bytes c =
    let names = c.args.names.now in
    let low : c.loop-other.other < length names = omega (arith, c.requires, c.loop-other-test.true) in
    let same = same_named names c.args.rule c.loop-other.other c.index-names-rule.result c.index-names-other.result _ _ c.requires low c.index-names-rule.is c.index-names-other.is c.as_slice.ensures.value c.as_slice-in-loop-other.ensures.value in
    is_first (map (λ n. n.items) names) c.args.rule c.loop-other.other (omega arith) (omega (arith, c.requires, length-map names (λ n. n.items))) c.loop-other.invariant
    (sym same ∙ sym c.same_bytes.ensures ∙ c.if-same_bytes.true)

pub returns : goal.returns
returns c =
    let names = c.args.names.now in
    is_first (map (λ n. n.items) names) c.args.rule c.args.rule (omega arith) (omega (arith, c.requires, length-map names (λ n. n.items)))
    (λ k low. c.loop-other.invariant k (omega (arith, low, c.loop-other-test.false))) (word_same (get_or (map (λ n. n.items) names) c.args.rule []))
