use Rattle.std.proofs.Common.{List, ◌<◌, subst}
use Rattle.std.proofs.lemmas.Result.{IfErr-weaker}
use Rattle.lex_semantics.specs.Shapes.{nodes}
use Rattle.lexre.specs.Limits.{max_nodes}
use Rattle.lexlook_letters.specs.Text.{letters_tree}
use Rattle.lexlook_letters.specs.declared.sequence.Sequence.{Sequence}
use Rattle.lexlook_letters.proofs.Remainders.{merged_words}
use Rattle.lexlook_letters.proofs.Spelled.{no_encoding, spells_encodings}
use Rattle.lexlook_letters.proofs.letters.spell_ranges.Goals as goal

pub returns-clause-spelled : goal.returns-clause-spelled
returns-clause-spelled c =
    let words = merged_words _ c.args.ranges.now _ _ c.as_slice.ensures.value c.in_ok-apart.ensures.points c.in_ok-found.ensures.words in
    spells_encodings c.spell.result _ _ c.args.ranges.now c.as_slice-2.ensures.value c.spell.ensures.spelled c.spell.ensures.words words

pub returns-clause-none : goal.returns-clause-none
returns-clause-none c =
    let words = merged_words _ c.args.ranges.now _ _ c.as_slice.ensures.value c.in_ok-apart.ensures.points c.in_ok-found.ensures.words in
    IfErr-weaker c.spell.result _ _ (λ e none is. no_encoding _ _ c.args.ranges.now c.as_slice-2.ensures.value (none is) words) c.spell.ensures.none

pub returns-clause-big : goal.returns-clause-big
returns-clause-big c =
    let words = merged_words _ c.args.ranges.now _ _ c.as_slice.ensures.value c.in_ok-apart.ensures.points c.in_ok-found.ensures.words in
    IfErr-weaker c.spell.result _ _ (λ e big is. (c.in_ok-found.found.items, words, subst (λ (x : List Sequence). max_nodes < nodes (letters_tree x)) c.as_slice-2.ensures.value (big is))) c.spell.ensures.big
