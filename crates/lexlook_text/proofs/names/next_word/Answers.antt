use Rattle.std.proofs.Common.{rules, ◌≡◌, length}
use Rattle.lexspec_lines.proofs.RunLaws.{no_word, one_word, word_goes}
use Rattle.lexlook_text.proofs.names.next_word.Goals as goal

pub returns-then-is_empty-clause-words : goal.returns-then-is_empty-clause-words
returns-then-is_empty-clause-words c = no_word c.args.text.now _ c.skip_blanks-first.ensures.after (search rules)

pub returns-clause-words : goal.returns-clause-words
returns-clause-words c =
    let some : length c.skip_blanks-first.result.now ≡ 0 → ⊥ = search rules in
    one_word c.args.text.now c.skip_blanks-first.result.now _ _ c.skip_blanks-first.ensures.after some c.split_word.ensures.word

pub returns-clause-shorter : goal.returns-clause-shorter
returns-clause-shorter c =
    let some : length c.skip_blanks-first.result.now ≡ 0 → ⊥ = search rules in
    word_goes c.args.text.now c.skip_blanks-first.result.now _ _ c.skip_blanks-first.ensures.after some c.split_word.ensures.word
