use Rattle.std.proofs.Common.{rules}
use Rattle.lex_semantics.specs.ByteSets.{is_blank}
use Rattle.lexspec_lines.proofs.RunLaws.{word_split}
use Rattle.lexlook_text.proofs.names.split_word.Goals as goal

pub returns-clause-word : goal.returns-clause-word
returns-clause-word c = word_split c.args.text.now _ _ (c.split_before.ensures.split is_blank (λ b r h post. search rules))
