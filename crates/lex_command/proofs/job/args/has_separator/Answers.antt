use Rattle.std.proofs.Common.{◌∙◌, rules, tests}
use Rattle.std.specs.Prelude.{string_bytes}
use Rattle.std.proofs.lemmas.Iterator.{YieldsList-from_slice}
use Rattle.std.proofs.lemmas.Iterator.Search.{any_from_yields_List}
use Rattle.clap.proofs.WalkLemmas.{list_any-map}
use Rattle.lex_command.specs.Flags.{is_separator}
use Rattle.lex_command.proofs.job.args.has_separator.Goals as goal

pub returns : goal.returns
returns c =
    any_from_yields_List (λ w. is_separator (string_bytes w)) _ _ _ c.any.ensures.ran (YieldsList-from_slice c.args.words.now cc)
    (λ x b q k. search (rules, tests)) ∙ list_any-map is_separator string_bytes c.args.words.now
