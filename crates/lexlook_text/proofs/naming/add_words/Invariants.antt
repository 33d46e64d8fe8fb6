use Rattle.std.proofs.Common.{◌≡◌, ◌+◌, ◌<◌, ◌^◌, ◌++◌, true, length, map}
use Rattle.lexlook_text.specs.DeclaredNames.{declared_name_of, words_from}
use Rattle.lexlook_text.proofs.naming.add_words.Given as goal

-- the words that were found, and those of the rest
abbrev pub invariant-bytes : goal.invariant-bytes
invariant-bytes l = record {
  found : map declared_name_of l.found.items ++ words_from l.line l.at l.fresh l.rest
      ≡ map declared_name_of l.fn.found.items ++ words_from l.line l.before true l.text;
  few : l.at + length l.rest < 2 ^ 64;
}

abbrev pub decreases-bytes : goal.decreases-bytes
decreases-bytes l = length l.rest
