-- What `KnownWords` stand for.
use Rattle.std.specs.Prelude.{ℕ, List}
use Rattle.lexlook_check.specs.declared.words.KnownWords.{KnownWords}

-- how many bytes stand before a word, the words, and what they are
abbrev pub vocabulary_of : KnownWords → ℕ × List ℕ × List ℕ
vocabulary_of v = (v.before, v.known.now, v.noun.now)
