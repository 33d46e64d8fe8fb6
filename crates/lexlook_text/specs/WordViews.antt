-- What `Words` stand for.
use Rattle.std.specs.Prelude.{ℕ, List}
use Rattle.lexlook_text.specs.declared.scan.Words.{Words}

-- both of its texts
abbrev pub words_of : Words → List ℕ × List ℕ
words_of w = (w.some.now, w.others.now)
