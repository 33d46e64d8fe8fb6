-- What is warned of in pieces of patterns, worked by hand. α is the bytes 206 and 177.
use Rattle.std.specs.Prelude.{◌≡◌, ◌∷◌, ◌++◌, Some, None, true, false, codes}
use Rattle.lexlook_check.specs.Notices.{notice_of}
use Rattle.lexlook_check.specs.Unused.{stands_in}
use Rattle.lexlook_check.specs.declared.notices.NoticeKind.TheVariants.{LettersAsBytes, LetterAlone, Backspace, CaseRange}

pub record NoticeExamples : Type 0 where
  -- a class with α, one with half of it, and α in quotes
  pub letters : notice_of (codes "[" ++ 206 ∷ 177 ∷ codes "]") ≡ Some LettersAsBytes
  pub bytes : notice_of (codes "[" ++ 206 ∷ codes "]") ≡ None
  pub quoted : notice_of (codes "\"" ++ 206 ∷ 177 ∷ codes "\"") ≡ None
  -- a backslash before a letter, also in a class, and one that stands behind a backslash
  pub escape : notice_of (codes "\\w") ≡ Some LetterAlone
  pub inside : notice_of (codes "[a\\D]") ≡ Some LetterAlone
  pub escaped : notice_of (codes "[\\\\d]") ≡ None
  -- a backspace, and not in a class or in quotes
  pub backspace : notice_of (codes "\\b") ≡ Some Backspace
  pub in_class : notice_of (codes "[\\b]") ≡ None
  pub in_quotes : notice_of (codes "\"\\b\"") ≡ None
  -- a range to a lower case letter, also behind other elements; one of each case, and one that another ends
  pub range : notice_of (codes "[A-z]") ≡ Some CaseRange
  pub negated : notice_of (codes "[^-_0-9Z-b]") ≡ Some CaseRange
  pub cases : notice_of (codes "[A-Za-z]") ≡ None
  pub ended : notice_of (codes "[+-Z-b]") ≡ None
  -- one behind a backslash, and one that is no class
  pub behind : notice_of (codes "[\\\\A-z]") ≡ Some CaseRange
  pub no_class : notice_of (codes "\"A-z\"") ≡ None
  -- a name behind a brace, and none that goes on, or stands alone
  pub used : stands_in (codes "D") (codes "D [0-9]\n%%\n{D}+ ;\n") ≡ true
  pub longer : stands_in (codes "D") (codes "%%\n{D2} ;\n") ≡ false
  pub alone : stands_in (codes "D") (codes "D [0-9]\n%%\nD ;\n") ≡ false
