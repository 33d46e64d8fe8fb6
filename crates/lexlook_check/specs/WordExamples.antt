-- What is said of words that have no meaning, and where names are defined or declared, worked by hand.
use Rattle.std.specs.Prelude.{◌≡◌, ℕ, List, [], Option, Some, None, codes, option_map}
use Rattle.lexre_bytes.specs.declared.error.PatternErrorKind.TheVariants.{BadInterval, BadRange, UndefinedName, UnknownClassName}
use Rattle.lexre_bytes.specs.declared.refusals.SpecErrorKind.{SpecErrorKind}
use Rattle.lexre_bytes.specs.declared.refusals.SpecErrorKind.TheVariants.{DuplicateCondition, DuplicateName, Pattern, UnknownCondition, UnknownStatement, UnsupportedOption}
use Rattle.lexlook_check.specs.Findings.{known_lines}
use Rattle.lexlook_check.specs.Homes.{home_of}
use Rattle.lexlook_check.specs.Words.{front_words}
use Rattle.lexlook_check.specs.declared.findings.What.TheVariants.{Fault}

-- of a fault at this place of a line, in a text that declares STR and defines DIGIT
abbrev pub TellsWord : SpecErrorKind → ℕ → List ℕ → List ℕ → Type 0
TellsWord kind at line words =
    let lines = known_lines (codes "%x STR\nDIGIT [0-9]\n%%\n") in front_words lines (Fault kind) (Some at) line ≡ words

-- the line and the place where the same text defines or declares the name that a fault is about, which begins the rest
abbrev pub TellsHome : SpecErrorKind → List ℕ → Option (ℕ × ℕ) → Type 0
TellsHome kind rest place =
    let lines = known_lines (codes "%x STR\nDIGIT [0-9]\n%%\n") in
    option_map (λ p. (p.0, p.1)) (home_of lines kind rest) ≡ place

pub record WordExamples : Type 0 where
  -- the nearest name, and none where none is near
  pub condition : TellsWord UnknownCondition 1 (codes "<STRING>x ;")
      (codes "`STRING` is no condition, the nearest is `STR`; ")
  pub statement : TellsWord UnknownStatement 4 (codes "a { foo(); }") (codes "`foo` is no word of a statement; ")
  pub option : TellsWord UnsupportedOption 8 (codes "%option case") (codes "`case` is no option that is read; ")
  pub name : TellsWord (Pattern (record { kind = UndefinedName; at = 1 })) 1 (codes "x{digit} ;")
      (codes "`digit` is no definition, the nearest is `DIGIT`; ")
  pub class : TellsWord (Pattern (record { kind = UnknownClassName; at = 1 })) 1 (codes "[[:number:]] ;")
      (codes "`number` is no class; ")
  -- nothing of a name that has a meaning
  pub known : TellsWord (Pattern (record { kind = UndefinedName; at = 0 })) 0 (codes "{DIGIT} ;") []
  -- a second definition, a second condition, INITIAL, a fault inside a definition, and an interval of a name
  pub defined_again : TellsHome DuplicateName (codes "DIGIT x") (Some (2, 0))
  pub declared_again : TellsHome DuplicateCondition (codes "STR A") (Some (1, 3))
  pub always : TellsHome DuplicateCondition (codes "INITIAL") None
  pub inside : TellsHome (Pattern (record { kind = BadRange; at = 1 })) (codes "{DIGIT}+ ;") (Some (2, 0))
  pub interval : TellsHome (Pattern (record { kind = BadInterval; at = 1 })) (codes "{DIGIT,2} ;") None
