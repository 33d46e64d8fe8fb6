-- The action of a rule: which statements a text spells. (POSIX, lex, Actions in lex; flex, Actions, Start Conditions.)
use Rattle.std.specs.Prelude.{◌≡◌, ◌≤◌, ◌⊎◌, ℕ, Bool, true, ◌&&◌, nat_le, if◌then◌else◌, List, [], ◌∷◌, ◌++◌, length, take, drop, sum_by, flat_map, Some, None, codes}
use Rattle.std.specs.List.{list_any}
use Rattle.std.specs.Option.{option_or}
use Rattle.lex_semantics.specs.ByteSets.{within, is_digit}
use Rattle.lex_semantics.specs.Reading.{◌>>=◌, Reader, IsReadAs, value}
use Rattle.lexspec_actions.specs.Names.{Scope}
use Rattle.lexspec_actions.specs.Bytes.{after_spaces, literal_at}
use Rattle.lexre_bytes.specs.Lexical.{run_at, name_at}
use Rattle.lex_semantics.specs.Spec.{EndAction, Statement, Echo, Print, Begin, More, Less, Reject, End, Push, Pop}
use Rattle.lex_semantics.specs.Legal.{ends_last, are_compatible}
use Rattle.lex_semantics.specs.Literals.{literal_of, normal}
use Rattle.lex_semantics.specs.Limits.{max_statements, max_literal_bytes, max_kept, max_status}
use Rattle.lex_semantics.specs.Active.{contains}

-- what an action is made of, between blanks and comments: a name, digits, the bytes of a string, or a sign
pub data Token : Type 0 where
  word : List ℕ → Token
  digits : List ℕ → Token
  string : List ℕ → Token
  sign : List ℕ → Token

unfoldable pub token_at : Reader Token
token_at t = let u = after_spaces t in
    option_or (name_at u >>= λ (name, rest). Some (word name, rest))
    (option_or (run_at is_digit u >>= λ (number, rest). Some (digits number, rest))
    (option_or (literal_at t >>= λ (bytes, rest). Some (string bytes, rest))
    (if list_any (contains (codes "(),;{}")) (take 1 u) then Some (sign (take 1 u), drop 1 u) else None)))

-- a name, and what stands in parentheses behind it
abbrev pub call : List ℕ → List Token → List Token
call name inside = word name ∷ sign (codes "(") ∷ inside ++ sign (codes ")") ∷ []

-- the format that prints these bytes: each percent sign twice
abbrev pub doubled : List ℕ → List ℕ
doubled bytes = flat_map (λ c. if contains (codes "%") c then c ∷ c ∷ [] else c ∷ []) bytes

module _ (known : Scope) where
  -- a condition: its name, or `0`
  pub data TellsCondition : Token → ℕ → Type 0 where
    declared : (name : List ℕ) (c : ℕ) → known.number name ≡ Some c → TellsCondition (word name) c
    initial : TellsCondition (digits (codes "0")) 0

  -- a statement, and what it says
  pub data States : List Token → List Statement → Type 0 where
    echo : States (word (codes "ECHO") ∷ []) (Echo ∷ [])
    reject : States (word (codes "REJECT") ∷ []) (Reject ∷ [])
    begin : (t : Token) (c : ℕ) → TellsCondition t c → States (word (codes "BEGIN") ∷ t ∷ []) (Begin c ∷ [])
    begin_call : (t : Token) (c : ℕ) → TellsCondition t c → States (call (codes "BEGIN") (t ∷ [])) (Begin c ∷ [])
    more : States (call (codes "yymore") []) (More ∷ [])
    less : (n : List ℕ) → within 1 max_kept (value 10 n) ≡ true
        → States (call (codes "yyless") (digits n ∷ [])) (Less (value 10 n) ∷ [])
    terminate : States (call (codes "yyterminate") []) (End 0 ∷ [])
    exit : (n : List ℕ) → value 10 n ≤ max_status → States (call (codes "exit") (digits n ∷ [])) (End (value 10 n) ∷ [])
    printf : (bs : List ℕ) → States (call (codes "printf") (string (doubled bs) ∷ [])) (Print bs ∷ [])
    printf_text : (front back : List ℕ) → States (call (codes "printf")
        (string (doubled front ++ codes "%s" ++ doubled back) ∷ sign (codes ",") ∷ word (codes "yytext") ∷ []))
        (Print front ∷ Echo ∷ Print back ∷ [])
    fputs : (bs : List ℕ)
        → States (call (codes "fputs") (string bs ∷ sign (codes ",") ∷ word (codes "yyout") ∷ [])) (Print bs ∷ [])
    puts : (bs : List ℕ) → States (call (codes "puts") (string bs ∷ [])) (Print (bs ++ codes "\n") ∷ [])
    push : (t : Token) (c : ℕ) → known.stack ≡ true → TellsCondition t c
        → States (call (codes "yy_push_state") (t ∷ [])) (Push c ∷ [])
    pop : known.stack ≡ true → States (call (codes "yy_pop_state") []) (Pop ∷ [])

  -- statements, each with its `;`, which the last may lack; a `;` alone; and what stands in braces
  pub data AreStatements : List Token → List Statement → Type 0 where
    none : AreStatements [] []
    empty : (ts : List Token) (ss : List Statement) → AreStatements ts ss → AreStatements (sign (codes ";") ∷ ts) ss
    last : (ts : List Token) (ss : List Statement) → States ts ss → AreStatements ts ss
    said : (s ts : List Token) (ss more : List Statement) → States s ss → AreStatements ts more
        → AreStatements (s ++ sign (codes ";") ∷ ts) (ss ++ more)
    block : (inside ts : List Token) (ss more : List Statement) → AreStatements inside ss → AreStatements ts more
        → AreStatements (sign (codes "{") ∷ inside ++ sign (codes "}") ∷ ts) (ss ++ more)

  -- The text is an action, and these are its statements in normal form. After the last token only blanks and comments
  -- are left.
  abbrev pub SpellsStatements : List ℕ → List Statement → Type 0
  SpellsStatements text ss =
      (ts : List Token) × (spoken : List Statement) × IsReadAs token_at (λ t. after_spaces t ≡ []) text ts
      × AreStatements ts spoken × (ss ≡ normal spoken)

-- there are no more statements and literal bytes than an action may have
abbrev pub are_few : List Statement → Bool
are_few ss = nat_le (length ss) max_statements && nat_le (sum_by (λ s. length (literal_of s)) ss) max_literal_bytes

-- the action of a rule
abbrev pub SpellsAction : Scope → List ℕ → List Statement → Type 0
SpellsAction known text ss = SpellsStatements known text ss × ((are_few ss && ends_last ss && are_compatible ss) ≡ true)

-- The action of an `<<EOF>>` rule: it may print, and it ends the scan, with status 0 where it says none. So its
-- statements are a literal, which may be empty, and an end, or the literal alone. (flex, End-of-File Rules.)
abbrev pub SpellsEndAction : Scope → List ℕ → EndAction → Type 0
SpellsEndAction known text e = (ss : List Statement) × SpellsStatements known text ss × (are_few ss ≡ true)
    × ((ss ≡ normal (Print e.print ∷ End e.status ∷ [])) ⊎ ((ss ≡ normal (Print e.print ∷ [])) × (e.status ≡ 0)))
