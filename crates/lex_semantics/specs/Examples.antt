-- Worked examples: small specifications, each with its rules as lex would write them.
use Rattle.std.specs.Prelude.{ℕ, Bool, true, false, List, [], ◌∷◌, ◌++◌, Some, None, codes, replicate, if◌then◌else◌}
use Rattle.lex_semantics.specs.ByteSets.{single, range_set, union, complement, fold_case}
use Rattle.lex_semantics.specs.Tree.{Tree, Trees, Empty, Set, Cat, Alt, Star, Repeat, no_trees, tree}
use Rattle.lex_semantics.specs.Spec.{Spec, Rule, Condition, Cut, Whole, Head, Trail, Statement, Echo, Print, Begin, More, Less, Reject, End, Push, Pop}
use Rattle.lex_semantics.specs.Rules.{rules_of}
use Rattle.lex_semantics.specs.Acting.{Status, StackFault}
use Rattle.lex_semantics.specs.Run.{Run}

-- what a specification writes of an input, and with which status it ends
abbrev pub Writes : Spec → (input written : List ℕ) → (status : ℕ) → Type 0
Writes S input written status = Run (rules_of S) input written (Status status)

-- what it writes of an input until the stack of conditions is at fault
abbrev pub Faults : Spec → (input written : List ℕ) → Type 0
Faults S input written = Run (rules_of S) input written StackFault

abbrev pub letter : ℕ → Tree
letter b = Set (single b)

-- `[a-z]+`
abbrev pub word : Tree
word = Repeat (Set (range_set 97 122)) 1 None

abbrev pub digit : Tree
digit = Set (range_set 48 57)

-- `.|\n`
abbrev pub any_byte : Tree
any_byte = Alt (tree (Set (complement (single 10))) (tree (letter 10) no_trees))

abbrev pub letters_of : List ℕ → Trees
letters_of [] = no_trees
letters_of (b ∷ bs) = tree (letter b) (letters_of bs)

abbrev pub string : List ℕ → Tree
string bs = Cat (letters_of bs)

abbrev pub rule : Tree → List Statement → Rule
rule t ss =
    record { line = 0; conditions = None; anchored = false; head = t; trail = None; cut = Whole; statements = ss }

-- a rule with trailing context
abbrev pub rule_before : Tree → Tree → Cut → List Statement → Rule
rule_before t u cut ss =
    record { line = 0; conditions = None; anchored = false; head = t; trail = Some u; cut = cut; statements = ss }

-- a rule with `^`
abbrev pub rule_at_line : Tree → List Statement → Rule
rule_at_line t ss =
    record { line = 0; conditions = None; anchored = true; head = t; trail = None; cut = Whole; statements = ss }

-- a rule with a list of conditions
abbrev pub rule_in : List ℕ → Tree → List Statement → Rule
rule_in cs t ss =
    record { line = 0; conditions = Some cs; anchored = false; head = t; trail = None; cut = Whole; statements = ss }

abbrev pub condition : List ℕ → Bool → List ℕ → ℕ → Condition
condition name exclusive print status =
    record { name = name; exclusive = exclusive; end = record { print = print; status = status } }

abbrev pub initial : Condition
initial = condition (codes "INITIAL") false [] 0

abbrev pub of_rules : List Rule → Spec
of_rules rs = record { conditions = initial ∷ []; rules = rs }

-- no rules
abbrev pub nothing : Spec
nothing = of_rules []

-- `if printf("K");` and `[0-9][0-9] printf("N");`
abbrev pub keys : Spec
keys = of_rules
    (rule (string (codes "if")) (Print (codes "K") ∷ [])
    ∷ rule (Cat (tree digit (tree digit no_trees))) (Print (codes "N") ∷ []) ∷ [])

-- `if printf("K");` and `[a-z]+ printf("I");`
abbrev pub keyword_or_word : Spec
keyword_or_word =
    of_rules (rule (string (codes "if")) (Print (codes "K") ∷ []) ∷ rule word (Print (codes "I") ∷ []) ∷ [])

-- `mega- ECHO; yymore();` and `kludge ECHO;`
abbrev pub mega : Spec
mega = of_rules (rule (string (codes "mega-")) (Echo ∷ More ∷ []) ∷ rule (string (codes "kludge")) (Echo ∷ []) ∷ [])

-- `foobar ECHO; yyless(3);` and `[a-z]+ ECHO;`
abbrev pub foobar : Spec
foobar = of_rules (rule (string (codes "foobar")) (Echo ∷ Less 3 ∷ []) ∷ rule word (Echo ∷ []) ∷ [])

-- `a |`, `ab |`, `abc |`, `abcd ECHO; REJECT;` and `.|\n ;`
abbrev pub all_fronts : Spec
all_fronts = of_rules (rule (letter 97) (Echo ∷ Reject ∷ []) ∷ rule (string (codes "ab")) (Echo ∷ Reject ∷ [])
    ∷ rule (string (codes "abc")) (Echo ∷ Reject ∷ []) ∷ rule (string (codes "abcd")) (Echo ∷ Reject ∷ [])
    ∷ rule any_byte [] ∷ [])

-- `aa yymore();` and `b ECHO; yyless(1);`
abbrev pub less_of_more : Spec
less_of_more = of_rules (rule (string (codes "aa")) (More ∷ []) ∷ rule (letter 98) (Echo ∷ Less 1 ∷ []) ∷ [])

-- `a yymore();`
abbrev pub only_more : Spec
only_more = of_rules (rule (letter 97) (More ∷ []) ∷ [])

-- `[ \t]+$ ;`
abbrev pub trim_lines : Spec
trim_lines = of_rules (rule_before (Repeat (Set (union (single 32) (single 9))) 1 None) (letter 10) (Trail 1) [] ∷ [])

-- `ab/cd printf("[%s]", yytext);`
abbrev pub before_cd : Spec
before_cd =
    of_rules
    (rule_before (string (codes "ab")) (string (codes "cd")) (Head 2)
    (Print (codes "[") ∷ Echo ∷ Print (codes "]") ∷ []) ∷ [])

-- `^a printf("A");`
abbrev pub first_a : Spec
first_a = of_rules (rule_at_line (letter 97) (Print (codes "A") ∷ []) ∷ [])

-- `%x C`; `"/*" BEGIN(C);`, `<C>"*/" BEGIN(INITIAL);`, `<C>.|\n ;` and `<C><<EOF>> printf("open"); exit(3);`
abbrev pub comments : Spec
comments = record {
  conditions = initial ∷ condition (codes "C") true (codes "open") 3 ∷ [];
  rules = rule (string (codes "/*")) (Begin 1 ∷ []) ∷ rule_in (1 ∷ []) (string (codes "*/")) (Begin 0 ∷ [])
      ∷ rule_in (1 ∷ []) any_byte [] ∷ [];
}

-- `abc printf("X");`
abbrev pub abc : Spec
abc = of_rules (rule (string (codes "abc")) (Print (codes "X") ∷ []) ∷ [])

-- `ab exit(7);`
abbrev pub exit_after_ab : Spec
exit_after_ab = of_rules (rule (string (codes "ab")) (End 7 ∷ []) ∷ [])

-- `ab* exit(7);`
abbrev pub exit_after_bs : Spec
exit_after_bs = of_rules (rule (Cat (tree (letter 97) (tree (Star (letter 98)) no_trees))) (End 7 ∷ []) ∷ [])

-- `ab{2} printf("X");`
abbrev pub two_bs : Spec
two_bs =
    of_rules
    (rule (Cat (tree (letter 97) (tree (Repeat (letter 98) 2 (Some 2)) no_trees))) (Print (codes "X") ∷ []) ∷ [])

-- `[^a]+ printf("N");`, whatever the case of letters
abbrev pub not_a : Spec
not_a = of_rules (rule (Repeat (Set (complement (fold_case (single 97)))) 1 None) (Print (codes "N") ∷ []) ∷ [])

-- `a BEGIN(C);`, `b printf("B");` and `<C>c BEGIN(0);`, with C declared by `%x` or by `%s`
abbrev pub switched : Bool → Spec
switched exclusive = record {
  conditions = initial ∷ condition (codes "C") exclusive [] 0 ∷ [];
  rules = rule (letter 97) (Begin 1 ∷ []) ∷ rule (letter 98) (Print (codes "B") ∷ [])
      ∷ rule_in (1 ∷ []) (letter 99) (Begin 0 ∷ []) ∷ [];
}

-- `ab ECHO; REJECT;` and `[a-z]+ printf("W");`
abbrev pub rejected : Spec
rejected = of_rules (rule (string (codes "ab")) (Echo ∷ Reject ∷ []) ∷ rule word (Print (codes "W") ∷ []) ∷ [])

-- `[a-z]+ yyless(1);`
abbrev pub one_by_one : Spec
one_by_one = of_rules (rule word (Less 1 ∷ []) ∷ [])

-- `<<EOF>> puts("end");`
abbrev pub says_end : Spec
says_end = record { conditions = condition (codes "INITIAL") false (codes "end" ++ 10 ∷ []) 0 ∷ []; rules = [] }

-- `a$b printf("X");` and `\x41 printf("Y");`
abbrev pub dollar_inside : Spec
dollar_inside =
    of_rules (rule (string (codes "a$b")) (Print (codes "X") ∷ []) ∷ rule (letter 65) (Print (codes "Y") ∷ []) ∷ [])

-- `a+`, with REJECT or without, and `aa`
abbrev pub many_or_two : Bool → Spec
many_or_two rejecting =
    of_rules
    (rule (Repeat (letter 97) 1 None) (if rejecting then Reject ∷ [] else []) ∷ rule (string (codes "aa")) [] ∷ [])

-- `""` and `a REJECT;`
abbrev pub nothing_or_a : Spec
nothing_or_a = of_rules (rule Empty [] ∷ rule (letter 97) (Reject ∷ []) ∷ [])

-- `ab/cd`, with this cut
abbrev pub cut_by : Cut → Spec
cut_by cut = of_rules (rule_before (string (codes "ab")) (string (codes "cd")) cut [] ∷ [])

-- an end that prints so many bytes
abbrev pub ends_with_bytes : ℕ → Spec
ends_with_bytes n = record { conditions = condition (codes "INITIAL") false (replicate n 120) 0 ∷ []; rules = [] }

-- one rule with this pattern, which echoes
abbrev pub echoing : Tree → Spec
echoing t = of_rules (rule t (Echo ∷ []) ∷ [])

-- `a+`, and `aa*`
abbrev pub many : Tree
many = Repeat (letter 97) 1 None

abbrev pub one_and_any : Tree
one_and_any = Cat (tree (letter 97) (tree (Star (letter 97)) no_trees))

-- `a printf("A"); yy_pop_state(); printf("B");`
abbrev pub pops_nothing : Spec
pops_nothing = of_rules (rule (letter 97) (Print (codes "A") ∷ Pop ∷ Print (codes "B") ∷ []) ∷ [])

-- `a yy_push_state(0);`
abbrev pub only_pushes : Spec
only_pushes = of_rules (rule (letter 97) (Push 0 ∷ []) ∷ [])

-- `%x C D`; `a BEGIN(C); yy_push_state(D);`, `<D>b yy_pop_state();` and `<C>c printf("C");`
abbrev pub pushes_after_begin : Spec
pushes_after_begin = record {
  conditions = initial ∷ condition (codes "C") true [] 0 ∷ condition (codes "D") true [] 0 ∷ [];
  rules = rule (letter 97) (Begin 1 ∷ Push 2 ∷ []) ∷ rule_in (2 ∷ []) (letter 98) (Pop ∷ [])
      ∷ rule_in (1 ∷ []) (letter 99) (Print (codes "C") ∷ []) ∷ [];
}

-- `%x C`; `"(" printf("<"); yy_push_state(C);`, `<C>"(" printf("<"); yy_push_state(C);` and `<C>")" printf(">");
-- yy_pop_state();`
abbrev pub parentheses : Spec
parentheses = record {
  conditions = initial ∷ condition (codes "C") true [] 0 ∷ [];
  rules = rule (letter 40) (Print (codes "<") ∷ Push 1 ∷ [])
      ∷ rule_in (1 ∷ []) (letter 40) (Print (codes "<") ∷ Push 1 ∷ [])
      ∷ rule_in (1 ∷ []) (letter 41) (Print (codes ">") ∷ Pop ∷ []) ∷ [];
}

-- `ab yy_push_state(0); REJECT;` and `a printf("A"); yy_pop_state();`
abbrev pub rejects_after_push : Spec
rejects_after_push =
    of_rules (rule (string (codes "ab")) (Push 0 ∷ Reject ∷ []) ∷ rule (letter 97) (Print (codes "A") ∷ Pop ∷ []) ∷ [])

-- `a/bc printf("1");` and `ab printf("2");`
abbrev pub longer_by_context : Spec
longer_by_context =
    of_rules
    (rule_before (letter 97) (string (codes "bc")) (Head 1) (Print (codes "1") ∷ [])
    ∷ rule (string (codes "ab")) (Print (codes "2") ∷ []) ∷ [])

-- `x yymore();` and `^a printf("A");`
abbrev pub line_after_more : Spec
line_after_more = of_rules (rule (letter 120) (More ∷ []) ∷ rule_at_line (letter 97) (Print (codes "A") ∷ []) ∷ [])

-- `%x C`; `ab BEGIN(C); REJECT;`, `a printf("A");` and `<C>b printf("C");`
abbrev pub rejects_after_begin : Spec
rejects_after_begin = record {
  conditions = initial ∷ condition (codes "C") true [] 0 ∷ [];
  rules = rule (string (codes "ab")) (Begin 1 ∷ Reject ∷ []) ∷ rule (letter 97) (Print (codes "A") ∷ [])
      ∷ rule_in (1 ∷ []) (letter 98) (Print (codes "C") ∷ []) ∷ [];
}

-- `x yymore();`, `ab REJECT;` and `a ECHO;`
abbrev pub rejects_after_more : Spec
rejects_after_more =
    of_rules
    (rule (letter 120) (More ∷ []) ∷ rule (string (codes "ab")) (Reject ∷ []) ∷ rule (letter 97) (Echo ∷ []) ∷ [])

-- `ab yyless(n); ECHO;`
abbrev pub echoes_after_less : ℕ → Spec
echoes_after_less n = of_rules (rule (string (codes "ab")) (Less n ∷ Echo ∷ []) ∷ [])

-- `ab yyless(5); printf("[%s]", yytext);`
abbrev pub brackets_after_less : Spec
brackets_after_less =
    of_rules (rule (string (codes "ab")) (Less 5 ∷ Print (codes "[") ∷ Echo ∷ Print (codes "]") ∷ []) ∷ [])
