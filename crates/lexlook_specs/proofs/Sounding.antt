-- The specification that tells its matches is sound.
use Rattle.std.proofs.Common.{◌≡◌, ℕ, zero, suc, ◌+◌, ◌≤◌, ◌<◌, Bool, true, false, List, [], ◌∷◌, ◌++◌, length, map, refl, sym, ◌∙◌, ap, subst, arith}
use Rattle.std.specs.Prelude.{not, ◌&&◌, ◌||◌, ◌^◌, nat_le, nat_lt, sum_by, decimal, codes}
use Rattle.std.specs.List.{filter}
use Rattle.std.proofs.lemmas.Bool.{and_parts, and_from, leb-true, le-leb, ltb-true, lt-ltb}
use Rattle.std.proofs.lemmas.List.{append_assoc, length-append, length-map}
use Rattle.std.proofs.lemmas.List.Sums.{sum_by-cons}
use Rattle.std.proofs.lemmas.Fmt.{length-decimal-le}
use Rattle.lex_semantics.proofs.Legals.{ends_last_more}
use Rattle.lex_semantics.specs.ByteSets.{has, complement, empty_set, set_of}
use Rattle.lex_semantics.specs.Legal.{in_range, all_in_range, ends_action, ends_last, is_literal, are_joined, count_less, has_less, has_more, are_compatible}
use Rattle.lex_semantics.specs.Limits.{max_conditions, max_literal_bytes, max_rules, max_status, max_statements}
use Rattle.lex_semantics.specs.Spec.{Spec, Rule, Condition, Statement, Echo, Print, Begin, More, Less, Reject, End, Push, Pop, has_reject}
use Rattle.lex_semantics.specs.Text.{listed}
use Rattle.lexre_bytes.proofs.SetLaws.{has-set_of}
use Rattle.lexspec_actions.specs.Actions.{are_few}
use Rattle.lexspec_actions.specs.Statements.{literal_bytes}
use Rattle.lexspec.specs.Tests.{any_below, sound_tree, ascend_from, legal_action, sound_rule, sound_rules, sound_end, sound_conditions, is_sound, sound_list, sound_trail, cut_fits}
use Rattle.lexlook_specs.specs.Traced.{rule_front, text_end, end_line, steers, telling, traced_rule, default_rule, traced_conditions, traced, is_short, are_short, has_room}

no_true : {A : Type 0} → false ≡ true → A
no_true e = absurd (no e)
  where
    no : false ≡ true → ⊥
    no p = cc

-- the statements that write nothing

abbrev kept : List Statement → List Statement
kept ss = filter steers ss

ranges : (n : ℕ) (ss : List Statement) → all_in_range n ss ≡ true → all_in_range n (kept ss) ≡ true
ranges n [] h = refl
ranges n (Echo ∷ ss) h = ranges n ss h
ranges n (Print s ∷ ss) h = ranges n ss (and_parts (in_range n (Print s)) (all_in_range n ss) h).1
ranges n (Begin d ∷ ss) h = (let both = and_parts (in_range n (Begin d)) (all_in_range n ss) h in and_from (in_range n (Begin d)) (all_in_range n (kept ss)) both.0 (ranges n ss both.1))
ranges n (More ∷ ss) h = ranges n ss h
ranges n (Less k ∷ ss) h = (let both = and_parts (in_range n (Less k)) (all_in_range n ss) h in and_from (in_range n (Less k)) (all_in_range n (kept ss)) both.0 (ranges n ss both.1))
ranges n (Reject ∷ ss) h = ranges n ss h
ranges n (End k ∷ ss) h = (let both = and_parts (in_range n (End k)) (all_in_range n ss) h in and_from (in_range n (End k)) (all_in_range n (kept ss)) both.0 (ranges n ss both.1))
ranges n (Push d ∷ ss) h = (let both = and_parts (in_range n (Push d)) (all_in_range n ss) h in and_from (in_range n (Push d)) (all_in_range n (kept ss)) both.0 (ranges n ss both.1))
ranges n (Pop ∷ ss) h = ranges n ss h

-- a statement that ends no action may stand before others
before_last : (s : Statement) (ss : List Statement) → ends_action s ≡ false → ends_last ss ≡ true → ends_last (s ∷ ss) ≡ true
before_last s [] e h = refl
before_last s (t ∷ ss) e h = ends_last_more s t ss ∙ and_from (not (ends_action s)) (ends_last (t ∷ ss)) (ap not e) h

rest_last : (s : Statement) (ss : List Statement) → ends_last (s ∷ ss) ≡ true → ends_last ss ≡ true
rest_last s [] h = refl
rest_last s (t ∷ ss) h = (and_parts (not (ends_action s)) (ends_last (t ∷ ss)) (sym (ends_last_more s t ss) ∙ h)).1

last : (ss : List Statement) → ends_last ss ≡ true → ends_last (kept ss) ≡ true
last [] h = refl
last (Echo ∷ ss) h = last ss (rest_last Echo ss h)
last (Print s ∷ ss) h = last ss (rest_last (Print s) ss h)
last (Begin d ∷ ss) h = before_last (Begin d) (kept ss) refl (last ss (rest_last (Begin d) ss h))
last (More ∷ ss) h = before_last More (kept ss) refl (last ss (rest_last More ss h))
last (Less k ∷ ss) h = before_last (Less k) (kept ss) refl (last ss (rest_last (Less k) ss h))
last (Push d ∷ ss) h = before_last (Push d) (kept ss) refl (last ss (rest_last (Push d) ss h))
last (Pop ∷ ss) h = before_last Pop (kept ss) refl (last ss (rest_last Pop ss h))
last (Reject ∷ []) h = refl
last (Reject ∷ t ∷ ss) h = no_true (sym (ends_last_more Reject t ss) ∙ h)
last (End k ∷ []) h = refl
last (End k ∷ t ∷ ss) h = no_true (sym (ends_last_more (End k) t ss) ∙ h)

-- none of them is a literal
apart : (s t : Statement) (ss : List Statement) → is_literal t ≡ false → are_joined (t ∷ ss) ≡ true → are_joined (s ∷ t ∷ ss) ≡ true
apart s t ss e h = and_from (not (is_literal s && is_literal t)) (are_joined (t ∷ ss)) (ap (λ b. not (is_literal s && b)) e ∙ none (is_literal s)) h
  where
    none : (b : Bool) → not (b && false) ≡ true
    none true = refl
    none false = refl

joined : (s : Statement) (ss : List Statement) → are_joined (s ∷ kept ss) ≡ true
joined s [] = refl
joined s (Echo ∷ ss) = joined s ss
joined s (Print t ∷ ss) = joined s ss
joined s (Begin d ∷ ss) = apart s (Begin d) (kept ss) refl (joined (Begin d) ss)
joined s (More ∷ ss) = apart s More (kept ss) refl (joined More ss)
joined s (Less k ∷ ss) = apart s (Less k) (kept ss) refl (joined (Less k) ss)
joined s (Reject ∷ ss) = apart s Reject (kept ss) refl (joined Reject ss)
joined s (End k ∷ ss) = apart s (End k) (kept ss) refl (joined (End k) ss)
joined s (Push d ∷ ss) = apart s (Push d) (kept ss) refl (joined (Push d) ss)
joined s (Pop ∷ ss) = apart s Pop (kept ss) refl (joined Pop ss)

-- what they have in common with all
pub rejects_kept : (ss : List Statement) → has_reject (kept ss) ≡ has_reject ss
rejects_kept [] = refl
rejects_kept (Echo ∷ ss) = rejects_kept ss
rejects_kept (Print s ∷ ss) = rejects_kept ss
rejects_kept (Begin d ∷ ss) = rejects_kept ss
rejects_kept (More ∷ ss) = rejects_kept ss
rejects_kept (Less k ∷ ss) = rejects_kept ss
rejects_kept (Reject ∷ ss) = refl
rejects_kept (End k ∷ ss) = rejects_kept ss
rejects_kept (Push d ∷ ss) = rejects_kept ss
rejects_kept (Pop ∷ ss) = rejects_kept ss

more_kept : (ss : List Statement) → has_more (kept ss) ≡ has_more ss
more_kept [] = refl
more_kept (Echo ∷ ss) = more_kept ss
more_kept (Print s ∷ ss) = more_kept ss
more_kept (Begin d ∷ ss) = more_kept ss
more_kept (More ∷ ss) = refl
more_kept (Less k ∷ ss) = more_kept ss
more_kept (Reject ∷ ss) = more_kept ss
more_kept (End k ∷ ss) = more_kept ss
more_kept (Push d ∷ ss) = more_kept ss
more_kept (Pop ∷ ss) = more_kept ss

less_kept : (ss : List Statement) → has_less (kept ss) ≡ has_less ss
less_kept [] = refl
less_kept (Echo ∷ ss) = less_kept ss
less_kept (Print s ∷ ss) = less_kept ss
less_kept (Begin d ∷ ss) = less_kept ss
less_kept (More ∷ ss) = less_kept ss
less_kept (Less k ∷ ss) = refl
less_kept (Reject ∷ ss) = less_kept ss
less_kept (End k ∷ ss) = less_kept ss
less_kept (Push d ∷ ss) = less_kept ss
less_kept (Pop ∷ ss) = less_kept ss

count_kept : (ss : List Statement) → count_less (kept ss) ≡ count_less ss
count_kept [] = refl
count_kept (Echo ∷ ss) = count_kept ss
count_kept (Print s ∷ ss) = count_kept ss
count_kept (Begin d ∷ ss) = count_kept ss
count_kept (More ∷ ss) = count_kept ss
count_kept (Less k ∷ ss) = ap suc (count_kept ss)
count_kept (Reject ∷ ss) = count_kept ss
count_kept (End k ∷ ss) = count_kept ss
count_kept (Push d ∷ ss) = count_kept ss
count_kept (Pop ∷ ss) = count_kept ss

abbrev compatible_by : Bool → Bool → Bool → ℕ → Bool
compatible_by reject more less count = not (reject && (more || less)) && not (less && more) && nat_le count 1

compatible : (ss : List Statement) → are_compatible ss ≡ true → are_compatible (kept ss) ≡ true
compatible ss h =
    ap (λ b. compatible_by b (has_more (kept ss)) (has_less (kept ss)) (count_less (kept ss))) (rejects_kept ss)
    ∙ ap (λ b. compatible_by (has_reject ss) b (has_less (kept ss)) (count_less (kept ss))) (more_kept ss)
    ∙ ap (λ b. compatible_by (has_reject ss) (has_more ss) b (count_less (kept ss))) (less_kept ss)
    ∙ ap (λ k. compatible_by (has_reject ss) (has_more ss) (has_less ss) k) (count_kept ss)
    ∙ h

-- an action that tells is legal
legal : (n : ℕ) (front : List ℕ) (ss : List Statement) → nat_le 1 (length front) ≡ true → legal_action n ss ≡ true → legal_action n (telling front ss) ≡ true
legal n front ss some h =
    let three = and_parts (all_in_range n ss && ends_last ss && are_joined ss) (are_compatible ss) h in
    let two = and_parts (all_in_range n ss && ends_last ss) (are_joined ss) three.0 in
    let one = and_parts (all_in_range n ss) (ends_last ss) two.0 in
    and_from (all_in_range n (telling front ss) && ends_last (telling front ss) && are_joined (telling front ss)) (are_compatible (telling front ss))
    (and_from (all_in_range n (telling front ss) && ends_last (telling front ss)) (are_joined (telling front ss))
    (and_from (all_in_range n (telling front ss)) (ends_last (telling front ss))
    (and_from (nat_le 1 (length front)) (all_in_range n (kept ss)) some (ranges n ss one.0))
    (before_last (Print front) (Echo ∷ Print text_end ∷ kept ss) refl (before_last Echo (Print text_end ∷ kept ss) refl (before_last (Print text_end) (kept ss) refl (last ss one.1)))))
    (joined (Print text_end) ss))
    (compatible ss three.1)

-- the bytes that they write
no_literals : (ss : List Statement) → sum_by literal_bytes (kept ss) ≡ 0
no_literals [] = refl
no_literals (Echo ∷ ss) = no_literals ss
no_literals (Print s ∷ ss) = no_literals ss
no_literals (Begin d ∷ ss) = no_literals ss
no_literals (More ∷ ss) = no_literals ss
no_literals (Less k ∷ ss) = no_literals ss
no_literals (Reject ∷ ss) = no_literals ss
no_literals (End k ∷ ss) = no_literals ss
no_literals (Push d ∷ ss) = no_literals ss
no_literals (Pop ∷ ss) = no_literals ss

front_is : (line : ℕ) → length (rule_front line) ≡ 25 + length (decimal line ++ (codes " (\"" ++ []))
front_is line = length-append (codes "--accepting rule at line ") (decimal line ++ (codes " (\"" ++ []))

front_some : (line : ℕ) → nat_le 1 (length (rule_front line)) ≡ true
front_some line = le-leb 1 (length (rule_front line)) (omega (arith, front_is line))

front_size : (line : ℕ) → line < 2 ^ 32 → length (rule_front line) ≤ 40
front_size line lt =
    let d : length (decimal line) ≤ 10 = length-decimal-le 10 line (omega arith) (omega (arith, lt)) (omega (arith, lt)) in
    let e : length (decimal line ++ (codes " (\"" ++ [])) ≡ length (decimal line) + 3 = length-append (decimal line) (codes " (\"" ++ []) in
    omega (arith, front_is line)

-- the test counts statements alone
pub short_is : (r : Rule) → r.line < 2 ^ 32 → is_short r ≡ nat_le (suc (suc (suc (length (kept r.statements))))) max_statements
short_is r lt = from (nat_le (suc (suc (suc (length (kept r.statements))))) max_statements)
  where
    total : sum_by literal_bytes (telling (rule_front r.line) r.statements) ≡ length (rule_front r.line) + (0 + (3 + sum_by literal_bytes (kept r.statements)))
    total =
        sum_by-cons literal_bytes (Print (rule_front r.line)) (Echo ∷ Print text_end ∷ kept r.statements)
        ∙ ap (λ n. length (rule_front r.line) + n) (sum_by-cons literal_bytes Echo (Print text_end ∷ kept r.statements) ∙ ap (λ n. 0 + n) (sum_by-cons literal_bytes (Print text_end) (kept r.statements)))

    few : nat_le (sum_by literal_bytes (telling (rule_front r.line) r.statements)) max_literal_bytes ≡ true
    few = le-leb (sum_by literal_bytes (telling (rule_front r.line) r.statements)) max_literal_bytes (omega (arith, total, front_size r.line lt, no_literals r.statements))

    from : (b : Bool) → (b && nat_le (sum_by literal_bytes (telling (rule_front r.line) r.statements)) max_literal_bytes) ≡ b
    from true = few
    from false = refl

-- rules

sound_tree_of : (n : ℕ) (r : Rule) → sound_rule n r ≡ true → is_short r ≡ true → sound_rule n (traced_rule r) ≡ true
sound_tree_of n r h short =
    let five = and_parts (sound_list n r.conditions && sound_tree r.head && sound_trail r.trail && cut_fits r.cut r.head r.trail && legal_action n r.statements) (are_few r.statements) h in
    let four = and_parts (sound_list n r.conditions && sound_tree r.head && sound_trail r.trail && cut_fits r.cut r.head r.trail) (legal_action n r.statements) five.0 in
    let told : List Statement = telling (rule_front r.line) r.statements in
    and_from (sound_list n r.conditions && sound_tree r.head && sound_trail r.trail && cut_fits r.cut r.head r.trail && legal_action n told) (are_few told)
    (and_from (sound_list n r.conditions && sound_tree r.head && sound_trail r.trail && cut_fits r.cut r.head r.trail) (legal_action n told) four.0
    (legal n (rule_front r.line) r.statements (front_some r.line) four.1)) short

all_listed : (i k n : ℕ) → i + k ≡ n → ascend_from i n (listed (λ c. true) i k) ≡ true
all_listed i zero n e = refl
all_listed i (suc k) n e =
    and_from (nat_le i i && nat_lt i n) (ascend_from (suc i) n (listed (λ c. true) (suc i) k))
    (and_from (nat_le i i) (nat_lt i n) (le-leb i i (omega arith)) (lt-ltb i n (omega arith)))
    (all_listed (suc i) k n (omega arith))

pub has_any : (b : ℕ) → b < 256 → has (complement empty_set) b ≡ true
unfolding complement empty_set
has_any b lt = has-set_of (λ b. not (has (set_of (λ b. false)) b)) b lt ∙ ap not (has-set_of (λ b. false) b lt)

some_byte : (n : ℕ) → any_below (suc n) (has (complement empty_set)) ≡ true
unfolding any_below
some_byte zero = ap (λ b. b || any_below 0 (has (complement empty_set))) (has_any 0 (omega arith))
some_byte (suc n) = or_right (has (complement empty_set) (suc n)) (any_below (suc n) (has (complement empty_set))) (some_byte n)
  where
    or_right : (a b : Bool) → b ≡ true → (a || b) ≡ true
    or_right true b h = refl
    or_right false b h = h

default_sound : (n : ℕ) → sound_rule n (default_rule n) ≡ true
default_sound n =
    let r : Rule = default_rule n in
    and_from (sound_list n r.conditions && sound_tree r.head && true && true && legal_action n r.statements) (are_few r.statements)
    (and_from (sound_list n r.conditions && sound_tree r.head && true && true) (legal_action n r.statements)
    (and_from (sound_list n r.conditions && sound_tree r.head && true) true (and_from (sound_list n r.conditions && sound_tree r.head) true (and_from (sound_list n r.conditions) (sound_tree r.head) (all_listed 0 n n (omega arith)) (some_byte 255)) refl) refl)
    refl)
    refl

rules_sound : (n : ℕ) (rs : List Rule) → sound_rules n rs ≡ true → are_short rs ≡ true → sound_rules n (map traced_rule rs ++ default_rule n ∷ []) ≡ true
rules_sound n [] h short = and_from (sound_rule n (default_rule n)) true (default_sound n) refl
rules_sound n (r ∷ rs) h short =
    let both = and_parts (sound_rule n r) (sound_rules n rs) h in
    let shorts = and_parts (is_short r) (are_short rs) short in
    and_from (sound_rule n (traced_rule r)) (sound_rules n (map traced_rule rs ++ default_rule n ∷ [])) (sound_tree_of n r both.0 shorts.0) (rules_sound n rs both.1 shorts.1)

-- conditions

end_size : (c : ℕ) → c < 256 → length (end_line c) ≤ 40
end_size c lt =
    let d : length (decimal c) ≤ 3 = length-decimal-le 3 c (omega arith) (omega (arith, lt)) (omega (arith, lt)) in
    let e : length (decimal c ++ (codes ")\n" ++ [])) ≡ length (decimal c) + 2 = length-append (decimal c) (codes ")\n" ++ []) in
    let f : length (end_line c) ≡ 23 + length (decimal c ++ (codes ")\n" ++ [])) = length-append (codes "--EOF (start condition ") (decimal c ++ (codes ")\n" ++ [])) in
    omega arith

ends_sound : (c : ℕ) (ks : List Condition) → c + length ks ≤ 255 → sound_conditions ks ≡ true → sound_conditions (traced_conditions c ks) ≡ true
ends_sound c [] le h = refl
ends_sound c (k ∷ ks) le h =
    let both = and_parts (sound_end k.end) (sound_conditions ks) h in
    let parts = and_parts (nat_le k.end.status max_status) (nat_le (length k.end.print) max_literal_bytes) both.0 in
    and_from (nat_le k.end.status max_status && nat_le (length (end_line c)) max_literal_bytes) (sound_conditions (traced_conditions (suc c) ks))
    (and_from (nat_le k.end.status max_status) (nat_le (length (end_line c)) max_literal_bytes) parts.0 (le-leb (length (end_line c)) max_literal_bytes (omega (arith, end_size c (omega arith)))))
    (ends_sound (suc c) ks (omega arith) both.1)

pub same_count : (c : ℕ) (ks : List Condition) → length (traced_conditions c ks) ≡ length ks
same_count c [] = refl
same_count c (k ∷ ks) = ap suc (same_count (suc c) ks)

pub rule_count : (S : Spec) → length (traced S).rules ≡ suc (length S.rules)
rule_count S = length-append (map traced_rule S.rules) (default_rule (length S.conditions) ∷ []) ∙ (let e : length (map traced_rule S.rules) ≡ length S.rules = length-map S.rules traced_rule in omega arith)

pub few_conditions : (S : Spec) → is_sound S ≡ true → length S.conditions ≤ 255
few_conditions S h =
    let four = and_parts (nat_le 1 (length S.conditions) && nat_le (length S.conditions) max_conditions && nat_le (length S.rules) max_rules && sound_conditions S.conditions) (sound_rules (length S.conditions) S.rules) h in
    let three = and_parts (nat_le 1 (length S.conditions) && nat_le (length S.conditions) max_conditions && nat_le (length S.rules) max_rules) (sound_conditions S.conditions) four.0 in
    let two = and_parts (nat_le 1 (length S.conditions) && nat_le (length S.conditions) max_conditions) (nat_le (length S.rules) max_rules) three.0 in
    leb-true (length S.conditions) max_conditions (and_parts (nat_le 1 (length S.conditions)) (nat_le (length S.conditions) max_conditions) two.0).1

-- the specification that tells passes the test
pub traced_sound : (S : Spec) → is_sound S ≡ true → has_room S ≡ true → is_sound (traced S) ≡ true
traced_sound S h room =
    let four = and_parts (nat_le 1 (length S.conditions) && nat_le (length S.conditions) max_conditions && nat_le (length S.rules) max_rules && sound_conditions S.conditions) (sound_rules (length S.conditions) S.rules) h in
    let three = and_parts (nat_le 1 (length S.conditions) && nat_le (length S.conditions) max_conditions && nat_le (length S.rules) max_rules) (sound_conditions S.conditions) four.0 in
    let two = and_parts (nat_le 1 (length S.conditions) && nat_le (length S.conditions) max_conditions) (nat_le (length S.rules) max_rules) three.0 in
    let one = and_parts (nat_le 1 (length S.conditions)) (nat_le (length S.conditions) max_conditions) two.0 in
    let rooms = and_parts (nat_lt (length S.rules) max_rules) (are_short S.rules) room in
    let n : ℕ = length S.conditions in
    let m : ℕ = length (traced S).conditions in
    let same : n ≡ m = sym (same_count 0 S.conditions) in
    let some : nat_le 1 m ≡ true = subst (λ k. nat_le 1 k ≡ true) same one.0 in
    let few : nat_le m max_conditions ≡ true = subst (λ k. nat_le k max_conditions ≡ true) same one.1 in
    let few_rules : nat_le (length (traced S).rules) max_rules ≡ true = le-leb (length (traced S).rules) max_rules (omega (arith, rule_count S, ltb-true (length S.rules) max_rules rooms.0)) in
    let ends : sound_conditions (traced S).conditions ≡ true = ends_sound 0 S.conditions (omega (arith, leb-true n max_conditions one.1)) three.1 in
    let rules : sound_rules m (traced S).rules ≡ true = subst (λ k. sound_rules k (traced S).rules ≡ true) same (rules_sound n S.rules four.1 rooms.1) in
    and_from (nat_le 1 m && nat_le m max_conditions && nat_le (length (traced S).rules) max_rules && sound_conditions (traced S).conditions) (sound_rules m (traced S).rules)
    (and_from (nat_le 1 m && nat_le m max_conditions && nat_le (length (traced S).rules) max_rules) (sound_conditions (traced S).conditions)
    (and_from (nat_le 1 m && nat_le m max_conditions) (nat_le (length (traced S).rules) max_rules) (and_from (nat_le 1 m) (nat_le m max_conditions) some few) few_rules)
    ends)
    rules

-- conditions one after another, and rules: what holds before one more holds after it
pub one_end_more : (done rest all : List Condition) (k told : Condition) (n m : ℕ) → m ≡ suc n → told ≡ record k { end = record { print = end_line n; status = k.end.status } } →
    done ++ traced_conditions n (k ∷ rest) ≡ all → (done ++ told ∷ []) ++ traced_conditions m rest ≡ all
one_end_more done rest all k told n m e is h =
    append_assoc done (told ∷ []) (traced_conditions m rest)
    ∙ ap (λ i. done ++ told ∷ traced_conditions i rest) e
    ∙ ap (λ z. done ++ z ∷ traced_conditions (suc n) rest) is
    ∙ h
