-- The rules of which a match asks, and what two machines do by rules of which they ask.
use Rattle.std.proofs.Common.{◌≡◌, ℕ, zero, suc, ◌+◌, ◌<◌, Bool, true, false, List, [], ◌∷◌, ◌++◌, length, map, get_or, cond, drop, ◌⊎◌, ◌↔◌, inl, inr, refl, sym, ◌∙◌, ap, subst, arith}
use Rattle.std.specs.Prelude.{nat_lt, ◌||◌}
use Rattle.std.proofs.lemmas.Bool.{cond-true, cond-false, lt-ltb, le-ltb}
use Rattle.std.proofs.lemmas.List.{drop_more}
use Rattle.lex_semantics.specs.Text.{Among}
use Rattle.lex_semantics.specs.Spec.{Cut, Whole, Statement, Echo, Print, Begin, More, Less, Reject, End, Push, Pop, is_reject, has_reject}
use Rattle.lex_semantics.specs.Rules.{statements_of}
use Rattle.lex_semantics.specs.Machine.{Machine, rules_of_machine}
use Rattle.lex_semantics.specs.MachineLaws.{MachineLaws}
use Rattle.lexlook_tables.specs.Same.{Deed, deed_of, deed_in, deeds_at, deeds_in, renumbered, has_trail, may_yield, up_to_taken}
use Rattle.lexlook_tables.specs.Searching.{DoAlike}

-- an element of a list is among its elements
pub among_at : (xs : List ℕ) (i : ℕ) → i < length xs → Among xs (get_or xs i 0)
among_at [] i lt = absurd (omega (arith, lt))
among_at (x ∷ xs) zero lt = inl refl
among_at (x ∷ xs) (suc i) lt = inr (among_at xs i (omega (arith, lt)))

pub among_later : (xs : List ℕ) (k i : ℕ) → Among (drop k xs) i → Among xs i
among_later xs zero i a = a
among_later [] (suc k) i a = a
among_later (x ∷ xs) (suc k) i a = inr (among_later xs k i a)

-- a rule that a state accepts is one of the machine
pub accepted : (M : Machine) → MachineLaws M → (s : ℕ) (rules : List ℕ) → rules ≡ M.accepts s → (i : ℕ) → Among rules i → i < M.count
accepted M laws s rules is i a = laws.in_range s i (subst (λ l. Among l i) is a)

pub accepted_at : (M : Machine) → MachineLaws M → (s : ℕ) (rules : List ℕ) → rules ≡ M.accepts s → (k : ℕ) → k < length rules → get_or rules k 0 < M.count
accepted_at M laws s rules is k lt = accepted M laws s rules is (get_or rules k 0) (among_at rules k lt)

abbrev made : Cut → List Statement → Deed
made c ss = record { cut = c; statements = ss }

-- what is done by a rule that is not the default
pub own_deed : (M : Machine) (i : ℕ) → i < M.count → deed_of M i ≡ made (M.cut i) (M.statements i)
own_deed M i lt = ap (λ c. made c (statements_of (rules_of_machine M) i)) (cond-true (nat_lt i M.count) (M.cut i) Whole (lt-ltb i M.count lt))
    ∙ ap (made (M.cut i)) (cond-true (nat_lt i M.count) (M.statements i) (Echo ∷ []) (lt-ltb i M.count lt))

-- and by the default rule
pub default_deed : (M : Machine) → deed_of M M.count ≡ made Whole (Echo ∷ [])
default_deed M = ap (λ c. made c (statements_of (rules_of_machine M) M.count)) (cond-false (nat_lt M.count M.count) (M.cut M.count) Whole none) ∙ ap (made Whole) (cond-false (nat_lt M.count M.count) (M.statements M.count) (Echo ∷ []) none)
  where
    none : nat_lt M.count M.count ≡ false
    none = le-ltb M.count M.count (omega arith)

pub default_deed_in : (order : List ℕ) (M : Machine) → deed_in order M M.count ≡ made Whole (Echo ∷ [])
default_deed_in order M = ap (λ (d : Deed). made d.cut (map (renumbered order) d.statements)) (default_deed M)

reject_same : (order : List ℕ) (s : Statement) → is_reject (renumbered order s) ≡ is_reject s
reject_same order Echo = refl
reject_same order (Print bytes) = refl
reject_same order (Begin c) = refl
reject_same order More = refl
reject_same order (Less n) = refl
reject_same order Reject = refl
reject_same order (End status) = refl
reject_same order (Push c) = refl
reject_same order Pop = refl

-- with other numbers they have REJECT where they had it
pub rejects_same : (order : List ℕ) (ss : List Statement) → has_reject (map (renumbered order) ss) ≡ has_reject ss
rejects_same order [] = refl
rejects_same order (s ∷ ss) = ap (λ b. b || has_reject (map (renumbered order) ss)) (reject_same order s) ∙ ap (λ b. is_reject s || b) (rejects_same order ss)

-- only an ECHO is an ECHO with other numbers
only_echo : (order : List ℕ) (ss : List Statement) → map (renumbered order) ss ≡ Echo ∷ [] → ss ≡ Echo ∷ []
only_echo order [] e = absurd cc
only_echo order (Echo ∷ []) e = refl
only_echo order (Echo ∷ s ∷ ss) e = absurd cc
only_echo order (Print bytes ∷ ss) e = absurd cc
only_echo order (Begin c ∷ ss) e = absurd cc
only_echo order (More ∷ ss) e = absurd cc
only_echo order (Less n ∷ ss) e = absurd cc
only_echo order (Reject ∷ ss) e = absurd cc
only_echo order (End status ∷ ss) e = absurd cc
only_echo order (Push c ∷ ss) e = absurd cc
only_echo order (Pop ∷ ss) e = absurd cc

cons_same : (x y : Deed) (xs ys : List Deed) → x ∷ xs ≡ y ∷ ys → (x ≡ y) × (xs ≡ ys)
cons_same x y xs ys e = (cc, cc)

module _ (order : List ℕ) (M N : Machine) where
  -- up to those that are taken for certain they do the same
  abbrev pub SameOf : List ℕ → List ℕ → Type 0
  SameOf is js = map (deed_in order M) (up_to_taken M is) ≡ map (deed_of N) (up_to_taken N js)

  abbrev left : ℕ → List ℕ → Bool → List Deed
  left i is b = map (deed_in order M) (cond b (up_to_taken M is) [])

  abbrev right : ℕ → List ℕ → Bool → List Deed
  right j js b = map (deed_of N) (cond b (up_to_taken N js) [])

  pub yields : (i j : ℕ) → deed_in order M i ≡ deed_of N j → may_yield (deed_of M i) ≡ may_yield (deed_of N j)
  yields i j same = ap (λ b. b || has_trail (deed_of M i).cut) (sym (rejects_same order (deed_of M i).statements)) ∙ ap may_yield same

  pub heads : (i j : ℕ) (is js : List ℕ) → SameOf (i ∷ is) (j ∷ js) → deed_in order M i ≡ deed_of N j
  heads i j is js same = (cons_same (deed_in order M i) (deed_of N j) (left i is (may_yield (deed_of M i))) (right j js (may_yield (deed_of N j))) same).0

  -- where both may leave the text to the next
  pub go_on : (i j : ℕ) (is js : List ℕ) → deed_in order M i ≡ deed_of N j → may_yield (deed_of M i) ≡ true → SameOf is js → SameOf (i ∷ is) (j ∷ js)
  go_on i j is js same on rest = ap (λ d. d ∷ left i is (may_yield (deed_of M i))) same ∙ ap (λ l. deed_of N j ∷ l) (ap (left i is) on ∙ rest ∙ sym (ap (right j js) (sym (yields i j same) ∙ on)))

  pub went_on : (i j : ℕ) (is js : List ℕ) → may_yield (deed_of M i) ≡ true → SameOf (i ∷ is) (j ∷ js) → SameOf is js
  went_on i j is js on same = sym (ap (left i is) on) ∙ (cons_same (deed_in order M i) (deed_of N j) (left i is (may_yield (deed_of M i))) (right j js (may_yield (deed_of N j))) same).1 ∙ ap (right j js) (sym (yields i j (heads i j is js same)) ∙ on)

  -- where the text is taken
  pub is_taken : (i j : ℕ) (is js : List ℕ) → deed_in order M i ≡ deed_of N j → may_yield (deed_of M i) ≡ false → SameOf (i ∷ is) (j ∷ js)
  is_taken i j is js same end = ap (λ d. d ∷ left i is (may_yield (deed_of M i))) same ∙ ap (λ l. deed_of N j ∷ l) (ap (left i is) end ∙ sym (ap (right j js) (sym (yields i j same) ∙ end)))

  -- the default rules do the same
  both_default : deed_in order M M.count ≡ deed_of N N.count
  both_default = default_deed_in order M ∙ sym (default_deed N)

  takes : may_yield (deed_of M M.count) ≡ false
  takes = ap may_yield (default_deed M)

  pub defaults : SameOf (M.count ∷ []) (N.count ∷ [])
  defaults = is_taken M.count N.count [] [] both_default takes

  -- What is done alike of a text is done alike of a single byte, which the default rules match too.
  pub behind : (is js : List ℕ) → SameOf is js → SameOf (is ++ M.count ∷ []) (js ++ N.count ∷ [])
  behind [] [] same = defaults
  behind [] (j ∷ js) same = absurd cc
  behind (i ∷ is) [] same = absurd cc
  behind (i ∷ is) (j ∷ js) same = by (may_yield (deed_of M i)) refl (λ rest. behind is js rest)
    where
      by : (b : Bool) → may_yield (deed_of M i) ≡ b → (SameOf is js → SameOf (is ++ M.count ∷ []) (js ++ N.count ∷ [])) → SameOf (i ∷ is ++ M.count ∷ []) (j ∷ js ++ N.count ∷ [])
      by true on later = go_on i j (is ++ M.count ∷ []) (js ++ N.count ∷ []) (heads i j is js same) on (later (went_on i j is js on same))
      by false end later = is_taken i j (is ++ M.count ∷ []) (js ++ N.count ∷ []) (heads i j is js same) end

  pub single_too : (s t : ℕ) → deeds_in order false M s ≡ deeds_at false N t → deeds_in order true M s ≡ deeds_at true N t
  single_too s t same = behind (M.accepts s) (N.accepts t) same

  -- a rule of one side for the default rule of the other
  pub left_copied : (i : ℕ) (is : List ℕ) → SameOf (i ∷ is) (N.count ∷ []) → deed_of M i ≡ deed_of M M.count
  left_copied i is same =
      ap (λ c. made c (deed_of M i).statements) (ap (λ (d : Deed). d.cut) e) ∙ ap (made Whole) (only_echo order (deed_of M i).statements (ap (λ (d : Deed). d.statements) e)) ∙ sym (default_deed M)
    where
      e : deed_in order M i ≡ made Whole (Echo ∷ [])
      e = heads i N.count is [] same ∙ default_deed N

  pub right_copied : (j : ℕ) (js : List ℕ) → SameOf (M.count ∷ []) (j ∷ js) → deed_of N j ≡ deed_of N N.count
  right_copied j js same = sym (heads M.count j [] js same) ∙ both_default

  -- the same of rules that accept a text, which may be a single byte
  abbrev pub Alike : Bool → List ℕ → List ℕ → Type 0
  Alike single is js = DoAlike order single M N is js

  pub next_alike : (single : Bool) (i j : ℕ) (is js : List ℕ) → deed_in order M i ≡ deed_of N j → may_yield (deed_of M i) ≡ true → Alike single (i ∷ is) (j ∷ js) ↔ Alike single is js
  next_alike true i j is js same on = (went_on i j (is ++ M.count ∷ []) (js ++ N.count ∷ []) on, go_on i j (is ++ M.count ∷ []) (js ++ N.count ∷ []) same on)
  next_alike false i j is js same on = (went_on i j is js on, go_on i j is js same on)

  pub last_alike : (single : Bool) (i j : ℕ) (is js : List ℕ) → deed_in order M i ≡ deed_of N j → may_yield (deed_of M i) ≡ false → Alike single (i ∷ is) (j ∷ js)
  last_alike true i j is js same end = is_taken i j (is ++ M.count ∷ []) (js ++ N.count ∷ []) same end
  last_alike false i j is js same end = is_taken i j is js same end

  abbrev pub LeftCopies : Bool → List ℕ → Type 0
  LeftCopies single is = (single ≡ true) × (deed_of M (get_or is 0 0) ≡ deed_of M M.count)

  abbrev pub RightCopies : Bool → List ℕ → Type 0
  RightCopies single js = (single ≡ true) × (deed_of N (get_or js 0 0) ≡ deed_of N N.count)

  -- where the rules of one side have ended
  pub left_alike : (single : Bool) (is js : List ℕ) → (is ≡ []) ⊎ (js ≡ []) → 0 < length is → Alike single is js → LeftCopies single is
  left_alike single [] js one some same = absurd (omega (arith, some))
  left_alike true (i ∷ is) [] one some same = (refl, left_copied i (is ++ M.count ∷ []) same)
  left_alike false (i ∷ is) [] one some same = absurd cc
  left_alike single (i ∷ is) (j ∷ js) (inl e) some same = absurd cc
  left_alike single (i ∷ is) (j ∷ js) (inr e) some same = absurd cc

  pub right_alike : (single : Bool) (is js : List ℕ) → (is ≡ []) ⊎ (js ≡ []) → 0 < length js → Alike single is js → RightCopies single js
  right_alike single is [] one some same = absurd (omega (arith, some))
  right_alike true [] (j ∷ js) one some same = (refl, right_copied j (js ++ N.count ∷ []) same)
  right_alike false [] (j ∷ js) one some same = absurd cc
  right_alike single (i ∷ is) (j ∷ js) (inl e) some same = absurd cc
  right_alike single (i ∷ is) (j ∷ js) (inr e) some same = absurd cc

  -- the same of two lists that are gone over side by side
  module _ (single : Bool) (is js : List ℕ) (k : ℕ) (in_is : k < length is) (in_js : k < length js) (so_far : Alike single is js ↔ Alike single (drop k is) (drop k js)) where
    abbrev pub i : ℕ
    i = get_or is k 0

    abbrev pub j : ℕ
    j = get_or js k 0

    here : Alike single (drop k is) (drop k js) ↔ Alike single (i ∷ drop (k + 1) is) (j ∷ drop (k + 1) js)
    here = (
      λ a. subst (λ l. Alike single l (j ∷ drop (k + 1) js)) (drop_more is k 0 in_is) (subst (Alike single (drop k is)) (drop_more js k 0 in_js) a),
      λ a. subst (λ l. Alike single l (drop k js)) (sym (drop_more is k 0 in_is)) (subst (Alike single (i ∷ drop (k + 1) is)) (sym (drop_more js k 0 in_js)) a),
    )

    pub alike_next : deed_in order M i ≡ deed_of N j → may_yield (deed_of M i) ≡ true → Alike single is js ↔ Alike single (drop (k + 1) is) (drop (k + 1) js)
    alike_next same on = (let next = next_alike single i j (drop (k + 1) is) (drop (k + 1) js) same on in (λ a. next.0 (here.0 (so_far.0 a)), λ a. so_far.1 (here.1 (next.1 a))))

    pub alike_last : deed_in order M i ≡ deed_of N j → may_yield (deed_of M i) ≡ false → Alike single is js
    alike_last same end = so_far.1 (here.1 (last_alike single i j (drop (k + 1) is) (drop (k + 1) js) same end))
