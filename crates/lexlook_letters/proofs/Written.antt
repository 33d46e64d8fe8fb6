-- What is written of sequences that are one branch, and what is left of the nodes.
use Rattle.std.proofs.lemmas.Bool.{cases_lt, eqb-true}
use Rattle.std.proofs.Common.{◌≡◌, inl, inr, ◌==◌, ℕ, zero, suc, ◌+◌, ◌<◌, ◌≤◌, Bool, true, false, Option, Some, None, List, [], ◌∷◌, ◌++◌, map, length, take, drop, refl, sym, ap, ◌∙◌, subst, append_assoc, append-nil, arith}
use Rattle.std.specs.Prelude.{codes, is_some}
use Rattle.std.specs.List.{AllByRecursion}
use Rattle.lex_semantics.specs.Shapes.{nodes}
use Rattle.lexlook_letters.specs.Refusals.{IsRefusedFor}
use Rattle.lexlook_letters.specs.declared.spelling.LettersError.{LettersError}
use Rattle.lexlook_letters.specs.declared.spelling.LettersError.TheVariants.{NoCodePoint, OutOfMemory, TooBig}
use Rattle.lexlook_letters.specs.Sequences.{byte_ranges, last_range}
use Rattle.lexlook_letters.specs.Text.{Branches, none, through, Reaches, branches_at, branches_text, class_text, going_through, no_branch, is_one, joined, letters_tree}
use Rattle.lexlook_letters.specs.declared.sequence.ByteRange.{ByteRange}
use Rattle.lexlook_letters.specs.declared.sequence.Sequence.{Sequence}
use Rattle.lexlook_letters.specs.declared.sequence.Sequence.TheVariants.{One, Two, Three, Four}
use Rattle.lexlook_letters.proofs.Groups.{IsCut, IsThrough, all_one, few_joined, is_cut, is_last, is_through, not_none, not_one, reach_drop, reach_take}
use Rattle.lexlook_letters.proofs.Nodes.{barred, choice_nodes, followed_nodes, followed_text, many_trees, one_tree, part_nodes, through_choice}

abbrev AllReach : ℕ → List Sequence → Type 0
AllReach at ss = AllByRecursion (Reaches at) ss

-- One branch that ends with a class.

pub record EndsSo (at : ℕ) (ss : List Sequence) : Type 0 where
  pub text : branches_text (branches_at at ss) ≡ class_text (map last_range ss)
  pub parts : part_nodes (branches_at at ss) ≡ 1
  pub choices : choice_nodes (branches_at at ss) ≡ 1

pub ends_so : (at : ℕ) (s : Sequence) (ss : List Sequence) → AllReach at (s ∷ ss) → is_one (branches_at at (s ∷ ss)) ≡ true
    → going_through (drop at (byte_ranges s)) ≡ None → EndsSo at (s ∷ ss)
ends_so at s ss reach one e =
    let is = is_last at s ss reach one e in
    record {
      text = ap branches_text is ∙ append-nil (class_text (map last_range (s ∷ ss)));
      parts = ap part_nodes is;
      choices = ap choice_nodes is;
    }

-- One that goes on, with what follows its first range.

pub record GoesOn (at : ℕ) (r : ByteRange) (ss : List Sequence) : Type 0 where
  pub reach : AllReach (at + 1) ss
  pub choices : choice_nodes (branches_at at ss) ≡ 1 + part_nodes (branches_at at ss)
  pub one : is_one (branches_at (at + 1) ss) ≡ true → (branches_text (branches_at at ss) ≡ class_text (r ∷ []) ++ branches_text (branches_at (at + 1) ss))
      × (part_nodes (branches_at at ss) ≡ 1 + part_nodes (branches_at (at + 1) ss))
  pub many : is_one (branches_at (at + 1) ss) ≡ false
      → (branches_text (branches_at at ss) ≡ class_text (r ∷ []) ++ (codes "(" ++ (branches_text (branches_at (at + 1) ss) ++ codes ")")))
      × (part_nodes (branches_at at ss) ≡ 2 + choice_nodes (branches_at (at + 1) ss))

one_on : (r : ByteRange) (inner : Branches) → is_one inner ≡ true
    → (branches_text (through r inner none) ≡ class_text (r ∷ []) ++ branches_text inner) × (part_nodes (through r inner none) ≡ 1 + part_nodes inner)
one_on r inner one = (rw one (ap (λ x. class_text (r ∷ []) ++ x) (append-nil (branches_text inner))), rw one refl)

many_on : (r : ByteRange) (inner : Branches) → no_branch inner ≡ false → is_one inner ≡ false
    → (branches_text (through r inner none) ≡ class_text (r ∷ []) ++ (codes "(" ++ (branches_text inner ++ codes ")")))
    × (part_nodes (through r inner none) ≡ 2 + choice_nodes inner)
many_on r inner some many =
    let counted = many_trees inner some many in (
      rw many (ap (λ x. class_text (r ∷ []) ++ x) (append-nil (codes "(" ++ (branches_text inner ++ codes ")")))),
      rw many (omega (arith, counted)),
    )

pub goes_on : (at : ℕ) (s : Sequence) (ss : List Sequence) (r : ByteRange) → AllReach at (s ∷ ss) → is_one (branches_at at (s ∷ ss)) ≡ true
    → going_through (drop at (byte_ranges s)) ≡ Some r → GoesOn at r (s ∷ ss)
goes_on at s ss r reach one e =
    let on : IsThrough at r (s ∷ ss) = is_through at s ss r reach one e in
    let inner : Branches = branches_at (at + 1) (s ∷ ss) in
    let some : no_branch inner ≡ false = not_none (at + 1) s ss on.reach.0 in
    record {
      reach = on.reach;
      choices = ap choice_nodes on.is ∙ through_choice r inner some ∙ ap (λ b. 1 + part_nodes b) (sym on.is);
      one = λ h. let both = one_on r inner h in (ap branches_text on.is ∙ both.0, ap part_nodes on.is ∙ both.1);
      many = λ h. let both = many_on r inner some h in (ap branches_text on.is ∙ both.0, ap part_nodes on.is ∙ both.1);
    }

-- The same of a list that begins so.

pub ends_as : (at : ℕ) (s : Sequence) (more all : List Sequence) → all ≡ s ∷ more → AllReach at all → is_one (branches_at at all) ≡ true
    → going_through (drop at (byte_ranges s)) ≡ None → EndsSo at all
ends_as at s more all is reach one e =
    let P : List Sequence → Type 0 = λ x. AllReach at x → is_one (branches_at at x) ≡ true → EndsSo at x in
    subst P (sym is) (λ h k. ends_so at s more h k e) reach one

pub goes_as : (at : ℕ) (s : Sequence) (r : ByteRange) (more all : List Sequence) → all ≡ s ∷ more → AllReach at all → is_one (branches_at at all) ≡ true
    → going_through (drop at (byte_ranges s)) ≡ Some r → GoesOn at r all
goes_as at s r more all is reach one e =
    let P : List Sequence → Type 0 = λ x. AllReach at x → is_one (branches_at at x) ≡ true → GoesOn at r x in
    subst P (sym is) (λ h k. goes_on at s more r h k e) reach one

few_at : (at : ℕ) (s : Sequence) → Reaches at s → at < 4
few_at at (One a) h = omega (arith, h)
few_at at (Two a b) h = omega (arith, h)
few_at at (Three a b c) h = omega (arith, h)
few_at at (Four a b c d) h = omega (arith, h)

pub few_as : (at : ℕ) (s : Sequence) (more all : List Sequence) → all ≡ s ∷ more → AllReach at all → at < 4
few_as at s more all is reach = few_at at s (subst (AllReach at) is reach).0

pub one_as : (at n : ℕ) (s : Sequence) (more all : List Sequence) → all ≡ s ∷ more → AllReach at all → n ≡ 1 + joined at s more → n ≡ length all
    → is_one (branches_at at all) ≡ true
one_as at n s more all is reach count whole =
    let P : List Sequence → Type 0 = λ x. AllReach at x → n ≡ length x → is_one (branches_at at x) ≡ true in
    subst P (sym is) (λ h k. all_one at s more h (omega (arith, count, k))) reach whole

pub many_as : (at n : ℕ) (s : Sequence) (more all : List Sequence) → all ≡ s ∷ more → AllReach at all → n ≡ 1 + joined at s more → (n ≡ length all → ⊥)
    → is_one (branches_at at all) ≡ false
many_as at n s more all is reach count part =
    let P : List Sequence → Type 0 = λ x. AllReach at x → (n ≡ length x → ⊥) → is_one (branches_at at x) ≡ false in
    let few = few_joined at s more in
    let fewer : (n ≡ suc (length more) → ⊥) → joined at s more < length more = λ h. elim (cases_lt (joined at s more) (length more)) [
      | inl l ↦ l
      | inr l ↦ absurd (h (omega (arith, count, few, l)))
    ] in
    subst P (sym is) (λ h k. not_one at s more h (fewer k)) reach part

-- A refusal, where more nodes are wanted.
pub refused_more : (e : LettersError) (before now wanted more k : ℕ) → now + k ≡ before → more ≡ k + wanted → IsRefusedFor e now wanted → IsRefusedFor e before more
refused_more e before now wanted more k left is (inl h) = inl h
refused_more e before now wanted more k left is (inr (h, less)) = inr (h, omega (arith, left, is, less))

-- A series of two parts or more is a node itself.

abbrev pub series_node : Option ByteRange → ℕ
series_node None = 0
series_node (Some r) = 1

pub branch_nodes : (at : ℕ) (s : Sequence) (ss : List Sequence) → AllReach at (s ∷ ss) → is_one (branches_at at (s ∷ ss)) ≡ true
    → choice_nodes (branches_at at (s ∷ ss)) ≡ series_node (going_through (drop at (byte_ranges s))) + part_nodes (branches_at at (s ∷ ss))
branch_nodes at s ss reach one = go (going_through (drop at (byte_ranges s))) refl
  where
    go : (o : Option ByteRange) → going_through (drop at (byte_ranges s)) ≡ o → choice_nodes (branches_at at (s ∷ ss)) ≡ series_node o + part_nodes (branches_at at (s ∷ ss))
    go None e = let h = ends_so at s ss reach one e in omega (arith, h.parts, h.choices)
    go (Some r) e = (goes_on at s ss r reach one e).choices

-- A run, and the sequences behind it.

pub record Splits (at : ℕ) (s : Sequence) (run later all : List Sequence) : Type 0 where
  pub reach : AllReach at run
  pub one : is_one (branches_at at run) ≡ true
  pub reach_later : AllReach at later
  pub text : branches_text (branches_at at all) ≡ branches_text (branches_at at run) ++ barred (branches_at at later)
  pub nodes : choice_nodes (branches_at at all) ≡ series_node (going_through (drop at (byte_ranges s))) + part_nodes (branches_at at run) + choice_nodes (branches_at at later)

splits_at : (at : ℕ) (s : Sequence) (ss : List Sequence) → AllReach at (s ∷ ss)
    → Splits at s (take (suc (joined at s ss)) (s ∷ ss)) (drop (suc (joined at s ss)) (s ∷ ss)) (s ∷ ss)
splits_at at s ss reach =
    let n : ℕ = suc (joined at s ss) in
    let c : IsCut at s ss = is_cut at s ss reach in
    let front : AllReach at (take n (s ∷ ss)) = reach_take at n (s ∷ ss) reach in
    let later : Branches = branches_at at (drop n (s ∷ ss)) in
    let counted = branch_nodes at s (take (joined at s ss) ss) front c.one in
    let both = ap choice_nodes c.cut ∙ followed_nodes (branches_at at (take n (s ∷ ss))) later in
    record {
      reach = front;
      one = c.one;
      reach_later = reach_drop at n (s ∷ ss) reach;
      text = ap branches_text c.cut ∙ followed_text (branches_at at (take n (s ∷ ss))) later c.one;
      nodes = omega (arith, both, counted);
    }

pub splits : (at n : ℕ) (s : Sequence) (more all run later : List Sequence) → AllReach at all → all ≡ s ∷ more → n ≡ 1 + joined at s more → run ≡ take n all → later ≡ drop n all
    → Splits at s run later all
splits at n s more all run later reach is count front behind =
    let P : List Sequence → Type 0 = λ x. AllReach at x → Splits at s (take n x) (drop n x) x in
    let long : suc (joined at s more) ≡ n = omega (arith, count) in
    let base : P (s ∷ more) = λ h. subst (λ (k : ℕ). Splits at s (take k (s ∷ more)) (drop k (s ∷ more)) (s ∷ more)) long (splits_at at s more h) in
    rw (front, behind) (subst P (sym is) base reach)

-- the text with a bar, where sequences are left
pub barred_some : (at : ℕ) (ss : List Sequence) → AllReach at ss → (length ss ≡ 0 → ⊥) → barred (branches_at at ss) ≡ codes "|" ++ branches_text (branches_at at ss)
barred_some at [] reach h = absurd (h refl)
barred_some at (s ∷ ss) reach h = rw (not_none at s ss reach.0) refl

pub fits_as : (at n : ℕ) (s : Sequence) (more all : List Sequence) → all ≡ s ∷ more → n ≡ 1 + joined at s more → n ≤ length all
fits_as at n s more all is count = let few = few_joined at s more in subst (λ (x : List Sequence). n ≤ length x) (sym is) (omega (arith, count, few))

pub series_some : (o : Option ByteRange) → is_some o ≡ true → series_node o ≡ 1
series_some None h = cc
series_some (Some r) h = refl

pub series_none : (o : Option ByteRange) → is_some o ≡ false → series_node o ≡ 0
series_none None h = refl
series_none (Some r) h = cc

-- a refusal of the branch that comes next is one of all
pub refused_in : (e : LettersError) (now node parts later rest before all left : ℕ) → now + node ≡ left → left + all ≡ before + rest → rest ≡ node + parts + later → IsRefusedFor e now parts
    → IsRefusedFor e before all
refused_in e now node parts later rest before all left taken counted is (inl h) = inl h
refused_in e now node parts later rest before all left taken counted is (inr (h, less)) = inr (h, omega (arith, taken, counted, is, less))

pub in_group : (o c p i q : List ℕ) → (((o ++ c) ++ p) ++ i) ++ q ≡ o ++ (c ++ (p ++ (i ++ q)))
in_group o c p i q = append_assoc ((o ++ c) ++ p) i q ∙ append_assoc (o ++ c) p (i ++ q) ∙ append_assoc o c (p ++ (i ++ q))

-- what is left after a run, with a bar before it or not

pub not_empty : (n : ℕ) (b : Bool) → b ≡ (n == 0) → b ≡ false → n ≡ 0 → ⊥
not_empty zero b is off h = not_both (sym is ∙ off)
  where
    not_both : true ≡ false → ⊥
    not_both h = cc
not_empty (suc n) b is off h = absurd (omega (arith, h))

pub is_empty_list : (n : ℕ) (b : Bool) → b ≡ (n == 0) → b ≡ true → n ≡ 0
is_empty_list n b is on = eqb-true n 0 (sym is ∙ on)

pub at_end : (at : ℕ) (ss : List Sequence) → length ss ≡ 0 → branches_text (branches_at at ss) ≡ barred (branches_at at ss)
at_end at [] h = refl
at_end at (s ∷ ss) h = absurd (omega (arith, h))

pub with_bar : (o r b l : List ℕ) → ((o ++ r) ++ b) ++ l ≡ o ++ (r ++ (b ++ l))
with_bar o r b l = append_assoc (o ++ r) b l ∙ append_assoc o r (b ++ l)

has_one : (s : Sequence) → Reaches 0 s
has_one (One a) = omega arith
has_one (Two a b) = omega arith
has_one (Three a b c) = omega arith
has_one (Four a b c d) = omega arith

-- some sequences have a branch
pub some_as : (ss more : List Sequence) (s : Sequence) → ss ≡ s ∷ more → no_branch (branches_at 0 ss) ≡ false
some_as ss more s is = subst (λ (x : List Sequence). no_branch (branches_at 0 x) ≡ false) (sym is) (not_none 0 s more (has_one s))

pub all_reach : (ss : List Sequence) → AllReach 0 ss
all_reach [] = tt
all_reach (s ∷ ss) = (has_one s, all_reach ss)

-- All of a pattern.

all_total : (n : ℕ) (s : Sequence) (more : List Sequence) → n ≡ 1 + joined 0 s more
    → (n < suc (length more) → nodes (letters_tree (s ∷ more)) ≡ 1 + choice_nodes (branches_at 0 (s ∷ more)))
    × (suc (length more) ≤ n → nodes (letters_tree (s ∷ more)) ≡ choice_nodes (branches_at 0 (s ∷ more)))
all_total n s more count =
    let reach = all_reach (s ∷ more) in
    let few = few_joined 0 s more in (
      λ h. many_trees (branches_at 0 (s ∷ more)) (not_none 0 s more reach.0) (not_one 0 s more reach (omega (arith, count, h))),
      λ h. one_tree (branches_at 0 (s ∷ more)) (all_one 0 s more reach (omega (arith, count, few, h))),
    )

-- how many nodes there are, and how many are those of the branches
pub total_as : (n : ℕ) (s : Sequence) (more all : List Sequence) → all ≡ s ∷ more → n ≡ 1 + joined 0 s more
    → (n < length all → nodes (letters_tree all) ≡ 1 + choice_nodes (branches_at 0 all)) × (length all ≤ n → nodes (letters_tree all) ≡ choice_nodes (branches_at 0 all))
total_as n s more all is count =
    let P : List Sequence → Type 0 = λ x. (n < length x → nodes (letters_tree x) ≡ 1 + choice_nodes (branches_at 0 x)) × (length x ≤ n → nodes (letters_tree x) ≡ choice_nodes (branches_at 0 x)) in
    subst P (sym is) (all_total n s more count)

pub too_big : (e : LettersError) (left wanted all most : ℕ) → left + all ≡ most + wanted → IsRefusedFor e left wanted → e ≡ TooBig → most < all
too_big e left wanted all most counted (inl h) is = absurd (no_memory (sym h ∙ is))
  where
    no_memory : OutOfMemory ≡ TooBig → ⊥
    no_memory h = cc
too_big e left wanted all most counted (inr (h, less)) is = omega (arith, counted, less)
