-- Rules that are laid out are walked like those that they were.
use Rattle.std.proofs.Common.{◌≡◌, ℕ, suc, ◌+◌, ◌||◌, Bool, List, [], ◌∷◌, ◌++◌, map, cond, false, Option, Some, None, refl, sym, ap, ◌∙◌}
use Rattle.lex_semantics.specs.Active.{contains}
use Rattle.lex_semantics.specs.Text.{listed}
use Rattle.lex_semantics.specs.Tree.{Tree}
use Rattle.lex_semantics.specs.Positions.{positions}
use Rattle.lex_semantics.specs.Spec.{Rule}
use Rattle.lex_semantics.specs.Subsets.{positions_of_trail, positions_of_rule, all_positions}
use Rattle.lexauto_positions.specs.Alike.{Alike}
use Rattle.lexauto_positions.specs.Cursors.{IsFront}
use Rattle.lexauto_positions.specs.Flow.{exits, enters}
use Rattle.lexauto_positions.specs.Laid.{shape_of, AlikeTrails, AlikeRules, IsSizedRule, HaveSized}
use Rattle.lexauto_positions.specs.RuleFlow.{trail_exits, trail_enters, rule_exits, rule_enters, rules_enter, rules_left, rules_read, reads, trail_reads}
use Rattle.lexauto_positions.specs.declared.rules.LaidRule.{LaidRule}
use Rattle.lexauto_positions.proofs.Numbers.{same_list, listed_is, listed_ascends, lists_is}

-- what is listed so far is what is listed in all
pub front_listed : (l : List ℕ) (n : ℕ) (f : ℕ → Bool) → IsFront l n → ((q : ℕ) → contains l q ≡ f q) → l ≡ listed f 0 n
front_listed l n f h e = same_list l (listed f 0 n) h.ascending (listed_ascends f 0 n) (λ x. (
  λ a. (listed_is f n x).1 (h.below x a, sym (e x) ∙ (lists_is l x).1 a),
  λ a. (lists_is l x).0 (e x ∙ ((listed_is f n x).0 a).1),
))

abbrev pub rule_reads : Rule → ℕ → ℕ → ℕ → Bool
rule_reads r b q base = reads r.head b q base || trail_reads r.trail b q (base + positions r.head)

pub record AlikeRule (r s : Rule) : Type 0 where
  pub size : positions_of_rule r ≡ positions_of_rule s
  pub left : rule_exits r ≡ rule_exits s
  pub next : rule_enters r ≡ rule_enters s
  pub letters : rule_reads r ≡ rule_reads s

abbrev Left : Type 0
Left = (ℕ → Bool) → ℕ → Bool → Bool

abbrev Next : Type 0
Next = (ℕ → Bool) → ℕ → ℕ → Bool → Bool

abbrev pub Letters : Type 0
Letters = ℕ → ℕ → ℕ → Bool

module _ (t u : Option Tree) where
  abbrev Same : Type 0
  Same = (positions_of_trail t ≡ positions_of_trail u) × (trail_exits t ≡ trail_exits u) × (trail_enters t ≡ trail_enters u) × (trail_reads t ≡ trail_reads u)

trails_same : (t u : Option Tree) → AlikeTrails t u → Same t u
trails_same None None h = (refl, refl, refl, refl)
trails_same (Some t) (Some u) h = (h.size, h.left, h.next, h.letters)
trails_same None (Some u) h = absurd h
trails_same (Some t) None h = absurd h

abbrev left_by : ℕ → Left → Left → (ℕ → Bool) → ℕ → Bool
left_by n x y S base = y S (base + n) (x S base false)

abbrev next_by : ℕ → Left → Next → Next → Next
next_by n x z w S q base i = z S q base i || w S q (base + n) (x S base false)

abbrev letters_by : ℕ → Letters → Letters → Letters
letters_by n x y b q base = x b q base || y b q (base + n)

pub rule_alike : (r s : Rule) → Alike r.head s.head → AlikeTrails r.trail s.trail → AlikeRule r s
rule_alike r s h k =
    let t = trails_same r.trail s.trail k in
    record {
      size = ap (λ n. n + positions_of_trail r.trail) h.size ∙ ap (λ n. positions s.head + n) t.0;
      left = ap (λ n. left_by n (exits r.head) (trail_exits r.trail)) h.size ∙ ap (λ x. left_by (positions s.head) x (trail_exits r.trail)) h.left ∙ ap (left_by (positions s.head) (exits s.head)) t.1;
      next = ap (λ n. next_by n (exits r.head) (enters r.head) (trail_enters r.trail)) h.size ∙ ap (λ x. next_by (positions s.head) x (enters r.head) (trail_enters r.trail)) h.left
          ∙ ap (λ z. next_by (positions s.head) (exits s.head) z (trail_enters r.trail)) h.next ∙ ap (next_by (positions s.head) (exits s.head) (enters s.head)) t.2;
      letters = ap (λ n. letters_by n (reads r.head) (trail_reads r.trail)) h.size ∙ ap (λ x. letters_by (positions s.head) x (trail_reads r.trail)) h.letters
          ∙ ap (letters_by (positions s.head) (reads s.head)) t.3;
    }

abbrev pub NextAll : Type 0
NextAll = (ℕ → Bool) → (ℕ → Bool) → ℕ → ℕ → ℕ → Bool

abbrev pub LeftAll : Type 0
LeftAll = (ℕ → Bool) → ℕ → ℕ → List ℕ

abbrev all_next_by : ℕ → Next → NextAll → NextAll
all_next_by n z w on S q i base = z S q base (on i) || w on S q (suc i) (base + n)

abbrev all_left_by : ℕ → ((ℕ → Bool) → ℕ → Bool) → LeftAll → LeftAll
all_left_by n x w S i base = cond (x S base) (i ∷ w S (suc i) (base + n)) (w S (suc i) (base + n))

rules_self : (rs : List Rule) → AlikeRules rs rs
rules_self rs = record { number = refl; size = refl; next = refl; left = refl; letters = refl }

rules_on : (rs ss ts : List Rule) → AlikeRules rs ss → AlikeRules ss ts → AlikeRules rs ts
rules_on rs ss ts h k = record { number = h.number ∙ k.number; size = h.size ∙ k.size; next = h.next ∙ k.next; left = h.left ∙ k.left; letters = h.letters ∙ k.letters }

rule_self : (r : Rule) → AlikeRule r r
rule_self r = record { size = refl; left = refl; next = refl; letters = refl }

rules_first : (r s : Rule) (rs ss : List Rule) → AlikeRule r s → AlikeRules rs ss → AlikeRules (r ∷ rs) (s ∷ ss)
rules_first r s rs ss h k = record {
  number = ap suc k.number;
  size = ap (λ n. n + all_positions rs) h.size ∙ ap (λ n. positions_of_rule s + n) k.size;
  next = ap (λ n. all_next_by n (rule_enters r) (rules_enter rs)) h.size ∙ ap (λ z. all_next_by (positions_of_rule s) z (rules_enter rs)) h.next ∙ ap (all_next_by (positions_of_rule s) (rule_enters s)) k.next;
  left = ap (λ n. all_left_by n (rule_exits r) (rules_left rs)) h.size ∙ ap (λ x. all_left_by (positions_of_rule s) x (rules_left rs)) h.left ∙ ap (all_left_by (positions_of_rule s) (rule_exits s)) k.left;
  letters = ap (λ n. letters_by n (rule_reads r) (rules_read rs)) h.size ∙ ap (λ x. letters_by (positions_of_rule s) x (rules_read rs)) h.letters ∙ ap (letters_by (positions_of_rule s) (rule_reads s)) k.letters;
}

rules_within : (before : List Rule) (r s : Rule) (rest : List Rule) → AlikeRule r s → AlikeRules (before ++ r ∷ rest) (before ++ s ∷ rest)
rules_within [] r s rest h = rules_first r s rest rest h (rules_self rest)
rules_within (x ∷ before) r s rest h = rules_first x x (before ++ r ∷ rest) (before ++ s ∷ rest) (rule_self x) (rules_within before r s rest h)

-- one rule more is laid out
pub rules_more : (laid : List LaidRule) (l : LaidRule) (s : Rule) (rest whole : List Rule) → AlikeRule (shape_of l) s
    → AlikeRules (map shape_of laid ++ s ∷ rest) whole → AlikeRules (map shape_of (laid ++ l ∷ []) ++ rest) whole
rules_more laid l s rest whole h k =
    rw (regroup laid) (rules_on (map shape_of laid ++ shape_of l ∷ rest) (map shape_of laid ++ s ∷ rest) whole (rules_within (map shape_of laid) (shape_of l) s rest h) k)
  where
    regroup : (ls : List LaidRule) → map shape_of (ls ++ l ∷ []) ++ rest ≡ map shape_of ls ++ shape_of l ∷ rest
    regroup [] = refl
    regroup (x ∷ ls) = ap (λ ts. shape_of x ∷ ts) (regroup ls)

pub have_sized_more : (ls : List LaidRule) (l : LaidRule) → HaveSized ls → IsSizedRule l → HaveSized (ls ++ l ∷ [])
have_sized_more [] l h k = (k, tt)
have_sized_more (x ∷ ls) l h k = (h.0, have_sized_more ls l h.1 k)

pub rules_none_after : (rs : List Rule) → rs ++ [] ≡ rs
rules_none_after [] = refl
rules_none_after (r ∷ rs) = ap (λ us. r ∷ us) (rules_none_after rs)
