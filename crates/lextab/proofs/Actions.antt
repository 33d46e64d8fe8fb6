-- Conditions and rules of a specification that passes its test, in a table.
use Rattle.std.proofs.Common.{◌≡◌, ℕ, zero, suc, ◌+◌, ◌<◌, ◌≤◌, Bool, true, false, List, [], ◌∷◌, length, map, refl, sym, ap, subst, ◌∙◌, arith, Option, Some, None}
use Rattle.std.specs.Prelude.{◌&&◌, ◌||◌, not, nat_le, cond, slice_get, sum_by}
use Rattle.std.proofs.lemmas.Bool.{and_parts, leb-true, false≢true}
use Rattle.lex_semantics.proofs.Legals.{normal_of_joined}
use Rattle.lex_semantics.specs.Text.{IsText}
use Rattle.lex_semantics.specs.Tree.{Tree}
use Rattle.lex_semantics.specs.Spec as S
use Rattle.lex_semantics.specs.Legal.{IsLegal, all_in_range, ends_last, are_joined, are_compatible}
use Rattle.lex_machine.specs.Literals.{literal_bytes}
use Rattle.lexspec_actions.specs.Actions.{are_few}
use Rattle.lexspec.specs.Tests.{sound_tree, sound_trail, cut_fits, has_length, has_fixed, is_fixed, sound_list, legal_action, sound_rule, sound_rules, sound_end, sound_conditions}
use Rattle.lexauto_dfa.specs.Machines as D
use Rattle.lextab_packed.specs.Table as T
use Rattle.lextab_packed.specs.Checks.{Each, Sizes, IsCondition, IsCutInRange, HasText, IsTableRule, some_rule_rejects}
use Rattle.lextab_packed.proofs.Finding as T'
use Rattle.lextab.specs.Assembled.{conditions_with, action_in}

fixed_small : (t : Tree) (n : ℕ) → has_fixed t n ≡ true → n ≤ 65535
fixed_small t n h = leb-true n 65535 (and_parts (has_length t n) (nat_le n 65535) h).1

cut_small : (cut : S.Cut) (head : Tree) (trail : Option Tree) → cut_fits cut head trail ≡ true → IsCutInRange cut
cut_small S.Whole head trail h = tt
cut_small (S.Head m) head None h = absurd (false≢true h)
cut_small (S.Head m) head (Some t) h = fixed_small head m h
cut_small (S.Trail n) head None h = absurd (false≢true h)
cut_small (S.Trail n) head (Some t) h = fixed_small t n (and_parts (not (is_fixed head)) (has_fixed t n) h).1

legal_from : (n : ℕ) (ss : List S.Statement) → legal_action n ss ≡ true → IsLegal n ss
legal_from n ss h =
    let three = and_parts (all_in_range n ss && ends_last ss && are_joined ss) (are_compatible ss) h in
    let two = and_parts (all_in_range n ss && ends_last ss) (are_joined ss) three.0 in
    let one = and_parts (all_in_range n ss) (ends_last ss) two.0 in
    (record { ranges = one.0; last = one.1; compatible = three.1 }, normal_of_joined n ss one.0 two.1)

one_rule : (z : Sizes) (n i : ℕ) (r : S.Rule) → z.conditions ≡ n → sound_rule n r ≡ true → Each HasText 0 r.statements → IsTableRule z.conditions i (action_in r)
one_rule z n i r e h text =
    let five = and_parts (sound_list n r.conditions && sound_tree r.head && sound_trail r.trail && cut_fits r.cut r.head r.trail && legal_action n r.statements) (are_few r.statements) h in
    let four = and_parts (sound_list n r.conditions && sound_tree r.head && sound_trail r.trail && cut_fits r.cut r.head r.trail) (legal_action n r.statements) five.0 in
    let three = and_parts (sound_list n r.conditions && sound_tree r.head && sound_trail r.trail) (cut_fits r.cut r.head r.trail) four.0 in
    let few = and_parts (nat_le (length r.statements) 256) (nat_le (sum_by literal_bytes r.statements) 4096) five.1 in
    record {
      cut = cut_small r.cut r.head r.trail three.1;
      few = leb-true (length r.statements) 256 few.0;
      literals = leb-true (sum_by literal_bytes r.statements) 4096 few.1;
      legal = subst (λ (m : ℕ). IsLegal m r.statements) (sym e) (legal_from n r.statements four.1);
      bytes = text;
    }

pub each_rule : (z : Sizes) (n i : ℕ) (rs : List S.Rule) → z.conditions ≡ n → sound_rules n rs ≡ true → Each (λ k (r : T.RuleOfTable). Each HasText 0 r.statements) i (map action_in rs) → Each (IsTableRule z.conditions) i (map action_in rs)
each_rule z n i [] e h text = tt
each_rule z n i (r ∷ rs) e h text =
    let both = and_parts (sound_rule n r) (sound_rules n rs) h in
    (one_rule z n i r e both.0 text.0, each_rule z n (suc i) rs e both.1 text.1)

pub each_condition : (z : Sizes) (start : ℕ → Bool → ℕ) (i : ℕ) (cs : List S.Condition) → sound_conditions cs ≡ true → ((c : ℕ) (line_start : Bool) → c < i + length cs → start c line_start < z.states)
    → Each (λ k (c : T.ConditionOfTable). IsText c.end.print) i (conditions_with start i cs) → Each (IsCondition z.states) i (conditions_with start i cs)
each_condition z start i [] h below text = tt
each_condition z start i (c ∷ cs) h below text =
    let both = and_parts (sound_end c.end) (sound_conditions cs) h in
    let end = and_parts (nat_le c.end.status 63) (nat_le (length c.end.print) 4096) both.0 in (
      record {
        start = below i false (omega arith);
        line_start = below i true (omega arith);
        print = leb-true (length c.end.print) 4096 end.1;
        bytes = text.0;
        status = leb-true c.end.status 63 end.0;
      },
      each_condition z start (suc i) cs both.1 (λ d line_start lt. below d line_start (omega (arith, lt))) text.1,
    )

pub conditions_len : (start : ℕ → Bool → ℕ) (i : ℕ) (cs : List S.Condition) → length (conditions_with start i cs) ≡ length cs
conditions_len start i [] = refl
conditions_len start i (c ∷ cs) = ap suc (conditions_len start (suc i) cs)

pub same_reject : (rs : List S.Rule) → some_rule_rejects (map action_in rs) ≡ S.any_reject rs
same_reject [] = refl
same_reject (r ∷ rs) = ap (λ (b : Bool). S.has_reject r.statements || b) (same_reject rs)

pub same_cut : (rs : List S.Rule) (i : ℕ) → T'.cut_at (slice_get (map action_in rs) i) ≡ D.cut_at (slice_get rs i)
same_cut [] i = refl
same_cut (r ∷ rs) zero = refl
same_cut (r ∷ rs) (suc i) = same_cut rs i

pub same_statements : (rs : List S.Rule) (i : ℕ) → T'.statements_at (slice_get (map action_in rs) i) ≡ S.statements_at (slice_get rs i)
same_statements [] i = refl
same_statements (r ∷ rs) zero = refl
same_statements (r ∷ rs) (suc i) = same_statements rs i

pub same_ending : (start : ℕ → Bool → ℕ) (n : ℕ) (cs : List S.Condition) (c : ℕ) → T'.ending_at (slice_get (conditions_with start n cs) c) ≡ S.end_at (slice_get cs c)
same_ending start n [] c = refl
same_ending start n (k ∷ cs) zero = refl
same_ending start n (k ∷ cs) (suc c) = same_ending start (suc n) cs c

by_line_start : (start : ℕ → Bool → ℕ) (n : ℕ) (line_start : Bool) → cond line_start (start n true) (start n false) ≡ start n line_start
by_line_start start n true = refl
by_line_start start n false = refl

-- a start that is 0 past the conditions
pub same_start : (start : ℕ → Bool → ℕ) (n : ℕ) (cs : List S.Condition) (c : ℕ) (line_start : Bool) → ((d : ℕ) → n + length cs ≤ d → start d line_start ≡ 0)
    → T'.start_at (slice_get (conditions_with start n cs) c) line_start ≡ start (n + c) line_start
same_start start n [] c line_start past = sym (past (n + c) (omega arith))
same_start start n (k ∷ cs) zero line_start past = by_line_start start n line_start ∙ (let e : n ≡ n + 0 = omega arith in ap (λ (m : ℕ). start m line_start) e)
same_start start n (k ∷ cs) (suc c) line_start past = same_start start (suc n) cs c line_start (λ d h. past d (omega (arith, h))) ∙ (let e : suc n + c ≡ n + suc c = omega arith in ap (λ (m : ℕ). start m line_start) e)
