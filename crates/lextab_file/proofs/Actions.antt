-- Statements that may stand one after another, as the reader goes, are a legal action.
use Rattle.std.proofs.Common.{◌≡◌, ℕ, suc, ◌+◌, ◌-◌, ◌<◌, ◌≤◌, Bool, true, false, List, [], ◌∷◌, length, refl, ap, arith, sym, ◌∙◌}
use Rattle.std.specs.Prelude.{◌&&◌, ◌||◌, not, nat_le, nat_lt, sum_by}
use Rattle.std.proofs.lemmas.Bool.Decides.{nat_tests}
use Rattle.std.proofs.lemmas.List.{nil_from_length}
use Rattle.std.proofs.lemmas.List.Sums.{sum_by-cons}
use Rattle.lex_semantics.proofs.Legals.{ends_last_more, joined_of_normal, normal_of_joined}
use Rattle.lex_semantics.specs.Spec.{Statement, Echo, Print, Begin, More, Less, Reject, End, Push, Pop, has_reject}
use Rattle.lex_semantics.specs.Legal.{all_in_range, ends_action, ends_last, is_literal, are_joined, has_less, has_more, count_less, IsLegal}
use Rattle.lex_machine.specs.Literals.{literal_bytes}
use Rattle.lextab_packed.specs.Checks.{Each, HasText}
use Rattle.lextab_file.specs.File.{has_stack}
use Rattle.lextab_file.specs.Seen.{EachFrom, Seen, unseen, seen_after, MayStand}

-- ---- tests

pub and_is : (a b : Bool) → (a && b) ≡ true → (a ≡ true) × (b ≡ true)
and_is true b e = (refl, e)
and_is false b e = absurd cc

pub is_and : (a b : Bool) → a ≡ true → b ≡ true → (a && b) ≡ true
is_and a b h k = rw (h, k) refl

pub lt_is : (a b : ℕ) → nat_lt a b ≡ true → a < b
lt_is a b h = grind (arith, nat_tests)

pub is_lt : (a b : ℕ) → a < b → nat_lt a b ≡ true
is_lt a b h = grind (arith, nat_tests)

pub le_is : (a b : ℕ) → nat_le a b ≡ true → a ≤ b
le_is a b h = grind (arith, nat_tests)

pub is_le : (a b : ℕ) → a ≤ b → nat_le a b ≡ true
is_le a b h = grind (arith, nat_tests)

not_true : (b : Bool) → (b ≡ true → ⊥) → b ≡ false
not_true true h = absurd (h refl)
not_true false h = refl

not_false : (b : Bool) → (b ≡ false → ⊥) → b ≡ true
not_false true h = refl
not_false false h = absurd (h refl)

clash : {X : Type 0} (b : Bool) → b ≡ false → b ≡ true → X
clash b h k = absurd cc

no_first : (x : Statement) (ss : List Statement) → x ∷ ss ≡ [] → ⊥
no_first x ss e = absurd cc

apart_is : (a b : Bool) → (a ≡ true → b ≡ false) → not (a && b) ≡ true
apart_is true true h = let e = h refl in absurd cc
apart_is true false h = refl
apart_is false b h = refl

is_apart : (a b : Bool) → not (a && b) ≡ true → a ≡ true → b ≡ false
is_apart true true h e = absurd cc
is_apart true false h e = refl
is_apart false b h e = absurd cc

-- ---- what follows a statement

abbrev starts_literal : List Statement → Bool
starts_literal [] = false
starts_literal (x ∷ ss) = is_literal x

last_more : (x : Statement) (ss : List Statement) → (ends_action x ≡ true → ss ≡ []) → ends_last ss ≡ true → ends_last (x ∷ ss) ≡ true
last_more x [] h k = refl
last_more x (y ∷ ss) h k = let e = not_true (ends_action x) (λ e. no_first y ss (h e)) in ends_last_more x y ss ∙ is_and (not (ends_action x)) (ends_last (y ∷ ss)) (ap not e) k

last_less : (x : Statement) (ss : List Statement) → ends_last (x ∷ ss) ≡ true → (ends_last ss ≡ true) × (ends_action x ≡ true → ss ≡ [])
last_less x [] h = (refl, λ e. refl)
last_less x (y ∷ ss) h = let p = and_is (not (ends_action x)) (ends_last (y ∷ ss)) (sym (ends_last_more x y ss) ∙ h) in (p.1, λ e. absurd (not_both (ends_action x) p.0 e))
  where
    not_both : (b : Bool) → not b ≡ true → b ≡ true → ⊥
    not_both true h k = absurd cc
    not_both false h k = absurd cc

joined_more : (x : Statement) (ss : List Statement) → (is_literal x ≡ true → starts_literal ss ≡ false) → are_joined ss ≡ true → are_joined (x ∷ ss) ≡ true
joined_more x [] h k = refl
joined_more x (y ∷ ss) h k = is_and (not (is_literal x && is_literal y)) (are_joined (y ∷ ss)) (apart_is (is_literal x) (is_literal y) h) k

joined_less : (x : Statement) (ss : List Statement) → are_joined (x ∷ ss) ≡ true → (are_joined ss ≡ true) × (is_literal x ≡ true → starts_literal ss ≡ false)
joined_less x [] h = (refl, λ e. refl)
joined_less x (y ∷ ss) h = let p = and_is (not (is_literal x && is_literal y)) (are_joined (y ∷ ss)) h in (p.1, is_apart (is_literal x) (is_literal y) p.0)

none_counted : (ss : List Statement) → has_less ss ≡ false → count_less ss ≡ 0
none_counted [] h = refl
none_counted (Echo ∷ ss) h = none_counted ss h
none_counted (Print b ∷ ss) h = none_counted ss h
none_counted (Begin c ∷ ss) h = none_counted ss h
none_counted (More ∷ ss) h = none_counted ss h
none_counted (Less n ∷ ss) h = absurd cc
none_counted (Reject ∷ ss) h = none_counted ss h
none_counted (End c ∷ ss) h = none_counted ss h
none_counted (Push c ∷ ss) h = none_counted ss h
none_counted (Pop ∷ ss) h = none_counted ss h

counted_none : (ss : List Statement) → count_less ss ≡ 0 → has_less ss ≡ false
counted_none [] h = refl
counted_none (Echo ∷ ss) h = counted_none ss h
counted_none (Print b ∷ ss) h = counted_none ss h
counted_none (Begin c ∷ ss) h = counted_none ss h
counted_none (More ∷ ss) h = counted_none ss h
counted_none (Less n ∷ ss) h = absurd (omega (arith, h))
counted_none (Reject ∷ ss) h = counted_none ss h
counted_none (End c ∷ ss) h = counted_none ss h
counted_none (Push c ∷ ss) h = counted_none ss h
counted_none (Pop ∷ ss) h = counted_none ss h

texts_at : (i j : ℕ) (ss : List Statement) → Each HasText i ss → Each HasText j ss
texts_at i j [] h = tt
texts_at i j (Echo ∷ ss) h = (tt, texts_at (suc i) (suc j) ss h.1)
texts_at i j (Print b ∷ ss) h = (h.0, texts_at (suc i) (suc j) ss h.1)
texts_at i j (Begin c ∷ ss) h = (tt, texts_at (suc i) (suc j) ss h.1)
texts_at i j (More ∷ ss) h = (tt, texts_at (suc i) (suc j) ss h.1)
texts_at i j (Less n ∷ ss) h = (tt, texts_at (suc i) (suc j) ss h.1)
texts_at i j (Reject ∷ ss) h = (tt, texts_at (suc i) (suc j) ss h.1)
texts_at i j (End c ∷ ss) h = (tt, texts_at (suc i) (suc j) ss h.1)
texts_at i j (Push c ∷ ss) h = (tt, texts_at (suc i) (suc j) ss h.1)
texts_at i j (Pop ∷ ss) h = (tt, texts_at (suc i) (suc j) ss h.1)

-- what the rest of an action keeps to, where this was seen before it
record Fits (n : ℕ) (s : Seen) (ss : List Statement) : Type 0 where
  ranges : all_in_range n ss ≡ true
  last : ends_last ss ≡ true
  left : s.left ≡ length ss
  joined : are_joined ss ≡ true
  apart : s.printed ≡ true → starts_literal ss ≡ false
  literals : s.literal + sum_by literal_bytes ss ≤ 4096
  less : s.less ≡ true → (has_less ss ≡ false) × ((has_more ss ≡ false) × (has_reject ss ≡ false))
  more : s.more ≡ true → (has_less ss ≡ false) × (has_reject ss ≡ false)
  reject_alone : has_reject ss ≡ true → (has_more ss ≡ false) × (has_less ss ≡ false)
  less_alone : has_less ss ≡ true → has_more ss ≡ false
  one_less : count_less ss ≤ 1
  bytes : Each HasText 0 ss
  stacks : s.stack ≡ false → has_stack ss ≡ false

fits : (n : ℕ) (s : Seen) (ss : List Statement) → s.literal ≤ 4096 → s.left ≡ length ss → EachFrom (MayStand n) seen_after s ss → Fits n s ss
fits n s [] low left h = record {
  ranges = refl;
  last = refl;
  left = left;
  joined = refl;
  apart = λ e. refl;
  literals = omega arith;
  less = λ e. (refl, (refl, refl));
  more = λ e. (refl, refl);
  reject_alone = λ e. (refl, refl);
  less_alone = λ e. refl;
  one_less = omega arith;
  bytes = tt;
  stacks = λ e. refl;
}
fits n s (Echo ∷ ss) low left h =
    let r = fits n (seen_after s Echo) ss (omega (arith, low)) (omega (arith, left)) h.1 in
    record {
      ranges = r.ranges;
      last = last_more Echo ss (λ e. absurd cc) r.last;
      left = left;
      joined = joined_more Echo ss (λ e. absurd cc) r.joined;
      apart = λ e. refl;
      literals = omega (arith, r.literals, sum_by-cons literal_bytes Echo ss);
      less = r.less;
      more = r.more;
      reject_alone = r.reject_alone;
      less_alone = r.less_alone;
      one_less = r.one_less;
      bytes = (tt, texts_at 0 1 ss r.bytes);
      stacks = r.stacks;
    }
fits n s (Print b ∷ ss) low left h =
    let len = h.0.1.0 in
    let room : s.literal + length b ≤ 4096 = let most = len.1 in omega arith in
    let r = fits n (seen_after s (Print b)) ss room (omega (arith, left)) h.1 in
    record {
      ranges = is_and (nat_le 1 (length b)) (all_in_range n ss) (is_le 1 (length b) len.0) r.ranges;
      last = last_more (Print b) ss (λ e. absurd cc) r.last;
      left = left;
      joined = joined_more (Print b) ss (λ e. r.apart refl) r.joined;
      apart = λ e. clash s.printed h.0.0 e;
      literals = omega (arith, r.literals, sum_by-cons literal_bytes (Print b) ss);
      less = r.less;
      more = r.more;
      reject_alone = r.reject_alone;
      less_alone = r.less_alone;
      one_less = r.one_less;
      bytes = (h.0.1.1, texts_at 0 1 ss r.bytes);
      stacks = r.stacks;
    }
fits n s (Begin c ∷ ss) low left h =
    let r = fits n (seen_after s (Begin c)) ss (omega (arith, low)) (omega (arith, left)) h.1 in
    record {
      ranges = is_and (nat_lt c n) (all_in_range n ss) (is_lt c n h.0) r.ranges;
      last = last_more (Begin c) ss (λ e. absurd cc) r.last;
      left = left;
      joined = joined_more (Begin c) ss (λ e. absurd cc) r.joined;
      apart = λ e. refl;
      literals = omega (arith, r.literals, sum_by-cons literal_bytes (Begin c) ss);
      less = r.less;
      more = r.more;
      reject_alone = r.reject_alone;
      less_alone = r.less_alone;
      one_less = r.one_less;
      bytes = (tt, texts_at 0 1 ss r.bytes);
      stacks = r.stacks;
    }
fits n s (More ∷ ss) low left h =
    let r = fits n (seen_after s More) ss (omega (arith, low)) (omega (arith, left)) h.1 in
    let m = r.more refl in
    record {
      ranges = r.ranges;
      last = last_more More ss (λ e. absurd cc) r.last;
      left = left;
      joined = joined_more More ss (λ e. absurd cc) r.joined;
      apart = λ e. refl;
      literals = omega (arith, r.literals, sum_by-cons literal_bytes More ss);
      less = λ e. clash s.less h.0 e;
      more = λ e. m;
      reject_alone = λ e. clash (has_reject ss) m.1 e;
      less_alone = λ e. clash (has_less ss) m.0 e;
      one_less = r.one_less;
      bytes = (tt, texts_at 0 1 ss r.bytes);
      stacks = r.stacks;
    }
fits n s (Less k ∷ ss) low left h =
    let r = fits n (seen_after s (Less k)) ss (omega (arith, low)) (omega (arith, left)) h.1 in
    let l = r.less refl in
    let least = h.0.1.1.0 in
    let most : k ≤ 65535 = let lt = h.0.1.1.1 in omega arith in
    record {
      ranges = is_and (nat_le 1 k && nat_le k 65535) (all_in_range n ss) (is_and (nat_le 1 k) (nat_le k 65535) (is_le 1 k least) (is_le k 65535 most)) r.ranges;
      last = last_more (Less k) ss (λ e. absurd cc) r.last;
      left = left;
      joined = joined_more (Less k) ss (λ e. absurd cc) r.joined;
      apart = λ e. refl;
      literals = omega (arith, r.literals, sum_by-cons literal_bytes (Less k) ss);
      less = λ e. clash s.less h.0.0 e;
      more = λ e. clash s.more h.0.1.0 e;
      reject_alone = λ e. clash (has_reject ss) l.1.1 e;
      less_alone = λ e. l.1.0;
      one_less = omega (arith, none_counted ss l.0);
      bytes = (tt, texts_at 0 1 ss r.bytes);
      stacks = r.stacks;
    }
fits n s (Reject ∷ ss) low left h =
    let r = fits n (seen_after s Reject) ss (omega (arith, low)) (omega (arith, left)) h.1 in
    let none = nil_from_length ss (omega (arith, left, h.0.1)) in
    record {
      ranges = r.ranges;
      last = last_more Reject ss (λ e. none) r.last;
      left = left;
      joined = joined_more Reject ss (λ e. absurd cc) r.joined;
      apart = λ e. refl;
      literals = omega (arith, r.literals, sum_by-cons literal_bytes Reject ss);
      less = λ e. clash s.less h.0.0.0 e;
      more = λ e. clash s.more h.0.0.1 e;
      reject_alone = λ e. (ap has_more none, ap has_less none);
      less_alone = λ e. ap has_more none;
      one_less = r.one_less;
      bytes = (tt, texts_at 0 1 ss r.bytes);
      stacks = r.stacks;
    }
fits n s (End k ∷ ss) low left h =
    let r = fits n (seen_after s (End k)) ss (omega (arith, low)) (omega (arith, left)) h.1 in
    let none = nil_from_length ss (omega (arith, left, h.0.0)) in
    let most : k ≤ 63 = let lt = h.0.1 in omega arith in
    record {
      ranges = is_and (nat_le k 63) (all_in_range n ss) (is_le k 63 most) r.ranges;
      last = last_more (End k) ss (λ e. none) r.last;
      left = left;
      joined = joined_more (End k) ss (λ e. absurd cc) r.joined;
      apart = λ e. refl;
      literals = omega (arith, r.literals, sum_by-cons literal_bytes (End k) ss);
      less = r.less;
      more = r.more;
      reject_alone = r.reject_alone;
      less_alone = r.less_alone;
      one_less = r.one_less;
      bytes = (tt, texts_at 0 1 ss r.bytes);
      stacks = r.stacks;
    }
fits n s (Push c ∷ ss) low left h =
    let r = fits n (seen_after s (Push c)) ss (omega (arith, low)) (omega (arith, left)) h.1 in
    record {
      ranges = is_and (nat_lt c n) (all_in_range n ss) (is_lt c n h.0.1) r.ranges;
      last = last_more (Push c) ss (λ e. absurd cc) r.last;
      left = left;
      joined = joined_more (Push c) ss (λ e. absurd cc) r.joined;
      apart = λ e. refl;
      literals = omega (arith, r.literals, sum_by-cons literal_bytes (Push c) ss);
      less = r.less;
      more = r.more;
      reject_alone = r.reject_alone;
      less_alone = r.less_alone;
      one_less = r.one_less;
      bytes = (tt, texts_at 0 1 ss r.bytes);
      stacks = λ e. clash s.stack e h.0.0;
    }
fits n s (Pop ∷ ss) low left h =
    let r = fits n (seen_after s Pop) ss (omega (arith, low)) (omega (arith, left)) h.1 in
    record {
      ranges = r.ranges;
      last = last_more Pop ss (λ e. absurd cc) r.last;
      left = left;
      joined = joined_more Pop ss (λ e. absurd cc) r.joined;
      apart = λ e. refl;
      literals = omega (arith, r.literals, sum_by-cons literal_bytes Pop ss);
      less = r.less;
      more = r.more;
      reject_alone = r.reject_alone;
      less_alone = r.less_alone;
      one_less = r.one_less;
      bytes = (tt, texts_at 0 1 ss r.bytes);
      stacks = λ e. clash s.stack e h.0;
    }

stand : (n : ℕ) (s : Seen) (ss : List Statement) → Fits n s ss → EachFrom (MayStand n) seen_after s ss
stand n s [] f = tt
stand n s (Echo ∷ ss) f =
    let left : s.left - 1 ≡ length ss = omega (arith, f.left) in
    let l = last_less Echo ss f.last in
    let j = joined_less Echo ss f.joined in (
      tt,
      stand n (seen_after s Echo) ss (record {
        ranges = f.ranges;
        last = l.0;
        left = left;
        joined = j.0;
        apart = λ e. absurd cc;
        literals = omega (arith, f.literals, sum_by-cons literal_bytes Echo ss);
        less = f.less;
        more = f.more;
        reject_alone = f.reject_alone;
        less_alone = f.less_alone;
        one_less = f.one_less;
        bytes = texts_at 1 0 ss f.bytes.1;
        stacks = f.stacks;
      }),
    )
stand n s (Print b ∷ ss) f =
    let left : s.left - 1 ≡ length ss = omega (arith, f.left) in
    let l = last_less (Print b) ss f.last in
    let j = joined_less (Print b) ss f.joined in
    let r = and_is (nat_le 1 (length b)) (all_in_range n ss) f.ranges in
    let total : s.literal + (length b + sum_by literal_bytes ss) ≤ 4096 = omega (arith, f.literals, sum_by-cons literal_bytes (Print b) ss) in
    let room : length b ≤ 4096 - s.literal = omega arith in (
      (not_true s.printed (λ e. let k = f.apart e in absurd cc), ((le_is 1 (length b) r.0, room), f.bytes.0)),
      stand n (seen_after s (Print b)) ss (record {
        ranges = r.1;
        last = l.0;
        left = left;
        joined = j.0;
        apart = λ e. j.1 refl;
        literals = omega (arith, f.literals, sum_by-cons literal_bytes (Print b) ss);
        less = f.less;
        more = f.more;
        reject_alone = f.reject_alone;
        less_alone = f.less_alone;
        one_less = f.one_less;
        bytes = texts_at 1 0 ss f.bytes.1;
        stacks = f.stacks;
      }),
    )
stand n s (Begin c ∷ ss) f =
    let left : s.left - 1 ≡ length ss = omega (arith, f.left) in
    let l = last_less (Begin c) ss f.last in
    let j = joined_less (Begin c) ss f.joined in
    let r = and_is (nat_lt c n) (all_in_range n ss) f.ranges in (
      lt_is c n r.0,
      stand n (seen_after s (Begin c)) ss (record {
        ranges = r.1;
        last = l.0;
        left = left;
        joined = j.0;
        apart = λ e. absurd cc;
        literals = omega (arith, f.literals, sum_by-cons literal_bytes (Begin c) ss);
        less = f.less;
        more = f.more;
        reject_alone = f.reject_alone;
        less_alone = f.less_alone;
        one_less = f.one_less;
        bytes = texts_at 1 0 ss f.bytes.1;
        stacks = f.stacks;
      }),
    )
stand n s (More ∷ ss) f =
    let left : s.left - 1 ≡ length ss = omega (arith, f.left) in
    let l = last_less More ss f.last in
    let j = joined_less More ss f.joined in
    let less = not_true s.less (λ e. let k = (f.less e).1.0 in absurd cc) in (
      less,
      stand n (seen_after s More) ss (record {
        ranges = f.ranges;
        last = l.0;
        left = left;
        joined = j.0;
        apart = λ e. absurd cc;
        literals = omega (arith, f.literals, sum_by-cons literal_bytes More ss);
        less = λ e. clash s.less less e;
        more = λ e. (not_true (has_less ss) (λ e. let k = f.less_alone e in absurd cc), not_true (has_reject ss) (λ e. let k = (f.reject_alone e).0 in absurd cc));
        reject_alone = λ e. let k = (f.reject_alone e).0 in absurd cc;
        less_alone = λ e. let k = f.less_alone e in absurd cc;
        one_less = f.one_less;
        bytes = texts_at 1 0 ss f.bytes.1;
        stacks = f.stacks;
      }),
    )
stand n s (Less k ∷ ss) f =
    let left : s.left - 1 ≡ length ss = omega (arith, f.left) in
    let l = last_less (Less k) ss f.last in
    let j = joined_less (Less k) ss f.joined in
    let less = not_true s.less (λ e. let k = (f.less e).0 in absurd cc) in
    let more = not_true s.more (λ e. let k = (f.more e).0 in absurd cc) in
    let r = and_is (nat_le 1 k && nat_le k 65535) (all_in_range n ss) f.ranges in
    let p = and_is (nat_le 1 k) (nat_le k 65535) r.0 in
    let most : k < 65536 = let le = le_is k 65535 p.1 in omega arith in
    let count = f.one_less in
    let no_reject = not_true (has_reject ss) (λ e. let k = (f.reject_alone e).1 in absurd cc) in (
      (less, (more, (le_is 1 k p.0, most))),
      stand n (seen_after s (Less k)) ss (record {
        ranges = r.1;
        last = l.0;
        left = left;
        joined = j.0;
        apart = λ e. absurd cc;
        literals = omega (arith, f.literals, sum_by-cons literal_bytes (Less k) ss);
        less = λ e. (counted_none ss (omega (arith, count)), (f.less_alone refl, no_reject));
        more = λ e. clash s.more more e;
        reject_alone = λ e. clash (has_reject ss) no_reject e;
        less_alone = λ e. f.less_alone refl;
        one_less = omega (arith, count);
        bytes = texts_at 1 0 ss f.bytes.1;
        stacks = f.stacks;
      }),
    )
stand n s (Reject ∷ ss) f =
    let left : s.left - 1 ≡ length ss = omega (arith, f.left) in
    let l = last_less Reject ss f.last in
    let j = joined_less Reject ss f.joined in
    let less = not_true s.less (λ e. let k = (f.less e).1.1 in absurd cc) in
    let more = not_true s.more (λ e. let k = (f.more e).1 in absurd cc) in
    let none = l.1 refl in
    let last : s.left ≤ 1 = omega (arith, f.left, ap length none) in (
      ((less, more), last),
      stand n (seen_after s Reject) ss (record {
        ranges = f.ranges;
        last = l.0;
        left = left;
        joined = j.0;
        apart = λ e. absurd cc;
        literals = omega (arith, f.literals, sum_by-cons literal_bytes Reject ss);
        less = λ e. clash s.less less e;
        more = λ e. clash s.more more e;
        reject_alone = λ e. (ap has_more none, ap has_less none);
        less_alone = λ e. ap has_more none;
        one_less = f.one_less;
        bytes = texts_at 1 0 ss f.bytes.1;
        stacks = f.stacks;
      }),
    )
stand n s (End k ∷ ss) f =
    let left : s.left - 1 ≡ length ss = omega (arith, f.left) in
    let l = last_less (End k) ss f.last in
    let j = joined_less (End k) ss f.joined in
    let r = and_is (nat_le k 63) (all_in_range n ss) f.ranges in
    let most : k < 64 = let le = le_is k 63 r.0 in omega arith in
    let none = l.1 refl in
    let last : s.left ≤ 1 = omega (arith, f.left, ap length none) in (
      (last, most),
      stand n (seen_after s (End k)) ss (record {
        ranges = r.1;
        last = l.0;
        left = left;
        joined = j.0;
        apart = λ e. absurd cc;
        literals = omega (arith, f.literals, sum_by-cons literal_bytes (End k) ss);
        less = f.less;
        more = f.more;
        reject_alone = f.reject_alone;
        less_alone = f.less_alone;
        one_less = f.one_less;
        bytes = texts_at 1 0 ss f.bytes.1;
        stacks = f.stacks;
      }),
    )
stand n s (Push c ∷ ss) f =
    let left : s.left - 1 ≡ length ss = omega (arith, f.left) in
    let l = last_less (Push c) ss f.last in
    let j = joined_less (Push c) ss f.joined in
    let r = and_is (nat_lt c n) (all_in_range n ss) f.ranges in
    let on = not_false s.stack (λ e. let k = f.stacks e in absurd cc) in (
      (on, lt_is c n r.0),
      stand n (seen_after s (Push c)) ss (record {
        ranges = r.1;
        last = l.0;
        left = left;
        joined = j.0;
        apart = λ e. absurd cc;
        literals = omega (arith, f.literals, sum_by-cons literal_bytes (Push c) ss);
        less = f.less;
        more = f.more;
        reject_alone = f.reject_alone;
        less_alone = f.less_alone;
        one_less = f.one_less;
        bytes = texts_at 1 0 ss f.bytes.1;
        stacks = λ e. clash s.stack e on;
      }),
    )
stand n s (Pop ∷ ss) f =
    let left : s.left - 1 ≡ length ss = omega (arith, f.left) in
    let l = last_less Pop ss f.last in
    let j = joined_less Pop ss f.joined in
    let on = not_false s.stack (λ e. let k = f.stacks e in absurd cc) in (
      on,
      stand n (seen_after s Pop) ss (record {
        ranges = f.ranges;
        last = l.0;
        left = left;
        joined = j.0;
        apart = λ e. absurd cc;
        literals = omega (arith, f.literals, sum_by-cons literal_bytes Pop ss);
        less = f.less;
        more = f.more;
        reject_alone = f.reject_alone;
        less_alone = f.less_alone;
        one_less = f.one_less;
        bytes = texts_at 1 0 ss f.bytes.1;
        stacks = λ e. clash s.stack e on;
      }),
    )

-- ---- the whole action

compatible_parts : (r m l : Bool) (k : ℕ) → (not (r && (m || l)) && not (l && m) && nat_le k 1) ≡ true → (r ≡ true → (m ≡ false) × (l ≡ false)) × ((l ≡ true → m ≡ false) × (k ≤ 1))
compatible_parts true true l k h = absurd cc
compatible_parts true false true k h = absurd cc
compatible_parts true false false k h = ((λ e. (refl, refl)), ((λ e. refl), le_is k 1 h))
compatible_parts false true true k h = absurd cc
compatible_parts false true false k h = ((λ e. absurd cc), ((λ e. absurd cc), le_is k 1 h))
compatible_parts false false true k h = ((λ e. absurd cc), ((λ e. refl), le_is k 1 h))
compatible_parts false false false k h = ((λ e. absurd cc), ((λ e. absurd cc), le_is k 1 h))

compatible_is : (r m l : Bool) (k : ℕ) → (r ≡ true → (m ≡ false) × (l ≡ false)) → (l ≡ true → m ≡ false) → k ≤ 1 → (not (r && (m || l)) && not (l && m) && nat_le k 1) ≡ true
compatible_is true true l k h g le = let e = (h refl).0 in absurd cc
compatible_is true false true k h g le = let e = (h refl).1 in absurd cc
compatible_is true false false k h g le = is_le k 1 le
compatible_is false true true k h g le = let e = g refl in absurd cc
compatible_is false true false k h g le = is_le k 1 le
compatible_is false false true k h g le = is_le k 1 le
compatible_is false false false k h g le = is_le k 1 le

pub record IsAction (n : ℕ) (ss : List Statement) : Type 0 where
  pub few : length ss ≤ 256
  pub literals : sum_by literal_bytes ss ≤ 4096
  pub legal : IsLegal n ss
  pub bytes : Each HasText 0 ss

-- the statements that the version has
abbrev pub InVersion : Bool → List Statement → Type 0
InVersion stack ss = stack ≡ false → has_stack ss ≡ false

pub action_is : (n : ℕ) (stack : Bool) (ss : List Statement) → length ss ≤ 256 → EachFrom (MayStand n) seen_after (unseen stack (length ss)) ss → IsAction n ss × InVersion stack ss
action_is n stack ss few h =
    let f = fits n (unseen stack (length ss)) ss (omega arith) refl h in (
      record {
        few = few;
        literals = omega (arith, f.literals);
        legal = (record { ranges = f.ranges; last = f.last; compatible = compatible_is (has_reject ss) (has_more ss) (has_less ss) (count_less ss) f.reject_alone f.less_alone f.one_less }, normal_of_joined n ss f.ranges f.joined);
        bytes = f.bytes;
      },
      f.stacks,
    )

pub is_action : (n : ℕ) (stack : Bool) (ss : List Statement) → IsAction n ss → InVersion stack ss → EachFrom (MayStand n) seen_after (unseen stack (length ss)) ss
is_action n stack ss a version =
    let p = compatible_parts (has_reject ss) (has_more ss) (has_less ss) (count_less ss) a.legal.0.compatible in
    stand n (unseen stack (length ss)) ss (record {
      ranges = a.legal.0.ranges;
      last = a.legal.0.last;
      left = refl;
      joined = joined_of_normal ss a.legal.1;
      apart = λ e. absurd cc;
      literals = omega (arith, a.literals);
      less = λ e. absurd cc;
      more = λ e. absurd cc;
      reject_alone = p.0;
      less_alone = p.1.0;
      one_less = p.1.1;
      bytes = a.bytes;
      stacks = version;
    })
