-- What may stand in one action, from the left.
use Rattle.std.proofs.Common.{◌≡◌, ◌≤◌, ◌<◌, Bool, true, false, List, [], ◌∷◌, refl, sym, ap, ◌∙◌}
use Rattle.std.specs.Prelude.{not, ◌&&◌, ◌||◌, nat_le}
use Rattle.std.proofs.lemmas.Bool.{le-leb, lt-leb}
use Rattle.lex_semantics.proofs.Legals.{ends_last_more}
use Rattle.lex_semantics.specs.Spec.{Statement, has_reject}
use Rattle.lex_semantics.specs.Legal.{ends_action, ends_last, has_less, has_more, count_less, are_compatible}
use Rattle.lexspec_actions.specs.Actions.{are_few}
use Rattle.lexspec_actions.specs.ActionSteps.{may_stand}

-- nothing stands after what ends the action, where the statement before did so or not
abbrev pub ends_after : Bool → List Statement → Bool
ends_after ended [] = true
ends_after ended (s ∷ ss) = not ended && ends_after (ends_action s) ss

pub ends_last_is : (ss : List Statement) → ends_after false ss ≡ ends_last ss
ends_last_is [] = refl
ends_last_is (s ∷ []) = from (ends_action s)
  where
    from : (b : Bool) → ends_after b [] ≡ true
    from b = refl
ends_last_is (s ∷ t ∷ ss) = ap (λ b. not (ends_action s) && b) (ends_last_is (t ∷ ss)) ∙ sym (ends_last_more s t ss)

-- the test, by its parts
abbrev stands : (few last reject more less one : Bool) → Bool
stands few last reject more less one = few && last && (not (reject && (more || less)) && not (less && more) && one)

pub too_many : (ss : List Statement) → are_few ss ≡ false → may_stand ss ≡ false
too_many ss h = ap (λ few. stands few (ends_last ss) (has_reject ss) (has_more ss) (has_less ss) (nat_le (count_less ss) 1)) h

no_both : (few last reject one : Bool) → stands few last reject true true one ≡ false
no_both false last reject one = refl
no_both true false reject one = refl
no_both true true false one = refl
no_both true true true one = refl

pub less_and_more : (ss : List Statement) → has_less ss ≡ true → has_more ss ≡ true → may_stand ss ≡ false
less_and_more ss h k = rw (h, k) (no_both (are_few ss) (ends_last ss) (has_reject ss) (nat_le (count_less ss) 1))

no_one : (few last reject more less : Bool) → stands few last reject more less false ≡ false
no_one false last reject more less = refl
no_one true false reject more less = refl
no_one true true false more false = refl
no_one true true false true true = refl
no_one true true false false true = refl
no_one true true true true less = refl
no_one true true true false true = refl
no_one true true true false false = refl

pub less_twice : (ss : List Statement) → 1 < count_less ss → may_stand ss ≡ false
less_twice ss h = rw (lt-leb (count_less ss) 1 h) (no_one (are_few ss) (ends_last ss) (has_reject ss) (has_more ss) (has_less ss))

no_reject : (few last more less one : Bool) → (more || less) ≡ true → stands few last true more less one ≡ false
no_reject false last more less one h = refl
no_reject true false more less one h = refl
no_reject true true true less one h = refl
no_reject true true false true one h = refl
no_reject true true false false one h = absurd (no h)
  where
    no : false ≡ true → ⊥
    no e = cc

pub reject_with : (ss : List Statement) → has_reject ss ≡ true → (has_more ss || has_less ss) ≡ true → may_stand ss ≡ false
reject_with ss h k = rw h (no_reject (are_few ss) (ends_last ss) (has_more ss) (has_less ss) (nat_le (count_less ss) 1) k)

no_last : (few : Bool) (b : Bool) → (few && false && b) ≡ false
no_last true b = refl
no_last false b = refl

pub not_last : (ss : List Statement) → ends_last ss ≡ false → may_stand ss ≡ false
not_last ss h = rw h (no_last (are_few ss) (are_compatible ss))

all_stand : (reject more less : Bool) → (less && more) ≡ false → (reject && (more || less)) ≡ false → stands true true reject more less true ≡ true
all_stand reject more less h k = rw (h, k) refl

pub may_stand_is : (ss : List Statement) → are_few ss ≡ true → (has_less ss && has_more ss) ≡ false → count_less ss ≤ 1 → (has_reject ss && (has_more ss || has_less ss)) ≡ false →
    ends_last ss ≡ true → may_stand ss ≡ true
may_stand_is ss few both one reject last = rw (few, last, le-leb (count_less ss) 1 one) (all_stand (has_reject ss) (has_more ss) (has_less ss) both reject)
