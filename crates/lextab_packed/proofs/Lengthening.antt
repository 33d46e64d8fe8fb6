-- States whose first rule does yymore alone.
use Rattle.std.proofs.Common.{◌≡◌, ℕ, ◌<◌, Bool, true, false, List, [], ◌∷◌, length, replicate, slice_set, subst, sym, refl, inl, inr}
use Rattle.std.proofs.lemmas.Bool.{false≢true}
use Rattle.lex_semantics.specs.Spec as S
use Rattle.lex_semantics.specs.Machine.{Machine}
use Rattle.lex_machine.specs.Glances.{FirstDoes}
use Rattle.lextab_packed.specs.Mores.{is_more, more_keeping, more_first, does_more, TellMore}
use Rattle.lextab_packed.proofs.Passing.{none_set}
use Rattle.lextab_packed.proofs.Spreads.{flag_set}

-- such an action has this statement and no other
more_is : (ss : List S.Statement) → is_more ss ≡ true → ss ≡ S.More ∷ []
more_is [] e = absurd (false≢true e)
more_is (S.More ∷ []) e = refl
more_is (S.More ∷ x ∷ ss) e = absurd (false≢true e)
more_is (S.Echo ∷ ss) e = absurd (false≢true e)
more_is (S.Print bytes ∷ ss) e = absurd (false≢true e)
more_is (S.Begin c ∷ ss) e = absurd (false≢true e)
more_is (S.Less n ∷ ss) e = absurd (false≢true e)
more_is (S.Reject ∷ ss) e = absurd (false≢true e)
more_is (S.End n ∷ ss) e = absurd (false≢true e)
more_is (S.Push c ∷ ss) e = absurd (false≢true e)
more_is (S.Pop ∷ ss) e = absurd (false≢true e)

module _ (M : Machine) (s : ℕ) where
  keeping : (rule : ℕ) (others : List ℕ) → M.accepts s ≡ rule ∷ others → (cut : S.Cut) → M.cut rule ≡ cut → more_keeping cut (M.statements rule) ≡ true → FirstDoes M s (S.More ∷ [])
  keeping rule others a S.Whole w e = record { rule = rule; others = others; accepts = a; whole = w; does = more_is (M.statements rule) e }
  keeping rule others a (S.Head n) w e = absurd (false≢true e)
  keeping rule others a (S.Trail n) w e = absurd (false≢true e)

  first : (l : List ℕ) → M.accepts s ≡ l → more_first M l ≡ true → FirstDoes M s (S.More ∷ [])
  first [] a e = absurd (false≢true e)
  first (rule ∷ others) a e = keeping rule others a (M.cut rule) refl e

  -- what is told of it
  pub told_more : does_more M s ≡ true → FirstDoes M s (S.More ∷ [])
  told_more e = first (M.accepts s) refl e

-- one state more is marked, or none so far
pub one_more : (M : Machine) (mores : List Bool) (s : ℕ) → s < length mores → does_more M s ≡ true → TellMore M mores → TellMore M (slice_set mores s true)
one_more M mores s lt does told x is = elim (flag_set mores s x lt is) [
  | inl old ↦ told x old
  | inr e ↦ subst (λ y. does_more M y ≡ true) (sym e) does
]

pub none_yet : (M : Machine) (n : ℕ) → TellMore M (replicate n false)
none_yet M n x is = absurd (none_set n x is)
