-- Of signs on signs one is enough.
use Rattle.std.specs.Prelude.{◌≡◌, ℕ, ◌||◌, ◌&&◌, Bool, true, false, Some, None}
use Rattle.std.proofs.Common.{refl, ap, sym, ◌∙◌, arith}
use Rattle.std.proofs.Math.Path.{fun_ext}
use Rattle.lex_semantics.specs.Tree.{Tree, Star, Repeat}
use Rattle.lex_semantics.specs.Positions.{positions}
use Rattle.lexauto_positions.specs.Flow.{exits, enters}
use Rattle.lexauto_positions.specs.RuleFlow.{reads}
use Rattle.lexauto_positions.specs.Alike.{Alike}
use Rattle.lexauto_positions.specs.Signs.{skips, repeats, signed}
use Rattle.lexauto_positions.specs.declared.layout.Operator.{Operator}
use Rattle.lexauto_positions.specs.declared.layout.Operator.TheVariants as S
use Rattle.lexauto_positions.proofs.Copies.{or_false}
use Rattle.lexauto_positions.proofs.AlikeLaws.{alike_star, alike_repeat}

module _ (t : Tree) where
  signed_size : (s : Operator) → positions (signed s t) ≡ positions t
  signed_size S.Optional = omega arith
  signed_size S.Plus = omega arith
  signed_size S.Star = refl

  signed_reads : (s : Operator) (b q base : ℕ) → reads (signed s t) b q base ≡ reads t b q base
  signed_reads S.Optional b q base = or_false (reads t b q base)
  signed_reads S.Plus b q base = or_false (reads t b q base)
  signed_reads S.Star b q base = refl

  module _ (on : ℕ → Bool) (base : ℕ) where
    -- it is left where it is, or where it is skipped
    signed_left : (s : Operator) (i : Bool) → exits (signed s t) on base i ≡ ((skips s && i) || exits t on base i)
    signed_left S.Optional i = refl
    signed_left S.Plus i = refl
    signed_left S.Star true = refl
    signed_left S.Star false = refl

    -- it is entered from outside, or from its own end
    signed_next : (s : Operator) (q : ℕ) (i : Bool) → enters (signed s t) on q base i ≡ enters t on q base (i || (repeats s && exits t on base false))
    signed_next S.Optional q i = or_false (enters t on q base (i || false))
    signed_next S.Plus q i = or_false (enters t on q base (i || exits t on base false))
    signed_next S.Star q i = refl

skipped : (a b i x : Bool) → (((a || b) && i) || x) ≡ ((a && i) || ((b && i) || x))
skipped true b true x = refl
skipped true true false x = refl
skipped true false false x = refl
skipped false b i x = refl

entered : (a b c i x : Bool) → (i || ((a || b) && x)) ≡ ((i || (a && ((c && false) || x))) || (b && x))
entered a b c true x = refl
entered true b true false true = refl
entered true b false false true = refl
entered true true true false false = refl
entered true false true false false = refl
entered true true false false false = refl
entered true false false false false = refl
entered false b c false x = refl

-- The sign r is both signs in one.
pub one_sign : (r s u : Operator) → skips r ≡ (skips s || skips u) → repeats r ≡ (repeats s || repeats u) → (t : Tree) → Alike (signed r t) (signed s (signed u t))
one_sign r s u skip again t = record {
  size = signed_size t r ∙ sym (signed_size t u) ∙ sym (signed_size (signed u t) s);
  left = fun_ext (λ on. fun_ext (λ base. fun_ext (λ i.
      signed_left t on base r i
      ∙ ap (λ a. (a && i) || exits t on base i) skip
      ∙ skipped (skips s) (skips u) i (exits t on base i)
      ∙ ap (λ x. (skips s && i) || x) (sym (signed_left t on base u i))
      ∙ sym (signed_left (signed u t) on base s i))));
  next = fun_ext (λ on. fun_ext (λ q. fun_ext (λ base. fun_ext (λ i.
      signed_next t on base r q i
      ∙ ap (λ a. enters t on q base (i || (a && exits t on base false))) again
      ∙ ap (enters t on q base) (entered (repeats s) (repeats u) (skips u) i (exits t on base false))
      ∙ ap (λ x. enters t on q base ((i || (repeats s && x)) || (repeats u && exits t on base false))) (sym (signed_left t on base u false))
      ∙ sym (signed_next t on base u q (i || (repeats s && exits (signed u t) on base false)))
      ∙ sym (signed_next (signed u t) on base s q i)))));
  letters = fun_ext (λ b. fun_ext (λ q. fun_ext (λ base.
      signed_reads t r b q base ∙ sym (signed_reads t u b q base) ∙ sym (signed_reads (signed u t) s b q base))));
}

pub alike_signed : (s : Operator) (t u : Tree) → Alike t u → Alike (signed s t) (signed s u)
alike_signed S.Optional t u h = alike_repeat 0 (Some 1) t u h
alike_signed S.Plus t u h = alike_repeat 1 None t u h
alike_signed S.Star t u h = alike_star t u h

-- no time or more is any number of times
pub alike_any : (t : Tree) → Alike (Star t) (Repeat t 0 None)
alike_any t = record {
  size = omega arith;
  left = fun_ext (λ on. fun_ext (λ base. fun_ext (λ i. left on base i)));
  next = fun_ext (λ on. fun_ext (λ q. fun_ext (λ base. fun_ext (λ i. sym (or_false (enters t on q base (i || exits t on base false)))))));
  letters = fun_ext (λ b. fun_ext (λ q. fun_ext (λ base. sym (or_false (reads t b q base)))));
}
  where
    left : (on : ℕ → Bool) (base : ℕ) (i : Bool) → exits (Star t) on base i ≡ exits (Repeat t 0 None) on base i
    left on base true = refl
    left on base false = refl
