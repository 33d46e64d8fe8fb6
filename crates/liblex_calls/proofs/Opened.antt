-- What is there, where something is.
use Rattle.std.proofs.Common.{◌≡◌, true, false, Option, None, Some, is_some, refl, sym, ap, ◌∙◌}

pub some_of : {A : Type 0} (o : Option A) → is_some o ≡ true → (x : A) × (o ≡ Some x)
some_of None e = absurd (let no : false ≡ true = e in cc)
some_of (Some x) e = (x, refl)

value_or : {A : Type 0} → A → Option A → A
value_or d None = d
value_or d (Some x) = x

-- what is there is told twice
pub same_there : {A : Type 0} (o : Option A) (x y : A) → o ≡ Some x → o ≡ Some y → x ≡ y
unfolding value_or
same_there o x y e f = ap (value_or x) (sym e ∙ f)
