-- What the entries of a map from names to texts stand for.
use Rattle.std.proofs.Common.{◌≡◌, ℕ, List, true, false, Option, Some, None, option_map, is_some, IsSome, IsErrOf, Ok, Err, ◌↔◌, Vec, refl, sym, ap, ◌∙◌}
use Rattle.std.specs.BTreeMap.{insert_entry}
use Rattle.std.specs.Cmp.Lexicographic.{slice_cmp}
use Rattle.std.specs.FinMap as map
use Rattle.std.specs.Ordering.{nat_cmp}
use Rattle.lexre.specs.Definitions.{Definitions, definitions_of}
use Rattle.lexre.specs.declared.definitions.DefsError.{DefsError}
use Rattle.lexre.specs.declared.definitions.DefsError.TheVariants.{Duplicate, OutOfMemory}
use Rattle.lexre.proofs.EntryLaws.{value_at, get_shown}
use Rattle.lexre.proofs.EntryLaws as entries

-- the text of a name, as a map of lists finds it
abbrev pub text_at : {Y Z : Type 0} → List (Vec ℕ Y × Vec ℕ Z) → List ℕ → Option (Vec ℕ Z)
text_at es name = value_at es name

pub get_text : {Y Z : Type 0} (es : List (Vec ℕ Y × Vec ℕ Z)) (name : List ℕ) → map.get (definitions_of es) name ≡ option_map (λ t. t.items) (text_at es name)
get_text es name = get_shown (λ t. t.items) es name

-- an entry more is a definition more
pub one_more : {Y Z : Type 0} (es fs : List (Vec ℕ Y × Vec ℕ Z)) (k : Vec ℕ Y) (v : Vec ℕ Z)
    → fs ≡ insert_entry (λ x y. slice_cmp nat_cmp x.items y.items) es k v → definitions_of fs ≡ map.insert (definitions_of es) k.items v.items
one_more es fs k v e = entries.one_more (λ t. t.items) es fs k v e

is_some-option_map : {A B : Type 0} (f : A → B) (o : Option A) → is_some (option_map f o) ≡ is_some o
is_some-option_map f None = refl
is_some-option_map f (Some x) = refl

is_some_text : {Y Z : Type 0} (es : List (Vec ℕ Y × Vec ℕ Z)) (name : List ℕ) → is_some (map.get (definitions_of es) name) ≡ is_some (text_at es name)
is_some_text es name = ap is_some (get_text es name) ∙ is_some-option_map (λ t. t.items) (text_at es name)

-- a name is refused exactly if it is there
pub when_taken : {Y Z : Type 0} (es : List (Vec ℕ Y × Vec ℕ Z)) (m : Definitions) (name : List ℕ) → definitions_of es ≡ m
    → is_some (text_at es name) ≡ true → IsErrOf {T = Unit {0}} (Err Duplicate) Duplicate ↔ IsSome (map.get m name)
when_taken es m name e h = (λ _. ap (λ d. is_some (map.get d name)) (sym e) ∙ is_some_text es name ∙ h, λ _. refl)

free_is_not_taken : {Y Z : Type 0} (es : List (Vec ℕ Y × Vec ℕ Z)) (m : Definitions) (name : List ℕ) → definitions_of es ≡ m
    → is_some (text_at es name) ≡ false → IsSome (map.get m name) → ⊥
free_is_not_taken es m name e h k =
    let differs : true ≡ false = sym k ∙ ap (λ d. is_some (map.get d name)) (sym e) ∙ is_some_text es name ∙ h in
    cc

pub when_added : {Y Z : Type 0} (es : List (Vec ℕ Y × Vec ℕ Z)) (m : Definitions) (name : List ℕ) → definitions_of es ≡ m
    → is_some (text_at es name) ≡ false → IsErrOf {T = Unit {0}} {E = DefsError} (Ok tt) Duplicate ↔ IsSome (map.get m name)
when_added es m name e h = (λ d. cc, λ k. absurd (free_is_not_taken es m name e h k))

pub when_refused : {Y Z : Type 0} (es : List (Vec ℕ Y × Vec ℕ Z)) (m : Definitions) (name : List ℕ) → definitions_of es ≡ m
    → is_some (text_at es name) ≡ false → IsErrOf {T = Unit {0}} (Err OutOfMemory) Duplicate ↔ IsSome (map.get m name)
when_refused es m name e h = (λ d. cc, λ k. absurd (free_is_not_taken es m name e h k))
