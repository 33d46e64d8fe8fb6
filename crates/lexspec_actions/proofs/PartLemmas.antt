-- The parts of a format, as they are read.
use Rattle.std.proofs.Common.{◌≡◌, ℕ, Bool, true, false, List, [], ◌∷◌, ◌++◌, Option, Some, None, refl, sym, ap, ◌∙◌, append_assoc, append-nil, suc, ◌<◌, length, get_or, drop, drop-cons, option_map, ◌+◌, ◌≤◌, add-one}
use Rattle.std.proofs.lemmas.List.{at_drop_all}
use Rattle.std.specs.Prelude.{is_some}
use Rattle.std.proofs.lemmas.Bool.{ne_eqb}
use Rattle.lexspec_actions.specs.ActionSteps.{onto, split, parts_in, parts_of}
use Rattle.lexspec_actions.specs.Formats.{joined, State, read_on}

pub joined_first : (o : Option (List ℕ × Option (List ℕ))) → joined None [] o ≡ o
joined_first None = refl
joined_first (Some (more, back)) = refl

pub joined_onto : (front : Option (List ℕ)) (bytes : List ℕ) (c : ℕ) (o : Option (List ℕ × Option (List ℕ))) → joined front bytes (onto c o) ≡ joined front (bytes ++ c ∷ []) o
joined_onto None bytes c None = refl
joined_onto (Some front) bytes c None = refl
joined_onto None bytes c (Some (more, back)) = ap (λ x. Some (x, back)) (sym (append_assoc bytes (c ∷ []) more))
joined_onto (Some front) bytes c (Some (more, None)) = ap (λ x. Some (front, Some x)) (sym (append_assoc bytes (c ∷ []) more))
joined_onto (Some front) bytes c (Some (more, Some back)) = refl

pub joined_split : (bytes : List ℕ) (o : Option (List ℕ × Option (List ℕ))) → joined None bytes (split o) ≡ joined (Some bytes) [] o
joined_split bytes None = refl
joined_split bytes (Some (more, None)) = ap (λ x. Some (x, Some more)) (append-nil bytes)
joined_split bytes (Some (more, Some back)) = refl

pub joined_twice : (front bytes : List ℕ) (o : Option (List ℕ × Option (List ℕ))) → joined (Some front) bytes (split o) ≡ None
joined_twice front bytes None = refl
joined_twice front bytes (Some (more, None)) = refl
joined_twice front bytes (Some (more, Some back)) = refl

-- a byte that is read
pub read_plain : (front : Option (List ℕ)) (bytes : List ℕ) (b : ℕ) (p : Bool) (t : List ℕ) → p ≡ false → (b ≡ 37 → ⊥)
    → joined front (bytes ++ b ∷ []) (parts_in p t) ≡ joined front bytes (parts_in p (b ∷ t))
read_plain front bytes b true t not_so other = cc
read_plain front bytes b false t not_so other = rw (ne_eqb b 37 other) (sym (joined_onto front bytes b (parts_in false t)))

pub read_percent : (front : Option (List ℕ)) (bytes : List ℕ) (b : ℕ) (p : Bool) (t : List ℕ) → p ≡ true → b ≡ 37
    → joined front (bytes ++ b ∷ []) (parts_in false t) ≡ joined front bytes (parts_in p (b ∷ t))
read_percent front bytes b false t so same = cc
read_percent front bytes b true t so same = rw same (sym (joined_onto front bytes 37 (parts_in false t)))

pub read_text : (front : Option (List ℕ)) (bytes : List ℕ) (b : ℕ) (p : Bool) (t : List ℕ) → p ≡ true → b ≡ 115 → front ≡ None
    → joined (Some bytes) [] (parts_in false t) ≡ joined front bytes (parts_in p (b ∷ t))
read_text front bytes b false t so same none = cc
read_text (Some x) bytes b true t so same none = cc
read_text None bytes b true t so same none = rw same (sym (joined_split bytes (parts_in false t)))

pub read_other : (front : Option (List ℕ)) (bytes : List ℕ) (b : ℕ) (p : Bool) (t : List ℕ) → p ≡ true → (b ≡ 37 → ⊥) → (b ≡ 115 → ⊥) → joined front bytes (parts_in p (b ∷ t)) ≡ None
read_other front bytes b false t so other another = cc
read_other front bytes b true t so other another = rw (ne_eqb b 37 other, ne_eqb b 115 another) refl

pub read_twice : (front : Option (List ℕ)) (bytes : List ℕ) (b : ℕ) (p : Bool) (t : List ℕ) → p ≡ true → b ≡ 115 → (front ≡ None → ⊥) → joined front bytes (parts_in p (b ∷ t)) ≡ None
read_twice front bytes b false t so same some = cc
read_twice None bytes b true t so same some = absurd (some refl)
read_twice (Some x) bytes b true t so same some = rw same (joined_twice x bytes (parts_in false t))

pub map_none : {A B : Type 0} (f : A → B) (o : Option A) → is_some o ≡ false → option_map f o ≡ None
map_none f None e = refl
map_none f (Some x) e = cc

pub map_some : {A B : Type 0} (f : A → B) (o : Option A) → is_some o ≡ true → option_map f o ≡ None → ⊥
map_some f None e h = cc
map_some f (Some x) e h = cc

pub part_refused : (st : State) (text : List ℕ) (i : ℕ) → i < length text → read_on st (drop i text) ≡ parts_in false text → ((t : List ℕ) → read_on st (get_or text i 0 ∷ t) ≡ None) → parts_of text ≡ None
unfolding parts_of
part_refused st text i within so none = sym so ∙ ap (read_on st) (drop-cons text i 0 within) ∙ none (drop (suc i) text)

pub part_taken : (was now : State) (text : List ℕ) (i : ℕ) → i < length text → read_on was (drop i text) ≡ parts_in false text → ((t : List ℕ) → read_on now t ≡ read_on was (get_or text i 0 ∷ t)) → read_on now (drop (i + 1) text) ≡ parts_in false text
part_taken was now text i within so step = rw add-one (step (drop (suc i) text) ∙ ap (read_on was) (sym (drop-cons text i 0 within)) ∙ so)

pub part_ended : (st : State) (text : List ℕ) (i : ℕ) → length text ≤ i → read_on st (drop i text) ≡ parts_in false text → read_on st [] ≡ parts_of text
unfolding parts_of
part_ended st text i past so = sym (at_drop_all (read_on st) text i past) ∙ so
