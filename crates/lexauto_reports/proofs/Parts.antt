-- A text that is written part by part.
use Rattle.std.proofs.Common.{◌≡◌, ℕ, ◌+◌, ◌<◌, ◌≤◌, List, ◌++◌, length, drop, get_or, flat_map, codes, ap, sym, ◌∙◌, append_assoc, append-nil, Result, Ok, Err}
use Rattle.std.proofs.lemmas.List.{drop_more, drop_all}
use Rattle.lex_io.specs.Sink.{Appended}

-- what follows the bytes that were to be written follows what was written of them
pub longer : (bytes front rest more : List ℕ) → bytes ≡ front ++ rest → bytes ++ more ≡ front ++ (rest ++ more)
longer bytes front rest more h = ap (λ l. l ++ more) h ∙ append_assoc front rest more

-- what is left begins with the next part
pub next_part : {X : Type 0} (f : X → List ℕ) (whole done part : List ℕ) (parts : List X) (i : ℕ) (d : X) → i < length parts → part ≡ f (get_or parts i d) → whole ≡ done ++ flat_map f (drop i parts)
    → whole ≡ done ++ (part ++ flat_map f (drop (i + 1) parts))
next_part f whole done part parts i d h e w =
    w ∙ ap (λ l. done ++ l) (ap (flat_map f) (drop_more parts i d h) ∙ ap (λ l. l ++ flat_map f (drop (i + 1) parts)) (sym e))

-- no part is left
pub no_part : {X : Type 0} (f : X → List ℕ) (whole done : List ℕ) (parts : List X) (i : ℕ) → length parts ≤ i → whole ≡ done ++ flat_map f (drop i parts) → whole ≡ done
no_part f whole done parts i h w = w ∙ ap (λ l. done ++ flat_map f l) (drop_all i parts h) ∙ append-nil done

-- a prefix of the next part was written
pub stopped : (whole done part more front rest : List ℕ) → whole ≡ done ++ (part ++ more) → part ≡ front ++ rest → whole ≡ (done ++ front) ++ (rest ++ more)
stopped whole done part more front rest h e = h ∙ ap (λ l. done ++ l) (longer part front rest more e) ∙ sym (append_assoc done front (rest ++ more))

-- what a call appends stands after what was written before it
pub appended_after : {T E : Type 0} (before after : List ℕ → Type 0) (done bytes : List ℕ) (r : Result T E) → ((xs : List ℕ) → after xs → before (done ++ xs)) → Appended after bytes r → Appended before (done ++ bytes) r
appended_after before after done bytes (Ok v) join h = join bytes h
appended_after before after done bytes (Err e) join h = (done ++ h.0, (h.1.0, ap (λ l. done ++ l) h.1.1 ∙ sym (append_assoc done h.0 h.1.0)), join h.0 h.2)

-- the same at a list of parts
pub stopped_at : {X : Type 0} (f : X → List ℕ) (whole done part front rest : List ℕ) (parts : List X) (i : ℕ) (d : X) → i < length parts → part ≡ f (get_or parts i d)
    → whole ≡ done ++ flat_map f (drop i parts) → part ≡ front ++ rest → whole ≡ (done ++ front) ++ (rest ++ flat_map f (drop (i + 1) parts))
stopped_at f whole done part front rest parts i d h e w p = stopped whole done part (flat_map f (drop (i + 1) parts)) front rest (next_part f whole done part parts i d h e w) p

-- one part more was written
pub written_at : {X : Type 0} (f : X → List ℕ) (whole done part : List ℕ) (parts : List X) (i : ℕ) (d : X) → i < length parts → part ≡ f (get_or parts i d)
    → whole ≡ done ++ flat_map f (drop i parts) → whole ≡ (done ++ part) ++ flat_map f (drop (i + 1) parts)
written_at f whole done part parts i d h e w = next_part f whole done part parts i d h e w ∙ sym (append_assoc done part (flat_map f (drop (i + 1) parts)))

-- a line of a state that backs up begins with what stands before its word
pub line_is : (n b e : List ℕ) → codes "state " ++ (n ++ (codes " after \"" ++ (b ++ e))) ≡ (codes "state " ++ (n ++ codes " after \"")) ++ (b ++ e)
line_is n b e = ap (λ l. codes "state " ++ l) (sym (append_assoc n (codes " after \"") (b ++ e)))
