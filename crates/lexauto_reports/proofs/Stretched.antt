-- Words in a text that grows.
use Rattle.std.proofs.Common.{◌≡◌, ◌<◌, ◌≤◌, ◌-◌, ℕ, zero, suc, List, [], ◌∷◌, ◌++◌, length, Bool, true, false, cond, get_or, map, take, drop, sym, ap, refl, subst, ◌∙◌, arith}
use Rattle.std.proofs.lemmas.List.{take_all, length-drop, take-append-le, drop-append-le, map_push}
use Rattle.lexauto_reports.specs.Searching.{word_in}
use Rattle.lexauto_reports.specs.Stretches.{AreWithin}
use Rattle.lexauto_reports.specs.declared.groups.Group.{Group}

pub within_at : (n : ℕ) (gs : List Group) (k : ℕ) (g : Group) → AreWithin n gs → k < length gs → g ≡ get_or gs k g → (g.start ≤ g.end) × (g.end ≤ n)
within_at n [] k g a h e = absurd (omega (arith, h))
within_at n (x ∷ gs) zero g a h e = subst (λ (y : Group). (y.start ≤ y.end) × (y.end ≤ n)) (sym e) a.0
within_at n (x ∷ gs) (suc k) g a h e = within_at n gs k g a.1 (omega (arith, h)) e

pub within_more : (n m : ℕ) (gs : List Group) → n ≤ m → AreWithin n gs → AreWithin m gs
within_more n m [] h a = tt
within_more n m (g ∷ gs) h a = let e = a.0.1 in ((a.0.0, omega (arith, e, h)), within_more n m gs h a.1)

pub within_push : (n : ℕ) (gs : List Group) (g : Group) → AreWithin n gs → g.start ≤ g.end → g.end ≤ n → AreWithin n (gs ++ g ∷ [])
within_push n [] g a s e = ((s, e), tt)
within_push n (x ∷ gs) g a s e = (a.0, within_push n gs g a.1 s e)

-- after a push that may have failed
pub within_pushed : (n : ℕ) (gs now : List Group) (g : Group) (ok : Bool) → AreWithin n gs → g.start ≤ g.end → g.end ≤ n → now ≡ cond ok (gs ++ g ∷ []) gs → AreWithin n now
within_pushed n gs now g true a s e is = subst (AreWithin n) (sym is) (within_push n gs g a s e)
within_pushed n gs now g false a s e is = subst (AreWithin n) (sym is) a

-- a word is the same in a longer text
pub same_word : (text xs : List ℕ) (s e : ℕ) → s ≤ e → e ≤ length text → take (e - s) (drop s (text ++ xs)) ≡ take (e - s) (drop s text)
same_word text xs s e h le =
    let n = length-drop s text in
    ap (take (e - s)) (drop-append-le s text xs (omega (arith, h, le)))
    ∙ take-append-le (e - s) (drop s text) xs (omega (arith, h, le, n))

pub same_words : (text xs : List ℕ) (gs : List Group) → AreWithin (length text) gs → map (word_in (text ++ xs)) gs ≡ map (word_in text) gs
same_words text xs [] a = refl
same_words text xs (g ∷ gs) a =
    ap (λ (w : List ℕ). w ∷ map (word_in (text ++ xs)) gs) (same_word text xs g.start g.end a.0.0 a.0.1)
    ∙ ap (λ (ws : List (List ℕ)). word_in text g ∷ ws) (same_words text xs gs a.1)

-- the word that stands last
pub last_word : (text : List ℕ) (s : ℕ) → take (length text - s) (drop s text) ≡ drop s text
last_word text s = let n = length-drop s text in take_all (length text - s) (drop s text) (omega (arith, n))

-- the groups with one more, whose word stands last
pub words_more : (text xs w : List ℕ) (gs : List Group) (g : Group) → AreWithin (length text) gs → g.end ≡ length (text ++ xs) → drop g.start (text ++ xs) ≡ w
    → map (word_in (text ++ xs)) (gs ++ g ∷ []) ≡ map (word_in text) gs ++ w ∷ []
words_more text xs w gs g a last is =
    map_push (word_in (text ++ xs)) gs g
    ∙ ap (λ (ws : List (List ℕ)). ws ++ word_in (text ++ xs) g ∷ []) (same_words text xs gs a)
    ∙ ap (λ (v : List ℕ). map (word_in text) gs ++ v ∷ []) (ap (λ (n : ℕ). take (n - g.start) (drop g.start (text ++ xs))) last ∙ last_word (text ++ xs) g.start ∙ is)
