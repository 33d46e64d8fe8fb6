-- Ways to read, and the text that each of them reads: what is taken is spelled so, and what is spelled so is taken.
use Rattle.std.proofs.Common.{◌≡◌, ℕ, zero, suc, ◌+◌, ◌<◌, ◌≤◌, Bool, true, false, cond, ltb, List, [], ◌∷◌, ◌++◌, length, take, drop, Result, Ok, Err, refl, sym, ap, subst, ◌∙◌, append_assoc, add-one, arith}
use Rattle.std.specs.Int.{Width, w16, w32, byte_len, from_be_bytes, to_be_bytes}
use Rattle.std.specs.List.{flat_map}
use Rattle.std.proofs.lemmas.Bool.{ltb-false, le-ltb}
use Rattle.std.proofs.lemmas.List.{take_at, drop_at, take-append-drop, length-append, length-take}
use Rattle.std.proofs.lemmas.List.Concat.{flat_map-cons}
use Rattle.std.proofs.lemmas.Nat.{be_bytes_2, be_bytes_4, from_be_bytes-to_be_bytes_2, from_be_bytes-to_be_bytes_4}
use Rattle.lex_semantics.specs.Text.{IsText}
use Rattle.lextab_packed.specs.Checks.{Each}
use Rattle.lextab_file.specs.File.{byte}
use Rattle.lextab_file.specs.Seen.{EachFrom, following}
use Rattle.lextab_file.proofs.Bytes.{byte_fits, drop_text, take_text}
use Rattle.lextab_file.specs.declared.error.ReadError.{ReadError}
use Rattle.lextab_file.specs.declared.error.ReadError.TheVariants.{Truncated}
use Rattle.lextab_file.specs.Reading.{FieldReader, ◌>>=◌, bad, judged, only_if, paired, seen_as, many, read_byte, read_number, read_bytes}

pub bind_ok : {A B : Type 0} (o : Result A ReadError) (f : A → Result B ReadError) (y : B) → (o >>= f) ≡ Ok y → (x : A) × (o ≡ Ok x) × (f x ≡ Ok y)
bind_ok (Ok x) f y e = (x, refl, e)
bind_ok (Err d) f y e = absurd cc

pub same_ok : {A : Type 0} (x y : A) → ◌≡◌ {A = Result A ReadError} (Ok x) (Ok y) → x ≡ y
same_ok x y e = cc

cond_ok : {A : Type 0} (b : Bool) (x y : A) (d : ReadError) → cond b (Ok x) (Err d) ≡ Ok y → (b ≡ true) × (x ≡ y)
cond_ok true x y d e = (refl, cc)
cond_ok false x y d e = absurd cc

whole : {A : Type 0} (b : Bool) (x y : A) (d : ReadError) → cond b (Err d) (Ok x) ≡ Ok y → (b ≡ false) × (x ≡ y)
whole true x y d e = absurd cc
whole false x y d e = (refl, cc)

pub record IsReader {A : Type 0} (text : A → List ℕ) (Legal : A → Type 0) (read : FieldReader A) : Type 0 where
  pub takes : (bytes : List ℕ) (x : A) (rest : List ℕ) → IsText bytes → read bytes ≡ Ok (x, rest) → (bytes ≡ text x ++ rest) × (IsText rest × Legal x)
  pub again : (x : A) (rest : List ℕ) → Legal x → read (text x ++ rest) ≡ Ok (x, rest)

-- ---- two things, one after the other

pub reads_both : {A B : Type 0} (ta : A → List ℕ) (la : A → Type 0) (r : FieldReader A) (tb : A → B → List ℕ) (lb : A → B → Type 0) (s : A → FieldReader B)
    → IsReader ta la r → ((a : A) → la a → IsReader (tb a) (lb a) (s a))
    → IsReader (λ (p : A × B). ta p.0 ++ tb p.0 p.1) (λ (p : A × B). la p.0 × lb p.0 p.1) (paired r s)
reads_both {A} {B} ta la r tb lb s p q = record {
  takes = λ bytes x rest fits e.
      let a = bind_ok (r bytes) (λ y. s y.0 y.1 >>= λ z. Ok ((y.0, z.0), z.1)) (x, rest) e in
      let b = bind_ok (s a.0.0 a.0.1) (λ z. Ok ((a.0.0, z.0), z.1)) (x, rest) a.2 in
      let t = p.takes bytes a.0.0 a.0.1 fits a.1 in
      let u = (q a.0.0 t.1.1).takes a.0.1 b.0.0 b.0.1 t.1.0 b.1 in
      subst (λ (y : (A × B) × List ℕ). (bytes ≡ (ta y.0.0 ++ tb y.0.0 y.0.1) ++ y.1) × (IsText y.1 × (la y.0.0 × lb y.0.0 y.0.1))) (same_ok _ _ b.2)
      (t.0 ∙ ap (λ (z : List ℕ). ta a.0.0 ++ z) u.0 ∙ sym (append_assoc (ta a.0.0) (tb a.0.0 b.0.0) b.0.1), (u.1.0, (t.1.1, u.1.1)));
  again = λ x rest h.
      ap (paired r s) (append_assoc (ta x.0) (tb x.0 x.1) rest) ∙ rw (p.again x.0 (tb x.0 x.1 ++ rest) h.0, (q x.0 h.0).again x.1 rest h.1) refl;
}

-- ---- a thing that passes a test

pub reads_judged : {A : Type 0} (fault : List ℕ → ReadError) (t : A → List ℕ) (l m : A → Type 0) (test : A → Bool) (r : FieldReader A)
    → IsReader t l r → ((x : A) → l x → test x ≡ true → m x) → ((x : A) → m x → (test x ≡ true) × l x) → IsReader t m (λ bytes. judged (fault bytes) test r bytes)
reads_judged {A} fault t l m test r p to back = record {
  takes = λ bytes x rest fits e.
      let a = bind_ok (r bytes) (λ y. cond (test y.0) (Ok y) (Err (fault bytes))) (x, rest) e in
      let g = cond_ok (test a.0.0) a.0 (x, rest) (fault bytes) a.2 in
      let u = p.takes bytes a.0.0 a.0.1 fits a.1 in
      subst (λ (y : A × List ℕ). (bytes ≡ t y.0 ++ y.1) × (IsText y.1 × m y.0)) g.1 (u.0, (u.1.0, to a.0.0 u.1.1 g.0));
  again = λ x rest h. let b = back x h in rw (p.again x rest b.1, b.0) refl;
}

pub reads_if : {A : Type 0} (t : A → List ℕ) (l m : A → Type 0) (test : A → Bool) (r : FieldReader A)
    → IsReader t l r → ((x : A) → l x → test x ≡ true → m x) → ((x : A) → m x → (test x ≡ true) × l x) → IsReader t m (only_if test r)
reads_if t l m test r p to back = reads_judged bad t l m test r p to back

-- ---- a thing seen as another

pub reads_as : {A B : Type 0} (t : A → List ℕ) (l : A → Type 0) (r : FieldReader A) (f : A → B) (g : B → A)
    → IsReader t l r → ((b : B) → f (g b) ≡ b) → ((a : A) → l a → g (f a) ≡ a) → IsReader (λ b. t (g b)) (λ b. l (g b)) (seen_as f r)
reads_as {A} {B} t l r f g p fg gf = record {
  takes = λ bytes x rest fits e.
      let a = bind_ok (r bytes) (λ y. Ok (f y.0, y.1)) (x, rest) e in
      let u = p.takes bytes a.0.0 a.0.1 fits a.1 in
      let s : g (f a.0.0) ≡ a.0.0 = gf a.0.0 u.1.1 in
      subst (λ (y : B × List ℕ). (bytes ≡ t (g y.0) ++ y.1) × (IsText y.1 × l (g y.0))) (same_ok _ _ a.2)
      (subst (λ (z : A). (bytes ≡ t z ++ a.0.1) × (IsText a.0.1 × l z)) (sym s) u);
  again = λ x rest h. rw (p.again (g x) rest h) (ap (λ (y : B). Ok (y, rest)) (fg x));
}

-- ---- many things

pub reads_many : {A S : Type 0} (t : A → List ℕ) (l : S → A → Type 0) (r : S → FieldReader A) (next : S → A → S)
    → ((s : S) → IsReader t (l s) (r s)) → (n : ℕ) (s : S) → IsReader (flat_map t) (λ xs. (length xs ≡ n) × EachFrom l next s xs) (many r next n s)
unfolding many
reads_many {A} {S} t l r next p zero s = record {
  takes = λ bytes x rest fits e. subst (λ (y : List A × List ℕ). (bytes ≡ flat_map t y.0 ++ y.1) × (IsText y.1 × ((length y.0 ≡ 0) × EachFrom l next s y.0))) (same_ok ([], bytes) (x, rest) e) (refl, (fits, (refl, tt)));
  again = again_none;
}
  where
    again_none : (xs : List A) (rest : List ℕ) → (length xs ≡ 0) × EachFrom l next s xs → many r next 0 s (flat_map t xs ++ rest) ≡ Ok (xs, rest)
    again_none [] rest h = refl
    again_none (x ∷ xs) rest h = absurd (omega (arith, h.0))
reads_many {A} {S} t l r next p (suc n) s = record {
  takes = λ bytes x rest fits e.
      let a = bind_ok (r s bytes) (λ y. many r next n (next s y.0) y.1 >>= λ ys. Ok (y.0 ∷ ys.0, ys.1)) (x, rest) e in
      let b = bind_ok (many r next n (next s a.0.0) a.0.1) (λ ys. Ok (a.0.0 ∷ ys.0, ys.1)) (x, rest) a.2 in
      let u = (p s).takes bytes a.0.0 a.0.1 fits a.1 in
      let v = (reads_many t l r next p n (next s a.0.0)).takes a.0.1 b.0.0 b.0.1 u.1.0 b.1 in
      subst (λ (y : List A × List ℕ). (bytes ≡ flat_map t y.0 ++ y.1) × (IsText y.1 × ((length y.0 ≡ suc n) × EachFrom l next s y.0))) (same_ok _ _ b.2) (
        u.0 ∙ ap (λ (z : List ℕ). t a.0.0 ++ z) v.0 ∙ sym (append_assoc (t a.0.0) (flat_map t b.0.0) b.0.1) ∙ ap (λ (z : List ℕ). z ++ b.0.1) (sym (flat_map-cons t a.0.0 b.0.0)),
        (v.1.0, (ap suc v.1.1.0, (u.1.1, v.1.1.1))),
      );
  again = again_more (λ x. reads_many t l r next p n (next s x));
}
  where
    again_more : ((x : A) → IsReader (flat_map t) (λ xs. (length xs ≡ n) × EachFrom l next (next s x) xs) (many r next n (next s x))) → (xs : List A) (rest : List ℕ) → (length xs ≡ suc n) × EachFrom l next s xs → many r next (suc n) s (flat_map t xs ++ rest) ≡ Ok (xs, rest)
    again_more others [] rest h = absurd (omega (arith, h.0))
    again_more others (x ∷ xs) rest h =
        let regrouped : flat_map t (x ∷ xs) ++ rest ≡ t x ++ (flat_map t xs ++ rest) = ap (λ (z : List ℕ). z ++ rest) (flat_map-cons t x xs) ∙ append_assoc (t x) (flat_map t xs) rest in
        let len : length xs ≡ n = omega (arith, h.0) in
        ap (many r next (suc n) s) regrouped ∙ rw ((p s).again x (flat_map t xs ++ rest) h.1.0, (others x).again xs rest (len, h.1.1)) refl

-- other words for what is met
pub reads_like : {A : Type 0} (t : A → List ℕ) (l m : A → Type 0) (r : FieldReader A) → IsReader t l r → ((x : A) → l x → m x) → ((x : A) → m x → l x) → IsReader t m r
reads_like t l m r p to back = record {
  takes = λ bytes x rest fits e. let u = p.takes bytes x rest fits e in (u.0, (u.1.0, to x u.1.1));
  again = λ x rest h. p.again x rest (back x h);
}

each_from : {A : Type 0} (P : ℕ → A → Type 0) (i : ℕ) (xs : List A) → EachFrom P following i xs → Each P i xs
each_from P i [] h = tt
each_from {A} P i (x ∷ xs) h = (h.0, subst (λ (k : ℕ). Each P k xs) (add-one i) (each_from P (i + 1) xs h.1))

from_each : {A : Type 0} (P : ℕ → A → Type 0) (i : ℕ) (xs : List A) → Each P i xs → EachFrom P following i xs
from_each P i [] h = tt
from_each {A} P i (x ∷ xs) h = (h.0, from_each P (i + 1) xs (subst (λ (k : ℕ). Each P k xs) (sym (add-one i)) h.1))

-- many things, each by its place
pub reads_places : {A : Type 0} (t : A → List ℕ) (l : ℕ → A → Type 0) (r : ℕ → FieldReader A)
    → ((i : ℕ) → IsReader t (l i) (r i)) → (n : ℕ) → IsReader (flat_map t) (λ xs. (length xs ≡ n) × Each l 0 xs) (many r following n 0)
reads_places t l r p n = reads_like (flat_map t) (λ xs. (length xs ≡ n) × EachFrom l following 0 xs) (λ xs. (length xs ≡ n) × Each l 0 xs) (many r following n 0)
    (reads_many t l r following p n 0) (λ xs h. (h.0, each_from l 0 xs h.1)) (λ xs h. (h.0, from_each l 0 xs h.1))

-- ---- bytes and numbers

pub reads_byte : IsReader byte (λ b. b < 256) read_byte
reads_byte = record { takes = takes_byte; again = λ x rest h. refl }
  where
    takes_byte : (bytes : List ℕ) (x : ℕ) (rest : List ℕ) → IsText bytes → read_byte bytes ≡ Ok (x, rest) → (bytes ≡ byte x ++ rest) × (IsText rest × (x < 256))
    takes_byte [] x rest fits e = absurd cc
    takes_byte (b ∷ bytes) x rest fits e = subst (λ (y : ℕ × List ℕ). (b ∷ bytes ≡ byte y.0 ++ y.1) × (IsText y.1 × (y.0 < 256))) (same_ok (b, bytes) (x, rest) e) (refl, (fits.1, fits.0))

pub reads_bytes : (n : ℕ) → IsReader (λ xs. xs) (λ xs. (length xs ≡ n) × IsText xs) (read_bytes n)
reads_bytes n = record {
  takes = λ bytes x rest fits e.
      let g = whole (ltb (length bytes) n) (take n bytes, drop n bytes) (x, rest) Truncated e in
      let long : n ≤ length bytes = ltb-false _ _ g.0 in
      subst (λ (y : List ℕ × List ℕ). (bytes ≡ y.0 ++ y.1) × (IsText y.1 × ((length y.0 ≡ n) × IsText y.0))) g.1
      (sym (take-append-drop n bytes), (drop_text n bytes fits, (omega (arith, length-take n bytes), take_text n bytes fits)));
  again = λ x rest h.
      let long : ltb (length (x ++ rest)) n ≡ false = le-ltb _ _ (let l = h.0 in omega (arith, length-append x rest)) in
      rw (long, take_at x rest n h.0, drop_at x rest n h.0) refl;
}

pub record IsWide (w : Width) (limit : ℕ) : Type 0 where
  pub len : (n : ℕ) → length (to_be_bytes w n) ≡ byte_len w
  pub back : (bytes : List ℕ) → length bytes ≡ byte_len w → IsText bytes → to_be_bytes w (from_be_bytes w bytes) ≡ bytes
  pub again : (n : ℕ) → n < limit → from_be_bytes w (to_be_bytes w n) ≡ n
  pub below : (bytes : List ℕ) → IsText bytes → from_be_bytes w bytes < limit

wide16 : IsWide w16 65536
wide16 = record {
  len = λ n. refl;
  back = λ bytes len fits. be_bytes_2 bytes _ len (byte_fits bytes fits) refl;
  again = λ n lt. from_be_bytes-to_be_bytes_2 n lt;
  below = λ bytes fits. omega (arith, byte_fits bytes fits 0, byte_fits bytes fits 1);
}

wide32 : IsWide w32 4294967296
wide32 = record {
  len = λ n. refl;
  back = λ bytes len fits. be_bytes_4 bytes _ len (byte_fits bytes fits) refl;
  again = λ n lt. from_be_bytes-to_be_bytes_4 n lt;
  below = λ bytes fits. omega (arith, byte_fits bytes fits 0, byte_fits bytes fits 1, byte_fits bytes fits 2, byte_fits bytes fits 3);
}

reads_number : (w : Width) (limit : ℕ) → IsWide w limit → IsReader (to_be_bytes w) (λ n. n < limit) (read_number w)
reads_number w limit wide = record {
  takes = λ bytes n rest fits e.
      let g = whole (ltb (length bytes) (byte_len w)) (from_be_bytes w (take (byte_len w) bytes), drop (byte_len w) bytes) (n, rest) Truncated e in
      let long : byte_len w ≤ length bytes = ltb-false _ _ g.0 in
      subst (λ (y : ℕ × List ℕ). (bytes ≡ to_be_bytes w y.0 ++ y.1) × (IsText y.1 × (y.0 < limit))) g.1 (
        rw (wide.back (take (byte_len w) bytes) (omega (arith, length-take (byte_len w) bytes)) (take_text (byte_len w) bytes fits)) (sym (take-append-drop (byte_len w) bytes)),
        (drop_text (byte_len w) bytes fits, wide.below (take (byte_len w) bytes) (take_text (byte_len w) bytes fits)),
      );
  again = λ n rest lt.
      let len = wide.len n in
      let long : ltb (length (to_be_bytes w n ++ rest)) (byte_len w) ≡ false = le-ltb _ _ (omega (arith, length-append (to_be_bytes w n) rest)) in
      rw (long, take_at (to_be_bytes w n) rest (byte_len w) len, drop_at (to_be_bytes w n) rest (byte_len w) len, wide.again n lt) refl;
}

pub reads_long : IsReader (to_be_bytes w32) (λ n. n < 4294967296) (read_number w32)
reads_long = reads_number w32 4294967296 wide32

pub reads_short : IsReader (to_be_bytes w16) (λ n. n < 65536) (read_number w16)
reads_short = reads_number w16 65536 wide16
