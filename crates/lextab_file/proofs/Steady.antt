-- What a reader finds at the front of bytes it finds there whatever follows them, unless they were cut short.
use Rattle.std.proofs.Common.{◌≡◌, ℕ, zero, suc, ◌+◌, ◌-◌, ◌<◌, ◌≤◌, Bool, true, false, cond, ltb, List, [], ◌∷◌, ◌++◌, length, take, drop, Some, Result, Ok, Err, refl, sym, ap, subst, ◌∙◌, arith}
use Rattle.std.specs.Prelude.{nat_lt, nat_le, ◌&&◌, ◌||◌, ◌==◌}
use Rattle.std.specs.Int.{Width, w16, w32, byte_len, from_be_bytes}
use Rattle.std.proofs.lemmas.Bool.{ltb-false, le-ltb}
use Rattle.std.proofs.lemmas.List.{length-append, take-append-le, drop-append-le, append-nil}
use Rattle.lex_semantics.specs.Spec.{Statement, Print, Begin, Less, End, Push, Head, Trail}
use Rattle.lextab_packed.specs.Table.{Table}
use Rattle.lextab_packed.specs.Checks.{Sizes, none_at_0, some_rule_rejects, bases_of, IsTable}
use Rattle.lextab_file.specs.File.{version_of, file_of}
use Rattle.lextab_file.specs.Seen.{Seen, unseen, seen_after, following}
use Rattle.lextab_file.specs.declared.error.ReadError.{ReadError}
use Rattle.lextab_file.specs.declared.error.ReadError.TheVariants as reads
use Rattle.lextab_file.specs.declared.error.TableError.{TableError}
use Rattle.lextab_file.specs.declared.error.TableError.TheVariants as errors
use Rattle.lextab_file.specs.Reading.{FieldReader, ◌>>=◌, bad, judged, only_if, paired, seen_as, many, read_byte, read_number, read_bytes, below, read_literal, is_magic, sizes_from, read_sizes, end_from, read_end, condition_from, read_condition, whole_of, cut_number, read_cut, bars, arguments, read_statement, rule_from, read_rule, read_class, above, between, read_accepted, row_from, few, read_row, slot_from, good_check, read_slot, Body, read_body, read_versioned, table_from, read_table}
use Rattle.lex_semantics.specs.ByteSets.{within}
use Rattle.lextab_file.specs.Refusals.{is_truncated, left_over, refusal_in, read_refusal}
use Rattle.lextab_file.proofs.Forms.{same_ok}
use Rattle.lextab_file.proofs.Whole.{front_again}

-- the fault, where so many bytes more stand up to the end
abbrev pub farther : ℕ → ReadError → ReadError
farther n (reads.BadField left) = reads.BadField (left + n)
farther n reads.BadMagic = reads.BadMagic
farther n reads.BadVersion = reads.BadVersion
farther n reads.Truncated = reads.Truncated
farther n reads.OutOfMemory = reads.OutOfMemory

-- what is found where more follows: the same value with more after it, or the same fault
abbrev pub Same : {A : Type 0} → List ℕ → Result (A × List ℕ) ReadError → Result (A × List ℕ) ReadError → Type 0
Same more (Ok x) there = there ≡ Ok (x.0, x.1 ++ more)
Same more (Err reads.Truncated) there = Unit {0}
Same more (Err (reads.BadField left)) there = there ≡ Err (reads.BadField (left + length more))
Same more (Err reads.BadMagic) there = there ≡ Err reads.BadMagic
Same more (Err reads.BadVersion) there = there ≡ Err reads.BadVersion
Same more (Err reads.OutOfMemory) there = there ≡ Err reads.OutOfMemory

module _ (more : List ℕ) where
  -- what the reader finds in bytes, the other one finds where more follows
  pub record Steady {A : Type 0} (r r' : FieldReader A) : Type 0 where
    pub same : (bytes : List ℕ) → Same more (r bytes) (r' (bytes ++ more))

  -- ---- ways to read

  then_same : {A B : Type 0} (o o' : Result (A × List ℕ) ReadError) (f f' : A × List ℕ → Result (B × List ℕ) ReadError)
      → Same more o o' → ((x : A × List ℕ) → Same more (f x) (f' (x.0, x.1 ++ more))) → Same more (o >>= f) (o' >>= f')
  then_same {A} {B} (Ok x) o' f f' h k = subst (λ (z : Result (A × List ℕ) ReadError). Same more (f x) (z >>= f')) (sym h) (k x)
  then_same (Err reads.Truncated) o' f f' h k = tt
  then_same {A} {B} (Err (reads.BadField left)) o' f f' h k = ap (λ (z : Result (A × List ℕ) ReadError). z >>= f') h
  then_same {A} {B} (Err reads.BadMagic) o' f f' h k = ap (λ (z : Result (A × List ℕ) ReadError). z >>= f') h
  then_same {A} {B} (Err reads.BadVersion) o' f f' h k = ap (λ (z : Result (A × List ℕ) ReadError). z >>= f') h
  then_same {A} {B} (Err reads.OutOfMemory) o' f f' h k = ap (λ (z : Result (A × List ℕ) ReadError). z >>= f') h

  same_fault : (A : Type 0) (d : ReadError) → Same {A = A} more (Err d) (Err (farther (length more) d))
  same_fault A (reads.BadField left) = refl
  same_fault A reads.BadMagic = refl
  same_fault A reads.BadVersion = refl
  same_fault A reads.Truncated = tt
  same_fault A reads.OutOfMemory = refl

  either : {A : Type 0} (b : Bool) (x y x' y' : Result (A × List ℕ) ReadError) → Same more x x' → Same more y y' → Same more (cond b x y) (cond b x' y')
  either true x y x' y' h k = h
  either false x y x' y' h k = k

  bad_farther : (bytes : List ℕ) → bad (bytes ++ more) ≡ farther (length more) (bad bytes)
  bad_farther bytes = ap reads.BadField (length-append bytes more)

  steady_judged : {A : Type 0} {r r' : FieldReader A} (fault : ReadError) (test : A → Bool) → Steady r r' → Steady (judged fault test r) (judged (farther (length more) fault) test r')
  steady_judged {r = r} {r' = r'} fault test p = record { same = λ bytes. then_same (r bytes) (r' (bytes ++ more)) _ _ (p.same bytes) (λ x. either (test x.0) _ _ _ _ refl (same_fault _ fault)) }

  steady_if : {A : Type 0} {r : FieldReader A} (test : A → Bool) → Steady r r → Steady (only_if test r) (only_if test r)
  steady_if {r = r} test p = record {
    same = λ bytes.
        subst (λ (d : ReadError). Same more (only_if test r bytes) (judged d test r (bytes ++ more))) (sym (bad_farther bytes)) ((steady_judged (bad bytes) test p).same bytes);
  }

  steady_both : {A B : Type 0} {r r' : FieldReader A} {s s' : A → FieldReader B} → Steady r r' → ((a : A) → Steady (s a) (s' a)) → Steady (paired r s) (paired r' s')
  steady_both {r = r} {r' = r'} {s = s} {s' = s'} p q = record {
    same = λ bytes.
        then_same (r bytes) (r' (bytes ++ more)) _ _ (p.same bytes) (λ x. then_same (s x.0 x.1) (s' x.0 (x.1 ++ more)) _ _ ((q x.0).same x.1) (λ y. refl));
  }

  steady_as : {A B : Type 0} {r r' : FieldReader A} (f : A → B) → Steady r r' → Steady (seen_as f r) (seen_as f r')
  steady_as {r = r} {r' = r'} f p = record { same = λ bytes. then_same (r bytes) (r' (bytes ++ more)) _ _ (p.same bytes) (λ x. refl) }

  same_many : {A S : Type 0} (r : S → FieldReader A) (next : S → A → S) → ((s : S) → Steady (r s) (r s)) → (n : ℕ) (s : S) (bytes : List ℕ) → Same more (many r next n s bytes) (many r next n s (bytes ++ more))
  unfolding many
  same_many r next p zero s bytes = refl
  same_many r next p (suc n) s bytes =
      then_same (r s bytes) (r s (bytes ++ more)) _ _ ((p s).same bytes)
      (λ x. then_same (many r next n (next s x.0) x.1) (many r next n (next s x.0) (x.1 ++ more)) _ _ (same_many r next p n (next s x.0) x.1) (λ xs. refl))

  steady_many : {A S : Type 0} (r : S → FieldReader A) (next : S → A → S) → ((s : S) → Steady (r s) (r s)) → (n : ℕ) (s : S) → Steady (many r next n s) (many r next n s)
  steady_many r next p n s = record { same = same_many r next p n s }

  -- ---- fields

  steady_byte : Steady read_byte read_byte
  steady_byte = record { same = one }
    where
      one : (bytes : List ℕ) → Same more (read_byte bytes) (read_byte (bytes ++ more))
      one [] = tt
      one (b ∷ bytes) = refl

  enough : {A : Type 0} (k : ℕ) (value : List ℕ → A) (bytes : List ℕ) (b : Bool) → ltb (length bytes) k ≡ b
      → Same more (cond b (Err reads.Truncated) (Ok (value (take k bytes), drop k bytes))) (cond (ltb (length (bytes ++ more)) k) (Err reads.Truncated) (Ok (value (take k (bytes ++ more)), drop k (bytes ++ more))))
  enough k value bytes true e = tt
  enough k value bytes false e =
      let long : k ≤ length bytes = ltb-false _ _ e in
      let longer : ltb (length (bytes ++ more)) k ≡ false = le-ltb _ _ (omega (arith, length-append bytes more)) in
      rw (longer, take-append-le k bytes more long, drop-append-le k bytes more long) refl

  steady_number : (w : Width) → Steady (read_number w) (read_number w)
  steady_number w = record { same = λ bytes. enough (byte_len w) (from_be_bytes w) bytes (ltb (length bytes) (byte_len w)) refl }

  steady_bytes : (n : ℕ) → Steady (read_bytes n) (read_bytes n)
  steady_bytes n = record { same = λ bytes. enough n (λ xs. xs) bytes (ltb (length bytes) n) refl }

  steady_long : (test : ℕ → Bool) → Steady (only_if test (read_number w32)) (only_if test (read_number w32))
  steady_long test = steady_if test (steady_number w32)

  steady_below : (limit : ℕ) → Steady (only_if (below limit) read_byte) (only_if (below limit) read_byte)
  steady_below limit = steady_if (below limit) steady_byte

  steady_sizes : Steady read_sizes read_sizes
  unfolding read_sizes
  steady_sizes = steady_as sizes_from (steady_both (steady_long (within 1 255)) (λ c. steady_both (steady_long (within 0 4096)) (λ r. steady_both (steady_long (within 1 8192)) (λ n.
      steady_both (steady_long (within 1 256)) (λ k. steady_long (within k 2097152))))))

  steady_end : Steady read_end read_end
  unfolding read_end
  steady_end = steady_as end_from (steady_both (steady_as (λ (p : ℕ × List ℕ). p.1) (steady_both (steady_long (within 0 4096)) steady_bytes)) (λ p. steady_below 64))

  steady_condition : (states : ℕ) → Steady (read_condition states) (read_condition states)
  unfolding read_condition
  steady_condition states = steady_as condition_from (steady_both (steady_long (below states)) (λ s. steady_both (steady_long (below states)) (λ l. steady_end)))

  -- ---- rules

  same_cut : (d : ReadError) (k : ℕ) (bytes : List ℕ) → Same more (cut_number d k bytes) (cut_number (farther (length more) d) k (bytes ++ more))
  same_cut d k bytes =
      either (k == 0) _ _ _ _ ((steady_as whole_of (steady_long (below 1))).same bytes)
      (either (k == 1) _ _ _ _ ((steady_as Head (steady_long (below 65536))).same bytes)
      (either (k == 2) _ _ _ _ ((steady_as Trail (steady_long (below 65536))).same bytes) (same_fault _ d)))

  steady_cut : Steady read_cut read_cut
  unfolding read_cut
  steady_cut = record {
    same = λ bytes.
        subst (λ (d : ReadError). Same more (read_byte bytes >>= λ k. cut_number (bad bytes) k.0 k.1) (read_byte (bytes ++ more) >>= λ k. cut_number d k.0 k.1)) (sym (bad_farther bytes))
        (then_same (read_byte bytes) (read_byte (bytes ++ more)) (λ k. cut_number (bad bytes) k.0 k.1) (λ k. cut_number (farther (length more) (bad bytes)) k.0 k.1) (steady_byte.same bytes) (λ k. same_cut (bad bytes) k.0 k.1));
  }

  steady_literal : (room : ℕ) (d : ReadError) → Steady (read_literal room d) (read_literal room (farther (length more) d))
  steady_literal room d = steady_as (λ (p : ℕ × List ℕ). p.1) (steady_both (steady_judged d (λ n. nat_le n room) (steady_long (within 1 4096))) steady_bytes)

  same_arguments : (conditions : ℕ) (s : Seen) (d : ReadError) (k : ℕ) (bytes : List ℕ) → Same more (arguments conditions s d k bytes) (arguments conditions s (farther (length more) d) k (bytes ++ more))
  same_arguments conditions s d k bytes =
      either (k == 0) _ _ _ _ refl
      (either (k == 1) _ _ _ _ ((steady_as Print (steady_literal (4096 - s.literal) d)).same bytes)
      (either (k == 2) _ _ _ _ ((steady_as Begin (steady_below conditions)).same bytes)
      (either (k == 3) _ _ _ _ refl
      (either (k == 4) _ _ _ _ ((steady_as Less (steady_if (λ n. nat_lt 0 n) (steady_number w16))).same bytes)
      (either (k == 5) _ _ _ _ refl
      (either (k == 6) _ _ _ _ ((steady_as End (steady_below 64)).same bytes)
      (either (k == 7) _ _ _ _ ((steady_as Push (steady_below conditions)).same bytes)
      (either (k == 8) _ _ _ _ refl (same_fault _ d)))))))))

  steady_statement : (conditions : ℕ) (s : Seen) → Steady (read_statement conditions s) (read_statement conditions s)
  unfolding read_statement
  steady_statement conditions s = record {
    same = λ bytes.
        subst (λ (d : ReadError). Same more (read_byte bytes >>= λ k. cond (bars s k.0) (Err (bad bytes)) (arguments conditions s (bad bytes) k.0 k.1)) (read_byte (bytes ++ more) >>= λ k. cond (bars s k.0) (Err d) (arguments conditions s d k.0 k.1))) (sym (bad_farther bytes))
        (then_same (read_byte bytes) (read_byte (bytes ++ more)) (λ k. cond (bars s k.0) (Err (bad bytes)) (arguments conditions s (bad bytes) k.0 k.1)) (λ k. cond (bars s k.0) (Err (farther (length more) (bad bytes))) (arguments conditions s (farther (length more) (bad bytes)) k.0 k.1)) (steady_byte.same bytes)
        (λ k. either (bars s k.0) _ _ _ _ (same_fault _ (bad bytes)) (same_arguments conditions s (bad bytes) k.0 k.1)));
  }

  steady_rule : (conditions : ℕ) (stack : Bool) → Steady (read_rule conditions stack) (read_rule conditions stack)
  unfolding read_rule
  steady_rule conditions stack = steady_as rule_from (steady_both steady_cut (λ c.
      steady_as (λ (p : ℕ × List Statement). p.1) (steady_both (steady_long (within 0 256)) (λ n. steady_many (read_statement conditions) seen_after (steady_statement conditions) n (unseen stack n)))))

  -- ---- states and slots

  steady_row : (z : Sizes) (rejects : Bool) (s : ℕ) → Steady (read_row z rejects s) (read_row z rejects s)
  unfolding read_row
  steady_row z rejects s = steady_as row_from (steady_both (steady_long (λ n. nat_lt n z.states && none_at_0 s n)) (λ d. steady_both (steady_long (λ n. nat_le (n + z.classes) z.slots && none_at_0 s n)) (λ b.
      steady_as (λ (p : ℕ × List ℕ). p.1) (steady_both (steady_long (few rejects s)) (λ n. steady_many (read_accepted z.rules) above (λ low. steady_long (between low z.rules)) n 0)))))

  steady_slot : (z : Sizes) (bases : List ℕ) (i : ℕ) → Steady (read_slot z bases i) (read_slot z bases i)
  unfolding read_slot
  steady_slot z bases i = steady_as slot_from (steady_both (steady_long (good_check z bases i)) (λ c. steady_long (λ n. nat_lt n z.states && none_at_0 c n)))

  -- ---- the whole

  steady_body : (v : ℕ) (d : ReadError) (z : Sizes) → Steady (read_body v d z) (read_body v (farther (length more) d) z)
  steady_body v d z =
      steady_both (steady_many (λ i. read_condition z.states) following (λ i. steady_condition z.states) z.conditions 0) (λ cs.
      steady_both (steady_judged d (λ rs. version_of rs == v) (steady_many (λ i. read_rule z.conditions (v == 2)) following (λ i. steady_rule z.conditions (v == 2)) z.rules 0)) (λ rs.
      steady_both (steady_many (read_class z.classes) following (λ i. steady_below z.classes) 256 0) (λ ks.
      steady_both (steady_many (read_row z (some_rule_rejects rs)) following (steady_row z (some_rule_rejects rs)) z.states 0) (λ rows.
      steady_many (read_slot z (bases_of rows)) following (steady_slot z (bases_of rows)) z.slots 0))))

  abbrev from_version : ReadError → FieldReader (ℕ × (Sizes × Body))
  from_version d = paired (judged reads.BadVersion (λ v. v == 1 || v == 2) (read_number w16)) (λ v. paired read_sizes (λ z. read_body v d z))

  steady_from : (d : ReadError) → Steady (from_version d) (from_version (farther (length more) d))
  steady_from d = steady_both (steady_judged reads.BadVersion (λ v. v == 1 || v == 2) (steady_number w16)) (λ v. steady_both steady_sizes (λ z. steady_body v d z))

  steady_versioned : Steady read_versioned read_versioned
  steady_versioned = record {
    same = λ bytes.
        subst (λ (d : ReadError). Same more (from_version (bad bytes) bytes) (from_version d (bytes ++ more))) (sym (bad_farther bytes)) ((steady_from (bad bytes)).same bytes);
  }

  pub steady_table : Steady read_table read_table
  unfolding read_table
  steady_table = steady_as table_from (steady_both (steady_judged reads.BadMagic is_magic (steady_bytes 6)) (λ m. steady_versioned))

-- a refusal that is not for want of bytes stands whatever follows
still : (bytes more : List ℕ) (o o' : Result (Table × List ℕ) ReadError) (e : TableError) → Same more o o' → refusal_in (length bytes) o ≡ Some e → is_truncated e ≡ false → refusal_in (length (bytes ++ more)) o' ≡ Some e
still bytes more (Ok x) o' e h r n = ap (refusal_in (length (bytes ++ more))) h ∙ left x.1 r
  where
    left : (rest : List ℕ) → left_over rest ≡ Some e → left_over (rest ++ more) ≡ Some e
    left [] r = absurd cc
    left (b ∷ rest) r = r
still bytes more (Err reads.Truncated) o' e h r n = absurd cc
still bytes more (Err (reads.BadField left)) o' e h r n =
    let same : length (bytes ++ more) - (left + length more) ≡ length bytes - left = omega (arith, length-append bytes more) in
    ap (refusal_in (length (bytes ++ more))) h ∙ ap (λ (at : ℕ). Some (errors.BadField at)) same ∙ r
still bytes more (Err reads.BadMagic) o' e h r n = ap (refusal_in (length (bytes ++ more))) h ∙ r
still bytes more (Err reads.BadVersion) o' e h r n = ap (refusal_in (length (bytes ++ more))) h ∙ r
still bytes more (Err reads.OutOfMemory) o' e h r n = ap (refusal_in (length (bytes ++ more))) h ∙ r

pub whatever_follows : (bytes more : List ℕ) (e : TableError) → read_refusal bytes ≡ Some e → is_truncated e ≡ false → read_refusal (bytes ++ more) ≡ Some e
whatever_follows bytes more e r n = still bytes more (read_table bytes) (read_table (bytes ++ more)) e ((steady_table more).same bytes) r n

-- each front of a table's file is cut short
cut : (t : Table) (front rest : List ℕ) (o o' : Result (Table × List ℕ) ReadError) → Same rest o o' → o' ≡ Ok (t, []) → 0 < length rest → refusal_in (length front) o ≡ Some errors.Truncated
cut t front rest (Ok x) o' h w some =
    let s = same_ok (t, []) (x.0, x.1 ++ rest) (sym w ∙ h) in
    let l = ap (λ (y : Table × List ℕ). length y.1) s in
    absurd (omega (arith, l, length-append x.1 rest, some))
cut t front rest (Err reads.Truncated) o' h w some = refl
cut t front rest (Err (reads.BadField left)) o' h w some = absurd cc
cut t front rest (Err reads.BadMagic) o' h w some = absurd cc
cut t front rest (Err reads.BadVersion) o' h w some = absurd cc
cut t front rest (Err reads.OutOfMemory) o' h w some = absurd cc

pub cut_short : (t : Table) (front rest : List ℕ) → IsTable t → file_of t ≡ front ++ rest → 0 < length rest → read_refusal front ≡ Some errors.Truncated
cut_short t front rest ok e some =
    cut t front rest (read_table front) (read_table (front ++ rest)) ((steady_table rest).same front) (ap read_table (sym e ∙ sym (append-nil (file_of t))) ∙ front_again t [] ok) some
