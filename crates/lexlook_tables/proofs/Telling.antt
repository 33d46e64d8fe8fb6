-- The text that leads to a pair, from its last byte back.
use Rattle.std.proofs.Common.{◌≡◌, ℕ, suc, ◌<◌, Bool, List, [], ◌∷◌, ◌++◌, length, sym, ◌∙◌, ap, subst, arith}
use Rattle.std.specs.Prelude.{reverse}
use Rattle.std.proofs.lemmas.List.{reverse-append, length-reverse, length-append, append_assoc}
use Rattle.lex_semantics.specs.Text.{IsText}
use Rattle.lex_semantics.specs.Machine.{Machine, walk}
use Rattle.lex_semantics.proofs.Texts.{is_text_append}
use Rattle.lexlook_tables.specs.declared.same.differing.Difference.{Difference}
use Rattle.lexlook_tables.specs.declared.same.pairs.From.TheVariants.{Start, Byte}
use Rattle.lexlook_tables.specs.declared.same.pairs.Pair.{Pair}
use Rattle.lexlook_tables.specs.Same.{number_in, key}
use Rattle.lexlook_tables.specs.Searching.{HasAt, KeyAt, IsKey, AreKeyed, IsFrom, AreLinked, IsTextOf, IsSuffixOf}
use Rattle.lexlook_tables.proofs.Lists.{one_at, some_at}

is_text_reverse : (t : List ℕ) → IsText t → IsText (reverse t)
is_text_reverse [] h = tt
is_text_reverse (b ∷ t) h = subst IsText (sym (reverse-append (b ∷ []) t)) (is_text_append (reverse t) (b ∷ []) (is_text_reverse t h.1) (h.0, tt))

module _ (order : List ℕ) (M N : Machine) (ps : List Pair) (i : ℕ) (p q : Pair) (b : ℕ) (t : List ℕ) (linked : AreLinked order M N ps) (at : HasAt ps i q) (h : IsSuffixOf M N p b q t) where
  -- the byte by which the pair was come to stands before the text so far
  pub step_back : (r : Pair) (j c : ℕ) → q.from ≡ Byte j c → HasAt ps j r → IsSuffixOf M N p b r (t ++ c ∷ [])
  step_back r j c from has =
      let w : IsFrom order M N ps i q (Byte j c) = subst (IsFrom order M N ps i q) from (linked i q at) in
      let same : r ≡ w.2 = one_at ps j r w.2 has w.3 in
      let left : q.left ≡ M.next r.left c = w.4.left ∙ ap (λ (z : Pair). M.next z.left c) (sym same) in
      let right : q.right ≡ N.next r.right c = w.4.right ∙ ap (λ (z : Pair). N.next z.right c) (sym same) in
      let far : q.far ≡ suc r.far = w.4.far ∙ ap (λ (z : Pair). suc z.far) (sym same) in
      record {
        text = is_text_append t (c ∷ []) h.text (w.0, tt);
        left = ap (walk M r.left) (reverse-append t (c ∷ [])) ∙ ap (λ s. walk M s (reverse t)) (sym left) ∙ h.left;
        right = ap (walk N r.right) (reverse-append t (c ∷ [])) ∙ ap (λ s. walk N s (reverse t)) (sym right) ∙ h.right;
        size = omega (arith, length-append t (c ∷ []), far, h.size);
      }

  -- where a match starts, it is the whole text
  pub whole_text : (d : Difference) → q.from ≡ Start d.condition d.line_start → d.text.items ≡ reverse t → IsTextOf order M N p b d
  whole_text d from text =
      let w : IsFrom order M N ps i q (Start d.condition d.line_start) = subst (IsFrom order M N ps i q) from (linked i q at) in
      record {
        condition = w.0;
        text = subst IsText (sym text) (is_text_reverse t h.text);
        left = ap (walk M (M.start d.condition d.line_start)) text ∙ ap (λ s. walk M s (reverse t)) (sym w.1.left) ∙ h.left;
        right = ap (walk N (N.start (number_in order d.condition) d.line_start)) text ∙ ap (λ s. walk N s (reverse t)) (sym w.1.right) ∙ h.right;
        size = (let far = w.1.far in omega (arith, ap length text, length-reverse t, far, h.size));
      }

module _ (keys : List (List ℕ)) (ps : List Pair) (i : ℕ) (q : Pair) (t whole : List ℕ) (keyed : AreKeyed keys ps) (sized : length keys ≡ length ps) (lt : i < length ps) (at : HasAt ps i q)
    (h : (u : List ℕ) → KeyAt keys i u → u ++ reverse t ≡ whole) where
  mine : (u : List ℕ) × KeyAt keys i u
  mine = some_at keys i (omega (arith, lt, sized))

  -- so does it with the key of the pair before
  pub key_back : (j c : ℕ) (s : List ℕ) → q.from ≡ Byte j c → KeyAt keys j s → s ++ reverse (t ++ c ∷ []) ≡ whole
  key_back j c s from is =
      let w : IsKey keys mine.0 (Byte j c) = subst (IsKey keys mine.0) from (keyed i q mine.0 at mine.1) in
      let e : mine.0 ≡ s ++ c ∷ [] = w.2 ∙ ap (λ z. z ++ c ∷ []) (one_at keys j w.0 s w.1 is) in
      ap (λ z. s ++ z) (reverse-append t (c ∷ [])) ∙ sym (append_assoc s (c ∷ []) (reverse t)) ∙ ap (λ z. z ++ reverse t) (sym e) ∙ h mine.0 mine.1

  -- where a match starts, it is the key of the text
  pub key_whole : (c : ℕ) (line : Bool) (text : List ℕ) → q.from ≡ Start c line → text ≡ reverse t → key c line text ≡ whole
  key_whole c line text from is =
      let w : IsKey keys mine.0 (Start c line) = subst (IsKey keys mine.0) from (keyed i q mine.0 at mine.1) in
      ap (key c line) is ∙ ap (λ z. z ++ reverse t) (sym w) ∙ h mine.0 mine.1
