-- Lists of noted blocks.
use Rattle.std.proofs.Common.{◌≡◌, ℕ, ◌+◌, ◌<◌, ◌⊎◌, Bool, true, List, [], ◌∷◌, ◌++◌, length, get_or, ap, sym, subst, ◌∙◌, refl, inl, inr, arith, length-append, Vec, Global}
use Rattle.std.proofs.lemmas.List.{get_or_append_left, get_or-append-add}
use Rattle.std.specs.Prelude.{slice_index}
use Rattle.lexauto_dfa.specs.Sources.{Has, HasBelow}
use Rattle.lexauto_dfa.specs.declared.least.blocks.Blocks.{Blocks}
use Rattle.lexauto_dfa.specs.Arranged.{Arranged, IsAlone, IsMarked, IsTouched, block_of, count, states}
use Rattle.lexauto_dfa.specs.Marked.{Marks, Notes}

pub has_more : (xs : List ℕ) (d c : ℕ) → Has xs c → Has (xs ++ d ∷ []) c
has_more xs d c (i, h, e) = (i, (let l = length-append xs (d ∷ []) in omega (arith, l, h)), get_or_append_left xs (d ∷ []) 0 i h ∙ e)

pub has_last : (xs : List ℕ) (d : ℕ) → Has (xs ++ d ∷ []) d
has_last xs d = (length xs, (let l = length-append xs (d ∷ []) in omega (arith, l)), ap (λ (i : ℕ). get_or (xs ++ d ∷ []) i 0) (let e : length xs ≡ length xs + 0 = omega arith in e) ∙ get_or-append-add xs (d ∷ []) 0 0)

pub marks_then : (a b c : Blocks) (P Q R : ℕ → Type 0) → Marks a P b → Marks b Q c → ((x : ℕ) → R x → P x ⊎ Q x) → ((x : ℕ) → P x → R x) → ((x : ℕ) → Q x → R x) → Marks a R c
marks_then a b c P Q R f g split left right =
    let same : states b ≡ states a = ap (λ (v : Vec ℕ Global). length v.items) f.block in
    record {
      block = g.block ∙ f.block;
      first = g.first ∙ f.first;
      marked = λ x h r. elim (split x r) [
        | inl p ↦ elim (f.marked x h p) [ inl w ↦ inl (g.keeps x (omega (arith, same, h)) w) | inr s ↦ inr s ]
        | inr q ↦ elim (g.marked x (omega (arith, same, h)) q) [
          | inl w ↦ inl w
          | inr s ↦ inr (subst (λ (v : Vec ℕ Global). (y : ℕ) → y < length v.items → slice_index v.items y ≡ slice_index v.items x → y ≡ x) f.block s)
        ]
      ];
      keeps = λ x h m. g.keeps x (omega (arith, same, h)) (f.keeps x h m);
      only = λ x h m. elim (g.only x (omega (arith, same, h)) m) [
        | inl n ↦ elim (f.only x h n) [ inl o ↦ inl o | inr p ↦ inr (left x p) ]
        | inr q ↦ inr (right x q)
      ];
    }

pub below_more : (xs : List ℕ) (n t c : ℕ) → slice_index xs n ≡ t → HasBelow xs (n + 1) c → HasBelow xs n c ⊎ (c ≡ t)
below_more xs n t c e (i, h, f) = elim (less i n h) [ inl g ↦ inl (i, g, f) | inr q ↦ inr (sym f ∙ ap (λ (j : ℕ). slice_index xs j) q ∙ e) ]
  where
    less : (i n : ℕ) → i < n + 1 → (i < n) ⊎ (i ≡ n)
    less i n h = grind arith

-- one state is marked
module _ (old new : Blocks) (x : ℕ) (first : Bool) (block : new.block ≡ old.block) (firsts : new.first ≡ old.first)
    (touches : (c : ℕ) → IsTouched new c → IsTouched old c ⊎ ((c ≡ block_of old x) × (first ≡ true))) where
  same_count : count new ≡ count old
  same_count = ap (λ (v : Vec ℕ Global). length v.items) firsts

  pub one_marked : IsMarked new x → ((y : ℕ) → y < states old → IsMarked old y → IsMarked new y)
      → ((y : ℕ) → y < states old → IsMarked new y → IsMarked old y ⊎ (y ≡ x)) → Marks old (λ y. y ≡ x) new
  one_marked marks keeps only = record {
    block = block;
    first = firsts;
    marked = λ y h e. inl (subst (λ (z : ℕ). IsMarked new z) (sym e) marks);
    keeps = keeps;
    only = only;
  }

  -- its block is noted
  pub noted : (touched : List ℕ) → block_of old x < count old → Notes touched old → Notes (touched ++ block_of old x ∷ []) new
  noted touched low notes = record {
    all = λ c h t. elim (touches c t) [
      | inl o ↦ has_more touched (block_of old x) c (notes.all c (omega (arith, same_count, h)) o)
      | inr (e, now) ↦ subst (λ (d : ℕ). Has (touched ++ block_of old x ∷ []) d) (sym e) (has_last touched (block_of old x))
    ];
    blocks = λ i h. elim (low_or_last i (length touched) (let l = length-append touched (block_of old x ∷ []) in omega (arith, l, h))) [
      | inl g ↦ (let b = notes.blocks i g in let e : slice_index (touched ++ block_of old x ∷ []) i ≡ slice_index touched i = get_or_append_left touched (block_of old x ∷ []) 0 i g in omega (arith, e, b, same_count))
      | inr q ↦ (let e : slice_index (touched ++ block_of old x ∷ []) i ≡ block_of old x = ap (λ (j : ℕ). get_or (touched ++ block_of old x ∷ []) j 0) (let z : i ≡ length touched + 0 = omega (arith, q) in z) ∙ get_or-append-add touched (block_of old x ∷ []) 0 0 in omega (arith, e, low, same_count))
    ];
  }
    where
      low_or_last : (i n : ℕ) → i < n + 1 → (i < n) ⊎ (i ≡ n)
      low_or_last i n h = grind arith

-- a block of one place has one state
pub alone_in : (b : Blocks) (x : ℕ) → Arranged b → x < states b
    → slice_index b.first.items (block_of b x) + 1 ≡ slice_index b.end.items (block_of b x) → IsAlone b x
alone_in b x a h one = λ y k q.
    let fx = a.after x h in
    let tx = a.before x h in
    let fy = a.after y k in
    let ty = a.before y k in
    let f : slice_index b.first.items (block_of b y) ≡ slice_index b.first.items (block_of b x) = ap (λ (c : ℕ). slice_index b.first.items c) q in
    let t : slice_index b.end.items (block_of b y) ≡ slice_index b.end.items (block_of b x) = ap (λ (c : ℕ). slice_index b.end.items c) q in
    let same : slice_index b.place.items y ≡ slice_index b.place.items x = omega (arith, fx, tx, fy, ty, f, t, one) in
    sym (a.back y k) ∙ ap (λ (i : ℕ). slice_index b.order.items i) same ∙ a.back x h

-- one that is alone need not be marked
pub alone_marks : (b : Blocks) (x : ℕ) → IsAlone b x → Marks b (λ y. y ≡ x) b
alone_marks b x alone = record {
  block = refl;
  first = refl;
  marked = λ y h e. inr (subst (λ (z : ℕ). IsAlone b z) (sym e) alone);
  keeps = λ y h m. m;
  only = λ y h m. inl m;
}
