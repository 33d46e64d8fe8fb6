-- What a match goes through, byte by byte.
use Rattle.std.proofs.Common.{◌≡◌, ◌≢◌, ◌⊎◌, ◌↔◌, ℕ, suc, length, drop, drop-cons, get_or, arith, ◌+◌, ◌*◌, ◌<◌, true, List, [], ◌∷◌, ◌++◌, inl, inr, refl, sym, ap, subst, ◌∙◌}
use Rattle.lex_semantics.specs.Text.{flag}
use Rattle.lexauto_dfa.specs.Parts.{after, next}
use Rattle.lexauto_dfa.specs.declared.dfa.Parts.{Parts}
use Rattle.lexlook_suites.specs.Marking.{Adds, IsSized}
use Rattle.lexlook_suites.specs.Walks.{ComesTo, GoesBy}
use Rattle.lexlook_suites.specs.declared.marks.Marks.{Marks}

-- ---- a text of one byte more

module _ (p : Parts) (s b : ℕ) (w : List ℕ) where
  comes_apart : (q : ℕ) (front rest : List ℕ) → b ∷ w ≡ front ++ rest → after p s front ≡ q → q ≢ 0 → ((q ≡ s) × (q ≢ 0)) ⊎ ComesTo p (next p s b) w q
  comes_apart q [] rest is leads some = inl (sym leads, some)
  comes_apart q (c ∷ f) rest is leads some =
      let same : c ≡ b = cc in
      let tail : w ≡ f ++ rest = cc in
      inr (f, rest, tail, subst (λ (x : ℕ). after p (next p s x) f ≡ q) same leads, some)

  goes_apart : (q c : ℕ) (front rest : List ℕ) → b ∷ w ≡ front ++ c ∷ rest → after p s front ≡ q → next p q c ≢ 0 → ((q ≡ s) × (c ≡ b) × (next p s b ≢ 0)) ⊎ GoesBy p (next p s b) w q c
  goes_apart q c [] rest is leads on =
      let same : c ≡ b = cc in
      inl (sym leads, same, subst (λ (x : ℕ). next p s x ≢ 0) same (subst (λ (x : ℕ). next p x c ≢ 0) (sym leads) on))
  goes_apart q c (d ∷ f) rest is leads on =
      let same : d ≡ b = cc in
      let tail : w ≡ f ++ c ∷ rest = cc in
      inr (f, rest, tail, subst (λ (x : ℕ). after p (next p s x) f ≡ q) same leads, on)

  pub comes_first : (q : ℕ) → ComesTo p s (b ∷ w) q ↔ (((q ≡ s) × (q ≢ 0)) ⊎ ComesTo p (next p s b) w q)
  comes_first q = (
    λ h. comes_apart q h.0 h.1 h.2 h.3 h.4,
    λ h. elim h [
      | inl here ↦ ([], b ∷ w, refl, sym here.0, here.1)
      | inr on ↦ (b ∷ on.0, on.1, ap (λ l. b ∷ l) on.2, on.3, on.4)
    ],
  )

  goes_here : (q c : ℕ) → q ≡ s → c ≡ b → next p s b ≢ 0 → GoesBy p s (b ∷ w) q c
  goes_here q c is same on = ([], w, ap (λ (x : ℕ). x ∷ w) (sym same), sym is, subst (λ (x : ℕ). next p x c ≢ 0) (sym is) (subst (λ (x : ℕ). next p s x ≢ 0) (sym same) on))

  pub goes_first : (q c : ℕ) → GoesBy p s (b ∷ w) q c ↔ (((q ≡ s) × (c ≡ b) × (next p s b ≢ 0)) ⊎ GoesBy p (next p s b) w q c)
  goes_first q c = (
    λ h. goes_apart q c h.0 h.1 h.2 h.3 h.4,
    λ h. elim h [
      | inl here ↦ goes_here q c here.0 here.1 here.2
      | inr on ↦ (b ∷ on.0, on.1, ap (λ l. b ∷ l) on.2, on.3, on.4)
    ],
  )

-- ---- no byte more

comes_nowhere : (p : Parts) (s q : ℕ) (front rest : List ℕ) → [] ≡ front ++ rest → after p s front ≡ q → q ≡ s
comes_nowhere p s q [] rest is leads = sym leads
comes_nowhere p s q (c ∷ f) rest is leads = absurd cc

pub comes_last : (p : Parts) (s q : ℕ) → ComesTo p s [] q ↔ ((q ≡ s) × (q ≢ 0))
comes_last p s q = (
  λ h. (comes_nowhere p s q h.0 h.1 h.2 h.3, h.4),
  λ h. ([], [], refl, sym h.0, h.1),
)

pub not_empty : (c : ℕ) (front rest : List ℕ) → [] ≡ front ++ c ∷ rest → ⊥
not_empty c [] rest is = cc
not_empty c (d ∷ f) rest is = cc

pub goes_nowhere : (p : Parts) (s q c : ℕ) → GoesBy p s [] q c → ⊥
goes_nowhere p s q c h = not_empty c h.0 h.1 h.2

-- ---- from the dead state

stays_dead : (p : Parts) (dead : (b : ℕ) → next p 0 b ≡ 0) (w : List ℕ) → after p 0 w ≡ 0
stays_dead p dead [] = refl
stays_dead p dead (b ∷ w) = ap (λ (s : ℕ). after p s w) (dead b) ∙ stays_dead p dead w

pub comes_dead : (p : Parts) (dead : (b : ℕ) → next p 0 b ≡ 0) (w : List ℕ) (q : ℕ) → ComesTo p 0 w q → ⊥
comes_dead p dead w q h = h.4 (sym h.3 ∙ stays_dead p dead h.0)

pub goes_dead : (p : Parts) (dead : (b : ℕ) → next p 0 b ≡ 0) (w : List ℕ) (q c : ℕ) → GoesBy p 0 w q c → ⊥
goes_dead p dead w q c h = h.4 (subst (λ (s : ℕ). next p s c ≡ 0) (sym (stays_dead p dead h.0) ∙ h.3) (dead c))

-- ---- marks

abbrev MarksByte : Marks → ℕ → ℕ → Type 0
MarksByte m q b = flag m.bytes.items (256 * q + b) ≡ true

-- What is marked, with what the rest of a walk goes through, is what was marked, with what the whole walk does.
pub record Walking (p : Parts) (n : ℕ) (old m : Marks) (start : ℕ) (text : List ℕ) (s : ℕ) (w : List ℕ) : Type 0 where
  pub size : IsSized n m
  pub states : (q : ℕ) → q < n → ((flag m.states.items q ≡ true) ⊎ ComesTo p s w q) ↔ ((flag old.states.items q ≡ true) ⊎ ComesTo p start text q)
  pub bytes : (q b : ℕ) → q < n → b < 256 → ((flag m.bytes.items (256 * q + b) ≡ true) ⊎ GoesBy p s w q b) ↔ ((flag old.bytes.items (256 * q + b) ≡ true) ⊎ GoesBy p start text q b)

pub walking_start : (p : Parts) (n : ℕ) (old : Marks) (start : ℕ) (text : List ℕ) → IsSized n old → Walking p n old old start text start text
walking_start p n old start text size = record {
  size = size;
  states = λ q low. (λ h. h, λ h. h);
  bytes = λ q b low small. (λ h. h, λ h. h);
}

-- one part more is marked, of what is left
pub moved : (A B C X Y Z : Type 0) → (B ↔ (A ⊎ X)) → (Y ↔ (X ⊎ C)) → ((A ⊎ Y) ↔ Z) → ((B ⊎ C) ↔ Z)
moved A B C X Y Z one two all = (
  λ h. all.0 (elim h [
    | inl b ↦ elim (one.0 b) [ inl a ↦ inl a | inr x ↦ inr (two.1 (inl x)) ]
    | inr c ↦ inr (two.1 (inr c))
  ]),
  λ z. elim (all.1 z) [
    | inl a ↦ inl (one.1 (inl a))
    | inr y ↦ elim (two.0 y) [ inl x ↦ inl (one.1 (inr x)) | inr c ↦ inr c ]
  ],
)

-- nothing is left
ended : (A B X Z : Type 0) → (B ↔ (A ⊎ X)) → ((A ⊎ X) ↔ Z) → (B ↔ Z)
ended A B X Z one all = (λ b. all.0 (one.0 b), λ z. one.1 (all.1 z))

none_added : (A B : Type 0) → (B ↔ (A ⊎ ⊥)) → (B ↔ A)
none_added A B h = (λ b. elim (h.0 b) [ inl a ↦ a | inr never ↦ absurd never ], λ a. h.1 (inl a))

through : (A B C : Type 0) → (A ↔ B) → (B ↔ C) → (A ↔ C)
through A B C f g = (λ a. g.0 (f.0 a), λ c. f.1 (g.1 c))

pub only_left : (A X Z : Type 0) → (X → ⊥) → ((A ⊎ X) ↔ Z) → (A ↔ Z)
only_left A X Z never all = (λ a. all.0 (inl a), λ z. elim (all.1 z) [ inl a ↦ a | inr x ↦ absurd (never x) ])

module _ (p : Parts) (n : ℕ) (old : Marks) (start : ℕ) (text : List ℕ) where
  pub walking_on : (m one two : Marks) (s b t : ℕ) (w : List ℕ) → Walking p n old m start text s (b ∷ w) → t ≡ next p s b
      → Adds n m one (λ q. (q ≡ s) × (q ≢ 0)) (λ q c. ⊥) → Adds n one two (λ q. ⊥) (λ q c. (q ≡ s) × (c ≡ b) × (t ≢ 0)) → Walking p n old two start text t w
  walking_on m one two s b t w h is came went = subst (λ (x : ℕ). Walking p n old two start text x w) (sym is) (record {
    size = went.size;
    states = λ q low. moved _ _ _ _ _ _ (through _ _ _ (none_added _ _ (went.states q low)) (came.states q low)) (comes_first p s b w q) (h.states q low);
    bytes = λ q c low small. moved _ _ _ _ _ _
        (through _ _ _ (subst (λ (x : ℕ). MarksByte two q c ↔ (MarksByte one q c ⊎ ((q ≡ s) × (c ≡ b) × (x ≢ 0)))) is (went.bytes q c low small))
        (λ x. elim x [ inl a ↦ inl ((none_added _ _ (came.bytes q c low small)).0 a) | inr y ↦ inr y ], λ x. elim x [ inl a ↦ inl ((none_added _ _ (came.bytes q c low small)).1 a) | inr y ↦ inr y ]))
        (goes_first p s b w q c) (h.bytes q c low small);
  })

  pub walked_dead : (m : Marks) (s : ℕ) (w : List ℕ) → ((b : ℕ) → next p 0 b ≡ 0) → s ≡ 0 → Walking p n old m start text s w → Adds n old m (ComesTo p start text) (GoesBy p start text)
  walked_dead m s w dead is h =
      let g = subst (λ (x : ℕ). Walking p n old m start text x w) is h in
      record {
        size = h.size;
        states = λ q low. only_left _ _ _ (comes_dead p dead w q) (g.states q low);
        bytes = λ q b low small. only_left _ _ _ (goes_dead p dead w q b) (g.bytes q b low small);
      }

  pub walked_all : (m one : Marks) (s : ℕ) (w : List ℕ) → w ≡ [] → Walking p n old m start text s w → Adds n m one (λ q. (q ≡ s) × (q ≢ 0)) (λ q c. ⊥) → Adds n old one (ComesTo p start text) (GoesBy p start text)
  walked_all m one s w is h came =
      let g = subst (λ (l : List ℕ). Walking p n old m start text s l) is h in
      record {
        size = came.size;
        states = λ q low. through _ _ _ (came.states q low)
            (through _ _ _ (λ x. elim x [ inl a ↦ inl a | inr y ↦ inr ((comes_last p s q).1 y) ], λ x. elim x [ inl a ↦ inl a | inr y ↦ inr ((comes_last p s q).0 y) ]) (g.states q low));
        bytes = λ q b low small. through _ _ _ (none_added _ _ (came.bytes q b low small)) (only_left _ _ _ (goes_nowhere p s q b) (g.bytes q b low small));
      }

-- what is left of a list begins with the element at its place
pub left_first : {A : Type 0} (xs : List A) (i : ℕ) (d : A) → i < length xs → drop i xs ≡ get_or xs i d ∷ drop (i + 1) xs
left_first xs i d low = let e : suc i ≡ i + 1 = omega arith in drop-cons xs i d low ∙ ap (λ (k : ℕ). get_or xs i d ∷ drop k xs) e
