-- Which edges there are among those that are told.
use Rattle.std.proofs.Common.{◌≡◌, ◌∙◌, ◌⊎◌, ◌≤◌, ◌<◌, ◌+◌, ◌-◌, ℕ, zero, suc, Bool, true, false, cond, List, [], ◌∷◌, ◌++◌, map, take, flat_map, inl, inr, refl, sym, ap, subst, arith}
use Rattle.std.specs.Prelude.{◌==◌, ◌||◌, if◌then◌else◌, filter, not, Option, Some, None, IfSome}
use Rattle.std.specs.List.{range_with_len}
use Rattle.lex_semantics.specs.Text.{Among}
use Rattle.lexauto_dfa.specs.Parts.{conditions, next, states}
use Rattle.lexauto_dfa.specs.declared.dfa.Parts.{Parts}
use Rattle.lexlook_specs.specs.Classes.{all_bytes}
use Rattle.lexlook_specs.specs.Pictures.{leads_below}
use Rattle.lexlook_specs.specs.declared.words.finding.ShownText.{ShownText}
use Rattle.lexauto_dfa.proofs.Accepting.{among_push}
use Rattle.lexlook_suites.specs.CoverLines.{HasName}
use Rattle.lexlook_suites.specs.Edges.{all_edges, marked_edge, edges_from, goes_to, marked_by, rule_at}
use Rattle.lexlook_suites.specs.Texts.{AreTexts, IsEdge, IsTextOver, unwalked}
use Rattle.lexlook_suites.specs.declared.edges.Edge.{Edge}
use Rattle.lexlook_suites.specs.declared.marks.Marks.{Marks}
use Rattle.lexlook_suites.specs.declared.texts.Missed.{Missed}

among_take : {A : Type 0} (k : ℕ) (xs : List A) (x : A) → Among (take k xs) x → Among xs x
among_take zero xs x a = absurd a
among_take (suc k) [] x a = absurd a
among_take (suc k) (y ∷ ys) x (inl e) = inl e
among_take (suc k) (y ∷ ys) x (inr a) = inr (among_take k ys x a)

among_kept : {A : Type 0} (b : Bool) (y : A) (ys : List A) (x : A) → Among (cond b (y ∷ ys) ys) x → (x ≡ y) ⊎ Among ys x
among_kept true y ys x a = a
among_kept false y ys x a = inr a

among_filter : {A : Type 0} (f : A → Bool) (xs : List A) (x : A) → Among (filter f xs) x → Among xs x
among_filter f [] x a = absurd a
among_filter f (y ∷ ys) x a = elim (among_kept (f y) y (filter f ys) x a) [
  | inl e ↦ inl e
  | inr b ↦ inr (among_filter f ys x b)
]

among_either : {A : Type 0} (xs ys : List A) (x : A) → Among (xs ++ ys) x → Among xs x ⊎ Among ys x
among_either [] ys x a = inr a
among_either (z ∷ xs) ys x (inl e) = inl (inl e)
among_either (z ∷ xs) ys x (inr a) = elim (among_either xs ys x a) [ inl b ↦ inl (inr b) | inr b ↦ inr b ]

among_parts : {A : Type 0} (f : ℕ → List A) (xs : List ℕ) (y : A) → Among (flat_map f xs) y → (x : ℕ) × Among xs x × Among (f x) y
among_parts f [] y a = absurd a
among_parts f (x ∷ xs) y a = elim (among_either (f x) (flat_map f xs) y a) [
  | inl b ↦ (x, inl refl, b)
  | inr b ↦ (let r = among_parts f xs y b in (r.0, inr r.1, r.2))
]

among_range : (a n k : ℕ) → Among (range_with_len a n) k → k < a + n
among_range a zero k h = absurd h
among_range a (suc n) k (inl e) = omega (arith, e)
among_range a (suc n) k (inr h) = let low = among_range (a + 1) n k h in omega (arith, low)

byte_low : (b : ℕ) → Among all_bytes b → b < 256
unfolding all_bytes
byte_low b a = let low = among_range 0 256 b a in omega (arith, low)

only_where : (a b : Bool) (x e : Edge) → Among (if a || b then [] else x ∷ []) e → (b ≡ false) × (e ≡ x)
only_where true b x e h = absurd h
only_where false true x e h = absurd h
only_where false false x e (inl same) = (refl, same)
only_where false false x e (inr h) = absurd h

edge_is : (p : Parts) (m : Marks) (n s b : ℕ) (e : Edge) → s < states p → b < 256 → Among (marked_edge p m n s b) e → IsEdge p e
edge_is p m n s b e known low h =
    let one : Edge = record { state = s; byte = b; target = next p s b; part = record { rule = rule_at p n (next p s b); walked = goes_to (marked_by m s) (next p s) (next p s b) } } in
    let r = only_where (next p s b == 0) (leads_below (next p s) (next p s b) b) one e h in
    subst (λ (x : Edge). IsEdge p x) (sym r.1) (record { known = known; byte = low; leads = refl; first = r.0 })

pub told_edge : (p : Parts) (m : Marks) (n k : ℕ) (e : Edge) → 1 ≤ states p → Among (take k (unwalked (all_edges p m n))) e → IsEdge p e
told_edge p m n k e some a =
    let one = among_parts (edges_from p m n) (range_with_len 1 (states p - 1)) e (among_filter (λ x. not x.part.walked) (all_edges p m n) e (among_take k (unwalked (all_edges p m n)) e a)) in
    let two = among_parts (marked_edge p m n one.0) all_bytes e one.2 in
    let known = among_range 1 (states p - 1) one.0 one.1 in
    edge_is p m n one.0 two.0 e (omega (arith, known, some)) (byte_low two.0 two.1) two.2

-- ---- texts, one after another

map_pushed : {A B : Type 0} (f : A → B) (xs : List A) (x : A) → map f (xs ++ x ∷ []) ≡ map f xs ++ f x ∷ []
map_pushed f [] x = refl
map_pushed f (y ∷ ys) x = ap (λ l. f y ∷ l) (map_pushed f ys x)

pub texts_more : (p : Parts) (edges more : List Edge) (ms now : List Missed) (m : Missed) (e : Edge) → AreTexts p edges ms → m.edge ≡ e → more ≡ edges ++ e ∷ [] → now ≡ ms ++ m ∷ [] → IsTextOver p m.edge.state m.edge.target m.text → AreTexts p more now
texts_more p edges more ms now m e h is longer pushed text = record {
  edges_are = ap (map (λ (x : Missed). x.edge)) pushed ∙ map_pushed (λ (x : Missed). x.edge) ms m ∙ ap (λ l. l ++ m.edge ∷ []) h.edges_are ∙ ap (λ (x : Edge). edges ++ x ∷ []) is ∙ sym longer;
  texts = λ x a. elim ((among_push ms m x).0 (subst (λ (l : List Missed). Among l x) pushed a)) [
    | inl b ↦ h.texts x b
    | inr same ↦ subst (λ (y : Missed). IsTextOver p y.edge.state y.edge.target y.text) (sym same) text
  ];
}

has_name : (p : Parts) (s t : ℕ) (o : Option ShownText) → IsTextOver p s t o → IfSome o (λ x. x.condition < conditions p)
has_name p s t None h = tt
has_name p s t (Some x) h = h.0.5

pub texts_named : (p : Parts) (n : ℕ) (edges : List Edge) (ms : List Missed) → n ≡ conditions p → AreTexts p edges ms → HasName n ms
texts_named p n edges ms count h = λ m a. subst (λ (k : ℕ). IfSome m.text (λ x. x.condition < k)) (sym count) (has_name p m.edge.state m.edge.target m.text (h.texts m a))
