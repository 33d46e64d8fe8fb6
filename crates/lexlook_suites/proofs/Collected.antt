-- Inputs that are gathered one by one, and what their turns go through.
use Rattle.std.proofs.Common.{◌≡◌, ◌≢◌, ◌∙◌, ◌⊎◌, ◌↔◌, ◌<◌, ◌+◌, ℕ, zero, suc, Bool, true, false, ◌||◌, ◌&&◌, List, [], ◌∷◌, ◌++◌, length, Option, Some, None, inl, inr, refl, sym, ap, subst, arith}
use Rattle.std.specs.Prelude.{◌==◌}
use Rattle.std.proofs.lemmas.Bool.{and_parts, cases_eq, eqb-true}
use Rattle.std.proofs.lemmas.List.{nil_from_length}
use Rattle.lex_semantics.specs.Acting.{Ending, Status}
use Rattle.lex_semantics.specs.Rules.{Rules}
use Rattle.lex_semantics.specs.Run.{State, Turns}
use Rattle.lex_semantics.specs.Text.{Among, IsText}
use Rattle.lexauto_dfa.specs.Parts.{after, next, start, states}
use Rattle.lexauto_dfa.specs.declared.dfa.Parts.{Parts}
use Rattle.lexauto_dfa.proofs.Accepting.{among_push}
use Rattle.lexscan.specs.Tokens.{Tokenised, TokensOf}
use Rattle.lexscan.specs.declared.token.Token.{Token}
use Rattle.lexlook_suites.specs.Edges.{goes_below, goes_to, marked_by}
use Rattle.lexlook_suites.specs.Gathers.{Adds, Faults, HasAllEdges, HasEdge, HasEdges, HasText, IsFirst, IsGathered}
use Rattle.lexlook_suites.specs.Inputs.{AreInputs, AreMarksOf, GoesOverEdge, GoesOverAll, IsInputOf}
use Rattle.lexlook_suites.specs.Marking.{Adds as AddsMarks, AreNone}
use Rattle.lexlook_suites.specs.Texts.{LeadsOver}
use Rattle.lexlook_suites.specs.Orders.{byte_at}
use Rattle.lexlook_suites.proofs.Ordered.{rank_of}
use Rattle.lexlook_suites.specs.Trees.{IsStep, IsTree, state_at}
use Rattle.lexlook_suites.specs.Turns.{TurnBegins, TurnComesTo, TurnGoesBy}
use Rattle.lexlook_suites.specs.declared.gathering.Gathered.{Gathered}
use Rattle.lexlook_suites.specs.declared.inputs.Input.{Input}
use Rattle.lexlook_suites.specs.declared.trees.Step.{Step}
use Rattle.lexlook_suites.proofs.Edged.{goes_found}
use Rattle.lexlook_suites.proofs.Treed.{comes_there}
use Rattle.lexlook_suites.proofs.Walked.{not_empty}

-- ---- the first turn of a scan

begins_push : (ts us : List Token) (from at c : ℕ) → TurnBegins from ts at c → TurnBegins from (ts ++ us) at c
begins_push [] us from at c h = absurd h
begins_push (t ∷ ts) us from at c (inl here) = inl here
begins_push (t ∷ ts) us from at c (inr later) = inr (begins_push ts us t.end at c later)

module _ (R : Rules) (x : List ℕ) (some : x ≡ [] → ⊥) where
  begins_first : (n : ℕ) (us : List Token) → TokensOf R x (suc n) us → TurnBegins 0 us 0 0
  begins_first zero us (s, ts, turns, going, tokens, appends) = elim appends [
    | inl token ↦
        (let at : 0 ≡ token.0.condition = ap (λ (z : State). z.place.condition) (sym turns) ∙ sym token.1.condition_is in
        let all : us ≡ token.0 ∷ [] = token.2 ∙ ap (λ (l : List Token). l ++ token.0 ∷ []) tokens in
        subst (λ (l : List Token). TurnBegins 0 l 0 0) (sym all) (inl (refl, at)))
    | inr end ↦
        (let none : 0 ≡ length x = ap (λ (z : State). z.place.at) (sym turns) ∙ end.0 in
        absurd (some (nil_from_length x (sym none))))
  ]
  begins_first (suc n) us (s, ts, turns, going, tokens, appends) =
      let h = begins_first n ts tokens in
      elim appends [
        | inl token ↦ subst (λ (l : List Token). TurnBegins 0 l 0 0) (sym token.2) (begins_push ts (token.0 ∷ []) 0 0 0 h)
        | inr end ↦ subst (λ (l : List Token). TurnBegins 0 l 0 0) (sym end.1) h
      ]

  by_turns : (n : ℕ) (us : List Token) (last : State) (e : Ending) → Turns R x n last → last.ended ≡ Some e → TokensOf R x n us → TurnBegins 0 us 0 0
  by_turns zero us last e turns ends tokens = absurd (let f : None ≡ Some e = ap (λ (z : State). z.ended) (sym turns) ∙ ends in cc)
  by_turns (suc n) us last e turns ends tokens = begins_first n us tokens

  pub first_begins : (us : List Token) (e : Ending) → Tokenised R x us e → TurnBegins 0 us 0 0
  first_begins us e h = by_turns h.turns us h.last e h.reached h.ends h.tokens

-- ---- an input more

both_ways : (A B X Y Z : Type 0) → (A ↔ (B ⊎ X)) → (B ↔ Y) → (Z ↔ (Y ⊎ X)) → (A ↔ Z)
both_ways A B X Y Z one two all = (
  λ a. all.1 (elim (one.0 a) [ inl b ↦ inl (two.0 b) | inr x ↦ inr x ]),
  λ z. one.1 (elim (all.0 z) [ inl y ↦ inl (two.1 y) | inr x ↦ inr x ]),
)

input_more : (P : Input → Type 0) (is : List Input) (i : Input) → ((j : Input) × Among (is ++ i ∷ []) j × P j) ↔ (((j : Input) × Among is j × P j) ⊎ P i)
input_more P is i = (
  λ h. elim ((among_push is i h.0).0 h.1) [
    | inl old ↦ inl (h.0, old, h.2)
    | inr same ↦ inr (subst P same h.2)
  ],
  λ h. elim h [
    | inl old ↦ (old.0, (among_push is i old.0).1 (inl old.1), old.2)
    | inr new ↦ (i, (among_push is i i).1 (inr refl), new)
  ],
)

pub none_gathered : (R : Rules) (p : Parts) (g : Gathered) → g.inputs.items ≡ [] → AreNone (states p) g.marks → IsGathered R p g
none_gathered R p g empty none = record {
  inputs = λ i a. absurd (subst (λ (l : List Input). Among l i) empty a);
  marks = record {
    size = none.size;
    visited = λ q low. (
      λ e. absurd (let f = none.states q in cc),
      λ h. absurd (subst (λ (l : List Input). Among l h.0) empty h.1),
    );
    taken = λ q b low small. (
      λ e. absurd (let f = none.bytes q b in cc),
      λ h. absurd (subst (λ (l : List Input). Among l h.0) empty h.1),
    );
  };
}

module _ (R : Rules) (p : Parts) (old new : Gathered) (i : Input) (gathered : IsGathered R p old) (is_input : IsInputOf R i) (pushed : new.inputs.items ≡ old.inputs.items ++ i ∷ [])
    (marked : AddsMarks (states p) old.marks new.marks (TurnComesTo p i.text.items 0 i.tokens.items) (TurnGoesBy p i.text.items 0 i.tokens.items)) where
  more_marks : AreMarksOf p (old.inputs.items ++ i ∷ []) new.marks
  more_marks = record {
    size = marked.size;
    visited = λ q low. both_ways _ _ _ _ _ (marked.states q low) (gathered.marks.visited q low) (input_more (λ (j : Input). TurnComesTo p j.text.items 0 j.tokens.items q) old.inputs.items i);
    taken = λ q b low small. both_ways _ _ _ _ _ (marked.bytes q b low small) (gathered.marks.taken q b low small) (input_more (λ (j : Input). TurnGoesBy p j.text.items 0 j.tokens.items q b) old.inputs.items i);
  }

  more_inputs : AreInputs R (old.inputs.items ++ i ∷ [])
  more_inputs = λ j a. elim ((among_push old.inputs.items i j).0 a) [
    | inl before ↦ gathered.inputs j before
    | inr same ↦ subst (IsInputOf R) (sym same) is_input
  ]

  pub input_kept : Adds R p old new
  input_kept = record {
    gathered = record {
      inputs = subst (AreInputs R) (sym pushed) more_inputs;
      marks = subst (λ (l : List Input). AreMarksOf p l new.marks) (sym pushed) more_marks;
    };
    grows = λ q b low small is. (marked.bytes q b low small).1 (inl is);
  }

  pub text_kept : HasText R p new i.text.items
  text_kept = inr (λ q b low small goes. (marked.bytes q b low small).1 (inr (
    0,
    0,
    first_begins R i.text.items (λ none. not_empty b goes.0 goes.1 (sym none ∙ goes.2)) i.tokens.items (Status i.status) is_input.scanned,
    goes,
  )))

-- ---- more and more inputs

pub adds_none : (R : Rules) (p : Parts) (g : Gathered) → IsGathered R p g → Adds R p g g
adds_none R p g gathered = record { gathered = gathered; grows = λ q b low small is. is }

pub adds_on : (R : Rules) (p : Parts) (a b c : Gathered) → Adds R p a b → Adds R p b c → Adds R p a c
adds_on R p a b c one two = record { gathered = two.gathered; grows = λ q e low small is. two.grows q e low small (one.grows q e low small is) }

either : (a b : Bool) → (a || b) ≡ true → (a ≡ true) ⊎ (b ≡ true)
either true b e = inl refl
either false b e = inr e

goes_below_some : (marked : ℕ → Bool) (go : ℕ → ℕ) (t n : ℕ) → goes_below marked go t n ≡ true → (b : ℕ) × (b < n) × (marked b ≡ true) × (go b ≡ t)
goes_below_some marked go t zero e = absurd (let f : false ≡ true = e in cc)
goes_below_some marked go t (suc n) e = elim (either (marked n && (go n == t)) (goes_below marked go t n) e) [
  | inl here ↦ (let two = and_parts (marked n) (go n == t) here in (n, omega arith, two.0, eqb-true (go n) t two.1))
  | inr below ↦ (let r = goes_below_some marked go t n below in let low = r.1 in (r.0, omega (arith, low), r.2, r.3))
]

goes_some : (marked : ℕ → Bool) (go : ℕ → ℕ) (t : ℕ) → goes_to marked go t ≡ true → (b : ℕ) × (b < 256) × (marked b ≡ true) × (go b ≡ t)
unfolding goes_to
goes_some marked go t e = goes_below_some marked go t 256 e

module _ (R : Rules) (p : Parts) (g h : Gathered) (adds : Adds R p g h) where
  pub edge_stays : (s b : ℕ) → s < states p → HasEdge R p g s b → HasEdge R p h s b
  edge_stays s b known (inl is) =
      let r = goes_some (marked_by g.marks s) (next p s) (next p s b) is in
      inl (goes_found (marked_by h.marks s) (next p s) (next p s b) r.0 r.1 (adds.grows s r.0 known r.1 r.2) r.3)
  edge_stays s b known (inr stops) = inr stops

  pub edges_stay : (s n : ℕ) → s < states p → HasEdges R p g s n → HasEdges R p h s n
  edges_stay s n known has = λ r low live. edge_stays s (byte_at r) known (has r low live)

  pub all_edges_stay : (a : ℕ) (steps : List Step) (k : ℕ) → ((j : ℕ) → j < length steps → IsStep p a steps j) → HasAllEdges R p g steps k → HasAllEdges R p h steps k
  all_edges_stay a steps k each has = λ j le low. edges_stay (state_at steps j) 256 (each j low).known (has j le low)

  -- a byte more
  pub edges_more : (s n b : ℕ) → s < states p → b ≡ byte_at n → HasEdges R p g s n → (next p s b ≢ 0 → HasEdge R p h s b) → HasEdges R p h s (n + 1)
  edges_more s n b known is has here = λ r low live. elim (cases_eq r n) [
    | inl same ↦
        (let at : byte_at r ≡ b = ap byte_at same ∙ sym is in
        subst (HasEdge R p h s) (sym at) (here (subst (λ (c : ℕ). next p s c ≢ 0) at live)))
    | inr other ↦ edge_stays s (byte_at r) known (has r (omega (arith, low, other)) live)
  ]

  -- a step more, from the last one on
  pub all_edges_more : (a : ℕ) (steps : List Step) (k n : ℕ) → n ≡ k + 1 → ((j : ℕ) → j < length steps → IsStep p a steps j) → HasAllEdges R p g steps n → HasEdges R p h (state_at steps k) 256 → HasAllEdges R p h steps k
  all_edges_more a steps k n is each has here = λ j le low. elim (cases_eq j k) [
    | inl same ↦ subst (λ (i : ℕ). HasEdges R p h (state_at steps i) 256) (sym same) here
    | inr other ↦ edges_stay (state_at steps j) 256 (each j low).known (has j (omega (arith, le, other, is)) low)
  ]

-- ---- an edge that an input goes over

pub edge_walked : (R : Rules) (p : Parts) (g : Gathered) (s b q t : ℕ) (w : Bool) → q ≡ s → t ≡ next p q b → w ≡ goes_to (marked_by g.marks q) (next p q) t → w ≡ true → HasEdge R p g s b
edge_walked R p g s b q t w here on is walked =
    subst (λ (r : ℕ). HasEdge R p g r b) here (inl (ap (goes_to (marked_by g.marks q) (next p q)) (sym on) ∙ sym is ∙ walked))

-- ---- a text over an edge

module _ (R : Rules) (p : Parts) (g : Gathered) (way x v : List ℕ) (a s b : ℕ) (text : IsText v) (is : x ≡ way ++ v ++ b ∷ []) (leads : after p a v ≡ s) (small : b < 256) (known : s < states p) where
  pub edge_added : (length way ≡ 0 → HasText R p g x) → IsFirst p way a → next p s b ≢ 0 → HasEdge R p g s b
  edge_added added first live =
      let here : x ≡ v ++ b ∷ [] = is ∙ ap (λ (l : List ℕ). l ++ v ++ b ∷ []) first.no_way in
      let from : after p (start p 0 true) v ≡ s = ap (λ (q : ℕ). after p q v) (sym first.first) ∙ leads in
      elim (added (ap length first.no_way)) [
        | inl stops ↦ inr (x, (v, b, here, text, small, first.condition, from, refl), stops)
        | inr goes ↦ inl (goes_found (marked_by g.marks s) (next p s) (next p s b) b small (goes s b known small (v, [], here, from, live)) refl)
      ]

-- ---- all edges

module _ (R : Rules) (p : Parts) (g : Gathered) (steps : List Step) (places : List (Option ℕ)) (gathered : IsGathered R p g) (tree : IsTree p (start p 0 true) steps places (length steps)) (dead : (b : ℕ) → next p 0 b ≡ 0) (has : HasAllEdges R p g steps 0) where
  told : (s t b : ℕ) → next p s b ≡ t → s < states p → HasEdge R p g s b → GoesOverEdge p g.inputs.items s t ⊎ ((v : List ℕ) × LeadsOver p s t 0 true v × Faults R v)
  told s t b on known (inl marked) =
      let r = goes_some (marked_by g.marks s) (next p s) (next p s b) marked in
      inl (r.0, r.1, r.3 ∙ on, (gathered.marks.taken s r.0 known r.1).0 r.2)
  told s t b on known (inr stops) = inr (stops.0, subst (λ (q : ℕ). LeadsOver p s q 0 true stops.0) on stops.1, stops.2)

  pub goes_over_all : GoesOverAll p (Faults R) g.inputs.items
  goes_over_all s t w live (v, b, w_is, text, small, known, from, on) =
      let on_live : next p s b ≢ 0 = λ e. live (sym on ∙ e) in
      let s_live : s ≢ 0 = λ e. on_live (ap (λ (q : ℕ). next p q b) e ∙ dead b) in
      let at = comes_there p (start p 0 true) steps places tree dead v text (λ e. s_live (sym from ∙ e)) in
      let here : state_at steps at.0 ≡ s = at.2 ∙ from in
      let r = rank_of b small in
      let edge = has at.0 (omega arith) at.1 r.0 r.1 (λ e. on_live (ap (next p s) (sym r.2) ∙ ap (λ (q : ℕ). next p q (byte_at r.0)) (sym here) ∙ e)) in
      told s t b on (subst (λ (q : ℕ). q < states p) here (tree.each at.0 at.1).known) (subst (HasEdge R p g s) r.2 (subst (λ (q : ℕ). HasEdge R p g q (byte_at r.0)) here edge))

-- what is told by other rules, or of other faults
pub inputs_by : (R Q : Rules) (is : List Input) → ((i : Input) → IsInputOf R i → IsInputOf Q i) → AreInputs R is → AreInputs Q is
inputs_by R Q is to h = λ i a. to i (h i a)

pub over_all_by : (p : Parts) (F G : List ℕ → Type 0) (is : List Input) → ((v : List ℕ) → F v → G v) → GoesOverAll p F is → GoesOverAll p G is
over_all_by p F G is to h = λ s t w live over. elim (h s t w live over) [
  | inl goes ↦ inl goes
  | inr stops ↦ inr (stops.0, stops.1, to stops.0 stops.2)
]
