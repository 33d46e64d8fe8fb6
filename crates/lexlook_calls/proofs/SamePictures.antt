-- Pictures of a specification are the same.
use Rattle.std.proofs.Common.{◌≡◌, ℕ, zero, suc, ◌<◌, ◌≤◌, ◌-◌, Bool, true, false, List, [], ◌∷◌, ◌++◌, length, map, inl, inr, refl, sym, ap, ◌∙◌, arith, codes, flat_map}
use Rattle.std.specs.Prelude.{slice_index, slice_index_or}
use Rattle.std.specs.List.{range_with_len}
use Rattle.std.proofs.lemmas.Bool.{cases_lt}
use Rattle.lex_semantics.specs.Text.{IsText}
use Rattle.lex_semantics.specs.Spec.{Spec}
use Rattle.lexauto_dfa.specs.Invariant.{IsAutomaton}
use Rattle.lexauto_dfa.specs.Machines.{moving}
use Rattle.lexauto_dfa.specs.Parts.{conditions, start, accepts, after, lists_in}
use Rattle.lexauto_dfa.specs.declared.dfa.Dfa.{Dfa}
use Rattle.lexauto_dfa.specs.declared.dfa.Parts.{Parts}
use Rattle.lexauto_dfa.specs.Least.{AcceptsAs, AreSame, OneAutomaton}
use Rattle.lexauto.specs.declared.subsets.Limits.{Limits}
use Rattle.lexkit.specs.LeastAutomata.{IsLeastOf}
use Rattle.lexkit.proofs.Ordered.{one_order}
use Rattle.lexlook_specs.specs.Pictures.{edges, head, node_line, picture, starts}
use Rattle.lexlook_calls.specs.Looks.{OnePicture}

past : (xs : List ℕ) (i : ℕ) → length xs ≤ i → slice_index xs i ≡ 0
past [] i h = refl
past (x ∷ xs) zero h = absurd (omega (arith, h))
past (x ∷ xs) (suc i) h = past xs i (omega (arith, h))

stays_dead : (p : Parts) → IsAutomaton p → (w : List ℕ) → after p 0 w ≡ 0
stays_dead p a [] = refl
stays_dead p a (b ∷ w) = ap (λ (s : ℕ). after p s w) (a.dead_stays b) ∙ stays_dead p a w

no_start : (p : Parts) (c : ℕ) (line_start : Bool) → IsAutomaton p → conditions p ≤ c → start p c line_start ≡ 0
no_start p c true a h = past p.line_starts.items c (let l = a.lines in omega (arith, l, h))
no_start p c false a h = past p.starts.items c h

-- past the conditions nothing is accepted
accepts_none : (p : Parts) (c : ℕ) (line_start : Bool) (w : List ℕ) → IsAutomaton p → conditions p ≤ c → accepts p (after p (start p c line_start) w) ≡ []
accepts_none p c line_start w a h =
    ap (λ (s : ℕ). accepts p (after p s w)) (no_start p c line_start a h) ∙ ap (λ (s : ℕ). accepts p s) (stays_dead p a w) ∙ a.dead_accepts

-- the picture of the lists of an automaton
abbrev drawn : List ℕ → List ℕ → List ℕ → List (List ℕ) → List Bool → List (List ℕ) → List ℕ → List ℕ
drawn xs ys targets rules flags names lines = head
    ++ (flat_map (λ c. starts (slice_index_or names c []) (slice_index xs c) (slice_index ys c)) (range_with_len 0 (length names))
    ++ (flat_map (λ s. node_line lines s (slice_index_or rules s []) ++ edges s (moving targets s)) (range_with_len 1 (length flags - 1)) ++ codes "}\n"))

is_drawn : (d : Dfa) (names : List (List ℕ)) (lines : List ℕ)
    → picture d names lines ≡ drawn d.parts.starts.items d.parts.line_starts.items d.parts.next.items (lists_in d.parts) d.parts.goes_on.items names lines
is_drawn d names lines = refl

same_drawn : (d e : Dfa) (names : List (List ℕ)) (lines : List ℕ) → AreSame d.parts e.parts → picture d names lines ≡ picture e names lines
same_drawn d e names lines same =
    is_drawn d names lines
    ∙ ap (λ (xs : List ℕ). drawn xs d.parts.line_starts.items d.parts.next.items (lists_in d.parts) d.parts.goes_on.items names lines) same.starts
    ∙ ap (λ (ys : List ℕ). drawn e.parts.starts.items ys d.parts.next.items (lists_in d.parts) d.parts.goes_on.items names lines) same.line_starts
    ∙ ap (λ (ts : List ℕ). drawn e.parts.starts.items e.parts.line_starts.items ts (lists_in d.parts) d.parts.goes_on.items names lines) same.next
    ∙ ap (λ (rs : List (List ℕ)). drawn e.parts.starts.items e.parts.line_starts.items e.parts.next.items rs d.parts.goes_on.items names lines) same.accepts
    ∙ ap (λ (fs : List Bool). drawn e.parts.starts.items e.parts.line_starts.items e.parts.next.items (lists_in e.parts) fs names lines) same.goes_on
    ∙ sym (is_drawn e names lines)

module _ (S : Spec) (d e : Dfa) (limits limits' : Limits) (n m : ℕ) (a : IsLeastOf limits S n d) (b : IsLeastOf limits' S m e) where
  alike : (c : ℕ) (line_start : Bool) (w : List ℕ) → c < length S.conditions → IsText w
      → accepts d.parts (after d.parts (start d.parts c line_start) w) ≡ accepts e.parts (after e.parts (start e.parts c line_start) w)
  alike c line_start w low text = one_order _ _ (a.table.ascending c line_start w low text) (b.table.ascending c line_start w low text)
      (λ i. (
        λ h. (b.table.accepts c line_start w i low text).1 ((a.table.accepts c line_start w i low text).0 h),
        λ h. (a.table.accepts c line_start w i low text).1 ((b.table.accepts c line_start w i low text).0 h),
      ))

  accepts_alike : AcceptsAs d.parts e.parts
  accepts_alike c line_start w text = elim (cases_lt c (length S.conditions)) [
    | inl low ↦ alike c line_start w low text
    | inr high ↦ (let k = a.conditions in let l = b.conditions in
        accepts_none d.parts c line_start w d.lawful (omega (arith, high, k)) ∙ sym (accepts_none e.parts c line_start w e.lawful (omega (arith, high, l))))
  ]

  pub same_automaton : OneAutomaton → AreSame d.parts e.parts
  same_automaton one = one d e a.least b.least a.numbered b.numbered (a.conditions ∙ sym b.conditions) accepts_alike

pub one_picture_by : OneAutomaton → OnePicture
one_picture_by one limits limits' S x y p q =
    let same = same_automaton S p.automaton q.automaton limits limits' p.subsets q.subsets p.least q.least one in
    p.drawn ∙ same_drawn p.automaton q.automaton (map (λ c. c.name) S.conditions) (map (λ r. r.line) S.rules) same ∙ sym q.drawn
