-- What is told of a match, and what several statements do.
use Rattle.std.proofs.Common.{◌≡◌, ℕ, zero, suc, ◌+◌, ◌-◌, ◌<◌, ◌≤◌, true, false, List, [], ◌∷◌, ◌++◌, length, take, get_or, inl, inr, refl, sym, ◌∙◌, ap, subst, arith}
use Rattle.std.proofs.lemmas.Bool.{cases_lt}
use Rattle.std.proofs.lemmas.List.{append-nil, append_assoc, take-take, length-take-le}
use Rattle.lex_semantics.specs.Text.{BeginsWith}
use Rattle.lex_semantics.specs.Spec as S
use Rattle.lex_semantics.specs.ActionResults.{act_result}
use Rattle.lex_semantics.specs.Machine.{Machine, walk}
use Rattle.lex_semantics.proofs.MachineLaws.{walk-append}
use Rattle.lex_semantics.proofs.Actions.{BeginsBelow}
use Rattle.lex_machine.specs.declared.glance.Gist.{Gist}
use Rattle.lex_machine.specs.declared.glance.Gist.TheVariants.{Any, NoRule, Silent, Echo, Print, Begin, Several}
use Rattle.lex_semantics.specs.MachineLaws.{StaysBelow}
use Rattle.lex_machine.specs.Glances.{Gists, OnlyBefore, are_simple}
use Rattle.lexscan_window.specs.declared.act.ActionState.{ActionState}
use Rattle.lexscan_window.specs.declared.act.ActionFlow.{ActionFlow}
use Rattle.lexscan_matching.specs.declared.glanced.GlancedMatch.{GlancedMatch}
use Rattle.lexscan_matching.specs.declared.glanced.LongestPart.{LongestPart}
use Rattle.lexscan_window.specs.Acts.{acting_of, after_step, said}
use Rattle.lexscan_matching.specs.Glanced.{all_begun, all_said, begun, names_rule, statements_in, NoneAfter, IsGlancedMatch, IsLongestPart}
use Rattle.lexscan_matching.proofs.Growing.{take_one_more}

-- the state after one byte more
pub walk_more : (M : Machine) (first : ℕ) (bytes : List ℕ) (n : ℕ) → n < length bytes → walk M first (take (n + 1) bytes) ≡ M.next (walk M first (take n bytes)) (get_or bytes n 0)
walk_more M first bytes n lt = ap (walk M first) (take_one_more n bytes lt) ∙ walk-append M first (take n bytes) (get_or bytes n 0 ∷ [])

-- no rule is accepted after one byte more
pub none_more : (M : Machine) (first : ℕ) (bytes : List ℕ) (few n : ℕ) → NoneAfter M first bytes few n → M.accepts (walk M first (take (n + 1) bytes)) ≡ [] → NoneAfter M first bytes few (n + 1)
none_more M first bytes few n none last i more le = elim (cases_lt i (n + 1)) [
  | inl lt ↦ none i more (omega (arith, lt))
  | inr not ↦ (let e : n + 1 ≡ i = omega (arith, le, not) in subst (λ k. M.accepts (walk M first (take k bytes)) ≡ []) e last)
]

none_front : (M : Machine) (first : ℕ) (bytes : List ℕ) (few n : ℕ) → NoneAfter M first (take n bytes) few n → NoneAfter M first bytes few n
none_front M first bytes few n none i more le = subst (λ l. M.accepts (walk M first l) ≡ []) (take-take i n bytes le) (none i more le)

-- what is told of the first bytes alone
pub tells_front : (M : Machine) (first : ℕ) (bytes : List ℕ) (n : ℕ) (longest : GlancedMatch) → IsGlancedMatch M first (take n bytes) n longest → IsGlancedMatch M first bytes n longest
tells_front M first bytes n longest (inl (some, le, none, gist)) =
    inl (some, le, none_front M first bytes longest.keep n none, subst (λ l. Gists M (walk M first l) longest.gist) (take-take longest.keep n bytes le) gist)
tells_front M first bytes n longest (inr (inl (one, echo, none))) = inr (inl (one, echo, none_front M first bytes 0 n none))
tells_front M first bytes n longest (inr (inr any)) = inr (inr any)

-- no rule is accepted after the first byte either
pub none_first : (M : Machine) (first : ℕ) (bytes : List ℕ) (n : ℕ) → NoneAfter M first bytes 1 n → M.accepts (walk M first (take 1 bytes)) ≡ [] → NoneAfter M first bytes 0 n
none_first M first bytes n none one i more le = elim (cases_lt 1 i) [
  | inl lt ↦ none i lt le
  | inr not ↦ (let e : 1 ≡ i = omega (arith, more, not) in subst (λ k. M.accepts (walk M first (take k bytes)) ≡ []) e one)
]

-- what the longest part of the first bytes tells
module _ (M : Machine) (first : ℕ) (bytes : List ℕ) (n : ℕ) (inside : n ≤ length bytes) (longest : LongestPart) (part : IsLongestPart M first (take n bytes) longest) where
  size : length (take n bytes) ≡ n
  size = length-take-le n bytes inside

  none_in : NoneAfter M first (take n bytes) longest.keep n
  none_in = subst (λ k. NoneAfter M first (take n bytes) longest.keep k) size part.none

  pub part_tells : (gist : Gist) → 1 ≤ longest.keep → Gists M longest.state gist → IsGlancedMatch M first bytes n (record { gist = gist; keep = longest.keep })
  part_tells gist some gists =
      tells_front M first bytes n (record { gist = gist; keep = longest.keep })
      (inl (some, omega (arith, part.short, size), none_in, subst (λ s. Gists M s gist) part.state_is gists))

  pub part_none : longest.keep ≡ 0 → NoneAfter M first bytes 0 n
  part_none e = none_front M first bytes 0 n (subst (λ few. NoneAfter M first (take n bytes) few n) e none_in)

-- no rule is accepted after one byte less either
pub none_less : (M : Machine) (first : ℕ) (bytes : List ℕ) (n many : ℕ) → NoneAfter M first bytes n many → M.accepts (walk M first (take n bytes)) ≡ [] → NoneAfter M first bytes (n - 1) many
none_less M first bytes n many none here i more le = elim (cases_lt n i) [
  | inl lt ↦ none i lt le
  | inr not ↦ (let e : n ≡ i = omega (arith, more, not) in subst (λ k. M.accepts (walk M first (take k bytes)) ≡ []) e here)
]

-- the only state that leads to the one after some bytes of a walk is the one after one byte less
module _ (M : Machine) (states first : ℕ) (bytes : List ℕ) (below : StaysBelow M states) (known : first < states) (small : (i : ℕ) → get_or bytes i 0 < 256) where
  known_after : (n : ℕ) → n ≤ length bytes → walk M first (take n bytes) < states
  known_after zero le = known
  known_after (suc n) le =
      let e : n + 1 ≡ suc n = omega arith in
      subst (λ s. s < states) (sym (walk_more M first bytes n (omega (arith, le))) ∙ ap (λ k. walk M first (take k bytes)) e)
      (below.next (walk M first (take n bytes)) (get_or bytes n 0) (known_after n (omega (arith, le))) (small n))

  pub one_before : (count state earlier : ℕ) → 1 ≤ count → count ≤ length bytes → state ≡ walk M first (take count bytes) → OnlyBefore M states state earlier →
      (earlier ≡ walk M first (take (count - 1) bytes)) × (earlier < states)
  one_before count state earlier some inside is only =
      let n : ℕ = count - 1 in
      let s : ℕ = walk M first (take n bytes) in
      let e : n + 1 ≡ count = omega (arith, some) in
      let low : s < states = known_after n (omega (arith, inside)) in
      let same : s ≡ earlier = only s (get_or bytes n 0) low (small n) (sym (walk_more M first bytes n (omega (arith, some, inside))) ∙ ap (λ k. walk M first (take k bytes)) e ∙ sym is) in
      (sym same, subst (λ k. k < states) same low)

-- the statements that are told are simple
pub gist_simple : (M : Machine) (s : ℕ) (g : Gist) → names_rule g ≡ true → Gists M s g → are_simple (statements_in g) ≡ true
gist_simple M s Any is h = absurd (no is)
  where
    no : false ≡ true → ⊥
    no e = cc
gist_simple M s NoRule is h = absurd (no is)
  where
    no : false ≡ true → ⊥
    no e = cc
gist_simple M s Silent is h = refl
gist_simple M s Echo is h = refl
gist_simple M s (Print bytes) is h = refl
gist_simple M s (Begin c) is h = refl
gist_simple M s (Several ss) is h = h.0

not_simple : {P : Type 0} → false ≡ true → P
not_simple e = absurd (no e)
  where
    no : false ≡ true → ⊥
    no q = cc

-- simple statements, one after another
pub act_all : (w : List ℕ) (ss : List S.Statement) (a : ActionState) (before : List ℕ) → are_simple ss ≡ true →
    act_result ss (acting_of w a before) ≡ after_step ActionFlow.Next [] (acting_of w (record a { condition = all_begun ss a.condition }) (before ++ all_said ss (take a.end w)))
act_all w [] a before simple = ap (λ b. after_step ActionFlow.Next [] (acting_of w a b)) (sym (append-nil before))
act_all w (S.Echo ∷ ss) a before simple =
    act_all w ss a (before ++ take a.end w) simple
    ∙ ap (λ b. after_step ActionFlow.Next [] (acting_of w (record a { condition = all_begun ss a.condition }) b)) (append_assoc before (take a.end w) (all_said ss (take a.end w)))
act_all w (S.Print bytes ∷ ss) a before simple =
    act_all w ss a (before ++ bytes) simple
    ∙ ap (λ b. after_step ActionFlow.Next [] (acting_of w (record a { condition = all_begun ss a.condition }) b)) (append_assoc before bytes (all_said ss (take a.end w)))
act_all w (S.Begin d ∷ ss) a before simple = act_all w ss (record a { condition = d }) before simple
act_all w (S.More ∷ ss) a before simple = not_simple simple
act_all w (S.Less n ∷ ss) a before simple = not_simple simple
act_all w (S.Reject ∷ ss) a before simple = not_simple simple
act_all w (S.End s ∷ ss) a before simple = not_simple simple
act_all w (S.Push d ∷ ss) a before simple = not_simple simple
act_all w (S.Pop ∷ ss) a before simple = not_simple simple

-- the condition stays in range
pub begun_below : (n : ℕ) (ss : List S.Statement) (c : ℕ) → BeginsBelow n ss → c < n → all_begun ss c < n
begun_below n [] c h lt = lt
begun_below n (S.Begin d ∷ ss) c h lt = begun_below n ss d h.1 h.0
begun_below n (S.Echo ∷ ss) c h lt = begun_below n ss c h lt
begun_below n (S.Print bytes ∷ ss) c h lt = begun_below n ss c h lt
begun_below n (S.More ∷ ss) c h lt = begun_below n ss c h lt
begun_below n (S.Less m ∷ ss) c h lt = begun_below n ss c h lt
begun_below n (S.Reject ∷ ss) c h lt = begun_below n ss c h lt
begun_below n (S.End s ∷ ss) c h lt = begun_below n ss c h lt
begun_below n (S.Push d ∷ ss) c h lt = begun_below n ss c h.1 lt
begun_below n (S.Pop ∷ ss) c h lt = begun_below n ss c h lt

-- Some of the statements were carried out, and these are left.
pub record SaidTo {K : Type 0} (wrote : K → List ℕ → K → Type 0) (s t : K) (text : List ℕ) (ss rest : List S.Statement) (old new : ℕ) : Type 0 where
  pub out : List ℕ
  pub sink : wrote s out t
  pub said_is : all_said ss text ≡ out ++ all_said rest text
  pub begun_is : all_begun ss old ≡ all_begun rest new

module _ {K : Type 0} (wrote : K → List ℕ → K → Type 0) (join : (s t u : K) (xs ys : List ℕ) → wrote s xs t → wrote t ys u → wrote s (xs ++ ys) u) (s t u : K) (text : List ℕ) (ss rest left : List S.Statement) (st : S.Statement) (old new : ℕ) (e : rest ≡ st ∷ left) (h : SaidTo wrote s t text ss rest old new) where
  pub said_next : wrote t (said st text) u → (after : ℕ) → after ≡ begun st new → SaidTo wrote s u text ss left old after
  said_next put after is = record {
    out = h.out ++ said st text;
    sink = join s t u h.out (said st text) h.sink put;
    said_is = h.said_is ∙ ap (λ l. h.out ++ all_said l text) e ∙ sym (append_assoc h.out (said st text) (all_said left text));
    begun_is = h.begun_is ∙ ap (λ l. all_begun l new) e ∙ ap (all_begun left) (sym is);
  }

  pub said_cut : ((front : List ℕ) × BeginsWith (said st text) front × wrote t front u) → (front : List ℕ) × BeginsWith (all_said ss text) front × wrote s front u
  said_cut (front, (more, is), put) = (
    h.out ++ front,
    (
      more ++ all_said left text,
      h.said_is ∙ ap (λ l. h.out ++ all_said l text) e ∙ ap (λ l. h.out ++ (l ++ all_said left text)) is ∙ ap (λ l. h.out ++ l) (append_assoc front more (all_said left text))
          ∙ sym (append_assoc h.out front (more ++ all_said left text)),
    ),
    join s t u h.out front h.sink put,
  )
