-- Matches of one byte each, many at a time.
use Rattle.std.proofs.Common.{◌≡◌, ℕ, zero, suc, ◌+◌, ◌-◌, ◌≤◌, ◌<◌, Bool, true, false, List, [], ◌∷◌, ◌++◌, length, take, drop, get_or, inl, inr, refl, sym, ◌∙◌, ap, subst, arith}
use Rattle.std.specs.Prelude.{max, min, nat_eq}
use Rattle.std.proofs.lemmas.List.{length-drop, get_or-take, get_or-drop, drop-drop, drop_more, take_more, take_rest}
use Rattle.std.proofs.lemmas.Bool.Decides.{nat_tests}
use Rattle.lex_semantics.specs.Text.{IsText, BeginsWith}
use Rattle.lex_semantics.specs.Machine.{Machine, walk}
use Rattle.lex_semantics.specs.MachineLaws.{MachineLaws}
use Rattle.lex_semantics.proofs.Texts.{is_text_drop}
use Rattle.lex_machine.specs.declared.glance.Way.{Way}
use Rattle.lex_machine.specs.declared.glance.Gist.{Gist}
use Rattle.lex_machine.specs.declared.glance.Gist.TheVariants.{NoRule, Silent, Echo}
use Rattle.lex_machine.specs.Glances.{Leads}
use Rattle.lex_machine.specs.Singles.{IsDropped, IsCopied, Singles}
use Rattle.lexscan_matching.specs.declared.glanced.GlancedMatch.{GlancedMatch}
use Rattle.lexscan_matching.specs.Glanced.{names_rule, condition_after, written_by, IsGlancedMatch}
use Rattle.lexscan.specs.Bursts.{starts_line, TurnsMade, BurstStopped, Passed}
use Rattle.lexscan.proofs.Bursting as Burst
use Rattle.lexscan.proofs.Bursting.{Stands}

-- after a match that keeps some bytes a line starts if the last of them is a newline
pub line_next : (line : Bool) (text : List ℕ) (done keep : ℕ) → 1 ≤ keep → starts_line line text (done + keep) ≡ nat_eq (get_or (take keep (drop done text)) (keep - 1) 0) 10
line_next line text done keep some =
    let no : nat_eq (done + keep) 0 ≡ false = grind (arith, nat_tests) in
    let e : done + keep - 1 ≡ done + (keep - 1) = omega (arith, some) in
    rw no (ap (λ x. nat_eq x 10) (ap (λ i. get_or text i 0) e ∙ sym (get_or-drop done text (keep - 1) 0) ∙ sym (get_or-take keep (drop done text) (keep - 1) 0 (omega (arith, some)))))

-- after a match of one byte
line_one : (line : Bool) (bytes : List ℕ) (k : ℕ) → starts_line line bytes (suc k) ≡ nat_eq (get_or (take 1 (drop k bytes)) (1 - 1) 0) 10
line_one line bytes k =
    let e : suc k ≡ k + 1 = omega arith in
    ap (λ n. starts_line line bytes n) e ∙ line_next line bytes k 1 (omega arith)

-- where a line starts does not depend on where one begins to count
line_after : (line : Bool) (text : List ℕ) (done k : ℕ) → starts_line (starts_line line text done) (drop done text) k ≡ starts_line line text (done + k)
line_after line text done zero = let e : done ≡ done + zero = omega arith in ap (λ n. starts_line line text n) e
line_after line text done (suc k) =
    let e : suc (done + k) ≡ done + suc k = omega arith in
    line_one (starts_line line text done) (drop done text) k
    ∙ ap (λ l. nat_eq (get_or (take 1 l) (1 - 1) 0) 10) (drop-drop k done text)
    ∙ sym (line_one line text (done + k))
    ∙ ap (λ n. starts_line line text n) e

-- after each of some matches of one byte a match starts where the first of them did
same_first : (M : Machine) (Is : Machine → ℕ → ℕ → Type 0) (condition : ℕ) (line : Bool) (bytes : List ℕ) (count : ℕ) → Singles Is M condition (M.start condition line) bytes count → (k : ℕ) → k ≤ count → M.start condition (starts_line line bytes k) ≡ M.start condition line
same_first M Is condition line bytes count run zero le = refl
same_first M Is condition line bytes count run (suc k) le =
    let z : k + (1 - 1) ≡ k = omega arith in
    ap (λ b. M.start condition b) (line_one line bytes k)
    ∙ ap (λ b. M.start condition (nat_eq b 10)) (get_or-take 1 (drop k bytes) (1 - 1) 0 (omega arith) ∙ get_or-drop k bytes (1 - 1) 0 ∙ ap (λ n. get_or bytes n 0) z)
    ∙ (run.1 k (omega (arith, le))).1

-- one byte
front_one : (bytes : List ℕ) (k : ℕ) → k < length bytes → take 1 (drop k bytes) ≡ get_or bytes k 0 ∷ []
front_one bytes k less = ap (λ l. take 1 l) (drop_more bytes k 0 less)

-- A match of one byte, at the front of these, of which this is told.
pub record TurnOver (M : Machine) (first : ℕ) (bytes : List ℕ) (gist : Gist) : Type 0 where
  pub way : Way
  pub one : way.count ≡ 1
  pub leads : Leads M first bytes way
  pub tells : IsGlancedMatch M first bytes way.count (record { gist = gist; keep = 1 })

pub dropped_turn : (M : Machine) (first : ℕ) (bytes : List ℕ) → 1 ≤ length bytes → IsDropped M first (get_or bytes 0 0) → TurnOver M first bytes Silent
dropped_turn M first [] some is = absurd (omega (arith, some))
dropped_turn M first (b ∷ rest) some (stops, does) = record {
  way = record { count = 1; state = M.next first b; before = first; gist = Silent };
  one = refl;
  leads = record {
    some = omega arith;
    inside = some;
    state_is = refl;
    before_is = refl;
    asked = λ i more less. absurd (omega (arith, more, less));
    stops = stops;
    gist_is = does;
  };
  tells = inl (omega arith, omega arith, λ i more less. absurd (omega (arith, more, less)), does);
}

pub copied_turn : (M : Machine) (first : ℕ) (bytes : List ℕ) → 1 ≤ length bytes → IsCopied M first (get_or bytes 0 0) → TurnOver M first bytes Echo
copied_turn M first [] some is = absurd (omega (arith, some))
copied_turn M first (b ∷ rest) some (stops, inl does) = record {
  way = record { count = 1; state = M.next first b; before = first; gist = Echo };
  one = refl;
  leads = record {
    some = omega arith;
    inside = some;
    state_is = refl;
    before_is = refl;
    asked = λ i more less. absurd (omega (arith, more, less));
    stops = stops;
    gist_is = does;
  };
  tells = inl (omega arith, omega arith, λ i more less. absurd (omega (arith, more, less)), does);
}
copied_turn M first (b ∷ rest) some (stops, inr none) = record {
  way = record { count = 1; state = M.next first b; before = first; gist = NoRule };
  one = refl;
  leads = record {
    some = omega arith;
    inside = some;
    state_is = refl;
    before_is = refl;
    asked = λ i more less. absurd (omega (arith, more, less));
    stops = stops;
    gist_is = none;
  };
  tells = inr (inl (
    refl,
    refl,
    λ i more less.
        let e : 1 ≡ i = omega (arith, more, less) in
        subst (λ k. M.accepts (walk M first (take k (b ∷ rest))) ≡ []) e none,
  ));
}

-- the same, said otherwise
moved : (M : Machine) (text : List ℕ) (held condition : ℕ) (line : Bool) {n n' : ℕ} {out out' : List ℕ} {done done' asked asked' c c' : ℕ} → n ≡ n' → out ≡ out' → done ≡ done' → asked ≡ asked' → c ≡ c' → (l : Bool) →
    Stands M text held 0 condition line n out done 0 asked c l → Stands M text held 0 condition line n' out' done' 0 asked' c' l
moved M text held condition line {n} {n'} {out} {out'} {done} {done'} {asked} {asked'} {c} {c'} en eo ed ea ec l h =
    subst (λ z. Stands M text held 0 condition line n' out' done' 0 asked' z l) ec
    (subst (λ z. Stands M text held 0 condition line n' out' done' 0 z c l) ea
    (subst (λ z. Stands M text held 0 condition line n' out' z 0 asked c l) ed
    (subst (λ z. Stands M text held 0 condition line n' z done 0 asked c l) eo
    (subst (λ z. Stands M text held 0 condition line z out done 0 asked c l) en h))))

-- The first bytes of a text, each a match by itself, of which this is told: they write these bytes.
module _ (M : Machine) (laws : MachineLaws M) (text : List ℕ) (bytes : IsText text) (held condition : ℕ) (line : Bool) (inside : held ≤ length text)
    (Is : Machine → ℕ → ℕ → Type 0) (gist : Gist) (turn_over : (first : ℕ) (front : List ℕ) → 1 ≤ length front → Is M first (get_or front 0 0) → TurnOver M first front gist) (named : names_rule gist ≡ true) (stays : condition_after gist condition ≡ condition)
    (count : ℕ) (run : Singles Is M condition (M.start condition line) text count)
    (out : ℕ → List ℕ) (out_none : out 0 ≡ []) (out_more : (k : ℕ) → k < length text → out (k + 1) ≡ out k ++ written_by gist (take 1 (drop k text))) where
  turn : (k : ℕ) → k < count → TurnOver M (M.start condition (starts_line line text k)) (drop k text) gist
  turn k less =
      let r = run.0 in
      let same : get_or text k 0 ≡ get_or (drop k text) 0 0 = (let e : k ≡ k + 0 = omega arith in ap (λ n. get_or text n 0) e) ∙ sym (get_or-drop k text 0 0) in
      subst (λ s. TurnOver M s (drop k text) gist) (sym (same_first M Is condition line text count run k (omega (arith, less))))
      (turn_over (M.start condition line) (drop k text) (omega (arith, length-drop k text, r, less)) (subst (λ b. Is M (M.start condition line) b) same (run.1 k less).0))

  stands : (k : ℕ) → k ≤ count → Stands M text held 0 condition line k (out k) k 0 (max held k) condition (starts_line line text k)
  stands zero le = moved M text held condition line {done = 0} refl (sym out_none) refl (omega arith) refl line (Burst.none_stands M text held 0 condition line inside)
  stands (suc k) le =
      let less : k < count = omega (arith, le) in
      let t = turn k less in
      let r = run.0 in
      let one = t.one in
      let here : Bool = starts_line line text k in
      let left : ℕ = max held k - k in
      let next : ℕ = max left (0 + t.way.count) in
      let after = Burst.text_stands M laws (drop k text) (is_text_drop k text bytes) left 0 condition here (M.start condition here) t.way (omega arith) (omega (arith, length-drop k text, inside, r, less)) refl t.leads (record { gist = gist; keep = 1 }) t.tells named
      (condition_after gist condition) refl (starts_line line text (suc k)) (line_one line text k ∙ ap (λ b. nat_eq b 10) (get_or-take 1 (drop k text) (1 - 1) 0 (omega arith))) in
      let more : 1 + k ≡ suc k = omega arith in
      let sum : k + 1 ≡ suc k = omega arith in
      let far : k + next ≡ max held (suc k) = omega (arith, one) in
      moved M text held condition line more (sym (out_more k (omega (arith, r, less))) ∙ ap (λ n. out n) sum) sum far stays (starts_line line text (suc k))
      (Burst.both_stand text held k (max held k) next (omega arith) (omega arith) (omega arith) (omega (arith, one, inside, r, less)) M 0 condition line k (out k) 0 condition here (stands k (omega (arith, le))) 1 0 (condition_after gist condition) (starts_line line text (suc k)) 1 (written_by gist (take 1 (drop k text))) after)

  -- so many turns
  pub went_run : {K : Type 0} (wrote : K → List ℕ → K → Type 0) (t u : K) → wrote t (out count) u → TurnsMade M wrote t u text held 0 condition line count 0 (max held count) condition (starts_line line text count)
  went_run wrote t u put = record { turns = count; out = out count; sink = put; stand = stands count (omega arith) }

-- A place in a text, between two turns of a burst: what is left of the text, how many bytes at its end no match has asked
-- for, if no fewer are left, the condition, and the state where the next match starts.
pub record Place {K : Type 0} (M : Machine) (wrote : K → List ℕ → K → Type 0) (s t : K) (text : List ℕ) (held condition0 : ℕ) (line : Bool) (rest : List ℕ) (unasked condition first : ℕ) : Type 0 where
  pub left : rest ≡ drop (length text - length rest) text
  pub inside : length rest ≤ length text
  pub starts : first ≡ M.start condition (starts_line line text (length text - length rest))
  pub few : held ≤ length text - min unasked (length rest)
  pub went : TurnsMade M wrote s t text held 0 condition0 line (length text - length rest) 0 (length text - min unasked (length rest)) condition (starts_line line text (length text - length rest))

-- the first of them
pub place_first : {K : Type 0} (M : Machine) (wrote : K → List ℕ → K → Type 0) (none : (s : K) → wrote s [] s) (s : K) (text : List ℕ) (held condition : ℕ) (line : Bool) (first : ℕ) → held ≤ length text → first ≡ M.start condition line →
    Place M wrote s s text held condition line text (length text - held) condition first
place_first M wrote none s text held condition line first fits starts =
    let front : length text - length text ≡ 0 = omega arith in
    let all : held ≡ length text - min (length text - held) (length text) = omega (arith, fits) in record {
      left = ap (λ n. drop n text) (sym front);
      inside = omega arith;
      starts = starts ∙ ap (λ n. M.start condition (starts_line line text n)) (sym front);
      few = omega (arith, all);
      went = subst (λ n. TurnsMade M wrote s s text held 0 condition line n 0 (length text - min (length text - held) (length text)) condition (starts_line line text n)) (sym front)
          (subst (λ k. TurnsMade M wrote s s text held 0 condition line 0 0 k condition line) all (Burst.went_none M wrote s text held 0 condition line fits (none s)));
    }

-- what is left after some bytes more
rest_more : (text rest : List ℕ) (done keep : ℕ) → rest ≡ drop done text → take (length rest - keep) (drop keep rest) ≡ drop (done + keep) text
rest_more text rest done keep e = take_rest rest keep ∙ ap (λ l. drop keep l) e ∙ drop-drop keep done text

module _ (M : Machine) (laws : MachineLaws M) (text : List ℕ) (bytes : IsText text) {K : Type 0} (wrote : K → List ℕ → K → Type 0) (none : (s : K) → wrote s [] s) (join : (s t u : K) (xs ys : List ℕ) → wrote s xs t → wrote t ys u → wrote s (xs ++ ys) u) (s t : K)
    (held condition0 : ℕ) (line : Bool) (rest : List ℕ) (unasked condition first : ℕ) (place : Place M wrote s t text held condition0 line rest unasked condition first) where
  abbrev done : ℕ
  done = length text - length rest

  abbrev asked : ℕ
  asked = length text - min unasked (length rest)

  abbrev here : Bool
  here = starts_line line text done

  before : done ≤ asked
  before = omega arith

  rest_bytes : IsText rest
  rest_bytes = subst (λ l. IsText l) (sym place.left) (is_text_drop done text bytes)

  few_held : asked - done ≤ length rest
  few_held = let i = place.inside in omega (arith, i)

  -- turns over what is left
  went_on : (u : K) (done' more condition' : ℕ) (line' : Bool) → asked - done ≤ more → more ≤ length rest → TurnsMade M wrote t u rest (asked - done) 0 condition here done' 0 more condition' line' → TurnsMade M wrote s u text held 0 condition0 line (done + done') 0 (done + more) condition' line'
  went_on u done' more condition' line' further most next =
      Burst.both_went text held done asked more place.few before further (let i = place.inside in omega (arith, i, most)) M wrote join s t u 0 condition0 line 0 condition here place.went done' 0 condition' line'
      (subst (λ l. TurnsMade M wrote t u l (asked - done) 0 condition here done' 0 more condition' line') place.left next)

  -- A match at its front, its rule known.
  module _ (way : Way) (longest : GlancedMatch) (led : Leads M first rest way) (tells : IsGlancedMatch M first rest way.count longest) (known : names_rule longest.gist ≡ true) where
    abbrev then-rest : List ℕ
    then-rest = take (length rest - longest.keep) (drop longest.keep rest)

    abbrev next : ℕ
    next = max (asked - done) (0 + way.count)

    pub keeps : (1 ≤ longest.keep) × (longest.keep ≤ way.count)
    keeps = Burst.text_keeps M laws rest rest_bytes (asked - done) 0 condition here first way (omega arith) few_held place.starts led longest tells known

    fits_rest : way.count ≤ length rest
    fits_rest = led.inside

    size : length then-rest ≡ length rest - longest.keep
    size = ap (λ l. length l) (take_rest rest longest.keep) ∙ length-drop longest.keep rest

    -- what is left is shorter
    pub shorter : length then-rest < length rest
    shorter = let k = keeps.0 in let m = keeps.1 in omega (arith, size, k, m, fits_rest)

    pub condition_then : condition < M.conditions → condition_after longest.gist condition < M.conditions
    condition_then lt = Burst.text_condition M laws rest rest_bytes (asked - done) 0 condition here first way (omega arith) few_held place.starts led longest tells known lt

    done_then : length text - length then-rest ≡ done + longest.keep
    done_then = let k = keeps.1 in let i = place.inside in omega (arith, size, k, fits_rest, i)

    asked_then : (left : ℕ) → left ≡ min unasked (length rest - way.count) → length text - min left (length then-rest) ≡ max asked (done + way.count)
    asked_then left e = let k = keeps.1 in let i = place.inside in omega (arith, size, e, k, fits_rest, i)

    asked_stopped : (left : ℕ) → left ≡ min unasked (length rest - way.count) → length text - min left (length rest) ≡ max asked (done + way.count)
    asked_stopped left e = let i = place.inside in omega (arith, e, fits_rest, i)

    line_then : nat_eq (get_or (take longest.keep rest) (longest.keep - 1) 0) 10 ≡ starts_line line text (length text - length then-rest)
    line_then = ap (λ l. nat_eq (get_or (take longest.keep l) (longest.keep - 1) 0) 10) place.left ∙ sym (line_next line text done longest.keep keeps.0) ∙ ap (λ n. starts_line line text n) (sym done_then)

    same_keep : longest.keep ≡ 0 + longest.keep
    same_keep = omega arith

    abbrev line_now : Bool
    line_now = starts_line line text (length text - length then-rest)

    line_is : line_now ≡ nat_eq (get_or rest (0 + longest.keep - 1) 0) 10
    line_is = sym line_then ∙ ap (λ b. nat_eq b 10) (get_or-take longest.keep rest (longest.keep - 1) 0 (omega (arith, keeps.0))) ∙ ap (λ k. nat_eq (get_or rest (k - 1) 0) 10) same_keep

    -- the place after it
    pub place_then : (u : K) → wrote t (written_by longest.gist (take longest.keep rest)) u → (left : ℕ) → left ≡ min unasked (length rest - way.count) → (after : ℕ) → after ≡ condition_after longest.gist condition → (first' : ℕ) → first' ≡ M.start after (nat_eq (get_or (take longest.keep rest) (longest.keep - 1) 0) 10) →
        Place M wrote s u text held condition0 line then-rest left after first'
    place_then u put left left_is after after_is first' first_is = record {
      left = rest_more text rest done longest.keep place.left ∙ ap (λ n. drop n text) (sym done_then);
      inside = (let i = place.inside in omega (arith, shorter, i));
      starts = first_is ∙ ap (λ b. M.start after b) line_then;
      few = (let f = place.few in omega (arith, asked_then left left_is, f));
      went = Burst.as_made M wrote s u text held 0 condition0 line 0 after line_now (omega (arith, done_then)) (omega (arith, asked_then left left_is))
          (went_on u (0 + longest.keep) next after line_now (omega arith) (omega (arith, few_held, fits_rest))
          (Burst.text_turned M laws rest rest_bytes (asked - done) 0 condition here first way (omega arith) few_held place.starts led longest tells known wrote none join t u (subst (λ k. wrote t (written_by longest.gist (take k rest)) u) same_keep put) after after_is line_now line_is));
    }

    -- the sink failed in it
    pub broke_then : (u : K) (front : List ℕ) → BeginsWith (written_by longest.gist (take longest.keep rest)) front → wrote t front u → (left : ℕ) → left ≡ min unasked (length rest - way.count) →
        BurstStopped M wrote s u text held 0 condition0 line done 0 (length text - min left (length rest)) condition here
    broke_then u front begins put left left_is =
        Burst.as_stopped M wrote s u text held 0 condition0 line 0 condition here (omega arith) (omega (arith, asked_stopped left left_is))
        (Burst.then_broke text held done asked next place.few before (omega arith) (let i = place.inside in omega (arith, i, few_held, fits_rest)) M wrote join s t u 0 condition0 line 0 condition here place.went 0 0 condition here
        (subst (λ l. BurstStopped M wrote t u l (asked - done) 0 condition here 0 0 next condition here) place.left
        (Burst.text_broke M laws rest rest_bytes (asked - done) 0 condition here first way (omega arith) few_held place.starts led longest tells known wrote none join t u front (subst (λ k. BeginsWith (written_by longest.gist (take k rest)) front) same_keep begins) put)))

  -- Bytes were passed at its front.
  module _ (after : List ℕ) where
    module _ (Is : Machine → ℕ → ℕ → Type 0) (passed : Passed Is M condition first rest after) where
      there : Singles Is M condition (M.start condition here) rest passed.count
      there = subst (λ s. Singles Is M condition s rest passed.count) place.starts passed.singles

      size_after : length after ≡ length rest - passed.count
      size_after = ap (λ l. length l) passed.left_is ∙ length-drop passed.count rest

      pub no_longer : length after ≤ length rest
      no_longer = omega (arith, size_after)

      done_after : length text - length after ≡ done + passed.count
      done_after = let few = passed.singles.0 in let i = place.inside in omega (arith, size_after, few, i)

      asked_after : length text - min unasked (length after) ≡ max asked (done + passed.count)
      asked_after = let few = passed.singles.0 in let i = place.inside in omega (arith, size_after, few, i)

      count_is : passed.count ≡ length rest - length after
      count_is = let few = passed.singles.0 in omega (arith, size_after, few)

    place_after : (Is : Machine → ℕ → ℕ → Type 0) (gist : Gist) (turn_over : (first : ℕ) (front : List ℕ) → 1 ≤ length front → Is M first (get_or front 0 0) → TurnOver M first front gist) → names_rule gist ≡ true → condition_after gist condition ≡ condition →
        (passed : Passed Is M condition first rest after) (out : ℕ → List ℕ) → out 0 ≡ [] → ((k : ℕ) → k < length rest → out (k + 1) ≡ out k ++ written_by gist (take 1 (drop k rest))) → (u : K) → wrote t (out passed.count) u →
        Place M wrote s u text held condition0 line after unasked condition first
    place_after Is gist turn_over named stays passed out out_none out_more u put = record {
      left = passed.left_is ∙ ap (λ l. drop passed.count l) place.left ∙ drop-drop passed.count done text ∙ ap (λ n. drop n text) (sym (done_after Is passed));
      inside = (let i = place.inside in omega (arith, no_longer Is passed, i));
      starts = place.starts ∙ sym (same_first M Is condition here rest passed.count (there Is passed) passed.count (omega arith)) ∙ ap (λ b. M.start condition b) line_is;
      few = (let f = place.few in omega (arith, asked_after Is passed, f));
      went = Burst.as_made M wrote s u text held 0 condition0 line 0 condition (starts_line line text (length text - length after)) (omega (arith, done_after Is passed)) (omega (arith, asked_after Is passed))
          (subst (λ b. TurnsMade M wrote s u text held 0 condition0 line (done + passed.count) 0 (done + max (asked - done) passed.count) condition b) line_is
          (went_on u passed.count (max (asked - done) passed.count) condition (starts_line here rest passed.count) (omega arith) (let r = passed.singles.0 in omega (arith, few_held, r))
          (went_run M laws rest rest_bytes (asked - done) condition here few_held Is gist turn_over named stays passed.count (there Is passed) out out_none out_more wrote t u put)));
    }
      where
        line_is : starts_line here rest passed.count ≡ starts_line line text (length text - length after)
        line_is = ap (λ l. starts_line here l passed.count) place.left ∙ line_after line text done passed.count ∙ ap (λ n. starts_line line text n) (sym (done_after Is passed))

    -- the place after some that are dropped
    pub place_dropped : Passed IsDropped M condition first rest after → Place M wrote s t text held condition0 line after unasked condition first
    place_dropped passed = place_after IsDropped Silent (dropped_turn M) refl refl passed (λ k. []) refl (λ k less. refl) t (none t)

    -- the place after some that are copied
    pub place_copied : Passed IsCopied M condition first rest after → (u : K) → wrote t (take (length rest - length after) rest) u → Place M wrote s u text held condition0 line after unasked condition first
    place_copied passed u put =
        place_after IsCopied Echo (copied_turn M) refl refl passed (λ k. take k rest) refl (λ k less. take_more rest k 0 less ∙ ap (λ l. take k rest ++ l) (sym (front_one rest k less))) u
        (subst (λ n. wrote t (take n rest) u) (sym (count_is IsCopied passed)) put)
