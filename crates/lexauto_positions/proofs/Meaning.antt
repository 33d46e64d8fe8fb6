-- The words that fit rules, by readings.
use Rattle.std.specs.Prelude.{◌≢◌, ◌↔◌, slice_get, take, IsTrue}
use Rattle.std.proofs.Common.{◌≡◌, ℕ, zero, suc, ◌+◌, ◌≤◌, Bool, true, List, [], ◌∷◌, ◌++◌, length, inl, inr, Option, Some, None, IfSome, refl, sym, ◌∙◌, ap, subst, arith}
use Rattle.lex_semantics.proofs.Splits.{split_of, of_split}
use Rattle.lex_semantics.specs.Text.{IsText}
use Rattle.lex_semantics.specs.Tree.{Tree, Trees, Empty, Set, Cat, Alt, Star, Repeat, no_trees, tree, Iterates, In, InEach, InSome}
use Rattle.lex_semantics.specs.Positions.{MarkedByte, positions, bytes_of, ReadsWord}
use Rattle.lex_semantics.specs.Spec.{Spec, Rule}
use Rattle.lex_semantics.specs.Active.{active}
use Rattle.lex_semantics.specs.Fits.{InTrail, Fits}
use Rattle.lex_semantics.specs.Rules.{Live}
use Rattle.lex_semantics.specs.Reports.{HasFit}
use Rattle.lex_semantics.proofs.Counted.{base_is}
use Rattle.lex_semantics.specs.Subsets.{all_positions, base_of, positions_of_rule, ReadsTrail, ReadsRule, ReadsActive}
use Rattle.lex_semantics.proofs.WordReadings.{word_readings, bytes_join}
use Rattle.lex_semantics.proofs.Texts.{is_text_right, is_text_append}
use Rattle.lexauto_positions.specs.RuleAutomaton.{is_on}
use Rattle.lex_semantics.specs.Shapes.{IsSoundTree}
use Rattle.lex_semantics.specs.Sound.{IsSoundRule}
use Rattle.lexauto_positions.proofs.ActiveRules.{ReadsSomeRule, AreSound, SoundTrail}
use Rattle.lexauto_positions.proofs.LastPositions.{GoesOn}

-- words are texts

joined_text : (P : List ℕ → Type 0) → ((w : List ℕ) → P w → IsText w) → (j k : ℕ) (w : List ℕ) → Iterates (λ i. P) j k w → IsText w
joined_text P f j zero w e = subst IsText (sym e) tt
joined_text P f j (suc k) w (u, v, e, here, rest) = subst IsText (sym e) (is_text_append u v (f u here) (joined_text P f (suc j) k v rest))

mutual
  pub word_text : (t : Tree) (w : List ℕ) → In t w → IsText w
  word_text Empty w e = subst IsText (sym e) tt
  word_text (Set s) w (b, e, is) = subst IsText (sym e) (is.0, tt)
  word_text (Cat ts) w h = each_text ts w h
  word_text (Alt ts) w h = some_text ts w h
  word_text (Star t) w (k, joined) = joined_text (In t) (λ u h. word_text t u h) 0 k w joined
  word_text (Repeat t m n) w (k, least, most, joined) = joined_text (In t) (λ u h. word_text t u h) 0 k w joined

  each_text : (ts : Trees) (w : List ℕ) → InEach ts w → IsText w
  each_text no_trees w e = subst IsText (sym e) tt
  each_text (tree t ts) w (u, v, e, here, rest) = subst IsText (sym e) (is_text_append u v (word_text t u here) (each_text ts v rest))

  some_text : (ts : Trees) (w : List ℕ) → InSome ts w → IsText w
  some_text no_trees w h = absurd h
  some_text (tree t ts) w (inl h) = word_text t w h
  some_text (tree t ts) w (inr h) = some_text ts w h

trail_text : (t : Option Tree) (v : List ℕ) → InTrail t v → IsText v
trail_text None v e = subst IsText (sym e) tt
trail_text (Some t) v h = word_text t v h

trail_read : (t : Option Tree) (base : ℕ) (v : List ℕ) → InTrail t v → ReadsWord (ReadsTrail t base) v
trail_read None base v e = ([], sym e, refl)
trail_read (Some t) base v h = (word_readings t base v).0 h

read_trail : (t : Option Tree) (base : ℕ) (vs : List MarkedByte) → ReadsTrail t base vs → InTrail t (bytes_of vs)
read_trail None base vs e = ap bytes_of e
read_trail (Some t) base vs h = (word_readings t base (bytes_of vs)).1 (vs, refl, h)

not_nil : (us : List MarkedByte) → 1 ≤ length (bytes_of us) → us ≢ []
not_nil [] h e = omega (arith, h)
not_nil (c ∷ us) h e = absurd (no e)
  where
    no : c ∷ us ≡ [] → ⊥
    no p = cc

some_bytes : (us : List MarkedByte) → us ≢ [] → 1 ≤ length (bytes_of us)
some_bytes [] h = absurd (h refl)
some_bytes (c ∷ us) h = omega arith

-- A word that fits a rule has a reading of the rule, and a word with a reading of an active rule fits it.
pub fit_read : (S : Spec) (c : ℕ) (line_start : Bool) (w : List ℕ) (i k base : ℕ) → (h : Fits S c line_start w i k) → ReadsWord (ReadsRule h.rule base) w
fit_read S c line_start w i k base fits =
    let h = split_of S c line_start w i k fits in
    let (us, is_u, read) = (word_readings h.rule.head base h.text).0 h.in_head in
    let (vs, is_v, reads) = trail_read h.rule.trail (base + positions h.rule.head) h.trail h.in_trail in
    let some : 1 ≤ length (bytes_of us) = subst (λ (z : List ℕ). 1 ≤ length z) (sym is_u) (omega (arith, h.length_is, h.not_empty)) in
    (us ++ vs, bytes_join us vs ∙ ap (λ z. z ++ bytes_of vs) is_u ∙ ap (λ z. h.text ++ z) is_v ∙ sym h.splits, (us, vs, refl, (read, not_nil us some), reads))

pub read_fit : (S : Spec) (c : ℕ) (line_start : Bool) (w : List ℕ) (i base : ℕ) (r : Rule) → slice_get S.rules i ≡ Some r → active S c line_start r ≡ true → ReadsWord (ReadsRule r base) w → HasFit S c line_start w i
read_fit S c line_start w i base r at on (rs, is_w, (us, vs, e, (read, some), reads)) = (
  length (bytes_of us),
  of_split S c line_start w i (length (bytes_of us)) (record {
    rule = r;
    at = at;
    is_active = on;
    text = bytes_of us;
    trail = bytes_of vs;
    splits = sym is_w ∙ ap bytes_of e ∙ bytes_join us vs;
    length_is = refl;
    not_empty = some_bytes us some;
    in_head = (word_readings r.head base (bytes_of us)).1 (us, refl, read);
    in_trail = read_trail r.trail (base + positions r.head) vs reads;
  }),
)

fit_text : (S : Spec) (c : ℕ) (line_start : Bool) (w : List ℕ) (i k : ℕ) → Fits S c line_start w i k → IsText w
fit_text S c line_start w i k fits = (let h = split_of S c line_start w i k fits in subst IsText (sym h.splits) (is_text_append h.text h.trail (word_text h.rule.head h.text h.in_head) (trail_text h.rule.trail h.trail h.in_trail)))

pub active_fit : (S : Spec) (c : ℕ) (line_start : Bool) (w : List ℕ) → ReadsWord (ReadsActive S c line_start) w ↔ ((i : ℕ) × HasFit S c line_start w i)
active_fit S c line_start w = (
  λ (rs, e, (i, r, at, on, reads)). (i, read_fit S c line_start w i (all_positions (take i S.rules)) r at on (rs, e, reads)),
  λ (i, (k, h)). (let r = fit_read S c line_start w i k (all_positions (take i S.rules)) h in (r.0, r.1, (i, h.rule, h.at, h.is_active, r.2))),
)

some_length : (u : List ℕ) → u ≢ [] → 1 ≤ length u
some_length [] h = absurd (h refl)
some_length (b ∷ u) h = omega arith

length_some : (u : List ℕ) → 1 ≤ length u → u ≢ []
length_some [] h e = omega (arith, h)
length_some (b ∷ u) h e = absurd (no e)
  where
    no : b ∷ u ≡ [] → ⊥
    no p = cc

-- A word is live exactly if some reading of an active rule goes on from it.
pub live_goes_on : (S : Spec) (c : ℕ) (line_start : Bool) (w : List ℕ) → Live S c line_start w ↔ GoesOn (ReadsActive S c line_start) w
live_goes_on S c line_start w = (
  λ (u, text, some, i, k, h). (u, length_some u some, (active_fit S c line_start (w ++ u)).1 (i, (k, h))),
  λ (u, some, reads). (let f = (active_fit S c line_start (w ++ u)).0 reads in
      (u, is_text_right w u (fit_text S c line_start (w ++ u) f.0 f.1.0 f.1.1), some_length u some, f.0, f.1.0, f.1.1)),
)

-- the readings of active rules, rule by rule

to_some : (on : ℕ → Bool) (i base : ℕ) (rules : List Rule) (rs : List MarkedByte) (j : ℕ) (r : Rule) → slice_get rules j ≡ Some r → on (i + j) ≡ true → ReadsRule r (base_of rules base j) rs →
    ReadsSomeRule on i base rules rs
to_some on i base [] rs j r at is reads = absurd (no at)
  where
    no : None ≡ Some r → ⊥
    no p = cc
to_some on i base (q ∷ rules) rs zero r at is reads =
    let same : q ≡ r = cc in
    let e : i + 0 ≡ i = omega arith in
    inl (subst (λ z. IsTrue (on z)) e is, subst (λ z. ReadsRule z base rs) (sym same) reads)
to_some on i base (q ∷ rules) rs (suc j) r at is reads =
    let e : i + suc j ≡ suc i + j = omega arith in
    inr (to_some on (suc i) (base + positions_of_rule q) rules rs j r at (subst (λ z. on z ≡ true) e is) reads)

from_some : (on : ℕ → Bool) (i base : ℕ) (rules : List Rule) (rs : List MarkedByte) → ReadsSomeRule on i base rules rs →
    (j : ℕ) × (r : Rule) × (slice_get rules j ≡ Some r) × (on (i + j) ≡ true) × ReadsRule r (base_of rules base j) rs
from_some on i base [] rs h = absurd h
from_some on i base (q ∷ rules) rs (inl h) = let e : i ≡ i + 0 = omega arith in (0, q, refl, subst (λ z. on z ≡ true) e h.0, h.1)
from_some on i base (q ∷ rules) rs (inr h) =
    let (j, r, at, is, reads) = from_some on (suc i) (base + positions_of_rule q) rules rs h in
    let e : suc i + j ≡ i + suc j = omega arith in
    (suc j, r, at, subst (λ z. on z ≡ true) e is, reads)

pub active_some : (S : Spec) (c : ℕ) (line_start : Bool) (rs : List MarkedByte) → ReadsActive S c line_start rs ↔ ReadsSomeRule (λ i. is_on S c line_start (slice_get S.rules i)) 0 0 S.rules rs
active_some S c line_start rs = (
  λ (i, r, at, on, reads). (let e : 0 + i ≡ i = omega arith in
      to_some (λ i. is_on S c line_start (slice_get S.rules i)) 0 0 S.rules rs i r at (subst (λ z. is_on S c line_start (slice_get S.rules z) ≡ true) (sym e) (ap (is_on S c line_start) at ∙ on)) (subst (λ b. ReadsRule r b rs) (sym (base_is S.rules i)) reads)),
  λ h. (let (j, r, at, is, reads) = from_some (λ i. is_on S c line_start (slice_get S.rules i)) 0 0 S.rules rs h in
      let e : 0 + j ≡ j = omega arith in
      (j, r, at, ap (is_on S c line_start) (sym at) ∙ subst (λ z. is_on S c line_start (slice_get S.rules z) ≡ true) e is, subst (λ b. ReadsRule r b rs) (base_is S.rules j) reads)),
)

-- sound rules

pub sound_rules : (rules : List Rule) (n : ℕ) → ((i : ℕ) (r : Rule) → slice_get rules i ≡ Some r → IsSoundRule n r) → AreSound rules
sound_rules [] n h = tt
sound_rules (r ∷ rules) n h = (record { head = (h 0 r refl).head; trail = trail_of r.trail (h 0 r refl).trail }, sound_rules rules n (λ i q e. h (suc i) q e))
  where
    trail_of : (t : Option Tree) → IfSome t IsSoundTree → SoundTrail t
    trail_of None h = tt
    trail_of (Some t) h = h
