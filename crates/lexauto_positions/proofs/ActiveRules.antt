-- Rules with heads and trails, and those of them that are active.
use Rattle.std.specs.Prelude.{◌≡◌, ◌≢◌, ◌↔◌, ℕ, suc, ◌+◌, ◌<◌, ◌≤◌, Bool, true, false, IsTrue, ◌⊎◌, List, [], ◌∷◌, ◌++◌, Option, Some, None}
use Rattle.std.proofs.Common.{inl, inr, refl, arith}
use Rattle.lex_semantics.specs.Tree.{Tree}
use Rattle.lex_semantics.specs.Positions.{MarkedByte, Readings, positions, Reads}
use Rattle.lex_semantics.specs.Shapes.{IsSoundTree}
use Rattle.lex_semantics.specs.Subsets.{IsLast, positions_of_rule, positions_of_trail, all_positions, ReadsTrail, ReadsRule}
use Rattle.lex_semantics.specs.Spec.{Rule}
use Rattle.lexauto_positions.specs.PositionAutomaton.{Quad, fail, skip, alt, quad, Whole}
use Rattle.lexauto_positions.specs.RuleAutomaton.{nonempty, trail_quad, rule_quad, gated, active_quad, every}
use Rattle.lexauto_positions.proofs.Parts.{Within, from_more}
use Rattle.lexauto_positions.proofs.Glushkov.{Describes, Joined, cat_is, alt_is, skip_is, none_is, restate, glushkov}
use Rattle.lexauto_positions.proofs.Trimmed.{Finishes, Trim, cat_each, trim, trim_skip}
use Rattle.lexauto_positions.proofs.LastPositions.{Occurs, last_to_path, occurs, step_is, goes_on_is, GoesOn}

nonempty_is : (x : Quad) (L : Readings) (a b : ℕ) → Describes x L a b → Describes (nonempty x) (λ rs. L rs × (rs ≢ [])) a b
nonempty_is x L a b d = record {
  within = record { first = d.within.first; last = d.within.last; follow = d.within.follow; letter = d.within.letter };
  sound = to;
  complete = back;
}
  where
    to : (rs : List MarkedByte) → Whole (nonempty x) rs → L rs × (rs ≢ [])
    to [] w = absurd w
    to (c ∷ rs) w = (d.sound (c ∷ rs) (w.0, w.1, from_more (nonempty x) x (λ p h. h) (λ p q h. h) (λ e h. h) c rs w.2), λ e. absurd cc)

    back : (rs : List MarkedByte) → L rs × (rs ≢ []) → Whole (nonempty x) rs
    back [] h = absurd (h.1 refl)
    back (c ∷ rs) h = let w = d.complete (c ∷ rs) h.0 in (w.0, w.1, from_more x (nonempty x) (λ p h. h) (λ p q h. h) (λ e h. h) c rs w.2)

trail_is : (t : Option Tree) (base : ℕ) → Describes (trail_quad t base) (ReadsTrail t base) base (base + positions_of_trail t)
trail_is None base = restate skip (λ rs. rs ≡ []) (λ rs. rs ≡ []) base base base (base + 0) refl (omega arith) (λ rs r. r) (λ rs r. r) (skip_is base)
trail_is (Some t) base = glushkov t base

pub rule_is : (r : Rule) (base : ℕ) → Describes (rule_quad r base) (ReadsRule r base) base (base + positions_of_rule r)
rule_is r base =
    restate (rule_quad r base) (Joined (λ rs. Reads r.head base rs × (rs ≢ [])) (ReadsTrail r.trail (base + positions r.head))) (ReadsRule r base) base (base + positions r.head + positions_of_trail r.trail) base (base + positions_of_rule r) refl (omega arith) (λ rs h. h) (λ rs h. h)
    (cat_is (nonempty (quad r.head base)) (trail_quad r.trail (base + positions r.head)) (λ rs. Reads r.head base rs × (rs ≢ [])) (ReadsTrail r.trail (base + positions r.head)) base (base + positions r.head) (base + positions r.head + positions_of_trail r.trail) (omega arith) (omega arith)
    (nonempty_is (quad r.head base) (Reads r.head base) base (base + positions r.head) (glushkov r.head base)) (trail_is r.trail (base + positions r.head)))

abbrev pub SoundTrail : Option Tree → Type 0
SoundTrail None = Unit {0}
SoundTrail (Some t) = IsSoundTree t

pub record SoundRule (r : Rule) : Type 0 where
  pub head : IsSoundTree r.head
  pub trail : SoundTrail r.trail

trail_trim : (t : Option Tree) (base : ℕ) → SoundTrail t → Trim (trail_quad t base) base (base + positions_of_trail t)
trail_trim None base h = trim_skip base (base + 0) (omega arith)
trail_trim (Some t) base h = trim t base h

-- each position that occurs in a sound rule finishes: of the head into the trail
pub rule_finishes : (r : Rule) (base : ℕ) → SoundRule r → (p : ℕ) → Occurs (rule_quad r base) p → Finishes (rule_quad r base) p
rule_finishes r base h p o =
    let w = (rule_is r base).within in
    let range : (base ≤ p) × (p < base + positions_of_rule r) = elim o [ inl f ↦ w.first p f | inr g ↦ (let v = w.follow g.0 p g.1 in (v.2, v.3)) ] in
    let low = range.0 in let high = range.1 in
    cat_each (nonempty (quad r.head base)) (trail_quad r.trail (base + positions r.head)) base (base + positions r.head) (base + positions r.head + positions_of_trail r.trail)
    (λ p a b. let f = (trim r.head base h.head).each p a b in (f.0, from_more (quad r.head base) (nonempty (quad r.head base)) (λ p h. h) (λ p q h. h) (λ e h. h) (0, p) f.0 f.1, f.2))
    (trail_trim r.trail (base + positions r.head) h.trail) p low (omega arith)

-- what some active rule reads: `on` are the active ones, counted from i
abbrev pub ReadsSomeRule : (ℕ → Bool) → ℕ → ℕ → List Rule → Readings
ReadsSomeRule on i base [] rs = ⊥
ReadsSomeRule on i base (r ∷ rules) rs = (IsTrue (on i) × ReadsRule r base rs) ⊎ ReadsSomeRule on (suc i) (base + positions_of_rule r) rules rs

gated_is : (on : Bool) (x : Quad) (L : Readings) (a b : ℕ) → Describes x L a b → Describes (gated on x) (λ rs. IsTrue on × L rs) a b
gated_is true x L a b d = restate x L (λ rs. IsTrue true × L rs) a b a b refl refl (λ rs h. (refl, h)) (λ rs h. h.1) d
gated_is false x L a b d = record {
  within = record { first = λ p h. absurd h; last = λ p h. absurd h; follow = λ p q h. absurd h; letter = λ c h. absurd h };
  sound = λ rs. elim rs as (λ rs. Whole fail rs → IsTrue false × L rs) [ [] ↦ (λ w. absurd w) | e ∷ es ↦ (λ w. absurd w.0) ];
  complete = λ rs h. absurd (let e = h.0 in cc);
}

pub active_is : (on : ℕ → Bool) (i base : ℕ) (rules : List Rule) → Describes (active_quad on i base rules) (ReadsSomeRule on i base rules) base (base + all_positions rules)
active_is on i base [] = restate fail (λ rs. ⊥) (λ rs. ⊥) base base base (base + 0) refl (omega arith) (λ rs r. r) (λ rs r. r) (none_is base)
active_is on i base (r ∷ rules) =
    restate (active_quad on i base (r ∷ rules)) (λ rs. (IsTrue (on i) × ReadsRule r base rs) ⊎ ReadsSomeRule on (suc i) (base + positions_of_rule r) rules rs) (ReadsSomeRule on i base (r ∷ rules)) base (base + positions_of_rule r + all_positions rules) base (base + all_positions (r ∷ rules)) refl (omega arith) (λ rs h. h) (λ rs h. h)
    (alt_is (gated (on i) (rule_quad r base)) (active_quad on (suc i) (base + positions_of_rule r) rules) (λ rs. IsTrue (on i) × ReadsRule r base rs) (ReadsSomeRule on (suc i) (base + positions_of_rule r) rules) base (base + positions_of_rule r) (base + positions_of_rule r + all_positions rules) (omega arith) (omega arith)
    (gated_is (on i) (rule_quad r base) (ReadsRule r base) base (base + positions_of_rule r) (rule_is r base)) (active_is on (suc i) (base + positions_of_rule r) rules))

abbrev pub AreSound : List Rule → Type 0
AreSound [] = Unit {0}
AreSound (r ∷ rules) = SoundRule r × AreSound rules

left_more : (x y : Quad) (p : ℕ) → Finishes x p → Finishes (alt x y) p
left_more x y p f = (f.0, from_more x (alt x y) (λ p h. inl h) (λ p q h. inl h) (λ e h. inl h) (0, p) f.0 f.1, ((f.2).0, inl (f.2).1))

right_more : (x y : Quad) (p : ℕ) → Finishes y p → Finishes (alt x y) p
right_more x y p f = (f.0, from_more y (alt x y) (λ p h. inr h) (λ p q h. inr h) (λ e h. inr h) (0, p) f.0 f.1, ((f.2).0, inr (f.2).1))

occurs_alt : (x y : Quad) (p : ℕ) → Occurs (alt x y) p → Occurs x p ⊎ Occurs y p
occurs_alt x y p o = elim o [
  | inl (inl f) ↦ inl (inl f)
  | inl (inr f) ↦ inr (inl f)
  | inr g ↦ elim g.1 [ inl f ↦ inl (inr (g.0, f)) | inr f ↦ inr (inr (g.0, f)) ]
]

gated_finishes : (on : Bool) (x : Quad) → ((p : ℕ) → Occurs x p → Finishes x p) → (p : ℕ) → Occurs (gated on x) p → Finishes (gated on x) p
gated_finishes true x h p o = h p o
gated_finishes false x h p o = elim o [ inl f ↦ absurd f | inr g ↦ absurd g.1 ]

pub active_finishes : (on : ℕ → Bool) (i base : ℕ) (rules : List Rule) → AreSound rules → (p : ℕ) → Occurs (active_quad on i base rules) p → Finishes (active_quad on i base rules) p
active_finishes on i base [] h p o = elim o [ inl f ↦ absurd f | inr g ↦ absurd g.1 ]
active_finishes on i base (r ∷ rules) h p o =
    let x = gated (on i) (rule_quad r base) in
    let y = active_quad on (suc i) (base + positions_of_rule r) rules in
    elim (occurs_alt x y p o) [
      | inl a ↦ left_more x y p (gated_finishes (on i) (rule_quad r base) (rule_finishes r base h.0) p a)
      | inr b ↦ right_more x y p (active_finishes on (suc i) (base + positions_of_rule r) rules h.1 p b)
    ]

pub occurs_range : (x : Quad) (a b : ℕ) → Within x a b → (p : ℕ) → Occurs x p → (a ≤ p) × (p < b)
occurs_range x a b w p o = elim o [ inl f ↦ w.first p f | inr g ↦ (let v = w.follow g.0 p g.1 in (v.2, v.3)) ]

gated_follow : (on : Bool) (x : Quad) (p q : ℕ) → Occurs (gated on x) p → x.follow p q → (gated on x).follow p q
gated_follow true x p q o f = f
gated_follow false x p q o f = elim o [ inl g ↦ absurd g | inr g ↦ absurd g.1 ]

pub shared_follow : (on : ℕ → Bool) (i base : ℕ) (rules : List Rule) (p q : ℕ) → Occurs (active_quad on i base rules) p
    → (active_quad every i base rules).follow p q → (active_quad on i base rules).follow p q
shared_follow on i base [] p q o f = absurd f
shared_follow on i base (r ∷ rules) p q o f =
    let x = gated (on i) (rule_quad r base) in
    let y = active_quad on (suc i) (base + positions_of_rule r) rules in
    let wx = (gated_is (on i) (rule_quad r base) (ReadsRule r base) base (base + positions_of_rule r) (rule_is r base)).within in
    let wy = (active_is on (suc i) (base + positions_of_rule r) rules).within in
    let we = (active_is every (suc i) (base + positions_of_rule r) rules).within in
    elim (occurs_alt x y p o) [
      | inl a ↦ (let range : p < base + positions_of_rule r = (occurs_range x base (base + positions_of_rule r) wx p a).1 in
          elim f [
            | inl g ↦ inl (gated_follow (on i) (rule_quad r base) p q a g)
            | inr g ↦ absurd (let low : base + positions_of_rule r ≤ p = (we.follow p q g).0 in omega arith)
          ])
      | inr b ↦ (let range : base + positions_of_rule r ≤ p = (occurs_range y (base + positions_of_rule r) (base + positions_of_rule r + all_positions rules) wy p b).0 in
          elim f [
            | inl g ↦ absurd (let high : p < base + positions_of_rule r = ((rule_is r base).within.follow p q g).1 in omega arith)
            | inr g ↦ inr (shared_follow on (suc i) (base + positions_of_rule r) rules p q b g)
          ])
    ]

gated_letter : (on : Bool) (x : Quad) (c : MarkedByte) → Occurs (gated on x) c.1 → x.letter c → (gated on x).letter c
gated_letter true x c o f = f
gated_letter false x c o f = elim o [ inl g ↦ absurd g | inr g ↦ absurd g.1 ]

pub shared_letter : (on : ℕ → Bool) (i base : ℕ) (rules : List Rule) (e : MarkedByte) → Occurs (active_quad on i base rules) e.1
    → (active_quad every i base rules).letter e → (active_quad on i base rules).letter e
shared_letter on i base [] e o f = absurd f
shared_letter on i base (r ∷ rules) e o f =
    let x = gated (on i) (rule_quad r base) in
    let y = active_quad on (suc i) (base + positions_of_rule r) rules in
    let wx = (gated_is (on i) (rule_quad r base) (ReadsRule r base) base (base + positions_of_rule r) (rule_is r base)).within in
    let wy = (active_is on (suc i) (base + positions_of_rule r) rules).within in
    let we = (active_is every (suc i) (base + positions_of_rule r) rules).within in
    elim (occurs_alt x y e.1 o) [
      | inl a ↦ (let range : e.1 < base + positions_of_rule r = (occurs_range x base (base + positions_of_rule r) wx e.1 a).1 in
          elim f [
            | inl g ↦ inl (gated_letter (on i) (rule_quad r base) e a g)
            | inr g ↦ absurd (let low : base + positions_of_rule r ≤ e.1 = (we.letter e g).0 in omega arith)
          ])
      | inr b ↦ (let range : base + positions_of_rule r ≤ e.1 = (occurs_range y (base + positions_of_rule r) (base + positions_of_rule r + all_positions rules) wy e.1 b).0 in
          elim f [
            | inl g ↦ absurd (let high : e.1 < base + positions_of_rule r = ((rule_is r base).within.letter e g).1 in omega arith)
            | inr g ↦ inr (shared_letter on (suc i) (base + positions_of_rule r) rules e b g)
          ])
    ]

gated_up : (on : Bool) (x : Quad) (p q : ℕ) → (gated on x).follow p q → x.follow p q
gated_up true x p q f = f
gated_up false x p q f = absurd f

gated_letter_up : (on : Bool) (x : Quad) (c : MarkedByte) → (gated on x).letter c → x.letter c
gated_letter_up true x c f = f
gated_letter_up false x c f = absurd f

follow_up : (on : ℕ → Bool) (i base : ℕ) (rules : List Rule) (p q : ℕ) → (active_quad on i base rules).follow p q → (active_quad every i base rules).follow p q
follow_up on i base [] p q f = absurd f
follow_up on i base (r ∷ rules) p q f = elim f [ inl g ↦ inl (gated_up (on i) (rule_quad r base) p q g) | inr g ↦ inr (follow_up on (suc i) (base + positions_of_rule r) rules p q g) ]

letter_up : (on : ℕ → Bool) (i base : ℕ) (rules : List Rule) (c : MarkedByte) → (active_quad on i base rules).letter c → (active_quad every i base rules).letter c
letter_up on i base [] c f = absurd f
letter_up on i base (r ∷ rules) c f = elim f [ inl g ↦ inl (gated_letter_up (on i) (rule_quad r base) c g) | inr g ↦ inr (letter_up on (suc i) (base + positions_of_rule r) rules c g) ]

-- The step of a specification: the same whatever rules are active.
pub last_step : (on : ℕ → Bool) (rules : List Rule) → AreSound rules → (w : List ℕ) (b q : ℕ) → w ≢ []
    → IsLast (ReadsSomeRule on 0 0 rules) (w ++ b ∷ []) q ↔ ((active_quad every 0 0 rules).letter (b, q) × ((p : ℕ) × IsLast (ReadsSomeRule on 0 0 rules) w p × (active_quad every 0 0 rules).follow p q))
last_step on rules sound w b q ne = (to, back)
  where
    x : Quad
    x = active_quad on 0 0 rules

    d : Describes (active_quad on 0 0 rules) (ReadsSomeRule on 0 0 rules) 0 (0 + all_positions rules)
    d = active_is on 0 0 rules

    fin : (p : ℕ) → Occurs (active_quad on 0 0 rules) p → Finishes (active_quad on 0 0 rules) p
    fin = active_finishes on 0 0 rules sound

    to : IsLast (ReadsSomeRule on 0 0 rules) (w ++ b ∷ []) q → (active_quad every 0 0 rules).letter (b, q) × ((p : ℕ) × IsLast (ReadsSomeRule on 0 0 rules) w p × (active_quad every 0 0 rules).follow p q)
    to l =
        let r = (step_is (active_quad on 0 0 rules) (ReadsSomeRule on 0 0 rules) 0 (0 + all_positions rules) d fin w b q ne).0 l in
        (letter_up on 0 0 rules (b, q) r.0, ((r.1).0, (r.1).1, follow_up on 0 0 rules (r.1).0 q (r.1).2))

    back : (active_quad every 0 0 rules).letter (b, q) × ((p : ℕ) × IsLast (ReadsSomeRule on 0 0 rules) w p × (active_quad every 0 0 rules).follow p q) → IsLast (ReadsSomeRule on 0 0 rules) (w ++ b ∷ []) q
    back h =
        let path = last_to_path (active_quad on 0 0 rules) (ReadsSomeRule on 0 0 rules) 0 (0 + all_positions rules) d fin w (h.1).0 (h.1).1 in
        let there = occurs (active_quad on 0 0 rules) (ReadsSomeRule on 0 0 rules) 0 (0 + all_positions rules) d fin path.0 (h.1).0 path.2 in
        let f = shared_follow on 0 0 rules (h.1).0 q there (h.1).2 in
        (step_is (active_quad on 0 0 rules) (ReadsSomeRule on 0 0 rules) 0 (0 + all_positions rules) d fin w b q ne).1
        (shared_letter on 0 0 rules (b, q) (inr ((h.1).0, f)) h.0, ((h.1).0, (h.1).1, f))

-- Some nonempty word goes on from w just where a position of all rules follows one that w left.
pub last_goes_on : (on : ℕ → Bool) (rules : List Rule) → AreSound rules → (w : List ℕ) → w ≢ []
    → GoesOn (ReadsSomeRule on 0 0 rules) w ↔ ((p q : ℕ) × IsLast (ReadsSomeRule on 0 0 rules) w p × (active_quad every 0 0 rules).follow p q)
last_goes_on on rules sound w ne =
    let d = active_is on 0 0 rules in
    let fin : (p : ℕ) → Occurs (active_quad on 0 0 rules) p → Finishes (active_quad on 0 0 rules) p = active_finishes on 0 0 rules sound in
    let x = active_quad on 0 0 rules in
    let L = ReadsSomeRule on 0 0 rules in
    let g = goes_on_is x L 0 (0 + all_positions rules) d fin w ne in (
      (λ h. let r = g.0 h in (r.0, r.1, r.2, follow_up on 0 0 rules r.0 r.1 r.3)),
      (λ h. let path = last_to_path x L 0 (0 + all_positions rules) d fin w h.0 h.2 in
          let there = occurs x L 0 (0 + all_positions rules) d fin path.0 h.0 path.2 in
          g.1 (h.0, h.1, h.2, shared_follow on 0 0 rules h.0 h.1 there h.3)),
    )
