-- Turns of a burst after others, where yymore keeps bytes of the text.
use Rattle.std.proofs.Common.{◌≡◌, ℕ, ◌+◌, ◌-◌, ◌≤◌, Bool, true, false, List, [], ◌∷◌, ◌++◌, length, drop, get_or, inl, Some, None, subst, arith}
use Rattle.std.specs.Prelude.{max, slice_get, nat_eq}
use Rattle.lex_semantics.specs.Text.{IsText, Among}
use Rattle.lex_semantics.specs.Machine.{Machine}
use Rattle.lex_semantics.specs.MachineLaws.{MachineLaws}
use Rattle.lex_semantics.proofs.Once.{some_inj}
use Rattle.lex_machine.specs.declared.glance.Way.{Way}
use Rattle.lex_machine.specs.Glances.{Leads}
use Rattle.lexscan_window.specs.declared.state.TextPlace.{TextPlace}
use Rattle.lexscan.specs.Bursts.{TurnsMade, BurstsBy, IsMoreMatch}
use Rattle.lexscan.specs.declared.burst.Burst.{Burst}
use Rattle.lexscan.proofs.Bursting as Turned

-- the first element is among all
pub among_first : (l : List ℕ) (x : ℕ) → Some x ≡ slice_get l 0 → Among l x
among_first [] x e = absurd (no e)
  where
    no : Some x ≡ None → ⊥
    no p = cc
among_first (y ∷ l) x e = inl (some_inj x y e)

-- A match whose rule does yymore alone, after turns that kept all of the text.
pub more_went : {K : Type 0} (M : Machine) (laws : MachineLaws M) (text : List ℕ) (bytes : IsText text) (held at condition : ℕ) (line : Bool) (first : ℕ) (way : Way) (le : at ≤ held) (inside : held ≤ length text) (starts : first ≡ M.start condition line) (led : Leads M first (drop at text) way) (keep : ℕ) (is : IsMoreMatch M first (drop at text) way.count keep)
    (wrote : K → List ℕ → K → Type 0) (none : (s : K) → wrote s [] s) (join : (s t u : K) (xs ys : List ℕ) → wrote s xs t → wrote t ys u → wrote s (xs ++ ys) u) (s t : K) (held0 kept0 condition0 : ℕ) (line0 : Bool) → held0 ≤ held → TurnsMade M wrote s t text held0 kept0 condition0 line0 0 at held condition line →
    TurnsMade M wrote s t text held0 kept0 condition0 line0 0 (at + keep) (max held (at + way.count)) condition (nat_eq (get_or text (at + keep - 1) 0) 10)
more_went M laws text bytes held at condition line first way le inside starts led keep is wrote none join s t held0 kept0 condition0 line0 low went =
    let reaches = Turned.more_reaches M laws text bytes held at condition line first way le inside starts led keep is in
    let next : ℕ = max held (at + way.count) in
    let line' : Bool = nat_eq (get_or text (at + keep - 1) 0) 10 in
    let back : held ≡ held - 0 = omega arith in
    Turned.as_made M wrote s t text held0 kept0 condition0 line0 (at + keep) condition line' (omega arith) (omega arith)
    (Turned.both_went text held0 0 held next low (omega arith) (omega arith) (omega (arith, reaches, inside)) M wrote join s t t kept0 condition0 line0 at condition line went 0 (at + keep) condition line'
    (subst (λ k. TurnsMade M wrote t t text k at condition line 0 (at + keep) next condition line') back (Turned.more_turned M laws text bytes held at condition line first way le inside starts led keep is wrote t (none t))))

-- turns over what is left of a text, whether the sink failed or not
pub after_by : {K : Type 0} (M : Machine) (wrote : K → List ℕ → K → Type 0) (join : (s t u : K) (xs ys : List ℕ) → wrote s xs t → wrote t ys u → wrote s (xs ++ ys) u) (s t u : K) (text : List ℕ) (held : ℕ) (p : TextPlace) (done kept asked condition : ℕ) (line : Bool) → held ≤ asked → done ≤ asked →
    TurnsMade M wrote s t text held p.at p.condition p.line_start done kept asked condition line → (b : Burst) (kept' : ℕ) → asked - done ≤ b.asked → done + b.asked ≤ length text → (fault : Bool) → BurstsBy fault M wrote t u (drop done text) (asked - done) kept condition line b kept' →
    BurstsBy fault M wrote s u text held p.at p.condition p.line_start (record b { done = done + b.done; asked = done + b.asked }) kept'
after_by M wrote join s t u text held p done kept asked condition line low order went b kept' further inside false h = Turned.both_went text held done asked b.asked low order further inside M wrote join s t u p.at p.condition p.line_start kept condition line went b.done kept' b.condition b.line_start h
after_by M wrote join s t u text held p done kept asked condition line low order went b kept' further inside true h = Turned.then_broke text held done asked b.asked low order further inside M wrote join s t u p.at p.condition p.line_start kept condition line went b.done kept' b.condition b.line_start h

-- turns over the same text, after others that kept all of it
pub on_by : {K : Type 0} (M : Machine) (wrote : K → List ℕ → K → Type 0) (join : (s t u : K) (xs ys : List ℕ) → wrote s xs t → wrote t ys u → wrote s (xs ++ ys) u) (s t u : K) (text : List ℕ) (held far : ℕ) (p q : TextPlace) (low : held ≤ far) → TurnsMade M wrote s t text held p.at p.condition p.line_start 0 q.at far q.condition q.line_start →
    (b : Burst) (kept : ℕ) → far ≤ b.asked → b.asked ≤ length text → (fault : Bool) → BurstsBy fault M wrote t u text far q.at q.condition q.line_start b kept → BurstsBy fault M wrote s u text held p.at p.condition p.line_start b kept
on_by M wrote join s t u text held far p q low went b kept further inside fault h =
    let back : far ≡ far - 0 = omega arith in
    let done : 0 + b.done ≡ b.done = omega arith in
    let asked : 0 + b.asked ≡ b.asked = omega arith in
    subst (λ b. BurstsBy fault M wrote s u text held p.at p.condition p.line_start b kept) (λ i. record b { done = done i; asked = asked i })
    (after_by M wrote join s t u text held p 0 q.at far q.condition q.line_start low (omega arith) went b kept (omega (arith, further)) (omega (arith, inside)) fault
    (subst (λ k. BurstsBy fault M wrote t u text k q.at q.condition q.line_start b kept) back h))
