-- The worked examples of matches of one byte each.
use Rattle.std.proofs.Common.{◌≡◌, ℕ, zero, suc, ◌<◌, true, false, List, [], ◌∷◌, get_or, inl, inr, refl, sym, ap, ◌∙◌, arith}
use Rattle.std.specs.Prelude.{nat_eq}
use Rattle.lex_semantics.specs.Spec.{Statement, Echo}
use Rattle.lex_machine.specs.Glances.{FirstDoes}
use Rattle.lex_machine.specs.Singles.{IsDropped, IsCopied, Singles}
use Rattle.lex_machine.specs.SingleExamples.{SingleExamples, alphabet}

head_is : (i j : ℕ) (is js : List ℕ) → i ∷ is ≡ j ∷ js → i ≡ j
head_is i j is js e = cc

-- what the first rule does
does : (s rule : ℕ) (others : List ℕ) (ss : List Statement) → alphabet.accepts s ≡ rule ∷ others → FirstDoes alphabet s ss → alphabet.statements rule ≡ ss
does s rule others ss e f = ap alphabet.statements (head_is rule f.rule others f.others (sym e ∙ f.accepts)) ∙ f.does

goes_on : true ≡ false → ⊥
goes_on e = cc

a_dropped : IsDropped alphabet 1 97
a_dropped = (refl, record { rule = 0; others = []; accepts = refl; whole = refl; does = refl })

b_not_dropped : IsDropped alphabet 1 98 → ⊥
b_not_dropped h = writes (does 3 1 [] [] refl h.1)
  where
    writes : alphabet.statements 1 ≡ [] → ⊥
    writes e = cc

other_not_dropped : IsDropped alphabet 1 120 → ⊥
other_not_dropped h = none h.1.accepts
  where
    none : [] ≡ h.1.rule ∷ h.1.others → ⊥
    none e = cc

a_not_copied : IsCopied alphabet 1 97 → ⊥
a_not_copied (stops, inl f) = writes (does 2 0 [] (Echo ∷ []) refl f)
  where
    writes : alphabet.statements 0 ≡ Echo ∷ [] → ⊥
    writes e = cc
a_not_copied (stops, inr e) = some e
  where
    some : alphabet.accepts 2 ≡ [] → ⊥
    some e = cc

c_not_copied : IsCopied alphabet 1 99 → ⊥
c_not_copied (stops, inl f) = writes (does 4 2 [] (Echo ∷ []) refl f)
  where
    writes : alphabet.statements 2 ≡ Echo ∷ [] → ⊥
    writes e = cc
c_not_copied (stops, inr e) = some e
  where
    some : alphabet.accepts 4 ≡ [] → ⊥
    some e = cc

two_dropped : Singles IsDropped alphabet 0 1 (97 ∷ 97 ∷ 100 ∷ []) 2
two_dropped = (omega arith, each)
  where
    each : (i : ℕ) → i < 2 → IsDropped alphabet 1 (get_or (97 ∷ 97 ∷ 100 ∷ []) i 0) × (alphabet.start 0 (nat_eq (get_or (97 ∷ 97 ∷ 100 ∷ []) i 0) 10) ≡ 1)
    each zero lt = (a_dropped, refl)
    each (suc zero) lt = (a_dropped, refl)
    each (suc (suc i)) lt = absurd (omega (arith, lt))

newline_dropped : Singles IsDropped alphabet 1 1 (10 ∷ []) 1
newline_dropped = (omega arith, each)
  where
    each : (i : ℕ) → i < 1 → IsDropped alphabet 1 (get_or (10 ∷ []) i 0) × (alphabet.start 1 (nat_eq (get_or (10 ∷ []) i 0) 10) ≡ 1)
    each zero lt = ((refl, record { rule = 0; others = []; accepts = refl; whole = refl; does = refl }), refl)
    each (suc i) lt = absurd (omega (arith, lt))

elsewhere : Singles IsDropped alphabet 1 1 (97 ∷ []) 1 → ⊥
elsewhere h = starts (h.1 0 (omega arith)).1
  where
    starts : ◌≡◌ {A = ℕ} 0 1 → ⊥
    starts e = omega (arith, e)

pub single_examples : SingleExamples
single_examples = record {
  a = a_dropped;
  b_writes = b_not_dropped;
  no_rule = other_not_dropped;
  d_goes_on = λ h. goes_on h.0;
  b = (refl, inl (record { rule = 1; others = []; accepts = refl; whole = refl; does = refl }));
  other = (refl, inr refl);
  a_writes_nothing = a_not_copied;
  c_writes_more = c_not_copied;
  e_goes_on = λ h. goes_on h.0;
  two = two_dropped;
  not_three = λ h. goes_on (h.1 2 (omega arith)).0.0;
  no_more = λ h. let within = h.0 in omega (arith, within);
  newline = newline_dropped;
  elsewhere = elsewhere;
}
