-- The worked example of a canonical file: what its table is.
use Rattle.std.proofs.Common.{◌≡◌, ◌≢◌, ◌↔◌, ◌⊎◌, ℕ, zero, suc, ◌+◌, ◌<◌, ◌≤◌, Bool, true, false, List, [], ◌∷◌, ◌++◌, length, map, fold, inl, inr, Some, refl, sym, ap, subst, ◌∙◌, arith}
use Rattle.std.specs.Prelude.{◌==◌, cond, codes, nat_le, slice_get, slice_index, slice_index_or, if◌then◌else◌}
use Rattle.std.specs.List.{flat_map, range_with_len}
use Rattle.std.proofs.lemmas.List.{append-nil}
use Rattle.std.proofs.lemmas.Bool.{cases_Bool, cases_eq, cond-false, cond-true, eqb-true, leb-true}
use Rattle.lex_semantics.specs.Text.{IsText, Among, Ascending}
use Rattle.lex_semantics.specs.Spec.{Rule, Echo, statements_at, end_at}
use Rattle.lex_semantics.specs.Fits.{Fits}
use Rattle.lex_semantics.specs.Rules.{Live}
use Rattle.lex_semantics.specs.Machine.{Machine, state_after}
use Rattle.lex_semantics.specs.TableFor.{TableFor, Accepted}
use Rattle.lex_semantics.specs.Examples.{rule, string}
use Rattle.lex_semantics.proofs.ExampleWords.{is_a, string_is, string_in, word_fits, fits_word}
use Rattle.lexauto_dfa.proofs.Below.{holds}
use Rattle.lexauto_dfa.specs.Numbering.{InOrder}
use Rattle.lexauto_dfa.specs.LeastMachines.{AreToldApart, IsNumberedMachine, IsReached}
use Rattle.lextab_packed.specs.Table.{Table}
use Rattle.lextab_packed.specs.Checks.{IsTable, IsRow}
use Rattle.lextab_packed.specs.Steps.{step_of, machine_of_table}
use Rattle.lextab_packed.proofs.Places.{each_of}
use Rattle.lextab.specs.Packing.{IsPacked}
use Rattle.lextab.specs.PackingExamples.{by_a, twice_a, TwiceA}
use Rattle.lextab.proofs.Tabled.{packing_of, packed_of}
use Rattle.lexkit.specs.CanonicalExamples.{echo_two_as, table_of_two_as, CanonicalOfTwo}

abbrev goes_on : ℕ → Bool
goes_on s = slice_index_or (false ∷ true ∷ true ∷ false ∷ []) s false

abbrev M : Machine
M = machine_of_table table_of_two_as goes_on

-- its rows are those of the example of a packing
packed_by : TwiceA → IsPacked 4 by_a table_of_two_as
packed_by twice = packed_of 4 by_a table_of_two_as (packing_of 4 by_a twice_a twice)

-- its moves
step : (s b : ℕ) → s < 4 → b < 256 → step_of table_of_two_as s b ≡ by_a s b
step zero b lt h = eqb-true _ _ (holds 256 (λ b. step_of table_of_two_as 0 b == by_a 0 b) refl b h)
step (suc zero) b lt h = eqb-true _ _ (holds 256 (λ b. step_of table_of_two_as 1 b == by_a 1 b) refl b h)
step (suc (suc zero)) b lt h = eqb-true _ _ (holds 256 (λ b. step_of table_of_two_as 2 b == by_a 2 b) refl b h)
step (suc (suc (suc zero))) b lt h = eqb-true _ _ (holds 256 (λ b. step_of table_of_two_as 3 b == by_a 3 b) refl b h)
step (suc (suc (suc (suc s)))) b lt h = absurd (omega (arith, lt))

neither : (t : Bool) → cond {A = ℕ} t 0 0 ≡ 0
neither true = refl
neither false = refl

to_dead : (s b : ℕ) → s < 4 → b < 256 → b ≢ 97 → step_of table_of_two_as s b ≡ 0
to_dead s b lt h other = step s b lt h ∙ not_a (b == 97) refl
  where
    not_a : (t : Bool) → (b == 97) ≡ t → by_a s b ≡ 0
    not_a true e = absurd (other (eqb-true b 97 e))
    not_a false e = cond-false (b == 97) _ 0 e

dead_stays : (w : List ℕ) → IsText w → fold (step_of table_of_two_as) 0 w ≡ 0
dead_stays [] text = refl
dead_stays (b ∷ w) (low, text) = ap (λ s. fold (step_of table_of_two_as) s w) (step 0 b (omega arith) low ∙ neither (b == 97)) ∙ dead_stays w text

abbrev two_a : List ℕ
two_a = 97 ∷ 97 ∷ []

-- where a word leads from the start
abbrev Place : List ℕ → ℕ → Type 0
Place w s = ((w ≡ []) × (s ≡ 1)) ⊎ ((w ≡ 97 ∷ []) × (s ≡ 2)) ⊎ ((w ≡ two_a) × (s ≡ 3)) ⊎ (((u : List ℕ) → w ++ u ≢ two_a) × (s ≡ 0))

by_place : (P : List ℕ → ℕ → Type 0) → P [] 1 → P (97 ∷ []) 2 → P two_a 3 → ((w : List ℕ) → ((u : List ℕ) → w ++ u ≢ two_a) → P w 0) → (w : List ℕ) (s : ℕ) → Place w s → P w s
by_place P first second third other w s (inl (e, f)) = subst (λ v. P v s) (sym e) (subst (P []) (sym f) first)
by_place P first second third other w s (inr (inl (e, f))) = subst (λ v. P v s) (sym e) (subst (P (97 ∷ [])) (sym f) second)
by_place P first second third other w s (inr (inr (inl (e, f)))) = subst (λ v. P v s) (sym e) (subst (P two_a) (sym f) third)
by_place P first second third other w s (inr (inr (inr (never, f)))) = subst (P w) (sym f) (other w never)

lost : (w : List ℕ) → ((u : List ℕ) → w ++ u ≢ two_a) → Place w 0
lost w never = inr (inr (inr (never, refl)))

place_of : (w : List ℕ) → IsText w → Place w (fold (step_of table_of_two_as) 1 w)
place_of [] text = inl (refl, refl)
place_of (b ∷ w) (low, text) = elim (cases_eq b 97) [
  | inl e ↦ subst (λ c. Place (c ∷ w) (fold (step_of table_of_two_as) 1 (c ∷ w))) (sym e) (after_one w text)
  | inr n ↦ subst (Place (b ∷ w)) (sym (ap (λ s. fold (step_of table_of_two_as) s w) (to_dead 1 b (omega arith) low n) ∙ dead_stays w text)) (lost (b ∷ w) (λ u e. n (ap (λ l. slice_index l 0) e)))
]
  where
    last : (w : List ℕ) → IsText w → Place (97 ∷ 97 ∷ w) (fold (step_of table_of_two_as) 3 w)
    last [] text = inr (inr (inl (refl, refl)))
    last (b ∷ w) (low, text) = subst (Place (97 ∷ 97 ∷ b ∷ w)) (sym (ap (λ s. fold (step_of table_of_two_as) s w) (step 3 b (omega arith) low ∙ neither (b == 97)) ∙ dead_stays w text))
        (lost (97 ∷ 97 ∷ b ∷ w) (λ u e. (let n : suc (suc (suc (length (w ++ u)))) ≡ 2 = ap (λ l. length l) e in omega (arith, n))))

    after_one : (w : List ℕ) → IsText w → Place (97 ∷ w) (fold (step_of table_of_two_as) 2 w)
    after_one [] text = inr (inl (refl, refl))
    after_one (b ∷ w) (low, text) = elim (cases_eq b 97) [
      | inl e ↦ subst (λ c. Place (97 ∷ c ∷ w) (fold (step_of table_of_two_as) 2 (c ∷ w))) (sym e) (last w text)
      | inr n ↦ subst (Place (97 ∷ b ∷ w)) (sym (ap (λ s. fold (step_of table_of_two_as) s w) (to_dead 2 b (omega arith) low n) ∙ dead_stays w text)) (lost (97 ∷ b ∷ w) (λ u e. n (ap (λ l. slice_index l 1) e)))
    ]

-- what fits
abbrev aa : Rule
aa = rule (string (codes "aa")) (Echo ∷ [])

fits : (c : ℕ) (line_start : Bool) → c < 1 → Fits echo_two_as c line_start two_a 0 2
fits zero line_start low = word_fits echo_two_as 0 line_start two_a 0 aa refl refl refl (string_in two_a (is_a, (is_a, tt))) (omega arith)
fits (suc c) line_start low = absurd (omega (arith, low))

only_fits : (c : ℕ) (line_start : Bool) (w : List ℕ) (i k : ℕ) → Fits echo_two_as c line_start w i k → (i ≡ 0) × (w ≡ two_a)
only_fits c line_start w zero k h = (refl, string_is two_a (is_a, (is_a, tt)) w (fits_word echo_two_as c line_start w 0 aa refl refl k h).0)
only_fits c line_start w (suc zero) k h = absurd (let e = h.at in cc)
only_fits c line_start w (suc (suc i)) k h = absurd (let e = h.at in cc)

accepts : (c : ℕ) (line_start : Bool) (w : List ℕ) (s i : ℕ) → c < 1 → Place w s → Among (M.accepts s) i ↔ Accepted echo_two_as c line_start w i
accepts c line_start w s i low = by_place (λ w s. Among (M.accepts s) i ↔ Accepted echo_two_as c line_start w i)
    (λ a. absurd a, λ ((k, h), first). absurd (let e : 0 ≡ 2 = ap (λ l. length l) (only_fits c line_start [] i k h).1 in omega (arith, e)))
    (λ a. absurd a, λ ((k, h), first). absurd (let e : 1 ≡ 2 = ap (λ l. length l) (only_fits c line_start (97 ∷ []) i k h).1 in omega (arith, e)))
    (to, λ ((k, h), first). inl (only_fits c line_start two_a i k h).0)
    (λ w never. (λ a. absurd a, λ ((k, h), first). absurd (never [] (append-nil w ∙ (only_fits c line_start w i k h).1)))) w s
  where
    to : (i ≡ 0) ⊎ ⊥ → Accepted echo_two_as c line_start two_a i
    to (inr e) = absurd e
    to (inl e) = subst (Accepted echo_two_as c line_start two_a) (sym e) ((2, fits c line_start low), λ none j less. absurd (omega (arith, less)))

live : (c : ℕ) (line_start : Bool) (w : List ℕ) (s : ℕ) → c < 1 → Place w s → (goes_on s ≡ true) ↔ Live echo_two_as c line_start w
live c line_start w s low = by_place (λ w s. (goes_on s ≡ true) ↔ Live echo_two_as c line_start w)
    (λ e. (two_a, (omega arith, (omega arith, tt)), omega arith, 0, 2, fits c line_start low), λ l. refl)
    (λ e. (97 ∷ [], (omega arith, tt), omega arith, 0, 2, fits c line_start low), λ l. refl)
    (λ e. absurd cc, λ (u, text, some, i, k, h). absurd (let e : suc (suc (length u)) ≡ 2 = ap (λ l. length l) (only_fits c line_start (two_a ++ u) i k h).1 in omega (arith, e, some)))
    (λ w never. (λ e. absurd cc, λ (u, text, some, i, k, h). absurd (never u (only_fits c line_start (w ++ u) i k h).1))) w s

start_is : (c : ℕ) (line_start : Bool) → c < 1 → M.start c line_start ≡ 1
start_is zero true low = refl
start_is zero false low = refl
start_is (suc c) line_start low = absurd (omega (arith, low))

placed : (c : ℕ) (line_start : Bool) (w : List ℕ) → c < 1 → IsText w → Place w (state_after M c line_start w)
placed c line_start w low text = subst (λ s. Place w (fold (step_of table_of_two_as) s w)) (sym (start_is c line_start low)) (place_of w text)

ordered : (w : List ℕ) (s : ℕ) → Place w s → Ascending (M.accepts s)
ordered = by_place (λ w s. Ascending (M.accepts s)) tt tt ((λ y a. absurd a), tt) (λ w never. tt)

table : TableFor M echo_two_as
table = record {
  conditions = refl;
  count = refl;
  ascending = λ c line_start w low text. ordered w (state_after M c line_start w) (placed c line_start w low text);
  accepts = λ c line_start w i low text. accepts c line_start w (state_after M c line_start w) i low (placed c line_start w low text);
  goes_on = λ c line_start w low text. live c line_start w (state_after M c line_start w) low (placed c line_start w low text);
  cut = cut;
  statements = statements;
  ending = ending;
}
  where
    cut : (i : ℕ) (r : Rule) → slice_get echo_two_as.rules i ≡ Some r → M.cut i ≡ r.cut
    cut zero r e = let same : aa ≡ r = cc in ap (λ z. z.cut) same
    cut (suc zero) r e = absurd cc
    cut (suc (suc i)) r e = absurd cc

    statements : (i : ℕ) → i < 1 → M.statements i ≡ statements_at (slice_get echo_two_as.rules i)
    statements zero low = refl
    statements (suc i) low = absurd (omega (arith, low))

    ending : (c : ℕ) → c < 1 → M.ending c ≡ end_at (slice_get echo_two_as.conditions c)
    ending zero low = refl
    ending (suc c) low = absurd (omega (arith, low))

-- the least machine
some : ◌≢◌ {A = List ℕ} (0 ∷ []) []
some e = cc

none : ◌≢◌ {A = List ℕ} [] (0 ∷ [])
none e = cc

reached : (s : ℕ) → s < 4 → s ≢ 0 → IsReached M s
reached zero lt not = absurd (not refl)
reached (suc zero) lt not = (0, false, [], omega arith, tt, refl)
reached (suc (suc zero)) lt not = (0, false, 97 ∷ [], omega arith, (omega arith, tt), refl)
reached (suc (suc (suc zero))) lt not = (0, false, two_a, omega arith, (omega arith, (omega arith, tt)), refl)
reached (suc (suc (suc (suc s)))) lt not = absurd (omega (arith, lt))

-- one of these words is accepted from a state, and another one from never state but the third
by_two : IsText two_a
by_two = (omega arith, (omega arith, tt))

by_one : IsText (97 ∷ [])
by_one = (omega arith, tt)

apart : (s t : ℕ) → s < 4 → t < 4 → s ≢ t → AreToldApart M s t
apart zero zero lt mt not = absurd (not refl)
apart zero (suc zero) lt mt not = (two_a, by_two, none)
apart zero (suc (suc zero)) lt mt not = (97 ∷ [], by_one, none)
apart zero (suc (suc (suc zero))) lt mt not = ([], tt, none)
apart (suc zero) zero lt mt not = (two_a, by_two, some)
apart (suc zero) (suc zero) lt mt not = absurd (not refl)
apart (suc zero) (suc (suc zero)) lt mt not = (97 ∷ [], by_one, none)
apart (suc zero) (suc (suc (suc zero))) lt mt not = ([], tt, none)
apart (suc (suc zero)) zero lt mt not = (97 ∷ [], by_one, some)
apart (suc (suc zero)) (suc zero) lt mt not = (97 ∷ [], by_one, some)
apart (suc (suc zero)) (suc (suc zero)) lt mt not = absurd (not refl)
apart (suc (suc zero)) (suc (suc (suc zero))) lt mt not = ([], tt, none)
apart (suc (suc (suc zero))) zero lt mt not = ([], tt, some)
apart (suc (suc (suc zero))) (suc zero) lt mt not = ([], tt, some)
apart (suc (suc (suc zero))) (suc (suc zero)) lt mt not = ([], tt, some)
apart (suc (suc (suc zero))) (suc (suc (suc zero))) lt mt not = absurd (not refl)
apart (suc (suc (suc (suc s)))) t lt mt not = absurd (omega (arith, lt))
apart zero (suc (suc (suc (suc t)))) lt mt not = absurd (omega (arith, mt))
apart (suc zero) (suc (suc (suc (suc t)))) lt mt not = absurd (omega (arith, mt))
apart (suc (suc zero)) (suc (suc (suc (suc t)))) lt mt not = absurd (omega (arith, mt))
apart (suc (suc (suc zero))) (suc (suc (suc (suc t)))) lt mt not = absurd (omega (arith, mt))

-- whether the numbers come in order, and m is the greatest
abbrev are_in_order : ℕ → List ℕ → ℕ → Bool
are_in_order n [] m = m == n
are_in_order n (x ∷ xs) m = if nat_le x n then are_in_order n xs m else if x == suc n then are_in_order (suc n) xs m else false

in_order : (n : ℕ) (xs : List ℕ) (m : ℕ) → are_in_order n xs m ≡ true → InOrder n xs m
in_order n [] m holding = eqb-true m n holding
in_order n (x ∷ xs) m holding = elim (cases_Bool (nat_le x n)) [
  | inl t ↦ inl (leb-true x n t, in_order n xs m (sym (cond-true (nat_le x n) _ _ t) ∙ holding))
  | inr f ↦ (let r = sym (cond-false (nat_le x n) _ _ f) ∙ holding in elim (cases_Bool (x == suc n)) [
    | inl t ↦ inr (eqb-true x (suc n) t, in_order (suc n) xs m (sym (cond-true (x == suc n) _ _ t) ∙ r))
    | inr g ↦ absurd (let e = sym (cond-false (x == suc n) _ _ g) ∙ r in cc)
  ])
]

numbered : IsNumberedMachine M 4
numbered = in_order 0 (flat_map (λ c. M.start c false ∷ M.start c true ∷ []) (range_with_len 0 M.conditions)
    ++ flat_map (λ s. map (M.next s) (range_with_len 0 256)) (range_with_len 0 4)) 3 refl

-- what a table keeps to
is_table : IsTable table_of_two_as
is_table = record {
  sizes = record {
    some_conditions = (omega arith, omega arith);
    few_rules = omega arith;
    some_states = (omega arith, omega arith);
    some_classes = (omega arith, omega arith);
    some_slots = (omega arith, omega arith);
  };
  conditions = (record { start = omega arith; line_start = omega arith; print = omega arith; bytes = tt; status = omega arith }, tt);
  rules = (record { cut = tt; few = omega arith; literals = omega arith; legal = (record { ranges = refl; last = refl; compatible = refl }, refl); bytes = (tt, tt) }, tt);
  bytes = refl;
  class_of = each_of (λ b k. k < 2) table_of_two_as.class_of 0 (λ i h. leb-true _ _ (holds 256 (λ b. nat_le (suc (slice_index table_of_two_as.class_of b)) 2) refl i h));
  rows = (row_of_none 0 (omega arith) (λ e. refl), (row_of_none 0 (omega arith) (λ e. absurd (omega (arith, e))), (row_of_none 1 (omega arith) (λ e. absurd (omega (arith, e))), (accepting, tt))));
  slots = (
    record { next = omega arith; check = omega arith; unused = λ e. refl; from = λ h. absurd (omega (arith, h)); to = λ h. absurd (omega (arith, h)) },
    (
      record { next = omega arith; check = omega arith; unused = λ e. absurd (omega (arith, e)); from = λ h. omega arith; to = λ h. omega arith },
      (record { next = omega arith; check = omega arith; unused = λ e. absurd (omega (arith, e)); from = λ h. omega arith; to = λ h. omega arith }, tt),
    ),
  );
}
  where
    one_rule : (i : ℕ) → (i ≡ 0) ⊎ ⊥ → i < 1
    one_rule i (inr e) = absurd e
    one_rule i (inl e) = omega (arith, e)

    accepting : IsRow 1 4 2 3 false 3 (record { default_target = 0; base = 0; rules = 0 ∷ [] })
    accepting = record {
      default_target = omega arith;
      base = omega arith;
      rules = λ i a. one_rule i a;
      ascending = ((λ y a. absurd a), tt);
      first_alone = λ e. omega arith;
      dead = λ e. absurd (omega (arith, e));
    }

    row_of_none : {s : ℕ} (base : ℕ) → base + 2 ≤ 3 → (s ≡ 0 → base ≡ 0) → IsRow 1 4 2 3 false s (record { default_target = 0; base = base; rules = [] })
    row_of_none base fits dead = record {
      default_target = omega arith;
      base = fits;
      rules = λ i a. absurd a;
      ascending = tt;
      first_alone = λ e. omega arith;
      dead = λ e. (refl, dead e, refl);
    }

pub canonical_of_two : TwiceA
    → ((n : ℕ) (go ho : ℕ → ℕ → ℕ) (t : Table) → ((s b : ℕ) → s < n → b < 256 → go s b ≡ ho s b) → IsPacked n go t → IsPacked n ho t) → CanonicalOfTwo
canonical_of_two twice same_moves = (
  table_of_two_as,
  goes_on,
  record {
    table_for = table;
    least = record { reached = reached; apart = apart };
    numbered = numbered;
    packed = same_moves 4 by_a (step_of table_of_two_as) table_of_two_as (λ s b low h. sym (step s b low h)) (packed_by twice);
    file = (is_table, refl);
  },
)
