-- Conditions that are paired, and rules that have lines.
use Rattle.std.proofs.Common.{◌++◌, zero, suc, get_or, refl, inl, inr, ◌∷◌, ◌≡◌, ℕ, ◌<◌, ◌∙◌, List, [], length, ap, sym, subst, Some, None, Option, Err, arith}
use Rattle.std.proofs.lemmas.List.{length-map}
use Rattle.std.proofs.lemmas.Option.{slice_get_within}
use Rattle.lex_semantics.specs.Spec.{Spec, Condition}
use Rattle.lex_semantics.specs.Machine.{Machine}
use Rattle.lexkit.specs.declared.options.Options.{Options}
use Rattle.lexlook_tables.specs.Same.{number_in}
use Rattle.lexlook_tables.specs.Comparing.{Compares}
use Rattle.lexlook_tables.specs.declared.same.tables.Comparison.{Comparison}
use Rattle.lexlook_tables.specs.declared.same.tables.Comparison.TheVariants.{Same, Conditions, Ends, Texts}
use Rattle.lexlook_tables.proofs.Lists.{some_at}
use Rattle.lexlook_calls.specs.Compared.{HoldsOfSides, IsFirstRefused, TellsSame}
use Rattle.lexlook_calls.specs.Looks.{names_of}
use Rattle.lexlook_calls.specs.Lines.{Side, IsLabelled}
use Rattle.lexlook_calls.specs.Naming.{ArePaired}
use Rattle.lexlook_calls.specs.Sides.{StandsFor}
use Rattle.lexlook_calls.specs.declared.same.Given.{Given}
use Rattle.lexlook_calls.specs.declared.error.LookError.{LookError}
use Rattle.lexlook_calls.specs.declared.error.LookError.TheVariants.{Refused, Table, OutOfMemory, Write}

-- what a file stands for has a name for each condition, and a line for each rule
pub labelled : (options : Options) (bytes name : List ℕ) (M : Machine) (given : Option Spec) → StandsFor options bytes M given → IsLabelled (record { name = name; machine = M; given = given })
labelled options bytes name M None h = tt
labelled options bytes name M (Some S) h = (let t = h.4.table in (sym (ap (λ (N : Machine). N.conditions) h.5 ∙ t.conditions), sym (ap (λ (N : Machine). N.count) h.5 ∙ t.count)))

-- a condition of the first has one of the second, where there are as many
pub paired_within : (a b : Side) (order : List ℕ) → IsLabelled a → IsLabelled b → ArePaired a.given b.given order → a.machine.conditions ≡ b.machine.conditions → (c : ℕ) → c < a.machine.conditions → number_in order c < b.machine.conditions
paired_within a b order labels labels' paired same c lt = by a.given b.given labels labels' paired
  where
    M : ℕ
    M = a.machine.conditions

    none : order ≡ [] → number_in order c < b.machine.conditions
    none e = subst (λ o. number_in o c < b.machine.conditions) (sym e) (omega (arith, lt, same))

    by : (g h : Option Spec) → IsLabelled (record { name = a.name; machine = a.machine; given = g }) → IsLabelled (record { name = b.name; machine = b.machine; given = h }) → ArePaired g h order → number_in order c < b.machine.conditions
    by (Some S) (Some T) l k p =
        let x = some_at (names_of S.conditions) c (omega (arith, lt, l.0, length-map S.conditions (λ (z : Condition). z.name))) in
        let y = slice_get_within (names_of T.conditions) (number_in order c) x.0 (p.named c (omega (arith, lt, l.0, length-map S.conditions (λ (z : Condition). z.name))) ∙ x.1) in
        omega (arith, y, k.0, length-map T.conditions (λ (z : Condition). z.name))
    by (Some S) None l k p = none p
    by None h l k p = none p

-- an element of a list that has grown by one, and the last one
pub left_of : (xs : List ℕ) (y i d : ℕ) → i < length xs → get_or (xs ++ y ∷ []) i d ≡ get_or xs i d
left_of [] y i d lt = absurd (omega (arith, lt))
left_of (x ∷ xs) y zero d lt = refl
left_of (x ∷ xs) y (suc i) d lt = left_of xs y i d (omega (arith, lt))

pub last_of : (xs : List ℕ) (y d : ℕ) → get_or (xs ++ y ∷ []) (length xs) d ≡ y
last_of [] y d = refl
last_of (x ∷ xs) y d = last_of xs y d

-- what a comparison found holds of files whose conditions are paired so
pub holds_of : (a b : Side) (order : List ℕ) (told : Comparison) → ArePaired a.given b.given order → Compares order a.machine b.machine told → HoldsOfSides a b order told
holds_of a b order Same paired same = (paired, same)
holds_of a b order Conditions paired differ = λ o p. differ
holds_of a b order (Ends c) paired ends = (paired, ends)
holds_of a b order (Texts d) paired texts = (paired, texts)

-- what is told of the first of two files that is refused
pub first_refused : {K : Type 0} (wrote : K → List ℕ → K → Type 0) (options : Options) (g h : Given) (s : K) (e : LookError) → IsFirstRefused options g h e → TellsSame wrote options g h s s (Err e)
first_refused wrote options g h s (Refused e) r = (r, refl)
first_refused wrote options g h s (Table e) r = (r, refl)
first_refused wrote options g h s OutOfMemory r = refl
first_refused wrote options g h s Write (inl r) = absurd r
first_refused wrote options g h s Write (inr r) = absurd r.2
