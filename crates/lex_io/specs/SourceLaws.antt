-- The laws of `Gives`.
use Rattle.std.proofs.Common.{◌≡◌, ℕ, ◌<◌, ◌⊎◌, inl, inr, List, [], ◌++◌, Option, Some, None, IfSome, sym, ap, ◌∙◌, append-nil, arith, length, length-append}
use Rattle.std.proofs.lemmas.List.{nil_from_length}
use Rattle.std.proofs.KnownBytes.{Consumes-nil, Consumes-trans}
use Rattle.std.proofs.lemmas.Bool.{cases_lt}
use Rattle.lex_io.specs.Source.{Gives}

pub Gives-nil : (known : Option (List ℕ)) (ends : ℕ) → Gives known known ends ends []
Gives-nil known ends = record {
  taken = Consumes-nil known;
  later = omega arith;
  whole = λ h. absurd (omega arith);
}

-- what is added to a whole list is nothing
nothing_more : (all xs ys rest rest' : List ℕ) → all ≡ xs ++ rest → rest ≡ ys ++ rest' → all ≡ xs → all ≡ xs ++ ys
nothing_more all xs ys rest rest' p q whole =
    let lp = ap length p in let lq = ap length q in let lw = ap length whole in
    let none : length ys ≡ 0 = omega (arith, length-append xs rest, length-append ys rest', lp, lq, lw) in
    whole ∙ sym (ap (λ l. xs ++ l) (nil_from_length ys none) ∙ append-nil xs)

whole_trans : (a b c : Option (List ℕ)) (e e' e'' : ℕ) (xs ys : List ℕ) → Gives a b e e' xs → Gives b c e' e'' ys
    → (e < e') ⊎ (e' < e'') → IfSome a (λ all. all ≡ xs ++ ys)
whole_trans None b c e e' e'' xs ys p q h = tt
whole_trans (Some all) None c e e' e'' xs ys p q h = absurd p.taken
whole_trans (Some all) (Some rest) None e e' e'' xs ys p q h = absurd q.taken
whole_trans (Some all) (Some rest) (Some rest') e e' e'' xs ys p q (inl first) =
    nothing_more all xs ys rest rest' p.taken q.taken (p.whole first)
whole_trans (Some all) (Some rest) (Some rest') e e' e'' xs ys p q (inr second) =
    p.taken ∙ ap (λ l. xs ++ l) (q.whole second)

earlier_or_later : (e e' e'' : ℕ) → e < e'' → (e < e') ⊎ (e' < e'')
earlier_or_later e e' e'' h = elim (cases_lt e e') [ inl y ↦ inl y | inr n ↦ inr (omega arith) ]

pub Gives-trans : (a b c : Option (List ℕ)) (e e' e'' : ℕ) (xs ys : List ℕ) → Gives a b e e' xs → Gives b c e' e'' ys
    → Gives a c e e'' (xs ++ ys)
Gives-trans a b c e e' e'' xs ys p q = record {
  taken = Consumes-trans a b c xs ys p.taken q.taken;
  later = let one = p.later in let two = q.later in omega arith;
  whole = λ h. whole_trans a b c e e' e'' xs ys p q (earlier_or_later e e' e'' h);
}
