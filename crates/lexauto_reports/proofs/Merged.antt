-- The order of warnings.
use Rattle.std.proofs.Common.{◌≡◌, ◌⊎◌, ◌<◌, ◌≤◌, ◌+◌, ◌*◌, ℕ, zero, suc, Bool, true, false, List, [], ◌∷◌, length, get_or, map, inl, inr, refl, sym, subst, arith}
use Rattle.std.specs.Prelude.{cond, slice_get, option_map, unwrap_or}
use Rattle.std.proofs.lemmas.Bool.{cases_lt}
use Rattle.lex_semantics.specs.Text.{Among, Pairwise}
use Rattle.lexspec.specs.RuleViews.{rule_of}
use Rattle.lexspec.specs.declared.rule.Rule.{Rule}
use Rattle.lexauto_reports.specs.Warned.{MayPrecede}
use Rattle.lexauto_reports.specs.declared.warned.Warning.{Warning}

by_codes : (l m : ℕ) (a b : Bool) → 2 * l + cond a 0 1 ≤ 2 * m + cond b 0 1 → (l < m) ⊎ ((l ≡ m) × (b ≡ true → a ≡ true))
by_codes l m true b h = elim (cases_lt l m) [ inl y ↦ inl y | inr n ↦ inr (same b h n, λ _. refl) ]
  where
    same : (b : Bool) → 2 * l + 0 ≤ 2 * m + cond b 0 1 → m ≤ l → l ≡ m
    same true h n = omega (arith, h, n)
    same false h n = omega (arith, h, n)
by_codes l m false true h = inl (omega (arith, h))
by_codes l m false false h = elim (cases_lt l m) [ inl y ↦ inl y | inr n ↦ inr (omega (arith, h, n), λ e. absurd cc) ]

pub precedes : (w v : Warning) → 2 * w.line + cond w.code 0 1 ≤ 2 * v.line + cond v.code 0 1 → MayPrecede w v
precedes w v h = by_codes w.line v.line w.code v.code h

pub line_at : (rs : List Rule) (i : ℕ) (d : Rule) → i < length rs → (get_or rs i d).line ≡ unwrap_or (option_map (λ r. r.line) (slice_get (map rule_of rs) i)) 0
line_at [] i d h = absurd (omega (arith, h))
line_at (q ∷ rs) zero d h = refl
line_at (q ∷ rs) (suc i) d h = line_at rs i d (omega (arith, h))

all_of : (P : Warning → Type 0) (ws : List Warning) → ((j : ℕ) (d : Warning) → j < length ws → P (get_or ws j d)) → (v : Warning) → Among ws v → P v
all_of P [] h v a = absurd a
all_of P (w ∷ ws) h v (inl e) = subst P (sym e) (h 0 w (omega arith))
all_of P (w ∷ ws) h v (inr a) = all_of P ws (λ j d lt. h (suc j) d (omega (arith, lt))) v a

pub in_order : (ws : List Warning) → ((i j : ℕ) (d : Warning) → i ≤ j → j < length ws → MayPrecede (get_or ws i d) (get_or ws j d)) → Pairwise MayPrecede ws
in_order [] h = tt
in_order (w ∷ ws) h = (
  λ v a. all_of (MayPrecede w) ws (λ j d lt. h 0 (suc j) d (omega arith) (omega (arith, lt))) v a,
  in_order ws (λ i j d le lt. h (suc i) (suc j) d (omega (arith, le)) (omega (arith, lt))),
)
