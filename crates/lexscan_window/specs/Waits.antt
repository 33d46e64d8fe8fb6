-- What the calls of a source over waiting bytes do.
use Rattle.std.proofs.Common.{◌≡◌, ℕ, ◌<◌, ◌≤◌, ◌⊎◌, inl, inr, List, [], ◌++◌, length, refl, sym, ap, ◌∙◌, append_assoc, arith}
use Rattle.std.proofs.lemmas.List.{length-append, nil_from_length}
use Rattle.std.proofs.lemmas.Bool.{cases_lt}
use Rattle.lexscan_window.specs.declared.waiting.Waiting.{Waiting}

-- the bytes that it has not given yet
abbrev pub bytes_left : Waiting → List ℕ
bytes_left s = s.rest.now ++ s.later.now

-- those of them that it has ready
abbrev pub bytes_ready : Waiting → List ℕ
bytes_ready s = s.rest.now

-- how often it has answered its end
abbrev pub ends_told : Waiting → ℕ
ends_told s = s.ends

-- The source lost these bytes. It answered its end only where none was left.
pub record GivesWaiting (rest : List ℕ) (ends : ℕ) (rest' : List ℕ) (ends' : ℕ) (bytes : List ℕ) : Type 0 where
  pub taken : rest ≡ bytes ++ rest'
  pub later : ends ≤ ends'
  pub whole : ends < ends' → rest' ≡ []

pub gives-none : (rest : List ℕ) (ends : ℕ) → GivesWaiting rest ends rest ends []
gives-none rest ends = record { taken = refl; later = omega arith; whole = λ h. absurd (omega (arith, h)) }

nothing_left : (ys b c : List ℕ) → b ≡ ys ++ c → b ≡ [] → c ≡ []
nothing_left ys b c e none = nil_from_length c (omega (arith, ap length e, ap length none, length-append ys c))

earlier_or_later : (e e' e'' : ℕ) → e < e'' → (e < e') ⊎ (e' < e'')
earlier_or_later e e' e'' h = elim (cases_lt e e') [ inl y ↦ inl y | inr n ↦ inr (omega arith) ]

pub gives-more : (a b c : List ℕ) (e e' e'' : ℕ) (xs ys : List ℕ) → GivesWaiting a e b e' xs
    → GivesWaiting b e' c e'' ys → GivesWaiting a e c e'' (xs ++ ys)
gives-more a b c e e' e'' xs ys p q = record {
  taken = p.taken ∙ ap (λ l. xs ++ l) q.taken ∙ sym (append_assoc xs ys c);
  later = let one = p.later in let two = q.later in omega arith;
  whole = λ h. left (earlier_or_later e e' e'' h);
}
  where
    left : (e < e') ⊎ (e' < e'') → c ≡ []
    left (inl first) = nothing_left ys b c q.taken (p.whole first)
    left (inr second) = q.whole second
