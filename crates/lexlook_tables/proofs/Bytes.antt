-- Where the newlines of a match are.
use Rattle.std.proofs.Common.{zero-add, ◌≡◌, ℕ, zero, suc, ◌+◌, ◌<◌, Bool, true, List, [], ◌∷◌, ◌++◌, length, take, drop, refl, sym, ◌∙◌, ap, subst, arith}
use Rattle.std.proofs.lemmas.List.{length-drop}
use Rattle.lex_semantics.specs.Text.{IsText, Among, byte_at}
use Rattle.lex_semantics.specs.Machine.{Machine, walk, state_after}
use Rattle.lex_semantics.specs.MachineLaws.{MachineLaws, LeadsToAccept}
use Rattle.lex_semantics.proofs.MachineLaws.{walk-append}
use Rattle.lex_semantics.proofs.Texts.{is_text_drop}
use Rattle.lexlook_tables.specs.Lines.{after_line}

-- a list before a byte, that byte, and what follows it
pub split_at : (w : List ℕ) (j : ℕ) → j < length w → w ≡ (take j w ++ byte_at w j ∷ []) ++ drop (suc j) w
split_at [] j lt = absurd (omega (arith, lt))
split_at (b ∷ w) zero lt = refl
split_at (b ∷ w) (suc j) lt = ap (λ z. b ∷ z) (split_at w j (omega (arith, lt)))

pub byte_at_take : (w : List ℕ) (n j : ℕ) → j < n → byte_at (take n w) j ≡ byte_at w j
byte_at_take [] zero j lt = refl
byte_at_take [] (suc n) j lt = refl
byte_at_take (b ∷ w) zero j lt = absurd (omega (arith, lt))
byte_at_take (b ∷ w) (suc n) zero lt = refl
byte_at_take (b ∷ w) (suc n) (suc j) lt = byte_at_take w n j (omega (arith, lt))

pub byte_at_drop : (w : List ℕ) (n j : ℕ) → byte_at (drop n w) j ≡ byte_at w (n + j)
byte_at_drop w zero j = rw zero-add refl
byte_at_drop [] (suc n) j = refl
byte_at_drop (b ∷ w) (suc n) j = (let e : suc n + j ≡ suc (n + j) = omega arith in byte_at_drop w n j ∙ ap (byte_at (b ∷ w)) (sym e))

pub byte_at_past : (v w : List ℕ) (j : ℕ) → byte_at (v ++ w) (length v + j) ≡ byte_at w j
byte_at_past [] w j = rw zero-add refl
byte_at_past (b ∷ v) w j = (let e : suc (length v) + j ≡ suc (length v + j) = omega arith in ap (byte_at (b ∷ (v ++ w))) e ∙ byte_at_past v w j)

-- what a machine accepts with a newline before its end goes on after that
module _ (M : Machine) (c : ℕ) (line : Bool) (w : List ℕ) (i j : ℕ) (accepted : Among (M.accepts (state_after M c line w)) i) (lt : suc j < length w) (is : byte_at w j ≡ 10) where
  pub past : Among (M.accepts (walk M (after_line M c line (take j w)) (drop (suc j) w))) i
  past = subst (λ s. Among (M.accepts s) i) (ap (state_after M c line) whole ∙ walk-append M (M.start c line) (take j w ++ 10 ∷ []) (drop (suc j) w)) accepted
    where
      whole : w ≡ (take j w ++ 10 ∷ []) ++ drop (suc j) w
      whole = split_at w j (omega (arith, lt)) ∙ ap (λ b. (take j w ++ b ∷ []) ++ drop (suc j) w) is

  pub goes_past : MachineLaws M → IsText w → M.goes_on (after_line M c line (take j w)) ≡ true
  goes_past laws text = (laws.goes_on (after_line M c line (take j w))).1 (∣ leads ∣₁)
    where
      leads : LeadsToAccept M (after_line M c line (take j w))
      leads = (drop (suc j) w, is_text_drop (suc j) w text, omega (arith, length-drop (suc j) w, lt), i, past)
