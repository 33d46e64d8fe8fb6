-- What the code of a step holds, against what a step is.
use Rattle.std.specs.Prelude.{◌≡◌, ℕ, zero, suc, ◌<◌, ◌≤◌, ◌^◌, ◌&&◌, nat_le, Bool, true, false, List, [], ◌∷◌, cond, length, slice_get, slice_index, Some}
use Rattle.std.proofs.Common.{refl, ap, sym, ◌∙◌, arith, replicate}
use Rattle.std.proofs.lemmas.Bool.{leb-true}
use Rattle.std.proofs.Math.Path.{fun_ext}
use Rattle.std.proofs.Math.Bool.{beq}
use Rattle.std.specs.Bool.{Decides}
use Rattle.std.specs.Cmp.Lexicographic.{pointwise}
use Rattle.std.proofs.lemmas.Slice.Eq.{slice_eq-Decides}
use Rattle.std.specs.List.{filter}
use Rattle.lex_semantics.specs.Spec.{Spec, Rule}
use Rattle.lex_semantics.specs.Sound.{IsSoundRule, HaveSoundSides}
use Rattle.lex_semantics.specs.Limits.{max_conditions, max_rules}
use Rattle.lexspec.specs.Tests.{is_sound, sound_conditions, sound_rules}
use Rattle.lexauto_positions.proofs.FlowMeaning.{and_is}
use Rattle.lexspec.proofs.TestLaws.{spec_is_sound}
use Rattle.lexauto.specs.Keys.{Key}
use Rattle.lex_semantics.specs.Text.{Ascending, flag, listed}
use Rattle.lexauto_positions.proofs.Numbers.{listed_ascends}
use Rattle.lexauto_positions.specs.RuleFlow.{rules_enter, rules_read}
use Rattle.lexauto.specs.Sets.{marked, marked_by, tagged, starts_in, lasts_in}
use Rattle.lexauto.specs.Moving.{followers_in, reading_in}

rules_sound : (rules : List Rule) (n : ℕ) → ((i : ℕ) (r : Rule) → slice_get rules i ≡ Some r → IsSoundRule n r) → HaveSoundSides rules
rules_sound [] n h = tt
rules_sound (r ∷ rules) n h = (((h 0 r refl).head, (h 0 r refl).trail), rules_sound rules n (λ i q e. h (suc i) q e))

pub tested_rules : (S : Spec) → is_sound S ≡ true → HaveSoundSides S.rules
tested_rules S h = let s = spec_is_sound S h in rules_sound S.rules (length S.conditions) s.rules

pub reading_is : (rules : List Rule) (followers : List ℕ) (b : ℕ) (reads : ℕ → Bool) → ((q : ℕ) → reads q ≡ rules_read rules b q 0) → tagged 1 (filter reads followers) ≡ reading_in rules followers b
unfolding reading_in
reading_is rules followers b reads h = ap (λ (f : ℕ → Bool). tagged 1 (filter f followers)) (fun_ext h)

beq_decides : (a b : Bool) → Decides (beq a b) (a ≡ b)
beq_decides true true = (λ h. refl, λ h. refl)
beq_decides true false = (λ h. sym h, λ h. sym h)
beq_decides false true = (λ h. h, λ h. h)
beq_decides false false = (λ h. refl, λ h. refl)

pub same_flags : (xs ys : List Bool) (r : Bool) → r ≡ pointwise beq xs ys → r ≡ true → xs ≡ ys
same_flags xs ys r e h = (slice_eq-Decides beq_decides xs ys r e).0 h

filter_alike : (f g : ℕ → Bool) (l : List ℕ) → ((j : ℕ) → j < length l → f (slice_index l j) ≡ g (slice_index l j)) → filter f l ≡ filter g l
filter_alike f g [] h = refl
filter_alike f g (x ∷ l) h =
    ap (λ b. cond b (x ∷ filter f l) (filter f l)) (h 0 (omega arith)) ∙ ap (λ m. cond (g x) (x ∷ m) m) (filter_alike f g l (λ j low. h (suc j) (omega arith)))

-- two bytes that the same followers read make the same key
pub reading_alike : (rules : List Rule) (followers : List ℕ) (b c : ℕ)
    → ((j : ℕ) → j < length followers → rules_read rules b (slice_index followers j) 0 ≡ rules_read rules c (slice_index followers j) 0)
    → reading_in rules followers b ≡ reading_in rules followers c
unfolding reading_in
reading_alike rules followers b c h = ap (tagged 1) (filter_alike (λ q. rules_read rules b q 0) (λ q. rules_read rules c q 0) followers h)

pub followers_ascend : (rules : List Rule) (count : ℕ) (k : Key) → Ascending (followers_in rules count k)
unfolding followers_in
followers_ascend rules count k = listed_ascends (λ q. rules_enter rules (marked (length rules) (starts_in k)) (marked count (lasts_in k)) q 0 0) 0 count

module _ (rules : List Rule) (count n : ℕ) (k : Key) (on last : ℕ → Bool) where
  pub followers_is : length rules ≡ n → ((i : ℕ) → on i ≡ marked n (starts_in k) i) → ((p : ℕ) → last p ≡ marked count (lasts_in k) p)
      → listed (λ q. rules_enter rules on last q 0 0) 0 count ≡ followers_in rules count k
  unfolding followers_in
  followers_is same o l =
      let on_is : on ≡ marked (length rules) (starts_in k) = fun_ext (λ i. o i ∙ ap (λ (m : ℕ). marked m (starts_in k) i) (sym same)) in
      let last_is : last ≡ marked count (lasts_in k) = fun_ext l in
      let by_on : (ℕ → Bool) → ℕ → Bool = λ f q. rules_enter rules f last q 0 0 in
      let by_last : (ℕ → Bool) → ℕ → Bool = λ f q. rules_enter rules (marked (length rules) (starts_in k)) f q 0 0 in
      ap (λ (f : ℕ → Bool). listed f 0 count) (ap by_on on_is ∙ ap by_last last_is)

pub few_rules : (S : Spec) → is_sound S ≡ true → length S.rules < 2 ^ 32
few_rules S h =
    let four = (and_is (nat_le 1 (length S.conditions) && nat_le (length S.conditions) max_conditions && nat_le (length S.rules) max_rules && sound_conditions S.conditions) (sound_rules (length S.conditions) S.rules)).0 h in
    let three = (and_is (nat_le 1 (length S.conditions) && nat_le (length S.conditions) max_conditions && nat_le (length S.rules) max_rules) (sound_conditions S.conditions)).0 four.0 in
    let two = (and_is (nat_le 1 (length S.conditions) && nat_le (length S.conditions) max_conditions) (nat_le (length S.rules) max_rules)).0 three.0 in
    let most : length S.rules ≤ 4096 = leb-true (length S.rules) max_rules two.1 in
    omega (arith, most)

pub listed_same : (f g : ℕ → Bool) (m n : ℕ) → ((q : ℕ) → f q ≡ g q) → m ≡ n → listed f 0 m ≡ listed g 0 n
listed_same f g m n h e = ap (λ (k : ℕ → Bool). listed k 0 m) (fun_ext h) ∙ ap (listed g 0) e

pub flag_none : (n q : ℕ) → flag (replicate n false) q ≡ false
flag_none zero q = refl
flag_none (suc n) zero = refl
flag_none (suc n) (suc q) = flag_none n q

-- where nothing is marked no key is read
pub none_marked : (places : List ℕ) (marks : List Bool) → length marks ≡ 0 → (l : List ℕ) → tagged 1 (filter (marked_by places marks) l) ≡ []
none_marked places [] h l = ap (tagged 1) (none l)
  where
    none : (l : List ℕ) → filter (marked_by places []) l ≡ []
    none [] = refl
    none (x ∷ l) = none l
none_marked places (b ∷ marks) h l = absurd (omega (arith, h))
