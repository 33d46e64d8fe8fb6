-- The states after the bytes that a match has asked for, while the window grows.
use Rattle.std.proofs.Common.{◌≡◌, ℕ, suc, zero, ◌+◌, ◌-◌, ◌≤◌, ◌<◌, Bool, true, false, List, [], ◌∷◌, ◌++◌, length, take, drop, get_or, ◌⊎◌, inl, inr, refl, sym, ◌∙◌, ap, subst, arith}
use Rattle.std.proofs.lemmas.List.{take-append-le, length-append, append-nil, append_assoc, length-drop, drop-append-le, get_or-drop}
use Rattle.lex_semantics.specs.Text.{Among}
use Rattle.lex_semantics.specs.Machine.{Machine, walk, state_after}
use Rattle.lex_semantics.specs.Trail.{trail_from}
use Rattle.lex_semantics.proofs.MachineLaws.{walk-append}
use Rattle.lex_semantics.proofs.Texts.{is_text_append}
use Rattle.lex_semantics.proofs.Fronts.{among_append}
use Rattle.lexscan_window.specs.declared.state.Reading.{Reading}
use Rattle.lexscan_window.specs.declared.state.TextPlace.{TextPlace}
use Rattle.lexscan_window.specs.Reads.{Took, end_step}
use Rattle.lexscan_matching.specs.Looks.{SoFar, IsLiveAfter}
use Rattle.lexscan_window.specs.Walks.{Walked, Grown}
use Rattle.lexscan_window.specs.declared.walk.Walk.{Walk}
use Rattle.lexscan_matching.specs.Picks.{path_of, state_at}
use Rattle.std.proofs.lemmas.List.{take_all}
use Rattle.std.proofs.Math.Seq.{take-append-add}
use Rattle.std.proofs.lemmas.Bool.{cases_lt}

-- one element more
pub take_one_more : (n : ℕ) (l : List ℕ) → n < length l → take (n + 1) l ≡ take n l ++ get_or l n 0 ∷ []
take_one_more n [] lt = absurd (omega (arith, lt))
take_one_more zero (b ∷ l) lt = refl
take_one_more (suc n) (b ∷ l) lt =
    let e : suc n + 1 ≡ suc (n + 1) = omega arith in
    ap (λ k. take k (b ∷ l)) e ∙ ap (λ z. b ∷ z) (take_one_more n l (omega (arith, lt)))

pub path_length : (M : Machine) (s : ℕ) (y : List ℕ) → length (trail_from M s y) ≡ length y
path_length M s [] = refl
path_length M s (b ∷ y) = ap suc (path_length M (M.next s b) y)

pub path_snoc : (M : Machine) (s b : ℕ) (y : List ℕ) → trail_from M s (y ++ b ∷ []) ≡ trail_from M s y ++ M.next (walk M s y) b ∷ []
path_snoc M s b [] = refl
path_snoc M s b (c ∷ y) = ap (λ z. M.next s c ∷ z) (path_snoc M (M.next s c) b y)

pub so_far_longer : (M : Machine) (p : TextPlace) (w more : List ℕ) (reach state : ℕ) (path : List ℕ) → SoFar M p w reach state path → SoFar M p (w ++ more) reach state path
so_far_longer M p w more reach state path h = record {
  inside = omega (arith, length-append w more, h.inside);
  state_is = h.state_is ∙ ap (state_after M p.condition p.line_start) (sym (take-append-le reach w more h.inside));
  asked = λ i some lt. ap (λ z. M.goes_on (state_after M p.condition p.line_start z)) (take-append-le i w more (omega (arith, h.inside))) ∙ h.asked i some lt;
  path_is = h.path_is ∙ ap (trail_from M (M.start p.condition p.line_start)) (sym (take-append-le reach w more h.inside));
}

-- over a window that has grown
pub so_far_grown : (M : Machine) (p : TextPlace) (w w' more : List ℕ) (reach state : ℕ) (path : List ℕ) → p.at ≤ length w → w' ≡ w ++ more → SoFar M p (drop p.at w) reach state path → SoFar M p (drop p.at w') reach state path
so_far_grown M p w w' more reach state path le e h =
    subst (λ z. SoFar M p z reach state path) (sym (ap (drop p.at) e ∙ drop-append-le p.at w more le)) (so_far_longer M p (drop p.at w) more reach state path h)

pub next_asked : (M : Machine) (p : TextPlace) (w : List ℕ) (reach state : ℕ) (path : List ℕ) → SoFar M p w reach state path → (1 ≤ reach → M.goes_on state ≡ true) →
    (i : ℕ) → 1 ≤ i → i < reach + 1 → (i < reach) ⊎ (reach ≤ i) → IsLiveAfter M p w i
next_asked M p w reach state path h live i some less (inl a) = h.asked i some a
next_asked M p w reach state path h live i some less (inr b) =
    let same : i ≡ reach = omega arith in
    ap (λ j. M.goes_on (state_after M p.condition p.line_start (take j w))) same ∙ ap M.goes_on (sym h.state_is) ∙ live (omega arith)

pub so_far_more : (M : Machine) (p : TextPlace) (w : List ℕ) (reach state : ℕ) (path : List ℕ) → SoFar M p w reach state path → reach < length w → (1 ≤ reach → M.goes_on state ≡ true) →
    SoFar M p w (reach + 1) (M.next state (get_or w reach 0)) (path ++ M.next state (get_or w reach 0) ∷ [])
so_far_more M p w reach state path h lt live = record {
  inside = omega arith;
  state_is = ap (λ s. M.next s b) h.state_is ∙ sym (walk-append M s0 (take reach w) (b ∷ [])) ∙ ap (walk M s0) (sym one);
  asked = λ i some less. next_asked M p w reach state path h live i some less (grind arith);
  path_is = ap (λ t. t ++ M.next state b ∷ []) h.path_is ∙ ap (λ s. trail_from M s0 (take reach w) ++ M.next s b ∷ []) h.state_is ∙ sym (path_snoc M s0 b (take reach w)) ∙ ap (trail_from M s0) (sym one);
}
  where
    b : ℕ
    b = get_or w reach 0

    s0 : ℕ
    s0 = M.start p.condition p.line_start

    one : take (reach + 1) w ≡ take reach w ++ get_or w reach 0 ∷ []
    one = take_one_more reach w lt

-- the state after one byte more of the window
pub step_more : (M : Machine) (p : TextPlace) (w w' more : List ℕ) (reach state s' : ℕ) (path path' : List ℕ) → p.at ≤ length w → w' ≡ w ++ more → p.at + reach < length w' →
    SoFar M p (drop p.at w) reach state path → (1 ≤ reach → M.goes_on state ≡ true) → s' ≡ M.next state (get_or w' (p.at + reach) 0) → path' ≡ path ++ s' ∷ [] →
    SoFar M p (drop p.at w') (reach + 1) s' path'
step_more M p w w' more reach state s' path path' le e lt h live stepped pushed =
    let less : reach < length (drop p.at w') = omega (arith, length-drop p.at w', lt) in
    let here : s' ≡ M.next state (get_or (drop p.at w') reach 0) = stepped ∙ ap (M.next state) (sym (get_or-drop p.at w' reach 0)) in
    let next : SoFar M p (drop p.at w') (reach + 1) (M.next state (get_or (drop p.at w') reach 0)) (path ++ M.next state (get_or (drop p.at w') reach 0) ∷ []) =
    so_far_more M p (drop p.at w') reach state path (so_far_grown M p w w' more reach state path le e h) less live in
    subst (λ t. SoFar M p (drop p.at w') (reach + 1) s' t) (sym pushed) (subst (λ s. SoFar M p (drop p.at w') (reach + 1) s (path ++ s ∷ [])) (sym here) next)

pub known_more : (n s : ℕ) (path path' : List ℕ) → path' ≡ path ++ s ∷ [] → s < n → ((t : ℕ) → Among path t → t < n) → (t : ℕ) → Among path' t → t < n
known_more n s path path' e lt h t a = elim (among_append path (s ∷ []) t (subst (λ l. Among l t) e a)) [ inl k ↦ h t k | inr k ↦ last k ]
  where
    last : Among (s ∷ []) t → t < n
    last (inl k) = omega (arith, k, lt)
    last (inr k) = absurd k

-- nothing was taken
pub took_none : {S : Type 0} (gave : S → List ℕ → S → Type 0) (s : S) (r : Reading) → gave s [] s → Took gave s s r r
took_none gave s r none = record {
  got = [];
  source = none;
  text = tt;
  held = sym (append-nil r.window.bytes);
  taken = omega arith;
  nothing = λ e. refl;
  end_stays = λ e. e;
  max_reads = refl;
}

-- bytes taken before, and after
pub took_more : {S : Type 0} (gave : S → List ℕ → S → Type 0) (r s t : S) (a b c : Reading) → ((r s t : S) (xs ys : List ℕ) → gave r xs s → gave s ys t → gave r (xs ++ ys) t) →
    Took gave r s a b → Took gave s t b c → Took gave r t a c
took_more gave r s t a b c join h k = record {
  got = h.got ++ k.got;
  source = join r s t h.got k.got h.source k.source;
  text = is_text_append h.got k.got h.text k.text;
  held = k.held ∙ ap (λ z. z ++ k.got) h.held ∙ append_assoc a.window.bytes h.got k.got;
  taken = k.taken ∙ ap (λ n. n + length k.got) h.taken ∙ (let e : length (h.got ++ k.got) ≡ length h.got + length k.got = length-append h.got k.got in omega arith);
  nothing = λ e. ap (λ z. z ++ k.got) (h.nothing e) ∙ k.nothing (h.end_stays e);
  end_stays = λ e. k.end_stays (h.end_stays e);
  max_reads = k.max_reads ∙ h.max_reads;
}

pub end_step_same : (a b : Bool) → b ≡ a → end_step a b ≡ 0
end_step_same true b e = refl
end_step_same false true e = absurd (no e)
  where
    no : true ≡ false → ⊥
    no p = cc
end_step_same false false e = refl

-- a walk over bytes that follow those held
module _ (M : Machine) (p : TextPlace) (w w' got : List ℕ) (n state : ℕ) (le : p.at ≤ length w) (all : p.at + n ≡ length w) (grown : w' ≡ w ++ got) where
  abbrev y : List ℕ
  y = drop p.at w

  abbrev s0 : ℕ
  s0 = M.start p.condition p.line_start

  size : length y ≡ n
  size = omega (arith, length-drop p.at w, all)

  after : drop p.at w' ≡ y ++ got
  after = ap (drop p.at) grown ∙ drop-append-le p.at w got le

  whole : take n y ≡ y
  whole = take_all n y (omega (arith, size))

  -- the first bytes, where some of them follow those held
  front : (j : ℕ) → take (n + j) (y ++ got) ≡ y ++ take j got
  front j = ap (λ m. take (m + j) (y ++ got)) (sym size) ∙ take-append-add y got j

  state_after_front : (path : List ℕ) → SoFar M p y n state path → (j : ℕ) → walk M s0 (take (n + j) (y ++ got)) ≡ walk M state (take j got)
  state_after_front path h j =
      ap (walk M s0) (front j) ∙ walk-append M s0 y (take j got) ∙ ap (λ s. walk M s (take j got)) (ap (walk M s0) (sym whole) ∙ sym h.state_is)

  asked_on : (path : List ℕ) → SoFar M p y n state path → (1 ≤ n → M.goes_on state ≡ true) → (s' before : ℕ) → Walked M state got s' before →
      (i : ℕ) → 1 ≤ i → i < n + length got → (i < n) ⊎ (n ≤ i) → IsLiveAfter M p (y ++ got) i
  asked_on path h live s' before k i some less (inl a) = ap (λ z. M.goes_on (walk M s0 z)) (take-append-le i y got (omega (arith, size, a))) ∙ h.asked i some a
  asked_on path h live s' before k i some less (inr b) =
      ap (λ j. M.goes_on (walk M s0 (take j (y ++ got)))) (sym there) ∙ ap M.goes_on (state_after_front path h (i - n)) ∙ here (i - n) (omega (arith, less, b)) refl
    where
      there : n + (i - n) ≡ i
      there = omega (arith, b)

      here : (j : ℕ) → j < length got → j ≡ i - n → M.goes_on (walk M state (take j got)) ≡ true
      here zero lt e = live (omega (arith, e, some, b))
      here (suc j) lt e = k.asked (suc j) (omega arith) lt

  pub so_far_walked : (path : List ℕ) → SoFar M p y n state path → (1 ≤ n → M.goes_on state ≡ true) → (s' before : ℕ) → Walked M state got s' before →
      SoFar M p (drop p.at w') (n + length got) s' (trail_from M s0 (take (n + length got) (drop p.at w')))
  so_far_walked path h live s' before k = subst (λ z. SoFar M p z (n + length got) s' (trail_from M s0 (take (n + length got) z))) (sym after) (record {
    inside = omega (arith, length-append y got, size);
    state_is = k.state_is ∙ ap (walk M state) (sym (take_all (length got) got (omega arith))) ∙ sym (state_after_front path h (length got));
    asked = λ i some less. asked_on path h live s' before k i some less (elim (cases_lt i n) [ inl z ↦ inl z | inr z ↦ inr z ]);
    path_is = refl;
  })

  -- the state before the last byte, where the walk took some
  pub before_walked : (path : List ℕ) → SoFar M p y n state path → (s' before : ℕ) → Walked M state got s' before → 1 ≤ length got →
      before ≡ state_after M p.condition p.line_start (take (n + length got - 1) (drop p.at w'))
  before_walked path h s' before k some =
      k.before_is some ∙ sym (state_after_front path h (length got - 1)) ∙ ap (λ m. walk M s0 (take m (y ++ got))) (omega (arith, some)) ∙ ap (λ z. walk M s0 (take (n + length got - 1) z)) (sym after)

-- what is known of a match after a walk, by its reach in the window
pub walked_on : (M : Machine) (p : TextPlace) (old new : Reading) (n state before : ℕ) (k : Walk) → p.at + n ≡ length old.window.bytes →
    SoFar M p (drop p.at old.window.bytes) n state (path_of M p old.window.bytes n) → (1 ≤ n → M.goes_on state ≡ true) → Grown M old new state k → (reach : ℕ) → reach ≡ length new.window.bytes - p.at →
    SoFar M p (drop p.at new.window.bytes) reach k.state (path_of M p new.window.bytes reach)
walked_on M p old new n state before k place h live g reach e =
    subst (λ r. SoFar M p (drop p.at new.window.bytes) r k.state (path_of M p new.window.bytes r)) (omega (arith, e, place, sizes))
    (so_far_walked M p old.window.bytes new.window.bytes g.got n state (omega (arith, place)) place g.held (path_of M p old.window.bytes n) h live k.state k.before g.walked)
  where
    sizes : length new.window.bytes ≡ length old.window.bytes + length g.got
    sizes = ap length g.held ∙ length-append old.window.bytes g.got

pub before_on : (M : Machine) (p : TextPlace) (old new : Reading) (n state before b : ℕ) (k : Walk) → p.at + n ≡ length old.window.bytes →
    SoFar M p (drop p.at old.window.bytes) n state (path_of M p old.window.bytes n) → (1 ≤ n → before ≡ state_at M p old.window.bytes (n - 1)) → (g : Grown M old new state k) →
    (1 ≤ k.count → b ≡ k.before) → (k.count ≡ 0 → b ≡ before) → (reach : ℕ) → reach ≡ length new.window.bytes - p.at → 1 ≤ reach → b ≡ state_at M p new.window.bytes (reach - 1)
before_on M p old new n state before b k place h was g taken none reach e some = by_count (cases_lt 0 k.count)
  where
    sizes : length new.window.bytes ≡ length old.window.bytes + length g.got
    sizes = ap length g.held ∙ length-append old.window.bytes g.got

    le : p.at ≤ length old.window.bytes
    le = omega (arith, place)

    reach_is : reach ≡ n + length g.got
    reach_is = omega (arith, e, place, sizes)

    by_count : (0 < k.count) ⊎ (k.count ≤ 0) → b ≡ state_at M p new.window.bytes (reach - 1)
    by_count (inl lt) =
        taken (omega (arith, lt)) ∙ before_walked M p old.window.bytes new.window.bytes g.got n state le place g.held (path_of M p old.window.bytes n) h k.state k.before g.walked (omega (arith, lt, g.count))
        ∙ ap (λ r. state_at M p new.window.bytes r) (omega (arith, reach_is))
    by_count (inr none_taken) =
        let nothing : length g.got ≡ 0 = omega (arith, none_taken, g.count) in
        let early : n - 1 ≤ length (drop p.at old.window.bytes) = omega (arith, length-drop p.at old.window.bytes, place) in
        let same : take (n - 1) (drop p.at old.window.bytes) ≡ take (n - 1) (drop p.at new.window.bytes) =
        sym (ap (take (n - 1)) (ap (drop p.at) g.held ∙ drop-append-le p.at old.window.bytes g.got le) ∙ take-append-le (n - 1) (drop p.at old.window.bytes) g.got early) in
        none (omega (arith, none_taken)) ∙ was (omega (arith, some, reach_is, nothing)) ∙ ap (state_after M p.condition p.line_start) same ∙ ap (λ r. state_at M p new.window.bytes r) (omega (arith, reach_is, nothing))

-- a machine that asks for one more after each byte of a walk goes on after it
pub goes_after : (M : Machine) (n state reach : ℕ) (got : List ℕ) (s' before : ℕ) → Walked M state got s' before → (1 ≤ length got → M.goes_on s' ≡ true) → (1 ≤ n → M.goes_on state ≡ true) → reach ≡ n + length got →
    1 ≤ reach → M.goes_on s' ≡ true
goes_after M n state reach [] s' before k stops live e some = ap M.goes_on k.state_is ∙ live (omega (arith, e, some))
goes_after M n state reach (b ∷ got) s' before k stops live e some = stops (omega arith)

pub all_asked : (M : Machine) (p : TextPlace) (w : List ℕ) (n state : ℕ) (path : List ℕ) → SoFar M p (drop p.at w) n state path → p.at + n ≡ length w → (1 ≤ n → M.goes_on state ≡ true) →
    (i : ℕ) → 1 ≤ i → p.at + i ≤ length w → IsLiveAfter M p (drop p.at w) i
all_asked M p w n state path h place live i some inside =
    next_asked M p (drop p.at w) n state path h live i some (omega (arith, place, inside)) (elim (cases_lt i n) [ inl a ↦ inl a | inr b ↦ inr b ])

pub was_reading : (a b : Bool) → (a ≡ true → b ≡ true) → b ≡ false → a ≡ false
was_reading true b h e = sym (h refl) ∙ e
was_reading false b h e = refl

pub clash : (b : Bool) → b ≡ true → b ≡ false → ⊥
clash b t f = absurd cc
