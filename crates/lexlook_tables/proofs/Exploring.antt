-- What a search finds over states from which on all is discarded.
use Rattle.std.proofs.Common.{◌≡◌, ℕ, zero, suc, ◌+◌, ◌≤◌, ◌<◌, Bool, true, false, List, [], ◌∷◌, ◌++◌, length, ◌⊎◌, inl, inr, refl, sym, ◌∙◌, ap, subst, get_or, append-nil, append_assoc, arith}
use Rattle.std.specs.Prelude.{nat_eq, Result, Ok, Err, IfOk}
use Rattle.std.proofs.Math.ListN.{set}
use Rattle.std.proofs.lemmas.Bool.{cases_lt}
use Rattle.std.proofs.lemmas.List.{length_push, length-set, get_or-set_same, get_or-set_other}
use mathlib.Core.Logic.{∥∥₁_elim}
use Rattle.lex_semantics.specs.Text.{IsText, Among, flag}
use Rattle.lex_semantics.specs.Machine.{Machine, walk}
use Rattle.lex_semantics.specs.MachineLaws.{MachineLaws, StaysBelow}
use Rattle.lex_semantics.proofs.Fronts.{among_append, among_right}
use Rattle.lex_semantics.proofs.MachineLaws.{walk-append}
use Rattle.lex_semantics.proofs.Texts.{is_text_append}
use Rattle.lexlook_tables.specs.Lines.{AllDiscard}
use Rattle.lexlook_tables.specs.Reaching.{Added, Followed}
use Rattle.lexlook_tables.specs.Discarding.{AcceptsNoMore, DiscardsAt, Explored, SearchFrom}
use Rattle.lexlook_tables.proofs.Searches.{among_left, among_last, among_either, among_at, place_of, get_left, get_last, marked_then}

get_right : (xs ys : List ℕ) (i : ℕ) → length xs ≤ i → i < length (xs ++ ys) → Among ys (get_or (xs ++ ys) i 0)
get_right [] ys i le lt = among_at ys i lt
get_right (x ∷ xs) ys zero le lt = absurd (omega (arith, le))
get_right (x ∷ xs) ys (suc i) le lt = get_right xs ys i (omega (arith, le)) (omega (arith, lt))

-- what holds of an answer, and what follows from that
pub if_ok_then : {A E : Type 0} {P Q : A → Type 0} (r : Result A E) → ((a : A) → P a → Q a) → IfOk r P → IfOk r Q
if_ok_then (Ok a) f h = f a h
if_ok_then (Err e) f h = tt

pub some_among : (xs : List ℕ) → nat_eq (length xs) 0 ≡ false → (x : ℕ) × Among xs x
some_among [] e = absurd (differ e)
  where
    differ : true ≡ false → ⊥
    differ e = cc
some_among (x ∷ xs) e = (x, inl refl)

-- what is accepted in a state or further on
module _ (M : Machine) (laws : MachineLaws M) (s : ℕ) where
  pub some_if_goes : M.goes_on s ≡ true → AcceptsNoMore M s → ⊥
  some_if_goes goes none = ∥∥₁_elim ((laws.goes_on s).0 goes) (λ x y. absurd x) (λ h. none h.0 h.3 h.1 h.4)

  pub some_if_here : (is : List ℕ) → M.accepts s ≡ is → (is ≡ [] → ⊥) → AcceptsNoMore M s → ⊥
  some_if_here [] e not none = not refl
  some_if_here (i ∷ is) e not none = none [] i tt (subst (λ l. Among l i) (sym e) (inl refl))

  pub no_more_if : M.accepts s ≡ [] → M.goes_on s ≡ false → AcceptsNoMore M s
  no_more_if here stops [] i text at = subst (λ l. Among l i) here at
  no_more_if here stops (b ∷ u) i text at = differ (sym stops ∙ (laws.goes_on s).1 ∣ (b ∷ u, text, omega arith, i, at) ∣₁)
    where
      differ : false ≡ true → ⊥
      differ e = cc

-- From a state each byte below b was followed, and one more.
module _ (M : Machine) (s b : ℕ) (found : List ℕ) (marks : List Bool) where
  pub followed_none : b ≡ 0 → Followed M s b found marks found marks
  followed_none none = record {
    more = [];
    behind = sym (append-nil found);
    led = λ t at. absurd at;
    all = λ c lt. absurd (omega (arith, lt, none));
    kept = λ t is. is;
    marked = λ t is. inl is;
    size = refl;
  }

  module _ (found' found'' : List ℕ) (marks' marks'' : List Bool) (f : Followed M s b found marks found' marks') where
    abbrev pub t : ℕ
    t = M.next s b

    marked_there : (ms : List Bool) → t < length ms → flag (set ms t true) t ≡ true
    marked_there ms lt = get_or-set_same ms t true false lt

    still : (ms : List Bool) (u : ℕ) → t < length ms → flag ms u ≡ true → flag (set ms t true) u ≡ true
    still ms u lt is = elim (cases_lt u t) [
      | inl less ↦ get_or-set_other ms t u true false (λ e. omega (arith, less, e)) ∙ is
      | inr more ↦ elim (cases_lt t u) [
        | inl less ↦ get_or-set_other ms t u true false (λ e. omega (arith, less, e)) ∙ is
        | inr less ↦ (let same : u ≡ t = omega (arith, more, less) in subst (λ z. flag (set ms t true) z ≡ true) (sym same) (marked_there ms lt))
      ]
    ]

    pub followed_more : t < length marks' → Added found' marks' t found'' marks'' → Followed M s (b + 1) found marks found'' marks''
    followed_more in_marks (inl e) = record {
      more = f.more;
      behind = e.1 ∙ f.behind;
      led = λ u at. (let h = f.led u at in (h.0, (let lt = h.1 in omega (arith, lt)), h.2));
      all = λ c lt. subst (λ z. flag z (M.next s c) ≡ true) (sym e.2) (elim (cases_lt c b) [ inl less ↦ f.all c less | inr more ↦ (let is : c ≡ b = omega (arith, lt, more) in subst (λ z. flag marks' (M.next s z) ≡ true) (sym is) e.0) ]);
      kept = λ u is. subst (λ z. flag z u ≡ true) (sym e.2) (f.kept u is);
      marked = λ u is. f.marked u (subst (λ z. flag z u ≡ true) e.2 is);
      size = ap length e.2 ∙ f.size;
    }
    followed_more in_marks (inr e) = record {
      more = f.more ++ t ∷ [];
      behind = e.1 ∙ ap (λ z. z ++ t ∷ []) f.behind ∙ append_assoc found f.more (t ∷ []);
      led = λ u at. elim (among_either f.more t u at) [ inl old ↦ (let h = f.led u old in (h.0, (let lt = h.1 in omega (arith, lt)), h.2)) | inr is ↦ (b, omega arith, is) ];
      all = λ c lt. subst (λ z. flag z (M.next s c) ≡ true) (sym e.2) (elim (cases_lt c b) [
        | inl less ↦ still marks' (M.next s c) in_marks (f.all c less)
        | inr more ↦ (let is : c ≡ b = omega (arith, lt, more) in subst (λ z. flag (set marks' t true) (M.next s z) ≡ true) (sym is) (marked_there marks' in_marks))
      ]);
      kept = λ u is. subst (λ z. flag z u ≡ true) (sym e.2) (still marks' u in_marks (f.kept u is));
      marked = λ u is. elim (marked_then marks' t u (subst (λ z. flag z u ≡ true) e.2 is)) [
        | inl was ↦ elim (f.marked u was) [ inl old ↦ inl old | inr new ↦ inr (among_left f.more (t ∷ []) u new) ]
        | inr same ↦ inr (subst (Among (f.more ++ t ∷ [])) (sym same) (among_last f.more t))
      ];
      size = ap length e.2 ∙ length-set marks' t true ∙ f.size;
    }

module _ (M : Machine) (n : ℕ) where
  -- of no state all is known
  pub none_known : (marks : List Bool) → length marks ≡ n → ((i : ℕ) → get_or marks i false ≡ false) → Explored M n [] marks 0
  none_known marks size none = record {
    size = size;
    within = λ s at. absurd at;
    marked = λ s is. absurd (differ (sym (none s) ∙ is));
    discards = λ i lt. absurd (omega (arith, lt));
    closed = λ i b lt small. absurd (omega (arith, lt));
  }
    where
      differ : false ≡ true → ⊥
      differ e = cc

  -- a search begins with a state
  pub begun : (s : ℕ) (found found' : List ℕ) (marks marks' : List Bool) → Explored M n found marks (length found) → s < n → Added found marks s found' marks' → SearchFrom M n s (length found) found' marks' (length found)
  begun s found found' marks marks' e in_n (inl was) =
      subst (λ z. SearchFrom M n s (length found) z marks' (length found)) (sym was.1) (subst (λ z. SearchFrom M n s (length found) found z (length found)) (sym was.2) (record {
        explored = e;
        first = e.marked s was.0;
        past = omega arith;
        led = λ i le lt. absurd (omega (arith, le, lt));
      }))
  begun s found found' marks marks' e in_n (inr new) =
      subst (λ z. SearchFrom M n s (length found) z marks' (length found)) (sym new.1) (subst (λ z. SearchFrom M n s (length found) (found ++ s ∷ []) z (length found)) (sym new.2) (record {
        explored = record {
          size = length-set marks s true ∙ e.size;
          within = λ t at. elim (among_either found s t at) [ inl old ↦ e.within t old | inr is ↦ subst (λ z. z < n) (sym is) in_n ];
          marked = λ t is. elim (marked_then marks s t is) [ inl old ↦ among_left found (s ∷ []) t (e.marked t old) | inr same ↦ subst (Among (found ++ s ∷ [])) (sym same) (among_last found s) ];
          discards = λ i lt. subst (DiscardsAt M) (sym (get_left found (s ∷ []) i lt)) (e.discards i lt);
          closed = λ i b lt small. subst (λ z. Among (found ++ s ∷ []) (M.next z b)) (sym (get_left found (s ∷ []) i lt)) (among_left found (s ∷ []) (M.next (get_or found i 0) b) (e.closed i b lt small));
        };
        first = among_last found s;
        past = omega arith;
        led = λ i le lt. ([], tt, sym (get_last found s i (omega (arith, le, lt, length_push found s))));
      }))

  module _ (s known place : ℕ) (found : List ℕ) (marks : List Bool) (h : SearchFrom M n s known found marks place) where
    -- it goes on from the state at this place
    module _ (below : StaysBelow M n) (inside : place < length found) (discards : DiscardsAt M (get_or found place 0)) (found' : List ℕ) (marks' : List Bool) (f : Followed M (get_or found place 0) 256 found marks found' marks') where
      abbrev here : ℕ
      here = get_or found place 0

      old_in : (t : ℕ) → Among found t → Among found' t
      old_in t at = subst (λ l. Among l t) (sym f.behind) (among_left found f.more t at)

      new_in : (t : ℕ) → Among f.more t → Among found' t
      new_in t at = subst (λ l. Among l t) (sym f.behind) (among_right found f.more t at)

      same : (i : ℕ) → i < length found → get_or found' i 0 ≡ get_or found i 0
      same i lt = ap (λ l. get_or l i 0) f.behind ∙ get_left found f.more i lt

      marked : (t : ℕ) → flag marks' t ≡ true → Among found' t
      marked t is = elim (f.marked t is) [ inl was ↦ old_in t (h.explored.marked t was) | inr new ↦ new_in t new ]

      inside_of : (i : ℕ) → i < place + 1 → i < length found
      inside_of i lt = omega (arith, lt, inside)

      discards_of : (i : ℕ) → i < place + 1 → (i < place) ⊎ (place ≤ i) → DiscardsAt M (get_or found i 0)
      discards_of i lt (inl less) = h.explored.discards i less
      discards_of i lt (inr more) = (let is : i ≡ place = omega (arith, lt, more) in subst (λ z. DiscardsAt M (get_or found z 0)) (sym is) discards)

      closed_of : (i b : ℕ) → i < place + 1 → b < 256 → (i < place) ⊎ (place ≤ i) → Among found' (M.next (get_or found i 0) b)
      closed_of i b lt small (inl less) = old_in (M.next (get_or found i 0) b) (h.explored.closed i b less small)
      closed_of i b lt small (inr more) = (let is : i ≡ place = omega (arith, lt, more) in subst (λ z. Among found' (M.next (get_or found z 0) b)) (sym is) (marked (M.next here b) (f.all b small)))

      led_here : (u : List ℕ) × IsText u × (walk M s u ≡ here)
      led_here = h.led place h.past inside

      led_by : (t : ℕ) → Among f.more t → (u : List ℕ) × IsText u × (walk M s u ≡ t)
      led_by t at = (let c = f.led t at in
          (led_here.0 ++ c.0 ∷ [], is_text_append led_here.0 (c.0 ∷ []) led_here.1 (c.1, tt), walk-append M s led_here.0 (c.0 ∷ []) ∙ ap (λ z. M.next z c.0) led_here.2 ∙ sym c.2))

      pub one_more : SearchFrom M n s known found' marks' (place + 1)
      one_more = record {
        explored = record {
          size = f.size ∙ h.explored.size;
          within = λ t at. elim (among_append found f.more t (subst (λ l. Among l t) f.behind at)) [
            | inl old ↦ h.explored.within t old
            | inr new ↦ (let c = f.led t new in subst (λ z. z < n) (sym c.2) (below.next here c.0 (h.explored.within here (among_at found place inside)) c.1))
          ];
          marked = marked;
          discards = λ i lt. subst (DiscardsAt M) (sym (same i (inside_of i lt))) (discards_of i lt (cases_lt i place));
          closed = λ i b lt small. subst (λ z. Among found' (M.next z b)) (sym (same i (inside_of i lt))) (closed_of i b lt small (cases_lt i place));
        };
        first = old_in s h.first;
        past = (let le = h.past in omega (arith, le));
        led = λ i le lt. elim (cases_lt i (length found)) [
          | inl less ↦ (let u = h.led i le less in (u.0, u.1, u.2 ∙ sym (same i less)))
          | inr more ↦ led_by (get_or found' i 0) (subst (λ l. Among f.more (get_or l i 0)) (sym f.behind) (get_right found f.more i more (subst (λ l. i < length l) f.behind lt)))
        ];
      }

    -- a state that accepts what is not discarded
    pub not_all : place < length found → (DiscardsAt M (get_or found place 0) → ⊥) → AllDiscard M s → ⊥
    not_all inside not all = (let u = h.led place h.past inside in not (λ i at. all u.0 i u.1 (subst (λ z. Among (M.accepts z) i) (sym u.2) at)))

    -- at the end of the search
    module _ (done : length found ≤ place) where
      pub all_known : Explored M n found marks (length found)
      all_known = record {
        size = h.explored.size;
        within = h.explored.within;
        marked = h.explored.marked;
        discards = λ i lt. h.explored.discards i (omega (arith, lt, done));
        closed = λ i b lt small. h.explored.closed i b (omega (arith, lt, done)) small;
      }

      stays : (u : List ℕ) (t : ℕ) → IsText u → Among found t → Among found (walk M t u)
      stays [] t text at = at
      stays (b ∷ u) t text at =
          let p = place_of found t at in
          stays u (M.next t b) text.1 (subst (λ z. Among found (M.next z b)) p.2 (h.explored.closed p.0 b (let lt = p.1 in omega (arith, lt, done)) text.0))

      pub all_discarded : AllDiscard M s
      all_discarded u i text at =
          let p = place_of found (walk M s u) (stays u s text h.first) in
          h.explored.discards p.0 (let lt = p.1 in omega (arith, lt, done)) i (subst (λ z. Among (M.accepts z) i) (sym p.2) at)
