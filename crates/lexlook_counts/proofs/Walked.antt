-- Walks, and marks of where they lead.
use Rattle.std.proofs.Common.{◌≡◌, ℕ, suc, ◌+◌, ◌-◌, ◌≤◌, ◌<◌, true, false, List, [], ◌∷◌, ◌++◌, length, take, drop, get_or, ◌⊎◌, inl, inr, refl, sym, ◌∙◌, ap, subst, arith, take-add}
use Rattle.std.proofs.lemmas.List.{length-append, length-drop, length-take-le, take-append-le, take-take, drop-append-le, drop-drop}
use Rattle.std.proofs.Math.Seq.{take-suc}
use Rattle.std.proofs.lemmas.Bool.{cases_lt}
use Rattle.lex_semantics.specs.Text.{Among}
use Rattle.lex_semantics.specs.Machine.{Machine, walk}
use Rattle.lexscan_window.specs.declared.memo.Mark.{Mark}
use Rattle.lexscan_window.specs.Memos.{GoesOver, unmarked}
use Rattle.lexlook_counts.specs.FarWalks.{AreTrueOf, AreTrueFrom, IsTrueOf, IsFarWalk}
use Rattle.lexlook_counts.specs.declared.walking.FarWalk.{FarWalk}
use Rattle.lex_semantics.proofs.MachineLaws.{walk-append}

-- a walk from a state has gone over the first n bytes
pub record Went (M : Machine) (s : ℕ) (w : List ℕ) (n last before : ℕ) : Type 0 where
  pub inside : n ≤ length w
  pub last_is : last ≡ walk M s (take n w)
  pub before_is : 1 ≤ n → before ≡ walk M s (take (n - 1) w)
  pub asked : (i : ℕ) → 1 ≤ i → i < n → M.goes_on (walk M s (take i w)) ≡ true

module _ (M : Machine) (s : ℕ) (w : List ℕ) where
  -- of more bytes, by the state after the first
  pub further : (k j : ℕ) → walk M s (take (k + j) w) ≡ walk M (walk M s (take k w)) (take j (drop k w))
  further k j = ap (walk M s) (take-add k j w) ∙ walk-append M s (take k w) (take j (drop k w))

  module _ (n last before : ℕ) (le : n ≤ length w) where
    size : length (take n w) ≡ n
    size = length-take-le n w le

    pub went_of : GoesOver M s (take n w) last before → Went M s w n last before
    went_of h = record {
      inside = le;
      last_is = h.0;
      before_is = λ some. h.1 (omega (arith, some, size)) ∙ ap (walk M s) (ap (λ k. take (k - 1) (take n w)) size ∙ take-take (n - 1) n w (omega arith));
      asked = λ i some lt. subst (λ u. M.goes_on (walk M s u) ≡ true) (take-take i n w (omega (arith, lt))) (h.2 i some (omega (arith, lt, size)));
    }

    pub over_of : Went M s w n last before → GoesOver M s (take n w) last before
    over_of h = (
      h.last_is,
      λ some. h.before_is (omega (arith, some, size)) ∙ ap (walk M s) (sym (ap (λ k. take (k - 1) (take n w)) size ∙ take-take (n - 1) n w (omega arith))),
      λ i some lt. subst (λ u. M.goes_on (walk M s u) ≡ true) (sym (take-take i n w (omega (arith, lt, size)))) (h.asked i some (omega (arith, lt, size))),
    )

  -- before the first byte
  pub went_none : Went M s w 0 s s
  went_none = record { inside = omega arith; last_is = refl; before_is = λ some. absurd (omega (arith, some)); asked = λ i some lt. absurd (omega (arith, some, lt)) }

  -- one byte more
  pub state_more : (n : ℕ) → n < length w → M.next (walk M s (take n w)) (get_or w n 0) ≡ walk M s (take (n + 1) w)
  state_more n lt =
      let one : suc n ≡ n + 1 = omega arith in
      sym (walk-append M s (take n w) (get_or w n 0 ∷ [])) ∙ ap (walk M s) (sym (take-suc w n 0 lt) ∙ ap (λ k. take k w) one)

  -- the same, where the machine goes on
  pub went_one : (n last before : ℕ) → n < length w → Went M s w n last before → (1 ≤ n → M.goes_on last ≡ true) → Went M s w (n + 1) (M.next last (get_or w n 0)) last
  went_one n last before lt h goes = record {
    inside = omega (arith, lt);
    last_is = ap (λ q. M.next q (get_or w n 0)) h.last_is ∙ state_more n lt;
    before_is = λ _. h.last_is ∙ ap (λ i. walk M s (take i w)) (omega arith);
    asked = λ i some below. elim (cases_lt i n) [
      | inl under ↦ h.asked i some under
      | inr not ↦ subst (λ q. M.goes_on q ≡ true) (h.last_is ∙ ap (λ j. walk M s (take j w)) (omega (arith, not, below))) (goes (omega (arith, some, not, below)))
    ];
  }

  -- a mark tells where it leads
  pub went_on : (n last before : ℕ) (count end one : ℕ) → 1 ≤ n → 1 ≤ count → Went M s w n last before → M.goes_on last ≡ true → Went M last (drop n w) count end one → Went M s w (n + count) end one
  went_on n last before count end one some more h goes k = record {
    inside = (let i = h.inside in let j = k.inside in omega (arith, i, j, length-drop n w));
    last_is = k.last_is ∙ ap (λ q. walk M q (take count (drop n w))) h.last_is ∙ sym (further n count);
    before_is = λ _. k.before_is more ∙ ap (λ q. walk M q (take (count - 1) (drop n w))) h.last_is ∙ sym (further n (count - 1)) ∙ ap (λ i. walk M s (take i w)) (omega (arith, more));
    asked = asked;
  }
    where
      asked : (i : ℕ) → 1 ≤ i → i < n + count → M.goes_on (walk M s (take i w)) ≡ true
      asked i lo hi = elim (cases_lt n i) [
        | inl past ↦ subst (λ q. M.goes_on q ≡ true) (ap (λ q. walk M q (take (i - n) (drop n w))) h.last_is ∙ sym (further n (i - n)) ∙ ap (λ j. walk M s (take j w)) (omega (arith, past))) (k.asked (i - n) (omega (arith, past)) (omega (arith, past, hi)))
        | inr not ↦ elim (cases_lt i n) [
          | inl under ↦ h.asked i lo under
          | inr at ↦ subst (λ q. M.goes_on q ≡ true) (h.last_is ∙ ap (λ j. walk M s (take j w)) (omega (arith, not, at))) goes
        ]
      ]

  -- from a place on the way on
  pub went_from : (n last before k : ℕ) → k ≤ n → Went M s w n last before → Went M (walk M s (take k w)) (drop k w) (n - k) last before
  went_from n last before k le h = record {
    inside = (let i = h.inside in omega (arith, i, le, length-drop k w));
    last_is = h.last_is ∙ ap (λ i. walk M s (take i w)) (omega (arith, le)) ∙ further k (n - k);
    before_is = λ some. h.before_is (omega (arith, some)) ∙ ap (λ i. walk M s (take i w)) (omega (arith, some)) ∙ further k (n - k - 1);
    asked = λ i some lt. subst (λ q. M.goes_on q ≡ true) (further k i) (h.asked (k + i) (omega (arith, some)) (omega (arith, lt)));
  }

-- ---- marks

module _ (M : Machine) (states : ℕ) where
  -- marks are true of an input that goes on
  pub mark_more : (given more : List ℕ) (m : Mark) → IsTrueOf M states given m → IsTrueOf M states (given ++ more) m
  mark_more given more m h = record {
    inside = (let i = h.inside in omega (arith, i, length-append given more));
    goes = subst (λ u. GoesOver M m.state u m.last m.before) (sym (ap (take m.count) (drop-append-le m.place given more (let i = h.inside in omega (arith, i)))
        ∙ take-append-le m.count (drop m.place given) more (let i = h.inside in omega (arith, i, length-drop m.place given)))) h.goes;
    known = h.known;
  }

  pub marks_more : (given more : List ℕ) (ms : List Mark) → AreTrueOf M states given ms → AreTrueOf M states (given ++ more) ms
  marks_more given more ms h m a = mark_more given more m (h m a)

  -- one is put among the others
  pub marks_put : (given : List ℕ) (ms ms' : List Mark) (new : Mark) → AreTrueOf M states given ms → ((m : Mark) → Among ms' m → Among ms m ⊎ (m ≡ new)) → IsTrueOf M states given new → AreTrueOf M states given ms'
  marks_put given ms ms' new h put is m a = elim (put m a) [
    | inl old ↦ h m old
    | inr same ↦ subst (IsTrueOf M states given) (sym same) is
  ]

  -- the table may be laid out again
  pub marks_fit : (given : List ℕ) (ms ms' : List Mark) → 0 < states → AreTrueOf M states given ms → ((m : Mark) → Among ms' m → Among ms m ⊎ (m ≡ unmarked)) → AreTrueOf M states given ms'
  marks_fit given ms ms' some h fit = marks_put given ms ms' unmarked h fit (record {
    inside = omega arith;
    goes = (refl, λ one. absurd (omega (arith, one)), λ i one lt. absurd (omega (arith, one, lt)));
    known = some;
  })

  -- a place on the way of a walk
  pub mark_on_way : (given w : List ℕ) (place first k spot s : ℕ) (r : FarWalk) → place ≤ length given → w ≡ drop place given → IsFarWalk M states first w r → k ≤ r.count → s ≡ walk M first (take k w) → spot ≡ place + k →
      IsTrueOf M states given (record { place = spot; state = s; count = r.count - k; last = r.state; before = r.before })
  mark_on_way given w place first k spot s r le held h on is at =
      let size : length w ≡ length given - place = ap length held ∙ length-drop place given in
      let whole = went_of M first w r.count r.state r.before h.inside h.goes in
      let rest : drop k w ≡ drop spot given = ap (drop k) held ∙ drop-drop k place given ∙ ap (λ n. drop n given) (sym at) in
      let part : Went M s (drop spot given) (r.count - k) r.state r.before =
      subst (λ q. Went M q (drop spot given) (r.count - k) r.state r.before) (sym is) (subst (λ u. Went M (walk M first (take k w)) u (r.count - k) r.state r.before) rest (went_from M first w r.count r.state r.before k on whole)) in
      record {
        inside = (let i = h.inside in omega (arith, i, size, le, on, at));
        goes = over_of M s (drop spot given) (r.count - k) r.state r.before part.inside part;
        known = h.known;
      }

  -- what a mark tells of the bytes from its place on
  pub mark_leads : (w : List ℕ) (place k : ℕ) (ms : List Mark) (m : Mark) → AreTrueFrom M states place w ms → Among ms m → m.place ≡ place + k → k ≤ length w → Went M m.state (drop k w) m.count m.last m.before × (m.last < states)
  mark_leads w place k ms m h a at le =
      let given : List ℕ = h.0 in
      let is : IsTrueOf M states given m = h.3 m a in
      let rest : drop m.place given ≡ drop k w = ap (λ n. drop n given) at ∙ sym (drop-drop k place given) ∙ ap (drop k) (sym h.2) in
      let fits : m.count ≤ length (drop m.place given) = (let i = is.inside in omega (arith, i, length-drop m.place given)) in
      (subst (λ u. Went M m.state u m.count m.last m.before) rest (went_of M m.state (drop m.place given) m.count m.last m.before fits is.goes), is.known)

  -- a walk that ends where a mark says
  pub far_walk_told : (first : ℕ) (w : List ℕ) (place n last before : ℕ) (ms : List Mark) (m : Mark) → AreTrueFrom M states place w ms → Among ms m → m.state ≡ last → m.place ≡ place + n → 1 ≤ m.count → 1 ≤ n → Went M first w n last before → M.goes_on last ≡ true →
      (m.count ≡ length w - n) ⊎ (M.goes_on m.last ≡ false) → IsFarWalk M states first w (record { count = n + m.count; state = m.last; before = m.before; seen = n })
  far_walk_told first w place n last before ms m marks a same at more some h goes stops =
      let told = mark_leads w place n ms m marks a at h.inside in
      let all = went_on M first w n last before m.count m.last m.before some more h goes (subst (λ q. Went M q (drop n w) m.count m.last m.before) same told.0) in
      record {
        inside = all.inside;
        goes = over_of M first w (n + m.count) m.last m.before all.inside all;
        known = told.1;
        walked = omega arith;
        stops = elim stops [
          | inl end ↦ inl (let i = h.inside in omega (arith, end, i))
          | inr ends ↦ inr (omega (arith, some), ends)
        ];
      }
