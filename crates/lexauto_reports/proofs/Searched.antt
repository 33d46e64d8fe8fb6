-- The steps of a search.
use Rattle.std.proofs.Common.{◌≡◌, ◌⊎◌, ◌<◌, ◌≤◌, ◌+◌, ◌*◌, ℕ, zero, suc, List, [], ◌∷◌, ◌++◌, length, get_or, set, map, take, Option, Some, None, true, false, inl, inr, sym, ap, refl, ◌∙◌, subst, arith, append_assoc, append-nil}
use Rattle.std.specs.Option.{is_some}
use Rattle.std.specs.Prelude.{◌/◌, ◌%◌, min, nat_lt, slice_index}
use Rattle.std.proofs.lemmas.Bool.{cases_lt, cases_eq, cond-true, lt-ltb}
use Rattle.std.proofs.lemmas.List.{length_push, length-set, get_or_append_left, get_or_push, get_or-set_same, get_or-set_other, get_or_past, take_more}
use Rattle.lex_semantics.specs.Text.{IsText, Among}
use Rattle.lexauto_dfa.specs.Alike.{Alike, AreLeads, moves}
use Rattle.lexauto_dfa.specs.Parts.{states, next}
use Rattle.lexauto_dfa.specs.declared.dfa.Parts.{Parts}
use Rattle.lexauto_reports.specs.BackWords.{Precedes, NotAfter}
use Rattle.lexauto_reports.specs.Counting.{step, walk, IsStart, LeadsTo}
use Rattle.lexauto_reports.specs.Searching.{at, place_of, unfound, word_in, IsPlaced, IsPast, AllBefore, IsAt, IsUpTo, AreFound, AreSeen}
use Rattle.lexauto_reports.specs.declared.groups.Group.{Group}
use Rattle.lexauto_dfa.proofs.Accepting.{among_push}
use Rattle.lexauto_reports.proofs.Orders.{empty_before, before_trans, before_longer, before_last, not_after_longer, not_after_trans}
use Rattle.lexauto_reports.proofs.Counted.{leads_more}

-- a group more, unless it is of no state
pub record Extends (words found : List (List ℕ)) (w fresh : List ℕ) (words' found' : List (List ℕ)) : Type 0 where
  pub more : length words ≤ length words'
  pub each : length found' ≡ length words'
  pub word : (j : ℕ) → j < length words → at words' j ≡ at words j
  pub states : (j : ℕ) → j < length words → at found' j ≡ at found j
  pub new : (j : ℕ) → j < length words' → (j < length words) ⊎ ((j ≡ length words) × (at words' j ≡ w) × (at found' j ≡ fresh))
  pub there : (x : ℕ) → Among fresh x → (length words < length words') × (at found' (length words) ≡ fresh)

pub extends_not : (words found : List (List ℕ)) (w fresh : List ℕ) → length found ≡ length words → fresh ≡ [] → Extends words found w fresh words found
extends_not words found w fresh same none = record {
  more = omega arith;
  each = same;
  word = λ j h. refl;
  states = λ j h. refl;
  new = λ j h. inl h;
  there = λ x a. absurd (subst (λ l. Among l x) none a);
}

pub extends_more : (words found : List (List ℕ)) (w fresh : List ℕ) → length found ≡ length words → Extends words found w fresh (words ++ w ∷ []) (found ++ fresh ∷ [])
extends_more words found w fresh same =
    let m = length_push words w in let n = length_push found fresh in
    let last : at (found ++ fresh ∷ []) (length words) ≡ fresh = get_or_push found fresh [] (length words) same in
    record {
      more = omega (arith, m);
      each = omega (arith, m, n, same);
      word = λ j h. get_or_append_left words (w ∷ []) [] j h;
      states = λ j h. get_or_append_left found (fresh ∷ []) [] j (omega (arith, h, same));
      new = λ j h. elim (cases_lt j (length words)) [
        | inl y ↦ inl y
        | inr k ↦
            (let e : j ≡ length words = omega (arith, h, m, k) in
            inr (e, ap (λ i. at (words ++ w ∷ []) i) e ∙ get_or_push words w [] (length words) refl, ap (λ i. at (found ++ fresh ∷ []) i) e ∙ last))
      ];
      there = λ x a. (omega (arith, m), last);
    }

-- states that had no place got the place n
pub record Visits (p : Parts) (from : List ℕ) (n b : ℕ) (fresh : List ℕ) (places places' : List (Option ℕ)) : Type 0 where
  pub len : length places' ≡ length places
  pub kept : (x j : ℕ) → place_of places x ≡ Some j → place_of places' x ≡ Some j
  pub only : (x j : ℕ) → place_of places' x ≡ Some j → (place_of places x ≡ Some j) ⊎ ((j ≡ n) × Among fresh x)
  pub seen : (x : ℕ) → Among fresh x → (x < 3 * states p) × (y : ℕ) × Among from y × (step p y b ≡ x)
  pub all : (y : ℕ) → Among from y → (j : ℕ) × (place_of places' (step p y b) ≡ Some j)

module _ (p : Parts) (words found words' found' : List (List ℕ)) (places places' : List (Option ℕ)) (fresh : List ℕ) (k b : ℕ)
    (a : IsAt p words found places k b) (low : b < 256) (v : Visits p (at found k) (length words) b fresh places places')
    (e : Extends words found (at words k ++ b ∷ []) fresh words' found') where
  still : (x : ℕ) (w : List ℕ) → IsPlaced words places x w → IsPlaced words' places' x w
  still x w (j, is, le) = (j, v.kept x j is, subst (λ l. NotAfter l w) (sym (e.word j (a.sound.placed x j is).0)) le)

  word_k : at words' k ≡ at words k
  word_k = e.word k a.within

  new_leads : (x : ℕ) → Among fresh x → (x < 3 * states p) × LeadsTo p (at words k ++ b ∷ []) x
  new_leads x m =
      let s = v.seen x m in
      (s.0, subst (λ y. LeadsTo p (at words k ++ b ∷ []) y) s.3 (leads_more p (at words k) s.1 b low (a.sound.leads k s.1 a.within s.2).1))

  leads : (j x : ℕ) → j < length words' → Among (at found' j) x → (x < 3 * states p) × LeadsTo p (at words' j) x
  leads j x h m = elim (e.new j h) [
    | inl old ↦
        (let r = a.sound.leads j x old (subst (λ l. Among l x) (e.states j old) m) in
        (r.0, subst (λ l. LeadsTo p l x) (sym (e.word j old)) r.1))
    | inr n ↦
        (let r = new_leads x (subst (λ l. Among l x) n.2 m) in
        (r.0, subst (λ l. LeadsTo p l x) (sym n.1) r.1))
  ]

  placed : (x j : ℕ) → place_of places' x ≡ Some j → (j < length words') × Among (at found' j) x
  placed x j is = elim (v.only x j is) [
    | inl old ↦
        (let r = a.sound.placed x j old in let lt = r.0 in let more = e.more in
        (omega (arith, lt, more), subst (λ l. Among l x) (sym (e.states j r.0)) r.1))
    | inr n ↦
        (let t = e.there x n.1 in let lt = t.0 in let same = n.0 in
        (omega (arith, lt, same), subst (λ i. Among (at found' i) x) (sym n.0) (subst (λ l. Among l x) (sym t.1) n.1)))
  ]

  rising : (i j : ℕ) → i < j → j < length words' → Precedes (at words' i) (at words' j)
  rising i j lt h = elim (e.new j h) [
    | inl old ↦ subst (λ l. Precedes l (at words' j)) (sym (e.word i (omega (arith, lt, old)))) (subst (λ l. Precedes (at words i) l) (sym (e.word j old)) (a.sound.rising i j lt old))
    | inr n ↦
        (let same = n.0 in let low_i : i < length words = omega (arith, lt, same) in
        subst (λ l. Precedes l (at words' j)) (sym (e.word i low_i)) (subst (λ l. Precedes (at words i) l) (sym n.1) (a.before i low_i)))
  ]

  past : IsPast p words' found' places' k
  past i x c lt m lc =
      let known : i < length words = (let within = a.within in omega (arith, lt, within)) in
      subst (λ l. IsPlaced words' places' (step p x c) (l ++ c ∷ [])) (sym (e.word i known)) (still (step p x c) (at words i ++ c ∷ []) (a.past i x c lt (subst (λ l. Among l x) (e.states i known) m) lc))

  -- what goes by this byte is found
  found_here : (x : ℕ) → Among (at found k) x → IsPlaced words' places' (step p x b) (at words k ++ b ∷ [])
  found_here x m = elim (v.only (step p x b) (v.all x m).0 (v.all x m).1) [
    | inl old ↦
        (let lt = (a.sound.placed (step p x b) (v.all x m).0 old).0 in
        ((v.all x m).0, (v.all x m).1, subst (λ l. NotAfter l (at words k ++ b ∷ [])) (sym (e.word (v.all x m).0 lt)) (inr (a.before (v.all x m).0 lt))))
    | inr n ↦ ((v.all x m).0, (v.all x m).1, inl (new_word (v.all x m).0 (e.there (step p x b) n.1).0 n.0))
  ]
    where
      new_word : (j : ℕ) → length words < length words' → j ≡ length words → at words' j ≡ at words k ++ b ∷ []
      new_word j lt same = elim (e.new j (omega (arith, lt, same))) [ inl old ↦ absurd (omega (arith, old, same)) | inr n ↦ n.1 ]

  here : (x c : ℕ) → Among (at found' k) x → c < b + 1 → IsPlaced words' places' (step p x c) (at words' k ++ c ∷ [])
  here x c m lc = subst (λ l. IsPlaced words' places' (step p x c) (l ++ c ∷ [])) (sym word_k) (by_byte (cases_lt c b))
    where
      by_byte : (c < b) ⊎ (b ≤ c) → IsPlaced words' places' (step p x c) (at words k ++ c ∷ [])
      by_byte (inl y) = still (step p x c) (at words k ++ c ∷ []) (a.here x c (subst (λ l. Among l x) (e.states k a.within) m) y)
      by_byte (inr n) = let same : b ≡ c = omega (arith, n, lc) in subst (λ d. IsPlaced words' places' (step p x d) (at words k ++ d ∷ [])) same (found_here x (subst (λ l. Among l x) (e.states k a.within) m))

  before : AllBefore words' k (b + 1)
  before j h = subst (λ l. Precedes (at words' j) (l ++ (b + 1) ∷ [])) (sym word_k) (elim (e.new j h) [
    | inl old ↦ subst (λ l. Precedes l (at words k ++ (b + 1) ∷ [])) (sym (e.word j old)) (before_trans (at words j) (at words k ++ b ∷ []) (at words k ++ (b + 1) ∷ []) (a.before j old) (before_last (at words k) b (b + 1) (omega arith)))
    | inr n ↦ subst (λ l. Precedes l (at words k ++ (b + 1) ∷ [])) (sym n.1) (before_last (at words k) b (b + 1) (omega arith))
  ])

  -- one byte more
  pub visited : IsAt p words' found' places' k (b + 1)
  visited = record {
    within = (let within = a.within in let more = e.more in omega (arith, within, more));
    sound = record {
      all = v.len ∙ a.sound.all;
      each = e.each;
      first = e.word 0 (let within = a.within in omega (arith, within)) ∙ a.sound.first;
      leads = leads;
      placed = placed;
      rising = rising;
      starts = λ x s. v.kept x 0 (a.sound.starts x s);
    };
    past = past;
    here = here;
    before = before;
  }

-- a byte by which each state goes as by an earlier one leads to nothing new
pub passed_over : (p : Parts) (words found : List (List ℕ)) (places : List (Option ℕ)) (k b lead : ℕ) → IsAt p words found places k b → b < 256 → lead < b
    → ((x : ℕ) → step p x lead ≡ step p x b) → IsAt p words found places k (b + 1)
passed_over p words found places k b lead a low less alike =
    visited p words found words found places places [] k b a low (record {
      len = refl;
      kept = λ x j e. e;
      only = λ x j e. inl e;
      seen = λ x m. absurd m;
      all = λ y m. (let h = a.here y lead m less in (h.0, ap (place_of places) (sym (alike y)) ∙ h.1));
    }) (extends_not words found (at words k ++ b ∷ []) [] a.sound.each refl)

-- each state goes by a byte as by the first one that is alike with it
pub steps_alike : (p : Parts) (leads : List ℕ) (b : ℕ) → length p.next.items ≡ 256 * states p → AreLeads (states p) (moves p.next.items) leads → b < 256
    → (slice_index leads b ≤ b) × ((x : ℕ) → step p x (slice_index leads b) ≡ step p x b)
steps_alike p leads b rows are low =
    let l = are b low in
    let le = l.at_most in
    let first : slice_index leads b < 256 = omega arith in (
      le,
      λ x. ap (λ n. 3 * n + min (x % 3 + 1) 2) (at_byte (slice_index leads b) (x / 3) first ∙ same (x / 3) l.alike ∙ sym (at_byte b (x / 3) low)),
    )
  where
    at_byte : (c s : ℕ) → c < 256 → next p s c ≡ slice_index p.next.items (s * 256 + c)
    at_byte c s h = cond-true (nat_lt c 256) (slice_index p.next.items (s * 256 + c)) 0 (lt-ltb c 256 h)

    same : (s : ℕ) → Alike (states p) (moves p.next.items) (slice_index leads b) b → slice_index p.next.items (s * 256 + slice_index leads b) ≡ slice_index p.next.items (s * 256 + b)
    same s alike = elim (cases_lt s (states p)) [
      | inl lt ↦
          (let e : s * 256 + slice_index leads b ≡ 256 * s + slice_index leads b = omega arith in
          let f : 256 * s + b ≡ s * 256 + b = omega arith in
          ap (slice_index p.next.items) e ∙ alike s lt ∙ ap (slice_index p.next.items) f)
      | inr ge ↦ get_or_past p.next.items (s * 256 + slice_index leads b) 0 (omega (arith, rows, ge)) ∙ sym (get_or_past p.next.items (s * 256 + b) 0 (omega (arith, rows, ge)))
    ]

-- a group is past once all bytes are
pub expanded : (p : Parts) (words found : List (List ℕ)) (places : List (Option ℕ)) (k : ℕ) → IsAt p words found places k 256 → IsUpTo p words found places (k + 1)
expanded p words found places k a = record {
  within = (let within = a.within in omega (arith, within));
  sound = a.sound;
  past = λ i x b lt m low. elim (cases_lt i k) [
    | inl y ↦ a.past i x b y m low
    | inr n ↦
        (let same : k ≡ i = omega (arith, lt, n) in
        subst (λ j. IsPlaced words places (step p x b) (at words j ++ b ∷ [])) same (a.here x b (subst (λ j. Among (at found j) x) (sym same) m) low))
  ];
  before = λ h j lt. before_trans (at words j) (at words k ++ 256 ∷ []) (at words (k + 1) ++ 0 ∷ []) (a.before j lt) (before_longer (at words k) (at words (k + 1)) 256 0 (a.sound.rising k (k + 1) (omega arith) h));
}

pub entered : (p : Parts) (words found : List (List ℕ)) (places : List (Option ℕ)) (k : ℕ) → IsUpTo p words found places k → k < length words → IsAt p words found places k 0
entered p words found places k u h = record { within = h; sound = u.sound; past = u.past; here = λ x c m lt. absurd (omega (arith, lt)); before = u.before h }

module _ (p : Parts) (words found : List (List ℕ)) (places : List (Option ℕ)) (u : IsUpTo p words found places (length words)) where
  walks : (x : ℕ) (u : List ℕ) → IsPlaced words places x u → (w : List ℕ) → IsText w → IsPlaced words places (walk p x w) (u ++ w)
  walks x v placed [] text = subst (λ l. IsPlaced words places x l) (sym (append-nil v)) placed
  walks x v (j, is, le) (b ∷ w) text =
      let m = u.sound.placed x j is in
      let next = u.past j x b m.0 m.1 text.0 in
      let placed : IsPlaced words places (step p x b) (v ++ b ∷ []) = (next.0, next.1, not_after_trans (at words next.0) (at words j ++ b ∷ []) (v ++ b ∷ []) next.2 (not_after_longer (at words j) v b le)) in
      subst (λ l. IsPlaced words places (walk p (step p x b) w) l) (append_assoc v (b ∷ []) w) (walks (step p x b) (v ++ b ∷ []) placed w text.1)

  pub all_found : AreFound p words places
  all_found = record {
    all = u.sound.all;
    known = λ x j is. (let m = u.sound.placed x j is in (m.0, (u.sound.leads j x m.0 m.1).1));
    least = λ x w l. subst (λ y. IsPlaced words places y w) l.3 (walks l.0 [] (0, u.sound.starts l.0 l.1, inl u.sound.first) w l.2);
    rising = u.sound.rising;
  }

-- a state that is found leaves fewer
pub one_fewer : (places : List (Option ℕ)) (x j : ℕ) → x < length places → place_of places x ≡ None → unfound (set places x (Some j)) + 1 ≡ unfound places
one_fewer [] x j h none = absurd (omega (arith, h))
one_fewer (None ∷ places) zero j h none = omega arith
one_fewer (Some i ∷ places) zero j h none = absurd cc
one_fewer (None ∷ places) (suc x) j h none = let e = one_fewer places x j (omega (arith, h)) none in omega (arith, e)
one_fewer (Some i ∷ places) (suc x) j h none = one_fewer places x j (omega (arith, h)) none

clash : (o : Option ℕ) (j : ℕ) → o ≡ None → o ≡ Some j → ⊥
clash o j n e = absurd cc

same_place : (o : Option ℕ) (i j : ℕ) → o ≡ Some i → o ≡ Some j → i ≡ j
same_place o i j e f = cc

module _ (p : Parts) (from : List ℕ) (i b n : ℕ) (old places : List (Option ℕ)) (fresh : List ℕ) (a : AreSeen p from i b n old places fresh) (low : i < length from) where
  more : take (i + 1) from ≡ take i from ++ get_or from i 0 ∷ []
  more = take_more from i 0 low

  -- a state that has a place
  pub seen_before : (x j : ℕ) → x ≡ step p (get_or from i 0) b → place_of places x ≡ Some j → AreSeen p from (i + 1) b n old places fresh
  seen_before x j is e = record {
    len = a.len;
    kept = a.kept;
    only = a.only;
    seen = a.seen;
    all = λ y m. elim ((among_push (take i from) (get_or from i 0) y).0 (subst (λ l. Among l y) more m)) [
      | inl o ↦ a.all y o
      | inr s ↦ (j, ap (λ z. place_of places (step p z b)) s ∙ ap (place_of places) (sym is) ∙ e)
    ];
    fewer = a.fewer;
  }

  -- a state that has none
  pub seen_first : (x : ℕ) → x ≡ step p (get_or from i 0) b → Among from (get_or from i 0) → x < 3 * states p → x < length places → place_of places x ≡ None
      → AreSeen p from (i + 1) b n old (set places x (Some n)) (fresh ++ x ∷ [])
  seen_first x is there known room none = record {
    len = length-set places x (Some n) ∙ a.len;
    kept = λ y j e. other y j (a.kept y j e);
    only = λ y j e. elim (cases_eq y x) [
      | inl s ↦ inr (same_place (Some n) j n (sym (ap (λ z. place_of (set places x (Some n)) z) s ∙ get_or-set_same places x (Some n) None room) ∙ e) refl, (among_push fresh x y).1 (inr s))
      | inr ne ↦ elim (a.only y j (sym (get_or-set_other places x y (Some n) None ne) ∙ e)) [
        | inl o ↦ inl o
        | inr f ↦ inr (f.0, (among_push fresh x y).1 (inl f.1))
      ]
    ];
    seen = λ y m. elim ((among_push fresh x y).0 m) [
      | inl o ↦ a.seen y o
      | inr s ↦ subst (λ z. (z < 3 * states p) × (q : ℕ) × Among from q × (step p q b ≡ z)) (sym s) (known, get_or from i 0, there, sym is)
    ];
    all = λ y m. elim ((among_push (take i from) (get_or from i 0) y).0 (subst (λ l. Among l y) more m)) [
      | inl o ↦ ((a.all y o).0, other (step p y b) (a.all y o).0 (a.all y o).1)
      | inr s ↦ (n, ap (λ z. place_of (set places x (Some n)) (step p z b)) s ∙ ap (place_of (set places x (Some n))) (sym is) ∙ get_or-set_same places x (Some n) None room)
    ];
    fewer = (let f = a.fewer in let u = one_fewer places x n room none in let l = length_push fresh x in omega (arith, f, u, l));
  }
    where
      other : (y j : ℕ) → place_of places y ≡ Some j → place_of (set places x (Some n)) y ≡ Some j
      other y j e = get_or-set_other places x y (Some n) None (λ s. clash (place_of places x) j none (ap (place_of places) (sym s) ∙ e)) ∙ e

-- the group of the starts alone
pub first_up_to : (p : Parts) (words found : List (List ℕ)) (old places : List (Option ℕ)) (starts : List ℕ) → words ≡ [] ∷ [] → found ≡ starts ∷ [] → length places ≡ 3 * states p
    → ((x : ℕ) → (Among starts x → IsStart p x) × (IsStart p x → Among starts x)) → ((x : ℕ) → Among starts x → x < 3 * states p)
    → ((x : ℕ) → place_of old x ≡ None) → ((x : ℕ) → Among starts x → place_of places x ≡ Some 0)
    → ((x j : ℕ) → place_of places x ≡ Some j → (place_of old x ≡ Some j) ⊎ ((j ≡ 0) × Among starts x))
    → IsUpTo p words found places 0
first_up_to p words found old places starts ws fs all are known none first only =
    subst (λ l. IsUpTo p l found places 0) (sym ws) (subst (λ l. IsUpTo p ([] ∷ []) l places 0) (sym fs) (record {
      within = omega arith;
      sound = record {
        all = all;
        each = refl;
        first = refl;
        leads = leads;
        placed = placed;
        rising = λ i j lt h. absurd (omega (arith, lt, h));
        starts = λ x s. first x ((are x).1 s);
      };
      past = λ i x b lt m l. absurd (omega (arith, lt));
      before = λ h j lt. (let e : 0 ≡ j = omega (arith, lt) in subst (λ i. Precedes (at ([] ∷ []) i) (0 ∷ [])) e (empty_before [] 0));
    }))
  where
    leads : (j x : ℕ) → j < 1 → Among (at (starts ∷ []) j) x → (x < 3 * states p) × LeadsTo p (at ([] ∷ []) j) x
    leads zero x h m = (known x m, (x, (are x).0 m, tt, refl))
    leads (suc j) x h m = absurd (omega (arith, h))

    placed : (x j : ℕ) → place_of places x ≡ Some j → (j < 1) × Among (at (starts ∷ []) j) x
    placed x j e = elim (only x j e) [
      | inl o ↦ absurd (clash (place_of old x) j (none x) o)
      | inr s ↦ (let z = s.0 in (omega (arith, z), subst (λ i. Among (at (starts ∷ []) i) x) (sym s.0) s.1))
    ]

pub group_at : (gs : List Group) (text : List ℕ) (k : ℕ) (g : Group) → k < length gs → g ≡ get_or gs k g → get_or (map (word_in text) gs) k [] ≡ word_in text g
group_at [] text k g h e = absurd (omega (arith, h))
group_at (x ∷ gs) text zero g h e = ap (word_in text) (sym e)
group_at (x ∷ gs) text (suc k) g h e = group_at gs text k g (omega (arith, h)) e

pub states_at : (gs : List Group) (k : ℕ) (g : Group) → k < length gs → g ≡ get_or gs k g → get_or (map (λ (y : Group). y.states.items) gs) k [] ≡ g.states.items
states_at [] k g h e = absurd (omega (arith, h))
states_at (x ∷ gs) zero g h e = ap (λ (y : Group). y.states.items) (sym e)
states_at (x ∷ gs) (suc k) g h e = states_at gs k g (omega (arith, h)) e

pub none_is : (o : Option ℕ) → is_some o ≡ false → o ≡ None
none_is None e = refl
none_is (Some j) e = absurd cc

pub some_is : (o : Option ℕ) → is_some o ≡ true → (j : ℕ) × (o ≡ Some j)
some_is None e = absurd cc
some_is (Some j) e = (j, refl)
