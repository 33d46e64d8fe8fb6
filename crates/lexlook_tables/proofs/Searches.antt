-- How a search for states goes on.
use Rattle.std.proofs.Common.{◌≡◌, ℕ, zero, suc, ◌+◌, ◌≤◌, ◌<◌, Bool, true, false, List, [], ◌∷◌, ◌++◌, length, ◌⊎◌, inl, inr, refl, sym, ◌∙◌, ap, subst, get_or, append-nil, append_assoc, arith}
use Rattle.std.proofs.Math.ListN.{set}
use Rattle.std.proofs.lemmas.Bool.{cases_lt}
use Rattle.std.proofs.lemmas.List.{length-append, length_push, length-set, get_or-set_other}
use Rattle.std.proofs.lemmas.Option.{slice_get_within}
use Rattle.lex_semantics.specs.Text.{IsText, Among, flag}
use Rattle.lex_semantics.specs.Machine.{Machine, walk}
use Rattle.lex_semantics.proofs.MachineLaws.{walk-append}
use Rattle.lex_semantics.proofs.Texts.{is_text_append}
use Rattle.lexauto_reports.specs.BackWords.{Precedes}
use Rattle.lexauto_reports.proofs.Orders as Words
use Rattle.lexlook_tables.specs.Searching.{KeyAt}
use Rattle.lexlook_tables.specs.Reaching.{LeadsTo, InOrder, FoundBy, IsReached, Found, Begun, Added, BegunFrom, unmarked}
use Rattle.lexlook_tables.proofs.Lists.{before_last, at_last, last_or_before, one_at, some_at}

pub among_left : {X : Type 0} (xs ys : List X) (x : X) → Among xs x → Among (xs ++ ys) x
among_left [] ys x at = absurd at
among_left (z ∷ xs) ys x (inl e) = inl e
among_left (z ∷ xs) ys x (inr at) = inr (among_left xs ys x at)

pub among_last : {X : Type 0} (xs : List X) (y : X) → Among (xs ++ y ∷ []) y
among_last [] y = inl refl
among_last (z ∷ xs) y = inr (among_last xs y)

pub among_either : {X : Type 0} (xs : List X) (y x : X) → Among (xs ++ y ∷ []) x → Among xs x ⊎ (x ≡ y)
among_either [] y x (inl e) = inr e
among_either [] y x (inr at) = absurd at
among_either (z ∷ xs) y x (inl e) = inl (inl e)
among_either (z ∷ xs) y x (inr at) = elim (among_either xs y x at) [ inl a ↦ inl (inr a) | inr e ↦ inr e ]

-- an element by its place
pub place_of : (xs : List ℕ) (x : ℕ) → Among xs x → (i : ℕ) × (i < length xs) × (get_or xs i 0 ≡ x)
place_of [] x at = absurd at
place_of (z ∷ xs) x (inl e) = (0, omega arith, sym e)
place_of (z ∷ xs) x (inr at) = (let h = place_of xs x at in (suc h.0, omega (arith, h.1), h.2))

pub among_at : (xs : List ℕ) (i : ℕ) → i < length xs → Among xs (get_or xs i 0)
among_at [] i lt = absurd (omega (arith, lt))
among_at (x ∷ xs) zero lt = inl refl
among_at (x ∷ xs) (suc i) lt = inr (among_at xs i (omega (arith, lt)))

pub get_left : (xs ys : List ℕ) (i : ℕ) → i < length xs → get_or (xs ++ ys) i 0 ≡ get_or xs i 0
get_left [] ys i lt = absurd (omega (arith, lt))
get_left (x ∷ xs) ys zero lt = refl
get_left (x ∷ xs) ys (suc i) lt = get_left xs ys i (omega (arith, lt))

pub get_last : (xs : List ℕ) (x i : ℕ) → i ≡ length xs → get_or (xs ++ x ∷ []) i 0 ≡ x
get_last [] x zero e = refl
get_last [] x (suc i) e = absurd (omega (arith, e))
get_last (z ∷ xs) x zero e = absurd (omega (arith, e))
get_last (z ∷ xs) x (suc i) e = get_last xs x i (omega (arith, e))

unmarked_less : (marks : List Bool) (s : ℕ) → s < length marks → get_or marks s false ≡ false → suc (unmarked (set marks s true)) ≡ unmarked marks
unmarked_less [] s lt e = absurd (omega (arith, lt))
unmarked_less (true ∷ marks) zero lt e = absurd cc
unmarked_less (false ∷ marks) zero lt e = refl
unmarked_less (true ∷ marks) (suc s) lt e = unmarked_less marks s (omega (arith, lt)) e
unmarked_less (false ∷ marks) (suc s) lt e = ap suc (unmarked_less marks s (omega (arith, lt)) e)

-- a mark more is a state more
pub no_more : (found found' : List ℕ) (marks marks' : List Bool) (s : ℕ) → s < length marks → Added found marks s found' marks' → unmarked marks' + length found' ≤ unmarked marks + length found
no_more found found' marks marks' s lt (inl h) = omega (arith, ap length h.1, ap unmarked h.2)
no_more found found' marks marks' s lt (inr h) = (let less = unmarked_less marks s lt h.0 in omega (arith, less, ap length h.1, ap unmarked h.2, length-append found (s ∷ [])))

pub longer : (found found' : List ℕ) (marks marks' : List Bool) (s : ℕ) → Added found marks s found' marks' → length found ≤ length found'
longer found found' marks marks' s (inl h) = omega (arith, ap length h.1)
longer found found' marks marks' s (inr h) = omega (arith, ap length h.1, length-append found (s ∷ []))

pub same_size : (found found' : List ℕ) (marks marks' : List Bool) (s : ℕ) → Added found marks s found' marks' → length marks' ≡ length marks
same_size found found' marks marks' s (inl h) = ap length h.2
same_size found found' marks marks' s (inr h) = ap length h.2 ∙ length-set marks s true

pub same_place : (found found' : List ℕ) (marks marks' : List Bool) (s place : ℕ) → place < length found → Added found marks s found' marks' → get_or found' place 0 ≡ get_or found place 0
same_place found found' marks marks' s place lt (inl e) = ap (λ z. get_or z place 0) e.1
same_place found found' marks marks' s place lt (inr e) = ap (λ z. get_or z place 0) e.1 ∙ get_left found (s ∷ []) place lt

-- inside of a list no default is used
pub any_default : (xs : List ℕ) (i d e : ℕ) → i < length xs → get_or xs i d ≡ get_or xs i e
any_default [] i d e lt = absurd (omega (arith, lt))
any_default (x ∷ xs) zero d e lt = refl
any_default (x ∷ xs) (suc i) d e lt = any_default xs i d e (omega (arith, lt))

pub marked_then : (marks : List Bool) (s t : ℕ) → flag (set marks s true) t ≡ true → (flag marks t ≡ true) ⊎ (t ≡ s)
marked_then marks s t e = elim (cases_lt t s) [
  | inl less ↦ inl (sym (get_or-set_other marks s t true false (λ f. omega (arith, less, f))) ∙ e)
  | inr more ↦ elim (cases_lt s t) [
    | inl less ↦ inl (sym (get_or-set_other marks s t true false (λ f. omega (arith, less, f))) ∙ e)
    | inr less ↦ inr (omega (arith, more, less))
  ]
]

-- a key leads where it did, where there are more starts
leads_more : (M : Machine) (from more u : List ℕ) (s : ℕ) → LeadsTo M from u s → LeadsTo M (from ++ more) u s
leads_more M from more [] s h = h
leads_more M from more (j ∷ w) s h = ((let lt = h.0 in omega (arith, lt, length-append from more)), h.1, h.2 ∙ ap (λ z. walk M z w) (sym (get_left from more j h.0)))

-- and with a byte more
leads_next : (M : Machine) (from u : List ℕ) (s b : ℕ) → b < 256 → LeadsTo M from u s → LeadsTo M from (u ++ b ∷ []) (M.next s b)
leads_next M from [] s b small h = absurd h
leads_next M from (j ∷ w) s b small h = (h.0, is_text_append w (b ∷ []) h.1 (small, tt), ap (λ z. M.next z b) h.2 ∙ sym (walk-append M (get_or from j 0) w (b ∷ [])))

order_starts : (M : Machine) (n : ℕ) (from more found : List ℕ) (keys : List (List ℕ)) → InOrder M n from found keys → InOrder M n (from ++ more) found keys
order_starts M n from more found keys o = record {
  within = o.within;
  sized = o.sized;
  leads = λ i u at. leads_more M from more u (get_or found i 0) (o.leads i u at);
  ascending = o.ascending;
}

-- one state more, with its key
module _ (found : List ℕ) (keys : List (List ℕ)) (x : ℕ) (key : List ℕ) (sized : length keys ≡ length found) where
  inside_of : (i : ℕ) (u : List ℕ) → KeyAt keys i u → i < length found
  inside_of i u at = (let lt = slice_get_within keys i u at in omega (arith, lt, sized))

  found_more : (s : ℕ) (u : List ℕ) → FoundBy found keys s u → FoundBy (found ++ x ∷ []) (keys ++ key ∷ []) s u
  found_more s u f = (f.0, f.1, before_last keys key f.0 f.1 f.2, get_left found (x ∷ []) f.0 (inside_of f.0 f.1 f.2) ∙ f.3, f.4)

  found_last : FoundBy (found ++ x ∷ []) (keys ++ key ∷ []) x key
  found_last = (length keys, key, at_last keys key, get_last found x (length keys) sized, inl refl)

  old_key : (i : ℕ) (u : List ℕ) → i < length found → KeyAt (keys ++ key ∷ []) i u → KeyAt keys i u
  old_key i u lt has = elim (last_or_before keys key i u has) [ inl old ↦ old | inr is ↦ absurd (let e = is.0 in omega (arith, e, lt, sized)) ]

  order_more : (M : Machine) (n : ℕ) (from : List ℕ) → InOrder M n from found keys → x < n → LeadsTo M from key x → ((j : ℕ) (u : List ℕ) → KeyAt keys j u → Precedes u key) → InOrder M n from (found ++ x ∷ []) (keys ++ key ∷ [])
  order_more M n from o in_n to last = record {
    within = λ s at. elim (among_either found x s at) [ inl a ↦ o.within s a | inr e ↦ subst (λ z. z < n) (sym e) in_n ];
    sized = length_push keys key ∙ ap (λ z. z + 1) sized ∙ sym (length_push found x);
    leads = λ i u at. leads_of i u (last_or_before keys key i u at);
    ascending = λ i j u v is are less. ascending_of i j u v less (last_or_before keys key i u is) (last_or_before keys key j v are);
  }
    where
      leads_of : (i : ℕ) (u : List ℕ) → KeyAt keys i u ⊎ ((i ≡ length keys) × (u ≡ key)) → LeadsTo M from u (get_or (found ++ x ∷ []) i 0)
      leads_of i u (inl old) = subst (LeadsTo M from u) (sym (get_left found (x ∷ []) i (inside_of i u old))) (o.leads i u old)
      leads_of i u (inr new) = subst (LeadsTo M from u) (sym (get_last found x i (new.0 ∙ sized))) (subst (λ z. LeadsTo M from z x) (sym new.1) to)

      ascending_of : (i j : ℕ) (u v : List ℕ) → i < j → KeyAt keys i u ⊎ ((i ≡ length keys) × (u ≡ key)) → KeyAt keys j v ⊎ ((j ≡ length keys) × (v ≡ key)) → Precedes u v
      ascending_of i j u v less (inl a) (inl b) = o.ascending i j u v a b less
      ascending_of i j u v less (inl a) (inr b) = subst (Precedes u) (sym b.1) (last i u a)
      ascending_of i j u v less (inr a) (inl b) = absurd (let e = a.0 in let lt = slice_get_within keys j v b in omega (arith, e, lt, less))
      ascending_of i j u v less (inr a) (inr b) = absurd (let e = a.0 in let f = b.0 in omega (arith, e, f, less))

module _ (M : Machine) (n : ℕ) (from found : List ℕ) (marks : List Bool) (place b : ℕ) (h : Found M n from found marks place b) where
  -- where the byte at hand was followed
  module _ (inside : place < length found) (small : b < 256) (in_n : M.next (get_or found place 0) b < n) where
    abbrev pub s : ℕ
    s = M.next (get_or found place 0) b

    -- the byte at hand, or one before it
    byte_is : (i c : ℕ) → (i < place) ⊎ ((i ≡ place) × (c < b + 1)) → ((i < place) ⊎ ((i ≡ place) × (c < b))) ⊎ ((i ≡ place) × (c ≡ b))
    byte_is i c (inl less) = inl (inl less)
    byte_is i c (inr here) = elim (cases_lt c b) [ inl less ↦ inl (inr (here.0, less)) | inr more ↦ (let k = here.1 in inr (here.0, omega (arith, more, k))) ]

    abbrev here : (t : List ℕ) × KeyAt h.keys place t
    here = some_at h.keys place (omega (arith, inside, h.order.sized))

    abbrev key : List ℕ
    key = here.0 ++ b ∷ []

    -- that state was found before
    seen : flag marks s ≡ true → Found M n from found marks place (b + 1)
    seen was = record {
      keys = h.keys;
      order = h.order;
      size = h.size;
      marked = h.marked;
      ahead = λ t u j at_t at_u. Words.before_trans u (t ++ b ∷ []) (t ++ (b + 1) ∷ []) (h.ahead t u j at_t at_u) (Words.before_last t b (b + 1) (omega arith));
      starts = h.starts;
      closed = λ i c t at below which. elim (byte_is i c which) [ inl old ↦ h.closed i c t at below old | inr now ↦ this i c t at now.0 now.1 ];
    }
      where
        at_s : (i : ℕ) × (i < length found) × (get_or found i 0 ≡ s)
        at_s = place_of found s (h.marked s was)

        its : (u : List ℕ) × KeyAt h.keys at_s.0 u
        its = some_at h.keys at_s.0 (let lt = at_s.1 in omega (arith, lt, h.order.sized))

        this : (i c : ℕ) (t : List ℕ) → KeyAt h.keys i t → i ≡ place → c ≡ b → FoundBy found h.keys (M.next (get_or found i 0) c) (t ++ c ∷ [])
        this i c t at is_place is_byte =
            subst (λ z. FoundBy found h.keys (M.next (get_or found z 0) c) (t ++ c ∷ [])) (sym is_place)
            (subst (λ z. FoundBy found h.keys (M.next (get_or found place 0) z) (t ++ z ∷ [])) (sym is_byte)
            (at_s.0, its.0, its.1, at_s.2, inr (h.ahead t its.0 at_s.0 (subst (λ z. KeyAt h.keys z t) is_place at) its.1)))

    -- it is a new one
    new : flag marks s ≡ false → Found M n from (found ++ s ∷ []) (set marks s true) place (b + 1)
    new fresh = record {
      keys = h.keys ++ key ∷ [];
      order = order_more found h.keys s key h.order.sized M n from h.order in_n (leads_next M from here.0 (get_or found place 0) b small (h.order.leads place here.0 here.1)) (λ j u at. h.ahead here.0 u j here.1 at);
      size = length-set marks s true ∙ h.size;
      marked = λ t e. elim (marked_then marks s t e) [ inl was ↦ among_left found (s ∷ []) t (h.marked t was) | inr is ↦ subst (Among (found ++ s ∷ [])) (sym is) (among_last found s) ];
      ahead = ahead;
      starts = λ j lt. found_more found h.keys s key h.order.sized (get_or from j 0) (j ∷ []) (h.starts j lt);
      closed = λ i c t at below which. closed i c t below which (last_or_before h.keys key i t at);
    }
      where
        ahead : (t u : List ℕ) (j : ℕ) → KeyAt (h.keys ++ key ∷ []) place t → KeyAt (h.keys ++ key ∷ []) j u → Precedes u (t ++ (b + 1) ∷ [])
        ahead t u j at_t at_u =
            let same : here.0 ≡ t = one_at h.keys place here.0 t here.1 (old_key found h.keys s key h.order.sized place t inside at_t) in
            let next_byte : Precedes key (t ++ (b + 1) ∷ []) = subst (λ z. Precedes (z ++ b ∷ []) (t ++ (b + 1) ∷ [])) (sym same) (Words.before_last t b (b + 1) (omega arith)) in
            elim (last_or_before h.keys key j u at_u) [
              | inl old ↦ Words.before_trans u key (t ++ (b + 1) ∷ []) (h.ahead here.0 u j here.1 old) next_byte
              | inr is ↦ subst (λ z. Precedes z (t ++ (b + 1) ∷ [])) (sym is.1) next_byte
            ]

        this : (i c : ℕ) (t : List ℕ) → KeyAt h.keys i t → i ≡ place → c ≡ b → FoundBy (found ++ s ∷ []) (h.keys ++ key ∷ []) (M.next (get_or found i 0) c) (t ++ c ∷ [])
        this i c t at is_place is_byte =
            subst (λ z. FoundBy (found ++ s ∷ []) (h.keys ++ key ∷ []) (M.next (get_or found z 0) c) (t ++ c ∷ [])) (sym is_place)
            (subst (λ z. FoundBy (found ++ s ∷ []) (h.keys ++ key ∷ []) (M.next (get_or found place 0) z) (t ++ z ∷ [])) (sym is_byte)
            (subst (λ z. FoundBy (found ++ s ∷ []) (h.keys ++ key ∷ []) s (z ++ b ∷ [])) (one_at h.keys place here.0 t here.1 (subst (λ z. KeyAt h.keys z t) is_place at)) (found_last found h.keys s key h.order.sized)))

        past_it : (i c : ℕ) → i ≡ length found → (i < place) ⊎ ((i ≡ place) × (c < b + 1)) → ⊥
        past_it i c e (inl less) = omega (arith, e, less, inside)
        past_it i c e (inr now) = (let f = now.0 in omega (arith, e, f, inside))

        closed : (i c : ℕ) (t : List ℕ) → c < 256 → (i < place) ⊎ ((i ≡ place) × (c < b + 1)) → KeyAt h.keys i t ⊎ ((i ≡ length h.keys) × (t ≡ key)) → FoundBy (found ++ s ∷ []) (h.keys ++ key ∷ []) (M.next (get_or (found ++ s ∷ []) i 0) c) (t ++ c ∷ [])
        closed i c t below which (inr is) = absurd (past_it i c (is.0 ∙ h.order.sized) which)
        closed i c t below which (inl old) = subst (λ z. FoundBy (found ++ s ∷ []) (h.keys ++ key ∷ []) (M.next z c) (t ++ c ∷ [])) (sym (get_left found (s ∷ []) i (inside_of found h.keys s key h.order.sized i t old))) (by (byte_is i c which))
          where
            by : ((i < place) ⊎ ((i ≡ place) × (c < b))) ⊎ ((i ≡ place) × (c ≡ b)) → FoundBy (found ++ s ∷ []) (h.keys ++ key ∷ []) (M.next (get_or found i 0) c) (t ++ c ∷ [])
            by (inl past) = found_more found h.keys s key h.order.sized (M.next (get_or found i 0) c) (t ++ c ∷ []) (h.closed i c t old below past)
            by (inr now) = this i c t old now.0 now.1

    pub followed : (found' : List ℕ) (marks' : List Bool) → Added found marks s found' marks' → Found M n from found' marks' place (b + 1)
    followed found' marks' (inl e) = subst (λ z. Found M n from z marks' place (b + 1)) (sym e.1) (subst (λ z. Found M n from found z place (b + 1)) (sym e.2) (seen e.0))
    followed found' marks' (inr e) = subst (λ z. Found M n from z marks' place (b + 1)) (sym e.1) (subst (λ z. Found M n from (found ++ s ∷ []) z place (b + 1)) (sym e.2) (new e.0))

  -- where each byte was
  pub next_place : b ≡ 256 → Found M n from found marks (place + 1) 0
  next_place all = record {
    keys = h.keys;
    order = h.order;
    size = h.size;
    marked = h.marked;
    ahead = λ t u j at_t at_u. (let o = some_at h.keys place (let l = slice_get_within h.keys (place + 1) t at_t in omega (arith, l)) in
        Words.before_trans u (o.0 ++ b ∷ []) (t ++ 0 ∷ []) (h.ahead o.0 u j o.1 at_u) (Words.before_longer o.0 t b 0 (h.order.ascending place (place + 1) o.0 t o.1 at_t (omega arith))));
    starts = h.starts;
    closed = λ i c t at small which. h.closed i c t at small (elim which [
      | inl less ↦ elim (cases_lt i place) [ inl l ↦ inl l | inr more ↦ inr (omega (arith, less, more), omega (arith, small, all)) ]
      | inr here ↦ absurd (let l = here.1 in omega (arith, l))
    ]);
  }

  -- at the end of the search
  pub is_reached : length found ≤ place → IsReached M n from found
  is_reached done = record { keys = h.keys; order = h.order; all = λ j w lt text. walks w (j ∷ []) (get_or from j 0) (h.starts j lt) text }
    where
      step : (s c : ℕ) (u : List ℕ) → FoundBy found h.keys s u → c < 256 → FoundBy found h.keys (M.next s c) (u ++ c ∷ [])
      step s c u f small =
          let lt = slice_get_within h.keys f.0 f.1 f.2 in
          let g = h.closed f.0 c f.1 f.2 small (inl (omega (arith, lt, h.order.sized, done))) in
          (g.0, g.1, g.2, g.3 ∙ ap (λ z. M.next z c) f.3, Words.not_after_trans g.1 (f.1 ++ c ∷ []) (u ++ c ∷ []) g.4 (Words.not_after_longer f.1 u c f.4))

      walks : (w u : List ℕ) (s : ℕ) → FoundBy found h.keys s u → IsText w → FoundBy found h.keys (walk M s w) (u ++ w)
      walks [] u s f text = subst (FoundBy found h.keys s) (sym (append-nil u)) f
      walks (c ∷ w) u s f text = subst (FoundBy found h.keys (walk M (M.next s c) w)) (append_assoc u (c ∷ []) w) (walks w (u ++ c ∷ []) (M.next s c) (step s c u f text.0) text.1)

nowhere : (i c : ℕ) → (i < 0) ⊎ ((i ≡ 0) × (c < 0)) → ⊥
nowhere i c (inl less) = omega (arith, less)
nowhere i c (inr here) = (let l = here.1 in omega (arith, l))

-- one more state to start from
module _ (M : Machine) (n : ℕ) (from found : List ℕ) (marks : List Bool) (s : ℕ) (h : Begun M n from found marks) (in_n : s < n) where
  starts_of : (found' : List ℕ) (keys' : List (List ℕ)) → ((j : ℕ) → j < length from → FoundBy found' keys' (get_or from j 0) (j ∷ [])) → FoundBy found' keys' s (length from ∷ []) → (j : ℕ) → j < length (from ++ s ∷ []) → FoundBy found' keys' (get_or (from ++ s ∷ []) j 0) (j ∷ [])
  starts_of found' keys' old last j lt = elim (cases_lt j (length from)) [
    | inl less ↦ subst (λ z. FoundBy found' keys' z (j ∷ [])) (sym (get_left from (s ∷ []) j less)) (old j less)
    | inr more ↦ (let is : j ≡ length from = omega (arith, lt, more, length_push from s) in
        subst (λ z. FoundBy found' keys' z (j ∷ [])) (sym (get_last from s j is)) (subst (λ z. FoundBy found' keys' s (z ∷ [])) (sym is) last))
  ]

  -- each key so far has a smaller number
  smaller : (i : ℕ) (u : List ℕ) → KeyAt h.search.keys i u → Precedes u (length from ∷ [])
  smaller i u at = (let a = h.empty i u at in subst (λ z. Precedes z (length from ∷ [])) (sym a.2) (inr (refl, inl a.1)))

  still : (j : ℕ) → j < length from → j < length (from ++ s ∷ [])
  still j lt = omega (arith, lt, length_push from s)

  -- it was found before
  start_seen : flag marks s ≡ true → Begun M n (from ++ s ∷ []) found marks
  start_seen was = record {
    search = record {
      keys = h.search.keys;
      order = order_starts M n from (s ∷ []) found h.search.keys h.search.order;
      size = h.search.size;
      marked = h.search.marked;
      ahead = h.search.ahead;
      starts = starts_of found h.search.keys h.search.starts (at_s.0, its.0, its.1, at_s.2, inr (smaller at_s.0 its.0 its.1));
      closed = λ i c t at small which. absurd (nowhere i c which);
    };
    empty = λ i u at. (let a = h.empty i u at in (a.0, still a.0 a.1, a.2));
  }
    where
      at_s : (i : ℕ) × (i < length found) × (get_or found i 0 ≡ s)
      at_s = place_of found s (h.search.marked s was)

      its : (u : List ℕ) × KeyAt h.search.keys at_s.0 u
      its = some_at h.search.keys at_s.0 (let lt = at_s.1 in omega (arith, lt, h.search.order.sized))

  -- it is a new one
  start_new : flag marks s ≡ false → Begun M n (from ++ s ∷ []) (found ++ s ∷ []) (set marks s true)
  start_new fresh = record {
    search = record {
      keys = h.search.keys ++ (length from ∷ []) ∷ [];
      order = order_more found h.search.keys s (length from ∷ []) h.search.order.sized M n (from ++ s ∷ []) (order_starts M n from (s ∷ []) found h.search.keys h.search.order) in_n
          (omega (arith, length_push from s), tt, sym (get_last from s (length from) refl)) smaller;
      size = length-set marks s true ∙ h.search.size;
      marked = λ t e. elim (marked_then marks s t e) [ inl was ↦ among_left found (s ∷ []) t (h.search.marked t was) | inr is ↦ subst (Among (found ++ s ∷ [])) (sym is) (among_last found s) ];
      ahead = λ t u j at_t at_u. (let a = empty 0 t at_t in let o = empty j u at_u in inl (omega (arith, ap length a.2, ap length o.2, length_push t 0)));
      starts = starts_of (found ++ s ∷ []) (h.search.keys ++ (length from ∷ []) ∷ []) (λ j lt. found_more found h.search.keys s (length from ∷ []) h.search.order.sized (get_or from j 0) (j ∷ []) (h.search.starts j lt)) (found_last found h.search.keys s (length from ∷ []) h.search.order.sized);
      closed = λ i c t at small which. absurd (nowhere i c which);
    };
    empty = empty;
  }
    where
      empty : (i : ℕ) (u : List ℕ) → KeyAt (h.search.keys ++ (length from ∷ []) ∷ []) i u → (j : ℕ) × (j < length (from ++ s ∷ [])) × (u ≡ j ∷ [])
      empty i u at = elim (last_or_before h.search.keys (length from ∷ []) i u at) [
        | inl old ↦ (let a = h.empty i u old in (a.0, still a.0 a.1, a.2))
        | inr is ↦ (length from, omega (arith, length_push from s), is.1)
      ]

  pub start_more : (found' : List ℕ) (marks' : List Bool) → Added found marks s found' marks' → Begun M n (from ++ s ∷ []) found' marks'
  start_more found' marks' (inl e) = subst (λ z. Begun M n (from ++ s ∷ []) z marks') (sym e.1) (subst (λ z. Begun M n (from ++ s ∷ []) found z) (sym e.2) (start_seen e.0))
  start_more found' marks' (inr e) = subst (λ z. Begun M n (from ++ s ∷ []) z marks') (sym e.1) (subst (λ z. Begun M n (from ++ s ∷ []) (found ++ s ∷ []) z) (sym e.2) (start_new e.0))

-- from no state a search begins as it stands
pub begun_none : (found : List ℕ) (marks : List Bool) → BegunFrom [] found marks found marks
begun_none found marks M n from h = subst (λ z. Begun M n z found marks) (sym (append-nil from)) h

-- and from one more
pub begun_more : (found found' found'' : List ℕ) (marks marks' marks'' : List Bool) (ss : List ℕ) (s : ℕ) → s < length marks' → BegunFrom ss found marks found' marks' → Added found' marks' s found'' marks'' → BegunFrom (ss ++ s ∷ []) found marks found'' marks''
begun_more found found' found'' marks marks' marks'' ss s in_marks all add M n from h =
    subst (λ z. Begun M n z found'' marks'') (append_assoc from ss (s ∷ [])) (start_more M n (from ++ ss) found' marks' s before (omega (arith, in_marks, before.search.size)) found'' marks'' add)
  where
    before : Begun M n (from ++ ss) found' marks'
    before = all M n from h

-- before any is found
pub none_found : (M : Machine) (n : ℕ) (marks : List Bool) → length marks ≡ n → ((i : ℕ) → get_or marks i false ≡ false) → Begun M n [] [] marks
none_found M n marks size none = record {
  search = record {
    keys = [];
    order = record { within = λ s at. absurd at; sized = refl; leads = λ i u at. absurd cc; ascending = λ i j u v at_u at_v less. absurd cc };
    size = size;
    marked = λ s e. absurd (differ (sym (none s) ∙ e));
    ahead = λ t u j at_t at_u. absurd cc;
    starts = λ j lt. absurd (omega (arith, lt));
    closed = λ i c t at small which. absurd cc;
  };
  empty = λ i u at. absurd cc;
}
  where
    differ : false ≡ true → ⊥
    differ e = cc
