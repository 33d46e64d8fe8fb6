-- What actions do that neither end the scan nor use the stack of conditions.
use Rattle.std.proofs.Common.{◌≡◌, ℕ, ◌<◌, true, List, [], ◌∷◌, ◌++◌, take, ◌⊎◌, inl, inr, refl, sym, ◌∙◌, ap}
use Rattle.lex_semantics.specs.Text.{Among}
use Rattle.lex_semantics.specs.Spec.{Statement, Echo, Print, Begin, More, Less, Reject, End, Push, Pop}
use Rattle.lex_semantics.specs.Acting.{Acting}
use Rattle.lex_semantics.specs.ActionResults.{ActionResult, Done, Again, Over, act_result}
use Rattle.lex_semantics.proofs.Actions.{BeginsBelow}

-- what statements leave of what was there before them
pub record Leaves (n : ℕ) (ss : List Statement) (a b : Acting) : Type 0 where
  pub stack : b.stack ≡ a.stack
  pub same : ((d : ℕ) → Among ss (Begin d) → ⊥) → b.condition ≡ a.condition
  pub home : ((d : ℕ) → Among ss (Begin d) → d ≡ 0) → (a.condition ≡ 0) ⊎ Among ss (Begin 0) → b.condition ≡ 0
  pub more : b.more ≡ true → (a.more ≡ true) ⊎ Among ss More
  pub below : BeginsBelow n ss → a.condition < n → b.condition < n

abbrev pub Does : ℕ → List Statement → Acting → ActionResult → Type 0
Does n ss a (Done b) = Leaves n ss a b
Does n ss a (Again b) = (b.stack ≡ a.stack) × (((d : ℕ) → Among ss (Begin d) → ⊥) → b.condition ≡ a.condition) × Among ss Reject
Does n ss a (Over b e) = ⊥

-- a statement that sets no condition, or this one
abbrev SetsNone : Statement → Type 0
SetsNone s = (d : ℕ) → Begin d ≡ s → ⊥

abbrev Sets : Statement → Acting → Acting → Type 0
Sets s a b = (SetsNone s × (b.condition ≡ a.condition)) ⊎ ((d : ℕ) × (s ≡ Begin d) × (b.condition ≡ d))

module _ (n : ℕ) (s : Statement) (ss : List Statement) (a m : Acting) (stack : m.stack ≡ a.stack) (sets : Sets s a m) (kept : m.more ≡ true → (a.more ≡ true) ⊎ (More ≡ s))
    (below : BeginsBelow n (s ∷ ss) → BeginsBelow n ss × (a.condition < n → m.condition < n)) where
  same_before : ((d : ℕ) → Among (s ∷ ss) (Begin d) → ⊥) → Sets s a m → m.condition ≡ a.condition
  same_before none (inl e) = e.1
  same_before none (inr e) = absurd (none e.0 (inl (sym e.1)))

  leaves_more : (b : Acting) → Leaves n ss m b → Leaves n (s ∷ ss) a b
  leaves_more b k = record {
    stack = k.stack ∙ stack;
    same = λ none. k.same (λ d at. none d (inr at)) ∙ same_before none sets;
    home = λ each some. k.home (λ d at. each d (inr at)) (home each some sets);
    more = λ e. more (k.more e);
    below = λ small lt. k.below (below small).0 ((below small).1 lt);
  }
    where
      home : ((d : ℕ) → Among (s ∷ ss) (Begin d) → d ≡ 0) → (a.condition ≡ 0) ⊎ Among (s ∷ ss) (Begin 0) → Sets s a m → (m.condition ≡ 0) ⊎ Among ss (Begin 0)
      home each some (inr e) = inl (e.2 ∙ each e.0 (inl (sym e.1)))
      home each (inl start) (inl e) = inl (e.1 ∙ start)
      home each (inr (inr at)) (inl e) = inr at
      home each (inr (inl is)) (inl e) = absurd (e.0 0 is)

      more : (m.more ≡ true) ⊎ Among ss More → (a.more ≡ true) ⊎ Among (s ∷ ss) More
      more (inr at) = inr (inr at)
      more (inl e) = elim (kept e) [ inl was ↦ inl was | inr is ↦ inr (inl is) ]

  does_more : (r : ActionResult) → Does n ss m r → Does n (s ∷ ss) a r
  does_more (Done b) k = leaves_more b k
  does_more (Again b) k = (k.0 ∙ stack, λ none. k.1 (λ d at. none d (inr at)) ∙ same_before none sets, inr k.2)
  does_more (Over b e) k = absurd k

-- of statements without any that end the scan or use the stack
abbrev Plain : List Statement → Type 0
Plain ss = ((status : ℕ) → Among ss (End status) → ⊥) × ((d : ℕ) → Among ss (Push d) → ⊥) × (Among ss Pop → ⊥)

rest : (s : Statement) (ss : List Statement) → Plain (s ∷ ss) → Plain ss
rest s ss h = (λ e at. h.0 e (inr at), λ d at. h.1 d (inr at), λ at. h.2 (inr at))

pub does : (n : ℕ) (ss : List Statement) (a : Acting) → Plain ss → Does n ss a (act_result ss a)
does n [] a h = record { stack = refl; same = λ none. refl; home = at_home; more = λ e. inl e; below = λ small lt. lt }
  where
    at_home : ((d : ℕ) → Among [] (Begin d) → d ≡ 0) → (a.condition ≡ 0) ⊎ Among [] (Begin 0) → a.condition ≡ 0
    at_home each (inl e) = e
    at_home each (inr at) = absurd at
does n (Echo ∷ ss) a h = (let m : Acting = record a { written = a.written ++ a.text } in
    does_more n Echo ss a m refl (inl (λ d e. absurd cc, refl)) (λ e. inl e) (λ small. (small, λ lt. lt)) (act_result ss m) (does n ss m (rest Echo ss h)))
does n (Print s ∷ ss) a h = (let m : Acting = record a { written = a.written ++ s } in
    does_more n (Print s) ss a m refl (inl (λ d e. absurd cc, refl)) (λ e. inl e) (λ small. (small, λ lt. lt)) (act_result ss m) (does n ss m (rest (Print s) ss h)))
does n (Begin d ∷ ss) a h = (let m : Acting = record a { condition = d } in
    does_more n (Begin d) ss a m refl (inr (d, refl, refl)) (λ e. inl e) (λ small. (small.1, λ lt. small.0)) (act_result ss m) (does n ss m (rest (Begin d) ss h)))
does n (More ∷ ss) a h = (let m : Acting = record a { more = true } in
    does_more n More ss a m refl (inl (λ d e. absurd cc, refl)) (λ e. inr refl) (λ small. (small, λ lt. lt)) (act_result ss m) (does n ss m (rest More ss h)))
does n (Less k ∷ ss) a h = (let m : Acting = record a { text = take k a.text } in
    does_more n (Less k) ss a m refl (inl (λ d e. absurd cc, refl)) (λ e. inl e) (λ small. (small, λ lt. lt)) (act_result ss m) (does n ss m (rest (Less k) ss h)))
does n (Reject ∷ ss) a h = (refl, λ none. refl, inl refl)
does n (End status ∷ ss) a h = h.0 status (inl refl)
does n (Push d ∷ ss) a h = absurd (h.1 d (inl refl))
does n (Pop ∷ ss) a h = absurd (h.2 (inl refl))

-- none of them ends the scan
done_same : (a b : Acting) → Done a ≡ Done b → a ≡ b
done_same a b e = cc

pub stays_on : (ss : List Statement) (a b : Acting) → Plain ss → act_result ss a ≡ Done b → b.ended ≡ a.ended
stays_on [] a b h e = ap (λ (z : Acting). z.ended) (sym (done_same a b e))
stays_on (Echo ∷ ss) a b h e = stays_on ss (record a { written = a.written ++ a.text }) b (rest Echo ss h) e
stays_on (Print s ∷ ss) a b h e = stays_on ss (record a { written = a.written ++ s }) b (rest (Print s) ss h) e
stays_on (Begin d ∷ ss) a b h e = stays_on ss (record a { condition = d }) b (rest (Begin d) ss h) e
stays_on (More ∷ ss) a b h e = stays_on ss (record a { more = true }) b (rest More ss h) e
stays_on (Less k ∷ ss) a b h e = stays_on ss (record a { text = take k a.text }) b (rest (Less k) ss h) e
stays_on (Reject ∷ ss) a b h e = absurd cc
stays_on (End status ∷ ss) a b h e = absurd (h.0 status (inl refl))
stays_on (Push d ∷ ss) a b h e = absurd (h.1 d (inl refl))
stays_on (Pop ∷ ss) a b h e = absurd (h.2 (inl refl))
