-- Reading a text step by step, as far as it has no names: the tree, or that there is none.
use Rattle.std.proofs.Common.{◌≡◌, ℕ, zero, suc, Bool, true, false, cond, List, [], ◌∷◌, Option, Some, None, refl, sym, ap, ◌∙◌, subst}
use Rattle.lex_semantics.specs.Tree.{Tree}
use Rattle.lexre_bytes.specs.Lexical.{symbol_at}
use Rattle.lexre_bytes.specs.Symbols.{Symbol, item, name, opening, closing, bar, sign, IsCut}
use Rattle.lexre.specs.Running.{State, finished, step_of, Steps, Runs, RunsText}
use Rattle.lexre.proofs.OneTree.{some_is, pair_is}

abbrev pub is_name : Symbol → Bool
is_name (name n) = true
is_name (item t) = false
is_name opening = false
is_name closing = false
is_name bar = false
is_name (sign braces f) = false

-- what is known of a text from a state on: None is nothing, Some None is that there is no tree
abbrev pub Tried : Type 0
Tried = Option (Option Tree)

abbrev pub after_step : (State → List ℕ → Tried) → Option State → List ℕ → Tried
after_step next None rest = Some None
after_step next (Some st) rest = next st rest

abbrev pub after_front : (State → List ℕ → Tried) → Bool → State → Option (Symbol × List ℕ) → List ℕ → Tried
after_front next posix st None [] = Some (finished st)
after_front next posix st None (c ∷ text) = Some None
after_front next posix st (Some (s, rest)) text = cond (is_name s) None (after_step next (step_of posix s st) rest)

-- by so many symbols
abbrev pub tried : Bool → Bool → ℕ → State → List ℕ → Tried
tried posix fold zero st text = None
tried posix fold (suc n) st text = after_front (λ after rest. tried posix fold n after rest) posix st (symbol_at fold text) text

unnamed : (b : Bool) (x : Tried) (y : Option Tree) → cond b None x ≡ Some y → (b ≡ false) × (x ≡ Some y)
unnamed true x y e = cc
unnamed false x y e = (refl, e)

no_symbol : (fold : Bool) → symbol_at fold [] ≡ None
unfolding symbol_at
no_symbol fold = refl

module _ (posix fold : Bool) (defined : List ℕ → Option (List ℕ)) where
  steps_so : (s : Symbol) (st after : State) → step_of posix s st ≡ Some after → Steps posix (symbol_at fold) defined st s after
  steps_so (item t) st after e = e
  steps_so (name n) st after e = cc
  steps_so opening st after e = e
  steps_so closing st after e = e
  steps_so bar st after e = e
  steps_so (sign braces f) st after e = e

  step_is : (s : Symbol) (st after : State) → is_name s ≡ false → Steps posix (symbol_at fold) defined st s after → step_of posix s st ≡ Some after
  step_is (item t) st after plain e = e
  step_is (name n) st after plain e = absurd (let different : true ≡ false = plain in cc)
  step_is opening st after plain e = e
  step_is closing st after plain e = e
  step_is bar st after plain e = e
  step_is (sign braces f) st after plain e = e

  -- A tree that is found is spelled.

  abbrev Finds : (State → List ℕ → Tried) → Type 0
  Finds next = (st : State) (text : List ℕ) (t : Tree) → next st text ≡ Some (Some t) → RunsText posix (symbol_at fold) defined st text t

  found_step : (next : State → List ℕ → Tried) → Finds next → (st : State) (step : Option State) (s : Symbol) (rest text : List ℕ) (t : Tree)
      → symbol_at fold text ≡ Some (s, rest) → step_of posix s st ≡ step → after_step next step rest ≡ Some (Some t) → RunsText posix (symbol_at fold) defined st text t
  found_step next finds st None s rest text t here step e = cc
  found_step next finds st (Some after) s rest text t here step e =
      let (ss, cut, run) = finds after rest t e in
      (s ∷ ss, (rest, here, cut), (after, steps_so s st after step, run))

  found_front : (next : State → List ℕ → Tried) → Finds next → (st : State) (front : Option (Symbol × List ℕ)) (text : List ℕ) (t : Tree)
      → symbol_at fold text ≡ front → after_front next posix st front text ≡ Some (Some t) → RunsText posix (symbol_at fold) defined st text t
  found_front next finds st None [] t here e = ([], refl, some_is _ _ e)
  found_front next finds st None (c ∷ text) t here e = cc
  found_front next finds st (Some (s, rest)) text t here e =
      found_step next finds st (step_of posix s st) s rest text t here refl (unnamed (is_name s) (after_step next (step_of posix s st) rest) (Some t) e).1

  pub found_runs : (n : ℕ) (st : State) (text : List ℕ) (t : Tree) → tried posix fold n st text ≡ Some (Some t) → RunsText posix (symbol_at fold) defined st text t
  found_runs zero st text t e = cc
  found_runs (suc n) st text t e =
      found_front (λ after rest. tried posix fold n after rest) (λ after rest u f. found_runs n after rest u f) st (symbol_at fold text) text t refl e

  -- Where none is found none is spelled.

  abbrev FindsNone : (State → List ℕ → Tried) → Type 0
  FindsNone next = (st : State) (text : List ℕ) (t : Tree) (ss : List Symbol) → next st text ≡ Some None → IsCut (symbol_at fold) text ss
      → Runs posix (symbol_at fold) defined st ss t → ⊥

  empty_front : (s : Symbol) (rest text : List ℕ) → text ≡ [] → symbol_at fold text ≡ Some (s, rest) → ⊥
  empty_front s rest text end here =
      let e : ◌≡◌ {A = Option (Symbol × List ℕ)} None (Some (s, rest)) = sym (no_symbol fold) ∙ (ap (symbol_at fold) (sym end) ∙ here) in
      cc

  none_front : (next : State → List ℕ → Tried) → FindsNone next → (st : State) (front : Option (Symbol × List ℕ)) (text : List ℕ) (t : Tree) (ss : List Symbol)
      → symbol_at fold text ≡ front → after_front next posix st front text ≡ Some None → IsCut (symbol_at fold) text ss → Runs posix (symbol_at fold) defined st ss t → ⊥
  none_front next finds st None [] t [] here e cut run = (let none : finished st ≡ None = some_is _ _ e in cc)
  none_front next finds st None [] t (s ∷ ss) here e (rest, there, cut) run = cc
  none_front next finds st None (c ∷ text) t [] here e cut run = cc
  none_front next finds st None (c ∷ text) t (s ∷ ss) here e (rest, there, cut) run = cc
  none_front next finds st (Some (s, rest)) text t [] here e cut run = empty_front s rest text cut here
  none_front next finds st (Some (s, rest)) text t (s' ∷ ss) here e (rest', there, cut) (after, step, run) =
      let same = pair_is s' s rest' rest (sym there ∙ here) in
      let both = unnamed (is_name s) (after_step next (step_of posix s st) rest) None e in
      let P : Symbol → Type 0 = λ x. Steps posix (symbol_at fold) defined st x after in
      let C : List ℕ → Type 0 = λ x. IsCut (symbol_at fold) x ss in
      let on : step_of posix s st ≡ Some after = step_is s st after both.0 (subst P same.0 step) in
      finds after rest t ss (ap (λ o. after_step next o rest) (sym on) ∙ both.1) (subst C same.1 cut) run

  none_runs : (n : ℕ) (st : State) (text : List ℕ) (t : Tree) (ss : List Symbol) → tried posix fold n st text ≡ Some None
      → IsCut (symbol_at fold) text ss → Runs posix (symbol_at fold) defined st ss t → ⊥
  none_runs zero st text t ss e cut run = cc
  none_runs (suc n) st text t ss e cut run =
      none_front (λ after rest. tried posix fold n after rest) (λ after rest u us f there on. none_runs n after rest u us f there on) st (symbol_at fold text) text t ss refl e cut run

  pub none_runs_text : (n : ℕ) (st : State) (text : List ℕ) (t : Tree) → tried posix fold n st text ≡ Some None → RunsText posix (symbol_at fold) defined st text t → ⊥
  none_runs_text n st text t e (ss, cut, run) = none_runs n st text t ss e cut run
