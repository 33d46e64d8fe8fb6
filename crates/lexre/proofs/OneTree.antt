-- A text spells at most one tree.
use Rattle.std.proofs.Common.{◌≡◌, ℕ, zero, suc, ◌+◌, ◌<◌, ◌≤◌, length, Bool, true, false, nat_lt, List, [], ◌∷◌, Option, Some, None, refl, sym, ap, ◌∙◌, subst, arith}
use Rattle.lex_semantics.specs.Tree.{Tree}
use Rattle.lexre_bytes.specs.Symbols.{Symbol, item, name, opening, closing, bar, sign, Lexer, IsCut}
use Rattle.lexre.specs.Grammar.{SpellsWithin}
use Rattle.lexre.specs.Running.{how_many, one_more, frame, fresh, State, state, pushed, onto_last, gathered, Stands, Steps, Runs}
use Rattle.lexre.proofs.GrammarLaws.{spelled_runs, chosen}

pub some_is : {A : Type 0} (x y : A) → Some x ≡ Some y → x ≡ y
some_is x y e = cc

pub pair_is : (s s' : Symbol) (rest rest' : List ℕ) → ◌≡◌ {A = Option (Symbol × List ℕ)} (Some (s, rest)) (Some (s', rest')) → (s ≡ s') × (rest ≡ rest')
pair_is s s' rest rest' e =
    let same = some_is {A = Symbol × List ℕ} (s, rest) (s', rest') e in
    (ap (λ (x : Symbol × List ℕ). x.0) same, ap (λ (x : Symbol × List ℕ). x.1) same)

-- how many may be opened in all
abbrev pub limit : State → ℕ
limit (state here outer d) = d + length outer

onto_limit : (f : Tree → Tree) (st after : State) → onto_last f st ≡ Some after → limit after ≡ limit st
onto_limit f (state (frame done parts None k) outer d) after e = cc
onto_limit f (state (frame done parts (Some t) k) outer d) after e =
    ap limit (sym (chosen (nat_lt (how_many k) 64) (state (frame done parts (Some (f t)) (one_more k)) outer d) after e).1)

gathered_limit : (posix : Bool) (st : State) → limit (gathered posix st) ≡ limit st
gathered_limit posix (state (frame done parts None k) outer d) = refl
gathered_limit posix (state (frame done parts (Some t) k) outer d) = refl

module _ (posix : Bool) (symbol_at : Lexer) (defined : List ℕ → Option (List ℕ)) (none : symbol_at [] ≡ None) where
  same_cut : (ss ss' : List Symbol) (text : List ℕ) → IsCut symbol_at text ss → IsCut symbol_at text ss' → ss ≡ ss'
  same_cut [] [] text end end' = refl
  same_cut [] (s ∷ ss) text end (rest, here, cut) = (let e : symbol_at [] ≡ Some (s, rest) = ap symbol_at (sym end) ∙ here in cc)
  same_cut (s ∷ ss) [] text (rest, here, cut) end = (let e : symbol_at [] ≡ Some (s, rest) = ap symbol_at (sym end) ∙ here in cc)
  same_cut (s ∷ ss) (s' ∷ ss') text (rest, here, cut) (rest', here', cut') =
      let same = pair_is s s' rest rest' (sym here ∙ here') in
      let P : List ℕ → Type 0 = λ x. IsCut symbol_at x ss' in
      let tail : ss ≡ ss' = same_cut ss ss' rest cut (subst P (sym same.1) cut') in
      let head : s ≡ s' = same.0 in
      cc

  abbrev IsUnique : ℕ → Type 0
  IsUnique d = (text : List ℕ) (t t' : Tree) → SpellsWithin posix symbol_at defined d text t → SpellsWithin posix symbol_at defined d text t' → t ≡ t'

  same_name : (d : ℕ) (n : List ℕ) (t t' : Tree) → IsUnique d → Stands posix symbol_at defined d n t → Stands posix symbol_at defined d n t' → t ≡ t'
  same_name d n t t' unique (text, found, spells) (text', found', spells') =
      let same : text' ≡ text = cc in
      let P : List ℕ → Type 0 = λ x. SpellsWithin posix symbol_at defined d x t' in
      unique text t t' spells (subst P same spells')

  same_step : (m : ℕ) → ((d : ℕ) → d < m → IsUnique d) → (s : Symbol) (st a b : State) → limit st ≤ m
      → Steps posix symbol_at defined st s a → Steps posix symbol_at defined st s b → a ≡ b
  same_step m unique (item t) st a b h e f = some_is _ _ (sym e ∙ f)
  same_step m unique (name n) (state here outer zero) a b h e f = absurd e
  same_step m unique (name n) (state here outer (suc d)) a b h (t, stands, e) (t', stands', e') =
      e ∙ ap (λ x. state (pushed x here) outer (suc d)) (same_name d n t t' (unique d (omega arith)) stands stands') ∙ sym e'
  same_step m unique opening st a b h e f = some_is _ _ (sym e ∙ f)
  same_step m unique closing st a b h e f = some_is _ _ (sym e ∙ f)
  same_step m unique bar st a b h e f = some_is _ _ (sym e ∙ f)
  same_step m unique (sign braces g) st a b h e f = some_is _ _ (sym e ∙ f)

  pub step_limit : (s : Symbol) (st a : State) → Steps posix symbol_at defined st s a → limit a ≡ limit st
  step_limit (item t) (state here outer d) a e = ap limit (sym (some_is _ _ e))
  step_limit (name n) (state here outer zero) a e = absurd e
  step_limit (name n) (state here outer (suc d)) a (t, stands, e) = ap limit e
  step_limit opening (state here outer zero) a e = cc
  step_limit opening (state here outer (suc d)) a e = ap limit (sym (some_is _ _ e)) ∙ omega arith
  step_limit closing (state (frame done parts (Some t) k) (f ∷ fs) d) a e = ap limit (sym (some_is _ _ e)) ∙ omega arith
  step_limit closing (state (frame done parts (Some t) k) [] d) a e = cc
  step_limit closing (state (frame done parts None k) outer d) a e = cc
  step_limit bar (state (frame done parts None k) outer d) a e = cc
  step_limit bar (state (frame done parts (Some t) k) outer d) a e = ap limit (sym (some_is _ _ e))
  step_limit (sign false f) st a e = onto_limit f st a e
  step_limit (sign true f) st a e = onto_limit f (gathered posix st) a e ∙ gathered_limit posix st

  same_run : (m : ℕ) → ((d : ℕ) → d < m → IsUnique d) → (ss : List Symbol) (st : State) (t t' : Tree) → limit st ≤ m
      → Runs posix symbol_at defined st ss t → Runs posix symbol_at defined st ss t' → t ≡ t'
  same_run m unique [] st t t' h e f = some_is _ _ (sym e ∙ f)
  same_run m unique (s ∷ ss) st t t' h (a, e, run) (b, f, run') =
      let same : b ≡ a = same_step m unique s st b a h f e in
      let P : State → Type 0 = λ x. Runs posix symbol_at defined x ss t' in
      same_run m unique ss a t t' (omega (arith, step_limit s st a e)) run (subst P same run')

  unique_below : (m d : ℕ) → d < m → (text : List ℕ) (t t' : Tree) → SpellsWithin posix symbol_at defined d text t → SpellsWithin posix symbol_at defined d text t' → t ≡ t'
  unique_below zero d h text t t' spells spells' = absurd (omega arith)
  unique_below (suc m) d h text t t' spells spells' =
      let (ss, cut, run) = spelled_runs posix symbol_at defined d text t spells in
      let (ss', cut', run') = spelled_runs posix symbol_at defined d text t' spells' in
      let same : ss' ≡ ss = same_cut ss' ss text cut' cut in
      let P : List Symbol → Type 0 = λ x. Runs posix symbol_at defined (state fresh [] d) x t' in
      same_run m (unique_below m) ss (state fresh [] d) t t' (omega arith) run (subst P same run')

  pub one_tree : (d : ℕ) (text : List ℕ) (t t' : Tree) → SpellsWithin posix symbol_at defined d text t → SpellsWithin posix symbol_at defined d text t' → t ≡ t'
  one_tree d = unique_below (suc d) d (omega arith)

  -- a symbol leads to at most one state
  pub one_step : (s : Symbol) (st a b : State) → Steps posix symbol_at defined st s a → Steps posix symbol_at defined st s b → a ≡ b
  one_step s st a b e f = same_step (limit st) (λ d h. one_tree d) s st a b (omega arith) e f
