-- Steps of the reader, against whole texts.
use Rattle.std.proofs.Common.{◌≡◌, ℕ, zero, suc, ◌+◌, ◌-◌, ◌<◌, ◌≤◌, Bool, List, [], ◌∷◌, length, Option, Some, None, refl, sym, ap, ◌∙◌, subst, arith}
use Rattle.std.specs.FinMap.{get}
use Rattle.lex_semantics.specs.Shapes.{nodes}
use Rattle.lex_semantics.specs.Tree.{Tree}
use Rattle.lexre.specs.Counting.{state_nodes, adds, AddsOne, item_adds, capped_nodes}
use Rattle.lexre.specs.Definitions.{Definitions}
use Rattle.lexre.specs.Grammar.{SpellsWithin}
use Rattle.lexre_bytes.specs.Lexical.{symbol_at}
use Rattle.lexre.specs.Outcome.{UnlessPatternMemory, IsRefused}
use Rattle.lexre.specs.Reading.{SpellsIn, StandsIn, StepsIn, NoneWithin}
use Rattle.lexre.specs.Running.{State, state, fresh, push, pushed, finished, step_of, IsPlain, Stands, Steps, RunsText}
use Rattle.lexre_bytes.specs.Symbols.{Symbol, item, name, opening, closing, bar, sign, Lexer, IsCut}
use Rattle.lexre_bytes.specs.declared.error.PatternErrorKind.{PatternErrorKind}
use Rattle.lexre_bytes.specs.declared.error.PatternErrorKind.TheVariants.{OutOfMemory}
use Rattle.lexre.specs.declared.options.ReadOptions.{ReadOptions}
use Rattle.lexre.proofs.CountLaws.{step_grows, step_nodes, steps_grow, runs_grow, finished_nodes, push_grows}
use Rattle.lexre.proofs.GrammarLaws.{spelled_runs, runs_spelled}
use Rattle.lexre.proofs.OneTree.{one_step, one_tree, pair_is, some_is}

pub nothing_left : (s : List ℕ) → length s ≡ 0 → s ≡ []
nothing_left [] h = refl
nothing_left (b ∷ bs) h = absurd (omega arith)

pub something_left : (s : List ℕ) → (length s ≡ 0 → ⊥) → s ≡ [] → ⊥
something_left [] h e = h refl
something_left (b ∷ bs) h e = cc

-- a weaker reason
pub unless_weaker : (kind : PatternErrorKind) (P Q : Type 0) → (P → Q) → UnlessPatternMemory kind P → UnlessPatternMemory kind Q
unless_weaker OutOfMemory P Q f h = tt
unless_weaker _ P Q f h = f h

pub unless_of : (kind : PatternErrorKind) (P : Type 0) → P → UnlessPatternMemory kind P
unless_of OutOfMemory P h = tt
unless_of _ P h = h

-- another word for the same fault
pub retold : (a b : PatternErrorKind) (P : Type 0) → (a ≡ OutOfMemory → b ≡ OutOfMemory) → UnlessPatternMemory a P → UnlessPatternMemory b P
retold OutOfMemory b P h u = let e : b ≡ OutOfMemory = h refl in rw e tt
retold _ b P h u = unless_of b P u

module _ (posix : Bool) (symbol_at : Lexer) (defined : List ℕ → Option (List ℕ)) (none : symbol_at [] ≡ None) where
  -- reading the text from the state gives what reading that text from that state gives
  pub record Agree (st : State) (text : List ℕ) (st' : State) (text' : List ℕ) : Type 0 where
    pub on : (tree : Tree) → RunsText posix symbol_at defined st text tree → RunsText posix symbol_at defined st' text' tree
    pub back : (tree : Tree) → RunsText posix symbol_at defined st' text' tree → RunsText posix symbol_at defined st text tree

  agree_then : (a : State) (x : List ℕ) (b : State) (y : List ℕ) (c : State) (z : List ℕ) → Agree a x b y → Agree b y c z → Agree a x c z
  agree_then a x b y c z p q = record { on = λ tree run. q.on tree (p.on tree run); back = λ tree run. p.back tree (q.back tree run) }

  no_end : (text : List ℕ) (s : Symbol) (rest : List ℕ) → symbol_at text ≡ Some (s, rest) → text ≡ [] → ⊥
  no_end text s rest here end = let e : symbol_at [] ≡ Some (s, rest) = ap symbol_at (sym end) ∙ here in cc

  -- a run begins with the symbol that begins the text
  first_step : (st : State) (text rest : List ℕ) (s : Symbol) (tree : Tree) → symbol_at text ≡ Some (s, rest) → RunsText posix symbol_at defined st text tree
      → (after : State) × Steps posix symbol_at defined st s after × RunsText posix symbol_at defined after rest tree
  first_step st text rest s tree here ([], end, run) = absurd (no_end text s rest here end)
  first_step st text rest s tree here (s' ∷ ss, (rest', here', cut), (after, step, run)) =
      let same = pair_is s' s rest' rest (sym here' ∙ here) in
      let P : Symbol → Type 0 = λ x. Steps posix symbol_at defined st x after in
      let Q : List ℕ → Type 0 = λ x. IsCut symbol_at x ss in
      (after, subst P same.0 step, (ss, subst Q same.1 cut, run))

  agree_one : (st after : State) (text rest : List ℕ) (s : Symbol) → symbol_at text ≡ Some (s, rest) → Steps posix symbol_at defined st s after → Agree after rest st text
  agree_one st after text rest s here step = record {
    on = λ tree run. (s ∷ run.0, (rest, here, run.1), (after, step, run.2));
    back = λ tree run.
        let (after', step', run') = first_step st text rest s tree here run in
        let same : after' ≡ after = one_step posix symbol_at defined none s st after' after step' step in
        let P : State → Type 0 = λ x. RunsText posix symbol_at defined x rest tree in subst P same run';
  }

  -- one symbol more
  pub agree_step : (st after begun : State) (text rest whole : List ℕ) (s : Symbol) → symbol_at text ≡ Some (s, rest) → Steps posix symbol_at defined st s after
      → Agree st text begun whole → Agree after rest begun whole
  agree_step st after begun text rest whole s here step agree = agree_then after rest st text begun whole (agree_one st after text rest s here step) agree

  -- no tree of so few nodes comes from the state
  abbrev pub NoRun : ℕ → State → List ℕ → Type 0
  NoRun most st text = (tree : Tree) → RunsText posix symbol_at defined st text tree → nodes tree ≤ most → ⊥

  abbrev pub NoTree : ℕ → ℕ → List ℕ → Type 0
  NoTree most d text = (t : Tree) → SpellsWithin posix symbol_at defined d text t → nodes t ≤ most → ⊥

  pub refused : (kind : PatternErrorKind) (P : Type 0) (most d : ℕ) (st : State) (rest text : List ℕ) → Agree st rest (state fresh [] d) text
      → (P → NoRun most st rest) → UnlessPatternMemory kind P → UnlessPatternMemory kind (NoTree most d text)
  refused kind P most d st rest text agree f h =
      unless_weaker kind P (NoTree most d text) (λ p t spells few. f p t (agree.back t (spelled_runs posix symbol_at defined d text t spells)) few) h

  -- no step leads to a state that counts so few
  abbrev pub NoStep : ℕ → State → Symbol → Type 0
  NoStep most st s = (after : State) → Steps posix symbol_at defined st s after → state_nodes after ≤ most → ⊥

  module _ (signs : (text rest : List ℕ) (s : Symbol) → symbol_at text ≡ Some (s, rest) → AddsOne s) where
    counted : (st : State) (text : List ℕ) (tree : Tree) → RunsText posix symbol_at defined st text tree → state_nodes st ≤ nodes tree
    counted st text tree (ss, cut, run) = runs_grow posix symbol_at defined signs ss text st tree cut run

    front_refused : (most : ℕ) (st : State) (rest : List ℕ) → (rest ≡ [] → ⊥) → most ≤ 65536 → IsRefused (symbol_at rest) → NoRun most st rest
    front_refused most st rest some small h tree ([], end, run) few = some end
    front_refused most st rest some small h tree (s ∷ ss, (rest', here, cut), (after, step, run)) few =
        let big = h s rest' here in
        omega (arith, steps_grow posix symbol_at defined s (signs rest rest' s here) st after step, counted after rest' tree (ss, cut, run))

    pub refused_front : (kind : PatternErrorKind) (most d : ℕ) (st : State) (rest text : List ℕ) → Agree st rest (state fresh [] d) text → (rest ≡ [] → ⊥) → most ≤ 65536
        → UnlessPatternMemory kind (IsRefused (symbol_at rest)) → UnlessPatternMemory kind (NoTree most d text)
    refused_front kind most d st rest text agree some small h = refused kind _ most d st rest text agree (front_refused most st rest some small) h

    step_refused : (most most' : ℕ) (st : State) (rest after : List ℕ) (s : Symbol) → symbol_at rest ≡ Some (s, after) → most ≤ most' → NoStep most' st s → NoRun most st rest
    step_refused most most' st rest after s here le h tree run few =
        let (next, step, run') = first_step st rest after s tree here run in
        h next step (omega (arith, counted next after tree run'))

    pub refused_step : (kind : PatternErrorKind) (most most' d : ℕ) (st : State) (rest text after : List ℕ) (s : Symbol) → Agree st rest (state fresh [] d) text
        → symbol_at rest ≡ Some (s, after) → most ≤ most' → UnlessPatternMemory kind (NoStep most' st s) → UnlessPatternMemory kind (NoTree most d text)
    refused_step kind most most' d st rest text after s agree here le h =
        refused kind _ most d st rest text agree (step_refused most most' st rest after s here le) h

  end_refused : (most : ℕ) (st : State) (rest : List ℕ) → rest ≡ [] → finished st ≡ None → NoRun most st rest
  end_refused most st rest end e tree ([], end', run) few = cc
  end_refused most st rest end e tree (s ∷ ss, (rest', here, cut), run) few = no_end rest s rest' here end

  pub refused_end : (kind : PatternErrorKind) (most d : ℕ) (st : State) (rest text : List ℕ) → Agree st rest (state fresh [] d) text → rest ≡ []
      → UnlessPatternMemory kind (finished st ≡ None) → UnlessPatternMemory kind (NoTree most d text)
  refused_end kind most d st rest text agree end h = refused kind _ most d st rest text agree (end_refused most st rest end) h

  pub found_at_end : (d : ℕ) (st : State) (rest text : List ℕ) (tree : Tree) → Agree st rest (state fresh [] d) text → rest ≡ []
      → finished st ≡ Some tree → SpellsWithin posix symbol_at defined d text tree
  found_at_end d st rest text tree agree end e =
      let P : List ℕ → Type 0 = λ x. RunsText posix symbol_at defined st x tree in
      runs_spelled posix symbol_at defined d text tree (agree.on tree (subst P (sym end) ([], refl, e)))

  pub few_at_end : (most : ℕ) (st : State) (tree : Tree) → finished st ≡ Some tree → state_nodes st ≤ most → nodes tree ≤ most
  few_at_end most st tree e few = omega (arith, finished_nodes st tree e)

-- a count of few nodes is that of the tree
pub counted_at_end : (st : State) (tree : Tree) (n : ℕ) → finished st ≡ Some tree → state_nodes st ≡ n → n ≤ 65536 → n ≡ capped_nodes tree
counted_at_end st tree n e counted few = omega (arith, finished_nodes st tree e)

-- Names.

pub nothing_at : (fold : Bool) → symbol_at fold [] ≡ None
unfolding symbol_at
nothing_at fold = refl

pub stands_in : (how : ReadOptions) (definitions : Definitions) (left : ℕ) (n sub : List ℕ) (t : Tree) → (left ≡ 0 → ⊥) → get definitions n ≡ Some sub → SpellsIn how definitions (left - 1) sub t
    → StandsIn how definitions left n t
stands_in how definitions zero n sub t some found spells = some refl
stands_in how definitions (suc d) n sub t some found spells =
    let e : suc d - 1 ≡ d = omega arith in
    let P : ℕ → Type 0 = λ x. SpellsIn how definitions x sub t in
    (sub, found, subst P e spells)

pub none_left : (how : ReadOptions) (definitions : Definitions) (room left : ℕ) (n : List ℕ) → left ≡ 0 → NoneWithin room (StandsIn how definitions left n)
none_left how definitions room zero n e t stands few = stands
none_left how definitions room (suc d) n e t stands few = absurd (omega arith)

pub no_substitute : (how : ReadOptions) (definitions : Definitions) (room left : ℕ) (n sub : List ℕ) → get definitions n ≡ Some sub → NoneWithin room (SpellsIn how definitions (left - 1) sub)
    → NoneWithin room (StandsIn how definitions left n)
no_substitute how definitions room zero n sub found h t stands few = stands
no_substitute how definitions room (suc d) n sub found h t (sub', found', spells) few =
    let same : sub' ≡ sub = cc in
    let back : d ≡ suc d - 1 = omega arith in
    let P : List ℕ → Type 0 = λ x. SpellsIn how definitions d x t in
    let Q : ℕ → Type 0 = λ x. SpellsIn how definitions x sub t in
    h t (subst Q back (subst P same spells)) few

-- Steps.

pub steps_from : (how : ReadOptions) (definitions : Definitions) (s : Symbol) (st after : State) → IsPlain s → step_of how.posix s st ≡ Some after → StepsIn how definitions st s after
steps_from how definitions (item t) st after plain e = e
steps_from how definitions (name n) st after plain e = absurd plain
steps_from how definitions opening st after plain e = e
steps_from how definitions closing st after plain e = e
steps_from how definitions bar st after plain e = e
steps_from how definitions (sign braces f) st after plain e = e

steps_to : (how : ReadOptions) (definitions : Definitions) (s : Symbol) (st after : State) → IsPlain s → StepsIn how definitions st s after → step_of how.posix s st ≡ Some after
steps_to how definitions (item t) st after plain e = e
steps_to how definitions (name n) st after plain e = absurd plain
steps_to how definitions opening st after plain e = e
steps_to how definitions closing st after plain e = e
steps_to how definitions bar st after plain e = e
steps_to how definitions (sign braces f) st after plain e = e

-- how many more may be opened
abbrev pub left_of : State → ℕ
left_of (state here outer d) = d

pub steps_name : (how : ReadOptions) (definitions : Definitions) (st after : State) (n : List ℕ) (t : Tree) → StandsIn how definitions (left_of st) n t
    → Some (push t st) ≡ Some after → StepsIn how definitions st (name n) after
steps_name how definitions (state here outer zero) after n t stands e = stands
steps_name how definitions (state here outer (suc d)) after n t stands e = (t, stands, sym (some_is _ _ e))

abbrev NoStepIn : ReadOptions → Definitions → ℕ → State → Symbol → Type 0
NoStepIn how definitions most st s = (after : State) → StepsIn how definitions st s after → state_nodes after ≤ most → ⊥

pub no_push : (how : ReadOptions) (definitions : Definitions) (kind : PatternErrorKind) (most : ℕ) (st : State) (s : Symbol) (t : Tree) → UnlessPatternMemory kind (Some (push t st) ≡ None)
    → UnlessPatternMemory kind (NoStepIn how definitions most st s)
no_push how definitions kind most st s t h = unless_weaker kind _ (NoStepIn how definitions most st s) (λ e. absurd (never e)) h
  where
    never : Some (push t st) ≡ None → ⊥
    never e = cc

pub no_name_step : (how : ReadOptions) (definitions : Definitions) (kind : PatternErrorKind) (room : ℕ) (st : State) (n : List ℕ)
    → UnlessPatternMemory kind (NoneWithin room (StandsIn how definitions (left_of st) n)) → UnlessPatternMemory kind (NoStepIn how definitions (state_nodes st + room) st (name n))
no_name_step how definitions kind room st n h = unless_weaker kind _ (NoStepIn how definitions (state_nodes st + room) st (name n)) (go st) h
  where
    go : (st : State) → NoneWithin room (StandsIn how definitions (left_of st) n) → NoStepIn how definitions (state_nodes st + room) st (name n)
    go (state here outer zero) h after step few = step
    go (state here outer (suc d)) h after (t, stands, e) few =
        let k = ap state_nodes e in
        h t stands (omega (arith, push_grows here outer (suc d) t))

-- only a symbol that is no name steps so
pub plain_of : (posix : Bool) (s : Symbol) (st after : State) → step_of posix s st ≡ Some after → IsPlain s
plain_of posix (item t) st after e = tt
plain_of posix (name n) st after e = cc
plain_of posix opening st after e = tt
plain_of posix closing st after e = tt
plain_of posix bar st after e = tt
plain_of posix (sign braces f) st after e = tt

pub too_many_plain : (how : ReadOptions) (definitions : Definitions) (room n : ℕ) (st there : State) (s : Symbol) → AddsOne s → step_of how.posix s st ≡ Some there → n ≡ adds s st → room < n
    → NoStepIn how definitions (state_nodes st + room) st s
too_many_plain how definitions room n st there s more is e big after step few = omega (arith, step_grows how.posix s more st after (steps_to how definitions s st after (plain_of how.posix s st there is) step))

pub counted_plain : (posix : Bool) (room n : ℕ) (st there : State) (s : Symbol) → AddsOne s → step_of posix s st ≡ Some there → n ≡ adds s st → n ≤ room → room ≤ 65536 → state_nodes there ≡ state_nodes st + n
counted_plain posix room n st there s more is e few small = step_nodes posix s more st there is (omega arith) ∙ ap (λ k. state_nodes st + k) (sym e)

pub one_stands : (how : ReadOptions) (definitions : Definitions) (d : ℕ) (n : List ℕ) (t u : Tree) → Stands how.posix (symbol_at how.fold) (get definitions) d n t → Stands how.posix (symbol_at how.fold) (get definitions) d n u → t ≡ u
one_stands how definitions d n t u (sub, found, spells) (sub', found', spells') =
    let same : sub' ≡ sub = cc in
    let P : List ℕ → Type 0 = λ x. SpellsIn how definitions d x u in
    one_tree how.posix (symbol_at how.fold) (get definitions) (nothing_at how.fold) d sub t u spells (subst P same spells')

pub too_many_named : (how : ReadOptions) (definitions : Definitions) (room k : ℕ) (st : State) (n : List ℕ) (t : Tree) → StandsIn how definitions (left_of st) n t → k ≡ item_adds t st → room < k
    → NoStepIn how definitions (state_nodes st + room) st (name n)
too_many_named how definitions room k (state here outer zero) n t stands e big after step few = stands
too_many_named how definitions room k (state here outer (suc d)) n t stands e big after (u, stands', f) few =
    let same : u ≡ t = one_stands how definitions d n u t stands' stands in
    let there : after ≡ state (pushed t here) outer (suc d) = f ∙ ap (λ x. state (pushed x here) outer (suc d)) same in
    omega (arith, step_grows how.posix (item t) tt (state here outer (suc d)) after (ap Some (sym there)))
