-- The grammar and the reading from the left say the same.
use Rattle.std.proofs.Common.{◌≡◌, ℕ, zero, suc, ◌<◌, Bool, true, false, ◌&&◌, nat_lt, if◌then◌else◌, List, [], ◌∷◌, ◌++◌, Option, Some, None, refl, sym, ap, ◌∙◌, subst, append_assoc, append-nil, ◌⊎◌, inl, inr}
use Rattle.std.proofs.lemmas.Bool.{lt-ltb, ltb-true}
use Rattle.lex_semantics.specs.Tree.{Tree, Trees, Cat, Alt}
use Rattle.lexre_bytes.specs.Symbols.{Symbol, item, name, opening, closing, bar, sign, grouped, Lexer}
use Rattle.lexre.specs.Grammar.{IsItem, IsSeries, IsPattern, alone, group, defines, first, next, repeated, repeated_whole, only, choice, SpellsWithin}
use Rattle.lexre.specs.Running.{joined, series_tree, choice_tree, Signs, on_item, on_series, how_many, one_more, parts_before, operand, operand_signs, Frame, frame, fresh, State, state, pushed, onto_last, gathered, under_sign, finished, Stands, Steps, Runs, RunsText}

some_is : {A : Type 0} (x y : A) → Some x ≡ Some y → x ≡ y
some_is x y e = cc

pub chosen : {A : Type 0} (b : Bool) (x y : A) → (if b then Some x else None) ≡ Some y → (b ≡ true) × (x ≡ y)
chosen true x y e = (refl, some_is x y e)
chosen false x y e = cc

-- a sign that is not on the whole series applies to the last part
under_last : (braces posix : Bool) (done parts : List Tree) (last : Tree) (k : Signs) (outer : List Frame) (d : ℕ) → (braces && posix) ≡ false
    → under_sign braces posix (state (frame done parts (Some last) k) outer d) ≡ state (frame done parts (Some last) k) outer d
under_last false posix done parts last k outer d e = refl
under_last true false done parts last k outer d e = refl
under_last true true done parts last k outer d e = cc

-- parts of which the last stands apart
grouped_last : (made : Trees → Tree) (parts : List Tree) (last : Tree) → grouped made (parts ++ last ∷ []) ≡ joined made parts last
grouped_last made [] last = refl
grouped_last made (p ∷ []) last = refl
grouped_last made (p ∷ q ∷ ps) last = refl

last_same : (xs ys : List Tree) (x y : Tree) → xs ++ x ∷ [] ≡ ys ++ y ∷ [] → (xs ≡ ys) × (x ≡ y)
last_same [] [] x y e = (let same : x ≡ y = cc in (refl, same))
last_same [] (z ∷ []) x y e = cc
last_same [] (z ∷ w ∷ ys) x y e = cc
last_same (z ∷ []) [] x y e = cc
last_same (z ∷ w ∷ xs) [] x y e = cc
last_same (z ∷ xs) (w ∷ ys) x y e =
    let head : z ≡ w = cc in
    let tail : xs ++ x ∷ [] ≡ ys ++ y ∷ [] = cc in
    let both = last_same xs ys x y tail in
    (ap (λ t. t ∷ xs) head ∙ ap (λ ts. w ∷ ts) both.0, both.1)

module _ (posix : Bool) (symbol_at : Lexer) (defined : List ℕ → Option (List ℕ)) where
  abbrev Go : State → List Symbol → Tree → Type 0
  Go = Runs posix symbol_at defined

  -- what the run after a pattern may find: any last series with the last of these trees
  abbrev After : ℕ → List Tree → List Frame → List Symbol → Tree → Type 0
  After d ts outer rest tree =
      (done parts : List Tree) (last : Tree) (k : Signs) → ts ≡ done ++ series_tree parts last ∷ [] → Go (state (frame done parts (Some last) k) outer d) rest tree

  along : (st : State) (ss ss' : List Symbol) (tree : Tree) → ss ≡ ss' → Go st ss tree → Go st ss' tree
  along st ss ss' tree e run = let P : List Symbol → Type 0 = λ x. Go st x tree in subst P e run

  signs_go : (done parts : List Tree) (last : Tree) (k : Signs) (outer : List Frame) (d : ℕ) (f : Tree → Tree) → how_many k < 64
      → onto_last f (state (frame done parts (Some last) k) outer d) ≡ Some (state (frame done parts (Some (f last)) (one_more k)) outer d)
  signs_go done parts last k outer d f below = rw (lt-ltb (how_many k) 64 below) refl

  -- the same symbols in another grouping
  regroup : (st : State) (ss more rest : List Symbol) (tree : Tree) → Go st (ss ++ (more ++ rest)) tree → Go st ((ss ++ more) ++ rest) tree
  regroup st ss more rest tree run = along st _ _ tree (sym (append_assoc ss more rest)) run

  -- an interval applies to the whole series under `posix` alone
  over_series : (d : ℕ) (ss : List Symbol) (ts : List Tree) (n : ℕ) (k : Option ℕ) → IsSeries posix symbol_at defined d ss ts n k → k ≡ None → posix ≡ true
  over_series _ _ _ _ _ (first d ss t it) e = cc
  over_series _ _ _ _ _ (next d ss ts n k more t before it) e = cc
  over_series _ _ _ _ _ (repeated d ss ts t n k braces f bare before below) e = cc
  over_series _ _ _ _ _ (repeated_whole d ss ts n k braces f over which before below) e = over

  -- and then the series is one part
  whole_alone : (d : ℕ) (ss : List Symbol) (ts : List Tree) (n : ℕ) (k : Option ℕ) → IsSeries posix symbol_at defined d ss ts n k → k ≡ None
      → (parts : List Tree) (last : Tree) → ts ≡ parts ++ last ∷ [] → parts ≡ []
  whole_alone _ _ _ _ _ (first d ss t it) e parts last is = cc
  whole_alone _ _ _ _ _ (next d ss ts n k more t before it) e parts last is = cc
  whole_alone _ _ _ _ _ (repeated d ss ts t n k braces f bare before below) e parts last is = cc
  whole_alone _ _ _ _ _ (repeated_whole d ss ts n k braces f over which before below) e parts last is = sym (last_same [] parts (f (grouped Cat ts)) last is).0

  whole_step : (braces : Bool) (done parts : List Tree) (last : Tree) (n : ℕ) (k : Option ℕ) (outer : List Frame) (d : ℕ) (f : Tree → Tree)
      → posix ≡ true → (braces ≡ true) ⊎ (k ≡ None) → (k ≡ None → parts ≡ []) → n < 64
      → onto_last f (under_sign braces posix (state (frame done parts (Some last) (n, k)) outer d)) ≡ Some (state (frame done [] (Some (f (series_tree parts last))) (on_series (suc n))) outer d)
  whole_step true done parts last n k outer d f over which one below =
      ap (λ b. onto_last f (gathered b (state (frame done parts (Some last) (n, k)) outer d))) over
      ∙ signs_go done [] (series_tree parts last) (on_series n) outer d f below
  whole_step false done parts last n k outer d f over (inl e) one below = cc
  whole_step false done parts last n (Some k) outer d f over (inr e) one below = cc
  whole_step false done [] last n None outer d f over (inr e) one below = signs_go done [] last (on_series n) outer d f below
  whole_step false done (p ∷ ps) last n None outer d f over (inr e) one below = (let some : p ∷ ps ≡ [] = one e in cc)

  mutual
    item_runs : (d : ℕ) (ss : List Symbol) (t : Tree) → IsItem posix symbol_at defined d ss t
        → (here : Frame) (outer : List Frame) (rest : List Symbol) (tree : Tree)
        → Go (state (pushed t here) outer d) rest tree → Go (state here outer d) (ss ++ rest) tree
    item_runs _ _ _ (alone d t) here outer rest tree run = (state (pushed t here) outer d, refl, run)
    item_runs _ _ _ (group d ss ts inside) here outer rest tree run = (
      state fresh (here ∷ outer) d,
      refl,
      regroup (state fresh (here ∷ outer) d) ss (closing ∷ []) rest tree
          (pattern_runs d ss ts inside (here ∷ outer) (closing ∷ rest) tree (λ done parts last k e. (
            state (pushed (choice_tree done (series_tree parts last)) here) outer (suc d),
            refl,
            (let P : Tree → Type 0 = λ x. Go (state (pushed x here) outer (suc d)) rest tree in
                subst P (ap (grouped Alt) e ∙ grouped_last Alt done (series_tree parts last)) run),
          ))),
    )
    item_runs _ _ _ (defines d n text ss ts found cut inside) here outer rest tree run = (
      state (pushed (grouped Alt ts) here) outer (suc d),
      (grouped Alt ts, (text, found, (ss, ts, cut, inside, refl)), refl),
      run,
    )

    series_runs : (d : ℕ) (ss : List Symbol) (ts : List Tree) (n : ℕ) (k : Option ℕ) → IsSeries posix symbol_at defined d ss ts n k
        → (done : List Tree) (outer : List Frame) (rest : List Symbol) (tree : Tree)
        → ((parts : List Tree) (last : Tree) → ts ≡ parts ++ last ∷ [] → Go (state (frame done parts (Some last) (n, k)) outer d) rest tree)
        → Go (state (frame done [] None (on_item 0 0)) outer d) (ss ++ rest) tree
    series_runs _ _ _ _ _ (first d ss t it) done outer rest tree run =
        item_runs d ss t it (frame done [] None (on_item 0 0)) outer rest tree (run [] t refl)
    series_runs _ _ _ _ _ (next d ss ts n k more t before it) done outer rest tree run =
        regroup (state (frame done [] None (on_item 0 0)) outer d) ss more rest tree
        (series_runs d ss ts n k before done outer (more ++ rest) tree (λ parts last e.
        item_runs d more t it (frame done parts (Some last) (n, k)) outer rest tree (run (parts ++ last ∷ []) t (ap (λ x. x ++ t ∷ []) e))))
    series_runs _ _ _ _ _ (repeated d ss ts t n k braces f bare before below) done outer rest tree run =
        regroup (state (frame done [] None (on_item 0 0)) outer d) ss (sign braces f ∷ []) rest tree
        (series_runs d ss (ts ++ t ∷ []) n (Some k) before done outer (sign braces f ∷ rest) tree (λ parts last e. (
          state (frame done parts (Some (f last)) (on_item n (suc k))) outer d,
          ap (onto_last f) (under_last braces posix done parts last (on_item n k) outer d bare) ∙ signs_go done parts last (on_item n k) outer d f below,
          run parts (f last) (let both = last_same ts parts t last e in ap (λ x. x ++ f t ∷ []) both.0 ∙ ap (λ x. parts ++ f x ∷ []) both.1),
        )))
    series_runs _ _ _ _ _ (repeated_whole d ss ts n k braces f over which before below) done outer rest tree run =
        regroup (state (frame done [] None (on_item 0 0)) outer d) ss (sign braces f ∷ []) rest tree
        (series_runs d ss ts n k before done outer (sign braces f ∷ rest) tree (λ parts last e. (
          state (frame done [] (Some (f (series_tree parts last))) (on_series (suc n))) outer d,
          whole_step braces done parts last n k outer d f over which (λ none. whole_alone d ss ts n k before none parts last e) below,
          run [] (f (series_tree parts last)) (ap (λ x. f (grouped Cat x) ∷ []) e ∙ ap (λ x. f x ∷ []) (grouped_last Cat parts last)),
        )))

    pattern_runs : (d : ℕ) (ss : List Symbol) (ts : List Tree) → IsPattern posix symbol_at defined d ss ts
        → (outer : List Frame) (rest : List Symbol) (tree : Tree)
        → After d ts outer rest tree → Go (state fresh outer d) (ss ++ rest) tree
    pattern_runs _ _ _ (only d ss parts n k series) outer rest tree run =
        series_runs d ss parts n k series [] outer rest tree (λ ps last e.
        run [] ps last (n, k) (ap (λ x. grouped Cat x ∷ []) e ∙ ap (λ x. x ∷ []) (grouped_last Cat ps last)))
    pattern_runs _ _ _ (choice d ss ts more parts n k before series) outer rest tree run =
        regroup (state fresh outer d) ss (bar ∷ more) rest tree
        (pattern_runs d ss ts before outer (bar ∷ more ++ rest) tree (λ done ps last' k' e. (
          state (frame (done ++ series_tree ps last' ∷ []) [] None (on_item 0 0)) outer d,
          refl,
          series_runs d more parts n k series (done ++ series_tree ps last' ∷ []) outer rest tree (λ qs last e'.
              run (done ++ series_tree ps last' ∷ []) qs last (n, k)
              (ap (λ x. x ++ grouped Cat parts ∷ []) e ∙ ap (λ x. (done ++ series_tree ps last' ∷ []) ++ x ∷ []) (ap (grouped Cat) e' ∙ grouped_last Cat qs last))),
        )))

  -- what the grammar gives is what reading from the left gives
  pub spelled_runs : (d : ℕ) (text : List ℕ) (tree : Tree) → SpellsWithin posix symbol_at defined d text tree → RunsText posix symbol_at defined (state fresh [] d) text tree
  spelled_runs d text tree (ss, ts, cut, is, e) = (
    ss,
    cut,
    along (state fresh [] d) (ss ++ []) ss tree (append-nil ss)
        (pattern_runs d ss ts is [] [] tree (λ done parts last k f. ap Some (sym (grouped_last Alt done (series_tree parts last)) ∙ ap (grouped Alt) (sym f) ∙ sym e))),
  )

  -- ---- the other way: what was read so far is so far as the grammar has it

  -- the finished series before the one that is being read
  IsBefore : ℕ → List Symbol → List Tree → Type 0
  IsBefore d pre done =
      ((pre ≡ []) × (done ≡ []))
      ⊎ ((ss : List Symbol) × IsPattern posix symbol_at defined d ss done × (pre ≡ ss ++ bar ∷ []))

  abbrev InFrame : ℕ → List Symbol → Frame → Type 0
  InFrame d pre (frame done parts None k) = IsBefore d pre done × (parts ≡ [])
  InFrame d pre (frame done parts (Some t) k) =
      (before : List Symbol) × (ss : List Symbol) × IsBefore d before done × IsSeries posix symbol_at defined d ss (parts ++ t ∷ []) k.0 k.1 × (pre ≡ before ++ ss)

  -- `root` is how many may be opened in the outermost pattern
  abbrev InFrames : ℕ → List Symbol → Frame → List Frame → ℕ → Type 0
  InFrames root pre here [] d = (d ≡ root) × InFrame d pre here
  InFrames root pre here (f ∷ fs) d =
      (p : List Symbol) × (q : List Symbol) × (pre ≡ p ++ opening ∷ q) × InFrame d q here × InFrames root p f fs (suc d)

  abbrev InState : ℕ → List Symbol → State → Type 0
  InState root pre (state here outer d) = InFrames root pre here outer d

  -- a series after those before it is a pattern
  whole : (d : ℕ) (before ss : List Symbol) (done parts : List Tree) (t : Tree) (k : Signs) → IsBefore d before done
      → IsSeries posix symbol_at defined d ss (parts ++ t ∷ []) k.0 k.1 → IsPattern posix symbol_at defined d (before ++ ss) (done ++ series_tree parts t ∷ [])
  unfolding IsBefore
  whole d before ss done parts t k (inl (e, f)) series =
      let P : Tree → Type 0 = λ x. IsPattern posix symbol_at defined d ss (x ∷ []) in
      rw (e, f) (subst P (grouped_last Cat parts t) (only d ss (parts ++ t ∷ []) k.0 k.1 series))
  whole d before ss done parts t k (inr (ss', is, e)) series =
      let P : Tree → Type 0 = λ x. IsPattern posix symbol_at defined d (ss' ++ bar ∷ ss) (done ++ x ∷ []) in
      rw (e, append_assoc) (subst P (grouped_last Cat parts t) (choice d ss' done ss (parts ++ t ∷ []) k.0 k.1 is series))

  item_in : (d : ℕ) (pre s : List Symbol) (here : Frame) (t : Tree) → InFrame d pre here → IsItem posix symbol_at defined d s t → InFrame d (pre ++ s) (pushed t here)
  item_in d pre s (frame done parts None k) t (before, e) it = rw e (pre, s, before, first d s t it, refl)
  item_in d pre s (frame done parts (Some last) k) t (before, ss, is, series, e) it =
      (before, ss ++ s, is, next d ss (parts ++ last ∷ []) k.0 k.1 s t series it, ap (λ x. x ++ s) e ∙ append_assoc before ss s)

  item_in_frames : (root d : ℕ) (pre s : List Symbol) (here : Frame) (outer : List Frame) (t : Tree) → InFrames root pre here outer d
      → IsItem posix symbol_at defined d s t → InFrames root (pre ++ s) (pushed t here) outer d
  item_in_frames root d pre s here [] t (e, is) it = (e, item_in d pre s here t is it)
  item_in_frames root d pre s here (f ∷ fs) t (p, q, e, is, rest) it =
      (p, q ++ s, ap (λ x. x ++ s) e ∙ append_assoc p (opening ∷ q) s, item_in d q s here t is it, rest)

  -- the same of a change of the last part
  frame_changed : (root d : ℕ) (pre s : List Symbol) (here after : Frame) (outer : List Frame)
      → ((q : List Symbol) → InFrame d q here → InFrame d (q ++ s) after)
      → InFrames root pre here outer d → InFrames root (pre ++ s) after outer d
  frame_changed root d pre s here after [] change (e, is) = (e, change pre is)
  frame_changed root d pre s here after (f ∷ fs) change (p, q, e, is, rest) =
      (p, q ++ s, ap (λ x. x ++ s) e ∙ append_assoc p (opening ∷ q) s, change q is, rest)

  open_in : (root : ℕ) (pre : List Symbol) (here : Frame) (outer : List Frame) (d : ℕ) → InFrames root pre here outer (suc d)
      → InFrames root (pre ++ opening ∷ []) fresh (here ∷ outer) d
  unfolding IsBefore
  open_in root pre here outer d is = (pre, [], refl, (inl (refl, refl), refl), is)

  close_in : (root : ℕ) (pre : List Symbol) (done parts : List Tree) (t : Tree) (k : Signs) (f : Frame) (fs : List Frame) (d : ℕ)
      → InFrames root pre (frame done parts (Some t) k) (f ∷ fs) d
      → InFrames root (pre ++ closing ∷ []) (pushed (choice_tree done (series_tree parts t)) f) fs (suc d)
  close_in root pre done parts t k f fs d (p, q, e, (before, ss, is, series, e'), rest) =
      let inside : IsPattern posix symbol_at defined d q (done ++ series_tree parts t ∷ []) = rw e' (whole d before ss done parts t k is series) in
      let regrouped : pre ++ closing ∷ [] ≡ p ++ ((opening ∷ q) ++ closing ∷ []) = ap (λ x. x ++ closing ∷ []) e ∙ append_assoc p (opening ∷ q) (closing ∷ []) in
      let P : Tree → Type 0 = λ x. IsItem posix symbol_at defined (suc d) ((opening ∷ q) ++ closing ∷ []) x in
      rw regrouped (item_in_frames root (suc d) p ((opening ∷ q) ++ closing ∷ []) f fs (choice_tree done (series_tree parts t)) rest
      (subst P (grouped_last Alt done (series_tree parts t)) (group d q (done ++ series_tree parts t ∷ []) inside)))

  bar_in : (d : ℕ) (q : List Symbol) (done parts : List Tree) (t : Tree) (k : Signs) → InFrame d q (frame done parts (Some t) k)
      → InFrame d (q ++ bar ∷ []) (frame (done ++ series_tree parts t ∷ []) [] None (on_item 0 0))
  unfolding IsBefore
  bar_in d q done parts t k (before, ss, is, series, e) =
      (inr (q, rw e (whole d before ss done parts t k is series), refl), refl)

  whole_sign : (d : ℕ) (ss : List Symbol) (parts : List Tree) (t : Tree) (n : ℕ) (f : Tree → Tree) → IsSeries posix symbol_at defined d ss (parts ++ t ∷ []) n None → n < 64
      → IsSeries posix symbol_at defined d (ss ++ sign false f ∷ []) (parts ++ f t ∷ []) (suc n) None
  whole_sign d ss [] t n f series below = repeated_whole d ss (t ∷ []) n None false f (over_series d ss (t ∷ []) n None series refl) (inr refl) series below
  whole_sign d ss (p ∷ ps) t n f series below =
      let some : p ∷ ps ≡ [] = whole_alone d ss ((p ∷ ps) ++ t ∷ []) n None series refl (p ∷ ps) t refl in cc

  sign_in : (d : ℕ) (q : List Symbol) (done parts : List Tree) (t : Tree) (k : Signs) (f : Tree → Tree) → how_many k < 64 → InFrame d q (frame done parts (Some t) k)
      → InFrame d (q ++ sign false f ∷ []) (frame done parts (Some (f t)) (one_more k))
  sign_in d q done parts t (n, Some k) f below (before, ss, is, series, e) =
      (before, ss ++ sign false f ∷ [], is, repeated d ss parts t n k false f refl series below, ap (λ x. x ++ sign false f ∷ []) e ∙ append_assoc before ss (sign false f ∷ []))
  sign_in d q done parts t (n, None) f below (before, ss, is, series, e) =
      (before, ss ++ sign false f ∷ [], is, whole_sign d ss parts t n f series below, ap (λ x. x ++ sign false f ∷ []) e ∙ append_assoc before ss (sign false f ∷ []))

  interval_in : (d : ℕ) (q : List Symbol) (done parts : List Tree) (t : Tree) (k : Signs) (f : Tree → Tree) → how_many (operand_signs posix k) < 64
      → InFrame d q (frame done parts (Some t) k)
      → InFrame d (q ++ sign true f ∷ []) (frame done (parts_before posix parts) (Some (f (operand posix parts t))) (one_more (operand_signs posix k)))
  interval_in d q done parts t k f below (before, ss, is, series, e) = go posix refl k below series
    where
      here : q ++ sign true f ∷ [] ≡ before ++ (ss ++ sign true f ∷ [])
      here = ap (λ x. x ++ sign true f ∷ []) e ∙ append_assoc before ss (sign true f ∷ [])

      no_both : {A : Type 0} → posix ≡ false → posix ≡ true → A
      no_both a b = let e : false ≡ true = sym a ∙ b in cc

      go : (b : Bool) → posix ≡ b → (k : Signs) → how_many (operand_signs b k) < 64 → IsSeries posix symbol_at defined d ss (parts ++ t ∷ []) k.0 k.1
          → InFrame d (q ++ sign true f ∷ []) (frame done (parts_before b parts) (Some (f (operand b parts t))) (one_more (operand_signs b k)))
      go true over k below series = (
        before,
        ss ++ sign true f ∷ [],
        is,
        (let Q : Tree → Type 0 = λ x. IsSeries posix symbol_at defined d (ss ++ sign true f ∷ []) (f x ∷ []) (suc k.0) None in
            subst Q (grouped_last Cat parts t) (repeated_whole d ss (parts ++ t ∷ []) k.0 k.1 true f over (inl refl) series below)),
        here,
      )
      go false bare (n, Some k) below series = (before, ss ++ sign true f ∷ [], is, repeated d ss parts t n k true f bare series below, here)
      go false bare (n, None) below series = no_both bare (over_series d ss (parts ++ t ∷ []) n None series refl)

  at_state : (root : ℕ) (pre : List Symbol) (st after : State) → st ≡ after → InState root pre st → InState root pre after
  at_state root pre st after e is = let P : State → Type 0 = λ x. InState root pre x in subst P e is

  sign_step : (root : ℕ) (pre : List Symbol) (done parts : List Tree) (t : Tree) (k : Signs) (outer : List Frame) (d : ℕ) (f : Tree → Tree) (after : State)
      → InFrames root pre (frame done parts (Some t) k) outer d
      → onto_last f (state (frame done parts (Some t) k) outer d) ≡ Some after → InState root (pre ++ sign false f ∷ []) after
  sign_step root pre done parts t k outer d f after is e =
      let both = chosen (nat_lt (how_many k) 64) (state (frame done parts (Some (f t)) (one_more k)) outer d) after e in
      at_state root (pre ++ sign false f ∷ []) (state (frame done parts (Some (f t)) (one_more k)) outer d) after both.1
      (frame_changed root d pre (sign false f ∷ []) (frame done parts (Some t) k) (frame done parts (Some (f t)) (one_more k)) outer
      (λ q. sign_in d q done parts t k f (ltb-true (how_many k) 64 both.0)) is)

  interval_step : (root : ℕ) (pre : List Symbol) (done parts : List Tree) (t : Tree) (k : Signs) (outer : List Frame) (d : ℕ) (f : Tree → Tree) (after : State)
      → InFrames root pre (frame done parts (Some t) k) outer d
      → onto_last f (gathered posix (state (frame done parts (Some t) k) outer d)) ≡ Some after → InState root (pre ++ sign true f ∷ []) after
  interval_step root pre done parts t k outer d f after is e =
      let new : Frame = frame done (parts_before posix parts) (Some (f (operand posix parts t))) (one_more (operand_signs posix k)) in
      let both = chosen (nat_lt (how_many (operand_signs posix k)) 64) (state new outer d) after e in
      at_state root (pre ++ sign true f ∷ []) (state new outer d) after both.1
      (frame_changed root d pre (sign true f ∷ []) (frame done parts (Some t) k) new outer
      (λ q. interval_in d q done parts t k f (ltb-true (how_many (operand_signs posix k)) 64 both.0)) is)

  named_item : (d : ℕ) (n : List ℕ) (t : Tree) → Stands posix symbol_at defined d n t → IsItem posix symbol_at defined (suc d) (name n ∷ []) t
  named_item d n t (text, found, (ss, ts, cut, is, e)) = rw e (defines d n text ss ts found cut is)

  step_in : (root : ℕ) (pre : List Symbol) (s : Symbol) (st after : State) → InState root pre st → Steps posix symbol_at defined st s after
      → InState root (pre ++ s ∷ []) after
  step_in root pre (item t) (state here outer d) after is e =
      at_state root (pre ++ item t ∷ []) (state (pushed t here) outer d) after (some_is _ _ e)
      (item_in_frames root d pre (item t ∷ []) here outer t is (alone d t))
  step_in root pre (name n) (state here outer zero) after is e = absurd e
  step_in root pre (name n) (state here outer (suc d)) after is (t, stands, e) =
      at_state root (pre ++ name n ∷ []) (state (pushed t here) outer (suc d)) after (sym e)
      (item_in_frames root (suc d) pre (name n ∷ []) here outer t is (named_item d n t stands))
  step_in root pre opening (state here outer zero) after is e = cc
  step_in root pre opening (state here outer (suc d)) after is e =
      at_state root (pre ++ opening ∷ []) (state fresh (here ∷ outer) d) after (some_is _ _ e) (open_in root pre here outer d is)
  step_in root pre closing (state (frame done parts (Some t) k) (f ∷ fs) d) after is e =
      at_state root (pre ++ closing ∷ []) (state (pushed (choice_tree done (series_tree parts t)) f) fs (suc d)) after (some_is _ _ e)
      (close_in root pre done parts t k f fs d is)
  step_in root pre closing (state (frame done parts (Some t) k) [] d) after is e = cc
  step_in root pre closing (state (frame done parts None k) outer d) after is e = cc
  step_in root pre bar (state (frame done parts None k) outer d) after is e = cc
  step_in root pre bar (state (frame done parts (Some t) k) outer d) after is e =
      at_state root (pre ++ bar ∷ []) (state (frame (done ++ series_tree parts t ∷ []) [] None (on_item 0 0)) outer d) after (some_is _ _ e)
      (frame_changed root d pre (bar ∷ []) (frame done parts (Some t) k) (frame (done ++ series_tree parts t ∷ []) [] None (on_item 0 0)) outer
      (λ q. bar_in d q done parts t k) is)
  step_in root pre (sign false f) (state (frame done parts None k) outer d) after is e = cc
  step_in root pre (sign false f) (state (frame done parts (Some t) k) outer d) after is e = sign_step root pre done parts t k outer d f after is e
  step_in root pre (sign true f) (state (frame done parts None k) outer d) after is e = cc
  step_in root pre (sign true f) (state (frame done parts (Some t) k) outer d) after is e = interval_step root pre done parts t k outer d f after is e

  -- a pattern with this tree
  abbrev HasTree : ℕ → List Symbol → Tree → Type 0
  HasTree d ss tree = (ts : List Tree) × IsPattern posix symbol_at defined d ss ts × (tree ≡ grouped Alt ts)

  end_in : (root : ℕ) (pre : List Symbol) (st : State) (tree : Tree) → InState root pre st → finished st ≡ Some tree → HasTree root pre tree
  end_in root pre (state (frame done parts None k) outer d) tree is e = cc
  end_in root pre (state (frame done parts (Some t) k) (f ∷ fs) d) tree is e = cc
  end_in root pre (state (frame done parts (Some t) k) [] d) tree (r, (before, ss, is, series, e')) e = (
    done ++ series_tree parts t ∷ [],
    (let inside : IsPattern posix symbol_at defined d pre (done ++ series_tree parts t ∷ []) = rw e' (whole d before ss done parts t k is series) in
        let P : ℕ → Type 0 = λ x. IsPattern posix symbol_at defined x pre (done ++ series_tree parts t ∷ []) in subst P r inside),
    sym (some_is _ _ e) ∙ sym (grouped_last Alt done (series_tree parts t)),
  )

  runs_in : (root : ℕ) (pre ss : List Symbol) (st : State) (tree : Tree) → InState root pre st → Go st ss tree → HasTree root (pre ++ ss) tree
  runs_in root pre [] st tree is run = rw (append-nil pre) (end_in root pre st tree is run)
  runs_in root pre (s ∷ ss) st tree is (after, e, run) =
      let all : HasTree root ((pre ++ s ∷ []) ++ ss) tree = runs_in root (pre ++ s ∷ []) ss after tree (step_in root pre s st after is e) run in
      let P : List Symbol → Type 0 = λ x. HasTree root x tree in subst P (append_assoc pre (s ∷ []) ss) all

  pub runs_spelled : (d : ℕ) (text : List ℕ) (tree : Tree) → RunsText posix symbol_at defined (state fresh [] d) text tree → SpellsWithin posix symbol_at defined d text tree
  unfolding IsBefore
  runs_spelled d text tree (ss, cut, run) =
      let all = runs_in d [] ss (state fresh [] d) tree (refl, (inl (refl, refl), refl)) run in
      (ss, all.0, cut, all.1, all.2)
