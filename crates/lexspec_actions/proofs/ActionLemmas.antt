-- Steps of the reader of statements, against whole texts.
use Rattle.std.proofs.Common.{◌≡◌, ℕ, zero, suc, ◌+◌, ◌-◌, ◌<◌, length, true, false, List, [], ◌∷◌, ◌++◌, Option, Some, None, refl, sym, ap, ◌∙◌, subst, arith}
use Rattle.lex_semantics.specs.Reading.{IsReadAs}
use Rattle.lexspec_actions.specs.Bytes.{after_spaces}
use Rattle.lex_semantics.specs.Spec.{Statement}
use Rattle.lexspec_actions.specs.Statements.{then_all}
use Rattle.lexspec_actions.specs.Names.{Scope}
use Rattle.lexspec_actions.specs.ActionSteps.{Piece, semicolon, opens, closes, says, Said, said_by, statement_at, piece_from, piece_at, are_balanced, statements_of, NoPiece}
use Rattle.lexspec_actions.specs.Actions.{SpellsStatements}
use Rattle.lexspec_actions.proofs.GrammarLaws.{to_steps, from_steps}
use Rattle.lexspec_actions.specs.Outcome.{UnlessMemory}
use Rattle.lexre_bytes.specs.declared.refusals.SpecErrorKind.{SpecErrorKind}
use Rattle.std.proofs.lemmas.Bool.{ne_eqb, eqb-true}
use Rattle.lexre_bytes.proofs.MemoryLaws.{unless_memory}

some_is : {A : Type 0} (x y : A) → Some x ≡ Some y → x ≡ y
some_is x y e = cc

pair_is : (p q : Piece) (x y : List ℕ) → ◌≡◌ {A = Option (Piece × List ℕ)} (Some (p, x)) (Some (q, y)) → (p ≡ q) × (x ≡ y)
pair_is p q x y e =
    let same = some_is {A = Piece × List ℕ} (p, x) (q, y) e in
    (ap (λ (z : Piece × List ℕ). z.0) same, ap (λ (z : Piece × List ℕ). z.1) same)

pub then_more : (before a b : List Statement) → then_all before (a ++ b) ≡ then_all (then_all before a) b
then_more before [] b = refl
then_more before (s ∷ a) b = then_more _ a b

pub nothing_left : (s : List ℕ) → length s ≡ 0 → s ≡ []
nothing_left [] h = refl
nothing_left (b ∷ bs) h = absurd (omega arith)

module _ (known : Scope) where
  -- n braces are open, these statements stand before, and the text has only pieces that give the whole
  abbrev pub Goes : ℕ → List Statement → List ℕ → List Statement → Type 0
  Goes n before text ss =
      (ps : List Piece) × IsReadAs (piece_at known) NoPiece text ps × (are_balanced n ps ≡ true) × (ss ≡ then_all before (statements_of ps))

  pub record Agree (n : ℕ) (before : List Statement) (rest text : List ℕ) : Type 0 where
    pub on : (ss : List Statement) → Goes n before rest ss → SpellsStatements known text ss
    pub back : (ss : List Statement) → SpellsStatements known text ss → Goes n before rest ss

  pub agree_first : (text : List ℕ) → Agree 0 [] text text
  agree_first text = record { on = λ ss goes. from_steps known text ss goes; back = λ ss spells. to_steps known text ss spells }

  none_first : (p : Piece) (rest : List ℕ) → piece_from known [] ≡ Some (p, rest) → ⊥
  unfolding piece_from
  none_first p rest e = cc

  pub no_piece : (text : List ℕ) (p : Piece) (rest : List ℕ) → piece_at known text ≡ Some (p, rest) → after_spaces text ≡ [] → ⊥
  no_piece text p rest here end = none_first p rest (ap (piece_from known) (sym end) ∙ here)

  pub piece_said : (t : List ℕ) (c : ℕ) (u rest : List ℕ) (s : Said) → t ≡ c ∷ u → (c ≡ 59 → ⊥) → (c ≡ 123 → ⊥) → (c ≡ 125 → ⊥)
      → ◌≡◌ {A = Option (Said × List ℕ)} (statement_at known t) (Some (s, rest)) → ◌≡◌ {A = Option (Piece × List ℕ)} (piece_from known t) (Some (says s, rest))
  unfolding piece_from
  piece_said t c u rest s e one two three said =
      let at : ◌≡◌ {A = Option (Said × List ℕ)} (statement_at known (c ∷ u)) (Some (s, rest)) = ap (statement_at known) (sym e) ∙ said in
      rw (e, ne_eqb c 59 one, ne_eqb c 123 two, ne_eqb c 125 three, at) refl

  -- what is left after a piece
  pub record PieceStep (n : ℕ) (before : List Statement) (p : Piece) (n' : ℕ) (before' : List Statement) : Type 0 where
    pub braces : (ps : List Piece) → are_balanced n (p ∷ ps) ≡ are_balanced n' ps
    pub said : (ps : List Piece) → then_all before (statements_of (p ∷ ps)) ≡ then_all before' (statements_of ps)

  pub goes_on : (n n' : ℕ) (before before' : List Statement) (rest after : List ℕ) (p : Piece) (ss : List Statement)
      → piece_at known rest ≡ Some (p, after) → PieceStep n before p n' before' → Goes n' before' after ss → Goes n before rest ss
  goes_on n n' before before' rest after p ss here step (ps, cut, balanced, same) =
      (p ∷ ps, (after, here, cut), step.braces ps ∙ balanced, same ∙ sym (step.said ps))

  pub goes_back : (n n' : ℕ) (before before' : List Statement) (rest after : List ℕ) (p : Piece) (ss : List Statement)
      → piece_at known rest ≡ Some (p, after) → PieceStep n before p n' before' → Goes n before rest ss → Goes n' before' after ss
  goes_back n n' before before' rest after p ss here step ([], done, balanced, same) = absurd (no_piece rest p after here done)
  goes_back n n' before before' rest after p ss here step (q ∷ ps, (left, there, cut), balanced, same) =
      let is = pair_is q p left after (sym there ∙ here) in
      let piece = is.0 in
      let P : List ℕ → Type 0 = λ x. IsReadAs (piece_at known) NoPiece x ps in
      let Q : Piece → Type 0 = λ x. are_balanced n (x ∷ ps) ≡ true in
      let R : Piece → Type 0 = λ x. ss ≡ then_all before (statements_of (x ∷ ps)) in
      (ps, subst P is.1 cut, sym (step.braces ps) ∙ subst Q piece balanced, subst R piece same ∙ step.said ps)

  pub agree_step : (n n' : ℕ) (before before' : List Statement) (rest after text : List ℕ) (p : Piece)
      → piece_at known rest ≡ Some (p, after) → PieceStep n before p n' before' → Agree n before rest text → Agree n' before' after text
  agree_step n n' before before' rest after text p here step agree = record {
    on = λ ss goes. agree.on ss (goes_on n n' before before' rest after p ss here step goes);
    back = λ ss spells. goes_back n n' before before' rest after p ss here step (agree.back ss spells);
  }

  pub step_semicolon : (n : ℕ) (before : List Statement) → PieceStep n before semicolon n before
  step_semicolon n before = record { braces = λ ps. refl; said = λ ps. refl }

  pub step_opens : (n : ℕ) (before : List Statement) → PieceStep n before opens (n + 1) before
  step_opens n before = record { braces = λ ps. let e : suc n ≡ n + 1 = omega arith in ap (λ k. are_balanced k ps) e; said = λ ps. refl }

  pub step_closes : (n : ℕ) (before : List Statement) → (n ≡ 0 → ⊥) → PieceStep n before closes (n - 1) before
  step_closes zero before some = absurd (some refl)
  step_closes (suc n) before some = record { braces = λ ps. let e : n ≡ suc n - 1 = omega arith in ap (λ k. are_balanced k ps) e; said = λ ps. refl }

  pub step_says : (n : ℕ) (before : List Statement) (s : Said) → PieceStep n before (says s) n (then_all before (said_by s))
  step_says n before s = record { braces = λ ps. refl; said = λ ps. then_more before (said_by s) (statements_of ps) }

  -- what is refused spells nothing
  abbrev pub SpellsNone : List ℕ → Type 0
  SpellsNone text = (ss : List Statement) → SpellsStatements known text ss → ⊥

  pub refused_piece : (kind : SpecErrorKind) (n : ℕ) (before : List Statement) (rest text : List ℕ) → Agree n before rest text → (length (after_spaces rest) ≡ 0 → ⊥)
      → UnlessMemory kind (piece_at known rest ≡ None) → UnlessMemory kind (SpellsNone text)
  refused_piece kind n before rest text agree some h = unless_memory kind _ (SpellsNone text) (λ none ss spells. go ss none (agree.back ss spells)) h
    where
      go : (ss : List Statement) → piece_at known rest ≡ None → Goes n before rest ss → ⊥
      go ss none ([], done, balanced, same) = some (ap length done)
      go ss none (q ∷ ps, (left, there, cut), balanced, same) = cc

  pub refused_close : (n : ℕ) (before : List Statement) (rest after text : List ℕ) → n ≡ 0 → Agree n before rest text → piece_at known rest ≡ Some (closes, after) → SpellsNone text
  refused_close (suc n) before rest after text none agree here ss spells = absurd (omega arith)
  refused_close zero before rest after text none agree here ss spells = go (agree.back ss spells)
    where
      go : Goes 0 before rest ss → ⊥
      go ([], done, balanced, same) = no_piece rest closes after here done
      go (q ∷ ps, (left, there, cut), balanced, same) =
          let piece = (pair_is q closes left after (sym there ∙ here)).0 in
          let Q : Piece → Type 0 = λ x. are_balanced 0 (x ∷ ps) ≡ true in
          let e : false ≡ true = subst Q piece balanced in cc

  ended : (n : ℕ) (before : List Statement) (rest : List ℕ) (ss : List Statement) → after_spaces rest ≡ [] → Goes n before rest ss → (n ≡ 0) × (ss ≡ before)
  ended n before rest ss end (q ∷ ps, (left, there, cut), balanced, same) = absurd (no_piece rest q left there end)
  ended zero before rest ss end ([], done, balanced, same) = (refl, same)
  ended (suc n) before rest ss end ([], done, balanced, same) = let e : suc n ≡ 0 = eqb-true (suc n) 0 balanced in absurd (omega arith)

  pub refused_open : (n : ℕ) (before : List Statement) (rest text : List ℕ) → Agree n before rest text → length (after_spaces rest) ≡ 0 → 0 < n → SpellsNone text
  refused_open n before rest text agree end open_some ss spells = let e = (ended n before rest ss (nothing_left _ end) (agree.back ss spells)).0 in omega arith

  pub found_at : (n : ℕ) (before : List Statement) (rest text : List ℕ) → Agree n before rest text → length (after_spaces rest) ≡ 0 → n ≡ 0 → SpellsStatements known text before
  found_at zero before rest text agree end e = agree.on before ([], nothing_left _ end, refl, refl)
  found_at (suc n) before rest text agree end e = absurd (omega arith)

  pub piece_here : (rest here after : List ℕ) (p q : Piece) → here ≡ after_spaces rest → ◌≡◌ {A = Option (Piece × List ℕ)} (piece_from known here) (Some (p, after)) → p ≡ q
      → ◌≡◌ {A = Option (Piece × List ℕ)} (piece_at known rest) (Some (q, after))
  piece_here rest here after p q skipped is same = ap (piece_from known) (sym skipped) ∙ is ∙ ap (λ x. Some (x, after)) same
