-- The grammar of actions and the pieces that the code reads say the same.
use Rattle.std.proofs.Common.{◌≡◌, ℕ, zero, suc, Bool, true, false, List, [], ◌∷◌, ◌++◌, Option, Some, None, if◌then◌else◌, refl, sym, ap, ◌∙◌, subst, arith, append_assoc, append-nil, ◌⊎◌, inl, inr}
use Rattle.std.specs.Prelude.{codes, ◌==◌}
use Rattle.std.proofs.lemmas.Bool.{ne_eqb, eqb-true}
use Rattle.lex_semantics.specs.Reading.{◌>>=◌, IsReadAs}
use Rattle.lex_semantics.specs.Literals.{normal}
use Rattle.lex_semantics.specs.Spec.{Statement}
use Rattle.lexre_bytes.specs.Lexical.{name_at}
use Rattle.lexre_bytes.proofs.SignLaws.{by_sign}
use Rattle.lexspec_actions.specs.Names.{Scope}
use Rattle.lexspec_actions.specs.Bytes.{after_spaces, expect}
use Rattle.lexspec_actions.specs.ByteSteps.{first_is}
use Rattle.lexspec_actions.specs.Actions.{Token, sign, token_at, States, AreStatements, none, empty, last, said, block, SpellsStatements}
use Rattle.lexspec_actions.specs.ActionSteps as S
use Rattle.lexspec_actions.specs.ActionSteps.{Piece, semicolon, opens, closes, says, Said, said_by, may_end, are_balanced, statements_of, NoPiece}
use Rattle.lexspec_actions.proofs.SameBytes.{next_is}
use Rattle.lexspec_actions.proofs.SameNormal.{normal_is}
use Rattle.lexspec_actions.proofs.TokenLaws.{some_is, no_some, bound, UpTo, joined, parted, ended, finished, token_reads, begins_so, IsSign, semicolon_token, opening_token, closing_token}
use Rattle.lexspec_actions.proofs.TokenLaws as Signs
use Rattle.lexspec_actions.proofs.StatementTokens.{Spoken, says_reads, SpeaksAt, reads_says}

-- what may follow a statement without a semicolon is none
no_semicolon : (u : List ℕ) → may_end u ≡ true → first_is 59 u ≡ None
no_semicolon [] h = refl
no_semicolon (c ∷ u) h = ap (λ z. first_is 59 (z ∷ u)) (eqb-true c 125 h)

ends_here : (m : List ℕ) → may_end (after_spaces m) ≡ true → S.after_statement m ≡ Some m
unfolding S.after_statement
ends_here m h = rw (next_is 59 m ∙ no_semicolon (after_spaces m) h, S.after_statement, h) refl

ends_with_semicolon : (m r : List ℕ) → token_at m ≡ Some (sign (codes ";"), r) → S.after_statement m ≡ Some r
unfolding S.after_statement
ends_with_semicolon m r h = rw (token_reads m (sign (codes ";")) r h, S.after_statement) refl

ends_so : (m r : List ℕ) → S.after_statement m ≡ Some r → (token_at m ≡ Some (sign (codes ";"), r)) ⊎ ((may_end (after_spaces m) ≡ true) × (m ≡ r))
unfolding S.after_statement
ends_so m r h = from (expect (codes ";") m) refl h
  where
    may : (b : Bool) → may_end (after_spaces m) ≡ b → (if b then Some m else None) ≡ Some r → (may_end (after_spaces m) ≡ true) × (m ≡ r)
    may true e k = (e, some_is m r k)
    may false e k = no_some r k

    from : (o : Option (List ℕ)) → expect (codes ";") m ≡ o → ◌≡◌ {A = Option (List ℕ)} (elim o [
      | Some rest ↦ Some rest
      | None ↦ if may_end (after_spaces m) then Some m else None
    ]) (Some r) → (token_at m ≡ Some (sign (codes ";"), r)) ⊎ ((may_end (after_spaces m) ≡ true) × (m ≡ r))
    from (Some rest) e k = inl (semicolon_token m r (e ∙ k))
    from None e k = inr (may (may_end (after_spaces m)) refl k)

closing_ends : (m r : List ℕ) → token_at m ≡ Some (sign (codes "}"), r) → may_end (after_spaces m) ≡ true
closing_ends m r h = ap may_end (begins_so 125 m r (token_reads m (sign (codes "}")) r h))

module _ (known : Scope) where
  -- ---- pieces by tokens

  semicolon_piece : (t r : List ℕ) → token_at t ≡ Some (sign (codes ";"), r) → S.piece_at known t ≡ Some (semicolon, r)
  unfolding S.piece_from
  semicolon_piece t r h = ap (S.piece_from known) (begins_so 59 t r (token_reads t (sign (codes ";")) r h))

  opening_piece : (t r : List ℕ) → token_at t ≡ Some (sign (codes "{"), r) → S.piece_at known t ≡ Some (opens, r)
  unfolding S.piece_from
  opening_piece t r h = ap (S.piece_from known) (begins_so 123 t r (token_reads t (sign (codes "{")) r h))

  closing_piece : (t r : List ℕ) → token_at t ≡ Some (sign (codes "}"), r) → S.piece_at known t ≡ Some (closes, r)
  unfolding S.piece_from
  closing_piece t r h = ap (S.piece_from known) (begins_so 125 t r (token_reads t (sign (codes "}")) r h))

  no_first : (found : List ℕ × List ℕ) → name_at [] ≡ Some found → ⊥
  unfolding name_at
  no_first found e = no_some found e

  word_piece : (u : List ℕ) (found : List ℕ × List ℕ) (z : Said × List ℕ) → name_at u ≡ Some found → S.statement_at known u ≡ Some z → S.piece_from known u ≡ Some (says z.0, z.1)
  unfolding S.piece_from
  word_piece [] found z name h = absurd (no_first found name)
  word_piece (c ∷ u) found z name h = rw (ne_eqb c 59 (apart 59 Signs.semicolon), ne_eqb c 123 (apart 123 Signs.opening), ne_eqb c 125 (apart 125 Signs.closing), h) refl
    where
      apart : (d : ℕ) → IsSign d → c ≡ d → ⊥
      apart d is e = no_some found (sym (ap (λ x. name_at (x ∷ u)) e ∙ is.no_name u) ∙ name)

  says_piece : (t m r : List ℕ) (ss : List Statement) → (s : Spoken known t m ss) → S.after_statement m ≡ Some r → S.piece_at known t ≡ Some (says s.says, r)
  unfolding S.statement_at
  says_piece t m r ss s h = word_piece (after_spaces t) (s.name, s.rest) (s.says, r) s.first (rw (s.first, s.after, h) refl)

  -- ---- tokens by pieces

  abbrev PieceTokens : List ℕ → List ℕ → Piece → Type 0
  PieceTokens t r semicolon = token_at t ≡ Some (sign (codes ";"), r)
  PieceTokens t r opens = token_at t ≡ Some (sign (codes "{"), r)
  PieceTokens t r closes = token_at t ≡ Some (sign (codes "}"), r)
  PieceTokens t r (says x) = (m : List ℕ) × SpeaksAt known t (x, m) × (S.after_statement m ≡ Some r)

  piece_tokens : (t r : List ℕ) (p : Piece) → ◌≡◌ {A = Option (Piece × List ℕ)} (S.piece_at known t) (Some (p, r)) → PieceTokens t r p
  unfolding S.piece_from S.statement_at
  piece_tokens t r p h = from (after_spaces t) refl h
    where
      so : (q : Piece) (v : List ℕ) → ◌≡◌ {A = Option (Piece × List ℕ)} (Some (q, v)) (Some (p, r)) → PieceTokens t v q → PieceTokens t r p
      so q v e k = subst (λ (z : Piece × List ℕ). PieceTokens t z.1 z.0) (some_is {X = Piece × List ℕ} (q, v) (p, r) e) k

      next : (d c : ℕ) (v : List ℕ) → after_spaces t ≡ c ∷ v → c ≡ d → (d == d) ≡ true → expect (d ∷ []) t ≡ Some v
      next d c v here e same = next_is d t ∙ ap (first_is d) (here ∙ ap (λ z. z ∷ v) e) ∙ rw same refl

      statement : (u : List ℕ) → after_spaces t ≡ u → ◌≡◌ {A = Option (Piece × List ℕ)} (S.statement_at known u >>= λ (s, rest). Some (says s, rest)) (Some (p, r)) → PieceTokens t r p
      statement u here k =
          let (found, a, k1) = bound (S.statement_at known u) _ (p, r) k in
          let (w, b, a1) = bound (name_at u) _ found a in
          let (s, d, a2) = bound (S.after_word known w.0 w.1) _ found a1 in
          let (left, g, a3) = bound (S.after_statement s.1) _ found a2 in
          let one : PieceTokens t left (says s.0) = (s.1, reads_says known t w.0 w.1 s (ap name_at here ∙ b) d, g) in
          so (says found.0) found.1 k1 (subst (λ (z : Said × List ℕ). PieceTokens t z.1 (says z.0)) (some_is {X = Said × List ℕ} (s.0, left) found a3) one)

      from : (u : List ℕ) → after_spaces t ≡ u → ◌≡◌ {A = Option (Piece × List ℕ)} (S.piece_from known u) (Some (p, r)) → PieceTokens t r p
      from [] here k = no_some {X = Piece × List ℕ} (p, r) k
      from (c ∷ u) here k = by_sign c 59
          (λ e. so semicolon u (rw e at k) (semicolon_token t u (next 59 c u here e refl)))
          (λ n. by_sign c 123
          (λ e. so opens u (rw e at k) (opening_token t u (next 123 c u here e refl)))
          (λ m. by_sign c 125
          (λ e. so closes u (rw e at k) (closing_token t u (next 125 c u here e refl)))
          (λ o. statement (c ∷ u) here (rw (ne_eqb c 59 n, ne_eqb c 123 m, ne_eqb c 125 o) at k))))

  -- ---- from the grammar to pieces

  record Pieces (t r : List ℕ) (ss : List Statement) : Type 0 where
    ps : List Piece
    cut : UpTo (S.piece_at known) t ps r
    braces : (n : ℕ) (qs : List Piece) → are_balanced n (ps ++ qs) ≡ are_balanced n qs
    all : (qs : List Piece) → statements_of (ps ++ qs) ≡ ss ++ statements_of qs

  grammar_pieces : (t r : List ℕ) (ts : List Token) (ss : List Statement) → AreStatements known ts ss → UpTo token_at t ts r → may_end (after_spaces r) ≡ true → Pieces t r ss
  grammar_pieces t r _ _ none cut may = record { ps = []; cut = cut; braces = λ n qs. refl; all = λ qs. refl }
  grammar_pieces t r _ _ (empty ts ss are) (t1, e1, cut) may =
      let p = grammar_pieces t1 r ts ss are cut may in
      record { ps = semicolon ∷ p.ps; cut = (t1, semicolon_piece t t1 e1, p.cut); braces = λ n qs. p.braces n qs; all = λ qs. p.all qs }
  grammar_pieces t r _ _ (last ts ss speaks) cut may =
      let s = says_reads known t r ts ss speaks cut in
      record {
        ps = says s.says ∷ [];
        cut = (r, says_piece t r r ss s (ends_here r may), refl);
        braces = λ n qs. refl;
        all = λ qs. ap (λ z. z ++ statements_of qs) (sym s.is);
      }
  grammar_pieces t r _ _ (said xs ts ss more speaks are) cut may =
      let (m, front, (m2, e2, back)) = parted token_at (λ u. u ≡ r) t xs (sign (codes ";") ∷ ts) cut in
      let s = says_reads known t m xs ss speaks front in
      let p = grammar_pieces m2 r ts more are back may in
      record {
        ps = says s.says ∷ p.ps;
        cut = (m2, says_piece t m m2 ss s (ends_with_semicolon m m2 e2), p.cut);
        braces = λ n qs. p.braces n qs;
        all = λ qs. ap (λ z. z ++ statements_of (p.ps ++ qs)) (sym s.is) ∙ ap (λ z. ss ++ z) (p.all qs) ∙ sym (append_assoc ss more (statements_of qs));
      }
  grammar_pieces t r _ _ (block inside ts ss more are others) (t1, e1, cut) may =
      let (m, front, (m2, e2, back)) = parted token_at (λ u. u ≡ r) t1 inside (sign (codes "}") ∷ ts) cut in
      let p = grammar_pieces t1 m inside ss are front (closing_ends m m2 e2) in
      let q = grammar_pieces m2 r ts more others back may in
      record {
        ps = opens ∷ (p.ps ++ closes ∷ q.ps);
        cut = (t1, opening_piece t t1 e1, joined (S.piece_at known) (λ u. u ≡ r) t1 m p.ps (closes ∷ q.ps) p.cut (m2, closing_piece m m2 e2, q.cut));
        braces = λ n qs. ap (are_balanced (suc n)) (append_assoc p.ps (closes ∷ q.ps) qs) ∙ p.braces (suc n) (closes ∷ (q.ps ++ qs)) ∙ q.braces n qs;
        all = λ qs. ap statements_of (append_assoc p.ps (closes ∷ q.ps) qs) ∙ p.all (closes ∷ (q.ps ++ qs)) ∙ ap (λ z. ss ++ z) (q.all qs) ∙ sym (append_assoc ss more (statements_of qs));
      }

  pub to_steps : (text : List ℕ) (ss : List Statement) → SpellsStatements known text ss → S.SpellsStatements known text ss
  to_steps text ss (ts, spoken, cut, are, same) =
      let (r, front, done) = ended token_at (λ u. after_spaces u ≡ []) text ts cut in
      let p = grammar_pieces text r ts spoken are front (ap may_end done) in
      let every : statements_of p.ps ≡ spoken = sym (ap statements_of (append-nil p.ps)) ∙ p.all [] ∙ append-nil spoken in (
        p.ps,
        finished (S.piece_at known) NoPiece text r p.ps p.cut done,
        sym (ap (are_balanced 0) (append-nil p.ps)) ∙ p.braces 0 [],
        same ∙ ap normal (sym every) ∙ normal_is (statements_of p.ps),
      )

  -- ---- from pieces to the grammar

  -- statements, where n braces are open before them
  abbrev Nest : ℕ → List Token → List Statement → Type 0
  Nest zero ts ss = AreStatements known ts ss
  Nest (suc n) ts ss =
      (inside us : List Token) × (xs ys : List Statement) × (ts ≡ inside ++ sign (codes "}") ∷ us) × (ss ≡ xs ++ ys) × AreStatements known inside xs × Nest n us ys

  moved : (n : ℕ) (ts us : List Token) (ss xs : List Statement) → ts ≡ us → ss ≡ xs → Nest n ts ss → Nest n us xs
  moved n ts us ss xs e f h = subst (λ z. Nest n z xs) e (subst (λ z. Nest n ts z) f h)

  onto : (n : ℕ) (p : List Token) (q : List Statement) → ((ts : List Token) (ss : List Statement) → AreStatements known ts ss → AreStatements known (p ++ ts) (q ++ ss)) → (ts : List Token) (ss : List Statement)
      → Nest n ts ss → Nest n (p ++ ts) (q ++ ss)
  onto zero p q f ts ss h = f ts ss h
  onto (suc n) p q f ts ss (inside, us, xs, ys, e, g, are, rest) = (
    p ++ inside,
    us,
    q ++ xs,
    ys,
    ap (λ z. p ++ z) e ∙ sym (append_assoc p inside (sign (codes "}") ∷ us)),
    ap (λ z. q ++ z) g ∙ sym (append_assoc q xs ys),
    f inside xs are,
    rest,
  )

  -- where nothing but a brace or the end comes next
  abbrev Ended : ℕ → List Token → List Statement → Type 0
  Ended zero ts ss = (ts ≡ []) × (ss ≡ [])
  Ended (suc n) ts ss = (us : List Token) × (ts ≡ sign (codes "}") ∷ us) × Nest n us ss

  record Tokens (n : ℕ) (t : List ℕ) (ss : List Statement) : Type 0 where
    ts : List Token
    cut : IsReadAs token_at NoPiece t ts
    nest : Nest n ts ss
    stops : may_end (after_spaces t) ≡ true → Ended n ts ss

  only_closes : (t r : List ℕ) (p : Piece) → may_end (after_spaces t) ≡ true → ◌≡◌ {A = Option (Piece × List ℕ)} (S.piece_at known t) (Some (p, r)) → closes ≡ p
  unfolding S.piece_from
  only_closes t r p may h = from (after_spaces t) may h
    where
      from : (u : List ℕ) → may_end u ≡ true → ◌≡◌ {A = Option (Piece × List ℕ)} (S.piece_from known u) (Some (p, r)) → closes ≡ p
      from [] may k = no_some {X = Piece × List ℕ} (p, r) k
      from (c ∷ u) may k =
          let e : c ≡ 125 = eqb-true c 125 may in
          ap (λ (z : Piece × List ℕ). z.0) (some_is {X = Piece × List ℕ} (closes, u) (p, r) (rw e at k))

  spoken_ended : (n : ℕ) (ts us : List Token) (ss xs : List Statement) → States known ts ss → Ended n us xs → Nest n (ts ++ us) (ss ++ xs)
  spoken_ended zero ts us ss xs speaks (none_left, nothing) =
      moved zero ts (ts ++ us) ss (ss ++ xs) (sym (ap (λ z. ts ++ z) none_left ∙ append-nil ts)) (sym (ap (λ z. ss ++ z) nothing ∙ append-nil ss)) (last ts ss speaks)
  spoken_ended (suc n) ts us ss xs speaks (rest, e, nest) = (ts, rest, ss, xs, ap (λ z. ts ++ z) e, refl, last ts ss speaks, nest)

  spoken_closed : (n : ℕ) (ts us : List Token) (ss xs : List Statement) → States known ts ss → Nest n us xs → Nest n (ts ++ sign (codes ";") ∷ us) (ss ++ xs)
  spoken_closed n ts us ss xs speaks nest =
      moved n ((ts ++ sign (codes ";") ∷ []) ++ us) (ts ++ sign (codes ";") ∷ us) (ss ++ xs) (ss ++ xs) (append_assoc ts (sign (codes ";") ∷ []) us) refl
      (onto n (ts ++ sign (codes ";") ∷ []) ss
      (λ vs ys are. subst (λ z. AreStatements known z (ss ++ ys)) (sym (append_assoc ts (sign (codes ";") ∷ []) vs)) (said ts vs ss ys speaks are)) us xs nest)

  in_braces : (n : ℕ) (ts : List Token) (ss : List Statement) → Nest (suc n) ts ss → Nest n (sign (codes "{") ∷ ts) ss
  in_braces n ts ss (inside, us, xs, ys, e, g, are, rest) =
      moved n ((sign (codes "{") ∷ (inside ++ sign (codes "}") ∷ [])) ++ us) (sign (codes "{") ∷ ts) (xs ++ ys) ss
      (ap (λ z. sign (codes "{") ∷ z) (append_assoc inside (sign (codes "}") ∷ []) us ∙ sym e)) (sym g)
      (onto n (sign (codes "{") ∷ (inside ++ sign (codes "}") ∷ [])) xs
      (λ vs zs others. subst (λ z. AreStatements known z (xs ++ zs)) (ap (λ z. sign (codes "{") ∷ z) (sym (append_assoc inside (sign (codes "}") ∷ []) vs))) (block inside vs xs zs are others)) us ys rest)

  other_piece : {P : Type 0} (t r : List ℕ) (p : Piece) → (closes ≡ p → ⊥) → ◌≡◌ {A = Option (Piece × List ℕ)} (S.piece_at known t) (Some (p, r)) → may_end (after_spaces t) ≡ true → P
  other_piece t r p other here may = absurd (other (only_closes t r p may here))

  spoken_tokens : (n : ℕ) (t m r : List ℕ) (x : Said) (ps : List Piece) → SpeaksAt known t (x, m) → (token_at m ≡ Some (sign (codes ";"), r)) ⊎ ((may_end (after_spaces m) ≡ true) × (m ≡ r))
      → (may_end (after_spaces t) ≡ true → ⊥) → Tokens n r (statements_of ps) → Tokens n t (said_by x ++ statements_of ps)
  spoken_tokens n t m r x ps (ts, front, speaks) (inl e) other k = record {
    ts = ts ++ sign (codes ";") ∷ k.ts;
    cut = joined token_at NoPiece t m ts (sign (codes ";") ∷ k.ts) front (r, e, k.cut);
    nest = spoken_closed n ts k.ts (said_by x) (statements_of ps) speaks k.nest;
    stops = λ may. absurd (other may);
  }
  spoken_tokens n t m r x ps (ts, front, speaks) (inr (may, e)) other k = record {
    ts = ts ++ k.ts;
    cut = joined token_at NoPiece t m ts k.ts front (subst (λ z. IsReadAs token_at NoPiece z k.ts) (sym e) k.cut);
    nest = spoken_ended n ts k.ts (said_by x) (statements_of ps) speaks (k.stops (subst (λ z. may_end (after_spaces z) ≡ true) e may));
    stops = λ may. absurd (other may);
  }

  pieces_grammar : (n : ℕ) (ps : List Piece) (t : List ℕ) → IsReadAs (S.piece_at known) NoPiece t ps → are_balanced n ps ≡ true → Tokens n t (statements_of ps)
  pieces_grammar zero [] t done b = record { ts = []; cut = done; nest = none; stops = λ may. (refl, refl) }
  pieces_grammar (suc n) [] t done b = let e : suc n ≡ 0 = eqb-true (suc n) 0 b in absurd (omega arith)
  pieces_grammar n (semicolon ∷ ps) t (r, here, cut) b =
      let k = pieces_grammar n ps r cut b in
      record {
        ts = sign (codes ";") ∷ k.ts;
        cut = (r, piece_tokens t r semicolon here, k.cut);
        nest = onto n (sign (codes ";") ∷ []) [] (λ ts ss are. empty ts ss are) k.ts (statements_of ps) k.nest;
        stops = other_piece t r semicolon (λ e. cc) here;
      }
  pieces_grammar n (opens ∷ ps) t (r, here, cut) b =
      let k = pieces_grammar (suc n) ps r cut b in
      record {
        ts = sign (codes "{") ∷ k.ts;
        cut = (r, piece_tokens t r opens here, k.cut);
        nest = in_braces n k.ts (statements_of ps) k.nest;
        stops = other_piece t r opens (λ e. cc) here;
      }
  pieces_grammar zero (closes ∷ ps) t (r, here, cut) b = absurd (no b)
    where
      no : false ≡ true → ⊥
      no e = cc
  pieces_grammar (suc n) (closes ∷ ps) t (r, here, cut) b =
      let k = pieces_grammar n ps r cut b in
      record {
        ts = sign (codes "}") ∷ k.ts;
        cut = (r, piece_tokens t r closes here, k.cut);
        nest = ([], k.ts, [], statements_of ps, refl, refl, none, k.nest);
        stops = λ may. (k.ts, refl, k.nest);
      }
  pieces_grammar n (says x ∷ ps) t (r, here, cut) b =
      let (m, front, end) = piece_tokens t r (says x) here in
      spoken_tokens n t m r x ps front (ends_so m r end) (λ may. other_piece t r (says x) (λ e. cc) here may) (pieces_grammar n ps r cut b)

  pub from_steps : (text : List ℕ) (ss : List Statement) → S.SpellsStatements known text ss → SpellsStatements known text ss
  from_steps text ss (ps, cut, balanced, same) =
      let k = pieces_grammar 0 ps text cut balanced in
      (k.ts, statements_of ps, k.cut, k.nest, same ∙ sym (normal_is (statements_of ps)))
