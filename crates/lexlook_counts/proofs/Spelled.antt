-- How far turns look by a machine that is a table for a specification is how far they look by the specification.
use Rattle.std.proofs.Common.{◌≡◌, ◌∙◌, ℕ, zero, suc, ◌+◌, ◌≤◌, ◌<◌, Bool, true, false, cond, List, [], ◌∷◌, ◌⊎◌, inl, inr, ap, arith, drop, refl, sym, subst, take}
use Rattle.lex_semantics.proofs.Fronts.{among_append}
use Rattle.lex_semantics.proofs.Once.{same_order}
use Rattle.lex_semantics.proofs.Table.{Alike, asks_from, asks_to, candidate_to, same_statements, table_alike, turns_to}
use Rattle.lex_semantics.proofs.Texts.{is_text_drop, is_text_take}
use Rattle.lex_semantics.specs.Candidates.{Candidate, IsCandidate}
use Rattle.lex_semantics.specs.Acting.{Ending}
use Rattle.lex_semantics.specs.Machine.{Machine, rules_of_machine}
use Rattle.lex_semantics.specs.Rules.{Full, Rules, rules_of, statements_of}
use Rattle.lex_semantics.specs.Run.{Place}
use Rattle.lex_semantics.specs.Sound.{IsSound}
use Rattle.lex_semantics.specs.Spec.{Spec, Statement, has_reject, rejects}
use Rattle.lex_semantics.specs.TableFor.{TableFor}
use Rattle.lex_semantics.specs.Text.{Among, IsText, at_line_start}
use Rattle.lexscan.specs.Tokens.{Tokenised, TokensOf}
use Rattle.lexscan.specs.declared.token.Token.{Token}
use Rattle.lexlook_counts.specs.Costs.{AreCosts, LooksAt, TurnCost, begins_at, tokens_in}
use Rattle.lexlook_counts.specs.GivenUp.{AreGivenUp, GivesUp, given_up}
use Rattle.lexlook_counts.proofs.Turns.{none_given_up}

module _ (all : Bool) (R Q : Rules) (alike : Alike all R Q) (x : List ℕ) (text : IsText x) where
  -- the turns of tokens begin in conditions that there are
  one_low : (n : ℕ) (ts : List Token) (u : Token) → ((t : Token) → Among ts t → t.condition < n) → u.condition < n → (t : Token) → Among ts t ⊎ Among (u ∷ []) t → t.condition < n
  one_low n ts u before this t (inl old) = before t old
  one_low n ts u before this t (inr (inl same)) = subst (λ (k : Token). k.condition < n) (sym same) this
  one_low n ts u before this t (inr (inr none)) = absurd none

  pub tokens_low : (n : ℕ) (us : List Token) → TokensOf R x n us → (t : Token) → Among us t → t.condition < Q.conditions
  tokens_low zero us is t at = absurd (subst (λ (l : List Token). Among l t) is at)
  tokens_low (suc n) us (s, ts, turns, going, before, inr appends) t at = tokens_low n ts before t (subst (λ (l : List Token). Among l t) appends.1 at)
  tokens_low (suc n) us (s, ts, turns, going, before, inl (u, token, is)) t at =
      let low = (turns_to all R Q alike x n s text turns).1.0 in
      one_low Q.conditions ts u (tokens_low n ts before) (subst (λ (c : ℕ). c < Q.conditions) (sym token.condition_is) low) t (among_append ts (u ∷ []) t (subst (λ (l : List Token). Among l t) is at))

  -- how far they look is the same
  looks_to : (p : Place) (r : ℕ) → p.condition < Q.conditions → LooksAt R x p r → LooksAt Q x p r
  looks_to p r lt h i = (λ less. (let k = (h i).0 less in (k.0, asks_to all R Q alike x text p i lt k.1)), λ (fits, a). (h i).1 (fits, asks_from all R Q alike x text p i lt a))

  pub costs_to : (at : ℕ) (cs : List TurnCost) → ((t : Token) → Among (tokens_in cs) t → t.condition < Q.conditions) → AreCosts R x at cs → AreCosts Q x at cs
  costs_to at [] low h = tt
  costs_to at (c ∷ cs) low h = (
    record { looked = h.0.looked; reach = looks_to (begins_at at c.token.condition) h.0.looked (low c.token (inl refl)) h.0.reach; beyond_is = h.0.beyond_is },
    costs_to c.token.end cs (λ t a. low t (inr a)) h.1,
  )

-- ---- what they give up is the same

candidate_from : (R Q : Rules) (alike : Alike true R Q) (c : ℕ) (line_start : Bool) (y : List ℕ) (m : Candidate) → c < Q.conditions → IsText y → IsCandidate Q c line_start y m → IsCandidate R c line_start y m
candidate_from R Q alike c line_start y m lt text h = (h.0, from h.1)
  where
    from : Full Q c line_start (take m.len y) m.rule m.keep → Full R c line_start (take m.len y) m.rule m.keep
    from (inl f) = inl (omega (arith, f.0, alike.count), alike.matches c line_start (take m.len y) m.rule m.keep lt (is_text_take m.len y text) f.1)
    from (inr f) = inr (f.0 ∙ sym alike.count, f.1, f.2)

same_given : (all : Bool) (R Q : Rules) (alike : Alike all R Q) (ms : List Candidate) → given_up R ms ≡ given_up Q ms
same_given all R Q alike [] = refl
same_given all R Q alike (m ∷ ms) =
    ap (λ (l : List ℕ). cond (has_reject (statements_of R m.rule)) (m.rule ∷ l) []) (same_given all R Q alike ms)
    ∙ ap (λ (ss : List Statement). cond (has_reject ss) (m.rule ∷ given_up Q ms) []) (same_statements all R Q alike m.rule)

turn_to : (all : Bool) (R Q : Rules) → Alike all R Q → (x : List ℕ) → IsText x → (at d : ℕ) (rules : List ℕ) → d < Q.conditions → GivesUp R x at d rules → GivesUp Q x at d rules
turn_to true R Q alike x text at d rules lt k =
    let y : List ℕ = drop at x in
    let line_start : Bool = at_line_start x at in
    let listed = alike.exist d line_start y in
    let low : IsText y = is_text_drop at x text in
    let same : listed.0 ≡ k.matches = same_order listed.0 k.matches listed.1.in_order k.all.in_order (λ q. (
      λ a. (k.all.members q).1 (candidate_from R Q alike d line_start y q lt low ((listed.1.members q).0 a)),
      λ a. (listed.1.members q).1 (candidate_to true R Q alike d line_start y q lt low ((k.all.members q).0 a)),
    )) in
    record { matches = listed.0; all = listed.1; rules_are = k.rules_are ∙ ap (given_up R) (sym same) ∙ same_given true R Q alike listed.0 }
turn_to false R Q alike x text at d rules lt k =
    let listed = alike.exist d (at_line_start x at) (drop at x) in
    record { matches = listed.0; all = listed.1; rules_are = k.rules_are ∙ none_given_up R without k.matches ∙ sym (none_given_up Q alike.matches.1 listed.0) }
  where
    without : (i : ℕ) → i < R.count → has_reject (R.statements i) ≡ false
    without i low = let there : i < Q.count = omega (arith, low, alike.count) in ap has_reject (alike.statements i there) ∙ alike.matches.1 i there

turns_given_to : (all : Bool) (R Q : Rules) → Alike all R Q → (x : List ℕ) → IsText x → (at : ℕ) (cs : List TurnCost) (others : List (List ℕ)) → ((t : Token) → Among (tokens_in cs) t → t.condition < Q.conditions)
    → AreGivenUp R x at cs others → AreGivenUp Q x at cs others
turns_given_to all R Q alike x text at [] [] low h = tt
turns_given_to all R Q alike x text at [] (o ∷ others) low h = absurd h
turns_given_to all R Q alike x text at (c ∷ cs) [] low h = absurd h
turns_given_to all R Q alike x text at (c ∷ cs) (o ∷ others) low h =
    (turn_to all R Q alike x text at c.token.condition o (low c.token (inl refl)) h.0, turns_given_to all R Q alike x text c.token.end cs others (λ t a. low t (inr a)) h.1)

pub table_given : (M N : Machine) (S : Spec) → IsSound S → TableFor M S → TableFor N S → (x : List ℕ) (cs : List TurnCost) (others : List (List ℕ)) (ending : Ending) → IsText x → Tokenised (rules_of_machine M) x (tokens_in cs) ending
    → AreGivenUp (rules_of_machine N) x 0 cs others → AreGivenUp (rules_of S) x 0 cs others
table_given M N S sound scans looks x cs others ending text told h =
    turns_given_to (rejects S) (rules_of_machine N) (rules_of S) (table_alike N S sound looks) x text 0 cs others
    (tokens_low (rejects S) (rules_of_machine M) (rules_of S) (table_alike M S sound scans) x text told.turns (tokens_in cs) told.tokens) h

-- ---- where one machine tells the tokens, and another how far their turns look

pub table_costs : (M N : Machine) (S : Spec) → IsSound S → TableFor M S → TableFor N S → (x : List ℕ) (cs : List TurnCost) (ending : Ending) → IsText x → Tokenised (rules_of_machine M) x (tokens_in cs) ending → AreCosts (rules_of_machine N) x 0 cs
    → AreCosts (rules_of S) x 0 cs
table_costs M N S sound scans looks x cs ending text told h =
    costs_to (rejects S) (rules_of_machine N) (rules_of S) (table_alike N S sound looks) x text 0 cs
    (tokens_low (rejects S) (rules_of_machine M) (rules_of S) (table_alike M S sound scans) x text told.turns (tokens_in cs) told.tokens) h
