-- There are matches in order at each place.
use Rattle.std.proofs.Common.{◌≡◌, ℕ, Bool, true, false, List, [], ◌∷◌, ◌++◌, length, take, inl, inr, Option, Some, None, refl, sym, ◌∙◌, subst, arith}
use Rattle.std.specs.Prelude.{nat_eq, if◌then◌else◌}
use Rattle.std.proofs.lemmas.Bool.{eq-eqb}
use Rattle.lex_semantics.specs.Text.{Among}
use Rattle.lex_semantics.specs.Spec.{Spec}
use Rattle.lex_semantics.specs.Rules.{Full, rules_of}
use Rattle.lex_semantics.specs.Candidates.{Candidate, Candidates, IsCandidate}
use Rattle.lex_semantics.specs.Plain.{is_before, cons_to, insert, insert_to, ordered, candidates_of, matches_of_rules, default_match}
use Rattle.lex_semantics.specs.Sound.{IsSound}
use Rattle.lex_semantics.proofs.Ordered.{ordered_is, neither_before}
use Rattle.lex_semantics.proofs.Cuts.{one_text_of}
use Rattle.lex_semantics.proofs.PlainRun.{candidates_are, listed_are}

-- matches of one length and rule have one text
abbrev pub Agree : Candidate → Candidate → Type 0
Agree m n = m.len ≡ n.len → m.rule ≡ n.rule → m.keep ≡ n.keep

IsGiven : {A : Type 0} → Option A → Type 0
IsGiven {A} o = (a : A) × (o ≡ Some a)

cons_given : (n : Candidate) (r : Option (List Candidate)) → IsGiven r → IsGiven (cons_to n r)
unfolding IsGiven
cons_given n None h = absurd (no h.1)
  where
    no : {a : List Candidate} → None ≡ Some a → ⊥
    no p = cc
cons_given n (Some ms) h = (n ∷ ms, refl)

insert_given_from : (m n : Candidate) (ms : List Candidate) (r : Option (List Candidate)) → IsGiven r → Agree m n → (a b c : Bool) → is_before m n ≡ a → is_before n m ≡ b → nat_eq m.keep n.keep ≡ c →
    IsGiven (if a then Some (m ∷ n ∷ ms) else (if b then cons_to n r else (if c then Some (n ∷ ms) else None)))
unfolding IsGiven
insert_given_from m n ms r given agree true b c p q k = (m ∷ n ∷ ms, refl)
insert_given_from m n ms r given agree false true c p q k = cons_given n r given
insert_given_from m n ms r given agree false false true p q k = (n ∷ ms, refl)
insert_given_from m n ms r given agree false false false p q k =
    let same = neither_before m n p q in
    let e : nat_eq m.keep n.keep ≡ true = eq-eqb m.keep n.keep (agree same.0 same.1) in
    absurd (no (sym k ∙ e))
  where
    no : false ≡ true → ⊥
    no p = cc

insert_given : (m : Candidate) (ms : List Candidate) → ((n : Candidate) → Among ms n → Agree m n) → IsGiven (insert m ms)
unfolding IsGiven
insert_given m [] h = (m ∷ [], refl)
insert_given m (n ∷ ms) h =
    insert_given_from m n ms (insert m ms) (insert_given m ms (λ q k. h q (inr k))) (h n (inl refl)) (is_before m n) (is_before n m) (nat_eq m.keep n.keep) refl refl refl

insert_to_given : (m : Candidate) (ms : List Candidate) (r : Option (List Candidate)) → r ≡ ordered ms → IsGiven r → ((n : Candidate) → Among ms n → Agree m n) → IsGiven (insert_to m r)
unfolding IsGiven
insert_to_given m ms None e h agree = absurd (no h.1)
  where
    no : {a : List Candidate} → None ≡ Some a → ⊥
    no p = cc
insert_to_given m ms (Some ks) e h agree = insert_given m ks (λ n k. agree n (((ordered_is ms ks (sym e)).members n).0 k))

ordered_given : (ms : List Candidate) → ((m n : Candidate) → Among ms m → Among ms n → Agree m n) → IsGiven (ordered ms)
unfolding IsGiven
ordered_given [] h = ([], refl)
ordered_given (m ∷ ms) h = insert_to_given m ms (ordered ms) refl (ordered_given ms (λ p q a b. h p q (inr a) (inr b))) (λ n k. h m n (inl refl) (inr k))

one_keep : (S : Spec) (sound : IsSound S) (c : ℕ) (line_start : Bool) (w : List ℕ) (i k l : ℕ) → Full (rules_of S) c line_start w i k → Full (rules_of S) c line_start w i l → k ≡ l
one_keep S sound c line_start w i k l (inl h) (inl g) = one_text_of S sound c line_start w i k l h.1 g.1
one_keep S sound c line_start w i k l (inl h) (inr g) = absurd (omega (arith, h.0, g.0))
one_keep S sound c line_start w i k l (inr h) (inl g) = absurd (omega (arith, h.0, g.0))
one_keep S sound c line_start w i k l (inr h) (inr g) = h.2 ∙ sym g.2

-- At each place there is a list of all the matches in order.
pub candidates_exist : (S : Spec) → IsSound S → (c : ℕ) (line_start : Bool) (y : List ℕ) → (ms : List Candidate) × (candidates_of S c line_start y ≡ Some ms) × Candidates (rules_of S) c line_start y ms
unfolding IsGiven
candidates_exist S sound c line_start y =
    let all : List Candidate = matches_of_rules S c line_start S.rules 0 y ++ default_match (length S.rules) y in
    let given = ordered_given all agree in
    (given.0, given.1, candidates_are S c line_start y given.0 given.1)
  where
    agree : (m n : Candidate) → Among (matches_of_rules S c line_start S.rules 0 y ++ default_match (length S.rules) y) m → Among (matches_of_rules S c line_start S.rules 0 y ++ default_match (length S.rules) y) n → Agree m n
    agree m n a b len rule =
        let p : IsCandidate (rules_of S) c line_start y m = (listed_are S c line_start y m).0 a in
        let q : IsCandidate (rules_of S) c line_start y n = (listed_are S c line_start y n).0 b in
        one_keep S sound c line_start (take m.len y) m.rule m.keep n.keep p.1
        (subst (λ i. Full (rules_of S) c line_start (take m.len y) i n.keep) (sym rule) (subst (λ j. Full (rules_of S) c line_start (take j y) n.rule n.keep) (sym len) q.1))

pub ordered_exists : (ms : List Candidate) → ((m n : Candidate) → Among ms m → Among ms n → Agree m n) → (ns : List Candidate) × (ordered ms ≡ Some ns)
unfolding IsGiven
ordered_exists ms h = ordered_given ms h
