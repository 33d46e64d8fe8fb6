-- The plain program puts matches in order, each once.
use Rattle.std.proofs.Common.{◌≡◌, ◌≤◌, ◌<◌, Bool, true, false, List, [], ◌∷◌, ◌⊎◌, inl, inr, ◌↔◌, Option, Some, None, refl, sym, ◌∙◌, subst, arith}
use Rattle.std.specs.Prelude.{nat_lt, nat_eq, ◌&&◌, if◌then◌else◌}
use Rattle.std.proofs.lemmas.Bool.{ltb-true, ltb-false, eqb-true, eqb-false, and_parts, and_cases}
use Rattle.lex_semantics.specs.Text.{Among}
use Rattle.lex_semantics.specs.Candidates.{Candidate, Before, InOrder}
use Rattle.lex_semantics.specs.Plain.{is_before, cons_to, insert, insert_to, ordered}

before_from : (m n : Candidate) (b : Bool) → nat_lt n.len m.len ≡ b → (if b then true else nat_eq m.len n.len && nat_lt m.rule n.rule) ≡ true → Before m n
before_from m n true e h = inl (ltb-true n.len m.len e)
before_from m n false e h = let p = and_parts (nat_eq m.len n.len) (nat_lt m.rule n.rule) h in inr (eqb-true m.len n.len p.0, ltb-true m.rule n.rule p.1)

is_before-true : (m n : Candidate) → is_before m n ≡ true → Before m n
is_before-true m n h = before_from m n (nat_lt n.len m.len) refl h

not_before_from : (m n : Candidate) (b : Bool) → nat_lt n.len m.len ≡ b → (if b then true else nat_eq m.len n.len && nat_lt m.rule n.rule) ≡ false → Before m n → ⊥
not_before_from m n true e h k = no h
  where
    no : true ≡ false → ⊥
    no p = cc
not_before_from m n false e h k =
    let le : m.len ≤ n.len = ltb-false n.len m.len e in
    by_parts le (and_cases (nat_eq m.len n.len) (nat_lt m.rule n.rule) h) k
  where
    by_parts : m.len ≤ n.len → (nat_eq m.len n.len ≡ false) ⊎ (nat_lt m.rule n.rule ≡ false) → Before m n → ⊥
    by_parts le (inl p) (inl q) = omega arith
    by_parts le (inl p) (inr q) = eqb-false m.len n.len p q.0
    by_parts le (inr p) q = let g : n.rule ≤ m.rule = ltb-false m.rule n.rule p in omega arith

is_before-false : (m n : Candidate) → is_before m n ≡ false → Before m n → ⊥
is_before-false m n h = not_before_from m n (nat_lt n.len m.len) refl h

before_trans : (m n q : Candidate) → Before m n → Before n q → Before m q
before_trans m n q (inl a) (inl b) = inl (omega arith)
before_trans m n q (inl a) (inr b) = inl (omega (arith, b.0))
before_trans m n q (inr a) (inl b) = inl (omega (arith, a.0))
before_trans m n q (inr a) (inr b) = inr (omega (arith, a.0, b.0), omega (arith, a.1, b.1))

pub candidate_same : (m n : Candidate) → m.len ≡ n.len → m.rule ≡ n.rule → m.keep ≡ n.keep → m ≡ n
candidate_same m n p q r = λ i. record { len = p i; rule = q i; keep = r i }

-- matches of which neither is before the other have one length and one rule
pub neither_before : (m n : Candidate) → is_before m n ≡ false → is_before n m ≡ false → (m.len ≡ n.len) × (m.rule ≡ n.rule)
neither_before m n p q = (not_apart (is_before-false m n p) (is_before-false n m q), not_aside (not_apart (is_before-false m n p) (is_before-false n m q)) (is_before-false m n p) (is_before-false n m q))
  where
    not_apart : (Before m n → ⊥) → (Before n m → ⊥) → m.len ≡ n.len
    not_apart f g = grind (arith, λ (l : n.len < m.len). f (inl l), λ (l : m.len < n.len). g (inl l))

    not_aside : m.len ≡ n.len → (Before m n → ⊥) → (Before n m → ⊥) → m.rule ≡ n.rule
    not_aside e f g = grind (arith, λ (l : m.rule < n.rule). f (inr (e, l)), λ (l : n.rule < m.rule). g (inr (sym e, l)))

-- the list with one more match
pub record IsWith (m : Candidate) (ms ns : List Candidate) : Type 0 where
  pub in_order : InOrder ns
  pub to : (q : Candidate) → Among ns q → (q ≡ m) ⊎ Among ms q
  pub from : (q : Candidate) → (q ≡ m) ⊎ Among ms q → Among ns q

some_is : {A : Type 0} (a b : A) → Some a ≡ Some b → a ≡ b
some_is a b e = cc

put_first : (m n : Candidate) (ms : List Candidate) → Before m n → InOrder (n ∷ ms) → IsWith m (n ∷ ms) (m ∷ n ∷ ms)
put_first m n ms b h = record {
  in_order = (after, h);
  to = λ q k. k;
  from = λ q k. k;
}
  where
    after : (q : Candidate) → Among (n ∷ ms) q → Before m q
    after q (inl e) = subst (Before m) (sym e) b
    after q (inr k) = before_trans m n q b (h.0 q k)

put_later : (m n : Candidate) (ms ns : List Candidate) → Before n m → InOrder (n ∷ ms) → IsWith m ms ns → IsWith m (n ∷ ms) (n ∷ ns)
put_later m n ms ns b h w = record { in_order = (λ q k. after q (w.to q k), w.in_order); to = to; from = from }
  where
    after : (q : Candidate) → (q ≡ m) ⊎ Among ms q → Before n q
    after q (inl e) = subst (Before n) (sym e) b
    after q (inr k) = h.0 q k

    to : (q : Candidate) → Among (n ∷ ns) q → (q ≡ m) ⊎ Among (n ∷ ms) q
    to q (inl e) = inr (inl e)
    to q (inr k) = elim (w.to q k) [ inl e ↦ inl e | inr a ↦ inr (inr a) ]

    from : (q : Candidate) → (q ≡ m) ⊎ Among (n ∷ ms) q → Among (n ∷ ns) q
    from q (inl e) = inr (w.from q (inl e))
    from q (inr (inl e)) = inl e
    from q (inr (inr k)) = inr (w.from q (inr k))

put_same : (m n : Candidate) (ms : List Candidate) → m ≡ n → InOrder (n ∷ ms) → IsWith m (n ∷ ms) (n ∷ ms)
put_same m n ms e h = record { in_order = h; to = λ q k. inr k; from = from }
  where
    from : (q : Candidate) → (q ≡ m) ⊎ Among (n ∷ ms) q → Among (n ∷ ms) q
    from q (inl d) = inl (d ∙ e)
    from q (inr k) = k

cons_from : (m n : Candidate) (ms ns : List Candidate) (r : Option (List Candidate)) → Before n m → InOrder (n ∷ ms) → ((ks : List Candidate) → r ≡ Some ks → IsWith m ms ks) →
    cons_to n r ≡ Some ns → IsWith m (n ∷ ms) ns
cons_from m n ms ns None b h later e = absurd (no e)
  where
    no : None ≡ Some ns → ⊥
    no p = cc
cons_from m n ms ns (Some ks) b h later e = subst (IsWith m (n ∷ ms)) (some_is (n ∷ ks) ns e) (put_later m n ms ks b h (later ks refl))

insert_from : (m n : Candidate) (ms ns : List Candidate) (r : Option (List Candidate)) → InOrder (n ∷ ms) → ((ks : List Candidate) → r ≡ Some ks → IsWith m ms ks) →
    (a b c : Bool) → is_before m n ≡ a → is_before n m ≡ b → nat_eq m.keep n.keep ≡ c →
    (if a then Some (m ∷ n ∷ ms) else (if b then cons_to n r else (if c then Some (n ∷ ms) else None))) ≡ Some ns → IsWith m (n ∷ ms) ns
insert_from m n ms ns r h later true b c p q k e = subst (IsWith m (n ∷ ms)) (some_is (m ∷ n ∷ ms) ns e) (put_first m n ms (is_before-true m n p) h)
insert_from m n ms ns r h later false true c p q k e = cons_from m n ms ns r (is_before-true n m q) h later e
insert_from m n ms ns r h later false false true p q k e =
    let same_len : m.len ≡ n.len = not_apart (is_before-false m n p) (is_before-false n m q) in
    let same_rule : m.rule ≡ n.rule = not_aside same_len (is_before-false m n p) (is_before-false n m q) in
    subst (IsWith m (n ∷ ms)) (some_is (n ∷ ms) ns e) (put_same m n ms (candidate_same m n same_len same_rule (eqb-true m.keep n.keep k)) h)
  where
    not_apart : (Before m n → ⊥) → (Before n m → ⊥) → m.len ≡ n.len
    not_apart f g = grind (arith, λ (l : n.len < m.len). f (inl l), λ (l : m.len < n.len). g (inl l))

    not_aside : m.len ≡ n.len → (Before m n → ⊥) → (Before n m → ⊥) → m.rule ≡ n.rule
    not_aside e f g = grind (arith, λ (l : m.rule < n.rule). f (inr (e, l)), λ (l : n.rule < m.rule). g (inr (sym e, l)))
insert_from m n ms ns r h later false false false p q k e = absurd (no e)
  where
    no : None ≡ Some ns → ⊥
    no p = cc

insert_is : (m : Candidate) (ms ns : List Candidate) → InOrder ms → insert m ms ≡ Some ns → IsWith m ms ns
insert_is m [] ns h e = subst (IsWith m []) (some_is (m ∷ []) ns e) (record { in_order = (λ q k. absurd k, tt); to = λ q k. k; from = λ q k. k })
insert_is m (n ∷ ms) ns h e =
    insert_from m n ms ns (insert m ms) h (λ ks k. insert_is m ms ks h.1 k) (is_before m n) (is_before n m) (nat_eq m.keep n.keep) refl refl refl e

-- the same matches, in order
pub record IsOrdered (ms ns : List Candidate) : Type 0 where
  pub in_order : InOrder ns
  pub members : (q : Candidate) → Among ns q ↔ Among ms q

ordered_from : (m : Candidate) (ms ns : List Candidate) (r : Option (List Candidate)) → ((ks : List Candidate) → r ≡ Some ks → IsOrdered ms ks) → insert_to m r ≡ Some ns → IsOrdered (m ∷ ms) ns
ordered_from m ms ns None later e = absurd (no e)
  where
    no : None ≡ Some ns → ⊥
    no p = cc
ordered_from m ms ns (Some ks) later e =
    let rest : IsOrdered ms ks = later ks refl in
    let w : IsWith m ks ns = insert_is m ks ns rest.in_order e in
    record { in_order = w.in_order; members = λ q. (λ k. to q rest (w.to q k), λ k. w.from q (from q rest k)) }
  where
    to : (q : Candidate) → IsOrdered ms ks → (q ≡ m) ⊎ Among ks q → Among (m ∷ ms) q
    to q rest (inl e) = inl e
    to q rest (inr k) = inr ((rest.members q).0 k)

    from : (q : Candidate) → IsOrdered ms ks → Among (m ∷ ms) q → (q ≡ m) ⊎ Among ks q
    from q rest (inl e) = inl e
    from q rest (inr k) = inr ((rest.members q).1 k)

pub ordered_is : (ms ns : List Candidate) → ordered ms ≡ Some ns → IsOrdered ms ns
ordered_is [] ns e = subst (IsOrdered []) (some_is [] ns e) (record { in_order = tt; members = λ q. (λ k. k, λ k. k) })
ordered_is (m ∷ ms) ns e = ordered_from m ms ns (ordered ms) (λ ks k. ordered_is ms ks k) e
