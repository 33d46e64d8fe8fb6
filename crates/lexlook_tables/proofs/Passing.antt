-- A match that is discarded, and where it leads.
use Rattle.std.proofs.Common.{◌≡◌, ℕ, ◌+◌, ◌-◌, ◌≤◌, ◌<◌, Bool, List, [], ◌∷◌, ◌++◌, length, take, drop, ◌⊎◌, inl, inr, Some, None, refl, sym, ◌∙◌, ap, subst, arith}
use Rattle.std.specs.Prelude.{nat_lt}
use Rattle.std.proofs.lemmas.List.{length-append, length-take-le, length-drop}
use Rattle.std.proofs.lemmas.Bool.{cond-true, lt-ltb}
use Rattle.lex_semantics.specs.Text.{Among, part, at_line_start}
use Rattle.lex_semantics.specs.Spec.{Echo}
use Rattle.lex_semantics.specs.Rules.{Rules, Full, statements_of}
use Rattle.lex_semantics.specs.Candidates.{Candidate, Before, InOrder, Candidates, IsCandidate}
use Rattle.lex_semantics.specs.Acting.{Acting, act, perform}
use Rattle.lex_semantics.specs.Run.{Place, State, MatchTurn, next_place}
use Rattle.lex_semantics.specs.Machine.{Machine, MachineFits, Keeps, state_after, rules_of_machine}
use Rattle.lex_semantics.specs.MachineLaws.{MachineLaws}
use Rattle.lexlook_tables.specs.Lines.{Discards}
use Rattle.lexlook_tables.proofs.Scanning.{in_turn, candidates_in_turn}
use Rattle.lexlook_tables.proofs.Settles.{begin}

-- where a match of n bytes leads that is discarded
abbrev pub passed : Place → ℕ → State
passed p n = record { written = []; place = record { start = p.at + n; at = p.at + n; condition = p.condition; stack = p.stack }; ended = None }

-- what comes before a match of n bytes or is it has as many bytes or more
not_shorter : (m n : Candidate) → (m ≡ n) ⊎ Before m n → n.len ≤ m.len
not_shorter m n (inl e) = (let same = ap (λ (z : Candidate). z.len) e in omega (arith, same))
not_shorter m n (inr (inl less)) = omega (arith, less)
not_shorter m n (inr (inr same)) = (let e = same.0 in omega (arith, e))

-- an action without statements
does_nothing : (R : Rules) (kept y : List ℕ) (m : Candidate) (ms : List Candidate) (c : ℕ) (cs : List ℕ) → statements_of R m.rule ≡ [] → perform R kept y (m ∷ ms) [] c cs ≡ Some (begin (kept ++ take m.keep y) [] c cs)
unfolding perform
does_nothing R kept y m ms c cs e = ap (λ ss. act (λ a. perform R kept y ms a.written a.condition a.stack) ss (begin (kept ++ take m.keep y) [] c cs)) e

module _ (M : Machine) (laws : MachineLaws M) (x : List ℕ) (p : Place) (ordered : p.start ≤ p.at) (before_end : p.at < length x) where
  abbrev R : Rules
  R = rules_of_machine M

  abbrev y : List ℕ
  y = drop p.at x

  abbrev line : Bool
  line = at_line_start x p.at

  -- the state after the first k bytes
  abbrev pub state_at : ℕ → ℕ
  state_at k = state_after M p.condition line (take k y)

  abbrev ms : List Candidate
  ms = in_turn M p.condition line y

  all : Candidates R p.condition line y ms
  all = candidates_in_turn M laws p.condition line y

  discarded_by : (m : Candidate) → m.rule < M.count → Discards M m.rule → statements_of R m.rule ≡ []
  discarded_by m lt d = cond-true (nat_lt m.rule M.count) (M.statements m.rule) (Echo ∷ []) (lt-ltb m.rule M.count lt) ∙ d.1

  -- a rule that discards is a candidate
  candidate_at : (k j : ℕ) → 1 ≤ k → k ≤ length y → Among (M.accepts (state_at k)) j → Discards M j → IsCandidate R p.condition line y (record { len = k; rule = j; keep = k })
  candidate_at k j some fits at d = (fits, inl (laws.in_range (state_at k) j at, record { not_empty = omega (arith, some, size); accepted = at; keeps = subst (λ z. Keeps z (length (take k y)) k) (sym d.0) (sym size) }))
    where
      size : length (take k y) ≡ k
      size = length-take-le k y fits

  -- The match that is taken is discarded: it has as many bytes or more, and no longer one is there.
  pub record Passes (n : ℕ) : Type 0 where
    pub len : ℕ
    pub more : n ≤ len
    pub fits : len ≤ length y
    pub rule : ℕ
    pub accepted : Among (M.accepts (state_at len)) rule
    pub longest : (k j : ℕ) → len < k → k ≤ length y → Among (M.accepts (state_at k)) j → ⊥
    pub turn : MatchTurn R x p (passed p len)

  module _ (n i : ℕ) (some : 1 ≤ n) (n_fits : n ≤ length y) (i_at : Among (M.accepts (state_at n)) i) (discards : (k j : ℕ) → n ≤ k → k ≤ length y → Among (M.accepts (state_at k)) j → Discards M j) where
    abbrev this : Candidate
    this = record { len = n; rule = i; keep = n }

    below : i < M.count
    below = laws.in_range (state_at n) i i_at

    module _ (m : Candidate) (rest : List Candidate) (is : ms ≡ m ∷ rest) (first : (m ≡ this) ⊎ Before m this) where
      among : Among ms m
      among = subst (λ z. Among z m) (sym is) (inl refl)

      fit : IsCandidate R p.condition line y m
      fit = (all.members m).0 among

      m_more : n ≤ m.len
      m_more = not_shorter m this first

      m_size : length (take m.len y) ≡ m.len
      m_size = length-take-le m.len y fit.0

      no_default : (m ≡ this) ⊎ Before m this → m.rule ≡ M.count → m.len ≡ 1 → ⊥
      no_default (inl e) rule one = (let same = ap (λ (z : Candidate). z.rule) e in omega (arith, same, rule, below))
      no_default (inr (inl less)) rule one = omega (arith, less, one, some)
      no_default (inr (inr same)) rule one = (let lt = same.1 in omega (arith, lt, rule, below))

      by_machine : Full R p.condition line (take m.len y) m.rule m.keep → (m.rule < M.count) × MachineFits M p.condition line (take m.len y) m.rule m.keep
      by_machine (inl f) = f
      by_machine (inr f) = absurd (no_default first f.0 (let one = f.1 in omega (arith, one, m_size)))

      fits_machine : (m.rule < M.count) × MachineFits M p.condition line (take m.len y) m.rule m.keep
      fits_machine = by_machine fit.1

      m_discards : Discards M m.rule
      m_discards = discards m.len m.rule m_more fit.0 fits_machine.1.accepted

      keep : m.keep ≡ m.len
      keep = (let k : m.keep ≡ length (take m.len y) = subst (λ z. Keeps z (length (take m.len y)) m.keep) m_discards.0 fits_machine.1.keeps in k ∙ m_size)

      abbrev text : List ℕ
      text = part x p.start p.at ++ take m.keep y

      text_size : length text ≡ (p.at - p.start) + m.len
      text_size =
          let joined = length-append (part x p.start p.at) (take m.keep y) in
          let kept : length (part x p.start p.at) ≡ p.at - p.start = length-take-le (p.at - p.start) (drop p.start x) (omega (arith, length-drop p.start x, ordered, before_end)) in
          let own : length (take m.keep y) ≡ m.keep = length-take-le m.keep y (let f = fit.0 in omega (arith, keep, f)) in
          omega (arith, joined, kept, own, keep)

      abbrev outcome : Acting
      outcome = begin text [] p.condition p.stack

      leaves : passed p m.len ≡ record { written = outcome.written; place = next_place p outcome; ended = outcome.ended }
      leaves = (let e : p.at + m.len ≡ p.start + length text = omega (arith, text_size, ordered) in
          ap (λ k. record { written = []; place = record { start = k; at = k; condition = p.condition; stack = p.stack }; ended = None }) e)

      in_order : InOrder (m ∷ rest)
      in_order = subst InOrder is all.in_order

      longest : (k j : ℕ) → m.len < k → k ≤ length y → Among (M.accepts (state_at k)) j → ⊥
      longest k j less fits at = no (subst (λ z. Among z longer) is ((all.members longer).1 (candidate_at k j (omega (arith, less)) fits at (discards k j (omega (arith, less, m_more)) fits at))))
        where
          longer : Candidate
          longer = record { len = k; rule = j; keep = k }

          no : Among (m ∷ rest) longer → ⊥
          no (inl e) = (let same = ap (λ (z : Candidate). z.len) e in omega (arith, same, less))
          no (inr at) = elim (in_order.0 longer at) [ inl l ↦ omega (arith, l, less) | inr l ↦ (let e = l.0 in omega (arith, e, less)) ]

      taken : Passes n
      taken = record {
        len = m.len;
        more = m_more;
        fits = fit.0;
        rule = m.rule;
        accepted = fits_machine.1.accepted;
        longest = longest;
        turn = record {
          before_end = before_end;
          matches = ms;
          all = all;
          outcome = outcome;
          performed = ap (λ z. perform R (part x p.start p.at) y z [] p.condition p.stack) is ∙ does_nothing R (part x p.start p.at) y m rest p.condition p.stack (discarded_by m fits_machine.0 m_discards);
          leaves = leaves;
        };
      }

    pick : (z : List Candidate) → ms ≡ z → Among z this → Passes n
    pick [] is at = absurd at
    pick (m ∷ rest) is (inl e) = taken m rest is (inl (sym e))
    pick (m ∷ rest) is (inr at) = taken m rest is (inr ((subst InOrder is all.in_order).0 this at))

    pub passes : Passes n
    passes = pick ms refl ((all.members this).1 (candidate_at n i some n_fits i_at (discards n i (omega arith) n_fits i_at)))
