-- What a turn gives up, by the states that its walk goes through, and what turns give up as more is read.
use Rattle.std.proofs.Common.{◌≡◌, ◌∙◌, ℕ, ◌+◌, ◌-◌, ◌≤◌, ◌<◌, ◌⊎◌, Bool, true, false, cond, List, [], ◌∷◌, ◌++◌, length, take, drop, inl, inr, refl, sym, ap, subst, arith, append-nil, length-drop, true≢false}
use Rattle.std.specs.Prelude.{nat_lt}
use Rattle.std.specs.List.{concat}
use Rattle.std.proofs.lemmas.Bool.{cases_lt, cond-true, cond-false, lt-ltb, le-ltb}
use Rattle.std.proofs.lemmas.List.{append_assoc, length-take-le, take_all}
use Rattle.lex_semantics.specs.Candidates.{Candidate, Candidates}
use Rattle.lex_semantics.specs.Demand.{Consistent}
use Rattle.lex_semantics.specs.Machine.{Machine, rules_of_machine}
use Rattle.lex_semantics.specs.MachineLaws.{MachineLaws, NoReject}
use Rattle.lex_semantics.specs.Plain.{default_match}
use Rattle.lex_semantics.specs.Rules.{Rules, statements_of}
use Rattle.lex_semantics.specs.Spec.{Echo, has_reject}
use Rattle.lex_semantics.specs.Text.{BeginsWith, IsText, at_line_start}
use Rattle.lex_semantics.specs.Trail.{falling, trail_from}
use Rattle.lex_semantics.proofs.Falling.{falling_candidates}
use Rattle.lex_semantics.proofs.Local.{more_input}
use Rattle.lex_semantics.proofs.MachineLaws.{machine_laws}
use Rattle.lex_semantics.proofs.Prefix.{front_splits}
use Rattle.lex_semantics.proofs.Texts.{is_text_drop, is_text_right, line_start_front}
use Rattle.lexlook_counts.specs.Costs.{TurnCost, begins_at, end_of}
use Rattle.lexlook_counts.specs.Descending.{CountsMore, CountsTurn, IsPath}
use Rattle.lexlook_counts.specs.GivenUp.{AreGivenUp, GivesUp, given_up}
use Rattle.lexlook_counts.specs.Looking.{Starts}
use Rattle.lexlook_counts.specs.declared.looking.TurnStart.{TurnStart}
use Rattle.lexlook_counts.proofs.Costing.{begins_so}
use Rattle.lexlook_counts.proofs.Giving.{by_equal, same_more}

-- ---- where no rule has REJECT

-- a rule without REJECT, and the default rule
pub without : (R : Rules) → ((i : ℕ) → i < R.count → has_reject (R.statements i) ≡ false) → (i : ℕ) → has_reject (statements_of R i) ≡ false
without R h i = from (cases_lt i R.count)
  where
    from : (i < R.count) ⊎ (R.count ≤ i) → has_reject (statements_of R i) ≡ false
    from (inl lt) = ap has_reject (cond-true (nat_lt i R.count) (R.statements i) (Echo ∷ []) (lt-ltb i R.count lt)) ∙ h i lt
    from (inr le) = ap has_reject (cond-false (nat_lt i R.count) (R.statements i) (Echo ∷ []) (le-ltb i R.count le))

-- nothing is given up
pub none_given_up : (R : Rules) → ((i : ℕ) → i < R.count → has_reject (R.statements i) ≡ false) → (ms : List Candidate) → given_up R ms ≡ []
none_given_up R h [] = refl
none_given_up R h (m ∷ ms) = ap (λ (b : Bool). cond b (m.rule ∷ given_up R ms) []) (without R h m.rule)

pub turn_without : (M : Machine) → MachineLaws M → NoReject M → (given : List ℕ) (at condition : ℕ) (finished : Bool) (counts : List ℕ) → CountsTurn M given at condition finished counts counts
turn_without M laws none given at condition finished counts = record {
  rules = [];
  counted = same_more counts;
  gives_up = λ x goes. record {
    matches = falling M 0 (trail_from M (M.start condition (at_line_start x at)) (drop at x)) ++ default_match M.count (drop at x);
    all = falling_candidates M laws condition (at_line_start x at) (drop at x);
    rules_are = sym (none_given_up (rules_of_machine M) none _);
  };
}

-- ---- by the states of a walk

-- the default rule is not given up
pub default_kept : (R : Rules) (y : List ℕ) (ms : List Candidate) → given_up R (ms ++ default_match R.count y) ≡ given_up R ms
default_kept R y (m ∷ ms) = ap (λ l. cond (has_reject (statements_of R m.rule)) (m.rule ∷ l) []) (default_kept R y ms)
default_kept R [] [] = refl
default_kept R (b ∷ y) [] = ap (λ (t : Bool). cond t (R.count ∷ []) []) echoes
  where
    echoes : has_reject (statements_of R R.count) ≡ false
    echoes = ap has_reject (cond-false (nat_lt R.count R.count) (R.statements R.count) (Echo ∷ []) (le-ltb R.count R.count (omega arith)))

module _ (M : Machine) (laws : MachineLaws M) (given : List ℕ) (at condition : ℕ) (inside : at ≤ length given) (path : List ℕ) (stopped : Bool)
    (h : IsPath M (M.start condition (at_line_start given at)) (drop at given) path stopped) where
  abbrev seen : List ℕ
  seen = take (length path) (drop at given)

  abbrev told : List Candidate
  told = falling M 0 path ++ default_match M.count seen

  -- the matches among the bytes that the walk looks at
  among_seen : Candidates (rules_of_machine M) condition (at_line_start given at) seen told
  among_seen =
      subst (λ (l : List ℕ). Candidates (rules_of_machine M) condition (at_line_start given at) seen (falling M 0 l ++ default_match M.count seen)) (sym h.states)
      (falling_candidates M laws condition (at_line_start given at) seen)

  same_rules : given_up (rules_of_machine M) (falling M 0 path) ≡ given_up (rules_of_machine M) told
  same_rules = sym (default_kept (rules_of_machine M) seen (falling M 0 path))

  -- it stops among the bytes that were given, whatever follows
  stops_inside : (rest : List ℕ) → IsText (given ++ rest) → stopped ≡ true → GivesUp (rules_of_machine M) (given ++ rest) at condition (given_up (rules_of_machine M) (falling M 0 path))
  stops_inside rest text stop =
      let size : length (drop at given) ≡ length given - at = length-drop at given in
      let some = h.stops stop in
      let fits : at + length path ≤ length given = omega (arith, h.inside, size, inside) in
      let long : length seen ≡ length path = length-take-le (length path) (drop at given) h.inside in
      let splits : drop at (given ++ rest) ≡ seen ++ (drop (length path) (drop at given) ++ rest) = front_splits (rules_of_machine M) given rest (begins_at at condition) (length path) fits in
      let line : at_line_start (given ++ rest) at ≡ at_line_start given at = line_start_front given rest at inside in
      let after : IsText (drop (length path) (drop at given) ++ rest) = is_text_right seen (drop (length path) (drop at given) ++ rest) (subst IsText splits (is_text_drop at (given ++ rest) text)) in
      record {
        matches = told;
        all = subst (λ (b : Bool). Candidates (rules_of_machine M) condition b (drop at (given ++ rest)) told) (sym line)
            (subst (λ (y : List ℕ). Candidates (rules_of_machine M) condition (at_line_start given at) y told) (sym splits)
            (more_input (rules_of_machine M) (machine_laws M laws) condition (at_line_start given at) seen (drop (length path) (drop at given) ++ rest) after (omega (arith, long, some.0)) (λ goes. true≢false (sym goes ∙ some.1)) told among_seen));
        rules_are = same_rules;
      }

  -- it looks at all that there is
  looks_at_all : stopped ≡ false → GivesUp (rules_of_machine M) given at condition (given_up (rules_of_machine M) (falling M 0 path))
  looks_at_all whole =
      let every : seen ≡ drop at given = take_all (length path) (drop at given) (omega (arith, h.all whole)) in
      record {
        matches = told;
        all = subst (λ (y : List ℕ). Candidates (rules_of_machine M) condition (at_line_start given at) y told) every among_seen;
        rules_are = same_rules;
      }

  pub turn_gives_up : (x : List ℕ) (finished : Bool) → Consistent given finished x → (stopped ≡ false → finished ≡ true) → GivesUp (rules_of_machine M) x at condition (given_up (rules_of_machine M) (falling M 0 path))
  turn_gives_up x finished goes all = from stopped refl
    where
      from : (b : Bool) → stopped ≡ b → GivesUp (rules_of_machine M) x at condition (given_up (rules_of_machine M) (falling M 0 path))
      from true stop =
          let begins : BeginsWith x given = begins_so given finished x goes in
          subst (λ (y : List ℕ). GivesUp (rules_of_machine M) y at condition (given_up (rules_of_machine M) (falling M 0 path))) (sym begins.1) (stops_inside begins.0 (subst IsText begins.1 goes.0) stop)
      from false whole =
          let same : x ≡ given = (subst (λ (b : Bool). Consistent given b x) (all whole) goes).1 in
          subst (λ (y : List ℕ). GivesUp (rules_of_machine M) y at condition (given_up (rules_of_machine M) (falling M 0 path))) (sym same) (looks_at_all whole)

-- ---- one turn more

pub given_more : (R : Rules) (x : List ℕ) (at : ℕ) (cs : List TurnCost) (c : TurnCost) (others : List (List ℕ)) (rules : List ℕ) → AreGivenUp R x at cs others → GivesUp R x (end_of at cs) c.token.condition rules
    → AreGivenUp R x at (cs ++ c ∷ []) (others ++ rules ∷ [])
given_more R x at [] c [] rules all one = (one, tt)
given_more R x at [] c (o ∷ others) rules all one = absurd all
given_more R x at (d ∷ cs) c [] rules all one = absurd all
given_more R x at (d ∷ cs) c (o ∷ others) rules all one = (all.0, given_more R x d.token.end cs c others rules all.1 one)

pub concat_more : (others : List (List ℕ)) (rules : List ℕ) → concat (others ++ rules ∷ []) ≡ concat others ++ rules
concat_more [] rules = append-nil rules
concat_more (o ∷ others) rules = ap (λ l. o ++ l) (concat_more others rules) ∙ sym (append_assoc o (concat others) rules)

all_there : (stopped finished : Bool) → ((stopped ≡ false) × (finished ≡ true)) ⊎ (stopped ≡ true) → stopped ≡ false → finished ≡ true
all_there stopped finished (inl h) going = h.1
all_there stopped finished (inr stop) going = absurd (true≢false (sym stop ∙ going))

pub turn_by_path : (M : Machine) → MachineLaws M → (given : List ℕ) (at condition : ℕ) (finished : Bool) (t : TurnStart) (path states : List ℕ) (stopped : Bool) (counts counts' : List ℕ) → Starts M given at condition t → IsPath M t.first t.bytes.now path stopped
    → ((stopped ≡ false) × (finished ≡ true)) ⊎ (stopped ≡ true) → states ≡ path → CountsMore counts counts' (given_up (rules_of_machine M) (falling M 0 states)) → CountsTurn M given at condition finished counts counts'
turn_by_path M laws given at condition finished t path states stopped counts counts' starts h either same counted =
    let walked : IsPath M (M.start condition (at_line_start given at)) (drop at given) path stopped = subst (λ (w : List ℕ). IsPath M (M.start condition (at_line_start given at)) w path stopped) starts.bytes (subst (λ (s : ℕ). IsPath M s t.bytes.now path stopped) starts.first h) in
    record {
      rules = given_up (rules_of_machine M) (falling M 0 path);
      counted = by_equal counts counts' _ _ (ap (λ (l : List ℕ). given_up (rules_of_machine M) (falling M 0 l)) same) counted;
      gives_up = λ x goes. turn_gives_up M laws given at condition starts.inside path stopped walked x finished goes (all_there stopped finished either);
    }
