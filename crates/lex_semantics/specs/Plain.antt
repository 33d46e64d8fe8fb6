-- A plain slow program for the definitions: it tries every front of the input against every rule.
use Rattle.std.specs.Prelude.{ℕ, zero, suc, ◌-◌, Bool, true, false, ◌&&◌, List, [], ◌∷◌, ◌++◌, length, map, drop, filter, flat_map, Option, Some, None, nat_lt, nat_le, nat_eq, if◌then◌else◌, option_and_then, option_map}
use Rattle.lex_semantics.specs.Text.{part, at_line_start}
use Rattle.lex_semantics.specs.Tree.{Tree, Trees, Empty, Set, Cat, Alt, Star, Repeat, no_trees, tree}
use Rattle.lex_semantics.specs.Spec.{Spec, Rule}
use Rattle.lex_semantics.specs.Rules.{Rules, rules_of}
use Rattle.lex_semantics.specs.Candidates.{Candidate}
use Rattle.lex_semantics.specs.Acting.{Ending, Status, Acting, perform}
use Rattle.lex_semantics.specs.Run.{State, first_state, next_place}
use Rattle.lex_semantics.specs.ByteSets.{ByteSet, has}
use Rattle.lex_semantics.specs.Active.{active}

-- what follows a front of the text, for each front that will do
abbrev pub Fronts : Type 0
Fronts = List ℕ → List (List ℕ)

abbrev pub byte_front : ByteSet → Fronts
byte_front s [] = []
byte_front s (b ∷ w) = if nat_lt b 256 && has s b then w ∷ [] else []

-- k fronts, one after another
abbrev pub times : Fronts → ℕ → Fronts
times f zero w = w ∷ []
times f (suc k) w = flat_map (times f k) (f w)

-- at most k of them
abbrev pub up_to : Fronts → ℕ → Fronts
up_to f zero w = w ∷ []
up_to f (suc k) w = w ∷ flat_map (up_to f k) (f w)

abbrev pub shorter : List ℕ → List (List ℕ) → List (List ℕ)
shorter w vs = filter (λ v. nat_lt (length v) (length w)) vs

-- any number of them, at most n of which read something
abbrev pub rounds : Fronts → ℕ → Fronts
rounds f zero w = w ∷ []
rounds f (suc n) w = w ∷ flat_map (rounds f n) (shorter w (f w))

abbrev pub any_times : Fronts → Fronts
any_times f w = rounds f (length w) w

abbrev pub repeated : Fronts → ℕ → Option ℕ → Fronts
repeated f m None w = flat_map (any_times f) (times f m w)
repeated f m (Some n) w = if nat_le m n then flat_map (up_to f (n - m)) (times f m w) else []

-- the fronts that are words of the tree
abbrev mutual
  pub fronts : Tree → Fronts
  fronts Empty w = w ∷ []
  fronts (Set s) w = byte_front s w
  fronts (Cat ts) w = fronts_each ts w
  fronts (Alt ts) w = fronts_some ts w
  fronts (Star t) w = any_times (fronts t) w
  fronts (Repeat t m n) w = repeated (fronts t) m n w

  pub fronts_each : Trees → Fronts
  fronts_each no_trees w = w ∷ []
  fronts_each (tree t ts) w = flat_map (fronts_each ts) (fronts t w)

  pub fronts_some : Trees → Fronts
  fronts_some no_trees w = []
  fronts_some (tree t ts) w = fronts t w ++ fronts_some ts w

abbrev pub fronts_trail : Option Tree → Fronts
fronts_trail None w = w ∷ []
fronts_trail (Some t) w = fronts t w

-- the matches of rule i at the front of y, in any order
abbrev pub matches_from : Rule → ℕ → List ℕ → List ℕ → List Candidate
matches_from r i y v =
    map (λ z. record { len = length y - length z; rule = i; keep = length y - length v }) (fronts_trail r.trail v)

abbrev pub matches_of_rule : Rule → ℕ → List ℕ → List Candidate
matches_of_rule r i y = flat_map (matches_from r i y) (shorter y (fronts r.head y))

-- of the rules from number i on
abbrev pub matches_of_rules : Spec → ℕ → Bool → List Rule → ℕ → List ℕ → List Candidate
matches_of_rules S c line_start [] i y = []
matches_of_rules S c line_start (r ∷ rs) i y =
    (if active S c line_start r then matches_of_rule r i y else []) ++ matches_of_rules S c line_start rs (suc i) y

abbrev pub default_match : ℕ → List ℕ → List Candidate
default_match count [] = []
default_match count (b ∷ y) = record { len = 1; rule = count; keep = 1 } ∷ []

-- puts a match in its place; None where another of the same length and rule has another text
abbrev pub is_before : Candidate → Candidate → Bool
is_before m n = if nat_lt n.len m.len then true else nat_eq m.len n.len && nat_lt m.rule n.rule

abbrev pub cons_to : Candidate → Option (List Candidate) → Option (List Candidate)
cons_to n None = None
cons_to n (Some ms) = Some (n ∷ ms)

abbrev pub insert : Candidate → List Candidate → Option (List Candidate)
insert m [] = Some (m ∷ [])
insert m (n ∷ ms) =
    if is_before m n then Some (m ∷ n ∷ ms)
    else (if is_before n m then cons_to n (insert m ms)
    else (if nat_eq m.keep n.keep then Some (n ∷ ms) else None))

abbrev pub insert_to : Candidate → Option (List Candidate) → Option (List Candidate)
insert_to m None = None
insert_to m (Some ms) = insert m ms

abbrev pub ordered : List Candidate → Option (List Candidate)
ordered [] = Some []
ordered (m ∷ ms) = insert_to m (ordered ms)

-- all the matches at the front of y
abbrev pub candidates_of : Spec → ℕ → Bool → List ℕ → Option (List Candidate)
candidates_of S c line_start y =
    ordered (matches_of_rules S c line_start S.rules 0 y ++ default_match (length S.rules) y)

abbrev pub after_match : State → Option Acting → Option State
after_match s None = None
after_match s (Some o) =
    Some (record { written = s.written ++ o.written; place = next_place s.place o; ended = o.ended })

-- how the matches at a place are listed: condition, start of a line, and the input from there
abbrev pub Listing : Type 0
Listing = ℕ → Bool → List ℕ → Option (List Candidate)

abbrev pub perform_at : Rules → List ℕ → State → Option (List Candidate) → Option State
perform_at R x s None = None
perform_at R x s (Some ms) =
    after_match s
    (perform R (part x s.place.start s.place.at) (drop s.place.at x) ms [] s.place.condition s.place.stack)

abbrev pub after_end : Rules → State → State
after_end R s =
    let action = R.ending s.place.condition in
    record {
      written = s.written ++ action.print;
      place = record { start = s.place.at; at = s.place.at; condition = s.place.condition; stack = s.place.stack };
      ended = Some (Status action.status);
    }

-- one turn from a state that has not ended; None where there is no outcome
abbrev pub turn_at : Bool → Rules → Listing → List ℕ → State → Option State
turn_at true R list x s = perform_at R x s (list s.place.condition (at_line_start x s.place.at) (drop s.place.at x))
turn_at false R list x s = if nat_eq s.place.at (length x) then Some (after_end R s) else None

abbrev pub turn_of : Rules → Listing → List ℕ → State → Option State
turn_of R list x s = turn_at (nat_lt s.place.at (length x)) R list x s

-- the state after at most n turns
abbrev pub state_after : Rules → Listing → List ℕ → ℕ → Option Ending → State → Option State
state_after R list x n (Some e) s = Some s
state_after R list x zero None s = Some s
state_after R list x (suc n) None s = option_and_then (λ t. state_after R list x n t.ended t) (turn_of R list x s)

-- what is written and how the scan ends, if at most n turns suffice
abbrev pub outcome_of : Option State → Option (List ℕ × Ending)
outcome_of None = None
outcome_of (Some s) = option_map (λ e. (s.written, e)) s.ended

abbrev pub run_from : Rules → Listing → List ℕ → ℕ → Option (List ℕ × Ending)
run_from R list x n = outcome_of (state_after R list x n None first_state)

-- the run of a specification
abbrev pub run_of : Spec → List ℕ → ℕ → Option (List ℕ × Ending)
run_of S x n = run_from (rules_of S) (candidates_of S) x n
