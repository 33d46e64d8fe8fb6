-- The plain program over a machine, and how far its matches ask.
use Rattle.std.specs.Prelude.{ℕ, zero, suc, ◌+◌, ◌-◌, max, Bool, ◌&&◌, List, [], ◌∷◌, ◌++◌, drop, filter_map, Option, Some, None, nat_lt, nat_le, if◌then◌else◌, option_map}
use Rattle.lex_semantics.specs.Text.{at_line_start}
use Rattle.lex_semantics.specs.Spec.{Cut, Whole, Head, Trail}
use Rattle.lex_semantics.specs.Candidates.{Candidate}
use Rattle.lex_semantics.specs.Acting.{Ending}
use Rattle.lex_semantics.specs.Run.{State, first_state}
use Rattle.lex_semantics.specs.Machine.{Machine, rules_of_machine}
use Rattle.lex_semantics.specs.Plain.{ordered, default_match, Listing, turn_of, run_from}

-- what a cut keeps of a match of n bytes, if it fits
abbrev pub kept_by : Cut → ℕ → Option ℕ
kept_by Whole n = Some n
kept_by (Head m) n = if nat_lt 0 m && nat_le m n then Some m else None
kept_by (Trail t) n = if nat_lt t n then Some (n - t) else None

abbrev pub match_of : Machine → ℕ → ℕ → Option Candidate
match_of M n i = option_map (λ k. record { len = n; rule = i; keep = k }) (kept_by (M.cut i) n)

-- the matches that end after each byte, from a state after n bytes
abbrev pub machine_matches : Machine → ℕ → ℕ → List ℕ → List Candidate
machine_matches M s n [] = []
machine_matches M s n (b ∷ y) =
    filter_map (match_of M (suc n)) (M.accepts (M.next s b)) ++ machine_matches M (M.next s b) (suc n) y

abbrev pub machine_candidates : Machine → Listing
machine_candidates M c line_start y = ordered (machine_matches M (M.start c line_start) 0 y ++ default_match M.count y)

abbrev pub machine_run : Machine → List ℕ → ℕ → Option (List ℕ × Ending)
machine_run M x n = run_from (rules_of_machine M) (machine_candidates M) x n

-- how many bytes a match asks for from a state on, after one that it asks for in any case
abbrev pub reach_from : Machine → ℕ → List ℕ → ℕ
reach_from M s [] = 0
reach_from M s (b ∷ y) = if M.goes_on s then suc (reach_from M (M.next s b) y) else 0

abbrev pub reach_of : Machine → ℕ → Bool → List ℕ → ℕ
reach_of M c line_start [] = 0
reach_of M c line_start (b ∷ y) = suc (reach_from M (M.next (M.start c line_start) b) y)

abbrev pub far_of : Machine → List ℕ → State → ℕ → ℕ
far_of M x s f = max f (s.place.at + reach_of M s.place.condition (at_line_start x s.place.at) (drop s.place.at x))

-- after each of n turns how far they ask, and where the held bytes begin
abbrev pub told : Machine → List ℕ → ℕ → ℕ → State → Option Ending → Option State → List (ℕ × ℕ)
told M x zero f s e t = []
told M x (suc n) f s (Some e) t = []
told M x (suc n) f s None None = []
told M x (suc n) f s None (Some t) =
    (far_of M x s f, t.place.start)
    ∷ told M x n (far_of M x s f) t t.ended (turn_of (rules_of_machine M) (machine_candidates M) x t)

abbrev pub told_of : Machine → List ℕ → ℕ → List (ℕ × ℕ)
told_of M x n = told M x n 0 first_state None (turn_of (rules_of_machine M) (machine_candidates M) x first_state)
