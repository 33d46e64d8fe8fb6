-- The plain program's runs are runs.
use Rattle.std.proofs.Common.{◌≡◌, ℕ, zero, suc, ◌+◌, ◌-◌, ◌≤◌, ◌<◌, Bool, true, false, List, [], ◌∷◌, ◌++◌, length, take, drop, map, ◌⊎◌, inl, inr, ◌↔◌, Option, Some, None, refl, sym, ◌∙◌, ap, subst, arith}
use Rattle.std.specs.Prelude.{nat_lt, nat_eq, if◌then◌else◌, slice_get, option_and_then, option_map}
use Rattle.std.proofs.lemmas.Bool.{ltb-true, eqb-true, cond-true}
use Rattle.std.proofs.lemmas.List.{append_assoc, length-append, take_at, take-append-drop, length-take-le}
use Rattle.lex_semantics.proofs.Splits.{split_of, of_split}
use Rattle.lex_semantics.specs.Text.{Among, part, at_line_start}
use Rattle.lex_semantics.specs.Tree.{Tree, In}
use Rattle.lex_semantics.specs.Spec.{Spec, Rule}
use Rattle.lex_semantics.specs.Rules.{Rules, Full, rules_of}
use Rattle.lex_semantics.specs.Candidates.{Candidate, Candidates, IsCandidate}
use Rattle.lex_semantics.specs.Acting.{Ending, Status, Acting}
use Rattle.lex_semantics.specs.Acting.{perform}
use Rattle.lex_semantics.proofs.Once.{run_by}
use Rattle.lex_semantics.specs.Run.{State, Turn, NextFrom, Turns, Run, first_state, next_place}
use Rattle.lex_semantics.specs.Plain.{shorter, fronts, fronts_trail, matches_from, matches_of_rule, matches_of_rules, default_match, candidates_of, after_match, perform_at, after_end, turn_at, turn_of, state_after, outcome_of, run_from, run_of, Listing}
use Rattle.lex_semantics.proofs.Fronts.{AreFronts, Leaves, fronts_are, among_flat_map, flat_map_among, among_append, among_left, among_right, shorter_among, among_shorter}
use Rattle.lex_semantics.proofs.Ordered.{ordered_is, candidate_same}
use Rattle.lex_semantics.specs.Active.{active}
use Rattle.lex_semantics.specs.Fits.{InTrail, Fits}

among_map : {X Y : Type 0} (f : X → Y) (xs : List X) (x : X) → Among xs x → Among (map f xs) (f x)
among_map f [] x h = absurd h
among_map f (z ∷ zs) x (inl e) = inl (ap f e)
among_map f (z ∷ zs) x (inr h) = inr (among_map f zs x h)

map_from : {X Y : Type 0} (f : X → Y) (z : X) (zs : List X) (y : Y) → (y ≡ f z) ⊎ Among (map f zs) y → (Among (map f zs) y → (x : X) × Among zs x × (y ≡ f x)) → (x : X) × Among (z ∷ zs) x × (y ≡ f x)
map_from f z zs y (inl e) later = (z, inl refl, e)
map_from f z zs y (inr h) later = let r = later h in (r.0, inr r.1, r.2)

map_among : {X Y : Type 0} (f : X → Y) (xs : List X) (y : Y) → Among (map f xs) y → (x : X) × Among xs x × (y ≡ f x)
map_among f [] y h = absurd h
map_among f (z ∷ zs) y h = map_from f z zs y h (λ k. map_among f zs y k)

trail_are : (t : Option Tree) → AreFronts (fronts_trail t) (InTrail t)
trail_are None = record {
  sound = none_sound;
  complete = λ w v h. inl (sym (h.1 ∙ ap (λ z. z ++ v) h.2));
}
  where
    none_sound : (w v : List ℕ) → Among (w ∷ []) v → Leaves (λ u. u ≡ []) w v
    none_sound w v (inl e) = ([], sym e, refl)
    none_sound w v (inr h) = absurd h
trail_are (Some t) = fronts_are t

-- a match of the rule at the front of y
pub record IsMatch (r : Rule) (i : ℕ) (y : List ℕ) (m : Candidate) : Type 0 where
  pub number : m.rule ≡ i
  pub text : List ℕ
  pub trail : List ℕ
  pub rest : List ℕ
  pub splits : y ≡ text ++ (trail ++ rest)
  pub len_is : m.len ≡ length text + length trail
  pub keep_is : m.keep ≡ length text
  pub not_empty : 1 ≤ length text
  pub in_head : In r.head text
  pub in_trail : InTrail r.trail trail

match_sound : (r : Rule) (i : ℕ) (y : List ℕ) (m : Candidate) → Among (matches_of_rule r i y) m → IsMatch r i y m
match_sound r i y m h =
    let mid = flat_map_among (matches_from r i y) (shorter y (fronts r.head y)) m h in
    let v : List ℕ = mid.0 in
    let near = shorter_among y (fronts r.head y) v mid.1 in
    let a = (fronts_are r.head).sound y v near.0 in
    let last = map_among (λ z. record { len = length y - length z; rule = i; keep = length y - length v }) (fronts_trail r.trail v) m mid.2 in
    let z : List ℕ = last.0 in
    let b = (trail_are r.trail).sound v z last.1 in
    let size : length y ≡ length a.0 + length v = ap length a.1 ∙ length-append a.0 v in
    let size' : length v ≡ length b.0 + length z = ap length b.1 ∙ length-append b.0 z in
    let len : m.len ≡ length y - length z = ap (λ (q : Candidate). q.len) last.2 in
    let keep : m.keep ≡ length y - length v = ap (λ (q : Candidate). q.keep) last.2 in
    record {
      number = ap (λ (q : Candidate). q.rule) last.2;
      text = a.0;
      trail = b.0;
      rest = z;
      splits = a.1 ∙ ap (λ w. a.0 ++ w) b.1;
      len_is = omega arith;
      keep_is = omega arith;
      not_empty = omega (arith, near.1);
      in_head = a.2;
      in_trail = b.2;
    }

match_complete : (r : Rule) (i : ℕ) (y : List ℕ) (m : Candidate) → IsMatch r i y m → Among (matches_of_rule r i y) m
match_complete r i y m h =
    let v : List ℕ = h.trail ++ h.rest in
    let size : length y ≡ length h.text + length v = ap length h.splits ∙ length-append h.text v in
    let size' : length v ≡ length h.trail + length h.rest = length-append h.trail h.rest in
    let make : List ℕ → Candidate = λ z. record { len = length y - length z; rule = i; keep = length y - length v } in
    let len : m.len ≡ length y - length h.rest = omega (arith, h.len_is) in
    let keep : m.keep ≡ length y - length v = omega (arith, h.keep_is) in
    let same : m ≡ make h.rest = candidate_same m (make h.rest) len h.number keep in
    among_flat_map (matches_from r i y) (shorter y (fronts r.head y)) v m
    (among_shorter y (fronts r.head y) v ((fronts_are r.head).complete y v (h.text, h.splits, h.in_head)) (omega (arith, h.not_empty)))
    (subst (Among (matches_from r i y v)) (sym same) (among_map make (fronts_trail r.trail v) h.rest ((trail_are r.trail).complete v h.rest (h.trail, refl, h.in_trail))))

-- a match of some active rule, where the first of these rules has number i
abbrev pub SomeMatch : Spec → ℕ → Bool → List Rule → ℕ → List ℕ → Candidate → Type 0
SomeMatch S c line_start rs i y m = (j : ℕ) × (r : Rule) × (slice_get rs j ≡ Some r) × (active S c line_start r ≡ true) × IsMatch r (i + j) y m

if_sound : (b : Bool) (ms : List Candidate) (m : Candidate) → Among (if b then ms else []) m → (b ≡ true) × Among ms m
if_sound true ms m h = (refl, h)
if_sound false ms m h = absurd h

renumber : (r : Rule) (i j : ℕ) (y : List ℕ) (m : Candidate) → i ≡ j → IsMatch r i y m → IsMatch r j y m
renumber r i j y m e h = subst (λ k. IsMatch r k y m) e h

rules_from : (S : Spec) (c : ℕ) (line_start : Bool) (r : Rule) (rs : List Rule) (i : ℕ) (y : List ℕ) (m : Candidate) →
    Among (if active S c line_start r then matches_of_rule r i y else []) m ⊎ Among (matches_of_rules S c line_start rs (suc i) y) m →
    (Among (matches_of_rules S c line_start rs (suc i) y) m → SomeMatch S c line_start rs (suc i) y m) → SomeMatch S c line_start (r ∷ rs) i y m
rules_from S c line_start r rs i y m (inl h) later =
    let k = if_sound (active S c line_start r) (matches_of_rule r i y) m h in
    (0, r, refl, k.0, renumber r i (i + 0) y m (omega arith) (match_sound r i y m k.1))
rules_from S c line_start r rs i y m (inr h) later =
    let k = later h in
    (suc k.0, k.1, k.2, k.3, renumber k.1 (suc i + k.0) (i + suc k.0) y m (omega arith) k.4)

rules_sound : (S : Spec) (c : ℕ) (line_start : Bool) (rs : List Rule) (i : ℕ) (y : List ℕ) (m : Candidate) → Among (matches_of_rules S c line_start rs i y) m → SomeMatch S c line_start rs i y m
rules_sound S c line_start [] i y m h = absurd h
rules_sound S c line_start (r ∷ rs) i y m h =
    rules_from S c line_start r rs i y m (among_append (if active S c line_start r then matches_of_rule r i y else []) (matches_of_rules S c line_start rs (suc i) y) m h)
    (λ k. rules_sound S c line_start rs (suc i) y m k)

rules_complete : (S : Spec) (c : ℕ) (line_start : Bool) (rs : List Rule) (i j : ℕ) (r : Rule) (y : List ℕ) (m : Candidate) →
    slice_get rs j ≡ Some r → active S c line_start r ≡ true → IsMatch r (i + j) y m → Among (matches_of_rules S c line_start rs i y) m
rules_complete S c line_start [] i j r y m e on h = absurd (no e)
  where
    no : None ≡ Some r → ⊥
    no p = cc
rules_complete S c line_start (q ∷ rs) i zero r y m e on h =
    let same : r ≡ q = cc in
    let here : Among (matches_of_rule q i y) m = match_complete q i y m (subst (λ k. IsMatch k i y m) same (renumber r (i + 0) i y m (omega arith) h)) in
    let is_on : active S c line_start q ≡ true = ap (active S c line_start) (sym same) ∙ on in
    among_left (if active S c line_start q then matches_of_rule q i y else []) (matches_of_rules S c line_start rs (suc i) y) m
    (subst (λ z. Among z m) (sym (cond-true (active S c line_start q) (matches_of_rule q i y) [] is_on)) here)
rules_complete S c line_start (q ∷ rs) i (suc j) r y m e on h =
    among_right (if active S c line_start q then matches_of_rule q i y else []) (matches_of_rules S c line_start rs (suc i) y) m
    (rules_complete S c line_start rs (suc i) j r y m e on (renumber r (i + suc j) (suc i + j) y m (omega arith) h))

get_inside : {X : Type 0} (xs : List X) (i : ℕ) (x : X) → slice_get xs i ≡ Some x → i < length xs
get_inside {X} [] i x e = absurd (no e)
  where
    no : None ≡ Some x → ⊥
    no p = cc
get_inside (y ∷ ys) zero x e = omega arith
get_inside (y ∷ ys) (suc i) x e = let h : i < length ys = get_inside ys i x e in omega arith

match_is : (S : Spec) (c : ℕ) (line_start : Bool) (y : List ℕ) (m : Candidate) → SomeMatch S c line_start S.rules 0 y m → IsCandidate (rules_of S) c line_start y m
match_is S c line_start y m (j, r, at, on, h) =
    let e : y ≡ (h.text ++ h.trail) ++ h.rest = h.splits ∙ sym (append_assoc h.text h.trail h.rest) in
    let n : length (h.text ++ h.trail) ≡ m.len = length-append h.text h.trail ∙ sym h.len_is in
    let size : length y ≡ length (h.text ++ h.trail) + length h.rest = ap length e ∙ length-append (h.text ++ h.trail) h.rest in
    let front : take m.len y ≡ h.text ++ h.trail = ap (take m.len) e ∙ take_at (h.text ++ h.trail) h.rest m.len n in
    let number : j ≡ m.rule = omega (arith, h.number) in
    let fits : Fits S c line_start (take m.len y) j m.keep = of_split S c line_start (take m.len y) j m.keep (record {
      rule = r;
      at = at;
      is_active = on;
      text = h.text;
      trail = h.trail;
      splits = front;
      length_is = h.keep_is;
      not_empty = omega (arith, h.keep_is, h.not_empty);
      in_head = h.in_head;
      in_trail = h.in_trail;
    }) in
    (omega arith, inl (omega (arith, get_inside S.rules j r at), subst (λ i. Fits S c line_start (take m.len y) i m.keep) number fits))

is_match : (S : Spec) (c : ℕ) (line_start : Bool) (y : List ℕ) (m : Candidate) → m.len ≤ length y → Fits S c line_start (take m.len y) m.rule m.keep → SomeMatch S c line_start S.rules 0 y m
is_match S c line_start y m le fits =
    let h = split_of S c line_start (take m.len y) m.rule m.keep fits in
    let n : length (take m.len y) ≡ m.len = length-take-le m.len y le in
    let size : length (take m.len y) ≡ length h.text + length h.trail = ap length h.splits ∙ length-append h.text h.trail in (
      m.rule,
      h.rule,
      h.at,
      h.is_active,
      record {
        number = omega arith;
        text = h.text;
        trail = h.trail;
        rest = drop m.len y;
        splits = sym (take-append-drop m.len y) ∙ ap (λ z. z ++ drop m.len y) h.splits ∙ append_assoc h.text h.trail (drop m.len y);
        len_is = omega arith;
        keep_is = h.length_is;
        not_empty = omega (arith, h.length_is, h.not_empty);
        in_head = h.in_head;
        in_trail = h.in_trail;
      },
    )

default_is : (S : Spec) (c : ℕ) (line_start : Bool) (y : List ℕ) (m : Candidate) → Among (default_match (length S.rules) y) m → IsCandidate (rules_of S) c line_start y m
default_is S c line_start [] m h = absurd h
default_is S c line_start (b ∷ y) m (inr h) = absurd h
default_is S c line_start (b ∷ y) m (inl e) = subst (IsCandidate (rules_of S) c line_start (b ∷ y)) (sym e) (omega arith, inr (refl, refl, refl))

is_default : (S : Spec) (y : List ℕ) (m : Candidate) → m.len ≤ length y → m.rule ≡ length S.rules → length (take m.len y) ≡ 1 → m.keep ≡ 1 → Among (default_match (length S.rules) y) m
is_default S [] m le p q r = let nil : List ℕ = [] in let n : length (take m.len nil) ≡ m.len = length-take-le m.len nil le in let z : m.len ≤ 0 = le in let one : length (take m.len nil) ≡ 1 = q in absurd (omega arith)
is_default S (b ∷ y) m le p q r =
    let n : length (take m.len (b ∷ y)) ≡ m.len = length-take-le m.len (b ∷ y) le in
    inl (candidate_same m (record { len = 1; rule = length S.rules; keep = 1 }) (omega arith) p r)

-- The matches that the plain program finds are all the matches.
pub listed_are : (S : Spec) (c : ℕ) (line_start : Bool) (y : List ℕ) (m : Candidate) →
    Among (matches_of_rules S c line_start S.rules 0 y ++ default_match (length S.rules) y) m ↔ IsCandidate (rules_of S) c line_start y m
listed_are S c line_start y m =
    (λ h. to (among_append (matches_of_rules S c line_start S.rules 0 y) (default_match (length S.rules) y) m h), λ h. from h.0 h.1)
  where
    to : Among (matches_of_rules S c line_start S.rules 0 y) m ⊎ Among (default_match (length S.rules) y) m → IsCandidate (rules_of S) c line_start y m
    to (inl h) = match_is S c line_start y m (rules_sound S c line_start S.rules 0 y m h)
    to (inr h) = default_is S c line_start y m h

    from : m.len ≤ length y → Full (rules_of S) c line_start (take m.len y) m.rule m.keep → Among (matches_of_rules S c line_start S.rules 0 y ++ default_match (length S.rules) y) m
    from le (inl h) =
        let k = is_match S c line_start y m le h.1 in
        among_left (matches_of_rules S c line_start S.rules 0 y) (default_match (length S.rules) y) m (rules_complete S c line_start S.rules 0 k.0 k.1 y m k.2 k.3 k.4)
    from le (inr h) = among_right (matches_of_rules S c line_start S.rules 0 y) (default_match (length S.rules) y) m (is_default S y m le h.0 h.1 h.2)

-- What the plain program lists is all the matches in order.
pub candidates_are : (S : Spec) (c : ℕ) (line_start : Bool) (y : List ℕ) (ms : List Candidate) → candidates_of S c line_start y ≡ Some ms → Candidates (rules_of S) c line_start y ms
candidates_are S c line_start y ms e =
    let o = ordered_is (matches_of_rules S c line_start S.rules 0 y ++ default_match (length S.rules) y) ms e in
    record { in_order = o.in_order; members = λ m. (λ h. (listed_are S c line_start y m).0 ((o.members m).0 h), λ h. (o.members m).1 ((listed_are S c line_start y m).1 h)) }

-- a turn that the plain program makes
no_state : {A : Type 0} {s : State} → None ≡ Some s → A
no_state p = cc

some_state : (s t : State) → Some s ≡ Some t → s ≡ t
some_state s t e = cc

-- what is written so far, and a turn
abbrev pub IsNext : Rules → List ℕ → State → State → Type 0
IsNext R x s t = (u : State) × Turn R x s.place u × (t ≡ record { written = s.written ++ u.written; place = u.place; ended = u.ended })

after_is : (R : Rules) (x : List ℕ) (s t : State) (ms : List Candidate) (o : Option Acting) → s.place.at < length x →
    Candidates R s.place.condition (at_line_start x s.place.at) (drop s.place.at x) ms →
    perform R (part x s.place.start s.place.at) (drop s.place.at x) ms [] s.place.condition s.place.stack ≡ o → after_match s o ≡ Some t → IsNext R x s t
after_is R x s t ms None lt all done e = no_state e
after_is R x s t ms (Some o) lt all done e =
    let u : State = record { written = o.written; place = next_place s.place o; ended = o.ended } in
    (u, inl (record { before_end = lt; matches = ms; all = all; outcome = o; performed = done; leaves = refl }), sym (some_state (record { written = s.written ++ u.written; place = u.place; ended = u.ended }) t e))

perform_is : (R : Rules) (x : List ℕ) (s t : State) (r : Option (List Candidate)) → s.place.at < length x →
    ((ms : List Candidate) → r ≡ Some ms → Candidates R s.place.condition (at_line_start x s.place.at) (drop s.place.at x) ms) → perform_at R x s r ≡ Some t → IsNext R x s t
perform_is R x s t None lt all e = no_state e
perform_is R x s t (Some ms) lt all e = after_is R x s t ms (perform R (part x s.place.start s.place.at) (drop s.place.at x) ms [] s.place.condition s.place.stack) lt (all ms refl) refl e

end_is : (R : Rules) (x : List ℕ) (s t : State) (b : Bool) → nat_eq s.place.at (length x) ≡ b → (if b then Some (after_end R s) else None) ≡ Some t → IsNext R x s t
end_is R x s t false p e = no_state e
end_is R x s t true p e =
    let c : ℕ = s.place.condition in
    let u : State = record { written = (R.ending c).print; place = record { start = s.place.at; at = s.place.at; condition = c; stack = s.place.stack }; ended = Some (Status (R.ending c).status) } in
    (u, inr (record { at_end = eqb-true s.place.at (length x) p; leaves = refl }), sym (some_state (after_end R s) t e))

turn_from : (R : Rules) (list : Listing) (lists : (c : ℕ) (line_start : Bool) (y : List ℕ) (ms : List Candidate) → list c line_start y ≡ Some ms → Candidates R c line_start y ms) (x : List ℕ) (s t : State) (b : Bool) → nat_lt s.place.at (length x) ≡ b → turn_at b R list x s ≡ Some t → IsNext R x s t
turn_from R list lists x s t true p e =
    perform_is R x s t (list s.place.condition (at_line_start x s.place.at) (drop s.place.at x)) (ltb-true s.place.at (length x) p)
    (λ ms k. lists s.place.condition (at_line_start x s.place.at) (drop s.place.at x) ms k) e
turn_from R list lists x s t false p e = end_is R x s t (nat_eq s.place.at (length x)) refl e

pub turn_is : (R : Rules) (list : Listing) (lists : (c : ℕ) (line_start : Bool) (y : List ℕ) (ms : List Candidate) → list c line_start y ≡ Some ms → Candidates R c line_start y ms) (x : List ℕ) (s t : State) → turn_of R list x s ≡ Some t → IsNext R x s t
turn_is R list lists x s t e = turn_from R list lists x s t (nat_lt s.place.at (length x)) refl e

step_from : (R : Rules) (list : Listing) (lists : (c : ℕ) (line_start : Bool) (y : List ℕ) (ms : List Candidate) → list c line_start y ≡ Some ms → Candidates R c line_start y ms) (x : List ℕ) (n k : ℕ) (s t : State) (r : Option State) → Turns R x k s → s.ended ≡ None → ((u : State) → r ≡ Some u → IsNext R x s u) →
    ((u : State) → Turns R x (suc k) u → state_after R list x n u.ended u ≡ Some t → (m : ℕ) × Turns R x m t) →
    option_and_then (λ u. state_after R list x n u.ended u) r ≡ Some t → (m : ℕ) × Turns R x m t
step_from R list lists x n k s t None turns going next later e = no_state e
step_from R list lists x n k s t (Some u) turns going next later e =
    later u (s, turns, subst (λ z. NextFrom R x s z u) (sym going) (next u refl)) e

turns_are : (R : Rules) (list : Listing) (lists : (c : ℕ) (line_start : Bool) (y : List ℕ) (ms : List Candidate) → list c line_start y ≡ Some ms → Candidates R c line_start y ms) (x : List ℕ) (n k : ℕ) (e : Option Ending) (s t : State) → s.ended ≡ e → Turns R x k s → state_after R list x n e s ≡ Some t → (m : ℕ) × Turns R x m t
turns_are R list lists x zero k None s t is turns e = (k, subst (Turns R x k) (some_state s t e) turns)
turns_are R list lists x zero k (Some d) s t is turns e = (k, subst (Turns R x k) (some_state s t e) turns)
turns_are R list lists x (suc n) k (Some d) s t is turns e = (k, subst (Turns R x k) (some_state s t e) turns)
turns_are R list lists x (suc n) k None s t is turns e =
    step_from R list lists x n k s t (turn_of R list x s) turns is (λ u p. turn_is R list lists x s u p) (λ u more p. turns_are R list lists x n (suc k) u.ended u t refl more p) e

pair_is : (w v : List ℕ) (o : Option Ending) (d : Ending) → option_map {U = List ℕ × Ending} (λ e. (w, e)) o ≡ Some (v, d) → (w ≡ v) × (o ≡ Some d)
pair_is w v None d e = absurd (no e)
  where
    no : ◌≡◌ {A = Option (List ℕ × Ending)} None (Some (v, d)) → ⊥
    no p = cc
pair_is w v (Some c) d e = let same : ◌≡◌ {A = List ℕ × Ending} (w, c) (v, d) = some_pair e in (ap (λ (z : List ℕ × Ending). z.0) same, ap (λ (z : List ℕ × Ending). Some z.1) same)
  where
    some_pair : ◌≡◌ {A = Option (List ℕ × Ending)} (Some (w, c)) (Some (v, d)) → ◌≡◌ {A = List ℕ × Ending} (w, c) (v, d)
    some_pair p = cc

outcome_is : (R : Rules) (x w : List ℕ) (d : Ending) (o : Option State) → ((t : State) → o ≡ Some t → (m : ℕ) × Turns R x m t) → outcome_of o ≡ Some (w, d) → Run R x w d
outcome_is R x w d None reach e = absurd (no e)
  where
    no : ◌≡◌ {A = Option (List ℕ × Ending)} None (Some (w, d)) → ⊥
    no p = cc
outcome_is R x w d (Some t) reach e =
    let r = reach t refl in
    let p = pair_is t.written w t.ended d e in
    run_by R x w d r.0 t r.1 p.0 p.1

pub run_from_is : (R : Rules) (list : Listing) (lists : (c : ℕ) (line_start : Bool) (y : List ℕ) (ms : List Candidate) → list c line_start y ≡ Some ms → Candidates R c line_start y ms) (x : List ℕ) (n : ℕ) (w : List ℕ) (d : Ending) →
    run_from R list x n ≡ Some (w, d) → Run R x w d
run_from_is R list lists x n w d e = outcome_is R x w d (state_after R list x n None first_state) (λ t p. turns_are R list lists x n 0 None first_state t refl refl p) e

-- A run that the plain program finds is the run of the specification.
pub run_is : (S : Spec) (x : List ℕ) (n : ℕ) (w : List ℕ) (d : Ending) → run_of S x n ≡ Some (w, d) → Run (rules_of S) x w d
run_is S x n w d e = run_from_is (rules_of S) (candidates_of S) (candidates_are S) x n w d e
