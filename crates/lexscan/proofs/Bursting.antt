-- Turns over a text that the source has ready. yymore may keep bytes of it before a match.
use Rattle.std.proofs.Common.{◌≡◌, ℕ, zero, suc, ◌+◌, ◌-◌, ◌≤◌, ◌<◌, Bool, true, false, List, [], ◌∷◌, ◌++◌, length, take, drop, get_or, inl, inr, Option, Some, None, refl, sym, ◌∙◌, ap, subst, arith}
use Rattle.std.specs.Prelude.{◌⊎◌, max, nat_eq, filter_map, map, ⊤}
use Rattle.std.proofs.lemmas.List.{append-nil, append_assoc, length-drop, length-take-le, get_or-take, take-take, take-append-drop, drop-take, drop-append-le, drop-drop, drop_all}
use Rattle.lex_semantics.specs.Text.{IsText, Among, BeginsWith}
use Rattle.lex_semantics.specs.Spec as S
use Rattle.lex_semantics.specs.Candidates.{Candidate}
use Rattle.lex_semantics.specs.Acting as Scan
use Rattle.lex_semantics.specs.ActionResults.{act_result, settle}
use Rattle.lex_semantics.specs.Machine.{Machine, walk, rules_of_machine}
use Rattle.lex_semantics.specs.MachineLaws.{MachineLaws}
use Rattle.lex_semantics.specs.PlainMachine.{kept_by, match_of}
use Rattle.lex_semantics.specs.Plain.{default_match}
use Rattle.lex_semantics.specs.Trail.{falling}
use Rattle.lex_semantics.proofs.Texts.{is_text_take, is_text_drop}
use Rattle.lex_semantics.proofs.Actions.{BeginsBelow, begins_below}
use Rattle.lex_machine.specs.declared.glance.Way.{Way}
use Rattle.lex_machine.specs.declared.glance.Gist.{Gist}
use Rattle.lex_machine.specs.declared.glance.Gist.TheVariants.{Any, NoRule, Silent, Echo, Print, Begin, Several}
use Rattle.lex_machine.specs.Glances.{Leads, FirstDoes, Gists, are_simple}
use Rattle.lex_machine.specs.Views.{statement_of}
use Rattle.lex_semantics.specs.Rules.{statements_of}
use Rattle.lexscan_window.specs.declared.state.State.{State}
use Rattle.lexscan_window.specs.declared.matched.MatchedRule.{MatchedRule}
use Rattle.lexscan_window.specs.declared.matched.MatchedRule.TheVariants.{Numbered, Default}
use Rattle.lexscan_window.specs.declared.state.Reading.{Reading}
use Rattle.lexscan_window.specs.declared.state.TextPlace.{TextPlace}
use Rattle.lexscan_window.specs.declared.act.ActionState.{ActionState}
use Rattle.lexscan_window.specs.declared.act.ActionFlow.{ActionFlow}
use Rattle.lexscan.specs.declared.turn.Turn.{Turn}
use Rattle.lexscan_matching.specs.declared.glanced.GlancedMatch.{GlancedMatch}
use Rattle.lexscan_window.specs.declared.error.RunError.TheVariants.{Write, Stack, TooManyReads}
use Rattle.lexscan_window.specs.Acts.{acting_of, after_step, written_of}
use Rattle.lexscan_matching.specs.Descends.{Conditions, conditions_in, outcome, matches_of, Performed, CutAll, IsRule, Takes}
use Rattle.lexscan_matching.specs.Looks.{SoFar, Looked}
use Rattle.lexscan_matching.specs.Picks.{path_of, state_at}
use Rattle.lexscan.specs.TurnSteps.{MatchStep, RefusedStep}
use Rattle.lexscan.specs.TurnInvariants.{TurnInvariant, AfterRefusal}
use Rattle.lexscan.specs.Bursts.{Between, AllInvariant, TurnsMade, BurstStopped, IsMoreMatch}
use Rattle.lexscan_matching.specs.Glanced.{statements_in, names_rule, condition_after, written_by, NoneAfter, IsGlancedMatch}
use Rattle.lexscan_matching.proofs.Descending as Down
use Rattle.lexscan_matching.proofs.Descending.{one_match, start_of, head_outcome, statements_are, default_is, default_one, settled}
use Rattle.lexscan_matching.proofs.Picking.{falling_last, falling_more}
use Rattle.lexscan_window.proofs.Keeping.{text_dropped, text_stays}
use Rattle.lexscan_window.specs.Places.{stays, next_bytes, next_at}
use Rattle.lexscan_window.specs.Window.{last_of}
use Rattle.lexscan_matching.proofs.Telling.{gist_simple, act_all, begun_below}
use Rattle.lexscan.proofs.Stepping as Go
use Rattle.lexscan.proofs.Refusing as Fall

-- the bytes from a place on, up to one that is further on
module _ (text : List ℕ) (c far far' : ℕ) (le : c ≤ far) (more : far ≤ far') (inside : far' ≤ length text) where
  pub whole : take far' text ≡ take far text ++ drop far (take far' text)
  whole = sym (take-append-drop far (take far' text)) ∙ ap (λ l. l ++ drop far (take far' text)) (take-take far far' text more)

  pub grows : drop c (take far' text) ≡ drop c (take far text) ++ drop far (take far' text)
  grows = ap (drop c) whole ∙ drop-append-le c (take far text) (drop far (take far' text)) (omega (arith, le, more, inside, length-take-le far text (omega (arith, more, inside))))

  pub grown_by : length (drop far (take far' text)) ≡ far' - far
  grown_by = length-drop far (take far' text) ∙ ap (λ n. n - far) (length-take-le far' text inside)

  pub front_is : (i : ℕ) → c + i ≤ far' → take i (drop c (take far' text)) ≡ take i (drop c text)
  front_is i le' =
      let e : c + (far' - c) ≡ far' = omega (arith, le, more) in
      ap (take i) (ap (λ n. drop c (take n text)) (sym e) ∙ drop-take c (far' - c) text) ∙ take-take i (far' - c) (drop c text) (omega (arith, le'))

-- no byte is given that is held
pub none_given : (text : List ℕ) (held : ℕ) → held ≤ length text → (given : List ℕ) → given ≡ given ++ drop held (take held text)
none_given text held inside given = sym (ap (λ l. given ++ l) (drop_all held (take held text) (omega (arith, length-take-le held text inside))) ∙ append-nil given)

pub untold : {P : Type 0} → false ≡ true → P
untold e = absurd (no e)
  where
    no : false ≡ true → ⊥
    no q = cc

-- what is told of a state's first rule
gist_first : (M : Machine) (s : ℕ) (g : Gist) → names_rule g ≡ true → Gists M s g → FirstDoes M s (statements_in g)
gist_first M s Any is h = untold is
gist_first M s NoRule is h = untold is
gist_first M s Silent is h = h
gist_first M s Echo is h = h
gist_first M s (Print bytes) is h = h
gist_first M s (Begin c) is h = h
gist_first M s (Several ss) is h = h.1

-- the first of a list
head_same : (a b : ℕ) (xs ys : List ℕ) → a ∷ xs ≡ b ∷ ys → a ≡ b
head_same a b xs ys e = cc

no_head : {P : Type 0} (a : ℕ) (xs : List ℕ) → [] ≡ a ∷ xs → P
no_head a xs e = cc

whole_kept : (M : Machine) (n i : ℕ) → M.cut i ≡ S.Whole → kept_by (M.cut i) n ≡ Some n
whole_kept M n i e = ap (λ k. kept_by k n) e

first_does : (M : Machine) (n s : ℕ) (ss : List S.Statement) (ms : List Candidate) → MachineLaws M → (f : FirstDoes M s ss) → (l : List Candidate) → l ≡ filter_map (match_of M n) (M.accepts s) ++ ms →
    (rest : List Candidate) × (l ≡ record { len = n; rule = f.rule; keep = n } ∷ rest)
first_does M n s ss ms laws f l e = (
  filter_map (match_of M n) f.others ++ ms,
  e ∙ ap (λ a. filter_map (match_of M n) a ++ ms) f.accepts ∙ ap (λ a. a ++ ms) (one_match M n f.rule n f.others (whole_kept M n f.rule f.whole)),
)

rule_below : (M : Machine) (s : ℕ) (ss : List S.Statement) → MachineLaws M → (f : FirstDoes M s ss) → f.rule < M.count
rule_below M s ss laws f = laws.in_range s f.rule (subst (λ l. Among l f.rule) (sym f.accepts) (inl refl))

-- a told rule leaves the condition in range
pub gist_below : (M : Machine) (laws : MachineLaws M) (s : ℕ) (g : Gist) (c : ℕ) → names_rule g ≡ true → Gists M s g → c < M.conditions → condition_after g c < M.conditions
gist_below M laws s Any c is h lt = lt
gist_below M laws s NoRule c is h lt = lt
gist_below M laws s Silent c is h lt = lt
gist_below M laws s Echo c is h lt = lt
gist_below M laws s (Print bytes) c is h lt = lt
gist_below M laws s (Several ss) c is (simple, h) lt =
    let legal = laws.legal h.rule (rule_below M s (map statement_of ss.now) laws h) in
    begun_below M.conditions (map statement_of ss.now) c (subst (λ l. BeginsBelow M.conditions l) h.does (begins_below M.conditions (M.statements h.rule) legal.ranges)) lt
gist_below M laws s (Begin d) c is h lt =
    let legal = laws.legal h.rule (rule_below M s (S.Begin d ∷ []) laws h) in
    (subst (λ ss. BeginsBelow M.conditions ss) h.does (begins_below M.conditions (M.statements h.rule) legal.ranges)).0

-- the matches of a path whose last states accept no rule
falling_none : (M : Machine) (p : TextPlace) (w : List ℕ) (n more : ℕ) → p.at + (n + more) ≤ length w → ((i : ℕ) → n < i → i ≤ n + more → M.accepts (state_at M p w i) ≡ []) → falling M 0 (path_of M p w (n + more)) ≡ falling M 0 (path_of M p w n)
falling_none M p w n zero le none = let e : n + zero ≡ n = omega arith in ap (λ k. falling M 0 (path_of M p w k)) e
falling_none M p w n (suc more) le none =
    let e : n + suc more ≡ n + more + 1 = omega arith in
    ap (λ k. falling M 0 (path_of M p w k)) e
    ∙ falling_more M p w (n + more) (omega (arith, le))
    ∙ ap (λ a. filter_map (match_of M (n + more + 1)) a ++ falling M 0 (path_of M p w (n + more))) (none (n + more + 1) (omega arith) (omega arith))
    ∙ falling_none M p w n more (omega (arith, le)) (λ i less few. none i less (omega (arith, few)))

-- what is left of the bytes and kept before the next match, once a text ends there
pub record Left (held : List ℕ) (end : ℕ) (more : Bool) (bytes : List ℕ) (kept : ℕ) : Type 0 where
  pub bytes_are : bytes ≡ next_bytes (stays more false) end held
  pub kept_is : kept ≡ next_at (stays more false) end
  pub text_is : (v : List ℕ) (k : ℕ) → v ≡ bytes → k ≡ kept → last_of end (take end held ++ take k v) ≡ take end held

-- with yymore all of it is kept
pub left_more : (held : List ℕ) (end : ℕ) → end ≤ length held → Left held end true held end
left_more held end inside = record {
  bytes_are = refl;
  kept_is = refl;
  text_is = λ v k e f. text_stays (take end held) held v end k inside e f;
}

-- without it none
pub left_none : (held : List ℕ) (end : ℕ) → end ≤ length held → Left held end false (drop end held) 0
left_none held end inside = record {
  bytes_are = refl;
  kept_is = refl;
  text_is = λ v k e f. text_dropped [] (take end held) held v end k inside refl f;
}

-- The match of a walk is the longest, and its first rule does this; or none is accepted, and the default rule is due.
abbrev pub Tells : Machine → ℕ → List ℕ → ℕ → List S.Statement → ℕ → Type 0
Tells M first bytes count ss keep =
    ((1 ≤ keep) × (keep ≤ count) × NoneAfter M first bytes keep count × FirstDoes M (walk M first (take keep bytes)) ss)
    ⊎ ((keep ≡ 1) × (ss ≡ S.Echo ∷ []) × NoneAfter M first bytes 0 count)

-- where the action of such a rule ends
abbrev pub acting_then : Bool → ℕ → ℕ → Conditions → ActionState
acting_then more end after c = record { end = end; condition = after; stack = c.stack; more = more }

-- these statements write this of each text, set this condition, and keep the text or do not
abbrev pub Does : List S.Statement → (List ℕ → List ℕ) → (ℕ → ℕ) → Bool → Type 0
Does ss writes after more =
    (w : List ℕ) (at keep : ℕ) (c : Conditions) (before : List ℕ) →
    act_result ss (acting_of w (start_of at keep c) before) ≡ after_step ActionFlow.Next [] (acting_of w (acting_then more (at + keep) (after c.next) c) (before ++ writes (take (at + keep) w)))

-- the rule of the first match of a walk
pub record Heads (M : Machine) (p : TextPlace) (w path : List ℕ) (ss : List S.Statement) (keep : ℕ) : Type 0 where
  pub len : ℕ
  pub rule : ℕ
  pub others : List Candidate
  pub first : matches_of M w p.at path ≡ record { len = len; rule = rule; keep = keep } ∷ others
  pub number : Option MatchedRule
  pub is : IsRule M.count number rule
  pub does : ss ≡ statements_of (rules_of_machine M) rule
  pub named : (r : ℕ) (rest : List ℕ) → M.accepts (state_at M p w keep) ≡ r ∷ rest → number ≡ Some (Numbered r)

-- what stands after some turns, whatever the sink is
abbrev pub Stands : Machine → List ℕ → ℕ → ℕ → ℕ → Bool → ℕ → List ℕ → ℕ → ℕ → ℕ → ℕ → Bool → Type 0
Stands M text held kept condition line turns out done kept' asked condition' line' =
    (n : ℕ) (given before : List ℕ) (taken : ℕ) (stack : List ℕ) → AllInvariant M n given before (take held text) kept taken condition line stack →
    AllInvariant M (turns + n) (given ++ drop held (take asked text)) (before ++ out) (drop done (take asked text)) kept' (taken + (asked - held)) condition' line' stack

abbrev Nothing : ⊤ → List ℕ → ⊤ → Type 0
Nothing a xs b = ⊤

-- The turn of a match after bytes that are all kept, whose statements do this.
module _ (M : Machine) (laws : MachineLaws M) (text : List ℕ) (bytes : IsText text) (at far condition : ℕ) (line : Bool) (way : Way) (ss : List S.Statement) (writes : List ℕ → List ℕ) (after : ℕ → ℕ) (more : Bool) (keep : ℕ) (le : at ≤ far) (inside : far ≤ length text)
    (leads : Leads M (M.start condition line) (drop at text) way) (tells : Tells M (M.start condition line) (drop at text) way.count ss keep) (does : Does ss writes after more) where
  -- how far is asked for then
  abbrev pub beyond : ℕ
  beyond = max far (at + way.count)

  -- what is held then
  abbrev pub w : List ℕ
  w = take beyond text

  abbrev pub p : TextPlace
  p = record { at = at; line_start = line; condition = condition }

  abbrev pub path : List ℕ
  path = path_of M p w way.count

  reaches : at + way.count ≤ length text
  reaches = omega (arith, leads.inside, length-drop at text, leads.some, le, inside)

  pub far_beyond : far ≤ beyond
  far_beyond = omega arith

  pub inside_beyond : beyond ≤ length text
  inside_beyond = omega (arith, reaches, inside)

  size : length w ≡ beyond
  size = length-take-le beyond text inside_beyond

  pub within : at + way.count ≤ length w
  within = omega (arith, size)

  pub front_here : (i : ℕ) → i ≤ way.count → take i (drop at w) ≡ take i (drop at text)
  front_here i less = front_is text at far beyond le far_beyond inside_beyond i (omega (arith, less))

  state_here : way.state ≡ state_at M p w way.count
  state_here = leads.state_is ∙ ap (walk M (M.start condition line)) (sym (front_here way.count (omega arith)))

  accepts_none : (few : ℕ) → NoneAfter M (M.start condition line) (drop at text) few way.count → (i : ℕ) → few < i → i ≤ way.count → M.accepts (state_at M p w i) ≡ []
  accepts_none few none i less le' = ap (λ l. M.accepts (walk M (M.start condition line) l)) (front_here i le') ∙ none i less le'

  falling_to : (few : ℕ) → few ≤ way.count → NoneAfter M (M.start condition line) (drop at text) few way.count → falling M 0 path ≡ falling M 0 (path_of M p w few)
  falling_to few le' none =
      let e : few + (way.count - few) ≡ way.count = omega (arith, le') in
      ap (λ k. falling M 0 (path_of M p w k)) (sym e)
      ∙ falling_none M p w few (way.count - few) (omega (arith, within, le')) (λ i less most. accepts_none few none i less (omega (arith, most, le')))

  pub so_far : SoFar M p (drop p.at w) way.count way.state path
  so_far = record {
    inside = omega (arith, within, length-drop at w);
    state_is = state_here;
    asked = λ i some less. subst (λ l. M.goes_on (walk M (M.start condition line) l) ≡ true) (sym (front_here i (omega (arith, less)))) (leads.asked i some less);
    path_is = refl;
  }

  pub heads : Heads M p w path ss keep
  heads = from tells
    where
      from : Tells M (M.start condition line) (drop at text) way.count ss keep → Heads M p w path ss keep
      from (inl (some, few, none, known)) =
          let f : FirstDoes M (state_at M p w keep) ss = subst (λ l. FirstDoes M (walk M (M.start condition line) l) ss) (sym (front_here keep few)) known in
          let last = falling_to keep few none ∙ falling_last M p w keep some (omega (arith, within, few)) in
          let first = first_does M keep (state_at M p w keep) ss (falling M 0 (path_of M p w (keep - 1))) laws f (falling M 0 path) last in
          record {
            len = keep;
            rule = f.rule;
            others = first.0 ++ default_match M.count (drop at w);
            first = ap (λ l. l ++ default_match M.count (drop at w)) first.1;
            number = Some (Numbered f.rule);
            is = (refl, rule_below M (state_at M p w keep) ss laws f);
            does = sym f.does ∙ sym (statements_are M f.rule (rule_below M (state_at M p w keep) ss laws f));
            named = λ r rest e. ap (λ k. Some (Numbered k)) (head_same f.rule r f.others rest (sym f.accepts ∙ e));
          }
      from (inr (one, echo, none)) =
          record {
            len = 1;
            rule = M.count;
            others = [];
            first = ap (λ l. l ++ default_match M.count (drop at w)) (falling_to 0 (omega arith) none) ∙ default_one M (drop at w) (omega (arith, within, leads.some, length-drop at w)) ∙ ap (λ k. record { len = 1; rule = M.count; keep = k } ∷ []) (sym one);
            number = Some Default;
            is = refl;
            does = echo ∙ sym (default_is M);
            named = λ r rest e. no_head r rest (sym (accepts_none 0 none keep (omega (arith, one)) (omega (arith, one, leads.some))) ∙ e);
          }

  pub keeps_some : (1 ≤ keep) × (keep ≤ way.count)
  keeps_some = from tells
    where
      from : Tells M (M.start condition line) (drop at text) way.count ss keep → (1 ≤ keep) × (keep ≤ way.count)
      from (inl (some, few, none, known)) = (some, few)
      from (inr (one, echo, none)) = (omega (arith, one), omega (arith, one, leads.some))

  -- the text ends among the bytes held
  pub ends_inside : at + keep ≤ length w
  ends_inside = let k = keeps_some.1 in omega (arith, k, within)

  pub said_here : take (at + keep) w ≡ take (at + keep) text
  said_here = let k = keeps_some.1 in take-take (at + keep) beyond text (omega (arith, k))

  -- the last byte of the match
  last_byte : nat_eq (get_or text (at + keep - 1) 0) 10 ≡ nat_eq (get_or w (at + keep - 1) 0) 10
  last_byte = let k = keeps_some.1 in let s = keeps_some.0 in ap (λ b. nat_eq b 10) (sym (get_or-take beyond text (at + keep - 1) 0 (omega (arith, k, s))))

  module _ (stack : List ℕ) where
    abbrev pub cs : Conditions
    cs = record { next = condition; stack = stack }

    abbrev pub then : ActionState
    then = acting_then more (at + keep) (after condition) cs

    abbrev pub here : Candidate
    here = record { len = heads.len; rule = heads.rule; keep = keep }

    abbrev pub performed : Performed M Nothing tt tt w at (matches_of M w at path) cs then None
    performed =
        let out : List ℕ = writes (take (at + keep) w) in record {
          out = out;
          sink = tt;
          acts = λ before.
              ap (λ l. outcome M w at l before cs) heads.first
              ∙ head_outcome M w at here heads.others before cs
              ∙ ap (λ l. settle (act_result l (acting_of w (start_of at keep cs) before)) (λ a. outcome M w at heads.others a.written (conditions_in a))) (sym heads.does)
              ∙ ap (λ z. settle z (λ a. outcome M w at heads.others a.written (conditions_in a))) (does w at keep cs before)
              ∙ settled ActionFlow.Next (acting_of w then (before ++ out)) (λ a. outcome M w at heads.others a.written (conditions_in a)) (λ e. cc);
        }

    pub takes : Takes M w at (matches_of M w at path) cs heads.number
    takes = record {
      passed = [];
      taken = here;
      left = heads.others;
      in_order = heads.first;
      rule_is = heads.is;
      rejected = λ before. Down.no_outcome M w at before cs;
      carried = λ before. (
        record (acting_of w then (before ++ writes (take (at + keep) w))) { ended = None },
        λ rest.
            head_outcome M w at here rest before cs
            ∙ ap (λ l. settle (act_result l (acting_of w (start_of at keep cs) before)) (λ a. outcome M w at rest a.written (conditions_in a))) (sym heads.does)
            ∙ ap (λ z. settle z (λ a. outcome M w at rest a.written (conditions_in a))) (does w at keep cs before)
            ∙ settled ActionFlow.Next (acting_of w then (before ++ writes (take (at + keep) w))) (λ a. outcome M w at rest a.written (conditions_in a)) (λ e. cc),
      );
    }

    -- the state before the match, made of one after it
    abbrev was : (v : State) (taken : ℕ) → taken + 0 ≤ v.reading.max_reads → State
    was v taken few = record v {
      reading = record v.reading { window = record { bytes = take far text; room = true; ahead = []; behind = [] }; taken = taken; at_end = false; few_reads = few };
      place = p;
      acting = record v.acting { stack = stack };
      ended = None;
      failed = false;
    }

    abbrev got : List ℕ
    got = drop far (take beyond text)

    grown : length got ≡ beyond - far
    grown = grown_by text at far beyond le far_beyond inside_beyond

    looks_over : (old new : Reading) → old.window.bytes ≡ take far text → new.window.bytes ≡ w → new.at_end ≡ old.at_end → Looked M p old new (path_of M p new.window.bytes way.count)
    looks_over old new before bytes_are at_end = record {
      reach = way.count;
      some = leads.some;
      state = way.state;
      so_far = subst (λ z. SoFar M p (drop p.at z) way.count way.state (path_of M p z way.count)) (sym bytes_are) so_far;
      size = (let a = ap length bytes_are in let z = ap length before ∙ length-take-le far text inside in omega (arith, a, z, size));
      stops = inl (leads.stops, at_end);
    }

    -- the turn was carried out
    step : (left : List ℕ) (kept : ℕ) → Left w (at + keep) more left kept → (after' : ℕ) → after' ≡ after condition → (line' : Bool) → line' ≡ nat_eq (get_or text (at + keep - 1) 0) 10 → (n taken : ℕ) (given before : List ℕ) →
        AllInvariant M n given before (take far text) at taken condition line stack →
        AllInvariant M (1 + n) (given ++ drop far (take beyond text)) (before ++ writes (take (at + keep) text)) left kept (taken + (beyond - far)) after' line' stack
    step left kept goes after' after_is line' line_is n taken given before all v b works =
        let few : taken + 0 ≤ v.reading.max_reads = let reads = v.reading.few_reads in omega (arith, reads, b.taken_is) in
        let old : State = was v taken few in
        let h : TurnInvariant M n given before old = all old (record { bytes_are = refl; taken_is = refl; at_end = refl; at = refl; line_is = refl; condition_is = refl; stack_is = refl; going = refl }) refl in
        let mid : Reading = record v.reading { window = record { bytes = w; room = true; ahead = []; behind = [] } } in
        let now : State = record v {
          reading = record v.reading { window = record v.reading.window { behind = take (at + keep) w } };
          acting = record v.acting { end = at + keep };
          matched = heads.number;
        } in
        let m : MatchStep M Nothing Nothing tt tt tt tt (record old { failed = true }) now Turn.Went = record {
          mid = mid;
          took = record {
            got = got;
            source = tt;
            text = is_text_drop far (take beyond text) (is_text_take beyond text bytes);
            held = whole text at far beyond le far_beyond inside_beyond;
            taken = b.taken_is ∙ ap (λ k. taken + k) (sym grown);
            nothing = untold;
            end_stays = untold;
            max_reads = refl;
          };
          path = path;
          looked = looks_over old.reading mid refl refl b.at_end;
          acted = record {
            acting = then;
            ended = None;
            performed = performed;
            inside = ends_inside;
            left = record {
              held = b.bytes_are ∙ goes.bytes_are;
              at = b.at ∙ goes.kept_is;
              line = λ some. b.line_is ∙ line_is ∙ last_byte;
              condition = b.condition_is ∙ after_is;
              stack = b.stack_is;
              end = refl;
              text = goes.text_is v.reading.window.bytes v.place.at b.bytes_are b.at;
            };
            says = refl;
            same = record { taken = refl; at_end = refl };
            is_ended = λ e i. b.going ∙ i;
            takes = takes;
          };
        } in
        let invariant : TurnInvariant M (suc n) (given ++ got) (before ++ performed.out) (record now { failed = false }) = Go.matched_stands M laws Nothing Nothing tt tt tt tt n given before old now Turn.Went refl h m b.going in
        let stands : TurnInvariant M (suc n) (given ++ got) (before ++ performed.out) v = record {
          works = works;
          start = invariant.start;
          scanned = invariant.scanned;
          text = invariant.text;
          covered = invariant.covered;
          held = invariant.held;
          line = invariant.line;
          taken = invariant.taken;
        } in
        subst (λ k. TurnInvariant M k (given ++ got) (before ++ writes (take (at + keep) text)) v) (omega arith)
        (subst (λ l. TurnInvariant M (suc n) (given ++ got) (before ++ writes l) v) said_here stands)

    module _ {K : Type 0} (wrote : K → List ℕ → K → Type 0) (none : (s : K) → wrote s [] s) (join : (s t u : K) (xs ys : List ℕ) → wrote s xs t → wrote t ys u → wrote s (xs ++ ys) u) (t u : K) where
      -- what is written before a fault is a front of it
      said_front : (before front : List ℕ) → BeginsWith (writes (take (at + keep) text)) front → BeginsWith (written_of (act_result ss (acting_of w (start_of at keep cs) before))) (before ++ front)
      said_front before front (rest, e) = (
        rest,
        ap written_of (does w at keep cs before) ∙ ap (λ l. before ++ writes l) said_here ∙ ap (λ l. before ++ l) e ∙ sym (append_assoc before front rest),
      )

      cut : (front : List ℕ) → BeginsWith (writes (take (at + keep) text)) front → wrote t front u → (before : List ℕ) (o : Scan.Acting) → outcome M w at (matches_of M w at path) before cs ≡ Some o → BeginsWith o.written (before ++ front)
      cut front begins put before o e =
          Down.cut_front M wrote none join w at t u here heads.others cs ss heads.does
          (record { out = front; sink = put; front = λ b. said_front b front begins }) before o
          (ap (λ l. outcome M w at l before cs) (sym heads.first) ∙ e)

      -- the sink failed in it
      fell : (front : List ℕ) → BeginsWith (writes (take (at + keep) text)) front → wrote t front u → (n taken : ℕ) (given before : List ℕ) → AllInvariant M n given before (take far text) at taken condition line stack →
          (v : State) → Between v (take beyond text) at (taken + (beyond - far)) condition line stack → v.failed ≡ true → AfterRefusal M n given (drop far (take beyond text)) (before ++ front) v Write
      fell front begins put n taken given before all v b bad =
          let few : taken + 0 ≤ v.reading.max_reads = let reads = v.reading.few_reads in omega (arith, reads, b.taken_is) in
          let old : State = was v taken few in
          let h : TurnInvariant M n given before old = all old (record { bytes_are = refl; taken_is = refl; at_end = refl; at = refl; line_is = refl; condition_is = refl; stack_is = refl; going = refl }) refl in
          let looked : Looked M p old.reading v.reading (path_of M p v.reading.window.bytes way.count) = looks_over old.reading v.reading refl b.bytes_are b.at_end in
          let short : CutAll M wrote t u v.reading.window.bytes at (matches_of M v.reading.window.bytes at (path_of M p v.reading.window.bytes way.count)) cs = record {
            out = front;
            sink = put;
            front = subst (λ z. (before : List ℕ) (o : Scan.Acting) → outcome M z at (matches_of M z at (path_of M p z way.count)) before cs ≡ Some o → BeginsWith o.written (before ++ front)) (sym b.bytes_are) (cut front begins put);
          } in
          let m : RefusedStep M Nothing wrote tt tt t u (record old { failed = true }) v Write = record {
            took = record {
              got = got;
              source = tt;
              text = is_text_drop far (take beyond text) (is_text_take beyond text bytes);
              held = b.bytes_are ∙ whole text at far beyond le far_beyond inside_beyond;
              taken = b.taken_is ∙ ap (λ k. taken + k) (sym grown);
              nothing = untold;
              end_stays = untold;
              max_reads = refl;
            };
            place = λ i. record { at = b.at i; line_start = b.line_is i; condition = b.condition_is i };
            why = inr (inl (path_of M p v.reading.window.bytes way.count, looked, short));
            early = λ early. absurd (early.0 refl);
            fault = λ e. absurd (not_stack e);
          } in
          Fall.refusal M laws Nothing wrote tt tt t u n given before old v Write refl h m bad (λ e. absurd (not_many e)) short.out
          (Fall.match_front M laws Nothing wrote tt tt t u n given before old v Write refl h m (path_of M p v.reading.window.bytes way.count) looked short)
          (Fall.match_within M laws Nothing wrote tt tt t u n given before old v Write refl h m (path_of M p v.reading.window.bytes way.count) looked) (λ e. absurd (not_stack e)) (λ early. absurd (early.0 refl))
        where
          not_stack : Write ≡ Stack → ⊥
          not_stack e = cc

          not_many : Write ≡ TooManyReads → ⊥
          not_many e = cc

  -- what stands after the turn
  pub turn_stands : (done kept : ℕ) → Left w (at + keep) more (drop done (take beyond text)) kept → (after' : ℕ) → after' ≡ after condition → (line' : Bool) → line' ≡ nat_eq (get_or text (at + keep - 1) 0) 10 → Stands M text far at condition line 1 (writes (take (at + keep) text)) done kept beyond after' line'
  turn_stands done kept goes after' after_is line' line_is n given before taken stack = step stack (drop done (take beyond text)) kept goes after' after_is line' line_is n taken given before

  module _ {K : Type 0} (wrote : K → List ℕ → K → Type 0) (none : (s : K) → wrote s [] s) (join : (s t u : K) (xs ys : List ℕ) → wrote s xs t → wrote t ys u → wrote s (xs ++ ys) u) (t u : K) where
    -- the sink failed in it
    pub broke : (front : List ℕ) → BeginsWith (writes (take (at + keep) text)) front → wrote t front u → BurstStopped M wrote t u text far at condition line 0 at beyond condition line
    broke front begins put = record {
      turns = 0;
      out = front;
      sink = put;
      before = far;
      few = omega arith;
      more = far_beyond;
      refusal = λ n given had taken stack all v b bad.
          subst (λ k. AfterRefusal M k (given ++ drop far (take far text)) (drop far (take beyond text)) (had ++ front) v Write) (omega arith)
          (subst (λ l. AfterRefusal M n l (drop far (take beyond text)) (had ++ front) v Write) (none_given text far inside given)
          (fell stack wrote none join t u front begins put n taken given had all v b bad));
    }

-- a rule that does yymore alone
pub does_more : Does (S.More ∷ []) (λ l. []) (λ c. c) true
does_more w at keep c before = ap (λ b. after_step ActionFlow.Next [] (acting_of w (acting_then true (at + keep) c.next c) b)) (sym (append-nil before))

-- a rule that is told by a glance
pub does_gist : (g : Gist) → names_rule g ≡ true → are_simple (statements_in g) ≡ true → Does (statements_in g) (written_by g) (condition_after g) false
does_gist Any is simple w at keep c before = untold is
does_gist NoRule is simple w at keep c before = untold is
does_gist Silent is simple w at keep c before = ap (λ b. after_step ActionFlow.Next [] (acting_of w (start_of at keep c) b)) (sym (append-nil before))
does_gist Echo is simple w at keep c before = refl
does_gist (Print bytes) is simple w at keep c before = refl
does_gist (Begin d) is simple w at keep c before = ap (λ b. after_step ActionFlow.Next [] (acting_of w (acting_then false (at + keep) d c) b)) (sym (append-nil before))
does_gist (Several ss) is simple w at keep c before = act_all w (map statement_of ss.now) (start_of at keep c) before simple

-- what is told of the match of a walk at a glance
pub tells_gist : (M : Machine) (first : ℕ) (bytes : List ℕ) (count : ℕ) (longest : GlancedMatch) → names_rule longest.gist ≡ true → IsGlancedMatch M first bytes count longest → (are_simple (statements_in longest.gist) ≡ true) × Tells M first bytes count (statements_in longest.gist) longest.keep
tells_gist M first bytes count longest is (inl (some, few, none, known)) =
    let s = walk M first (take longest.keep bytes) in (gist_simple M s longest.gist is known, inl (some, few, none, gist_first M s longest.gist is known))
tells_gist M first bytes count longest is (inr (inl (one, echo, none))) = (ap (λ g. are_simple (statements_in g)) echo, inr (one, ap statements_in echo, none))
tells_gist M first bytes count longest is (inr (inr any)) = untold (sym (ap names_rule any) ∙ is)

-- its condition is one of the machine's
pub gist_within : (M : Machine) (laws : MachineLaws M) (first : ℕ) (bytes : List ℕ) (count condition : ℕ) (longest : GlancedMatch) → names_rule longest.gist ≡ true → IsGlancedMatch M first bytes count longest → condition < M.conditions → condition_after longest.gist condition < M.conditions
gist_within M laws first bytes count condition longest is (inl (some, few, none, known)) lt = gist_below M laws (walk M first (take longest.keep bytes)) longest.gist condition is known lt
gist_within M laws first bytes count condition longest is (inr (inl (one, echo, none))) lt = subst (λ g. condition_after g condition < M.conditions) (sym echo) lt
gist_within M laws first bytes count condition longest is (inr (inr any)) lt = untold (sym (ap names_rule any) ∙ is)

-- no turn yet
pub none_stands : (M : Machine) (text : List ℕ) (held kept condition : ℕ) (line : Bool) → held ≤ length text → Stands M text held kept condition line 0 [] 0 kept held condition line
none_stands M text held kept condition line inside n given before taken stack all v b works =
    subst (λ l. TurnInvariant M (0 + n) l (before ++ []) v) (none_given text held inside given)
    (subst (λ l. TurnInvariant M (0 + n) given l v) (sym (append-nil before))
    (subst (λ k. TurnInvariant M k given before v) (omega arith)
    (all v (record {
      bytes_are = b.bytes_are;
      taken_is = b.taken_is ∙ omega arith;
      at_end = b.at_end;
      at = b.at;
      line_is = b.line_is;
      condition_is = b.condition_is;
      stack_is = b.stack_is;
      going = b.going;
    }) works)))

pub went_none : {K : Type 0} (M : Machine) (wrote : K → List ℕ → K → Type 0) (t : K) (text : List ℕ) (held kept condition : ℕ) (line : Bool) → held ≤ length text → wrote t [] t → TurnsMade M wrote t t text held kept condition line 0 kept held condition line
went_none M wrote t text held kept condition line inside none = record { turns = 0; out = []; sink = none; stand = none_stands M text held kept condition line inside }

-- Turns over the bytes that others have left.
module _ (text : List ℕ) (held done asked more' : ℕ) (low : held ≤ asked) (order : done ≤ asked) (further : asked - done ≤ more') (inside : done + more' ≤ length text) where
  abbrev rest : List ℕ
  rest = drop done text

  left_held : drop done (take asked text) ≡ take (asked - done) rest
  left_held = let e : asked ≡ done + (asked - done) = omega (arith, order) in ap (λ k. drop done (take k text)) e ∙ drop-take done (asked - done) text

  -- what is dropped of them
  left_then : (i : ℕ) → drop i (take more' rest) ≡ drop (done + i) (take (done + more') text)
  left_then i = ap (drop i) (sym (drop-take done more' text)) ∙ drop-drop i done (take (done + more') text)

  given_then : (given : List ℕ) → (given ++ drop held (take asked text)) ++ drop (asked - done) (take more' rest) ≡ given ++ drop held (take (done + more') text)
  given_then given =
      let e : done + (asked - done) ≡ asked = omega (arith, order) in
      ap (λ l. (given ++ drop held (take asked text)) ++ l) (left_then (asked - done) ∙ ap (λ k. drop k (take (done + more') text)) e)
      ∙ append_assoc given (drop held (take asked text)) (drop asked (take (done + more') text))
      ∙ ap (λ l. given ++ l) (sym (grows text held asked (done + more') low (omega (arith, further, order)) inside))

  module _ (M : Machine) (kept0 condition0 : ℕ) (line0 : Bool) (turns : ℕ) (out : List ℕ) (kept condition : ℕ) (line : Bool) (stand : Stands M text held kept0 condition0 line0 turns out done kept asked condition line) (done' kept' condition' : ℕ) (line' : Bool) where
    stands_here : (n : ℕ) (given before : List ℕ) (taken : ℕ) (stack : List ℕ) → AllInvariant M n given before (take held text) kept0 taken condition0 line0 stack →
        AllInvariant M (turns + n) (given ++ drop held (take asked text)) (before ++ out) (take (asked - done) rest) kept (taken + (asked - held)) condition line stack
    stands_here n given before taken stack all =
        subst (λ l. AllInvariant M (turns + n) (given ++ drop held (take asked text)) (before ++ out) l kept (taken + (asked - held)) condition line stack) left_held (stand n given before taken stack all)

    there : (v : State) (taken : ℕ) (stack : List ℕ) → Between v (drop (done + done') (take (done + more') text)) kept' (taken + (done + more' - held)) condition' line' stack →
        Between v (drop done' (take more' rest)) kept' (taken + (asked - held) + (more' - (asked - done))) condition' line' stack
    there v taken stack b = record {
      bytes_are = b.bytes_are ∙ sym (left_then done');
      taken_is = b.taken_is ∙ omega (arith, low, order, further);
      at_end = b.at_end;
      at = b.at;
      line_is = b.line_is;
      condition_is = b.condition_is;
      stack_is = b.stack_is;
      going = b.going;
    }

    pub both_stand : (turns' : ℕ) (out' : List ℕ) → Stands M rest (asked - done) kept condition line turns' out' done' kept' more' condition' line' → Stands M text held kept0 condition0 line0 (turns' + turns) (out ++ out') (done + done') kept' (done + more') condition' line'
    both_stand turns' out' next n given before taken stack all v b works =
        subst (λ k. TurnInvariant M k (given ++ drop held (take (done + more') text)) (before ++ (out ++ out')) v) (omega arith)
        (subst (λ l. TurnInvariant M (turns' + (turns + n)) l (before ++ (out ++ out')) v) (given_then given)
        (subst (λ l. TurnInvariant M (turns' + (turns + n)) ((given ++ drop held (take asked text)) ++ drop (asked - done) (take more' rest)) l v) (append_assoc before out out')
        (next (turns + n) (given ++ drop held (take asked text)) (before ++ out) (taken + (asked - held)) stack (stands_here n given before taken stack all) v (there v taken stack b) works)))

  module _ {K : Type 0} (M : Machine) (wrote : K → List ℕ → K → Type 0) (join : (s t u : K) (xs ys : List ℕ) → wrote s xs t → wrote t ys u → wrote s (xs ++ ys) u) (s t u : K) (kept0 condition0 : ℕ) (line0 : Bool) (kept condition : ℕ) (line : Bool)
      (went : TurnsMade M wrote s t text held kept0 condition0 line0 done kept asked condition line) (done' kept' condition' : ℕ) (line' : Bool) where
    pub both_went : TurnsMade M wrote t u rest (asked - done) kept condition line done' kept' more' condition' line' → TurnsMade M wrote s u text held kept0 condition0 line0 (done + done') kept' (done + more') condition' line'
    both_went next = record {
      turns = next.turns + went.turns;
      out = went.out ++ next.out;
      sink = join s t u went.out next.out went.sink next.sink;
      stand = both_stand M kept0 condition0 line0 went.turns went.out kept condition line went.stand done' kept' condition' line' next.turns next.out next.stand;
    }

    pub then_broke : BurstStopped M wrote t u rest (asked - done) kept condition line done' kept' more' condition' line' → BurstStopped M wrote s u text held kept0 condition0 line0 (done + done') kept' (done + more') condition' line'
    then_broke next =
        let few = next.few in
        let more = next.more in
        let back : done + (asked - done) ≡ asked = omega (arith, order) in
        let front : (given : List ℕ) → (given ++ drop held (take asked text)) ++ drop (asked - done) (take next.before rest) ≡ given ++ drop held (take (done + next.before) text) = λ given.
        ap (λ l. (given ++ drop held (take asked text)) ++ l) (ap (drop (asked - done)) (sym (drop-take done next.before text)) ∙ drop-drop (asked - done) done (take (done + next.before) text) ∙ ap (λ k. drop k (take (done + next.before) text)) back)
        ∙ append_assoc given (drop held (take asked text)) (drop asked (take (done + next.before) text))
        ∙ ap (λ l. given ++ l) (sym (grows text held asked (done + next.before) low (omega (arith, few, order)) (omega (arith, more, inside)))) in
        record {
          turns = next.turns + went.turns;
          out = went.out ++ next.out;
          sink = join s t u went.out next.out went.sink next.sink;
          before = done + next.before;
          few = omega (arith, few, low, order);
          more = omega (arith, more);
          refusal = λ n given had taken stack all v b bad.
              subst (λ k. AfterRefusal M k (given ++ drop held (take (done + next.before) text)) (drop (done + next.before) (take (done + more') text)) (had ++ (went.out ++ next.out)) v Write) (omega arith)
              (subst (λ l. AfterRefusal M (next.turns + (went.turns + n)) (given ++ drop held (take (done + next.before) text)) l (had ++ (went.out ++ next.out)) v Write) (left_then next.before)
              (subst (λ l. AfterRefusal M (next.turns + (went.turns + n)) l (drop next.before (take more' rest)) (had ++ (went.out ++ next.out)) v Write) (front given)
              (subst (λ l. AfterRefusal M (next.turns + (went.turns + n)) ((given ++ drop held (take asked text)) ++ drop (asked - done) (take next.before rest)) (drop next.before (take more' rest)) l v Write) (append_assoc had went.out next.out)
              (next.refusal (went.turns + n) (given ++ drop held (take asked text)) (had ++ went.out) (taken + (asked - held)) stack (stands_here M kept0 condition0 line0 went.turns went.out kept condition line went.stand done' kept' condition' line' n given had taken stack all) v (there M kept0 condition0 line0 went.turns went.out kept condition line went.stand done' kept' condition' line' v taken stack b) bad))));
        }

-- the same turns, said otherwise
pub as_made : {K : Type 0} (M : Machine) (wrote : K → List ℕ → K → Type 0) (t u : K) (text : List ℕ) (held kept condition : ℕ) (line : Bool) (kept' condition' : ℕ) (line' : Bool) {done done' asked asked' : ℕ} → done ≡ done' → asked ≡ asked' →
    TurnsMade M wrote t u text held kept condition line done kept' asked condition' line' → TurnsMade M wrote t u text held kept condition line done' kept' asked' condition' line'
as_made M wrote t u text held kept condition line kept' condition' line' {done} {done'} {asked} {asked'} d a h =
    subst (λ k. TurnsMade M wrote t u text held kept condition line k kept' asked' condition' line') d
    (subst (λ k. TurnsMade M wrote t u text held kept condition line done kept' k condition' line') a h)

pub as_stopped : {K : Type 0} (M : Machine) (wrote : K → List ℕ → K → Type 0) (t u : K) (text : List ℕ) (held kept condition : ℕ) (line : Bool) (kept' condition' : ℕ) (line' : Bool) {done done' asked asked' : ℕ} → done ≡ done' → asked ≡ asked' →
    BurstStopped M wrote t u text held kept condition line done kept' asked condition' line' → BurstStopped M wrote t u text held kept condition line done' kept' asked' condition' line'
as_stopped M wrote t u text held kept condition line kept' condition' line' {done} {done'} {asked} {asked'} d a h =
    subst (λ k. BurstStopped M wrote t u text held kept condition line k kept' asked' condition' line') d
    (subst (λ k. BurstStopped M wrote t u text held kept condition line done kept' k condition' line') a h)

-- A match after bytes that are all kept: its rule is told, or does yymore alone.
module _ (M : Machine) (laws : MachineLaws M) (text : List ℕ) (bytes : IsText text) (held at condition : ℕ) (line : Bool) (first : ℕ) (way : Way) (le : at ≤ held) (inside : held ≤ length text) (starts : first ≡ M.start condition line) (led : Leads M first (drop at text) way) where
  leads_there : Leads M (M.start condition line) (drop at text) way
  leads_there = subst (λ s. Leads M s (drop at text) way) starts led

  module _ (longest : GlancedMatch) (told : IsGlancedMatch M first (drop at text) way.count longest) (is : names_rule longest.gist ≡ true) where
    told_there : IsGlancedMatch M (M.start condition line) (drop at text) way.count longest
    told_there = subst (λ s. IsGlancedMatch M s (drop at text) way.count longest) starts told

    tells_there : (are_simple (statements_in longest.gist) ≡ true) × Tells M (M.start condition line) (drop at text) way.count (statements_in longest.gist) longest.keep
    tells_there = tells_gist M (M.start condition line) (drop at text) way.count longest is told_there

    does_there : Does (statements_in longest.gist) (written_by longest.gist) (condition_after longest.gist) false
    does_there = does_gist longest.gist is tells_there.0

    pub text_keeps : (1 ≤ longest.keep) × (longest.keep ≤ way.count)
    text_keeps = keeps_some M laws text bytes at held condition line way (statements_in longest.gist) (written_by longest.gist) (condition_after longest.gist) false longest.keep le inside leads_there tells_there.1 does_there

    pub text_reaches : at + way.count ≤ length text
    text_reaches = let a = leads_there.inside in let s = leads_there.some in omega (arith, a, length-drop at text, s, le, inside)

    pub text_condition : condition < M.conditions → condition_after longest.gist condition < M.conditions
    text_condition lt = gist_within M laws (M.start condition line) (drop at text) way.count condition longest is told_there lt

    pub text_stands : (after : ℕ) → after ≡ condition_after longest.gist condition → (line' : Bool) → line' ≡ nat_eq (get_or text (at + longest.keep - 1) 0) 10 →
        Stands M text held at condition line 1 (written_by longest.gist (take (at + longest.keep) text)) (at + longest.keep) 0 (max held (at + way.count)) after line'
    text_stands = turn_stands M laws text bytes at held condition line way (statements_in longest.gist) (written_by longest.gist) (condition_after longest.gist) false longest.keep le inside leads_there tells_there.1 does_there (at + longest.keep) 0
        (left_none (take (max held (at + way.count)) text) (at + longest.keep) (ends_inside M laws text bytes at held condition line way (statements_in longest.gist) (written_by longest.gist) (condition_after longest.gist) false longest.keep le inside leads_there tells_there.1 does_there))

    module _ {K : Type 0} (wrote : K → List ℕ → K → Type 0) (none : (s : K) → wrote s [] s) (join : (s t u : K) (xs ys : List ℕ) → wrote s xs t → wrote t ys u → wrote s (xs ++ ys) u) (t u : K) where
      pub text_turned : wrote t (written_by longest.gist (take (at + longest.keep) text)) u → (after : ℕ) → after ≡ condition_after longest.gist condition → (line' : Bool) → line' ≡ nat_eq (get_or text (at + longest.keep - 1) 0) 10 →
          TurnsMade M wrote t u text held at condition line (at + longest.keep) 0 (max held (at + way.count)) after line'
      text_turned put after after_is line' line_is = record { turns = 1; out = written_by longest.gist (take (at + longest.keep) text); sink = put; stand = text_stands after after_is line' line_is }

      pub text_broke : (front : List ℕ) → BeginsWith (written_by longest.gist (take (at + longest.keep) text)) front → wrote t front u → BurstStopped M wrote t u text held at condition line 0 at (max held (at + way.count)) condition line
      text_broke = broke M laws text bytes at held condition line way (statements_in longest.gist) (written_by longest.gist) (condition_after longest.gist) false longest.keep le inside leads_there tells_there.1 does_there wrote none join t u

  module _ (keep : ℕ) (is : IsMoreMatch M first (drop at text) way.count keep) where
    is_there : IsMoreMatch M (M.start condition line) (drop at text) way.count keep
    is_there = subst (λ s. IsMoreMatch M s (drop at text) way.count keep) starts is

    pub more_reaches : at + way.count ≤ length text
    more_reaches = let a = leads_there.inside in let s = leads_there.some in omega (arith, a, length-drop at text, s, le, inside)

    pub more_turned : {K : Type 0} (wrote : K → List ℕ → K → Type 0) (t : K) → wrote t [] t → TurnsMade M wrote t t text held at condition line 0 (at + keep) (max held (at + way.count)) condition (nat_eq (get_or text (at + keep - 1) 0) 10)
    more_turned wrote t put = record {
      turns = 1;
      out = [];
      sink = put;
      stand = turn_stands M laws text bytes at held condition line way (S.More ∷ []) (λ l. []) (λ c. c) true keep le inside leads_there (inl is_there) does_more 0 (at + keep)
          (left_more (take (max held (at + way.count)) text) (at + keep) (ends_inside M laws text bytes at held condition line way (S.More ∷ []) (λ l. []) (λ c. c) true keep le inside leads_there (inl is_there) does_more)) condition refl (nat_eq (get_or text (at + keep - 1) 0) 10) refl;
    }
