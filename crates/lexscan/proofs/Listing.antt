-- Several turns in one go, each told at a glance, and the tokens that they tell.
use Rattle.std.proofs.Common.{◌≡◌, ℕ, suc, ◌+◌, ◌-◌, ◌≤◌, ◌<◌, Bool, true, false, List, [], ◌∷◌, ◌++◌, length, take, drop, get_or, inl, Some, None, Ok, refl, sym, ◌∙◌, ap, subst, append_assoc, append-nil, length-append, arith}
use Rattle.std.specs.Prelude.{◌^◌, max, nat_eq, if◌then◌else◌, ⊤}
use Rattle.std.proofs.lemmas.List.{length-drop, length-take-le, get_or-take, take_all, take-take, drop-drop, drop-take, drop_all, take-append-drop}
use Rattle.lex_semantics.specs.Text.{IsText, AllBelow}
use Rattle.lex_semantics.specs.Demand.{Consistent}
use Rattle.lex_semantics.specs.Machine.{Machine, rules_of_machine}
use Rattle.lex_semantics.specs.MachineLaws.{MachineLaws}
use Rattle.lex_semantics.specs.Rules.{Rules}
use Rattle.lex_semantics.specs.Run.{Place}
use Rattle.lex_semantics.proofs.After.{turns_of}
use Rattle.lex_semantics.proofs.Texts.{is_text_drop}
use Rattle.lexscan_window.proofs.Keeping.{text_dropped}
use Rattle.lexscan_window.specs.Memos.{AreTrue}
use Rattle.lexscan_window.specs.Places.{kept_before}
use Rattle.lexscan_window.specs.Window.{Held, last_of}
use Rattle.lexscan_window.specs.declared.matched.Match.{Match}
use Rattle.lexscan_window.specs.declared.matched.MatchedRule.TheVariants.{Numbered}
use Rattle.lexscan_window.specs.declared.state.State.{State}
use Rattle.lexscan_matching.proofs.Barrens.{true_burst}
use Rattle.lexscan_matching.specs.Descends.{ending_of}
use Rattle.lexscan.specs.Bursts.{Between, Advanced}
use Rattle.lexscan.specs.Glances.{IsTold, LeavesTold, showing}
use Rattle.lexscan.specs.Matches.{match_in, match_by, text_of, text_start, MatchedBy, TellsMatch}
use Rattle.lexscan.specs.Pulls.{TokensTold}
use Rattle.lexscan.specs.Pushes.{IsReachable}
use Rattle.lexscan.specs.Scans.{IsGoing, ScanInvariant}
use Rattle.lexscan.specs.Series.{token_from, end_of, drawn_out, TurnsTell, SeriesTells, SeriesMade, ListedOver, TellsSeveral}
use Rattle.lexscan.specs.Tokens.{token_by, TokensOf, IsToken}
use Rattle.lexscan.specs.TurnInvariants.{TurnInvariant, TurnPreserves, state_of}
use Rattle.lexscan.specs.declared.burst.Burst.{Burst}
use Rattle.lexscan.specs.declared.glance.ToldMatch.{ToldMatch}
use Rattle.lexscan.specs.declared.scan.Scan.{Scan as ScanParts}
use Rattle.lexscan.specs.declared.series.BriefToken.{BriefToken}
use Rattle.lexscan.specs.declared.series.Listed.{Listed}
use Rattle.lexscan.specs.declared.token.Token.{Token}
use Rattle.lexscan.specs.declared.turn.Turn.{Turn}
use Rattle.lexscan.proofs.Bursting.{grows}
use Rattle.lexscan.proofs.Furthering as Further
use Rattle.lexscan.proofs.Furthering.{no_further, stands_all}
use Rattle.lexscan.proofs.Glancing as Glance
use Rattle.lexscan.proofs.Lasting.{all_taken}
use Rattle.lexscan.proofs.Pushing.{made_one, standing_on, certain_le}
use Rattle.lexscan.proofs.Pulling.{goes_on}
use Rattle.lexscan.proofs.Refusing.{earlier}
use Rattle.lexscan.proofs.SoFar.{same_part}

-- one token more
pub drawn_more : (start : ℕ) (ts : List BriefToken) (t : BriefToken) → drawn_out start (ts ++ t ∷ []) ≡ drawn_out start ts ++ token_from (end_of start ts) t ∷ []
drawn_more start [] t = refl
drawn_more start (u ∷ ts) t = ap (λ l. token_from start u ∷ l) (drawn_more (start + u.length) ts t)

pub end_more : (start : ℕ) (ts : List BriefToken) (t : BriefToken) → end_of start (ts ++ t ∷ []) ≡ end_of start ts + t.length
end_more start [] t = refl
end_more start (u ∷ ts) t = end_more (start + u.length) ts t

-- where tokens end that begin elsewhere
pub end_from : (start size : ℕ) (ts : List BriefToken) → end_of (start + size) ts ≡ start + end_of size ts
end_from start size [] = refl
end_from start size (t ∷ ts) = let e : start + size + t.length ≡ start + (size + t.length) = omega arith in ap (λ n. end_of n ts) e ∙ end_from start (size + t.length) ts

pub end_there : (start : ℕ) (ts : List BriefToken) → end_of start ts ≡ start + end_of 0 ts
end_there start ts = let e : start ≡ start + 0 = omega arith in ap (λ n. end_of n ts) e ∙ end_from start 0 ts

not_both : false ≡ true → ⊥
not_both e = cc

-- No turn tells no token.
pub tells_none : (M : Machine) (old new : State) → ((n : ℕ) (given before : List ℕ) → TurnInvariant M n given before old → TurnInvariant M n given before new) → TurnsTell M [] [] old new
tells_none M old new still = record {
  turns = 0;
  out = [];
  made = λ n given before h. no_further M n given before new (still n given before h);
  tokens = λ n given before h x us c ts.
      let e : n ≡ 0 + n = omega arith in
      subst (λ k. TokensOf (rules_of_machine M) x k (us ++ [])) e (subst (TokensOf (rules_of_machine M) x n) (sym (append-nil us)) ts);
}

-- the token of one turn
module _ (M : Machine) (old new : State) (got put : List ℕ) (m : Match) (going : old.ended ≡ None) (reading : old.reading.at_end ≡ false) (k : TurnPreserves M old new got put (Ok Turn.Went)) (is : match_in new ≡ Some m) where
  abbrev R : Rules
  R = rules_of_machine M

  pub tells_one : TurnsTell M got (token_by m old.place.condition ∷ []) old new
  tells_one = record {
    turns = 1;
    out = put;
    made = made_one M old new got put k.1;
    tokens = λ n given before h x us c ts.
        let place : Place = (state_of before h.start old).place in
        let t : MatchedBy R (given ++ got) new.reading.at_end place m (text_of (Some m) new) = subst (λ o. TellsMatch R (given ++ got) new.reading.at_end place o (text_of o new)) is (k.2 going n given before h) in
        let token : IsToken R x place (token_by m old.place.condition) = record {
          taken = t.taken;
          outcome = t.outcome;
          carries = t.carries x c;
          rule_is = t.rule_is;
          start_is = t.start_is;
          end_is = ap (λ a. a + m.length) t.start_is ∙ ap (λ b. h.start + b) t.length_is;
          condition_is = refl;
          text_is = same_part x (given ++ got) new.reading.at_end m.start (m.start + m.length) c.1 t.inside ∙ t.part_is;
        } in
        let first : Consistent given old.reading.at_end x = (c.0, earlier given got old.reading.at_end new.reading.at_end x (λ e. absurd (not_both (sym reading ∙ e))) (λ e. absurd (not_both (sym reading ∙ e))) c.1) in
        let e : suc n ≡ 1 + n = omega arith in
        subst (λ j. TokensOf R x j (us ++ token_by m old.place.condition ∷ [])) e
        (state_of before h.start old, us, (turns_of _ _ _ _ _ (h.scanned x first)), ap ending_of going, ts, inl (token_by m old.place.condition, token, refl));
  }

-- some turns and then others
module _ (M : Machine) (old mid new : State) (got more : List ℕ) (us vs : List Token) (reading : mid.reading.at_end ≡ false) (h : TurnsTell M got us old mid) (k : TurnsTell M more vs mid new) where
  pub tells_then : TurnsTell M (got ++ more) (us ++ vs) old new
  tells_then = record {
    turns = k.turns + h.turns;
    out = h.out ++ k.out;
    made = λ n given before i.
        subst (λ j. TurnInvariant M j (given ++ (got ++ more)) (before ++ (h.out ++ k.out)) new) (omega arith)
        (subst (λ l. TurnInvariant M (k.turns + (h.turns + n)) l (before ++ (h.out ++ k.out)) new) (append_assoc given got more)
        (subst (λ l. TurnInvariant M (k.turns + (h.turns + n)) ((given ++ got) ++ more) l new) (append_assoc before h.out k.out)
        (k.made (h.turns + n) (given ++ got) (before ++ h.out) (h.made n given before i))));
    tokens = λ n given before i x ts c first.
        let c' : Consistent ((given ++ got) ++ more) new.reading.at_end x = subst (λ l. Consistent l new.reading.at_end x) (sym (append_assoc given got more)) c in
        let there : Consistent (given ++ got) mid.reading.at_end x = (c.0, earlier (given ++ got) more mid.reading.at_end new.reading.at_end x (λ e. absurd (not_both (sym reading ∙ e))) (λ e. absurd (not_both (sym reading ∙ e))) c'.1) in
        subst (λ j. TokensOf (rules_of_machine M) x j (ts ++ (us ++ vs))) (omega arith)
        (subst (TokensOf (rules_of_machine M) x (k.turns + (h.turns + n))) (append_assoc ts us vs)
        (k.tokens (h.turns + n) (given ++ got) (before ++ h.out) (h.made n given before i) x (ts ++ us) c' (h.tokens n given before i x ts there first)));
  }

-- What is told of a state is told of each that stands as it does.
pub tells_same : (M : Machine) (old mid new : State) (got : List ℕ) (us : List Token) → new.reading.at_end ≡ mid.reading.at_end → ((n : ℕ) (given before : List ℕ) → TurnInvariant M n given before mid → TurnInvariant M n given before new) → TurnsTell M got us old mid → TurnsTell M got us old new
tells_same M old mid new got us same still h = record {
  turns = h.turns;
  out = h.out;
  made = λ n given before i. still (h.turns + n) (given ++ got) (before ++ h.out) (h.made n given before i);
  tokens = λ n given before i x ts c first. h.tokens n given before i x ts (subst (λ b. Consistent (given ++ got) b x) same c) first;
}

-- A match that is told, at the front of what is left of a text of which so much was asked for.
module _ (M : Machine) (laws : MachineLaws M) (text : List ℕ) (bytes : IsText text) (held condition0 : ℕ) (line0 : Bool) (added : List BriefToken) (done asked condition : ℕ) (line : Bool) (size : end_of 0 added ≡ done) (low : held ≤ asked) (before : done ≤ asked)
    (inside : asked ≤ length text) (t : ToldMatch) (told : IsTold M (M.start condition line) (drop done text) condition t) where
  abbrev rest : List ℕ
  rest = drop done text

  rest_text : IsText rest
  rest_text = is_text_drop done text bytes

  here : asked - done ≤ length rest
  here = omega (arith, length-drop done text, inside)

  abbrev far : ℕ
  far = Glance.beyond M laws rest rest_text (asked - done) condition line t told here

  abbrev pub next : ℕ
  next = max asked (done + t.asked)

  next_is : next ≡ done + far
  next_is = omega (arith, told.asked, before)

  far_inside : far ≤ length rest
  far_inside = Glance.high M laws rest rest_text (asked - done) condition line t told here

  pub next_inside : next ≤ length text
  next_inside = omega (arith, next_is, far_inside, length-drop done text, before, inside)

  pub next_more : asked ≤ next
  next_more = omega arith

  -- what is held then
  seen_is : drop done (take next text) ≡ take far rest
  seen_is = ap (λ n. drop done (take n text)) next_is ∙ drop-take done far text

  first_is : drop done (take asked text) ≡ take (asked - done) rest
  first_is = let e : asked ≡ done + (asked - done) = omega (arith, before) in ap (λ n. drop done (take n text)) e ∙ drop-take done (asked - done) text

  -- what was not asked for before
  got_is : drop (asked - done) (take far rest) ≡ drop asked (take next text)
  got_is =
      let e : asked - done + done ≡ asked = omega (arith, before) in
      ap (drop (asked - done)) (sym seen_is) ∙ drop-drop (asked - done) done (take next text) ∙ ap (λ n. drop n (take next text)) (omega (arith, before))

  size_far : length (take far rest) ≡ far
  size_far = length-take-le far rest far_inside

  keeps : t.keep ≤ far
  keeps = omega (arith, told.short)

  pub keeps_some : 1 ≤ t.keep
  keeps_some = told.some

  pub keeps_inside : done + t.keep ≤ next
  keeps_inside = omega (arith, keeps, next_is)

  pub below : condition < M.conditions → t.condition < M.conditions
  below lt = Glance.below M laws rest rest_text (asked - done) condition line t told here lt

  abbrev token : BriefToken
  token = record { rule = t.rule; length = t.keep; condition = condition }

  pub size_more : end_of 0 (added ++ token ∷ []) ≡ done + t.keep
  size_more = end_more 0 added token ∙ ap (λ n. n + t.keep) size

  module _ (so_far : SeriesTells M text held condition0 line0 added done asked condition line) (line' : Bool) (line_is : line' ≡ nat_eq (get_or rest (t.keep - 1) 0) 10) where
    -- before the match and after it, where the turns led to a state
    module _ (old new : State) (taken : ℕ) (stack : List ℕ) (some : held ≤ taken) (stands : Between old (take held text) 0 taken condition0 line0 stack) (led : Between new (drop (done + t.keep) (take next text)) 0 (taken + (next - held)) t.condition line' stack) (works : new.failed ≡ false) where
      few : taken + (asked - held) + 0 ≤ new.reading.max_reads
      few = let all = new.reading.few_reads in omega (arith, all, led.taken_is, next_more, low)

      abbrev mid : State
      mid = record new {
        reading = record new.reading { window = record { bytes = drop done (take asked text); room = true; ahead = []; behind = [] }; taken = taken + (asked - held); at_end = false; few_reads = few };
        place = record { at = 0; line_start = line; condition = condition };
        acting = record new.acting { stack = stack };
        ended = None;
        failed = false;
      }

      abbrev kept : List ℕ
      kept = take t.keep (take far rest)

      abbrev now : State
      now = record new {
        reading = record new.reading { window = record new.reading.window { behind = kept } };
        acting = record new.acting { end = t.keep };
        matched = Some (Numbered t.rule);
      }

      until_mid : TurnsTell M (drop held (take asked text)) (drawn_out (taken - held) added) old mid
      until_mid = so_far old mid taken stack some stands (record { bytes_are = refl; taken_is = refl; at_end = refl; at = refl; line_is = refl; condition_is = refl; stack_is = refl; going = refl }) refl

      abbrev window : Held
      window = record { bytes = take far rest; room = true; ahead = []; behind = [] }

      all_seen : take far rest ++ take (next - asked) [] ≡ take far rest
      all_seen = ap (λ l. take far rest ++ l) (take_all (next - asked) [] (omega arith)) ∙ append-nil (take far rest)

      held_is : new.reading.window.bytes ≡ drop t.keep (take far rest)
      held_is = led.bytes_are ∙ (let e : done + t.keep ≡ t.keep + done = omega arith in sym (drop-drop t.keep done (take next text) ∙ ap (λ n. drop n (take next text)) (omega arith))) ∙ ap (drop t.keep) seen_is

      text_is : last_of t.keep (kept_before now) ≡ take t.keep (take far rest)
      text_is = text_dropped [] kept (take far rest) new.reading.window.bytes t.keep new.place.at (omega (arith, size_far, keeps)) refl led.at

      taken_is : new.reading.taken ≡ taken + (asked - held) + (far - (asked - done))
      taken_is = omega (arith, led.taken_is, next_is, low, before, next_more)

      line_seen : line' ≡ nat_eq (get_or (take far rest) (t.keep - 1) 0) 10
      line_seen = line_is ∙ ap (λ b. nat_eq b 10) (sym (get_or-take far rest (t.keep - 1) 0 (omega (arith, keeps, told.some))))

      left : LeavesTold t line' (next - asked) (record mid { reading = record mid.reading { window = window } }) now
      left = record {
        held = held_is ∙ ap (drop t.keep) (sym all_seen);
        text = text_is ∙ ap (take t.keep) (sym all_seen);
        taken = omega (arith, led.taken_is, next_more, low);
        at_end = led.at_end;
        max_reads = refl;
        at = led.at;
        line_start = led.line_is;
        condition = led.condition_is;
        stack = led.stack_is;
        end = refl;
        matched = refl;
        ended = led.going;
        failed = works;
      }

      turned : TurnPreserves M mid now (drop (asked - done) (take far rest)) (Glance.written M laws rest rest_text (asked - done) condition line t told here) (Ok Turn.Went)
      turned = Glance.preserves M laws rest rest_text (asked - done) condition line t told here mid now window line' (next - asked) refl first_is refl refl refl held_is text_is taken_is line_seen left

      abbrev m : Match
      m = record { rule = Numbered t.rule; start = text_start now; length = t.keep }

      is : match_in now ≡ Some m
      is = ap (λ b. if b then None else match_by (Some (Numbered t.rule)) now) works

      held_size : length new.reading.window.bytes ≡ next - (done + t.keep)
      held_size = ap length led.bytes_are ∙ length-drop (done + t.keep) (take next text) ∙ ap (λ n. n - (done + t.keep)) (length-take-le next text next_inside)

      start_is : text_start now ≡ end_of (taken - held) added
      start_is = omega (arith, end_there (taken - held) added, size, held_size, led.taken_is, led.at, some, keeps_inside, low, next_more)

      token_is : token_by m condition ≡ token_from (end_of (taken - held) added) token
      token_is = ap (λ n. token_from n token) start_is

      still : (n : ℕ) (given out : List ℕ) → TurnInvariant M n given out now → TurnInvariant M n given out new
      still n given out h = record { works = works; start = h.start; scanned = h.scanned; text = h.text; covered = h.covered; held = h.held; line = h.line; taken = h.taken }

      told_lists : drawn_out (taken - held) added ++ token_by m condition ∷ [] ≡ drawn_out (taken - held) (added ++ token ∷ [])
      told_lists = ap (λ u. drawn_out (taken - held) added ++ u ∷ []) token_is ∙ sym (drawn_more (taken - held) added token)

      all_got : drop held (take asked text) ++ drop (asked - done) (take far rest) ≡ drop held (take next text)
      all_got = ap (λ l. drop held (take asked text) ++ l) got_is ∙ sym (grows text held asked next low next_more next_inside)

      pub tells_next : TurnsTell M (drop held (take next text)) (drawn_out (taken - held) (added ++ token ∷ [])) old new
      tells_next =
          subst (λ l. TurnsTell M l (drawn_out (taken - held) (added ++ token ∷ [])) old new) all_got
          (subst (λ us. TurnsTell M (drop held (take asked text) ++ drop (asked - done) (take far rest)) us old new) told_lists
          (tells_same M old now new (drop held (take asked text) ++ drop (asked - done) (take far rest)) (drawn_out (taken - held) added ++ token_by m condition ∷ []) refl still
          (tells_then M old mid now (drop held (take asked text)) (drop (asked - done) (take far rest)) (drawn_out (taken - held) added) (token_by m condition ∷ []) refl until_mid
          (tells_one M mid now (drop (asked - done) (take far rest)) (Glance.written M laws rest rest_text (asked - done) condition line t told here) m refl refl turned is))))

    pub tells_more : SeriesTells M text held condition0 line0 (added ++ token ∷ []) (done + t.keep) next t.condition line'
    tells_more old new taken stack some stands led works = tells_next old new taken stack some stands led works

-- no turn yet
pub series_none : (M : Machine) (text : List ℕ) (held condition : ℕ) (line : Bool) → held ≤ length text → SeriesTells M text held condition line [] 0 held condition line
series_none M text held condition line inside old new taken stack some stands led works =
    let nothing : drop held (take held text) ≡ [] = drop_all held (take held text) (omega (arith, length-take-le held text inside)) in
    subst (λ l. TurnsTell M l [] old new) (sym nothing) (tells_none M old new (λ n given before h.
    stands_all M n given before old (take held text) stands.bytes_are stands.at_end stands.going h new
    (record {
      bytes_are = led.bytes_are;
      taken_is = omega (arith, led.taken_is, stands.taken_is);
      at_end = led.at_end;
      at = led.at ∙ sym stands.at;
      line_is = led.line_is ∙ sym stands.line_is;
      condition_is = led.condition_is ∙ sym stands.condition_is;
      stack_is = led.stack_is ∙ sym stands.stack_is;
      going = led.going;
    }) works))

abbrev Nothing : ⊤ → List ℕ → ⊤ → Type 0
Nothing a xs b = ⊤

-- what is held was taken
pub held_taken : (M : Machine) (s : State) → IsReachable M s → length s.reading.window.bytes ≤ s.reading.taken
held_taken M s reachable = certain_le (length s.reading.window.bytes) s.reading.taken (λ denied. reachable (λ n given out h. denied (all_taken M n given out s h)))

-- A series over the bytes held and some of those that wait.
module _ (M : Machine) (old new : ScanParts) (waiting text : List ℕ) (window : Held) (held shown : ℕ) (b : Burst) (before after : List BriefToken) (size : held ≡ length old.state.reading.window.bytes) (same : window.bytes ≡ old.state.reading.window.bytes)
    (ahead : window.ahead ≡ take shown waiting) (few : shown ≤ length waiting) (whole : text ≡ window.bytes ++ take shown window.ahead) (limit : old.state.reading.max_reads < 2 ^ 64) (going : IsGoing old) (kept : ScanInvariant M old) (reading : old.state.reading.at_end ≡ false)
    (begins : old.state.place.at ≡ 0) (reachable : IsReachable M old.state) (memo : new.memo ≡ old.memo) (made : SeriesMade M text held old.state.place before after b) (led : Advanced b (b.asked - held) (showing old window).state new.state) where
  abbrev bytes : List ℕ
  bytes = old.state.reading.window.bytes

  made_of : text ≡ bytes ++ take shown waiting
  made_of = whole ∙ ap (λ l. l ++ take shown window.ahead) same ∙ ap (λ l. bytes ++ take shown l) ahead ∙ ap (λ l. bytes ++ l) (take-take shown shown waiting (omega arith))

  all : length text ≡ held + shown
  all = let n = length-append bytes (take shown waiting) in let m = length-take-le shown waiting few in omega (arith, ap length made_of, n, m, size)

  some : held ≤ old.state.reading.taken
  some = omega (arith, size, held_taken M old.state reachable)

  bytes_are : new.state.reading.window.bytes ≡ drop b.done (bytes ++ take (b.asked - held) waiting)
  bytes_are = led.held ∙ Further.accepted text bytes window.bytes window.ahead waiting waiting held shown b.asked b.done size made_of few made.asked same ahead refl

  first : bytes ≡ take held text
  first = Further.held_all text bytes waiting held shown b.asked size made_of few made.held made.asked

  between : Between new.state (drop b.done (take b.asked text)) 0 (old.state.reading.taken + (b.asked - held)) b.condition b.line_start old.state.acting.stack
  between = Further.between M old.state new.state text waiting held shown b.asked b.done 0 b.condition b.line_start size made_of few made.held made.asked bytes_are led.taken reading (led.at_end ∙ reading) led.at led.line_start led.condition led.stack going.going (led.ended ∙ going.going) Nothing tt tt

  given : drop held (take b.asked text) ≡ take (b.asked - held) waiting
  given = sym (Further.given_all text bytes waiting held shown b.asked size made_of few made.held made.asked)

  tells : TurnsTell M (drop held (take b.asked text)) (drawn_out (old.state.reading.taken - held) made.added) old.state new.state
  tells = made.tells old.state new.state old.state.reading.taken old.state.acting.stack some
      (record { bytes_are = first; taken_is = refl; at_end = reading; at = begins; line_is = refl; condition_is = refl; stack_is = refl; going = going.going }) between (led.failed ∙ going.working)

  pub listed_over : ListedOver M waiting old new before after (record { start = old.state.reading.taken - held; got = b.asked - held; done = b.done })
  listed_over = record {
    added = made.added;
    appended = made.appended;
    small = (let most = new.state.reading.few_reads in omega (arith, end_there (old.state.reading.taken - held) made.added, made.size, made.done, made.held, some, led.taken, led.max_reads, most, limit));
    inside = omega (arith, all, made.asked, few);
    tells = subst (λ l. TurnsTell M l (drawn_out (old.state.reading.taken - held) made.added) old.state new.state) given tells;
    at_end = led.at_end;
    max_reads = led.max_reads;
    ended = led.ended;
    failed = led.failed;
    kept = record {
      condition = omega (arith, led.condition, made.condition);
      inside = omega (arith, led.at);
      stack = λ _. subst (AllBelow M.conditions) (sym led.stack) (kept.stack going.working);
      marks = λ _. subst (AreTrue M new.state.reading) (sym memo)
          (true_burst M old.state.reading new.state.reading text window.bytes window.ahead waiting held shown b.asked b.done old.memo size same ahead few whole made.held made.asked made.done led.held led.taken reading (kept.marks going.working));
    };
  }

-- None was made, and other bytes may be shown.
pub listed_none : (M : Machine) (s : ScanParts) (waiting : List ℕ) (before : List BriefToken) → ScanInvariant M s → ListedOver M waiting s s before before (record { start = 0; got = 0; done = 0 })
listed_none M s waiting before kept = record {
  added = [];
  appended = sym (append-nil before);
  small = omega arith;
  inside = omega arith;
  tells = tells_none M s.state s.state (λ n given out h. h);
  at_end = refl;
  max_reads = refl;
  ended = refl;
  failed = refl;
  kept = kept;
}

-- The tokens told so far, with those of several turns more.
module _ (M : Machine) (finished : Bool) (old new : State) (waiting : List ℕ) (got : ℕ) (told : List Token) (k : TurnsTell M (take got waiting) told old new) (going : old.ended ≡ None) (same : new.reading.at_end ≡ old.reading.at_end) (most : new.reading.max_reads ≡ old.reading.max_reads) (fed : List ℕ)
    (tokens : List Token) (h : TokensTold M fed finished tokens old waiting) where
  fed_is : fed ≡ (h.given ++ take got waiting) ++ drop got waiting
  fed_is = h.all ∙ ap (λ l. h.given ++ l) ((h.waits going).0 ∙ sym (take-append-drop got waiting)) ∙ sym (append_assoc h.given (take got waiting) (drop got waiting))

  ending : new.reading.at_end ≡ true → (finished ≡ true) × (drop got waiting ≡ [])
  ending e = let z = h.ending (sym same ∙ e) in (z.0, ap (drop got) (sym (h.waits going).0 ∙ z.1) ∙ drop_all got [] (omega arith))

  pub several_told : TokensTold M fed finished (tokens ++ told) new (drop got waiting)
  several_told = record {
    turns = k.turns + h.turns;
    given = h.given ++ take got waiting;
    left = drop got waiting;
    out = h.out ++ k.out;
    text = h.text;
    invariant = k.made h.turns h.given h.out h.invariant;
    all = fed_is;
    ending = ending;
    waits = λ _. (refl, most ∙ (h.waits going).1);
    tokens_are = λ x c. k.tokens h.turns h.given h.out h.invariant x tokens (c.0, goes_on fed (h.given ++ take got waiting) (drop got waiting) finished new.reading.at_end x fed_is ending c.1) (h.tokens_are x c);
  }

-- no token more
pub none_told : (M : Machine) (finished : Bool) (s : State) (waiting : List ℕ) (before : List BriefToken) → TellsSeveral M finished s s waiting waiting before before 0
none_told M finished s waiting before = record {
  added = [];
  appended = sym (append-nil before);
  small = omega arith;
  told = λ fed tokens h. subst (λ us. TokensTold M fed finished us s waiting) (sym (append-nil tokens)) h;
}

pub tells_several : (M : Machine) (finished : Bool) (old new : ScanParts) (waiting waiting' : List ℕ) (before after : List BriefToken) (l : Listed) → old.state.ended ≡ None → ListedOver M waiting old new before after l → waiting' ≡ drop l.got waiting → TellsSeveral M finished old.state new.state waiting waiting' before after l.start
tells_several M finished old new waiting waiting' before after l going h is = record {
  added = h.added;
  appended = h.appended;
  small = h.small;
  told = λ fed tokens t. subst (TokensTold M fed finished (tokens ++ drawn_out l.start h.added) new.state) (sym is) (several_told M finished old.state new.state waiting l.got (drawn_out l.start h.added) h.tells going h.at_end h.max_reads fed tokens t);
}

-- what several turns lead to is reachable
pub several_reachable : (M : Machine) (old new : ScanParts) (waiting : List ℕ) (before after : List BriefToken) (l : Listed) → IsReachable M old.state → ListedOver M waiting old new before after l → IsReachable M new.state
several_reachable M old new waiting before after l reachable h = standing_on M old.state new.state h.tells.turns (take l.got waiting) h.tells.out reachable h.tells.made
