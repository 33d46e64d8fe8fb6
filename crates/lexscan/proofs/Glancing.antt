-- A turn whose match is told at a glance.
use Rattle.std.proofs.Common.{◌≡◌, ℕ, suc, ◌+◌, ◌-◌, ◌≤◌, ◌<◌, Bool, true, false, List, [], ◌++◌, length, take, drop, get_or, inl, Option, Some, None, Ok, Err, refl, sym, ◌∙◌, ap, subst, arith}
use Rattle.std.specs.Prelude.{Result, max, nat_eq, ⊤}
use Rattle.std.proofs.lemmas.List.{get_or-take, length-append, length-take-le, take-take, take-append-drop}
use Rattle.std.specs.Coded.{le_prop}
use Rattle.lex_semantics.specs.ByteSets.{bit_of}
use Rattle.lex_semantics.specs.Text.{IsText, AllBelow}
use Rattle.lex_semantics.specs.Machine.{Machine, walk}
use Rattle.lex_semantics.specs.MachineLaws.{MachineLaws}
use Rattle.lex_semantics.proofs.Texts.{is_text_take, is_text_drop}
use Rattle.lex_machine.specs.Glances.{are_simple}
use Rattle.lexscan_matching.specs.declared.glanced.GlancedMatch.{GlancedMatch}
use Rattle.lexscan_matching.specs.Glanced.{IsGlancedMatch, statements_in, condition_after, written_by}
use Rattle.lexscan_matching.specs.Descends.{Conditions, matches_of, Takes}
use Rattle.lexscan_matching.specs.Picks.{path_of}
use Rattle.lexscan_matching.proofs.Barrens.{true_burst}
use Rattle.lexscan_window.specs.Memos.{AreTrue}
use Rattle.lexscan_window.specs.Places.{kept_before}
use Rattle.lexscan_window.specs.Window.{Held, last_of}
use Rattle.lexscan_window.specs.declared.error.RunError.{RunError}
use Rattle.lexscan_window.specs.declared.matched.MatchedRule.TheVariants.{Numbered}
use Rattle.lexscan_window.specs.declared.state.Reading.{Reading}
use Rattle.lexscan_window.specs.declared.state.State.{State}
use Rattle.lexscan_window.specs.declared.state.TextPlace.{TextPlace}
use Rattle.lexscan.specs.declared.glance.ToldMatch.{ToldMatch}
use Rattle.lexscan.specs.declared.scan.Scan.{Scan}
use Rattle.lexscan.specs.declared.turn.Turn.{Turn}
use Rattle.lexscan.specs.Glances.{IsTold, LeavesTold, showing, GlancedOver}
use Rattle.lexscan.specs.Pulls.{TurnedOver}
use Rattle.lexscan.specs.Pushes.{AttemptsTo, IsReachable}
use Rattle.lexscan.specs.Scans.{IsGoing, ScanInvariant}
use Rattle.lexscan.specs.TurnInvariants.{TurnInvariant, TurnPreserves}
use Rattle.lexscan.specs.TurnSteps.{MatchStep}
use Rattle.lexscan.proofs.Bursting as Burst
use Rattle.lexscan.proofs.Bursting.{Heads, Tells, Does, tells_gist, does_gist, acting_then, grows, grown_by}
use Rattle.lexscan.proofs.Furthering as Further
use Rattle.lexscan.proofs.Stepping as Go
use Rattle.lexscan.proofs.Taking as Take

abbrev Nothing : ⊤ → List ℕ → ⊤ → Type 0
Nothing a xs b = ⊤

not_both : {P : Type 0} → false ≡ true → P
not_both e = absurd (no e)
  where
    no : false ≡ true → ⊥
    no q = cc

-- A match that is told, at the front of a text of which so many bytes are held.
module _ (M : Machine) (laws : MachineLaws M) (text : List ℕ) (bytes : IsText text) (held condition : ℕ) (line : Bool) (t : ToldMatch) (told : IsTold M (M.start condition line) text condition t) (inside : held ≤ length text) where
  abbrev longest : GlancedMatch
  longest = record { gist = told.gist; keep = t.keep }

  tells : IsGlancedMatch M (M.start condition line) (drop 0 text) told.way.count longest
  tells = inl (told.some, told.short, told.none, told.gists)

  told_gist : (are_simple (statements_in told.gist) ≡ true) × Tells M (M.start condition line) (drop 0 text) told.way.count (statements_in told.gist) t.keep
  told_gist = tells_gist M (M.start condition line) (drop 0 text) told.way.count longest told.rule.0 tells

  does : Does (statements_in told.gist) (written_by told.gist) (condition_after told.gist) false
  does = does_gist told.gist told.rule.0 told_gist.0

  least : 0 ≤ held
  least = omega arith

  abbrev pub beyond : ℕ
  beyond = max held (0 + told.way.count)

  -- what is held then
  abbrev pub seen : List ℕ
  seen = take beyond text

  -- what was not held before
  abbrev pub got : List ℕ
  got = drop held (take beyond text)

  abbrev pub written : List ℕ
  written = written_by told.gist (take (0 + t.keep) seen)

  abbrev p : TextPlace
  p = record { at = 0; line_start = line; condition = condition }

  pub more : held ≤ beyond
  more = Burst.far_beyond M laws text bytes 0 held condition line told.way (statements_in told.gist) (written_by told.gist) (condition_after told.gist) false t.keep least inside told.leads told_gist.1 does

  pub high : beyond ≤ length text
  high = Burst.inside_beyond M laws text bytes 0 held condition line told.way (statements_in told.gist) (written_by told.gist) (condition_after told.gist) false t.keep least inside told.leads told_gist.1 does

  within : told.way.count ≤ length seen
  within = let w = Burst.within M laws text bytes 0 held condition line told.way (statements_in told.gist) (written_by told.gist) (condition_after told.gist) false t.keep least inside told.leads told_gist.1 does in omega (arith, w)

  pub size : length seen ≡ beyond
  size = length-take-le beyond text high

  pub asked_size : length got ≡ beyond - held
  asked_size = grown_by text 0 held beyond (omega arith) more high

  abbrev heads : Heads M p seen (path_of M p seen told.way.count) (statements_in told.gist) t.keep
  heads = Burst.heads M laws text bytes 0 held condition line told.way (statements_in told.gist) (written_by told.gist) (condition_after told.gist) false t.keep least inside told.leads told_gist.1 does

  number : heads.number ≡ Some (Numbered t.rule)
  number = heads.named t.rule told.rule.1 (ap (λ l. M.accepts (walk M (M.start condition line) l)) (Burst.front_here M laws text bytes 0 held condition line told.way (statements_in told.gist) (written_by told.gist) (condition_after told.gist) false t.keep least inside told.leads told_gist.1 does t.keep told.short) ∙ told.rule.2)

  pub below : condition < M.conditions → t.condition < M.conditions
  below lt = let b = Burst.gist_within M laws (M.start condition line) text told.way.count condition longest told.rule.0 tells lt in omega (arith, b, told.condition_is)

  -- the turn over a scan and the one after it
  module _ (old new : State) (window : Held) (line' : Bool) (count : ℕ) (at : old.place ≡ record { at = 0; line_start = line; condition = condition }) (first : old.reading.window.bytes ≡ take held text) (reading : old.reading.at_end ≡ false) (works : old.failed ≡ false) (going : old.ended ≡ None)
      (held_is : new.reading.window.bytes ≡ drop t.keep seen) (text_is : last_of t.keep (kept_before new) ≡ take t.keep seen) (taken_is : new.reading.taken ≡ old.reading.taken + (beyond - held)) (line_is : line' ≡ nat_eq (get_or seen (t.keep - 1) 0) 10)
      (left : LeavesTold t line' count (record old { reading = record old.reading { window = window } }) new) where
    abbrev cs : Conditions
    cs = record { next = condition; stack = old.acting.stack }

    -- the same, with its place told
    abbrev start : State
    start = record old { place = p }

    start_is : start ≡ old
    start_is = λ i. record old { place = sym at i }

    few : new.reading.taken + 0 ≤ new.reading.max_reads
    few = let all = new.reading.few_reads in omega (arith, all)

    abbrev mid : Reading
    mid = record new.reading { window = record { bytes = seen; room = true; ahead = []; behind = [] } }

    same_keep : t.keep ≡ 0 + t.keep
    same_keep = omega arith

    abbrev step : MatchStep M Nothing Nothing tt tt tt tt (record start { failed = true }) new Turn.Went
    step = record {
      mid = mid;
      took = record {
        got = got;
        source = tt;
        text = is_text_drop held (take beyond text) (is_text_take beyond text bytes);
        held = grows text 0 held beyond (omega arith) more high ∙ ap (λ l. l ++ got) (sym first);
        taken = taken_is ∙ ap (λ k. old.reading.taken + k) (sym asked_size);
        nothing = λ e. not_both (sym reading ∙ e);
        end_stays = λ e. not_both (sym reading ∙ e);
        max_reads = left.max_reads;
      };
      path = path_of M p seen told.way.count;
      looked = record {
        reach = told.way.count;
        some = told.leads.some;
        state = told.way.state;
        so_far = Burst.so_far M laws text bytes 0 held condition line told.way (statements_in told.gist) (written_by told.gist) (condition_after told.gist) false t.keep least inside told.leads told_gist.1 does;
        size = (let s = length-take-le held text inside in omega (arith, size, ap length first, s));
        stops = inl (told.leads.stops, left.at_end);
      };
      acted = record {
        acting = acting_then false (0 + t.keep) (condition_after told.gist condition) cs;
        ended = None;
        performed = Burst.performed M laws text bytes 0 held condition line told.way (statements_in told.gist) (written_by told.gist) (condition_after told.gist) false t.keep least inside told.leads told_gist.1 does old.acting.stack;
        inside = omega (arith, within, told.short);
        left = record {
          held = held_is ∙ ap (λ k. drop k seen) same_keep;
          at = left.at;
          line = λ some. left.line_start ∙ line_is ∙ ap (λ k. nat_eq (get_or seen (k - 1) 0) 10) same_keep;
          condition = left.condition ∙ told.condition_is;
          stack = left.stack;
          end = left.end ∙ same_keep;
          text = ap (λ k. last_of k (kept_before new)) (sym same_keep) ∙ text_is ∙ ap (λ k. take k seen) same_keep;
        };
        says = refl;
        same = record { taken = refl; at_end = refl };
        is_ended = λ e h. left.ended ∙ going ∙ h;
        takes = subst (λ r. Takes M seen 0 (matches_of M seen 0 (path_of M p seen told.way.count)) cs r) (number ∙ sym left.matched)
            (Burst.takes M laws text bytes 0 held condition line told.way (statements_in told.gist) (written_by told.gist) (condition_after told.gist) false t.keep least inside told.leads told_gist.1 does old.acting.stack);
      };
    }

    failed : new.failed ≡ false
    failed = left.failed ∙ works

    working : (n : ℕ) (given out : List ℕ) → TurnInvariant M n given out (record new { failed = false }) → TurnInvariant M n given out new
    working n given out h = subst (λ f. TurnInvariant M n given out (record new { failed = f })) (sym failed) h

    preserves_from : TurnPreserves M start new got written (Ok Turn.Went)
    preserves_from = (
      left.ended ∙ going,
      λ n given out h. working (suc n) (given ++ got) (out ++ written) (Go.matched_stands M laws Nothing Nothing tt tt tt tt n given out start new Turn.Went going h step (left.ended ∙ going)),
      λ _ n given out h. Take.tells_working _ _ _ _ new failed (Take.match_tells M laws Nothing Nothing tt tt tt tt n given out start new Turn.Went h step),
    )

    pub preserves : TurnPreserves M old new got written (Ok Turn.Went)
    preserves = subst (λ s. TurnPreserves M s new got written (Ok Turn.Went)) start_is preserves_from

-- What a glance over the bytes held and some of those that wait makes of a scan.
module _ (M : Machine) (laws : MachineLaws M) (old new : Scan) (waiting text : List ℕ) (bytes : IsText text) (window : Held) (held shown asked : ℕ) (line : Bool) (t : ToldMatch) (told : IsTold M (M.start old.state.place.condition old.state.place.line_start) text old.state.place.condition t)
    (size : held ≡ length old.state.reading.window.bytes) (same : window.bytes ≡ old.state.reading.window.bytes) (ahead : window.ahead ≡ take shown waiting) (few : shown ≤ length waiting) (whole : text ≡ window.bytes ++ take shown window.ahead) (asked_is : asked ≡ max t.asked held)
    (line_is : line ≡ nat_eq (get_or text (t.keep - 1) 0) 10) (going : IsGoing old) (kept : ScanInvariant M old) (reading : old.state.reading.at_end ≡ false) (begins : old.state.place.at ≡ 0) (memo : new.memo ≡ old.memo)
    (left : LeavesTold t line (asked - held) (showing old window).state new.state) where
  abbrev condition : ℕ
  condition = old.state.place.condition

  abbrev begin_line : Bool
  begin_line = old.state.place.line_start

  made : text ≡ old.state.reading.window.bytes ++ take shown waiting
  made = whole ∙ ap (λ l. l ++ take shown window.ahead) same ∙ ap (λ l. old.state.reading.window.bytes ++ take shown l) ahead ∙ ap (λ l. old.state.reading.window.bytes ++ l) (take-take shown shown waiting (omega arith))

  all : length text ≡ held + shown
  all = let n = length-append old.state.reading.window.bytes (take shown waiting) in let m = length-take-le shown waiting few in omega (arith, ap length made, n, m, size)

  inside : held ≤ length text
  inside = omega (arith, all)

  abbrev far : ℕ
  far = beyond M laws text bytes held condition begin_line t told inside

  far_is : asked ≡ far
  far_is = omega (arith, asked_is, told.asked)

  low : held ≤ far
  low = more M laws text bytes held condition begin_line t told inside

  high_far : far ≤ length text
  high_far = high M laws text bytes held condition begin_line t told inside

  first : old.state.reading.window.bytes ≡ take held text
  first = Further.held_all text old.state.reading.window.bytes waiting held shown far size made few low high_far

  -- what is held with what was shown
  seen_is : window.bytes ++ take (asked - held) window.ahead ≡ take far text
  seen_is =
      ap (λ l. l ++ take (asked - held) window.ahead) same
      ∙ ap (λ l. old.state.reading.window.bytes ++ take (asked - held) l) ahead
      ∙ ap (λ l. old.state.reading.window.bytes ++ l) (take-take (asked - held) shown waiting (omega (arith, far_is, high_far, all)))
      ∙ ap (λ k. old.state.reading.window.bytes ++ take (k - held) waiting) far_is
      ∙ sym (Further.asked_all text old.state.reading.window.bytes waiting held shown far size made few low high_far)

  given : take (far - held) waiting ≡ drop held (take far text)
  given = Further.given_all text old.state.reading.window.bytes waiting held shown far size made few low high_far

  keeps : t.keep ≤ far
  keeps = omega (arith, told.short)

  line_seen : line ≡ nat_eq (get_or (take far text) (t.keep - 1) 0) 10
  line_seen = line_is ∙ ap (λ b. nat_eq b 10) (sym (get_or-take far text (t.keep - 1) 0 (omega (arith, keeps, told.some))))

  abbrev waits : List ℕ
  waits = drop (far - held) waiting

  turned : TurnPreserves M old.state new.state (got M laws text bytes held condition begin_line t told inside) (written M laws text bytes held condition begin_line t told inside) (Ok Turn.Went)
  turned = preserves M laws text bytes held condition begin_line t told inside old.state new.state window line (asked - held) (λ i. record { at = begins i; line_start = begin_line; condition = condition }) first reading going.working going.going
      (left.held ∙ ap (drop t.keep) seen_is) (left.text ∙ ap (take t.keep) seen_is) (left.taken ∙ ap (λ k. old.state.reading.taken + (k - held)) far_is) line_seen left

  still_kept : ScanInvariant M new
  still_kept = record {
    condition = (let b = below M laws text bytes held condition begin_line t told inside kept.condition in omega (arith, left.condition, b));
    inside = omega (arith, left.at);
    stack = λ _. subst (AllBelow M.conditions) (sym left.stack) (kept.stack going.working);
    marks = λ _. subst (AreTrue M new.state.reading) (sym memo)
        (true_burst M old.state.reading new.state.reading text window.bytes window.ahead waiting held shown asked t.keep old.memo size same ahead few whole (omega (arith, far_is, low)) (omega (arith, far_is, high_far)) (omega (arith, far_is, keeps)) left.held left.taken reading (kept.marks going.working));
  }

  pub glanced : GlancedOver M waiting old new true
  glanced = (
    waits,
    record {
      got = got M laws text bytes held condition begin_line t told inside;
      put = written M laws text bytes held condition begin_line t told inside;
      all = sym (take-append-drop (far - held) waiting) ∙ ap (λ l. l ++ waits) given;
      none = λ e. not_both (sym reading ∙ e);
      ending = λ _ e. not_both (sym (left.at_end ∙ reading) ∙ e);
      attempts = turned;
      max_reads = left.max_reads;
      refusals = tt;
      failed = tt;
      kept = still_kept;
    },
  )

-- The bound of a reading is kept where its window is another.
pub shows_is : (s : Scan) (w : Held) (few : s.state.reading.taken + bit_of s.state.reading.at_end ≤ s.state.reading.max_reads) → record s { state = record s.state { reading = record s.state.reading { window = w; few_reads = few } } } ≡ showing s w
shows_is s w few = ap (λ f. record s { state = record s.state { reading = record s.state.reading { window = w; few_reads = f } } }) (le_prop few s.state.reading.few_reads)

-- A scan that only shows other bytes stands where it stood.
module _ (M : Machine) (old : Scan) (window : Held) (same : window.bytes ≡ old.state.reading.window.bytes) where
  abbrev again : (n : ℕ) (before out : List ℕ) → TurnInvariant M n before out old.state → TurnInvariant M n before out (showing old window).state
  again n before out h = record { works = h.works; start = h.start; scanned = h.scanned; text = h.text; covered = h.covered; held = same ∙ h.held; line = h.line; taken = h.taken }

  pub reachable_still : IsReachable M old.state → IsReachable M (showing old window).state
  reachable_still h denied = h (λ n before out i. denied n before out (again n before out i))

  attempts_still : (new : State) (gave put : List ℕ) (r : Result (Option Turn) RunError) → AttemptsTo M (showing old window).state new gave put r → AttemptsTo M old.state new gave put r
  attempts_still new gave put (Ok (Some turn)) k = (k.0, λ n before out h. k.1 n before out (again n before out h), λ going n before out h. k.2 going n before out (again n before out h))
  attempts_still new gave put (Ok None) k = (k.0, k.1, k.2, k.3, λ n before out h. k.4 n before out (again n before out h))
  attempts_still new gave put (Err e) k = (k.0, λ n before out h. k.1 n before out (again n before out h))

  pub turned_still : (waiting left : List ℕ) (new : Scan) (r : Result (Option Turn) RunError) → TurnedOver M waiting left (showing old window) new r → TurnedOver M waiting left old new r
  turned_still waiting left new r h = record {
    got = h.got;
    put = h.put;
    all = h.all;
    none = h.none;
    ending = h.ending;
    attempts = attempts_still new.state h.got h.put r h.attempts;
    max_reads = h.max_reads;
    refusals = h.refusals;
    failed = h.failed;
    kept = h.kept;
  }
