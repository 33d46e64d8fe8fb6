-- The lines of tokens, as more is read.
use Rattle.std.proofs.Common.{◌≡◌, ℕ, zero, suc, ◌+◌, ◌-◌, ◌≤◌, ◌<◌, Bool, true, false, List, [], ◌∷◌, ◌++◌, length, take, drop, ◌⊎◌, inl, inr, Err, refl, sym, ◌∙◌, ap, subst, append-nil, arith}
use Rattle.std.proofs.lemmas.Grind.{flat_map-append}
use Rattle.std.proofs.lemmas.Bool.{cases_lt}
use Rattle.std.proofs.lemmas.List.{append_assoc, drop-append-le, drop_all, length-take, take-append-le}
use Rattle.lex_semantics.proofs.Fronts.{among_append}
use Rattle.lex_semantics.specs.Demand.{Consistent}
use Rattle.lex_semantics.specs.Machine.{Machine, rules_of_machine}
use Rattle.lex_semantics.specs.Rules.{Rules}
use Rattle.lex_semantics.specs.Text.{Among, IsText, part}
use Rattle.lexscan.specs.Pulls.{TokensTold}
use Rattle.lexscan.specs.Scanners.{pull_finished}
use Rattle.lexscan.specs.Tokens.{IsToken, TokensOf}
use Rattle.lexscan.specs.declared.token.Token.{Token}
use Rattle.lexscan_window.specs.Reads.{write_fault_count}
use Rattle.lexscan_window.specs.declared.error.RunError.{RunError}
use Rattle.lexscan_window.specs.declared.error.RunError.TheVariants as runs
use Rattle.lexlook_counts.specs.Places.{HasPlaced, IsPlacingFault, Left, PlacingStops, offset_line, offset_lines}
use Rattle.lexlook_counts.specs.Reading.{AreFirst, HasRead, StopsBehind}
use Rattle.lexlook_counts.specs.declared.places.Placer.{Placer}
use Rattle.lexlook_counts.specs.declared.reading.TokenReader.{TokenReader}
use Rattle.lexlook_counts.proofs.Fed.{read_first}
use Rattle.lexlook_counts.proofs.Told.{no_write}

-- ---- each token's text is a part of the input

-- all of the text of a token is there
abbrev pub IsThere : List ℕ → Token → Type 0
IsThere x t = length (part x t.start t.end) ≡ t.end - t.start

token_there : (R : Rules) (x : List ℕ) (t : Token) → (p : _) → IsToken R x p t → IsThere x t
token_there R x t p k = let size = ap length k.text_is in omega (arith, size, k.start_is, k.end_is)

-- of one token more
one_there : (x : List ℕ) (ts : List Token) (u : Token) → ((t : Token) → Among ts t → IsThere x t) → IsThere x u → (t : Token) → Among ts t ⊎ Among (u ∷ []) t → IsThere x t
one_there x ts u all this t (inl old) = all t old
one_there x ts u all this t (inr (inl same)) = subst (IsThere x) (sym same) this
one_there x ts u all this t (inr (inr none)) = absurd none

there : (R : Rules) (x : List ℕ) (n : ℕ) (us : List Token) → TokensOf R x n us → (t : Token) → Among us t → IsThere x t
there R x zero us is t at = absurd (subst (λ (l : List Token). Among l t) is at)
there R x (suc n) us (s, ts, turns, going, before, inr appends) t at = there R x n ts before t (subst (λ (l : List Token). Among l t) appends.1 at)
there R x (suc n) us (s, ts, turns, going, before, inl (u, token, is)) t at = one_there x ts u (there R x n ts before) (token_there R x u s.place token) t (among_append ts (u ∷ []) t (subst (λ (l : List Token). Among l t) is at))

goes_on_as : (given : List ℕ) (at_end : Bool) → IsText given → Consistent given at_end given
goes_on_as given true text = (text, refl)
goes_on_as given false text = (text, ([], sym (append-nil given)))

-- those that were told
pub told_there : (M : Machine) (given : List ℕ) (at_end : Bool) (tokens : List Token) (s : _) (waiting : List ℕ) → TokensTold M given at_end tokens s waiting → (t : Token) → Among tokens t → IsThere given t
told_there M given at_end tokens s waiting h = there (rules_of_machine M) given h.turns tokens (h.tokens_are given (goes_on_as given at_end h.text))

-- more of the input does not change it
part_more : (x more : List ℕ) (a b : ℕ) → length (part x a b) ≡ b - a → part (x ++ more) a b ≡ part x a b
part_more x more a b size = from (cases_lt (length x) a)
  where
    from : (length x < a) ⊎ (a ≤ length x) → part (x ++ more) a b ≡ part x a b
    from (inr le) =
        let cut = length-take (b - a) (drop a x) in
        ap (take (b - a)) (drop-append-le a x more le) ∙ take-append-le (b - a) (drop a x) more (omega (arith, size, cut))
    from (inl past) =
        let none : drop a x ≡ [] = drop_all a x (omega (arith, past)) in
        let zero : b - a ≡ 0 = (let cut = length-take (b - a) (drop a x) in let empty = ap length none in omega (arith, size, cut, empty)) in
        ap (λ n. take n (drop a (x ++ more))) zero ∙ sym (ap (λ n. take n (drop a x)) zero)

pub lines_more : (lines x more : List ℕ) (us : List Token) → ((t : Token) → Among us t → IsThere x t) → offset_lines lines (x ++ more) us ≡ offset_lines lines x us
lines_more lines x more [] all = refl
lines_more lines x more (u ∷ us) all =
    ap (λ w. offset_line lines u w ++ offset_lines lines (x ++ more) us) (part_more x more u.start u.end (all u (inl refl)))
    ∙ ap (λ l. offset_line lines u (part x u.start u.end) ++ l) (lines_more lines x more us (λ t at. all t (inr at)))

one_more : (lines x : List ℕ) (us : List Token) (u : Token) → offset_lines lines x (us ++ u ∷ []) ≡ offset_lines lines x us ++ offset_line lines u (part x u.start u.end)
one_more lines x us u = flat_map-append (λ t. offset_line lines t (part x t.start t.end)) us (u ∷ []) ∙ ap (λ l. offset_lines lines x us ++ l) (append-nil (offset_line lines u (part x u.start u.end)))

-- ---- what each step leaves

-- all lines were written, and the sink did not fail
all_left : (wrote : List ℕ → Type 0) (bytes : List ℕ) (e : RunError) → (e ≡ runs.Write → ⊥) → wrote bytes → Left wrote bytes e
all_left wrote bytes runs.Read not h = h
all_left wrote bytes runs.TooManyReads not h = h
all_left wrote bytes runs.Write not h = absurd (not refl)
all_left wrote bytes runs.OutOfMemory not h = h
all_left wrote bytes runs.Stack not h = h
all_left wrote bytes runs.Failed not h = h

module _ {A B : Type 0} (gave : A → List ℕ → A → Type 0) (ends_of reads_of : A → ℕ) (wrote : B → List ℕ → B → Type 0) (writes_of : B → ℕ) (M : Machine) (lines : List ℕ) (s s' : A) (t t' : B) where
  -- nothing was read, and nothing written
  pub placed_none : (p : Placer) → HasRead gave ends_of reads_of M s s [] [] p.reader → wrote t [] t → HasPlaced gave ends_of reads_of wrote writes_of M lines s s t t p
  placed_none p read none = record { given = []; tokens = []; read = read; written = none; writes = refl }

  module _ (p : Placer) (h : HasPlaced gave ends_of reads_of wrote writes_of M lines s s' t t' p) where
    -- more was fed
    pub placed_more : (s'' : A) (more : List ℕ) (q : Placer) → HasRead gave ends_of reads_of M s s'' (h.given ++ more) h.tokens q.reader → HasPlaced gave ends_of reads_of wrote writes_of M lines s s'' t t' q
    placed_more s'' more q read = record {
      given = h.given ++ more;
      tokens = h.tokens;
      read = read;
      written = subst (λ (l : List ℕ). wrote t l t') (sym (lines_more lines h.given more h.tokens (told_there M h.given (pull_finished p.reader.scanner) h.tokens _ _ h.read.told))) h.written;
      writes = h.writes;
    }

    -- a token more was told, and its line written
    pub placed_one : (s'' : A) (q : Placer) (u : Token) (text : List ℕ) (t'' : B) → (r : TokenReader) → q.reader ≡ r → HasRead gave ends_of reads_of M s s'' h.given (h.tokens ++ u ∷ []) r → text ≡ part h.given u.start u.end → wrote t (offset_lines lines h.given h.tokens ++ offset_line lines u text) t''
        → writes_of t'' ≡ writes_of t' + 0 → HasPlaced gave ends_of reads_of wrote writes_of M lines s s'' t t'' q
    placed_one s'' q u text t'' r same read is written writes = record {
      given = h.given;
      tokens = h.tokens ++ u ∷ [];
      read = subst (HasRead gave ends_of reads_of M s s'' h.given (h.tokens ++ u ∷ [])) (sym same) read;
      written = subst (λ (l : List ℕ). wrote t l t'') (ap (λ w. offset_lines lines h.given h.tokens ++ offset_line lines u w) is ∙ sym (one_more lines h.given h.tokens u)) written;
      writes = omega (arith, writes, h.writes);
    }

    -- reading stopped
    pub reading_stops : (s'' : A) (e : RunError) → StopsBehind gave ends_of reads_of M s s'' h.given h.tokens e → PlacingStops gave ends_of reads_of wrote writes_of M lines s s'' t t' e
    reading_stops s'' e behind = let stops = behind.stops in record {
      given = h.given ++ behind.more;
      at_end = behind.at_end;
      tokens = h.tokens;
      source = stops.source;
      ends = stops.ends;
      first = behind.first;
      written = all_left (λ xs. wrote t xs t') (offset_lines lines (h.given ++ behind.more) h.tokens) e stops.not_write
          (subst (λ (l : List ℕ). wrote t l t') (sym (lines_more lines h.given behind.more h.tokens (told_there M h.given (pull_finished p.reader.scanner) h.tokens _ _ h.read.told))) h.written);
      stack = stops.stack;
      reads = stops.reads;
      writes = (let none = no_write ℕ e stops.not_write in omega (arith, none, h.writes));
    }

    -- memory ran out behind the lines so far: of one token more that was told none was written
    tokens_stop : (s'' : A) {tokens : List Token} → (r : TokenReader) → HasRead gave ends_of reads_of M s s'' h.given tokens r → AreFirst (rules_of_machine M) h.given (pull_finished r.scanner) h.tokens → PlacingStops gave ends_of reads_of wrote writes_of M lines s s'' t t' runs.OutOfMemory
    tokens_stop s'' r read first = record {
      given = h.given;
      at_end = pull_finished r.scanner;
      tokens = h.tokens;
      source = read.source;
      ends = read.ends;
      first = first;
      written = h.written;
      stack = λ e. cc;
      reads = (let zero : reads_of s'' ≡ reads_of s + 0 = omega (arith, read.reads) in zero);
      writes = (let zero : writes_of t' ≡ writes_of t + 0 = omega (arith, h.writes) in zero);
    }

    -- the tokens so far are those of the first turns
    first_by : (at_end : Bool) → at_end ≡ pull_finished p.reader.scanner → AreFirst (rules_of_machine M) h.given at_end h.tokens
    first_by at_end finished = subst (λ (b : Bool). AreFirst (rules_of_machine M) h.given b h.tokens) (sym finished) (read_first gave ends_of reads_of M s s' h.given h.tokens p.reader h.read)

    -- or no token more was told
    pub memory_stops : PlacingStops gave ends_of reads_of wrote writes_of M lines s s' t t' runs.OutOfMemory
    memory_stops = tokens_stop s' p.reader h.read (first_by (pull_finished p.reader.scanner) refl)

    -- the sink failed in the line of a token more
    writing_stops : (s'' : A) (u : Token) (text : List ℕ) (t'' : B) → (r : TokenReader) → HasRead gave ends_of reads_of M s s'' h.given (h.tokens ++ u ∷ []) r → text ≡ part h.given u.start u.end → (front rest : List ℕ) → offset_line lines u text ≡ front ++ rest
        → wrote t (offset_lines lines h.given h.tokens ++ front) t'' → writes_of t'' ≡ writes_of t' + 1 → PlacingStops gave ends_of reads_of wrote writes_of M lines s s'' t t'' runs.Write
    writing_stops s'' u text t'' r read is front rest whole written writes = record {
      given = h.given;
      at_end = pull_finished r.scanner;
      tokens = h.tokens ++ u ∷ [];
      source = read.source;
      ends = read.ends;
      first = read_first gave ends_of reads_of M s s'' h.given (h.tokens ++ u ∷ []) r read;
      written = (offset_lines lines h.given h.tokens ++ front, (rest, one_more lines h.given h.tokens u ∙ ap (λ w. offset_lines lines h.given h.tokens ++ offset_line lines u w) (sym is) ∙ ap (λ l. offset_lines lines h.given h.tokens ++ l) whole ∙ sym (append_assoc (offset_lines lines h.given h.tokens) front rest)), written);
      stack = λ e. cc;
      reads = (let zero : reads_of s'' ≡ reads_of s + 0 = omega (arith, read.reads) in zero);
      writes = (let one : writes_of t'' ≡ writes_of t + 1 = omega (arith, writes, h.writes) in one);
    }

    -- the line of a token more was not written
    pub line_stops : (s'' : A) (u : Token) (text : List ℕ) (t'' : B) (e : RunError) → (r : TokenReader) → HasRead gave ends_of reads_of M s s'' h.given (h.tokens ++ u ∷ []) r → text ≡ part h.given u.start u.end → pull_finished r.scanner ≡ pull_finished p.reader.scanner → ((xs ys : List ℕ) → wrote t xs t' → wrote t' ys t'' → wrote t (xs ++ ys) t'')
        → IsPlacingFault wrote (offset_line lines u text) t' t'' e → writes_of t'' ≡ writes_of t' + write_fault_count {T = Unit {0}} (Err e) → PlacingStops gave ends_of reads_of wrote writes_of M lines s s'' t t'' e
    line_stops s'' u text t'' e r read is finished join (inl (memory, same)) writes = subst (λ (z : B). PlacingStops gave ends_of reads_of wrote writes_of M lines s s'' t z e) (sym same) (subst (PlacingStops gave ends_of reads_of wrote writes_of M lines s s'' t t') (sym memory) (tokens_stop s'' r read (first_by (pull_finished r.scanner) finished)))
    line_stops s'' u text t'' e r read is finished join (inr (write, (front, (rest, whole), wrote_front))) writes =
        let one : writes_of t'' ≡ writes_of t' + 1 = writes ∙ ap (λ (d : RunError). writes_of t' + write_fault_count {T = Unit {0}} (Err d)) write in
        subst (PlacingStops gave ends_of reads_of wrote writes_of M lines s s'' t t'') (sym write)
        (writing_stops s'' u text t'' r read is front rest whole (join (offset_lines lines h.given h.tokens) front h.written wrote_front) one)
