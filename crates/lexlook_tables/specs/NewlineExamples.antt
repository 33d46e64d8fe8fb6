-- Worked examples of newlines after which each match is discarded, and of some after which not each one is.
use Rattle.std.specs.Prelude.{ℕ, true, List, [], ◌∷◌, nat_eq, if◌then◌else◌}
use Rattle.lex_semantics.specs.Spec.{Cut, Whole, Head, Statement, Echo}
use Rattle.lex_semantics.specs.Machine.{Machine}
use Rattle.lexlook_tables.specs.Lines.{DiscardsLine}
use Rattle.lexlook_tables.specs.Obstacles.{HindersAt}
use Rattle.lexlook_tables.specs.declared.lines.cutting.Obstacle.TheVariants.{Crosses}

-- a newline leads from where a match starts to state 2, and from there too
abbrev pub newline_to : ℕ → ℕ
newline_to s = if nat_eq s 1 then 2 else if nat_eq s 2 then 2 else if nat_eq s 5 then 2 else 0

-- A machine that tells newlines from other bytes, with two rules. The first one has this cut and this action, and the
-- second one copies its text. A match starts in state 1, and at the start of a line in this one. It is in state 2 after
-- newlines, where these rules are accepted. After another byte it is in state 3 or 4. There the second one is accepted,
-- or the first.
abbrev pub by_newline : ℕ → List ℕ → Cut → List Statement → (ℕ → ℕ) → Machine
by_newline at_line accepted cut ss other = record {
  conditions = 2;
  count = 2;
  start = λ c line. if line then at_line else 1;
  next = λ s b. if nat_eq b 10 then newline_to s else other s;
  accepts = λ s. if nat_eq s 2 then accepted else if nat_eq s 3 then 1 ∷ [] else if nat_eq s 4 then 0 ∷ [] else [];
  goes_on = λ s. true;
  cut = λ i. cut;
  statements = λ i. if nat_eq i 0 then ss else Echo ∷ [];
  ending = λ c. record { print = []; status = 0 };
}

-- another byte leads from state 1 to this state, from state 2 to that, and from state 5 to state 3
abbrev pub others : ℕ → ℕ → ℕ → ℕ
others first later s = if nat_eq s 1 then first else if nat_eq s 2 then later else if nat_eq s 5 then 3 else 0

-- `\n+ ;` and `. ECHO;`, the first one with another cut or another action
abbrev pub newline_runs : Cut → List Statement → Machine
newline_runs cut ss = by_newline 1 (0 ∷ []) cut ss (others 3 0)

-- these states after another byte, at first and after newlines
abbrev pub longer_runs : ℕ → ℕ → Machine
longer_runs first later = by_newline 1 (0 ∷ []) Whole [] (others first later)

pub record NewlineExamples : Type 0 where
  -- `\n+ ;` is discarded, in INITIAL alone
  pub discarded : DiscardsLine (newline_runs Whole []) 0 2
  pub in_another : DiscardsLine (newline_runs Whole []) 1 2 → ⊥
  -- with an action it is not, and with trailing context neither
  pub copied : DiscardsLine (newline_runs Whole (Echo ∷ [])) 0 2 → ⊥
  pub before_more : DiscardsLine (newline_runs (Head 1) []) 0 2 → ⊥
  -- `\n+|\n*. ;` goes on after it, as from the start of a line, and is discarded too
  pub goes_on : DiscardsLine (longer_runs 4 4) 0 2
  -- `\n*. ECHO;` beside `\n+ ;` is not
  pub copied_beyond : DiscardsLine (longer_runs 3 3) 0 2 → ⊥
  -- `\n+.? ;` goes on otherwise than `. ECHO;` begins
  pub elsewhere : DiscardsLine (longer_runs 3 4) 0 2 → ⊥
  -- and so does `\n+.?|. ;` where `^. ECHO;` begins, at the start of a line alone
  pub at_line : DiscardsLine (by_newline 5 (0 ∷ []) Whole [] (others 4 4)) 0 2 → ⊥
  -- `\n+. ;` takes no newline alone
  pub not_taken : DiscardsLine (by_newline 1 [] Whole [] (others 0 4)) 0 2 → ⊥
  -- a match that goes on after a newline is told where not each one is discarded, and is not told where each one is
  pub told : HindersAt (longer_runs 3 3) 0 1 (Crosses 0 0) (0 ∷ 1 ∷ 10 ∷ 0 ∷ [])
  pub not_told : (i : ℕ) (k : List ℕ) → HindersAt (newline_runs Whole []) 0 1 (Crosses 0 i) k → ⊥
