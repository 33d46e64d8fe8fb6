-- What a scanner is made of, as the calls so far have left it.
use Rattle.lex_machine.specs.declared.machine.Machine as Machine
use Rattle.lex_io.specs.declared.source.Source as Source
use Rattle.lex_io.specs.declared.sink.Sink as Sink
use Rattle.lexscan.specs.declared.scanner.Scanner.{Scanner}
use Rattle.lexscan.specs.declared.push.PushScanner.{PushScanner}
use Rattle.lexscan.specs.declared.pull.PullScanner.{PullScanner}
use Rattle.lexscan_window.specs.Intakes.{source_of, source_name, sink_of, sink_name}
use Rattle.lexscan_window.specs.declared.state.State.{State}
use Rattle.lexscan_window.specs.Window.{last_of}
use Rattle.lexscan_window.specs.Places.{kept_before}
use Rattle.std.specs.Prelude.{◌≡◌, ℕ, Bool, List, drop, vec_capacity}

module _ {M S K : Type 0} {of_machine : Machine.Ghosts M} {of_source : Source.Ghosts S} {of_sink : Sink.Ghosts K} where
  -- the machine that it goes by
  abbrev pub scanner_machine : Scanner M S K of_machine of_source of_sink → M
  scanner_machine s = s.machine.now

  -- its source
  abbrev pub scanner_source : Scanner M S K of_machine of_source of_sink → S
  scanner_source s = source_of s.ends.intake

  -- which source that is
  abbrev pub scanner_source_name : Scanner M S K of_machine of_source of_sink → ℕ
  scanner_source_name s = source_name s.ends.intake

  -- its sink
  abbrev pub scanner_sink : Scanner M S K of_machine of_source of_sink → K
  scanner_sink s = sink_of s.ends.outlet

  -- which sink that is
  abbrev pub scanner_sink_name : Scanner M S K of_machine of_source of_sink → ℕ
  scanner_sink_name s = sink_name s.ends.outlet

  -- what it keeps beside these
  abbrev pub scanner_state : Scanner M S K of_machine of_source of_sink → State
  scanner_state s = s.scan.state

module _ {M : Type 0} {of_machine : Machine.Ghosts M} where
  -- of a scanner that is fed pieces: the machine that it goes by
  abbrev pub push_machine : PushScanner M of_machine → M
  push_machine s = s.machine

  -- the bytes that were fed and that no turn has asked for, until the scan ends or is refused
  abbrev pub push_waiting : PushScanner M of_machine → List ℕ
  push_waiting s = s.waiting.items

  -- how many bytes there is room for among these
  abbrev pub push_room : PushScanner M of_machine → ℕ
  push_room s = vec_capacity s.waiting

  -- what it keeps beside these
  abbrev pub push_state : PushScanner M of_machine → State
  push_state s = s.scan.state

  -- of a scanner that is asked for tokens: the machine that it goes by
  abbrev pub pull_machine : PullScanner M of_machine → M
  pull_machine s = s.machine

  -- the bytes that were fed and that no turn has asked for
  abbrev pub pull_waiting : PullScanner M of_machine → List ℕ
  pull_waiting s = drop s.from s.waiting.items

  -- whether the end of the input was told
  abbrev pub pull_finished : PullScanner M of_machine → Bool
  pull_finished s = s.finished

  -- what it keeps beside these
  abbrev pub pull_state : PullScanner M of_machine → State
  pull_state s = s.scan.state

  -- the text that it shows: that of the token that was told last, or nothing
  abbrev pub pull_text : PullScanner M of_machine → List ℕ
  pull_text s = last_of s.shown (kept_before s.scan.state)

  -- Nothing has changed that a caller can tell.
  pub record SamePull (s t : PullScanner M of_machine) : Type 0 where
    pub machine : pull_machine t ≡ pull_machine s
    pub waiting : pull_waiting t ≡ pull_waiting s
    pub finished : pull_finished t ≡ pull_finished s
    pub state : pull_state t ≡ pull_state s
    pub text : pull_text t ≡ pull_text s
