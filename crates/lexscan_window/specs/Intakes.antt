-- The two ends of a scan, as the calls so far have left them.
use Rattle.std.specs.Prelude.{ℕ, Bool}
use Rattle.lex_io.specs.declared.source.Source as Source
use Rattle.lex_io.specs.declared.sink.Sink as Sink
use Rattle.lexscan_window.specs.declared.intake.Intake.{Intake}
use Rattle.lexscan_window.specs.declared.intake.Outlet.{Outlet}

module _ {S : Type 0} {of_source : Source.Ghosts S} where
  -- the source that it reads
  abbrev pub source_of : Intake S of_source → S
  source_of i = i.source.now

  -- which source that is: the same name is the same reference
  abbrev pub source_name : Intake S of_source → ℕ
  source_name i = i.source.ghost_name

  -- whether it may be read still: it has neither failed nor ended here
  abbrev pub can_read : Intake S of_source → Bool
  can_read i = i.live

module _ {K : Type 0} {of_sink : Sink.Ghosts K} where
  -- the sink that it writes to
  abbrev pub sink_of : Outlet K of_sink → K
  sink_of o = o.sink.now

  -- which sink that is: the same name is the same reference
  abbrev pub sink_name : Outlet K of_sink → ℕ
  sink_name o = o.sink.ghost_name

  -- whether it may be written to still: it has not failed here
  abbrev pub can_write : Outlet K of_sink → Bool
  can_write o = o.live
