-- What a scanner keeps before its first turn.
use Rattle.std.specs.Prelude.{◌≡◌, ℕ, true, false, []}
use Rattle.lexscan_window.specs.declared.state.Reading.{Reading}
use Rattle.lexscan_window.specs.declared.state.TextPlace.{TextPlace}

-- No byte is held or taken, the end was not answered, and so many reads are allowed.
pub record IsFirstReading (most : ℕ) (r : Reading) : Type 0 where
  pub held : r.window.bytes ≡ []
  pub max_reads : r.max_reads ≡ most
  pub taken : r.taken ≡ 0
  pub at_end : r.at_end ≡ false

-- The first match starts at the first byte, at the start of a line, in the first condition.
pub record IsFirstPlace (p : TextPlace) : Type 0 where
  pub at : p.at ≡ 0
  pub line_start : p.line_start ≡ true
  pub condition : p.condition ≡ 0
