-- What skipped lines of the code stand for.
use Rattle.std.specs.Prelude.{ℕ, List}
use Rattle.lexspec.specs.ItemRuns.{code_of_item}
use Rattle.lexspec.specs.ItemRuns as I
use Rattle.lexspec_lines.specs.Skips.{AddsCode}
use Rattle.lexspec_lines.specs.declared.skipped.Skipped.{Skipped}
use Rattle.lexspec.specs.declared.skips.Skip.{Skip}
use Rattle.lexspec.specs.declared.skips.Skip.TheVariants.{Blank, Code, Block}

abbrev pub item_of : Skip → I.Item
item_of Blank = I.skipped
item_of Code = I.skipped_line
item_of Block = I.skipped_block

-- a piece of the rules section begins the text, at the line n, and its code is told
pub record TakesItem (n : ℕ) (t rest : List ℕ) (s s' : Skipped) : Type 0 where
  pub item : I.Item
  pub here : I.IsLine t item rest
  pub code : AddsCode s (code_of_item (n, item)) s'
