-- Trees that are walked alike. (This project's.)
use Rattle.std.specs.Prelude.{◌≡◌, Bool, true, false, Some}
use Rattle.lex_semantics.specs.Tree.{Tree, Trees, Alt, Repeat}
use Rattle.lex_semantics.specs.Positions.{positions, positions_of}
use Rattle.lexauto_positions.specs.Flow.{exits, exits_each, exits_some, enters, enters_each, enters_some}
use Rattle.lexauto_positions.specs.RuleFlow.{reads, each_read}

pub record Alike (t u : Tree) : Type 0 where
  pub size : positions t ≡ positions u
  pub left : exits t ≡ exits u
  pub next : enters t ≡ enters u
  pub letters : reads t ≡ reads u

pub record AlikeAll (ts us : Trees) : Type 0 where
  pub size : positions_of ts ≡ positions_of us
  pub each_left : exits_each ts ≡ exits_each us
  pub some_left : exits_some ts ≡ exits_some us
  pub each_next : enters_each ts ≡ enters_each us
  pub some_next : enters_some ts ≡ enters_some us
  pub letters : each_read ts ≡ each_read us

-- one of the trees, or none of them too
abbrev pub choice_of : Bool → Trees → Tree
choice_of false ts = Alt ts
choice_of true ts = Repeat (Alt ts) 0 (Some 1)
