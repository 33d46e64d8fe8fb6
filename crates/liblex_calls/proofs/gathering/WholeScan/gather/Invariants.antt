use Rattle.std.proofs.Common.{◌≡◌, ◌≤◌, List, [], length}
use Rattle.lex_semantics.specs.Machine.{Machine}
use Rattle.lexscan.specs.declared.token.Token.{Token}
use Rattle.liblex_calls.specs.Gathering.{AreKept, Feeds}
use Rattle.liblex_calls.proofs.gathering.WholeScan.gather.Given as goal

-- the tokens so far
abbrev pub invariant-steps : goal.invariant-steps
invariant-steps l =
    record {
      inside : l.self.fed ≤ length l.input;
      room : l.kept.room ≡ l.fn.kept.room;
      so : (M : Machine) → Feeds M l.input [] l.fn.self → AreKept [] l.fn.kept → (tokens : List Token) × Feeds M l.input tokens l.self × AreKept tokens l.kept;
    }
