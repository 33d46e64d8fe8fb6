use Rattle.std.proofs.Common.{◌-◌, List, ℕ, sym, subst, arith}
use Rattle.std.specs.FinMap.{get}
use Rattle.lexre_bytes.specs.Lexical.{symbol_at}
use Rattle.lexre.specs.Cycles.{AllLeadToText}
use Rattle.lexre.specs.Names.{AreKnown, NamedTrees}
use Rattle.lexre.specs.Views.{tree_of}
use Rattle.lexre.proofs.CycleLaws.{none_lead}
use Rattle.lexre.proofs.LowerLaws.{spelled_rises}
use Rattle.lexre.proofs.reader.read_with_names.Goals as goal

pub read_within-requires-clause-known_so_far : goal.read_within-requires-clause-known_so_far
read_within-requires-clause-known_so_far c =
    let P : NamedTrees → Type 0 = λ x. AreKnown c.args.options c.args.definitions.now x in subst P (sym c.begin.ensures.trees) c.requires.known_so_far

pub read_within-requires-clause-lead : goal.read_within-requires-clause-lead
read_within-requires-clause-lead c =
    let P : List (List ℕ) → Type 0 = λ x. AllLeadToText c.args.options c.args.definitions.now x c.args.text.now in
    subst P (sym c.begin.ensures.none_open) (none_lead c.args.options c.args.definitions.now c.args.text.now)

pub returns-in-Ok-clause-found : goal.returns-in-Ok-clause-found
returns-in-Ok-clause-found c = (
  spelled_rises c.args.options.posix (symbol_at c.args.options.fold) (get c.args.definitions.now) (64 - c.in-Ok.field-0.spare) 64 c.args.text.now (tree_of c.in-Ok.field-0.tree.pattern) c.in-Ok.ensures.read.found (omega arith),
  c.in-Ok.ensures.read.few,
)

pub returns-in-Ok-clause-sound : goal.returns-in-Ok-clause-sound
returns-in-Ok-clause-sound c = c.in-Ok.ensures.read.sound
