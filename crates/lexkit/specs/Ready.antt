-- What a scan by the text of a specification goes by. (This project's; the warnings: flex.)
use Rattle.std.specs.Prelude.{◌≡◌, ℕ, List, length, Result, Ok, Err}
use Rattle.lex_semantics.specs.Spec.{Spec}
use Rattle.lex_semantics.specs.Sound.{IsSound}
use Rattle.lex_semantics.specs.TableFor.{TableFor}
use Rattle.lexspec.specs.Files.{SpellsSpec}
use Rattle.lexspec.specs.Skipped.{AreSkipped}
use Rattle.lexauto.specs.declared.subsets.Limits.{Limits}
use Rattle.lexauto_dfa.specs.Automata.{machine_of, conditions_of}
use Rattle.lexauto_dfa.specs.declared.dfa.Dfa.{Dfa}
use Rattle.lextab_packed.specs.FlatViews.{tables_of}
use Rattle.lextab_packed.specs.Machines.{table_machine}
use Rattle.lextab_packed.specs.declared.flat.Flat.{Flat}
use Rattle.lexkit.specs.Generated.{AreWarnings, SpecRefusal}
use Rattle.lexkit.specs.Headline.{IsWithin, Refusal, reading}
use Rattle.lexkit.specs.declared.options.Options.{Options}
use Rattle.lexkit.specs.declared.errors.GenError.{GenError}
use Rattle.lexkit.specs.declared.ready.Ready.{Ready}

-- an automaton that is one for a specification, which is within the limits
pub record IsAutomatonOf (limits : Limits) (S : Spec) (d : Dfa) : Type 0 where
  pub within : IsWithin limits S
  pub conditions : conditions_of d ≡ length S.conditions
  pub table : TableFor (machine_of d S) S

-- a machine that is one for a sound specification, which is within the limits
pub record IsMachineFor (limits : Limits) (S : Spec) (f : Flat) : Type 0 where
  pub sound : IsSound S
  pub within : IsWithin limits S
  pub table : TableFor (table_machine (tables_of f)) S

-- such a machine with the warnings; `skipped` are the lines of skipped code
pub record IsReadyFor (limits : Limits) (S : Spec) (skipped : List ℕ) (r : Ready) : Type 0 where
  pub machine : IsMachineFor limits S r.machine
  pub warnings : AreWarnings S skipped r.warnings.items

-- what is made ready by a specification with these lines of skipped code
abbrev pub MakesReadyBy : Limits → Spec → List ℕ → Result Ready GenError → Type 0
MakesReadyBy limits S skipped (Ok r) = IsReadyFor limits S skipped r
MakesReadyBy limits S skipped (Err e) = SpecRefusal limits S e

-- what is made ready of a text
abbrev pub MakesReady : Options → List ℕ → Result Ready GenError → Type 0
MakesReady options text (Ok r) =
    (S : Spec) × SpellsSpec (reading options) text S × (skipped : List ℕ) × AreSkipped text skipped
    × IsReadyFor options.limits S skipped r
MakesReady options text (Err e) = Refusal options text e

-- the machine is one for the specification that the text spells
abbrev pub HasMachine : Options → List ℕ → Flat → Type 0
HasMachine options text f = (S : Spec) × SpellsSpec (reading options) text S × IsMachineFor options.limits S f
