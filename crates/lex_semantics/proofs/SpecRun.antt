-- Each input has just one run of a specification.
use Rattle.std.proofs.Common.{ℕ, ◌<◌, List, length, subst, sym}
use Rattle.std.specs.Prelude.{slice_get}
use Rattle.lex_semantics.specs.Spec.{Spec, statements_at}
use Rattle.lex_semantics.specs.Rules.{rules_of}
use Rattle.lex_semantics.specs.Legal.{IsAction}
use Rattle.lex_semantics.specs.Sound.{IsSound}
use Rattle.lex_semantics.specs.Acting.{Ending}
use Rattle.lex_semantics.specs.Run.{Run}
use Rattle.lex_semantics.proofs.Actions.{action_of}
use Rattle.lex_semantics.proofs.Cuts.{laws_of}
use Rattle.lex_semantics.proofs.Exists.{candidates_exist}
use Rattle.lex_semantics.proofs.Ends.{run_exists}
use Rattle.lex_semantics.proofs.Table.{get_at}

pub spec_legal : (S : Spec) → IsSound S → (i : ℕ) → i < length S.rules → IsAction (length S.conditions) (statements_at (slice_get S.rules i))
spec_legal S sound i lt = let r = get_at S.rules i lt in subst (λ o. IsAction (length S.conditions) (statements_at o)) (sym r.1) (action_of (length S.conditions) r.0.statements (sound.rules i r.0 r.1).legal)

pub spec_run_exists : (S : Spec) → IsSound S → (x : List ℕ) → (w : List ℕ) × (e : Ending) × Run (rules_of S) x w e
spec_run_exists S sound x = run_exists (rules_of S) (laws_of S sound) (spec_legal S sound) (λ c line_start y. (let r = candidates_exist S sound c line_start y in (r.0, r.2))) x
