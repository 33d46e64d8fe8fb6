use Rattle.std.proofs.Common.{◌≡◌, ℕ, List, [], take, inl, inr, refl, subst, arith}
use Rattle.lex_semantics.specs.Machine.{Machine, walk}
use Rattle.lex_machine.specs.declared.glance.Gist.{Gist}
use Rattle.lex_machine.specs.declared.glance.Gist.TheVariants.{NoRule}
use Rattle.lex_machine.specs.Glances.{Gists}
use Rattle.lexscan_matching.specs.Glanced.{NoneAfter}
use Rattle.lexscan_matching.proofs.Telling as Tell
use Rattle.lexscan_matching.proofs.glanced.longest_match.Goals.{in-NoRule, in_default, then-near-ne1+else-longest-ne0, else-near-ne1}
use Rattle.lexscan_matching.proofs.glanced.longest_match.Goals as goal

pub returns-then-longest-ne0 : goal.returns-then-longest-ne0
returns-then-longest-ne0 g c =
    Tell.part_tells (g.M.Machine.machine c.args.machine.now) c.args.first c.args.bytes.now c.args.way.count c.requires.leads.inside c.farther_part-longest.result c.farther_part-longest.ensures.part
    c.gist.result (omega (arith, c.if-longest-ne0.true)) c.gist.ensures

pub returns : goal.returns
returns g c = inr (inl (refl, refl, none))
  where
    M : Machine
    M = g.M.Machine.machine c.args.machine.now

    bytes : List ℕ
    bytes = c.args.bytes.now

    no_rule : c.args.near.gist ≡ NoRule
    no_rule = elim c.match-matches.branch [
      | in-NoRule w ↦ w.in-NoRule.is
      | in_default w ↦ absurd cc
    ]

    first_none : c.args.near.keep ≡ 1 → M.accepts (walk M c.args.first (take 1 bytes)) ≡ []
    first_none one =
        subst (λ (gist : Gist). Gists M (walk M c.args.first (take 1 bytes)) gist) no_rule
        (subst (λ k. Gists M (walk M c.args.first (take k bytes)) c.args.near.gist) one c.requires.near.3)

    none : NoneAfter M c.args.first bytes 0 c.args.way.count
    none = elim c.if-near-ne1.branch [
      | then-near-ne1+else-longest-ne0 w ↦ Tell.part_none M c.args.first bytes c.args.way.count c.requires.leads.inside w.farther_part-longest.result w.farther_part-longest.ensures.part (omega (arith, w.if-longest-ne0.false))
      | else-near-ne1 w ↦ (
          let one : c.args.near.keep ≡ 1 = omega (arith, w.if-near-ne1.false) in
          Tell.none_first M c.args.first bytes c.args.way.count (subst (λ k. NoneAfter M c.args.first bytes k c.args.way.count) one c.requires.near.2) (first_none one)
          )
    ]
