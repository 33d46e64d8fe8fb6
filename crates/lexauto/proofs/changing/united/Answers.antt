use Rattle.std.proofs.Common.{◌≡◌, length, inl, inr, ap, sym, ◌∙◌, arith}
use Rattle.std.specs.Prelude.{slice_index_or}
use Rattle.std.proofs.lemmas.Bool.{cases_lt}
use Rattle.std.proofs.lemmas.List.{get_or_default, get_or_past}
use Rattle.lex_semantics.specs.ByteSets.{has, empty_set}
use Rattle.lexauto.proofs.ChangeLaws.{has_nothing, in_neither}
use Rattle.lexauto.proofs.changing.united.Goals as goal

pub loop-set-preserved : goal.loop-set-preserved
loop-set-preserved c = record {
  told = λ q b lt byte not.
      let sets = c.args.sets.now in
      let i = c.loop-set.set-index in
      let apart = in_neither c.loop-set.all c.set-item.result b byte (ap (λ s. has s b) (sym c.union-all.ensures) ∙ not) in
      elim (cases_lt q i) [
        | inl h ↦ c.loop-set.invariant.told q b h byte apart.0
        | inr h ↦
            (let e : q ≡ i = omega (arith, lt, h) in
            let own : c.set-item.result ≡ slice_index_or sets i empty_set = c.set-item.is ∙ get_or_default sets i c.set-item.result empty_set c.loop-set-test.true in
            ap (λ k. has (slice_index_or sets k empty_set) b) e ∙ ap (λ s. has s b) (sym own) ∙ apart.1)
      ];
}

pub returns : goal.returns
returns c = λ q b byte not.
    elim (cases_lt q (length c.args.sets.now)) [
      | inl h ↦ c.loop-set.invariant.told q b (omega (arith, h, c.loop-set-test.false)) byte not
      | inr h ↦ ap (λ s. has s b) (get_or_past c.args.sets.now q empty_set h) ∙ has_nothing b byte
    ]
