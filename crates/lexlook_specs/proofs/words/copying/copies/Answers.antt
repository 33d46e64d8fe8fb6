use Rattle.std.proofs.Common.{◌∷◌, [], true, false, inl, inr, subst}
use Rattle.std.proofs.lemmas.Bool.{cases_Bool}
use Rattle.lexlook_specs.specs.Placing.{MeetsAfter}
use Rattle.lexlook_specs.specs.declared.words.starting.Wish.TheVariants.{Copies}
use Rattle.lexlook_specs.proofs.Told.{copied_byte, one_byte}
use Rattle.lexlook_specs.proofs.words.copying.copies.Goals as goal

pub returns-then-meets_after-clause-yes : goal.returns-then-meets_after-clause-yes
returns-then-meets_after-clause-yes c =
    let d = c.args.dfa.now in
    λ e. (false, one_byte d.parts d.lawful c.args.rejects.now c.args.condition c.args.byte false (c.meets_after.ensures.yes c.if-meets_after.true))

pub returns-clause-yes : goal.returns-clause-yes
returns-clause-yes c =
    let d = c.args.dfa.now in
    λ e. (true, one_byte d.parts d.lawful c.args.rejects.now c.args.condition c.args.byte true (c.meets_after-2.ensures.yes e))

pub returns-clause-no : goal.returns-clause-no
returns-clause-no c =
    let d = c.args.dfa.now in
    let rejects = c.args.rejects.now in
    let meets = MeetsAfter d.parts rejects (c.args.byte ∷ []) Copies c.args.condition in
    λ e copied. (
    let byte = copied_byte d.parts d.lawful rejects c.args.condition copied.0 c.args.byte [] copied.1 in
    elim (cases_Bool copied.0) [
      | inl t ↦ c.meets_after-2.ensures.no e (subst meets t byte)
      | inr f ↦ c.meets_after.ensures.no c.if-meets_after.false (subst meets f byte)
    ]
    )
