use Rattle.std.proofs.Common.{◌≡◌, ◌/◌, None, get_or, sym, ap, ◌∙◌, arith}
use Rattle.std.proofs.Math.Nat.{mul-div_cancel_left}
use Rattle.std.proofs.lemmas.List.{get_or_read}
use Rattle.lextab_packed.specs.declared.flat.Flat.{Flat}
use Rattle.lextab_packed.proofs.Leaping.{run_of}
use Rattle.lextab_packed.proofs.flat.Flat.leap_end.Goals as goal

pub returns-in-Some : goal.returns-in-Some
returns-in-Some c s is known =
    let f : Flat = c.args.self.now in
    let at : c.args.place / 256 ≡ s = ap (λ n. n / 256) is ∙ mul-div_cancel_left s (omega arith) in
    let r : c.index.result.now ≡ get_or f.leaps.items s None =
    get_or_read f.leaps.items s c.index.result.now (omega (arith, f.leap_column, known)) (c.index.ensures ∙ ap (λ n. get_or f.leaps.items n c.index.result.now) at) None in
    run_of f s c.args.bytes.now c.args.start c.pass_over.result c.in-Some.leavers known (f.leap_told s known c.in-Some.leavers (sym r ∙ c.in-Some.is))
    (λ i. let small = c.type_inv.bytes i in omega (arith, small)) c.pass_over.ensures
