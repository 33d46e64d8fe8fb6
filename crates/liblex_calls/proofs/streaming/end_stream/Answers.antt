use Rattle.std.proofs.Common.{◌≡◌, refl, sym, ap, subst, ◌∙◌}
use Rattle.liblex_calls.specs.Told.{Told}
use Rattle.liblex_calls.specs.declared.token_scan.TokenScan.{TokenScan}
use Rattle.liblex_calls.proofs.streaming.end_stream.Goals as goal

pub returns-clause-told : goal.returns-clause-told
returns-clause-told c file lines told fed tokens text (p, is, T) =
    let e : c.deref_mut.result.now ≡ p = c.deref_mut.ensures.value ∙ c.in-Some.ensures.value p is in (
      (
        c.end.new.self,
        c.put.ensures,
        c.end.ensures.told file lines told fed tokens text (subst (Told file lines told fed tokens text) (sym e) T),
      ),
      refl,
    )

pub returns-clause-as_far : goal.returns-clause-as_far
returns-clause-as_far c p is =
    let e : c.deref_mut.result.now ≡ p = c.deref_mut.ensures.value ∙ c.in-Some.ensures.value p is in (
      c.end.new.self,
      c.put.ensures,
      c.end.ensures.stage ∙ ap (λ (x : TokenScan). x.stage) e,
    )
