use Rattle.std.proofs.lemmas.Grind.{common_steps}
use Rattle.std.proofs.Common.{ℕ, ◌≡◌, [], Option, Some, None, refl, sym, ◌∙◌, arith}
use Rattle.lexscan.proofs.Stepping as Go
use Rattle.lexscan.proofs.scan.Scan.turn.Goals as goal

pub returns-then-self : goal.returns-then-self
returns-then-self g c = record {
  same = grind (arith, common_steps);
  goes_on = (
    [],
    [],
    g.met.S.Source.gave_none _,
    g.met.K.Sink.wrote_none _,
    λ e. (refl, e),
    (λ _. refl, λ n given out h. let works = h.works in cc),
  );
  counts = grind (arith, common_steps);
  handed_on = grind (arith, common_steps);
  failed = grind (arith, common_steps);
  after_refusal = grind (arith, common_steps);
  refused = grind (arith, common_steps);
  after_end = grind (arith, common_steps);
  too_many = grind (arith, common_steps);
  limit = grind (arith, common_steps);
  next = grind (arith, common_steps);
}

not_going : {e : Option ℕ} (status : ℕ) → e ≡ None → e ≡ Some status → ⊥
not_going status going is = no (sym going ∙ is)
  where
    no : ◌≡◌ {A = Option ℕ} None (Some status) → ⊥
    no p = cc

pub returns-in-Some : goal.returns-in-Some
returns-in-Some g c = record {
  same = grind (arith, common_steps);
  goes_on = (
    [],
    [],
    g.met.S.Source.gave_none _,
    g.met.K.Sink.wrote_none _,
    λ e. (refl, e),
    (c.in-Some.is, λ n given out h. Go.stays_ended _ n c.in-Some.status given out _ c.in-Some.is h, λ going. absurd (not_going c.in-Some.status going c.in-Some.is)),
  );
  counts = grind (arith, common_steps);
  handed_on = grind (arith, common_steps);
  failed = grind (arith, common_steps);
  after_refusal = grind (arith, common_steps);
  refused = grind (arith, common_steps);
  after_end = grind (arith, common_steps);
  too_many = grind (arith, common_steps);
  limit = grind (arith, common_steps);
  next = grind (arith, common_steps);
}
