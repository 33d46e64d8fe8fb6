use Rattle.std.proofs.Common.{◌∙◌, ◌==◌, Bool, List, Some, ap, length, map, refl, subst}
use Rattle.lexre_bytes.specs.declared.refusals.SpecError.{SpecError}
use Rattle.lexlook_check.specs.Checks.{AreNoticesOf, AreTakingsOf, has_useless}
use Rattle.lexlook_check.specs.Takings.{taking_of}
use Rattle.lexlook_check.proofs.checking.check_left.Goals as goal

pub returns-in_ok-notices-in-Ok : goal.returns-in_ok-notices-in-Ok
returns-in_ok-notices-in-Ok c =
    record {
      left = Some c.args.left.now;
      faults = c.requires.faults;
      found = (
        c.in-Ok.field-0,
        c.in-Ok.ensures,
        refl,
        subst (λ (b : Bool). AreTakingsOf c.args.options c.args.left.now b (map taking_of c.in_ok-takings-in-Ok.takings.items)) (c.has_useless.ensures ∙ ap has_useless c.as_slice-in-Ok.ensures.value) c.in_ok-takings-in-Ok.ensures,
        subst (λ (b : Bool). AreNoticesOf c.args.options c.args.own c.args.strict b c.args.text.now c.args.left.now c.in_ok-notices-in-Ok.field-0.notices.items c.in_ok-notices-in-Ok.field-0.copies.items) (c.are_none-faultless.ensures ∙ ap (λ (fs : List SpecError). length fs == 0) c.as_slice.ensures.value) c.in_ok-notices-in-Ok.ensures,
      );
      weights = refl;
    }
