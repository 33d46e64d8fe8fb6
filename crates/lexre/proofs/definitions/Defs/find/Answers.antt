use Rattle.std.proofs.Common.{◌∙◌, sym, ap, Some, option_map}
use Rattle.lexre.proofs.DefinitionLaws.{get_text}
use Rattle.lexre.proofs.definitions.Defs.find.Goals as goal

pub returns-in_err-text : goal.returns-in_err-text
returns-in_err-text c =
    rw (c.from_residual.ensures, ← c.self.view_is) (ap (option_map (λ t. t.items)) c.in_err-text.ensures.value ∙ sym (get_text c.self.inside.texts.entries c.args.name.now))

pub returns : goal.returns
returns c =
    rw (← c.self.view_is) (ap Some c.as_slice.ensures.value ∙ ap (option_map (λ t. t.items)) c.in_ok-text.ensures.value ∙ sym (get_text c.self.inside.texts.entries c.args.name.now))
