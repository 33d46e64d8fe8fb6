use Rattle.std.proofs.Common.{◌≡◌, Ok, Err, refl, ap}
use Rattle.std.specs.Prelude.{Result}
use Rattle.lexre.specs.declared.definitions.DefsError.{DefsError}
use Rattle.lexre.specs.declared.definitions.DefsError.TheVariants.{Duplicate}
use Rattle.lexspec_lines.specs.Lines.{words}
use Rattle.lexspec_lines.specs.DefinitionLines.{ignored, code_line, code_block}
use Rattle.lexspec_lines.specs.DefinitionViews.{definition_of}
use Rattle.lexspec_lines.proofs.OutcomeLaws.{on_ok, if_err}
use Rattle.lexspec_lines.proofs.TakingLaws.{adds_nothing, adds_conditions, refused_conditions, adds_options, refused_options, adds_name, refused_name}
use Rattle.lexspec_lines.proofs.CodeLaws.{adds_same, adds_line, adds_block}
use Rattle.lexspec_lines.proofs.declarations.Declarations.take.Goals as goal

differs : ◌≡◌ {A = Result (Unit {0}) DefsError} (Ok tt) (Err Duplicate) → ⊥
differs e = cc

pub returns-in-Nothing-clause-found : goal.returns-in-Nothing-clause-found
returns-in-Nothing-clause-found c = λ how ds h k. rw (ap definition_of c.in-Nothing.is) (adds_nothing ignored refl refl refl how ds c.args.self.now _ refl refl refl refl h k)

pub returns-in-Ignored-clause-found : goal.returns-in-Ignored-clause-found
returns-in-Ignored-clause-found c = λ how ds h k. rw (ap definition_of c.in-Ignored.is) (adds_nothing ignored refl refl refl how ds c.args.self.now _ refl refl refl refl h k)

pub returns-in_ok-add_line-in-CodeLine-clause-found : goal.returns-in_ok-add_line-in-CodeLine-clause-found
returns-in_ok-add_line-in-CodeLine-clause-found c = λ how ds h k. rw (ap definition_of c.in-CodeLine.is) (adds_nothing code_line refl refl refl how ds c.args.self.now _ refl refl refl refl h k)

pub returns-in_ok-add_block-in-CodeBlock-clause-found : goal.returns-in_ok-add_block-in-CodeBlock-clause-found
returns-in_ok-add_block-in-CodeBlock-clause-found c = λ how ds h k. rw (ap definition_of c.in-CodeBlock.is) (adds_nothing code_block refl refl refl how ds c.args.self.now _ refl refl refl refl h k)

pub returns-in-Declares-clause-found : goal.returns-in-Declares-clause-found
returns-in-Declares-clause-found c =
    on_ok c.declare.result _ _ _ (λ same good how ds h k.
    rw (ap definition_of c.in-Declares.is) (adds_conditions c.in-Declares.exclusive (words c.in-Declares.names.now) how ds c.args.self.now _ same refl refl refl good h k))
    c.declare.ensures.declared c.declare.ensures.good

pub returns-in-Declares-clause-none : goal.returns-in-Declares-clause-none
returns-in-Declares-clause-none c =
    if_err c.declare.result _ _ (λ none how ds more h k.
    refused_conditions c.in-Declares.exclusive (words c.in-Declares.names.now) c.args.self.now none how ds more h (rw (ap definition_of c.in-Declares.is) at k))
    c.declare.ensures.none

pub returns-in-Some-clause-found : goal.returns-in-Some-clause-found
returns-in-Some-clause-found c = λ how ds h k.
    rw (ap definition_of c.in-Options.is) (adds_options (words c.in-Options.text.now) how ds c.args.self.now _ refl refl (ap (λ z. record { fold = z; posix = c.args.self.now.options.posix }) c.in-Some.ensures.found) c.with_stack-self.ensures c.in-Some.ensures.known h k)

pub returns-in-None-clause-none : goal.returns-in-None-clause-none
returns-in-None-clause-none c = λ how ds more h k.
    refused_options (words c.in-Options.text.now) c.in-None.ensures.known ds more (rw (ap definition_of c.in-Options.is) at k)

pub returns-in-Ok-clause-found : goal.returns-in-Ok-clause-found
returns-in-Ok-clause-found c = λ how ds h k.
    rw (ap definition_of c.in-Defines.is) (adds_name c.in-Defines.name.now c.in-Defines.text.now how ds c.args.self.now _ refl refl refl c.in-Ok.ensures.ok (λ some. differs (c.in-Ok.ensures.duplicate.1 some)) h k)

pub returns-in-Err-Duplicate-clause-none : goal.returns-in-Err-Duplicate-clause-none
returns-in-Err-Duplicate-clause-none c = λ how ds more h k.
    let told = rw c.in-Err-Duplicate.field-0-is at c.in-Err-Duplicate.ensures in
    refused_name c.in-Defines.name.now c.in-Defines.text.now c.args.self.now (told.duplicate.0 refl) how ds more h (rw (ap definition_of c.in-Defines.is) at k)

pub returns-in-Nothing-clause-code : goal.returns-in-Nothing-clause-code
returns-in-Nothing-clause-code c = rw (ap definition_of c.in-Nothing.is) (adds_same c.args.self.now.skipped)

pub returns-in-Ignored-clause-code : goal.returns-in-Ignored-clause-code
returns-in-Ignored-clause-code c = rw (ap definition_of c.in-Ignored.is) (adds_same c.args.self.now.skipped)

pub returns-in_ok-add_line-in-CodeLine-clause-code : goal.returns-in_ok-add_line-in-CodeLine-clause-code
returns-in_ok-add_line-in-CodeLine-clause-code c =
    rw (ap definition_of c.in-CodeLine.is) (adds_line c.args.self.now.skipped _ c.args.line c.in_ok-add_line-in-CodeLine.ensures.lines c.in_ok-add_line-in-CodeLine.ensures.next)

pub returns-in_ok-add_block-in-CodeBlock-clause-code : goal.returns-in_ok-add_block-in-CodeBlock-clause-code
returns-in_ok-add_block-in-CodeBlock-clause-code c =
    rw (ap definition_of c.in-CodeBlock.is) (adds_block c.args.self.now.skipped _ c.args.line c.in_ok-add_block-in-CodeBlock.ensures.lines c.in_ok-add_block-in-CodeBlock.ensures.next)

pub returns-in-Declares-clause-code : goal.returns-in-Declares-clause-code
returns-in-Declares-clause-code c =
    on_ok c.declare.result _ _ _ (λ same good. rw (ap definition_of c.in-Declares.is) (adds_same c.args.self.now.skipped)) c.declare.ensures.declared c.declare.ensures.good

pub returns-in-Some-clause-code : goal.returns-in-Some-clause-code
returns-in-Some-clause-code c = rw (ap definition_of c.in-Options.is) (adds_same c.args.self.now.skipped)

pub returns-in-Ok-clause-code : goal.returns-in-Ok-clause-code
returns-in-Ok-clause-code c = rw (ap definition_of c.in-Defines.is) (adds_same c.args.self.now.skipped)
