use Rattle.std.proofs.Common.{sym, subst, ◌∙◌}
use Rattle.lexlook_specs.specs.Copied.{IsFirstCopied}
use Rattle.lexlook_specs.specs.Matches.{matches_in}
use Rattle.lexlook_specs.proofs.Told.{first_copied, no_copied}
use Rattle.lexlook_specs.proofs.words.copying.copied_text.Goals as goal

pub returns-in_default : goal.returns-in_default
returns-in_default c =
    let d = c.args.dfa.now in
    no_copied d.parts d.lawful c.args.rejects.now c.args.condition (subst (IsFirstCopied (matches_in d.parts c.args.rejects.now) c.args.condition) c.in_default.is c.copied_in.ensures)

pub returns : goal.returns
returns c =
    let d = c.args.dfa.now in
    let start = c.copied_start-start.ensures in
    let text = c.in_ok-shown_text.ensures in
    first_copied d.parts d.lawful c.args.rejects.now c.args.condition c.in-Some.byte c.in_ok-shown_text.field-0 c.requires.condition
    (subst (IsFirstCopied (matches_in d.parts c.args.rejects.now) c.args.condition) c.in-Some.is c.copied_in.ensures)
    (λ e. start.within (sym text.line_start ∙ e)) (λ e. start.begins (sym text.line_start ∙ e)) (text.condition ∙ start.condition) text.text
