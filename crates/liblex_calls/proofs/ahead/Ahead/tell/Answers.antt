use Rattle.std.proofs.Common.{◌≡◌, ◌++◌, List, refl, ap, ◌∙◌}
use Rattle.lexscan.specs.Scanners.{pull_machine, pull_state, pull_waiting, pull_finished}
use Rattle.lexscan.specs.declared.series.BriefToken.{BriefToken}
use Rattle.liblex_calls.specs.Rules.{rules_machine}
use Rattle.liblex_calls.proofs.Heading.{tell_ahead, just_told}
use Rattle.liblex_calls.proofs.ahead.Ahead.tell.Goals as goal

pub returns-clause-told : goal.returns-clause-told
returns-clause-told c fed tokens h =
    let a = c.args.self.now in
    let s = c.args.scanner.now in
    let t = c.next_several-self.new.self in
    let told = c.next_several-self.ensures.told in
    let M = rules_machine (pull_machine s) in
    let items : c.next_several-self.new.tokens.items ≡ told.added = told.appended ∙ ap (λ (l : List BriefToken). l ++ told.added) c.clear.ensures.items in
    tell_ahead M fed (pull_finished s) tokens (pull_state s) (pull_state t) (pull_waiting s) (pull_waiting t) a _ told.added h
    (told.told fed tokens (just_told M fed (pull_finished s) tokens (pull_state s) (pull_waiting s) a c.requires h)) items refl refl refl
