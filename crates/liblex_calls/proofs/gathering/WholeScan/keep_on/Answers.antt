use Rattle.std.proofs.Common.{◌≡◌, ◌++◌, List, refl, ap, subst, ◌∙◌}
use Rattle.std.specs.Prelude.{OnOk}
use Rattle.lexscan.specs.Series.{drawn_out}
use Rattle.lexscan.specs.Scanners.{pull_machine}
use Rattle.lexscan.specs.declared.series.BriefToken.{BriefToken}
use Rattle.std.proofs.lemmas.Result.{on_ok_weaker}
use Rattle.liblex_calls.specs.Gathering.{AreKept}
use Rattle.liblex_calls.specs.Rules.{rules_machine}
use Rattle.liblex_calls.specs.declared.gathering.WholeScan.{WholeScan}
use Rattle.liblex_calls.proofs.Gathered.{several_by}
use Rattle.liblex_calls.proofs.gathering.WholeScan.keep_on.Goals as goal

pub returns-clause-gathered : goal.returns-clause-gathered
returns-clause-gathered c M input tokens h k =
    let w = c.args.self.now in
    let told = c.next_several-start.ensures.told in
    let v : WholeScan = record { scanner = c.next_several-start.new.self; fed = w.fed; several = c.next_several-start.new.tokens } in
    let all : c.deref.result.now ≡ told.added = c.deref.ensures.value ∙ told.appended ∙ ap (λ l. l ++ told.added) c.clear.ensures.items in
    let more = drawn_out c.next_several-start.result told.added in
    let fed = several_by (rules_machine (pull_machine w.scanner)) M input tokens more w v h.machine h c.next_several-start.ensures.machine c.next_several-start.ensures.finished refl (told.told _ tokens) in
    on_ok_weaker c.keep_several.result (λ kept. (tokens ++ more, fed, kept)) (subst (λ (l : List BriefToken). OnOk c.keep_several.result (AreKept (tokens ++ drawn_out c.next_several-start.result l) c.keep_several.new.self)) all (c.keep_several.ensures.kept tokens k))
