use Rattle.std.proofs.Common.{◌≡◌, ◌∙◌, ℕ, List, Option, Some, length, rules, ap, sym, subst, arith}
use Rattle.std.specs.Prelude.{slice_get}
use Rattle.std.specs.Vec.{vec_len}
use Rattle.std.proofs.lemmas.List.{length_push}
use Rattle.lexauto_dfa.specs.Automata.{conditions_of}
use Rattle.lexauto_dfa.specs.declared.dfa.Parts.{Parts}
use Rattle.lexlook_specs.specs.Matches.{matches_in}
use Rattle.lexlook_specs.specs.Words.{TellsDefault}
use Rattle.lexlook_specs.specs.declared.words.finding.ShownText.{ShownText}
use Rattle.lexlook_specs.proofs.Joining.{each_pushed}
use Rattle.lexlook_specs.proofs.words.copying.copied_texts.Goals as goal

pub loop-condition-preserved : goal.loop-condition-preserved
loop-condition-preserved c =
    let P = TellsDefault (matches_in c.args.dfa.now.parts c.args.rejects.now) in
    let v = c.loop-condition.invariant in
    let is = c.in_ok-push.ensures.items in
    let len = v.len in
    let x = c.in_ok-copied_text.field-0 in
    let p = length_push c.loop-condition.texts.items x in
    record {
      len = ap length is ∙ (omega (arith, len, p));
      each = subst (λ (l : List (Option ShownText)). (i : ℕ) (y : Option ShownText) → slice_get l i ≡ Some y → P i y) (sym is)
          (each_pushed P c.loop-condition.texts.items x v.each (subst (λ (k : ℕ). P k x) (sym len) c.in_ok-copied_text.ensures));
    }

pub returns-clause-each : goal.returns-clause-each
returns-clause-each c =
    let n : c.len-conditions.result ≡ conditions_of c.args.dfa.now = c.len-conditions.ensures ∙ ap (λ (p : Parts). vec_len p.starts) c.parts.ensures ∙ (search rules) in
    let v = c.loop-condition.invariant in
    let len = v.len in
    let all = c.loop-condition-test.false in
    let low = c.requires.conditions in
    omega (arith, n, len, all, low)

pub returns-clause-told : goal.returns-clause-told
returns-clause-told c = c.loop-condition.invariant.each
