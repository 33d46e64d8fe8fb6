use Rattle.std.proofs.Common.{◌≡◌, ◌∙◌, ℕ, List, Some, length, rules, ap, sym, subst, arith}
use Rattle.std.specs.Prelude.{slice_get}
use Rattle.std.specs.Vec.{vec_len}
use Rattle.std.proofs.lemmas.List.{length_push}
use Rattle.lexauto_dfa.specs.Automata.{conditions_of}
use Rattle.lexauto_dfa.specs.declared.dfa.Parts.{Parts}
use Rattle.lexlook_specs.specs.Matches.{matches_in}
use Rattle.lexlook_specs.specs.Overlaps.{IsHome}
use Rattle.lexlook_specs.specs.declared.words.overlapping.Home.{Home}
use Rattle.lexlook_specs.proofs.Joining.{each_pushed}
use Rattle.lexlook_specs.proofs.words.overlapping.homes_of.Goals as goal

pub loop-condition-preserved : goal.loop-condition-preserved
loop-condition-preserved c =
    let P = IsHome (matches_in c.args.dfa.now.parts c.args.rejects.now) c.args.first c.args.second c.args.text.now in
    let v = c.loop-condition.invariant in
    let is = c.in_ok-push.ensures.items in
    let len = v.len in
    let x = c.home_in.result in
    let p = length_push c.loop-condition.homes.items x in
    record {
      len = ap length is ∙ (omega (arith, len, p));
      each = subst (λ (l : List Home). (i : ℕ) (y : Home) → slice_get l i ≡ Some y → P i y) (sym is)
          (each_pushed P c.loop-condition.homes.items x v.each (subst (λ (k : ℕ). P k x) (sym len) c.home_in.ensures));
    }

pub returns : goal.returns
returns c =
    let n : c.len-conditions.result ≡ conditions_of c.args.dfa.now = c.len-conditions.ensures ∙ ap (λ (p : Parts). vec_len p.starts) c.parts.ensures ∙ (search rules) in
    let v = c.loop-condition.invariant in
    let len = v.len in
    let all = c.loop-condition-test.false in
    let low = c.requires.conditions in
    record { each = omega (arith, n, len, all, low); home = v.each }
