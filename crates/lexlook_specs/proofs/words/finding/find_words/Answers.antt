use Rattle.std.proofs.Common.{◌≡◌, ◌∙◌, ℕ, List, Some, length, ap, sym, subst, arith}
use Rattle.std.specs.Prelude.{slice_get}
use Rattle.std.proofs.lemmas.List.{length_push}
use Rattle.lexlook_specs.specs.Matches.{matches_in}
use Rattle.lexlook_specs.specs.Words.{IsWordOf}
use Rattle.lexlook_specs.specs.declared.words.finding.Word.{Word}
use Rattle.lexlook_specs.proofs.Joining.{each_pushed}
use Rattle.lexlook_specs.proofs.words.finding.find_words.Goals as goal

pub loop-rule-preserved : goal.loop-rule-preserved
loop-rule-preserved c =
    let v = c.loop-rule.invariant in
    let is = c.in_ok-push.ensures.items in
    let len = v.len in
    let p = length_push c.loop-rule.rules.items c.in_ok-word.word in
    record {
      len = ap length is ∙ (omega (arith, len, p));
      each = subst (λ (l : List Word). (i : ℕ) (x : Word) → slice_get l i ≡ Some x → IsWordOf (matches_in c.args.dfa.now.parts c.args.rejects.now) i x) (sym is)
          (each_pushed (IsWordOf (matches_in c.args.dfa.now.parts c.args.rejects.now)) c.loop-rule.rules.items c.in_ok-word.word v.each
          (subst (λ (k : ℕ). IsWordOf (matches_in c.args.dfa.now.parts c.args.rejects.now) k c.in_ok-word.word) (sym len) c.in_ok-word.ensures));
    }
