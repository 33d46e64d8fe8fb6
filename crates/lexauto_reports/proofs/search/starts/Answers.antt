use Rattle.std.proofs.Common.{rules, ◌≡◌, ◌↔◌, ◌++◌, ◌∷◌, ◌*◌, [], ℕ, List, ap, subst, ◌∙◌}
use Rattle.lex_semantics.specs.Text.{Among}
use Rattle.lexauto_dfa.specs.Parts.{conditions}
use Rattle.lexauto_reports.specs.Counting.{IsStartBelow}
use Rattle.lexauto_reports.proofs.Starting.{starts_more}
use Rattle.lexauto_reports.proofs.search.starts.Goals as goal

pub loop-condition-preserved : goal.loop-condition-preserved
loop-condition-preserved c =
    starts_more c.args.dfa.now.parts c.loop-condition.condition _ _ c.loop-condition.starts.items c.push-in-loop-condition.new.self.items c.loop-condition.invariant
    (ap (λ n. 3 * n) c.start.ensures.state) (ap (λ n. 3 * n) c.start-in-loop-condition.ensures.state)
    (c.in_ok-push-2.ensures.items ∙ ap (λ (l : List ℕ). l ++ (3 * c.start-in-loop-condition.result) ∷ []) c.in_ok-push.ensures.items)

pub returns : goal.returns
returns c =
    let all : c.loop-condition.condition ≡ conditions c.args.dfa.now.parts = search rules in
    subst (λ n. (x : ℕ) → Among c.loop-condition.starts.items x ↔ IsStartBelow c.args.dfa.now.parts n x) all c.loop-condition.invariant
