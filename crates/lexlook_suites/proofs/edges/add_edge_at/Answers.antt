use Rattle.std.proofs.Common.{◌∙◌, sym}
use Rattle.lexlook_suites.proofs.Edged.{no_edge_again, no_edge_dead, one_edge}
use Rattle.lexlook_suites.proofs.edges.add_edge_at.Goals as goal
use Rattle.lexlook_suites.proofs.edges.add_edge_at.Goals.{then-target-eq0-via-then-target-eq0, then-target-eq0-via-else-target-eq0+then-leads_before}

pub returns-then-target-eq0 : goal.returns-then-target-eq0
returns-then-target-eq0 c =
    let p = c.args.dfa.now.parts in
    elim c.then-target-eq0.branch [
      | then-target-eq0-via-then-target-eq0 w ↦ no_edge_dead p c.args.marks.now c.args.rules c.args.state c.args.byte c.next-target.result c.next-target.ensures.state c.args.edges.now.items w.if-target-eq0.true
      | then-target-eq0-via-else-target-eq0+then-leads_before w ↦
          no_edge_again p c.args.marks.now c.args.rules c.args.state c.args.byte c.next-target.result c.next-target.ensures.state c.args.edges.now.items (sym w.leads_before.ensures ∙ w.if-leads_before.true)
    ]

pub returns : goal.returns
returns c =
    one_edge c.args.dfa.now.parts c.args.marks.now c.args.rules c.args.state c.args.byte c.next-target.result c.next-target.ensures.state c.rule_at.result c.is_walked.result c.args.edges.now.items _
    c.if-target-eq0.false (sym c.leads_before.ensures ∙ c.if-leads_before.false) c.rule_at.ensures c.is_walked.ensures c.in_ok-push.ensures.items
