use Rattle.std.proofs.Common.{◌≡◌, ◌∙◌, ◌≤◌, ℕ, ◌+◌, suc, List, length, ap, sym, arith}
use Rattle.lexlook_text.specs.Opened.{opened_from, opening_behind}
use Rattle.lexlook_text.specs.declared.opened.Openings.{Openings}
use Rattle.lexlook_text.proofs.ScanLaws.{at_grows, depth_grows, line_grows, opened_on}
use Rattle.lexlook_text.proofs.opened.opened_from.Goals as goal

pub bytes-preserved : goal.bytes-preserved
bytes-preserved c =
    let o = c.bytes.open in
    let b = c.in-Some.first.now in
    let t = c.in-Some.next.now in
    let is = c.in-Some.ensures.cases.0 in
    let long = ap (λ (l : List ℕ). length l) is in
    let behind = c.behind-open.ensures in
    let step = opened_on o b t c.bytes.rest.now is (sym c.stops_at.ensures ∙ c.if-stops_at.false) in
    let depth = ap (λ (q : Openings). q.cursor.depth) behind in
    let line = ap (λ (q : Openings). q.cursor.line) behind in
    let at = ap (λ (q : Openings). q.cursor.at) behind in
    let deep = depth_grows o.cursor b in
    let far = line_grows o.cursor b in
    let along = at_grows o.cursor b in
    let inv = c.bytes.invariant in
    let few = inv.few_open in
    let lines = inv.few_lines in
    let near = inv.near_start in
    record {
      same = inv.same ∙ step ∙ ap (λ (q : Openings). opened_from q t) (sym behind);
      few_open = omega (arith, depth, deep, few, long);
      few_lines = omega (arith, line, far, lines, long);
      near_start = omega (arith, at, along, near, long);
    }
