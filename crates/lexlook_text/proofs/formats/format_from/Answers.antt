use Rattle.std.proofs.Common.{◌≡◌, ◌∙◌, ◌≤◌, ℕ, ◌+◌, suc, List, length, ap, sym, arith}
use Rattle.lexlook_text.specs.Formats.{format_from, format_behind}
use Rattle.lexlook_text.specs.declared.formats.Formats.{Formats}
use Rattle.lexlook_text.proofs.ScanLaws.{at_grows, depth_grows, line_grows, formats_on}
use Rattle.lexlook_text.proofs.formats.format_from.Goals as goal

pub bytes-preserved : goal.bytes-preserved
bytes-preserved c =
    let o = c.bytes.scan in
    let b = c.in-Some.first.now in
    let t = c.in-Some.next.now in
    let is = c.in-Some.ensures.cases.0 in
    let long = ap (λ (l : List ℕ). length l) is in
    let behind = c.behind-scan.ensures in
    let step = formats_on o b t c.bytes.rest.now is (sym c.ends_scan.ensures ∙ c.if-ends_scan.false) (sym c.is_bad.ensures ∙ c.if-is_bad.false) in
    let depth = ap (λ (q : Formats). q.cursor.depth) behind in
    let line = ap (λ (q : Formats). q.cursor.line) behind in
    let at = ap (λ (q : Formats). q.cursor.at) behind in
    let deep = depth_grows o.cursor b in
    let far = line_grows o.cursor b in
    let along = at_grows o.cursor b in
    let inv = c.bytes.invariant in
    let few = inv.few_open in
    let lines = inv.few_lines in
    let near = inv.near_start in
    record {
      first = inv.first ∙ step ∙ ap (λ (q : Formats). format_from q t) (sym behind);
      few_open = omega (arith, depth, deep, few, long);
      few_lines = omega (arith, line, far, lines, long);
      near_start = omega (arith, at, along, near, long);
    }
