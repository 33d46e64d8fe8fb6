use Rattle.std.proofs.Common.{◌≡◌, ◌∙◌, suc, ◌+◌, ◌-◌, ◌<◌, false, take, get_or, sym, ap, rules, arith}
use Rattle.lex_semantics.specs.ByteSets.{is_blank}
use Rattle.lexspec_lines.proofs.TextLaws.{IsTrimmedAt, trim_plain, trim_escaped, before}
use Rattle.lexspec_lines.proofs.definition.trimmed.Goals as goal
use Rattle.lexspec_lines.proofs.definition.trimmed.Goals.{then-loop-end-test+else-is_blank, else-loop-end-test, then-end-gt0+then-end-text+then-text-end-eq92, else-end-gt0, else-end-gt0-via-then-end-gt0+then-end-text+else-text-end-eq92, else-end-gt0-via-then-end-gt0+else-end-text, else-end-gt0-via-else-end-gt0}

pub returns : goal.returns
returns c =
    let t = c.args.text.now in
    let stop = c.loop-end.end in
    let sign : 0 < stop → is_blank (get_or t (stop - 1) 0) ≡ false = elim c.loop-end-test.branch [
      | then-loop-end-test+else-is_blank w ↦ λ h. search rules
      | else-loop-end-test w ↦ λ h. absurd (omega arith)
    ] in
    let s : IsTrimmedAt t stop = record {
      within = c.loop-end.invariant.within;
      blank = c.loop-end.invariant.blank;
      sign = before (λ i. is_blank (get_or t i 0) ≡ false) stop sign;
    } in
    let more : stop + 1 ≡ suc stop = omega arith in
    c.split_at.ensures.front ∙ elim c.if-end-gt0.branch [
      | then-end-gt0+then-end-text+then-text-end-eq92 w ↦
          ap (λ n. take n t) (w.end-is ∙ more) ∙ sym (trim_escaped t stop (stop - 1) s (omega arith) (omega arith) (search rules))
      | else-end-gt0 w ↦ elim w.else-end-gt0.branch [
        | else-end-gt0-via-then-end-gt0+then-end-text+else-text-end-eq92 v ↦
            ap (λ n. take n t) w.end-is ∙ sym (trim_plain t stop s (λ i e h k. v.if-text-end-eq92.false (let same : stop - 1 ≡ i = omega arith in ap (λ n. get_or t n 0) same ∙ k)))
        | else-end-gt0-via-then-end-gt0+else-end-text v ↦ ap (λ n. take n t) w.end-is ∙ sym (trim_plain t stop s (λ i e h k. absurd (omega arith)))
        | else-end-gt0-via-else-end-gt0 v ↦ ap (λ n. take n t) w.end-is ∙ sym (trim_plain t stop s (λ i e h k. absurd (omega arith)))
      ]
    ]
