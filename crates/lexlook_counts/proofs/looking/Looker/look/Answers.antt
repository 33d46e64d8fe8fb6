use Rattle.std.proofs.Common.{◌≡◌, ℕ, ◌+◌, ◌-◌, ◌≤◌, List, length, take, drop, sym, ◌∙◌, ap, subst, arith, length-drop, take_all}
use Rattle.std.proofs.lemmas.List.{drop-drop}
use Rattle.lex_semantics.specs.Machine.{Machine}
use Rattle.lex_semantics.specs.Text.{at_line_start}
use Rattle.lexlook_counts.specs.Looking.{Holds, Looks, looker_machine}
use Rattle.lexlook_counts.specs.declared.looking.Looker.{Looker}
use Rattle.lexlook_counts.proofs.looking.Looker.look.Goals as goal

-- what is held from a turn on
ahead : (given held : List ℕ) (at behind : ℕ) (l : Looker) → Holds given at l → held ≡ l.bytes.items → behind + l.base ≡ l.at → behind ≤ length held → (at ≤ length given) × (take (length held - behind) (drop behind held) ≡ drop at given)
ahead given held at behind l h same is le =
    let size : length held ≡ length given - l.base = ap length (same ∙ h.bytes) ∙ length-drop l.base given in (
      omega (arith, size, le, is, h.here, h.inside),
      take_all (length held - behind) (drop behind held) (omega (arith, length-drop behind held))
          ∙ ap (drop behind) (same ∙ h.bytes) ∙ drop-drop behind l.base given ∙ ap (λ n. drop n given) (omega (arith, is, h.here)),
    )

pub returns-in-None-clause-holds : goal.returns-in-None-clause-holds
returns-in-None-clause-holds c given at h =
    let l : Looker = c.args.self.now in
    let from = ahead given c.deref.result.now at c.in-Some.behind l h c.deref.ensures.value (omega (arith, c.in-Some.ensures)) (omega (arith, c.if-behind-len.false, c.len.ensures, c.deref.ensures.len)) in
    let here : at ≡ l.at = sym h.here in
    record {
      inside = h.inside;
      bytes = h.bytes;
      here = h.here;
      marks = c.look_far.ensures.marks given (omega (arith, from.0, here)) (from.1 ∙ ap (λ n. drop n given) here) h.marks;
    }

pub returns-in-None-clause-looks : goal.returns-in-None-clause-looks
returns-in-None-clause-looks c given at h =
    let l : Looker = c.args.self.now in
    let M : Machine = looker_machine l in
    let from = ahead given c.deref.result.now at c.in-Some.behind l h c.deref.ensures.value (omega (arith, c.in-Some.ensures)) (omega (arith, c.if-behind-len.false, c.len.ensures, c.deref.ensures.len)) in
    let starts : c.in-Some-line_start.line_start ≡ at_line_start given at = c.in-Some-line_start.ensures given at h (omega (arith, c.in-Some.ensures, h.here)) in (
      from.0,
      subst (λ (w : List ℕ). Looks M (M.start c.args.condition (at_line_start given at)) w c.look_far.result) from.1
          (subst (λ s. Looks M s (take (length c.deref.result.now - c.in-Some.behind) (drop c.in-Some.behind c.deref.result.now)) c.look_far.result) (c.start_in-first.ensures.state ∙ ap (M.start c.args.condition) starts) c.look_far.ensures.looks),
    )
