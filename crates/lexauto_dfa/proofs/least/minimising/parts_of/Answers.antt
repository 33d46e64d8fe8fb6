use Rattle.std.proofs.Common.{rules, ◌≡◌, ℕ, ◌+◌, ◌*◌, false, Bool, List, length, slice_index, slice_index_or, arith, sym, refl, ap, ◌∙◌, Vec, Global}
use Rattle.std.specs.declared.rc.Rc.{Rc}
use Rattle.lexauto_dfa.specs.Lists.{list_at}
use Rattle.lexauto_dfa.proofs.ByTurns.{turns_are}
use Rattle.lexauto_dfa.proofs.least.minimising.parts_of.Goals as goal

pub returns : goal.returns
returns c =
    let d = c.args.parts.now in
    let t = c.args.classes in
    let n : c.len-conditions.result ≡ length d.starts.items = search rules in
    let es = c.in_ok-starts.starts.items in
    let os = c.in_ok-line_starts.line_starts.items in
    let el = c.in_ok-starts.ensures.len in
    let ol = c.in_ok-line_starts.ensures.len in
    let ds : c.deref.result.now ≡ t.starts.items = c.deref.ensures.value in
    let dl : c.deref-2.result.now ≡ t.starts.items = c.deref-2.ensures.value in
    let vs : c.deref-3.result.now ≡ d.accepts.items = c.deref-3.ensures.value in
    let ms : c.deref-4.result.now ≡ t.members.items = c.deref-4.ensures.value in
    let fs : c.deref-5.result.now ≡ d.goes_on.items = c.deref-5.ensures.value in
    let ks : c.deref-6.result.now ≡ t.members.items = c.deref-6.ensures.value in
    record {
      conditions = el ∙ n;
      lines = ol ∙ sym el;
      starts = sym (turns_are t.starts.items es os (ol ∙ sym el) (c.requires.fits.starts_len ∙ ap (λ (k : ℕ). 2 * k) (sym n ∙ sym el))
          (λ i h. ap (λ (xs : List ℕ). slice_index xs (2 * i)) (sym ds) ∙ ap (λ (j : ℕ). slice_index c.deref.result.now j) (let q : 2 * i ≡ 2 * i + 0 = omega arith in q) ∙ sym (c.in_ok-starts.ensures.each i (omega (arith, h, el))))
          (λ i h. ap (λ (xs : List ℕ). slice_index xs (2 * i + 1)) (sym dl) ∙ sym (c.in_ok-line_starts.ensures.each i (omega (arith, h, el)))));
      next = refl;
      count = c.in_ok-goes_on.ensures.len ∙ ap (λ (xs : List ℕ). length xs) ks;
      lists_len = c.in_ok-accepts.ensures.len ∙ ap (λ (xs : List ℕ). length xs) ms;
      lists = λ k h. c.in_ok-accepts.ensures.each k (let l = ap (λ (xs : List ℕ). length xs) ms in omega (arith, h, l))
          ∙ ap (λ (ws : List (Rc (Vec ℕ Global) Global)). list_at ws (slice_index c.deref-4.result.now k)) vs ∙ ap (λ (xs : List ℕ). list_at d.accepts.items (slice_index xs k)) ms;
      flags = λ k h. c.in_ok-goes_on.ensures.each k (let l = ap (λ (xs : List ℕ). length xs) ks in omega (arith, h, l))
          ∙ ap (λ (gs : List Bool). slice_index_or gs (slice_index c.deref-6.result.now k) false) fs ∙ ap (λ (xs : List ℕ). slice_index_or d.goes_on.items (slice_index xs k) false) ks;
    }
