use Rattle.std.proofs.Common.{ℕ, length, slice_index, arith, sym, ap, subst, ◌∙◌}
use Rattle.lexauto_dfa.specs.Numbers.{AreCalled}
use Rattle.lexauto_dfa.proofs.Numbered.{number_kept, few_numbers}
use Rattle.lexauto_dfa.proofs.least.tables.quotient.Goals as goal

pub number_starts-requires-clause-none : goal.number_starts-requires-clause-none
number_starts-requires-clause-none c = c.in_ok-numbers.ensures.none (length c.args.starts.now)

pub returns : goal.returns
returns c =
    let cs = c.args.classes.now in
    let ss = c.args.starts.now in
    let of_class = c.number_rows.new.numbers.of_class.items in
    let first = c.in_ok-numbers.numbers.members.items in
    let mid = c.number_starts.new.numbers.members.items in
    let new = c.number_rows.new.numbers.members.items in
    let numbered = c.in_ok-starts.starts.items in
    let a = c.in_ok-table.ensures.numbers in
    let f = c.in_ok-starts.ensures.keeps in
    let g = c.in_ok-table.ensures.keeps in
    let some = (c.in_ok-numbers.ensures.none 0).some in
    let len = c.in_ok-starts.ensures.len in
    record {
      few = few_numbers cs of_class new a;
      known = a.known;
      one = λ j k h l e. sym (a.back j h) ∙ ap (λ (d : ℕ). slice_index of_class d) e ∙ a.back k l;
      zero_is = g.same 0 (omega (arith, some, f.longer)) ∙ f.same 0 some ∙ c.in_ok-numbers.ensures.zero_is;
      starts_len = len;
      starts_are = λ i h. number_kept cs mid new (slice_index numbered i) (slice_index ss i) g (c.in_ok-starts.ensures.each i h);
      rows_len = c.in_ok-table.ensures.len;
      rows_are = c.in_ok-table.ensures.rows;
      called = c.in_ok-table.ensures.called numbered (subst (λ (n : ℕ). AreCalled n mid numbered) (sym len) c.in_ok-starts.ensures.called);
    }
