use Rattle.std.proofs.Common.{rules, ◌≡◌, ℕ, ◌<◌, ◌≤◌, ◌+◌, ◌*◌, ◌/◌, ◌%◌, ◌++◌, ◌∷◌, [], List, length, slice_index, take, set, arith, sym, ap, subst, ◌∙◌, inr, append_assoc}
use Rattle.std.proofs.lemmas.List.{get_or_read, length-append, length-take-le, take_all, take_more_set}
use Rattle.lexauto_dfa.specs.Numbers.{AreRows, AreCalled, IsNumberOf}
use Rattle.lexauto_dfa.proofs.Numbered.{rows_more, wanted_in, few_numbers, keeps_grown, keeps_again, call_more}
use Rattle.lexauto_dfa.proofs.least.numbering.number_row.Goals as goal

pub loop-byte-preserved : goal.loop-byte-preserved
loop-byte-preserved c =
    let v = c.loop-byte.invariant in
    let start = c.args.numbers.now.members.items in
    let old = c.loop-byte.numbers.members.items in
    let new = c.number_after.new.numbers.members.items in
    let cs = c.args.classes.now in
    let table = c.args.table.now in
    let base = c.args.rows.now.items in
    let n = length base in
    let i = c.loop-byte.byte in
    let called = c.loop-byte.called in
    let rows = base ++ take i called in
    let p = length rows in
    let k = c.in_ok-number.number in
    let m = c.index-state.result.now in
    let x = slice_index table (m * 256 + i) in
    let within : i < 256 = search rules in
    let size : p ≡ n + i = (let a = length-append base (take i called) in let t = length-take-le i called (omega (arith, v.len, within)) in omega (arith, a, t)) in
    let items : base ++ take (i + 1) (set called i k) ≡ rows ++ k ∷ [] = ap (λ (xs : List ℕ). base ++ xs) (take_more_set called i k (omega (arith, v.len, within))) ∙ sym (append_assoc base (take i called) (k ∷ [])) in
    let len : c.len-row.result ≡ n = search rules in
    let first : m ≡ slice_index start (c.len-row.result / 256) = get_or_read start _ _ (omega (arith, len, c.requires.next)) c.index-state.ensures 0 in
    let row : p / 256 ≡ n / 256 = omega (arith, size, c.requires.whole, within) in
    let byte : p % 256 ≡ i = omega (arith, size, c.requires.whole, within) in
    let member : m ≡ slice_index old (p / 256) = first ∙ ap (λ (j : ℕ). slice_index start (j / 256)) len ∙ sym (v.keeps.same (n / 256) c.requires.next) ∙ ap (λ (j : ℕ). slice_index old j) (sym row) in
    let is : x ≡ wanted_in table old p = ap (λ (j : ℕ). slice_index table j) (let e : m * 256 + i ≡ slice_index old (p / 256) * 256 + p % 256 = omega (arith, member, byte) in e) in
    let test : p / 256 < length old = omega (arith, row, c.requires.next, v.keeps.longer) in
    let f = keeps_grown old x k new c.in_ok-number.ensures.grown in
    record {
      numbers = c.in_ok-number.ensures.numbers;
      len = search rules;
      each = subst (λ (xs : List ℕ). AreRows cs table new xs) (sym items) (rows_more cs table old new rows k v.each f test (subst (λ (y : ℕ). IsNumberOf cs new k y) is c.in_ok-number.ensures.number));
      called = λ starts a. subst (λ (xs : List ℕ). AreCalled (length starts) new (starts ++ xs)) (sym items)
          (subst (λ (xs : List ℕ). AreCalled (length starts) new xs) (append_assoc starts rows (k ∷ []))
          (call_more (length starts) old (starts ++ rows) x k new c.in_ok-number.ensures.grown (inr (let n = length-append starts rows in omega (arith, n, test))) (v.called starts a)));
      keeps = keeps_again start old new v.keeps f;
      before = c.in_ok-number.ensures.number;
    }

pub overflow_cast-before : goal.overflow_cast-before
overflow_cast-before c =
    let ns = c.args.numbers.now in
    let few = few_numbers c.args.classes.now ns.of_class.items ns.members.items c.requires.numbers in
    let len : c.len-row.result ≡ length c.args.rows.now.items = search rules in
    omega (arith, len, few, c.requires.next, c.requires.has_rows.few)

pub returns : goal.returns
returns c =
    let v = c.loop-byte.invariant in
    let base = c.args.rows.now.items in
    let called = c.loop-byte.called in
    let i = c.loop-byte.byte in
    let items : c.extend_from_slice.new.self.items ≡ base ++ called = c.in_ok-extend_from_slice.ensures.items in
    let done : 256 ≤ i = search rules in
    let all : base ++ take i called ≡ c.extend_from_slice.new.self.items = ap (λ (xs : List ℕ). base ++ xs) (take_all i called (omega (arith, v.len, done))) ∙ sym items in
    let cs = c.args.classes.now in
    let new = c.loop-byte.numbers.members.items in
    record {
      numbers = v.numbers;
      len = (let l = ap (λ (xs : List ℕ). length xs) items in let a = length-append base called in omega (arith, l, a, v.len));
      each = subst (λ (xs : List ℕ). AreRows cs c.args.table.now new xs) all v.each;
      called = λ starts a. subst (λ (xs : List ℕ). AreCalled (length starts) new (starts ++ xs)) all (v.called starts a);
      keeps = v.keeps;
    }
