use Rattle.std.proofs.Common.{rules, ◌≡◌, ◌++◌, length, length-append, ap, ◌∙◌, sym, arith}
use Rattle.lexscan.specs.Series.{end_of}
use Rattle.liblex_calls.specs.Brief.{long_tokens}
use Rattle.liblex_calls.proofs.Drawn.{brief_several, end_with}
use Rattle.liblex_calls.proofs.gathering.KeptTokens.keep_all.Goals as goal

pub invariant_of-self-2 : goal.invariant_of-self-2
invariant_of-self-2 c =
    let k = c.args.self.now in
    let us = c.args.several.now in
    let all : c.extend_from_slice.new.self.items ≡ k.brief.items ++ us = search rules in
    let same : c.args.start ≡ k.end = grind arith in
    let start : end_of 0 k.brief.items ≡ c.args.start = omega (arith, k.ends, same) in
    let last : end_of 0 c.extend_from_slice.new.self.items ≡ end_of c.args.start us = ap (end_of 0) all ∙ end_with 0 k.brief.items us ∙ ap (λ n. end_of n us) start in
    record {
      few = omega (arith, ap length all, length-append k.brief.items us, c.requires.few);
      ends = c.end_of-self.ensures ∙ sym last;
      small = omega (arith, last, c.requires.small);
    }

pub returns-clause-kept : goal.returns-clause-kept
returns-clause-kept c =
    let k = c.args.self.now in
    let us = c.args.several.now in
    let all : c.extend_from_slice.new.self.items ≡ k.brief.items ++ us = search rules in
    let none : length k.long.items ≡ 0 = first_of (search rules, grind arith) in
    let same : c.args.start ≡ k.end = grind arith in
    let start : c.args.start ≡ end_of 0 k.brief.items = omega (arith, k.ends, same) in
    ap (λ l. long_tokens 0 l ++ k.long.items) all ∙ brief_several k.brief.items us k.long.items c.args.start none start
