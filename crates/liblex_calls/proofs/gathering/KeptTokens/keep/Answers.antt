use Rattle.std.proofs.Common.{rules, ◌≡◌, ◌+◌, [], ◌∷◌, ◌++◌, length, length-append, refl, sym, ap, subst, ◌∙◌, arith, append_assoc}
use Rattle.lexscan.specs.Pulls.{whole_token}
use Rattle.lexscan.specs.Series.{end_of}
use Rattle.liblex_calls.specs.Brief.{long_token, long_tokens}
use Rattle.liblex_calls.specs.Listing.{text_token}
use Rattle.liblex_calls.specs.declared.listing.TextToken.{TextToken}
use Rattle.lexscan.proofs.Listing.{end_more}
use Rattle.liblex_calls.proofs.Drawn.{brief_more}
use Rattle.liblex_calls.proofs.Gathered.{more_kept, full_kept, kept_length}
use Rattle.liblex_calls.proofs.gathering.KeptTokens.keep.Goals as goal

pub returns-then-self-len-clause-kept : goal.returns-then-self-len-clause-kept
returns-then-self-len-clause-kept c tokens h = full_kept tokens (whole_token c.args.token) c.args.self.now _ h refl (omega arith) refl (omega (arith, kept_length c.args.self.now))

pub overflow_add-self : goal.overflow_add-self
overflow_add-self c =
    let k = c.args.self.now in
    let e : k.end + c.in-Some-in_brief.brief.length ≡ c.args.token.start + c.args.token.length = ap (λ (t : TextToken). t.end) c.in-Some-in_brief.ensures.token in
    omega (arith, e, c.requires)

pub invariant_of-self-in-Some-in_brief : goal.invariant_of-self-in-Some-in_brief
invariant_of-self-in-Some-in_brief c =
    let k = c.args.self.now in
    let b = c.in-Some-in_brief.brief in
    let e : k.end + b.length ≡ c.args.token.start + c.args.token.length = ap (λ (t : TextToken). t.end) c.in-Some-in_brief.ensures.token in
    let pushed : c.push.new.self.items ≡ k.brief.items ++ b ∷ [] = search rules in
    let last : end_of 0 c.push.new.self.items ≡ end_of 0 k.brief.items + b.length = ap (end_of 0) pushed ∙ end_more 0 k.brief.items b in
    record {
      few = omega (arith, ap length pushed, length-append k.brief.items (b ∷ []));
      ends = omega (arith, last, k.ends, c.from.ensures);
      small = omega (arith, last, k.ends, e, c.requires);
    }

pub returns-in-Some-in_brief-clause-kept : goal.returns-in-Some-in_brief-clause-kept
returns-in-Some-in_brief-clause-kept c tokens h =
    let k = c.args.self.now in
    let b = c.in-Some-in_brief.brief in
    let t = text_token (whole_token c.args.token) in
    let is : long_token (end_of 0 k.brief.items) b ≡ t = subst (λ n. long_token n b ≡ t) k.ends c.in-Some-in_brief.ensures.token in
    let pushed : c.push.new.self.items ≡ k.brief.items ++ b ∷ [] = search rules in
    more_kept tokens (whole_token c.args.token) k _ h refl (omega arith) (ap (λ l. long_tokens 0 l ++ k.long.items) pushed ∙ brief_more k.brief.items k.long.items b t c.in-Some-in_brief.ensures.alone is) (omega (arith, kept_length k))

pub returns-clause-kept : goal.returns-clause-kept
returns-clause-kept c tokens h =
    let k = c.args.self.now in
    let t = text_token (whole_token c.args.token) in
    more_kept tokens (whole_token c.args.token) k _ h refl (omega arith) (ap (λ l. long_tokens 0 k.brief.items ++ l) (search rules) ∙ sym (append_assoc (long_tokens 0 k.brief.items) k.long.items (t ∷ []))) (omega (arith, kept_length k))
