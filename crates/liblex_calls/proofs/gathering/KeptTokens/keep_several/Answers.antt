use Rattle.std.proofs.Common.{◌≡◌, ◌-◌, ◌++◌, length, min, ap, ◌∙◌, sym, arith}
use Rattle.std.proofs.lemmas.List.{length-map}
use Rattle.lexscan.specs.Series.{drawn_out}
use Rattle.std.proofs.lemmas.Result.{on_ok_weaker}
use Rattle.liblex_calls.specs.Gathering.{kept_tokens}
use Rattle.liblex_calls.specs.Listing.{text_token}
use Rattle.liblex_calls.proofs.Drawn.{drawn_length, drawn_take, end_within}
use Rattle.liblex_calls.proofs.Gathered.{several_kept, kept_length}
use Rattle.liblex_calls.proofs.gathering.KeptTokens.keep_several.Goals as goal

pub keep_all-requires-clause-small : goal.keep_all-requires-clause-small
keep_all-requires-clause-small c = omega (arith, end_within c.args.start c.args.several.now c.min.result, c.requires)

pub returns-clause-kept : goal.returns-clause-kept
returns-clause-kept c tokens h =
    let k = c.args.self.now in
    let us = c.args.several.now in
    let more = drawn_out c.args.start us in
    let size : length more ≡ length us = sym (length-map more text_token) ∙ drawn_length c.args.start us in
    let few : c.min.result ≡ min (k.room - length (kept_tokens k)) (length more) = omega (arith, kept_length k, size, c.min.ensures) in
    on_ok_weaker c.keep_all.result (λ kept. several_kept tokens more k c.keep_all.new.self c.min.result h few c.keep_all.ensures.room (omega (arith, c.keep_all.ensures.count, size, c.in-Some.ensures)) (kept ∙ ap (λ l. kept_tokens k ++ l) (drawn_take c.args.start us c.min.result))) c.keep_all.ensures.kept
