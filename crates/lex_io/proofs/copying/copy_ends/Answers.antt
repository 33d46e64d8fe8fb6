use Rattle.std.proofs.Common.{◌≡◌, ◌-◌, ℕ, List, ◌++◌, length, take, drop, sym, ap, ◌∙◌, arith, take_all, take-append-drop}
use Rattle.std.proofs.lemmas.List.{take-take, length-drop}
use Rattle.std.proofs.lemmas.Simd.{take_more_put_chunk, length-chunk, length-put_chunk}
use lib.Lanes.{chunk, put_chunk}
use Rattle.lex_io.proofs.copying.copy_ends.Goals as goal

pub returns : goal.returns
returns g c =
    let src : List ℕ = c.args.bytes.now in
    let n : ℕ = g.row.N in
    let last : ℕ = length src - n in
    let front : List ℕ = chunk 0 n src in
    let back : List ℕ = chunk last n src in
    let once : List ℕ = put_chunk 0 c.args.place.now front in
    let twice : List ℕ = put_chunk last once back in
    let front_long : length front ≡ n = length-chunk 0 n src (omega (arith, c.requires.covers.0)) in
    let back_long : length back ≡ n = length-chunk last n src (omega (arith, c.requires.covers.0)) in
    let once_long : length once ≡ length src = length-put_chunk 0 c.args.place.now front ∙ c.requires.len in
    let twice_long : length twice ≡ length src = length-put_chunk last once back ∙ once_long in
    let fronts : take n once ≡ front = take_more_put_chunk 0 c.args.place.now front n (omega (arith, front_long)) (omega (arith, c.requires.len, c.requires.covers.0)) in
    let few : take last once ≡ take last src =
    sym (take-take last n once (omega (arith, c.requires.covers))) ∙ ap (λ l. take last l) fronts ∙ take-take last n src (omega (arith, c.requires.covers)) in
    let rest : back ≡ drop last src = take_all n (drop last src) (omega (arith, length-drop last src)) in
    sym (take_all (length src) twice (omega (arith, twice_long)))
    ∙ take_more_put_chunk last once back (length src) (omega (arith, back_long, c.requires.covers.0)) (omega (arith, once_long))
    ∙ ap (λ l. l ++ back) few ∙ ap (λ l. take last src ++ l) rest ∙ take-append-drop last src
