use Rattle.std.proofs.Common.{◌≡◌, ℕ, List, length, sym, ◌∙◌, arith, take_all}
use Rattle.std.proofs.lemmas.Simd.{take_more_put_chunk, length-chunk, length-put_chunk}
use lib.Lanes.{chunk, put_chunk}
use Rattle.lexscan_window.proofs.glimpse.copy_shown.Goals as goal

pub returns-then-bytes-eq64 : goal.returns-then-bytes-eq64
returns-then-bytes-eq64 c =
    let src : List ℕ = c.args.bytes.now in
    let front : List ℕ = chunk 0 64 src in
    let once : List ℕ = put_chunk 0 c.args.place.now front in
    let long : length front ≡ 64 = length-chunk 0 64 src (omega arith) in
    let once_long : length once ≡ length src = length-put_chunk 0 c.args.place.now front ∙ c.requires in
    sym (take_all 64 once (omega (arith, once_long))) ∙ take_more_put_chunk 0 c.args.place.now front 64 (omega (arith, long)) (omega (arith, c.requires)) ∙ take_all 64 src (omega arith)
