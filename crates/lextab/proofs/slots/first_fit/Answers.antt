use Rattle.std.proofs.Common.{rules, ◌≡◌, ℕ, ◌<◌, arith, subst, sym, w64}
use Rattle.std.proofs.lemmas.Nat.Bits.{bit_at-trailing_ones}
use Rattle.std.specs.Int.{bit_at}
use Rattle.lextab.proofs.Bits.{before_start, fits_here, fits_at_end, no_fit_here}
use Rattle.lextab.proofs.slots.first_fit.Goals as goal

pub returns-then-bad-clause-first : goal.returns-then-bad-clause-first
returns-then-bad-clause-first c =
    let bad = c.blocked-bad.result in
    let t = bit_at-trailing_ones w64 bad (omega arith) in
    let at : (c.trailing_ones.result < 64) × (bit_at bad c.trailing_ones.result ≡ 0) × ((i : ℕ) → i < c.trailing_ones.result → bit_at bad i ≡ 1) =
    subst (λ (n : ℕ). (n < 64) × (bit_at bad n ≡ 0) × ((i : ℕ) → i < n → bit_at bad i ≡ 1)) (sym c.trailing_ones.ensures) t in
    fits_here c.args.words.now c.args.entries.now c.loop-w.w bad c.trailing_ones.result c.blocked-bad.ensures.taken c.blocked-bad.ensures.free c.loop-w.invariant at

pub loop-w-preserved : goal.loop-w-preserved
loop-w-preserved c = no_fit_here c.args.words.now c.args.entries.now c.loop-w.w c.blocked-bad.result c.if-bad.false c.blocked-bad.ensures.taken c.loop-w.invariant

pub loop-w-init : goal.loop-w-init
loop-w-init c = before_start c.args.words.now c.args.entries.now c.args.full c.args.from c.saturating_sub-past_full.result c.min-start.result
    c.requires.some c.requires.room.taken c.requires.from (search rules) (let m = c.max.ensures in let n = c.min-start.ensures in omega arith)

pub returns-clause-first : goal.returns-clause-first
returns-clause-first c = fits_at_end c.args.words.now c.args.entries.now c.args.full c.loop-w.w c.saturating_sub-free.result c.requires.room (search rules) (let l = c.loop-w-test.false in omega arith) c.loop-w.invariant
