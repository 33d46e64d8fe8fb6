-- An empty holder owns nothing.
use Rattle.std.proofs.Common.{lit<, ◌≡◌, [], ◌∷◌, refl, Option, None}
use Rattle.std.proofs.raw_atomic.Walks.{proved_at, leaves}
use base.Logic.{SProp, emp, id⊢}
use base.Fml.{ftrue}
use mir.Val.{Val}
use contract.Monad.{fact, fact_i}
use contract.Running.{tables}
use types.Kit.{‵, raw, ◌⊛◌, ◌$◌, ◌∵◌, !, qed, by, keep, use0}
use types.Run.{enter, lit, no_more, and_then, returns}
use types.ByLocal.{alloc_all, pass_all, free_all, look_at, sets}
use types.Part.{agg}
use denote.RawPtr.{null_ptr, ptr_val}
use denote.Steps.{nothing}
use denote.Triple.Walked.{Stays, walk_of}
use Rattle.liblex_calls.proofs.HeldStream.{R, one, held_in}
use Rattle.liblex_calls.specs.declared.token_scan.TokenScan.{TokenScan}
use Rattle.liblex_calls.specs.Owned.{owned_at}
use Rattle.liblex_calls.specs.contracts.stream_holder.StreamHolder.empty.{ended, clauses}
use Rattle.liblex_calls.specs.contracts.stream_holder.StreamHolder.empty.Key.{name as #self}
use Rattle.liblex_calls.proofs.stream_holder.StreamHolder.empty.Statement.{statement}
use Rattle.liblex_calls.proofs.stream_holder.StreamHolder.empty.Code as code

abbrev nothing_there : Option TokenScan
nothing_there = None

pub empty_spec : {M : Type 1} → statement M
empty_spec 𝓤 𝓛 𝓜 𝓡 wired =
    let H = 𝓛.H in let 𝓣 = tables 𝓤 H 𝓜 𝓡 𝓡.env in let c = clauses 𝓛 𝓜.mem 𝓡.returns in
    let hs : Stays ended.signature.params ended.kept = tt in
    proved_at 𝓛 ended hs c 𝓜 𝓡 tt #self code.function (code.unfolded 𝓤 H 𝓜 𝓡 wired) (λ z are.
    let Post : Val → SProp 𝓤 = (walk_of 𝓛 ended hs c).post z in
    qed 𝓛 ((‵ ftrue ⊛ ‵ ftrue) ∷ ‵ ftrue ∷ []) ∵
    enter ! 𝓣.C 𝓣.Λ code.function [] Post $ alloc_all ! (λ l. pass_all ! refl tt $
    sets ! (agg ! (and_then ! (lit ! tt) (no_more !))) refl (tt, (record { fits = lit< tt }, tt)) $
    use0 𝓛 (‵ (owned_at R null_ptr None)) (id⊢ 𝓤 (emp 𝓤)) $ held_in ! null_ptr None $ use0 𝓛 (raw (fact 𝓤 (nothing_there ≡ nothing_there))) (fact_i 𝓤 (nothing_there ≡ nothing_there) (emp 𝓤) refl) $
    returns ! (look_at ! 0 refl) $ free_all ! refl $ nothing ! $ nothing ! $ keep ! (1 ∷ 0 ∷ 3 ∷ 2 ∷ []) $
    by ! (leaves 𝓛 ended hs c z (one (ptr_val null_ptr)) (record { at = null_ptr; value = None }) tt tt)))
