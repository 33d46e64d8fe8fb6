-- What the holder owned, the pointer owns.
use Rattle.std.proofs.Common.{◌≡◌, [], ◌∷◌, ◌++◌, List, Some, refl, sym, subst}
use Rattle.std.proofs.raw_atomic.Walks.{proved_at, leaves}
use Rattle.std.proofs.alloc.Calls.{Al, handle_tells}
use Rattle.std.proofs.alloc.Global.TheLaws as global_laws
use Rattle.std.specs.contracts.impls.GlobalAllocator.TheImpl.{ghosts}
use base.Logic.{SProp, ent, emp, id⊢}
use base.Fml.{ftrue, fsep}
use mir.Syntax.{impl, tnil, dnil}
use mir.Val.{Val, vptr}
use prog.Wp.{WpFn}
use contract.Monad.{fact, fact_i}
use contract.Running.{tables}
use types.Kit.{‵, raw, ◌⊛◌, ◌$◌, ◌∵◌, !, qed, by, move, keep, use0, split, fsplit, fjoin, suffices}
use types.Run.{enter, stop, fld, of_opd, no_more, and_then, returns}
use types.ByLocal.{alloc_all, pass_all, free_all, look_at, get, get_in, sets}
use types.Part.{agg, sub, whole}
use denote.Exit.{yes}
use denote.Signature.{plain}
use denote.RawPtr.{block_ptr}
use denote.Steps.{nothing, heard}
use denote.Triple.Walked.{Stays, stay_dropped, walk_of, Goes-dropped}
use Rattle.liblex_calls.proofs.Loosened.{both, loose_good, loose_in}
use Rattle.liblex_calls.proofs.HeldStream.{R, Z, one, held_out}
use Rattle.liblex_calls.specs.declared.token_scan.TokenScan.{TokenScan}
use Rattle.liblex_calls.specs.contracts.stream_holder.StreamHolder as holder
use Rattle.liblex_calls.specs.contracts.stream_holder.StreamHolder.emptied.{ended, clauses}
use Rattle.liblex_calls.specs.contracts.stream_holder.StreamHolder.emptied.Key.{name as #self}
use Rattle.liblex_calls.proofs.stream_holder.StreamHolder.emptied.Statement.{statement}
use Rattle.liblex_calls.proofs.stream_holder.StreamHolder.emptied.Code as code

pub emptied_spec : {M : Type 1} → statement M
emptied_spec 𝓤 𝓛 𝓜 𝓡 wired =
    let H = 𝓛.H in let 𝓣 = tables 𝓤 H 𝓜 𝓡 𝓡.env in let c = clauses 𝓛 𝓜.mem 𝓡.returns in let P = holder.the_row in
    let al : Al = record { row = Z; laws = global_laws.the_row_laws; g = ghosts; d = impl [] tnil dnil; drops = impl [] tnil dnil } in
    let hs : Stays ended.signature.params ended.kept = (stay_dropped (plain (λ _. P)) yes, (stay_dropped (plain (λ _. Z)) yes, tt)) in
    proved_at 𝓛 ended hs c 𝓜 𝓡 (Goes-dropped 𝓛 0 (plain (λ _. P)) yes (λ κs x w. refl), (Goes-dropped 𝓛 0 (plain (λ _. Z)) yes (λ κs x w. refl), tt)) #self code.function (code.unfolded 𝓤 H 𝓜 𝓡 wired) (λ z are.
    let v = z.0.3.0 in let a = z.0.3.1.0 in let Post : Val → SProp 𝓤 = (walk_of 𝓛 ended hs c).post z in let Run : List Val → SProp 𝓤 = λ ws. WpFn 𝓤 H 𝓣.C 𝓣.Λ code.function ws Post in
    let Has : Type 0 = (x : TokenScan) × (v.value ≡ Some x) in
    qed 𝓛 ((‵ ftrue ⊛ ‵ (fsep (P.own_val v z.0.4.0) (fsep (Z.own_val a z.0.4.1.0) ftrue))) ∷ raw (fact 𝓤 Has) ∷ []) ∵ move ! (1 ∷ []) $ heard ! Has (λ has. split ! $ move ! (1 ∷ []) $ fsplit ! $
    held_out ! v z.0.4.0 has.0 has.1 (λ b o at ws. move ! (1 ∷ []) $ fsplit ! $ handle_tells al ! a z.0.4.1.0 (λ h eh fits.
    let w : Val = one (vptr b o) in let typed = loose_good R Z global_laws.the_row_laws ghosts b o h fits in
    suffices ! (Run (w ∷ h ∷ [])) (subst (λ (us : List Val). ent 𝓤 (Run (w ∷ h ∷ [])) (Run us)) (sym (λ i. ws i ++ (eh i ++ []))) (id⊢ 𝓤 (Run (w ∷ h ∷ [])))) $
    enter ! 𝓣.C 𝓣.Λ code.function (w ∷ h ∷ []) Post $ alloc_all ! (λ l. pass_all ! refl ((tt, (tt, tt)), (fits, tt)) $
    sets ! (of_opd ! (get_in ! (fld ! refl (stop !)) (sub ! 0 refl (whole !)))) refl (tt, tt) $ sets ! (of_opd ! (get ! refl)) refl (tt, tt) $
    sets ! (agg ! (and_then ! (get ! refl) (and_then ! (get ! refl) (no_more !)))) refl typed $
    -- [the allocator; nothing; the box; the tokens]
    move ! (2 ∷ 0 ∷ []) $ loose_in R Z global_laws.the_row_laws ghosts ! b o h a has.0 $
    use0 𝓛 (raw (fact 𝓤 (v.value ≡ Some has.0))) (fact_i 𝓤 (v.value ≡ Some has.0) (emp 𝓤) has.1) $ nothing ! $ nothing ! $ fjoin ! $ nothing ! $ fjoin ! $
    returns ! (look_at ! 0 refl) $ free_all ! refl $ nothing ! $ keep ! (0 ∷ 1 ∷ 3 ∷ 2 ∷ []) $
    by ! (leaves 𝓛 ended hs c z (both (vptr b o) h) (record { at = block_ptr b o; alloc = a; value = has.0 }) (tt, (tt, tt)) (tt, (tt, tt))))))))
