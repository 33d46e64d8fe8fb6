-- The scan is lent in its place, and the holder follows it.
use Rattle.std.proofs.Common.{◌≡◌, ℕ, [], ◌∷◌, List, Some, sym, refl}
use Rattle.std.proofs.raw_atomic.Walks.{proved}
use Rattle.std.proofs.alloc.Shapes.{after}
use Rattle.std.specs.contracts.impls.GlobalAllocator.TheImpl.{ghosts}
use seplogic.Ra.Ura.{Ura}
use base.Fraction.{full_share}
use base.Logic.{SProp, ent, sep}
use base.Fml.{Lft, Share, GName, Fml, ftrue, fsep, flft}
use mir.Raw.{raw as bare}
use mir.Syntax.{named}
use mir.Val.{Val, vptr}
use prog.Wp.{Env, WpFn}
use types.Logic.{Logic, sem}
use contract.Monad.{fact}
use contract.Running.{tables}
use types.Kit.{‵, raw, ◌⊛◌, some, later, await, pick, at_ret, ◌$◌, ◌∵◌, !, qed, by, move, keep, drop, use1, split, join, group, rewrite, fsplit, fsplit3, fjoin, fpack, suffices, frame, done}
use types.Part.{whole, sub, look_in}
use types.Run.{stop, fld, load, of_opd, addr, first, blocks, exec, returns, enter}
use types.ByLocal.{alloc_all, pass_all, free_all, look_at, get, through, sets, sets_last, env}
use denote.Exit.{no}
use denote.RattleType.{RattleType, owns}
use denote.Memory.{mem, cell_at, part_at, part_of, lone}
use denote.RawPtr.{Ptr, block_ptr}
use denote.Ref.{MutBor, MutRef, mut_vals, mut_Tells}
use denote.Signature.{plain, mut_ref_to}
use denote.Steps.{nothing, opens, heard}
use denote.Triple.Walked.{says, Stays, stay_dropped, walk_of, ends_at, Goes-spent_ref}
use denote.Follow.{follows, Part, lends_Part}
use Rattle.liblex_calls.proofs.HeldStream.{R, one, held_in, held_out}
use Rattle.liblex_calls.specs.Lent.{with_scan}
use Rattle.liblex_calls.specs.Owned.{heap}
use Rattle.liblex_calls.specs.declared.stream_holder.StreamHolder.{StreamHolder}
use Rattle.liblex_calls.specs.declared.token_scan.TokenScan.{TokenScan}
use Rattle.liblex_calls.specs.contracts.stream_holder.StreamHolder as holder
use Rattle.liblex_calls.specs.contracts.stream_holder.StreamHolder.scan.{ended, clauses}
use Rattle.liblex_calls.specs.contracts.stream_holder.StreamHolder.scan.Key.{name as #self}
use Rattle.liblex_calls.proofs.stream_holder.StreamHolder.scan.Statement.{statement}
use Rattle.liblex_calls.proofs.stream_holder.StreamHolder.scan.Code as code

abbrev P : RattleType
P = holder.the_row

-- all of the holder but the scan: the right to free its memory, and where the pointer lies
abbrev Rest : ℕ → ℕ → ℕ → ℕ → Fml
Rest rb ro b o = fsep (ghosts.dealloc_token heap (bare (lone R.mir)) (block_ptr b o)) (cell_at full_share P.mir (one (vptr b o) ∷ []) rb ro)

back : {M : Type 1} {𝓤 : Ura M} (𝓛 : Logic 𝓤) (d : StreamHolder) (rb ro b o : ℕ) → d.at ≡ block_ptr b o → (w : TokenScan)
    → ent 𝓤 (sep 𝓤 (sem 𝓛 ((mem R).own_at w b o)) (sem 𝓛 (Rest rb ro b o))) (sem 𝓛 ((mem P).own_at (with_scan d w) rb ro))
unfolding part_of
back 𝓛 d rb ro b o at w =
    qed 𝓛 (‵ (part_at R full_share w b o) ∷ ‵ (Rest rb ro b o) ∷ []) ∵ move ! (1 ∷ []) $ fsplit ! $ move ! (2 ∷ 0 ∷ []) $ fjoin ! $
    held_in ! (block_ptr b o) (Some w) $ rewrite ! 0 (λ (p : Ptr). ‵ (P.own_val (record { at = p; value = Some w }) (one (vptr b o) ∷ []))) (sym at) refl $ move ! (1 ∷ 0 ∷ []) $ fjoin ! $
    fpack ! (List Val) (λ us. fsep (cell_at full_share P.mir us rb ro) (P.own_val (with_scan d w) us)) (one (vptr b o) ∷ []) $ done !

pub scan_spec : {M : Type 1} → statement M
scan_spec 𝓤 𝓛 𝓜 𝓡 wired =
    let H = 𝓛.H in let 𝓣 = tables 𝓤 H 𝓜 𝓡 𝓡.env in let c = clauses 𝓛 𝓜.mem 𝓡.returns in
    let hs : Stays ended.signature.params ended.kept = (stay_dropped (mut_ref_to (0 ∷ []) tt (plain (λ _. P))) no, tt) in
    proved 𝓛 ended hs c 𝓜 𝓡 (Goes-spent_ref 𝓛 1 (0 ∷ []) tt (plain (λ _. P)), tt) #self code.function (code.unfolded 𝓤 H 𝓜 𝓡 wired) (λ κs. (mut_vals, tt)) (λ κs. (mut_Tells (named 0) κs.0 P, tt)) (λ κs qs bounds a g are.
    let κ = κs.0 in let q = qs.0 in let self = a.0 in let d = self.now in let rb = self.ref_ptr.0 in let ro = self.ref_ptr.1 in let γ = self.ghost_name in
    let y : (walk_of 𝓛 ended hs c).Ghost = ((κs, qs, bounds, a, (mut_vals self, tt)), g) in let Post : Val → SProp 𝓤 = (walk_of 𝓛 ended hs c).post y in
    let Has : Type 0 = (x : TokenScan) × (d.value ≡ Some x) in let code_of = P.coded.code d in
    qed 𝓛 (((‵ (flft κ q) ⊛ ‵ ftrue) ⊛ ‵ (owns (MutRef (named 0) κ P ∷ []) a (vptr rb ro ∷ [], tt))) ∷ raw (fact 𝓤 Has) ∷ []) ∵ move ! (1 ∷ []) $ heard ! Has (λ has. let x = has.0 in
    enter ! 𝓣.C 𝓣.Λ code.function (vptr rb ro ∷ []) Post $ alloc_all ! (λ l. pass_all ! refl ((tt, tt), tt) $ let En : Env 𝓤 H = env code.function.locals l in
    split ! $ split ! $ move ! (2 ∷ []) $ fsplit ! $ fsplit3 ! $ drop ! $ move ! (0 ∷ 1 ∷ 3 ∷ []) $
    opens ! tt P {h = d} rb ro (λ vs. move ! (1 ∷ []) $ held_out ! d vs x has.1 (λ b o at ws. rewrite ! 1 (λ (us : List Val). ‵ (cell_at full_share P.mir us rb ro)) ws refl $ fsplit ! $
    -- [the scan; the right to free; the pointer; the open borrow; obs; auth]
    first ! $ blocks ! $ sets ! (of_opd ! (load ! (through ! refl (fld ! refl (stop !))) (look_in ! 2 (sub ! 0 refl (whole !))))) refl (tt, tt) $ sets ! (of_opd ! (get ! refl)) refl (tt, tt) $
    sets_last ! (addr ! (through ! refl (stop !))) refl (tt, tt) $ exec ! 𝓣.C 𝓣.Λ En (after 1 code.function.body) (at_ret En Post) $ sets ! (of_opd ! (get ! refl)) refl (tt, tt) $
    move ! (1 ∷ 2 ∷ []) $ fjoin ! $ move ! (2 ∷ 3 ∷ 4 ∷ 1 ∷ 0 ∷ []) $ group ! 5 $
    use1 𝓛 (later (some (λ (δ : GName). raw (Part 𝓛 P R (with_scan d) (named 0) κ q rb ro b o γ (sem 𝓛 (Rest rb ro b o)) (back 𝓛 d rb ro b o at) x δ))))
    (lends_Part 𝓛 P R (with_scan d) (named 0) κ q rb ro b o γ (sem 𝓛 (Rest rb ro b o)) (back 𝓛 d rb ro b o at) code_of code_of x) $ await ! tt $ pick ! (λ δ.
    let r : MutBor TokenScan = record { ref_ptr = (b, o); ghost_name = δ; now = x } in
    let leaves = qed 𝓛 (‵ ((MutRef (named 0) κ R).own_val r (vptr b o ∷ [])) ∷ ‵ (flft κ q) ∷ ‵ (follows P R γ δ (with_scan d)) ∷ []) ∵ suffices ! _ (ends_at 𝓛 ended hs c y (vptr b o) r (tt, tt) (tt, tt)) $
    nothing ! $ nothing ! $ fjoin ! $ join ! $ nothing ! $ move ! (2 ∷ 0 ∷ []) $ join ! $ join ! $ frame ! $ says ! has.1 $ done ! in
    returns ! (look_at ! 0 refl) $ free_all ! refl $ keep ! (0 ∷ []) $ by ! leaves))))))
