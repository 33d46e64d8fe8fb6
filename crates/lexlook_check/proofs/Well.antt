-- Nothing is told just of a specification within the limits.
use Rattle.std.proofs.Common.{◌≡◌, ◌∙◌, ℕ, ◌==◌, ◌&&◌, Bool, true, false, List, [], ◌∷◌, length, map, Option, Some, None, is_none, refl, sym, ap, subst, arith}
use Rattle.lex_semantics.specs.Spec.{Spec}
use Rattle.lexre.specs.declared.options.ReadOptions.{ReadOptions}
use Rattle.lexre_bytes.specs.Memory.{UnlessMemory}
use Rattle.lexre_bytes.specs.declared.error.PatternErrorKind.TheVariants as patterns
use Rattle.lexre_bytes.specs.declared.error.PatternErrorKind.{PatternErrorKind}
use Rattle.lexre_bytes.specs.declared.refusals.SpecError.{SpecError}
use Rattle.lexre_bytes.specs.declared.refusals.SpecErrorKind.{SpecErrorKind}
use Rattle.lexre_bytes.specs.declared.refusals.SpecErrorKind.TheVariants as kinds
use Rattle.lexspec.specs.Files.{SpellsSpec}
use Rattle.lexauto.specs.declared.error.BuildError.{BuildError}
use Rattle.lexauto.specs.declared.error.BuildError.TheVariants as builds
use Rattle.lexauto.specs.declared.subsets.Limits.{Limits}
use Rattle.lexauto_reports.specs.declared.warned.Warning.{Warning}
use Rattle.lexkit.specs.Faults.{lacks_memory, pattern_lacks_memory}
use Rattle.lexkit.specs.Headline.{BuildRefusal, IsWithin, reading}
use Rattle.lexkit.specs.declared.options.Options.{Options}
use Rattle.lexlook_check.specs.Finding.{AreFaultsOf, ReadsSpec, max_faults}
use Rattle.lexlook_specs.specs.Copied.{AreCopied}
use Rattle.lexlook_specs.specs.Matches.{matches_of}
use Rattle.lexlook_check.specs.Checks.{IsAllWell, IsFoundOf, NothingToldJustOf}
use Rattle.lexlook_check.specs.Copies.{CopiesNothing, asked_copies}
use Rattle.lexlook_check.specs.Takings.{TakenTexts, taking_of}
use Rattle.lexlook_check.specs.declared.findings.Finding.{Finding}
use Rattle.lexlook_check.specs.declared.notices.Notice.{Notice}
use Rattle.lexlook_check.proofs.CopyLaws.{none_copied, none_to_tell}

abbrev OneSpec : Type 0
OneSpec = (how : ReadOptions) (file : List ℕ) (S T : Spec) → SpellsSpec how file S → SpellsSpec how file T → S ≡ T

abbrev is_good : List SpecError → Option BuildError → List Finding → Bool
is_good faults limit copies = (length faults == 0) && is_none limit && (length copies == 0)

known_pattern : (k : PatternErrorKind) → pattern_lacks_memory k ≡ false → k ≡ patterns.OutOfMemory → ⊥
known_pattern patterns.OutOfMemory e is = absurd cc
known_pattern _ e is = absurd cc

-- a refusal that is no want of memory says what it promises
told : (k : SpecErrorKind) (F : Type 0) → UnlessMemory k F → lacks_memory k ≡ false → F
told kinds.OutOfMemory F h e = absurd cc
told (kinds.Pattern p) F h e = h (λ is. known_pattern p.kind e is)
told _ F h e = h

not_empty : (e : SpecError) (es : List SpecError) (limit : Option BuildError) (cs : List Finding) → is_good (e ∷ es) limit cs ≡ true → ⊥
not_empty e es limit cs h = absurd (grind arith)

limited : (l : BuildError) (cs : List Finding) → is_good [] (Some l) cs ≡ true → ⊥
limited l cs h = absurd cc

copying : (c : Finding) (cs : List Finding) → is_good [] None (c ∷ cs) ≡ true → ⊥
copying c cs h = absurd (grind arith)

passes : (limits : Limits) (S : Spec) (e : BuildError) → (e ≡ builds.OutOfMemory → ⊥) → BuildRefusal limits S e → IsWithin limits S → ⊥
passes limits S builds.TooManyPositions off h within = omega (arith, h, within.few_positions)
passes limits S builds.TooManyStates off h within = let many = h within.states within.subsets in omega (arith, many, within.few_states)
passes limits S builds.OutOfMemory off h within = off refl

-- nothing is told of a text in which nothing is copied, and the other way round
nothing_copied : (S : Spec) (strict : Bool) (copied : List (Option ℕ)) (text : List ℕ) → AreCopied (matches_of S) copied → [] ≡ asked_copies strict true S copied text
    → strict ≡ true → CopiesNothing S
nothing_copied S true copied text are e on = none_copied S copied text are (sym e)
nothing_copied S false copied text are e on = absurd cc

nothing_to_copy : (S : Spec) (strict : Bool) (copied : List (Option ℕ)) (text : List ℕ) → AreCopied (matches_of S) copied → (strict ≡ true → CopiesNothing S)
    → asked_copies strict true S copied text ≡ []
nothing_to_copy S true copied text are h = none_to_tell S copied text are (h refl)
nothing_to_copy S false copied text are h = refl

good_spells : OneSpec → (options : Options) (own : ℕ) (strict : Bool) (text : List ℕ) (faults : List SpecError) (limit : Option BuildError) (ws : List Warning) (ts : List TakenTexts) (ns : List Notice) (cs : List Finding) (left : Option (List ℕ))
    → AreFaultsOf (ReadsSpec (reading options)) max_faults text faults left → IsFoundOf options own strict (length faults == 0) text left limit ws ts ns cs → is_good faults limit cs ≡ true → IsAllWell options strict text
good_spells one options own strict text [] None ws ts ns [] (Some left) faults (m, tables, warned, takings, (S, spells, copied, known, (noted, none))) good =
    let same : S ≡ tables.0 = one (reading options) left S tables.0 spells tables.1 in
    let kept : strict ≡ true → CopiesNothing tables.0 = λ on. subst (λ (T : Spec). CopiesNothing T) same (nothing_copied S strict copied left (known refl) none on) in
    subst (λ (t : List ℕ). IsAllWell options strict t) faults.0 (tables.0, tables.1, tables.4.tables.within, kept)
good_spells one options own strict text [] None ws ts ns (c ∷ cs) (Some left) faults found good = absurd (copying c cs good)
good_spells one options own strict text [] None ws ts ns cs None faults found good = absurd cc
good_spells one options own strict text [] (Some e) ws ts ns cs left faults found good = absurd (limited e cs good)
good_spells one options own strict text (e ∷ es) limit ws ts ns cs left faults found good = absurd (not_empty e es limit cs good)

spelled_good : OneSpec → (options : Options) (own : ℕ) (strict : Bool) (text : List ℕ) (faults : List SpecError) (limit : Option BuildError) (ws : List Warning) (ts : List TakenTexts) (ns : List Notice) (cs : List Finding) (left : Option (List ℕ))
    → AreFaultsOf (ReadsSpec (reading options)) max_faults text faults left → IsFoundOf options own strict (length faults == 0) text left limit ws ts ns cs → IsAllWell options strict text → is_good faults limit cs ≡ true
spelled_good one options own strict text [] None ws ts ns cs (Some left) faults (m, tables, warned, takings, (T, spelled, copied, known, (noted, are))) (S, spells, within, kept) =
    let at : SpellsSpec (reading options) left S = subst (λ (t : List ℕ). SpellsSpec (reading options) t S) (sym faults.0) spells in
    let same : S ≡ T = one (reading options) left S T at spelled in
    let also : strict ≡ true → CopiesNothing T = λ on. subst (λ (U : Spec). CopiesNothing U) same (kept on) in
    let none : cs ≡ [] = are ∙ nothing_to_copy T strict copied left (known refl) also in
    ap (λ (l : List Finding). is_good [] None l) none
spelled_good one options own strict text [] None ws ts ns cs None faults found spelled = absurd cc
spelled_good one options own strict text [] (Some e) ws ts ns cs (Some left) faults found (S, spells, within, kept) =
    let at : SpellsSpec (reading options) left S = subst (λ (t : List ℕ). SpellsSpec (reading options) t S) (sym faults.0) spells in
    let same : found.1.0 ≡ S = one (reading options) left found.1.0 S found.1.1 at in
    absurd (passes options.limits S e found.0 (subst (λ (T : Spec). BuildRefusal options.limits T e) same found.1.2) within)
spelled_good one options own strict text [] (Some e) ws ts ns cs None faults found spelled = absurd cc
spelled_good one options own strict text (e ∷ es) limit ws ts ns cs left faults found (S, spells, within, kept) =
    absurd ((told e.kind _ faults.1 faults.2).0 S spells)

pub nothing_told_of : OneSpec → NothingToldJustOf
nothing_told_of one options own strict text c h = (
  good_spells one options own strict text c.faults.items c.limit c.warnings.items (map taking_of c.takings.items) c.notices.items c.copies.items h.left h.faults h.found,
  spelled_good one options own strict text c.faults.items c.limit c.warnings.items (map taking_of c.takings.items) c.notices.items c.copies.items h.left h.faults h.found,
)
