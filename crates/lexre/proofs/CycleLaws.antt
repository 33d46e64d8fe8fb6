-- A name that is met inside its own text stands for no tree.
use Rattle.std.proofs.Common.{◌≡◌, ℕ, zero, suc, ◌<◌, ◌≤◌, Bool, true, nat_eq, List, [], ◌∷◌, ◌++◌, map, Vec, Option, Some, None, ◌⊎◌, inl, inr, refl, sym, ap, ◌∙◌, subst, arith}
use Rattle.std.proofs.lemmas.Bool.{and_parts, or_cases, eqb-true}
use Rattle.std.specs.FinMap.{get}
use Rattle.lexre_bytes.specs.Lexical.{symbol_at}
use Rattle.lexre_bytes.specs.Symbols.{Symbol, item, name, opening, closing, bar, sign, grouped, Lexer, IsCut}
use Rattle.lex_semantics.specs.ByteSets.{same_bytes}
use Rattle.lex_semantics.specs.Text.{Among}
use Rattle.lex_semantics.specs.Tree.{Tree, Alt}
use Rattle.lexre.specs.Cycles.{LeadsTo, LeadsToText, AllLead, AllLeadToText, AllLeadToSymbol}
use Rattle.lexre.specs.Definitions.{Definitions}
use Rattle.lexre.specs.Grammar.{IsItem, IsSeries, IsPattern, alone, group, defines, first, next, repeated, repeated_whole, only, choice, SpellsWithin}
use Rattle.lexre.specs.Reading.{SpellsIn, StandsIn, NoneWithin, is_among}
use Rattle.lexre.specs.Running.{Stands}
use Rattle.lexre.specs.declared.options.ReadOptions.{ReadOptions}
use Rattle.lex_semantics.proofs.Fronts.{among_append}
use Rattle.lexre.proofs.OneTree.{pair_is}
use Rattle.lexre.proofs.ReaderLaws.{nothing_at}

-- Names among the symbols of a pattern.

name_is : (n m : List ℕ) → name n ≡ name m → n ≡ m
name_is n m e = cc

no_item : (n : List ℕ) (t : Tree) → name n ≡ item t → ⊥
no_item n t e = cc

no_opening : (n : List ℕ) → name n ≡ opening → ⊥
no_opening n e = cc

no_closing : (n : List ℕ) → name n ≡ closing → ⊥
no_closing n e = cc

no_bar : (n : List ℕ) → name n ≡ bar → ⊥
no_bar n e = cc

no_sign : (n : List ℕ) (braces : Bool) (f : Tree → Tree) → name n ≡ sign braces f → ⊥
no_sign n braces f e = cc

module _ (posix : Bool) (symbol_at : Lexer) (defined : List ℕ → Option (List ℕ)) where
  -- the name stands for a tree where fewer may be opened
  abbrev Below : ℕ → List ℕ → Type 0
  Below d n = (below : ℕ) × (u : Tree) × (below < d) × Stands posix symbol_at defined below n u

  deeper : (d : ℕ) (n : List ℕ) → Below d n → Below (suc d) n
  deeper d n (below, u, less, stands) = (below, u, omega arith, stands)

  -- in front of a last symbol that is no name
  in_front : (ss : List Symbol) (s : Symbol) (n : List ℕ) → (name n ≡ s → ⊥) → Among (ss ++ s ∷ []) (name n) → Among ss (name n)
  in_front ss s n other among = elim (among_append ss (s ∷ []) (name n) among) [
    | inl before ↦ before
    | inr (inl here) ↦ absurd (other here)
    | inr (inr more) ↦ absurd more
  ]

  mutual
    item_named : (d : ℕ) (ss : List Symbol) (t : Tree) → IsItem posix symbol_at defined d ss t → (n : List ℕ) → Among ss (name n) → Below d n
    item_named _ _ _ (alone d t) n (inl here) = absurd (no_item n t here)
    item_named _ _ _ (alone d t) n (inr more) = absurd more
    item_named _ _ _ (group d ss ts inside) n (inl here) = absurd (no_opening n here)
    item_named _ _ _ (group d ss ts inside) n (inr more) = deeper d n (pattern_named d ss ts inside n (in_front ss closing n (no_closing n) more))
    item_named _ _ _ (defines d m text ss ts found cut inside) n (inl here) =
        let same : m ≡ n = sym (name_is n m here) in
        let P : List ℕ → Type 0 = λ x. Stands posix symbol_at defined d x (grouped Alt ts) in
        (d, grouped Alt ts, omega arith, subst P same (text, found, (ss, ts, cut, inside, refl)))
    item_named _ _ _ (defines d m text ss ts found cut inside) n (inr more) = absurd more

    series_named : (d : ℕ) (ss : List Symbol) (ts : List Tree) (c : ℕ) (k : Option ℕ) → IsSeries posix symbol_at defined d ss ts c k
        → (n : List ℕ) → Among ss (name n) → Below d n
    series_named _ _ _ _ _ (first d ss t it) n among = item_named d ss t it n among
    series_named _ _ _ _ _ (next d ss ts c k more t before it) n among = elim (among_append ss more (name n) among) [
      | inl left ↦ series_named d ss ts c k before n left
      | inr right ↦ item_named d more t it n right
    ]
    series_named _ _ _ _ _ (repeated d ss ts t c k braces f bare before below) n among =
        series_named d ss (ts ++ t ∷ []) c (Some k) before n (in_front ss (sign braces f) n (no_sign n braces f) among)
    series_named _ _ _ _ _ (repeated_whole d ss ts c k braces f over which before below) n among =
        series_named d ss ts c k before n (in_front ss (sign braces f) n (no_sign n braces f) among)

    pattern_named : (d : ℕ) (ss : List Symbol) (ts : List Tree) → IsPattern posix symbol_at defined d ss ts → (n : List ℕ) → Among ss (name n) → Below d n
    pattern_named _ _ _ (only d ss parts c k series) n among = series_named d ss parts c k series n among
    pattern_named _ _ _ (choice d ss ts more parts c k before series) n among = elim (among_append ss (bar ∷ more) (name n) among) [
      | inl left ↦ pattern_named d ss ts before n left
      | inr (inl here) ↦ absurd (no_bar n here)
      | inr (inr right) ↦ series_named d more parts c k series n right
    ]

  -- each cut of the text ends with a cut of the rest
  abbrev pub EndsWith : List ℕ → List ℕ → Type 0
  EndsWith text rest = (ss : List Symbol) → IsCut symbol_at text ss → (more : List Symbol) × IsCut symbol_at rest more × ((s : Symbol) → Among more s → Among ss s)

  module _ (none : symbol_at [] ≡ None) where
    -- a cut of a text begins with the symbol that begins the text
    cut_front : (rest after : List ℕ) (s : Symbol) (ss : List Symbol) → symbol_at rest ≡ Some (s, after) → IsCut symbol_at rest ss
        → (more : List Symbol) × IsCut symbol_at after more × (ss ≡ s ∷ more)
    cut_front rest after s [] here end = (let e : symbol_at [] ≡ Some (s, after) = ap symbol_at (sym end) ∙ here in cc)
    cut_front rest after s (s' ∷ ss) here (rest', here', cut) =
        let same = pair_is s' s rest' after (sym here' ∙ here) in
        let P : List ℕ → Type 0 = λ x. IsCut symbol_at x ss in
        (ss, subst P same.1 cut, ap (λ x. x ∷ ss) same.0)

    pub ends_step : (text rest after : List ℕ) (s : Symbol) → EndsWith text rest → symbol_at rest ≡ Some (s, after) → EndsWith text after
    ends_step text rest after s ends here ss cut =
        let (end, cut_end, within) = ends ss cut in
        let (more, cut_more, same) = cut_front rest after s end here cut_end in
        let P : List Symbol → Type 0 = λ x. (r : Symbol) → Among x r → Among ss r in
        let within' : P (s ∷ more) = subst P same within in
        (more, cut_more, λ r among. within' r (inr among))

    front_among : (text rest after : List ℕ) (s : Symbol) (ss : List Symbol) → EndsWith text rest → symbol_at rest ≡ Some (s, after) → IsCut symbol_at text ss → Among ss s
    front_among text rest after s ss ends here cut =
        let (end, cut_end, within) = ends ss cut in
        let (more, cut_more, same) = cut_front rest after s end here cut_end in
        let P : List Symbol → Type 0 = λ x. (r : Symbol) → Among x r → Among ss r in
        let within' : P (s ∷ more) = subst P same within in
        within' s (inl refl)

    -- a name in the text of a tree stands for a tree
    text_named : (d : ℕ) (text rest after : List ℕ) (n : List ℕ) (t : Tree) → EndsWith text rest → symbol_at rest ≡ Some (name n, after)
        → SpellsWithin posix symbol_at defined d text t → Below d n
    text_named d text rest after n t ends here (ss, ts, cut, is, same) =
        pattern_named d ss ts is n (front_among text rest after (name n) ss ends here cut)

-- Names that lead to others.

leads_front : (how : ReadOptions) (definitions : Definitions) (m text rest after n : List ℕ) → LeadsToText how definitions m text
    → EndsWith how.posix (symbol_at how.fold) (get definitions) text rest → symbol_at how.fold rest ≡ Some (name n, after) → LeadsTo how definitions m n
leads_front how definitions m text rest after n leads ends here d t stands =
    let (below, u, less, spells) = leads d t stands in
    let (under, v, less', stands') = text_named how.posix (symbol_at how.fold) (get definitions) (nothing_at how.fold) below text rest after n u ends here spells in
    (suc under, v, omega arith, stands')

pub all_lead_front : (how : ReadOptions) (definitions : Definitions) (ns : List (List ℕ)) (text rest after : List ℕ) (s : Symbol) → AllLeadToText how definitions ns text
    → EndsWith how.posix (symbol_at how.fold) (get definitions) text rest → symbol_at how.fold rest ≡ Some (s, after) → AllLeadToSymbol how definitions ns s
all_lead_front how definitions ns text rest after (item t) lead ends here = tt
all_lead_front how definitions ns text rest after (name n) lead ends here = λ m among. leads_front how definitions m text rest after n (lead m among) ends here
all_lead_front how definitions ns text rest after opening lead ends here = tt
all_lead_front how definitions ns text rest after closing lead ends here = tt
all_lead_front how definitions ns text rest after bar lead ends here = tt
all_lead_front how definitions ns text rest after (sign braces f) lead ends here = tt

-- a name leads to its own text
own_text : (how : ReadOptions) (definitions : Definitions) (n text : List ℕ) → get definitions n ≡ Some text → LeadsToText how definitions n text
own_text how definitions n text found zero t stands = absurd stands
own_text how definitions n text found (suc d) t (text', found', spells) =
    let same : text' ≡ text = cc in
    let P : List ℕ → Type 0 = λ x. SpellsIn how definitions d x t in
    (d, t, omega arith, subst P same spells)

on_to_text : (how : ReadOptions) (definitions : Definitions) (m n text : List ℕ) → get definitions n ≡ Some text → LeadsTo how definitions m n → LeadsToText how definitions m text
on_to_text how definitions m n text found leads d t stands =
    let (below, u, less, stands') = leads d t stands in
    let (under, v, less', spells) = own_text how definitions n text found below u stands' in
    (under, v, omega arith, spells)

pub all_lead_on : (how : ReadOptions) (definitions : Definitions) (ns : List (List ℕ)) (n text : List ℕ) → get definitions n ≡ Some text → AllLead how definitions ns n
    → AllLeadToText how definitions (ns ++ n ∷ []) text
all_lead_on how definitions ns n text found lead m among = go (among_append ns (n ∷ []) m among)
  where
    go : Among ns m ⊎ Among (n ∷ []) m → LeadsToText how definitions m text
    go (inl before) = on_to_text how definitions m n text found (lead m before)
    go (inr (inl here)) = (let P : List ℕ → Type 0 = λ x. LeadsToText how definitions x text in subst P (sym here) (own_text how definitions n text found))
    go (inr (inr more)) = absurd more

pub none_lead : (how : ReadOptions) (definitions : Definitions) (text : List ℕ) → AllLeadToText how definitions [] text
none_lead how definitions text m among = absurd among

-- a name that leads to itself stands for no tree
no_tree : (how : ReadOptions) (definitions : Definitions) (n : List ℕ) → LeadsTo how definitions n n → (most d : ℕ) (t : Tree) → d ≤ most → StandsIn how definitions d n t → ⊥
no_tree how definitions n leads zero d t h stands = let (below, u, less, stands') = leads d t stands in omega arith
no_tree how definitions n leads (suc most) d t h stands =
    let (below, u, less, stands') = leads d t stands in
    no_tree how definitions n leads most below u (omega arith) stands'

word_is : (v w : List ℕ) → same_bytes v w ≡ true → v ≡ w
word_is [] [] e = refl
word_is [] (c ∷ w) e = cc
word_is (b ∷ v) [] e = cc
word_is (b ∷ v) (c ∷ w) e =
    let p = and_parts (nat_eq b c) (same_bytes v w) e in
    ap (λ z. z ∷ v) (eqb-true b c p.0) ∙ ap (λ z. c ∷ z) (word_is v w p.1)

pub among_open : {Y : Type 0} (n : List ℕ) (vs : List (Vec ℕ Y)) → is_among n vs ≡ true → Among (map (λ v. v.items) vs) n
among_open n [] e = cc
among_open n (v ∷ vs) e = elim (or_cases (same_bytes v.items n) (is_among n vs) e) [
  | inl here ↦ inl (sym (word_is v.items n here))
  | inr more ↦ inr (among_open n vs more)
]

pub refused_cycle : (how : ReadOptions) (definitions : Definitions) (room left : ℕ) (ns : List (List ℕ)) (n : List ℕ) → AllLead how definitions ns n → Among ns n
    → NoneWithin room (StandsIn how definitions left n)
refused_cycle how definitions room left ns n lead among t stands few = no_tree how definitions n (lead n among) left left t (omega arith) stands
