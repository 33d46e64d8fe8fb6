-- The worked examples of cuttings, computed.
use Rattle.std.proofs.Common.{◌≡◌, ℕ, suc, ◌-◌, ◌+◌, Bool, true, false, List, [], ◌∷◌, ◌++◌, length, Option, Some, None, codes, refl, sym, ap, ◌∙◌, subst, arith, if◌then◌else◌}
use Rattle.std.specs.Prelude.{not, ◌||◌, ◌&&◌, ◌==◌, fold}
use Rattle.lex_semantics.specs.ByteSets.{has, set_of, single, is_alpha, is_digit, is_alnum, is_blank, other_case, named_set}
use Rattle.lex_semantics.specs.Escapes.{simple_escape, octal_at, hexadecimal_at, until_quote}
use Rattle.lex_semantics.specs.Reading.{take_up_to, begins, IsReadAs}
use Rattle.lexre_bytes.specs.Lexical.{after_word, run_at, escape_at, class_name_at, enclosed_by, bracketed_at, range_at, element_at, elements_at, class_at, span}
use Rattle.lexre.specs.Cutting.{piece_at, ends_pattern, depth}
use Rattle.lexre.proofs.OneTree.{some_is}
use Rattle.lexre.specs.CuttingExamples.{Ends, Slashes, Dollars, NoCuttings}

-- how many parentheses are open after a piece
abbrev step : ℕ → List ℕ → ℕ
step n p = if begins (codes "(") p then suc n else if begins (codes ")") p then n - 1 else n

-- no slash stands in parentheses, where n are open before
abbrev all_outside : ℕ → List (List ℕ) → Bool
all_outside n [] = true
all_outside n (u ∷ us) = (not (begins (codes "/") u) || n == 0) && all_outside (step n u) us

both : (x y : Bool) → (x && y) ≡ true → (x ≡ true) × (y ≡ true)
both true y e = (refl, e)
both false y e = cc

zero_if : (slashed : Bool) (n : ℕ) → slashed ≡ true → (not slashed || n == 0) ≡ true → n ≡ 0
zero_if true n s e = let f : (n == 0) ≡ true = e in grind arith
zero_if false n s e = cc

outside : (us before after : List (List ℕ)) (p : List ℕ) (n : ℕ) → all_outside n us ≡ true → us ≡ before ++ p ∷ after → begins (codes "/") p ≡ true → fold step n before ≡ 0
outside [] [] after p n all e slash = cc
outside [] (b ∷ before) after p n all e slash = cc
outside (u ∷ us) [] after p n all e slash =
    let first : u ≡ p = cc in
    zero_if (begins (codes "/") u) n (ap (begins (codes "/")) first ∙ slash) (both (not (begins (codes "/") u) || n == 0) (all_outside (step n u) us) all).0
outside (u ∷ us) (b ∷ before) after p n all e slash =
    let first : u ≡ b = cc in
    let rest : us ≡ before ++ p ∷ after = cc in
    subst (λ x. fold step (step n x) before ≡ 0) first
    (outside us before after p (step n u) (both (not (begins (codes "/") u) || n == 0) (all_outside (step n u) us) all).1 rest slash)

pub ends : Ends
unfolding piece_at after_word run_at escape_at class_name_at enclosed_by bracketed_at range_at element_at elements_at class_at span has set_of single is_alpha is_digit is_alnum is_blank other_case named_set simple_escape octal_at hexadecimal_at until_quote take_up_to
ends = record {
  at_blank = record {
    pieces = codes "a b" ∷ [];
    cut = (codes " b", refl, (refl, refl));
    outside = λ before after p e s. outside (codes "a b" ∷ []) before after p 0 refl e s;
    first = refl;
    second = refl;
    last = refl;
  };
  at_newline = record {
    pieces = codes "a\nb" ∷ [];
    cut = (codes "\nb", refl, (refl, refl));
    outside = λ before after p e s. outside (codes "a\nb" ∷ []) before after p 0 refl e s;
    first = refl;
    second = refl;
    last = refl;
  };
  at_end = record {
    pieces = codes "a" ∷ [];
    cut = ([], refl, (refl, refl));
    outside = λ before after p e s. outside (codes "a" ∷ []) before after p 0 refl e s;
    first = refl;
    second = refl;
    last = refl;
  };
  in_quotes = record {
    pieces = codes "\"a b\" c" ∷ [];
    cut = (codes " c", refl, (refl, refl));
    outside = λ before after p e s. outside (codes "\"a b\" c" ∷ []) before after p 0 refl e s;
    first = refl;
    second = refl;
    last = refl;
  };
  in_class = record {
    pieces = codes "[ a] c" ∷ [];
    cut = (codes " c", refl, (refl, refl));
    outside = λ before after p e s. outside (codes "[ a] c" ∷ []) before after p 0 refl e s;
    first = refl;
    second = refl;
    last = refl;
  };
  behind_backslash = record {
    pieces = codes "a\\ b c" ∷ codes "\\ b c" ∷ codes "b c" ∷ [];
    cut = (codes "\\ b c", refl, (codes "b c", refl, (codes " c", refl, (refl, refl))));
    outside = λ before after p e s. outside (codes "a\\ b c" ∷ codes "\\ b c" ∷ codes "b c" ∷ []) before after p 0 refl e s;
    first = refl;
    second = refl;
    last = refl;
  };
}

pub slashes : Slashes
unfolding piece_at after_word run_at escape_at class_name_at enclosed_by bracketed_at range_at element_at elements_at class_at span has set_of single is_alpha is_digit is_alnum is_blank other_case named_set simple_escape octal_at hexadecimal_at until_quote take_up_to
slashes = record {
  slash = record {
    pieces = codes "a/b c" ∷ codes "/b c" ∷ codes "b c" ∷ [];
    cut = (codes "/b c", refl, (codes "b c", refl, (codes " c", refl, (refl, refl))));
    outside = λ before after p e s. outside (codes "a/b c" ∷ codes "/b c" ∷ codes "b c" ∷ []) before after p 0 refl e s;
    first = refl;
    second = refl;
    last = refl;
  };
  two_slashes = record {
    pieces = codes "a/b/c d" ∷ codes "/b/c d" ∷ codes "b/c d" ∷ codes "/c d" ∷ codes "c d" ∷ [];
    cut = (codes "/b/c d", refl, (codes "b/c d", refl, (codes "/c d", refl, (codes "c d", refl, (codes " d", refl, (refl, refl))))));
    outside = λ before after p e s. outside (codes "a/b/c d" ∷ codes "/b/c d" ∷ codes "b/c d" ∷ codes "/c d" ∷ codes "c d" ∷ []) before after p 0 refl e s;
    first = refl;
    second = refl;
    last = refl;
  };
  in_quotes = record {
    pieces = codes "\"a/b\" c" ∷ [];
    cut = (codes " c", refl, (refl, refl));
    outside = λ before after p e s. outside (codes "\"a/b\" c" ∷ []) before after p 0 refl e s;
    first = refl;
    second = refl;
    last = refl;
  };
  in_class = record {
    pieces = codes "[/]b c" ∷ codes "b c" ∷ [];
    cut = (codes "b c", refl, (codes " c", refl, (refl, refl)));
    outside = λ before after p e s. outside (codes "[/]b c" ∷ codes "b c" ∷ []) before after p 0 refl e s;
    first = refl;
    second = refl;
    last = refl;
  };
  behind_backslash = record {
    pieces = codes "a\\/b c" ∷ codes "\\/b c" ∷ codes "b c" ∷ [];
    cut = (codes "\\/b c", refl, (codes "b c", refl, (codes " c", refl, (refl, refl))));
    outside = λ before after p e s. outside (codes "a\\/b c" ∷ codes "\\/b c" ∷ codes "b c" ∷ []) before after p 0 refl e s;
    first = refl;
    second = refl;
    last = refl;
  };
  behind_parentheses = record {
    pieces = codes "(a)/b c" ∷ codes "a)/b c" ∷ codes ")/b c" ∷ codes "/b c" ∷ codes "b c" ∷ [];
    cut = (codes "a)/b c", refl, (codes ")/b c", refl, (codes "/b c", refl, (codes "b c", refl, (codes " c", refl, (refl, refl))))));
    outside = λ before after p e s. outside (codes "(a)/b c" ∷ codes "a)/b c" ∷ codes ")/b c" ∷ codes "/b c" ∷ codes "b c" ∷ []) before after p 0 refl e s;
    first = refl;
    second = refl;
    last = refl;
  };
}

pub dollars : Dollars
unfolding piece_at after_word escape_at is_blank simple_escape octal_at hexadecimal_at take_up_to
dollars = record {
  dollar = record {
    pieces = codes "a$ b" ∷ codes "$ b" ∷ [];
    cut = (codes "$ b", refl, (codes " b", refl, (refl, refl)));
    outside = λ before after p e s. outside (codes "a$ b" ∷ codes "$ b" ∷ []) before after p 0 refl e s;
    first = refl;
    second = refl;
    last = refl;
  };
  inside = record {
    pieces = codes "a$b c" ∷ codes "$b c" ∷ codes "b c" ∷ [];
    cut = (codes "$b c", refl, (codes "b c", refl, (codes " c", refl, (refl, refl))));
    outside = λ before after p e s. outside (codes "a$b c" ∷ codes "$b c" ∷ codes "b c" ∷ []) before after p 0 refl e s;
    first = refl;
    second = refl;
    last = refl;
  };
  behind_backslash = record {
    pieces = codes "a\\$ b" ∷ codes "\\$ b" ∷ [];
    cut = (codes "\\$ b", refl, (codes " b", refl, (refl, refl)));
    outside = λ before after p e s. outside (codes "a\\$ b" ∷ codes "\\$ b" ∷ []) before after p 0 refl e s;
    first = refl;
    second = refl;
    last = refl;
  };
  behind_a_slash = record {
    pieces = codes "a/b$ c" ∷ codes "/b$ c" ∷ codes "b$ c" ∷ codes "$ c" ∷ [];
    cut = (codes "/b$ c", refl, (codes "b$ c", refl, (codes "$ c", refl, (codes " c", refl, (refl, refl)))));
    outside = λ before after p e s. outside (codes "a/b$ c" ∷ codes "/b$ c" ∷ codes "b$ c" ∷ codes "$ c" ∷ []) before after p 0 refl e s;
    first = refl;
    second = refl;
    last = refl;
  };
}

abbrev Fronts : Type 0
Fronts = Option (List ℕ × List ℕ)

-- what is read first is the first piece
next_is : (u v rest rest' : List ℕ) → ◌≡◌ {A = Fronts} (Some (u, rest)) (Some (v, rest')) → (u ≡ v) × (rest ≡ rest')
next_is u v rest rest' e =
    let same : ◌≡◌ {A = List ℕ × List ℕ} (u, rest) (v, rest') = some_is (u, rest) (v, rest') e in
    (ap (λ (x : List ℕ × List ℕ). x.0) same, ap (λ (x : List ℕ × List ℕ). x.1) same)

-- A text that begins with two pieces and then a slash, of which the first opens a parenthesis.
shut : (pieces : List (List ℕ)) (end : ℕ) → IsReadAs piece_at (λ rest. (ends_pattern rest ≡ true) × (end + length rest ≡ length (codes "(a/b) c"))) (codes "(a/b) c") pieces
    → ((before after : List (List ℕ)) (p : List ℕ) → pieces ≡ before ++ p ∷ after → begins (codes "/") p ≡ true → depth before ≡ 0) → ⊥
unfolding piece_at is_blank
shut [] end cut out = (let e : ends_pattern (codes "(a/b) c") ≡ true = cut.0 in cc)
shut (p ∷ []) end (rest, here, cut) out =
    let (e, f) = next_is (codes "(a/b) c") p (codes "a/b) c") rest here in
    let ends : ends_pattern (codes "a/b) c") ≡ true = subst (λ t. ends_pattern t ≡ true) (sym f) cut.0 in
    cc
shut (p ∷ q ∷ []) end (rest, here, (last, there, cut)) out =
    let (e, f) = next_is (codes "(a/b) c") p (codes "a/b) c") rest here in
    let (g, h) = next_is (codes "a/b) c") q (codes "/b) c") last (subst (λ t. piece_at t ≡ Some (q, last)) (sym f) there) in
    let ends : ends_pattern (codes "/b) c") ≡ true = subst (λ t. ends_pattern t ≡ true) (sym h) cut.0 in
    cc
shut (p ∷ q ∷ s ∷ more) end (rest, here, (last, there, (after, behind, cut))) out =
    let (e, f) = next_is (codes "(a/b) c") p (codes "a/b) c") rest here in
    let (g, h) = next_is (codes "a/b) c") q (codes "/b) c") last (subst (λ t. piece_at t ≡ Some (q, last)) (sym f) there) in
    let (i, j) = next_is (codes "/b) c") s (codes "b) c") after (subst (λ t. piece_at t ≡ Some (s, after)) (sym h) behind) in
    let slashed : begins (codes "/") s ≡ true = subst (λ t. begins (codes "/") t ≡ true) i refl in
    let none : depth (p ∷ q ∷ []) ≡ 0 = out (p ∷ q ∷ []) more s refl slashed in
    let one : depth (codes "(a/b) c" ∷ codes "a/b) c" ∷ []) ≡ 0 = subst (λ t. depth (t ∷ codes "a/b) c" ∷ []) ≡ 0) (sym e) (subst (λ t. depth (p ∷ t ∷ []) ≡ 0) (sym g) none) in
    cc

-- a text in quotes without an end
unclosed : (pieces : List (List ℕ)) (end : ℕ) → IsReadAs piece_at (λ rest. (ends_pattern rest ≡ true) × (end + length rest ≡ length (codes "\"a b"))) (codes "\"a b") pieces → ⊥
unfolding piece_at until_quote is_blank
unclosed [] end cut = (let e : ends_pattern (codes "\"a b") ≡ true = cut.0 in cc)
unclosed (p ∷ pieces) end (rest, here, cut) = (let none : ◌≡◌ {A = Fronts} None (Some (p, rest)) = here in cc)

pub no_cuttings : NoCuttings
no_cuttings = record {
  in_parentheses = λ end first two special h. shut h.pieces end h.cut h.outside;
  open_quote = λ end first two special h. unclosed h.pieces end h.cut;
}
