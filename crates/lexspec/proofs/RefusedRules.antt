-- Lines that are no rules, in files that so spell no specification.
use Rattle.std.proofs.Common.{◌≡◌, ℕ, suc, ◌+◌, ◌-◌, true, false, Bool, List, [], ◌∷◌, map, take, drop, Option, Some, None, inl, inr, refl, sym, ap, ◌∙◌, subst}
use Rattle.std.specs.Prelude.{codes, IsSomeAnd, ◌||◌}
use Rattle.std.specs.FinMap.{get, from_entries}
use Rattle.lex_semantics.specs.ByteSets.{has, set_of, single, is_alpha, is_upper, is_lower, is_alnum, is_blank, is_digit}
use Rattle.lex_semantics.specs.Reading.{IsReadAs, begins, take_up_to, after_blanks}
use Rattle.lex_semantics.specs.Sound.{IsCutOf}
use Rattle.lex_semantics.specs.Spec.{Rule, Spec, Cut, Whole, Head, Trail}
use Rattle.lex_semantics.specs.Tree.{Tree, Star}
use Rattle.lexre.proofs.CuttingLaws.{one_cutting}
use Rattle.lexre.proofs.OneTree.{one_tree}
use Rattle.lexre.proofs.PatternsComputed.{is_tree}
use Rattle.lexre.proofs.PieceLaws.{cutting_of}
use Rattle.lexre.specs.Cutting.{IsCutting, piece_at}
use Rattle.lexre.specs.Definitions.{Definitions}
use Rattle.lexre.specs.PatternExamples.{plain, a, b}
use Rattle.lexre.specs.Pieces.{dollar, other, slash, kind_at, slashes, ends_with_dollar}
use Rattle.lexre.specs.Spelling.{Spells}
use Rattle.lexre_bytes.specs.Lexical.{symbol_at, after_word, name_at}
use Rattle.lexspec_actions.specs.ActionSteps as Steps
use Rattle.lexspec_actions.specs.ActionSteps.{Piece}
use Rattle.lexspec_actions.proofs.GrammarLaws.{to_steps}
use Rattle.lexspec_actions.specs.Bytes.{after_space, after_spaces}
use Rattle.lexspec_lines.proofs.OneSection.{no_true, one_up_to, separator_ends, some_pair}
use Rattle.lexspec_lines.specs.DefinitionLines.{definition_at, all_conditions, all_options, has_name, substitutes_of}
use Rattle.lexspec_lines.specs.Lines.{line_in, newlines, without_returns}
use Rattle.lexspec.proofs.CutLaws.{not_fixed_is}
use Rattle.lexspec.proofs.TestLaws.{tree_is_sound}
use Rattle.lexspec.proofs.FileSections.{sections_of}
use Rattle.lexspec.specs.FaultExamples.{NoBarWaits}
use Rattle.lexspec.specs.FaultLines.{AreUpTo}
use Rattle.lexspec.specs.Files.{SpellsSpec}
use Rattle.lexspec.specs.Items.{Conditions, unlisted, Subject, at_end, matching, Item, skipped, rule, IsSides, IsSubject, IsLine, AreItems, conditions_at, starts_rule, action_at, action_end, after_piece, action_of}
use Rattle.lexspec.specs.RuleItems.{AreRules, EndRule, known}
use Rattle.lexspec.specs.SpecExamples as Example
use Rattle.lexspec.specs.Tests.{any_below}

-- the file has no definitions
no_definitions : (file : List ℕ) → definition_at (without_returns file) ≡ None → (S : Spec) (h : SpellsSpec plain file S) → h.definitions ≡ []
no_definitions file stop S h =
    let cut = sections_of file h.definitions h.items h.sections in
    (one_up_to definition_at (without_returns file) h.definitions [] cut.after (without_returns file) cut.first refl (separator_ends cut.after cut.separator) stop).0

-- what the items of a file without definitions are, whose rules section is t
items_of : (file t : List ℕ) → definition_at (without_returns file) ≡ None → (line_in (without_returns file)).1 ≡ t → (S : Spec) (h : SpellsSpec plain file S)
    → (n : ℕ) × (rest : List ℕ) × AreItems n t h.items rest
items_of file t stop here S h =
    let cut = sections_of file h.definitions h.items h.sections in
    let same = one_up_to definition_at (without_returns file) h.definitions [] cut.after (without_returns file) cut.first refl (separator_ends cut.after cut.separator) stop in
    let n = 2 + newlines file - newlines cut.after in
    (n, cut.rest, subst (λ z. AreItems n z h.items cut.rest) (ap (λ z. (line_in z).1) same.1 ∙ here) cut.second)

-- The first item of a text that begins a rule without a list: its subject begins the text, and its action follows.
record First (t : List ℕ) (is : List (ℕ × Item)) : Type 0 where
  n : ℕ
  asked : Conditions
  subject : Subject
  action : Option (List ℕ)
  more : List (ℕ × Item)
  v : List ℕ
  text : List ℕ
  after : List ℕ
  is_so : is ≡ (n, rule asked subject action) ∷ more
  begins_so : IsSubject t subject v
  acts : ◌≡◌ {A = Option (List ℕ × List ℕ)} (action_at (after_blanks v)) (Some (text, after))
  action_is : action ≡ action_of text

first_item : (n : ℕ) (t : List ℕ) (is : List (ℕ × Item)) (rest : List ℕ) → (t ≡ [] → ⊥) → begins (codes "%%") t ≡ false → starts_rule t ≡ true
    → ◌≡◌ {A = Option (Conditions × List ℕ)} (conditions_at t) (Some (unlisted, t)) → AreItems n t is rest → First t is
first_item n t [] rest some no_separator starts list (same, inl none) = absurd (some none)
first_item n t [] rest some no_separator starts list (same, inr ends) = no_true (sym no_separator ∙ ends)
first_item n t ((m, skipped d) ∷ is) rest some no_separator starts list (next, at, (stops, line), more) = no_true (sym stops ∙ starts)
first_item n t ((m, rule asked subject action) ∷ is) rest some no_separator starts list (next, at, (so, u, v, text, listed, begins_so, acts, action_is), more) =
    let same = some_pair unlisted asked t u (sym list ∙ listed) in
    record {
      n = m;
      asked = asked;
      subject = subject;
      action = action;
      more = is;
      v = v;
      text = text;
      after = next;
      is_so = refl;
      begins_so = subst (λ z. IsSubject z subject v) (sym same.1) begins_so;
      acts = acts;
      action_is = action_is;
    }

-- a file whose rules section begins with no subject
no_subject : (file t : List ℕ) → definition_at (without_returns file) ≡ None → (line_in (without_returns file)).1 ≡ t → (t ≡ [] → ⊥) → begins (codes "%%") t ≡ false → starts_rule t ≡ true
    → ◌≡◌ {A = Option (Conditions × List ℕ)} (conditions_at t) (Some (unlisted, t)) → ((subject : Subject) (v : List ℕ) → IsSubject t subject v → ⊥) → Example.IsNoSpec file
no_subject file t stop here some no_separator starts list none S h =
    let items = items_of file t stop here S h in
    let first = first_item items.0 t h.items items.1 some no_separator starts list items.2 in
    none first.subject first.v first.begins_so

-- a pattern with a cutting that no rule has, behind no `^`
no_sides : (t : List ℕ) (end : ℕ) (at : Option ℕ) (two special : Bool) → begins (codes "<<EOF>>") t ≡ false → begins (codes "^") t ≡ false → IsCutting t end at two special
    → (◌≡◌ {A = Bool × Bool} (two, special) (false, false) → ⊥) → (◌≡◌ {A = Option ℕ × Bool} (at, two) (None, false) → ⊥) → (subject : Subject) (v : List ℕ) → IsSubject t subject v → ⊥
no_sides t end at two special no_end no_caret cut one two_ways at_end v (e, rest, ends) = no_true (sym no_end ∙ e)
no_sides t end at two special no_end no_caret cut one two_ways (matching true head trail) v (e, not_end, sides) = no_true (sym no_caret ∙ e)
no_sides t end at two special no_end no_caret cut one two_ways (matching false head None) v (e, not_end, (stop, so, head_is, rest)) =
    let same = one_cutting t end stop at None two false special false cut so in
    one (ap (λ z. (z, special)) same.2 ∙ ap (λ z. (false, z)) same.3)
no_sides t end at two special no_end no_caret cut one two_ways (matching false head (Some trail)) v (e, not_end, (stop, rest, inl (so, head_is, more))) =
    let same = one_cutting t end stop at None two false special true cut so in
    two_ways (ap (λ z. (z, two)) same.1 ∙ ap (λ z. (None, z)) same.2)
no_sides t end at two special no_end no_caret cut one two_ways (matching false head (Some trail)) v (e, not_end, (stop, rest, inr (place, so, head_is, more))) =
    let same = one_cutting t end stop at (Some place) two false special false cut so in
    one (ap (λ z. (z, special)) same.2 ∙ ap (λ z. (false, z)) same.3)

two_of : (b c b' c' : Bool) → ◌≡◌ {A = Bool × Bool} (b, c) (b', c') → (b ≡ b') × (c ≡ c')
two_of b c b' c' e = (ap (λ (p : Bool × Bool). p.0) e, ap (λ (p : Bool × Bool). p.1) e)

some_no_none : (n : ℕ) (b c : Bool) → ◌≡◌ {A = Option ℕ × Bool} (Some n, b) (None, c) → ⊥
some_no_none n b c e = no (ap (λ (p : Option ℕ × Bool). p.0) e)
  where
    no : ◌≡◌ {A = Option ℕ} (Some n) None → ⊥
    no f = cc

two_slashes : Example.IsNoSpec (codes "%%\na/b/c ;\n")
unfolding definition_at conditions_at take_up_to is_blank kind_at piece_at slashes ends_with_dollar
two_slashes =
    let t = codes "a/b/c ;\n" in
    let cut = cutting_of t 5 (Some 1) true false (record {
      pieces = (other, 0) ∷ (slash, 1) ∷ (other, 2) ∷ (slash, 3) ∷ (other, 4) ∷ [];
      cut = (codes "/b/c ;\n", refl, refl, (codes "b/c ;\n", refl, refl, (codes "/c ;\n", refl, refl, (codes "c ;\n", refl, refl, (codes " ;\n", refl, refl, (refl, refl))))));
      places = 1 ∷ 3 ∷ [];
      outside = refl;
      first = refl;
      second = refl;
      last = refl;
    }) in
    no_subject (codes "%%\na/b/c ;\n") t refl refl (λ e. cc) refl refl refl
    (no_sides t 5 (Some 1) true false refl refl cut (λ e. no_true (sym (two_of true false false false e).0)) (λ e. some_no_none 1 true false e))

slash_and_dollar : Example.IsNoSpec (codes "%%\na/b$ ;\n")
unfolding definition_at conditions_at take_up_to is_blank kind_at piece_at slashes ends_with_dollar
slash_and_dollar =
    let t = codes "a/b$ ;\n" in
    let cut = cutting_of t 4 (Some 1) false true (record {
      pieces = (other, 0) ∷ (slash, 1) ∷ (other, 2) ∷ (dollar, 3) ∷ [];
      cut = (codes "/b$ ;\n", refl, refl, (codes "b$ ;\n", refl, refl, (codes "$ ;\n", refl, refl, (codes " ;\n", refl, refl, (refl, refl)))));
      places = 1 ∷ [];
      outside = refl;
      first = refl;
      second = refl;
      last = refl;
    }) in
    no_subject (codes "%%\na/b$ ;\n") t refl refl (λ e. cc) refl refl refl
    (no_sides t 4 (Some 1) false true refl refl cut (λ e. no_true (sym (two_of false true false false e).1)) (λ e. some_no_none 1 false false e))

-- no subject begins with `^` before `<<EOF>>`, and so no item does
abbrev caret_at_end : List ℕ
caret_at_end = codes "^<<EOF>> ;\n"

none_at_line : (subject : Subject) (v : List ℕ) → IsSubject caret_at_end subject v → ⊥
none_at_line at_end v (e, rest, ends) = no_true e
none_at_line (matching true head trail) v (e, not_end, sides) = no_true (sym not_end)
none_at_line (matching false head trail) v (e, not_end, sides) = no_true (sym e)

end_at_line : Example.IsNoSpec (codes "%%\n^<<EOF>> ;\n")
unfolding definition_at conditions_at take_up_to is_blank
end_at_line = no_subject (codes "%%\n^<<EOF>> ;\n") caret_at_end refl refl (λ e. cc) refl refl refl none_at_line

begins_rule : starts_rule caret_at_end ≡ true
unfolding take_up_to is_blank
begins_rule = refl

without_list : ◌≡◌ {A = Option (Conditions × List ℕ)} (conditions_at caret_at_end) (Some (unlisted, caret_at_end))
unfolding conditions_at take_up_to is_blank
without_list = refl

no_item_at_line : (i : Item) (next : List ℕ) → IsLine caret_at_end i next → ⊥
no_item_at_line (skipped d) next (stops, line) = no_true (sym stops ∙ begins_rule)
no_item_at_line (rule asked subject action) next (so, u, v, text, listed, begins_so, acts, action_is) =
    let same = some_pair unlisted asked caret_at_end u (sym without_list ∙ listed) in
    none_at_line subject v (subst (λ z. IsSubject z subject v) (sym same.1) begins_so)

-- so the items before it are none, and these are rules
pub no_bar_waits : NoBarWaits
no_bar_waits names stack defined e h is = none_waits h.items h.read (h.bar is).0
  where
    none_waits : (items : List (ℕ × Item)) → AreUpTo 2 caret_at_end items h.place h.rest
        → ((rules : List Rule) (ends : List EndRule) → AreRules names plain stack defined items rules ends false → ⊥) → ⊥
    none_waits [] up_to none = none [] [] tt
    none_waits (i ∷ items) (next, here, item, more) none = no_item_at_line i.1 next item

bar_of_end : Example.IsNoSpec (codes "%%\n<<EOF>> |\na ;\n")
unfolding definition_at conditions_at take_up_to is_blank action_at action_end after_piece
bar_of_end S h =
    let items = items_of (codes "%%\n<<EOF>> |\na ;\n") (codes "<<EOF>> |\na ;\n") refl refl S h in
    let first = first_item items.0 (codes "<<EOF>> |\na ;\n") h.items items.1 (λ e. cc) refl refl refl items.2 in
    none first first.subject refl
  where
    none : (f : First (codes "<<EOF>> |\na ;\n") h.items) (subject : Subject) → f.subject ≡ subject → ⊥
    none f at_end e =
        let (here, rest, ends) = subst (λ s. IsSubject (codes "<<EOF>> |\na ;\n") s f.v) e f.begins_so in
        let acts : ◌≡◌ {A = Option (List ℕ × List ℕ)} (action_at (after_blanks (codes " |\na ;\n"))) (Some (f.text, f.after)) = subst (λ v. action_at (after_blanks v) ≡ Some (f.text, f.after)) rest f.acts in
        let bar = some_pair (codes "|") f.text (codes "a ;\n") f.after acts in
        let takes : f.action ≡ None = f.action_is ∙ ap action_of (sym bar.0) in
        let all : h.items ≡ (f.n, rule f.asked at_end None) ∷ f.more =
        f.is_so ∙ ap (λ s. (f.n, rule f.asked s f.action) ∷ f.more) e ∙ ap (λ o. (f.n, rule f.asked at_end o) ∷ f.more) takes in
        subst (λ is. AreRules (map (λ c. c.1) (all_conditions h.definitions)) (record { fold = plain.fold || has_name (all_options h.definitions) (codes "case-insensitive"); posix = plain.posix }) (has_name (all_options h.definitions) (codes "stack")) (from_entries (substitutes_of h.definitions)) is S.rules h.ends false) all h.rules
    none f (matching true head trail) e =
        let (here, not_end, sides) = subst (λ s. IsSubject (codes "<<EOF>> |\na ;\n") s f.v) e f.begins_so in
        no_true here
    none f (matching false head trail) e =
        let (here, not_end, sides) = subst (λ s. IsSubject (codes "<<EOF>> |\na ;\n") s f.v) e f.begins_so in
        no_true (sym not_end)

-- neither `a*` nor `b*` has a fixed length
no_cut_of_both : (cut : Cut) → IsCutOf (Star a) (Some (Star b)) cut → ⊥
unfolding has single set_of any_below
no_cut_of_both Whole h = h
no_cut_of_both (Head m) h = not_fixed_is (Star a) (tree_is_sound (Star a) refl) false refl refl m h
no_cut_of_both (Trail n) h = not_fixed_is (Star b) (tree_is_sound (Star b) refl) false refl refl n h.1

vary : (names : List (List ℕ)) (stack : Bool) (defined : Definitions) (n : ℕ) (asked : Conditions) (more : List (ℕ × Item)) (rules : List Rule) (ends : List EndRule)
    → AreRules names plain stack defined ((n, rule asked (matching false (codes "a*") (Some (codes "b*"))) (Some (codes ";"))) ∷ more) rules ends false → ⊥
unfolding symbol_at
vary names stack defined n asked more [] ends h = h
vary names stack defined n asked more (r ∷ rules) ends (h, acts, rest) = with_trail r.trail h.trail_is h.cut_is
  where
    head : r.head ≡ Star a
    head = one_tree false (symbol_at false) (get defined) refl 64 (codes "a*") r.head (Star a) h.head_is.0 (is_tree plain 20 (codes "a*") (Star a) refl refl defined).0

    with_trail : (trail : Option Tree) → IsSomeAnd trail (Spells plain defined (codes "b*")) → IsCutOf r.head trail r.cut → ⊥
    with_trail None spells cut = spells
    with_trail (Some u) spells cut =
        let after : u ≡ Star b = one_tree false (symbol_at false) (get defined) refl 64 (codes "b*") u (Star b) spells.0 (is_tree plain 20 (codes "b*") (Star b) refl refl defined).0 in
        no_cut_of_both r.cut (subst (λ z. IsCutOf (Star a) (Some z) r.cut) after (subst (λ z. IsCutOf z (Some u) r.cut) head cut))

both_vary : Example.IsNoSpec (codes "%%\na*/b* ;\n")
unfolding definition_at conditions_at take_up_to is_blank action_at action_end after_piece kind_at piece_at slashes ends_with_dollar
both_vary S h =
    let items = items_of (codes "%%\na*/b* ;\n") (codes "a*/b* ;\n") refl refl S h in
    let first = first_item items.0 (codes "a*/b* ;\n") h.items items.1 (λ e. cc) refl refl refl items.2 in
    none first first.subject refl
  where
    cut : IsCutting (codes "a*/b* ;\n") 5 (Some 2) false false
    cut = cutting_of (codes "a*/b* ;\n") 5 (Some 2) false false (record {
      pieces = (other, 0) ∷ (other, 1) ∷ (slash, 2) ∷ (other, 3) ∷ (other, 4) ∷ [];
      cut = (codes "*/b* ;\n", refl, refl, (codes "/b* ;\n", refl, refl, (codes "b* ;\n", refl, refl, (codes "* ;\n", refl, refl, (codes " ;\n", refl, refl, (refl, refl))))));
      places = 2 ∷ [];
      outside = refl;
      first = refl;
      second = refl;
      last = refl;
    })

    some_is_no_none : (n : ℕ) → ◌≡◌ {A = Option ℕ} (Some n) None → ⊥
    some_is_no_none n e = cc

    some_same : (m n : ℕ) → ◌≡◌ {A = Option ℕ} (Some m) (Some n) → m ≡ n
    some_same m n e = cc

    none : (f : First (codes "a*/b* ;\n") h.items) (subject : Subject) → f.subject ≡ subject → ⊥
    none f at_end e = (let (here, rest, ends) = subst (λ s. IsSubject (codes "a*/b* ;\n") s f.v) e f.begins_so in no_true here)
    none f (matching true head trail) e = (let (here, not_end, sides) = subst (λ s. IsSubject (codes "a*/b* ;\n") s f.v) e f.begins_so in no_true here)
    none f (matching false head None) e =
        let (here, not_end, (stop, so, head_is, more)) = subst (λ s. IsSubject (codes "a*/b* ;\n") s f.v) e f.begins_so in
        some_is_no_none 2 (one_cutting (codes "a*/b* ;\n") 5 stop (Some 2) None false false false false cut so).1
    none f (matching false head (Some trail)) e = with_sides (subst (λ s. IsSubject (codes "a*/b* ;\n") s f.v) e f.begins_so).2
      where
        with_sides : IsSides (codes "a*/b* ;\n") head (Some trail) f.v → ⊥
        with_sides (stop, rest, inl (so, head_is, more)) = some_is_no_none 2 (one_cutting (codes "a*/b* ;\n") 5 stop (Some 2) None false false false true cut so).1
        with_sides (stop, rest, inr (at, so, head_is, trail_is)) =
            let same = one_cutting (codes "a*/b* ;\n") 5 stop (Some 2) (Some at) false false false false cut so in
            let place : 2 ≡ at = some_same 2 at same.1 in
            let v_is : f.v ≡ codes " ;\n" = rest ∙ ap (λ n. drop n (codes "a*/b* ;\n")) (sym same.0) in
            let front : head ≡ codes "a*" = head_is ∙ ap (λ n. take n (codes "a*/b* ;\n")) (sym place) in
            let back : trail ≡ codes "b*" =
            trail_is ∙ ap (λ n. take (stop - suc n) (drop (suc n) (codes "a*/b* ;\n"))) (sym place) ∙ ap (λ n. take (n - 3) (drop 3 (codes "a*/b* ;\n"))) (sym same.0) in
            let acts : ◌≡◌ {A = Option (List ℕ × List ℕ)} (action_at (after_blanks (codes " ;\n"))) (Some (f.text, f.after)) = subst (λ v. action_at (after_blanks v) ≡ Some (f.text, f.after)) v_is f.acts in
            let nothing = some_pair (codes ";") f.text [] f.after acts in
            let does : f.action ≡ Some (codes ";") = f.action_is ∙ ap action_of (sym nothing.0) in
            let all : h.items ≡ (f.n, rule f.asked (matching false (codes "a*") (Some (codes "b*"))) (Some (codes ";"))) ∷ f.more =
            f.is_so ∙ ap (λ s. (f.n, rule f.asked s f.action) ∷ f.more) e ∙ ap (λ o. (f.n, rule f.asked (matching false head (Some trail)) o) ∷ f.more) does
            ∙ ap (λ x. (f.n, rule f.asked (matching false x (Some trail)) (Some (codes ";"))) ∷ f.more) front ∙ ap (λ x. (f.n, rule f.asked (matching false (codes "a*") (Some x)) (Some (codes ";"))) ∷ f.more) back in
            let none_defined = no_definitions (codes "%%\na*/b* ;\n") refl S h in
            vary (map (λ c. c.1) (all_conditions h.definitions)) (has_name (all_options h.definitions) (codes "stack")) (from_entries (substitutes_of h.definitions)) f.n f.asked f.more S.rules h.ends
            (subst (λ how. AreRules (map (λ c. c.1) (all_conditions h.definitions)) how (has_name (all_options h.definitions) (codes "stack")) (from_entries (substitutes_of h.definitions)) ((f.n, rule f.asked (matching false (codes "a*") (Some (codes "b*"))) (Some (codes ";"))) ∷ f.more) S.rules h.ends false)
            (ap (λ ds. record { fold = plain.fold || has_name (all_options ds) (codes "case-insensitive"); posix = plain.posix }) none_defined)
            (subst (λ is. AreRules (map (λ c. c.1) (all_conditions h.definitions)) (record { fold = plain.fold || has_name (all_options h.definitions) (codes "case-insensitive"); posix = plain.posix }) (has_name (all_options h.definitions) (codes "stack")) (from_entries (substitutes_of h.definitions)) is S.rules h.ends false) all h.rules))

-- the text of a statement of the stack, where the option is not set
no_piece : (names : List (List ℕ)) (defined : Definitions) (ps : List Piece) → IsReadAs (Steps.piece_at (known names plain false defined)) Steps.NoPiece (codes "yy_pop_state();") ps → ⊥
unfolding take_up_to is_alpha is_upper is_lower is_alnum is_blank is_digit after_word name_at after_space after_spaces Steps.piece_from Steps.statement_at Steps.after_word
no_piece names defined [] cut = cc
no_piece names defined (p ∷ ps) (rest, here, cut) = no here
  where
    no : ◌≡◌ {A = Option (Piece × List ℕ)} None (Some (p, rest)) → ⊥
    no e = cc

pops : (names : List (List ℕ)) (defined : Definitions) (n : ℕ) (asked : Conditions) (more : List (ℕ × Item)) (rules : List Rule) (ends : List EndRule)
    → AreRules names plain false defined ((n, rule asked (matching false (codes "a") None) (Some (codes "yy_pop_state();"))) ∷ more) rules ends false → ⊥
pops names defined n asked more [] ends h = h
pops names defined n asked more (r ∷ rules) ends (h, acts, rest) = (let steps = to_steps (known names plain false defined) (codes "yy_pop_state();") r.statements acts.0 in no_piece names defined steps.0 steps.1)

no_stack : Example.IsNoSpec (codes "%%\na yy_pop_state();\n")
unfolding definition_at conditions_at take_up_to is_blank action_at action_end after_piece kind_at piece_at slashes ends_with_dollar
no_stack S h =
    let items = items_of (codes "%%\na yy_pop_state();\n") (codes "a yy_pop_state();\n") refl refl S h in
    let first = first_item items.0 (codes "a yy_pop_state();\n") h.items items.1 (λ e. cc) refl refl refl items.2 in
    none first first.subject refl
  where
    cut : IsCutting (codes "a yy_pop_state();\n") 1 None false false
    cut = cutting_of (codes "a yy_pop_state();\n") 1 None false false (record { pieces = (other, 0) ∷ []; cut = (codes " yy_pop_state();\n", refl, refl, (refl, refl)); places = []; outside = refl; first = refl; second = refl; last = refl })

    none_is_no_some : (n : ℕ) → ◌≡◌ {A = Option ℕ} None (Some n) → ⊥
    none_is_no_some n e = cc

    none : (f : First (codes "a yy_pop_state();\n") h.items) (subject : Subject) → f.subject ≡ subject → ⊥
    none f at_end e = (let (here, rest, ends) = subst (λ s. IsSubject (codes "a yy_pop_state();\n") s f.v) e f.begins_so in no_true here)
    none f (matching true head trail) e = (let (here, not_end, sides) = subst (λ s. IsSubject (codes "a yy_pop_state();\n") s f.v) e f.begins_so in no_true here)
    none f (matching false head (Some trail)) e = with_trail (subst (λ s. IsSubject (codes "a yy_pop_state();\n") s f.v) e f.begins_so).2
      where
        with_trail : IsSides (codes "a yy_pop_state();\n") head (Some trail) f.v → ⊥
        with_trail (stop, rest, inl (so, head_is, more)) = no_true (one_cutting (codes "a yy_pop_state();\n") 1 stop None None false false false true cut so).3
        with_trail (stop, rest, inr (at, so, head_is, more)) = none_is_no_some at (one_cutting (codes "a yy_pop_state();\n") 1 stop None (Some at) false false false false cut so).1
    none f (matching false head None) e =
        let (here, not_end, (stop, so, head_is, rest)) = subst (λ s. IsSubject (codes "a yy_pop_state();\n") s f.v) e f.begins_so in
        let same = one_cutting (codes "a yy_pop_state();\n") 1 stop None None false false false false cut so in
        let v_is : f.v ≡ codes " yy_pop_state();\n" = rest ∙ ap (λ n. drop n (codes "a yy_pop_state();\n")) (sym same.0) in
        let front : head ≡ codes "a" = head_is ∙ ap (λ n. take n (codes "a yy_pop_state();\n")) (sym same.0) in
        let acts : ◌≡◌ {A = Option (List ℕ × List ℕ)} (action_at (after_blanks (codes " yy_pop_state();\n"))) (Some (f.text, f.after)) = subst (λ v. action_at (after_blanks v) ≡ Some (f.text, f.after)) v_is f.acts in
        let pop = some_pair (codes "yy_pop_state();") f.text [] f.after acts in
        let does : f.action ≡ Some (codes "yy_pop_state();") = f.action_is ∙ ap action_of (sym pop.0) in
        let all : h.items ≡ (f.n, rule f.asked (matching false (codes "a") None) (Some (codes "yy_pop_state();"))) ∷ f.more =
        f.is_so ∙ ap (λ s. (f.n, rule f.asked s f.action) ∷ f.more) e ∙ ap (λ o. (f.n, rule f.asked (matching false head None) o) ∷ f.more) does
        ∙ ap (λ x. (f.n, rule f.asked (matching false x None) (Some (codes "yy_pop_state();"))) ∷ f.more) front in
        let none_defined = no_definitions (codes "%%\na yy_pop_state();\n") refl S h in
        pops (map (λ c. c.1) (all_conditions h.definitions)) (from_entries (substitutes_of h.definitions)) f.n f.asked f.more S.rules h.ends
        (subst (λ stack. AreRules (map (λ c. c.1) (all_conditions h.definitions)) plain stack (from_entries (substitutes_of h.definitions)) ((f.n, rule f.asked (matching false (codes "a") None) (Some (codes "yy_pop_state();"))) ∷ f.more) S.rules h.ends false)
        (ap (λ ds. has_name (all_options ds) (codes "stack")) none_defined)
        (subst (λ how. AreRules (map (λ c. c.1) (all_conditions h.definitions)) how (has_name (all_options h.definitions) (codes "stack")) (from_entries (substitutes_of h.definitions)) ((f.n, rule f.asked (matching false (codes "a") None) (Some (codes "yy_pop_state();"))) ∷ f.more) S.rules h.ends false)
        (ap (λ ds. record { fold = plain.fold || has_name (all_options ds) (codes "case-insensitive"); posix = plain.posix }) none_defined)
        (subst (λ is. AreRules (map (λ c. c.1) (all_conditions h.definitions)) (record { fold = plain.fold || has_name (all_options h.definitions) (codes "case-insensitive"); posix = plain.posix }) (has_name (all_options h.definitions) (codes "stack")) (from_entries (substitutes_of h.definitions)) is S.rules h.ends false) all h.rules)))

pub no_rules : Example.NoRules
no_rules = record { two_slashes = two_slashes; slash_and_dollar = slash_and_dollar; end_at_line = end_at_line; bar_of_end = bar_of_end; both_vary = both_vary; no_stack = no_stack }
