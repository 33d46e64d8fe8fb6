use Rattle.std.proofs.Common.{◌≡◌, ◌∙◌, ◌++◌, ℕ, List, ap, codes, flat_map, length, map, sym}
use Rattle.std.specs.List.{range_with_len}
use Rattle.std.proofs.lemmas.List.{length-map}
use Rattle.std.proofs.lemmas.Result.{on_ok_weaker}
use Rattle.lexlook_calls.specs.Headers.{first_called, first_rules, in_language, number_line}
use Rattle.lexlook_calls.specs.declared.header.Language.{Language}
use Rattle.lexlook_calls.proofs.Called.{in_five}
use Rattle.lexlook_calls.proofs.header.add_first_rules.Goals as goal

-- the parts, where there are n names
parts_are : (l : Language) (names : List (List ℕ)) (n : ℕ) (old one two three four text : List ℕ) → n ≡ length names
    → one ≡ old ++ in_language l (codes "};\n\n/* For each rule the first one that is called as it is, and RULES for the default rule. */\n") (codes "\n/// For each rule the first one that is called as it is, and RULES for the default rule.\n")
    → two ≡ one ++ in_language l (codes "static const unsigned lex_first_rule[RULES + 1] = {\n") (codes "pub const FIRST_RULE: [u32; RULES as usize + 1] = [\n")
    → three ≡ two ++ flat_map (λ i. number_line (first_called names i)) (range_with_len 0 n) → four ≡ three ++ number_line n → text ≡ four ++ in_language l (codes "};\n") (codes "];\n") → text ≡ old ++ first_rules l names
parts_are l names n old one two three four text e h1 h2 h3 h4 h5 =
    in_five old _ _ (flat_map (λ i. number_line (first_called names i)) (range_with_len 0 (length names))) (number_line (length names)) _ one two three four text h1 h2
    (h3 ∙ ap (λ (k : ℕ). two ++ flat_map (λ i. number_line (first_called names i)) (range_with_len 0 k)) e) (h4 ∙ ap (λ (k : ℕ). three ++ number_line k) e) h5

pub returns : goal.returns
returns c = on_ok_weaker c.add_in-3.result
    (parts_are c.args.language (map (λ n. n.items) c.args.names.now) (length c.args.names.now) c.args.text.now.items _ _ _ _ _ (sym (length-map c.args.names.now (λ n. n.items))) c.in_ok-add_in.ensures c.in_ok-add_in-2.ensures c.in_ok-add_numbers.ensures c.in_ok-add_number_line.ensures)
    c.add_in-3.ensures
