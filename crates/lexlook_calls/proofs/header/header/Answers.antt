use Rattle.std.proofs.Common.{◌≡◌, ◌∙◌, ◌++◌, [], ℕ, List, ap, codes, flat_map, length, map, sym}
use Rattle.std.specs.List.{range_with_len}
use Rattle.std.proofs.lemmas.List.{length-map}
use Rattle.lexlook_specs.proofs.Joining.{in_three}
use Rattle.lexlook_calls.specs.Headers.{constant_line, first_rules, header, header_top, rule_line}
use Rattle.lexlook_calls.specs.declared.header.Language.{Language}
use Rattle.lexlook_calls.proofs.header.header.Goals as goal

-- the parts, where there are n names
parts_are : (l : Language) (names : List (List ℕ)) (n : ℕ) (one two three text : List ℕ) → n ≡ length names
    → one ≡ header_top l → two ≡ one ++ flat_map (rule_line l names) (range_with_len 0 n) → three ≡ two ++ constant_line l (codes "RULES") n → text ≡ three ++ first_rules l names → text ≡ header l names
parts_are l names n one two three text e h1 h2 h3 h4 =
    in_three (header_top l) (flat_map (rule_line l names) (range_with_len 0 (length names))) (constant_line l (codes "RULES") (length names)) (first_rules l names) two three text
    (h2 ∙ ap (λ (k : ℕ). one ++ flat_map (rule_line l names) (range_with_len 0 k)) e ∙ ap (λ w. w ++ flat_map (rule_line l names) (range_with_len 0 (length names))) h1)
    (h3 ∙ ap (λ (k : ℕ). two ++ constant_line l (codes "RULES") k) e) h4

pub returns : goal.returns
returns c =
    let none : c.new-text.result.items ≡ [] = c.new-text.ensures.items in
    let top : c.add_in.new.text.items ≡ header_top c.args.language = c.in_ok-add_in.ensures ∙ ap (λ (w : List ℕ). w ++ header_top c.args.language) none in
    parts_are c.args.language (map (λ n. n.items) c.args.names.now) (length c.args.names.now) _ _ _ _ (sym (length-map c.args.names.now (λ n. n.items))) top c.in_ok-add_rules.ensures c.in_ok-add_constant.ensures c.in_ok-add_first_rules.ensures
