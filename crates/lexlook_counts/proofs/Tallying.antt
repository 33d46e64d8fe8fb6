-- The counts of one turn more.
use Rattle.std.proofs.Common.{◌≡◌, ◌≢◌, ℕ, ◌+◌, ◌-◌, ◌^◌, ◌<◌, ◌≤◌, min, max, Bool, true, false, cond, List, [], ◌∷◌, ◌++◌, length, map, fold, get_or, set, replicate, refl, sym, ap, ◌∙◌, inl, inr, append-nil, length-append, arith}
use Rattle.std.specs.Prelude.{◌==◌, sum, count_by}
use Rattle.std.specs.List.{range_with_len}
use Rattle.std.proofs.lemmas.Bool.{cases_eq, eq-eqb, ne_eqb}
use Rattle.std.proofs.lemmas.List.{get_or-replicate, get_or-set_other, get_or-set_same, length-replicate, length-set, map-append}
use Rattle.std.proofs.lemmas.List.Elements.{filter-append}
use Rattle.std.proofs.lemmas.List.FromFn.{fill_by_all, get_or-map-range_with_len, length-map-range_with_len}
use Rattle.std.proofs.lemmas.List.Sums.{fold_push, sum_by_push}
use Rattle.lexscan_window.specs.declared.matched.MatchedRule.{MatchedRule}
use Rattle.lexscan_window.specs.declared.matched.MatchedRule.TheVariants.{Numbered, Default}
use Rattle.lexlook_counts.specs.Costs.{TurnCost}
use Rattle.lexlook_counts.specs.Counts.{beyond_of, capped, lengths_of, rule_count, rule_counts, same_rule, turn_count, turn_counts, turns_of}
use Rattle.lexlook_counts.specs.declared.tally.RuleCount.{RuleCount}

-- ---- numbers told by a function of their place

pub alike_in_range : {A : Type 0} (d : A) (f g : ℕ → A) (n : ℕ) → ((k : ℕ) → k < n → f k ≡ g k) → map f (range_with_len 0 n) ≡ map g (range_with_len 0 n)
alike_in_range d f g n e =
    fill_by_all g (map f (range_with_len 0 n)) n d (length-map-range_with_len f 0 n) (λ k low. get_or-map-range_with_len f 0 n k k d low (omega arith) ∙ e k low)

pub set_in_range : {A : Type 0} (d : A) (f g : ℕ → A) (n i : ℕ) (y : A) (xs : List A) → xs ≡ map f (range_with_len 0 n) → i < length xs → y ≡ g i → ((k : ℕ) → k ≢ i → f k ≡ g k) → set xs i y ≡ map g (range_with_len 0 n)
set_in_range d f g n i y xs is low here e =
    fill_by_all g (set xs i y) n d (length-set xs i y ∙ size)
    (λ k lt. elim (cases_eq k i) [
      | inl same ↦ ap (λ j. get_or (set xs i y) j d) same ∙ get_or-set_same xs i y d low ∙ here ∙ ap g (sym same)
      | inr other ↦ get_or-set_other xs i k y d other ∙ ap (λ l. get_or l k d) is ∙ get_or-map-range_with_len f 0 n k k d lt (omega arith) ∙ e k other
    ])
  where
    size : length xs ≡ n
    size = ap length is ∙ length-map-range_with_len f 0 n

-- ---- a rule's counts

-- The counts of a rule whose costs are these.
by_costs : (ts : List TurnCost) → RuleCount
by_costs ts = record {
  matches = capped (length ts);
  bytes = capped (sum (map (λ t. t.token.end - t.token.start) ts));
  longest = fold max 0 (map (λ t. t.token.end - t.token.start) ts);
  beyond = capped (sum (map (λ t. t.beyond) ts));
}

counts_of : (costs : List TurnCost) (r : MatchedRule) → rule_count costs r ≡ by_costs (turns_of r costs)
unfolding by_costs
counts_of costs r = refl

one_of : (r : MatchedRule) (costs : List TurnCost) (t : TurnCost) → same_rule r t.token.rule ≡ true → turns_of r (costs ++ t ∷ []) ≡ turns_of r costs ++ t ∷ []
one_of r costs t e =
    filter-append (λ u. same_rule r u.token.rule) costs (t ∷ []) ∙ ap (λ (b : Bool). turns_of r costs ++ cond b (t ∷ []) []) e

none_of : (r : MatchedRule) (costs : List TurnCost) (t : TurnCost) → same_rule r t.token.rule ≡ false → turns_of r (costs ++ t ∷ []) ≡ turns_of r costs
none_of r costs t e =
    filter-append (λ u. same_rule r u.token.rule) costs (t ∷ []) ∙ ap (λ (b : Bool). turns_of r costs ++ cond b (t ∷ []) []) e ∙ append-nil (turns_of r costs)

pub still_counted : (costs : List TurnCost) (t : TurnCost) (r : MatchedRule) → same_rule r t.token.rule ≡ false → rule_count costs r ≡ rule_count (costs ++ t ∷ []) r
still_counted costs t r e = counts_of costs r ∙ ap by_costs (sym (none_of r costs t e)) ∙ sym (counts_of (costs ++ t ∷ []) r)

-- equal numbers make equal counts
abbrev told : ℕ → ℕ → ℕ → ℕ → RuleCount
told a b c d = record { matches = a; bytes = b; longest = c; beyond = d }

same_counts : (a b c d e f g h : ℕ) → a ≡ e → b ≡ f → c ≡ g → d ≡ h → told a b c d ≡ told e f g h
same_counts a b c d e f g h p q r s = ap (λ (x : ℕ). told x b c d) p ∙ ap (λ (x : ℕ). told e x c d) q ∙ ap (λ (x : ℕ). told e f x d) r ∙ ap (told e f g) s

pub more_counted : (costs : List TurnCost) (t : TurnCost) (r : MatchedRule) (size behind matches bytes longest beyond : ℕ) (c : RuleCount) → c ≡ rule_count costs r → same_rule r t.token.rule ≡ true → t.token.end ≡ t.token.start + size → t.beyond ≡ behind
    → matches ≡ min (c.matches + 1) (2 ^ 64 - 1) → bytes ≡ min (c.bytes + size) (2 ^ 64 - 1) → longest ≡ max c.longest size → beyond ≡ min (c.beyond + behind) (2 ^ 64 - 1) → told matches bytes longest beyond ≡ rule_count (costs ++ t ∷ []) r
more_counted costs t r size behind matches bytes longest beyond c is e end behind_is m b g d =
    let more = one_of r costs t e in
    let lengths : lengths_of r (costs ++ t ∷ []) ≡ lengths_of r costs ++ (t.token.end - t.token.start) ∷ [] = ap (map (λ (u : TurnCost). u.token.end - u.token.start)) more ∙ map-append (λ (u : TurnCost). u.token.end - u.token.start) (turns_of r costs) (t ∷ []) in
    let looked : beyond_of r (costs ++ t ∷ []) ≡ beyond_of r costs ++ t.beyond ∷ [] = ap (map (λ (u : TurnCost). u.beyond)) more ∙ map-append (λ (u : TurnCost). u.beyond) (turns_of r costs) (t ∷ []) in
    let one : length (turns_of r (costs ++ t ∷ [])) ≡ length (turns_of r costs) + 1 = ap length more ∙ length-append (turns_of r costs) (t ∷ []) in
    let all : sum (lengths_of r (costs ++ t ∷ [])) ≡ sum (lengths_of r costs) + (t.token.end - t.token.start) = ap sum lengths ∙ sum_by_push (λ x. x) (lengths_of r costs) (t.token.end - t.token.start) in
    let past : sum (beyond_of r (costs ++ t ∷ [])) ≡ sum (beyond_of r costs) + t.beyond = ap sum looked ∙ sum_by_push (λ x. x) (beyond_of r costs) t.beyond in
    let top : fold max 0 (lengths_of r (costs ++ t ∷ [])) ≡ max (fold max 0 (lengths_of r costs)) (t.token.end - t.token.start) = ap (fold max 0) lengths ∙ fold_push max 0 (lengths_of r costs) (t.token.end - t.token.start) in
    same_counts matches bytes longest beyond _ _ _ _
    (omega (arith, m, one, ap (λ (k : RuleCount). k.matches) is))
    (omega (arith, b, all, end, ap (λ (k : RuleCount). k.bytes) is))
    (omega (arith, g, top, end, ap (λ (k : RuleCount). k.longest) is))
    (omega (arith, d, past, behind_is, ap (λ (k : RuleCount). k.beyond) is))

-- ---- the counts of all rules

other_rule : (k i : ℕ) (r : MatchedRule) → r ≡ Numbered i → k ≢ i → same_rule (Numbered k) r ≡ false
other_rule k i r e other = ap (same_rule (Numbered k)) e ∙ ne_eqb k i other

pub this_rule : (i : ℕ) (r : MatchedRule) → r ≡ Numbered i → same_rule (Numbered i) r ≡ true
this_rule i r e = ap (same_rule (Numbered i)) e ∙ eq-eqb i i refl

pub rules_more : (n i : ℕ) (costs : List TurnCost) (t : TurnCost) (y : RuleCount) (xs : List RuleCount) → xs ≡ rule_counts n costs → t.token.rule ≡ Numbered i → i < length xs → y ≡ rule_count (costs ++ t ∷ []) (Numbered i)
    → set xs i y ≡ rule_counts n (costs ++ t ∷ [])
rules_more n i costs t y xs is rule low here =
    set_in_range (told 0 0 0 0) (λ k. rule_count costs (Numbered k)) (λ k. rule_count (costs ++ t ∷ []) (Numbered k)) n i y xs is low here
    (λ k other. still_counted costs t (Numbered k) (other_rule k i t.token.rule rule other))

pub rules_past : (n i : ℕ) (costs : List TurnCost) (t : TurnCost) (xs : List RuleCount) → xs ≡ rule_counts n costs → t.token.rule ≡ Numbered i → length xs ≤ i → xs ≡ rule_counts n (costs ++ t ∷ [])
rules_past n i costs t xs is rule past =
    let size : length xs ≡ n = ap length is ∙ length-map-range_with_len (λ k. rule_count costs (Numbered k)) 0 n in
    is
    ∙ alike_in_range (told 0 0 0 0) (λ k. rule_count costs (Numbered k)) (λ k. rule_count (costs ++ t ∷ []) (Numbered k)) n
    (λ k low. still_counted costs t (Numbered k) (other_rule k i t.token.rule rule (λ e. omega (arith, e, low, size, past))))

pub rules_same : (n : ℕ) (costs : List TurnCost) (t : TurnCost) (xs : List RuleCount) → xs ≡ rule_counts n costs → t.token.rule ≡ Default → xs ≡ rule_counts n (costs ++ t ∷ [])
rules_same n costs t xs is rule =
    is
    ∙ alike_in_range (told 0 0 0 0) (λ k. rule_count costs (Numbered k)) (λ k. rule_count (costs ++ t ∷ []) (Numbered k)) n
    (λ k low. still_counted costs t (Numbered k) (ap (same_rule (Numbered k)) rule))

-- ---- the counts of conditions

one_turn : (costs : List TurnCost) (t : TurnCost) (c : ℕ) → count_by (λ u. u.token.condition == c) (costs ++ t ∷ []) ≡ count_by (λ u. u.token.condition == c) costs + cond (t.token.condition == c) 1 0
one_turn costs t c = sum_by_push (λ (u : TurnCost). cond (u.token.condition == c) 1 0) costs t

more_turns : (costs : List TurnCost) (t : TurnCost) (c n next : ℕ) → n ≡ turn_count costs c → t.token.condition ≡ c → next ≡ min (n + 1) (2 ^ 64 - 1) → next ≡ turn_count (costs ++ t ∷ []) c
more_turns costs t c n next is here more =
    let one = one_turn costs t c ∙ ap (λ (b : Bool). count_by (λ u. u.token.condition == c) costs + cond b 1 0) (eq-eqb t.token.condition c here) in
    omega (arith, is, more, one)

still_turns : (costs : List TurnCost) (t : TurnCost) (c : ℕ) → t.token.condition ≢ c → turn_count costs c ≡ turn_count (costs ++ t ∷ []) c
still_turns costs t c other =
    let none = one_turn costs t c ∙ ap (λ (b : Bool). count_by (λ u. u.token.condition == c) costs + cond b 1 0) (ne_eqb t.token.condition c other) in
    omega (arith, none)

pub turns_more : (n c : ℕ) (costs : List TurnCost) (t : TurnCost) (y next : ℕ) (xs : List ℕ) → xs ≡ turn_counts n costs → t.token.condition ≡ c → c < length xs → y ≡ get_or xs c 0 → next ≡ min (y + 1) (2 ^ 64 - 1)
    → set xs c next ≡ turn_counts n (costs ++ t ∷ [])
turns_more n c costs t y next xs is here low was more =
    let size : length xs ≡ n = ap length is ∙ length-map-range_with_len (turn_count costs) 0 n in
    let had : y ≡ turn_count costs c = was ∙ ap (λ l. get_or l c 0) is ∙ get_or-map-range_with_len (turn_count costs) 0 n c c 0 (omega (arith, low, size)) (omega arith) in
    set_in_range 0 (turn_count costs) (turn_count (costs ++ t ∷ [])) n c next xs is low (more_turns costs t c y next had here more)
    (λ k other. still_turns costs t k (λ e. other (sym e ∙ here)))

pub turns_past : (n c : ℕ) (costs : List TurnCost) (t : TurnCost) (xs : List ℕ) → xs ≡ turn_counts n costs → t.token.condition ≡ c → length xs ≤ c → xs ≡ turn_counts n (costs ++ t ∷ [])
turns_past n c costs t xs is here past =
    let size : length xs ≡ n = ap length is ∙ length-map-range_with_len (turn_count costs) 0 n in
    is ∙ alike_in_range 0 (turn_count costs) (turn_count (costs ++ t ∷ [])) n (λ k low. still_turns costs t k (λ e. omega (arith, e, here, low, size, past)))

-- ---- the counts of no costs

pub rules_none : (n : ℕ) (xs : List RuleCount) → xs ≡ replicate n (told 0 0 0 0) → xs ≡ rule_counts n []
rules_none n xs is =
    fill_by_all (λ k. rule_count [] (Numbered k)) xs n (told 0 0 0 0) (ap length is ∙ length-replicate n (told 0 0 0 0))
    (λ k low. ap (λ l. get_or l k (told 0 0 0 0)) is ∙ get_or-replicate n k (told 0 0 0 0) (told 0 0 0 0) low)

pub turns_none : (n : ℕ) (xs : List ℕ) → xs ≡ replicate n 0 → xs ≡ turn_counts n []
turns_none n xs is =
    fill_by_all (turn_count []) xs n 0 (ap length is ∙ length-replicate n 0) (λ k low. ap (λ l. get_or l k 0) is ∙ get_or-replicate n k 0 0 low)

pub none_counted : told 0 0 0 0 ≡ rule_count [] Default
none_counted = refl

-- the counts that stand at a rule's number
pub rule_at : (n i : ℕ) (costs : List TurnCost) (xs : List RuleCount) (d : RuleCount) → xs ≡ rule_counts n costs → i < length xs → get_or xs i d ≡ rule_count costs (Numbered i)
rule_at n i costs xs d is low =
    let size : length xs ≡ n = ap length is ∙ length-map-range_with_len (λ k. rule_count costs (Numbered k)) 0 n in
    ap (λ l. get_or l i d) is ∙ get_or-map-range_with_len (λ k. rule_count costs (Numbered k)) 0 n i i d (omega (arith, low, size)) (omega arith)

pub this_default : (r : MatchedRule) → r ≡ Default → same_rule Default r ≡ true
this_default r e = ap (same_rule Default) e
