-- What gathering the tokens of a whole input leaves.
use Rattle.std.proofs.Common.{◌≡◌, ℕ, ◌+◌, ◌-◌, ◌<◌, ◌≤◌, inl, inr, ◌⊎◌, min, Bool, true, false, List, [], ◌∷◌, ◌++◌, length, map, take, drop, Ok, refl, sym, ap, subst, ◌∙◌, length-append, arith}
use Rattle.std.proofs.lemmas.List.{take_all, take-take, take-append-le, take-append-drop, length-take, length-map, map-append, drop_all, append-nil}
use Rattle.std.proofs.Math.Seq.{take-add, take-append_seam, drop-append_seam}
use Rattle.lex_semantics.specs.Text.{IsText, part}
use Rattle.lex_semantics.specs.Demand.{Consistent}
use Rattle.lex_semantics.specs.Machine.{Machine}
use Rattle.lexscan_window.specs.declared.state.State.{State}
use Rattle.lexscan_window.specs.declared.error.RunError.TheVariants as runs
use Rattle.lexscan.specs.declared.token.Token.{Token}
use Rattle.lexscan.specs.declared.pull.Pulled.{Pulled}
use Rattle.lexscan.specs.Pulls.{TokensTold, AfterPull}
use Rattle.lexscan.specs.Scanners.{pull_machine, pull_state, pull_waiting, pull_finished}
use Rattle.liblex_calls.specs.Buffers.{HandedOut}
use Rattle.liblex_calls.specs.Listing.{text_token}
use Rattle.liblex_calls.specs.Rules.{rules_machine}
use Rattle.liblex_calls.specs.Gathering.{AreKept, Feeds, kept_tokens}
use Rattle.lexscan.specs.declared.series.BriefToken.{BriefToken}
use Rattle.liblex_calls.specs.Brief.{long_tokens}
use Rattle.liblex_calls.specs.declared.gathering.KeptTokens.{KeptTokens}
use Rattle.liblex_calls.specs.declared.gathering.WholeScan.{WholeScan}
use Rattle.liblex_calls.specs.declared.listing.TextToken.{TextToken}
use Rattle.liblex_calls.proofs.Lining.{front_part}
use Rattle.liblex_calls.proofs.Drawn.{drawn_length, either_way, both_put}

-- Where only the first items are kept that there is room for, a buffer gets what it would get of all.
rest_is : (items old : List TextToken) → (length items ≤ length old) ⊎ (length old ≤ length items) → drop (length (take (length old) items)) old ≡ drop (length items) old
rest_is items old (inl le) = ap (λ l. drop (length l) old) (take_all (length old) items le)
rest_is items old (inr le) =
    let size : length (take (length old) items) ≡ min (length old) (length items) = length-take (length old) items in
    drop_all (length (take (length old) items)) old (omega arith) ∙ sym (drop_all (length items) old le)

pub first_handed : (items list old new : List TextToken) (room count : ℕ) → list ≡ take room items → room ≡ length old → new ≡ take (length old) list ++ drop (length list) old → count ≡ length items → HandedOut items old new count
first_handed items list old new room count is size buffer all =
    let n = length old in
    let first : list ≡ take n items = is ∙ ap (λ k. take k items) size in
    record {
      buffer =
          buffer ∙ ap (λ l. take n l ++ drop (length l) old) first ∙ ap (λ l. l ++ drop (length (take n items)) old) (take-take n n items (omega arith)) ∙ ap (λ l. take n items ++ l) (rest_is items old (either_way (length items) n));
      count_is = all;
    }

-- how many are kept
pub kept_length : (k : KeptTokens) → length (kept_tokens k) ≡ length k.brief.items + length k.long.items
kept_length k = omega (arith, length-append (long_tokens 0 k.brief.items) k.long.items, drawn_length 0 k.brief.items)

-- what stands in a buffer that got those in brief, and then the others behind them
pub handed_kept : (tokens : List Token) (k : KeptTokens) (old mid new : List TextToken) (brief : List BriefToken) (long : List TextToken) (n : ℕ) → AreKept tokens k → k.room ≡ length old → brief ≡ k.brief.items → long ≡ k.long.items → n ≡ length brief → mid ≡ take (length old) (long_tokens 0 brief) ++ drop (length brief) old → take n new ≡ take n mid →
    take (length long) (drop n new) ≡ long → drop (n + length long) new ≡ drop (n + length long) mid → HandedOut (map text_token tokens) old new k.count
handed_kept tokens k old mid new brief long n h size brief_is long_is count was front behind rest =
    let drawn = long_tokens 0 brief in
    let lengths : length drawn ≡ n = drawn_length 0 brief ∙ sym count in
    let few : n + length long ≤ length old = omega (arith, k.few, size, count, ap length brief_is, ap length long_is) in
    let all : drawn ++ long ≡ kept_tokens k = ap (λ l. long_tokens 0 l ++ long) brief_is ∙ ap (λ l. long_tokens 0 k.brief.items ++ l) long_is in
    first_handed (map text_token tokens) (drawn ++ long) old new k.room k.count (all ∙ h.first) size (both_put drawn long old mid new n (sym lengths) few (was ∙ ap (λ i. take (length old) drawn ++ drop i old) (sym count)) front behind rest) (h.count_is ∙ sym (length-map tokens text_token))

-- One token more, where there is room for it, and where there is none.
kept_more : (room : ℕ) (all list : List TextToken) (t : TextToken) → list ≡ take room all → length list < room → list ++ t ∷ [] ≡ take room (all ++ t ∷ [])
kept_more room all list t is few =
    let size : length list ≡ min room (length all) = ap length is ∙ length-take room all in
    let low : length all < room = omega arith in
    ap (λ l. l ++ t ∷ []) (is ∙ take_all room all (omega arith)) ∙ sym (take_all room (all ++ t ∷ []) (omega (arith, length-append all (t ∷ []))))

kept_full : (room : ℕ) (all list : List TextToken) (t : TextToken) → list ≡ take room all → room ≤ length list → list ≡ take room (all ++ t ∷ [])
kept_full room all list t is full =
    let size : length list ≡ min room (length all) = ap length is ∙ length-take room all in
    is ∙ sym (take-append-le room all (t ∷ []) (omega arith))

module _ (tokens : List Token) (t : Token) (k l : KeptTokens) (h : AreKept tokens k) (room : l.room ≡ k.room) (count : l.count ≡ k.count + 1) where
  with_more : take k.room (map text_token tokens ++ text_token t ∷ []) ≡ take l.room (map text_token (tokens ++ t ∷ []))
  with_more = ap (λ n. take n (map text_token tokens ++ text_token t ∷ [])) (sym room) ∙ ap (take l.room) (sym (map-append text_token tokens (t ∷ [])))

  one_more : l.count ≡ length (tokens ++ t ∷ [])
  one_more = omega (arith, count, h.count_is, length-append tokens (t ∷ []))

  pub more_kept : kept_tokens l ≡ kept_tokens k ++ text_token t ∷ [] → length (kept_tokens k) < k.room → AreKept (tokens ++ t ∷ []) l
  more_kept list few = record {
    first = list ∙ kept_more k.room (map text_token tokens) (kept_tokens k) (text_token t) h.first few ∙ with_more;
    count_is = one_more;
  }

  pub full_kept : kept_tokens l ≡ kept_tokens k → k.room ≤ length (kept_tokens k) → AreKept (tokens ++ t ∷ []) l
  full_kept list full = record {
    first = list ∙ kept_full k.room (map text_token tokens) (kept_tokens k) (text_token t) h.first full ∙ with_more;
    count_is = one_more;
  }

-- Of several tokens more the first, as many as there is room for.
take_few : (n : ℕ) (l : List TextToken) → take (min n (length l)) l ≡ take n l
take_few n l = from (either_way n (length l))
  where
    from : (n ≤ length l) ⊎ (length l ≤ n) → take (min n (length l)) l ≡ take n l
    from (inl le) = let e : min n (length l) ≡ n = omega (arith, le) in ap (λ k. take k l) e
    from (inr le) = take_all (min n (length l)) l (omega (arith, le)) ∙ sym (take_all n l le)

take_past : (held more : List TextToken) (k : ℕ) → take (length held + k) (held ++ more) ≡ held ++ take k more
take_past held more k = take-add (length held) k (held ++ more) ∙ ap (λ l. l ++ take k (drop (length held) (held ++ more))) (take-append_seam held more) ∙ ap (λ l. held ++ take k l) (drop-append_seam held more)

kept_several : (room : ℕ) (all list more : List TextToken) → list ≡ take room all → list ++ take (room - length list) more ≡ take room (all ++ more)
kept_several room all list more is = from (either_way (length all) room)
  where
    size : length list ≡ min room (length all)
    size = ap length is ∙ length-take room all

    from : (length all ≤ room) ⊎ (room ≤ length all) → list ++ take (room - length list) more ≡ take room (all ++ more)
    from (inl le) =
        let e : length all + (room - length list) ≡ room = omega (arith, size, le) in
        ap (λ l. l ++ take (room - length list) more) (is ∙ take_all room all le) ∙ sym (take_past all more (room - length list)) ∙ ap (λ n. take n (all ++ more)) e
    from (inr le) =
        let none : room - length list ≡ 0 = omega (arith, size, le) in
        ap (λ n. list ++ take n more) none ∙ append-nil list ∙ is ∙ sym (take-append-le room all more le)

pub several_kept : (tokens more : List Token) (k l : KeptTokens) (n : ℕ) → AreKept tokens k → n ≡ min (k.room - length (kept_tokens k)) (length more) → l.room ≡ k.room → l.count ≡ k.count + length more → kept_tokens l ≡ kept_tokens k ++ take n (map text_token more) → AreKept (tokens ++ more) l
several_kept tokens more k l n h is room count list = record {
  first =
      list
      ∙ ap (λ i. kept_tokens k ++ take i (map text_token more)) (is ∙ ap (min (k.room - length (kept_tokens k))) (sym (length-map more text_token)))
      ∙ ap (λ x. kept_tokens k ++ x) (take_few (k.room - length (kept_tokens k)) (map text_token more))
      ∙ kept_several k.room (map text_token tokens) (kept_tokens k) (map text_token more) h.first
      ∙ ap (λ i. take i (map text_token tokens ++ map text_token more)) (sym room) ∙ ap (take l.room) (sym (map-append text_token tokens more));
  count_is = omega (arith, count, h.count_is, length-append tokens more);
}

-- The input goes on from what was fed of it.
pub goes_on_so : (input : List ℕ) (fed : ℕ) (told : Bool) → IsText input → (told ≡ true → fed ≡ length input) → Consistent (take fed input) told input
goes_on_so input fed true text whole = (text, sym (take_all fed input (omega (arith, whole refl))))
goes_on_so input fed false text whole = (text, (drop fed input, sym (take-append-drop fed input)))

-- what a call tells, of a machine that is known
pub pulled_by : (N M : Machine) (fed : List ℕ) (finished : Bool) (tokens : List Token) (s t : State) (waiting left text : List ℕ) (u v : Pulled) → N ≡ M → u ≡ v → (TokensTold N fed finished tokens s waiting → AfterPull N fed finished tokens t left text (Ok u)) →
    TokensTold M fed finished tokens s waiting → AfterPull M fed finished tokens t left text (Ok v)
pulled_by N M fed finished tokens s t waiting left text u v is same f =
    subst (λ (w : Pulled). TokensTold M fed finished tokens s waiting → AfterPull M fed finished tokens t left text (Ok w)) same
    (subst (λ (K : Machine). TokensTold K fed finished tokens s waiting → AfterPull K fed finished tokens t left text (Ok u)) is f)

-- The scan after a call that feeds nothing.
pub still_feeds : (M : Machine) (input : List ℕ) (tokens us : List Token) (w v : WholeScan) → Feeds M input tokens w → pull_machine v.scanner ≡ pull_machine w.scanner → pull_finished v.scanner ≡ pull_finished w.scanner → v.fed ≡ w.fed → TokensTold M (take w.fed input) (pull_finished w.scanner) us (pull_state v.scanner) (pull_waiting v.scanner) →
    Feeds M input us v
still_feeds M input tokens us w v h machine finished fed told = record {
  machine = ap rules_machine machine ∙ h.machine;
  whole = λ e. fed ∙ h.whole (sym finished ∙ e);
  told =
      subst (λ (n : ℕ). TokensTold M (take n input) (pull_finished v.scanner) us (pull_state v.scanner) (pull_waiting v.scanner)) (sym fed)
      (subst (λ (b : Bool). TokensTold M (take w.fed input) b us (pull_state v.scanner) (pull_waiting v.scanner)) (sym finished) told);
}

-- A piece more was fed.
pub piece_told : (N M : Machine) (input : List ℕ) (i j : ℕ) (finished : Bool) (tokens : List Token) (s t : State) (waiting left : List ℕ) → N ≡ M → finished ≡ false → i ≤ j → (TokensTold N (take i input) false tokens s waiting → TokensTold N (take i input ++ part input i j) false tokens t left) →
    TokensTold M (take i input) finished tokens s waiting → TokensTold M (take j input) false tokens t left
piece_told N M input i j finished tokens s t waiting left is open_end le f h =
    let g = subst (λ (K : Machine). TokensTold K (take i input) false tokens s waiting → TokensTold K (take i input ++ part input i j) false tokens t left) is f in
    subst (λ (l : List ℕ). TokensTold M l false tokens t left) (front_part input i j le) (g (subst (λ (b : Bool). TokensTold M (take i input) b tokens s waiting) open_end h))

-- the end was told
pub end_told : (N M : Machine) (fed : List ℕ) (finished : Bool) (tokens : List Token) (s t : State) (waiting left : List ℕ) → N ≡ M → finished ≡ false → (TokensTold N fed finished tokens s waiting → TokensTold N fed true tokens t left) → TokensTold M fed false tokens s waiting →
    TokensTold M fed true tokens t left
end_told N M fed finished tokens s t waiting left is open_end f =
    subst (λ (K : Machine). TokensTold K fed false tokens s waiting → TokensTold K fed true tokens t left) is
    (subst (λ (b : Bool). TokensTold N fed b tokens s waiting → TokensTold N fed true tokens t left) open_end f)

pub not_whole : (b : Bool) → b ≡ false → b ≡ true → ⊥
not_whole b untold told = let no : false ≡ true = sym untold ∙ told in cc

pub memory_is_no_fault : runs.OutOfMemory ≡ runs.Stack → ⊥
memory_is_no_fault e = cc

-- Several tokens were told in one go, by a machine that is known.
pub several_by : (N M : Machine) (input : List ℕ) (tokens more : List Token) (w v : WholeScan) → N ≡ M → Feeds M input tokens w → pull_machine v.scanner ≡ pull_machine w.scanner → pull_finished v.scanner ≡ pull_finished w.scanner → v.fed ≡ w.fed →
    (TokensTold N (take w.fed input) (pull_finished w.scanner) tokens (pull_state w.scanner) (pull_waiting w.scanner) → TokensTold N (take w.fed input) (pull_finished w.scanner) (tokens ++ more) (pull_state v.scanner) (pull_waiting v.scanner)) → Feeds M input (tokens ++ more) v
several_by N M input tokens more w v is h machine finished fed f =
    still_feeds M input tokens (tokens ++ more) w v h machine finished fed
    (subst (λ (K : Machine). TokensTold K (take w.fed input) (pull_finished w.scanner) tokens (pull_state w.scanner) (pull_waiting w.scanner) → TokensTold K (take w.fed input) (pull_finished w.scanner) (tokens ++ more) (pull_state v.scanner) (pull_waiting v.scanner)) is f h.told)
