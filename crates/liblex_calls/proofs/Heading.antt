-- Tokens that a scan tells ahead of those that it hands on.
use Rattle.std.proofs.Common.{◌≡◌, ℕ, zero, suc, ◌+◌, ◌-◌, ◌≤◌, inl, inr, ◌⊎◌, Bool, true, false, List, [], ◌∷◌, ◌++◌, length, take, drop, Some, refl, sym, ap, subst, ◌∙◌, append_assoc, append-nil, length-append, arith}
use Rattle.std.specs.Prelude.{nat_eq, if◌then◌else◌}
use Rattle.std.proofs.Math.Seq.{take-append_seam}
use Rattle.std.proofs.lemmas.Bool.Decides.{nat_tests}
use Rattle.std.proofs.lemmas.List.{drop-drop, length-drop, length-take, drop-append-le, take-append-le}
use Rattle.lex_machine.specs.declared.machine.Machine as Trait
use Rattle.lex_semantics.specs.Text.{part}
use Rattle.lex_semantics.specs.Demand.{Consistent}
use Rattle.lex_semantics.specs.Machine.{Machine, rules_of_machine}
use Rattle.lex_semantics.specs.Rules.{Rules}
use Rattle.lexscan_window.specs.declared.state.State.{State}
use Rattle.lexscan.specs.declared.token.Token.{Token}
use Rattle.lexscan.specs.declared.pull.PullScanner.{PullScanner}
use Rattle.lexscan.specs.declared.pull.PulledToken.{PulledToken}
use Rattle.lexscan.specs.declared.series.BriefToken.{BriefToken}
use Rattle.lexscan.specs.Pulls.{TokensTold, whole_token}
use Rattle.lexscan.specs.Scanners.{pull_text}
use Rattle.lexscan.specs.Series.{token_from, drawn_out}
use Rattle.lexscan.specs.Tokens.{TokensOf}
use Rattle.lexscan.proofs.Pushing.{begins_less}
use Rattle.lexscan.proofs.Refusing.{just_these}
use Rattle.liblex_calls.specs.Ahead.{HoldsFed, held_text, tokens_ahead, text_shown, HandsToken, IsAhead}
use Rattle.liblex_calls.specs.Lines.{Follows, last_start, last_end}
use Rattle.liblex_calls.specs.declared.ahead.Ahead.{Ahead}
use Rattle.liblex_calls.specs.declared.texts.Texts.{Texts}
use Rattle.liblex_calls.proofs.Drawn.{either_way}
use Rattle.liblex_calls.proofs.Lining.{follows, last_start_is, last_end_is}
use Rattle.liblex_calls.proofs.Piecing.{untold}

-- a list whose end is split off
split_last : (us : List Token) (b : Token) (bs vs : List Token) (t : Token) → us ++ b ∷ bs ≡ vs ++ t ∷ [] → (ts : List Token) × (vs ≡ us ++ ts)
split_last [] b bs vs t e = (vs, refl)
split_last (a ∷ us) b bs [] t e = absurd (let size = ap length e in omega (arith, size, length-append us (b ∷ bs)))
split_last (a ∷ us) b bs (v ∷ vs) t e =
    let heads : a ≡ v = cc in
    let rest : us ++ b ∷ bs ≡ vs ++ t ∷ [] = cc in
    let (ts, is) = split_last us b bs vs t rest in
    (ts, ap (λ l. v ∷ l) is ∙ ap (λ h. h ∷ (us ++ ts)) (sym heads))

no_front : (us ts : List Token) → us ++ ts ≡ [] → us ≡ []
no_front [] ts e = refl
no_front (a ∷ us) ts e = absurd (let size = ap length e in omega (arith, size))

-- The first of the tokens of some turns are those of the first of the turns.
pub first_tokens : (R : Rules) (x : List ℕ) (n : ℕ) (us ts : List Token) → TokensOf R x n (us ++ ts) → (m : ℕ) × TokensOf R x m us
first_tokens R x zero us ts h = (zero, no_front us ts h)
first_tokens R x (suc n) us [] h = (suc n, subst (TokensOf R x (suc n)) (append-nil us) h)
first_tokens R x (suc n) us (b ∷ bs) (s, vs, turns, going, before, inr (at_end, same)) = first_tokens R x n us (b ∷ bs) (subst (TokensOf R x n) (sym same) before)
first_tokens R x (suc n) us (b ∷ bs) (s, vs, turns, going, before, inl (t, token, app)) =
    let (ts, is) = split_last us b bs vs t app in
    first_tokens R x n us ts (subst (TokensOf R x n) is before)

-- a text among the bytes that were fed
text_inside : (fed text : List ℕ) (i j : ℕ) → part fed i j ≡ text → j ≡ i + length text → j - i ≤ length fed - i
text_inside fed text i j is size =
    let same = ap length is in
    let some = length-take (j - i) (drop i fed) in
    let rest = length-drop i fed in
    omega (arith, size, same, some, rest)

-- The bytes that are held are a part of those that were fed.
pub held_part : (fed : List ℕ) (t : Texts) (start count : ℕ) → HoldsFed fed t → t.before ≤ start → held_text t start count ≡ take count (drop start fed)
held_part fed t start count h low =
    let at : t.before + (start - t.before) ≡ start = omega (arith, low) in
    ap (λ l. take count (drop (start - t.before) l)) h.bytes_are ∙ ap (take count) (drop-drop (start - t.before) t.before fed ∙ ap (λ n. drop n fed) at)

-- a text that lies among them stays when more is fed
part_grows : (fed piece : List ℕ) (i n : ℕ) → n ≤ length fed - i → take n (drop i (fed ++ piece)) ≡ take n (drop i fed)
part_grows fed piece i n few = from (either_way i (length fed))
  where
    from : (i ≤ length fed) ⊎ (length fed ≤ i) → take n (drop i (fed ++ piece)) ≡ take n (drop i fed)
    from (inl le) = ap (take n) (drop-append-le i fed piece le) ∙ take-append-le n (drop i fed) piece (omega (arith, few, length-drop i fed))
    from (inr le) = let none : n ≡ 0 = omega (arith, few, le) in ap (λ k. take k (drop i (fed ++ piece))) none ∙ sym (ap (λ k. take k (drop i fed)) none)

-- The first of some tokens that are told next begins where the last one ends or begins.
begins_on : (R : Rules) (x : List ℕ) (n : ℕ) (tokens : List Token) (start : ℕ) (added : List BriefToken) → TokensOf R x n (tokens ++ drawn_out start added) → 1 ≤ length (drawn_out start added) → Follows tokens start
begins_on R x n tokens start [] h some = absurd (omega (arith, some))
begins_on R x n tokens start (b ∷ bs) h some =
    let u = token_from start b in
    let ts = drawn_out (start + b.length) bs in
    let (m, k) = first_tokens R x n (tokens ++ u ∷ []) ts (subst (TokensOf R x n) (sym (append_assoc tokens (u ∷ []) ts)) h) in
    (follows R x m tokens u k).0

no_earlier : (tokens : List Token) (start last : ℕ) → last ≡ last_start tokens → last_start tokens ≤ last_end tokens → Follows tokens start → last ≤ start
no_earlier tokens start last is order (inl at) = omega (arith, is, order, at)
no_earlier tokens start last is order (inr at) = omega (arith, is, at)

-- The next ones are told ahead.
pub tell_ahead : (M : Machine) (fed : List ℕ) (told : Bool) (tokens : List Token) (s t : State) (waiting left : List ℕ) (a b : Ahead) (added : List BriefToken) → IsAhead M fed told tokens s waiting a → TokensTold M fed told (tokens ++ drawn_out b.start added) t left → drop b.given b.tokens.items ≡ added → b.given ≡ 0 → b.last ≡ a.last → b.texts ≡ a.texts →
    IsAhead M fed told tokens t left b
tell_ahead M fed told tokens s t waiting left a b added h all items none last texts = record {
  all = subst (λ l. TokensTold M fed told (tokens ++ drawn_out b.start l) t left) (sym items) all;
  handed = h.handed;
  last_is = last ∙ h.last_is;
  order = h.order;
  onward = λ some.
      let again = all.tokens_are fed (all.text, just_these fed told) in
      no_earlier tokens b.start b.last (last ∙ h.last_is) h.order (begins_on (rules_of_machine M) fed all.turns tokens b.start added again (subst (λ l. 1 ≤ length (drawn_out b.start l)) items some));
  low = (let before = ap (λ (x : Texts). x.before) texts in let low = h.low in omega (arith, before, last, low));
  inside = λ some. absurd (omega (arith, none, some));
}

-- none is left
pub just_told : (M : Machine) (fed : List ℕ) (told : Bool) (tokens : List Token) (s : State) (waiting : List ℕ) (a : Ahead) → tokens_ahead a ≡ [] → IsAhead M fed told tokens s waiting a → TokensTold M fed told tokens s waiting
just_told M fed told tokens s waiting a none h = subst (λ l. TokensTold M fed told l s waiting) (ap (λ l. tokens ++ l) none ∙ append-nil tokens) h.all

with_none : (M : Machine) (fed : List ℕ) (told : Bool) (tokens : List Token) (s : State) (waiting : List ℕ) (a : Ahead) → tokens_ahead a ≡ [] → TokensTold M fed told tokens s waiting → TokensTold M fed told (tokens ++ tokens_ahead a) s waiting
with_none M fed told tokens s waiting a none h = subst (λ l. TokensTold M fed told l s waiting) (sym (append-nil tokens) ∙ ap (λ l. tokens ++ l) (sym none)) h

none_more : (a : Ahead) → tokens_ahead a ≡ [] → 1 ≤ length (tokens_ahead a) → ⊥
none_more a none some = let size = ap length none in omega (arith, some, size)

-- nothing was told
pub first_ahead : (M : Machine) (s : State) (waiting : List ℕ) (a : Ahead) → TokensTold M [] false [] s waiting → tokens_ahead a ≡ [] → a.given ≡ 0 → a.last ≡ 0 → a.texts.before ≡ 0 → IsAhead M [] false [] s waiting a
first_ahead M s waiting a h none given last before = record {
  all = with_none M [] false [] s waiting a none h;
  handed = λ x c. (h.turns, h.tokens_are x c);
  last_is = last;
  order = omega arith;
  onward = λ some. absurd (none_more a none some);
  low = omega (arith, before);
  inside = λ some. absurd (omega (arith, given, some));
}

-- more is wanted
pub still_ahead : (M : Machine) (fed : List ℕ) (told : Bool) (tokens : List Token) (s t : State) (waiting left : List ℕ) (a : Ahead) → tokens_ahead a ≡ [] → IsAhead M fed told tokens s waiting a → TokensTold M fed told tokens t left → IsAhead M fed told tokens t left a
still_ahead M fed told tokens s t waiting left a none h more = record {
  all = with_none M fed told tokens t left a none more;
  handed = h.handed;
  last_is = h.last_is;
  order = h.order;
  onward = h.onward;
  low = h.low;
  inside = h.inside;
}

-- one more was told by the scan itself
pub turn_ahead : (M : Machine) (fed : List ℕ) (told : Bool) (tokens : List Token) (s t : State) (waiting left : List ℕ) (a b : Ahead) (u : PulledToken) → tokens_ahead b ≡ [] → b.given ≡ 0 → b.last ≡ u.start → b.texts ≡ a.texts → IsAhead M fed told tokens s waiting a → TokensTold M fed told (tokens ++ whole_token u ∷ []) t left →
    IsAhead M fed told (tokens ++ whole_token u ∷ []) t left b
turn_ahead M fed told tokens s t waiting left a b u none given last texts h more =
    let whole = whole_token u in
    let place = follows (rules_of_machine M) fed more.turns tokens whole (more.tokens_are fed (more.text, just_these fed told)) in
    let later : a.last ≤ u.start = no_earlier tokens u.start a.last h.last_is h.order place.0 in
    record {
      all = with_none M fed told (tokens ++ whole ∷ []) t left b none more;
      handed = λ x c. (more.turns, more.tokens_are x c);
      last_is = last ∙ sym (last_start_is tokens whole);
      order = omega (arith, last_start_is tokens whole, last_end_is tokens whole);
      onward = λ some. absurd (none_more b none some);
      low = (let before = ap (λ (x : Texts). x.before) texts in let low = h.low in omega (arith, low, later, before, last));
      inside = λ some. absurd (omega (arith, given, some));
    }

-- One that was told ahead was handed on.
module _ (M : Machine) (fed : List ℕ) (told : Bool) (tokens : List Token) (s : State) (waiting : List ℕ) (a b : Ahead) (t : PulledToken) (h : IsAhead M fed told tokens s waiting a) (on : HandsToken a b (Some t)) where
  abbrev whole : Token
  whole = whole_token t

  all : TokensTold M fed told ((tokens ++ whole ∷ []) ++ tokens_ahead b) s waiting
  all = subst (λ l. TokensTold M fed told l s waiting) (ap (λ l. tokens ++ l) on.0 ∙ sym (append_assoc tokens (whole ∷ []) (tokens_ahead b))) h.all

  handed : (x : List ℕ) → Consistent fed told x → (turns : ℕ) × TokensOf (rules_of_machine M) x turns (tokens ++ whole ∷ [])
  handed x c = first_tokens (rules_of_machine M) x all.turns (tokens ++ whole ∷ []) (tokens_ahead b) (all.tokens_are x c)

  later : a.last ≤ t.start
  later =
      let some : 1 ≤ length (tokens_ahead a) = (let size = ap length on.0 in omega (arith, size)) in
      let le = h.onward some in
      omega (arith, le, on.1)

  in_fed : t.start + t.length - t.start ≤ length fed - t.start
  in_fed =
      let (turns, first) = handed fed (all.text, just_these fed told) in
      let place = follows (rules_of_machine M) fed turns tokens whole first in
      text_inside fed place.1 t.start (t.start + t.length) place.2 place.3

  pub one_handed : IsAhead M fed told (tokens ++ whole ∷ []) s waiting b
  one_handed = record {
    all = all;
    handed = handed;
    last_is = on.3 ∙ sym (last_start_is tokens whole);
    order = omega (arith, last_start_is tokens whole, last_end_is tokens whole);
    onward = λ some. omega (arith, on.2, on.3);
    low = (let before = ap (λ (x : Texts). x.before) on.5 in let low = h.low in let le = later in omega (arith, before, low, le, on.3));
    inside = λ some. (let few = in_fed in omega (arith, few, on.2, on.3));
  }

  pub text_low : a.texts.before ≤ t.start
  text_low = let low = h.low in let le = later in omega (arith, low, le)

some_given : (n : ℕ) → nat_eq n 0 ≡ false → 1 ≤ n
some_given zero e = cc
some_given (suc n) e = omega arith

either : (c : Bool) (x y x' y' : List ℕ) → x ≡ x' → (c ≡ false → y ≡ y') → (if c then x else y) ≡ (if c then x' else y')
either true x y x' y' e f = e
either false x y x' y' e f = f refl

-- the text that is shown
module _ {P : Type 0} {of_machine : Trait.Ghosts P} where
  -- where none of them was handed on, it is the scanner's
  pub shows_told : (p : PullScanner P of_machine) (a : Ahead) → a.given ≡ 0 → text_shown p a ≡ pull_text p
  shows_told p a is = ap (λ n. if nat_eq n 0 then pull_text p else held_text a.texts a.last (a.start - a.last)) is

  pub shows_handed : (fed : List ℕ) (p : PullScanner P of_machine) (a b : Ahead) (t : PulledToken) → HoldsFed fed a.texts → a.texts.before ≤ t.start → HandsToken a b (Some t) → text_shown p b ≡ part fed t.start (t.start + t.length)
  shows_handed fed p a b t held low on =
      let some = on.4 in
      let no : nat_eq b.given 0 ≡ false = grind (arith, nat_tests, some) in
      let size : b.start - b.last ≡ t.start + t.length - t.start = omega (arith, on.2, on.3) in
      ap (λ c. if c then pull_text p else held_text b.texts b.last (b.start - b.last)) no
      ∙ ap (λ n. held_text b.texts b.last n) size
      ∙ ap (λ n. held_text b.texts n (t.start + t.length - t.start)) on.3
      ∙ ap (λ x. held_text x t.start (t.start + t.length - t.start)) on.5
      ∙ held_part fed a.texts t.start (t.start + t.length - t.start) held low

  -- the end of the input changes no text
  pub shows_still : (p q : PullScanner P of_machine) (a : Ahead) → pull_text q ≡ pull_text p → text_shown q a ≡ text_shown p a
  shows_still p q a text = either (nat_eq a.given 0) (pull_text q) (held_text a.texts a.last (a.start - a.last)) (pull_text p) (held_text a.texts a.last (a.start - a.last)) text (λ no. refl)

  -- nor does more of it
  pub shows_fed : (fed piece : List ℕ) (p q : PullScanner P of_machine) (a b : Ahead) → pull_text q ≡ pull_text p → HoldsFed fed a.texts → a.texts.before ≤ a.last → HoldsFed (fed ++ piece) b.texts → b.texts.before ≤ a.last → (1 ≤ a.given → a.start - a.last ≤ length fed - a.last) →
      b.given ≡ a.given → b.last ≡ a.last → b.start ≡ a.start → text_shown q b ≡ text_shown p a
  shows_fed fed piece p q a b text held low held' low' inside given last start =
      let n = a.start - a.last in
      let later : b.start - b.last ≡ n = omega (arith, last, start) in
      ap (λ k. if nat_eq k 0 then pull_text q else held_text b.texts b.last (b.start - b.last)) given
      ∙ either (nat_eq a.given 0) (pull_text q) (held_text b.texts b.last (b.start - b.last)) (pull_text p) (held_text a.texts a.last n) text
      (λ no.
      ap (held_text b.texts b.last) later ∙ ap (λ k. held_text b.texts k n) last ∙ held_part (fed ++ piece) b.texts a.last n held' low'
      ∙ part_grows fed piece a.last n (inside (some_given a.given no)) ∙ sym (held_part fed a.texts a.last n held low))

-- A piece more was fed.
pub piece_ahead : (M : Machine) (fed piece : List ℕ) (tokens : List Token) (s t : State) (waiting left : List ℕ) (a b : Ahead) → (TokensTold M fed false (tokens ++ tokens_ahead a) s waiting → TokensTold M (fed ++ piece) false (tokens ++ tokens_ahead a) t left) → tokens_ahead b ≡ tokens_ahead a →
    b.given ≡ a.given → b.last ≡ a.last → b.start ≡ a.start → b.texts.before ≤ a.last → IsAhead M fed false tokens s waiting a → IsAhead M (fed ++ piece) false tokens t left b
piece_ahead M fed piece tokens s t waiting left a b told same given last start low h = record {
  all = subst (λ l. TokensTold M (fed ++ piece) false (tokens ++ l) t left) (sym same) (told h.all);
  handed = λ x c. h.handed x (c.0, begins_less x fed piece c.1);
  last_is = last ∙ h.last_is;
  order = h.order;
  onward = λ some. (let le = h.onward (omega (arith, some, ap length same)) in omega (arith, le, last, start));
  low = omega (arith, low, last);
  inside = λ some. (let few = h.inside (omega (arith, some, given)) in omega (arith, few, last, start, length-append fed piece));
}

-- It was not fed after all.
pub same_ahead : (M : Machine) (fed : List ℕ) (told : Bool) (tokens : List Token) (s t : State) (waiting left : List ℕ) (a b : Ahead) → t ≡ s → left ≡ waiting → tokens_ahead b ≡ tokens_ahead a → b.given ≡ a.given → b.last ≡ a.last → b.start ≡ a.start → b.texts.before ≡ a.texts.before → IsAhead M fed told tokens s waiting a →
    IsAhead M fed told tokens t left b
same_ahead M fed told tokens s t waiting left a b state waits same given last start before h = record {
  all =
      subst (λ l. TokensTold M fed told (tokens ++ l) t left) (sym same)
      (subst (TokensTold M fed told (tokens ++ tokens_ahead a) t) (sym waits) (subst (λ u. TokensTold M fed told (tokens ++ tokens_ahead a) u waiting) (sym state) h.all));
  handed = h.handed;
  last_is = last ∙ h.last_is;
  order = h.order;
  onward = λ some. (let le = h.onward (omega (arith, some, ap length same)) in omega (arith, le, last, start));
  low = (let low = h.low in omega (arith, low, before, last));
  inside = λ some. (let few = h.inside (omega (arith, some, given)) in omega (arith, few, last, start));
}

pub fed_same : (fed : List ℕ) (t u : Texts) → HoldsFed fed t → u.before ≡ t.before → u.bytes.items ≡ t.bytes.items → HoldsFed fed u
fed_same fed t u h before bytes = record {
  bytes_are = bytes ∙ h.bytes_are ∙ ap (λ n. drop n fed) (sym before);
  size = (let size = h.size in omega (arith, size, before, ap length bytes));
}

pub taken_back : (fed piece : List ℕ) (t u v : Texts) → HoldsFed fed t → u.bytes.items ≡ t.bytes.items ++ piece → u.before ≡ t.before → v.bytes.items ≡ take (length u.bytes.items - length piece) u.bytes.items → v.before ≡ u.before → HoldsFed fed v
taken_back fed piece t u v h more before less same =
    let left : length u.bytes.items - length piece ≡ length t.bytes.items = omega (arith, ap length more, length-append t.bytes.items piece) in
    fed_same fed t v h (same ∙ before) (less ∙ ap (λ n. take n u.bytes.items) left ∙ ap (take (length t.bytes.items)) more ∙ take-append_seam t.bytes.items piece)

pub fed_more : (fed piece : List ℕ) (t u : Texts) → HoldsFed fed t → u.before ≡ t.before → u.bytes.items ≡ t.bytes.items ++ piece → HoldsFed (fed ++ piece) u
fed_more fed piece t u h before bytes =
    let inside : t.before ≤ length fed = (let size = h.size in omega (arith, size)) in
    let size = h.size in
    let more = ap length bytes in
    record {
      bytes_are = bytes ∙ ap (λ l. l ++ piece) h.bytes_are ∙ sym (drop-append-le t.before fed piece inside) ∙ ap (λ n. drop n (fed ++ piece)) (sym before);
      size = omega (arith, size, before, more, length-append t.bytes.items piece, length-append fed piece);
    }

-- The end was told.
pub end_ahead : (M : Machine) (fed : List ℕ) (told : Bool) (tokens : List Token) (s t : State) (waiting left : List ℕ) (a : Ahead) → (TokensTold M fed told (tokens ++ tokens_ahead a) s waiting → TokensTold M fed true (tokens ++ tokens_ahead a) t left) → IsAhead M fed told tokens s waiting a → IsAhead M fed true tokens t left a
end_ahead M fed told tokens s t waiting left a over h = record {
  all = over h.all;
  handed = λ x c. h.handed x (untold told fed x c);
  last_is = h.last_is;
  order = h.order;
  onward = h.onward;
  low = h.low;
  inside = h.inside;
}
