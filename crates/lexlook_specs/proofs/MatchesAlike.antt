-- What is told of rules depends on the texts that fit them alone.
use Rattle.std.proofs.Common.{◌≡◌, ◌↔◌, ◌<◌, ◌≤◌, ℕ, Bool, true, false, List, [], ◌∷◌, length, take, Option, Some, None, sym, ◌∙◌, arith}
use Rattle.std.proofs.lemmas.List.{length-take-le}
use Rattle.std.proofs.lemmas.Option.{slice_get_within}
use Rattle.lex_semantics.proofs.Texts.{is_text_take}
use Rattle.lexlook_specs.specs.Copied.{AreCopied, CopiesByte, IsFirstCopied}
use Rattle.lexlook_specs.specs.Matches.{RuleMatches, IsInput, CopiesFirst, TakesText}
use Rattle.lexlook_specs.specs.Overlaps.{AreHomes, AreOverlaps, IsHome, IsOverlap, IsShared, SharesText}
use Rattle.lexlook_specs.specs.declared.words.overlapping.Home.{Home}
use Rattle.lexlook_specs.specs.declared.words.overlapping.Home.TheVariants.{Nowhere, AtLineStart, Anywhere}
use Rattle.lexlook_specs.specs.declared.words.overlapping.Overlap.{Overlap}
use Rattle.lexlook_specs.specs.Words.{AreTakers, AreWords, IsCopiedIn, IsFirst, IsWordOf, TellsDefault}
use Rattle.lexlook_specs.specs.declared.words.finding.ShownText.{ShownText}
use Rattle.lexlook_specs.specs.declared.words.finding.Word.{Word}
use Rattle.lexlook_specs.specs.declared.words.finding.Word.TheVariants.{Taken, Never}
use Rattle.lexlook_specs.specs.declared.words.finding.Words.{Words}

-- the same texts fit the same rules, and the same rules give them up
pub record AreAlike (m n : RuleMatches) : Type 0 where
  pub conditions : m.conditions ≡ n.conditions
  pub count : m.count ≡ n.count
  pub fits : (c : ℕ) (line : Bool) (w : List ℕ) (i : ℕ) → IsInput m c w → m.fits c line w i ↔ n.fits c line w i
  pub gives_up : (i : ℕ) → m.gives_up i ≡ n.gives_up i

module _ (m n : RuleMatches) (a : AreAlike m n) where
  to_input : (c : ℕ) (w : List ℕ) → IsInput m c w → IsInput n c w
  to_input c w h = record { condition = (let e = a.conditions in let low = h.condition in omega (arith, e, low)); text = h.text; some = h.some }

  from_input : (c : ℕ) (w : List ℕ) → IsInput n c w → IsInput m c w
  from_input c w h = record { condition = (let e = a.conditions in let low = h.condition in omega (arith, e, low)); text = h.text; some = h.some }

  to_takes : (c : ℕ) (line : Bool) (w : List ℕ) (i : ℕ) → IsInput m c w → TakesText m c line w i → TakesText n c line w i
  to_takes c line w i h t = ((a.fits c line w i h).0 t.0, λ j low f. sym (a.gives_up j) ∙ t.1 j low ((a.fits c line w j h).1 f))

  from_takes : (c : ℕ) (line : Bool) (w : List ℕ) (i : ℕ) → IsInput m c w → TakesText n c line w i → TakesText m c line w i
  from_takes c line w i h t = ((a.fits c line w i h).1 t.0, λ j low f. a.gives_up j ∙ t.1 j low ((a.fits c line w j h).0 f))

  front_input : (c k : ℕ) (y : List ℕ) → IsInput m c y → 1 ≤ k → k ≤ length y → IsInput m c (take k y)
  front_input c k y h some few = record {
    condition = h.condition;
    text = is_text_take k y h.text;
    some = (let e = length-take-le k y few in omega (arith, e, some));
  }

  to_copied : (c : ℕ) (line : Bool) (y : List ℕ) → IsInput m c y → CopiesFirst m c line y → CopiesFirst n c line y
  to_copied c line y h copied = λ k some few i f. sym (a.gives_up i) ∙ copied k some few i ((a.fits c line (take k y) i (front_input c k y h some few)).1 f)

  from_copied : (c : ℕ) (line : Bool) (y : List ℕ) → IsInput m c y → CopiesFirst n c line y → CopiesFirst m c line y
  from_copied c line y h copied = λ k some few i f. a.gives_up i ∙ copied k some few i ((a.fits c line (take k y) i (front_input c k y h some few)).0 f)

  to_first : (P Q : ℕ → Bool → List ℕ → Type 0) → ((c : ℕ) (line : Bool) (w : List ℕ) → IsInput m c w → P c line w ↔ Q c line w) → (q : ShownText) → IsFirst m P q → IsFirst n Q q
  to_first P Q same q f = record {
    input = to_input q.condition q.text.items f.input;
    holds = (same q.condition q.line_start q.text.items f.input).0 f.holds;
    first = λ c line w h t. f.first c line w (from_input c w h) ((same c line w (from_input c w h)).1 t);
  }

  to_takers : (i : ℕ) (js : List ℕ) → AreTakers m i js → AreTakers n i js
  to_takers i js t = record {
    none = λ c line w h f. t.none c line w (from_input c w h) (from_takes c line w i (from_input c w h) f);
    ascending = t.ascending;
    takers = λ j. (
      λ b. (let r = (t.takers j).0 b in (r.0, r.1, r.2, to_input r.0 r.2 r.3, (a.fits r.0 r.1 r.2 i r.3).0 r.4, to_takes r.0 r.1 r.2 j r.3 r.5, sym (a.gives_up j) ∙ r.6)),
      λ r. (t.takers j).1 (r.0, r.1, r.2, from_input r.0 r.2 r.3, (a.fits r.0 r.1 r.2 i (from_input r.0 r.2 r.3)).1 r.4, from_takes r.0 r.1 r.2 j (from_input r.0 r.2 r.3) r.5, a.gives_up j ∙ r.6),
    );
  }

  to_tells : (i : ℕ) (x : Word) → IsWordOf m i x → IsWordOf n i x
  to_tells i (Taken q) t = to_first (λ c line w. TakesText m c line w i) (λ c line w. TakesText n c line w i) (λ c line w h. (to_takes c line w i h, from_takes c line w i h)) q t
  to_tells i (Never js) t = to_takers i js.items t

  to_default : (d : ℕ) (o : Option ShownText) → TellsDefault m d o → TellsDefault n d o
  to_default d None none = λ c line w h copied. none c line w (from_input c w h) (copied.0, from_copied c line w (from_input c w h) copied.1)
  to_default d (Some q) t = (to_first (IsCopiedIn m d) (IsCopiedIn n d) (λ c line w h. (λ it. (it.0, to_copied c line w h it.1), λ it. (it.0, from_copied c line w h it.1))) q t.0, t.1)

  pub words_alike : (v : Words) → AreWords m v → AreWords n v
  words_alike v t = record {
    each = t.each ∙ a.count;
    rules = λ i x e. to_tells i x (t.rules i x e);
    in_each = t.in_each ∙ a.conditions;
    defaults = λ d o e. to_default d o (t.defaults d o e);
  }

  byte_input : (c b : ℕ) → c < m.conditions → b < 256 → IsInput m c (b ∷ [])
  byte_input c b low byte = record { condition = low; text = (byte, tt); some = omega arith }

  to_byte : (c b : ℕ) → IsInput m c (b ∷ []) → CopiesByte m c b → CopiesByte n c b
  to_byte c b h (line, copied) = (line, to_copied c line (b ∷ []) h copied)

  from_byte : (c b : ℕ) → IsInput m c (b ∷ []) → CopiesByte n c b → CopiesByte m c b
  from_byte c b h (line, copied) = (line, from_copied c line (b ∷ []) h copied)

  to_first_copied : (c : ℕ) (o : Option ℕ) → c < m.conditions → IsFirstCopied m c o → IsFirstCopied n c o
  to_first_copied c None low none = λ b byte copies. none b byte (from_byte c b (byte_input c b low byte) copies)
  to_first_copied c (Some b) low (byte, copies, none) = (
    byte,
    to_byte c b (byte_input c b low byte) copies,
    λ d less other. none d less (from_byte c d (byte_input c d low (omega (arith, less, byte))) other),
  )

  pub copied_alike : (bytes : List (Option ℕ)) → AreCopied m bytes → AreCopied n bytes
  copied_alike bytes t = record {
    each = t.each ∙ a.conditions;
    first = λ c o e. to_first_copied c o (let low = slice_get_within bytes c o e in let len = t.each in omega (arith, low, len)) (t.first c o e);
  }

  to_shares : (c : ℕ) (line : Bool) (w : List ℕ) (i j : ℕ) → IsInput m c w → SharesText m i j c line w → SharesText n i j c line w
  to_shares c line w i j h t = (to_takes c line w i h t.0, (a.fits c line w j h).0 t.1)

  from_shares : (c : ℕ) (line : Bool) (w : List ℕ) (i j : ℕ) → IsInput m c w → SharesText n i j c line w → SharesText m i j c line w
  from_shares c line w i j h t = (from_takes c line w i h t.0, (a.fits c line w j h).1 t.1)

  to_shared : (i j : ℕ) (w : List ℕ) → IsShared m i j w → IsShared n i j w
  to_shared i j w (c, line, h, t) = (c, line, to_input c w h, to_shares c line w i j h t)

  from_shared : (i j : ℕ) (w : List ℕ) → IsShared n i j w → IsShared m i j w
  from_shared i j w (c, line, h, t) = (c, line, from_input c w h, from_shares c line w i j (from_input c w h) t)

  to_home : (i j : ℕ) (w : List ℕ) (c : ℕ) (h : Home) → IsInput m c w → IsHome m i j w c h → IsHome n i j w c h
  to_home i j w c Nowhere is none = λ line t. none line (from_shares c line w i j is t)
  to_home i j w c AtLineStart is t = (to_shares c true w i j is t.0, λ within. t.1 (from_shares c false w i j is within))
  to_home i j w c Anywhere is t = to_shares c false w i j is t

  to_homes : (i j : ℕ) (w : List ℕ) (hs : List Home) → IsShared m i j w → AreHomes m i j w hs → AreHomes n i j w hs
  to_homes i j w hs (d, line, is, t) homes = record {
    each = homes.each ∙ a.conditions;
    home = λ c h e. to_home i j w c h (record {
      condition = (let low = slice_get_within hs c h e in let len = homes.each in omega (arith, low, len));
      text = is.text;
      some = is.some;
    }) (homes.home c h e);
  }

  to_overlap : (x : Overlap) → IsOverlap m x → IsOverlap n x
  to_overlap x t = record {
    order = t.order;
    known = (let low = t.known in let e = a.count in omega (arith, low, e));
    text = record {
      shared = to_shared x.first x.second x.text.items t.text.shared;
      first = λ v shared. t.text.first v (from_shared x.first x.second v shared);
    };
    homes = to_homes x.first x.second x.text.items x.homes.items t.text.shared t.homes;
    gives_up = t.gives_up ∙ a.gives_up x.first;
  }

  pub overlaps_alike : (most : ℕ) (v : List Overlap) → AreOverlaps m most v → AreOverlaps n most v
  overlaps_alike most v t = record {
    few = t.few;
    each = λ k x e. to_overlap x (t.each k x e);
    rising = t.rising;
    all = λ i j w order shared. t.all i j w order (from_shared i j w shared);
  }
