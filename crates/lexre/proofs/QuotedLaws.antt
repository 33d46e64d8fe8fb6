-- Texts in quotes, read byte by byte.
use Rattle.std.proofs.Common.{◌≡◌, ℕ, suc, ◌<◌, ◌≤◌, ◌==◌, Bool, true, false, if◌then◌else◌, List, [], ◌∷◌, ◌++◌, length, map, Option, Some, None, refl, sym, ap, ◌∙◌, append_assoc, append-nil, arith}
use Rattle.lex_semantics.specs.Escapes.{until_quote, byte_with}
use Rattle.lex_semantics.specs.ByteSets.{single}
use Rattle.lex_semantics.specs.Shapes.{nodes, nodes_of}
use Rattle.lex_semantics.specs.Tree.{Tree, Set, Cat, trees}
use Rattle.lex_semantics.specs.Reading.{◌>>=◌}
use Rattle.lexre_bytes.specs.Lexical.{escape_at, folded, quoted_tree, quoted_bytes}
use Rattle.lexre_bytes.specs.Quotes.{quoted_at}
use Rattle.lexre_bytes.proofs.QuoteLaws.{differs, enough, escape_shorter}

abbrev Found : Type 0
Found = Option (ℕ × List ℕ)

abbrev Quoted : Type 0
Quoted = Option (List ℕ × List ℕ)

-- what was found, with the bytes before it
abbrev pub with_front : List ℕ → Option (List ℕ × List ℕ) → Option (List ℕ × List ℕ)
with_front front o = o >>= λ (bs, rest). Some (front ++ bs, rest)

-- what the text gives is what its bytes so far give with those that come
pub record QuotedSo (text front rest : List ℕ) : Type 0 where
  pub same : ◌≡◌ {A = Option (List ℕ × List ℕ)} (with_front front (quoted_bytes rest)) (quoted_bytes text)

with_none : (o : Quoted) → with_front [] o ≡ o
with_none None = refl
with_none (Some x) = refl

pub quoted_first : (text : List ℕ) → QuotedSo text [] text
quoted_first text = record { same = with_none (quoted_bytes text) }

with_more : (front : List ℕ) (b : ℕ) (o : Quoted) → with_front front (o >>= λ (bs, after). Some (b ∷ bs, after)) ≡ with_front (front ++ b ∷ []) o
with_more front b None = refl
with_more front b (Some x) = ap (λ bs. Some (bs, x.1)) (sym (append_assoc front (b ∷ []) x.0))

byte_step : (n : ℕ) (front rest : List ℕ) (b c : ℕ) (u : List ℕ) → (c ≡ 34 → ⊥) → ◌≡◌ {A = Found} (byte_with escape_at (c ∷ u)) (Some (b, rest))
    → with_front front (quoted_at (suc n) (c ∷ u)) ≡ with_front (front ++ b ∷ []) (quoted_at n rest)
unfolding until_quote
byte_step n front rest b c u quote byte = rw (differs c 34 quote, byte) (with_more front b (quoted_at n rest))

byte_shorter : (t rest : List ℕ) (b : ℕ) → ◌≡◌ {A = Found} (byte_with escape_at t) (Some (b, rest)) → length rest < length t
byte_shorter [] rest b e = cc
byte_shorter (c ∷ u) rest b e = go (c == 10) (c == 92) e
  where
    go : (y z : Bool) → ◌≡◌ {A = Found} (if y then None else if z then escape_at u else Some (c, u)) (Some (b, rest)) → length rest < length (c ∷ u)
    go true z e = cc
    go false true e = omega (arith, escape_shorter u rest b e)
    go false false e = let same : u ≡ rest = ap (λ (f : Found). elim f [ Some y ↦ y.1 | None ↦ u ]) e in omega (arith, ap length same)

pub quoted_shorter : (t rest : List ℕ) (b : ℕ) → ◌≡◌ {A = Found} (byte_with escape_at t) (Some (b, rest)) → length rest < length t
quoted_shorter t rest b e = byte_shorter t rest b e

pub quoted_next : (text front t rest : List ℕ) (b c : ℕ) (u : List ℕ) → QuotedSo text front t → t ≡ c ∷ u → (c ≡ 34 → ⊥)
    → ◌≡◌ {A = Found} (byte_with escape_at t) (Some (b, rest)) → QuotedSo text (front ++ b ∷ []) rest
quoted_next text front t rest b c u so e quote byte =
    let there : ◌≡◌ {A = Found} (byte_with escape_at (c ∷ u)) (Some (b, rest)) = ap (byte_with escape_at) (sym e) ∙ byte in
    let less : length rest < length (c ∷ u) = byte_shorter (c ∷ u) rest b there in
    record {
      same = ap (with_front (front ++ b ∷ [])) (enough (suc (length rest)) (length (c ∷ u)) rest (omega arith) less)
          ∙ sym (byte_step (length (c ∷ u)) front rest b c u quote there) ∙ ap (λ x. with_front front (quoted_bytes x)) (sym e) ∙ so.same;
    }

pub quoted_ends : (text front t : List ℕ) (c : ℕ) (u : List ℕ) → QuotedSo text front t → t ≡ c ∷ u → c ≡ 34 → ◌≡◌ {A = Quoted} (quoted_bytes text) (Some (front, u))
unfolding until_quote
quoted_ends text front t c u so e quote =
    let last : with_front front (quoted_bytes (34 ∷ u)) ≡ Some (front, u) = ap (λ x. Some (x, u)) (append-nil front) in
    sym so.same ∙ ap (λ x. with_front front (quoted_bytes x)) (e ∙ ap (λ x. x ∷ u) quote) ∙ last

pub quoted_open : (text front t : List ℕ) → QuotedSo text front t → length t ≡ 0 → ◌≡◌ {A = Quoted} (quoted_bytes text) None
unfolding until_quote
quoted_open text front [] so e = sym so.same
quoted_open text front (c ∷ t) so e = absurd (omega arith)

stuck_here : (front : List ℕ) (n c : ℕ) (u : List ℕ) → (c ≡ 34 → ⊥) → ◌≡◌ {A = Found} (byte_with escape_at (c ∷ u)) None
    → with_front front (quoted_at (suc n) (c ∷ u)) ≡ None
unfolding until_quote
stuck_here front n c u quote none = rw (differs c 34 quote, none) refl

pub quoted_stuck : (text front t : List ℕ) (c : ℕ) (u : List ℕ) → QuotedSo text front t → t ≡ c ∷ u → (c ≡ 34 → ⊥)
    → ◌≡◌ {A = Found} (byte_with escape_at t) None → ◌≡◌ {A = Quoted} (quoted_bytes text) None
quoted_stuck text front t c u so e quote none =
    sym so.same ∙ ap (λ x. with_front front (quoted_bytes x)) e ∙ stuck_here front (length (c ∷ u)) c u quote (ap (byte_with escape_at) (sym e) ∙ none)

-- The tree of the bytes.

abbrev pub byte_trees : Bool → List ℕ → List Tree
byte_trees fold bs = map (λ b. Set (folded fold (single b))) bs

count_bytes : (f : ℕ → ℕ) (bs : List ℕ) → nodes_of (trees (map (λ b. Set (f b)) bs)) ≡ length bs
count_bytes f [] = refl
count_bytes f (b ∷ bs) = omega (arith, count_bytes f bs)

pub many_bytes : (fold : Bool) (bs : List ℕ) → 65535 < length bs → 65536 < nodes (quoted_tree fold bs)
unfolding quoted_tree
many_bytes fold [] h = absurd (omega arith)
many_bytes fold (b ∷ []) h = absurd (omega arith)
many_bytes fold (b ∷ c ∷ bs) h = omega (arith, count_bytes (λ x. folded fold (single x)) (b ∷ c ∷ bs))

pub tree_of_many : (fold : Bool) (bs : List ℕ) → 2 ≤ length bs → Cat (trees (byte_trees fold bs)) ≡ quoted_tree fold bs
unfolding quoted_tree
tree_of_many fold [] h = absurd (omega arith)
tree_of_many fold (b ∷ []) h = absurd (omega arith)
tree_of_many fold (b ∷ c ∷ bs) h = refl
