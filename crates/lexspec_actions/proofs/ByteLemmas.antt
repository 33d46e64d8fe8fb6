-- Runs of bytes, and numbers.
use Rattle.std.proofs.Common.{◌≡◌, ℕ, suc, ◌-◌, ◌<◌, ◌≤◌, ◌==◌, Bool, true, false, List, [], ◌∷◌, ◌++◌, length, Option, Some, None, refl, sym, ap, ◌∙◌, arith, append_assoc, append-nil}
use Rattle.lex_semantics.specs.ByteSets.{is_alpha, is_digit, is_alnum}
use Rattle.lex_semantics.specs.Reading.{◌>>=◌, take_up_to, take_run, starts_name, goes_on_name}
use Rattle.lex_semantics.specs.Escapes.{until_quote}
use Rattle.lexre_bytes.proofs.QuoteLaws.{take_up_to_within}
use Rattle.lexspec_actions.specs.ByteSteps.{string_at, string_byte_at}
use Rattle.std.proofs.lemmas.Bool.{ne_eqb}
use Rattle.std.specs.Prelude.{◌||◌}

-- the bytes come before those that are read
abbrev pub with_front : List ℕ → Option (List ℕ × List ℕ) → Option (List ℕ × List ℕ)
with_front front None = None
with_front front (Some found) = Some (front ++ found.0, found.1)

-- of the text, the bytes were read so far, and the rest is left
pub record StringSo (text front rest : List ℕ) : Type 0 where
  pub bound : ℕ
  pub enough : length rest ≤ bound
  pub same : with_front front (string_at (suc bound) rest) ≡ string_at (suc (length text)) text

with_none : (o : Option (List ℕ × List ℕ)) → with_front [] o ≡ o
with_none None = refl
with_none (Some x) = refl

pub string_first : (text : List ℕ) → StringSo text [] text
string_first text = record { bound = length text; enough = omega arith; same = with_none _ }

with_more : (front : List ℕ) (b : ℕ) (o : Option (List ℕ × List ℕ)) → with_front front (o >>= λ (bs, after). Some (b ∷ bs, after)) ≡ with_front (front ++ b ∷ []) o
with_more front b None = refl
with_more front b (Some x) = ap (λ bs. Some (bs, x.1)) (sym (append_assoc front (b ∷ []) x.0))

string_goes : (n : ℕ) (front t rest : List ℕ) (c b : ℕ) (u : List ℕ) → t ≡ c ∷ u → (c ≡ 34 → ⊥) → string_byte_at t ≡ Some (b, rest)
    → with_front front (string_at (suc n) t) ≡ with_front (front ++ b ∷ []) (string_at n rest)
unfolding until_quote
string_goes n front t rest c b u e other byte =
    let at : string_byte_at (c ∷ u) ≡ Some (b, rest) = ap string_byte_at (sym e) ∙ byte in
    let off : (c == 34) ≡ false = ne_eqb c 34 other in
    rw (e, off, at) (with_more front b (string_at n rest))

pub string_next : (text front t rest : List ℕ) (c b : ℕ) (u : List ℕ) → StringSo text front t → t ≡ c ∷ u → (c ≡ 34 → ⊥) → string_byte_at t ≡ Some (b, rest) → length rest < length t
    → StringSo text (front ++ b ∷ []) rest
string_next text front t rest c b u so e other byte shorter = record {
  bound = so.bound - 1;
  enough = (let h = so.enough in omega arith);
  same = (let h = so.enough in
      let up : suc (so.bound - 1) ≡ so.bound = omega arith in
      rw up (sym (string_goes so.bound front t rest c b u e other byte) ∙ so.same));
}

pub string_ends : (text front t : List ℕ) (c : ℕ) (u : List ℕ) → StringSo text front t → t ≡ c ∷ u → c ≡ 34 → string_at (suc (length text)) text ≡ Some (front, u)
unfolding until_quote
string_ends text front t c u so e quote =
    let last : with_front front (string_at (suc so.bound) (34 ∷ u)) ≡ Some (front, u) = ap (λ x. Some (x, u)) (append-nil front) in
    let same : t ≡ 34 ∷ u = e ∙ ap (λ x. x ∷ u) quote in
    sym so.same ∙ ap (λ x. with_front front (string_at (suc so.bound) x)) same ∙ last

pub string_stops : (text front t : List ℕ) (c : ℕ) (u : List ℕ) → StringSo text front t → t ≡ c ∷ u → (c ≡ 34 → ⊥) → string_byte_at t ≡ None → string_at (suc (length text)) text ≡ None
unfolding until_quote
string_stops text front t c u so e other byte =
    let at : string_byte_at (c ∷ u) ≡ None = ap string_byte_at (sym e) ∙ byte in
    let off : (c == 34) ≡ false = ne_eqb c 34 other in
    let here : string_at (suc so.bound) (c ∷ u) ≡ None = rw (off, at) refl in
    sym so.same ∙ ap (λ x. with_front front (string_at (suc so.bound) x)) e ∙ ap (with_front front) here

pub string_open : (text front t : List ℕ) → StringSo text front t → length t ≡ 0 → string_at (suc (length text)) text ≡ None
unfolding until_quote
string_open text front [] so e = sym so.same
string_open text front (c ∷ t) so e = absurd (omega arith)

-- what may start a name goes on in one
starts_goes : (c : ℕ) → starts_name c ≡ true → goes_on_name c ≡ true
unfolding is_alnum
starts_goes c h = either (is_alpha c) (is_digit c) (c == 95) (c == 45) h
  where
    either : (a b d e : Bool) → (a || d) ≡ true → ((a || b) || d || e) ≡ true
    either true b d e h = refl
    either false true d e h = refl
    either false false true e h = refl
    either false false false e h = cc

-- what follows a name is shorter
pub name_shorter : (t a b : List ℕ) (c : ℕ) (u : List ℕ) → ◌≡◌ {A = List ℕ × List ℕ} (take_run goes_on_name t) (a, b) → t ≡ c ∷ u → starts_name c ≡ true → length b < length t
unfolding take_up_to
name_shorter [] a b c u run e first = absurd (omega (arith, ap length e))
name_shorter (d ∷ t) a b c u run e first =
    let same : d ≡ c = cc in
    let here : goes_on_name d ≡ true = ap goes_on_name same ∙ starts_goes c first in
    let is : take_run goes_on_name (d ∷ t) ≡ (d ∷ (take_run goes_on_name t).0, (take_run goes_on_name t).1) = rw here refl in
    let rest : (take_run goes_on_name t).1 ≡ b = ap (λ (x : List ℕ × List ℕ). x.1) (sym is ∙ run) in
    omega (arith, ap length rest, take_up_to_within (length t) goes_on_name t)

-- what follows digits is no longer than the text
pub digits_within : (t a b : List ℕ) → ◌≡◌ {A = List ℕ × List ℕ} (take_run is_digit t) (a, b) → length b ≤ length t
digits_within t a b run = omega (arith, ap (λ (x : List ℕ × List ℕ). length x.1) run, take_up_to_within (length t) is_digit t)
