-- What a machine tells of a match at a glance.
use Rattle.std.specs.Prelude.{◌≡◌, ℕ, ◌-◌, ◌≤◌, ◌<◌, Bool, true, false, ◌&&◌, List, [], ◌∷◌, length, map, take, ⊤}
use Rattle.lex_semantics.specs.Spec as S
use Rattle.lex_semantics.specs.Machine.{Machine, walk}
use Rattle.lex_machine.specs.declared.glance.Way.{Way}
use Rattle.lex_machine.specs.declared.glance.Gist.{Gist}
use Rattle.lex_machine.specs.declared.glance.Gist.TheVariants.{Any, NoRule, Silent, Echo, Print, Begin, Several}
use Rattle.lex_machine.specs.Views.{statement_of}

-- a statement that writes the text or a literal, or sets the start condition (flex, Actions)
abbrev pub is_simple : S.Statement → Bool
is_simple S.Echo = true
is_simple (S.Print bytes) = true
is_simple (S.Begin c) = true
is_simple other = false

abbrev pub are_simple : List S.Statement → Bool
are_simple [] = true
are_simple (s ∷ ss) = is_simple s && are_simple ss

-- The first rule that a state accepts keeps all of a match, and does this.
pub record FirstDoes (M : Machine) (s : ℕ) (ss : List S.Statement) : Type 0 where
  pub rule : ℕ
  pub others : List ℕ
  pub accepts : M.accepts s ≡ rule ∷ others
  pub whole : M.cut rule ≡ S.Whole
  pub does : M.statements rule ≡ ss

-- The first rule that a state accepts keeps this of a match, sets a start condition, and does yymore, and no more.
pub record FirstBegins (M : Machine) (s : ℕ) (cut : S.Cut) (condition : ℕ) : Type 0 where
  pub rule : ℕ
  pub others : List ℕ
  pub accepts : M.accepts s ≡ rule ∷ others
  pub cut_is : M.cut rule ≡ cut
  pub does : M.statements rule ≡ S.Begin condition ∷ S.More ∷ []

abbrev pub Gists : Machine → ℕ → Gist → Type 0
Gists M s Any = ⊤
Gists M s NoRule = M.accepts s ≡ []
Gists M s Silent = FirstDoes M s []
Gists M s Echo = FirstDoes M s (S.Echo ∷ [])
Gists M s (Print bytes) = FirstDoes M s (S.Print bytes.now ∷ [])
Gists M s (Begin c) = FirstDoes M s (S.Begin c ∷ [])
Gists M s (Several ss) = (are_simple (map statement_of ss.now) ≡ true) × FirstDoes M s (map statement_of ss.now)

-- The first of these bytes lead from a state to one from which the machine does not go on, and it goes on after each of
-- them but the last.
pub record Leads (M : Machine) (first : ℕ) (bytes : List ℕ) (w : Way) : Type 0 where
  pub some : 1 ≤ w.count
  pub inside : w.count ≤ length bytes
  pub state_is : w.state ≡ walk M first (take w.count bytes)
  pub before_is : w.before ≡ walk M first (take (w.count - 1) bytes)
  pub asked : (i : ℕ) → 1 ≤ i → i < w.count → M.goes_on (walk M first (take i bytes)) ≡ true
  pub stops : M.goes_on w.state ≡ false
  pub gist_is : Gists M w.state w.gist

-- of so many states no other than p leads to s by a byte
abbrev pub OnlyBefore : Machine → ℕ → ℕ → ℕ → Type 0
OnlyBefore M states s p = (q b : ℕ) → q < states → b < 256 → M.next q b ≡ s → q ≡ p
