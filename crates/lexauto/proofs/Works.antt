-- The steps of a work list.
use Rattle.std.proofs.Common.{◌≡◌, ◌==◌, not, ℕ, zero, suc, ◌+◌, ◌-◌, ◌*◌, ◌/◌, ◌%◌, ◌<◌, ◌≤◌, ◌⊎◌, List, [], ◌∷◌, ◌++◌, length, Option, refl, ap, sym, subst, ◌∙◌, inl, inr, arith, get_or, length-append}
use Rattle.std.proofs.lemmas.Bool.{cases_lt, ne_eqb}
use Rattle.std.specs.Prelude.{slice_index}
use Rattle.std.proofs.lemmas.Option.{slice_get_within, slice_get-get_or, get_or_from_slice_get}
use Rattle.std.proofs.lemmas.List.{get_or_push, get_or_append_left}
use Rattle.lexauto.specs.Keys.{Key, At, Absent, Apart, Finds, Found}
use Rattle.lex_semantics.specs.Text.{IsText}
use Rattle.lexauto.specs.Explored.{run, Reached, IsExplored, MoreThan, key_at, Exploring, Held, AreImages, TellsSoFar}
use Rattle.lex_semantics.specs.Reading.{is_empty}
use Rattle.lexauto.proofs.Places.{at_longer, at_shorter}

-- for each key up to this place, what f tells of it
abbrev pub ToldAt : {A : Type 0} → A → (Key → A) → List Key → ℕ → List A → Type 0
ToldAt none f keys at told = (length told ≡ at + 1) × ((i : ℕ) → i < length told → get_or told i none ≡ f (key_at keys i))

-- moves of one key are added, all to one target
pub record Fills (next : List ℕ) (target : ℕ) (filled : List ℕ) : Type 0 where
  pub more : length next < length filled
  pub row : length filled ≤ length next / 256 * 256 + 256
  pub before : (j : ℕ) → j < length next → slice_index filled j ≡ slice_index next j
  pub added : (j : ℕ) → length next ≤ j → j < length filled → slice_index filled j ≡ target

-- bytes that are read as the byte before are read alike
pub unchanged : (read : Key → ℕ → Key) (followers : Key) (b e : ℕ) → ((c : ℕ) → b < c → c < e → read followers (c - 1) ≡ read followers c)
    → (d : ℕ) → b + d < e → read followers (b + d) ≡ read followers b
unchanged read followers b e same zero h = ap (read followers) (omega arith)
unchanged read followers b e same (suc d) h =
    let at : b + suc d - 1 ≡ b + d = omega arith in
    sym (same (b + suc d) (omega arith) h)
    ∙ ap (read followers) at ∙ unchanged read followers b e same d (omega (arith, h))

pub some_is : (l : List ℕ) → not (length l == 0) ≡ not (is_empty l)
some_is [] = refl
some_is (x ∷ l) = ap not (ne_eqb (suc (length l)) 0 (λ e. omega (arith, e)))

module _ (step : Key → ℕ → Key) where
  run-snoc : (k : Key) (w : List ℕ) (b : ℕ) → run step k (w ++ b ∷ []) ≡ step (run step k w) b
  run-snoc k [] b = refl
  run-snoc k (c ∷ w) b = run-snoc (step k c) w b

  bytes-snoc : (w : List ℕ) (b : ℕ) → IsText w → b < 256 → IsText (w ++ b ∷ [])
  bytes-snoc [] b h g = (g, tt)
  bytes-snoc (c ∷ w) b h g = (h.0, bytes-snoc w b h.1 g)

  -- one step from what is reached
  reached_more : (roots : List Key) (k : Key) (b : ℕ) → Reached step roots k → b < 256 → Reached step roots (step k b)
  reached_more roots k b (i, root, at, (w, text, e)) h = (i, root, at, (w ++ b ∷ [], bytes-snoc w b text h, run-snoc root w b ∙ ap (λ q. step q b) e))

  module _ (root : List Key) where
    key_is : (keys : List Key) (i : ℕ) (k : Key) → At keys i k → key_at keys i ≡ k
    key_is keys i k h = get_or_from_slice_get keys i k [] h

    is_key : (keys : List Key) (i : ℕ) → i < length keys → At keys i (key_at keys i)
    is_key keys i h = slice_get-get_or keys i [] h

    grown : (keys new : List Key) (k : Key) → Found keys k new → (i : ℕ) (q : Key) → At keys i q → At new i q
    grown keys new k (inl h) i q a = rw h.2 a
    grown keys new k (inr h) i q a = rw h.1 (at_longer keys k i q a)

    grown_only : (keys new : List Key) (k : Key) → Found keys k new → (i : ℕ) (q : Key) → At new i q → At keys i q ⊎ (q ≡ k)
    grown_only keys new k (inl h) i q a = inl (rw h.2 at a)
    grown_only keys new k (inr h) i q a = elim (at_shorter keys k i q (rw h.1 at a)) [ inl o ↦ inl o | inr o ↦ inr o.1 ]

    grown_length : (keys new : List Key) (k : Key) → Found keys k new → length keys ≤ length new
    grown_length keys new k (inl h) = rw h.2 (omega arith)
    grown_length keys new k (inr h) = rw h.1 (omega (arith, length-append keys (k ∷ [])))

    module _ (find : Key → Option ℕ) (keys : List Key) (next : List ℕ) (limit : ℕ) (e : Exploring step root find keys next limit) where
      pub advance : (find' : Key → Option ℕ) (new : List Key) (filled : List ℕ) (target n : ℕ) → n ≡ length next → n / 256 < length keys
          → Finds find' new → Found keys (step (key_at keys (n / 256)) (n % 256)) new → At new target (step (key_at keys (n / 256)) (n % 256)) → length new ≤ limit
          → Fills next target filled
          → ((j : ℕ) → n ≤ j → j < length filled → step (key_at keys (n / 256)) (j % 256) ≡ step (key_at keys (n / 256)) (n % 256))
          → Exploring step root find' new filled limit
      advance find' new filled target n count low f found here room fills alike =
          let k = step (key_at keys (n / 256)) (n % 256) in
          let longer : length keys ≤ length new = grown_length keys new k found in
          let same : (i : ℕ) → i < length keys → key_at new i ≡ key_at keys i = λ i h. key_is new i (key_at keys i) (grown keys new k found i (key_at keys i) (is_key keys i h)) in
          record {
            finds = f;
            starts = λ i q a. grown keys new k found i q (e.starts i q a);
            only = λ i q a. elim (grown_only keys new k found i q a) [
              | inl o ↦ e.only i q o
              | inr o ↦ rw o (reached_more root (key_at keys (n / 256)) (n % 256) (e.only (n / 256) (key_at keys (n / 256)) (is_key keys (n / 256) low)) (omega arith))
            ];
            moves = λ j h. elim (cases_lt j (length next)) [
              | inl g ↦ (let lower : j / 256 < length keys = omega arith in
                  rw (fills.before j g, same (j / 256) lower) (grown keys new k found (slice_index next j) (step (key_at keys (j / 256)) (j % 256)) (e.moves j g)))
              | inr g ↦ (let row = fills.row in
                  let at : j / 256 ≡ n / 256 = omega (arith, row, count, g, h) in
                  let from : n ≤ j = omega (arith, count, g) in
                  rw (at, fills.added j (omega (arith, g)) h, same (n / 256) low, alike j from h) here)
            ];
            behind = let row = fills.row in omega (arith, longer, row, count, low);
            room = room;
          }

      -- what follows the key stays held until its last move
      pub held_on : (follow : Key → Key) (new : List Key) (filled : List ℕ) (target n : ℕ) (held k : Key) → n ≡ length next → n / 256 < length keys → Found keys k new
          → Fills next target filled → held ≡ follow (key_at keys (n / 256)) → Held follow new filled held
      held_on follow new filled target n held k count low found fills is = λ some.
          let row = fills.row in
          let more = fills.more in
          let place : length filled / 256 ≡ n / 256 = omega (arith, row, more, count, some) in
          let same : key_at new (n / 256) ≡ key_at keys (n / 256) = key_is new (n / 256) (key_at keys (n / 256)) (grown keys new k found (n / 256) (key_at keys (n / 256)) (is_key keys (n / 256) low)) in
          rw (place, same) is

      module _ {A : Type 0} (none : A) (f : Key → A) where
        pub told_first : (n : ℕ) (told : List A) (x : A) → n ≡ length next → n % 256 ≡ 0 → TellsSoFar none f keys next told → x ≡ f (key_at keys (n / 256))
            → ToldAt none f keys (n / 256) (told ++ x ∷ [])
        told_first n told x count whole on is =
            let len = on.len in
            let more : length (told ++ x ∷ []) ≡ length told + 1 = length-append told (x ∷ []) in
            let size : length told ≡ n / 256 = omega (arith, len, count, whole) in (
              omega (arith, more, size),
              λ i h. elim (cases_lt i (length told)) [
                | inl g ↦ rw (get_or_append_left told (x ∷ []) none i g) (on.each i g)
                | inr g ↦ (let at : i ≡ n / 256 = omega (arith, more, size, g, h) in
                    rw (at, get_or_push told x none (n / 256) size) is)
              ],
            )

        pub told_further : (n : ℕ) (told : List A) → n ≡ length next → 0 < n % 256 → TellsSoFar none f keys next told → ToldAt none f keys (n / 256) told
        told_further n told count some on = (let len = on.len in omega (arith, len, count, some), on.each)

        pub told_longer : (new : List Key) (filled : List ℕ) (target n : ℕ) (k : Key) (told : List A) → n ≡ length next → n / 256 < length keys → Found keys k new → Fills next target filled
            → ToldAt none f keys (n / 256) told → TellsSoFar none f new filled told
        told_longer new filled target n k told count low found fills on =
            let size = on.0 in
            record {
              len = let row = fills.row in let more = fills.more in omega (arith, row, more, size, count);
              each = λ i h. (let lower : i < length keys = omega (arith, size, h, low) in
                  on.1 i h ∙ ap f (sym (key_is new i (key_at keys i) (grown keys new k found i (key_at keys i) (is_key keys i lower)))));
            }

        pub told_done : (told : List A) → length keys ≤ length next / 256 → TellsSoFar none f keys next told → AreImages none f keys told
        told_done told done on =
            let len = on.len in
            let b = e.behind in
            let size : length told ≡ length keys = omega (arith, len, b, done) in
            record {
              len = size;
              each = λ i k a. (let low : i < length told = (let w = slice_get_within keys i k a in omega (arith, w, size)) in
                  on.each i low ∙ ap f (key_is keys i k a));
            }

      pub apart : Apart keys
      apart i j k a b = let f = e.finds.all k i a in let g = e.finds.all k j b in cc

      pub all_moves : length keys ≤ length next / 256 → (i b : ℕ) (k : Key) → b < 256 → At keys i k → At keys (slice_index next (i * 256 + b)) (step k b)
      all_moves done i b k h a =
          let low : i < length keys = slice_get_within keys i k a in
          let j : i * 256 + b < length next = omega arith in
          let q : (i * 256 + b) / 256 ≡ i = omega arith in
          let r : (i * 256 + b) % 256 ≡ b = omega arith in
          rw (q, r, key_is keys i k a) at (e.moves (i * 256 + b) j)

      closed : length keys ≤ length next / 256 → (i : ℕ) (k : Key) (w : List ℕ) → At keys i k → IsText w → (j : ℕ) × At keys j (run step k w)
      closed done i k [] a h = (i, a)
      closed done i k (b ∷ w) a h = closed done (slice_index next (i * 256 + b)) (step k b) w (all_moves done i b k h.0 a) h.1

      pub finished : length keys ≤ length next / 256 → IsExplored step root keys next
      finished done = record {
        starts = e.starts;
        apart = apart;
        only = e.only;
        all = λ k (i, r, at, (w, text, same)). (let c = closed done i r w (e.starts i r at) text in (c.0, subst (λ (q : Key). At keys c.0 q) same c.1));
        moves = all_moves done;
        len = let b = e.behind in omega arith;
      }

      pub too_many : (n : ℕ) → n ≡ length next → n / 256 < length keys → Absent keys (step (key_at keys (n / 256)) (n % 256)) → limit ≤ length keys → MoreThan limit (Reached step root)
      too_many n count low none full =
          let k = step (key_at keys (n / 256)) (n % 256) in (
            keys ++ k ∷ [],
            omega (arith, length-append keys (k ∷ [])),
            (λ i j q a b. both i j q (at_shorter keys k i q a) (at_shorter keys k j q b)),
            (λ i q a. elim (at_shorter keys k i q a) [
              | inl o ↦ e.only i q o
              | inr o ↦ rw o.1 (reached_more root (key_at keys (n / 256)) (n % 256) (e.only (n / 256) (key_at keys (n / 256)) (is_key keys (n / 256) low)) (omega arith))
            ]),
          )
        where
          both : (i j : ℕ) (q : Key) → At keys i q ⊎ ((i ≡ length keys) × (q ≡ step (key_at keys (n / 256)) (n % 256))) → At keys j q ⊎ ((j ≡ length keys) × (q ≡ step (key_at keys (n / 256)) (n % 256))) → i ≡ j
          both i j q (inl a) (inl b) = apart i j q a b
          both i j q (inl a) (inr b) = absurd (none i (subst (λ (l : Key). At keys i l) b.1 a))
          both i j q (inr a) (inl b) = absurd (none j (subst (λ (l : Key). At keys j l) a.1 b))
          both i j q (inr a) (inr b) = a.0 ∙ sym b.0
