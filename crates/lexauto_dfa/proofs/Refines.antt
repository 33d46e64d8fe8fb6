-- Partition refinement finds the coarsest partition.
use Rattle.std.specs.Prelude.{◌≡◌, ◌≢◌, ◌⊎◌, ℕ, suc, ◌+◌, ◌*◌, ◌<◌, Bool, true, false, List, [], ◌∷◌}
use Rattle.std.proofs.Common.{inl, inr, refl, sym, ◌∙◌, arith}
use Rattle.lexauto_dfa.specs.Futures.{Machine, IsClosed, AreLetters, run, Differ, IsCoarsest}
use Rattle.lexauto_dfa.specs.Splits.{Refining, Using, Cuts}

same_or_not : (a b : ℕ) → (a ≡ b) ⊎ (a ≢ b)
same_or_not a b = grind arith

bool_cases : (b : Bool) → (b ≡ true) ⊎ (b ≡ false)
bool_cases true = inl refl
bool_cases false = inr refl

clash : (b : Bool) → b ≡ true → b ≡ false → ⊥
clash b h k = absurd cc

differ_sym : (m : Machine) (x y : ℕ) → Differ m x y → Differ m y x
differ_sym m x y d = (d.0, d.1, λ e. d.2 (sym e))

module _ (m : Machine) (inner : IsClosed m) where
  -- at first states that accept alike are together, and every block but one waits
  pub first_blocks : (block : ℕ → ℕ) (waiting : ℕ → Type 0)
      → ((x y : ℕ) → x < m.states → y < m.states → block x ≡ block y → m.accepts x ≡ m.accepts y)
      → ((x y : ℕ) → x < m.states → y < m.states → m.accepts x ≡ m.accepts y → block x ≡ block y)
      → ((x y : ℕ) → x < m.states → y < m.states → block x ≢ block y → waiting (block x) ⊎ waiting (block y))
      → Refining m block waiting (λ x. 0)
  first_blocks block waiting to back wait = record {
    alike = to;
    apart = λ x y h k n. ([], tt, λ e. n (back x y h k e));
    nested = λ x y h k e. refl;
    stable = λ x y a h k g e. refl;
    all_but_one = λ x y h k e n. wait x y h k n;
  }

  module _ (block : ℕ → ℕ) (waiting : ℕ → Type 0) (coarse : ℕ → ℕ) where
    -- one waiting block is taken
    pub taken : (b : ℕ) (inside : ℕ → Bool) (left : ℕ → Type 0)
        → Refining m block waiting coarse
        → ((x : ℕ) → x < m.states → inside x ≡ true → block x ≡ b)
        → ((x : ℕ) → x < m.states → block x ≡ b → inside x ≡ true)
        → ((c : ℕ) → c ≢ b → waiting c → left c)
        → Using m block left coarse inside 0
    taken b inside left r only all keep = record {
      alike = r.alike;
      apart = r.apart;
      nested = λ x y h k e. (r.nested x y h k e, same_side x y h k e);
      stable = r.stable;
      done = λ x y a h k g e. absurd (omega arith);
      all_but_one = one_of_two;
      differs = λ x y h k i o. r.apart x y h k (λ e. clash (inside y) (all y k (sym e ∙ only x h i)) o);
    }
      where
        same_side : (x y : ℕ) → x < m.states → y < m.states → block x ≡ block y → inside x ≡ inside y
        same_side x y h k e = elim (bool_cases (inside x)) [
          | inl i ↦ i ∙ sym (all y k (sym e ∙ only x h i))
          | inr o ↦ elim (bool_cases (inside y)) [
            | inl j ↦ absurd (clash (inside x) (all x h (e ∙ only y k j)) o)
            | inr p ↦ o ∙ sym p
          ]
        ]

        one_of_two : (x y : ℕ) → x < m.states → y < m.states → coarse x ≡ coarse y → inside x ≡ inside y → block x ≢ block y → left (block x) ⊎ left (block y)
        one_of_two x y h k e i n = elim (bool_cases (inside x)) [
          | inl p ↦ absurd (n (only x h p ∙ sym (only y k (sym i ∙ p))))
          | inr o ↦ elim (r.all_but_one x y h k e n) [
            | inl w ↦ inl (keep (block x) (λ q. clash (inside x) (all x h q) o) w)
            | inr w ↦ inr (keep (block y) (λ q. clash (inside x) (i ∙ all y k q) o) w)
          ]
        ]

    module _ (inside : ℕ → Bool) where
      -- a letter later
      pub by_letter : (k : ℕ) (new : ℕ → ℕ) (after : ℕ → Type 0)
          → Using m block waiting coarse inside k → k < m.letters
          → Cuts m.states block new (λ x. inside (m.step x k)) waiting after
          → Using m new after coarse inside (suc k)
      by_letter k new after u low c = record {
        alike = λ x y h g e. u.alike x y h g (c.finer x y h g e).0;
        apart = apart_now;
        nested = λ x y h g e. u.nested x y h g (c.finer x y h g e).0;
        stable = λ x y a h g l e. u.stable x y a h g l (c.finer x y h g e).0;
        done = λ x y a h g l e. elim (same_or_not a k) [
          | inl q ↦ rw q (c.finer x y h g e).1
          | inr n ↦ u.done x y a h g (omega arith) (c.finer x y h g e).0
        ];
        all_but_one = λ x y h g e i n. elim (same_or_not (block x) (block y)) [
          | inl q ↦ c.one_waits x y h g q n
          | inr d ↦ elim (u.all_but_one x y h g e i d) [ inl w ↦ inl (c.waits x h w) | inr w ↦ inr (c.waits y g w) ]
        ];
        differs = u.differs;
      }
        where
          by_mark : (x y : ℕ) → x < m.states → y < m.states → inside (m.step x k) ≢ inside (m.step y k) → Differ m x y
          by_mark x y h g n =
              let hx = inner x k h low in
              let gy = inner y k g low in
              elim (bool_cases (inside (m.step x k))) [
                | inl i ↦ elim (bool_cases (inside (m.step y k))) [
                  | inl j ↦ absurd (n (i ∙ sym j))
                  | inr o ↦ (let d = u.differs (m.step x k) (m.step y k) hx gy i o in (k ∷ d.0, (low, d.1), d.2))
                ]
                | inr o ↦ elim (bool_cases (inside (m.step y k))) [
                  | inl j ↦ (let d = differ_sym m (m.step y k) (m.step x k) (u.differs (m.step y k) (m.step x k) gy hx j o) in (k ∷ d.0, (low, d.1), d.2))
                  | inr p ↦ absurd (n (o ∙ sym p))
                ]
              ]

          apart_now : (x y : ℕ) → x < m.states → y < m.states → new x ≢ new y → Differ m x y
          apart_now x y h g n = elim (same_or_not (block x) (block y)) [
            | inl q ↦ by_mark x y h g (λ e. n (c.no_finer x y h g q e))
            | inr d ↦ u.apart x y h g d
          ]

      bit : Bool → ℕ
      bit true = 1
      bit false = 0

      bit_same : (a b : Bool) → bit a ≡ bit b → a ≡ b
      unfolding bit
      bit_same true true e = refl
      bit_same true false e = absurd (omega arith)
      bit_same false true e = absurd (omega arith)
      bit_same false false e = refl

      bit_low : (a : Bool) → bit a < 2
      unfolding bit
      bit_low true = omega arith
      bit_low false = omega arith

      both_same : (a b c d : ℕ) → c < 2 → d < 2 → 2 * a + c ≡ 2 * b + d → (a ≡ b) × (c ≡ d)
      both_same a b c d h k e = (omega arith, omega arith)

      -- after the last letter the splitter is a class of the coarse partition
      pub used : Using m block waiting coarse inside m.letters → (finer : ℕ → ℕ) × Refining m block waiting finer
      used u = (
        (λ x. 2 * coarse x + bit (inside x)),
        record {
          alike = u.alike;
          apart = u.apart;
          nested = λ x y h k e. let n = u.nested x y h k e in rw (n.0, n.1) refl;
          stable = λ x y a h k l e. let s = u.stable x y a h k l e in let d = u.done x y a h k l e in rw (s, d) refl;
          all_but_one = λ x y h k e n.
              let p = both_same (coarse x) (coarse y) (bit (inside x)) (bit (inside y)) (bit_low (inside x)) (bit_low (inside y)) e in
              u.all_but_one x y h k p.0 (bit_same (inside x) (inside y) p.1) n;
        },
      )

    -- where no block waits any more, the blocks are the classes of equal futures
    pub finished : Refining m block waiting coarse → ((x : ℕ) → x < m.states → waiting (block x) → ⊥) → IsCoarsest m block
    finished r none = record { same = λ x y h k e w l. always x y h k e w l; apart = r.apart }
      where
        together : (x y : ℕ) → x < m.states → y < m.states → coarse x ≡ coarse y → block x ≡ block y
        together x y h k e = elim (same_or_not (block x) (block y)) [
          | inl q ↦ q
          | inr n ↦ elim (r.all_but_one x y h k e n) [
            | inl w ↦ absurd (none x h w)
            | inr w ↦ absurd (none y k w)
          ]
        ]

        always : (x y : ℕ) → x < m.states → y < m.states → block x ≡ block y → (w : List ℕ) → AreLetters m w → m.accepts (run m x w) ≡ m.accepts (run m y w)
        always x y h k e [] l = r.alike x y h k e
        always x y h k e (a ∷ w) l =
            let hx = inner x a h l.0 in
            let ky = inner y a k l.0 in
            always (m.step x a) (m.step y a) hx ky (together (m.step x a) (m.step y a) hx ky (r.stable x y a h k l.0 e)) w l.1
