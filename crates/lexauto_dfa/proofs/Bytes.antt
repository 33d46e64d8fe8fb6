-- The letters of a table stand for its bytes.
use Rattle.std.proofs.Common.{◌≡◌, ℕ, ◌+◌, ◌*◌, ◌<◌, List, [], ◌∷◌, length, refl, ap, sym, ◌∙◌, arith}
use Rattle.std.specs.Prelude.{slice_index}
use Rattle.lexauto_dfa.specs.Futures.{Machine, IsClosed, AreLetters, run, IsCoarsest}
use Rattle.lexauto_dfa.specs.Letters.{machine, bytes_machine}
use Rattle.lexauto_dfa.specs.Columns.{AreBytes}
use Rattle.lexauto_dfa.specs.LeastTables.{Automaton, IsWhole, after, next, accepts, IsText}
use Rattle.lexauto_dfa.specs.Quotients.{AreClasses}
use Rattle.lexauto_dfa.specs.declared.least.sources.Letter.{Letter}

-- a letter of k moves as the letter a of m does
abbrev Stands : Machine → Machine → ℕ → Type 0
Stands m k a = (b : ℕ) × (b < k.letters) × ((x : ℕ) → x < k.states → m.step x a ≡ k.step x b)

-- a word of k leads where the word w of m does
abbrev Reads : Machine → Machine → List ℕ → Type 0
Reads m k w = (v : List ℕ) × AreLetters k v × ((x : ℕ) → x < k.states → run m x w ≡ run k x v)

reads : (m k : Machine) → IsClosed k → ((a : ℕ) → a < m.letters → Stands m k a) → (w : List ℕ) → AreLetters m w → Reads m k w
reads m k inner stands [] l = ([], tt, λ x h. refl)
reads m k inner stands (a ∷ w) (low, l) =
    let (b, g, s) = stands a low in
    let (v, q, r) = reads m k inner stands w l in
    (b ∷ v, (g, q), λ x h. ap (λ (y : ℕ). run m y w) (s x h) ∙ r (k.step x b) (inner x b h g))

-- machines of which each letter has one of the other with its moves have the same classes
module _ (m k : Machine) (states : m.states ≡ k.states) (outer : IsClosed m) (inner : IsClosed k) (acc : (x : ℕ) → m.accepts x ≡ k.accepts x)
    (there : (a : ℕ) → a < m.letters → Stands m k a) (back : (b : ℕ) → b < k.letters → Stands k m b) where
  pub same_classes : (block : ℕ → ℕ) → IsCoarsest m block → IsCoarsest k block
  same_classes block c = record {
    same = λ x y h g e w l.
        let (v, q, r) = reads k m outer back w l in
        let hm : x < m.states = omega (arith, h, states) in
        let gm : y < m.states = omega (arith, g, states) in
        ap k.accepts (r x hm) ∙ sym (acc (run m x v)) ∙ c.same x y hm gm e v q ∙ acc (run m y v) ∙ sym (ap k.accepts (r y gm));
    apart = λ x y h g n.
        let (w, l, d) = c.apart x y (omega (arith, h, states)) (omega (arith, g, states)) n in
        let (v, q, r) = reads m k inner there w l in
        (v, q, λ e. d (acc (run m x w) ∙ ap k.accepts (r x h) ∙ e ∙ sym (ap k.accepts (r y g)) ∙ sym (acc (run m y w))));
  }

closed_bytes : (table labels : List ℕ) → length table ≡ 256 * length labels → ((i : ℕ) → i < length table → slice_index table i < length labels) → IsClosed (bytes_machine table labels)
closed_bytes table labels len known = λ x a h l. known (x * 256 + a) (omega (arith, h, l, len))

pub by_bytes : (letters : List Letter) (table labels : List ℕ) (block : ℕ → ℕ) → AreBytes table (length labels) letters
    → length table ≡ 256 * length labels → ((i : ℕ) → i < length table → slice_index table i < length labels)
    → IsClosed (machine letters labels)
    → IsCoarsest (machine letters labels) block → IsCoarsest (bytes_machine table labels) block
by_bytes letters table labels block are len known outer c =
    same_classes (machine letters labels) (bytes_machine table labels) refl outer (closed_bytes table labels len known) (λ x. refl)
    (λ k h. let (b, low, i) = are.bytes k h in (b, low, i.moves))
    (λ b h. let (k, i) = are.all b h in (k, i.known, λ x g. sym (i.moves x g)))
    block c

-- classes by labels, where one label stands for one list of rules
module _ (A : Automaton) (whole : IsWhole A) (labels classes : List ℕ) (count : length labels ≡ A.states) (all : length classes ≡ A.states)
    (same : (x y : ℕ) → x < A.states → y < A.states → slice_index labels x ≡ slice_index labels y → accepts A x ≡ accepts A y)
    (one : (x y : ℕ) → x < A.states → y < A.states → accepts A x ≡ accepts A y → slice_index labels x ≡ slice_index labels y)
    (c : IsCoarsest (bytes_machine A.table labels) (λ x. slice_index classes x)) where
  runs : (w : List ℕ) (x : ℕ) → run (bytes_machine A.table labels) x w ≡ after A x w
  runs [] x = refl
  runs (b ∷ w) x = runs w (next A x b)

  low : (w : List ℕ) (x : ℕ) → x < A.states → IsText w → after A x w < A.states
  low [] x h l = h
  low (b ∷ w) x h (a, l) = low w (next A x b) (whole.targets_known (x * 256 + b) (let r = whole.rows in omega (arith, r, h, a))) l

  bytes_are : (w : List ℕ) → IsText w → AreLetters (bytes_machine A.table labels) w
  bytes_are [] l = tt
  bytes_are (b ∷ w) (a, l) = (a, bytes_are w l)

  are_bytes : (w : List ℕ) → AreLetters (bytes_machine A.table labels) w → IsText w
  are_bytes [] l = tt
  are_bytes (b ∷ w) (a, l) = (a, are_bytes w l)

  heads : (p q : ℕ) → ◌≡◌ {A = List ℕ} (p ∷ []) (q ∷ []) → p ≡ q
  heads p q e = cc

  label_after : (w : List ℕ) (x : ℕ) → slice_index labels (run (bytes_machine A.table labels) x w) ≡ slice_index labels (after A x w)
  label_after w x = ap (λ (y : ℕ). slice_index labels y) (runs w x)

  pub are_classes : AreClasses A classes
  are_classes = record {
    all = all;
    same = λ x y h k e w l. same (after A x w) (after A y w) (low w x h l) (low w y k l)
        (sym (label_after w x) ∙ heads (slice_index labels (run (bytes_machine A.table labels) x w)) (slice_index labels (run (bytes_machine A.table labels) y w))
        (c.same x y (omega (arith, h, count)) (omega (arith, k, count)) e w (bytes_are w l)) ∙ label_after w y);
    apart = λ x y h k n.
        let (w, l, d) = c.apart x y (omega (arith, h, count)) (omega (arith, k, count)) n in
        let b = are_bytes w l in
        (w, b, λ e. d (ap (λ (p : ℕ). p ∷ []) (label_after w x ∙ one (after A x w) (after A y w) (low w x h b) (low w y k b) e ∙ sym (label_after w y))));
  }
