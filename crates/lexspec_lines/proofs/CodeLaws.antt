-- Code that was skipped, piece by piece.
use Rattle.std.proofs.Common.{◌≡◌, ℕ, suc, ◌+◌, ◌==◌, Bool, true, false, if◌then◌else◌, List, [], ◌∷◌, ◌++◌, append-nil, refl, sym, ap, subst, ◌∙◌, arith}
use Rattle.std.specs.Prelude.{flat_map}
use Rattle.std.proofs.lemmas.List.{append_assoc}
use Rattle.lexspec_lines.specs.Lines.{newlines}
use Rattle.lexspec_lines.specs.SkippedCode.{Code, line, block, told_lines}
use Rattle.lexspec_lines.specs.Skips.{AreNumbered, next_in, TellsCode, AddsCode, TellsPieces}
use Rattle.lexspec_lines.specs.declared.skipped.Skipped.{Skipped}

pub tells_new : (s : Skipped) → s.lines.items ≡ [] → next_in s ≡ 0 → TellsCode [] s
tells_new s none first = record { on = λ more. ap (λ z. told_lines z more) (sym first) ∙ ap (λ z. z ++ told_lines (next_in s) more) (sym none) }

pub adds_same : (s : Skipped) → AddsCode s [] s
adds_same s = record { behind = λ before tells. subst (λ z. TellsCode z s) (sym (append-nil before)) tells }

-- one piece of code more, by what it adds to the lines
adds_one : (s s' : Skipped) (c : Code) → ((more : List Code) → s.lines.items ++ told_lines (next_in s) (c ∷ more) ≡ s'.lines.items ++ told_lines (next_in s') more) → AddsCode s (c ∷ []) s'
adds_one s s' c one = record { behind = λ before tells. record { on = λ more. ap (told_lines 0) (append_assoc before (c ∷ []) more) ∙ tells.on (c ∷ more) ∙ one more } }

pub adds_line : (s s' : Skipped) (n : ℕ) → s'.lines.items ≡ (if next_in s == n then s.lines.items else s.lines.items ++ n ∷ []) → next_in s' ≡ n + 1 → AddsCode s (line n ∷ []) s'
adds_line s s' n lines next = adds_one s s' (line n) (λ more.
    from more (next_in s == n) ∙ ap (λ z. z ++ told_lines (suc n) more) (sym lines) ∙ ap (λ z. s'.lines.items ++ told_lines z more) (sym after))
  where
    after : next_in s' ≡ suc n
    after = let one : n + 1 ≡ suc n = omega arith in next ∙ one

    from : (more : List Code) (b : Bool) → s.lines.items ++ (if b then told_lines (suc n) more else n ∷ told_lines (suc n) more) ≡ (if b then s.lines.items else s.lines.items ++ n ∷ []) ++ told_lines (suc n) more
    from more true = refl
    from more false = sym (append_assoc s.lines.items (n ∷ []) (told_lines (suc n) more))

pub adds_block : (s s' : Skipped) (n : ℕ) → s'.lines.items ≡ s.lines.items ++ n ∷ [] → next_in s' ≡ next_in s → AddsCode s (block n ∷ []) s'
adds_block s s' n lines next = adds_one s s' (block n) (λ more.
    sym (append_assoc s.lines.items (n ∷ []) (told_lines (next_in s) more)) ∙ ap (λ z. z ++ told_lines (next_in s) more) (sym lines) ∙ ap (λ z. s'.lines.items ++ told_lines z more) (sym next))

-- the lines are those of all the code
pub lines_told : (cs : List Code) (s : Skipped) → TellsCode cs s → s.lines.items ≡ told_lines 0 cs
lines_told cs s tells = sym (append-nil s.lines.items) ∙ sym (tells.on []) ∙ ap (told_lines 0) (append-nil cs)

module _ {A : Type 0} (is_piece : List ℕ → A → List ℕ → Type 0) (code_of : ℕ × A → List Code) where
  numbered_push : (end : ℕ) (t rest next : List ℕ) (xs : List (ℕ × A)) (n : ℕ) (x : A) → AreNumbered is_piece end t xs rest → n + newlines rest ≡ end → is_piece rest x next
      → AreNumbered is_piece end t (xs ++ (n, x) ∷ []) next
  numbered_push end t rest next [] n x h at here = (next, ap (λ z. n + newlines z) h ∙ at, subst (λ z. is_piece z x next) (sym h) here, refl)
  numbered_push end t rest next (y ∷ ys) n x (u, first, piece, later) at here = (u, first, piece, numbered_push end u rest next ys n x later at here)

  code_push : (xs : List (ℕ × A)) (n : ℕ) (x : A) → flat_map code_of (xs ++ (n, x) ∷ []) ≡ flat_map code_of xs ++ code_of (n, x)
  code_push [] n x = append-nil (code_of (n, x))
  code_push (y ∷ ys) n x = ap (λ z. code_of y ++ z) (code_push ys n x) ∙ sym (append_assoc (code_of y) (flat_map code_of ys) (code_of (n, x)))

  pub tells_none : (before : List Code) (end : ℕ) (t : List ℕ) (s : Skipped) → TellsCode before s → TellsPieces before is_piece code_of end t t s
  tells_none before end t s tells = record { pieces = []; numbered = refl; told = subst (λ z. TellsCode z s) (sym (append-nil before)) tells }

  pub tells_more : (before : List Code) (end : ℕ) (t rest next : List ℕ) (n : ℕ) (x : A) (s s' : Skipped) → TellsPieces before is_piece code_of end t rest s → n + newlines rest ≡ end → is_piece rest x next
      → AddsCode s (code_of (n, x)) s' → TellsPieces before is_piece code_of end t next s'
  tells_more before end t rest next n x s s' h at here adds = record {
    pieces = h.pieces ++ (n, x) ∷ [];
    numbered = numbered_push end t rest next h.pieces n x h.numbered at here;
    told = subst (λ z. TellsCode z s') (append_assoc before (flat_map code_of h.pieces) (code_of (n, x)) ∙ ap (λ z. before ++ z) (sym (code_push h.pieces n x))) (adds.behind (before ++ flat_map code_of h.pieces) h.told);
  }
