-- What a scan by pieces hands on.
use Rattle.std.proofs.Common.{◌≡◌, ℕ, min, Bool, List, [], ◌∷◌, ◌++◌, length, take, drop, refl, sym, ap, subst, ◌∙◌, append_assoc}
use Rattle.std.proofs.lemmas.List.{length-take, take-append-drop}
use Rattle.liblex_calls.specs.Buffers.{HandedOut}
use Rattle.liblex_calls.specs.Backlogs.{rest}
use Rattle.liblex_calls.specs.Progress.{scan_machine, StandsAt, Progress, HandsOn}
use Rattle.liblex_calls.specs.declared.backlog.Backlog.{Backlog}
use Rattle.liblex_calls.specs.declared.piece_scan.PieceScan.{PieceScan}

-- past what was taken the rest of a buffer is as it was
same_rest : (items buffer : List ℕ) → drop (length items) buffer ≡ drop (length (take (length buffer) items)) buffer
same_rest [] [] = refl
same_rest [] (y ∷ ys) = refl
same_rest (x ∷ xs) [] = refl
same_rest (x ∷ xs) (y ∷ ys) = same_rest xs ys

-- what was handed out stands at the front of the buffer
at_front : (items old : List ℕ) → take (length items) (take (length old) items ++ drop (length items) old) ≡ take (length old) items
at_front [] [] = refl
at_front [] (y ∷ ys) = refl
at_front (x ∷ xs) [] = refl
at_front (x ∷ xs) (y ∷ ys) = ap (λ l. x ∷ l) (at_front xs ys)

-- with what is left it is all that waited
pub all_handed : (items old new left : List ℕ) (count : ℕ) → HandedOut items old new count → left ≡ drop (length old) items → take count new ++ left ≡ items
all_handed items old new left count handed rest_is =
    let front : take count new ≡ take (length old) items = ap (λ n. take n new) handed.count_is ∙ ap (take (length items)) handed.buffer ∙ at_front items old in
    ap (λ l. l ++ left) front ∙ ap (λ l. take (length old) items ++ l) rest_is ∙ take-append-drop (length old) items

pub hands_on : (file : List ℕ) (told : Bool) (fed out : List ℕ) (p : PieceScan) (b : Backlog) (old new : List ℕ) (count : ℕ) → Progress file told fed out p → HandedOut (rest p.backlog) old new count → rest b ≡ drop (length old) (rest p.backlog) →
    HandsOn file told fed out (record p { backlog = b }) old new count
hands_on file told fed out p b old new count P handed left =
    let all : List ℕ = rest p.backlog in
    let first : List ℕ = take (length old) all in
    let split : first ++ rest b ≡ all = ap (λ l. first ++ l) left ∙ take-append-drop (length old) all in
    record {
      handed = first;
      buffer = handed.buffer ∙ ap (λ l. first ++ l) (same_rest all old);
      size = length-take (length old) all ∙ ap (λ n. min (length old) n) (sym handed.count_is);
      count_is = handed.count_is ∙ ap length (sym split);
      progress = record {
        machine = P.machine;
        text = P.text;
        finished = P.finished;
        stands = subst (λ l. StandsAt (scan_machine p) p.stage told fed l p.scanner.scan.state p.scanner.waiting.items) (ap (λ l. out ++ l) (sym split) ∙ sym (append_assoc out first (rest b))) P.stands;
      };
    }
