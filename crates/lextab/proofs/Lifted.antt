-- Automata that go alike from their states pack alike.
use Rattle.std.specs.Prelude.{◌≡◌, ℕ, ◌<◌, ◌==◌, List}
use Rattle.std.specs.List.{position_or_len}
use Rattle.std.proofs.Common.{sym, ◌∙◌, arith}
use Rattle.lexauto_dfa.specs.Alike.{Alike}
use Rattle.lextab.specs.Classes.{IsClassMap}
use Rattle.lextab.specs.Columns.{Packing, by_class, IsPacking}
use Rattle.lextab.proofs.Steps.{first_is}
use Rattle.lextab.proofs.Fills.{rows_to}

alike_to : (n : ℕ) (go ho : ℕ → ℕ → ℕ) → ((s b : ℕ) → s < n → b < 256 → go s b ≡ ho s b) → (b c : ℕ) → b < 256 → c < 256 → Alike n go b c → Alike n ho b c
alike_to n go ho same b c hb hc e s h = sym (same s b h hb) ∙ e s h ∙ same s c h hc

classes_to : (n : ℕ) (go ho : ℕ → ℕ → ℕ) (cs : List ℕ) (count : ℕ) → ((s b : ℕ) → s < n → b < 256 → go s b ≡ ho s b) → IsClassMap n go cs count → IsClassMap n ho cs count
classes_to n go ho cs count same x = record {
  bytes = x.bytes;
  alike = λ b c hb hc e. x.alike b c hb hc (alike_to n ho go (λ s d h g. sym (same s d h g)) b c hb hc e);
  apart = λ b c hb hc e. alike_to n go ho same b c hb hc (x.apart b c hb hc e);
  order = x.order;
  below = x.below;
  used = x.used;
}

pub packed_to : (n : ℕ) (go ho : ℕ → ℕ → ℕ) (p : Packing) → ((s b : ℕ) → s < n → b < 256 → go s b ≡ ho s b) → IsPacking n go p → IsPacking n ho p
packed_to n go ho p same x = record {
  classes = classes_to n go ho p.class_of p.class_count same x.classes;
  rows = rows_to n (by_class go p.class_of) (by_class ho p.class_of) p.class_count p.defaults p.bases p.check p.next
      (λ s k h l. same s (position_or_len (λ c. c == k) p.class_of) h
      (let u = (x.classes).used k l in let len = (x.classes).bytes in let f = (first_is p.class_of k u.0 (let u1 = u.1 in omega arith) u.2).0 in omega arith))
      x.rows;
}
