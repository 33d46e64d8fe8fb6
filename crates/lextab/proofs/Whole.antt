-- The whole of a packing.
use Rattle.std.specs.Prelude.{◌≡◌, ℕ, ◌<◌, List, length, slice_index}
use Rattle.std.proofs.Common.{sym, ap, subst, arith}
use Rattle.lextab.specs.Classes.{IsClassMap}
use Rattle.lextab.specs.Columns.{IsDefault, IsBase, IsSize, AreSlots, AreRows, by_class, IsPacking}
use Rattle.lexauto_dfa.specs.Alike.{moves}
use Rattle.lextab.specs.Searching.{by_head}
use Rattle.lextab.proofs.Steps.{class_target}
use Rattle.lextab.proofs.Fills.{rows_to}

pub bases_at : (next hs hs' ds ds' bs bs' : List ℕ) (n : ℕ) → hs' ≡ hs → ds' ≡ ds → bs' ≡ bs → length bs ≡ n
    → ((s : ℕ) → s < n → IsBase (by_head next hs) (length hs) ds bs s (slice_index bs s))
    → (s : ℕ) → s < length bs' → IsBase (by_head next hs') (length hs') ds' bs' s (slice_index bs' s)
bases_at next hs hs' ds ds' bs bs' n e f g len x s h = let l = ap length g in rw (e, f, g) (x s (omega arith))

pub defaults_at : (next hs hs' ds : List ℕ) (n : ℕ) → hs' ≡ hs
    → ((s : ℕ) → s < n → IsDefault (by_head next hs' s) (length hs') (slice_index ds s)) → (s : ℕ) → s < n → IsDefault (by_head next hs s) (length hs) (slice_index ds s)
defaults_at next hs hs' ds n e x = rw (sym e) x

pub slots_at : (next hs hs' ds ds' bs bs' cs xs : List ℕ) → hs' ≡ hs → ds' ≡ ds → bs' ≡ bs
    → AreSlots (length bs') (by_head next hs') (length hs') ds' bs' cs xs → AreSlots (length bs) (by_head next hs) (length hs) ds bs cs xs
slots_at next hs hs' ds ds' bs bs' cs xs e f g x = rw (sym e, sym f, sym g) x

pub size_at : (hs hs' bs bs' : List ℕ) (size : ℕ) → hs' ≡ hs → bs' ≡ bs → IsSize (length bs') (length hs') bs' size → IsSize (length bs) (length hs) bs size
size_at hs hs' bs bs' size e g x = rw (sym e, sym g) x

pub whole : (n : ℕ) (next cls hs ds bs cs xs : List ℕ) (count : ℕ) → count ≡ length hs → IsClassMap n (moves next) cls (length hs)
    → ((k : ℕ) → k < length hs → (slice_index hs k < 256) × (slice_index cls (slice_index hs k) ≡ k))
    → length ds ≡ n → ((s : ℕ) → s < n → IsDefault (by_head next hs s) (length hs) (slice_index ds s))
    → length bs ≡ n → ((s : ℕ) → s < length bs → IsBase (by_head next hs) (length hs) ds bs s (slice_index bs s))
    → IsSize (length bs) (length hs) bs (length cs) → IsSize (length bs) (length hs) bs (length xs) → AreSlots (length bs) (by_head next hs) (length hs) ds bs cs xs
    → IsPacking n (moves next) (record { class_of = cls; class_count = count; defaults = ds; bases = bs; check = cs; next = xs })
whole n next cls hs ds bs cs xs count e map heads dlen defaults blen bases csize xsize slots = record {
  classes = subst (λ (k : ℕ). IsClassMap n (moves next) cls k) (sym e) map;
  rows = subst (λ (k : ℕ). AreRows n (by_class (moves next) cls) k ds bs cs xs) (sym e)
      (rows_to n (by_head next hs) (by_class (moves next) cls) (length hs) ds bs cs xs
      (λ s k h l. sym (class_target n (moves next) cls (length hs) map s k (slice_index hs k) h (heads k l).0 (heads k l).1))
      (record {
        defaults_len = dlen;
        default = defaults;
        bases_len = blen;
        base = λ s h. bases s (omega arith);
        check_len = subst (λ (m : ℕ). IsSize m (length hs) bs (length cs)) blen csize;
        next_len = subst (λ (m : ℕ). IsSize m (length hs) bs (length xs)) blen xsize;
        slots = subst (λ (m : ℕ). AreSlots m (by_head next hs) (length hs) ds bs cs xs) blen slots;
      }));
}
