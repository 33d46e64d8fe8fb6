-- Building the lists of an automaton from a table of classes.
use Rattle.std.specs.Prelude.{◌≡◌, ℕ, ◌*◌, ◌<◌, ◌≤◌, length, slice_index}
use Rattle.lexauto_dfa.specs.Parts.{goes_on}
use Rattle.lexauto_dfa.specs.declared.dfa.Parts.{Parts}
use Rattle.lexauto_dfa.specs.Lists.{list_at}
use Rattle.lexauto_dfa.specs.Least.{by_turns}
use Rattle.lexauto_dfa.specs.declared.least.tables.ClassTable.{ClassTable}

-- the table has states of the automaton as members, and two starts for each condition
pub record FitsTable (p : Parts) (t : ClassTable) : Type 0 where
  pub few : length t.members.items ≤ length p.goes_on.items
  pub known : (k : ℕ) → k < length t.members.items → slice_index t.members.items k < length p.goes_on.items
  pub starts_len : length t.starts.items ≡ 2 * length p.starts.items
  pub starts_known : (i : ℕ) → i < length t.starts.items → slice_index t.starts.items i < length t.members.items
  pub rows_len : length t.table.items ≡ 256 * length t.members.items
  pub rows_known : (i : ℕ) → i < length t.table.items → slice_index t.table.items i < length t.members.items

-- each state is as the member is
pub record ArePartsOf (p : Parts) (t : ClassTable) (q : Parts) : Type 0 where
  pub conditions : length q.starts.items ≡ length p.starts.items
  pub lines : length q.line_starts.items ≡ length q.starts.items
  pub starts : by_turns q.starts.items q.line_starts.items ≡ t.starts.items
  pub next : q.next.items ≡ t.table.items
  pub count : length q.goes_on.items ≡ length t.members.items
  pub lists_len : length q.accepts.items ≡ length t.members.items
  pub lists : (k : ℕ) → k < length t.members.items
      → list_at q.accepts.items k ≡ list_at p.accepts.items (slice_index t.members.items k)
  pub flags : (k : ℕ) → k < length t.members.items → goes_on q k ≡ goes_on p (slice_index t.members.items k)
