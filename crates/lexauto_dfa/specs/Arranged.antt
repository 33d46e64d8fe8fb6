-- States in an order in which each block is a stretch, whose marked states stand first.
use Rattle.std.specs.Prelude.{◌≡◌, ◌≢◌, ◌⊎◌, ◌↔◌, ◌^◌, ℕ, ◌+◌, ◌-◌, ◌*◌, ◌<◌, ◌≤◌, Bool, true, cond, List, length, slice_index}
use Rattle.lexauto_dfa.specs.declared.least.blocks.Blocks.{Blocks}

-- the block of the state x
abbrev pub block_of : Blocks → ℕ → ℕ
block_of b x = slice_index b.block.items x

abbrev pub place_of : Blocks → ℕ → ℕ
place_of b x = slice_index b.place.items x

abbrev pub states : Blocks → ℕ
states b = length b.block.items

abbrev pub count : Blocks → ℕ
count b = length b.first.items

-- how many states the block c has
abbrev pub size : Blocks → ℕ → ℕ
size b c = slice_index b.end.items c - slice_index b.first.items c

-- the block c has a marked state
abbrev pub IsTouched : Blocks → ℕ → Type 0
IsTouched b c = slice_index b.first.items c < slice_index b.middle.items c

abbrev pub IsMarked : Blocks → ℕ → Type 0
IsMarked b x = slice_index b.place.items x < slice_index b.middle.items (block_of b x)

-- its block has no other state
abbrev pub IsAlone : Blocks → ℕ → Type 0
IsAlone b x = (y : ℕ) → y < states b → block_of b y ≡ block_of b x → y ≡ x

pub record Arrangement (order place block first middle end : List ℕ) : Type 0 where
  pub few : length block < 2 ^ 32
  pub orders : length order ≡ length block
  pub places : length place ≡ length block
  pub middles : length middle ≡ length first
  pub ends : length end ≡ length first
  pub known : (i : ℕ) → i < length block → slice_index order i < length block
  pub placed : (x : ℕ) → x < length block → slice_index place x < length block
  pub back : (x : ℕ) → x < length block → slice_index order (slice_index place x) ≡ x
  pub forth : (i : ℕ) → i < length block → slice_index place (slice_index order i) ≡ i
  pub numbered : (x : ℕ) → x < length block → slice_index block x < length first
  pub after : (x : ℕ) → x < length block → slice_index first (slice_index block x) ≤ slice_index place x
  pub before : (x : ℕ) → x < length block → slice_index place x < slice_index end (slice_index block x)
  pub own : (c i : ℕ) → c < length first → slice_index first c ≤ i → i < slice_index end c
      → slice_index block (slice_index order i) ≡ c
  pub some : (c : ℕ) → c < length first → slice_index first c < slice_index end c
  pub from : (c : ℕ) → c < length first → slice_index first c ≤ slice_index middle c
  pub to : (c : ℕ) → c < length first → slice_index middle c ≤ slice_index end c
  pub within : (c : ℕ) → c < length first → slice_index end c ≤ length block

abbrev pub Arranged : Blocks → Type 0
Arranged b = Arrangement b.order.items b.place.items b.block.items b.first.items b.middle.items b.end.items

-- Two stretches that one falls into: the block keeps one, and the other is a new block.
pub record IsDivided (low high kept kept_end piece piece_end : ℕ) : Type 0 where
  pub kept_some : kept < kept_end
  pub piece_some : piece < piece_end
  pub kept_from : low ≤ kept
  pub kept_to : kept_end ≤ high
  pub piece_from : low ≤ piece
  pub piece_to : piece_end ≤ high
  pub all : (i : ℕ) → low ≤ i → i < high → ((piece ≤ i) × (i < piece_end)) ⊎ ((kept ≤ i) × (i < kept_end))
  pub apart : (i : ℕ) → piece ≤ i → i < piece_end → kept ≤ i → i < kept_end → ⊥

-- the marked and the other states of a block, of which the smaller piece is to be a new block
pub record ArePieces (first middle end kept kept_end piece piece_end : ℕ) : Type 0 where
  pub divided : IsDivided first end kept kept_end piece piece_end
  pub half : 2 * (piece_end - piece) ≤ end - first
  pub either : ((piece ≡ first) × (piece_end ≡ middle)) ⊎ ((piece ≡ middle) × (piece_end ≡ end))

-- One stretch of the block c was made a new block, and the block keeps the other. No state moved.
pub record IsDivision (old : Blocks) (c piece piece_end : ℕ) (new : Blocks) : Type 0 where
  pub order : new.order ≡ old.order
  pub place : new.place ≡ old.place
  pub same_states : states new ≡ states old
  pub grown : count new ≡ count old + 1
  pub piece_is : (slice_index new.first.items (count old) ≡ piece) × (slice_index new.end.items (count old) ≡ piece_end)
  pub moved : (x : ℕ) → x < states old → piece ≤ place_of old x → place_of old x < piece_end
      → block_of new x ≡ count old
  pub rest : (x : ℕ) → ((piece ≤ place_of old x) × (place_of old x < piece_end) → ⊥) → block_of new x ≡ block_of old x
  pub others : (d : ℕ) → d < count old → d ≢ c → (slice_index new.first.items d ≡ slice_index old.first.items d)
      × (slice_index new.middle.items d ≡ slice_index old.middle.items d)
  pub touched : (d : ℕ) → d < count new → IsTouched new d → (d < count old) × (d ≢ c) × IsTouched old d

-- The block c was cut into its marked and its other states, or it has only one sort. None of it is marked any more.
pub record IsCut (old : Blocks) (c : ℕ) (new : Blocks) (done : Bool) : Type 0 where
  pub same_states : states new ≡ states old
  pub grown : count new ≡ cond done (count old + 1) (count old)
  pub kept : (x : ℕ) → x < states old → block_of old x ≢ c → block_of new x ≡ block_of old x
  pub marks : (x : ℕ) → x < states old → block_of old x ≢ c → IsMarked new x ↔ IsMarked old x
  pub either : (x : ℕ) → x < states old → block_of old x ≡ c → (block_of new x ≡ c)
      ⊎ ((done ≡ true) × (block_of new x ≡ count old))
  pub together : (x y : ℕ) → x < states old → y < states old → block_of old x ≡ c → block_of old y ≡ c → IsMarked old x
      ↔ IsMarked old y → block_of new x ≡ block_of new y
  pub apart : (x y : ℕ) → x < states old → y < states old → block_of old x ≡ c → block_of old y ≡ c
      → block_of new x ≡ block_of new y → IsMarked old x ↔ IsMarked old y
  pub touched : (d : ℕ) → d < count new → IsTouched new d → (d < count old) × (d ≢ c) × IsTouched old d
  pub remains : (d : ℕ) → d < count old → d ≢ c → IsTouched old d → IsTouched new d
