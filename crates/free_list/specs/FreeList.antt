-- What a free list's value holds, means and keeps, over the heap below.
use Rattle.std.specs.Prelude.{ℕ, List}
use Rattle.free_list.specs.declared.held.Held.{Held}
use Rattle.free_list.specs.declared.free_list.FreeList.{FreeList}
use Rattle.heap.specs.Meaning.{Meaning}
use Rattle.heap.specs.Histories.{History}
use Rattle.free_list.specs.FreeLists.{free_listed, FreeListKeeps}

-- the addresses in a table, oldest first
abbrev pub listed : Held → List ℕ
listed t = t.addresses.items

-- its meaning, by the rounding and what the heap below means
abbrev pub free_list_means : {H R : Type 0} → ℕ → (ℕ → ℕ) → (H → Meaning) → FreeList H R → Meaning
free_list_means largest rounds means s = free_listed largest rounds (listed s.held) (means s.below)

-- what it keeps, by the rounding and what the heap below means and keeps
abbrev pub free_list_keeps : {H R : Type 0} → (ℕ → ℕ) → (H → Meaning) → (H → History → H → Type 0) → FreeList H R → History → FreeList H R → Type 0
free_list_keeps rounds means keeps from h s = FreeListKeeps rounds (listed from.held) (means from.below).live (listed s.held) (means s.below).live (λ q. keeps from.below q s.below) h
