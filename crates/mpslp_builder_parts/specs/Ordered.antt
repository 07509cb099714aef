-- Entries by number in a given order, and the first bytes of their names.
use Rattle.std.specs.Prelude.{◌≡◌, ◌≤◌, ℕ, zero, suc, ◌+◌, ◌*◌, List, [], take, drop, length, slice_get, slice_index, filter_map}
use Rattle.std.specs.Option.{option_map_or}
use Rattle.std.specs.Ordering.{nat_cmp, ordering_then}
use Rattle.std.specs.declared.cmp.Ordering.{Ordering}
use Rattle.mpslp_types.specs.Name.{bytes_cmp}
use Rattle.mpslp_builder_parts.specs.declared.order.Front.{Front}

-- the items of these numbers
abbrev pub entries_at : {X : Type 0} → List X → List ℕ → List X
entries_at items numbers = filter_map (slice_get items) numbers

-- the name of the entry of a number
abbrev pub name_at : {V : Type 0} → List (List ℕ × V) → ℕ → List ℕ
name_at entries number = option_map_or (λ e. e.0) (slice_get entries number) []

-- the first bytes as one number, with 0 for each byte after the end
abbrev pub front_value : ℕ → List ℕ → ℕ
front_value zero name = 0
front_value (suc n) name = front_value n name * 256 + slice_index name n

-- both names begin with the same bytes, and at least so many
abbrev pub BeginAlike : ℕ → List ℕ → List ℕ → Type 0
BeginAlike len first name = (len ≤ length name) × (take len first ≡ take len name)

-- after so many bytes, which all names share
abbrev pub front_at : {V : Type 0} → List (List ℕ × V) → ℕ → ℕ → Front
front_at entries shared number = record { bytes = front_value 8 (drop shared (name_at entries number)); number = number }

-- by the first bytes, and then by the whole name
abbrev pub front_cmp : {V : Type 0} → List (List ℕ × V) → Front → Front → Ordering
front_cmp entries a b = ordering_then (nat_cmp a.bytes b.bytes) (bytes_cmp (name_at entries a.number) (name_at entries b.number))
