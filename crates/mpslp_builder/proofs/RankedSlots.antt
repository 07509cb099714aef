-- Slots in sections of rising rank: if no section fills a slot twice, all together do not.
use Rattle.mpslp_builder.proofs.Prelude
use Prelude.{rules, ◌≡◌, refl, sym, ap, ◌∙◌, ℕ, suc, ◌<◌, arith, List, [], ◌∷◌, ◌++◌, true, false, append_assoc, Option, Some, None}
use Prelude.{list_any, flat_map, second_so, is_sorted, is_lt, same_bytes, bytes_cmp, both_so, both_false, so_not, Each, Each-weaker}
use Prelude.{Each-append, are_distinct, Declarations, names_in, below_all}
use Rattle.mpslp_builder.specs.Consistency.{Slot, row_slot, rhs_slot, range_slot, coefficient_slot, lower_slot, upper_slot, same_slot}
use Rattle.mpslp_builder.specs.Consistency.{slots_of, all_slots}
use Rattle.mpslp_builder.proofs.{EntryLemmas.{IsNew, Apart, distinct-append}, SlotLemmas.{same_name, itself_named}}
use Rattle.mpslp_builder.proofs.DraftEntries.{bytes_total}

-- ---- the same slot

pub slot_is : (a b : Slot) → same_slot a b ≡ true → a ≡ b
slot_is = search (rules, same_name)

-- a slot differs from all others
pub new-from_others : (slot : Slot) (slots : List Slot) → Each (λ later. later ≡ slot → ⊥) slots → IsNew same_slot slot slots
new-from_others _ [] h = refl
new-from_others slot (later ∷ slots) h = grind (arith, both_false, slot_is, new-from_others slot slots h.1)

-- ---- sections

module _ (rank : Slot → ℕ) where
  -- none is filled twice, and all are of one rank
  pub record Section (n : ℕ) (slots : List Slot) : Type 0 where
    pub once : are_distinct same_slot slots ≡ true
    pub ranked : Each (λ slot. rank slot ≡ n) slots

  -- of rising rank
  abbrev pub Sections : ℕ → List (List Slot) → Type 0
  Sections n [] = Unit {0}
  Sections n (section ∷ sections) = Section n section × Sections (suc n) sections

  none-above : (low n : ℕ) → low < n
      → (sections : List (List Slot)) → Sections n sections →
      Each (λ slot. rank slot ≡ low → ⊥) (flat_map (λ section. section) sections)
  none-above _ n _ [] h = tt
  none-above low n below (section ∷ sections) h = Each-append
      (λ slot. rank slot ≡ low → ⊥) section (flat_map (λ s. s) sections)
      (Each-weaker (λ slot. rank slot ≡ n) (λ slot. rank slot ≡ low →
      ⊥) (λ slot is other. omega (arith, is, other, below)) section h.0.ranked)
      (none-above low (suc n) (omega (arith, below)) sections h.1)

  pub joined-once : (n : ℕ) (sections : List (List Slot)) → Sections n sections →
      are_distinct same_slot (flat_map (λ section. section) sections) ≡ true
  joined-once n [] h = refl
  joined-once n (section ∷ sections) h = let later = flat_map (λ (s : List Slot). s) sections in distinct-append same_slot
      section later h.0.once (joined-once (suc n) sections h.1)
      (Each-weaker (λ slot. rank slot ≡ n) (λ slot. IsNew same_slot slot later)
      (λ slot is. new-from_others slot later (Each-weaker (λ other. rank other ≡ n → ⊥) (λ other. other ≡ slot → ⊥)
      (λ other not_n same. not_n (ap rank same ∙ is)) later (none-above n (suc n) (omega arith) sections h.1))) section
      h.0.ranked)

-- ---- names

-- entries of different names
abbrev pub AreOther : {X : Type 0} → List (List ℕ × X) → Type 0
AreOther [] = Unit {0}
AreOther (e ∷ es) = Each (λ later. same_bytes later.0 e.0 ≡ false) es × AreOther es

above-other : {X : Type 0} (name : List ℕ) (es : List (List ℕ × X)) → below_all bytes_cmp name es ≡ true →
    Each (λ later. same_bytes later.0 name ≡ false) es
above-other _ [] h = tt
above-other name (e ∷ es) h =
    grind (
      arith,
      same_name,
      bytes_total,
      above-other name es
          (second_so (is_lt (bytes_cmp name e.0)) (below_all bytes_cmp name es) h),
    )

pub other-from_sorted : {X : Type 0} (es : List (List ℕ × X)) → is_sorted bytes_cmp es ≡ true → AreOther es
other-from_sorted [] h = tt
other-from_sorted (e ∷ es) h =
    grind (arith, above-other, other-from_sorted es (second_so (below_all bytes_cmp e.0 es) (is_sorted bytes_cmp es) h))

none_named : {X : Type 0} (name : List ℕ) (es : List (List ℕ × X))
    → Each (λ later. same_bytes later.0 name ≡ false) es → list_any (λ later. same_bytes later name) (names_in es) ≡ false
none_named _ [] h = refl
none_named name (e ∷ es) h = both_false _ _ h.0 (none_named name es h.1)

pub names-distinct : {X : Type 0} (es : List (List ℕ × X)) → AreOther es → are_distinct same_bytes (names_in es) ≡ true
names-distinct [] h = refl
names-distinct (e ∷ es) h = both_so _ _ (so_not _ (none_named e.0 es h.0)) (names-distinct es h.1)

-- ---- slots of entries

-- the name of the entry to which the slot belongs
abbrev pub owner : Slot → Option (List ℕ)
owner (row_slot name) = Some name
owner (rhs_slot name) = Some name
owner (range_slot name) = Some name
owner (coefficient_slot key) = Some key.row
owner (lower_slot name) = Some name
owner (upper_slot name) = Some name
owner _ = None

-- The slots of entries of different names are different, if each has the name of its entry.
pub owners-apart : {X : Type 0} (f : List ℕ × X → List Slot)
    → ((e : List ℕ × X) → Each (λ slot. owner slot ≡ Some e.0) (f e)) → (es : List (List ℕ × X)) → AreOther es →
    Apart same_slot f es
owners-apart f _ [] h = tt
owners-apart {X} f own (e ∷ es) h = (
  Each-weaker (λ slot. owner slot ≡ Some e.0) (λ slot. Each (λ later. IsNew same_slot slot (f later)) es)
      (λ slot is. Each-weaker (λ later. same_bytes later.0 e.0 ≡ false) (λ later. IsNew same_slot slot (f later))
      (λ later other. new-from_others slot (f later) (Each-weaker (λ x. owner x ≡ Some later.0) (λ x. x ≡ slot → ⊥)
      (λ x its same. grind (arith, itself_named)) (f later) (own later))) es h.0) (f e) (own e),
  owners-apart f own es h.1,
)

-- ---- slots of several declarations

pub slots-append : (xs ys : Declarations) → all_slots (xs ++ ys) ≡ all_slots xs ++ all_slots ys
slots-append [] _ = refl
slots-append (x ∷ xs) ys = ap (λ (slots : List Slot). slots_of x ++ slots) (slots-append xs ys)
    ∙ sym (append_assoc (slots_of x) (all_slots xs) (all_slots ys))

pub slots-flat : {X : Type 0} (f : X → Declarations) (xs : List X) →
    all_slots (flat_map f xs) ≡ flat_map (λ x. all_slots (f x)) xs
slots-flat f [] = refl
slots-flat f (x ∷ xs) = slots-append (f x) (flat_map f xs) ∙ ap (λ (slots : List Slot). all_slots (f x) ++ slots)
    (slots-flat f xs)
