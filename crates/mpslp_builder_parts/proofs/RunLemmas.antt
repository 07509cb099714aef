-- Coefficients that are grouped by columns, and sorted where they are.
use Rattle.std.proofs.Common.{◌≡◌, refl, sym, ap, subst, ◌∙◌, ℕ, zero, suc, ◌+◌, ◌-◌, ◌≤◌, ◌<◌, List, [], ◌∷◌, ◌++◌}
use Rattle.std.proofs.Common.{length, arith, take, drop}
use Rattle.std.specs.Prelude.{slice_range, reverse}
use Rattle.mpslp_builder_parts.specs.CoefficientLog.{LogEntries, chain, IsLog}
use Rattle.mpslp_builder_parts.specs.Grouping.{times_below, ArePlaced, HasGroup, AreGrouped}
use Rattle.std.proofs.{Common.{get_or, slice_index}}
use Rattle.mpslp_decimal.specs.Decimal.{Number}
use Rattle.std.proofs.Common.{map, IsPermutation}
use Rattle.std.specs.{Cmp.nat_cmp_total, List.{All, Sorted.IsSortedByKey}, Ordering.nat_cmp, Prelude.filter}
use Rattle.std.proofs.lemmas.List.Sorted.{IsPermutation-trans, IsPermutation-map, IsPermutation-sym, IsPermutation-reverse}
use Rattle.mpslp_model_core.specs.Numbered.{is_kept, moved_cells, sorted_of, IsOnceBy}
use Rattle.mpslp_model_core.proofs.CellLemmas.{never_falls-from_sort, filter-permutation}
use Rattle.mpslp_model_core.proofs.RenumberLemmas.{each-from_all, moved-from_any_order}
use Rattle.std.proofs.lemmas.{List.Elements.All-append, List.Sorted.All-permutation}
use Rattle.mpslp_model_core.specs.{ModelColumns.{IsWithin, span_cells}, Numbered.each_part, declared.model_columns.ColumnSpan.ColumnSpan}
use Rattle.mpslp_builder_parts.specs.{Parts.cells_of, StoredColumns.{IsWhole, last_of, parts_of}}
use Rattle.mpslp_builder_parts.specs.declared.known_pairs.StoredColumn.{StoredColumn}
use Rattle.mpslp_builder_parts.proofs.TableLemmas.{all_logged}
use Rattle.mpslp_builder_parts.proofs.GroupLemmas.{below_all, below_le, chain_whole, grouped}
use Rattle.std.proofs.lemmas.List.{get_or-drop, drop-map, take-map, take-append-drop, take_all, drop-drop, append-nil}
use Rattle.std.proofs.lemmas.List.{length-take-le, length-drop, length-append}

-- ---- a part of a list that is replaced by as many items

drop-first : {X : Type 0} (xs zs : List X) → drop (length xs) (xs ++ zs) ≡ zs
drop-first [] zs = refl
drop-first (x ∷ xs) zs = drop-first xs zs

take-first : {X : Type 0} (xs zs : List X) → take (length xs) (xs ++ zs) ≡ xs
take-first [] zs = refl
take-first (x ∷ xs) zs = ap (λ ys. x ∷ ys) (take-first xs zs)

drop-none : {X : Type 0} (xs : List X) → drop (length xs) xs ≡ []
drop-none [] = refl
drop-none (x ∷ xs) = drop-none xs

drop-both : {X : Type 0} (xs ys zs : List X) → drop (length xs + length ys) (xs ++ (ys ++ zs)) ≡ zs
drop-both [] ys zs = let none : 0 + length ys ≡ length ys = omega arith in ap (λ m. drop m (ys ++ zs)) none ∙ drop-first ys zs
drop-both (x ∷ xs) ys zs = let more : suc (length xs) + length ys ≡ suc (length xs + length ys) = omega arith in
    ap (λ m. drop m (x ∷ xs ++ (ys ++ zs))) more ∙ drop-both xs ys zs

take-middle : {X : Type 0} (xs ys zs : List X) → take (length ys) (drop (length xs) (xs ++ (ys ++ zs))) ≡ ys
take-middle xs ys zs = ap (take (length ys)) (drop-first xs (ys ++ zs)) ∙ take-first ys zs

module _ {X : Type 0} (xs items ys : List X) (start end n : ℕ) (same : xs ≡ items) (len : n ≡ length items)
    (order : start ≤ end) (room : end ≤ n) (as_many : length ys ≡ end - start) where
  abbrev put : List X
  put = take start xs ++ (ys ++ drop (end - start) (drop start xs))

  put_is : put ≡ take start items ++ (ys ++ drop end items)
  put_is = let back : start + (end - start) ≡ end = omega (arith, order) in
      (λ i. take start (same i) ++ (ys ++ drop (end - start) (drop start (same i))))
      ∙ ap (λ zs. take start items ++ (ys ++ zs)) (drop-drop (end - start) start items ∙ ap (λ m. drop m items) back)

  heads : length (take start items) ≡ start
  heads = length-take-le start items (omega (arith, len, order, room))

  long : length (take start items ++ (ys ++ drop end items)) ≡ n
  long = let tails = length-drop end items in
      let front = heads in
      length-append (take start items) (ys ++ drop end items) ∙ ap (λ m. length (take start items) + m)
      (length-append ys (drop end items)) ∙ omega (arith, tails, front, len, order, room, as_many)

  pub put_back : take n (put ++ drop (length put) items) ≡ take start items ++ (ys ++ drop end items)
  put_back = ap (λ zs. take n (zs ++ drop (length zs) items)) put_is ∙ whole (take start items ++ (ys ++ drop end items)) long
    where
      whole : (zs : List X) → length zs ≡ n → take n (zs ++ drop (length zs) items) ≡ zs
      whole zs all = ap (λ m. take n (zs ++ drop m items)) (all ∙ len) ∙ ap (λ ws. take n (zs ++ ws)) (drop-none items)
          ∙ ap (take n) (append-nil zs) ∙ take_all n zs (omega (arith, all))

  pub after_put : drop end (take start items ++ (ys ++ drop end items)) ≡ drop end items
  after_put = let ends : length (take start items) + length ys ≡ end =
      (let front = heads in omega (arith, front, as_many, order)) in
      ap (λ m. drop m (take start items ++ (ys ++ drop end items))) (sym ends) ∙ drop-both (take start items) ys (drop end items)

  pub middle_put : take (end - start) (drop start (take start items ++ (ys ++ drop end items))) ≡ ys
  middle_put = (λ i. take (sym as_many i) (drop (sym heads i) (take start items ++ (ys ++ drop end items))))
      ∙ take-middle (take start items) ys (drop end items)

-- ---- parts of the vector while its columns are sorted one after another

pub take-short : {X : Type 0} (k n : ℕ) (xs : List X) → k ≤ n → take k (take n xs) ≡ take k xs
take-short zero n xs h = refl
take-short (suc k) zero xs h = absurd (omega (arith, h))
take-short (suc k) (suc n) [] h = refl
take-short (suc k) (suc n) (x ∷ xs) h = ap (λ ys. x ∷ ys) (take-short k n xs (omega (arith, h)))

part-short : {X : Type 0} (s k n : ℕ) (xs : List X) → s + k ≤ n → take k (drop s (take n xs)) ≡ take k (drop s xs)
part-short zero k n xs h = take-short k n xs (omega (arith, h))
part-short (suc s) k zero xs h = absurd (omega (arith, h))
part-short (suc s) k (suc n) [] h = refl
part-short (suc s) k (suc n) (x ∷ xs) h = part-short s k n xs (omega (arith, h))

-- a part of the first items is one of all
pub slice-short : {X : Type 0} (xs ys : List X) (n start end : ℕ) → take n xs ≡ take n ys → start ≤ end → end ≤ n
    → slice_range xs start end ≡ slice_range ys start end
slice-short xs ys n start end same order room = let whole : start + (end - start) ≤ n = omega (arith, order, room) in
    sym (part-short start (end - start) n xs whole) ∙ ap (λ zs. take (end - start) (drop start zs)) same
    ∙ part-short start (end - start) n ys whole

-- the items after a later index
pub drop-later : {X : Type 0} (xs ys : List X) (start end : ℕ) → drop start xs ≡ drop start ys → start ≤ end →
    drop end xs ≡ drop end ys
drop-later xs ys start end same order = let whole : start + (end - start) ≡ end = omega (arith, order) in
    ap (λ m. drop m xs) (sym whole) ∙ sym (drop-drop (end - start) start xs) ∙ ap (drop (end - start)) same
    ∙ drop-drop (end - start) start ys ∙ ap (λ m. drop m ys) whole

-- the sorted coefficients of a column are those with the final numbers of their rows
pub group_moved : (log : LogEntries) (ranks : List ℕ)
    (apart : (n m : ℕ) → n < length ranks → m < length ranks → slice_index ranks n ≡ slice_index ranks m → n ≡ m)
    (all : List (ℕ × Number)) (start end last kept : ℕ) → HasGroup log all start end last → IsOnceBy nat_cmp (chain log last)
    → All (λ cell. cell.0 < length ranks) (chain log last) → (cells grouped sorted : List (ℕ × Number))
    → drop start cells ≡ drop start (map (λ cell. (slice_index ranks cell.0, cell.1)) all)
    → slice_range grouped start kept ≡ filter is_kept (slice_range cells start end)
    → IsPermutation (slice_range grouped start kept) (slice_range sorted start kept)
    → IsSortedByKey (λ cell. cell.0) nat_cmp (slice_range sorted start kept)
    → slice_range sorted start kept ≡ moved_cells ranks (sorted_of nat_cmp (chain log last))
group_moved log ranks apart all start end last kept group once within cells grouped sorted rest nonzero moved rises =
    moved-from_any_order (length ranks) rank apart (chain log last) (slice_range sorted start kept) once
    (each-from_all (λ e. e.0 < length ranks) (chain log last) within)
    (IsPermutation-trans (map f (filter is_kept (chain log last))) (slice_range grouped start kept)
    (slice_range sorted start kept)
    (subst (λ (es : List (ℕ × Number)). IsPermutation (map f (filter is_kept es))
    (slice_range grouped start kept)) (sym group.own)
    (subst (IsPermutation (map f (filter is_kept (reverse part))))
    (sym (nonzero ∙ ap (filter is_kept) same ∙ map_kept part))
    (IsPermutation-map f (filter is_kept (reverse part)) (filter is_kept part)
    (filter-permutation is_kept (reverse part) part
    (IsPermutation-sym part (reverse part) (IsPermutation-reverse part)))))) moved)
    (never_falls-from_sort nat_cmp_total (λ (e : ℕ × Number). e.0) (slice_range sorted start kept) rises)
  where
    rank : ℕ → ℕ
    rank n = slice_index ranks n

    f : ℕ × Number → ℕ × Number
    f cell = (rank cell.0, cell.1)

    part : List (ℕ × Number)
    part = slice_range all start end

    same : slice_range cells start end ≡ map f part
    same = ap (take (end - start)) (rest ∙ drop-map f start all) ∙ take-map f (end - start) (drop start all)

    map_kept : (es : List (ℕ × Number)) → filter is_kept (map f es) ≡ map f (filter is_kept es)
    map_kept [] = refl
    map_kept (e ∷ es) = grind (arith, map_kept es)

-- columns before an index keep their coefficients
pub spans-short : (after cells : List (ℕ × Number)) (start : ℕ) → take start after ≡ take start cells →
    (es : List (List ℕ × ColumnSpan)) → All (λ e. IsWithin start e.1) es →
    each_part (span_cells after) es ≡ each_part (span_cells cells) es
spans-short after cells start same [] within = refl
spans-short after cells start same (e ∷ es) within = let own = within zero e (omega arith) in
    λ i. (e.0, slice-short after cells start e.1.start e.1.end same own.order own.room i)
    ∷ spans-short after cells start same es (λ k d below. within (suc k) d (omega (arith, below))) i

-- what holds of the coefficients of all columns holds of the vector
covered : (P : ℕ × Number → Type 0) (log : LogEntries) (all : List (ℕ × Number)) (start end last : ℕ) →
    HasGroup log all start end last → All P (chain log last) → All P (drop end all) → All P (drop start all)
covered P log all start end last group own rest =
    let order = group.order in
    let whole : start + (end - start) ≡ end = omega (arith, order) in
    let part = slice_range all start end in
    subst (All P) (ap (λ es. part ++ es) (ap (λ m. drop m all) (sym whole) ∙ sym (drop-drop (end - start) start all))
    ∙ take-append-drop (end - start) (drop start all))
    (All-append P part (drop end all) (All-permutation P (reverse part) part (IsPermutation-sym part (reverse part)
    (IsPermutation-reverse part)) (subst (All P) group.own own)) rest)

pub all_covered : (P : ℕ × Number →
    Type 0) (log : LogEntries) (all : List (ℕ × Number)) (es : List (List ℕ × StoredColumn)) (start : ℕ) (ends : List ℕ)
    → AreGrouped log all start ends es → All (λ e. IsWhole log e.1) es →
    All (λ e. All P (cells_of e.1)) (each_part (parts_of log) es) → All P (drop start all)
all_covered P log all [] start ends groups known within = λ k d below. let len = length-drop start all in
    absurd (omega (arith, below, len, groups))
all_covered P log all (e ∷ es) start ends groups known within =
    let own = known zero e (omega arith) in
    covered P log all start (slice_index ends 0) e.1.last groups.0
    (all_logged P log e.1 own (within zero (e.0, parts_of log e.1) (omega arith)))
    (all_covered P log all es (slice_index ends 0) (drop 1 ends) groups.1
    (λ k d below. known (suc k) d (omega (arith, below))) (λ k d below. within (suc k) d (omega (arith, below))))

-- the coefficients at their places are grouped by their columns
module _ (log : LogEntries) (is : IsLog log) (last : ℕ →
    ℕ) (count : ℕ) (places ends : List ℕ) (placed : ArePlaced log.earlier last count places ends)
    (all : List (ℕ × Number)) (len : length all ≡ length log.cells) (moved : (i : ℕ) (d : ℕ × Number) →
    i < length log.cells → get_or all (slice_index places i) d ≡ get_or log.cells i d) where
  numbers_len : length placed.numbers ≡ length log.cells
  numbers_len = placed.chained.len ∙ is.len

  has_group : (n : ℕ) → HasGroup log all (times_below n placed.numbers) (times_below (suc n) placed.numbers) (last n)
  has_group n = record {
    order = omega arith;
    room = let most = below_le (suc n) placed.numbers in
        let long = numbers_len in omega (arith, most, long, len);
    own = chain_whole log is last placed.numbers placed.chained n
        ∙ ap reverse (sym (grouped placed.numbers log.cells all numbers_len len
        (λ i d below. ap (λ p. get_or all p d) (sym (placed.each i below)) ∙ moved i d (let long = numbers_len in
        omega (arith, below, long))) n));
  }

  -- the columns from a number on
  pub groups_from : (n start : ℕ) (later : List ℕ) (es : List (List ℕ × StoredColumn)) →
      start ≡ times_below n placed.numbers → n + length es ≡ count →
      ((k : ℕ) → k < length es → slice_index later k ≡ slice_index ends (n + k)) →
      ((k : ℕ) → last_of es k ≡ last (n + k)) → AreGrouped log all start later es
  groups_from n start later [] start_is whole ends_are lasts_are =
      let all_of : n ≡ count = omega (arith, whole) in
      start_is ∙ ap (λ m. times_below m placed.numbers) all_of ∙ below_all count placed.numbers placed.below
      ∙ numbers_len ∙ sym len
  groups_from n start later (e ∷ es) start_is whole ends_are lasts_are =
      let none : n + 0 ≡ n = omega arith in
      let end : slice_index later 0 ≡ times_below (suc n) placed.numbers =
      ends_are 0 (omega arith) ∙ ap (slice_index ends) none ∙ placed.end_of n (omega (arith, whole)) in
      let own : e.1.last ≡ last n = lasts_are 0 ∙ ap last none in (
        subst (λ (s : (ℕ × ℕ) × ℕ). HasGroup log all s.0.0 s.0.1 s.1) (λ i. ((sym start_is i, sym end i), sym own i))
            (has_group n),
        groups_from (suc n) (slice_index later 0) (drop 1 later) es end (omega (arith, whole))
            (λ k below. get_or-drop 1 later k 0 ∙ ap (slice_index later) (let next : 1 + k ≡ suc k = omega arith in
            next) ∙ ends_are (suc k) (omega (arith, below))
            ∙ ap (slice_index ends) (let same : n + suc k ≡ suc n + k = omega arith in same))
            (λ k. lasts_are (suc k) ∙ ap last (let same : n + suc k ≡ suc n + k = omega arith in same)),
      )

pub are_grouped : (log : LogEntries) → IsLog log →
    (es : List (List ℕ × StoredColumn)) (cells all : List (ℕ × Number)) (links places ends : List ℕ)
    → cells ≡ log.cells → links ≡ log.earlier → ArePlaced links (last_of es) (length es) places ends → length all ≡ length cells
    → ((i : ℕ) (d : ℕ × Number) → i < length cells → get_or all (slice_index places i) d ≡ get_or cells i d) →
    AreGrouped log all 0 ends es
are_grouped log is es cells all links places ends cells_are links_are placed len moved =
    groups_from log is (last_of es) (length es) places ends
    (subst (λ ls. ArePlaced ls (last_of es) (length es) places ends) links_are placed) all (len ∙ ap length cells_are)
    (subst (λ (cs : List (ℕ × Number)). (i : ℕ) (d : ℕ × Number) → i < length cs →
    get_or all (slice_index places i) d ≡ get_or cs i d) cells_are moved) 0 0 ends es refl (omega arith)
    (λ k below. ap (slice_index ends) (first k)) (λ k. ap (last_of es) (first k))
  where
    first : (k : ℕ) → k ≡ 0 + k
    first k = omega arith

-- the columns before a number are sorted, and those that are left are grouped still
pub record IsPartly (log : LogEntries) (ranks : List ℕ) (number start : ℕ) (ends : List ℕ) (cells : List (ℕ × Number))
    (left : List (List ℕ × StoredColumn)) : Type 0 where
  pub all : List (ℕ × Number)
  pub len : length cells ≡ length all
  pub rest : drop start cells ≡ drop start (map (λ cell. (slice_index ranks cell.0, cell.1)) all)
  pub groups : AreGrouped log all start (drop number ends) left
  pub room : start ≤ length all
  pub whole : number + length left ≡ length ends

-- all columns with one more
pub within-next : (start kept end : ℕ) (es done : List (List ℕ × ColumnSpan)) (e : List ℕ × ColumnSpan) → start ≤ kept →
    kept ≤ end → done ≡ es ++ e ∷ [] → e.1.start ≡ start → e.1.end ≡ kept → All (λ e. IsWithin start e.1) es →
    All (λ e. IsWithin end e.1) done
within-next start kept end es done e order inside made starts ends within = subst (All (λ e. IsWithin end e.1)) (sym made)
    (All-append (λ e. IsWithin end e.1) es (e ∷ []) (λ k d below. let before = within k d below in record {
      order = before.order;
      room = let room = before.room in omega (arith, room, order, inside);
    }) own)
  where
    own : All (λ e. IsWithin end e.1) (e ∷ [])
    own zero d below = record { order = omega (arith, starts, ends, order); room = omega (arith, ends, inside) }
    own (suc k) d below = absurd (omega (arith, below))
