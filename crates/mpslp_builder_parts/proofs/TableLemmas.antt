-- The columns of a table, after one more coefficient.
use Rattle.std.proofs.Common.{◌≡◌, refl, sym, ap, subst, ◌∙◌, ℕ, zero, suc, ◌≤◌, ◌<◌, List, [], ◌∷◌, ◌++◌, length}
use Rattle.std.proofs.Common.{arith, false, ◌≢◌, slice_index, inl, inr}
use Rattle.std.specs.{Option.{IfSome, option_map, option_map_or}, Ordering.nat_cmp}
use Rattle.std.specs.{Prelude.{Option, Some, None, slice_get}, BTreeSet.{BTreeSet}}
use Rattle.indexmap.specs.IndexMap.{set_value_at}
use Rattle.mpslp_decimal.specs.Decimal.{Number}
use Rattle.std.specs.{List.All}
use Rattle.mpslp_model_core.specs.{Numbered.{each_part, sorted_of, IsOnceBy}}
use Rattle.mpslp_model_core.proofs.RenumberLemmas.{all-from_each, each-of_map}
use Rattle.mpslp_builder_parts.specs.CoefficientLog.{LogEntries, chain, IsLog}
use Rattle.mpslp_builder_parts.specs.KnownPairs.{AreKnown, in_pairs, has_pair, IsPutIfSome, IsOpened}
use Rattle.mpslp_builder_parts.specs.StoredColumns.{parts_of, last_of, last_row_of, HasLast, IsKnown, IsWhole}
use Rattle.mpslp_builder_parts.specs.declared.known_pairs.{StoredColumn.StoredColumn, KnownPairs.KnownPairs}
use Rattle.std.specs.{Cmp.nat_cmp_total, FinMap.find, Prelude.is_some}
use Rattle.mpslp_model_core.proofs.CellLemmas.{find-sorted_of}
use Rattle.mpslp_builder_parts.specs.{ColumnTable.{cells_in_column, IsChanged}, Parts.{parts_with, with_cell}, StoredColumns.entries_of}
use Rattle.mpslp_builder_parts.proofs.LogLemmas.{logged, kept, one_more}
use Rattle.mpslp_builder_parts.proofs.{ColumnLemmas.each_part-set, KnownLemmas.{alike, known_more, pair_late}}
use Rattle.mpslp_builder_parts.proofs.TakenLemmas.{part_at as slice_get-part}

-- ---- a write by number

pub get-set_value : {V : Type 0} (es : List (List ℕ × V)) (i : ℕ) (k : List ℕ) (v w : V) → slice_get es i ≡ Some (k, v)
    → slice_get (set_value_at es i w) i ≡ Some (k, w)
get-set_value [] i k v w at = cc
get-set_value (e ∷ es) zero k v w at = grind arith
get-set_value (e ∷ es) (suc i) k v w at = get-set_value es i k v w at

pub get-set_other : {V : Type 0} (es : List (List ℕ × V)) (i j : ℕ) (w : V) → (j ≡ i → ⊥) →
    slice_get (set_value_at es i w) j ≡ slice_get es j
get-set_other [] i j w apart = refl
get-set_other (e ∷ es) zero zero w apart = absurd (apart refl)
get-set_other (e ∷ es) zero (suc j) w apart = refl
get-set_other (e ∷ es) (suc i) zero w apart = refl
get-set_other (e ∷ es) (suc i) (suc j) w apart = get-set_other es i j w (λ same. apart (ap suc same))

module _ (i place row : ℕ) (old new : List (List ℕ × StoredColumn)) (h : HasLast i place row old new) where
  now : slice_get new i ≡ Some (h.key, record h.stored { last = place; last_row = row })
  now = ap (λ es. slice_get es i) h.written ∙ get-set_value old i h.key h.stored _ h.was

  other : (j : ℕ) → (j ≡ i → ⊥) → slice_get new j ≡ slice_get old j
  other j apart = ap (λ es. slice_get es j) h.written ∙ get-set_other old i j _ apart

  pub last_here : last_of new i ≡ place
  last_here = ap (λ (o : Option (List ℕ × StoredColumn)). option_map_or (λ e. e.1.last) o 0) now

  pub last_there : (j : ℕ) → (j ≡ i → ⊥) → last_of new j ≡ last_of old j
  last_there j apart = ap (λ (o : Option (List ℕ × StoredColumn)). option_map_or (λ e. e.1.last) o 0) (other j apart)

  pub row_here : last_row_of new i ≡ row
  row_here = ap (λ (o : Option (List ℕ × StoredColumn)). option_map_or (λ e. e.1.last_row) o 0) now

  pub row_there : (j : ℕ) → (j ≡ i → ⊥) → last_row_of new j ≡ last_row_of old j
  row_there j apart = ap (λ (o : Option (List ℕ × StoredColumn)). option_map_or (λ e. e.1.last_row) o 0) (other j apart)

  pub last_was : last_of old i ≡ h.stored.last
  last_was = ap (λ (o : Option (List ℕ × StoredColumn)). option_map_or (λ e. e.1.last) o 0) h.was

-- ---- what is seen of the columns

-- one more coefficient in the log changes no column
pub parts_kept : (log : LogEntries) (earlier : ℕ) (cell : ℕ × Number) → IsLog log → (es : List (List ℕ × StoredColumn))
    → ((i : ℕ) → last_of es i ≤ length log.cells) →
    each_part (parts_of (logged log earlier cell)) es ≡ each_part (parts_of log) es
parts_kept log earlier cell is [] within = refl
parts_kept log earlier cell is (e ∷ es) within =
    let same = kept log earlier cell is e.1.last (within zero) in
    λ i. (e.0, record (parts_of log e.1) { cells = sorted_of nat_cmp (same i) }) ∷ parts_kept log earlier cell is es
    (λ j. within (suc j)) i

-- ---- what is found

pub has_in_column : (log : LogEntries) (es : List (List ℕ × StoredColumn)) (i row : ℕ)
    → has_pair log (last_of es) i row ≡ is_some (find nat_cmp row (cells_in_column (entries_of log es) i))
has_in_column log [] i row = refl
has_in_column log (e ∷ es) zero row = ap is_some (sym (find-sorted_of nat_cmp nat_cmp_total row (chain log e.1.last)))
has_in_column log (e ∷ es) (suc i) row = has_in_column log es i row

-- ---- what is known stays known

-- what is stored of the last coefficients stays
module _ (es : List (List ℕ × StoredColumn)) (i : ℕ) (k : List ℕ) (v w : StoredColumn) (at : slice_get es i ≡ Some (k, v)) where
  stays : {X : Type 0} (f : StoredColumn → X) (none : X) → f w ≡ f v → (j : ℕ)
      → option_map_or (λ e. f e.1) (slice_get (set_value_at es i w) j) none ≡ option_map_or (λ e. f e.1) (slice_get es j) none
  stays f none same j = elim (alike j i) [
    | inl here ↦ ap (λ j. option_map_or (λ e. f e.1) (slice_get (set_value_at es i w) j) none) here
        ∙ ap (λ (o : Option (List ℕ × StoredColumn)). option_map_or (λ e. f e.1) o none) (get-set_value es i k v w at)
        ∙ same
        ∙ sym (ap (λ (o : Option (List ℕ × StoredColumn)). option_map_or (λ e. f e.1) o none) at)
        ∙ sym (ap (λ j. option_map_or (λ e. f e.1) (slice_get es j) none) here)
    | inr apart ↦ ap (λ (o : Option (List ℕ × StoredColumn)). option_map_or (λ e. f e.1) o none) (get-set_other es i j w apart)
  ]

  pub known_kept : (log : LogEntries) (known : KnownPairs) → w.last ≡ v.last → w.last_row ≡ v.last_row → IsKnown es log known
      → IsKnown (set_value_at es i w) log known
  known_kept log known last row is =
      subst (λ (p : (ℕ → ℕ) × (ℕ → ℕ)). AreKnown log p.0 p.1 known.stamps.items known.open_row known.open_column known.pairs)
      (sym (λ d. (λ j. stays (λ s. s.last) 0 last j d, λ j. stays (λ s. s.last_row) 0 row j d))) is

-- one more column, which has no coefficients
pub known_added : (es more : List (List ℕ × StoredColumn)) (k : List ℕ) (v : StoredColumn) (log : LogEntries) (known : KnownPairs)
    → more ≡ es ++ (k, v) ∷ [] → v.last ≡ 0 → v.last_row ≡ 0 → IsKnown es log known → IsKnown more log known
known_added es more k v log known is last row before =
    subst (λ (cs : List (List ℕ × StoredColumn)). IsKnown cs log known) (sym is)
    (subst (λ (p : (ℕ → ℕ) × (ℕ → ℕ)). AreKnown log p.0 p.1 known.stamps.items known.open_row known.open_column known.pairs)
    (sym (λ d. (λ j. added (λ s. s.last) last es j d, λ j. added (λ s. s.last_row) row es j d))) before)
  where
    added : (f : StoredColumn → ℕ) → f v ≡ 0 → (es : List (List ℕ × StoredColumn)) (j : ℕ)
        → option_map_or (λ e. f e.1) (slice_get (es ++ (k, v) ∷ []) j) 0 ≡ option_map_or (λ e. f e.1) (slice_get es j) 0
    added f none [] zero = none
    added f none [] (suc j) = refl
    added f none (e ∷ es) zero = refl
    added f none (e ∷ es) (suc j) = added f none es j

pub known_none : (log : LogEntries) (known : KnownPairs) → log ≡ record { cells = []; earlier = [] } → known.stamps.items ≡ []
    → known.open_row ≡ None → known.open_column ≡ None → known.pairs ≡ None → IsKnown [] log known
known_none log known is stamps row column pairs =
    subst (λ l. AreKnown l (last_of []) (last_row_of []) known.stamps.items known.open_row known.open_column
    known.pairs) (sym is) (record {
      log = record { len = refl; below = λ i. omega arith };
      within = λ i. omega arith;
      once = λ i. tt;
      own = λ i some. absurd (omega (arith, some));
      empty = λ r none i. refl;
      stamped = λ r i stamp. let none = ap (λ xs. slice_index xs r) stamps in absurd (omega (arith, none, stamp));
      by_row = λ r at i had. absurd (cc);
      by_column = λ i at r had. absurd (cc);
      columns = record {
        numbers = [];
        chained =
            record { len = refl; links = λ i below. absurd (omega (arith, below)); lasts = λ n. refl };
      };
      pairs = subst (λ (o : Option (BTreeSet ℕ)). IfSome o (λ set. (i r : ℕ) → i < 4294967295 → r < 4294967296 →
          in_pairs set i r ≡ false)) (sym pairs) tt;
    })

-- one more coefficient, step by step: a pair is put, the coefficient is logged, the stamps are set, and then its column
module _ (es later : List (List ℕ × StoredColumn)) (log logged_too : LogEntries) (known put noted : KnownPairs)
    (i r last place : ℕ) (v : Number) (is : IsKnown es log known) (stamps_same : put.stamps.items ≡ known.stamps.items)
    (row_same : put.open_row ≡ known.open_row) (column_same : put.open_column ≡ known.open_column)
    (pairs_put : IsPutIfSome i r known.pairs put.pairs) (last_is : last ≡ last_of es i)
    (absent : has_pair log (last_of es) i r ≡ false) (place_is : place ≡ suc (length log.cells))
    (cells_are : logged_too.cells ≡ log.cells ++ (r, v) ∷ [])
    (earlier_are : logged_too.earlier ≡ log.earlier ++ last ∷ [])
    (stamp_here : slice_index noted.stamps.items r ≡ suc i) (stamp_there : (q : ℕ) → q ≢ r →
    slice_index noted.stamps.items q ≡ slice_index put.stamps.items q)
    (row_opened : IsOpened put.open_row noted.open_row r (slice_index put.stamps.items r ≡ 0))
    (column_opened : IsOpened put.open_column noted.open_column i (last ≡ 0)) (pairs_kept : noted.pairs ≡ put.pairs)
    (h : HasLast i place r es later) where
  pub log_is : logged_too ≡ logged log (last_of es i) (r, v)
  log_is = λ d. record { cells = cells_are d; earlier = (earlier_are ∙ ap (λ n. log.earlier ++ n ∷ []) last_is) d }

  here : last_of later i ≡ suc (length log.cells)
  here = last_here i place r es later h ∙ place_is

  all_put : (old new : Option (BTreeSet ℕ)) → IsPutIfSome i r old new
      → IfSome old (λ set. (j q : ℕ) → j < 4294967295 → q < 4294967296 → in_pairs set j q ≡ has_pair log (last_of es) j q)
      → IfSome new (λ set. (j q : ℕ) → j < 4294967295 → q < 4294967296 →
      in_pairs set j q ≡ has_pair (logged log (last_of es i) (r, v)) (last_of later) j q)
  all_put None None done all = all
  all_put None (Some new) done all = absurd done
  all_put (Some old) None done all = absurd done
  all_put (Some old) (Some new) done all = λ j q low few. pair_late log (last_of es) is.log is.within i r v (last_of later) here
      (last_there i place r es later h) (in_pairs old) (in_pairs new) done.here done.others all j q low few

  pub known_put : IsKnown later logged_too noted
  known_put = subst (λ l. AreKnown l (last_of later) (last_row_of later) noted.stamps.items noted.open_row
      noted.open_column noted.pairs) (sym log_is)
      (known_more log (last_of es) (last_row_of es) known.stamps.items known.open_row known.open_column known.pairs
      is i r v absent (last_of later) (last_row_of later) here (last_there i place r es later h)
      (row_here i place r es later h) (row_there i place r es later h) noted.stamps.items
      stamp_here (λ q apart. stamp_there q apart ∙ ap (λ xs. slice_index xs q) stamps_same) noted.open_row noted.open_column
      (subst (λ (p : Option ℕ × List ℕ). IsOpened p.0 noted.open_row r (slice_index p.1 r ≡ 0))
      (λ d. (row_same d, stamps_same d)) row_opened)
      (subst (λ (p : Option ℕ × ℕ). IsOpened p.0 noted.open_column i (p.1 ≡ 0))
      (λ d. (column_same d, last_is d)) column_opened) noted.pairs
      (subst (λ (o : Option (BTreeSet ℕ)). IfSome o (λ set. (j q : ℕ) → j < 4294967295 →
      q < 4294967296 → in_pairs set j q ≡ has_pair (logged log (last_of es i) (r, v))
      (last_of later) j q)) (sym pairs_kept) (all_put known.pairs put.pairs pairs_put is.pairs)))

  -- its column has the coefficient, and the others are as they were
  pub column_put : IsChanged i (with_cell r v) (entries_of log es) (entries_of logged_too later)
  column_put = record {
    key = h.key;
    parts = parts_of log h.stored;
    was = slice_get-part (parts_of log) es i ∙ ap (option_map (λ (e : List ℕ × StoredColumn). (e.0, parts_of log e.1))) h.was;
    written = (λ d. each_part (parts_of (log_is d)) (h.written d))
        ∙ each_part-set (parts_of (logged log (last_of es i) (r, v))) es i (record h.stored { last = place; last_row = r })
        ∙ (λ d. set_value_at (parts_kept log (last_of es i) (r, v) is.log es is.within d) i
        (parts_with (sorted_of nat_cmp (own d)) h.stored.definition));
  }
    where
      own : chain (logged log (last_of es i) (r, v)) place ≡ (r, v) ∷ chain log h.stored.last
      own = ap (chain (logged log (last_of es i) (r, v))) place_is ∙ one_more log (last_of es i) (r, v) is.log (is.within i)
          ∙ ap (λ n. (r, v) ∷ chain log n) (last_was i place r es later h)

-- ---- columns of a model

-- what holds of the coefficients in the order of their rows, holds of them in the log
pub all_logged : (P : ℕ × Number → Type 0) (log : LogEntries) (column : StoredColumn) → IsWhole log column
    → All P (sorted_of nat_cmp (chain log column.last)) → All P (chain log column.last)
all_logged P log column whole all = all-from_each P (chain log column.last) (each-of_map P (chain log column.last) whole.once all)

pub all_whole : (log : LogEntries) (es : List (List ℕ × StoredColumn)) → ((i : ℕ) → last_of es i ≤ length log.cells)
    → ((i : ℕ) → IsOnceBy nat_cmp (chain log (last_of es i))) → All (λ e. IsWhole log e.1) es
all_whole log [] within once k d below = absurd (omega (arith, below))
all_whole log (e ∷ es) within once zero d below = record { place = within zero; once = once zero }
all_whole log (e ∷ es) within once (suc k) d below =
    all_whole log es (λ i. within (suc i)) (λ i. once (suc i)) k d (omega (arith, below))
