-- One more coefficient, and what is known of all.
use Rattle.std.proofs.Common.{◌≡◌, refl, sym, ap, subst, ◌∙◌, ℕ, suc, ◌≤◌, ◌<◌, List, [], ◌∷◌, ◌++◌, length, arith, slice_index}
use Rattle.std.proofs.Common.{Bool, true, false, cond, ◌||◌, length-append, ◌⊎◌, inl, inr}
use Rattle.std.specs.{FinMap.find, Ordering.{nat_cmp, eq_by_cmp}, Prelude.{Option, Some, None, is_some}}
use Rattle.std.proofs.lemmas.Bool.{false≢true}
use Rattle.std.specs.{Option.IfSome, BTreeSet.BTreeSet}
use Rattle.mpslp_decimal.specs.Decimal.{Number}
use Rattle.mpslp_model_core.proofs.CellLemmas.{number_tied, number_same}
use Rattle.mpslp_model_core.specs.Numbered.{IsOnceBy}
use Rattle.mpslp_builder_parts.specs.CoefficientLog.{LogEntries, chain, IsLog}
use Rattle.mpslp_builder_parts.specs.KnownPairs.{has_pair, in_pairs, AreKnown, IsOpened, IsPairPut}
use Rattle.mpslp_builder_parts.proofs.{GroupLemmas.chained_more, LogLemmas.{logged, kept, one_more, not_tied, is_log-logged}}

-- two numbers are the same or not
pub alike : (n m : ℕ) → (n ≡ m) ⊎ (n ≡ m → ⊥)
alike n m = elim (eq_by_cmp nat_cmp n m) as (λ b. eq_by_cmp nat_cmp n m ≡ b → (n ≡ m) ⊎ (n ≡ m → ⊥)) [
  | true ↦ λ tie. inl (number_same n m tie)
  | false ↦ λ apart. inr (λ same. let tie = number_tied n m same in cc)
] refl

module _ (log : LogEntries) (last : ℕ → ℕ) (is : IsLog log) (within : (i : ℕ) → last i ≤ length log.cells)
    (i r : ℕ) (v : Number) (last_too : ℕ → ℕ) (here : last_too i ≡ suc (length log.cells)) (there : (j : ℕ) →
    (j ≡ i → ⊥) → last_too j ≡ last j) where
  abbrev after : LogEntries
  after = logged log (last i) (r, v)

  own_chain : chain after (last_too i) ≡ (r, v) ∷ chain log (last i)
  own_chain = ap (chain after) here ∙ one_more log (last i) (r, v) is (within i)

  other_chain : (j : ℕ) → (j ≡ i → ⊥) → chain after (last_too j) ≡ chain log (last j)
  other_chain j apart = ap (chain after) (there j apart) ∙ kept log (last i) (r, v) is (last j) (within j)

  own_pair : has_pair after last_too i r ≡ true
  own_pair = ap (λ es. is_some (find nat_cmp r es)) own_chain
      ∙ ap (λ b. is_some (cond b (Some v) (find nat_cmp r (chain log (last i))))) (number_tied r r refl)

  other_row : (q : ℕ) → (q ≡ r → ⊥) → has_pair after last_too i q ≡ has_pair log last i q
  other_row q apart = ap (λ es. is_some (find nat_cmp q es)) own_chain
      ∙ ap (λ b. is_some (cond b (Some v) (find nat_cmp q (chain log (last i))))) (not_tied q r apart)

  other_column : (j q : ℕ) → (j ≡ i → ⊥) → has_pair after last_too j q ≡ has_pair log last j q
  other_column j q apart = ap (λ es. is_some (find nat_cmp q es)) (other_chain j apart)

  -- a pair of another row
  row_apart : (j q : ℕ) → (q ≡ r → ⊥) → has_pair after last_too j q ≡ has_pair log last j q
  row_apart j q apart = elim (alike j i) [
    | inl same ↦ subst (λ j. has_pair after last_too j q ≡ has_pair log last j q) (sym same) (other_row q apart)
    | inr other ↦ other_column j q other
  ]

  -- a pair that was there
  more : (j q : ℕ) → has_pair log last j q ≡ true → has_pair after last_too j q ≡ true
  more j q had = elim (alike j i) [
    | inl same ↦ elim (alike q r) [
      | inl tie ↦ subst (λ j. has_pair after last_too j q ≡ true) (sym same)
          (subst (λ q. has_pair after last_too i q ≡ true) (sym tie) own_pair)
      | inr apart ↦ row_apart j q apart ∙ had
    ]
    | inr other ↦ other_column j q other ∙ had
  ]

  -- the set with one more pair is that of all pairs
  pub pair_late : (old new : ℕ → ℕ → Bool) → new i r ≡ true →
      ((j q : ℕ) → q < 4294967296 → (j ≡ i → q ≡ r → ⊥) → new j q ≡ old j q) →
      ((j q : ℕ) → j < 4294967295 → q < 4294967296 → old j q ≡ has_pair log last j q) → (j q : ℕ) → j < 4294967295 →
      q < 4294967296 → new j q ≡ has_pair after last_too j q
  pair_late old new here_too others all j q low few = elim (alike j i) [
    | inl column ↦ elim (alike q r) [
      | inl same ↦ (λ d. new (column d) (same d)) ∙ here_too ∙ sym ((λ d. has_pair after last_too (column d) (same d)) ∙ own_pair)
      | inr apart ↦ others j q few (λ _ tie. apart tie) ∙ all j q low few ∙ sym (row_apart j q apart)
    ]
    | inr other ↦ others j q few (λ tie _. other tie) ∙ all j q low few ∙ sym (other_column j q other)
  ]

opened : (after : Option ℕ) (n q : ℕ) → after ≡ Some n → after ≡ Some q → q ≡ n
opened after n q is here = cc

module _ (log : LogEntries) (last row : ℕ → ℕ) (stamps : List ℕ) (open_row open_column : Option ℕ) (pairs : Option (BTreeSet ℕ))
    (k : AreKnown log last row stamps open_row open_column pairs) (i r : ℕ) (v : Number) (absent : has_pair log last i r ≡ false)
    (last_too row_too : ℕ → ℕ) (here : last_too i ≡ suc (length log.cells)) (there : (j : ℕ) → (j ≡ i → ⊥) → last_too j ≡ last j)
    (row_here : row_too i ≡ r) (row_there : (j : ℕ) → (j ≡ i → ⊥) → row_too j ≡ row j) (stamps_too : List ℕ)
    (stamp_here : slice_index stamps_too r ≡ suc i) (stamp_there : (q : ℕ) → (q ≡ r → ⊥) →
    slice_index stamps_too q ≡ slice_index stamps q) (open_row_too open_column_too : Option ℕ)
    (row_opened : IsOpened open_row open_row_too r (slice_index stamps r ≡ 0))
    (column_opened : IsOpened open_column open_column_too i (last i ≡ 0)) (pairs_too : Option (BTreeSet ℕ))
    (put : IfSome pairs_too (λ set. (j q : ℕ) → j < 4294967295 → q < 4294967296 →
    in_pairs set j q ≡ has_pair (logged log (last i) (r, v)) last_too j q)) where
  abbrev late : ℕ → ℕ → Bool
  late = has_pair (logged log (last i) (r, v)) last_too

  own_late : late i r ≡ true
  own_late = own_pair log last k.log k.within i r v last_too here there

  other_late : (j q : ℕ) → (q ≡ r → ⊥) → late j q ≡ has_pair log last j q
  other_late = row_apart log last k.log k.within i r v last_too here there

  column_late : (j q : ℕ) → (j ≡ i → ⊥) → late j q ≡ has_pair log last j q
  column_late = other_column log last k.log k.within i r v last_too here there

  kept_late : (j q : ℕ) → has_pair log last j q ≡ true → late j q ≡ true
  kept_late = more log last k.log k.within i r v last_too here there

  within_late : (j : ℕ) → last_too j ≤ length (log.cells ++ (r, v) ∷ [])
  within_late j = let long = length-append log.cells ((r, v) ∷ []) in elim (alike j i) [
    | inl same ↦ let is = ap last_too same ∙ here in omega (arith, is, long)
    | inr apart ↦ let is = there j apart in
        let below = k.within j in omega (arith, is, below, long)
  ]

  none_before : find nat_cmp r (chain log (last i)) ≡ None
  none_before = is_none (find nat_cmp r (chain log (last i))) absent
    where
      is_none : {X : Type 0} (o : Option X) → is_some o ≡ false → o ≡ None
      is_none None h = refl
      is_none (Some x) h = cc

  once_late : (j : ℕ) → IsOnceBy nat_cmp (chain (logged log (last i) (r, v)) (last_too j))
  once_late j = elim (alike j i) [
    | inl same ↦ subst (λ es. IsOnceBy nat_cmp es) (sym (ap (λ j. chain (logged log (last i) (r, v)) (last_too j)) same
        ∙ own_chain log last k.log k.within i r v last_too here there)) (none_before, k.once i)
    | inr apart ↦ subst (λ es. IsOnceBy nat_cmp es)
        (sym (other_chain log last k.log k.within i r v last_too here there j apart)) (k.once j)
  ]

  own_row : (j : ℕ) → 0 < last_too j → late j (row_too j) ≡ true
  own_row j some = elim (alike j i) [
    | inl same ↦ subst (λ j. late j (row_too j) ≡ true) (sym same) (ap (late i) row_here ∙ own_late)
    | inr apart ↦ let is = there j apart in
        ap (late j) (row_there j apart) ∙ kept_late j (row j) (k.own j (omega (arith, some, is)))
  ]

  empty_late : (q : ℕ) → slice_index stamps_too q ≡ 0 → (j : ℕ) → late j q ≡ false
  empty_late q none j = elim (alike q r) [
    | inl same ↦ let is = ap (slice_index stamps_too) same ∙ stamp_here in absurd (omega (arith, is, none))
    | inr apart ↦ other_late j q apart ∙ k.empty q (sym (stamp_there q apart) ∙ none) j
  ]

  stamped_late : (q j : ℕ) → slice_index stamps_too q ≡ suc j → late j q ≡ true
  stamped_late q j stamp = elim (alike q r) [
    | inl same ↦ let is = ap (slice_index stamps_too) same ∙ stamp_here in
        let column : i ≡ j = omega (arith, is, stamp) in
        subst (λ j. late j q ≡ true) column (subst (λ q. late i q ≡ true) (sym same) own_late)
    | inr apart ↦ kept_late j q (k.stamped q j (sym (stamp_there q apart) ∙ stamp))
  ]

  by_row_late : (q : ℕ) → open_row_too ≡ Some q → (j : ℕ) → late j q ≡ true → row_too j ≡ q
  by_row_late q at j had = elim row_opened [
    | inl none ↦ cc
    | inr new ↦ let same = opened open_row_too r q new.0 at in elim (alike j i) [
      | inl column ↦ ap row_too column ∙ row_here ∙ sym same
      | inr apart ↦ let before = ap (has_pair log last j) (sym same) ∙ sym (column_late j q apart) ∙ had in elim new.1 [
        | inl stays ↦ row_there j apart ∙ k.by_row r stays j before ∙ sym same
        | inr none ↦ absurd (false≢true (sym (k.empty r none j) ∙ before))
      ]
    ]
  ]

  by_column_late : (j : ℕ) → open_column_too ≡ Some j → (q : ℕ) → late j q ≡ true → slice_index stamps_too q ≡ suc j
  by_column_late j at q had = elim column_opened [
    | inl none ↦ cc
    | inr new ↦ let same = opened open_column_too i j new.0 at in elim (alike q r) [
      | inl row_same ↦ ap (slice_index stamps_too) row_same ∙ stamp_here ∙ ap suc (sym same)
      | inr apart ↦ let before = ap (λ j. has_pair log last j q) (sym same) ∙ sym (other_late j q apart) ∙ had in elim new.1 [
        | inl stays ↦ stamp_there q apart ∙ k.by_column i stays q before ∙ ap suc (sym same)
        | inr none ↦ absurd (false≢true (sym (ap (λ n. is_some (find nat_cmp q (chain log n))) none) ∙ before))
      ]
    ]
  ]

  pub known_more : AreKnown (logged log (last i) (r, v)) last_too row_too stamps_too open_row_too open_column_too pairs_too
  known_more = record {
    log = is_log-logged log (last i) (r, v) k.log (k.within i);
    within = within_late;
    once = once_late;
    own = own_row;
    empty = empty_late;
    stamped = stamped_late;
    by_row = by_row_late;
    by_column = by_column_late;
    columns = chained_more log last last_too i (r, v) k.log k.columns here there (λ n. alike n i);
    pairs = put;
  }

-- a pair of a chain is put into the set, and the others of the chain are left
pub put_next : (old new : BTreeSet ℕ) (column row : ℕ) (first later : ℕ → Bool) → IsPairPut column row old new
    → ((q : ℕ) → first q ≡ (eq_by_cmp nat_cmp q row || later q)) → (r : ℕ) → r < 4294967296
    → (in_pairs new column r || later r) ≡ (in_pairs old column r || first r)
put_next old new column row first later put found r few = elim (alike r row) [
  | inl same ↦
      let here = ap (in_pairs new column) same ∙ put.here in
      let tied = number_tied r row same in
      (λ i. here i || later r) ∙ sym (ap (λ b. in_pairs old column r || b) (found r ∙ (λ i. tied i || later r))
      ∙ last_true (in_pairs old column r))
  | inr apart ↦
      let kept = put.others column r few (λ _ same. apart same) in
      let free = not_tied r row apart in
      (λ i. kept i || later r) ∙ sym (ap (λ b. in_pairs old column r || b) (found r ∙ (λ i. free i || later r)))
]
  where
    last_true : (b : Bool) → (b || true) ≡ true
    last_true = grind arith
