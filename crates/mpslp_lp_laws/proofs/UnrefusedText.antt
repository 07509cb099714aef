-- What the canonical text declares is not rejected: each name is new or known, and each value is allowed.
use Rattle.mpslp_lp_laws.proofs.Prelude
use Prelude.{arith, ◌≡◌, refl, ◌∙◌, ℕ, List, [], ◌∷◌, ◌++◌, true, false, filter, Option, Some, None, if◌then◌else◌, flat_map, second_so}
use Prelude.{put, Number, is_zero, have_same_value, bytes_cmp, limit_of, Limit, MinusInf, Finite, PlusInf, both_so, or_left, or_right}
use Prelude.{Column, CoefficientKey, Listing, RowDefinition, declare_constant, declare_row, declare_column, declare_coefficient}
use Prelude.{bounds_declared, Declarations, Draft, empty_draft, with_declaration, with_declarations, has_name, has_row, has-put}
use Prelude.{itself_named, are_known_in_turn, limits_by, AtLeast, EqualTo, Term, row_terms, is_integer_column}
use Prelude.{is_semi_column, is_known, Bool, unwrap_or, list_any, Sense, both_false, Each-weaker, Each-append, Each-flat_map, Each-all}
use Prelude.{by_limits, Declaration, declare_sense, declare_objective, declare_lower, declare_upper, declare_integer, declare_semi}
use Prelude.{row_limits, Relation, objective_terms, rules, sym, ap, ◌<◌, not, length, suc, map, ◌||◌, list_all}
use Prelude.{entries, same_bytes, is_one_of, is_plus_infinite, is_minus_infinite, is_bounded_decimal, are_sides}
use Prelude.{so_not, nor, Each-filter, list_all-from_Each, LinearModel, is_sound_row, is_sound_column, IsSound, listing_of, puts}
use Prelude.{declare_marked, declare_binary, at_name, names_in, is_integer, is_semi, have_infinite_side, refusals_in_turn, is_allowed}
use Prelude.{has_one_constant, AreConsistent, rhs_part, rhs_values-all, same_name, consistent-from_none}
use Prelude.{none-from_fine_in_turn, AtMost, unfit, own-found, row_sides, column_sides, lower_of, upper_of}
use Prelude.{bounded_finite}
use Rattle.std.specs.Cmp.Lexicographic.{nat_list_eq_equiv}
use Rattle.mpslp_types.proofs.EachLemmas.{Each}
use Rattle.mpslp_builder.proofs.RefusalLemmas.{fresh-from_once}
use Rattle.mpslp_lp_laws.proofs.PhraseWalk.{column_and, terms_declared, constant_declared, objective_made, bound_made, column_made}
use Rattle.mpslp_lp_laws.proofs.PhraseWalk.{general_made, semi_made, left_of}
use Rattle.mpslp_lp_laws.proofs.TextWalk.{row_made, listed_declarations, row_left, row_relation, row_right, IsRow, IsPlainText}
use Rattle.mpslp_lp_laws.proofs.{LineLemmas.fit-from_sound, ListedParts.{IsSoundListing, sound-listing, drafted}}
use Rattle.mpslp_builder.proofs.RankedSlots.{AreOther, other-from_sorted}
use Rattle.mpslp_lp_laws.proofs.ListedSlots.{plain-row, listed-once}

-- ---- what the canonical text declares names no row and no column before it is declared

-- ---- several declarations

known-append : (xs ys : Declarations) (context : Draft) → are_known_in_turn context xs ≡ true
    → are_known_in_turn (with_declarations context xs) ys ≡ true → are_known_in_turn context (xs ++ ys) ≡ true
known-append [] _ _ h k = k
known-append (d ∷ xs) ys context h k = grind (
  arith,
  both_so,
  are_known_in_turn,
  known-append xs ys (with_declaration context d)
      (second_so (is_known context d) (are_known_in_turn (with_declaration context d) xs) h) k,
)

-- declarations that name only what they declare themselves
abbrev AlwaysKnown : Declarations → Type 0
AlwaysKnown ds = (context : Draft) → are_known_in_turn context ds ≡ true

always-append : (xs ys : Declarations) → AlwaysKnown xs → AlwaysKnown ys → AlwaysKnown (xs ++ ys)
always-append xs ys h k context = known-append xs ys context (h context) (k (with_declarations context xs))

always-flat : {X : Type 0} (f : X → Declarations) → ((x : X) → AlwaysKnown (f x)) → (xs : List X) → AlwaysKnown (flat_map f xs)
always-flat f h [] _ = refl
always-flat f h (x ∷ xs) context = always-append (f x) (flat_map f xs) (h x) (always-flat f h xs) context

there : {X : Type 0} (name : List ℕ) (v : X) (es : List (List ℕ × X)) → has_name (put bytes_cmp name v es) name ≡ true
there name v es = has-put name name v es ∙ or_left _ _ (itself_named name)

-- ---- terms, and a row

terms-known : (row : List ℕ) (terms : List Term) (context : Draft) → has_row context row ≡ true →
    are_known_in_turn context (terms_declared row terms) ≡ true
terms-known _ [] _ h = refl
terms-known row (term ∷ terms) context h = let after = with_declaration context (declare_column term.0) in
    let key : CoefficientKey = record { row = row; column = term.0 } in both_so _ _
    (both_so _ _ h (there term.0 tt context.columns))
    (terms-known row terms (with_declaration after (declare_coefficient key term.1)) h)

-- ---- the objective

-- ---- bounds

bound-known : (column : List ℕ) (lower upper : Limit) → AlwaysKnown (bound_made column lower upper)
bound-known column MinusInf (Finite b) = (grind (arith, known-append, column_and, there))
bound-known column (Finite a) (Finite b) =
    λ context. elim (have_same_value a b) as
    (λ t. are_known_in_turn context (if t then column_and column (limits_by EqualTo (limit_of b)) else column_and
    column (limits_by AtLeast (limit_of a)) ++ bounds_declared column None (Some (limit_of b))) ≡ true)
    [ true ↦ grind (arith, there) | false ↦ grind (arith, known-append, column_and, there) ]
bound-known column (Finite a) MinusInf =
    λ context. elim (is_zero a) as (λ t. are_known_in_turn context (if t then [] else column_and column
    (limits_by AtLeast (limit_of a))) ≡ true) [ true ↦ refl | false ↦ grind (arith, there) ]
bound-known column (Finite a) PlusInf =
    λ context. elim (is_zero a) as (λ t. are_known_in_turn context (if t then [] else column_and column
    (limits_by AtLeast (limit_of a))) ≡ true) [ true ↦ refl | false ↦ grind (arith, there) ]
bound-known column MinusInf MinusInf = (grind (arith, there))
bound-known column MinusInf PlusInf = (grind (arith, there))
bound-known column PlusInf MinusInf = (grind (arith, there))
bound-known column PlusInf (Finite b) = (grind (arith, there))
bound-known column PlusInf PlusInf = grind (arith, there)

-- ---- types

general-known : (column : List ℕ × Column) → AlwaysKnown (general_made column)
general-known column context = both_so _ _ (there column.0 tt context.columns) refl

semi-known : (column : List ℕ × Column) → AlwaysKnown (semi_made column)
semi-known column context = both_so _ _ (there column.0 tt context.columns) refl

-- ---- the whole text

-- No name is used before it is declared.
pub listed-known : (m : Listing) → are_known_in_turn empty_draft (listed_declarations m) ≡ true
listed-known m = let rows = flat_map (row_made m) m.rows in
    let bounds = flat_map column_made m.columns in
    let generals = flat_map general_made (filter is_integer_column m.columns) in
    let semis = flat_map semi_made (filter is_semi_column m.columns) in always-append (objective_made m)
    (rows ++ (bounds ++ (generals ++ semis))) (grind (
      arith,
      terms_declared,
      known-append,
      constant_declared,
      terms-known,
      or_left,
      itself_named,
      are_known_in_turn,
    )) (always-append rows (bounds ++ (generals ++ semis)) (always-flat
    (row_made m) (λ row. grind (arith, terms-known, or_right, there)) m.rows)
    (always-append bounds (generals ++ semis) (always-flat column_made
    (λ column. bound-known column.0 column.1.lower column.1.upper) m.columns)
    (always-append generals semis (always-flat general_made general-known (filter is_integer_column m.columns))
    (always-flat semi_made semi-known (filter is_semi_column m.columns))))) empty_draft

-- ---- a property of each kind of declaration holds for every declaration of the canonical text

-- the limits by which a row is declared
abbrev pub form_by : Option Number → Relation → Number → RowDefinition
form_by left relation right = let limits = row_limits (left_of left) relation (limit_of right) in
    by_limits (unwrap_or limits.lower MinusInf) (unwrap_or limits.upper PlusInf)

abbrev pub form_made : Limit → Limit → RowDefinition
form_made lower upper = form_by (row_left lower upper) (row_relation lower upper) (row_right lower upper)

-- A property of each declaration, by its kind.
pub record HoldsOfListed (P : Declaration → Type 0) (m : Listing) : Type 0 where
  pub sense : (sense : Sense) → P (declare_sense sense)
  pub objective : (name : List ℕ) → P (declare_objective name)
  pub constant : (value : Number) → P (declare_constant value)
  pub column : (name : List ℕ) → P (declare_column name)
  pub coefficient : (key : CoefficientKey) (value : Number) → P (declare_coefficient key value)
  pub rows : Each (λ row. P (declare_row row.0 (form_made row.1.lower row.1.upper))) m.rows
  pub bounds : Each (λ column. Each P (column_made column)) m.columns
  pub generals : Each (λ column. P (declare_integer column.0)) (filter is_integer_column m.columns)
  pub semis : Each (λ column. P (declare_semi column.0)) (filter is_semi_column m.columns)

module _ (P : Declaration → Type 0) where
  each-term : ((name : List ℕ) → P (declare_column name)) →
      ((key : CoefficientKey) (value : Number) → P (declare_coefficient key value)) →
      (row : List ℕ) (terms : List Term) → Each P (terms_declared row terms)
  each-term _ _ _ [] = tt
  each-term column coefficient row (term ∷ terms) = grind (arith, each-term column coefficient row terms)

  each-constant : ((value : Number) → P (declare_constant value)) → (value : Number) → Each P (constant_declared value)
  each-constant h value = elim (is_zero value) as (λ b. Each P (if b then [] else declare_constant value ∷ []))
      [ true ↦ tt | false ↦ (h value, tt) ]

  -- of each declaration of the text
  pub each-listed : (m : Listing) → HoldsOfListed P m → Each P (listed_declarations m)
  each-listed m h = let rows = flat_map (row_made m) m.rows in
      let bounds = flat_map column_made m.columns in
      let generals = flat_map general_made (filter is_integer_column m.columns) in
      let semis = flat_map semi_made (filter is_semi_column m.columns) in
      Each-append P (objective_made m) (rows ++ (bounds ++ (generals ++ semis))) (
        h.sense m.sense,
        (
          h.objective m.objective,
          Each-append P (terms_declared m.objective (objective_terms m)) (constant_declared m.constant)
              (each-term h.column h.coefficient m.objective (objective_terms m)) (each-constant h.constant m.constant),
        ),
      ) (Each-append P rows (bounds ++ (generals ++ semis))
      (Each-flat_map P (row_made m) m.rows (Each-weaker (λ row. P (declare_row row.0 (form_made row.1.lower row.1.upper)))
      (λ row. Each P (row_made m row)) (λ row r. (r, each-term h.column h.coefficient row.0 (row_terms m row.0))) m.rows h.rows))
      (Each-append P bounds (generals ++ semis) (Each-flat_map P column_made m.columns h.bounds) (Each-append P generals semis
      (Each-flat_map P general_made (filter is_integer_column m.columns) (Each-weaker (λ column. P (declare_integer column.0))
      (λ column. Each P (general_made column)) (λ column c. (h.column column.0, (c, tt)))
      (filter is_integer_column m.columns) h.generals))
      (Each-flat_map P semi_made (filter is_semi_column m.columns) (Each-weaker (λ column. P (declare_semi column.0))
      (λ column. Each P (semi_made column)) (λ column c. (h.column column.0, (c, tt))) (filter is_semi_column m.columns)
      h.semis)))))

  -- for any row, any bound and any type
  pub each-of_kind : (m : Listing) → ((sense : Sense) → P (declare_sense sense)) → ((name : List ℕ) → P (declare_objective name))
      → ((value : Number) → P (declare_constant value)) → ((name : List ℕ) → P (declare_column name)) → ((key : CoefficientKey)
      (value : Number) → P (declare_coefficient key value)) → ((name : List ℕ) (form : RowDefinition) → P (declare_row name form))
      → ((name : List ℕ) (limit : Limit) → P (declare_lower name limit)) →
      ((name : List ℕ) (limit : Limit) → P (declare_upper name limit)) →
      Each (λ column. P (declare_integer column.0)) (filter is_integer_column m.columns) →
      Each (λ column. P (declare_semi column.0)) (filter is_semi_column m.columns) → Each P (listed_declarations m)
  each-of_kind m sense objective constant column coefficient row lower upper generals semis = each-listed m (record {
    sense = sense;
    objective = objective;
    constant = constant;
    column = column;
    coefficient = coefficient;
    rows = Each-all (λ r. P (declare_row r.0 (form_made r.1.lower r.1.upper)))
        (λ r. row r.0 (form_made r.1.lower r.1.upper)) m.rows;
    bounds = Each-all (λ c. Each P (column_made c)) (λ c. grind arith) m.columns;
    generals = generals;
    semis = semis;
  })

pub none-any : {X : Type 0} (p : X → Bool) (xs : List X) → Each (λ x. p x ≡ false) xs → list_any p xs ≡ false
none-any p [] h = refl
none-any p (x ∷ xs) h = both_false _ _ h.0 (none-any p xs h.1)

pub flat-none : {X Y : Type 0} (f : X → List Y) (xs : List X) → Each (λ x. f x ≡ []) xs → flat_map f xs ≡ []
flat-none f [] h = refl
flat-none f (x ∷ xs) h = λ i. h.0 i ++ flat-none f xs h.1 i

-- ---- nothing that the canonical text of a well-formed model declares is rejected, and the declarations are consistent

-- ---- bounds

is-below : (d : Number) → is_bounded_decimal d ≡ true → is_plus_infinite (limit_of d) ≡ false
is-below d h = ap is_plus_infinite (bounded_finite d h)

is-above : (d : Number) → is_bounded_decimal d ≡ true → is_minus_infinite (limit_of d) ≡ false
is-above d h = ap is_minus_infinite (bounded_finite d h)

-- ---- rows and bounds have no infinite limit in the wrong direction

neither : (l u : Limit) → is_plus_infinite l ≡ false → is_minus_infinite u ≡ false →
    not (is_plus_infinite l || is_minus_infinite u) ≡ true
neither l u a b = ap not (both_false _ _ a b)

row-allowed : (l u : Limit) → are_sides l u ≡ true → not (have_infinite_side (form_made l u)) ≡ true
row-allowed (Finite a) (Finite b) h = let low : is_bounded_decimal a ≡ true = lower_of (Finite a) (Finite b) h in
    let up : is_bounded_decimal b ≡ true = upper_of (Finite a) (Finite b) h in elim (have_same_value a b) as (λ t. not
    (have_infinite_side (form_by (if t then None else Some a) (if t then EqualTo else AtMost) b)) ≡ true) [
      | true ↦ neither (limit_of b) (limit_of b) (is-below b up) (is-above b up)
      | false ↦ neither (limit_of a)
          (limit_of b) (is-below a low) (is-above b up)
    ]
row-allowed MinusInf (Finite b) h = neither MinusInf (limit_of b) refl (is-above b (upper_of MinusInf (Finite b) h))
row-allowed (Finite a) PlusInf h = neither (limit_of a) PlusInf (is-below a (lower_of (Finite a) PlusInf h)) refl
row-allowed (Finite a) MinusInf h = neither (limit_of a) PlusInf (is-below a (lower_of (Finite a) MinusInf h)) refl
row-allowed MinusInf PlusInf h = refl
row-allowed _ _ h = cc

bound-allowed : (all : Draft) (name : List ℕ) (l u : Limit) → are_sides l u ≡ true →
    Each (λ d. is_allowed all d ≡ true) (bound_made name l u)
bound-allowed _ _ MinusInf (Finite b) h = (refl, (refl, (so_not _ (is-above b (upper_of MinusInf (Finite b) h)), tt)))
bound-allowed all name (Finite a) (Finite b) h = let low : is_bounded_decimal a ≡ true = lower_of (Finite a) (Finite b) h in
    let up : is_bounded_decimal b ≡ true = upper_of (Finite a) (Finite b) h in
    let last = so_not _ (is-above b up) in
    elim (have_same_value a b) as (λ t. Each (λ d. is_allowed all d ≡ true) (if t then column_and name (limits_by EqualTo
    (limit_of b)) else column_and name (limits_by AtLeast (limit_of a)) ++ bounds_declared name None (Some (limit_of b))))
    [ true ↦ (refl, (so_not _ (is-below b up), (last, tt))) | false ↦ (refl, (so_not _ (is-below a low), (last, tt))) ]
bound-allowed all name (Finite a) MinusInf h = grind (arith, column_and, so_not, is-below, lower_of)
bound-allowed all name (Finite a) PlusInf h = grind (arith, column_and, so_not, is-below, lower_of)
bound-allowed _ _ MinusInf PlusInf h = (refl, (refl, (refl, tt)))
bound-allowed all name _ _ h = cc

-- ---- types

abbrev says_semi : List ℕ → Declaration → Bool
says_semi q (declare_semi column) = same_bytes q column
says_semi q _ = false

semis-said : (ds : Declarations) (all : Draft) (q : List ℕ) →
    is_semi (with_declarations all ds) q ≡ (list_any (says_semi q) ds || is_semi all q)
semis-said [] _ q = refl
semis-said (d ∷ ds) all q = grind (arith, has-put, semis-said ds (with_declaration all d) q)

abbrev says_integer : List ℕ → Declaration → Bool
says_integer q (declare_marked column) = same_bytes q column
says_integer q (declare_integer column) = same_bytes q column
says_integer q (declare_binary column) = same_bytes q column
says_integer q _ = false

integers-said : (ds : Declarations) (all : Draft) (q : List ℕ) →
    is_integer (with_declarations all ds) q ≡ (list_any (says_integer q) ds || is_integer all q)
integers-said [] _ q = refl
integers-said (d ∷ ds) all q = grind (arith, has-put, integers-said ds (with_declaration all d) q)

-- ---- a name has one column, of one type

abbrev IsFound : Listing → List ℕ × Column → Type 0
IsFound m column = at_name m.columns column.0 ≡ Some column.1

kinds-apart : (m : Listing) (x y : List ℕ × Column) → IsFound m x
    → is_integer_column x ≡ true → IsFound m y → is_semi_column y ≡ true →
    (same_bytes x.0 y.0 ≡ false) × (same_bytes y.0 x.0 ≡ false)
kinds-apart = search (rules, same_name)

-- each integer column differs from each semi-continuous one
abbrev Apart : List ℕ × Column → List ℕ × Column → Type 0
Apart x y = (same_bytes x.0 y.0 ≡ false) × (same_bytes y.0 x.0 ≡ false)

module _ (m : Listing) (own : Each (IsFound m) m.columns) where
  whole-apart : Each (λ x. Each (λ y. same_bytes x.0 y.0 ≡ false) (filter is_semi_column m.columns))
      (filter is_integer_column m.columns)
  whole-apart = Each-filter (λ x. Each (λ y. same_bytes x.0 y.0 ≡ false) (filter is_semi_column m.columns))
      is_integer_column m.columns (Each-weaker (IsFound m) (λ x. is_integer_column x ≡ true →
      Each (λ y. same_bytes x.0 y.0 ≡ false) (filter is_semi_column m.columns))
      (λ x found whole. Each-filter (λ y. same_bytes x.0 y.0 ≡ false) is_semi_column m.columns
      (Each-weaker (IsFound m) (λ y. is_semi_column y ≡ true → same_bytes x.0 y.0 ≡ false)
      (λ y there partly. (kinds-apart m x y found whole there partly).0) m.columns own)) m.columns own)

  partly-apart : Each (λ y. Each (λ x. same_bytes y.0 x.0 ≡ false) (filter is_integer_column m.columns))
      (filter is_semi_column m.columns)
  partly-apart = Each-filter (λ y. Each (λ x. same_bytes y.0 x.0 ≡ false) (filter is_integer_column m.columns))
      is_semi_column m.columns (Each-weaker (IsFound m) (λ y. is_semi_column y ≡ true →
      Each (λ x. same_bytes y.0 x.0 ≡ false) (filter is_integer_column m.columns))
      (λ y there partly. Each-filter (λ x. same_bytes y.0 x.0 ≡ false) is_integer_column m.columns
      (Each-weaker (IsFound m) (λ x. is_integer_column x ≡ true → same_bytes y.0 x.0 ≡ false)
      (λ x found whole. (kinds-apart m x y found whole there partly).1) m.columns own)) m.columns own)

  -- so no integer column is declared semi-continuous
  general-allowed : Each (λ x. is_allowed (drafted m) (declare_integer x.0) ≡ true) (filter is_integer_column m.columns)
  general-allowed = Each-weaker (λ x. Each (λ y. same_bytes x.0 y.0 ≡ false) (filter is_semi_column m.columns)) (λ x. is_allowed
      (drafted m) (declare_integer x.0) ≡ true)
      (λ x apart. so_not _ (semis-said (listed_declarations m) empty_draft x.0
      ∙ both_false _ _ (none-any (says_semi x.0) (listed_declarations m)
      (each-of_kind (λ d. says_semi x.0 d ≡ false) m (λ _. refl) (λ _. refl) (λ _. refl)
      (λ _. refl) (λ _ _. refl) (λ _ _. refl) (λ _ _. refl) (λ _ _. refl)
      (Each-all (λ c. says_semi x.0 (declare_integer c.0) ≡ false) (λ _. refl) (filter is_integer_column m.columns))
      apart)) refl)) (filter is_integer_column m.columns) whole-apart

  -- and no semi-continuous column is declared integer
  semi-allowed : Each (λ y. is_allowed (drafted m) (declare_semi y.0) ≡ true) (filter is_semi_column m.columns)
  semi-allowed = Each-weaker (λ y. Each (λ x. same_bytes y.0 x.0 ≡ false) (filter is_integer_column m.columns))
      (λ y. is_allowed (drafted m) (declare_semi y.0) ≡ true)
      (λ y apart. so_not _ (integers-said (listed_declarations m) empty_draft y.0
      ∙ both_false _ _ (none-any (says_integer y.0) (listed_declarations m)
      (each-of_kind (λ d. says_integer y.0 d ≡ false) m (λ _. refl) (λ _. refl) (λ _. refl) (λ _. refl)
      (λ _ _. refl) (λ _ _. refl) (λ _ _. refl) (λ _ _. refl) apart (Each-all (λ c. says_integer y.0
      (declare_semi c.0) ≡ false) (λ _. refl) (filter is_semi_column m.columns)))) refl))
      (filter is_semi_column m.columns) partly-apart

-- ---- the constant

one-constant : (m : Listing) → has_one_constant (drafted m) ≡ true
one-constant m =
    let none : flat_map rhs_part (listed_declarations m) ≡ [] = flat-none rhs_part (listed_declarations m)
    (each-of_kind (λ d. rhs_part d ≡ []) m (λ _. refl) (λ _. refl) (λ _. refl) (λ _. refl) (λ _ _. refl) (λ _ _. refl)
    (λ _ _. refl) (λ _ _. refl) (Each-all (λ c. rhs_part (declare_integer c.0) ≡ []) (λ _. refl)
    (filter is_integer_column m.columns))
    (Each-all (λ c. rhs_part (declare_semi c.0) ≡ []) (λ _. refl) (filter is_semi_column m.columns))) in
    let empty : (drafted m).rhs_values ≡ [] = rhs_values-all (listed_declarations m) empty_draft
    ∙ ap (λ (es : List (List ℕ × Number)). puts bytes_cmp es []) none in grind arith

-- ---- the listing of a well-formed model

-- what is needed of a listing besides being well-formed
record HasOtherNames (m : Listing) : Type 0 where
  pub no_row : Each (λ row. same_bytes row.0 m.objective ≡ false) m.rows
  pub rows : AreOther m.rows
  pub columns : AreOther m.columns
  pub some : 0 < length m.columns

none-named : {X : Type 0} (name : List ℕ) (es : List (List ℕ × X)) → is_one_of (names_in es) name ≡ false →
    Each (λ e. same_bytes e.0 name ≡ false) es
none-named _ [] h = tt
none-named name (e ∷ es) h = let parts = nor _ _ h in
    (sym (nat_list_eq_equiv.symm name e.0) ∙ parts.0, none-named name es parts.1)

same-length : {X Y : Type 0} (f : X → Y) (xs : List X) → length (map f xs) ≡ length xs
same-length f [] = refl
same-length f (x ∷ xs) = ap suc (same-length f xs)

other-names : (m : LinearModel) → IsSound m → HasOtherNames (listing_of m)
other-names = grind (arith, sound-listing, none-named, other-from_sorted, same-length)

all-allowed : (m : Listing) → IsSoundListing m → list_all (is_allowed (drafted m)) (listed_declarations m) ≡ true
all-allowed m h =
    list_all-from_Each (is_allowed (drafted m)) (listed_declarations m)
    (each-listed (λ d. is_allowed (drafted m) d ≡ true) m (record {
      sense = λ _. refl;
      objective = λ _. refl;
      constant = λ _. refl;
      column = λ _. refl;
      coefficient = λ _ _. refl;
      rows = Each-weaker (λ row. is_sound_row row ≡ true)
          (λ row. not (have_infinite_side (form_made row.1.lower row.1.upper)) ≡ true)
          (λ row s. row-allowed row.1.lower row.1.upper (row_sides row s)) m.rows h.rows;
      bounds =
          Each-weaker (λ column. is_sound_column column ≡ true)
          (λ column. Each (λ d. is_allowed (drafted m) d ≡ true) (column_made column))
          (λ column s. bound-allowed (drafted m) column.0 column.1.lower column.1.upper (column_sides column s))
          m.columns h.columns;
      generals = general-allowed m (own-found m.columns h.columns_sorted);
      semis = semi-allowed m (own-found m.columns h.columns_sorted);
    }))

-- ---- the lemmas

-- Nothing that is printed for a well-formed model is rejected.
pub listed-unrefused : (m : LinearModel) → IsSound m → refusals_in_turn empty_draft (listed_declarations (listing_of m)) ≡ []
listed-unrefused m sound =
    let names = other-names m sound in
    let made = listed_declarations (listing_of m) in
    none-from_fine_in_turn made empty_draft
    (fresh-from_once made (listed-once (listing_of m) names.columns names.rows names.no_row))
    (listed-known (listing_of m)) (all-allowed (listing_of m) (sound-listing m sound)) (one-constant (listing_of m))

-- The declarations are consistent.
pub listed-consistent : (m : LinearModel) → IsSound m → AreConsistent (listed_declarations (listing_of m))
listed-consistent m sound = consistent-from_none (listed_declarations (listing_of m)) refl (listed-unrefused m sound)

-- The rows of a well-formed model with LP names are printed with terms, and nothing of its text is rejected.
pub plain-text : (m : LinearModel) → IsSound m → unfit m ≡ None → IsPlainText m
plain-text m sound fits = let names = other-names m sound in record {
  rows = Each-all (λ row. IsRow (row_terms (listing_of m) row.0))
      (λ row. plain-row (listing_of m) (fit-from_sound m sound fits) names.columns names.some row.0) (entries m.rows);
  unrefused = listed-unrefused m sound;
}
