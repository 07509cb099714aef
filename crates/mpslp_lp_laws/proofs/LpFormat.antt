-- What LP text declares has only LP names, so LP can express it, and canonical text declares its model.
use Rattle.mpslp_lp_laws.proofs.Prelude
use Prelude.{◌≡◌, refl, sym, ap, subst, ◌∙◌, ℕ, List, [], ◌∷◌, Bool, true, not, map, length, arith, Option, Some, None, unwrap_or}
use Prelude.{if◌then◌else◌, list_all, prefix_len, le-ltb, option_map, option_map_or, first_so, second_so, put, entries, entries-from_sorted}
use Prelude.{bytes_cmp, is_lp_name, is_mps_name, both_so, zero_number, plain_limits, LinearModel, ColumnOf, Declaration, declare_objective}
use Prelude.{declare_row, declare_column, Declarations, Draft, with_declaration, with_declarations, RowDefinition, column_of}
use Prelude.{objective_name, model_of, IsSortedDraft, sorted-draft_of, sorted-mapped, has_lp_name, DeclaresLp, lp_names-declared}
use Prelude.{is_no_lp_name, first_unfit, or_else, unfit, canonical_lp, DeclareTheirModels, DistinguishModels, DeclareWhatFits, IsSound}
use Prelude.{Fault, model-or_fault}
use Rattle.std.proofs.Math.Dec.{T}
use Rattle.mpslp_types.specs.declared.{faults.NameAt.TheVariants.{Objective, Row, Column}, kinds.RowType.TheVariants.Free}
use Rattle.mpslp_types.proofs.EachLemmas.{Each}
use Rattle.mpslp_model_core.specs.Model.{Row as Limits}
use Rattle.mpslp_builder.specs.Meaning.{row_limits}
use Rattle.mpslp_lp.specs.FirstFault.{IsFirstLpFault}
use Rattle.mpslp_lp_laws.proofs.{TextWalk.canonical-declares_if, UnrefusedText.{listed-consistent, plain-text}}
use Rattle.mpslp_lp_laws.proofs.ListedMeaning.{listed-means}

-- ---- what LP text declares has only LP names, so LP can express it

-- ---- the names of a draft

named-put : {X : Type 0} (p : List ℕ → Bool) (k : List ℕ) (v : X) (es : List (List ℕ × X))
    → p k ≡ true → list_all (λ e. p e.0) es ≡ true → list_all (λ e. p e.0) (put bytes_cmp k v es) ≡ true
named-put p k v [] h _ = both_so (p k) true h refl
named-put {X} p k v (e ∷ es) h all =
    grind (arith, both_so, named-put p k v es h (second_so (p e.0) (list_all (λ (x : List ℕ × X). p x.0) es) all))

record HasLpNames (all : Draft) : Type 0 where
  pub objective : option_map_or is_lp_name all.objective true ≡ true
  pub rows : list_all (λ row. is_lp_name row.0) all.rows ≡ true
  pub columns : list_all (λ column. is_lp_name column.0) all.columns ≡ true

names-with_declaration : (all : Draft) (d : Declaration) → has_lp_name d ≡ true → HasLpNames all →
    HasLpNames (with_declaration all d)
names-with_declaration _ (declare_objective _) h names = record { objective = h; rows = names.rows; columns = names.columns }
names-with_declaration all (declare_row name form) h names = grind (arith, named-put is_lp_name name form all.rows h names.rows)
names-with_declaration all (declare_column name) h names = grind (arith, named-put is_lp_name name tt all.columns h names.columns)
names-with_declaration _ _ h names = record { objective = names.objective; rows = names.rows; columns = names.columns }

names-with_declarations : (ds : Declarations) (all : Draft) → list_all has_lp_name ds ≡ true → HasLpNames all →
    HasLpNames (with_declarations all ds)
names-with_declarations [] _ h names = names
names-with_declarations (d ∷ ds) all h names = grind (
  arith,
  names-with_declaration,
  names-with_declarations ds (with_declaration all d) (second_so (has_lp_name d) (list_all has_lp_name ds) h)
      (names-with_declaration all d (first_so (has_lp_name d) (list_all has_lp_name ds) h) names),
)

-- ---- if every name is an LP name

whole-front : (names : List (List ℕ)) → Each (λ name. is_lp_name name ≡ true) names →
    prefix_len (λ name. not (is_no_lp_name name)) names ≡ length names
whole-front [] h = refl
whole-front (name ∷ names) h = grind (arith, arith, whole-front names h.1)

none-unfit : (names : List (List ℕ)) → Each (λ name. is_lp_name name ≡ true) names → first_unfit names ≡ None
none-unfit = grind (arith, whole-front, le-ltb, arith)

lp-named : {X Y : Type 0} (f : List ℕ × X → Y) (es : List (List ℕ × X)) → list_all (λ e. is_lp_name e.0) es ≡ true
    → Each (λ name. is_lp_name name ≡ true) (map (λ (e : List ℕ × Y). e.0) (map (λ e. (e.0, f e)) es))
lp-named f [] h = tt
lp-named {X} f (e ∷ es) h = (
  first_so (is_lp_name e.0) (list_all (λ (x : List ℕ × X). is_lp_name x.0) es) h,
  lp-named f
      es (second_so _ _ h),
)

none-found : (objective : List ℕ) (rows columns : List (List ℕ)) → is_lp_name objective ≡ true
    → first_unfit rows ≡ None → first_unfit columns ≡ None → (if is_no_lp_name objective then Some Objective else or_else
    (option_map Row (first_unfit rows)) (option_map Column (first_unfit columns))) ≡ None
none-found objective rows columns h r c = rw h (rw r (rw c refl))

some-lp : (o : Option (List ℕ)) → is_mps_name (unwrap_or o []) ≡ true → option_map_or is_lp_name o true ≡ true →
    is_lp_name (unwrap_or o []) ≡ true
some-lp = grind arith

-- the model of a draft with LP names
draft-fit : (all : Draft) → is_mps_name (objective_name all) ≡ true → IsSortedDraft all → HasLpNames all →
    unfit (model_of all) ≡ None
draft-fit all objective sorted names =
    let row_values : List ℕ × RowDefinition → Limits = λ row. unwrap_or (row_limits all row) (plain_limits Free zero_number) in
    let column_values : List ℕ × Unit {0} → ColumnOf = λ column. column_of all column.0 in
    let rows =
    map (λ row. (row.0, row_values row)) all.rows in
    let columns = map (λ column. (column.0, column_values column)) all.columns in
    let rows_are : entries (model_of all).rows
    ≡ rows = entries-from_sorted bytes_cmp rows (subst T (sym (sorted-mapped row_values all.rows)) sorted.rows) in
    let columns_are : entries (model_of all).columns ≡ columns = entries-from_sorted bytes_cmp columns
    (subst T (sym (sorted-mapped column_values all.columns)) sorted.columns) in
    none-found (objective_name all) (map (λ row. row.0) (entries (model_of all).rows))
    (map (λ column. column.0) (entries (model_of all).columns)) (some-lp all.objective objective names.objective)
    (ap (λ (es : List (List ℕ × Limits)). first_unfit (map (λ e. e.0) es)) rows_are
    ∙ none-unfit (map (λ (e : List ℕ × Limits). e.0) rows) (lp-named row_values all.rows names.rows))
    (ap (λ (es : List (List ℕ × ColumnOf)). first_unfit (map (λ e. e.0) es)) columns_are
    ∙ none-unfit (map (λ (e : List ℕ × ColumnOf). e.0) columns) (lp-named column_values all.columns names.columns))

-- ---- the canonical LP text of a well-formed model with LP names declares it

pub canonical-declares : DeclareTheirModels
canonical-declares m sound fits =
    canonical-declares_if m sound fits (plain-text m sound fits) (listed-means m sound (listed-consistent m sound))

pub one-model : (bytes : List ℕ) (m n : LinearModel) → DeclaresLp bytes m → DeclaresLp bytes n → m ≡ n
one-model _ m n first second = first.means.meant.model ∙ sym second.means.meant.model

pub is-injective : DistinguishModels
is-injective m n sound fits other fit = (
  λ same. one-model (canonical_lp m) m n
      (canonical-declares m sound fits)
      (subst (λ (text : List ℕ). DeclaresLp text n) (sym same) (canonical-declares n other fit)),
  ap canonical_lp,
)

pub declared-fits : DeclareWhatFits
declared-fits bytes m declares =
    (declares.means.meant.sound, grind (arith, draft-fit, sorted-draft_of, names-with_declarations, lp_names-declared))

-- ---- the laws of LP as a format of model files, in terms of the trait `Format`

-- The text of a well-formed model with LP names declares this model.
pub text_declares : (m : LinearModel) → IsSound m → unfit m ≡ None → DeclaresLp (canonical_lp m) m
text_declares = canonical-declares

-- No bytes declare two models.
pub one_model : (bytes : List ℕ) (m n : LinearModel) → DeclaresLp bytes m → DeclaresLp bytes n → m ≡ n
one_model = one-model

-- What bytes declare is well-formed, and LP can express it.
pub declared_sound : (bytes : List ℕ) (m : LinearModel) → DeclaresLp bytes m → IsSound m × (unfit m ≡ None)
declared_sound = declared-fits

-- Bytes that declare a model have no error.
pub no_fault : (bytes : List ℕ) (m : LinearModel) (fault : Fault) → DeclaresLp bytes m → IsFirstLpFault bytes fault → ⊥
no_fault = model-or_fault

-- No bytes have two first errors.
pub one_fault : (bytes : List ℕ) (fault other : Fault) → IsFirstLpFault bytes fault → IsFirstLpFault bytes other → fault ≡ other
one_fault _ a b first second = cc
