-- Declarations, none of which is rejected after those before it, are consistent, and the converse; their draft is well-formed.
use Rattle.mpslp_builder.proofs.Prelude
use Prelude.{arith, rules, ◌≡◌, refl, ap, ◌∙◌, ℕ, List, [], ◌∷◌, ◌++◌, Bool, true, false, not, ◌&&◌, ◌||◌, Option, Some, None, is_some}
use Prelude.{option_map_or, list_all, first_so, second_so, put, Number, same_bytes, bytes_cmp, Declaration, declare_objective}
use Prelude.{declare_constant, declare_row, declare_rhs, declare_range, declare_column, declare_coefficient, declare_lower, declare_upper}
use Prelude.{declare_marked, declare_integer, declare_binary, declare_semi, Declarations, Draft, empty_draft, with_declaration}
use Prelude.{with_declarations, has_name, has_row, has_column, is_objective, is_integer, is_semi, is_row_by_limits, those_of, Slot}
use Prelude.{slots_of, is_known, is_allowed, has_objective_rhs, has_one_constant, has_objective, AreConsistent, refusals, refusals_in_turn}
use Prelude.{BuildFault, both_so, or_left, or_right, either, not_so, so_not, back, nor, both_false, draft_of, are_distinct, all_slots}
use Prelude.{same_slot, is_legal}
use Rattle.mpslp_builder.proofs.SlotLemmas.{Extends, more_entries, extends-with_declaration, extends-in_turn, itself_named, has_row-after}
use Rattle.mpslp_builder.proofs.SlotLemmas.{known-after, has-put, are_fresh, is_filled, are_fresh_in_turn, fresh_in_turn-is, same_name}
use Rattle.mpslp_builder.proofs.DraftEntries.{IsGood, good-with_declarations, empty_good}
use Rattle.mpslp_types.specs.declared.faults.BuildFault.TheVariants as builds

-- ---- declarations, none of which is rejected after those before it, are consistent; and the converse

-- ---- drafts of declarations that are not rejected

-- The objective's name is not that of a row; right-hand sides, ranges and types are those of declared rows and columns.
pub record HasDeclaredNames (all : Draft) : Type 0 where
  pub apart : (name : List ℕ) → is_objective all name ≡ true → has_name all.rows name ≡ false
  pub rhs_values : (name : List ℕ) → has_name all.rhs_values name ≡ true → has_row all name ≡ true
  pub ranges : (name : List ℕ) → has_name all.ranges name ≡ true → has_row all name ≡ true
  pub integers : (name : List ℕ) → is_integer all name ≡ true → has_column all name ≡ true
  pub semis : (name : List ℕ) → is_semi all name ≡ true → has_column all name ≡ true

none_there : (o : Option (List ℕ)) (q : List ℕ) (b r rest : Bool) → (not (is_some o) && rest) ≡ true
    → (option_map_or (same_bytes q) o false || r) ≡ true → (b || r) ≡ true
none_there = grind arith

-- one more entry, of a name that passes the same test
more_named : {X : Type 0} (test : List ℕ → Bool) (q k : List ℕ) (v : X) (es : List (List ℕ × X)) → test k ≡ true
    → (has_name es q ≡ true → test q ≡ true) → has_name (put bytes_cmp k v es) q ≡ true → test q ≡ true
more_named {X} test q k v es known was h = grind (arith, same_name, has-put)

declared_names-with_declaration : (all : Draft) (d : Declaration) → HasDeclaredNames all → are_fresh all (slots_of d) ≡ true
    → is_known all d ≡ true → HasDeclaredNames (with_declaration all d)
declared_names-with_declaration all (declare_objective name) w h k = search (rules, not_so, same_name, back, or_right, none_there)
declared_names-with_declaration all (declare_row name definition) w h k = search (
  rules,
  extends-with_declaration all (declare_row name
      definition) h,
  not_so,
  has-put,
  or_left,
  same_name,
  has_row-after all (with_declaration all (declare_row name definition)),
)
declared_names-with_declaration all (declare_rhs row v) w h k =
    record {
      apart = w.apart;
      rhs_values =
          λ q there. more_named (has_row all) q row v _ k (w.rhs_values q) there;
      ranges = w.ranges;
      integers =
          w.integers;
      semis = w.semis;
    }
declared_names-with_declaration all (declare_range row v) w h k =
    record {
      apart = w.apart;
      rhs_values = w.rhs_values;
      ranges =
          λ q there. more_named (has_row all) q row v _ k (w.ranges q) there;
      integers = w.integers;
      semis = w.semis;
    }
declared_names-with_declaration all (declare_column name) w h k = grind (arith, more_entries)
declared_names-with_declaration all (declare_marked c) w h k = record {
  apart = w.apart;
  rhs_values = w.rhs_values;
  ranges = w.ranges;
  integers = λ q. either _ _ _
      (more_named (has_column all) q c tt _ k (λ is. w.integers q (or_left (has_name _ q) _ is)))
      (λ is. w.integers q (or_right (has_name _ q) _ is));
  semis = w.semis;
}
declared_names-with_declaration all (declare_integer c) w h k = record {
  apart = w.apart;
  rhs_values = w.rhs_values;
  ranges = w.ranges;
  integers = λ q. either _ _ _ (λ is. w.integers q (or_left _ _ is))
      (either _ _ _
      (more_named (has_column all) q c tt _ k (λ is. w.integers q (or_right _ _ (or_left _ _ is))))
      (λ is. w.integers q (or_right _ _ (or_right _ _ is))));
  semis = w.semis;
}
declared_names-with_declaration all (declare_binary c) w h k = record {
  apart = w.apart;
  rhs_values = w.rhs_values;
  ranges = w.ranges;
  integers = λ q. either _ _ _ (λ is. w.integers q (or_left _ _ is))
      (either _ _ _
      (λ is. w.integers q (or_right _ _ (or_left _ _ is)))
      (more_named (has_column all) q c tt all.binaries k (λ is. w.integers q (or_right _ _ (or_right _ _ is)))));
  semis = w.semis;
}
declared_names-with_declaration all (declare_semi c) w h k = record {
  apart = w.apart;
  rhs_values = w.rhs_values;
  ranges = w.ranges;
  integers = w.integers;
  semis = λ q there. more_named (has_column all) q c tt _ k (w.semis q) there;
}
declared_names-with_declaration all _ w h k = grind arith

-- No column is both semi-continuous and integer.
abbrev pub HasKindsApart : Draft → Type 0
HasKindsApart all = (name : List ℕ) → is_semi all name ≡ true → is_integer all name ≡ false

kinds_apart-with_declaration : (all : Draft) (d : Declaration) → HasKindsApart all → is_allowed all d ≡ true →
    HasKindsApart (with_declaration all d)
kinds_apart-with_declaration all d w h = search (rules, same_name, not_so, has-put)

-- ---- a declaration that is not rejected

pub first_none : (b : Bool) (x : BuildFault) (more : List (Bool × BuildFault)) → those_of ((b, x) ∷ more) ≡ [] → b ≡ false
first_none = grind arith

pub rest_none : (b : Bool) (x : BuildFault) (more : List (Bool × BuildFault)) → those_of ((b, x) ∷ more) ≡ [] → those_of more ≡ []
rest_none = grind arith

pub pass : (b : Bool) (x : BuildFault) (more : List (Bool × BuildFault)) → b ≡ false → those_of more ≡ [] →
    those_of ((b, x) ∷ more) ≡ []
pass = grind arith

one_slot_of : (b : Bool) → (not b && true) ≡ true → b ≡ false
one_slot_of = grind arith

pub record IsFine (all : Draft) (d : Declaration) : Type 0 where
  pub fresh : are_fresh all (slots_of d) ≡ true
  pub known : is_known all d ≡ true
  pub allowed : is_allowed all d ≡ true

no_limits : (all : Draft) (name : List ℕ) → has_row all name ≡ false → is_row_by_limits all name ≡ false
no_limits = grind arith

abbrev Tests : Type 0
Tests = List (Bool × BuildFault)

-- a column has this type, and not the other
abbrev kind_tests : Draft → List ℕ → Bool → Tests
kind_tests all c other = (not (has_column all c), builds.UnknownColumn) ∷ (other, builds.SemiContinuous) ∷ []

pub fine-from_none : (all : Draft) (d : Declaration) → HasDeclaredNames all → refusals all d ≡ [] → IsFine all d
fine-from_none all (declare_semi c) w h = grind arith
fine-from_none all _ w h = grind arith

-- ---- the constant

pub left_none : {X : Type 0} (xs ys : List X) → xs ++ ys ≡ [] → xs ≡ []
left_none [] ys h = refl
left_none (x ∷ xs) ys h = cc

pub right_none : {X : Type 0} (xs ys : List X) → xs ++ ys ≡ [] → ys ≡ []
right_none [] ys h = h
right_none (x ∷ xs) ys h = cc

pub join_none : {X : Type 0} (xs ys : List X) → xs ≡ [] → ys ≡ [] → xs ++ ys ≡ []
join_none = grind arith

pub not_both : (a b : Bool) → (a ≡ true → b ≡ false) → b ≡ true → a ≡ false
not_both = grind arith

empty_slot : (slot : Slot) → not (is_filled empty_draft slot) ≡ true
empty_slot = grind arith

no_side : (a b : Bool) → b ≡ false → not (a && b) ≡ true
no_side = grind arith

-- one more right-hand side; with a constant, it is not that of the objective
side_more : (all : Draft) (row : List ℕ) (v : Number) (o : Option (List ℕ)) → (option_map_or (same_bytes row) o false
    && is_some all.constant) ≡ false → not (is_some all.constant && option_map_or (has_name all.rhs_values) o false) ≡ true
    → not (is_some all.constant && option_map_or (has_name (put bytes_cmp row v all.rhs_values)) o false) ≡ true
side_more all row v o h one = search (rules, has-put)

one-with_declaration : (all : Draft) (d : Declaration) → HasDeclaredNames all → has_one_constant all ≡ true → refusals all d ≡ []
    → has_one_constant (with_declaration all d) ≡ true
one-with_declaration all (declare_objective name) w one h = grind arith
one-with_declaration all (declare_constant v) w one h = grind arith
one-with_declaration all (declare_rhs row v) w one h = grind (arith, nor, first_none, rest_none, side_more)
one-with_declaration all _ w one h = one

one-before : (before after : Draft) → Extends before after → has_one_constant after ≡ true → has_one_constant before ≡ true
one-before before after e one =
    so_not _ (back (is_some _ && has_objective_rhs before) (is_some _ && has_objective_rhs after) (λ h. both_so
    (is_some _) _ (e.constant (first_so (is_some _) _ h)) (side_after (second_so (is_some _) _ h)))
    (not_so (is_some _ && has_objective_rhs after) one))
  where
    side_from : (o : Option (List ℕ)) → before.objective ≡ o → option_map_or (has_name before.rhs_values) o false ≡ true
        → has_objective_rhs after ≡ true
    side_from None is h = cc
    side_from (Some name) is h = ap (λ o. option_map_or (has_name after.rhs_values) o false) (e.objective _ is) ∙ e.right_side _ h

    side_after : has_objective_rhs before ≡ true → has_objective_rhs after ≡ true
    side_after h = side_from _ refl h

-- a right-hand side of the objective excludes a constant
free_of_constant : (all : Draft) (row : List ℕ) (v : Number) → has_one_constant (with_declaration all (declare_rhs row v)) ≡ true
    → (is_objective all row && is_some all.constant) ≡ false
free_of_constant all row v one = search (rules, has-put)

pub allowed-before : (before after : Draft) (d : Declaration) → Extends before after → is_allowed after d ≡ true →
    is_allowed before d ≡ true
allowed-before before after (declare_range row v) e h = grind arith
allowed-before before after (declare_row name definition) e h = h
allowed-before before after (declare_lower c l) e h = h
allowed-before before after (declare_upper c l) e h = h
allowed-before before after (declare_marked c) e h = grind arith
allowed-before before after (declare_integer c) e h = grind arith
allowed-before before after (declare_binary c) e h = grind arith
allowed-before before after (declare_semi c) e h = grind arith
allowed-before before after _ e h = refl

pub none-from_fine : (all : Draft) (d : Declaration) → IsFine all d → has_one_constant (with_declaration all d) ≡ true →
    refusals all d ≡ []
none-from_fine all (declare_row name definition) f one = grind (arith, pass, not_so)
none-from_fine all (declare_rhs row v) f one = grind (arith, nor, one_slot_of, pass, both_false, free_of_constant)
none-from_fine all (declare_column name) f one = refl
none-from_fine all (declare_coefficient key v) f one = grind (arith, pass, one_slot_of)
none-from_fine all _ f one = grind arith

-- ---- the lemmas

-- no name is used before it is declared
abbrev pub are_known_in_turn : Draft → Declarations → Bool
are_known_in_turn before [] = true
are_known_in_turn before (d ∷ more) = is_known before d && are_known_in_turn (with_declaration before d) more

pub record AreFineInTurn (before : Draft) (declarations : Declarations) : Type 0 where
  pub fresh : are_fresh_in_turn before declarations ≡ true
  pub known : list_all (is_known (with_declarations before declarations)) declarations ≡ true
  pub allowed : list_all (is_allowed (with_declarations before declarations)) declarations ≡ true
  pub one_constant : has_one_constant (with_declarations before declarations) ≡ true
  pub declared_names : HasDeclaredNames (with_declarations before declarations)
  pub kinds_apart : HasKindsApart (with_declarations before declarations)

-- what a declaration says of a column's type is in the draft
abbrev pub says_kind : Draft → Declaration → Bool
says_kind all (declare_marked c) = is_integer all c
says_kind all (declare_integer c) = is_integer all c
says_kind all (declare_binary c) = is_integer all c
says_kind all (declare_semi c) = is_semi all c
says_kind all _ = true

put_there : (c : List ℕ) (es : List (List ℕ × Unit {0})) → has_name (put bytes_cmp c tt es) c ≡ true
put_there = grind (arith, has-put, or_left, itself_named)

said : (all : Draft) (d : Declaration) → says_kind (with_declaration all d) d ≡ true
said all (declare_marked c) = or_left _ _ (put_there c _)
said all (declare_integer c) = or_right _ _ (or_left _ _ (put_there c _))
said all (declare_binary c) = or_right _ _ (or_right _ _ (put_there c all.binaries))
said all (declare_semi c) = put_there c _
said all _ = refl

said-after : (before after : Draft) (d : Declaration) → Extends before after → says_kind before d ≡ true →
    says_kind after d ≡ true
said-after before after (declare_marked c) e h = e.integer c h
said-after before after (declare_integer c) e h = e.integer c h
said-after before after (declare_binary c) e h = e.integer c h
said-after before after (declare_semi c) e h = e.semi c h
said-after before after _ e h = refl

not_semi : (all : Draft) (c : List ℕ) → HasKindsApart all → is_integer all c ≡ true → not (is_semi all c) ≡ true
not_semi = grind arith

pub allowed-after : (before after : Draft) (d : Declaration) → Extends before after → HasDeclaredNames after → HasKindsApart after
    → says_kind after d ≡ true → is_known before d ≡ true → is_allowed before d ≡ true → is_allowed after d ≡ true
allowed-after before after (declare_range row v) e w apart stated known h = grind arith
allowed-after before after (declare_row name definition) e w apart stated known h = h
allowed-after before after (declare_lower c l) e w apart stated known h = h
allowed-after before after (declare_upper c l) e w apart stated known h = h
allowed-after before after (declare_marked c) e w apart stated known h = not_semi after c apart stated
allowed-after before after (declare_integer c) e w apart stated known h = not_semi after c apart stated
allowed-after before after (declare_binary c) e w apart stated known h = not_semi after c apart stated
allowed-after before after (declare_semi c) e w apart stated known h = grind arith
allowed-after before after _ e w apart stated known h = refl

pub none-fine : (declarations : Declarations) (before : Draft) → HasDeclaredNames before → HasKindsApart before
    → has_one_constant before ≡ true → refusals_in_turn before declarations ≡ [] → AreFineInTurn before declarations
none-fine [] before w apart one h = grind arith
none-fine (d ∷ more) before w apart one h =
    let f = fine-from_none _ d w (left_none _ _ h) in
    let w' = declared_names-with_declaration _ d w f.fresh f.known in
    let apart' = kinds_apart-with_declaration _ d apart f.allowed in
    let r = none-fine more _ w' apart' (one-with_declaration _ d w one (left_none _ _ h))
    (right_none _ (refusals_in_turn _ more) h) in
    let fresh = both_so _ _ f.fresh r.fresh in
    let after = with_declarations _ more in
    let e = extends-in_turn (d ∷ more) _ fresh in
    let stated = said-after _ after d (extends-in_turn more (with_declaration _ d) r.fresh) (said _ d) in
    record {
      fresh = fresh;
      known = both_so _ _ (known-after _ _ d e f.known) r.known;
      allowed = both_so _ _ (allowed-after _ _ d e r.declared_names r.kinds_apart stated f.known f.allowed) r.allowed;
      one_constant = r.one_constant;
      declared_names = r.declared_names;
      kinds_apart = r.kinds_apart;
    }

pub empty_declared_names : HasDeclaredNames empty_draft
empty_declared_names = grind arith

-- no column has any type
pub empty_kinds_apart : HasKindsApart empty_draft
empty_kinds_apart = λ q h. refl

pub all_fresh : (slots : List Slot) → are_fresh empty_draft slots ≡ true
all_fresh [] = refl
all_fresh (slot ∷ slots) = grind (arith, both_so, is_filled, are_fresh, empty_slot, all_fresh slots)

-- Declarations that are not rejected in turn are consistent.
pub consistent-from_none : (declarations : Declarations) → has_objective declarations ≡ true
    → refusals_in_turn empty_draft declarations ≡ [] → AreConsistent declarations
consistent-from_none declarations objective h = grind
    (arith, none-fine declarations, empty_declared_names, empty_kinds_apart, fresh_in_turn-is declarations)

pub none-from_fine_in_turn : (declarations : Declarations) (before : Draft) → are_fresh_in_turn before declarations ≡ true
    → are_known_in_turn before declarations ≡ true →
    list_all (is_allowed (with_declarations before declarations)) declarations ≡ true →
    has_one_constant (with_declarations before declarations) ≡ true → refusals_in_turn before declarations ≡ []
none-from_fine_in_turn [] before fresh known allowed one = refl
none-from_fine_in_turn (d ∷ more) before fresh known allowed one =
    let after = with_declarations _ more in
    let fresh_here = first_so _ _ fresh in
    let fresh_then = second_so _ _ fresh in
    let e = extends-in_turn (d ∷ more) _ fresh in
    let f : IsFine before d = record {
      fresh = fresh_here;
      known = first_so _ _ known;
      allowed = allowed-before _ after d e (first_so _ _ allowed);
    } in
    join_none _ _
    (none-from_fine _ d f (one-before (with_declaration _ d) _ (extends-in_turn more (with_declaration _ d) fresh_then) one))
    (none-from_fine_in_turn more (with_declaration _ d) fresh_then (second_so _ _ known) (second_so _ _ allowed) one)

-- Consistent declarations are not rejected in turn, if each name is used after its declaration.
pub none-from_consistent : (declarations : Declarations) → AreConsistent declarations →
    are_known_in_turn empty_draft declarations ≡ true → refusals_in_turn empty_draft declarations ≡ []
none-from_consistent = grind (arith, none-from_fine_in_turn, fresh_in_turn-is, both_so, are_fresh, all_fresh)

-- ---- the draft of consistent, legal declarations is well-formed

-- ---- the objective

has_objective-stays : (declarations : Declarations) (b : Draft) → is_some b.objective ≡ true
    → is_some (with_declarations b declarations).objective ≡ true
has_objective-stays [] b h = h
has_objective-stays (declare_objective name ∷ more) b h = has_objective-stays more _ refl
has_objective-stays (d ∷ more) b h = has_objective-stays more _ h

has_objective-drafted : (declarations : Declarations) (b : Draft) → has_objective declarations ≡ true
    → is_some (with_declarations b declarations).objective ≡ true
has_objective-drafted [] b h = cc
has_objective-drafted (declare_objective name ∷ more) b h = grind (arith, has_objective-stays)
has_objective-drafted (d ∷ more) b h = has_objective-drafted more _ h

abbrev IsApart : Draft → Type 0
IsApart all = (name : List ℕ) → is_objective all name ≡ true → has_name all.rows name ≡ false

apart-with_declaration : (all : Draft) (d : Declaration) → IsApart all → are_fresh all (slots_of d) ≡ true →
    IsApart (with_declaration all d)
apart-with_declaration all d w h = search (rules, not_so, same_name, back, or_right, has-put, or_left)

apart-in_turn : (declarations : Declarations) (b : Draft) → IsApart b → are_fresh_in_turn b declarations ≡ true
    → IsApart (with_declarations b declarations)
apart-in_turn [] b w h = w
apart-in_turn (d ∷ more) b w h =
    grind (
      arith,
      apart-with_declaration,
      are_fresh,
      are_fresh_in_turn,
      apart-in_turn more (with_declaration b d)
          (apart-with_declaration b d w (first_so (are_fresh b (slots_of d))
          (are_fresh_in_turn (with_declaration b d) more) h))
          (second_so (are_fresh b (slots_of d)) (are_fresh_in_turn (with_declaration b d) more) h),
    )

pub fresh-from_once : (declarations : Declarations) → are_distinct same_slot (all_slots declarations) ≡ true
    → are_fresh_in_turn empty_draft declarations ≡ true
fresh-from_once = grind (arith, fresh_in_turn-is, both_so, are_fresh, all_fresh)

-- ---- well-formed drafts

-- The objective has a name, which is not that of a row, and each entry is valid.
pub record IsWellFormed (all : Draft) : Type 0 where
  pub named : is_some all.objective ≡ true
  pub apart : IsApart all
  pub good : IsGood all all

pub well_formed-from_consistent : (declarations : Declarations) → AreConsistent declarations →
    list_all is_legal declarations ≡ true → IsWellFormed (draft_of declarations)
well_formed-from_consistent declarations c legal =
    search (rules, has_objective-drafted, apart-in_turn, fresh-from_once, good-with_declarations, empty_good)
