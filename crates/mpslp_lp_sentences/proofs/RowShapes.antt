-- What the tokens before one are in each state of a row, and that a constant in a row and a second relation are as
-- `FaultsInWords` defines them.
use Rattle.mpslp_lp_sentences.proofs.Prelude
use Prelude.{arith, ◌≡◌, refl, subst, ℕ, List, [], ◌∷◌, ◌++◌, Bool, true, false, Option, Some, None, not, unwrap_or, if◌then◌else◌}
use Prelude.{list_any, list_any-append, Decimal, same_bytes, BuildFault, FaultKind, Limit, both_so, or_left, or_right, Declaration}
use Prelude.{Declarations, with_declarations, declare_column, declare_constant, bounds_declared, refusals_in_turn, bounds_refusals}
use Prelude.{kind_of_build_fault, Section, Objective, Rows, Bounds, SemiContinuous, SectionWord, Context, Relation, SignOf, ItemOwner}
use Prelude.{OfObjective, OfRow, LastWord, To, That, Place, AtStart, BeforeItems, InObjective, BetweenRows, InRow, InBounds, InSemis}
use Prelude.{SideOwner, SideOfRow, SideOfBound, State, Between, AtObjective, ObjectiveName, AtLastWord, AtSemi, Signs, ItemNumber, RowName}
use Prelude.{RowLabel, RowSign, RowNumber, RowLeft, RowLeftRelation, BoundName, BoundLeftRelation, AtSide, SideSign, AfterToken, Goes}
use Prelude.{Refuses, refuse, with_made, declare_unless_refused, step_after_declarations, end_term, step_after_signs, begin_item}
use Prelude.{end_side, may_begin_section, open_section, begin_row, begin_bound, step_at_second_relation, name_taken, begin_phrase, begin, one}
use Prelude.{apply_sign, fits_second, limits_by, flip, objective_declared, default_objective, first_item_declared, fits_left, PartialRow}
use Prelude.{start, Terminal, Opens, Name, Number, Sign, Compares, Colon, new_column, begin_phrase_after}
use Prelude.{step_after_lone_number, step, IsInWords}
use Prelude.{ends_in_number, ends_in_sign, last_name, ends_in_name, ends_in_value, ends_in_first_word, begins_row, follows_terms}
use Prelude.{may_be_left_side, is_right_side, ends_in_constant, follows_constant, left_relation, last_relation, bound_relation, agree}
use Prelude.{mixes_under, mixes_senses, term_columns, is_named}
use Rattle.mpslp_lp_sentences.proofs.FaultedTokens.{in-words, signs-by, item-by, limit-by, listed-by, lone-by, bound_column-by}
use Rattle.mpslp_lp_sentences.proofs.FaultedTokens.{side-by, begin-by, objective-by, objective_name-by, item_number-by, semi-by}
use Rattle.mpslp_lp_sentences.proofs.SectionFaults.{section_at_place, section_of_item, section_of_side, section_at, Opened, opened-later}
use Rattle.mpslp_types.specs.declared.faults.FaultKind.TheVariants as kinds

-- ---- the tokens before, in each state

-- a number after these tokens is no side of a row
abbrev pub NoSide : List Terminal → Type 0
NoSide earlier = (may_be_left_side earlier ≡ false) × (is_right_side earlier ≡ false)

-- the left side and the terms of a row are among the tokens
abbrev pub HasLeft : Option (Limit × Relation) → List Terminal → Type 0
HasLeft None earlier = Unit {0}
HasLeft (Some left) earlier = left_relation earlier ≡ Some left.1

abbrev pub HasTerms : List (List ℕ × Decimal) → List Terminal → Type 0
HasTerms terms earlier = (column : List ℕ)
    → list_any (λ (term : List ℕ × Decimal). same_bytes column term.0) terms ≡ true →
    is_named column (term_columns earlier) ≡ true

pub record IsRow (row : PartialRow) (earlier : List Terminal) : Type 0 where
  pub left : HasLeft row.left earlier
  pub terms : HasTerms row.terms earlier

abbrev pub ends_in_relation : List Terminal → Bool
ends_in_relation (Compares relation ∷ earlier) = true
ends_in_relation _ = false

abbrev pub PlaceShape : Place → List Terminal → Type 0
PlaceShape BetweenRows earlier = begins_row earlier ≡ true
PlaceShape (InRow row) earlier = IsRow row earlier × (begins_row earlier ≡ false) × (ends_in_name earlier ≡ true)
PlaceShape (InBounds (Some left)) earlier = (bound_relation earlier ≡ Some left.1) × (last_name earlier ≡ Some left.0)
PlaceShape InSemis earlier = ends_in_sign earlier ≡ false
PlaceShape _ earlier = Unit {0}

abbrev pub SignsShape : ItemOwner → List Terminal → Type 0
SignsShape (OfObjective objective) earlier = Unit {0}
SignsShape (OfRow row) earlier = IsRow row earlier × (ends_in_sign earlier ≡ true) × NoSide earlier

abbrev pub EndsInLone : List Terminal → Type 0
EndsInLone (Number value ∷ earlier) = NoSide earlier
EndsInLone _ = ⊥

abbrev pub NumberShape : ItemOwner → List Terminal → Type 0
NumberShape (OfObjective objective) earlier = ends_in_number earlier ≡ true
NumberShape (OfRow row) earlier = IsRow row earlier × EndsInLone earlier

abbrev pub NameShape : List ℕ → List Terminal → Type 0
NameShape label (Name name ∷ earlier) = (name ≡ label) × (begins_row earlier ≡ true)
NameShape label _ = ⊥

abbrev pub SignShape : List Terminal → Type 0
SignShape (Sign sign ∷ earlier) = begins_row earlier ≡ true
SignShape _ = ⊥

abbrev pub LeftNumberShape : List Terminal → Type 0
LeftNumberShape (Number value ∷ earlier) = may_be_left_side earlier ≡ true
LeftNumberShape _ = ⊥

-- a relation, after a column of a bound or the terms of a row
abbrev pub RelatedTo : List ℕ → Relation → List Terminal → Type 0
RelatedTo column relation (Compares other ∷ earlier) = (other ≡ relation) × (last_name earlier ≡ Some column)
RelatedTo column relation _ = ⊥

abbrev pub SideShape : SideOwner → List Terminal → Type 0
SideShape (SideOfRow row relation) earlier = follows_terms earlier ≡ true
SideShape (SideOfBound is_new column relation) earlier = RelatedTo column relation earlier

abbrev pub SignedSideShape : SideOwner → List Terminal → Type 0
SignedSideShape sided (Sign sign ∷ earlier) = SideShape sided earlier
SignedSideShape sided _ = ⊥

abbrev pub Shape : State → List Terminal → Type 0
Shape (Between place) earlier = PlaceShape place earlier
Shape (AtLastWord To) earlier = ends_in_first_word earlier ≡ true
Shape (AtLastWord That) earlier = ends_in_first_word earlier ≡ true
Shape (Signs owner sign) earlier = SignsShape owner earlier
Shape (ItemNumber owner sign value) earlier = NumberShape owner earlier
Shape (RowName label) earlier = NameShape label earlier
Shape (RowLabel label) earlier = begins_row earlier ≡ true
Shape (RowSign label sign) earlier = SignShape earlier
Shape (RowNumber label sign value) earlier = LeftNumberShape earlier
Shape (RowLeft label l) earlier = ends_in_value earlier ≡ true
Shape (RowLeftRelation row) earlier = IsRow row earlier × (ends_in_relation earlier ≡ true) × (follows_terms earlier ≡ false)
Shape (BoundName column) earlier = last_name earlier ≡ Some column
Shape (BoundLeftRelation l relation) earlier = last_relation earlier ≡ Some relation
Shape (AtSide sided) earlier = SideShape sided earlier
Shape (SideSign sided sign) earlier = SignedSideShape sided earlier
Shape AtSemi earlier = ends_in_sign earlier ≡ false
Shape _ earlier = Unit {0}

-- ---- what an error says

abbrev Says : Option Section → List Terminal → Terminal → FaultKind → Type 0
Says here earlier token kinds.MixedSenses = mixes_under here earlier token ≡ true
Says here earlier token kinds.ConstantInRow = (here ≡ Some Rows) × (ends_in_constant earlier token ≡ true)
Says here earlier token _ = Unit {0}

abbrev KeepsShape : Option Section → List Terminal → Terminal → AfterToken → Type 0
KeepsShape here earlier token (Goes after next) = Shape next (token ∷ earlier)
KeepsShape here earlier token (Refuses kind) = Says here earlier token kind

refused : (context : Context) (here : Option Section) (earlier : List Terminal) (token : Terminal) (kind : FaultKind)
    → Says here earlier token kind → KeepsShape here earlier token (refuse context token kind)
refused context here earlier (Opens word) kind h = by _ _
  where
    by : (a b : Bool) → Says here earlier (Opens word)
        (unwrap_or (if a then Some kinds.SectionRepeated else (if b then Some kinds.SectionOrder else None)) kind)
    by = grind arith
refused _ _ _ _ _ h = h

bad : (context : Context) (here : Option Section) (earlier : List Terminal) (token : Terminal) →
    KeepsShape here earlier token (refuse context token kinds.BadToken)
bad = grind arith

build-fault : (here : Option Section) (earlier : List Terminal) (token : Terminal) (fault : BuildFault) →
    Says here earlier token (kind_of_build_fault fault)
build-fault = grind arith

either : (here : Option Section) (earlier : List Terminal) (token : Terminal) (b : Bool) (x y : AfterToken)
    → KeepsShape here earlier token x → (b ≡ false → KeepsShape here earlier token y) →
    KeepsShape here earlier token (if b then x else y)
either = grind arith

-- ---- declarations

declared : (context : Context)
    (here : Option Section) (earlier : List Terminal) (token : Terminal) (refusals : List BuildFault) (place : Place)
    (made : Declarations) → PlaceShape place (token ∷ earlier) →
    KeepsShape here earlier token (declare_unless_refused context token refusals place made)
declared _ _ _ _ [] _ _ h = h
declared context here earlier token (refusal ∷ _) _ _ h =
    refused context here earlier token (kind_of_build_fault refusal) (build-fault here earlier token refusal)

declared-before : (context : Context) (here : Option Section)
    (earlier : List Terminal) (token : Terminal) (refusals : List BuildFault) (made : Declarations) (next : AfterToken)
    → KeepsShape here earlier token next →
    KeepsShape here earlier token (step_after_declarations context token refusals made next)
declared-before _ _ _ _ [] _ _ h = h
declared-before context here earlier token (refusal ∷ _) _ _ h =
    refused context here earlier token (kind_of_build_fault refusal) (build-fault here earlier token refusal)

-- ---- facts on the tokens before

-- ---- what each function does

no_terms : (earlier : List Terminal) → HasTerms [] earlier
no_terms earlier column h = absurd cc

-- one more term
row-longer : (row : PartialRow) (column : List ℕ) (value : Decimal) (earlier : List Terminal) → ends_in_first_word earlier ≡ false
    → IsRow row earlier → PlaceShape (InRow (record row { terms = row.terms ++ (column, value) ∷ [] })) (Name column ∷ earlier)
row-longer = grind (arith, list_any-append, or_right, or_left)

-- what is known of the row of an item, if it has one
abbrev OwnerShape : ItemOwner → List Terminal → Type 0
OwnerShape (OfObjective objective) earlier = Unit {0}
OwnerShape (OfRow row) earlier = IsRow row earlier × (ends_in_first_word earlier ≡ false)

term : (context : Context) (owner : ItemOwner) (column : List ℕ) (value : Decimal) (earlier : List Terminal) →
    OwnerShape owner earlier → KeepsShape (section_of_item owner) earlier (Name column)
    (end_term context owner column value (Name column))
term context (OfObjective objective) column value earlier h = grind (arith, declared)
term context (OfRow row) column value earlier h =
    either (Some Rows) earlier (Name column) (list_any (λ t. same_bytes column t.0) _)
    (refuse context (Name column) kinds.DuplicateEntry)
    (Goes (with_made context []) (Between (InRow (record row { terms = row.terms ++ (column, value) ∷ [] }))))
    (refused context (Some Rows) earlier (Name column) kinds.DuplicateEntry tt) (λ e. row-longer _ column value _ h.1 h.0)

signs : (context : Context) (owner : ItemOwner) (sign : SignOf) (earlier : List Terminal) → SignsShape owner earlier
    → (token : Terminal) → KeepsShape (section_of_item owner) earlier token (step_after_signs context owner sign token)
signs context owner sign earlier h token =
    signs-by (KeepsShape (section_of_item owner) earlier) context owner sign (bad context (section_of_item owner) earlier)
    (λ more. next _ more h) (λ name. term context _ name (apply_sign sign one) _ (named _ h)) (λ value. number _ value h) token
  where
    next : (o : ItemOwner) (more : SignOf) → SignsShape o earlier → SignsShape o (Sign more ∷ earlier)
    next = grind arith

    named : (o : ItemOwner) → SignsShape o earlier → OwnerShape o earlier
    named = grind arith

    number : (o : ItemOwner) (value : Decimal) → SignsShape o earlier → NumberShape o (Number value ∷ earlier)
    number = grind arith

-- after the relation of a left side, or at the start of the objective
abbrev ItemShape : ItemOwner → List Terminal → Type 0
ItemShape (OfObjective objective) earlier = Unit {0}
ItemShape (OfRow row) earlier = Shape (RowLeftRelation row) earlier

item : (context : Context) (owner : ItemOwner) (earlier : List Terminal)
    → ItemShape owner earlier → (token : Terminal) →
    KeepsShape (section_of_item owner) earlier token (begin_item context owner token)
item context owner earlier h token =
    item-by (KeepsShape (section_of_item owner) earlier) context owner (bad context (section_of_item owner)
    earlier) (λ more. next _ more h) (λ name. term context _ name one _ (named _ h)) (λ value. number _ value h) token
  where
    next : (o : ItemOwner) (more : SignOf) → ItemShape o earlier → SignsShape o (Sign more ∷ earlier)
    next = grind arith

    named : (o : ItemOwner) → ItemShape o earlier → OwnerShape o earlier
    named = grind arith

    number : (o : ItemOwner) (value : Decimal) → ItemShape o earlier → NumberShape o (Number value ∷ earlier)
    number = grind arith

side : (context : Context) (sided : SideOwner) (l : Limit) (earlier : List Terminal) (token : Terminal)
    → begins_row (token ∷ earlier) ≡ true → KeepsShape (section_of_side sided) earlier token (end_side context sided l token)
side context (SideOfRow row relation) l earlier token h = grind (arith, row, declared)
side context (SideOfBound _ column relation) l earlier token h = let limits = limits_by relation l in declared context
    (Some Bounds) earlier token (bounds_refusals (with_declarations context.builder (new_column _ _)) column
    limits.lower limits.upper) (InBounds None) (new_column _ _ ++ bounds_declared column limits.lower limits.upper) tt

opened : (context : Context) (here : Option Section) (earlier : List Terminal) (word : SectionWord) →
    KeepsShape here earlier (Opens word) (open_section context word)
opened = grind arith

row : (context : Context) (label : List ℕ) (earlier : List Terminal)
    → begins_row earlier ≡ true → (token : Terminal) → KeepsShape (Some Rows) earlier token (begin_row context label token)
row = grind arith

bound : (context : Context) (earlier : List Terminal) (token : Terminal) →
    KeepsShape (Some Bounds) earlier token (begin_bound context token)
bound = grind arith

differ : (first second : Relation) → fits_second first second ≡ false → not (agree first second) ≡ true
differ = grind arith

second : (context : Context) (left : Option (List ℕ × Relation)) (earlier : List Terminal)
    → PlaceShape (InBounds left) earlier → (relation : Relation)
    → KeepsShape (Some Bounds) earlier (Compares relation) (step_at_second_relation context left relation (Compares relation))
second = grind arith

ended : (context : Context) (row : PartialRow) (earlier : List Terminal) → IsRow row earlier → ends_in_name earlier ≡ true
    → (relation : Relation) → KeepsShape (Some Rows) earlier (Compares relation) (if fits_left row.left relation then Goes context
    (AtSide (SideOfRow row relation)) else refuse context (Compares relation) kinds.MixedSenses)
ended = grind arith

listed : (place : Place) (kind_declared : List ℕ → Declaration) (context : Context) (earlier : List Terminal)
    → ((name : List ℕ) → PlaceShape place (Name name ∷ earlier))
    → (token : Terminal) → KeepsShape (section_at_place place) earlier token (name_taken place kind_declared context token)
listed place kind_declared context earlier h token =
    listed-by (KeepsShape (section_at_place place) earlier) context place kind_declared
    (bad context (section_at_place place) earlier)
    (λ name. declared context (section_at_place place) _ _ (refusals_in_turn context.builder
    (declare_column _ ∷ kind_declared name ∷ [])) _ (declare_column _ ∷ kind_declared name ∷ []) (h name)) token

phrase : (place : Place) (context : Context) (earlier : List Terminal)
    → PlaceShape place earlier → (token : Terminal) →
    KeepsShape (section_at_place place) earlier token (begin_phrase place context token)
phrase AtStart context earlier h token = bad context None earlier token
phrase _ context earlier h token = grind arith

first : (place : Place) (context : Context) (earlier : List Terminal)
    → PlaceShape place earlier → (token : Terminal) →
    KeepsShape (section_at_place place) earlier token (begin place context token)
first place context earlier h token = begin-by (KeepsShape (section_at_place place) earlier) context place
    (λ word. either (section_at_place place) earlier (Opens word) (may_begin_section place)
    (open_section context word) (refuse context (Opens word) kinds.BadToken)
    (opened context (section_at_place place) earlier word)
    (λ e. bad context (section_at_place place) earlier (Opens word))) (phrase _ context _ h) token

later : (context : Context) (made : Declarations) (place : Place) (earlier : List Terminal) → PlaceShape place earlier
    → (token : Terminal) → KeepsShape (section_at_place place) earlier token (begin_phrase_after context made place token)
later = grind (arith, declared-before, section_at_place, first)

lone : (context : Context) (owner : ItemOwner) (value : Decimal) (earlier : List Terminal) → NumberShape owner earlier
    → (token : Terminal) → KeepsShape (section_of_item owner) earlier token (step_after_lone_number context owner value token)
lone context (OfObjective objective) value earlier h token = lone-by (KeepsShape (Some Objective) earlier) context objective value
    (bad context (Some Objective) earlier) (λ sign. later context (declare_constant _ ∷ []) (InObjective objective)
    earlier tt (Sign sign)) (λ word. later context (declare_constant _ ∷ []) (InObjective objective) earlier tt
    (Opens word)) token
lone context (OfRow partial) value earlier h token = grind arith

last_word : (context : Context) (wanted : LastWord) (earlier : List Terminal) → Shape (AtLastWord wanted) earlier
    → (token : Terminal) → KeepsShape (section_at (AtLastWord wanted)) earlier token (step context (AtLastWord wanted) token)
last_word = grind arith

row_signed : (context : Context) (label : List ℕ) (sign : SignOf) (earlier : List Terminal)
    → SignShape earlier → (token : Terminal) → KeepsShape (Some Rows) earlier token (step context (RowSign label sign) token)
row_signed = grind arith

-- the first number of a row
number-value : (earlier : List Terminal) → LeftNumberShape earlier → ends_in_value earlier ≡ true
number-value = grind arith

row_numbered : (context : Context) (label : List ℕ) (sign : SignOf) (value : Decimal) (earlier : List Terminal)
    → LeftNumberShape earlier → (token : Terminal) →
    KeepsShape (Some Rows) earlier token (step context (RowNumber label sign value) token)
row_numbered = grind arith

row_named : (context : Context) (label : List ℕ) (earlier : List Terminal)
    → NameShape label earlier → (token : Terminal) → KeepsShape (Some Rows) earlier token (step context (RowName label) token)
row_named = grind arith

item_numbered : (context : Context) (owner : ItemOwner) (sign : SignOf) (value : Decimal) (earlier : List Terminal) → NumberShape
    owner earlier → (token : Terminal) →
    KeepsShape (section_of_item owner) earlier token (step context (ItemNumber owner sign value) token)
item_numbered context owner sign value earlier h token = grind (arith, item_number-by, section_of_item, term, lone, row)

-- ---- each state

by-state : (context : Context) (state : State) (earlier : List Terminal)
    → Shape state earlier → (token : Terminal) → KeepsShape (section_at state) earlier token (step context state token)
by-state _ (Between _) _ h _ = first _ _ _ h _
by-state context (AtObjective sense) earlier h token = objective-by (KeepsShape (Some Objective) earlier) context sense
    (λ name. tt) (later context (objective_declared sense default_objective) (BeforeItems default_objective) earlier tt) token
by-state context (ObjectiveName sense label) earlier h token =
    objective_name-by (KeepsShape (Some Objective) earlier) context sense label
    (declared context (Some Objective) earlier Colon
    (refusals_in_turn context.builder (objective_declared sense label)) (BeforeItems label)
    (objective_declared sense label) tt)
    (later context (first_item_declared sense label) (InObjective default_objective) earlier tt) token
by-state context AtSemi earlier h token =
    semi-by (KeepsShape (Some SemiContinuous) earlier) context tt (first InSemis (with_made context []) earlier h) token
by-state _ (Signs _ sign) _ h token = signs _ _ sign _ h token
by-state context (ItemNumber _ sign value) _ h _ = item_numbered context _ sign value _ h _
by-state context (RowLabel label) _ h token = row context label _ h token
by-state _ (RowLeftRelation partial) earlier h token = item _ (OfRow partial) earlier h token
by-state context (BoundLeftRelation l relation) earlier h token = let limits = limits_by (flip relation) l in
    bound_column-by (KeepsShape (Some Bounds) earlier) context l relation (bad context _ _)
    (λ name. declared _ _ earlier (Name name)
    (bounds_refusals (with_declarations context.builder (declare_column name ∷ [])) name limits.lower
    limits.upper) (InBounds (Some (name, relation))) _ (h, refl)) token
by-state context (AtSide sided) earlier h token = grind (arith, side-by, section_of_side, bad, side)
by-state context (SideSign sided sign) earlier h token = grind (arith, limit-by, section_of_side, bad, side)
by-state context _ earlier h token = grind arith

-- ---- the laws

pub record Shaped (earlier : List Terminal) (context : Context) (state : State) : Type 0 where
  pub opened : Opened earlier context state
  pub shape : Shape state earlier

pub none-shaped : Shaped [] start.context (Between AtStart)
none-shaped = grind arith

pub shaped-later : (earlier : List Terminal) (context : Context) (state : State) (token : Terminal) (after : Context)
    (next : State) → Shaped earlier context state → step context state token ≡ Goes after next →
    Shaped (token ∷ earlier) after next
shaped-later earlier _ state token _ _ known h = record {
  opened = opened-later _ _ _ _ _ _ known.opened h;
  shape = subst (λ taken. KeepsShape (section_at state) earlier token taken) h (by-state _ _ _ known.shape _);
}

mixed : (earlier : List Terminal) (context : Context) (state : State) (token : Terminal)
    → Shaped earlier context state → step context state token ≡ Refuses kinds.MixedSenses → mixes_senses earlier token ≡ true
mixed = grind (arith, opened, section_at, by-state)

constant : (earlier : List Terminal) (context : Context) (state : State) (token : Terminal)
    → Shaped earlier context state → step context state token ≡ Refuses kinds.ConstantInRow →
    follows_constant earlier token ≡ true
constant = grind (arith, section_at, by-state, both_so, opened)

pub mixed-senses : IsInWords kinds.MixedSenses mixes_senses
mixed-senses = in-words _ _ _ (record { at_start = none-shaped; goes = shaped-later; refuses = mixed }) refl refl

pub constant-in_row : IsInWords kinds.ConstantInRow follows_constant
constant-in_row = in-words _ _ _ (record { at_start = none-shaped; goes = shaped-later; refuses = constant }) refl refl
