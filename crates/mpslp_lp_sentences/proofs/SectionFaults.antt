-- A section word that is repeated or out of order is as `FaultsInWords` defines it.
use Rattle.mpslp_lp_sentences.proofs.Prelude
use Prelude.{◌≡◌, refl, sym, ap, ◌∙◌, ℕ, List, [], ◌∷◌, Bool, true, false, arith, Option, Some, None, ◌||◌, not, nat_lt, if◌then◌else◌}
use Prelude.{list_any, Decimal, BuildFault, FaultKind, Limit, both_so, or_left, or_right, so_not, Declaration, Declarations, declare_column}
use Prelude.{declare_integer, declare_binary, declare_semi, kind_of_build_fault, section_of, Section, Objective, Rows, Bounds, Generals}
use Prelude.{Binaries, SemiContinuous, End, SectionWord, Context, Relation, SectionsSeen, SignOf, ItemOwner, OfObjective, OfRow, LastWord}
use Prelude.{To, That, Continuous, Place, AtStart, BeforeItems, InObjective, BetweenRows, InRow, InBounds, InGenerals, InBinaries, InSemis}
use Prelude.{SideOwner, SideOfRow, SideOfBound, State, Between, AtObjective, ObjectiveName, AtLastWord, AtSemi, Signs, ItemNumber, RowName}
use Prelude.{RowLabel, RowSign, RowNumber, RowLeft, RowLeftRelation, BoundName, BoundSign, BoundLeft, BoundLeftRelation, AtSide, SideSign}
use Prelude.{AfterEnd, AfterToken, Goes, Refuses, refuse, with_made, declare_unless_refused, step_after_declarations, end_term}
use Prelude.{step_after_signs, begin_item, declare_at, end_side, opened_by, may_begin_section, is_last_word}
use Prelude.{open_section, begin_row, begin_bound, step_at_second_relation, name_taken, begin_phrase, begin, one, apply_sign}
use Prelude.{objective_declared, default_objective, first_item_declared, terminal_fault, start, has_seen, with_section}
use Prelude.{is_out_of_order, Terminal, Opens, Name, Compares, Colon, begin_phrase_after, step_after_lone_number, step, IsInWords, opens}
use Prelude.{has_opened, current_section, repeats_section, section_rank, opens_later, comes_late, comes_early, breaks_order}
use Rattle.mpslp_lp_sentences.proofs.FaultedTokens.{in-words, signs-by, item-by, limit-by, listed-by, last_word-by, bound_name-by}
use Rattle.mpslp_lp_sentences.proofs.FaultedTokens.{bound_column-by, side-by, begin-by, objective-by, objective_name-by, item_number-by}
use Rattle.mpslp_lp_sentences.proofs.FaultedTokens.{semi-by}
use Rattle.mpslp_types.specs.declared.faults.FaultKind.TheVariants as kinds

-- ---- what a token does to the sections that were opened

abbrev is_of_sections : FaultKind → Bool
is_of_sections kinds.SectionRepeated = true
is_of_sections kinds.SectionOrder = true
is_of_sections _ = false

-- the sections that were opened, with that of this token
abbrev grown : SectionsSeen → Terminal → SectionsSeen
grown sections_seen (Opens word) = with_section sections_seen (section_of word)
grown sections_seen _ = sections_seen

-- An error of sections is that of the token itself.
abbrev States : Option FaultKind → FaultKind → Type 0
States own kind = is_of_sections kind ≡ true → own ≡ Some kind

-- the section of a state
abbrev pub section_at_place : Place → Option Section
section_at_place AtStart = None
section_at_place (BeforeItems objective) = Some Objective
section_at_place (InObjective objective) = Some Objective
section_at_place BetweenRows = Some Rows
section_at_place (InRow partial) = Some Rows
section_at_place (InBounds left) = Some Bounds
section_at_place InGenerals = Some Generals
section_at_place InBinaries = Some Binaries
section_at_place InSemis = Some SemiContinuous

abbrev pub section_of_item : ItemOwner → Option Section
section_of_item (OfObjective objective) = Some Objective
section_of_item (OfRow partial) = Some Rows

abbrev pub section_of_side : SideOwner → Option Section
section_of_side (SideOfRow partial relation) = Some Rows
section_of_side (SideOfBound is_new column relation) = Some Bounds

abbrev pub section_at : State → Option Section
section_at (Between place) = section_at_place place
section_at (AtObjective sense) = Some Objective
section_at (ObjectiveName sense label) = Some Objective
section_at (AtLastWord To) = Some Rows
section_at (AtLastWord That) = Some Rows
section_at (AtLastWord Continuous) = Some SemiContinuous
section_at AtSemi = Some SemiContinuous
section_at (Signs owner sign) = section_of_item owner
section_at (ItemNumber owner sign value) = section_of_item owner
section_at (RowName label) = Some Rows
section_at (RowLabel label) = Some Rows
section_at (RowSign label sign) = Some Rows
section_at (RowNumber label sign value) = Some Rows
section_at (RowLeft label l) = Some Rows
section_at (RowLeftRelation partial) = Some Rows
section_at (BoundName column) = Some Bounds
section_at (BoundSign sign) = Some Bounds
section_at (BoundLeft l) = Some Bounds
section_at (BoundLeftRelation l relation) = Some Bounds
section_at (AtSide sided) = section_of_side sided
section_at (SideSign sided sign) = section_of_side sided
section_at AfterEnd = Some End

abbrev section_after : Option Section → Terminal → Option Section
section_after here (Opens word) = Some (section_of word)
section_after here _ = here

abbrev KeepsSections : Context → Option Section → Terminal → AfterToken → Type 0
KeepsSections context here token (Goes after next) =
    (after.sections_seen ≡ grown context.sections_seen token) × (section_at next ≡ section_after here token)
KeepsSections context here token (Refuses kind) = States (terminal_fault context token) kind

refused : (context : Context) (here : Option Section) (token : Terminal) (kind : FaultKind)
    → is_of_sections kind ≡ false → KeepsSections context here token (refuse context token kind)
refused = grind arith

bad : (context : Context) (here : Option Section) (token : Terminal) →
    KeepsSections context here token (refuse context token kinds.BadToken)
bad = grind arith

build-fault : (fault : BuildFault) → is_of_sections (kind_of_build_fault fault) ≡ false
build-fault = grind arith

either : (context : Context) (here : Option Section) (token : Terminal) (b : Bool) (x y : AfterToken)
    → KeepsSections context here token x → KeepsSections context here token y →
    KeepsSections context here token (if b then x else y)
either = grind arith

-- ---- declarations

-- the token opens no section
abbrev opens_none : Terminal → Bool
opens_none (Opens word) = false
opens_none _ = true

declared : (context : Context) (here : Option Section) (token : Terminal) (refusals : List BuildFault) (place : Place)
    (made : Declarations) → opens_none token ≡ true
    → section_at_place place ≡ here → KeepsSections context here token (declare_unless_refused context token refusals place made)
declared = grind arith

declared-before : (context : Context)
    (here : Option Section) (token : Terminal) (refusals : List BuildFault) (made : Declarations) (next : AfterToken)
    → KeepsSections context here token next →
    KeepsSections context here token (step_after_declarations context token refusals made next)
declared-before = grind arith

-- ---- what each function does

stays : (context : Context) (here : Option Section) (token : Terminal) (place : Place) (made : Declarations)
    → opens_none token ≡ true → section_at_place place ≡ here →
    KeepsSections context here token (declare_at context token place made)
stays = grind arith

term : (context : Context) (owner : ItemOwner) (column name : List ℕ) (value : Decimal)
    → KeepsSections context (section_of_item owner) (Name name) (end_term context owner column value (Name name))
term = grind arith

signs : (context : Context) (owner : ItemOwner) (sign : SignOf) (token : Terminal)
    → KeepsSections context (section_of_item owner) token (step_after_signs context owner sign token)
signs context owner sign token =
    signs-by (KeepsSections context (section_of_item owner)) _ _ _ (bad context (section_of_item owner))
    (λ more. (refl, refl)) (λ name. term context owner name name (apply_sign sign one)) (λ value. (refl, refl)) token

item : (context : Context) (owner : ItemOwner) (token : Terminal) →
    KeepsSections context (section_of_item owner) token (begin_item context owner token)
item context owner token = item-by (KeepsSections context (section_of_item owner)) _ _
    (bad context (section_of_item owner)) (λ more. (refl, refl)) (λ name. term context owner name name one)
    (λ value. (refl, refl)) token

side : (context : Context) (sided : SideOwner) (l : Limit) (token : Terminal)
    → opens_none token ≡ true → KeepsSections context (section_of_side sided) token (end_side context sided l token)
side context (SideOfRow row relation) l token none = grind arith
side context (SideOfBound is_new column relation) l token none = grind arith

opened : (context : Context) (here : Option Section) (word : SectionWord) →
    KeepsSections context here (Opens word) (open_section context word)
opened = grind arith

row : (context : Context) (label : List ℕ) (token : Terminal) →
    KeepsSections context (Some Rows) token (begin_row context label token)
row = grind arith

bound : (context : Context) (token : Terminal) → KeepsSections context (Some Bounds) token (begin_bound context token)
bound = grind arith

second : (context : Context) (left : Option (List ℕ × Relation)) (relation : Relation)
    → KeepsSections context (Some Bounds) (Compares relation) (step_at_second_relation context left relation (Compares relation))
second = grind arith

listed : (place : Place) (kind_declared : List ℕ → Declaration) (context : Context) (token : Terminal)
    → KeepsSections context (section_at_place place) token (name_taken place kind_declared context token)
listed place kind_declared context token =
    listed-by (KeepsSections context (section_at_place place)) context place kind_declared (bad context (section_at_place place))
    (λ name. stays context _ (Name name) place (declare_column _ ∷ kind_declared name ∷ []) refl refl) token

phrase : (place : Place) (context : Context) (token : Terminal) →
    KeepsSections context (section_at_place place) token (begin_phrase place context token)
phrase AtStart context token = bad context None token
phrase (BeforeItems objective) context token = item context (OfObjective objective) token
phrase (InObjective objective) context token = grind arith
phrase BetweenRows context token = grind arith
phrase (InRow partial) context token = grind arith
phrase (InBounds left) context token = grind arith
phrase InGenerals context token = listed InGenerals declare_integer context token
phrase InBinaries context token = listed InBinaries declare_binary context token
phrase InSemis context token = listed InSemis declare_semi context token

first : (place : Place) (context : Context) (token : Terminal) →
    KeepsSections context (section_at_place place) token (begin place context token)
first place context token = begin-by (KeepsSections context (section_at_place place)) context place (λ word. either context
    (section_at_place place) (Opens word) (may_begin_section place) (open_section context word)
    (refuse context (Opens word) kinds.BadToken) (opened context (section_at_place place) word)
    (bad context (section_at_place place) (Opens word))) (phrase place context) token

-- a token that completes what is before it, and is taken at the place that follows
first-later : (context : Context) (made : Declarations) (place : Place) (token : Terminal)
    → KeepsSections context (section_at_place place) token (begin place (with_made context made) token)
first-later = grind (arith, first)

later : (context : Context) (made : Declarations) (place : Place) (token : Terminal)
    → KeepsSections context (section_at_place place) token (begin_phrase_after context made place token)
later = grind (arith, first-later)

lone : (context : Context) (owner : ItemOwner) (value : Decimal) (token : Terminal)
    → KeepsSections context (section_of_item owner) token (step_after_lone_number context owner value token)
lone context owner value token = grind arith

last_word : (context : Context) (wanted : LastWord) (token : Terminal)
    → KeepsSections context (section_at (AtLastWord wanted)) token (step context (AtLastWord wanted) token)
last_word context wanted token = last_word-by (KeepsSections context here) context wanted (bad context here)
    (λ name. either context _ (Name name) (is_last_word wanted name) _ _ (refl, by _) (bad context here (Name name))) token
  where
    here : Option Section
    here = section_at (AtLastWord wanted)

    by : (w : LastWord) → section_at_place (opened_by w) ≡ section_at (AtLastWord w)
    by = grind arith

-- ---- each state

by-state : (context : Context) (state : State) (token : Terminal) →
    KeepsSections context (section_at state) token (step context state token)
by-state context (Between place) token = first place context token
by-state context (AtObjective sense) token = objective-by (KeepsSections context (Some Objective)) context sense
    (λ name. (refl, refl)) (later context (objective_declared sense default_objective) (BeforeItems default_objective)) token
by-state context (ObjectiveName sense label) token = objective_name-by (KeepsSections context (Some Objective)) context sense label
    (stays context _ Colon (BeforeItems label) (objective_declared sense label) refl refl)
    (later context (first_item_declared sense label) (InObjective default_objective)) token
by-state context (AtLastWord wanted) token = last_word context wanted token
by-state context AtSemi token = semi-by (KeepsSections context (Some SemiContinuous)) context (refl, refl)
    (first-later context [] InSemis) token
by-state context (Signs owner sign) token = signs context owner sign token
by-state context (ItemNumber owner sign value) token =
    item_number-by (KeepsSections context (section_of_item owner)) context owner sign value
    (λ name. term context owner name name (apply_sign sign value)) (lone context _ (apply_sign sign value)) token
by-state _ (RowLabel _) _ = row _ _ _
by-state context (RowLeftRelation partial) token = item context (OfRow partial) token
by-state context (BoundName column) token =
    bound_name-by (KeepsSections context (Some Bounds)) _ _ (bad context (Some Bounds)) (grind arith)
    (λ relation. (refl, refl)) token
by-state context (BoundLeftRelation l relation) token =
    bound_column-by (KeepsSections context (Some Bounds)) context l relation (bad context (Some Bounds))
    (λ name. grind arith) token
by-state context (AtSide sided) token = grind (arith, side-by, side)
by-state context (SideSign sided sign) token = grind (arith, limit-by, side)
by-state context AfterEnd token = bad context (Some End) token
by-state context _ token = grind arith

-- ---- the sections that were opened are those that the tokens open

-- the sections that were opened, and that of the state
pub record Opened (earlier : List Terminal) (context : Context) (state : State) : Type 0 where
  pub seen : (section : Section) → has_seen context.sections_seen section ≡ has_opened earlier section
  pub current : current_section earlier ≡ section_at state

abbrev AreSeen : List Terminal → Context → Type 0
AreSeen earlier context = (section : Section) → has_seen context.sections_seen section ≡ has_opened earlier section

seen-grown : (seen : SectionsSeen) (token : Terminal) (section : Section) →
    has_seen (grown seen token) section ≡ (opens section token || has_seen seen section)
seen-grown = grind arith

pub opened-later : (earlier : List Terminal) (context : Context) (state : State) (token : Terminal) (after : Context)
    (next : State) → Opened earlier context state → step context state token ≡ Goes after next →
    Opened (token ∷ earlier) after next
opened-later = grind (arith, by-state, seen-grown)

-- ---- the errors

own-fault : (context : Context) (state : State) (token : Terminal) (kind : FaultKind)
    → is_of_sections kind ≡ true → step context state token ≡ Refuses kind → terminal_fault context token ≡ Some kind
own-fault = grind (arith, by-state)

abbrev choice : Bool → Bool → Option FaultKind
choice repeated late = if repeated then Some kinds.SectionRepeated else (if late then Some kinds.SectionOrder else None)

chosen-order : (a b : Bool) → choice a b ≡ Some kinds.SectionOrder → (a ≡ false) × (b ≡ true)
chosen-order = grind arith

repeated : (earlier : List Terminal) (context : Context) (state : State) (token : Terminal)
    → Opened earlier context state → step context state token ≡ Refuses kinds.SectionRepeated →
    repeats_section earlier token ≡ true
repeated earlier context state token known h = by _ (own-fault context state token _ refl h)
  where
    by : (t : Terminal) → terminal_fault context t ≡ Some kinds.SectionRepeated → repeats_section earlier t ≡ true
    by = grind arith

any-more : {X : Type 0} (p q : X → Bool) (xs : List X) → ((x : X) → p x ≡ true → q x ≡ true) → list_any p xs ≡ true →
    list_any q xs ≡ true
any-more p q [] more h = cc
any-more {X} p q (x ∷ xs) more h = grind (arith, or_left, or_right, any-more p q xs more)

-- a section that comes later was opened
late : (earlier : List Terminal) (section other : Section)
    → nat_lt (section_rank section) (section_rank other) ≡ true → has_opened earlier other ≡ true →
    comes_late earlier section ≡ true
late earlier section other above h = any-more _ _ earlier of h
  where
    of : (t : Terminal) → opens other t ≡ true → opens_later section t ≡ true
    of = grind arith

out_of_order : (earlier : List Terminal) (context : Context) (section : Section) → AreSeen earlier context
    → is_out_of_order context.sections_seen section ≡ true → (comes_early earlier section || comes_late earlier section) ≡ true
out_of_order earlier context section known h = of section h
  where
    seen : SectionsSeen
    seen = context.sections_seen

    -- the objective was not opened, or one of these was
    without : (s : Section) → comes_early earlier s ≡ not (has_opened earlier Objective) → (rest : Bool) → (rest ≡ true
        → comes_late earlier s ≡ true) → (not seen.objective || rest) ≡ true →
        (comes_early earlier s || comes_late earlier s) ≡ true
    without s is rest more k = by seen.objective (known Objective) k
      where
        by : (b : Bool) → b ≡ has_opened earlier Objective → (not b || rest) ≡ true →
            (comes_early earlier s || comes_late earlier s) ≡ true
        by true e m = or_right _ _ (more m)
        by false e m = or_left _ _ (is ∙ ap not (sym e))

    one_of : (a b : Bool) (X : Type 0) → (a ≡ true → X) → (b ≡ true → X) → (a || b) ≡ true → X
    one_of = grind arith

    opened_later : (s other : Section) → nat_lt (section_rank s) (section_rank other) ≡ true →
        has_seen seen other ≡ true → comes_late earlier s ≡ true
    opened_later s other above k = late earlier s other above (sym (known other) ∙ k)

    of : (s : Section) → is_out_of_order seen s ≡ true → (comes_early earlier s || comes_late earlier s) ≡ true
    of Objective k = absurd cc
    of Rows k = let late_rows : Type 0 = comes_late earlier Rows ≡ true in without Rows refl (seen.bounds || (seen.generals
        || (seen.binaries || (seen.semis || seen.end))))
        (one_of seen.bounds (seen.generals || (seen.binaries || (seen.semis || seen.end))) late_rows
        (opened_later Rows Bounds refl) (one_of seen.generals (seen.binaries || (seen.semis || seen.end)) late_rows
        (opened_later Rows Generals refl)
        (one_of seen.binaries (seen.semis || seen.end) late_rows (opened_later Rows Binaries refl)
        (one_of seen.semis seen.end late_rows (opened_later Rows SemiContinuous refl) (opened_later Rows End refl))))) k
    of End k = or_left _ _ (sym (ap not (known Objective)) ∙ k)
    of Bounds k = without Bounds refl seen.end (opened_later Bounds End refl) k
    of Generals k = without Generals refl seen.end (opened_later Generals End refl) k
    of Binaries k = without Binaries refl seen.end (opened_later Binaries End refl) k
    of SemiContinuous k = without SemiContinuous refl seen.end (opened_later SemiContinuous End refl) k

misplaced : (earlier : List Terminal) (context : Context) (state : State) (token : Terminal)
    → Opened earlier context state → step context state token ≡ Refuses kinds.SectionOrder → breaks_order earlier token ≡ true
misplaced earlier context state token known h = by token (own-fault context state token _ refl h)
  where
    by : (t : Terminal) → terminal_fault context t ≡ Some kinds.SectionOrder → breaks_order earlier t ≡ true
    by (Opens _) e = let parts = chosen-order _ _ e in
        both_so _ _ (so_not _ (sym (known.seen _) ∙ parts.0)) (out_of_order earlier context _ known.seen parts.1)
    by _ e = absurd cc

pub none-opened : Opened [] start.context (Between AtStart)
none-opened = grind arith

pub section-repeated : IsInWords kinds.SectionRepeated repeats_section
section-repeated = in-words _ _ _ (record { at_start = none-opened; goes = opened-later; refuses = repeated }) refl refl

pub section-order : IsInWords kinds.SectionOrder breaks_order
section-order = in-words _ _ _ (record { at_start = none-opened; goes = opened-later; refuses = misplaced }) refl refl
