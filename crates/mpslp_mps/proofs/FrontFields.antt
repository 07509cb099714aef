-- A line is read as its first six fields are: its content, errors, declarations and next context.
use Rattle.mpslp_mps.proofs.Prelude
use Prelude.{arith, ◌≡◌, ℕ, List, [], ◌∷◌, Bool, true, false, cond, Option, Fields, header, data_line, Section, Context, next_context, refl}
use Prelude.{take, Draft, data_declared, header_declared, header_tests, data_tests, sym, ap, ◌∙◌, map, length, Bor, nat_tests, first_so}
use Prelude.{second_so, list_all, ◌==◌, LineContent, skipped, header_of, fields, is_blank, is_comment, is_skipped, is_data, content_of}
use Prelude.{line_declares, item_tests, ReadsContent, LineResult}

-- ---- the first six fields of a line determine all that is checked of it: no data line of a known shape has so many

-- what is the same for seven or more fields as for the first six
by-front : {X : Type 0} (g : Fields → X) → ((a b c d e x y : List ℕ) (more : Fields)
    → g (a ∷ b ∷ c ∷ d ∷ e ∷ x ∷ []) ≡ g (a ∷ b ∷ c ∷ d ∷ e ∷ x ∷ y ∷ more)) → (fields : Fields) → g (take 6 fields) ≡ g fields
by-front g h (a ∷ b ∷ c ∷ d ∷ e ∷ x ∷ y ∷ more) = h a b c d e x y more
by-front g h fields = refl

pub data_tests-front : (context : Context) (earlier : Draft) (section : Option Section) (fields : Fields)
    → data_tests context earlier (take 6 fields) section ≡ data_tests context earlier fields section
data_tests-front context earlier section fields = grind arith

pub data_declared-front : (context : Context) (earlier : Draft) (section : Option Section) (fields : Fields)
    → data_declared context earlier (take 6 fields) section ≡ data_declared context earlier fields section
data_declared-front context earlier section fields = grind arith

pub next_context-front : (context : Context) (fields : Fields)
    → next_context context (data_line (take 6 fields)) ≡ next_context context (data_line fields)
next_context-front context fields = by-front (λ f. next_context context (data_line f)) (λ a b c d e x y more. refl) fields

-- ---- headers, of which the fields after the keyword are at most five

pub header_tests-front : (context : Context) (earlier : Draft) (keyword : List ℕ) (section : Option Section) (more : Fields)
    → header_tests context earlier keyword (take 5 more) section ≡ header_tests context earlier keyword more section
header_tests-front = grind arith

pub header_declared-front : (context : Context) (earlier : Draft) (section : Option Section) (more : Fields)
    → header_declared context earlier (take 5 more) section ≡ header_declared context earlier more section
header_declared-front = grind arith

-- ---- a line is read as its first six fields are

-- contents with the same errors, declarations and next context have the same result
taken_as : (context : Context) (earlier : Draft) (item other : LineContent) (answer : LineResult) (next : Context) (later : Draft)
    → item_tests context earlier item ≡ item_tests context earlier other
    → line_declares context earlier item ≡ line_declares context earlier other → next_context context item ≡ next_context context other
    → ReadsContent context earlier item answer next later → ReadsContent context earlier other answer next later
taken_as = grind arith

pub data-front : (context : Context) (earlier : Draft) (fields : Fields) (answer : LineResult) (next : Context) (later : Draft)
    → ReadsContent context earlier (data_line (take 6 fields)) answer next later
    → ReadsContent context earlier (data_line fields) answer next later
data-front context earlier fields answer next later taken =
    taken_as context earlier (data_line (take 6 fields)) (data_line fields) answer next later
    (data_tests-front context earlier context.section fields)
    (data_declared-front context earlier context.section fields) (next_context-front context fields) taken

next_header : (context : Context) (keyword : List ℕ) (more : Fields)
    → next_context context (header keyword (take 5 more)) ≡ next_context context (header keyword more)
next_header context keyword [] = refl
next_header context keyword (word ∷ []) = refl
next_header context keyword (word ∷ second ∷ more) = refl

pub header-front : (context : Context) (earlier : Draft) (fields : Fields) (answer : LineResult) (next : Context) (later : Draft)
    → ReadsContent context earlier (header_of (take 6 fields)) answer next later
    → ReadsContent context earlier (header_of fields) answer next later
header-front = grind (arith, taken_as, header_tests-front, header_declared-front, next_header)

-- ---- lines without fields

blank-next : (b : ℕ) (line : List ℕ) → is_blank b ≡ true → fields (b ∷ line) ≡ fields line
blank-next b line blank = rw blank refl

blank-fields : (line : List ℕ) → list_all is_blank line ≡ true → fields line ≡ []
blank-fields [] all = refl
blank-fields (b ∷ line) all = blank-next b line (first_so _ _ all) ∙ blank-fields line (second_so _ _ all)

fields-blank : (line : List ℕ) → fields line ≡ [] → list_all is_blank line ≡ true
fields-blank [] none = refl
fields-blank (b ∷ line) none = grind (arith, fields-blank line)

-- and so is a line without fields
pub empty-item : (line : List ℕ) → is_comment line ≡ false → take 6 (fields line) ≡ [] → content_of line ≡ skipped
empty-item = grind (arith, fields-blank)

-- but no other line
pub read-item : (line : List ℕ) → is_comment line ≡ false → (take 6 (fields line) ≡ [] → ⊥) → is_skipped line ≡ false
read-item = grind (arith, blank-fields)

-- the fields that a reader took
pub no_fields : (taken : List (Bor (List ℕ))) (front : Fields) → map (λ field. field.now) taken ≡ front
    → (length taken == 0) ≡ true → front ≡ []
no_fields [] front same empty = sym same
no_fields (field ∷ more) front same empty = absurd (grind (arith, nat_tests))

pub some_fields : (taken : List (Bor (List ℕ))) (front : Fields) → map (λ field. field.now) taken ≡ front → (length taken == 0) ≡ false
    → front ≡ [] → ⊥
some_fields [] front same some none = absurd cc
some_fields (field ∷ more) front same some none = absurd cc

-- ---- the content of a line

pub data-item : (line : List ℕ) → is_skipped line ≡ false → is_data line ≡ true → content_of line ≡ data_line (fields line)
data-item line unread is =
    ap (λ (b : Bool). cond b skipped (cond (is_data line) (data_line (fields line)) (header_of (fields line)))) unread
    ∙ ap (λ (b : Bool). cond b (data_line (fields line)) (header_of (fields line))) is

pub header-item : (line : List ℕ) → is_skipped line ≡ false → is_data line ≡ false → content_of line ≡ header_of (fields line)
header-item line unread is = ap (λ b. cond b skipped (cond (is_data line) (data_line (fields line)) (header_of (fields line)))) unread
    ∙ ap (λ b. cond b (data_line (fields line)) (header_of (fields line))) is
