-- What it is that a phrase and all after it are complete, and how the grammar reads items, bounds and lists of names.
use Rattle.mpslp_lp_sentences.proofs.Prelude
use Prelude.{arith, rules, ◌≡◌, ap, ◌∙◌, ℕ, suc, List, [], ◌∷◌, ◌++◌, Bool, true, not, append_assoc, Some, None, ◌==◌, Declarations, Draft}
use Prelude.{with_declarations, refusals_in_turn, ◌>>=◌, next, ahead, Terminal, TerminalAt, Opens, Point, section_fault, with_section}
use Prelude.{PhraseRule, Follows, goes_to, declares, SectionsSeen, Context, Place, section_start, may_begin_section, phrase_at, section_of}
use Prelude.{SectionWord, point_at, at, sym, subst, false, Option, Decimal, Limit, SignOf, Name, Number, Sign, Compares, Infinity}
use Prelude.{Relation, SideOf, apply_sign, next_relation, product, number_item, signed_item, item_from, items, Side, side, term}
use Prelude.{sign_tokens, number_tokens, side_tokens, term_tokens, product_of, signed, coefficient, limit, refl, flat_map}
use Prelude.{Declaration, declare_column, bounds_declared, bounds_refusals, with_declarations-append, AtMost, AtLeast, InBounds, Limits}
use Prelude.{limits_by, flip, parts-taken, Bound, bounds_between, bounds_from_above, bound_tokens, name_tokens, bounds_by, turned}
use Prelude.{bound_declares, names_declare}
use Rattle.mpslp_builder.proofs.MadeDrafts.{sides-taken}
use Rattle.mpslp_lp_grammar.specs.Items.{Item}
use Rattle.mpslp_lp_sentences.proofs.Whole.{Tokens, preceded, whole, listened, listened-ahead, listened-none}
use Rattle.mpslp_lp_sentences.specs.Meaning.{one, infinity}
use Rattle.mpslp_lp_tokens.specs.declared.words.SectionWord.TheVariants as words
use Rattle.mpslp_lp_grammar.specs.Items as grammar_items

-- ---- tokens with their lines, before the `end` of a text, and how the rules of the grammar listen to them

-- tokens, each on its line, before others
abbrev pub stamped : (ℕ → ℕ) → List Terminal → Tokens → Tokens
stamped line [] ending = ending
stamped line (x ∷ xs) ending = at (line 0) x ∷ stamped (λ k. line (suc k)) xs ending

-- the lines after the first
abbrev pub onward : (ℕ → ℕ) → ℕ → ℕ
onward line k = line (suc k)

-- the first of the tokens, before the `end`
abbrev pub first_of_all : List Terminal → Terminal
first_of_all [] = Opens words.End
first_of_all (x ∷ xs) = x

-- the next token, if there is one, is on another line
abbrev pub is_elsewhere : ℕ → Tokens → Bool
is_elsewhere line [] = true
is_elsewhere line (token ∷ tokens) = not (token.line == line)

abbrev pub here : SectionsSeen → Draft → Context
here seen earlier = record { sections_seen = seen; builder = earlier }

-- the `end` of a text, and what follows it
abbrev pub ending : ℕ → Tokens → Tokens
ending last later = at last (Opens words.End) ∷ later

module _ (last : ℕ) (later : Tokens) where
  -- From a rule on, the tokens are complete and declare these.
  abbrev pub Hears : PhraseRule Follows → List Terminal → Declarations → Type 0
  Hears rule xs made = (line : ℕ → ℕ) → listened rule (stamped line xs (ending last later)) ≡ Some made

  -- The same from a point on.
  abbrev pub IsWhole : Point → List Terminal → Declarations → Type 0
  IsWhole point xs made = (line : ℕ → ℕ) → whole point 0 (stamped line xs (ending last later)) ≡ Some made

  -- From each place where a section may begin.
  abbrev pub IsWholeAnywhere : SectionsSeen → Draft → List Terminal → Declarations → Type 0
  IsWholeAnywhere seen earlier xs made = (place : Place) → may_begin_section place ≡ true →
      IsWhole (point_at place seen earlier) xs made

  pub whole-begins : (point : Point) (x : Terminal) (xs : List Terminal) (made : Declarations)
      → ((n : ℕ) → Hears (phrase_at point (at n x)) xs made) → IsWhole point (x ∷ xs) made
  whole-begins point x xs made h line = grind arith

  pub hears-next : (following : TerminalAt → PhraseRule Follows) (x : Terminal) (xs : List Terminal) (made : Declarations)
      → ((n : ℕ) → Hears (following (at n x)) xs made) → Hears (next >>= following) (x ∷ xs) made
  hears-next following x xs made h line = grind arith

  pub hears-ahead : (following : TerminalAt → PhraseRule Follows) (xs : List Terminal) (made : Declarations)
      → ((n : ℕ) → Hears (following (at n (first_of_all xs))) xs made) → Hears (ahead >>= following) xs made
  hears-ahead following [] _ h line = listened-ahead following (at last _) later ∙ h last line
  hears-ahead following (x ∷ xs) made h line = grind (arith, listened-ahead, at)

  pub hears-goes : (context : Context) (place : Place) (made : Declarations) (xs : List Terminal) (more : Declarations)
      → IsWhole (point_at place context.sections_seen (with_declarations context.builder made)) xs more →
      Hears (goes_to context place made) xs (made ++ more)
  hears-goes _ _ made _ _ h _ = ap (preceded made) (h _)

  pub hears-declares : (context : Context) (token : TerminalAt) (place : Place) (made : Declarations) (xs : List Terminal)
      (more : Declarations) → refusals_in_turn context.builder made ≡ [] → IsWhole (point_at place context.sections_seen
      (with_declarations context.builder made)) xs more → Hears (declares context token place made) xs (made ++ more)
  hears-declares = grind arith

  -- two phrases, and what they declare
  pub whole-joined : (point : Point) (xs ys zs : List Terminal) (made more all : Declarations)
      → IsWhole point (xs ++ (ys ++ zs)) (made ++ (more ++ all)) → IsWhole point ((xs ++ ys) ++ zs) ((made ++ more) ++ all)
  whole-joined point xs ys zs made more all h line = grind (arith, whole, append_assoc)

  -- a section word, where a section may begin
  opened : (place : Place) (seen : SectionsSeen) (earlier : Draft) (word : SectionWord) (n : ℕ) (tokens : Tokens) →
      may_begin_section place ≡ true → section_fault seen (section_of word) ≡ None →
      listened (phrase_at (point_at place seen earlier) (at n (Opens word))) tokens ≡ listened
      (section_start (here (with_section seen (section_of word)) earlier) (at n (Opens word)) word) tokens
  opened = grind arith

  pub whole-opens : (place : Place) (seen : SectionsSeen) (earlier : Draft) (word : SectionWord) (xs : List Terminal)
      (made : Declarations) → may_begin_section place ≡ true → section_fault seen (section_of word) ≡ None →
      ((n : ℕ) → Hears (section_start (here (with_section seen (section_of word)) earlier) (at n (Opens word)) word)
      xs made) → IsWhole (point_at place seen earlier) (Opens word ∷ xs) made
  whole-opens place seen earlier word xs made may fault h = search (rules, whole-begins, opened)

-- ---- how the grammar reads items and sides

-- ---- signs

-- the sign of signs one after another
abbrev pub multiplied : SignOf → List SignOf → SignOf
multiplied sign [] = sign
multiplied sign (next_one ∷ more) = multiplied (product sign next_one) more

pub signed-is : (sign : SignOf) (value : Decimal) → apply_sign sign value ≡ signed sign value
signed-is = grind arith

multiplied-is : (signs : List SignOf) (sign : SignOf) → multiplied sign signs ≡ product_of (sign ∷ signs)
multiplied-is [] _ = sym (grind arith)
multiplied-is (next_one ∷ more) sign = multiplied-is more _ ∙ (grind arith)

pub multiplied-value : (sign : SignOf) (signs : List SignOf) (value : Decimal) →
    apply_sign (multiplied sign signs) value ≡ signed (product_of (sign ∷ signs)) value
multiplied-value sign signs value = signed-is (multiplied sign signs) value ∙ ap (λ s. signed s value) (multiplied-is signs sign)

-- the tokens of a term, before others
abbrev pub term_before : List SignOf → Option Decimal → List ℕ → List Terminal → List Terminal
term_before signs number column xs = sign_tokens signs ++ (number_tokens number ++ Name column ∷ xs)

pub term-before : (signs : List SignOf) (number : Option Decimal) (column : List ℕ) (xs : List Terminal)
    → term_before signs number column xs ≡ term_tokens (term signs number column) ++ xs
term-before = grind (arith, append_assoc)

abbrev pub is_no_name : Terminal → Bool
is_no_name (Name name) = false
is_no_name _ = true

pub infinity-is : (sign : SignOf) → grammar_items.infinity sign ≡ infinity sign
infinity-is = grind arith

-- the first token of a side, and its others before further tokens
abbrev pub side_first : Side → Terminal
side_first (side None None) = Infinity
side_first (side None (Some value)) = Number value
side_first (side (Some sign) _) = Sign sign

abbrev pub side_rest : Side → List Terminal → List Terminal
side_rest (side None _) xs = xs
side_rest (side (Some sign) None) xs = Infinity ∷ xs
side_rest (side (Some sign) (Some value)) xs = Number value ∷ xs

pub side-split : (part : Side) (xs : List Terminal) → side_first part ∷ side_rest part xs ≡ side_tokens part ++ xs
side-split = grind arith

module _ (last : ℕ) (later : Tokens) where
  -- ---- items

  pub hears-named : (sign : SignOf) (value : Decimal) (column : List ℕ) (following : Item →
      PhraseRule Follows) (xs : List Terminal) (made : Declarations) →
      ((n : ℕ) → Hears last later (following (items.Term (apply_sign sign value) column (at n (Name column))))
      xs made) → Hears last later (number_item sign value >>= following) (Name column ∷ xs) made
  hears-named sign value column following xs made h line = grind arith

  pub hears-lone : (sign : SignOf) (value : Decimal) (following : Item →
      PhraseRule Follows) (xs : List Terminal) (made : Declarations) → is_no_name (first_of_all xs) ≡ true →
      ((n : ℕ) → Hears last later (following (items.Lone (apply_sign sign value) (at n (first_of_all xs)))) xs made)
      → Hears last later (number_item sign value >>= following) xs made
  hears-lone sign value following xs made no_name h line = grind (arith, listened-none, at, ending, stamped)

  pub hears-signs : (signs : List SignOf) (context : Context) (sign : SignOf) (following : Item → PhraseRule Follows)
      (xs : List Terminal) (made : Declarations) →
      Hears last later (signed_item context (multiplied sign signs) >>= following) xs made →
      Hears last later (signed_item context sign >>= following) (sign_tokens signs ++ xs) made
  hears-signs [] _ _ _ _ _ h _ = h _
  hears-signs (next_one ∷ signs) context sign following xs made h line = grind
      (arith, stamped, onward, ending, at, hears-signs signs context (product sign next_one) following xs made h (onward line))

  hears-signed_name : (context : Context) (sign : SignOf) (column : List ℕ) (following : Item →
      PhraseRule Follows) (xs : List Terminal) (made : Declarations) →
      ((n : ℕ) → Hears last later (following (items.Term (apply_sign sign one) column (at n (Name column))))
      xs made) → Hears last later (signed_item context sign >>= following) (Name column ∷ xs) made
  hears-signed_name context sign column following xs made h line = grind arith

  pub hears-signed_number : (context : Context) (sign : SignOf) (value : Decimal) (following : Item → PhraseRule Follows)
      (xs : List Terminal) (made : Declarations) → Hears last later (number_item sign value >>= following) xs made
      → Hears last later (signed_item context sign >>= following) (Number value ∷ xs) made
  hears-signed_number context sign value following xs made h line = grind arith

  -- what follows a term reads its value
  abbrev pub HearsTerm : (Item → PhraseRule Follows) → Decimal → List ℕ → List Terminal → Declarations → Type 0
  HearsTerm following value column xs made = (n : ℕ) →
      Hears last later (following (items.Term value column (at n (Name column)))) xs made

  -- the rest of a term after its first sign
  pub hears-term : (context : Context) (sign : SignOf) (signs : List SignOf) (number : Option Decimal) (column : List ℕ)
      (following : Item
      → PhraseRule Follows) (xs : List Terminal) (made : Declarations) → HearsTerm following (coefficient (sign ∷ signs) number)
      column xs made → Hears last later (signed_item context sign >>= following) (term_before signs number column xs) made
  hears-term context sign signs None column following xs made h =
      hears-signs signs context sign following (Name column ∷ xs) _
      (hears-signed_name context (multiplied sign signs) column following xs _
      (subst (λ value. HearsTerm following value column xs made) (sym (multiplied-value sign signs one)) h))
  hears-term context sign signs (Some size) column following xs made h =
      hears-signs signs context sign following (Number size ∷ Name column ∷ xs) _
      (hears-signed_number context (multiplied sign signs) size following (Name column ∷ xs) _
      (hears-named (multiplied sign signs) size column following xs _
      (subst (λ value. HearsTerm following value column xs made) (sym (multiplied-value sign signs size)) h)))

  -- a whole term
  pub hears-first : (context : Context) (signs : List SignOf) (number : Option Decimal) (column : List ℕ)
      (following : Item → PhraseRule Follows) (xs : List Terminal) (made : Declarations) →
      HearsTerm following (coefficient signs number) column xs made →
      Hears last later (next >>= λ token. item_from context token >>= following) (term_before signs number column xs) made
  hears-first context (sign ∷ signs) number column following xs _ h =
      hears-next last later (λ token. item_from context token >>= following) (Sign sign)
      (term_before signs number column xs) _ (λ n. hears-term context sign signs number column following xs _ h)
  hears-first context [] None column following xs made h = grind arith
  hears-first context [] (Some size) column following xs made h = grind arith

  -- ---- sides

  -- what follows a side reads its limit
  abbrev pub HearsSide : (SideOf → PhraseRule Follows) → Limit → List Terminal → Declarations → Type 0
  HearsSide following value xs made = (token : TerminalAt) →
      Hears last later (following (record { limit = value; last = token })) xs made

  -- a relation
  pub hears-relation : (context : Context)
      (relation : Relation) (following : Relation → PhraseRule Follows) (xs : List Terminal) (made : Declarations)
      → Hears last later (following relation) xs made →
      Hears last later (next_relation context >>= following) (Compares relation ∷ xs) made
  hears-relation context relation following xs made h line = grind arith

-- ---- how the grammar reads bounds and lists of names

-- what bounds of a column declare
abbrev pub limits_declared : List ℕ → Limits → Declarations
limits_declared column limits = bounds_declared column limits.lower limits.upper

pub by-relation : (column : List ℕ) (relation : Relation) (value : Limit) →
    limits_declared column (limits_by relation value) ≡ bounds_by column relation value
by-relation = grind arith

pub flipped : (relation : Relation) → flip relation ≡ turned relation
flipped = grind arith

-- the limits of a column that is declared with them
abbrev Taken : Draft → List ℕ → Limits → Type 0
Taken earlier column limits = bounds_refusals (with_declarations earlier (declare_column column ∷ [])) column
    limits.lower limits.upper ≡ []

module _ (last : ℕ) (later : Tokens) where
  -- ---- bounds

  -- a side, a relation and a column
  whole-left : (left : Option (List ℕ × Relation)) (seen : SectionsSeen) (earlier : Draft) (part : Side) (relation : Relation)
      (column : List ℕ) (xs : List Terminal) (made : Declarations) → Taken earlier column (limits_by (flip relation) (limit part))
      → IsWhole last later (point_at (InBounds (Some (column, relation))) seen
      (with_declarations earlier (declare_column column ∷ limits_declared column
      (limits_by (flip relation) (limit part))))) xs made →
      IsWhole last later (point_at (InBounds left) seen earlier)
      (side_tokens part ++ Compares relation ∷ Name column ∷ xs)
      ((declare_column column ∷ limits_declared column (limits_by (flip relation) (limit part))) ++ made)
  whole-left = grind arith

  -- the second side of a column between two sides
  whole-second_most : (seen : SectionsSeen) (earlier : Draft) (column : List ℕ) (part : Side) (xs : List Terminal)
      (made : Declarations) → bounds_refusals earlier column None (Some (limit part)) ≡ [] →
      IsWhole last later (point_at (InBounds None) seen
      (with_declarations earlier (bounds_declared column None (Some (limit part))))) xs made →
      IsWhole last later (point_at (InBounds (Some (column, AtMost))) seen earlier)
      (Compares AtMost ∷ (side_tokens part ++ xs)) (bounds_declared column None (Some (limit part)) ++ made)
  whole-second_most = grind arith

  -- after a bound
  abbrev After : SectionsSeen → Draft → List Terminal → Declarations → Type 0
  After seen earlier xs made = (left : Option (List ℕ × Relation)) →
      IsWhole last later (point_at (InBounds left) seen earlier) xs made

  whole-bound : (part : Bound) (left : Option (List ℕ × Relation)) (seen : SectionsSeen) (earlier : Draft) (xs : List Terminal)
      (made : Declarations) → refusals_in_turn earlier (bound_declares part) ≡ [] →
      After seen (with_declarations earlier (bound_declares part)) xs made →
      IsWhole last later (point_at (InBounds left) seen earlier) (bound_tokens part ++ xs) (bound_declares part ++ made)
  whole-bound (bounds_between lower column upper) left seen earlier xs made = λ h rest. let front =
      declare_column column ∷ bounds_declared
      column (Some (limit lower)) None in
      let taken = parts-taken earlier front (bounds_declared column None (Some (limit upper))) h in
      subst (λ tokens. IsWhole last later (point_at (InBounds left) seen earlier) tokens
      (bound_declares (bounds_between lower column upper) ++ made))
      (sym (append_assoc (side_tokens lower) (Compares AtMost ∷ Name column ∷ Compares AtMost ∷ side_tokens upper) xs))
      (whole-left left seen earlier lower AtMost _ (Compares AtMost ∷ (side_tokens upper ++ xs)) _
      (sides-taken (with_declarations earlier (declare_column _ ∷ [])) column (Some (limit lower)) None taken.0
      refl) (whole-second_most _ (with_declarations earlier front) column upper xs _
      (sides-taken (with_declarations earlier front) column None (Some (limit upper)) taken.1 refl) (rest _)))
  whole-bound (bounds_from_above upper column lower) left seen earlier xs made =
      λ h rest. let front = declare_column column ∷ bounds_declared column None (Some (limit upper)) in
      let taken = parts-taken earlier front (bounds_declared column (Some (limit lower)) None) h in
      subst (λ tokens. IsWhole last later (point_at (InBounds left) seen earlier) tokens
      (bound_declares (bounds_from_above upper column lower) ++ made))
      (sym (append_assoc (side_tokens upper)
      (Compares AtLeast ∷ Name column ∷ Compares AtLeast ∷ side_tokens lower) xs))
      (whole-left left seen earlier upper AtLeast _ (Compares AtLeast ∷ (side_tokens lower ++ xs)) _
      (sides-taken (with_declarations earlier (declare_column _ ∷ [])) column None
      (Some (limit upper)) taken.0 refl) (grind arith))
  whole-bound _ left seen earlier xs made = λ h rest line. grind arith

  -- all bounds of the section
  pub whole-bounds : (parts : List Bound) (left : Option (List ℕ × Relation)) (seen : SectionsSeen)
      (earlier : Draft) (xs : List Terminal) (made : Declarations) → refusals_in_turn earlier (flat_map bound_declares parts) ≡ []
      → IsWholeAnywhere last later seen (with_declarations earlier (flat_map bound_declares parts)) xs made → IsWhole last later
      (point_at (InBounds left) seen earlier) (flat_map bound_tokens parts ++ xs) (flat_map bound_declares parts ++ made)
  whole-bounds [] _ _ _ _ _ h rest = rest _ refl
  whole-bounds (part ∷ parts) left seen earlier xs made h rest = let more = flat_map bound_declares parts in
      let taken = parts-taken earlier (bound_declares part) more h in
      whole-joined last later (point_at (InBounds left) seen earlier) (bound_tokens part)
      (flat_map bound_tokens parts) xs (bound_declares part) more made (whole-bound part left seen earlier (flat_map
      bound_tokens parts ++ xs) _ taken.0
      (λ after. whole-bounds parts after _ (with_declarations earlier (bound_declares part)) _ _ taken.1
      (subst (λ draft. IsWholeAnywhere last later seen draft xs made)
      (with_declarations-append (bound_declares part) more earlier) rest)))

  -- ---- names

  -- a name at a place declares these
  abbrev pub Names : Place → (List ℕ → Declaration) → SectionsSeen → Type 0
  Names place kind seen = (earlier : Draft) (column : List ℕ) (n : ℕ) (tokens : Tokens)
      → listened (phrase_at (point_at place seen earlier) (at n (Name column))) tokens
      ≡ listened (declares (here seen earlier) (at n (Name column)) place (declare_column column ∷ kind column ∷ [])) tokens

  pub whole-names : (place : Place) (kind : List ℕ → Declaration) (seen : SectionsSeen) → Names place kind seen →
      may_begin_section place ≡ true →
      (names : List (List ℕ)) (earlier : Draft) (xs : List Terminal) (made : Declarations) → refusals_in_turn earlier
      (names_declare kind names) ≡ [] →
      IsWholeAnywhere last later seen (with_declarations earlier (names_declare kind names)) xs made
      → IsWhole last later (point_at place seen earlier) (name_tokens names ++ xs) (names_declare kind names ++ made)
  whole-names _ _ _ _ may [] _ _ _ h rest = rest _ may
  whole-names place kind seen same may (column ∷ names) earlier xs made h rest = let first =
      declare_column column ∷ kind column ∷ [] in
      let more = names_declare kind names in
      let taken = parts-taken earlier first more h in
      whole-begins last later (point_at place seen earlier) (Name column) (name_tokens names ++ xs) _
      (λ n line. same earlier column n (stamped line (name_tokens names ++ xs) (ending _ _))
      ∙ hears-declares last later (here _ _) (at n (Name column)) place first (name_tokens names ++ xs) _
      taken.0 (whole-names _ _ _ same may names (with_declarations earlier first) _ _ taken.1
      (subst (λ draft. IsWholeAnywhere last later seen draft xs made) (with_declarations-append first more earlier) rest)) line)
