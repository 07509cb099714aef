-- What tokens have to be if a rule reads them: the phrases of the text, from the first token on.
use Rattle.mpslp_lp_sentences.proofs.Prelude
use Prelude.{arith, ◌≡◌, refl, sym, ap, subst, ◌∙◌, ℕ, List, [], ◌∷◌, ◌++◌, Option, Some, None, unwrap_or, none-some, Decimal, limit_of}
use Prelude.{BuildFault, Declarations, with_declarations, SignOf, Plus, Relation, ◌>>=◌, next, ahead, Terminal, TerminalAt, Name}
use Prelude.{Number, Sign, Compares, Infinity, Point, PhraseRule, Follows, goes_to, unless_refused, Context, Place, SideOf, apply_sign}
use Prelude.{side_from, side_rule, next_relation, product, number_item, signed_item, item_from, items, phrase_at, point_at}
use Prelude.{at, Side, side, term, sign_tokens, side_tokens, term_tokens, product_of, signed, coefficient, limit, ◌≤◌, ◌<◌, zero, suc, ◌+◌}
use Prelude.{Bool, true, false, append_assoc, length, flat_map, list_all, length-append, false≢true, both_so, Limit, Declaration, Draft}
use Prelude.{declare_column, with_declarations-append, Opens, Free, SectionsSeen, AtMost, AtLeast, InBounds, Limits, limits_by, flip}
use Prelude.{bound_sides, no_limits, bound_right, bound_after, bound_column, bound_left, name_in_section, SectionWord, Bound, bound}
use Prelude.{free_bound, turned_bound, bounds_between, bounds_from_above, bound_tokens, bound_declares}
use Rattle.mpslp_lp_grammar.specs.Items.{Item}
use Rattle.mpslp_lp_sentences.{specs.Meaning.one, proofs.Whole.{Tokens, whole, listened, listened-one, listened-none}}
use Rattle.mpslp_lp_sentences.proofs.{Whole.heard-later, Hears.{stamped, onward, multiplied, multiplied-value, signed-is, infinity-is}}
use Rattle.mpslp_lp_sentences.proofs.Hears.{first_of_all, here, limits_declared, by-relation, flipped}

-- ---- tokens on their lines

-- all tokens of a text
abbrev pub all_at : (ℕ → ℕ) → List Terminal → Tokens
all_at line xs = stamped line xs []

-- the lines after these tokens
abbrev pub onwards : List Terminal → (ℕ → ℕ) → ℕ → ℕ
onwards [] line = line
onwards (x ∷ xs) line = onwards xs (onward line)

pub onwards-append : (xs ys : List Terminal) (line : ℕ → ℕ) → onwards (xs ++ ys) line ≡ onwards ys (onwards xs line)
onwards-append [] _ _ = refl
onwards-append (x ∷ xs) _ _ = onwards-append xs _ _

-- From a rule on, or from a point on, the tokens are complete and declare these.
abbrev pub Heard : PhraseRule Follows → (ℕ → ℕ) → List Terminal → Declarations → Type 0
Heard rule line xs made = listened rule (all_at line xs) ≡ Some made

abbrev pub Complete : Point → (ℕ → ℕ) → List Terminal → Declarations → Type 0
Complete point line xs made = whole point 0 (all_at line xs) ≡ Some made

pub complete-phrase : (point : Point) (line : ℕ → ℕ) (x : Terminal) (xs : List Terminal) (made : Declarations)
    → Complete point line (x ∷ xs) made → Heard (phrase_at point (at (line 0) x)) (onward line) xs made
complete-phrase = grind arith

pub heard-next : (following : TerminalAt → PhraseRule Follows) (line : ℕ →
    ℕ) (x : Terminal) (xs : List Terminal) (made : Declarations) → Heard (next >>= following) line (x ∷ xs) made →
    Heard (following (at (line 0) x)) (onward line) xs made
heard-next = grind arith

pub heard-ahead : (following : TerminalAt → PhraseRule Follows) (line : ℕ →
    ℕ) (x : Terminal) (xs : List Terminal) (made : Declarations) → Heard (ahead >>= following) line (x ∷ xs) made →
    Heard (following (at (line 0) x)) line (x ∷ xs) made
heard-ahead = grind arith

-- ---- what follows a phrase

-- a phrase that declares these, and the rest from a point on
pub record Goes (point : Point) (first : Declarations) (line : ℕ → ℕ) (xs : List Terminal) (made : Declarations) : Type 0 where
  pub more : Declarations
  pub is : made ≡ first ++ more
  pub rest : Complete point line xs more

pub goes-heard : (context : Context) (place : Place) (first : Declarations) (line : ℕ →
    ℕ) (xs : List Terminal) (made : Declarations) → Heard (goes_to context place first) line xs made
    → Goes (point_at place context.sections_seen (with_declarations context.builder first)) first line xs made
goes-heard = grind arith

pub record GoesUnrefused (context : Context) (refusals : List BuildFault)
    (place : Place) (first : Declarations) (line : ℕ → ℕ) (xs : List Terminal) (made : Declarations) : Type 0 where
  pub none : refusals ≡ []
  pub goes : Goes (point_at place context.sections_seen (with_declarations context.builder first)) first line xs made

pub unless-heard : (context : Context) (token : TerminalAt)
    (refusals : List BuildFault) (place : Place) (first : Declarations) (line : ℕ → ℕ) (xs : List Terminal) (made : Declarations)
    → Heard (unless_refused context token refusals place first) line xs made →
    GoesUnrefused context refusals place first line xs made
unless-heard = grind arith

-- ---- items

-- the tokens of a constant
abbrev pub constant_tokens : List SignOf → Decimal → List Terminal
constant_tokens signs value = sign_tokens signs ++ Number value ∷ []

-- An item without its first sign: a term, or a number that no name follows.
pub data SignedItem
    (sign : SignOf) (following : Item → PhraseRule Follows) (line : ℕ →
    ℕ) (xs : List Terminal) (made : Declarations) : Type 0 where
  signed_term : (signs : List SignOf) (number : Option Decimal) (column : List ℕ) (rest : List Terminal) (n : ℕ) →
      xs ≡ term_tokens (term signs number column) ++ rest →
      Heard (following (items.Term (apply_sign (multiplied sign signs) (unwrap_or number one)) column
      (at n (Name column)))) (onwards (term_tokens (term signs number column)) line) rest made →
      SignedItem sign following line xs made
  signed_lone : (signs : List SignOf) (value : Decimal) (y : Terminal) (rest : List Terminal) (n : ℕ)
      → xs ≡ constant_tokens signs value ++ y ∷ rest →
      Heard (following (items.Lone (apply_sign (multiplied sign signs) value) (at n y)))
      (onwards (constant_tokens signs value) line) (y ∷ rest) made → SignedItem sign following line xs made

pub number-heard : (sign : SignOf)
    (value : Decimal) (following : Item → PhraseRule Follows) (xs : List Terminal) (line : ℕ → ℕ) (made : Declarations)
    → Heard (number_item sign value >>= following) (onward line) xs made → SignedItem sign following line (Number value ∷ xs) made
number-heard _ _ _ [] _ _ h = absurd (none-some _ h)
number-heard _ value following (Name column ∷ xs) line _ h = signed_term []
    (Some value) column xs (line 1) refl
    (sym (listened-one (following _ _) (at (line 1) _) (all_at (onward (onward line)) xs)) ∙ h)
number-heard _ _ following (y ∷ xs) line _ h =
    signed_lone [] _ y xs (line 1) refl (sym (listened-none (following _ _) (all_at (onward line) (y ∷ xs))) ∙ h)

signed-heard : (xs : List Terminal) (context : Context) (sign : SignOf) (following : Item → PhraseRule Follows) (line : ℕ → ℕ)
    (made : Declarations) → Heard (signed_item context sign >>= following) line xs made → SignedItem sign following line xs made
signed-heard (Sign more ∷ xs) context sign following line made h = by (signed-heard xs context _ _ _ _ (sym (heard-later
    (signed_item context (product sign more) (all_at (onward line) xs)) following (at (line 0) (Sign more))
    (all_at (onward line) xs)) ∙ h))
  where
    by : SignedItem (product sign more) following (onward line) xs made → SignedItem sign following line (Sign more ∷ xs) made
    by (signed_term signs _ _ _ n same heard) = signed_term (more ∷ signs) _ _ _ n (ap (λ ys. Sign more ∷ ys) same) heard
    by (signed_lone signs _ y _ n same heard) = signed_lone (more ∷ signs) _ y _ n (ap (λ ys. Sign more ∷ ys) same) heard
signed-heard (Name column ∷ xs) _ _ following line _ h =
    signed_term [] None column xs (line 0) refl (sym (listened-one (following _ _) (at (line 0) _) (all_at (onward line) xs)) ∙ h)
signed-heard (Number value ∷ xs) _ sign following line _ h = number-heard _ _ _ _ _ _ (sym
    (heard-later (number_item sign value (all_at (onward line) xs)) following (at (line 0) (Number value))
    (all_at (onward line) xs)) ∙ h)
signed-heard _ _ _ _ _ _ h = absurd (none-some _ h)

-- A whole item.
pub data AnItem (following : Item → PhraseRule Follows) (line : ℕ → ℕ) (xs : List Terminal) (made : Declarations) : Type 0 where
  found_term : (signs : List SignOf) (number : Option Decimal) (column : List ℕ) (rest : List Terminal) (n : ℕ) → xs ≡ term_tokens
      (term signs number column) ++ rest → Heard (following (items.Term (coefficient signs number) column (at n (Name column))))
      (onwards (term_tokens (term signs number column)) line) rest made → AnItem following line xs made
  found_lone : (signs : List SignOf) (value : Decimal) (y : Terminal) (rest : List Terminal) (n : ℕ)
      → xs ≡ constant_tokens signs value ++ y ∷ rest → Heard (following (items.Lone (signed (product_of signs) value) (at n y)))
      (onwards (constant_tokens signs value) line) (y ∷ rest) made → AnItem following line xs made

-- an item with its first sign
pub item-from_signed : (sign : SignOf) (following : Item → PhraseRule Follows) (line : ℕ →
    ℕ) (xs : List Terminal) (made : Declarations) → SignedItem sign following (onward line) xs made →
    AnItem following line (Sign sign ∷ xs) made
item-from_signed sign following line _ made (signed_term signs number column rest n same heard) = found_term (sign ∷ signs)
    number column rest n (ap (λ ys. Sign sign ∷ ys) same)
    (subst (λ v. Heard (following (items.Term v column (at n (Name column))))
    (onwards (term_tokens (term signs number column)) (onward line)) rest made)
    (multiplied-value sign signs (unwrap_or number one)) heard)
item-from_signed sign following line _ made (signed_lone signs value y rest n same heard) =
    found_lone (sign ∷ signs) value y rest n (ap (λ ys. Sign sign ∷ ys) same)
    (subst (λ v. Heard (following (items.Lone v (at n y))) (onwards (constant_tokens signs value) (onward line))
    (y ∷ rest) made) (multiplied-value sign signs value) heard)

-- an item that begins with a sign
pub sign-heard : (xs : List Terminal)
    (context : Context) (sign : SignOf) (following : Item → PhraseRule Follows) (line : ℕ → ℕ) (made : Declarations)
    → Heard (signed_item context sign >>= following) (onward line) xs made → AnItem following line (Sign sign ∷ xs) made
sign-heard _ context _ _ _ _ h = item-from_signed _ _ _ _ _ (signed-heard _ context _ _ _ _ h)

-- a number first
pub first_number-heard : (xs : List Terminal) (value : Decimal) (following : Item → PhraseRule Follows) (line : ℕ →
    ℕ) (made : Declarations) → Heard (number_item Plus value >>= following) (onward line) xs made →
    AnItem following line (Number value ∷ xs) made
first_number-heard [] _ _ _ _ h = absurd (none-some _ h)
first_number-heard (Name column ∷ xs) value following line _ h = found_term []
    (Some value) column xs (line 1) refl
    (sym (listened-one (following _ _) (at (line 1) _) (all_at (onward (onward line)) xs)) ∙ h)
first_number-heard (y ∷ xs) _ following line _ h =
    found_lone [] _ y xs (line 1) refl (sym (listened-none (following _ _) (all_at (onward line) (y ∷ xs))) ∙ h)

pub item-heard : (x : Terminal)
    (xs : List Terminal) (context : Context) (following : Item → PhraseRule Follows) (line : ℕ → ℕ) (made : Declarations)
    → Heard (item_from context (at (line 0) x) >>= following) (onward line) xs made → AnItem following line (x ∷ xs) made
item-heard (Sign _) _ context _ _ _ h = sign-heard _ context _ _ _ _ h
item-heard (Name column) xs _ following line _ h = found_term [] None column xs (line 0) refl (sym (grind arith) ∙ h)
item-heard (Number _) _ _ _ _ _ h = first_number-heard _ _ _ _ _ h
item-heard _ _ _ _ _ _ h = absurd (none-some _ h)

-- ---- sides and relations

pub record ASide (following : SideOf → PhraseRule Follows) (line : ℕ →
    ℕ) (xs : List Terminal) (made : Declarations) : Type 0 where
  pub part : Side
  pub rest : List Terminal
  pub last : TerminalAt
  pub same : xs ≡ side_tokens part ++ rest
  pub heard : Heard (following (record { limit = limit part; last = last })) (onwards (side_tokens part) line) rest made

pub side_from-heard : (x : Terminal)
    (xs : List Terminal) (context : Context) (following : SideOf → PhraseRule Follows) (line : ℕ → ℕ) (made : Declarations)
    → Heard (side_from context (at (line 0) x) >>= following) (onward line) xs made → ASide following line (x ∷ xs) made
side_from-heard (Number value) xs _ following line _ h = record {
  part = side None (Some value);
  rest = xs;
  last = at (line 0) (Number value);
  same = refl;
  heard = grind arith;
}
side_from-heard Infinity xs _ following line _ h =
    record { part = side None None; rest = xs; last = at (line 0) Infinity; same = refl; heard = (grind arith) }
side_from-heard (Sign sign) (Number value ∷ xs) context following line made h = let token = at (line 1) (Number value) in record {
  part = side (Some sign) (Some value);
  rest = xs;
  last = token;
  same = refl;
  heard = subst (λ v. Heard
      (following (record { limit = limit_of v; last = token })) (onward (onward line)) xs made) (signed-is sign value)
      (grind arith);
}
side_from-heard (Sign sign) (Infinity ∷ xs) context following line made h = let token = at (line 1) Infinity in record {
  part = side (Some sign) None;
  rest = xs;
  last = token;
  same = refl;
  heard = subst (λ v. Heard (following (record { limit = v; last = token })) (onward (onward line)) xs made)
      (infinity-is sign) (grind arith);
}
side_from-heard _ _ _ _ _ _ h = absurd (none-some _ h)

pub side-heard : (xs : List Terminal) (context : Context) (following : SideOf → PhraseRule Follows) (line : ℕ →
    ℕ) (made : Declarations) → Heard (side_rule context >>= following) line xs made → ASide following line xs made
side-heard [] _ _ _ _ h = absurd (none-some _ h)
side-heard (x ∷ xs) context following line made h = grind (arith, side_from-heard, heard-later, at, onward)

pub record ARelation (following : Relation → PhraseRule Follows) (line : ℕ →
    ℕ) (xs : List Terminal) (made : Declarations) : Type 0 where
  pub relation : Relation
  pub rest : List Terminal
  pub same : xs ≡ Compares relation ∷ rest
  pub heard : Heard (following relation) (onward line) rest made

pub relation-heard : (xs : List Terminal) (context : Context) (following : Relation → PhraseRule Follows)
    (line : ℕ → ℕ) (made : Declarations) → Heard (next_relation context >>= following) line xs made →
    ARelation following line xs made
relation-heard (Compares relation ∷ xs) context following line made h = grind arith
relation-heard _ _ _ _ _ h = absurd (none-some _ h)

-- ---- one phrase after another up to a section word; bounds and names

-- the rest of tokens is not longer than all of them
pub rest-shorter : (front rest xs : List Terminal) → xs ≡ front ++ rest → length rest ≤ length xs
rest-shorter = grind (arith, length-append, arith)

abbrev pub is_no_opening : Terminal → Bool
is_no_opening (Opens word) = false
is_no_opening _ = true

-- the drafts of two parts one after the other
pub complete-joined : (place : Place) (seen : SectionsSeen)
    (earlier : Draft) (first more : Declarations) (front next : List Terminal) (line : ℕ →
    ℕ) (xs : List Terminal) (made : Declarations) →
    Complete (point_at place seen (with_declarations (with_declarations earlier first) more))
    (onwards next (onwards front line)) xs made →
    Complete (point_at place seen (with_declarations earlier (first ++ more)))
    (onwards (front ++ next) line) xs made
complete-joined = grind (arith, onwards, with_declarations-append, onwards-append)

-- what parts declare, each after those before it
abbrev pub all_declare : {A : Type 0} → (Draft → A → Declarations) → Draft → List A → Declarations
all_declare declares earlier [] = []
all_declare declares earlier (it ∷ its) =
    declares earlier it ++ all_declare declares (with_declarations earlier (declares earlier it)) its

module _ {A S : Type 0} (tokens_of : A → List Terminal) (declares : Draft → A → Declarations) (good : A →
    Bool) (place_of : S → Place) (Next : S → List Terminal → Type 0) (seen : SectionsSeen) where
  -- ---- one phrase

  pub record OnePhrase (earlier : Draft) (line : ℕ → ℕ) (xs : List Terminal) (made : Declarations) : Type 0 where
    pub it : A
    pub good_it : good it ≡ true
    pub rest : List Terminal
    pub more : Declarations
    pub same : xs ≡ tokens_of it ++ rest
    pub is : made ≡ declares earlier it ++ more
    pub to : S
    pub after : Next to rest
    pub heard : Complete (point_at (place_of to) seen (with_declarations earlier (declares earlier it)))
        (onwards (tokens_of it) line) rest more
    pub shorter : length rest < length xs

  abbrev pub Reading : Type 0
  Reading = (from : S) (earlier : Draft) (line : ℕ → ℕ) (x : Terminal) (xs : List Terminal) (made : Declarations) →
      is_no_opening x ≡ true → Next from (x ∷ xs) →
      Complete (point_at (place_of from) seen earlier) line (x ∷ xs) made → OnePhrase earlier line (x ∷ xs) made

  -- ---- phrases up to a section word

  pub record AllPhrases (earlier : Draft) (line : ℕ → ℕ) (xs : List Terminal) (made : Declarations) : Type 0 where
    pub its : List A
    pub good_its : list_all good its ≡ true
    pub word : SectionWord
    pub rest : List Terminal
    pub more : Declarations
    pub same : xs ≡ flat_map tokens_of its ++ Opens word ∷ rest
    pub is : made ≡ all_declare declares earlier its ++ more
    pub to : S
    pub heard : Complete (point_at (place_of to) seen (with_declarations earlier (all_declare declares earlier its)))
        (onwards (flat_map tokens_of its) line) (Opens word ∷ rest) more

  all-joined : (earlier : Draft) (line : ℕ → ℕ) (xs : List Terminal) (made : Declarations) (one : OnePhrase earlier line xs made)
      → AllPhrases (with_declarations earlier (declares earlier one.it)) (onwards (tokens_of one.it) line) one.rest one.more
      → AllPhrases earlier line xs made
  all-joined earlier line _ _ one all = let first = declares earlier one.it in record {
    its = one.it ∷ all.its;
    good_its = both_so _ _ one.good_it all.good_its;
    word = all.word;
    rest = all.rest;
    more = all.more;
    same = one.same ∙ ap (λ ys. tokens_of one.it ++ ys) all.same
        ∙ sym (append_assoc (tokens_of _) (flat_map tokens_of all.its) (Opens all.word ∷ all.rest));
    is = one.is ∙ ap (λ ds. first ++ ds) all.is
        ∙ sym (append_assoc first (all_declare declares (with_declarations earlier first) all.its) all.more);
    to = all.to;
    heard = complete-joined (place_of _) seen earlier first (all_declare declares (with_declarations earlier first) all.its)
        (tokens_of _) (flat_map tokens_of all.its) line (Opens all.word ∷ all.rest) _ all.heard;
  }

  pub all-phrases : Reading → (n : ℕ) (from : S) (earlier : Draft) (line : ℕ → ℕ) (xs : List Terminal) (made : Declarations)
      → length xs ≤ n → Next from xs → Complete (point_at (place_of from) seen earlier) line xs made →
      AllPhrases earlier line xs made
  all-phrases _ n _ _ _ [] _ _ _ h = absurd (none-some _ h)
  all-phrases _ n from _ _ (Opens word ∷ xs) made _ _ h =
      record { its = []; good_its = refl; word = word; rest = xs; more = made; same = refl; is = refl; to = from; heard = h }
  all-phrases reading zero from earlier line (x ∷ xs) made fits after h = absurd (omega (arith, fits))
  all-phrases reading (suc n) from earlier line (x ∷ xs) made fits after h = let one = reading _ _ _ x _ _ refl after h in
      all-joined _ _ _ _ one (all-phrases reading n _ _ _ one.rest _ (omega (arith, fits, one.shorter)) one.after one.heard)

-- where declarations do not depend on the earlier ones
pub all-flat : {A : Type 0} (declares : A → Declarations) (its : List A) (earlier : Draft)
    → all_declare (λ (d : Draft) (a : A). declares a) earlier its ≡ flat_map declares its
all-flat _ [] _ = refl
all-flat declares (it ∷ its) earlier = grind (arith, all-flat declares its (with_declarations earlier (declares it)))

-- ---- names

abbrev pub name_token : List ℕ → List Terminal
name_token column = Name column ∷ []

abbrev pub name_declares : (List ℕ → Declaration) → Draft → List ℕ → Declarations
name_declares kind earlier column = declare_column column ∷ kind column ∷ []

abbrev pub Anything : Unit {0} → List Terminal → Type 0
Anything from xs = Unit {0}

abbrev pub any_name : List ℕ → Bool
any_name column = true

-- at a place names are read like this
abbrev pub ReadsNames : Place → (List ℕ → Declaration) → SectionsSeen → Type 0
ReadsNames place kind seen = (earlier : Draft) (n : ℕ) (x : Terminal) (tokens : Tokens) → is_no_opening x ≡ true → listened
    (phrase_at (point_at place seen earlier) (at n x)) tokens ≡ listened
    (name_in_section place kind (here seen earlier) (at n x)) tokens

pub one-name : (place : Place) (kind : List ℕ → Declaration) (seen : SectionsSeen)
    → ReadsNames place kind seen → Reading name_token (name_declares kind) any_name (λ (s : Unit {0}). place) Anything seen
one-name place kind seen reads from earlier line x xs made no_opening after h =
    by x (sym (reads earlier _ x (all_at _ _) no_opening) ∙ complete-phrase (point_at place seen earlier) line x xs _ h)
  where
    by : (y : Terminal) → Heard (name_in_section place kind (here seen earlier) (at (line 0) y)) (onward line) xs made
        → OnePhrase name_token (name_declares kind) any_name (λ (s : Unit {0}). place) Anything seen earlier line (y ∷ xs) made
    by (Name column) k = let all = declare_column _ ∷ kind _ ∷ [] in
        let found = unless-heard _ (at (line 0) (Name column)) _ _ all _ xs _ k in record {
          it = column;
          good_it = refl;
          rest = xs;
          more = found.goes.more;
          same = refl;
          is = found.goes.is;
          to = tt;
          after = tt;
          heard = found.goes.rest;
          shorter = omega arith;
        }
    by _ k = absurd cc

-- ---- bounds

abbrev pub is_no_relation : Terminal → Bool
is_no_relation (Compares relation) = false
is_no_relation _ = true

abbrev pub any_bound : Bound → Bool
any_bound part = true

abbrev pub bound_declared : Draft → Bound → Declarations
bound_declared earlier part = bound_declares part

abbrev pub NoRelation : Option (List ℕ × Relation) → List Terminal → Type 0
NoRelation left xs = is_no_relation (first_of_all xs) ≡ true

abbrev pub OneBound : SectionsSeen → Draft → (ℕ → ℕ) → List Terminal → Declarations → Type 0
OneBound seen earlier line xs made = OnePhrase bound_tokens bound_declared any_bound InBounds NoRelation seen earlier line xs made

-- bounds of a column that were read
sides-heard : (seen : SectionsSeen) (earlier : Draft) (front : Declarations)
    (column : List ℕ) (limits : Limits) (token : TerminalAt) (place : Place) (line : ℕ →
    ℕ) (xs : List Terminal) (made : Declarations) →
    Heard (bound_sides (here seen earlier) front column limits token place) line xs made → Goes (point_at place seen
    (with_declarations earlier (front ++ limits_declared column limits))) (front ++ limits_declared column limits) line xs made
sides-heard = grind arith

-- a column first
column-heard : (seen : SectionsSeen) (earlier : Draft) (column : List ℕ) (line : ℕ → ℕ) (xs : List Terminal) (made : Declarations)
    → Heard (next >>= bound_after (here seen earlier) column) (onward line) xs made →
    OneBound seen earlier line (Name column ∷ xs) made
column-heard seen earlier column line (Free ∷ xs) made h =
    let found = sides-heard seen earlier (declare_column _ ∷ []) column no_limits (at (line 1) Free)
    (InBounds None) (onward (onward line)) xs _ (heard-next (bound_after (here _ _) column) (onward line) Free xs _ h) in record {
      it = free_bound _;
      good_it = refl;
      rest = xs;
      more = found.more;
      same = refl;
      is = found.is;
      to = None;
      after = grind arith;
      heard = found.rest;
      shorter = omega arith;
    }
column-heard seen earlier column line (Compares relation ∷ xs) made h = let front = declare_column _ ∷ [] in
    let part = side-heard _ (here seen earlier) (bound_right (here seen earlier) front column relation)
    (onward (onward line)) made (heard-next (bound_after (here seen earlier) column) (onward line) (Compares relation)
    xs made h) in
    let limits : Limits = limits_by relation (limit part.part) in
    let found = sides-heard seen earlier front column limits part.last
    (InBounds None) (onwards (side_tokens part.part) (onward (onward line))) part.rest made part.heard in
    let declared : declare_column column ∷ limits_declared column limits ≡ bound_declares (bound column relation part.part) =
    ap (λ (ds : Declarations). declare_column column ∷ ds) (by-relation column _ _) in
    let short = rest-shorter _ part.rest xs part.same in record {
      it = bound column relation part.part;
      good_it = refl;
      rest = part.rest;
      more = found.more;
      same = ap (λ (ys : List Terminal). Name column ∷ Compares relation ∷ ys) part.same;
      is = found.is ∙ ap (λ (ds : Declarations). ds ++ found.more) declared;
      to = None;
      after = grind arith;
      heard = subst (λ (ds : Declarations). Complete (point_at (InBounds None) seen (with_declarations earlier ds))
          (onwards (side_tokens part.part) (onward (onward line))) part.rest found.more) declared found.rest;
      shorter = omega (arith, short);
    }
column-heard _ _ _ _ _ made h = absurd (none-some made h)

-- ---- a side first

-- a side, a relation and a column
record LeftBound (seen : SectionsSeen) (earlier : Draft) (line : ℕ → ℕ) (xs : List Terminal) (made : Declarations) : Type 0 where
  part : Side
  relation : Relation
  column : List ℕ
  rest : List Terminal
  more : Declarations
  same : xs ≡ side_tokens part ++ Compares relation ∷ Name column ∷ rest
  is : made ≡ (declare_column column ∷ limits_declared column (limits_by (flip relation) (limit part))) ++ more
  heard : Complete (point_at (InBounds (Some (column, relation))) seen (with_declarations earlier (declare_column column
      ∷ limits_declared column (limits_by (flip relation) (limit part)))))
      (onward (onward (onwards (side_tokens part) line))) rest more

left-column : (seen : SectionsSeen) (earlier : Draft) (value : Limit) (relation : Relation) (line : ℕ → ℕ)
    (xs : List Terminal) (made : Declarations) → Heard (next >>= bound_column (here seen earlier) value relation) line xs made
    → (column : List ℕ) × (rest : List Terminal) × (xs ≡ Name column ∷ rest) × Goes
    (point_at (InBounds (Some (column, relation))) seen
    (with_declarations earlier (declare_column column ∷ limits_declared column (limits_by (flip relation) value))))
    (declare_column column ∷ limits_declared column (limits_by (flip relation) value)) (onward line) rest made
left-column seen earlier value relation line (Name column ∷ xs) made h = grind arith
left-column _ _ _ _ _ _ _ h = absurd (none-some _ h)

left-heard : (seen : SectionsSeen) (earlier : Draft) (line : ℕ → ℕ) (xs : List Terminal) (made : Declarations)
    → ASide (bound_left (here seen earlier)) line xs made → LeftBound seen earlier line xs made
left-heard _ earlier _ _ _ part = let compared = relation-heard _ (here _ earlier) _ _ _ part.heard in
    let named = left-column _ _ _ _ _ _ _ compared.heard in record {
      part = part.part;
      relation = compared.relation;
      column = named.0;
      rest = named.1;
      more = named.3.more;
      same = part.same ∙ ap (λ ys. side_tokens part.part ++ ys)
          (compared.same ∙ ap (λ ys. Compares compared.relation ∷ ys) named.2);
      is = named.3.is;
      heard = named.3.rest;
    }

-- no second side
left-only : (seen : SectionsSeen) (earlier : Draft) (line : ℕ → ℕ)
    (xs : List Terminal) (made : Declarations) (x : Terminal) (tail : List Terminal)
    (left : LeftBound seen earlier line (x ∷ tail) made) → length left.rest ≤ length tail →
    is_no_relation (first_of_all left.rest) ≡ true → OneBound seen earlier line (x ∷ tail) made
left-only seen earlier line xs made x tail left short no_relation = let tokens =
    side_tokens left.part ++ Compares _ ∷ Name _ ∷ [] in
    let declared = ap (λ ds. declare_column left.column ∷ ds)
    (ap (λ r. limits_declared left.column (limits_by r (limit left.part))) (flipped _) ∙ by-relation _ _ _) in
    let on : onwards tokens line ≡ onward (onward (onwards (side_tokens left.part) line)) =
    onwards-append (side_tokens left.part) (Compares left.relation ∷ Name left.column ∷ []) line in record {
      it = turned_bound _ _ _;
      good_it = refl;
      rest = left.rest;
      more = left.more;
      same = left.same ∙ sym (append_assoc (side_tokens left.part) (Compares left.relation ∷ Name left.column ∷ []) left.rest);
      is = left.is ∙ ap (λ ds. ds ++ left.more) declared;
      to = Some (left.column, left.relation);
      after = no_relation;
      heard = subst (λ ds. Complete (point_at (InBounds (Some (left.column, left.relation))) seen (with_declarations earlier ds))
          (onwards tokens line) left.rest left.more) declared (subst (λ l. Complete
          (point_at (InBounds (Some (left.column, left.relation))) seen (with_declarations earlier (declare_column left.column
          ∷ limits_declared left.column (limits_by (flip left.relation) (limit left.part))))) l left.rest left.more)
          (sym on) left.heard);
      shorter = omega (arith, short);
    }

-- a second side
record SecondSide (seen : SectionsSeen)
    (earlier : Draft) (column : List ℕ) (relation : Relation) (line : ℕ →
    ℕ) (xs : List Terminal) (made : Declarations) : Type 0 where
  part : Side
  rest : List Terminal
  more : Declarations
  same : xs ≡ side_tokens part ++ rest
  is : made ≡ limits_declared column (limits_by relation (limit part)) ++ more
  heard : Complete (point_at (InBounds None) seen
      (with_declarations earlier (limits_declared column (limits_by relation (limit part)))))
      (onwards (side_tokens part) line) rest more

second-heard : (seen : SectionsSeen) (earlier : Draft) (column : List ℕ) (relation : Relation) (line : ℕ → ℕ) (xs : List Terminal)
    (made : Declarations) → Heard (side_rule (here seen earlier) >>= bound_right (here seen earlier) [] column relation)
    line xs made → SecondSide seen earlier column relation line xs made
second-heard _ earlier _ _ _ _ _ h =
    let part = side-heard _ (here _ earlier) _ _ _ h in
    let found = sides-heard _ _ [] _ _ _ _ _
    _ _ part.heard in record {
      part = part.part;
      rest = part.rest;
      more = found.more;
      same = part.same;
      is =
          found.is;
      heard = found.rest;
    }

both-bound : (seen : SectionsSeen) (earlier : Draft) (line : ℕ → ℕ) (made : Declarations) (x : Terminal)
    (tail : List Terminal) (part : Side) (relation r : Relation) (column : List ℕ) (ws : List Terminal)
    (more : Declarations) → x ∷ tail ≡ side_tokens part ++ Compares relation ∷ Name column ∷ Compares r ∷ ws →
    made ≡ (declare_column column ∷ limits_declared column (limits_by (flip relation) (limit part))) ++ more →
    Complete (point_at (InBounds (Some (column, relation))) seen
    (with_declarations earlier (declare_column column ∷ limits_declared column
    (limits_by (flip relation) (limit part))))) (onward (onward (onwards (side_tokens part) line)))
    (Compares r ∷ ws) more → length ws ≤ length tail → OneBound seen earlier line (x ∷ tail) made
both-bound seen earlier line made x tail part AtMost AtMost column ws more same is h short =
    let front = declare_column _ ∷ limits_declared column (limits_by (flip AtMost) (limit part)) in
    let on = onward (onward (onwards (side_tokens part) line)) in
    let second = second-heard seen (with_declarations earlier front) column AtMost (onward on) ws more
    (complete-phrase (point_at (InBounds (Some (column, AtMost))) seen (with_declarations earlier front)) on
    (Compares AtMost) ws more h) in
    let less : length second.rest ≤ length ws = rest-shorter (side_tokens second.part) second.rest ws second.same in
    let middle : List Terminal = Compares AtMost ∷ Name column ∷ Compares AtMost ∷ side_tokens second.part in record {
      it = bounds_between part _ second.part;
      good_it = refl;
      rest = second.rest;
      more = second.more;
      same = same ∙ ap (λ ys. side_tokens part ++ Compares AtMost ∷ Name column ∷ Compares AtMost ∷ ys) second.same
          ∙ sym (append_assoc (side_tokens part) middle second.rest);
      is = is ∙ ap (λ ds. front ++ ds) second.is;
      to = None;
      after = grind arith;
      heard = subst (λ l. Complete (point_at (InBounds None) seen (with_declarations earlier (bound_declares (bounds_between
          part column second.part)))) l second.rest second.more) (sym (onwards-append (side_tokens part) middle line))
          second.heard;
      shorter = omega (arith, less, short);
    }
both-bound seen earlier line made x tail part AtLeast AtLeast column ws more same is h short =
    let front : Declarations = declare_column column ∷ limits_declared column (limits_by (flip AtLeast) (limit part)) in
    let on : ℕ → ℕ = onward (onward (onwards (side_tokens part) line)) in
    let second = second-heard seen (with_declarations earlier front) column AtLeast (onward on) ws more (complete-phrase
    (point_at (InBounds (Some (column, AtLeast))) seen (with_declarations earlier front)) on (Compares AtLeast) ws more h) in
    let less : length second.rest ≤ length ws = rest-shorter (side_tokens second.part) second.rest ws second.same in
    let middle : List Terminal = Compares AtLeast ∷ Name column ∷ Compares AtLeast ∷ side_tokens second.part in record {
      it = bounds_from_above part column second.part;
      good_it = refl;
      rest = second.rest;
      more = second.more;
      same = same ∙ ap (λ (ys : List Terminal). side_tokens part ++ Compares AtLeast ∷ Name column ∷ Compares
          AtLeast ∷ ys) second.same ∙ sym (append_assoc (side_tokens part) middle second.rest);
      is = is ∙ ap (λ (ds : Declarations). front ++ ds) second.is;
      to = None;
      after = grind arith;
      heard = subst (λ (l : ℕ → ℕ). Complete
          (point_at (InBounds None) seen (with_declarations earlier (bound_declares (bounds_from_above
          part column second.part)))) l second.rest second.more) (sym (onwards-append (side_tokens part) middle line))
          second.heard;
      shorter = omega (arith, less, short);
    }
both-bound seen earlier line made x tail part _ _ column ws more same is h short = absurd cc

left-bound : (seen : SectionsSeen) (earlier : Draft) (line : ℕ → ℕ) (made : Declarations) (x : Terminal) (tail : List Terminal)
    → LeftBound seen earlier line (x ∷ tail) made → OneBound seen earlier line (x ∷ tail) made
left-bound seen earlier line made x tail left = by left.rest refl
  where
    shorter_rest : length left.rest + 1 ≤ length tail
    shorter_rest = grind arith

    short : length left.rest ≤ length tail
    short = omega (arith, shorter_rest)

    by : (ys : List Terminal) → left.rest ≡ ys → OneBound seen earlier line (x ∷ tail) made
    by (Compares r ∷ ws) e = both-bound _ _ _ _ x _ _ _ r _ _ _
        (left.same ∙ ap (λ ys. side_tokens left.part ++ Compares left.relation ∷ Name left.column ∷ ys) e) left.is
        (subst (λ ys. Complete (point_at (InBounds (Some (left.column, left.relation))) seen
        (with_declarations earlier (declare_column left.column ∷ limits_declared left.column
        (limits_by (flip left.relation) (limit left.part)))))
        (onward (onward (onwards (side_tokens left.part) line))) ys left.more) e left.heard)
        (left-shorter_tail r _ e)
      where
        left-shorter_tail : (q : Relation) (ys : List Terminal) → left.rest ≡ Compares q ∷ ys → length ys ≤ length tail
        left-shorter_tail q ys same = omega (arith, short, ap (λ (zs : List Terminal). length zs) same)
    by [] e = left-only _ _ _ tail _ x _ left short (ap (λ ys. is_no_relation (first_of_all ys)) e)
    by (_ ∷ _) e = left-only _ _ _ tail _ x _ left short (ap (λ ys. is_no_relation (first_of_all ys)) e)

-- ---- a bound

pub one-bound : (seen : SectionsSeen) → Reading bound_tokens bound_declared any_bound InBounds NoRelation seen
one-bound _ _ _ _ (Opens _) _ _ no_opening _ h = absurd (false≢true no_opening)
one-bound seen left earlier line (Compares relation) xs made no_opening after h = absurd cc
one-bound seen left earlier line (Name column) xs _ _ _ h =
    column-heard _ _ _ _ _ _ (complete-phrase (point_at (InBounds left) seen earlier) line (Name column) xs _ h)
one-bound seen left earlier line (Number value) xs _ _ _ h = left-bound _ _ _ _ _ _ (left-heard _ _ _ _ _
    (side_from-heard _ _ (here seen earlier) _ _ _
    (complete-phrase (point_at (InBounds left) seen earlier) line (Number value) xs _ h)))
one-bound seen left earlier line (Sign sign) xs _ _ _ h = left-bound _ _ _ _ _ _ (left-heard _ _ _ _ _
    (side_from-heard _ _ (here _ earlier) _ _ _
    (complete-phrase (point_at (InBounds left) seen earlier) line (Sign sign) xs _ h)))
one-bound seen left earlier line Infinity xs _ _ _ h = left-bound _ _ _ _ _ _ (left-heard _ _ _ _ _
    (side_from-heard _ _ (here seen earlier) _ _ _
    (complete-phrase (point_at (InBounds left) seen earlier) line Infinity xs _ h)))
one-bound _ _ _ _ _ _ _ _ _ h = absurd (none-some _ h)
