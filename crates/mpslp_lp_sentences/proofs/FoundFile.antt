-- The converse for sections and for the file.
use Rattle.mpslp_lp_sentences.proofs.Prelude
use Prelude.{◌≡◌, ◌≤◌, ◌<◌, refl, sym, ap, subst, ◌∙◌, ℕ, zero, suc, ◌+◌, List, [], ◌∷◌, ◌++◌, Bool, true, false, append_assoc, length}
use Prelude.{arith, None, flat_map, list_all, list_any, first_so, second_so, none-some, both_so, both_false, so_not, Declaration}
use Prelude.{Declarations, Draft, declare_column, declare_integer, declare_binary, declare_semi, with_declarations, Plus, Minus, ◌>>=◌}
use Prelude.{next, ahead, Terminal, TerminalAt, Opens, Name, Sign, section_fault, with_section, has_seen, goes_to}
use Prelude.{SectionsSeen, Context, Place, InBounds, InGenerals, InBinaries, InSemis, LastWord, Continuous, line_end, opened_by}
use Prelude.{is_last_word, last_word, semi_from, section_start, may_begin_section, section_of, Kind, SectionWord, point_at, at, bounds}
use Prelude.{generals, binaries, semis, bound_tokens, name_tokens, section_tokens, opens_semis, same_section, are_sections, bound_declares}
use Prelude.{names_declare, section_declares, enumerate_from, empty_draft, refusals_in_turn, IsSortedDraft, sorted-draft_of, start}
use Prelude.{BetweenRows, To, That, parts-taken, RowSection, File, no_rows, rows, file, objective_tokens, row_tokens, row_section_tokens}
use Prelude.{opens_rows, is_row, is_row_section, is_file, objective_declares, row_declares, row_section_declares, file_declares}
use Rattle.mpslp_lp_sentences.specs.{Phrases.Section, Spelling.is_section}
use Rattle.mpslp_lp_sentences.proofs.{Whole.heard, Hears.{is_elsewhere, here, onward}, PhrasesHeard.kind_of}
use Rattle.mpslp_lp_sentences.proofs.PhrasesHeard.{IsInside, inside-after, is_fresh, after_word, front_tokens, after_rows, objective-rows}
use Rattle.mpslp_lp_sentences.proofs.Found.{all_at, onwards, onwards-append, Heard, Complete, heard-next, heard-ahead, goes-heard}
use Rattle.mpslp_lp_sentences.proofs.Found.{ReadsNames, rest-shorter, all-phrases, all_declare, all-flat, name_token, name_declares}
use Rattle.mpslp_lp_sentences.proofs.Found.{Anything, any_name, one-name, bound_declared, any_bound, NoRelation, one-bound}
use Rattle.mpslp_lp_sentences.proofs.FoundItems.{objective-heard, row_declared_at, between_rows, one-row, rows-numbered}
use Rattle.mpslp_lp_tokens.specs.declared.words.Section.TheVariants as kinds
use Rattle.mpslp_lp_tokens.specs.declared.words.SectionWord.TheVariants as words

-- ---- what tokens have to be if the grammar reads the sections of a file

-- ---- the word of a section

pub record Opened
    (seen : SectionsSeen) (earlier : Draft) (line : ℕ →
    ℕ) (word : SectionWord) (xs : List Terminal) (made : Declarations) : Type 0 where
  pub none : section_fault seen (section_of word) ≡ None
  pub heard : Heard (section_start (here (with_section seen (section_of word)) earlier) (at (line 0) (Opens word)) word)
      (onward line) xs made

pub opened-heard : (place : Place) (seen : SectionsSeen)
    (earlier : Draft) (line : ℕ → ℕ) (word : SectionWord) (xs : List Terminal) (made : Declarations) →
    may_begin_section place ≡ true → Complete (point_at place seen earlier) line (Opens word ∷ xs) made →
    Opened seen earlier line word xs made
opened-heard = grind arith

-- `end`
at-end : (context : Context) (line : ℕ → ℕ) (xs : List Terminal) (made : Declarations)
    → Heard (line_end context (line 0)) (onward line) xs made →
    (is_elsewhere (line 0) (all_at (onward line) xs) ≡ true) × (made ≡ [])
at-end = grind arith

-- ---- sections that were opened

-- no rows come after these sections
abbrev pub Closed : SectionsSeen → Type 0
Closed seen = section_fault seen kinds.Rows ≡ None → ⊥

abbrev pub is_rows : SectionWord → Bool
is_rows words.Rows = true
is_rows words.Subject = true
is_rows words.Such = true
is_rows _ = false

pub no-rows : (word : SectionWord) (seen : SectionsSeen) → Closed seen → section_fault seen (section_of word) ≡ None →
    is_rows word ≡ false
no-rows = grind arith

-- a section that may come after another is of another kind
fresh-apart : (first part : Section) (seen : SectionsSeen)
    → is_fresh (with_section seen (kind_of first)) part ≡ true → (same_section first part ≡ false) × (is_fresh seen part ≡ true)
fresh-apart = grind arith

all-fresh_apart : (first : Section) (parts : List Section) (seen : SectionsSeen) →
    list_all (is_fresh (with_section seen (kind_of first))) parts ≡ true →
    (list_any (same_section first) parts ≡ false) × (list_all (is_fresh seen) parts ≡ true)
all-fresh_apart _ [] _ h = (refl, refl)
all-fresh_apart first (part ∷ parts) seen h = let fresh = is_fresh (with_section seen (kind_of first)) in
    let one = fresh-apart first part seen (first_so _ _ h) in
    let more = all-fresh_apart first parts seen (second_so _ _ h) in (both_false _ _ one.0 more.0, both_so _ _ one.1 more.1)

-- ---- the sections up to the end

pub record TailFound (seen : SectionsSeen) (line : ℕ → ℕ) (xs : List Terminal) (made : Declarations) : Type 0 where
  pub parts : List Section
  pub good : are_sections parts ≡ true
  pub fresh : list_all (is_fresh seen) parts ≡ true
  pub after : List Terminal
  pub same : xs ≡ flat_map section_tokens parts ++ Opens words.End ∷ after
  pub is : made ≡ flat_map section_declares parts
  pub elsewhere : is_elsewhere
      (onwards (flat_map section_tokens parts) line 0)
      (all_at (onward (onwards (flat_map section_tokens parts) line)) after) ≡ true

-- a section, and those after it
section-joined : (part : Section) (seen : SectionsSeen) (line : ℕ → ℕ) (xs rest : List Terminal) (made more : Declarations)
    → is_section part ≡ true → has_seen seen (kind_of part) ≡ false → xs ≡ section_tokens part ++ rest →
    made ≡ section_declares part ++ more →
    TailFound (with_section seen (kind_of part)) (onwards (section_tokens part) line) rest more →
    TailFound seen line xs made
section-joined part seen line _ _ _ _ ok new same is tail = let apart =
    all-fresh_apart part tail.parts seen tail.fresh in record {
      parts = part ∷ tail.parts;
      good = both_so _ _ ok (both_so _ _ (so_not _ apart.0) tail.good);
      fresh = both_so _ _ (so_not _ new) apart.1;
      after = tail.after;
      same = same ∙ ap (λ (ys : List Terminal). section_tokens part ++ ys) tail.same
          ∙ sym (append_assoc (section_tokens part) (flat_map section_tokens tail.parts) (Opens words.End ∷ tail.after));
      is = is ∙ ap (λ (ds : Declarations). section_declares part ++ ds) tail.is;
      elsewhere = subst (λ (l : ℕ → ℕ). is_elsewhere (l 0) (all_at (onward l) tail.after) ≡ true)
          (sym (onwards-append (section_tokens part) (flat_map section_tokens tail.parts) line)) tail.elsewhere;
    }

-- ---- the body of a section, up to the next section word

pub record Body (part : Section) (seen : SectionsSeen) (line : ℕ → ℕ) (xs : List Terminal) (made : Declarations) : Type 0 where
  pub word : SectionWord
  pub rest : List Terminal
  pub more : Declarations
  pub same : xs ≡ section_tokens part ++ Opens word ∷ rest
  pub is : made ≡ section_declares part ++ more
  pub place : Place
  pub may : may_begin_section place ≡ true
  pub later : Draft
  pub heard : Complete (point_at place (with_section seen (kind_of part)) later) (onwards (section_tokens part) line)
      (Opens word ∷ rest) more
  pub shorter : length rest + 1 < length xs

-- some section
pub record SomeBody (kind : Kind) (seen : SectionsSeen) (line : ℕ → ℕ) (xs : List Terminal) (made : Declarations) : Type 0 where
  pub part : Section
  pub ok : is_section part ≡ true
  pub kind_is : kind_of part ≡ kind
  pub body : Body part seen line xs made

shorter-tail : (x : Terminal) (front rest xs : List Terminal) (word : SectionWord) →
    xs ≡ (x ∷ front) ++ Opens word ∷ rest → length rest + 1 < length xs
shorter-tail x front rest xs word same =
    by (ap (λ (ys : List Terminal). length ys) same) (rest-shorter front (Opens word ∷ rest) (front ++ Opens word ∷ rest) refl)
  where
    by : length xs ≡ length (x ∷ (front ++ Opens word ∷ rest)) →
        length (Opens word ∷ rest) ≤ length (front ++ Opens word ∷ rest) → length rest + 1 < length xs
    by e less = omega (arith, e, less)

bounds-body : (seen : SectionsSeen) (earlier : Draft) (line : ℕ → ℕ) (xs : List Terminal) (made : Declarations)
    → Heard (goes_to (here (with_section seen kinds.Bounds) earlier) (InBounds None) []) (onward line) xs made
    → SomeBody kinds.Bounds seen line (Opens words.Bounds ∷ xs) made
bounds-body seen earlier line xs made h = let inside = with_section seen kinds.Bounds in
    let goes = goes-heard (here inside earlier) (InBounds None) [] (onward line) xs made h in
    let all = all-phrases bound_tokens bound_declared any_bound InBounds NoRelation inside (one-bound inside)
    (length xs) None earlier (onward line) xs goes.more (omega arith) (grind arith) goes.rest in
    let flat : all_declare bound_declared earlier all.its ≡ flat_map bound_declares all.its =
    all-flat bound_declares all.its earlier in
    let whole : Opens words.Bounds ∷ xs ≡ (Opens words.Bounds ∷ flat_map bound_tokens all.its) ++ Opens all.word ∷ all.rest =
    ap (λ (ys : List Terminal). Opens words.Bounds ∷ ys) all.same in record {
      part = bounds all.its;
      ok = refl;
      kind_is = refl;
      body = record {
        word = all.word;
        rest = all.rest;
        more = all.more;
        same = whole;
        is = goes.is ∙ all.is ∙ ap (λ (ds : Declarations). ds ++ all.more) flat;
        place = InBounds all.to;
        may = refl;
        later = with_declarations earlier (all_declare bound_declared earlier all.its);
        heard = all.heard;
        shorter = shorter-tail (Opens words.Bounds) (flat_map bound_tokens all.its) all.rest (Opens words.Bounds ∷ xs)
            all.word whole;
      };
    }

name_tokens-flat : (names : List (List ℕ)) → flat_map name_token names ≡ name_tokens names
name_tokens-flat [] = refl
name_tokens-flat (name ∷ names) = grind (arith, name_tokens-flat names)

-- names up to the next section word
record NamesFound (place : Place)
    (kind : List ℕ → Declaration) (seen : SectionsSeen) (line : ℕ → ℕ) (xs : List Terminal) (made : Declarations) : Type 0 where
  names : List (List ℕ)
  word : SectionWord
  rest : List Terminal
  more : Declarations
  same : xs ≡ name_tokens names ++ Opens word ∷ rest
  is : made ≡ names_declare kind names ++ more
  later : Draft
  heard : Complete (point_at place seen later) (onwards (name_tokens names) line) (Opens word ∷ rest) more

names-found : (place : Place) (kind : List ℕ → Declaration)
    (seen : SectionsSeen) (reads : ReadsNames place kind seen) (earlier : Draft) (line : ℕ →
    ℕ) (xs : List Terminal) (made : Declarations) → Complete (point_at place seen earlier) line xs made →
    NamesFound place kind seen line xs made
names-found place kind seen reads earlier line xs made h =
    let all = all-phrases name_token (name_declares kind) any_name (λ (s : Unit {0}). place) Anything seen
    (one-name place kind seen reads)
    (length xs) tt earlier line xs made (omega arith) tt h in
    let tokens = name_tokens-flat all.its in record {
      names = all.its;
      word = all.word;
      rest = all.rest;
      more = all.more;
      same = all.same ∙ ap (λ (ys : List Terminal). ys ++ Opens all.word ∷ all.rest) tokens;
      is = all.is ∙ ap (λ (ds : Declarations). ds ++ all.more)
          (all-flat (λ (name : List ℕ). declare_column name ∷ kind name ∷ []) all.its earlier);
      later = with_declarations earlier (all_declare (name_declares kind) earlier all.its);
      heard = subst (λ (ys : List Terminal). Complete (point_at place seen (with_declarations earlier
          (all_declare (name_declares kind) earlier all.its))) (onwards ys line) (Opens all.word ∷ all.rest) all.more)
          tokens all.heard;
    }

generals-body : (seen : SectionsSeen) (earlier : Draft) (line : ℕ → ℕ) (xs : List Terminal) (made : Declarations)
    → Heard (goes_to (here (with_section seen kinds.Generals) earlier) InGenerals []) (onward line) xs made
    → SomeBody kinds.Generals seen line (Opens words.Generals ∷ xs) made
generals-body seen earlier line xs made h = let inside = with_section seen kinds.Generals in
    let goes = goes-heard (here inside earlier) InGenerals [] (onward line) xs made h in
    let found = names-found InGenerals declare_integer inside (grind arith) earlier (onward line) xs goes.more goes.rest in
    let whole : Opens words.Generals ∷ xs ≡ (Opens words.Generals ∷ name_tokens found.names) ++ Opens found.word ∷ found.rest =
    ap (λ (ys : List Terminal). Opens words.Generals ∷ ys) found.same in record {
      part = generals found.names;
      ok = refl;
      kind_is = refl;
      body = record {
        word = found.word;
        rest = found.rest;
        more = found.more;
        same = whole;
        is = goes.is ∙ found.is;
        place = InGenerals;
        may = refl;
        later = found.later;
        heard = found.heard;
        shorter = shorter-tail (Opens words.Generals) (name_tokens found.names) found.rest (Opens words.Generals ∷ xs)
            found.word whole;
      };
    }

binaries-body : (seen : SectionsSeen) (earlier : Draft) (line : ℕ → ℕ) (xs : List Terminal) (made : Declarations)
    → Heard (goes_to (here (with_section seen kinds.Binaries) earlier) InBinaries []) (onward line) xs made
    → SomeBody kinds.Binaries seen line (Opens words.Binaries ∷ xs) made
binaries-body seen earlier line xs made h = let inside = with_section seen kinds.Binaries in
    let goes = goes-heard (here inside earlier) InBinaries [] (onward line) xs made h in
    let found = names-found InBinaries declare_binary inside (grind arith) earlier (onward line) xs goes.more goes.rest in
    let whole : Opens words.Binaries ∷ xs ≡ (Opens words.Binaries ∷ name_tokens found.names) ++ Opens found.word ∷ found.rest =
    ap (λ (ys : List Terminal). Opens words.Binaries ∷ ys) found.same in record {
      part = binaries found.names;
      ok = refl;
      kind_is = refl;
      body = record {
        word = found.word;
        rest = found.rest;
        more = found.more;
        same = whole;
        is = goes.is ∙ found.is;
        place = InBinaries;
        may = refl;
        later = found.later;
        heard = found.heard;
        shorter = shorter-tail (Opens words.Binaries) (name_tokens found.names) found.rest (Opens words.Binaries ∷ xs)
            found.word whole;
      };
    }

-- names after the words of the heading
semis-body : (opening : List Terminal) (seen : SectionsSeen) (earlier : Draft) (line : ℕ →
    ℕ) (tail : List Terminal) (made : Declarations) → opens_semis opening ≡ true →
    Complete (point_at InSemis (with_section seen kinds.SemiContinuous) earlier) (onwards opening line) tail made →
    SomeBody kinds.SemiContinuous seen line (opening ++ tail) made
semis-body opening seen earlier line tail made ok h = let inside = with_section seen kinds.SemiContinuous in
    let found = names-found InSemis declare_semi inside (grind arith) earlier (onwards opening line) tail made h in
    let whole : opening ++ tail ≡ (opening ++ name_tokens found.names) ++ Opens found.word ∷ found.rest =
    ap (λ (ys : List Terminal). opening ++ ys) found.same
    ∙ sym (append_assoc opening (name_tokens found.names) (Opens found.word ∷ found.rest)) in record {
      part = semis opening found.names;
      ok = ok;
      kind_is = refl;
      body = record {
        word = found.word;
        rest = found.rest;
        more = found.more;
        same = whole;
        is = found.is;
        place = InSemis;
        may = refl;
        later = found.later;
        heard = subst (λ (l : ℕ → ℕ). Complete (point_at InSemis inside found.later) l (Opens found.word ∷ found.rest) found.more)
            (sym (onwards-append opening (name_tokens found.names) line)) found.heard;
        shorter = grind (arith, shorter-tail);
      };
    }

-- what goes on and declares nothing
pub moved : (context : Context) (place : Place) (line : ℕ → ℕ) (xs : List Terminal) (made : Declarations)
    → Heard (goes_to context place []) line xs made → Complete (point_at place context.sections_seen context.builder) line xs made
moved = grind arith

-- the last word of a heading
pub record LastWordFound (wanted : LastWord) (context : Context) (line : ℕ →
    ℕ) (xs : List Terminal) (made : Declarations) : Type 0 where
  pub word : List ℕ
  pub tail : List Terminal
  pub same : xs ≡ Name word ∷ tail
  pub is : is_last_word wanted word ≡ true
  pub heard : Complete (point_at (opened_by wanted) context.sections_seen context.builder) (onward line) tail made

pub last_word-heard : (wanted : LastWord) (context : Context) (line : ℕ → ℕ) (xs : List Terminal) (made : Declarations)
    → Heard (next >>= last_word context wanted) line xs made → LastWordFound wanted context line xs made
last_word-heard _ _ _ [] made h = absurd (none-some made h)
last_word-heard wanted context line (x ∷ xs) made h = grind arith

semi-body : (seen : SectionsSeen) (earlier : Draft) (line : ℕ → ℕ) (xs : List Terminal) (made : Declarations)
    → Heard (ahead >>= semi_from (here (with_section seen kinds.SemiContinuous) earlier)) (onward line) xs made
    → SomeBody kinds.SemiContinuous seen line (Opens words.Semi ∷ xs) made
semi-body _ _ _ [] made h = absurd (none-some made h)
semi-body seen earlier line (Sign Minus ∷ xs) made h = let context : Context =
    here (with_section seen kinds.SemiContinuous) earlier in
    let found = last_word-heard Continuous context (onward (onward line)) xs made
    (heard-next (λ (dash : TerminalAt). next >>= last_word context Continuous) (onward line) (Sign Minus) xs made
    (heard-ahead (semi_from context) (onward line) (Sign Minus) xs made h)) in
    subst (λ (ys : List Terminal). SomeBody kinds.SemiContinuous seen line (Opens words.Semi ∷ Sign Minus ∷ ys) made)
    (sym found.same) (semis-body (Opens words.Semi ∷ Sign Minus ∷ Name found.word ∷ []) seen earlier line found.tail
    made found.is found.heard)
semi-body seen earlier line (Sign Plus ∷ xs) made h = grind arith
semi-body seen earlier line (x ∷ xs) made h = let context : Context = here (with_section seen kinds.SemiContinuous) earlier in
    semis-body (Opens words.Semi ∷ []) seen earlier line
    (x ∷ xs) made refl (moved context InSemis (onward line) (x ∷ xs) made
    (heard-ahead (semi_from context) (onward line) x xs made h))

-- ---- all sections

after-section : (kind : Kind) (seen : SectionsSeen) (line : ℕ → ℕ)
    (xs : List Terminal) (made : Declarations) (some : SomeBody kind seen line xs made) →
    section_fault seen kind ≡ None → IsInside seen →
    ((inside : SectionsSeen) → IsInside inside → is_rows some.body.word ≡ false →
    (place : Place) (later : Draft) (on : ℕ → ℕ) → may_begin_section place ≡ true →
    Complete (point_at place inside later) on (Opens some.body.word ∷ some.body.rest) some.body.more
    → TailFound inside on (Opens some.body.word ∷ some.body.rest) some.body.more) → TailFound seen line xs made
after-section = grind (arith, kind_of, opened-heard, onwards, heard, section-joined, inside-after, no-rows)

pub sections-found : (n : ℕ) (place : Place) (seen : SectionsSeen) (earlier : Draft) (line : ℕ → ℕ)
    (word : SectionWord) (xs : List Terminal) (made : Declarations) → length xs < n → may_begin_section place ≡ true →
    IsInside seen → is_rows word ≡ false → Complete (point_at place seen earlier) line (Opens word ∷ xs) made →
    TailFound seen line (Opens word ∷ xs) made
sections-found zero place seen earlier line word xs made fits may inside plain h = absurd (omega (arith, fits))
sections-found (suc n) place seen earlier line word xs made fits may inside plain h = by word plain
    (opened-heard place seen earlier line word xs made may h)
    (λ after within next rest more none_later there later on begins short k. sections-found n there after later on
    next rest more (omega (arith, fits, short)) begins within none_later k)
  where
    Rest : SectionWord → Type 0
    Rest first = (after : SectionsSeen) → IsInside after → (next : SectionWord) (rest : List Terminal) (more : Declarations)
        → is_rows next ≡ false → (there : Place) (later : Draft) (on : ℕ → ℕ) → may_begin_section there ≡ true →
        length rest + 1 < length (Opens first ∷ xs) →
        Complete (point_at there after later) on (Opens next ∷ rest) more → TailFound after on (Opens next ∷ rest) more

    section : (first : SectionWord) (kind : Kind) → section_fault seen kind ≡ None
        → SomeBody kind seen line (Opens first ∷ xs) made → Rest first → TailFound seen line (Opens first ∷ xs) made
    section first kind none some rec =
        after-section kind seen line (Opens first ∷ xs) made some none inside (λ after within none_later there later on begins k.
        rec after within some.body.word some.body.rest some.body.more none_later there later on begins some.body.shorter k)

    by : (first : SectionWord) → is_rows first ≡ false → Opened seen earlier line first xs made → Rest first →
        TailFound seen line (Opens first ∷ xs) made
    by words.Minimize _ opened _ = absurd (grind arith)
    by words.Maximize _ opened _ = absurd (grind arith)
    by words.Rows none_later opened rec = absurd cc
    by words.Subject none_later opened rec = absurd cc
    by words.Such none_later opened rec = absurd cc
    by words.Bounds _ opened rec =
        section words.Bounds kinds.Bounds opened.none (bounds-body seen earlier line xs made opened.heard) rec
    by words.Generals _ opened rec =
        section words.Generals kinds.Generals opened.none (generals-body seen earlier line xs made opened.heard) rec
    by words.Binaries _ opened rec =
        section words.Binaries kinds.Binaries opened.none (binaries-body seen earlier line xs made opened.heard) rec
    by words.Semi _ opened rec = section words.Semi kinds.SemiContinuous opened.none
        (semi-body seen earlier line xs made opened.heard) rec
    by words.Semis _ opened rec = section words.Semis kinds.SemiContinuous opened.none
        (semis-body (Opens words.Semis ∷ []) seen earlier line xs made refl
        (moved (here (with_section seen kinds.SemiContinuous) earlier) InSemis (onward line) xs made opened.heard)) rec
    by words.End _ opened _ = let end = at-end (here (with_section seen kinds.End) earlier) line xs made opened.heard in
        record { parts = []; good = refl; fresh = refl; after = xs; same = refl; is = end.1; elsewhere = end.0 }

-- ---- what tokens have to be if the grammar reads a whole text

-- ---- the rows, and the sections after them

record SecondFound (line : ℕ → ℕ) (xs : List Terminal) (made : Declarations) : Type 0 where
  second : RowSection
  parts : List Section
  good_second : is_row_section second ≡ true
  good : are_sections parts ≡ true
  after : List Terminal
  same : xs ≡ (row_section_tokens second ++ flat_map section_tokens parts) ++ Opens words.End ∷ after
  is : made ≡ row_section_declares second ++ flat_map section_declares parts
  elsewhere : is_elsewhere (onwards (row_section_tokens second ++ flat_map section_tokens parts) line 0)
      (all_at (onward (onwards (row_section_tokens second ++ flat_map section_tokens parts) line)) after) ≡ true

-- rows after the words of their heading
rows-found : (opening : List Terminal) (earlier : Draft) (line : ℕ → ℕ) (tail : List Terminal) (made : Declarations)
    → opens_rows opening ≡ true → earlier.rows ≡ [] → IsSortedDraft earlier → refusals_in_turn earlier made ≡ []
    → Complete (point_at BetweenRows after_rows earlier) (onwards opening line) tail made →
    SecondFound line (opening ++ tail) made
rows-found opening earlier line tail made ok none sorted unrefused h = let on : ℕ → ℕ = onwards opening line in
    let all = all-phrases row_tokens row_declared_at is_row between_rows Anything after_rows (one-row after_rows)
    (length tail) tt earlier on tail made (omega arith) tt h in
    let declared = all_declare row_declared_at earlier all.its in
    let taken = parts-taken earlier declared all.more
    (ap (λ (ds : Declarations). refusals_in_turn earlier ds) (sym all.is) ∙ unrefused) in
    let later = with_declarations earlier declared in
    let opened = opened-heard BetweenRows after_rows later (onwards (flat_map row_tokens all.its) on)
    all.word all.rest all.more refl all.heard in
    let tokens : List Terminal = opening ++ flat_map row_tokens all.its in
    let lines : onwards tokens line ≡ onwards (flat_map row_tokens all.its) on =
    onwards-append opening (flat_map row_tokens all.its) line in
    let tail_found =
    sections-found (length all.rest + 1) BetweenRows after_rows later (onwards (flat_map row_tokens all.its) on)
    all.word all.rest all.more (omega arith) refl (record { begun = refl; open_still = refl })
    (no-rows all.word after_rows no_more opened.none) all.heard in
    let numbered : declared ≡ flat_map row_declares (enumerate_from 1 all.its) = rows-numbered all.its earlier sorted taken.0
    ∙ ap (λ (entries : List _). flat_map row_declares (enumerate_from (length entries + 1) all.its)) none in record {
      second = rows opening all.its;
      parts = tail_found.parts;
      good_second = both_so _ _ ok all.good_its;
      good = tail_found.good;
      after = tail_found.after;
      same = ap (λ (ys : List Terminal). opening ++ ys)
          (all.same ∙ ap (λ (ys : List Terminal). flat_map row_tokens all.its ++ ys) tail_found.same)
          ∙ joined opening (flat_map row_tokens all.its) (flat_map section_tokens tail_found.parts)
          (Opens words.End ∷ tail_found.after);
      is = all.is ∙ (λ i. numbered i ++ tail_found.is i);
      elsewhere = subst (λ (l : ℕ → ℕ). is_elsewhere (l 0) (all_at (onward l) tail_found.after) ≡ true)
          (sym (onwards-append tokens (flat_map section_tokens tail_found.parts) line
          ∙ ap (λ (l : ℕ → ℕ). onwards (flat_map section_tokens tail_found.parts) l) lines)) tail_found.elsewhere;
    }
  where
    no_more : Closed after_rows
    no_more e = cc

    joined : (a b c d : List Terminal) → a ++ (b ++ (c ++ d)) ≡ ((a ++ b) ++ c) ++ d
    joined = grind (arith, append_assoc)

no-rows-found : (place : Place) (earlier : Draft) (line : ℕ → ℕ) (word : SectionWord) (xs : List Terminal) (made : Declarations)
    → may_begin_section place ≡ true → is_rows word ≡ false
    → Complete (point_at place after_word earlier) line (Opens word ∷ xs) made → SecondFound line (Opens word ∷ xs) made
no-rows-found place earlier line word xs made may plain h =
    let tail = sections-found (length xs + 1) place after_word earlier line word xs made
    (omega arith) may (record { begun = refl; open_still = refl }) plain h in record {
      second = no_rows;
      parts = tail.parts;
      good_second = refl;
      good = tail.good;
      after = tail.after;
      same = tail.same;
      is = tail.is;
      elsewhere = tail.elsewhere;
    }

second-found : (word : SectionWord) (place : Place) (earlier : Draft) (line : ℕ → ℕ) (xs : List Terminal) (made : Declarations)
    → may_begin_section place ≡ true → earlier.rows ≡ [] → IsSortedDraft earlier → refusals_in_turn earlier made ≡ []
    → Complete (point_at place after_word earlier) line (Opens word ∷ xs) made → SecondFound line (Opens word ∷ xs) made
second-found words.Rows place earlier line xs made may none sorted unrefused h =
    let opened = opened-heard place after_word earlier line words.Rows xs made may h in rows-found (Opens words.Rows ∷ [])
    earlier line xs made refl none sorted unrefused (moved (here after_rows earlier) BetweenRows (onward line) xs made
    opened.heard)
second-found words.Subject place earlier line xs made may none sorted unrefused h = let opened =
    opened-heard place after_word earlier line words.Subject xs made may h in
    let found = last_word-heard To (here after_rows earlier)
    (onward line) xs made opened.heard in
    subst (λ (ys : List Terminal). SecondFound line (Opens words.Subject ∷ ys) made) (sym found.same)
    (rows-found (Opens words.Subject ∷ Name found.word ∷ []) earlier line found.tail made found.is none sorted unrefused
    found.heard)
second-found words.Such place earlier line xs made may none sorted unrefused h = let opened =
    opened-heard place after_word earlier line words.Such xs made may h in
    let found = last_word-heard That (here after_rows earlier)
    (onward line) xs made opened.heard in subst (λ (ys : List Terminal). SecondFound line (Opens words.Such ∷ ys) made)
    (sym found.same) (rows-found (Opens words.Such ∷ Name found.word ∷ []) earlier line found.tail made found.is
    none sorted unrefused found.heard)
second-found word place earlier line xs made may _ _ _ h = no-rows-found place earlier line word xs made may refl h

-- ---- the file

pub record FileFound (line : ℕ → ℕ) (xs : List Terminal) (made : Declarations) : Type 0 where
  pub whole : File
  pub right : is_file whole ≡ true
  pub after : List Terminal
  pub same : xs ≡ front_tokens whole ++ Opens words.End ∷ after
  pub is : made ≡ file_declares whole
  pub elsewhere : is_elsewhere (onwards (front_tokens whole) line 0)
      (all_at (onward (onwards (front_tokens whole) line)) after) ≡ true

pub file-found : (line : ℕ → ℕ) (xs : List Terminal) (made : Declarations) → refusals_in_turn empty_draft made ≡ [] →
    Complete start line xs made → FileFound line xs made
file-found line xs made unrefused h = let first = objective-heard line xs made h in
    let declared = objective_declares first.part in
    let earlier = with_declarations empty_draft declared in
    let taken = parts-taken empty_draft declared first.more
    (ap (λ (ds : Declarations). refusals_in_turn empty_draft ds) (sym first.is)
    ∙ unrefused) in
    let on : ℕ → ℕ = onwards (objective_tokens first.part) line in
    let second = second-found first.word first.place earlier on first.rest first.more first.may
    (objective-rows first.part) (sorted-draft_of declared) taken.1 first.heard in
    let tokens : List Terminal = row_section_tokens second.second ++ flat_map section_tokens second.parts in record {
      whole = file first.part second.second second.parts;
      right = both_so _ _ first.good (both_so _ _ second.good_second second.good);
      after = second.after;
      same = first.same ∙ ap (λ (ys : List Terminal). objective_tokens first.part ++ ys) second.same
          ∙ sym (append_assoc (objective_tokens first.part) tokens (Opens words.End ∷ second.after));
      is = first.is ∙ ap (λ (ds : Declarations). declared ++ ds) second.is;
      elsewhere = subst (λ (l : ℕ → ℕ). is_elsewhere (l 0) (all_at (onward l) second.after) ≡ true)
          (sym (onwards-append (objective_tokens first.part) tokens line)) second.elsewhere;
    }
