-- Complete lines, and the bytes after them, if a text is cut into pieces.
use Rattle.std.proofs.Common.{arith, ◌≡◌, refl, sym, ap, subst, ◌∙◌, ℕ, List, [], ◌∷◌, ◌++◌, true, false, append-nil, append_assoc}
use Rattle.std.proofs.lemmas.List.{Splits.{slice_split_none, slice_split_at, slice_split-cons_yes, slice_split-cons_no}, Elements.{All-nil}}
use Rattle.std.proofs.lemmas.List.Elements.{All-append}
use Rattle.std.specs.{List.{slice_split, onto_first}, Str.Lines.{lines, lines_of_parts, strip_carriage_return}}
use Rattle.mpslp_model.specs.CompleteLines.{is_feed, ended_parts, last_part, complete_lines, open_tail, HasNoFeed}

-- ---- parts between line feeds

-- there is a first one
record Begins (parts : List (List ℕ)) : Type 0 where
  part : List ℕ
  more : List (List ℕ)
  is : parts ≡ part ∷ more

begins-onto : (byte : ℕ) (parts : List (List ℕ)) → Begins parts → Begins (onto_first byte parts)
begins-onto = grind arith

begins : (xs : List ℕ) → Begins (slice_split is_feed xs)
begins [] = record { part = []; more = []; is = refl }
begins (x ∷ xs) = grind (arith, slice_split-cons_yes, slice_split-cons_no, begins-onto, begins xs)

-- a part that is followed by others
ended-after : (part : List ℕ) (parts : List (List ℕ)) → Begins parts
    → ended_parts (part ∷ parts) ≡ strip_carriage_return part ∷ ended_parts parts
ended-after = grind arith

last-after : (part : List ℕ) (parts : List (List ℕ)) → Begins parts → last_part (part ∷ parts) ≡ last_part parts
last-after = grind arith

-- the parts, if the last one is continued by these bytes
abbrev going_on : List (List ℕ) → List ℕ → List (List ℕ)
going_on [] bytes = slice_split is_feed bytes
going_on (part ∷ []) bytes = slice_split is_feed (part ++ bytes)
going_on (part ∷ next ∷ more) bytes = part ∷ going_on (next ∷ more) bytes

begins-going : (parts : List (List ℕ)) (bytes : List ℕ) → Begins (going_on parts bytes)
begins-going [] bytes = begins bytes
begins-going (part ∷ []) bytes = begins (part ++ bytes)
begins-going (part ∷ next ∷ more) bytes = grind arith

going-after : (part : List ℕ) (parts : List (List ℕ)) (bytes : List ℕ) → Begins parts
    → going_on (part ∷ parts) bytes ≡ part ∷ going_on parts bytes
going-after = grind arith

onto-going : (byte : ℕ) (part : List ℕ) (more : List (List ℕ)) (bytes : List ℕ) → is_feed byte ≡ false
    → onto_first byte (going_on (part ∷ more) bytes) ≡ going_on ((byte ∷ part) ∷ more) bytes
onto-going = grind arith

parts-more : (xs ys : List ℕ) → slice_split is_feed (xs ++ ys) ≡ going_on (slice_split is_feed xs) ys
parts-more [] ys = refl
parts-more (x ∷ xs) ys = grind
    (arith, begins, slice_split-cons_yes, going-after, slice_split-cons_no, onto-going, parts-more xs ys)

ended-going : (parts : List (List ℕ)) (bytes : List ℕ)
    → ended_parts (going_on parts bytes) ≡ ended_parts parts ++ complete_lines (last_part parts ++ bytes)
ended-going [] bytes = refl
ended-going (part ∷ []) bytes = refl
ended-going (part ∷ next ∷ more) bytes =
    ended-after part (going_on (next ∷ more) bytes) (begins-going (next ∷ more) bytes)
    ∙ ap (λ l. strip_carriage_return part ∷ l) (ended-going (next ∷ more) bytes)

last-going : (parts : List (List ℕ)) (bytes : List ℕ) → last_part (going_on parts bytes) ≡ open_tail (last_part parts ++ bytes)
last-going [] bytes = refl
last-going (part ∷ []) bytes = refl
last-going (part ∷ next ∷ more) bytes =
    last-after part (going_on (next ∷ more) bytes) (begins-going (next ∷ more) bytes) ∙ last-going (next ∷ more) bytes

-- ---- one more piece

pub complete-more : (xs ys : List ℕ) → complete_lines (xs ++ ys) ≡ complete_lines xs ++ complete_lines (open_tail xs ++ ys)
complete-more = grind (arith, parts-more, ended-going)

pub open_tail-more : (xs ys : List ℕ) → open_tail (xs ++ ys) ≡ open_tail (open_tail xs ++ ys)
open_tail-more = grind (arith, parts-more, last-going)

-- ---- all lines

-- the bytes after the last line feed are a line, unless there are none
abbrev pub last_line : List ℕ → List (List ℕ)
last_line bytes = lines_of_parts (bytes ∷ [])

lines-parts : (parts : List (List ℕ)) → Begins parts → lines_of_parts parts ≡ ended_parts parts ++ last_line (last_part parts)
lines-parts [] b = let bad = b.is in cc
lines-parts (part ∷ []) b = refl
lines-parts (part ∷ next ∷ more) b = grind (arith, lines-parts (next ∷ more) (record { part = next; more = more; is = refl }))

pub lines-are : (bytes : List ℕ) → lines bytes ≡ complete_lines bytes ++ last_line (open_tail bytes)
lines-are = grind (arith, lines-parts, begins)

pub lines-more : (xs ys : List ℕ) → lines (xs ++ ys) ≡ complete_lines xs ++ lines (open_tail xs ++ ys)
lines-more = grind (arith, lines-are, complete-more, open_tail-more, append_assoc)

-- ---- bytes without a line feed

last-onto : (byte : ℕ) (part : List ℕ) (more : List (List ℕ)) → is_feed byte ≡ false → HasNoFeed (last_part (part ∷ more))
    → HasNoFeed (last_part ((byte ∷ part) ∷ more))
last-onto = grind arith

pub open_tail-no_feed : (bytes : List ℕ) → HasNoFeed (open_tail bytes)
open_tail-no_feed [] = All-nil (λ b. is_feed b ≡ false)
open_tail-no_feed (x ∷ xs) =
    let b = begins xs in
    elim (is_feed x) as (λ b. is_feed x ≡ b → HasNoFeed (open_tail (x ∷ xs))) [
      | true ↦ λ h. subst HasNoFeed (sym (ap last_part (slice_split-cons_yes is_feed x xs h)
          ∙ last-after [] (slice_split is_feed xs) b)) (open_tail-no_feed xs)
      | false ↦ λ h.
          subst HasNoFeed (sym (ap last_part (slice_split-cons_no is_feed x xs h ∙ ap (onto_first x) b.is)))
          (last-onto x b.part b.more h (subst HasNoFeed (ap last_part b.is) (open_tail-no_feed xs)))
    ] refl

pub complete-no_feed : (bytes : List ℕ) → HasNoFeed bytes → complete_lines bytes ≡ []
complete-no_feed = grind (arith, slice_split_none)

pub open_tail-all : (bytes : List ℕ) → HasNoFeed bytes → open_tail bytes ≡ bytes
open_tail-all bytes h = ap last_part (slice_split_none is_feed bytes h)

on-no_feed : (bytes part : List ℕ) → HasNoFeed part → HasNoFeed (open_tail bytes ++ part)
on-no_feed bytes part h = All-append (λ b. is_feed b ≡ false) (open_tail bytes) part (open_tail-no_feed bytes) h

-- after other bytes
pub complete-same : (bytes part : List ℕ) → HasNoFeed part → complete_lines (bytes ++ part) ≡ complete_lines bytes
complete-same = grind (arith, complete-more, complete-no_feed, on-no_feed, append-nil)

pub open_tail-on : (bytes part : List ℕ) → HasNoFeed part → open_tail (bytes ++ part) ≡ open_tail bytes ++ part
open_tail-on = grind (arith, open_tail-more, open_tail-all, on-no_feed)

-- ---- a line feed

-- it completes a line
pub complete-ended : (bytes : List ℕ)
    → complete_lines (bytes ++ 10 ∷ []) ≡ complete_lines bytes ++ strip_carriage_return (open_tail bytes) ∷ []
complete-ended = grind (arith, complete-more, slice_split_at, open_tail-no_feed)

pub open_tail-ended : (bytes : List ℕ) → open_tail (bytes ++ 10 ∷ []) ≡ []
open_tail-ended = grind (arith, open_tail-more, slice_split_at, open_tail-no_feed)

-- ---- bytes after a line feed

pub complete-from : (bytes part : List ℕ) → open_tail bytes ≡ [] → open_tail part ≡ []
    → complete_lines (bytes ++ part) ≡ complete_lines bytes ++ lines part
complete-from = grind (arith, complete-more, lines-are, append-nil)

pub open_tail-from : (bytes part : List ℕ) → open_tail bytes ≡ [] → open_tail (bytes ++ part) ≡ open_tail part
open_tail-from = grind (arith, open_tail-more)
