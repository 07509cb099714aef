-- Lines that are written one after another are read as these lines.
use Rattle.std.{proofs.Common.{Bool, List, [], arith, false, refl, suc, ℕ, ◌++◌, ◌∷◌, ◌≡◌}, specs.{List.slice_split, Prelude.slice_index}}
use Rattle.std.specs.{Prelude.◌==◌, Str.Lines.{lines, lines_of_parts, strip_carriage_return}}
use Rattle.mpslp_types.{proofs.EachLemmas.Each, specs.Lists.with_line_feeds}

abbrev pub is_feed : ℕ → Bool
is_feed b = b == 10

-- neither a line feed nor a carriage return
abbrev pub IsPlain : ℕ → Type 0
IsPlain b = (is_feed b ≡ false) × ((b == 13) ≡ false)

split-feed : (line rest : List ℕ) → Each IsPlain line →
    slice_split is_feed ((line ++ 10 ∷ []) ++ rest) ≡ line ∷ slice_split is_feed rest
split-feed [] rest h = refl
split-feed (b ∷ bs) rest h = rw (h.0.0, split-feed bs rest h.1) refl

split-with_line_feeds : (ls : List (List ℕ)) → Each (Each IsPlain) ls → slice_split is_feed (with_line_feeds ls) ≡ ls ++ [] ∷ []
split-with_line_feeds [] h = refl
split-with_line_feeds (l ∷ ls) h = grind (arith, split-feed, split-with_line_feeds ls h.1)

no-return : (line : List ℕ) (k : ℕ) → Each IsPlain line → (slice_index line k == 13) ≡ false
no-return (b ∷ bs) (suc k) h = no-return bs k h.1
no-return _ _ h = grind arith

strip-plain : (line : List ℕ) → Each IsPlain line → strip_carriage_return line ≡ line
strip-plain line h = rw (no-return line _ h) refl

parts-lines : (ls : List (List ℕ)) → Each (Each IsPlain) ls → lines_of_parts (ls ++ [] ∷ []) ≡ ls
parts-lines (l ∷ k ∷ ls) h = grind (arith, strip-plain, parts-lines (k ∷ ls))
parts-lines _ h = grind (arith, strip-plain)

pub lines-with_line_feeds : (ls : List (List ℕ)) → Each (Each IsPlain) ls → lines (with_line_feeds ls) ≡ ls
lines-with_line_feeds = grind (arith, split-with_line_feeds, parts-lines)
