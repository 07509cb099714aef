-- The words that mean something are the reserved ones.
use Rattle.std.{proofs.Common.{Bool, Bor, List, [], ap, arith, false, map, refl, ℕ, ◌∷◌, ◌≡◌}, specs.List.{find, list_any}}
use Rattle.std.specs.{Option.option_map_or, Prelude.None}
use Rattle.mpslp_types.{proofs.ReservedLemmas.reserved-other, specs.{Name.{is_reserved, lower_byte, same_bytes}, NameTests.may_be_reserved}}
use Rattle.mpslp_lp_tokens.specs.{Token.{class_of, word_classes}, declared.words.WordClass.{WordClass, TheVariants.Name}}

none-found : (table : List (List ℕ × WordClass)) (lower : List ℕ)
    → list_any (same_bytes lower) (map (λ (entry : List ℕ × WordClass). entry.0) table) ≡ false
    → find (λ (entry : List ℕ × WordClass). same_bytes lower entry.0) table ≡ None
none-found [] lower h = refl
none-found (entry ∷ table) lower h = grind (arith, none-found table lower)

-- a word that is not reserved is a name
pub word_class-name : (word : List ℕ) → is_reserved word ≡ false → class_of word ≡ Name
word_class-name word h =
    ap (λ o. option_map_or (λ entry. entry.1) o Name) (none-found word_classes (map lower_byte word) h)

-- a word that is longer than any reserved one, or begins with other letters, is a name
pub word_class-other : (word : List ℕ) → may_be_reserved word ≡ false → class_of word ≡ Name
word_class-other word h = word_class-name word (reserved-other word h)

-- ---- a table of words

-- a table of words by reference, and the words themselves
pub found-word_class : (p : List ℕ → Bool) (entries : List (Bor (List ℕ) × WordClass))
    → option_map_or (λ (entry : Bor (List ℕ) × WordClass). entry.1)
    (find (λ (entry : Bor (List ℕ) × WordClass). p entry.0.now) entries) Name
    ≡ option_map_or (λ (entry : List ℕ × WordClass). entry.1)
    (find (λ (entry : List ℕ × WordClass). p entry.0)
    (map (λ (entry : Bor (List ℕ) × WordClass). (entry.0.now, entry.1)) entries)) Name
found-word_class p [] = refl
found-word_class p (entry ∷ entries) = grind (arith, found-word_class p entries)
