-- Words that are longer than any reserved one, or begin with other letters, are not reserved.
use Rattle.std.proofs.{Common.{Bool, List, [], arith, false, length, map, refl, subst, sym, true, ℕ, ◌<◌, ◌∷◌, ◌≡◌}, Math.Dec.leb}
use Rattle.std.{proofs.lemmas.{Bool.{leb-false, leb-true}, List.length-map}, specs.{List.{list_all, list_any}, Prelude.{nat_le, ◌&&◌}}}
use Rattle.mpslp_types.specs.{Name.{is_reserved, lower_byte, reserved_words, same_bytes}, NameTests.{begins_reserved, may_be_reserved}}
use Rattle.mpslp_types.specs.NameTests.{reserved_beginnings}

-- ---- words that are longer than any reserved one

same-length : (a b : List ℕ) → same_bytes a b ≡ true → length a ≡ length b
same-length (x ∷ xs) (y ∷ ys) h = grind (arith, same-length xs ys)
same-length _ _ h = grind arith

other-length : (a b : List ℕ) → length b < length a → same_bytes a b ≡ false
other-length = grind (arith, same-length)

none-long : (words : List (List ℕ)) (most : ℕ) (word : List ℕ) → list_all (λ (w : List ℕ). leb (length w) most) words ≡ true
    → most < length word → list_any (same_bytes word) words ≡ false
none-long [] most word h longer = refl
none-long (w ∷ words) most word h longer = grind (arith, leb-true, other-length, none-long words most word)

-- no reserved word has over 8 bytes
reserved-long : (word : List ℕ) → 8 < length word → is_reserved word ≡ false
reserved-long word longer = none-long reserved_words 8 _ refl (subst (λ n. 8 < n) (sym (length-map word _)) longer)

-- ---- words whose first letters are not those of a reserved word

-- the word has two letters or more, and begins with one of these pairs
abbrev begins_with : List (List ℕ) → List ℕ → Bool
begins_with beginnings (first ∷ second ∷ _) = list_any (same_bytes (first ∷ second ∷ [])) beginnings
begins_with beginnings _ = false

none-begins : (words beginnings : List (List ℕ)) (first second : ℕ) (rest : List ℕ) →
    list_all (begins_with beginnings) words ≡ true → list_any (same_bytes (first ∷ second ∷ [])) beginnings ≡ false
    → list_any (same_bytes (first ∷ second ∷ rest)) words ≡ false
none-begins [] beginnings first second rest h none = refl
none-begins (w ∷ words) beginnings first second rest h none = grind (arith, none-begins words beginnings first second rest)

-- a word that is longer than any reserved one, or begins with other letters, is not reserved
pub reserved-other : (word : List ℕ) → may_be_reserved word ≡ false → is_reserved word ≡ false
reserved-other (first ∷ second ∷ rest) h = by _ refl h
  where
    by : (b : Bool) → nat_le (length (first ∷ second ∷ rest)) 8 ≡ b → (b && begins_reserved first second) ≡ false
        → is_reserved (first ∷ second ∷ rest) ≡ false
    by true e none = none-begins reserved_words reserved_beginnings (lower_byte first) _ (map lower_byte rest) refl none
    by false e none = reserved-long (first ∷ second ∷ rest) (leb-false _ 8 e)
reserved-other _ h = grind arith
