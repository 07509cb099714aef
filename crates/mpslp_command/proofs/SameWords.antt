-- Lists that are determined by their items.
use Rattle.std.proofs.{Common.{◌≡◌, ℕ, List, [], ◌∷◌, Some, length, map, arith, refl, zero, suc, get_or, ◌<◌}, lemmas.List.{length-map}}
use Rattle.std.specs.{Prelude.{slice_get, String, string_bytes}, declared.alloc.Global.{Global}}

pub three_words : (xs : List (List ℕ)) (a b c : List ℕ) → length xs ≡ 3 → slice_get xs 0 ≡ Some a → slice_get xs 1 ≡ Some b
    → slice_get xs 2 ≡ Some c → xs ≡ a ∷ b ∷ c ∷ []
three_words (x ∷ y ∷ z ∷ []) a b c n p q r = cc
three_words [] a b c n p q r = absurd (cc)
three_words (x ∷ []) a b c n p q r = absurd (omega arith)
three_words (x ∷ y ∷ []) a b c n p q r = absurd (omega arith)
three_words (x ∷ y ∷ z ∷ w ∷ more) a b c n p q r = absurd (omega arith)

pub four_words : (xs : List (List ℕ)) (a b c d : List ℕ) → length xs ≡ 4 → slice_get xs 0 ≡ Some a → slice_get xs 1 ≡ Some b
    → slice_get xs 2 ≡ Some c → slice_get xs 3 ≡ Some d → xs ≡ a ∷ b ∷ c ∷ d ∷ []
four_words (x ∷ y ∷ z ∷ w ∷ []) a b c d n p q r s = cc
four_words [] a b c d n p q r s = absurd (omega arith)
four_words (x ∷ []) a b c d n p q r s = absurd (omega arith)
four_words (x ∷ y ∷ []) a b c d n p q r s = absurd (omega arith)
four_words (x ∷ y ∷ z ∷ []) a b c d n p q r s = absurd (omega arith)
four_words (x ∷ y ∷ z ∷ w ∷ v ∷ more) a b c d n p q r s = absurd (omega arith)

pub five_words : (xs : List (List ℕ)) (a b c d e : List ℕ) → length xs ≡ 5 → slice_get xs 0 ≡ Some a → slice_get xs 1 ≡ Some b
    → slice_get xs 2 ≡ Some c → slice_get xs 3 ≡ Some d → slice_get xs 4 ≡ Some e → xs ≡ a ∷ b ∷ c ∷ d ∷ e ∷ []
five_words (x ∷ y ∷ z ∷ w ∷ v ∷ []) a b c d e n p q r s t = cc
five_words [] a b c d e n p q r s t = absurd (omega arith)
five_words (x ∷ []) a b c d e n p q r s t = absurd (omega arith)
five_words (x ∷ y ∷ []) a b c d e n p q r s t = absurd (omega arith)
five_words (x ∷ y ∷ z ∷ []) a b c d e n p q r s t = absurd (omega arith)
five_words (x ∷ y ∷ z ∷ w ∷ []) a b c d e n p q r s t = absurd (omega arith)
five_words (x ∷ y ∷ z ∷ w ∷ v ∷ u ∷ more) a b c d e n p q r s t = absurd (omega arith)

pub map_len : (words : List (String Global)) → length (map string_bytes words) ≡ length words
map_len words = length-map words string_bytes

pub slice_get_at : {X : Type 0} (xs : List X) (i : ℕ) (d : X) → i < length xs → slice_get xs i ≡ Some (get_or xs i d)
slice_get_at [] i d h = absurd (omega arith)
slice_get_at (x ∷ xs) zero d h = refl
slice_get_at (x ∷ xs) (suc i) d h = slice_get_at xs i d (omega arith)
