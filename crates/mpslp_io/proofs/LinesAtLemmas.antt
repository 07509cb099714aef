-- Lines of one entry after another, and of an entry as the accessors of a model return it.
use Rattle.std.proofs.Common.{◌≡◌, refl, sym, ap, ◌∙◌, ℕ, zero, suc, ◌<◌, ◌≤◌, ◌+◌, add-one, Bool, true, false, cond, List, [], ◌∷◌, ◌++◌}
use Rattle.std.proofs.{Common.{length, map, take, drop, append_assoc, append-nil, arith}, lemmas.Grind.{flat_map-append}}
use Rattle.std.proofs.lemmas.{List.{length-map}, Option.{slice_get-map, slice_get-get_or}}
use Rattle.std.specs.{Prelude.{Option, Some, slice_get, slice_index_or, filter}, List.{All, flat_map, range_with_len}, Option.{option_map}}
use Rattle.mpslp_types.proofs.RangeLemmas.{range_more}
use Rattle.mpslp_io.specs.LinesAt.{lines_at}

-- ---- one more entry

pub flat_map-more : {X L : Type 0} (f : X → List L) (xs : List X) (i : ℕ)
    → flat_map f (take (suc i) xs) ≡ flat_map f (take i xs) ++ lines_at f xs i
flat_map-more f [] zero = refl
flat_map-more f [] (suc i) = refl
flat_map-more f (x ∷ xs) zero = append-nil (f x)
flat_map-more f (x ∷ xs) (suc i) = grind (arith, append_assoc, flat_map-more f xs i)

pub flat_map-all : {X L : Type 0} (f : X → List L) (xs : List X) (n : ℕ) → length xs ≤ n → flat_map f (take n xs) ≡ flat_map f xs
flat_map-all f [] zero h = refl
flat_map-all f [] (suc n) h = refl
flat_map-all f (x ∷ xs) zero h = absurd (omega arith)
flat_map-all f (x ∷ xs) (suc n) h = ap (λ (l : List _). f x ++ l) (flat_map-all f xs n (omega arith))

pub flat_map-rest : {X L : Type 0} (f : X → List L) (xs : List X) (i : ℕ) →
    flat_map f (take i xs) ++ flat_map f (drop i xs) ≡ flat_map f xs
flat_map-rest f [] zero = refl
flat_map-rest f [] (suc i) = refl
flat_map-rest f (x ∷ xs) zero = refl
flat_map-rest f (x ∷ xs) (suc i) = grind (arith, append_assoc, flat_map-rest f xs i)

pub map-flat_map : {X Y : Type 0} (f : X → Y) (xs : List X) → flat_map (λ x. f x ∷ []) xs ≡ map f xs
map-flat_map f [] = refl
map-flat_map f (x ∷ xs) = ap (λ (l : List _). f x ∷ l) (map-flat_map f xs)

pub flat_map-filter : {X L : Type 0} (f : X → List L) (p : X → Bool) (xs : List X)
    → flat_map (λ x. cond (p x) (f x) []) xs ≡ flat_map f (filter p xs)
flat_map-filter f p [] = refl
flat_map-filter {X} f p (x ∷ xs) =
    elim (p x) as (λ b. cond b (f x) [] ++ flat_map (λ x. cond (p x) (f x) []) xs ≡ flat_map f
    (cond b (x ∷ filter p xs) (filter p xs))) [
      | true ↦ ap (λ (l : List _). f x ++ l) (flat_map-filter f p xs)
      | false ↦ flat_map-filter f p xs
    ]

-- if elements that do not pass have no lines
pub flat_map-kept : {X L : Type 0} (p : X → Bool) (f : X → List L) (xs : List X) → All (λ (x : X). p x ≡ false → f x ≡ []) xs
    → flat_map f (filter p xs) ≡ flat_map f xs
flat_map-kept p f [] none = refl
flat_map-kept {X} {L} p f (x ∷ xs) none =
    let rest = flat_map-kept p f xs (λ k d below. none (suc k) d (omega arith)) in
    elim (p x) as (λ b. p x ≡ b → flat_map f (cond b (x ∷ filter p xs) (filter p xs)) ≡ f x ++ flat_map f xs) [
      | true ↦ λ _. ap (λ (l : List L). f x ++ l) rest
      | false ↦ λ fails. rest ∙ ap (λ (l : List L). l ++ flat_map f xs) (sym (none 0 x (omega arith) fails))
    ] refl

-- the lines of the first entries, by their numbers
pub flat_map-numbers : {X L : Type 0} (f : X → List L) (xs : List X) (n : ℕ)
    → flat_map (lines_at f xs) (range_with_len 0 n) ≡ flat_map f (take n xs)
flat_map-numbers f xs zero = refl
flat_map-numbers {X} {L} f xs (suc n) =
    let more : suc n ≡ n + 1 = omega arith in
    ap (λ (count : ℕ). flat_map (lines_at f xs) (range_with_len 0 count)) more
    ∙ ap (flat_map (lines_at f xs)) (range_more n)
    ∙ flat_map-append (lines_at f xs) (range_with_len 0 n) (n ∷ [])
    ∙ (λ i. flat_map-numbers f xs n i ++ append-nil (lines_at f xs n) i)
    ∙ sym (flat_map-more f xs n)

-- ---- an entry by its accessors

-- what two accessors return of an entry, taken together
pub both_seen : {X A B C : Type 0} (f : X → A) (g : X → B) (h : A → B → C) (o : Option X) (a : A) (b : B) →
    option_map f o ≡ Some a → option_map g o ≡ Some b
    → option_map (λ x. h (f x) (g x)) o ≡ Some (h a b)
both_seen = grind arith

-- the lines of an entry, by its name and what an accessor returns of it
pub lines_seen : {X Y L : Type 0} (es : List (List ℕ × X)) (i : ℕ) (f : X → Y) (h : List ℕ → Y →
    List L) (name : List ℕ) (seen : Y) → slice_get (map (λ e. e.0) es) i ≡ Some name
    → option_map f (slice_get (map (λ e. e.1) es) i) ≡ Some seen → h name seen ≡ lines_at (λ e. h e.0 (f e.1)) es i
lines_seen {X} {Y} = grind (arith, slice_get-map)

-- ---- one more entry, when the number increases by 1

pub flat_map-next : {X L : Type 0} (f : X → List L) (xs : List X) (i : ℕ)
    → flat_map f (take i xs) ++ lines_at f xs i ≡ flat_map f (take (i + 1) xs)
flat_map-next = grind (arith, add-one, flat_map-more)

-- the number of entries, by their names
pub all-taken : {X L : Type 0} (f : List ℕ × X → List L) (es : List (List ℕ × X)) (n : ℕ) → length (map (λ e. e.0) es) ≤ n
    → flat_map f (take n es) ≡ flat_map f es
all-taken {X} = grind (arith, length-map, flat_map-all)

-- an entry whose name is not printed
pub nothing_seen : {X Y L : Type 0} (es : List (List ℕ × X)) (i : ℕ) (f : X → Y) (h : List ℕ → Y → List L) (seen : Y)
    → option_map f (slice_get (map (λ e. e.1) es) i) ≡ Some seen → ((name : List ℕ) → h name seen ≡ [])
    → [] ≡ lines_at (λ e. h e.0 (f e.1)) es i
nothing_seen {X} {Y} = grind (arith, slice_get-map)

-- what is printed for the name of an entry
pub named-lines : {X L : Type 0} (g : List ℕ → List L) (es : List (List ℕ × X)) (j : ℕ) → j < length (map (λ e. e.0) es)
    → g (slice_index_or (map (λ e. e.0) es) j []) ≡ lines_at (λ e. g e.0) es j
named-lines {X} = grind (arith, slice_get-map, slice_get-get_or)
