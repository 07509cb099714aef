-- What calls with one number after another print.
use Rattle.std.proofs.Common.{◌≡◌, sym, subst, ℕ, zero, suc, ◌<◌, ◌≤◌, inl, inr, List, [], length, map, take, drop, arith}
use Rattle.std.specs.{Borrow.{MutBor}, List.{flat_map}}
use denote.Param.Members.{Shared}
use Rattle.mpslp_io.specs.declared.devices.Sink.{Ghosts as SinkOf}
use Rattle.mpslp_io.specs.{LinesAt.{lines_at}, EachCall.{IsCall, AreCalls, CallsEach}, Printing.{Puts, Prints}}
use Rattle.mpslp_io.specs.declared.output.Output.{Output}
use Rattle.mpslp_io.proofs.{LinesAtLemmas.{flat_map-more, flat_map-rest, all-taken}, OutputLemmas.{puts_nothing, puts_then, puts_same}}
use Rattle.mpslp_io.proofs.OutputLemmas.{puts_cut, prints_nothing, prints_then, prints_same, prints_cut}

module _ {W L F : Type 0} {line_text : L → List ℕ} {k : SinkOf W}
    {g : Shared F (ℕ × (MutBor (Output W) × Unit {0})) (Unit {0} × (MutBor (Output W) × Unit {0}))} {put : F} where
  -- the first calls print the lines of the first entries
  prints_first : {X : Type 0} (f : X → List L) (xs : List X) (count : ℕ)
      → ((i : ℕ) → i < count → (x y : Output W) → IsCall g put i x y → Prints line_text k x y (lines_at f xs i))
      → (n : ℕ) → n ≤ count → (a b : Output W) → AreCalls g put n a b → Prints line_text k a b (flat_map f (take n xs))
  prints_first f xs count each zero within a b same =
      subst (λ (o : Output W). Prints line_text k a o []) (sym same) (prints_nothing a)
  prints_first f xs count each (suc n) within a b calls =
      prints_same (sym (flat_map-more f xs n))
      (prints_then (prints_first f xs count each n (omega arith) a calls.0 calls.1) (each n (omega arith) calls.0 b calls.2))

  -- all calls print the lines of all entries, whose number is that of their names
  pub prints_each : {X : Type 0} (f : List ℕ × X → List L) (es : List (List ℕ × X)) {count : ℕ} {a b : Output W}
      → length (map (λ e. e.0) es) ≤ count
      → ((i : ℕ) → i < count → (x y : Output W) → IsCall g put i x y → Prints line_text k x y (lines_at f es i))
      → CallsEach g put (λ o. o.buffer.now.has_failed) count a b → Prints line_text k a b (flat_map f es)
  prints_each f es {count} {a} {b} long each h =
      let first = prints_first f es count each h.made h.within a b h.calls in
      elim h.ends [
        | inl all ↦ prints_same (all-taken f es h.made (omega (arith, all, long))) first
        | inr fails ↦ prints_cut f es h.made fails first
      ]

-- ---- the same of texts

module _ {W F : Type 0} {k : SinkOf W}
    {g : Shared F (ℕ × (MutBor (Output W) × Unit {0})) (Unit {0} × (MutBor (Output W) × Unit {0}))} {put : F} where
  puts_first : {X : Type 0} (f : X → List ℕ) (xs : List X) (count : ℕ)
      → ((i : ℕ) → i < count → (x y : Output W) → IsCall g put i x y → Puts k x y (lines_at f xs i))
      → (n : ℕ) → n ≤ count → (a b : Output W) → AreCalls g put n a b → Puts k a b (flat_map f (take n xs))
  puts_first f xs count each zero within a b same = subst (λ (o : Output W). Puts k a o []) (sym same) (puts_nothing a)
  puts_first f xs count each (suc n) within a b calls =
      puts_same (sym (flat_map-more f xs n))
      (puts_then (puts_first f xs count each n (omega arith) a calls.0 calls.1) (each n (omega arith) calls.0 b calls.2))

  pub puts_each : {X : Type 0} (f : X → List ℕ) (xs : List X) {count : ℕ} {a b : Output W}
      → ((n : ℕ) → count ≤ n → flat_map f (take n xs) ≡ flat_map f xs)
      → ((i : ℕ) → i < count → (x y : Output W) → IsCall g put i x y → Puts k x y (lines_at f xs i))
      → CallsEach g put (λ o. o.buffer.now.has_failed) count a b → Puts k a b (flat_map f xs)
  puts_each f xs {count} {a} {b} whole each h =
      let first = puts_first f xs count each h.made h.within a b h.calls in
      elim h.ends [
        | inl all ↦ puts_same (whole h.made (omega (arith, all))) first
        | inr fails ↦ puts_same (flat_map-rest f xs h.made) (puts_cut (flat_map f (drop h.made xs)) fails first)
      ]
