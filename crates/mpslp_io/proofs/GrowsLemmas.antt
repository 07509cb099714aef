-- What a sink holds after several pieces, one after another.
use Rattle.std.proofs.Common.{ℕ, ◌+◌, List, [], ◌++◌, sym, subst, append_assoc, append-nil, take, drop}
use Rattle.std.proofs.Math.Seq.{take-add}
use Rattle.mpslp_io.specs.Devices.{Grows}

pub Grows-nil : {S : Type 0} (holds : S → List ℕ → Type 0) (s : S) → Grows holds s s []
Grows-nil holds s before held = subst (holds s) (sym (append-nil before)) held

pub Grows-append : {S : Type 0} (holds : S → List ℕ → Type 0) (a b c : S) (xs ys : List ℕ) → Grows holds a b xs →
    Grows holds b c ys → Grows holds a c (xs ++ ys)
Grows-append holds a b c xs ys first then before held = subst (holds c) (append_assoc before xs ys) (then _ (first before held))

-- the first n bytes, and then m more of the rest
pub Grows-more : {S : Type 0} (holds : S → List ℕ → Type 0) (a b c : S) (all : List ℕ) (n m : ℕ) → Grows holds a b (take n all)
    → Grows holds b c (take m (drop n all)) → Grows holds a c (take (n + m) all)
Grows-more holds a b c all n m first then =
    subst (Grows holds a c) (sym (take-add n m all)) (Grows-append holds a b c _ _ first then)
