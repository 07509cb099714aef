-- The bytes that a writer of std holds, if they are known; and a device whose call did not fail.
use Rattle.std.proofs.Common.{◌≡◌, refl, sym, ℕ, Bool, true, false, List, ◌++◌, None, Some, Option, ap, ◌∙◌}
use Rattle.std.specs.Io.KnownBytes.{Keeps, Appends}

-- known bytes after a write are the old ones and what was appended
pub appends_some : (a b : Option (List ℕ)) (before bytes : List ℕ) → Appends a b bytes → a ≡ Some before →
    b ≡ Some (before ++ bytes)
appends_some None b before bytes grown known = absurd (cc)
appends_some (Some x) None before bytes grown known = absurd grown
appends_some (Some x) (Some y) before bytes grown known = let same : x ≡ before = cc in
    ap Some (grown ∙ ap (λ l. l ++ bytes) same)

-- known bytes that are kept stay known
pub keeps_some : (a b : Option (List ℕ)) (before : List ℕ) → Keeps a b → a ≡ Some before → b ≡ Some before
keeps_some None b before kept known = absurd (cc)
keeps_some (Some x) None before kept known = absurd kept
keeps_some (Some x) (Some y) before kept known = ap Some kept ∙ known

-- a device that returns no error has not failed
pub works_still : (failed : Bool) → (failed ≡ true → false ≡ true) → failed ≡ false
works_still true no_error = sym (no_error refl)
works_still false no_error = refl
