-- Calls with one number after another, each of which changes the same value.
use Rattle.std.specs.Prelude.{◌≡◌, ◌⊎◌, ℕ, zero, suc, ◌<◌, ◌≤◌, Bool, true}
use Rattle.std.specs.Borrow.{MutBor}
use denote.Param.Members.{Shared}

module _ {F T : Type 0} (g : Shared F (ℕ × (MutBor T × Unit {0})) (Unit {0} × (MutBor T × Unit {0}))) (put : F) where
  -- it may be called with each number below this one
  abbrev pub AcceptsEach : ℕ → Type 0
  AcceptsEach count = (i : ℕ) (output : MutBor T) → i < count → g.pre put (i, (output, tt))

  -- a call with this number may leave `new` where `old` was
  pub record IsCall (i : ℕ) (old new : T) : Type 0 where
    pub before : MutBor T
    pub after : MutBor T
    pub before_is : before.now ≡ old
    pub after_is : after.now ≡ new
    pub met : g.post put (i, (before, tt)) (tt, (after, tt))

  -- calls with the numbers below this one, in their order
  abbrev pub AreCalls : ℕ → T → T → Type 0
  AreCalls zero old new = new ≡ old
  AreCalls (suc n) old new = (between : T) × AreCalls n old between × IsCall n between new

  -- calls with all numbers below this one, or fewer if the value has failed then
  pub record CallsEach (failed : T → Bool) (count : ℕ) (old new : T) : Type 0 where
    pub made : ℕ
    pub within : made ≤ count
    pub calls : AreCalls made old new
    pub ends : (made ≡ count) ⊎ (failed new ≡ true)
