-- What follows from the laws of formats together.
use Rattle.std.specs.Prelude.{◌≡◌, ◌↔◌, ℕ, List, None}
use Rattle.mpslp_model_core.specs.Model.{LinearModel}
use Rattle.mpslp_model.specs.FormatParts.{Declares, Unfit, TextOf}

-- For accepted texts x and y, each in its own format, and their canonical texts in a third one.
pub record Headline (declares_x : Declares) (unfit_x : Unfit) (text_x : TextOf) (declares_y declares : Declares) (unfit : Unfit) (text : TextOf) : Type 0 where
  -- they have the same canonical text if and only if they declare the same model
  pub one_text : (x y : List ℕ) (m n : LinearModel) → declares_x x m → declares_y y n → unfit m ≡ None → unfit n ≡ None
      → (text m ≡ text n) ↔ (m ≡ n)
  -- the canonical text declares the original model
  pub declared : (x : List ℕ) (m : LinearModel) → declares_x x m → unfit m ≡ None → declares (text m) m
  -- and no other
  pub no_other : (x : List ℕ) (m n : LinearModel) → declares_x x m → unfit m ≡ None → declares (text m) n → n ≡ m
  -- it is its own canonical text
  pub fixed : (x : List ℕ) (m n : LinearModel) → declares_x x m → unfit m ≡ None → declares (text m) n → text n ≡ text m
  -- the names of the model that it declares are legal in the format of x
  pub converted_back : (x : List ℕ) (m n : LinearModel) → declares_x x m → unfit m ≡ None → declares (text m) n → unfit_x n ≡ None
  -- converting there and back keeps the model
  pub kept : (x : List ℕ) (m n : LinearModel) → declares_x x m → unfit m ≡ None → declares (text m) n → declares_x (text_x n) m
