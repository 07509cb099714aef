-- Worked examples: which lines of a text are complete, and the bytes after them.
use Rattle.std.proofs.Common.{◌≡◌, refl, [], ◌∷◌, codes}
use Rattle.mpslp_model.specs.CompleteLines.{complete_lines, open_tail}

complete-none : complete_lines (codes "ROWS") ≡ []
complete-none = refl

open_tail-none : open_tail (codes "ROWS") ≡ codes "ROWS"
open_tail-none = refl

-- a carriage return without its line feed ends no line
complete-return : complete_lines (codes "NAME\r\nROWS\r") ≡ codes "NAME" ∷ []
complete-return = refl

open_tail-return : open_tail (codes "NAME\r\nROWS\r") ≡ codes "ROWS\r"
open_tail-return = refl

complete-feed : complete_lines (codes "NAME\r\nROWS\r\n") ≡ codes "NAME" ∷ codes "ROWS" ∷ []
complete-feed = refl

open_tail-feed : open_tail (codes "NAME\r\nROWS\r\n") ≡ []
open_tail-feed = refl

-- an empty line is a line
complete-empty : complete_lines (codes "\n\nx") ≡ [] ∷ [] ∷ []
complete-empty = refl
