-- The commands, as arguments.
use Rattle.std.specs.Prelude.{◌≡◌, ℕ, Bool, false, not, ◌||◌, ◌&&◌, ◌==◌, if◌then◌else◌, List, [], ◌∷◌, Option, Some, None, codes}
use Rattle.std.specs.Str.{bytes_eq}
use Rattle.mpslp_types.specs.declared.forms.Form.{Form}
use Rattle.mpslp_types.specs.declared.forms.Form.TheVariants.{Mps, Lp}
use Rattle.mpslp_command.specs.declared.jobs.Job.{Job}
use Rattle.mpslp_command.specs.declared.jobs.Job.TheVariants.{Canon, Same, Show}
use Rattle.mpslp_command.specs.declared.jobs.JobFault.{JobFault}
use Rattle.mpslp_command.specs.declared.jobs.JobFault.TheVariants.{Help, Usage, UnknownFormat, BothInputs, OutOfMemory}

-- the name of a format
abbrev pub format_text : Form → List ℕ
format_text Mps = codes "mps"
format_text Lp = codes "lp"

-- the format with this name
abbrev pub format_of : List ℕ → Option Form
format_of word = if bytes_eq word (codes "mps") then Some Mps else (if bytes_eq word (codes "lp") then Some Lp else None)

-- the command of a job
abbrev pub words_of : Job → List (List ℕ)
words_of (Canon from to path) = codes "canon" ∷ format_text from ∷ format_text to ∷ path ∷ []
words_of (Same first_format first second_format second) = codes "same" ∷ format_text first_format ∷ first ∷ format_text second_format ∷ second ∷ []
words_of (Show from path) = codes "show" ∷ format_text from ∷ path ∷ []

abbrev pub starts_with_hyphen : List ℕ → Bool
starts_with_hyphen [] = false
starts_with_hyphen (x ∷ xs) = x == 45

-- `-` itself, or an argument that does not begin with it
abbrev pub is_plain : List ℕ → Bool
is_plain word = bytes_eq word (codes "-") || not (starts_with_hyphen word)

-- standard input would be read twice
abbrev pub reads_input_twice : Job → Bool
reads_input_twice (Canon from to path) = false
reads_input_twice (Same first_format first second_format second) = bytes_eq first (codes "-") && bytes_eq second (codes "-")
reads_input_twice (Show from path) = false

-- An argument that is reported as an unknown format is not a format.
abbrev pub IsNamedRightly : JobFault → Type 0
IsNamedRightly (Help text) = Unit {0}
IsNamedRightly (Usage text) = Unit {0}
IsNamedRightly (UnknownFormat word) = format_of word ≡ None
IsNamedRightly BothInputs = Unit {0}
IsNamedRightly OutOfMemory = Unit {0}
