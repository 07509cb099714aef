-- The result of `finish`.
use Rattle.std.specs.Prelude.{◌≡◌, Some, None, Result, Ok, Err}
use Rattle.mpslp_model_core.specs.Model.{LinearModel}
use Rattle.mpslp_builder.specs.Declaration.{Draft}
use Rattle.mpslp_builder.specs.FileFault.{file_fault}
use Rattle.mpslp_builder.specs.Meaning.{DraftMeans}
use Rattle.mpslp_types.specs.declared.faults.ReadFault.{ReadFault}
use Rattle.mpslp_types.specs.declared.faults.ReadFault.TheVariants.{File, Failed, OutOfMemory}

-- The first whole-file error, if there is one. Otherwise the model that is meant, or out of memory.
abbrev pub Finishes : Draft → Result LinearModel ReadFault → Type 0
Finishes all (Ok m) = (file_fault all ≡ None) × DraftMeans all m
Finishes all (Err (File fault)) = file_fault all ≡ Some fault
Finishes all (Err Failed) = ⊥
Finishes all (Err OutOfMemory) = file_fault all ≡ None
