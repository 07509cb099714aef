-- What is done for a job, what is reported, and the exit status.
use Rattle.std.specs.Prelude.{◌≡◌, ℕ, ◌+◌, ◌≤◌, List, [], ◌++◌, length, Bool, true, false, Option, None, Result, Ok, Err, Vec, codes, if◌then◌else◌}
use Rattle.std.specs.declared.alloc.Global.{Global}
use Rattle.mpslp_io.specs.declared.devices.Sink.{Ghosts as SinkOf}
use Rattle.mpslp_io.specs.declared.devices.Source.{Ghosts as SourceOf}
use Rattle.mpslp_types.specs.declared.faults.WriteFault.{WriteFault}
use Rattle.mpslp_io.specs.Devices.{IsTaken}
use Rattle.mpslp_write.specs.ByForm.{declares_in, first_fault_in, unfit_in, text_in}
use Rattle.mpslp_command.specs.declared.jobs.Job.{Job}
use Rattle.mpslp_command.specs.declared.jobs.Job.TheVariants.{Canon, Same, Show}
use Rattle.mpslp_command.specs.declared.jobs.JobFault.{JobFault}
use Rattle.mpslp_command.specs.declared.jobs.JobFault.TheVariants as refused
use Rattle.mpslp_model.specs.FormatParts.{Declares, Unfit, TextOf, HasFirstFault}
use Rattle.mpslp_conversions.specs.Conversions.{IsComparison}
use Rattle.mpslp_conversions.specs.FaultLine.{fault_line, status_of}
use Rattle.mpslp_conversions.specs.Runs.{IsHandedOn, IsCutShort, IsLoad, IsRun}
use Rattle.mpslp_conversions.specs.ShownText.{shown_text}
use Rattle.mpslp_conversions.specs.declared.faults.ConvertFault.{ConvertFault}
use Rattle.mpslp_conversions.specs.declared.faults.ConvertFault.TheVariants as compared
use Rattle.mpslp_conversions.specs.declared.faults.RunFault.{RunFault}
use Rattle.mpslp_conversions.specs.declared.faults.RunFault.TheVariants.{Read, TooLong, File, NotLp, Write, OutOfMemory}
use Rattle.mpslp_convert.specs.declared.job_end.Failure.{Failure}
use Rattle.mpslp_convert.specs.declared.job_end.Input.{Input}
use Rattle.mpslp_convert.specs.declared.job_end.Input.TheVariants.{Only, First, Second}

-- ---- devices before a call and after it

-- A source, with what its type says of it.
pub record SourceChange (R : Type 0) : Type 1 where
  pub source : SourceOf R
  pub old : R
  pub new : R

abbrev pub source_change : {R : Type 0} → SourceOf R → R → R → SourceChange R
source_change source old new = record { source = source; old = old; new = new }

-- A sink, with what its type says of it.
pub record SinkChange (W : Type 0) : Type 1 where
  pub sink : SinkOf W
  pub old : W
  pub new : W

abbrev pub sink_change : {W : Type 0} → SinkOf W → W → W → SinkChange W
sink_change sink old new = record { sink = sink; old = old; new = new }

-- the bytes that a source had left before, and has after; and whether it has failed then
abbrev pub left_before : {R : Type 0} → SourceChange R → Option (List ℕ)
left_before change = change.source.left change.old

abbrev pub left_after : {R : Type 0} → SourceChange R → Option (List ℕ)
left_after change = change.source.left change.new

abbrev pub has_failed : {R : Type 0} → SourceChange R → Bool
has_failed change = change.source.failed change.new

-- ---- what is reported

-- an error of the job's only input, or of one of two
abbrev pub failure_of : Input → RunFault → Failure
failure_of input fault = record { input = input; fault = fault }

abbrev pub input_text : Input → List ℕ
input_text Only = []
input_text First = codes "first: "
input_text Second = codes "second: "

-- errors that belong to an input, whose lines name it
abbrev pub is_of_input : RunFault → Bool
is_of_input Read = true
is_of_input TooLong = true
is_of_input (File fault) = true
is_of_input (NotLp name_at) = false
is_of_input (Write written) = false
is_of_input OutOfMemory = false

abbrev pub failure_line : Failure → List ℕ
failure_line failure = (if is_of_input failure.fault then input_text failure.input else []) ++ fault_line failure.fault

abbrev pub refusal_line : JobFault → List ℕ
refusal_line (refused.Help text) = text
refusal_line (refused.Usage text) = text
refusal_line (refused.UnknownFormat word) = codes "unknown format: " ++ word ++ codes "\n"
refusal_line refused.BothInputs = codes "both inputs are -\n"
refusal_line refused.OutOfMemory = codes "out of memory\n"

abbrev pub refusal_status : JobFault → ℕ
refusal_status (refused.Help text) = 0
refusal_status (refused.Usage text) = 3
refusal_status (refused.UnknownFormat word) = 3
refusal_status refused.BothInputs = 3
refusal_status refused.OutOfMemory = 5

-- A sink took the line, or a prefix of it before it failed, in at most as many calls as the line has bytes.
abbrev pub IsReported : {E : Type 0} → SinkChange E → List ℕ → Type 0
IsReported err line =
    (answer : Result (Unit {0}) WriteFault) × IsTaken err.sink.holds err.sink.failed err.old err.new line answer
    × (err.sink.count err.new ≤ err.sink.count err.old + length line)

-- The status of a job that is done, and nothing is reported; or that of its failure, whose line is reported.
abbrev pub IsEnded : {E : Type 0} → SinkChange E → Result ℕ Failure → ℕ → Type 0
IsEnded err (Ok end) status = (status ≡ end) × (err.new ≡ err.old)
IsEnded err (Err failure) status = (status ≡ status_of failure.fault) × IsReported err (failure_line failure)

-- A text was written and flushed, or the sink failed.
abbrev pub IsPrinted : {W : Type 0} → SinkChange W → List ℕ → Result (Unit {0}) RunFault → Type 0
IsPrinted out text (Ok _) = IsHandedOn out.sink.holds out.sink.failed out.sink.count out.old out.new text
IsPrinted out text (Err Read) = ⊥
IsPrinted out text (Err TooLong) = ⊥
IsPrinted out text (Err (File fault)) = ⊥
IsPrinted out text (Err (NotLp name_at)) = ⊥
IsPrinted out text (Err (Write written)) = IsCutShort out.sink.holds out.sink.failed out.sink.count out.old out.new text written
IsPrinted out text (Err OutOfMemory) = ⊥

-- ---- what is done

-- the end of a job with this result: this status, or the failure
abbrev pub ended_by : ℕ → Result (Unit {0}) RunFault → Result ℕ Failure
ended_by status (Ok _) = Ok status
ended_by status (Err fault) = Err (failure_of Only fault)

-- A run between a source and a sink had a result, and the job ends with it.
abbrev pub IsRunDone : {R W : Type 0} → Declares → HasFirstFault → Unfit → TextOf → ℕ → SourceChange R → SinkChange W → Result ℕ Failure → Type 0
IsRunDone declares first_fault unfit text limit source out end =
    (answer : Result (Unit {0}) RunFault)
    × IsRun declares first_fault unfit text out.sink.holds out.sink.failed out.sink.count
    (left_before source) (left_after source) (has_failed source) limit out.old out.new answer
    × (end ≡ ended_by 0 answer)

-- the line of a comparison, and its status
abbrev pub same_line : Bool → List ℕ
same_line true = codes "same\n"
same_line false = codes "not the same\n"

abbrev pub same_status : Bool → ℕ
same_status true = 0
same_status false = 1

-- the failure of a comparison
abbrev pub comparison_failure : ConvertFault → Failure
comparison_failure (compared.First fault) = failure_of First (File fault)
comparison_failure (compared.Second fault) = failure_of Second (File fault)
comparison_failure (compared.NotLp name_at) = failure_of Only (NotLp name_at)
comparison_failure compared.OutOfMemory = failure_of Only OutOfMemory

-- The result of a comparison is printed, or its failure ends the job.
abbrev pub IsSaid : {W : Type 0} → SinkChange W → Result Bool ConvertFault → Result ℕ Failure → Type 0
IsSaid out (Ok same) end =
    (answer : Result (Unit {0}) RunFault) × IsPrinted out (same_line same) answer × (end ≡ ended_by (same_status same) answer)
IsSaid out (Err fault) end = (end ≡ Err (comparison_failure fault)) × (out.new ≡ out.old)

-- What is said of the inputs of a comparison is what a load of each would return. Whether their texts are kept is in no contract.

-- The second input was loaded, and then compared with these bytes of the first.
abbrev pub IsSecondDone : {W : Type 0} → Declares → HasFirstFault → Declares → HasFirstFault → SinkChange W → List ℕ → Result (Vec ℕ Global) RunFault
    → Result ℕ Failure → Type 0
IsSecondDone declares first_fault declares' first_fault' out one (Ok other) end =
    (same : Result Bool ConvertFault) × IsComparison declares first_fault declares' first_fault' one other.items same × IsSaid out same end
IsSecondDone declares first_fault declares' first_fault' out one (Err fault) end = (end ≡ Err (failure_of Second fault)) × (out.new ≡ out.old)

-- The first input was loaded, and then the second; if the first one was not, the second was not read.
abbrev pub IsFirstDone : {S W : Type 0} → Declares → HasFirstFault → Declares → HasFirstFault → ℕ → SourceChange S → SinkChange W
    → Result (Vec ℕ Global) RunFault → Result ℕ Failure → Type 0
IsFirstDone declares first_fault declares' first_fault' limit second out (Ok one) end =
    (other : Result (Vec ℕ Global) RunFault) × IsLoad (left_before second) (left_after second) (has_failed second) limit other
    × IsSecondDone declares first_fault declares' first_fault' out one.items other end
IsFirstDone declares first_fault declares' first_fault' limit second out (Err fault) end =
    (end ≡ Err (failure_of First fault)) × (second.new ≡ second.old) × (out.new ≡ out.old)

-- Two inputs were compared.
abbrev pub IsSameDone : {R S W : Type 0} → Declares → HasFirstFault → Declares → HasFirstFault → ℕ → SourceChange R → SourceChange S → SinkChange W
    → Result ℕ Failure → Type 0
IsSameDone declares first_fault declares' first_fault' limit first second out end =
    (one : Result (Vec ℕ Global) RunFault) × IsLoad (left_before first) (left_after first) (has_failed first) limit one
    × IsFirstDone declares first_fault declares' first_fault' limit second out one end

-- A job was done. Only a comparison reads the second source.
abbrev pub IsDone : {R S W : Type 0} → ℕ → SourceChange R → SourceChange S → SinkChange W → Job → Result ℕ Failure → Type 0
IsDone limit first second out (Canon from to path) end =
    IsRunDone (declares_in from) (first_fault_in from) (unfit_in to) (text_in to) limit first out end × (second.new ≡ second.old)
IsDone limit first second out (Same first_format one second_format other) end =
    IsSameDone (declares_in first_format) (first_fault_in first_format) (declares_in second_format) (first_fault_in second_format) limit first second out end
IsDone limit first second out (Show from path) end =
    IsRunDone (declares_in from) (first_fault_in from) (λ m. None) shown_text limit first out end × (second.new ≡ second.old)

-- It was reported why the arguments are not a job: a requested text is printed, everything else goes to the error output.
abbrev pub IsRefused : {W E : Type 0} → SinkChange W → SinkChange E → JobFault → ℕ → Type 0
IsRefused out err (refused.Help text) status =
    (answer : Result (Unit {0}) RunFault) × IsPrinted out text answer × IsEnded err (ended_by (refusal_status (refused.Help text)) answer) status
IsRefused out err (refused.Usage text) status =
    (status ≡ refusal_status (refused.Usage text)) × (out.new ≡ out.old) × IsReported err (refusal_line (refused.Usage text))
IsRefused out err (refused.UnknownFormat word) status =
    (status ≡ refusal_status (refused.UnknownFormat word)) × (out.new ≡ out.old) × IsReported err (refusal_line (refused.UnknownFormat word))
IsRefused out err refused.BothInputs status =
    (status ≡ refusal_status refused.BothInputs) × (out.new ≡ out.old) × IsReported err (refusal_line refused.BothInputs)
IsRefused out err refused.OutOfMemory status =
    (status ≡ refusal_status refused.OutOfMemory) × (out.new ≡ out.old) × IsReported err (refusal_line refused.OutOfMemory)

-- A job was done, or it was reported why there is none, and the status was returned. Without a job no source is read.
abbrev pub IsPerformed : {R S W E : Type 0} → ℕ → SourceChange R → SourceChange S → SinkChange W → SinkChange E → Result Job JobFault → ℕ → Type 0
IsPerformed limit first second out err (Ok job) status =
    (end : Result ℕ Failure) × IsDone limit first second out job end × IsEnded err end status
IsPerformed limit first second out err (Err fault) status =
    (first.new ≡ first.old) × (second.new ≡ second.old) × IsRefused out err fault status
