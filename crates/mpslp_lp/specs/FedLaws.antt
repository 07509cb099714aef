-- Laws of a reader of LP text in pieces. They are in `specs/` because its `impl` cites them.
use Rattle.std.proofs.Common.{◌≡◌, sym, refl, ap, ◌∙◌, ℕ, List, [], ◌∷◌, ◌++◌, true, append-nil, append_assoc}
use Rattle.std.specs.List.{enumerate_from}
use Rattle.std.specs.Str.Lines.{lines}
use Rattle.mpslp_types.specs.declared.faults.Fault.{Fault}
use Rattle.mpslp_lp_grammar.specs.Rules.Outcome.{Finished, Refused}
use Rattle.mpslp_lp.specs.FirstFault.{fault_of, IsFirstLpFault}
use Rattle.mpslp_lp_grammar.specs.TokenStep.{at_end, is_at_end}
use Rattle.mpslp_lp.specs.LineByLine.{read_from}
use Rattle.mpslp_lp.specs.Fed.{lines_outcome, IsFaultOfLines, HasRead, is_ended}
use Rattle.mpslp_lp_grammar.specs.declared.context.Context.{Context}
use Rattle.mpslp_lp.specs.declared.line_reader.LineReader.{LineReader}
use Rattle.mpslp_lp_grammar.specs.declared.states.State.{State}
use Rattle.mpslp_lp_grammar.specs.declared.states.State.TheVariants.{AfterEnd}

-- ---- lines after that of `end`

-- they are ignored
pub ended-reads : (context : Context) (state : State) (more : List (ℕ × List ℕ)) → is_at_end state ≡ true → read_from context state more ≡ Finished context.builder
ended-reads context AfterEnd [] h = refl
ended-reads context AfterEnd (line ∷ more) h = refl
ended-reads context _ more h = cc

pub read-after_end : (reader : LineReader) (text more : List (List ℕ)) → HasRead reader text → is_ended reader ≡ true → HasRead reader (text ++ more)
read-after_end reader text more led ended = record {
  counted = led.counted;
  decides = λ rest.
      ap lines_outcome (append_assoc text more rest) ∙ led.decides (more ++ rest)
      ∙ ended-reads reader.context reader.state (enumerate_from reader.number (more ++ rest)) ended
      ∙ sym (ended-reads reader.context reader.state (enumerate_from reader.number rest) ended);
}

-- ---- the first error

-- The error of some lines is also that of more lines.
pub lines_fault-stays : (text more : List (List ℕ)) (fault : Fault) → IsFaultOfLines text fault → IsFaultOfLines (text ++ more) fault
lines_fault-stays text more fault h = λ rest. ap lines_outcome (append_assoc text more rest) ∙ h (more ++ rest)

-- If it is that of all lines, it is that of the text.
pub lines_fault-is_first : (bytes : List ℕ) (fault : Fault) → IsFaultOfLines (lines bytes) fault → IsFirstLpFault bytes fault
lines_fault-is_first bytes fault h = ap fault_of (ap lines_outcome (sym (append-nil (lines bytes))) ∙ h [])

-- ---- a reader

-- lines that were read have no error
pub never_refused : (context : Context) (state : State) (fault : Fault) → at_end context state ≡ Refused fault → ⊥
never_refused context AfterEnd fault h = cc
never_refused context _ fault h = cc

-- No line that was read has an error.
pub read-is_clean : (reader : LineReader) (text : List (List ℕ)) (fault : Fault) → HasRead reader text → IsFaultOfLines text fault → ⊥
read-is_clean reader text fault led found = never_refused reader.context reader.state fault (sym (led.decides []) ∙ found [])
