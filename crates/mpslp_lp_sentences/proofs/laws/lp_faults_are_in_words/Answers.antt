use Rattle.mpslp_lp_sentences.proofs.SectionFaults.{section-repeated, section-order}
use Rattle.mpslp_lp_sentences.proofs.{RowShapes.{mixed-senses, constant-in_row}, RowNames.duplicate-row, EntryFaults.duplicate-entry}
use Rattle.mpslp_lp_sentences.proofs.DraftFaults.{duplicate-rhs, duplicate-bound, semi-continuous}
use Rattle.mpslp_lp_sentences.proofs.laws.lp_faults_are_in_words.Goals as goal

pub returns : goal.returns
returns c = record {
  section_repeated = section-repeated;
  section_order = section-order;
  constant_in_row = constant-in_row;
  mixed_senses = mixed-senses;
  duplicate_row = duplicate-row;
  duplicate_entry = duplicate-entry;
  duplicate_rhs = duplicate-rhs;
  duplicate_bound = duplicate-bound;
  semi_continuous = semi-continuous;
}
