use Rattle.mpslp_mps_sentences.proofs.FaultsOfNames.{section-repeated, section-order, bad-marker, column-split, second-set, unknown-rows}
use Rattle.mpslp_mps_sentences.proofs.FaultsOfNames.{unknown-columns, repeated-rows, repeated-entries}
use Rattle.mpslp_mps_sentences.proofs.FaultsOfValues.{free-ranges, repeated-ranges, repeated-sides, repeated-bounds, both-kinds-in_words}
use Rattle.mpslp_mps_sentences.proofs.laws.mps_faults_are_in_words.Goals as goal

pub returns : goal.returns
returns c = record {
  section_repeated = section-repeated;
  section_order = section-order;
  bad_marker = bad-marker;
  second_set = second-set;
  unknown_row = unknown-rows;
  unknown_column = unknown-columns;
  duplicate_row = repeated-rows;
  duplicate_entry = repeated-entries;
  column_split = column-split;
  duplicate_rhs = repeated-sides;
  duplicate_range = repeated-ranges;
  duplicate_bound = repeated-bounds;
  range_on_free = free-ranges;
  semi_continuous = both-kinds-in_words;
}
