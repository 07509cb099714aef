-- The names that the proofs of this crate use of std, of the crates below and of `specs/`.
pub use Rattle.std.proofs.Common.{Bool, IsPermutation, List, [], ap, arith, cond, drop, false, get_or, inl, inr, length, length-append, map}
pub use Rattle.std.proofs.Common.{not, refl, rules, subst, suc, sym, true, zero, ℕ, ◌++◌, ◌+◌, ◌-◌, ◌<◌, ◌∙◌, ◌∷◌, ◌≡◌, ◌≤◌}
pub use Rattle.std.proofs.{Math.{Bool.and_comm, Dec.T}, lemmas.List.{append-nil, append_assoc, drop_more, Concat.flat_map-append}}
pub use Rattle.std.proofs.lemmas.List.{Edits.insert_end, Folds.{list_all-append, list_any-append}}
pub use Rattle.std.{proofs.lemmas.Option.{slice_get_read, slice_get_within}, specs.Cmp.{IsTotalOrder, both_tied, first_so, nat_cmp_total}}
pub use Rattle.std.specs.Cmp.{second_so, Lexicographic.{bytes_decides, nat_list_cmp_total, nat_list_eq_equiv, same_text, texts_ties}}
pub use Rattle.std.specs.FinMap.{FinMap, find, is_sorted, nat_cmp-IsAntisymmetric, put}
pub use Rattle.std.specs.FinMap.Entries.{below_all, by_order, find-put, is_sorted-put, same_entries}
pub use Rattle.std.specs.List.{All, cons_option, flat_map, list_all, list_any, position_or_len, range_with_len, remove}
pub use Rattle.std.specs.{List.Sorted.IsSortedBy, Map.lookup, Option.{ForSome, option_and_then, option_map, option_map_or}}
pub use Rattle.std.specs.Ordering.{eq_by_cmp, is_eq, is_gt, is_le, is_lt, nat_cmp, ordering_reverse, ordering_then}
pub use Rattle.std.specs.Prelude.{Err, IfOk, IsTrue, MatchResult, None, Ok, OnErr, OnOk, Option, Result, Some, codes, filter, filter_map}
pub use Rattle.std.specs.Prelude.{if◌then◌else◌, insert, is_none, is_some, negsuc, pos, slice_get, slice_index, slice_index_or, unwrap_or}
pub use Rattle.std.specs.{Prelude.{ℤ, ◌&&◌, ◌+ℤ◌, ◌||◌, ◌≢◌, ◌⊎◌}, Result.IsErrAnd}
pub use Rattle.std.specs.declared.{alloc.AllocError.AllocError, cmp.Ordering.{Ordering, TheVariants.{Equal, Greater, Less}}}
pub use Rattle.mpslp_decimal.proofs.{OrderLemmas.{difference_size, same_decimal}, ScaleLemmas.sum-difference}
pub use Rattle.mpslp_decimal.specs.Decimal.{IsDecimal, Number, at_scale, decimal_of, difference_of, have_same_value, is_decimal}
pub use Rattle.mpslp_decimal.specs.Decimal.{is_infinite_size, is_negative, is_zero, negated, scaled, size_of, sum_of, zero_number}
pub use Rattle.mpslp_types.proofs.BoolLemmas.{T_from, all_true, back, both_false, both_so, either, either_more, mixed, mixed_more, nor}
pub use Rattle.mpslp_types.proofs.BoolLemmas.{not_so, or_end, or_left, or_right, so_not, true_from}
pub use Rattle.mpslp_types.proofs.EachLemmas.{Each, Each-all, Each-append, Each-both, Each-filter, Each-flat_map, Each-from_list_all}
pub use Rattle.mpslp_types.proofs.EachLemmas.{Each-map, Each-weaker, and_all, imp_all, list_all-from_Each, map_all}
pub use Rattle.mpslp_types.specs.Limit.{are_sides, has_bounded_distance, is_at_most, is_bounded_decimal, is_given, is_lower_side}
pub use Rattle.mpslp_types.specs.{Limit.{is_minus_infinite, is_plus_infinite, is_upper_side, limit_of}, Lists.{are_distinct, head_of}}
pub use Rattle.mpslp_types.specs.{Lists.{is_nonempty, those_of, when}, Name.{bytes_cmp, is_mps_name, is_one_of, marker, same_bytes}}
pub use Rattle.mpslp_types.specs.declared.faults.BuildFault.{BuildFault, TheVariants.{DuplicateBound, DuplicateEntry, DuplicateRange}}
pub use Rattle.mpslp_types.specs.declared.faults.BuildFault.TheVariants.{DuplicateRhs, DuplicateRow, InfiniteValue, OutOfMemory}
pub use Rattle.mpslp_types.specs.declared.faults.BuildFault.TheVariants.{RangeOnFree, SecondObjective, SemiContinuous, UnknownColumn}
pub use Rattle.mpslp_types.specs.declared.faults.{BuildFault.TheVariants.UnknownRow, Fault.Fault, FaultKind.FaultKind}
pub use Rattle.mpslp_types.specs.declared.faults.FaultKind.TheVariants.{BinaryBounds, BoundsCrossed, InfiniteLimit, LimitTooLarge}
pub use Rattle.mpslp_types.specs.declared.faults.FaultKind.TheVariants.{LimitsCrossed, NegativeUpper, RangeInexact, SemiBounds}
pub use Rattle.mpslp_types.specs.declared.{faults.ReadFault.ReadFault, kinds.Kind.{Kind, TheVariants.{Continuous, Integer, Semi}}}
pub use Rattle.mpslp_types.specs.declared.kinds.Limit.{Limit, TheVariants.{Finite, MinusInf, PlusInf}}
pub use Rattle.mpslp_types.specs.declared.kinds.RowType.{RowType, TheVariants.{AtLeast, AtMost, Free}}
pub use Rattle.mpslp_types.specs.declared.kinds.Sense.{Sense, TheVariants.{Maximize, Minimize}}
pub use Rattle.mpslp_model_core.proofs.CellLemmas.{at, find-all_cells, find-two, name_same, name_tied, or_else, bytes_total, same_key}
pub use Rattle.mpslp_model_core.proofs.CellLemmas.{tied_names, is_sorted-filter, along_permutation, equal_from, finds_own, is_sorted-puts}
pub use Rattle.mpslp_model_core.proofs.CellLemmas.{puts, puts-append, puts-give, some_append_left, some_append_right, find-sorted_of}
pub use Rattle.mpslp_model_core.proofs.CellLemmas.{is_sorted-sorted_of, sorted_of-append, sorted_of-put}
pub use Rattle.mpslp_model_core.{proofs.RenumberLemmas.{all-from_each, each-kept}, specs.{KeyOrder.key_total, Limits.RowDefinition}}
pub use Rattle.mpslp_model_core.specs.Limits.{has_infinite_rhs, is_definition_by_limits, is_free_definition, limits_of, plain_limits, sides}
pub use Rattle.mpslp_model_core.specs.Model.{CoefficientKey, Column, IsSound, LinearModel, Row, is_sound_coefficient, is_sound_column}
pub use Rattle.mpslp_model_core.specs.{Model.{is_sound_row, key_cmp, suits}, ModelParts.{AreModelParts, columns_in, linear_model}}
pub use Rattle.mpslp_model_core.specs.Numbered.{IsInjective, IsOnce, all_cells, all_named, column_cells, each_part, given_parts, is_kept}
pub use Rattle.mpslp_model_core.specs.{Numbered.{moved_cells, sorted_of}, WrongParts.{is_crossed, is_inexact, is_large_limit, is_too_large}}
pub use Rattle.mpslp_model_core.specs.declared.{bounds.ColumnFault.ColumnFault, limits.RowFault.RowFault, model.ModelParts.ModelParts}
pub use Rattle.mpslp_builder_parts.proofs.{RankLemmas.{order_apart, order_length, order_within}, TakenLemmas.as_many}
pub use Rattle.mpslp_builder_parts.specs.{Ordered.{entries_at, name_at}, Parts.{itself, moved_in, rhs_in}, RowParts.RowParts}
pub use Rattle.mpslp_builder_parts.specs.{Parts.ColumnParts, declared.parts.ObjectiveParts.ObjectiveParts}
pub use Rattle.mpslp_types.proofs.{PutKeyLemmas.put-insert, SearchLemmas.{found_nowhere, less_from, place_after, sorted-put, suc_of}}
pub use Rattle.mpslp_builder.specs.{Answer.{Answer, Answers, first_refusal}, Bounds.has_crossed_bounds}
pub use Rattle.mpslp_builder.specs.{Bounds.{has_semi_bounds, lower_bound, one_limit, upper_bound, zero_limit}, Calls.CoefficientsAreKnown}
pub use Rattle.mpslp_builder.specs.Calls.{HasColumnAdded, HasColumnChanged, HasObjective, HasObjectiveChanged, HasRhsPut, HasRowAdded}
pub use Rattle.mpslp_builder.specs.Calls.{HasRowChanged, IsOnceEach, IsSameTables, cells_at, column_name, column_satisfies, has_limits}
pub use Rattle.mpslp_builder.specs.Calls.{is_objective_ref, new_column, row_key_of, row_name, row_satisfies, with_bounds, with_cell}
pub use Rattle.mpslp_builder.specs.ColumnLine.{TakesLine, column_line, entry_declared, listed, pair_if_some, pair_of}
pub use Rattle.mpslp_builder.specs.Consistency.{AreConsistent, Slot, all_slots, coefficient_slot, constant_slot, has_objective}
pub use Rattle.mpslp_builder.specs.Consistency.{has_objective_rhs, has_one_constant, is_allowed, is_known, lower_slot, objective_slot}
pub use Rattle.mpslp_builder.specs.Consistency.{range_slot, rhs_slot, row_slot, same_slot, sense_slot, slots_of, upper_slot}
pub use Rattle.mpslp_builder.specs.Declaration.{Declaration, Declarations, Draft, at_name, bounds_declared, by_limits, by_type}
pub use Rattle.mpslp_builder.specs.Declaration.{declare_binary, declare_coefficient, declare_column, declare_constant, declare_integer}
pub use Rattle.mpslp_builder.specs.Declaration.{declare_lower, declare_marked, declare_objective, declare_range, declare_rhs, declare_row}
pub use Rattle.mpslp_builder.specs.Declaration.{declare_semi, declare_sense, declare_upper, draft_of, empty_draft, has_coefficient}
pub use Rattle.mpslp_builder.specs.Declaration.{has_column, has_name, has_row, have_infinite_side, is_free_row, is_integer, is_objective}
pub use Rattle.mpslp_builder.specs.Declaration.{is_row_by_limits, is_semi, names_in, rhs_declared, with_declaration, with_declarations}
pub use Rattle.mpslp_builder.specs.FaultFound.{bounds_test, column_fails, declared_in, entry_name, fault_found, is_below, is_wrong_column}
pub use Rattle.mpslp_builder.specs.FaultFound.{is_wrong_row, kind_of_column_fault, kind_of_row_fault, least_name, lesser, named_fault}
pub use Rattle.mpslp_builder.specs.{FaultFound.{row_fails, row_test}, FileFault.{file_fault, names_with, rows_where, whole_fault}}
pub use Rattle.mpslp_builder.specs.{Finish.Finishes, Laws.IsAnswerOf, LineTables.{AreDeclared, AreFree, AreKnownRows, AreRows, Follows}}
pub use Rattle.mpslp_builder.specs.{LineTables.HasStarted, Made.{HasNoFreeRhs, IsMade, are_given, is_legal}, Meaning.DraftMeans}
pub use Rattle.mpslp_builder.specs.Meaning.{Means, column_of, constant_of, declared_of, has_binary_bounds, has_negative_upper, model_of}
pub use Rattle.mpslp_builder.specs.{Meaning.{objective_name, rhs_or_zero, row_entry, row_limits, row_passes}, Refusal.bounds_refusals}
pub use Rattle.mpslp_builder.specs.Refusal.{coefficient_tests, integer_tests, refusals, refusals_in_turn, rhs_tests, semi_tests}
pub use Rattle.mpslp_builder.specs.{RowTerms.{DeclaresInTurn, term_declared}, Tables.{AreNumbered, IsNumbered, as_part, binary_of}}
pub use Rattle.mpslp_builder.specs.Tables.{cells_by_name, cells_of, definition_of, draft, draft_from, integer_of, lower_of, mark_of}
pub use Rattle.mpslp_builder.specs.Tables.{name_of_objective, name_of_row_key, no_part, objective_rhs, range_of, rhs_of, semi_of, upper_of}
pub use Rattle.mpslp_builder.specs.{TermTables.{AreDeclaredUnless, HasColumn}, declared.entries.{Entries.Entries, Entry.Entry}}
pub use Rattle.mpslp_builder.specs.declared.tables.{lines.RowNumbers.RowNumbers, RowRef.{RowRef, TheVariants.Objective}, Tables.Tables}
pub use Rattle.indexmap.specs.IndexMap.{set_value_at}
