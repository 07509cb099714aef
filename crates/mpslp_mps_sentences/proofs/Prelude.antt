-- The names that the proofs of this crate use of the logic, of std, of the crates below and of `specs/`.
pub use Rattle.std.proofs.Common.{arith, ◌≡◌, refl, sym, ap, ◌∙◌, List, [], ◌∷◌, ◌++◌, ℕ, Bool, true, false, cond, subst, append_assoc, suc}
pub use Rattle.std.proofs.{Common.{◌+◌, ◌^◌, map, rules}, Math.Dec.eqb_refl}
pub use Rattle.std.proofs.lemmas.{Bool.{false≢true, true≢false, Decides.{nat_tests, Decides-eqb}}, List.{append-nil, map-append}}
pub use Rattle.std.proofs.lemmas.List.{Concat.flat_map-append, Elements.filter_map-append, Folds.{list_any-append, list_all-append}}
pub use Rattle.std.specs.{Cmp.{first_so, second_so}, List.{list_any, last_or, flat_map, cons_option, list_all}, Option.option_map_or}
pub use Rattle.std.specs.{Option.{option_map, option_or}, Prelude.{Option, Some, None, is_some, filter_map, ◌||◌, ◌&&◌, not, ◌-◌, ◌==◌}}
pub use Rattle.std.specs.{Prelude.{nat_le, nat_lt, min, length, if◌then◌else◌, codes, filter, is_none, take, drop}, Str.Lines.lines}
pub use Rattle.mpslp_decimal.specs.Decimal.{Number}
pub use Rattle.mpslp_types.proofs.BoolLemmas.{or_left, or_right, both_so, true_from, both_false, either, either_more, so_not, nor, not_so}
pub use Rattle.mpslp_types.{proofs.BoolLemmas.back, specs.FaultOrder.{kind_rank, least_kind}}
pub use Rattle.mpslp_types.specs.{Lists.{when, those_of, is_nonempty, head_of, are_distinct}, Name.{same_bytes, is_one_of, is_mps_name}}
pub use Rattle.mpslp_types.specs.declared.faults.{BuildFault.BuildFault, Fault.Fault, FaultKind.FaultKind}
pub use Rattle.mpslp_types.specs.declared.faults.FaultKind.TheVariants.{LineTooLong, BadByte, MissingEnd, NoColumns, DuplicateBound}
pub use Rattle.mpslp_types.specs.declared.faults.FaultKind.TheVariants.{DuplicateRange, DuplicateRhs, RangeOnFree, SemiContinuous}
pub use Rattle.mpslp_types.specs.declared.kinds.{Limit.Limit, RowType.{RowType, TheVariants.Free}, Sense.Sense}
pub use Rattle.mpslp_model_core.specs.Model.{CoefficientKey}
pub use Rattle.mpslp_builder.proofs.SlotLemmas.{itself_named, extends-in_turn, more_entries, Extends, is_objective-after, has-put}
pub use Rattle.mpslp_builder.proofs.SlotLemmas.{same_name, has-put_key, at-put}
pub use Rattle.mpslp_builder.proofs.RefusalLemmas.{HasDeclaredNames, HasKindsApart, none-fine, empty_declared_names, empty_kinds_apart}
pub use Rattle.mpslp_builder.specs.{Consistency.{has_one_constant, declares_objective}, Declaration.{declare_column, declare_marked}}
pub use Rattle.mpslp_builder.specs.Declaration.{declare_coefficient, Draft, with_declaration, with_declarations, has_name, Declaration}
pub use Rattle.mpslp_builder.specs.Declaration.{declare_lower, declare_upper, declare_integer, declare_semi, has_column, by_type}
pub use Rattle.mpslp_builder.specs.Declaration.{declare_sense, declare_objective, declare_constant, declare_row, declare_rhs, declare_range}
pub use Rattle.mpslp_builder.specs.Declaration.{declare_binary, Declarations, empty_draft, draft_of, is_integer, is_semi, has_row}
pub use Rattle.mpslp_builder.specs.Declaration.{is_free_row, rhs_declared, is_objective, is_row_by_limits, RowDefinition, has_coefficient}
pub use Rattle.mpslp_builder.specs.{Declaration.{is_free_definition, is_definition_by_limits}, FileFault.{named_kinds, whole_fault}}
pub use Rattle.mpslp_builder.specs.{FileFault.{names_with, named_faults, file_fault}, Refusal.{refusal_tests, refusals_in_turn}}
pub use Rattle.mpslp_lines.proofs.{FieldLemmas.name-legal, FirstFaultLemmas.faultless, HeldLemmas.{first_test, later_tests}}
pub use Rattle.mpslp_lines.proofs.{LeastLemmas.{lesser, earlier_of, least-append, least-none}, ObjectiveLemmas.named-after}
pub use Rattle.mpslp_lines.specs.Declaring.{declaring_faults, first_fault}
pub use Rattle.mpslp_lines.specs.FaultTests.{value_of, kind_of_build_fault, fault_on_line, is_kind, has_legal_length, is_legal_byte}
pub use Rattle.mpslp_lines.specs.FaultTests.{FaultTests, number_tests, judged_by, name_tests, number_fault, has_number_fault}
pub use Rattle.mpslp_mps_fields.specs.DataLine.{Pair, ValuesLine, column_shape, is_marker_line, opening_word, BoundLine, bound_type}
pub use Rattle.mpslp_mps_fields.specs.DataLine.{bound_shape, closing_word, is_integer_type, is_semi_type, word_shape, row_shape, row_type}
pub use Rattle.mpslp_mps_fields.specs.DataLine.{vector_shape, marker_shape, sense_of, RowLine}
pub use Rattle.mpslp_mps_fields.specs.Line.{Fields, LineContent, skipped, header, data_line, section_named, is_section, content_of}
pub use Rattle.mpslp_mps_fields.specs.Line.{outside_comment, has, takes_word, may_follow, section_of_header, begins, section_of_word_due}
pub use Rattle.mpslp_mps_fields.specs.declared.{bound_types.BoundType.BoundType, sections.Section.{Section, TheVariants.Columns}}
pub use Rattle.mpslp_mps_fields.specs.declared.sections.Section.TheVariants.{Name, ObjSense, ObjName, Rows, Rhs, Ranges, Bounds, EndData}
pub use Rattle.mpslp_mps.proofs.{FedLemmas.{objname-push, word_due-push, up_to_end, up_to_end-last, up_to_end-more}, OrderLemmas.item-form}
pub use Rattle.mpslp_mps.proofs.OrderLemmas.{form_faults, are_well_formed, lines-good, no_faults, items-good, declares_column, no_columns}
pub use Rattle.mpslp_mps.proofs.OrderLemmas.{column-after, declares-itself, columns-kept, each-flat, IsGood, never}
pub use Rattle.mpslp_mps.proofs.OrderLemmas.{sense-passes, no_rows, rows-kept, header-fresh}
pub use Rattle.mpslp_mps.proofs.OrderLemmas.{header-begins, header-complete, header-ordered, data_lines-push, has_section-push}
pub use Rattle.mpslp_mps.proofs.{OrderLemmas.{said_after-push, current_section-push}, ModelOrFault.{no-rows-data, good-first, good-rest}}
pub use Rattle.mpslp_mps.proofs.WorkedFiles.{small, ranges, semi_columns, maximized, integer_bounds, text, Passes, binary_bound}
pub use Rattle.mpslp_mps.proofs.WorkedFiles.{integer_without_upper, constant, negative_upper, infinite_bounds, named_on_header}
pub use Rattle.mpslp_mps.proofs.WorkedFiles.{small_with_returns, small_with_text_after_end, small_maximized}
pub use Rattle.mpslp_mps.specs.Context.{context_of, current_section, fields_under, data_lines, marker_word, line_column, Context}
pub use Rattle.mpslp_mps.specs.Context.{said_after, vector_set, bound_set, word_due, seen_sections, data_lines_after, objname_word, objname}
pub use Rattle.mpslp_mps.specs.Context.{section_after, last_column, is_read, word_due_after}
pub use Rattle.mpslp_mps.specs.{FirstFault.{line_fault, first_line_fault, whole_mps_fault, first_mps_fault}, LegalLine.is_legal_line}
pub use Rattle.mpslp_mps.specs.LineDeclarations.{declared_if_some, coefficient_declared, column_declared, line_declares, bound_declared}
pub use Rattle.mpslp_mps.specs.LineDeclarations.{bound_value, bound_line_declared, columns_line_declared, data_declared, header_declared}
pub use Rattle.mpslp_mps.specs.LineDeclarations.{row_of_type, row_declared, rhs_line_declared, ranges_declared, sense_declared}
pub use Rattle.mpslp_mps.specs.LineFault.{is_split, data_tests, item_tests, line_tests, lacks_objective, section_tests, header_tests}
pub use Rattle.mpslp_mps.specs.LineFault.{set_tests, may_begin, marker_tests, column_tests, vector_tests, bound_tests, bound_line_tests}
pub use Rattle.mpslp_mps.specs.LineFault.{literals_of, row_line_tests, is_sos_marker, marker_word_tests, columns_line_tests}
pub use Rattle.mpslp_mps.specs.{LineFault.typed_bound_tests, MpsText.{LineInContext, read_lines, has_end, declared_at, tests_at}}
pub use Rattle.mpslp_mps.specs.MpsText.{lines_in_context_after, lines_in_context, declarations_of, is_mps_text, is_end, is_well_formed}
pub use Rattle.mpslp_mps.specs.SeenSection.{has_section}
pub use Rattle.mpslp_mps_sentences.specs.FaultsInWords.{IsFaultOfLine, IsInWords, names_row, has_default_objective, is_row, pairs_in}
pub use Rattle.mpslp_mps_sentences.specs.FaultsInWords.{names_unknown_row, bound_column, names_column, names_unknown_column, has_row_twice}
pub use Rattle.mpslp_mps_sentences.specs.FaultsInWords.{repeats_section, comes_early, comes_late, has_its_word, is_without_word, is_closed}
pub use Rattle.mpslp_mps_sentences.specs.FaultsInWords.{occurs_out_of_order, breaks_turn, is_wrong_marker, differs_from, has_second_set}
pub use Rattle.mpslp_mps_sentences.specs.FaultsInWords.{is_of_second_set, splits_column, row_name, is_named, is_free_row_line, has_entry_of}
pub use Rattle.mpslp_mps_sentences.specs.{FaultsInWords.{repeats_row, column_line, repeats_entry_of, repeats_entry}, Laws.TextIsInWords}
pub use Rattle.mpslp_mps_sentences.specs.TextInWords.{same_column, strays, stray_lines, takes_data, words_in, has_word_at_most, is_sense}
pub use Rattle.mpslp_mps_sentences.specs.TextInWords.{is_row_line, is_columns_line, is_vector_line, is_bound_line, alternate, are_together}
pub use Rattle.mpslp_mps_sentences.specs.TextInWords.{is_one_set, section_rank, has_named_objective, is_number, have_numbers, in_order}
pub use Rattle.mpslp_mps_sentences.specs.TextInWords.{same_section, are_good_sections, may_have_more, is_good_header, word_fields}
pub use Rattle.mpslp_mps_sentences.specs.TextInWords.{is_free_row_named, has_free_row, is_free, entries_after, is_text_in_words}
pub use Rattle.mpslp_mps_sentences.specs.TextInWords.{is_one_word, are_good_together}
pub use Rattle.mpslp_mps_sentences.specs.ValueFaultsInWords.{opens_block, block_lines, is_in_block, is_line_of, gives_lower, gives_upper}
pub use Rattle.mpslp_mps_sentences.specs.ValueFaultsInWords.{is_such_bound, has_bound, repeats_bound_of, repeats_bound, is_integer_column}
pub use Rattle.mpslp_mps_sentences.specs.ValueFaultsInWords.{clashes_with, makes_both_kinds, is_without_limits, ranges_free_row}
pub use Rattle.mpslp_mps_sentences.specs.ValueFaultsInWords.{has_value_of, repeats_row_of, repeats_range, takes_side, repeats_side}
pub use Rattle.mpslp_mps_sentences.specs.ValueFaultsInWords.{free_row_name, names_objective}
