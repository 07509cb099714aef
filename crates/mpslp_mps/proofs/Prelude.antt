-- The names that the proofs of this crate use of the logic, of std, of the crates below and of `specs/`.
pub use Rattle.std.proofs.Common.{arith, rules, ◌≡◌, refl, sym, ap, ◌∙◌, ℕ, List, [], ◌∷◌, ◌++◌, Bool, true, false, cond, map, suc, take}
pub use Rattle.std.proofs.{Common.{subst, ◌+◌, ◌^◌, min, length, Bor, append_assoc}, lemmas.Bool.{false≢true, Decides.nat_tests}}
pub use Rattle.std.proofs.lemmas.List.{append-nil, length-append, Elements.{filter_map-append, filter-append}}
pub use Rattle.std.{proofs.lemmas.List.Folds.{list_any-append, list_all-append}, specs.{Cmp.{first_so, second_so}, FinMap.{find, put}}}
pub use Rattle.std.specs.List.{list_any, list_all, flat_map, last_or, cons_option, position_or_len}
pub use Rattle.std.specs.{Option.{option_map, option_map_or, option_or}, Prelude.{not, ◌&&◌, ◌||◌, Option, Some, None, is_some, Ok, Err}}
pub use Rattle.std.specs.{Prelude.{filter_map, ◌-◌, if◌then◌else◌, ◌==◌, Result, is_none, MatchResult, ◌≢◌, drop, codes}, Str.Lines.lines}
pub use Rattle.mpslp_decimal.specs.Decimal.{Number, is_infinite_size}
pub use Rattle.mpslp_types.{proofs.BoolLemmas.{nor, both_so, or_left, or_right}, specs.{FaultOrder.least_kind, Limit.limit_of}}
pub use Rattle.mpslp_types.specs.{Limit.{is_plus_infinite, is_minus_infinite, is_given}, Lists.{those_of, when, head_of, is_nonempty}}
pub use Rattle.mpslp_types.specs.{Name.{is_mps_name, same_bytes}, NameTests.name_refusal, declared.faults.BuildFault.BuildFault}
pub use Rattle.mpslp_types.specs.declared.faults.{Fault.Fault, FaultKind.{FaultKind, TheVariants.{UnknownColumn, SemiContinuous}}}
pub use Rattle.mpslp_types.specs.declared.faults.FaultKind.TheVariants.{MissingEnd, LineTooLong, BadByte, BadMarker, BadNumber, BadType}
pub use Rattle.mpslp_types.specs.declared.faults.FaultKind.TheVariants.{BoundsCrossed, ColumnSplit, DuplicateBound, DuplicateEntry}
pub use Rattle.mpslp_types.specs.declared.faults.FaultKind.TheVariants.{DuplicateRhs, DuplicateRow, FieldCount, Indicator, InfiniteLimit}
pub use Rattle.mpslp_types.specs.declared.faults.FaultKind.TheVariants.{InfiniteValue, LimitTooLarge, NegativeUpper, NoColumns, Quadratic}
pub use Rattle.mpslp_types.specs.declared.faults.FaultKind.TheVariants.{RangeOnFree, SecondSet, SectionOrder, SectionRepeated, SemiBounds}
pub use Rattle.mpslp_types.specs.declared.faults.{FaultKind.TheVariants.{Sos, UnknownRow, UnknownSection}, ReadFault.ReadFault}
pub use Rattle.mpslp_types.specs.declared.kinds.{Limit.Limit, RowType.{RowType, TheVariants.{Free, AtMost, AtLeast, Equal}}, Sense.Sense}
pub use Rattle.mpslp_model_core.specs.Model.{CoefficientKey, key_cmp, LinearModel}
pub use Rattle.mpslp_builder.proofs.{MeaningFromNoFault.{means-from_none, none-from_means}, MadeDrafts.column_is_legal}
pub use Rattle.mpslp_builder.proofs.MadeDrafts.{with_declarations-append, declared_names-from_made, refusals_in_turn-append}
pub use Rattle.mpslp_builder.proofs.SlotLemmas.{itself_named, objective_is, more_entries, has-put, at-put, same_name}
pub use Rattle.mpslp_builder.proofs.RefusalLemmas.{are_known_in_turn, join_none, left_none, right_none}
pub use Rattle.mpslp_builder.specs.{Answer.{Answers, first_refusal, Answer}, Bounds.{zero_limit, one_limit}}
pub use Rattle.mpslp_builder.specs.{ColumnLine.{column_line, TakesLine}, Consistency.{is_known, has_objective}}
pub use Rattle.mpslp_builder.specs.Declaration.{Declaration, declare_integer, declare_semi, declare_lower, declare_upper, Draft}
pub use Rattle.mpslp_builder.specs.Declaration.{with_declaration, with_declarations, has_name, has_column, is_integer, is_semi}
pub use Rattle.mpslp_builder.specs.Declaration.{bounds_declared, declare_column, declare_marked, Declarations, declare_coefficient, has_row}
pub use Rattle.mpslp_builder.specs.Declaration.{has_coefficient, empty_draft, declare_rhs, declare_range, is_free_row, rhs_declared}
pub use Rattle.mpslp_builder.specs.Declaration.{draft_of, RowDefinition, by_type, declare_objective, declare_constant, declare_row}
pub use Rattle.mpslp_builder.specs.{Declaration.{declare_sense, is_objective, is_row_by_limits}, FileFault.{whole_fault, file_fault}}
pub use Rattle.mpslp_builder.specs.{Finish.Finishes, Made.{IsMade, is_legal}, Meaning.{model_of, Means}}
pub use Rattle.mpslp_builder.specs.Refusal.{refusals, bounds_refusals, bounds_tests, refusals_in_turn}
pub use Rattle.mpslp_lines.proofs.AnswerLemmas.{no_fault-unless, model-or_fault as one_of_both, finished-answers}
pub use Rattle.mpslp_lines.proofs.ClashLemmas.{has_kind_clash, says_no_kind, no-clash}
pub use Rattle.mpslp_lines.proofs.{DeclaringLemmas.{declared-after, are_from, from-earlier}, FieldLemmas.{name-legal, value-decimal}}
pub use Rattle.mpslp_lines.proofs.{FieldLemmas.limit-given, FirstFaultLemmas.{form-first, is_after_clash, legal-only, faultless, no_fault}}
pub use Rattle.mpslp_lines.proofs.FirstFaultLemmas.{too-long, bad-byte, legal-first, clash-first, declared-first, IsFaultless}
pub use Rattle.mpslp_lines.proofs.HeldLemmas.{held-third, held-among, later_tests, first_test}
pub use Rattle.mpslp_lines.proofs.LeastLemmas.{earlier_of, is_from, stays-least, least-those_of, least-append, lesser, are_rising}
pub use Rattle.mpslp_lines.proofs.ObjectiveLemmas.{objective-declared, named-after}
pub use Rattle.mpslp_lines.proofs.RefusedLemmas.{kind_tests, declared-append, call-refused, tests-none, tests-error, declared-one}
pub use Rattle.mpslp_lines.specs.{Declaring.{declared_fault, is_kind_clash, declaring_faults}, ErrorOf.error_of_build}
pub use Rattle.mpslp_lines.specs.FaultTests.{value_of, first_held, FaultTests, judged_by, name_tests, number_tests, has_legal_length}
pub use Rattle.mpslp_lines.specs.FaultTests.{is_legal_byte, fault_on_line, kind_of_build_fault}
pub use Rattle.mpslp_lines.specs.{LineAnswer.{IsErrorOf, IfFault, LineResult, AreDeclared, IsFaultOn}, LinesRead.RefusesLines}
pub use Rattle.mpslp_lines.specs.declared.errors.LineError.{LineError, TheVariants.OutOfMemory}
pub use Rattle.mpslp_mps_fields.specs.DataLine.{BoundLine, bound_type, bound_shape, is_integer_type, is_semi_type, ValuesLine, column_shape}
pub use Rattle.mpslp_mps_fields.specs.DataLine.{is_marker_line, opening_word, Pair, word_shape, row_shape, vector_shape, RowLine, row_type}
pub use Rattle.mpslp_mps_fields.specs.DataLine.{sense_of, marker_shape}
pub use Rattle.mpslp_mps_fields.specs.Line.{Fields, data_line, LineContent, section_of_header, content_of, outside_comment, is_section}
pub use Rattle.mpslp_mps_fields.specs.Line.{begins, skipped, header, header_of, fields, is_blank, is_comment, is_skipped, is_data}
pub use Rattle.mpslp_mps_fields.specs.{Line.{section_named, has, may_follow, section_of_word_due}, ObjNameHeader.header_objname}
pub use Rattle.mpslp_mps_fields.specs.declared.{bound_types.BoundType.BoundType, sections.Section.{Section, TheVariants.ObjSense}}
pub use Rattle.mpslp_mps_fields.specs.declared.sections.Section.TheVariants.{Rows, Columns, Rhs, Ranges, Bounds, EndData, Name, ObjName}
pub use Rattle.mpslp_mps.specs.{ColumnDeclared.{front_declared, value_declared, HasLastColumn}, Context.{Context, is_read, word_due_after}}
pub use Rattle.mpslp_mps.specs.Context.{word_due, said_after, objname_word, objname, marker_word, line_column, vector_set, bound_set}
pub use Rattle.mpslp_mps.specs.Context.{first_set, current_section, data_lines, context_of, section_after, fields_under}
pub use Rattle.mpslp_mps.specs.ContextStep.{after_header, after_objname, after_marker, after_column, after_set, after_data}
pub use Rattle.mpslp_mps.specs.{Fed.{lines_fault, LedTo, HasRead, IsFaultOfLines}, FedLaws.{to_end-last, to_end-more}}
pub use Rattle.mpslp_mps.specs.FirstFault.{line_fault, first_mps_fault, first_line_fault, whole_mps_fault}
pub use Rattle.mpslp_mps.specs.{KindClash.{type_clash, column_clash, bound_clash}, Laws.{DeclareUnlessFaulty, DeclareOrFail}}
pub use Rattle.mpslp_mps.specs.{LegalLine.is_legal_line, LineAnswer.{item_fault, ReadsContent, MayRead}}
pub use Rattle.mpslp_mps.specs.LineByLine.{placed_in, draft_after, context_after, fault_from, draft_from, context_from}
pub use Rattle.mpslp_mps.specs.LineDeclarations.{lower_given, upper_given, kind_declared, bound_declared, bound_line_declared}
pub use Rattle.mpslp_mps.specs.LineDeclarations.{declared_if_some, coefficient_declared, column_declared, bound_value, data_declared}
pub use Rattle.mpslp_mps.specs.LineDeclarations.{header_declared, line_declares, sense_declared, row_declared, columns_line_declared}
pub use Rattle.mpslp_mps.specs.{LineDeclarations.{rhs_line_declared, ranges_declared, is_new_objective, row_of_type}, LineFault.literals_of}
pub use Rattle.mpslp_mps.specs.LineFault.{is_split, marker_tests, column_tests, data_tests, item_tests, line_tests, header_tests}
pub use Rattle.mpslp_mps.specs.LineFault.{row_line_tests, columns_line_tests, may_begin, is_out_of_order, lacks_objective, section_tests}
pub use Rattle.mpslp_mps.specs.LineFault.{word_tests, is_sos_marker, marker_word_tests, typed_bound_tests, vector_tests, bound_line_tests}
pub use Rattle.mpslp_mps.specs.{LineValues.{named_values, row_value}, MpsText.{declared_at, is_well_formed, lines_in_context_after, is_end}}
pub use Rattle.mpslp_mps.specs.MpsText.{LineInContext, read_lines, has_end, tests_at, lines_in_context, declarations_of, DeclaresMps}
pub use Rattle.mpslp_mps.specs.{MpsText.is_mps_text, NextContext.{changed_under, next_part, next_set, next_context, without_names}}
pub use Rattle.mpslp_mps.specs.{NextContext.kept_context, ReadAnswer.{lines_to_end, ReadsLine, ReadsMps}, SeenSection.has_section}
pub use Rattle.mpslp_mps.specs.UsualLine.{usual_declared, TakesUsual, MayPass}
pub use Rattle.mpslp_mps.specs.{VectorDeclared.{HasMpsSides, rhs_values_declared, ranges_of}, declared.line_reader.LineReader.LineReader}
