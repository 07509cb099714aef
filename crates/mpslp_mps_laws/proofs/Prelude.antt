-- The names that the proofs of this crate use of the logic, of std, of the crates below and of `specs/`.
pub use mathlib.Core.Path.{subst₂}
pub use Rattle.std.proofs.Common.{arith, ◌≡◌, refl, List, [], ◌∷◌, ℕ, true, false, map, sym, ap, ◌∙◌, ◌++◌, Bool, cond, subst, append_assoc}
pub use Rattle.std.proofs.Common.{not, rules, drop, get_or, suc, ◌<◌, length, ◌+◌, take, ◌≤◌, ◌*◌, length-append}
pub use Rattle.std.proofs.lemmas.Bool.{ltb-true, leb-true, Decides.nat_tests}
pub use Rattle.std.proofs.lemmas.List.{map-append, append-nil, Concat.flat_map-append, Elements.filter_map-append}
pub use Rattle.std.specs.Cmp.{first_so, second_so, Lexicographic.{texts_ties, nat_list_eq_equiv}}
pub use Rattle.std.specs.FinMap.{find, is_sorted, entries-from_sorted, entries_sorted, Entries.below_all}
pub use Rattle.std.specs.List.{flat_map, list_all, cons_option, last_or, list_any, before_first, after_first, position_or_len, slice_split}
pub use Rattle.std.specs.{Option.{option_map_or, option_map, option_or}, Ordering.eq_by_cmp, Prelude.{Some, Ok, Option, None, codes}}
pub use Rattle.std.specs.Prelude.{is_none, ◌||◌, is_some, filter, filter_map, ◌&&◌, unwrap_or, nat_lt, nat_le, ◌==◌}
pub use Rattle.std.specs.{Str.Lines.lines, declared.cmp.Ordering.Ordering}
pub use Rattle.mpslp_decimal.proofs.{CutLemmas.after-none, NumberTextLemmas.{number-text, zero-is, read-short}, OrderLemmas.same_decimal}
pub use Rattle.mpslp_decimal.specs.Decimal.{Number, is_zero, negated, zero_number, is_decimal, IsDecimal, is_infinite_size, have_same_value}
pub use Rattle.mpslp_decimal.specs.Literal.{number_of, is_digit, is_point, is_exponent_mark, without_sign, are_digits, exponent_part}
pub use Rattle.mpslp_decimal.specs.{Literal.is_literal, NumberText.number_text}
pub use Rattle.mpslp_types.proofs.BoolLemmas.{both_false, both_so, T_from, not_so, back, nor, so_not, or_left, or_right, true_from}
pub use Rattle.mpslp_types.proofs.EachLemmas.{Each, Each-weaker, Each-all, Each-append, Each-flat_map, Each-filter, Each-map}
pub use Rattle.mpslp_types.proofs.EachLemmas.{list_all-from_Each, Each-both, Each-from_list_all}
pub use Rattle.mpslp_types.specs.Limit.{limit_of, is_bounded_decimal, is_lower_side, is_upper_side, has_bounded_distance, are_sides}
pub use Rattle.mpslp_types.specs.{Lists.{are_distinct, those_of, when, is_nonempty}, Name.{same_bytes, is_one_of, is_mps_name, marker}}
pub use Rattle.mpslp_types.specs.{Name.{bytes_cmp, is_visible, has_name_length}, declared.faults.{BuildFault.BuildFault, Fault.Fault}}
pub use Rattle.mpslp_types.specs.declared.{faults.NameAt.NameAt, kinds.Kind.{Kind, TheVariants.{Continuous, Integer, Semi}}}
pub use Rattle.mpslp_types.specs.declared.kinds.Limit.{Limit, TheVariants.{MinusInf, Finite, PlusInf}}
pub use Rattle.mpslp_types.specs.declared.kinds.{RowType.{RowType, TheVariants.Free}, Sense.{Sense, TheVariants.{Minimize, Maximize}}}
pub use Rattle.mpslp_model_core.proofs.CellLemmas.{puts, find-front, some_cons, some_append_left, some_append_right, puts-append}
pub use Rattle.mpslp_model_core.{proofs.CellLemmas.equal_from, specs.Limits.{plain_limits, has_infinite_rhs}}
pub use Rattle.mpslp_model_core.specs.Model.{Column, Row, Listing, LinearModel, IsSound, listing_of, CoefficientKey, key_cmp, suits}
pub use Rattle.mpslp_model_core.specs.Model.{is_sound_row, is_sound_column, is_integer_column as has_integer_kind}
pub use Rattle.mpslp_builder.proofs.BoundsLemmas.{is_semi_kind, column_back, lower_stated, upper_stated, row_back, side-stated}
pub use Rattle.mpslp_builder.proofs.SlotLemmas.{flat_map-flat_map, flat-same, flat-none, kept-all, Stays, stays-all, value_in, itself_named}
pub use Rattle.mpslp_builder.proofs.{SlotLemmas.{same_name, has-put}, EntryLemmas.{IsNew, Apart, distinct-flat_map, distinct-sorted}}
pub use Rattle.mpslp_builder.proofs.EntryLemmas.{distinct-append, puts-kept, found-each, filter-not_not, found-either, first_there}
pub use Rattle.mpslp_builder.proofs.EntryLemmas.{then_stated, stated, all_stated, sorted-kept, find-puts, puts-own, find-kept}
pub use Rattle.mpslp_builder.proofs.EntryLemmas.{sorted-stated, find-stated, model-back, columns-back, no-negative_upper, binary-within}
pub use Rattle.mpslp_builder.proofs.EntryLemmas.{any-name, names_sorted, at-mapped, named, own-found, one_of-names, parted-give}
pub use Rattle.mpslp_builder.proofs.DraftEntries.{same_key, coefficients-all, rows-all, rhs_values-all, ranges-all, columns-all, lowers-all}
pub use Rattle.mpslp_builder.proofs.DraftEntries.{uppers-all, marked-all, integers-all, binaries-all, semis-all, column_part, row_part}
pub use Rattle.mpslp_builder.proofs.DraftEntries.{rhs_part, range_part, coefficient_part, lower_part, upper_part, marked_part, binary_part}
pub use Rattle.mpslp_builder.proofs.DraftEntries.{semi_part, key_total_sorted as key_total, bytes_total, tied_names}
pub use Rattle.mpslp_builder.proofs.DraftEntries.{row_named, column_named, no_marker}
pub use Rattle.mpslp_builder.proofs.DraftEntries.{later_differ, row_sides, row_distance, column_sides, bounded_so, bounded_finite, lower_of}
pub use Rattle.mpslp_builder.proofs.{DraftEntries.{upper_of, column_suited}, MadeDrafts.with_declarations-append, TableDrafts.none_there}
pub use Rattle.mpslp_builder.specs.Consistency.{Slot, lower_slot, upper_slot, same_slot, slots_of, AreConsistent, row_slot, rhs_slot}
pub use Rattle.mpslp_builder.specs.Consistency.{range_slot, all_slots, is_known, is_allowed, declares_objective, sense_slot, objective_slot}
pub use Rattle.mpslp_builder.specs.{Consistency.{constant_slot, coefficient_slot}, Declaration.{declare_lower, declare_upper, declare_semi}}
pub use Rattle.mpslp_builder.specs.Declaration.{Declarations, Draft, empty_draft, is_free_row, names_in, declare_column, declare_marked}
pub use Rattle.mpslp_builder.specs.Declaration.{declare_coefficient, with_declarations, has_column, RowDefinition, draft_of, at_name}
pub use Rattle.mpslp_builder.specs.Declaration.{has_name, declare_sense, declare_objective, with_declaration, Declaration, by_type}
pub use Rattle.mpslp_builder.specs.Declaration.{is_free_definition, has_row, is_integer, is_semi, is_objective, declare_row, declare_rhs}
pub use Rattle.mpslp_builder.specs.{Declaration.declare_range, Meaning.{Means, column_of, objective_name, constant_of, row_entry, model_of}}
pub use Rattle.mpslp_builder.specs.Meaning.{rhs_or_zero, row_limits, row_passes, DraftMeans}
pub use Rattle.mpslp_lines.proofs.{ObjectiveLemmas.named-after, WrittenLineLemmas.{IsPlain, lines-with_line_feeds}}
pub use Rattle.mpslp_lines.specs.FaultTests.{FaultTests, name_tests, number_tests, is_legal_byte, has_legal_length}
pub use Rattle.mpslp_lines.specs.declared.legal_line.TheConstants.{MAX_LINE_LEN}
pub use Rattle.mpslp_mps_fields.specs.DataLine.{letters_of, opening_word, closing_word, letter_of}
pub use Rattle.mpslp_mps_fields.specs.Line.{Fields, LineContent, data_line, content_of, begins, header, keyword_of, section_of_header}
pub use Rattle.mpslp_mps_fields.specs.Line.{section_named, is_section, has, skipped, header_of, fields, is_blank, is_comment}
pub use Rattle.mpslp_mps_fields.specs.{Line.outside_comment, declared.{bound_types.BoundType.BoundType, sections.Section.Section}}
pub use Rattle.mpslp_mps_fields.specs.declared.sections.Section.TheVariants.{Bounds, Columns, Rhs, Ranges, EndData, Name, ObjSense, Rows}
pub use Rattle.mpslp_mps.proofs.{FedLemmas.{objname-push, word_due-push}, OrderLemmas.{form_faults, declared_items, are_well_formed}}
pub use Rattle.mpslp_mps.proofs.OrderLemmas.{lines-declare, lines-good, data_lines-push, last_or-append, current_section-push}
pub use Rattle.mpslp_mps.proofs.{OrderLemmas.{has_section-append, has_section-cons, or_false}, ModelOrFault.model-or_fault}
pub use Rattle.mpslp_mps.proofs.WorkedFiles.{draft_in, Passes, declares-from_passes, tests, passes-from_tests}
pub use Rattle.mpslp_mps.specs.Context.{Context, context_of, current_section, data_lines, bound_set, is_read, marker_word, in_integer_part}
pub use Rattle.mpslp_mps.specs.Context.{line_column, last_column, objname, fields_under, data_lines_after, word_due_after, word_due}
pub use Rattle.mpslp_mps.specs.{Context.{vector_set, first_set}, FirstFault.IsFirstMpsFault, Laws.{DeclareOneModel, HaveOneFirstFault}}
pub use Rattle.mpslp_mps.specs.{LegalLine.is_legal_line, LineDeclarations.line_declares, LineFault.{set_tests, may_begin, is_out_of_order}}
pub use Rattle.mpslp_mps.specs.{MpsText.{read_lines, declarations_of, DeclaresMps, is_end}, SeenSection.has_section}
pub use Rattle.mpslp_mps_text.specs.CanonicalMps.{Lines, under_header, row_line, vector_line, coefficient_line, column_coefficients}
pub use Rattle.mpslp_mps_text.specs.CanonicalMps.{printed_coefficients, column_lines, rhs_lines, row_rhs_lines, range_lines}
pub use Rattle.mpslp_mps_text.specs.CanonicalMps.{canonical_mps, cell_at, is_integer_column, is_plain_column, text_of, listed_lines}
pub use Rattle.mpslp_mps_text.specs.CanonicalMps.{sense_lines, integer_part, columns_section, bound_line, column_bound_lines}
pub use Rattle.mpslp_mps_text.specs.CanonicalMps.{header_line, objective_line, rows_section, marker_line, rhs_section, ranges_section}
pub use Rattle.mpslp_mps_text.specs.CanonicalMps.{bounds_section, canonical_lines, PrintedLine, line_text, heading, short_line}
pub use Rattle.mpslp_mps_text.specs.CanonicalMps.{long_line, fields_text}
pub use Rattle.mpslp_mps_laws.specs.Laws.{IsReadAsPrinted, DeclareTheirModels}
pub use Rattle.mpslp_mps_laws.specs.{Laws.{DistinguishModels, AreReadAsPrinted}, PrintedDeclarations.{content_in, DeriveHeaders}}
pub use Rattle.mpslp_mps_laws.specs.PrintedDeclarations.{DeriveSense, DeriveAllRows, DeriveAllColumns, is_set_of, DeriveRhs}
pub use Rattle.mpslp_mps_laws.specs.PrintedDeclarations.{DeriveRanges, DeriveAllBounds}
pub use Rattle.mpslp_mps_text.specs.PrintedValues.{PrintedBound, printed_bounds}
pub use Rattle.mpslp_mps_text.specs.PrintedValues.{printed_type, printed_rhs, printed_range, printed_upper, printed_lower}
