-- The names that the proofs of this crate use of the logic, of std, of the crates below and of `specs/`.
pub use Rattle.std.proofs.Common.{arith, ◌≡◌, refl, sym, ap, subst, ◌∙◌, ℕ, List, [], ◌∷◌, ◌++◌, Bool, true, false, append_assoc, map, not}
pub use Rattle.std.proofs.Common.{length, rules, ◌+◌, zero, suc, ◌≤◌, replicate, ◌*◌, length-append, cond, take, drop, ◌<◌, ◌-◌, ◌^◌}
pub use Rattle.std.proofs.lemmas.{Bool.{le-ltb, eqb-true, leb-true, lt-ltb, ltb-true, Decides.nat_tests}, List.append-nil}
pub use Rattle.std.{proofs.lemmas.List.{length-replicate, Concat.{flat_map_single, flat_map-append}}, specs.Cmp.{first_so, second_so}}
pub use Rattle.std.specs.{Cmp.IsTotalOrder, FinMap.{put, entries, entries-from_sorted, is_sorted, from_sorted, find, entries_sorted}}
pub use Rattle.std.specs.{Fmt.decimal, List.{flat_map, list_all, prefix_len, join_by, list_any, cons_option, before_first, after_first}}
pub use Rattle.std.specs.{List.{position_or_len, enumerate_from}, Option.{option_map, option_map_or}, Ordering.{eq_by_cmp, is_lt}}
pub use Rattle.std.specs.Prelude.{Some, None, ◌||◌, codes, if◌then◌else◌, is_some, Option, unwrap_or, filter, ◌&&◌, ◌==◌, ℤ, pos, negsuc}
pub use Rattle.std.specs.{Prelude.{unsigned_abs, int_le, nat_le, filter_map, nat_lt, is_none, position}, declared.cmp.Ordering.Ordering}
pub use Rattle.mpslp_decimal.proofs.CutLemmas.{Each, before-none, after-none, AreDigits, decimal-spells, zeros_are_digits}
pub use Rattle.mpslp_decimal.proofs.{NumberTextLemmas.{number-text, read-short, zero-is}, OrderLemmas.same_decimal}
pub use Rattle.mpslp_decimal.specs.Decimal.{Number as Decimal, is_zero, is_negative, size_of, have_same_value, zero_number, Number}
pub use Rattle.mpslp_decimal.specs.{Decimal.{is_decimal, IsDecimal}, Literal.{is_digit, is_sign, is_point, is_exponent_mark, without_sign}}
pub use Rattle.mpslp_decimal.specs.Literal.{are_digits, unsigned_part, mantissa_digits, exponent_part, is_literal}
pub use Rattle.mpslp_decimal.specs.NumberText.{number_text, with_point, scaled_text}
pub use Rattle.mpslp_types.proofs.BoolLemmas.{both_so, or_left, or_right, both_false, T_from, nor, not_so, so_not, true_from}
pub use Rattle.mpslp_types.proofs.EachLemmas.{Each-from_list_all, Each-flat_map, list_all-from_Each, Each-weaker, Each-append, Each-all}
pub use Rattle.mpslp_types.{proofs.EachLemmas.{Each-map, Each-filter, Each-both}, specs.Limit.limit_of}
pub use Rattle.mpslp_types.specs.Limit.{are_sides, is_lower_side, is_upper_side, is_bounded_decimal, is_plus_infinite, is_minus_infinite}
pub use Rattle.mpslp_types.specs.{Lists.are_distinct, Name.{bytes_cmp, is_lp_name, is_mps_name, same_bytes, begins_a_number, is_letter}}
pub use Rattle.mpslp_types.specs.Name.{is_lp_byte, marker, has_name_length, is_like_exponent, is_reserved, is_one_of}
pub use Rattle.mpslp_types.specs.declared.{faults.Fault.Fault, kinds.{Kind.Kind, Limit.{Limit, TheVariants.{MinusInf, Finite, PlusInf}}}}
pub use Rattle.mpslp_types.specs.declared.kinds.Sense.{Sense, TheVariants.{Minimize, Maximize}}
pub use Rattle.mpslp_model_core.proofs.CellLemmas.{puts, puts-give, finds_own, some_append_left, find-front, some_cons}
pub use Rattle.mpslp_model_core.proofs.CellLemmas.{equal_from}
pub use Rattle.mpslp_model_core.proofs.CellLemmas.{some_append_right}
pub use Rattle.mpslp_model_core.specs.Limits.{plain_limits, has_infinite_rhs}
pub use Rattle.mpslp_model_core.specs.Model.{Column, LinearModel, IsSound, listing_of, Column as ColumnOf, Row, CoefficientKey, Listing}
pub use Rattle.mpslp_model_core.specs.Model.{key_cmp, is_sound_row, is_sound_column, is_sound_coefficient}
pub use Rattle.mpslp_builder.proofs.SlotLemmas.{flat_map-none, flat_map-flat_map}
pub use Rattle.mpslp_builder.proofs.EntryLemmas.{IsNew, Apart, distinct-append, distinct-flat_map}
pub use Rattle.mpslp_builder.proofs.DraftEntries.{same_key}
pub use Rattle.mpslp_builder.proofs.DraftEntries.{row_part, rhs_part, column_part, coefficient_part, lower_part, upper_part, marked_part}
pub use Rattle.mpslp_builder.proofs.DraftEntries.{integer_part, binary_part, semi_part, coefficients-all, lowers-all}
pub use Rattle.mpslp_builder.proofs.DraftEntries.{uppers-all, marked-all}
pub use Rattle.mpslp_builder.proofs.DraftEntries.{integers-all, binaries-all, semis-all, rhs_values-all, rows-all, columns-all}
pub use Rattle.mpslp_builder.proofs.EntryLemmas.{stated, all_stated, puts-kept, found-each, then_stated, puts-own, find-kept, find-stated}
pub use Rattle.mpslp_builder.proofs.EntryLemmas.{sorted-stated, sorted-kept}
pub use Rattle.mpslp_builder.proofs.SlotLemmas.{itself_named, value_in}
pub use Rattle.mpslp_builder.proofs.{MadeDrafts.{with_declarations-append, refusals_in_turn-append}, MeaningFromNoFault.sorted-mapped}
pub use Rattle.mpslp_builder.proofs.EntryLemmas.{named}
pub use Rattle.mpslp_builder.proofs.EntryLemmas.{found-any, any-name, own-found}
pub use Rattle.mpslp_builder.proofs.RefusalLemmas.{are_known_in_turn}
pub use Rattle.mpslp_builder.proofs.{RefusalLemmas.{consistent-from_none, none-from_fine_in_turn}, SlotLemmas.{has-put, same_name}}
pub use Rattle.mpslp_builder.proofs.DraftEntries.{IsSortedDraft, sorted-draft_of}
pub use Rattle.mpslp_builder.proofs.DraftEntries.{key_total_sorted as key_total, bytes_total, tied_names}
pub use Rattle.mpslp_builder.proofs.DraftEntries.{lower_of, upper_of, bounded_so, bounded_finite, column_sides, row_sides}
pub use Rattle.mpslp_builder.specs.Consistency.{is_known, AreConsistent, Slot, row_slot, rhs_slot, range_slot, coefficient_slot, lower_slot}
pub use Rattle.mpslp_builder.specs.Consistency.{upper_slot, same_slot, slots_of, all_slots, sense_slot, objective_slot, constant_slot}
pub use Rattle.mpslp_builder.specs.Consistency.{is_allowed, has_objective_rhs, has_one_constant, has_objective}
pub use Rattle.mpslp_builder.specs.Declaration.{Draft, Declarations, bounds_declared, with_declarations, empty_draft, Declaration}
pub use Rattle.mpslp_builder.specs.Declaration.{declare_objective, declare_row, declare_column, with_declaration, RowDefinition}
pub use Rattle.mpslp_builder.specs.Declaration.{declare_lower, declare_upper, draft_of, declare_constant, declare_coefficient, has_name}
pub use Rattle.mpslp_builder.specs.Declaration.{has_row, has_column, by_limits, declare_sense, declare_integer, declare_semi, at_name}
pub use Rattle.mpslp_builder.specs.Declaration.{names_in, declare_marked, declare_binary, is_integer, is_semi, have_infinite_side}
pub use Rattle.mpslp_builder.specs.Meaning.{Means, column_of, objective_name, model_of, DraftMeans, constant_of, row_entry, row_passes}
pub use Rattle.mpslp_builder.specs.Refusal.{refusals_in_turn, bounds_refusals}
pub use Rattle.mpslp_lines.specs.FaultTests.{is_legal_byte, has_legal_length, first_held, number_fault, value_of}
pub use Rattle.mpslp_lp.proofs.{ModelOrFault.{lp_names-declared, model-or_fault}, WorkedFiles.{Passes, declares-from_passes}}
pub use Rattle.mpslp_lp.specs.{Laws.{has_lp_name, has_legal_bytes}, LpText.DeclaresLp}
pub use Rattle.mpslp_lp.specs.LpText.{numbered_lines, first_own_fault, outcome, is_finished, declarations_of, sound_terminals, is_lp_text}
pub use Rattle.mpslp_lp_grammar.specs.Grammar.{no_limits, text_says, text_declares, phrase_at, may_begin_section}
pub use Rattle.mpslp_lp_grammar.specs.{Items.{apply_sign, Limits, limits_by, flip}, PartialRow.PartialRow}
pub use Rattle.mpslp_lp_grammar.specs.Phrase.{Point, start, no_section_seen, with_section, section_fault}
pub use Rattle.mpslp_lp_grammar.specs.Rows.{objective_declared, term_declared, row_limits, row_limits as limits_between, fits_left}
pub use Rattle.mpslp_lp_grammar.specs.{Rows.row_declared, Rules.{Outcome, phrases, made_by, Outcome.Finished}, Terminal.Terminal}
pub use Rattle.mpslp_lp_grammar.specs.Terminal.{TerminalAt, word_terminal, token_fault, terminal_of, line_terminals, lexical_fault}
pub use Rattle.mpslp_lp_grammar.specs.Terminal.{name_fault, word_fault, Terminal.{Name, Sign, Compares, Infinity, Opens, Colon}}
pub use Rattle.mpslp_lp_tokens.specs.declared.relations.Relation.{Relation, TheVariants.{AtMost, AtLeast, EqualTo}}
pub use Rattle.mpslp_lp_grammar.specs.declared.{sections_seen.SectionsSeen.SectionsSeen, signs.Sign.{Sign as SignOf, TheVariants.Minus}}
pub use Rattle.mpslp_lp_grammar.specs.declared.{signs.Sign.TheVariants.Plus, states.Place.{Place, TheVariants.{InBounds, BeforeItems}}}
pub use Rattle.mpslp_lp_grammar.specs.declared.states.Place.TheVariants.{InObjective, BetweenRows, AtStart, InRow, InGenerals, InSemis}
pub use Rattle.mpslp_lp_tokens.{proofs.NameTokens.{begins-lp, begins-no_number}, specs.Token.{class_of, is_word, tokens, begins_comment}}
pub use Rattle.mpslp_lp_tokens.specs.Token.{begins_word, continues_word, Token, is_number, operator_kind, kind_of, is_blank, Front}
pub use Rattle.mpslp_lp_tokens.specs.{Token.{longest_within, longest_token, token_at, tokens_from}, declared.tokens.TokenKind.TokenKind}
pub use Rattle.mpslp_lp_text.specs.CanonicalLp.{bound_lexemes, line_of_some, bound_lines, canonical_lp, row_terms, Lines, Term}
pub use Rattle.mpslp_lp_text.specs.CanonicalLp.{heading, label_line, sense_word, term_line, row_lines, name_line, semi_heading}
pub use Rattle.mpslp_lp_text.specs.CanonicalLp.{is_integer_column, is_semi_column, objective_terms, listed_lines, term_in}
pub use Rattle.mpslp_lp_text.specs.CanonicalLp.{objective_term, some_term, is_integer_kind, is_semi_kind, has_coefficients}
pub use Rattle.mpslp_lp_text.specs.CanonicalLp.{constant_lines, objective_section, under_heading, left_lines, last_line, rows_section}
pub use Rattle.mpslp_lp_text.specs.CanonicalLp.{bounds_section, generals_section, canonical_lines, semis_section, under_semi_heading}
pub use Rattle.mpslp_lp_text.specs.CanonicalLp.{long_line, right_line, minus_large}
pub use Rattle.mpslp_lp_laws.specs.Laws.{DeclareTheirModels, DistinguishModels, DeclareWhatFits, AreReadAsPrinted, tokens_seen}
pub use Rattle.mpslp_lp_text.specs.Printed.{Lexeme, word, number, sense, minus_infinity, PrintedLine, semi_continuous, label, sign}
pub use Rattle.mpslp_lp_text.specs.Printed.{sign_bytes, sense_bytes, lexeme_text, line_text, text_of}
pub use Rattle.mpslp_lp_grammar.specs.Points.{point_at}
pub use Rattle.mpslp_lp_laws.specs.PrintedDeclarations.{terminals_at, AreDerived, AreDerivedAt, is_legal_term, after_objective}
pub use Rattle.mpslp_lp_laws.specs.PrintedDeclarations.{EndsObjectiveFrom, DeriveObjectives, AreLegalTerms, row_and_terms, DeriveRows}
pub use Rattle.mpslp_lp_laws.specs.PrintedDeclarations.{column_and_bounds, DeriveBounds, DeriveAllKinds, end_heading}
pub use Rattle.mpslp_lp_laws.specs.PrintedDeclarations.{DeriveAllHeadings, sign_kind, sense_kind, SeenToken, tokens_in, line_tokens}
pub use Rattle.mpslp_lp_text.specs.Unfit.{unfit, is_no_lp_name, first_unfit, or_else, unfit_in}
