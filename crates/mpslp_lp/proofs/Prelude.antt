-- The names that the proofs of this crate use of the logic, of std, of the crates below and of `specs/`.
pub use Rattle.mpslp_builder.proofs.MeaningFromNoFault.{means-from_none}
pub use Rattle.mpslp_builder.proofs.MadeDrafts.{refusals_in_turn-append, bounds-in_turn, with_declarations-append}
pub use Rattle.mpslp_builder.proofs.RefusalLemmas.{join_none}
pub use Rattle.mpslp_builder.specs.Declaration.{Declarations, Draft, Declaration, declare_sense, declare_objective, declare_constant}
pub use Rattle.mpslp_builder.specs.Declaration.{declare_row, declare_rhs, declare_range, declare_column, declare_coefficient, declare_lower}
pub use Rattle.mpslp_builder.specs.Declaration.{declare_upper, declare_marked, declare_integer, declare_binary, declare_semi, empty_draft}
pub use Rattle.mpslp_builder.specs.Declaration.{draft_of, with_declarations, bounds_declared}
pub use Rattle.mpslp_builder.specs.{FileFault.{whole_fault, file_fault}, Finish.{Finishes}, Made.{are_given, is_legal}, Meaning.{model_of}}
pub use Rattle.mpslp_builder.specs.Refusal.{refusals_in_turn, bounds_refusals}
pub use Rattle.mpslp_decimal.specs.Decimal.{Number as Decimal, is_decimal, negated, zero_number}
pub use Rattle.mpslp_lines.proofs.{FieldLemmas.{limit-given, value-decimal}, ObjectiveLemmas.{objective-declared, named-after}}
pub use Rattle.mpslp_lines.specs.FaultTests.{first_held, has_legal_length, is_legal_byte, fault_on_line, value_of, number_fault}
pub use Rattle.mpslp_lines.specs.FaultTests.{legal_tests}
pub use Rattle.mpslp_lines.specs.{declared.errors.LineError.{LineError}, declared.errors.LineError.TheVariants.{Fault, OutOfMemory}}
pub use Rattle.mpslp_lp.specs.{Fed.{lines_outcome, IsFaultOfLines, LedTo, HasRead}, FedLaws.{ended-reads, never_refused}}
pub use Rattle.mpslp_lp.specs.FirstFault.{fault_of, first_lp_fault}
pub use Rattle.mpslp_lp.specs.Laws.{has_legal_bytes, is_known, FaultStaysWhenLinesFollow, has_lp_name, DeclareLpNames, DeclareOrFail}
pub use Rattle.mpslp_lp.specs.Laws.{DeclareUnlessFaulty}
pub use Rattle.mpslp_lp.specs.LineByLine.{take_all, token_faults, take_tokens, take_line, read_from}
pub use Rattle.mpslp_lp.specs.LpText.{numbered_lines, sound_terminals, first_own_fault, or_else, lines_say, outcome, is_finished}
pub use Rattle.mpslp_lp.specs.LpText.{declarations_of, DeclaresLp, is_lp_text}
pub use Rattle.mpslp_lp.specs.PlainPhrase.{BeginsWithSide, BeginsWithRight, TakesSome, BeginsWithLimit}
pub use Rattle.mpslp_lp.specs.PlainStart.{BeginsWithColumn, BeginsWithTerm, row_of_term}
pub use Rattle.mpslp_lp.specs.{PlainTerm.{Begins, BeginsWithNumber, IsPlainTerm, LeadsTo}, ReadAnswer.{ReadsLp}}
pub use Rattle.mpslp_lp_grammar.specs.AfterToken.{AfterToken, with_made, step_after_declarations, Goes, Refuses, refuse, step_at_side_value}
pub use Rattle.mpslp_lp_grammar.specs.AfterToken.{end_side, end_bound, end_term}
pub use Rattle.mpslp_lp_grammar.specs.Declares.{TakesToken, error_before, lower_ranked_of, IsLeastError, AddsTerm}
pub use Rattle.mpslp_lp_grammar.specs.FirstToken.{begin, listed_at, kind_declared, name_taken}
pub use Rattle.mpslp_lp_grammar.specs.Grammar.{text_says, text_declares, bound_sides, no_limits, bound_right, bound_after, bound_column}
pub use Rattle.mpslp_lp_grammar.specs.Grammar.{bound_left, bound, second_side, line_end, opened_by, is_last_word, last_word, semi_from}
pub use Rattle.mpslp_lp_grammar.specs.Grammar.{section_start, section_from, may_begin_section, name_in_section, phrase, phrase_at}
pub use Rattle.mpslp_lp_grammar.specs.Items.{apply_sign, Side, Limits, infinity, unsigned_side, side_from, side, next_relation, fits_second}
pub use Rattle.mpslp_lp_grammar.specs.Items.{limits_by, flip, Item, one, product, number_item, signed_item, item_from, colon}
pub use Rattle.mpslp_lp_grammar.specs.PartialRow.{PartialRow}
pub use Rattle.mpslp_lp_grammar.specs.Phrase.{start, Point, with_section, section_fault, PhraseRule, Follows, fails, refuses, goes_to}
pub use Rattle.mpslp_lp_grammar.specs.Phrase.{unless_refused, declares, terminal_fault}
pub use Rattle.mpslp_lp_grammar.specs.Rows.{objective_declared, first_item_declared, default_objective, term_declared, objective_item}
pub use Rattle.mpslp_lp_grammar.specs.Rows.{objective_named, objective_from, objective, default_row, without_terms, row_item, row_first}
pub use Rattle.mpslp_lp_grammar.specs.Rows.{row_after_left, row_number, row_signed, row_from, row_named, row, fits_left, row_limits}
pub use Rattle.mpslp_lp_grammar.specs.Rows.{row_declared, row_whole, row_end}
pub use Rattle.mpslp_lp_grammar.specs.Rules.{Outcome, ◌>>=◌, next, ahead, Parsed, and_then, after_taking, phrases, made_by}
pub use Rattle.mpslp_lp_grammar.specs.{Rules.AfterPhrase.{Ends, Ends as StepEnds}, Rules.Outcome.{Finished, Open, Refused}}
pub use Rattle.mpslp_lp_grammar.specs.Rules.Parsed.{Reads, Unfinished}
pub use Rattle.mpslp_lp_grammar.specs.Terminal.{Terminal, terminal_of, lexical_fault, token_fault, name_fault, TerminalAt, line_terminals}
pub use Rattle.mpslp_lp_grammar.specs.Terminal.{word_terminal, word_fault}
pub use Rattle.mpslp_lp_grammar.specs.Terminal.Terminal.{Other, Opens, Name, Number, Sign, Compares, Colon, Infinity, Free}
pub use Rattle.mpslp_lp_grammar.specs.TerminalToken.{as_terminal, terminals, limit_of_terminal, terminal_with_text, terminal_of_token}
pub use Rattle.mpslp_lp_grammar.specs.TerminalToken.{HasLegalNameKind}
pub use Rattle.mpslp_lp_grammar.specs.TokenStep.{begin_phrase_after, step_after_lone_number, step, is_at_end, says_after, at_end}
pub use Rattle.mpslp_lp_grammar.specs.declared.context.Context.{Context}
pub use Rattle.mpslp_lp_tokens.specs.declared.relations.Relation.{Relation}
pub use Rattle.mpslp_lp_grammar.specs.{declared.signs.Sign.{Sign as SignOf}, declared.signs.Sign.TheVariants.{Plus, Minus}}
pub use Rattle.mpslp_lp_grammar.specs.{declared.states.ItemOwner.TheVariants.{OfObjective, OfRow}, declared.states.Place.{Place}}
pub use Rattle.mpslp_lp_grammar.specs.declared.states.Place.TheVariants.{AtStart, BeforeItems, InObjective, BetweenRows, InRow, InBounds}
pub use Rattle.mpslp_lp_grammar.specs.declared.states.Place.TheVariants.{InGenerals, InBinaries, InSemis}
pub use Rattle.mpslp_lp_grammar.specs.{declared.states.SideOwner.TheVariants.{SideOfRow, SideOfBound}, declared.states.State.{State}}
pub use Rattle.mpslp_lp_grammar.specs.declared.states.State.TheVariants.{Between, AtObjective, ObjectiveName, AtLastWord, AtSemi, Signs}
pub use Rattle.mpslp_lp_grammar.specs.declared.states.State.TheVariants.{ItemNumber, RowName, RowLabel, RowSign, RowNumber, RowLeft}
pub use Rattle.mpslp_lp_grammar.specs.declared.states.State.TheVariants.{RowLeftRelation, BoundName, BoundSign, BoundLeft}
pub use Rattle.mpslp_lp_grammar.specs.declared.states.State.TheVariants.{BoundLeftRelation, AtSide, SideSign, AfterEnd}
pub use Rattle.mpslp_lp_grammar.specs.declared.terminals.TerminalKind.{TerminalKind}
pub use Rattle.mpslp_lp_tokens.proofs.NameTokens.{front-kind, word-text, name-not_reserved, WordIs, AreWords, tokens-words}
pub use Rattle.mpslp_lp_tokens.specs.Scan.{token_of}
pub use Rattle.mpslp_lp_tokens.specs.Token.{Token, tokens, is_blank, begins_comment, is_period, begins_word, continues_word, is_word}
pub use Rattle.mpslp_lp_tokens.specs.Token.{is_number, one_byte_operators, two_byte_operators, operator_kind, kind_of, Front}
pub use Rattle.mpslp_lp_tokens.specs.Token.{longest_within, longest_token, token_at, tokens_from, outside_comment, class_of, section_of}
pub use Rattle.mpslp_lp_tokens.specs.declared.tokens.TokenKind.{TokenKind}
pub use Rattle.mpslp_model_core.specs.Model.{LinearModel, CoefficientKey, Row, Column}
pub use Rattle.mpslp_types.proofs.BoolLemmas.{both_so}
pub use Rattle.mpslp_types.specs.FaultOrder.{least_kind}
pub use Rattle.mpslp_types.specs.Name.{is_letter, is_lp_symbol, same_bytes, has_name_length, is_visible, marker, is_mps_name, is_lp_byte}
pub use Rattle.mpslp_types.specs.Name.{is_reserved, is_like_exponent, begins_a_number, is_lp_name}
pub use Rattle.mpslp_types.specs.{declared.faults.BuildFault.{BuildFault}, declared.faults.FaultKind.{FaultKind}}
pub use Rattle.mpslp_types.specs.declared.faults.FaultKind.TheVariants.{LineTooLong, BadByte, MissingEnd, BadToken, MixedSenses}
pub use Rattle.mpslp_types.specs.declared.faults.FaultKind.TheVariants.{DuplicateEntry, BinaryBounds, BoundsCrossed, ConstantInRow}
pub use Rattle.mpslp_types.specs.declared.faults.FaultKind.TheVariants.{DuplicateBound, DuplicateRhs, DuplicateRow, Indicator}
pub use Rattle.mpslp_types.specs.declared.faults.FaultKind.TheVariants.{InfiniteValue, LimitsCrossed, LimitTooLarge, NameLikeExponent}
pub use Rattle.mpslp_types.specs.declared.faults.FaultKind.TheVariants.{NegativeUpper, Quadratic, RangeInexact, SectionOrder}
pub use Rattle.mpslp_types.specs.declared.faults.FaultKind.TheVariants.{SectionRepeated, SemiBounds, SemiContinuous, Sos}
pub use Rattle.mpslp_types.specs.{declared.faults.ReadFault.{ReadFault}, declared.kinds.Limit.{Limit}}
pub use Rattle.mpslp_types.specs.{declared.kinds.Limit.TheVariants.{MinusInf, PlusInf, Finite}, declared.kinds.Sense.{Sense}}
pub use Rattle.std.proofs.Common.{◌≡◌, refl, sym, subst, ◌∙◌, ℕ, List, [], ◌∷◌, Bool, true, false, map, ap, length, zero, suc, cond, arith}
pub use Rattle.std.proofs.Common.{◌<◌, ◌≤◌, ◌+◌, ◌-◌, ◌^◌, min, ◌++◌, append-nil, append_assoc, ◌⊎◌, inl, inr, pos, negsuc, drop, rules}
pub use Rattle.std.proofs.Common.{slice_index}
pub use Rattle.std.proofs.{lemmas.Bool.{eqb-true, false≢true}, lemmas.List.Folds.{list_all-append}, lemmas.Option.{none-some, same_Some}}
pub use Rattle.std.specs.{Cmp.{first_so, second_so}, List.{list_all, list_any, find, enumerate_from, cons_option, flat_map}}
pub use Rattle.std.specs.Option.{option_map, option_map_or}
pub use Rattle.std.specs.Prelude.{Option, Some, None, Err, not, ◌&&◌, if◌then◌else◌, is_some, ◌||◌, ◌==◌, codes, Result, unwrap_or, Ok}
pub use Rattle.std.specs.Prelude.{MatchResult, filter_map, ℤ, IsTrue, IfSome}
pub use Rattle.std.specs.Str.Lines.{lines}
