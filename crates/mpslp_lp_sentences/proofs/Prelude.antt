-- The names that the proofs of this crate use of the logic, of std, of the crates below and of `specs/`.
pub use Rattle.std.proofs.Common.{arith, ◌≡◌, refl, sym, subst, ◌∙◌, ℕ, List, [], ◌∷◌, ◌++◌, true, append_assoc, rules, ap, Bool, false}
pub use Rattle.std.proofs.{Common.{suc, ◌+◌, ◌^◌, length, ◌<◌, ◌≤◌, zero, map, drop}, lemmas.Bool.{false≢true, eq-eqb}}
pub use Rattle.std.proofs.lemmas.List.{append-nil, reverse-append, length-append, map-append, Folds.{list_all-append, list_any-append}}
pub use Rattle.std.{proofs.lemmas.Option.none-some, specs.{Cmp.{first_so, second_so}, FinMap.{put, find}}}
pub use Rattle.std.specs.{List.{flat_map, list_all, cons_option, list_any, enumerate_from}, Option.{option_map_or, option_map}}
pub use Rattle.std.specs.Prelude.{Option, Some, None, is_some, ◌||◌, ◌&&◌, not, unwrap_or, if◌then◌else◌, ◌-◌, reverse, is_none, min}
pub use Rattle.std.specs.{Prelude.{nat_le, filter_map, cond, codes, nat_lt, ◌==◌, ℤ, pos, negsuc}, Str.Lines.lines}
pub use Rattle.mpslp_decimal.specs.Decimal.{Number as Decimal}
pub use Rattle.mpslp_types.proofs.BoolLemmas.{both_so, or_left, or_right, so_not, either, both_false, true_from, nor, not_so}
pub use Rattle.mpslp_types.specs.{Limit.{is_plus_infinite, is_minus_infinite, limit_of}, Lists.{those_of, is_nonempty, head_of}}
pub use Rattle.mpslp_types.specs.{Name.{bytes_cmp, same_bytes}, declared.faults.{BuildFault.BuildFault, Fault.Fault}}
pub use Rattle.mpslp_types.specs.declared.faults.FaultKind.{FaultKind, TheVariants.{MixedSenses, DuplicateEntry, ConstantInRow}}
pub use Rattle.mpslp_types.specs.declared.faults.FaultKind.TheVariants.{DuplicateBound, DuplicateRow, SectionOrder, SectionRepeated}
pub use Rattle.mpslp_types.specs.declared.kinds.Limit.{Limit, TheVariants.{MinusInf, PlusInf, Finite}}
pub use Rattle.mpslp_types.specs.declared.kinds.Sense.{Sense, TheVariants.{Minimize, Maximize}}
pub use Rattle.mpslp_builder.proofs.SlotLemmas.{itself_named, has-put, same_name}
pub use Rattle.mpslp_builder.proofs.MadeDrafts.{with_declarations-append}
pub use Rattle.mpslp_builder.proofs.SlotLemmas.{has-put_key}
pub use Rattle.mpslp_builder.proofs.DraftEntries.{IsSortedDraft, sorted-draft_of, sorted-with_declarations}
pub use Rattle.mpslp_builder.specs.Declaration.{Declaration, Declarations, Draft, declare_column, bounds_declared, with_declarations}
pub use Rattle.mpslp_builder.specs.Declaration.{with_declaration, declare_constant, declare_rhs, declare_lower, declare_upper}
pub use Rattle.mpslp_builder.specs.Declaration.{declare_marked, declare_integer, declare_binary, declare_semi, has_name, has_column}
pub use Rattle.mpslp_builder.specs.Declaration.{is_integer, is_semi, RowDefinition, by_limits, empty_draft, declare_row, has_coefficient}
pub use Rattle.mpslp_builder.specs.Declaration.{has_row, have_infinite_side, declare_sense, declare_objective, declare_coefficient}
pub use Rattle.mpslp_builder.specs.Refusal.{refusals_in_turn, bounds_refusals, has_constant, refusal_tests}
pub use Rattle.mpslp_lines.specs.FaultTests.{kind_of_build_fault, fault_on_line, is_kind, number_fault, FaultTests, first_held}
pub use Rattle.mpslp_lines.specs.FaultTests.{has_legal_length, is_legal_byte}
pub use Rattle.mpslp_builder.proofs.MadeDrafts.{parts-taken}
pub use Rattle.std.proofs.lemmas.List.{map-append as mapped-append}
pub use Rattle.mpslp_lp_grammar.specs.Points.{at, point_at, AreNew}
pub use Rattle.mpslp_lp.specs.{FirstFault.{fault_of, first_lp_fault}, LpText.outcome}
pub use Rattle.mpslp_lp.specs.LpText.{numbered_lines, sound_terminals, first_own_fault, or_else, is_finished, declarations_of, is_lp_text}
pub use Rattle.mpslp_lp_grammar.specs.AfterToken.{AfterToken, Goes, Refuses, refuse, with_made, declare_unless_refused}
pub use Rattle.mpslp_lp_grammar.specs.AfterToken.{step_after_declarations, declare_at, end_term, step_after_signs, begin_item, end_bound}
pub use Rattle.mpslp_lp_grammar.specs.{AfterToken.{end_side, step_at_side_value}, FirstToken.{open_section, begin_row, step_at_second_relation}}
pub use Rattle.mpslp_lp_grammar.specs.{FirstToken.{begin_phrase, begin, name_taken, begin_bound}, Grammar.{may_begin_section, phrase_at}}
pub use Rattle.mpslp_lp_grammar.specs.Grammar.{no_limits, bound_sides, bound_right, bound_after, bound_column, bound_left, name_in_section}
pub use Rattle.mpslp_lp_grammar.specs.Grammar.{line_end, opened_by, is_last_word, last_word, semi_from, section_start, text_says}
pub use Rattle.mpslp_lp_grammar.specs.Items.{Limits, limits_by, flip, one, infinity, apply_sign, Side as SideOf, unsigned_side, side_from}
pub use Rattle.mpslp_lp_grammar.specs.Items.{side as side_rule, next_relation, product, number_item, signed_item, item_from, Item as items}
pub use Rattle.mpslp_lp_grammar.specs.{Items.{colon, fits_second, limits_by as sides_by}, PartialRow.PartialRow, Phrase.declares}
pub use Rattle.mpslp_lp_grammar.specs.Phrase.{start, has_seen, is_out_of_order, Point, PhraseRule, Follows, goes_to, unless_refused}
pub use Rattle.mpslp_lp_grammar.specs.{Phrase.{refuses, section_fault, with_section, no_section_seen, terminal_fault}, Rows.term_declared}
pub use Rattle.mpslp_lp_grammar.specs.Rows.{objective_declared, default_objective, first_item_declared, row_limits, row_declared}
pub use Rattle.mpslp_lp_grammar.specs.Rows.{without_terms, objective_item, objective_named, objective_from, objective as objective_rule}
pub use Rattle.mpslp_lp_grammar.specs.Rows.{default_row, row_item, row_first, row_after_left, row_number, row_signed, row_from, row_named}
pub use Rattle.mpslp_lp_grammar.specs.{Rows.{fits_left, row_whole, row_end}, Rules.{Outcome, ◌>>=◌, gives, next, ahead, phrases, made_by}}
pub use Rattle.mpslp_lp_grammar.specs.{Rules.{Parsed, after_taking, and_then, Outcome.{Finished, Refused, Open}}, Terminal.Terminal}
pub use Rattle.mpslp_lp_grammar.specs.Terminal.{lexical_fault, TerminalAt, name_fault, word_fault, token_fault, terminal_of, line_terminals}
pub use Rattle.mpslp_lp_grammar.specs.Terminal.{Terminal as seen, Terminal.{Name, Compares, Opens, Number, Sign, Colon, Infinity, Free}}
pub use Rattle.mpslp_lp_grammar.specs.{TerminalToken.{terminals, as_terminal}, TokenByToken.new_column}
pub use Rattle.mpslp_lp_grammar.specs.TokenStep.{begin_phrase_after, step_after_lone_number, step, is_at_end}
pub use Rattle.mpslp_lp_grammar.specs.declared.context.Context.{Context}
pub use Rattle.mpslp_lp_tokens.specs.declared.relations.Relation.{Relation, TheVariants.{AtMost, AtLeast, EqualTo}}
pub use Rattle.mpslp_lp_grammar.specs.declared.{sections_seen.SectionsSeen.SectionsSeen, signs.Sign.Sign as SignOf}
pub use Rattle.mpslp_lp_grammar.specs.declared.{signs.Sign.TheVariants.{Plus, Minus}, states.ItemOwner.{ItemOwner, TheVariants.OfObjective}}
pub use Rattle.mpslp_lp_grammar.specs.declared.states.{ItemOwner.TheVariants.OfRow, LastWord.{LastWord, TheVariants.{To, That, Continuous}}}
pub use Rattle.mpslp_lp_grammar.specs.declared.states.Place.{Place, TheVariants.{InBounds, AtStart, BeforeItems, InObjective, BetweenRows}}
pub use Rattle.mpslp_lp_grammar.specs.declared.states.Place.TheVariants.{InGenerals, InBinaries, InSemis, InRow}
pub use Rattle.mpslp_lp_grammar.specs.declared.states.SideOwner.{SideOwner, TheVariants.{SideOfRow, SideOfBound}}
pub use Rattle.mpslp_lp_grammar.specs.declared.states.State.{State, TheVariants.{Between, AtObjective, ObjectiveName, AtSemi, Signs}}
pub use Rattle.mpslp_lp_grammar.specs.declared.states.State.TheVariants.{ItemNumber, RowLabel, BoundName, BoundLeftRelation, AtSide}
pub use Rattle.mpslp_lp_grammar.specs.declared.states.State.TheVariants.{SideSign, RowLeftRelation, AfterEnd, AtLastWord, RowName, RowSign}
pub use Rattle.mpslp_lp_grammar.specs.declared.states.State.TheVariants.{RowNumber, RowLeft, BoundSign, BoundLeft}
pub use Rattle.mpslp_lp_tokens.specs.Token.{section_of, outside_comment, Token, tokens}
pub use Rattle.mpslp_lp_tokens.specs.declared.words.Section.{Section, Section as Kind, TheVariants.{Objective, Bounds, Generals, Binaries}}
pub use Rattle.mpslp_lp_tokens.specs.declared.words.{Section.TheVariants.{SemiContinuous, Rows, End}, SectionWord.SectionWord}
pub use Rattle.mpslp_lp_sentences.specs.FaultsInWords.{IsInWords, is_section, current_section, is_under, is_named, collected, names_again}
pub use Rattle.mpslp_lp_sentences.specs.FaultsInWords.{ends_in_number, ends_in_sign, may_follow_constant, completes_constant}
pub use Rattle.mpslp_lp_sentences.specs.FaultsInWords.{has_constant_before, repeats_constant, gives_lower, gives_upper, last_name}
pub use Rattle.mpslp_lp_sentences.specs.FaultsInWords.{last_relation, column_before, after_sign, completed, completes_bound, repeats_bound}
pub use Rattle.mpslp_lp_sentences.specs.FaultsInWords.{names_integer, names_semi, changes_kind, ends_in_first_word, term_columns}
pub use Rattle.mpslp_lp_sentences.specs.FaultsInWords.{repeats_entry, IsAtToken, has_opened, follows_terms, is_right_side, is_value}
pub use Rattle.mpslp_lp_sentences.specs.FaultsInWords.{ends_row, label_before, objective_before, repeats_row, rows_before, names_row}
pub use Rattle.mpslp_lp_sentences.specs.FaultsInWords.{names_objective, ends_in_name, ends_in_value, begins_row, may_be_left_side}
pub use Rattle.mpslp_lp_sentences.specs.FaultsInWords.{ends_in_constant, follows_constant, left_relation, bound_relation, agree}
pub use Rattle.mpslp_lp_sentences.specs.FaultsInWords.{mixes_under, mixes_senses, opens, repeats_section, section_rank, opens_later}
pub use Rattle.mpslp_lp_sentences.specs.FaultsInWords.{comes_late, comes_early, breaks_order}
pub use Rattle.mpslp_lp_sentences.specs.Laws.{ReadTextsAreSentences, SentencesAreRead}
pub use Rattle.mpslp_lp_sentences.specs.Meaning.{limit, bounds_by, turned, bound_declares, names_declare, product_of, signed, coefficient}
pub use Rattle.mpslp_lp_sentences.specs.Meaning.{objective_declares, row_declares, row_section_declares, section_declares, file_declares}
pub use Rattle.mpslp_lp_sentences.specs.Meaning.{item_declares, row_name, times, term_declares, row_with, objective_name}
pub use Rattle.mpslp_lp_sentences.specs.Phrases.{Side, Bound, RowSection, File, Item, Term, Row, Bound.{bound, bounds_between}}
pub use Rattle.mpslp_lp_sentences.specs.Phrases.{Bound.{bounds_from_above, free_bound, turned_bound}, File.file, Item.{a_term, a_constant}}
pub use Rattle.mpslp_lp_sentences.specs.Phrases.{Objective.objective, Row.{row, row_between, row_from_above}, RowSection.{no_rows, rows}}
pub use Rattle.mpslp_lp_sentences.specs.{Phrases.{Section.{bounds, generals, binaries, semis}, Side.side, Term.term}, Spelling.side_tokens}
pub use Rattle.mpslp_lp_sentences.specs.Spelling.{bound_tokens, name_tokens, sign_tokens, term_tokens, objective_tokens, row_tokens}
pub use Rattle.mpslp_lp_sentences.specs.Spelling.{row_section_tokens, section_tokens, opens_rows, is_row, is_row_section, is_objective}
pub use Rattle.mpslp_lp_sentences.specs.Spelling.{are_sections, is_file, sense_word, item_tokens, label_tokens, is_signed_item, are_items}
pub use Rattle.mpslp_lp_sentences.specs.Spelling.{terms_tokens, is_signed_term, opens_semis, same_section, number_tokens, file_tokens}
pub use Prim.Native.String.{String}
