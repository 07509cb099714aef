-- The names that the proofs of this crate use of the logic, of std, of the crates below and of `specs/`.
pub use Rattle.mpslp_builder.proofs.{MadeDrafts.{with_declarations-append, refusals_in_turn-append}, DraftEntries.sorted-from_made}
pub use Rattle.mpslp_builder.specs.Declaration.{Declaration, declare_row, RowDefinition, Declarations, Draft, with_declaration}
pub use Rattle.mpslp_builder.specs.Declaration.{with_declarations, bounds_declared, has_name, is_objective, have_infinite_side}
pub use Rattle.mpslp_builder.specs.Declaration.{declare_constant, declare_integer, declare_binary, declare_semi, declare_column, has_column}
pub use Rattle.mpslp_builder.specs.Declaration.{by_limits}
pub use Rattle.mpslp_builder.specs.Refusal.{refusals, refusals_in_turn, bounds_refusals}
pub use Rattle.mpslp_decimal.specs.{Decimal.{Number, Number as Decimal}, Literal.{number_of, is_digit}}
pub use Rattle.mpslp_lines.specs.FaultTests.{kind_of_build_fault, first_held, number_fault, number_tests, kind_of_number_fault, is_kind}
pub use Rattle.mpslp_lines.specs.{LineAnswer.{LineResult}, declared.errors.LineError.TheVariants.{Fault, OutOfMemory}}
pub use Rattle.mpslp_lp_grammar.specs.AfterToken.{step_after_signs, end_side, step_at_side_value, AfterToken, Goes, Refuses, refuse}
pub use Rattle.mpslp_lp_grammar.specs.AfterToken.{declare_unless_refused, step_after_declarations, end_term, begin_item, with_made}
pub use Rattle.mpslp_lp_grammar.specs.AfterToken.{end_bound}
pub use Rattle.mpslp_lp_grammar.specs.Declares.{DeclaresUnless, Declares, TokenResult, TakesToken, answer_at, DeclaresBounds}
pub use Rattle.mpslp_lp_grammar.specs.FirstToken.{begin_phrase, begin, open_section, begin_row, begin_bound, name_taken, after_section_word}
pub use Rattle.mpslp_lp_grammar.specs.FirstToken.{listed_at, kind_declared}
pub use Rattle.mpslp_lp_grammar.specs.Items.{apply_sign, Side, infinity, fits_second, next_relation, unsigned_side, side_from, side, Item}
pub use Rattle.mpslp_lp_grammar.specs.Items.{colon, item_from, signed_item, number_item, product, one, limits_by, flip}
pub use Rattle.mpslp_lp_grammar.specs.PartialRow.{PartialRow}
pub use Rattle.mpslp_lp_grammar.specs.Phrase.{section_fault, with_section, PhraseRule, Follows, fails, refuses, unless_refused, declares}
pub use Rattle.mpslp_lp_grammar.specs.Phrase.{terminal_fault}
pub use Rattle.mpslp_lp_grammar.specs.Rows.{numbered_row, objective_declared, first_item_declared, default_objective, without_terms}
pub use Rattle.mpslp_lp_grammar.specs.Rows.{objective_from, objective_named, default_row, fits_left, row_after_left, row_from, row_first}
pub use Rattle.mpslp_lp_grammar.specs.Rows.{row_named, row_signed, row_number, row_whole, term_declared, row_limits, row_declared}
pub use Rattle.mpslp_lp_grammar.specs.Rules.{Parsed, Rule, after_taking, and_then, ◌>>=◌, gives, next, ahead, AfterPhrase, Outcome, phrases}
pub use Rattle.mpslp_lp_grammar.specs.{Rules.AfterPhrase.{Ends}, Rules.Parsed.{Reads, Unfinished}, Terminal.{Terminal, TerminalAt}}
pub use Rattle.mpslp_lp_grammar.specs.TerminalToken.{terminal_with_text, terminal_of_token}
pub use Rattle.mpslp_lp_grammar.specs.TokenByToken.{item_read, new_column, side_read, signed_side_read, says}
pub use Rattle.mpslp_lp_grammar.specs.TokenStep.{begin_phrase_after, refuse_constant, step_after_lone_number, step, at_end, says_after}
pub use Rattle.mpslp_lp_grammar.specs.{WithinPhrase.{follow, resume}, declared.context.Context.{Context}}
pub use Rattle.mpslp_lp_tokens.specs.declared.relations.Relation.{Relation}
pub use Rattle.mpslp_lp_grammar.specs.declared.signs.Sign.{Sign as SignOf}
pub use Rattle.mpslp_lp_grammar.specs.{declared.signs.Sign.TheVariants.{Plus, Minus}, declared.states.ItemOwner.{ItemOwner}}
pub use Rattle.mpslp_lp_grammar.specs.{declared.states.ItemOwner.TheVariants.{OfRow, OfObjective}, declared.states.Place.{Place}}
pub use Rattle.mpslp_lp_grammar.specs.declared.states.Place.TheVariants.{BeforeItems, InObjective, InSemis, AtStart, BetweenRows, InRow}
pub use Rattle.mpslp_lp_grammar.specs.declared.states.Place.TheVariants.{InBounds, InGenerals, InBinaries}
pub use Rattle.mpslp_lp_grammar.specs.declared.states.SideOwner.{SideOwner}
pub use Rattle.mpslp_lp_grammar.specs.declared.states.State.TheVariants.{AtObjective, ObjectiveName, AtSemi, ItemNumber, RowSign, RowNumber}
pub use Rattle.mpslp_lp_grammar.specs.declared.states.State.TheVariants.{AtSide, Between, AtLastWord, Signs, RowName, RowLabel, RowLeft}
pub use Rattle.mpslp_lp_grammar.specs.declared.states.State.TheVariants.{RowLeftRelation, BoundName, BoundSign, BoundLeft}
pub use Rattle.mpslp_lp_grammar.specs.declared.states.State.TheVariants.{BoundLeftRelation, SideSign, AfterEnd}
pub use Rattle.mpslp_lp_tokens.specs.declared.words.SectionWord.{SectionWord}
pub use Rattle.mpslp_types.specs.Name.{bytes_cmp, same_bytes, is_lp_name, has_name_length, marker, is_letter, is_lp_symbol, is_lp_byte}
pub use Rattle.mpslp_types.specs.Name.{begins_a_number, is_like_exponent, is_reserved, IsMpsName}
pub use Rattle.mpslp_types.specs.{declared.faults.BuildFault.{BuildFault}, declared.faults.FaultKind.{FaultKind}}
pub use Rattle.mpslp_types.specs.{declared.kinds.Limit.{Limit}, declared.kinds.Limit.TheVariants.{PlusInf, MinusInf}}
pub use Rattle.mpslp_types.specs.declared.kinds.Sense.{Sense}
pub use Rattle.std.proofs.Common.{◌≡◌, refl, sym, ap, subst, ◌∙◌, ℕ, ◌+◌, List, [], ◌∷◌, ◌++◌, Bool, true, false, cond, length, inl, inr}
pub use Rattle.std.proofs.Common.{◌≤◌, ◌<◌, ◌^◌, not, arith, zero, suc, drop, ◌-◌, min, rules}
pub use Rattle.std.proofs.lemmas.Bool.{le-leb, eq-eqb}
pub use Rattle.std.specs.List.{list_any, cons_option, list_all, flat_map}
pub use Rattle.std.specs.Prelude.{Option, Some, None, Ok, Err, is_some, ◌||◌, Result, ◌&&◌, nat_le, ◌==◌, if◌then◌else◌, unwrap_or}
