-- The names that the proofs of this crate use of the logic, of std, of the crates below and of `specs/`.
pub use Rattle.mpslp_lp_text.specs.CanonicalLp.{Lines, heading, under_heading, semi_heading, under_semi_heading, long_line, label_line}
pub use Rattle.mpslp_lp_text.specs.CanonicalLp.{signed_lexemes, right_line, minus_large, canonical_lp, Term, term_line, some_term}
pub use Rattle.mpslp_lp_text.specs.CanonicalLp.{bound_lines, bound_lexemes, line_of_some, name_line, is_integer_column, short_line}
pub use Rattle.mpslp_lp_text.specs.CanonicalLp.{is_semi_column, constant_lines, objective_term, left_lines, row_terms, last_line}
pub use Rattle.mpslp_lp_text.specs.CanonicalLp.{term_in, row_lines}
pub use Rattle.mpslp_lp_text.specs.Printed.{Lexeme, lexeme_text, line_text, sign, sign_bytes, label, number, word, sense, minus_infinity}
pub use Rattle.mpslp_lp_text.specs.Unfit.{is_no_lp_name, unfit}
pub use Rattle.mpslp_decimal.specs.{Decimal.{Number, is_negative, size_of, is_zero, zero_number}, NumberText.{number_text}}
pub use Rattle.mpslp_lp_tokens.specs.declared.relations.Relation.TheVariants.{AtLeast, AtMost, EqualTo}
pub use Rattle.mpslp_model_core.specs.Model.{LinearModel, CoefficientKey, Column, key_cmp, IsSound, Listing, listing_of, Row}
pub use Rattle.mpslp_model_core.specs.Views.{num_columns, column_name, coefficient_at, column_elements, has_coefficient, row_columns}
pub use Rattle.mpslp_model_core.specs.Views.{columns_of, column_names, row_names, row_name, rows_of}
pub use Rattle.mpslp_io.proofs.EachLemmas.{prints_each}
pub use Rattle.mpslp_io.proofs.LinesAtLemmas.{flat_map-all, flat_map-kept, flat_map-numbers, both_seen, lines_seen, map-flat_map}
pub use Rattle.mpslp_io.proofs.LinesAtLemmas.{flat_map-filter, nothing_seen, flat_map-next, named-lines}
pub use Rattle.mpslp_io.proofs.OutputLemmas.{prints_same, section_under, prints_nothing, puts_between, prints_line, puts_same, section_of}
pub use Rattle.mpslp_io.proofs.OutputLemmas.{section_then, section_same, section_text, prints_then}
pub use Rattle.mpslp_types.specs.declared.kinds.Limit.{Limit}
pub use Rattle.mpslp_lp_write.specs.LpLinesAt.{term_lines, row_term_lines, numbered_term_lines, has_lines, is_of_section, name_lines}
pub use Rattle.mpslp_lp_write.specs.LpLinesAt.{sense_lines, objective_term_lines, IsTerm, AreTerms, AreNamesOf}
pub use Rattle.mpslp_builder.proofs.ListingLemmas.{coefficient-not_zero}
pub use Rattle.std.proofs.Common.{◌≡◌, refl, sym, ap, ◌∙◌, ℕ, zero, suc, ◌+◌, ◌≤◌, Bool, true, false, not, cond, List, [], ◌∷◌, length}
pub use Rattle.std.proofs.Common.{arith, ◌<◌, ◌++◌, append_assoc, append-nil, subst, map, get_or, rules, Bor, ◌-◌, take, inl, inr, set}
pub use Rattle.std.proofs.lemmas.Bool.{le-ltb, lt-ltb, cases_lt}
pub use Rattle.std.proofs.lemmas.List.{length-map, get_or_default, length-set, get_or-set_same, get_or-set_other}
pub use Rattle.std.proofs.lemmas.Option.{slice_get_within, slice_get-get_or, get_or_from_slice_get}
pub use Rattle.std.specs.{FinMap.{find, entries}, List.{position_or_len, flat_map, All, list_any, cons_option, range_with_len}}
pub use Rattle.std.specs.Option.{option_map, option_map_or}
pub use Rattle.std.specs.Prelude.{Option, Some, None, slice_get, position, codes, replicate, is_some, unwrap_or, filter, filter_map, ◌&&◌}
pub use Rattle.std.specs.Prelude.{◌||◌, if◌then◌else◌, slice_index_or}
