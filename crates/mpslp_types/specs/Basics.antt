-- What all definitions are written in: the standard library, lists, numbers, names, limits and the order of errors.
pub use Rattle.std.specs.Prelude.{ℕ, List, map, Option}
pub use Rattle.std.specs.List.{list_all, list_any, slice_split, find, last_or, cons_option, flat_map, position_or_len, before_first, enumerate_from, join_by}
pub use Rattle.std.specs.Option.{option_map_or, option_map, option_or}
pub use Rattle.std.specs.Result.{result_unwrap_or}
pub use Rattle.std.specs.Ordering.{ordering_then}
pub use Rattle.std.specs.declared.cmp.Ordering.{Ordering}
pub use Rattle.std.specs.FinMap.{FinMap, entries, keys, find as find_entry, put, from_sorted}
pub use Rattle.std.specs.Fmt.{decimal}
pub use Rattle.std.specs.Str.Lines.{lines}
pub use Rattle.mpslp_types.specs.Lists.{are_distinct, is_nonempty, head_of, when, those_of, with_line_feeds}
pub use Rattle.mpslp_decimal.specs.Decimal.{Number, IsDecimal, is_decimal, is_zero, is_negative, is_infinite_size, size_of, sum_of, difference_of, one_number, zero_number, negated, have_same_value}
pub use Rattle.mpslp_decimal.specs.Literal.{number_of, is_literal}
pub use Rattle.mpslp_types.specs.Name.{IsMpsName, bytes_cmp, is_mps_name, is_one_of, same_bytes, has_name_length, is_visible, marker, begins_a_number, is_letter, is_lp_symbol, is_lp_byte, lower_byte, is_like_exponent, is_lp_name}
pub use Rattle.mpslp_types.specs.Limit.{are_sides, are_semi_bounds, has_bounded_distance, limit_of, is_plus_infinite, is_minus_infinite, zero_limit, is_at_most}
pub use Rattle.mpslp_types.specs.FaultOrder.{kind_rank, least_kind}
