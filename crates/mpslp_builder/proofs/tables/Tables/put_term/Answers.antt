use Rattle.std.proofs.Common.{◌≡◌, ℕ, Bool, true, false}
use Rattle.std.specs.{FinMap.find, Ordering.nat_cmp, Prelude.{None, Ok, is_some}}
use Rattle.mpslp_decimal.specs.Decimal.{Number}
use Rattle.mpslp_builder.specs.{Calls.{HasColumnChanged, IsSameTables, PutsIfFree, cells_at, with_cell}, ColumnLine.entry_declared}
use Rattle.mpslp_builder.specs.declared.tables.Tables.{Tables}
use Rattle.mpslp_builder.proofs.LineLemmas.{part_none, unless_memory, taken_place, cell_laid, cell_follows_there}
use Rattle.mpslp_builder.proofs.tables.Tables.put_term.Goals as goal

module _ (t u : Tables) (i n : ℕ) (x : Number) where
  stored : (is_put : Bool) → is_put ≡ true → PutsIfFree t i n x (Ok is_put) u
      → (find nat_cmp n (cells_at t i) ≡ None) × HasColumnChanged t i (with_cell n x) u
  stored true is h = h
  stored false is h = absurd (cc)

  taken : (is_put : Bool) → is_put ≡ false → PutsIfFree t i n x (Ok is_put) u
      → (is_some (find nat_cmp n (cells_at t i)) ≡ true) × IsSameTables t u
  taken true is h = absurd (cc)
  taken false is h = h

pub returns-in_err-is_put-clause-declared : goal.returns-in_err-is_put-clause-declared
returns-in_err-is_put-clause-declared c =
    let t = c.args.self.now in
    let u = c.put_if_free.new.self in
    λ name of_row is row. unless_memory t u (entry_declared name (of_row, c.args.value)) c.from_residual.result
    c.from_residual.ensures.1 (part_none t u (entry_declared name (of_row, c.args.value)) c.in_err-is_put.ensures)

pub returns-then-not-is_put-clause-declared : goal.returns-then-not-is_put-clause-declared
returns-then-not-is_put-clause-declared c =
    let t = c.args.self.now in
    let u = c.put_if_free.new.self in
    let there = taken t u c.args.column c.args.row c.args.value c.in_ok-is_put.is_put c.if-not-is_put.true
    c.in_ok-is_put.ensures in λ name of_row is row. taken_place t u c.each_name_occurs_once.ensures c.requires.numbered
    c.args.row c.args.column of_row name c.args.value is row there.0 there.1

pub returns-clause-kept : goal.returns-clause-kept
returns-clause-kept c =
    let t = c.args.self.now in
    let u = c.put_if_free.new.self in
    let put = stored t u c.args.column c.args.row c.args.value c.in_ok-is_put.is_put c.if-not-is_put.false
    c.in_ok-is_put.ensures in cell_follows_there t u c.requires.numbered c.each_name_occurs_once.ensures c.args.column
    c.args.row c.requires.row c.args.value put.1 put.0 c.each_value_is_a_decimal.ensures

pub returns-clause-declared : goal.returns-clause-declared
returns-clause-declared c =
    let t = c.args.self.now in
    let u = c.put_if_free.new.self in
    let put = stored t u c.args.column c.args.row c.args.value c.in_ok-is_put.is_put c.if-not-is_put.false
    c.in_ok-is_put.ensures in λ name of_row is row. cell_laid t u c.requires.numbered c.each_name_occurs_once.ensures
    c.args.column c.args.row of_row row c.args.value put.1 put.0 name is
