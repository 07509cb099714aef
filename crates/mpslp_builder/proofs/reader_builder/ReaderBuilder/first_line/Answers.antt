use Rattle.mpslp_builder.proofs.Prelude
use Prelude.{◌≡◌, sym, ap, ◌∙◌, ◌++◌, [], ◌∷◌, true, false, flat_map, when, Draft, with_declarations, declare_column, declare_marked}
use Prelude.{has_column, refusals_in_turn, draft, listed, entry_declared, column_line, no_part, subst, Ok}
use Rattle.mpslp_builder.{specs.LineTables.Starts, specs.Stopped.HasFirstPart}
use Rattle.mpslp_builder_parts.specs.declared.column_table.Inserted.{Inserted}
use Rattle.mpslp_builder.proofs.LineLemmas.{after_err, laid_then, same_tables, first_part, part_none, part_then}
use Rattle.mpslp_builder.proofs.ReadingLemmas.{number_there, rows_known}
use Rattle.mpslp_builder.proofs.reader_builder.ReaderBuilder.first_line.Goals as goal

pub invariant_of-draft-in-New : goal.invariant_of-draft-in-New
invariant_of-draft-in-New c = let b = c.draft.inside in (
  c.put_line.ensures.kept.made b.sense b.constant
      (c.start_column.ensures.kept.made b.sense b.constant c.draft.invariant.0),
  c.put_line.ensures.kept.numbered,
)

pub returns-in_ok-put_line-in-New-clause-taken : goal.returns-in_ok-put_line-in-New-clause-taken
returns-in_ok-put_line-in-New-clause-taken c =
    let b = c.draft.inside in
    let inner = draft b.sense b.constant b.tables in
    let marked = c.args.is_marked in
    let entries = listed c.args.entries.now in
    let given = c.args.name in
    let started =
    (subst (λ (i : Inserted). Starts b.tables given (Ok i) c.start_column.new.self) c.in-New.is
    c.in_ok-inserted.ensures.started).1 in
    let declared =
    laid_then b.tables c.start_column.new.self c.put_line.new.self (declare_column given ∷ [])
    (when marked (declare_marked given) ++ flat_map (entry_declared given) entries) started.declared
    (c.in_ok-put_line-in-New.ensures.ok given started.named) in (
      ap (λ (d : Draft). refusals_in_turn d (column_line marked c.args.name entries)) (sym c.draft.view_is)
          ∙ declared.free b.sense b.constant,
      declared.declared b.sense b.constant
          ∙ ap (λ (d : Draft). with_declarations d (column_line marked c.args.name entries)) c.draft.view_is,
    )

pub returns-in_default-clause-refused : goal.returns-in_default-clause-refused
returns-in_default-clause-refused c =
    let b = c.draft.inside in
    let entries = c.args.entries.now in
    let line = column_line c.args.is_marked c.args.name (listed entries) in
    λ _ _ free. not_found (c.in_default.ensures.found
    (rows_known b.sense b.constant b.tables c.args.is_marked c.args.name entries
    (ap (λ (d : Draft). refusals_in_turn d line) c.draft.view_is ∙ free)))
  where
    not_found : false ≡ true → ⊥
    not_found h = cc

pub returns-in-There-clause-taken : goal.returns-in-There-clause-taken
returns-in-There-clause-taken c = let b = c.draft.inside in
    same_tables b.sense b.constant b.tables c.start_column.new.self (subst (λ (i : Inserted). Starts b.tables c.args.name (Ok i)
    c.start_column.new.self) c.in-There.is c.in_ok-inserted.ensures.started).1 ∙ c.draft.view_is

pub returns-in-There-clause-refused : goal.returns-in-There-clause-refused
returns-in-There-clause-refused c = let t = c.draft.inside.tables in
    let there = number_there no_part t.columns.entries c.in-There._column c.args.name
    (subst (λ (i : Inserted). Starts t c.args.name (Ok i) c.start_column.new.self) c.in-There.is
    c.in_ok-inserted.ensures.started).0 in
    λ _ absent _. let both : true ≡ false = there ∙ ap (λ (d : Draft). has_column d c.args.name) c.draft.view_is ∙ absent in cc

pub returns-in_err-inserted-clause-stopped : goal.returns-in_err-inserted-clause-stopped
returns-in_err-inserted-clause-stopped c =
    let b = c.draft.inside in
    let line = column_line c.args.is_marked c.args.name (listed c.args.entries.now) in
    let later = draft b.sense b.constant c.start_column.new.self in
    after_err _ (subst (λ (d : Draft). HasFirstPart d line later) c.draft.view_is
    (first_part b.sense b.constant b.tables c.start_column.new.self line
    (part_none b.tables c.start_column.new.self line c.in_err-inserted.ensures.started)))

pub returns-in_err-put_line-in-New-clause-stopped : goal.returns-in_err-put_line-in-New-clause-stopped
returns-in_err-put_line-in-New-clause-stopped c =
    let b = c.draft.inside in
    let given = c.args.name in
    let line = column_line c.args.is_marked given (listed c.args.entries.now) in
    let later = draft b.sense b.constant c.put_line.new.self in
    let started =
    (subst (λ (i : Inserted). Starts b.tables given (Ok i) c.start_column.new.self) c.in-New.is
    c.in_ok-inserted.ensures.started).1 in
    after_err _ (subst (λ (d : Draft). HasFirstPart d line later) c.draft.view_is
    (first_part b.sense b.constant b.tables c.put_line.new.self line
    (part_then b.tables c.start_column.new.self c.put_line.new.self (declare_column given ∷ [])
    (when c.args.is_marked (declare_marked given) ++ flat_map (entry_declared given) (listed c.args.entries.now)) started.declared
    (c.in_err-put_line-in-New.ensures.err given started.named))))
