use Rattle.mpslp_builder.proofs.Prelude
use Prelude.{◌≡◌, sym, ap, ◌∙◌, ◌++◌, List, ℕ, true, flat_map, when, Draft, with_declaration, with_declarations, declare_column}
use Prelude.{declare_marked, has_column, refusals_in_turn, draft, no_part, listed, entry_declared}
use Rattle.mpslp_builder.proofs.MadeDrafts.{made_now, put_again}
use Rattle.mpslp_builder.proofs.{DraftEntries.sorted-from_made, ReadingLemmas.number_there}
use Rattle.mpslp_builder.proofs.LineLemmas.{after_err, taken_next, part_next, first_part}
use Rattle.mpslp_builder.specs.Stopped.{HasFirstPart}
use Prelude.{subst}
use Rattle.mpslp_builder.proofs.reader_builder.ReaderBuilder.next_line.Goals as goal

pub invariant_of-draft : goal.invariant_of-draft
invariant_of-draft c = (
  c.put_line.ensures.kept.made c.draft.inside.sense c.draft.inside.constant c.draft.invariant.0,
  c.put_line.ensures.kept.numbered,
)

pub returns-clause-there : goal.returns-clause-there
returns-clause-there c = λ _. ap (λ (d : Draft). has_column d c.args.column.now) (sym c.draft.view_is) ∙ sym
    (number_there no_part c.draft.inside.tables.columns.entries c.in-Some.place.column c.args.column.now
    c.in-Some.ensures.place.column)

pub returns-clause-taken : goal.returns-clause-taken
returns-clause-taken c =
    let b = c.draft.inside in
    let all = c.args.self.now.draft in
    let later = draft b.sense b.constant c.put_line.new.self in
    let column = c.args.column.now in
    let place = c.in-Some.ensures.place in
    let more = when c.args.is_marked (declare_marked column) ++ flat_map (entry_declared column) (listed c.args.entries.now) in
    let declared = c.in_ok-put_line.ensures.ok column place.column in
    let there : has_column all column ≡ true = ap (λ (d : Draft). has_column d column) (sym c.draft.view_is)
    ∙ sym (number_there no_part b.tables.columns.entries c.in-Some.place.column column place.column) in
    let again : with_declaration all (declare_column column) ≡ all =
    ap (λ (columns : List (List ℕ × Unit {0})). record all { columns = columns })
    (sym (put_again column all.columns
    (sorted-from_made all (made_now c.draft.view_is c.draft.invariant.0)).columns there)) in taken_next
    all later column more again (ap (λ (d : Draft). refusals_in_turn d more) (sym c.draft.view_is)
    ∙ declared.free b.sense b.constant) (declared.declared b.sense b.constant
    ∙ ap (λ (d : Draft). with_declarations d more) c.draft.view_is)

pub returns-in_err-put_line-clause-stopped : goal.returns-in_err-put_line-clause-stopped
returns-in_err-put_line-clause-stopped c =
    let b = c.draft.inside in
    let all = c.args.self.now.draft in
    let later = draft b.sense b.constant c.put_line.new.self in
    let column = c.args.column.now in
    let place = c.in-Some.ensures.place in
    let more = when c.args.is_marked (declare_marked column) ++ flat_map (entry_declared column) (listed c.args.entries.now) in
    let there : has_column all column ≡ true = ap (λ (d : Draft). has_column d column) (sym c.draft.view_is)
    ∙ sym (number_there no_part b.tables.columns.entries c.in-Some.place.column column place.column) in
    let again : with_declaration all (declare_column column) ≡ all =
    ap (λ (columns : List (List ℕ × Unit {0})). record all { columns = columns })
    (sym (put_again column all.columns
    (sorted-from_made all (made_now c.draft.view_is c.draft.invariant.0)).columns there)) in
    after_err _ (part_next all later column more again (subst (λ (d : Draft). HasFirstPart d more later) c.draft.view_is
    (first_part b.sense b.constant b.tables c.put_line.new.self more (c.in_err-put_line.ensures.err column place.column))))
