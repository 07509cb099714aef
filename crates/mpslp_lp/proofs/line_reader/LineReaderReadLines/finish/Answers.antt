use Rattle.mpslp_lp.proofs.{Prelude.{◌≡◌, sym, subst, ap, ◌∙◌, is_some, Draft, Finishes, Context}, LineReaderLemmas.{led-named}}
use Rattle.mpslp_lp.proofs.LineReaderLemmas.{ends-missing, ends-text}
use Rattle.mpslp_lp.proofs.line_reader.LineReaderReadLines.finish.Goals as goal

-- the builder has all declarations
same_draft : (context taken : Context) (draft : Draft) → draft ≡ taken.builder → taken ≡ context → draft ≡ context.builder
same_draft _ _ _ is same = is ∙ ap (λ it. it.builder) same

pub finish_by_columns-requires : goal.finish_by_columns-requires
finish_by_columns-requires c =
    ap (λ draft. is_some draft.objective) (same_draft _ _ _ c.into_builder.ensures c.into_context-context.ensures)
    ∙ led-named c.requires.text c.args.self c.requires.read (sym c.is_at_end-is_at_end.ensures ∙ c.if-not-is_at_end.false)

pub returns-then-not-is_at_end : goal.returns-then-not-is_at_end
returns-then-not-is_at_end c =
    λ bytes read. ends-missing bytes c.args.self read (sym c.is_at_end-is_at_end.ensures ∙ c.if-not-is_at_end.true)

pub returns : goal.returns
returns c = λ bytes read. ends-text _ c.args.self _ read
    (sym c.is_at_end-is_at_end.ensures ∙ c.if-not-is_at_end.false) (subst (λ draft. Finishes draft c.finish_by_columns.result)
    (same_draft _ _ _ c.into_builder.ensures c.into_context-context.ensures) c.finish_by_columns.ensures)
