use Rattle.mpslp_mps.proofs.Prelude
use Prelude.{rules, ◌≡◌, refl, sym, ap, subst, ◌∙◌, List, ℕ, map, take, Bor, Ok, Fields, LineContent, data_line, header_of, fields}
use Prelude.{ReadsContent}
use Rattle.mpslp_mps.proofs.FrontFields.{data-front, header-front, data-item, header-item, empty-item, read-item, no_fields, some_fields}
use Rattle.mpslp_mps.proofs.read_line.read_content.Goals as goal

pub returns-then-is_empty-clause-answers : goal.returns-then-is_empty-clause-answers
returns-then-is_empty-clause-answers c =
    let line = c.args.line.now in
    let context = c.args.context.now in
    let earlier = c.args.builder.now.draft in
    let none = no_fields c.front_fields-fields.result.items (take 6 (fields line)) c.front_fields-fields.ensures
    (sym c.is_empty.ensures ∙ c.if-is_empty.true) in let item = empty-item line c.requires.content none in
    subst (λ (i : LineContent). ReadsContent context earlier i (Ok tt) context earlier) (sym item) (refl, search rules, refl)

pub returns-then-is_data-clause-answers : goal.returns-then-is_data-clause-answers
returns-then-is_data-clause-answers c =
    let line = c.args.line.now in
    let context = c.args.context.now in
    let earlier = c.args.builder.now.draft in
    let names : ◌≡◌ {A = Fields} (map (λ field. field.now) c.deref.result.now) (take 6 (fields line)) = ap
    (λ (items : List (Bor (List ℕ))). map (λ (field : Bor (List ℕ)). field.now) items) c.deref.ensures.0
    ∙ c.front_fields-fields.ensures in
    let item = data-item line (read-item line c.requires.content (some_fields c.front_fields-fields.result.items (take 6 (fields line))
    c.front_fields-fields.ensures (sym c.is_empty.ensures ∙ c.if-is_empty.false))) (sym c.is_data.ensures ∙ c.if-is_data.true) in
    subst (λ (i : LineContent). ReadsContent context earlier i c.read_data.result c.read_data.new.context c.read_data.new.builder.draft)
    (sym item) (data-front context earlier (fields line) c.read_data.result c.read_data.new.context c.read_data.new.builder.draft
    (subst (λ (f : Fields). ReadsContent context earlier (data_line f) c.read_data.result c.read_data.new.context
    c.read_data.new.builder.draft) names c.read_data.ensures.answers))

pub returns-else-is_data-clause-answers : goal.returns-else-is_data-clause-answers
returns-else-is_data-clause-answers c =
    let line = c.args.line.now in
    let context = c.args.context.now in
    let earlier = c.args.builder.now.draft in
    let names : ◌≡◌ {A = Fields} (map (λ field. field.now) c.deref-else-is_data.result.now)
    (take 6 (fields line)) = ap (λ (items : List (Bor (List ℕ))). map (λ (field : Bor (List ℕ)). field.now) items)
    c.deref-else-is_data.ensures.0 ∙ c.front_fields-fields.ensures in
    let item = header-item line (read-item line c.requires.content (some_fields c.front_fields-fields.result.items (take 6 (fields line))
    c.front_fields-fields.ensures (sym c.is_empty.ensures ∙ c.if-is_empty.false))) (sym c.is_data.ensures ∙ c.if-is_data.false) in subst
    (λ (i : LineContent). ReadsContent context earlier i c.read_keyword.result c.read_keyword.new.context
    c.read_keyword.new.builder.draft)
    (sym item) (header-front context earlier (fields line) c.read_keyword.result c.read_keyword.new.context
    c.read_keyword.new.builder.draft
    (subst (λ (f : Fields). ReadsContent context earlier (header_of f) c.read_keyword.result
    c.read_keyword.new.context c.read_keyword.new.builder.draft) names c.read_keyword.ensures.answers))
