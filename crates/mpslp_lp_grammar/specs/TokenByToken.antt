-- What a reader keeps instead of the tokens that it has taken: the context and the state.
use Rattle.std.specs.Prelude.{ℕ, Bool, if◌then◌else◌, List, [], ◌∷◌}
use Rattle.mpslp_builder.specs.Declaration.{declare_column, Declarations, Draft}
use Rattle.mpslp_types.specs.declared.faults.Fault.{Fault}
use Rattle.mpslp_lp_grammar.specs.declared.signs.Sign.{Sign as SignOf}
use Rattle.mpslp_lp_grammar.specs.declared.states.ItemOwner.{ItemOwner}
use Rattle.mpslp_lp_grammar.specs.declared.states.ItemOwner.TheVariants.{OfObjective, OfRow}
use Rattle.mpslp_lp_grammar.specs.declared.states.SideOwner.{SideOwner}
use Rattle.mpslp_lp_grammar.specs.declared.states.SideOwner.TheVariants.{SideOfRow, SideOfBound}
use Rattle.mpslp_lp_grammar.specs.declared.states.State.{State}
use Rattle.mpslp_lp_grammar.specs.declared.states.State.TheVariants.{Between, AtObjective, ObjectiveName, AtLastWord, AtSemi, Signs, ItemNumber, RowName, RowLabel, RowSign, RowNumber, RowLeft, RowLeftRelation, BoundName, BoundSign, BoundLeft, BoundLeftRelation, AtSide, SideSign, AfterEnd}
use Rattle.mpslp_lp_grammar.specs.Rules.{◌>>=◌, next, ahead, Outcome, phrases}
use Rattle.mpslp_lp_grammar.specs.WithinPhrase.{resume}
use Rattle.mpslp_lp_grammar.specs.Terminal.{TerminalAt}
use Rattle.mpslp_lp_grammar.specs.declared.context.Context.{Context}
use Rattle.mpslp_lp_grammar.specs.Phrase.{PhraseRule, Follows}
use Rattle.mpslp_lp_grammar.specs.Items.{unsigned_side, side, next_relation, Item, number_item, signed_item, colon}
use Rattle.mpslp_lp_grammar.specs.Rows.{objective_item, objective_named, objective, row_item, row_first, row_after_left, row_number, row_signed, row_from, row_named, row_whole}
use Rattle.mpslp_lp_grammar.specs.Grammar.{bound_right, bound_after, bound_column, bound_left, line_end, last_word, semi_from, phrase_at}

abbrev pub item_read : Context → ItemOwner → Item → PhraseRule Follows
item_read context (OfObjective name) item = objective_item context name item
item_read context (OfRow row) item = row_item context row item

abbrev pub new_column : Bool → List ℕ → Declarations
new_column is_new column = if is_new then declare_column column ∷ [] else []

abbrev pub side_read : Context → SideOwner → PhraseRule Follows
side_read context (SideOfRow row relation) = side context >>= row_whole context row relation
side_read context (SideOfBound is_new column relation) = side context >>= bound_right context (new_column is_new column) column relation

abbrev pub signed_side_read : Context → SideOwner → SignOf → PhraseRule Follows
signed_side_read context (SideOfRow row relation) sign = (next >>= unsigned_side context sign) >>= row_whole context row relation
signed_side_read context (SideOfBound is_new column relation) sign =
    (next >>= unsigned_side context sign) >>= bound_right context (new_column is_new column) column relation

-- the outcome of the tokens that follow, if the last one before them is on this line
abbrev pub says : (line : ℕ) → Context → State → List TerminalAt → Outcome Fault Draft
says line context (Between place) tokens = phrases phrase_at (record { place = place; context = context }) 0 tokens
says line context (AtObjective sense) tokens = resume phrase_at (objective context sense) tokens
says line context (ObjectiveName sense name) tokens = resume phrase_at (ahead >>= objective_named context sense name) tokens
says line context (AtLastWord wanted) tokens = resume phrase_at (next >>= last_word context wanted) tokens
says line context AtSemi tokens = resume phrase_at (ahead >>= semi_from context) tokens
says line context (Signs owner sign) tokens = resume phrase_at (signed_item context sign >>= item_read context owner) tokens
says line context (ItemNumber owner sign value) tokens = resume phrase_at (number_item sign value >>= item_read context owner) tokens
says line context (RowName name) tokens = resume phrase_at (colon >>= row_named context name) tokens
says line context (RowLabel name) tokens = resume phrase_at (next >>= row_from context name) tokens
says line context (RowSign name sign) tokens = resume phrase_at (ahead >>= row_signed context name sign) tokens
says line context (RowNumber name sign value) tokens = resume phrase_at (number_item sign value >>= row_number context name) tokens
says line context (RowLeft name limit) tokens = resume phrase_at (row_after_left context name limit) tokens
says line context (RowLeftRelation row) tokens = resume phrase_at (next >>= row_first context row) tokens
says line context (BoundName column) tokens = resume phrase_at (next >>= bound_after context column) tokens
says line context (BoundSign sign) tokens = resume phrase_at ((next >>= unsigned_side context sign) >>= bound_left context) tokens
says line context (BoundLeft limit) tokens = resume phrase_at (next_relation context >>= λ relation. next >>= bound_column context limit relation) tokens
says line context (BoundLeftRelation limit relation) tokens = resume phrase_at (next >>= bound_column context limit relation) tokens
says line context (AtSide sided) tokens = resume phrase_at (side_read context sided) tokens
says line context (SideSign sided sign) tokens = resume phrase_at (signed_side_read context sided sign) tokens
says line context AfterEnd tokens = resume phrase_at (line_end context line) tokens
