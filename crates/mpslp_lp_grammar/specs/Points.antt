-- Terminals, points of the grammar and lists of terms, as the laws of LP text speak of them.
use Rattle.std.specs.Prelude.{◌≡◌, ℕ, Bool, false, List, [], ◌∷◌, ◌++◌}
use Rattle.mpslp_types.specs.Basics.{list_any, Number as Decimal, same_bytes}
use Rattle.mpslp_builder.specs.Declaration.{Draft}
use Rattle.mpslp_lp_grammar.specs.Phrase.{Point}
use Rattle.mpslp_lp_grammar.specs.Terminal.{Terminal, TerminalAt}
use Rattle.mpslp_lp_grammar.specs.declared.{sections_seen.SectionsSeen.{SectionsSeen}, states.Place.{Place}}

abbrev pub at : ℕ → Terminal → TerminalAt
at n terminal = record { line = n; terminal = terminal }

abbrev pub point_at : Place → SectionsSeen → Draft → Point
point_at place sections_seen earlier = record { place = place; context = record { sections_seen = sections_seen; builder = earlier } }

-- none of the columns appears twice, after these terms
abbrev pub AreNew : List (List ℕ × Decimal) → List (List ℕ × Decimal) → Type 0
AreNew seen [] = Unit {0}
AreNew seen (term ∷ terms) = (list_any (λ (earlier : List ℕ × Decimal). same_bytes term.0 earlier.0) seen ≡ false) × AreNew (seen ++ term ∷ []) terms
