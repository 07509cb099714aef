use Rattle.std.{proofs.Common.{Bor, List, ap, map, sym, ℕ, ◌∙◌}, specs.{Option.option_map_or, Prelude.Option}}
use Rattle.mpslp_types.specs.Name.{lower_byte, same_bytes}
use Rattle.mpslp_lp_tokens.{proofs.WordLemmas.found-word_class, specs.declared.words.WordClass.WordClass}
use Rattle.mpslp_lp_tokens.specs.declared.words.WordClass.TheVariants as meanings
use Rattle.mpslp_lp_tokens.proofs.words.class_among.Goals as goal

pub returns-in-Some : goal.returns-in-Some
returns-in-Some c =
    ap (λ (o : Option (Bor (List ℕ) × WordClass)). option_map_or (λ entry. entry.1) o meanings.Name) (sym c.in-Some.is
    ∙ c.word_among.ensures) ∙ found-word_class (λ (word : List ℕ). same_bytes (map lower_byte c.args.text.now) word)
    c.args.words.now

pub returns-in-None : goal.returns-in-None
returns-in-None c =
    ap (λ (o : Option (Bor (List ℕ) × WordClass)). option_map_or (λ entry. entry.1) o meanings.Name) (sym c.in-None.is
    ∙ c.word_among.ensures) ∙ found-word_class (λ (word : List ℕ). same_bytes (map lower_byte c.args.text.now) word)
    c.args.words.now
