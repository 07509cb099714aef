use Rattle.std.proofs.{Common.{Some, string_bytes, sym, ◌∙◌, ap}, lemmas.{Option.{slice_get-map}, Slice.Eq.{bytes_eq-Decides}}}
use Rattle.std.specs.Prelude.{option_map}
use Rattle.mpslp_command.proofs.SameWords.{slice_get_at}
use Rattle.mpslp_command.proofs.parsing.is_at.Goals as goal

pub returns-in-Some : goal.returns-in-Some
returns-in-Some c = λ same.
    let found = c.in-Some.ensures.lookup in
    let equal = (bytes_eq-Decides c.as_str.result.now c.args.text.now).0 (sym c.eq.ensures ∙ same) in
    slice_get-map string_bytes c.args.words.now c.args.i
    ∙ ap (option_map string_bytes) (slice_get_at c.args.words.now c.args.i c.in-Some.word.now found.3.0 ∙ ap Some (sym found.1))
    ∙ ap Some (sym c.as_str.ensures.value ∙ equal)
