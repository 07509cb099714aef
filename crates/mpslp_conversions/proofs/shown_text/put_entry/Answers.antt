use Rattle.std.{proofs.Common.{sym, ap, ℕ, []}, specs.{Prelude.{Option}, Option.{option_map_or}}}
use Rattle.mpslp_decimal.specs.Decimal.{Number}
use Rattle.mpslp_io.proofs.OutputLemmas.{puts_then, puts_same}
use Rattle.mpslp_conversions.specs.ShownText.{entry_text}
use Rattle.mpslp_conversions.proofs.shown_text.put_entry.Goals as goal

pub returns : goal.returns
returns g c =
    puts_same (ap (λ (o : Option (Option ℕ × Number)). option_map_or (entry_text c.args.j) o []) (sym c.entry-i.ensures))
    (puts_then c.put.ensures
    (puts_then c.put_shown_count.ensures
    (puts_then c.put_shown_count-2.ensures (puts_then c.put_shown_number.ensures c.put-2.ensures))))
