use Rattle.std.proofs.{Common.{◌≡◌, ◌++◌, ◌-◌, ◌∙◌, sym, ap, refl, length, []}, lemmas.List.drop-replicate}
use Rattle.std.specs.Prelude.{replicate, unwrap_or}
use Rattle.mpslp_c.proofs.faults.c_fault.Goals as goal

pub returns-in-Some : goal.returns-in-Some
returns-in-Some c =
    let name = c.in-Some.name in
    let named : unwrap_or c.args.fault.now.name [] ≡ name = ap (λ found. unwrap_or found []) c.in-Some.is in
    record {
      kind_is = search;
      line_is = refl;
      place_is = refl;
      number_is = refl;
      length_is = c.put_name.ensures.len ∙ ap length (sym named);
      name_is = c.put_name.ensures.bytes
          ∙ (ap (λ rest. name ++ rest) (drop-replicate (length name) 256 0)
          ∙ ap (λ n. n ++ replicate (256 - length n) 0) (sym named));
    }
