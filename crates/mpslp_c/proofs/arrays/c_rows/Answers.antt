use Rattle.std.proofs.{Common.{◌≡◌, sym, ap, subst, length, ◌++◌, ◌∷◌, [], List, arith}, lemmas.List.length_push}
use Rattle.mpslp_c.{specs.{Arrays.RepresentsRows, declared.arrays.MpslpRow.MpslpRow}, proofs.KnownLemmas.{keeps_then, rows_more}}
use Rattle.mpslp_c.proofs.arrays.c_rows.Goals as goal

pub returns-in_err-row-clause-keeps : goal.returns-in_err-row-clause-keeps
returns-in_err-row-clause-keeps c = keeps_then c.loop-i.invariant.keeps c.c_row.ensures.keeps

pub returns-in_err-push-clause-keeps : goal.returns-in_err-push-clause-keeps
returns-in_err-push-clause-keeps c = keeps_then c.loop-i.invariant.keeps c.c_row.ensures.keeps

pub loop-i-preserved : goal.loop-i-preserved
loop-i-preserved c =
    let names = c.c_row.new.names.items in
    let pushed : c.push.new.self.items ≡ c.loop-i.rows.items ++ c.in_ok-row.row ∷ [] = c.in_ok-push.ensures.items in
    record {
      count = omega (arith, ap length pushed, length_push c.loop-i.rows.items c.in_ok-row.row);
      keeps = keeps_then c.loop-i.invariant.keeps c.c_row.ensures.keeps;
      represents = subst (λ (rows : List MpslpRow). RepresentsRows c.args.model.now names rows) (sym pushed)
          (rows_more c.args.model.now c.loop-i.names.items names c.loop-i.rows.items c.loop-i.i c.in_ok-row.row
          c.loop-i.invariant.count c.c_row.ensures.keeps c.loop-i.invariant.represents c.in_ok-row.ensures.represents);
    }
