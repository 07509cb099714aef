use Rattle.std.proofs.{Common.{◌≡◌, sym, ap, subst, length, ◌++◌, ◌∷◌, [], List, arith}, lemmas.List.length_push}
use Rattle.mpslp_c.specs.{Arrays.RepresentsColumns, declared.arrays.MpslpColumn.MpslpColumn}
use Rattle.mpslp_c.proofs.KnownLemmas.{keeps_then, columns_more, before_more}
use Rattle.mpslp_c.proofs.arrays.c_columns.Goals as goal

pub returns-in_err-column-clause-keeps : goal.returns-in_err-column-clause-keeps
returns-in_err-column-clause-keeps c = keeps_then c.loop-j.invariant.keeps c.c_column.ensures.keeps

pub returns-in_err-put_elements-clause-keeps : goal.returns-in_err-put_elements-clause-keeps
returns-in_err-put_elements-clause-keeps c = keeps_then c.loop-j.invariant.keeps c.c_column.ensures.keeps

pub returns-in_err-push-clause-keeps : goal.returns-in_err-push-clause-keeps
returns-in_err-push-clause-keeps c = keeps_then c.loop-j.invariant.keeps c.c_column.ensures.keeps

pub loop-j-preserved : goal.loop-j-preserved
loop-j-preserved c =
    let m = c.args.model.now in
    let j = c.loop-j.j in
    let names = c.c_column.new.names.items in
    let elements = c.put_elements.new.elements.items in
    let column = c.in_ok-column.column in
    let pushed : c.push.new.self.items ≡ c.loop-j.columns.items ++ column ∷ [] = c.in_ok-push.ensures.items in
    record {
      count = omega (arith, ap length pushed, length_push c.loop-j.columns.items column);
      elements = omega (
        arith,
        c.in_ok-put_elements.ensures.count,
        c.loop-j.invariant.elements,
        before_more m j
            (omega (arith, c.num_cols-j-end.ensures)),
      );
      keeps = keeps_then c.loop-j.invariant.keeps c.c_column.ensures.keeps;
      represents = subst (λ (columns : List MpslpColumn). RepresentsColumns m names elements columns) (sym pushed)
          (columns_more m c.loop-j.names.items names c.loop-j.elements.items elements c.loop-j.columns.items j column
          c.loop-j.invariant.count c.loop-j.invariant.elements
          c.c_column.ensures.keeps c.put_elements.ensures.keeps c.loop-j.invariant.represents c.in_ok-column.ensures.represents
          c.in_ok-put_elements.ensures.represents);
    }
