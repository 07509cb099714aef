use Rattle.std.proofs.Common.{[]}
use Rattle.mpslp_model.proofs.ReaderLemmas.{ends_refused}
use Rattle.mpslp_model.proofs.readers.read_whole_seeded.Goals as goal

pub returns-in_err-feed : goal.returns-in_err-feed
returns-in_err-feed g c =
    let reader = g.P.ModelReader in
    let bytes = c.args.bytes.now in
    ends_refused reader.after reader.early_fault reader.refused reader.declares reader.first_fault
    c.new_seeded-reader.result c.feed.new.self bytes c.in_err-feed.field-0.0 c.from_residual.result
    (g.met.P.ModelReader.early_is_first bytes) c.new_seeded-reader.ensures
    (g.met.P.ModelReader.after_works c.new_seeded-reader.result [] c.new_seeded-reader.ensures)
    c.from_residual.ensures.1 c.in_err-feed.ensures.answer
