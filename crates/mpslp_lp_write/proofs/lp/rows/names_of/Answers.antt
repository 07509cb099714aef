use Rattle.mpslp_lp_write.proofs.Prelude
use Prelude.{◌≡◌, subst, ◌+◌, ◌<◌, ℕ, zero, suc, List, [], ◌∷◌, length, arith, Bor, Some, slice_get, slice_index_or, get_or_default, Number}
use Prelude.{row_name, row_columns, column_names}
use Rattle.mpslp_lp_write.proofs.lp.rows.names_of.Goals as goal

pub returns : goal.returns
returns c = by
  where
    -- a term that was read is that at its place, whatever the default
    as_read : (n : ℕ) (found term : ℕ × Number) (name : List ℕ) → n < 8 →
        slice_get (column_names c.args.model.now) (slice_index_or c.args.terms.now n found).0 ≡ Some name
        → slice_get (column_names c.args.model.now) (slice_index_or c.args.terms.now n term).0 ≡ Some name
    as_read n found term name below =
        subst (λ (t : ℕ × Number). slice_get (column_names c.args.model.now) t.0 ≡ Some name)
        (get_or_default c.args.terms.now n found term (omega (arith, below, c.type_inv.terms)))

    by : (n : ℕ) (term : ℕ × Number) (name : Bor (List ℕ)) → n < 8 →
        c.args.from + n < length (row_columns c.args.model.now (row_name c.args.model.now c.args.i))
        → slice_get (column_names c.args.model.now) (slice_index_or c.args.terms.now n term).0
        ≡ Some
        (slice_index_or
        (c.name_of.result ∷ c.name_of-2.result ∷ c.name_of-3.result ∷ c.name_of-4.result ∷ c.name_of-5.result ∷
        c.name_of-6.result ∷ c.name_of-7.result ∷ c.name_of-8.result ∷ []) n name).now
    by zero term name below within = as_read 0 c.index-terms-0.result term c.name_of.result.now below (c.name_of.ensures within)
    by (suc zero) term name below within =
        as_read 1 c.index-terms-1.result term c.name_of-2.result.now below (c.name_of-2.ensures within)
    by (suc (suc zero)) term name below within =
        as_read 2 c.index-terms-2.result term c.name_of-3.result.now below (c.name_of-3.ensures within)
    by (suc (suc (suc zero))) term name below within =
        as_read 3 c.index-terms-3.result term c.name_of-4.result.now below (c.name_of-4.ensures within)
    by (suc (suc (suc (suc zero)))) term name below within =
        as_read 4 c.index-terms-4.result term c.name_of-5.result.now below (c.name_of-5.ensures within)
    by (suc (suc (suc (suc (suc zero))))) term name below within =
        as_read 5 c.index-terms-5.result term c.name_of-6.result.now below (c.name_of-6.ensures within)
    by (suc (suc (suc (suc (suc (suc zero)))))) term name below within =
        as_read 6 c.index-terms-6.result term c.name_of-7.result.now below (c.name_of-7.ensures within)
    by (suc (suc (suc (suc (suc (suc (suc zero))))))) term name below within =
        as_read 7 c.index-terms-7.result term c.name_of-8.result.now below (c.name_of-8.ensures within)
    by (suc (suc (suc (suc (suc (suc (suc (suc n)))))))) term name below within = absurd (omega (arith, below))
