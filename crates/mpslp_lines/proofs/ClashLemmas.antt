-- A column that would be both integer and semi-continuous: its error comes before all other errors of what a line declares.
use Rattle.std.{proofs.Common.{Bool, List, [], arith, false, refl, true, ◌∷◌, ◌≡◌}, specs.List.{list_all, list_any}}
use Rattle.mpslp_types.specs.{Lists.those_of, declared.faults.BuildFault.BuildFault}
use Rattle.mpslp_builder.specs.Declaration.{Declaration, Declarations, Draft, declare_binary, declare_integer, declare_marked, declare_semi}
use Rattle.mpslp_builder.specs.{Declaration.with_declaration, Refusal.refusals_in_turn}
use Rattle.mpslp_lines.specs.Declaring.{is_kind_clash}

abbrev pub has_kind_clash : Draft → Declarations → Bool
has_kind_clash earlier ds = list_any is_kind_clash (refusals_in_turn earlier ds)

-- ---- declarations that do not concern the type of a column

abbrev pub says_no_kind : Declaration → Bool
says_no_kind (declare_marked c) = false
says_no_kind (declare_integer c) = false
says_no_kind (declare_binary c) = false
says_no_kind (declare_semi c) = false
says_no_kind _ = true

none_held : (tests : List (Bool × BuildFault)) → list_any (λ test. is_kind_clash test.1) tests ≡ false
    → list_any is_kind_clash (those_of tests) ≡ false
none_held [] h = refl
none_held (test ∷ tests) h = grind (arith, none_held tests)

-- such declarations never clash
pub no-clash : (ds : Declarations) (earlier : Draft) → list_all says_no_kind ds ≡ true → has_kind_clash earlier ds ≡ false
no-clash [] earlier h = refl
no-clash (d ∷ ds) earlier h = grind (arith, no-clash ds (with_declaration earlier d))
