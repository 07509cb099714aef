-- What the formats give, by their names.
use Rattle.std.specs.Prelude.{None}
use Rattle.mpslp_types.specs.declared.forms.Form.{Form}
use Rattle.mpslp_types.specs.declared.forms.Form.TheVariants.{Mps, Lp}
use Rattle.mpslp_model.specs.FormatParts.{Declares, HasFirstFault, Unfit, TextOf}
use Rattle.mpslp_mps.specs.MpsText.{DeclaresMps}
use Rattle.mpslp_mps.specs.FirstFault.{IsFirstMpsFault}
use Rattle.mpslp_lp.specs.LpText.{DeclaresLp}
use Rattle.mpslp_lp.specs.FirstFault.{IsFirstLpFault}
use Rattle.mpslp_mps_text.specs.CanonicalMps.{canonical_mps}
use Rattle.mpslp_lp_text.specs.CanonicalLp.{canonical_lp}
use Rattle.mpslp_lp_text.specs.Unfit.{unfit}

abbrev pub declares_in : Form → Declares
declares_in Mps = DeclaresMps
declares_in Lp = DeclaresLp

abbrev pub first_fault_in : Form → HasFirstFault
first_fault_in Mps = IsFirstMpsFault
first_fault_in Lp = IsFirstLpFault

abbrev pub unfit_in : Form → Unfit
unfit_in Mps = λ m. None
unfit_in Lp = unfit

abbrev pub text_in : Form → TextOf
text_in Mps = canonical_mps
text_in Lp = canonical_lp
