-- The canonical text of a well-formed model declares it; the laws of MPS as a format of model files.
use Rattle.mpslp_mps_laws.proofs.Prelude
use Prelude.{AreConsistent, DeclareOneModel, DeclareTheirModels, DeclaresMps, DistinguishModels, Fault, IsFirstMpsFault, IsReadAsPrinted}
use Prelude.{IsSound, LinearModel, List, Means, NameAt, None, Option, [], ap, are_well_formed, arith, both_so, canonical_mps, content_of}
use Prelude.{declarations_of, empty_draft, is_legal_line, lines-declare, lines-good, list_all, listing_of, map, model-or_fault, read_lines}
use Prelude.{subst, sym, ℕ, ◌∙◌, ◌≡◌}
use Rattle.mpslp_mps_laws.proofs.{DraftMaps.{listed_decl}, FilledOnce.filled-once, ListedMeaning.consistent-if_once}
use Rattle.mpslp_builder.proofs.ListingLemmas.{sound-listing}
use Rattle.mpslp_mps_laws.proofs.{ListedMeaning.{draft-means, good-whole}, PrintableLemmas.read-as-line_text, SectionWalks.Walk}
use Rattle.mpslp_mps_laws.proofs.WholeWalk.{listed-items, whole-walk, whole_items, whole_of}

-- ---- bytes declare at most one model, and have at most one first error. The canonical text of a well-formed model
-- declares it

pub one-model : DeclareOneModel
one-model = grind arith

pub canonical-walk : (m : LinearModel) → IsSound m
    → Walk [] empty_draft (whole_items (whole_of (listing_of m))) (listed_decl (listing_of m))
canonical-walk m sound = whole-walk _ (good-whole _ (sound-listing m sound))

pub canonical-items : (m : LinearModel) → IsSound m →
    map content_of (read_lines (canonical_mps m)) ≡ whole_items (whole_of (listing_of m))
canonical-items m sound = let read : IsReadAsPrinted m = read-as-line_text m sound in ap (map content_of) read.lines ∙ read.items
    ∙ listed-items (listing_of m)

pub canonical-declarations : (m : LinearModel) → IsSound m → declarations_of (canonical_mps m) ≡ listed_decl (listing_of m)
canonical-declarations = grind (arith, lines-declare, canonical-items, canonical-walk)

-- The canonical text of a well-formed model declares it, if its declarations are consistent.
pub declares-if_consistent : (m : LinearModel) → IsSound m → AreConsistent (listed_decl (listing_of m)) →
    DeclaresMps (canonical_mps m) m
declares-if_consistent m sound consistent =
    let read : IsReadAsPrinted m = read-as-line_text m sound in
    record {
      text = both_so _ _ read.end
          (lines-good [] empty_draft (read_lines (canonical_mps m)) (ap (list_all is_legal_line) read.lines ∙ read.legal)
          (ap (are_well_formed [] empty_draft) (canonical-items m sound) ∙ (canonical-walk m sound).good));
      means =
          subst (λ ds. Means ds m) (sym (canonical-declarations m sound))
          (record { consistent = consistent; meant = draft-means m sound });
    }

-- The canonical text of a well-formed model declares it.
pub canonical-declares : DeclareTheirModels
canonical-declares m sound = declares-if_consistent m sound
    (consistent-if_once _ (sound-listing m sound) (filled-once _ (sound-listing m sound)))

-- Well-formed models have the same canonical text if and only if they are equal.
pub is-injective : DistinguishModels
is-injective m n sound other = (
  λ same. one-model (canonical_mps m) m n (canonical-declares m sound)
      (subst (λ text. DeclaresMps text n) (sym same) (canonical-declares n other)),
  ap canonical_mps,
)

-- ---- the laws of MPS as a format of model files, in terms of the trait `Format`

-- MPS can express every model.
abbrev pub mps_unfit : LinearModel → Option NameAt
mps_unfit m = None

-- The text of a well-formed model declares this model.
pub text_declares : (m : LinearModel) → IsSound m → mps_unfit m ≡ None → DeclaresMps (canonical_mps m) m
text_declares m sound fits = canonical-declares m sound

-- No bytes declare two models.
pub one_model : (bytes : List ℕ) (m n : LinearModel) → DeclaresMps bytes m → DeclaresMps bytes n → m ≡ n
one_model = one-model

-- What bytes declare is well-formed, and MPS can express it.
pub declared_sound : (bytes : List ℕ) (m : LinearModel) → DeclaresMps bytes m → IsSound m × (mps_unfit m ≡ None)
declared_sound = grind arith

-- Bytes that declare a model have no error.
pub no_fault : (bytes : List ℕ) (m : LinearModel) (fault : Fault) → DeclaresMps bytes m → IsFirstMpsFault bytes fault → ⊥
no_fault = model-or_fault

-- No bytes have two first errors.
pub one_fault : (bytes : List ℕ) (fault other : Fault) → IsFirstMpsFault bytes fault → IsFirstMpsFault bytes other → fault ≡ other
one_fault = grind arith
