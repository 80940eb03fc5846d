-- A claim of a card's channels, and their release, are those of a run.
use Rattle.lab_places.specs.Prelude.{ap, Err, IfErr, List, None, Ok, OnErr, OnOk, Option, refl, Result, Some, sym, ℕ, ◌∙◌, ◌∷◌, ◌≡◌, PcmError, Ownership}
use Rattle.lab_places.specs.Prelude.{StandsFor, claim_refusal, ClaimIsOwners, IsClaimed}
use Rattle.dshare.specs.Owners.{AreFree, ClaimRow, busy, claimed}
use Rattle.lab_lines.specs.declared.script.Share.TheVariants.{Dshare}

-- a claim of channels that aren't free is refused as its owners' list says
pub claim_refusal-busy : (claims : List ClaimRow) (channels : List ℕ) (position : ℕ) (e : PcmError) → ClaimIsOwners claims channels position
    → ¬ AreFree claims position channels → e ≡ busy claims channels position → claim_refusal Dshare claims channels position ≡ Some e
claim_refusal-busy claims channels position e is not_free busy_is = by_refusal (claim_refusal Dshare claims channels position) refl
  where
    by_refusal : (o : Option PcmError) → claim_refusal Dshare claims channels position ≡ o → claim_refusal Dshare claims channels position ≡ Some e
    by_refusal None none = absurd (not_free (is.granted none))
    by_refusal (Some other) some_is = some_is ∙ ap (λ x. Some x) (is.refused other some_is ∙ sym busy_is)

pub claim-is : (claims : List ClaimRow) (channels : List ℕ) (position : ℕ) (v w : Ownership) (r : Result (Unit {0}) PcmError) → ClaimIsOwners claims channels position → StandsFor v claims
    → OnOk r ((h : List ClaimRow) → StandsFor v h → AreFree h position channels)
    → OnOk r ((h : List ClaimRow) → StandsFor v h → StandsFor w (claimed channels ∷ h))
    → IfErr r (λ e. (h : List ClaimRow) → StandsFor v h → e ≡ busy h channels position)
    → OnErr r ((h : List ClaimRow) → StandsFor v h → ¬ AreFree h position channels)
    → IsClaimed Dshare claims channels position r w
claim-is claims channels position v w (Ok done) is stands free ok busy_is not_free = (is.free (free claims stands), ok claims stands)
claim-is claims channels position v w (Err e) is stands free ok busy_is not_free =
    claim_refusal-busy claims channels position e is (not_free claims stands) (busy_is claims stands)
