-- The channels of a card that clients share by channels: what is claimed when one is opened, and released when it ends.
use Rattle.std.specs.Prelude.{◌≡◌, ℕ, ◌&&◌, Bool, nat_lt, is_none, if◌then◌else◌, List, ◌∷◌, Option, Some, None}
use Rattle.std.specs.List.{list_all}
use Rattle.snd_base.specs.declared.errors.PcmError.{PcmError}
use Rattle.dshare.specs.Owners.{AreFree, ClaimRow, busy, claimed, last_frames, owner_of, released}
use Rattle.lab_lines.specs.declared.script.Share.{Share}
use Rattle.lab_lines.specs.declared.script.Share.TheVariants.{Dmix, Dshare}

-- a channel is free at a position: it has no owner, and each earlier owner's last frame is before the position
abbrev pub is_free_channel : List ClaimRow → ℕ → ℕ → Bool
is_free_channel claims position channel =
    is_none (owner_of claims channel)
    && list_all (λ frame. nat_lt frame position) (last_frames claims channel)

-- why a claim of some channels is refused, if it is; clients that are mixed claim nothing
abbrev pub claim_refusal : Share → List ClaimRow → List ℕ → ℕ → Option PcmError
claim_refusal Dmix claims channels position = None
claim_refusal Dshare claims channels position =
    if list_all (is_free_channel claims position) channels then None
    else Some (busy claims channels position)

-- the claims after one of some channels, and after their release by an owner that placed up to a frame, if it placed anything
abbrev pub with_claim : Share → List ℕ → List ClaimRow → List ClaimRow
with_claim Dmix channels claims = claims
with_claim Dshare channels claims = claimed channels ∷ claims

abbrev pub with_release : Share → List ℕ → Option ℕ → List ClaimRow → List ClaimRow
with_release Dmix channels last claims = claims
with_release Dshare channels last claims = released channels last ∷ claims

-- a claim is refused exactly where a channel isn't free, and the refusal is that of the channels' owners
pub record ClaimIsOwners (claims : List ClaimRow) (channels : List ℕ) (position : ℕ) : Type 0 where
  pub granted : claim_refusal Dshare claims channels position ≡ None
      → AreFree claims position channels
  pub free : AreFree claims position channels → claim_refusal Dshare claims channels position ≡ None
  pub refused : (e : PcmError) → claim_refusal Dshare claims channels position ≡ Some e
      → e ≡ busy claims channels position
