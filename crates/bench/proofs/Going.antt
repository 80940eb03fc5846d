-- A player and a mix seat of one ring, later, and later still.
use Rattle.std.proofs.Common.{◌≡◌, ℕ, ◌<◌, ◌≤◌, arith, inl, inr, refl, sym, subst, ◌∙◌, []}
use Rattle.std.proofs.lemmas.Bool.{cases_lt}
use Rattle.sum_table.specs.declared.seats.mix.MixSeat.{MixSeat}
use Rattle.std.proofs.lemmas.List.{append-nil}
use Rattle.sum_table.specs.declared.seats.player.PlayerSeat.{PlayerSeat}
use Rattle.sum_table.specs.Players.{PlayerGoes, player_view}
use Rattle.sum_table.specs.Seats.{BeginsWith-trans, IsLaterSeat}

pub player_stays : (p : PlayerSeat) → PlayerGoes p p
player_stays p = record { ring = refl; key = refl; history = ([], sym (append-nil (player_view p).history)) }

pub player_goes_on : (p q r : PlayerSeat) → PlayerGoes p q → PlayerGoes q r → PlayerGoes p r
player_goes_on p q r first then = record {
  ring = then.ring ∙ first.ring;
  key = then.key ∙ first.key;
  history = BeginsWith-trans (player_view r).history (player_view q).history (player_view p).history then.history first.history;
}

-- where a call may leave the player as it was
pub player_same : (p q r : PlayerSeat) → PlayerGoes p q → r ≡ q → PlayerGoes p r
player_same p q r first same = subst (λ s. PlayerGoes p s) (sym same) first

-- a seat that tried to place a sample, whether or not the lap of the frame fits a word
pub seat_goes : (s t : MixSeat) (lap : ℕ) → (lap < 4294967295 → IsLaterSeat s t) → (4294967295 ≤ lap → IsLaterSeat s t) → IsLaterSeat s t
seat_goes s t lap fits ends = elim (cases_lt lap 4294967295) [
  | inl below ↦ fits below
  | inr past ↦ ends (omega (arith, past))
]
