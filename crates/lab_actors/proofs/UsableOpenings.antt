-- What an opening is: with the values of a file, and fit for the card.
use Rattle.lab_actors.specs.Prelude.{arith, length, List, subst, sym, ℕ, ◌<◌, ◌≡◌, ◌≤◌, All, Option, Result, unwrap_or, identity, Empty, Config, Sound}
use Rattle.lab_actors.specs.Prelude.{CardLine, ClientLine, Stop, IsBoundWhere, IsCardLine, IsIn, IsStopWhere, AreParams, client_values, IsChosen, values_of}
use Rattle.lab_actors.specs.Prelude.{Setup, IsConfigInRange, IsUsable}
use Rattle.lab_actors.proofs.BoundTo.{bound-below}
use Rattle.lab_actors.proofs.ParamLaws.{AreParams-IsValid}

-- what is chosen for a number of channels and a rate is chosen for the file that has them
pub IsChosen-file : (card : CardLine) (line : ClientLine) (wav : Sound) (channels rate : ℕ) (r : Result Config Empty)
    → channels ≡ wav.channels → rate ≡ wav.rate → IsChosen card (values_of channels rate line.period line.buffer) r → IsChosen card (client_values line wav) r
IsChosen-file card line wav channels rate r channels_are rate_is chosen =
    rw (channels_are, rate_is) at chosen

-- an opening with such bindings and parameters can be used
pub IsUsable-opened : (card : CardLine) (channels bound start : ℕ) (given : Option (List ℕ)) (stop : Option Stop) (setup : Setup) → IsCardLine card
    → IsConfigInRange setup.config channels card.channels card.ring
    → IsBoundWhere card.channels given → bound ≤ card.channels → setup.bindings ≡ unwrap_or given (identity bound) → length setup.bindings ≡ channels
    → AreParams setup.config start stop setup.params → IsIn 1 65536 start → IsStopWhere stop → setup.lead < card.ring
    → IsUsable card.channels card.ring setup
IsUsable-opened card channels bound start given stop setup is_card range valid few bindings count params starts stops lead = record {
  channels_are = omega (arith, count, range.channels_are);
  on_card = subst (All (λ channel. channel < card.channels)) (sym bindings) (bound-below card.channels bound given valid few);
  buffer_least = omega (arith, range.buffer_least);
  buffer_most = omega (arith, range.buffer_most, is_card.ring.high);
  params = AreParams-IsValid setup.config start stop setup.params params starts stops (omega (arith, range.period_least)) (omega (arith, range.buffer_least))
      (omega (arith, range.buffer_most, is_card.ring.high));
  lead = lead;
}
