-- A client that moves frames has counts near each other, and a port that loaded the position still is what its calls ask.
use Rattle.dmix_client.specs.Prelude.{arith, List, subst, sym, ◌+◌, ◌<◌, ◌^◌, ◌≡◌, nat_tests, Err, false, Ok, OnOk, Result, true, ℤ, PcmError, Geometry, Setup}
use Rattle.dmix_client.specs.Prelude.{is_moving, PlaybackStream, IsOnCard, IsConfigured, IsGoing, IsReady, IsSoundClient}

pub IsReady-moving : (c : PlaybackStream) (ring : List ℤ) → IsSoundClient c ring → is_moving c.status.state ≡ true → c.status.stopped ≡ false → IsReady c
IsReady-moving c ring sound moves going = grind (arith, nat_tests)

written-fits : (c : PlaybackStream) (ring : List ℤ) → IsSoundClient c ring → is_moving c.status.state ≡ true → c.status.stopped ≡ false
    → c.stretch.card + c.stretch.written < 2 ^ 64
written-fits c ring sound moves going = grind (arith, nat_tests)

-- the same of a client that goes on, unless it is at its end
pub IsReady-going : (r : Result (Unit {0}) PcmError) (c : PlaybackStream) (ring : List ℤ) → IsSoundClient c ring → OnOk r (IsGoing c)
    → OnOk r ((c.status.state ≡ Setup → ⊥) → IsReady c)
IsReady-going (Ok done) c ring sound goes = λ on. IsReady-moving c ring sound (goes.moves on) goes.unstopped
IsReady-going (Err e) c ring sound goes = tt

pub written-fits-going : (r : Result (Unit {0}) PcmError) (c : PlaybackStream) (ring : List ℤ) → IsSoundClient c ring → OnOk r (IsGoing c)
    → OnOk r ((c.status.state ≡ Setup → ⊥) → c.stretch.card + c.stretch.written < 2 ^ 64)
written-fits-going (Ok done) c ring sound goes = λ on. written-fits c ring sound (goes.moves on) goes.unstopped
written-fits-going (Err e) c ring sound goes = tt

-- the bindings of a client are on the card of its port
pub IsOnCard-configured : (c : PlaybackStream) (ring : List ℤ) (g : Geometry) → IsConfigured c ring → g ≡ c.identity.geometry → IsOnCard c.setup.bindings g
IsOnCard-configured c ring g k same = subst (λ (h : Geometry). IsOnCard c.setup.bindings h) (sym same) (record { bound = k.bound; below = k.on_card })
