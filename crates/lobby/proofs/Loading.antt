-- What a load leaves of a seat and of the player.
use Rattle.lobby.specs.Prelude.{ℕ, ◌∙◌, ◌≡◌, Position, MixSeat, PlayerSeat, IsLaterSeat, key_of, member_of, places_of_seat, ring_of, TableId, HasLoaded}
use Rattle.lobby.specs.Prelude.{HasLoadedBeside, IsPlace}
use Rattle.sum_table.specs.declared.view.Key.{Key}

-- a seat of the same ring, member and places is that of the place as well
IsPlace-as : (ring : TableId) (key : Key) (place : ℕ) (s t : MixSeat) → ring_of t ≡ ring_of s → key_of t ≡ key_of s → member_of t ≡ member_of s → places_of_seat t ≡ places_of_seat s
    → IsPlace ring key place s → IsPlace ring key place t
IsPlace-as ring key place s t same_ring same_key member places is =
    record { of_ring = same_ring ∙ is.of_ring; of_key = same_key ∙ is.of_key; member = member ∙ is.member; places = places ∙ is.places }

-- so is a seat that did something
pub IsPlace-loaded : (ring : TableId) (key : Key) (place : ℕ) (s t : MixSeat) (p : Position) → HasLoaded s t p → IsPlace ring key place s → IsPlace ring key place t
IsPlace-loaded ring key place s t p load is =
    let goes : IsLaterSeat s t = load.laid_nothing.goes in
    IsPlace-as ring key place s t goes.ring goes.key goes.member goes.places is

pub IsPlace-loaded_beside : (ring : TableId) (key : Key) (place : ℕ) (p : PlayerSeat) (s : MixSeat) (q : PlayerSeat) (t : MixSeat) (x : Position)
    → HasLoadedBeside p s q t x → IsPlace ring key place s → IsPlace ring key place t
IsPlace-loaded_beside ring key place p s q t x beside is =
    let met = IsPlace-as ring key place s beside.fresh beside.met.ring beside.met.key beside.met.member beside.met.places is in
    let located = IsPlace-loaded ring key place beside.fresh beside.located x beside.load met in
    IsPlace-as ring key place beside.located t beside.told.stays.ring beside.told.stays.key beside.told.stays.member beside.told.same_places located
