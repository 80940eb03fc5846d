-- What contracts say of a ring, and of the seats that it gives.
use Rattle.std.specs.Prelude.{◌≡◌, ℕ, Bool, true, false, Option, None, Some}
use Rattle.snd_base.specs.declared.geometry.Geometry.{Geometry}
use Rattle.snd_base.specs.Places.{first_frame}
use Rattle.sum_table.specs.declared.seats.mix.MixSeat.{MixSeat}
use Rattle.sum_table.specs.declared.seats.player.PlayerSeat.{PlayerSeat}
use Rattle.sum_table.specs.declared.ring.SumRing.{SumRing}
use Rattle.sum_table.specs.declared.view.Key.{Key}
use Rattle.sum_table.specs.Cuts.{part_of, with_places}
use Rattle.sum_table.specs.Exact.{first_view, start_marks, start_of}
use Rattle.sum_table.specs.Players.{player_ring, player_view}
use Rattle.sum_table.specs.Seats.{ring_of, view_of}

-- what was settled when a ring was made
abbrev pub key_of_ring : SumRing → Key
key_of_ring r = r.key

abbrev pub is_given : {X : Type 0} → Option X → Bool
is_given None = true
is_given (Some x) = false

-- a ring has given no seats
abbrev pub GaveNone : SumRing → Type 0
GaveNone r = is_given r.first ≡ false

-- a ring of a geometry and a number of places, that has given no seats
pub record IsNewRing (r : SumRing) (g : Geometry) (places : ℕ) : Type 0 where
  pub of_geometry : (key_of_ring r).geometry ≡ g
  pub of_places : (key_of_ring r).places ≡ places
  pub gave_none : GaveNone r

-- the two first seats of a ring: of one ring, before anything happened, the mix seat with all places and member 0
pub record HasSeats (k : Key) (p : PlayerSeat) (m : MixSeat) : Type 0 where
  pub one_ring : player_ring p ≡ ring_of m
  pub player_key : p.key ≡ k
  pub mix_key : m.key ≡ k
  pub player : player_view p ≡ with_places (first_view k) 0
  pub mix : view_of m ≡ part_of (first_view k) k.places
  pub next : p.next ≡ start_of k.geometry
  pub position : p.position ≡ first_frame k.geometry
  pub gone : p.gone ≡ false
  pub member : m.member ≡ 0
  pub places : m.places ≡ k.places
  pub marks : m.reach.marks ≡ start_marks k.geometry
  pub seen : m.seen ≡ first_frame k.geometry
  pub last : m.reach.last ≡ None
