-- The ways on which the seats of closed clients come back to their ring.
use Rattle.std.specs.Prelude.{◌≡◌, ℕ, ◌<◌, List, [], length, Option, None, Some, All}
use Rattle.std.specs.List.{slice_index_or}
use Rattle.std.specs.declared.alloc.Global.{Global}
use Rattle.rtrb.specs.declared.consumer.Consumer.{Consumer}
use Rattle.rtrb.specs.declared.producer.Producer.{Producer}
use Rattle.rtrb.specs.Ring.{IsPair, known_free, known_items, producer_capacity, received, sent}
use Rattle.sum_table.specs.declared.seats.mix.MixSeat.{MixSeat}
use Rattle.sum_table.specs.declared.view.Key.{Key}
use Rattle.sum_table.specs.Seats.{TableId, key_of, places_of_seat, ring_of}
use Rattle.dmix_c.specs.declared.way.OnePlace.{OnePlace}

-- the two ends of a way with room for one seat, on which nothing went yet
pub record IsNewWay {T A P : Type 0} (back : Producer T A P) (arrivals : Consumer T A P) : Type 0 where
  pub pair : IsPair back arrivals
  pub sent_none : sent back ≡ []
  pub one_slot : producer_capacity back ≡ 1
  pub free : known_free back ≡ 1
  pub received_none : received arrivals ≡ []
  pub known_none : known_items arrivals ≡ []

-- a seat is one place of a ring
pub record IsOfRing (ring : TableId) (key : Key) (s : MixSeat) : Type 0 where
  pub of_ring : ring_of s ≡ ring
  pub of_key : key_of s ≡ key
  pub one_place : places_of_seat s ≡ 1

-- a way leads to a ring: a seat came on it, and all that did are places of the ring
pub record LeadsTo (ring : TableId) (key : Key) (arrivals : Consumer MixSeat Global OnePlace) : Type 0 where
  pub some : 0 < length (received arrivals)
  pub each : All (λ (s : MixSeat). IsOfRing ring key s) (received arrivals)

-- each of some ways leads to a ring
abbrev pub LeadTo : TableId → Key → List (Option (Consumer MixSeat Global OnePlace)) → Type 0
LeadTo ring key ways =
    (place : ℕ) (arrivals : Consumer MixSeat Global OnePlace) → slice_index_or ways place None ≡ Some arrivals → LeadsTo ring key arrivals

-- no place has a way
abbrev pub AreNone : List (Option (Consumer MixSeat Global OnePlace)) → Type 0
AreNone ways = (place : ℕ) → slice_index_or ways place None ≡ None
