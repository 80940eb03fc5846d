-- The seats of one place of a ring, one after the other.
use Rattle.std.specs.Prelude.{◌≡◌, List, All}
use Rattle.std.proofs.Common.{◌∙◌}
use Rattle.sum_table.specs.declared.seats.mix.MixSeat.{MixSeat}
use Rattle.sum_table.specs.Seats.{IsLaterSeat, key_of, member_of, places_of_seat, ring_of}

-- the second seat is of the first one's ring and member, with as many places
pub record IsSamePlace (s t : MixSeat) : Type 0 where
  pub ring : ring_of t ≡ ring_of s
  pub key : key_of t ≡ key_of s
  pub member : member_of t ≡ member_of s
  pub places : places_of_seat t ≡ places_of_seat s

-- a seat is of the place of all these
abbrev pub AreOfPlace : List MixSeat → MixSeat → Type 0
AreOfPlace before s = All (λ (earlier : MixSeat). IsSamePlace earlier s) before

-- and so is the seat after steps of its own
pub IsSamePlace-goes : (r s t : MixSeat) → IsLaterSeat s t → IsSamePlace r s → IsSamePlace r t
IsSamePlace-goes r s t goes is = record {
  ring = goes.ring ∙ is.ring;
  key = goes.key ∙ is.key;
  member = goes.member ∙ is.member;
  places = goes.places ∙ is.places;
}

pub AreOfPlace-goes : (before : List MixSeat) (s t : MixSeat) → IsLaterSeat s t → AreOfPlace before s → AreOfPlace before t
AreOfPlace-goes before s t goes all k d inside = IsSamePlace-goes _ s t goes (all k d inside)
