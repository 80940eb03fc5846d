-- The places of a ring: who holds each, and the last frame in which a sample was placed through it.
use Rattle.std.specs.Prelude.{ℕ, zero, suc, ◌+◌, ◌&&◌, Bool, true, false, nat_lt, nat_eq, min, if◌then◌else◌, is_none, List, [], ◌∷◌, map, replicate, Option, Some, None, Result, Ok, Err}
use Rattle.std.specs.List.{list_any, position}
use Rattle.snd_base.specs.declared.errors.PcmError.{PcmError}
use Rattle.snd_base.specs.declared.errors.PcmError.TheVariants.{Busy}

-- a place: the number of the client that holds it, if one does, and the last frame in which a sample was placed through it, if one was
pub record Place : Type 0 where
  pub holder : Option ℕ
  pub last : Option ℕ

-- the places, and the position that an attach loaded last, or the first frame
pub record Lobby : Type 0 where
  pub places : List Place
  pub seen : ℕ

-- so many places, at the first frame
abbrev pub new_lobby : ℕ → ℕ → Lobby
new_lobby places first =
    record { places = replicate places (record { holder = None; last = None }); seen = first }

abbrev pub is_free : Place → Bool
is_free place = is_none place.holder

-- a frame is below a position, if there is one
abbrev pub is_below : Option ℕ → ℕ → Bool
is_below None position = true
is_below (Some last) position = nat_lt last position

-- a place can be handed out at a position: it is free, and nothing was placed through it at the position or past it
abbrev pub is_silent : ℕ → Place → Bool
is_silent position place = is_free place && is_below place.last position

-- the least last frame of free places
abbrev pub least : Option ℕ → Option ℕ → Option ℕ
least None b = b
least (Some a) None = Some a
least (Some a) (Some b) = Some (min a b)

abbrev pub last_if_free : Place → Option ℕ
last_if_free place = if is_free place then place.last else None

abbrev pub least_last : List Place → Option ℕ
least_last [] = None
least_last (place ∷ places) = least (last_if_free place) (least_last places)

abbrev pub place_after : Option ℕ → Option ℕ
place_after None = None
place_after (Some last) = Some (last + 1)

-- a client holds the place of a number, counted from 0
abbrev pub held_by : ℕ → ℕ → List Place → List Place
held_by client place [] = []
held_by client zero (first ∷ places) = record first { holder = Some client } ∷ places
held_by client (suc place) (first ∷ places) = first ∷ held_by client place places

-- a client attaches at a position: it gets the first place that can be handed out; where none is free no position is loaded
abbrev pub attached_by : Option ℕ → ℕ → ℕ → Lobby → Lobby × Result (Unit {0}) PcmError
attached_by (Some place) client position lobby =
    (record { places = held_by client place lobby.places; seen = position }, Ok tt)
attached_by None client position lobby =
    (record lobby { seen = position }, Err (Busy (place_after (least_last lobby.places)) position))

abbrev pub after_attach : ℕ → ℕ → Lobby → Lobby × Result (Unit {0}) PcmError
after_attach client at lobby =
    if list_any is_free lobby.places
    then attached_by (position (is_silent at) lobby.places) client at lobby
    else (lobby, Err (Busy None lobby.seen))

-- a client that placed so gives its place back
abbrev pub is_held_by : ℕ → Option ℕ → Bool
is_held_by client None = false
is_held_by client (Some holder) = nat_eq holder client

abbrev pub last_of : Option ℕ → Option ℕ → Option ℕ
last_of None before = before
last_of (Some last) before = Some last

abbrev pub left_place : ℕ → Option ℕ → Place → Place
left_place client last place =
    if is_held_by client place.holder then record { holder = None; last = last_of last place.last }
    else place

abbrev pub left_by : ℕ → Option ℕ → Lobby → Lobby
left_by client last lobby = record lobby { places = map (left_place client last) lobby.places }
