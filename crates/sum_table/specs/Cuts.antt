-- How a view is cut in two, and how two views are made one.
use Rattle.std.specs.Prelude.{ℕ, zero, suc, ◌+◌, ◌-◌, ◌≤◌, ◌||◌, true, false, Option, None, Some, List, [], ◌++◌, max}
use Rattle.std.proofs.Common.{arith}
use Rattle.mix_core.specs.declared.marks.Marks.{Marks}
use Rattle.mix_core.specs.declared.port.Entry.{Entry}
pub use Rattle.mix_core.specs.Marks.{is_before, later_of, start_marks}
use Rattle.sum_table.specs.declared.view.Key.{Key}
use Rattle.sum_table.specs.declared.view.Track.{Track}
use Rattle.sum_table.specs.declared.view.View.{View}
use Rattle.ring_rule.specs.Notes.{later_notes}

-- a view with other places
abbrev pub with_places : View → ℕ → View
with_places v n = record v { places = n }

-- a view without some of its places
abbrev pub without_places : View → ℕ → View
without_places v n = with_places v (v.places - n)

-- the view of a new seat that gets some places of a view: it has seen as much, and placed nothing
abbrev pub part_of : View → ℕ → View
part_of v n = record {
  key = v.key;
  places = n;
  laid = [];
  mine = [];
  marks = start_marks v.key.geometry;
  free = [];
  positions = v.positions;
  seen = v.seen;
  seen_gone = v.seen_gone;
  sightings = [];
  noted = v.noted;
  history = v.history;
  heard = [];
  track = None;
  ended = false;
}

-- the marks of two views that are joined: all are at the later high. Where the view that is joined away has no places, it
-- placed nothing, and the marks stay
abbrev pub joined_marks : Marks → Marks → ℕ → Marks
joined_marks a b zero = a
joined_marks a b (suc n) = record { cursor = later_of a.high b.high; floor = later_of a.high b.high; high = later_of a.high b.high }

-- and what may still be withdrawn
abbrev pub joined_free : List Entry → ℕ → List Entry
joined_free free zero = free
joined_free free (suc n) = []

-- the player's part of two views, of which at most one has it
abbrev pub either_track : Option Track → Option Track → Option Track
either_track None o = o
either_track (Some t) o = Some t

-- a view that took another one over
abbrev pub both_of : View → View → View
both_of v w = record {
  key = v.key;
  places = v.places + w.places;
  laid = v.laid ++ w.laid;
  mine = v.mine;
  marks = joined_marks v.marks w.marks w.places;
  free = joined_free v.free w.places;
  positions = v.positions ++ w.positions;
  seen = max v.seen w.seen;
  seen_gone = v.seen_gone || w.seen_gone;
  sightings = v.sightings;
  noted = later_notes v.noted w.noted;
  history = v.history;
  heard = w.history;
  track = either_track v.track w.track;
  ended = v.ended;
}

-- a key, of no ring, for the view of a seat that has ended
pub no_ring-places : 0 ≤ 64
no_ring-places = omega arith

pub no_ring-frames_least : 64 ≤ 64
no_ring-frames_least = omega arith

pub no_ring-frames_most : 64 ≤ 16384
no_ring-frames_most = omega arith

pub no_ring-channels_least : 1 ≤ 1
no_ring-channels_least = omega arith

pub no_ring-channels_most : 1 ≤ 8
no_ring-channels_most = omega arith

pub no_ring-first_lap_most : 0 ≤ 4294967294
no_ring-first_lap_most = omega arith

abbrev pub no_ring : Key
no_ring = record {
  geometry = record {
    frames = 64;
    channels = 1;
    first_lap = 0;
    frames_least = no_ring-frames_least;
    frames_most = no_ring-frames_most;
    channels_least = no_ring-channels_least;
    channels_most = no_ring-channels_most;
    first_lap_most = no_ring-first_lap_most;
  };
  places = 0;
  most = no_ring-places;
}

-- the view of a seat that has ended: no places, nothing placed, seen or noted
abbrev pub spent_view : View
spent_view = record {
  key = no_ring;
  places = 0;
  laid = [];
  mine = [];
  marks = record { cursor = record { frame = 0; channel = 0 }; floor = record { frame = 0; channel = 0 }; high = record { frame = 0; channel = 0 } };
  free = [];
  positions = [];
  seen = 0;
  seen_gone = false;
  sightings = [];
  noted = [];
  history = [];
  heard = [];
  track = None;
  ended = true;
}
