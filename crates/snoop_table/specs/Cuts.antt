-- How a new seat's view is made of another one, and how two views are made one.
use Rattle.std.specs.Prelude.{◌≤◌, ◌||◌, false, Option, None, Some, [], ◌++◌, max}
use Rattle.std.proofs.Common.{arith}
use Rattle.snd_base.specs.declared.geometry.Geometry.{Geometry}
use Rattle.ring_rule.specs.Notes.{later_notes}
use Rattle.snoop_table.specs.declared.view.Track.{Track}
use Rattle.snoop_table.specs.declared.view.View.{View}
use Rattle.snoop_table.specs.Captured.{no_frame}

-- the view of a new seat: it has seen, noted and got as much, and loads no frame
abbrev pub part_of : View → View
part_of v = record {
  geometry = v.geometry;
  positions = v.positions;
  seen = v.seen;
  seen_gone = v.seen_gone;
  noted = v.noted;
  got = v.got;
  loading = no_frame;
  track = None;
}

-- the writer's part of two views, of which at most one has it
abbrev pub either_track : Option Track → Option Track → Option Track
either_track None o = o
either_track (Some t) o = Some t

-- a view that took another one over
abbrev pub both_of : View → View → View
both_of v w = record {
  geometry = v.geometry;
  positions = v.positions ++ w.positions;
  seen = max v.seen w.seen;
  seen_gone = v.seen_gone || w.seen_gone;
  noted = later_notes v.noted w.noted;
  got = v.got ++ w.got;
  loading = v.loading;
  track = either_track v.track w.track;
}

-- a geometry, of no ring, for the view of a seat that has ended
pub no_ring-frames_least : 64 ≤ 64
no_ring-frames_least = omega arith

pub no_ring-frames_most : 64 ≤ 16384
no_ring-frames_most = omega arith

pub no_ring-channels_least : 1 ≤ 1
no_ring-channels_least = omega arith

pub no_ring-channels_most : 1 ≤ 8
no_ring-channels_most = omega arith

pub no_ring-first_lap_most : 0 ≤ 4294967294
no_ring-first_lap_most = omega arith

abbrev pub no_ring : Geometry
no_ring = record {
  frames = 64;
  channels = 1;
  first_lap = 0;
  frames_least = no_ring-frames_least;
  frames_most = no_ring-frames_most;
  channels_least = no_ring-channels_least;
  channels_most = no_ring-channels_most;
  first_lap_most = no_ring-first_lap_most;
}

-- the view of a seat that has ended: nothing seen, noted or got
abbrev pub spent_view : View
spent_view = record {
  geometry = no_ring;
  positions = [];
  seen = 0;
  seen_gone = false;
  noted = [];
  got = [];
  loading = no_frame;
  track = None;
}
