-- What was placed for clients, seat by seat: the expansions of the segments that were made through the seat, in their order; and by all seats together.
use Rattle.std.specs.Prelude.{◌≡◌, ℕ, ◌+ℤ◌, ℤ, pos, nat_eq, List, [], ◌∷◌, ◌++◌, filter, map, option_map, Option, Some, None, slice_index_or}
use Rattle.snd_base.specs.declared.places.Segment.{Segment}
use Rattle.mix_core.specs.declared.port.Entry.{Entry}
use Rattle.mix_core.specs.Laid.{standing, sum_of_samples, total}
use Rattle.sum_table.specs.Seats.{member_of}
use Rattle.lab_run.specs.Client.{Client, stretch_of}
use Rattle.lab_run.specs.LabRun.{all_segments, entries_of}
use Rattle.lab_run.specs.Members.{of_member}
use Rattle.lab_run.specs.Rules.{AtPort}
use Rattle.lab_run.specs.Stage.{Session}
use Rattle.lab_places.specs.Laid.{laid_list}
use Rattle.lab_actors.specs.Walks.{AreEach}
use Rattle.lab_clients.specs.declared.client.LabClient.{LabClient}
use Rattle.lab_clients.specs.declared.open_client.OpenClient.{OpenClient}
use Rattle.lab_clients.specs.OneClient.{open_of}
use Rattle.lab_clients.specs.OpenClient.{stream_of}

-- ---- segments

-- a segment that the client of a number made through the seat of a place
pub record SeatSegment : Type 0 where
  pub place : ℕ
  pub client : ℕ
  pub segment : Segment

-- a segment with its client's number
abbrev pub with_number : ℕ → Segment → ℕ × Segment
with_number number segment = (number, segment)

abbrev pub client_and_segment : SeatSegment → ℕ × Segment
client_and_segment m = with_number m.client m.segment

-- those that were made through the seat of a place, each with its client's number; and those of a client
abbrev pub place_segments : ℕ → List SeatSegment → List (ℕ × Segment)
place_segments place history =
    map client_and_segment (filter (λ (m : SeatSegment). nat_eq m.place place) history)

abbrev pub client_segments : ℕ → List SeatSegment → List Segment
client_segments client history =
    map (λ (m : SeatSegment). m.segment) (filter (λ (m : SeatSegment). nat_eq m.client client) history)

-- ---- entries

-- entries have the frames, channels, samples and kinds of others, in the same order
abbrev pub ArePlacedAlike : List Entry → List Entry → Type 0
ArePlacedAlike xs ys = map (of_member 0) xs ≡ map (of_member 0) ys

-- what entries are worth together, where each is worth something by its frame, channel, sample and kind
abbrev pub worth_of : (Entry → ℤ) → List Entry → ℤ
worth_of worth es = sum_of_samples (map worth (map (of_member 0) es))

-- the same of the adds that are left in the lists of some seats; where there is no seat it is nothing
abbrev pub worth_left : (Entry → ℤ) → Option (List Entry) → ℤ
worth_left worth None = pos 0
worth_left worth (Some laid) = worth_of worth (standing laid)

abbrev pub worth_all : (Entry → ℤ) → List (Option (List Entry)) → ℤ
worth_all worth [] = pos 0
worth_all worth (laid ∷ lists) = worth_left worth laid +ℤ worth_all worth lists

-- ---- seats

-- What a seat placed is what segments say: the adds that are left in its list are their expansions, one after the other. What was withdrawn changed
-- no sum.
pub record IsPlacedBy (session : Session) (laid : List Entry)
    (segments : List (ℕ × Segment)) : Type 0 where
  pub entries : ArePlacedAlike (standing laid) (entries_of session segments)
  pub totals : (f k : ℕ) → total laid f k ≡ total (standing laid) f k

-- An open client ended some stretches since its opening. Their segments, and then that of its present stretch, were made through its seat, after those
-- of openings that ended.
pub record IsPlacedOpen (session : Session) (history : List SeatSegment) (number : ℕ)
    (o : OpenClient) (client : Client) : Type 0 where
  pub stretches : List Segment
  pub ended_are : client.ended ≡ client_segments number history ++ stretches
  pub placed : IsPlacedBy session (laid_list o.seat) (place_segments (member_of o.seat) history
      ++ map (with_number number) (stretches ++ stretch_of (stream_of o)))

-- one that isn't open made all its segments in openings that ended
abbrev pub IsPlacedFor : Session → List SeatSegment → ℕ → Option OpenClient → Client → Type 0
IsPlacedFor session history number None client = client.ended ≡ client_segments number history
IsPlacedFor session history number (Some o) client = IsPlacedOpen session history number o client

abbrev pub IsClientPlaced : Session → List SeatSegment → ℕ → LabClient → AtPort × Client → Type 0
IsClientPlaced session history number d x = IsPlacedFor session history number (open_of d) x.1

-- the lists of the seats of open clients
abbrev pub laid_for : Option OpenClient → Option (List Entry)
laid_for own = option_map (λ (o : OpenClient). laid_list o.seat) own

abbrev pub open_lists : List LabClient → List (Option (List Entry))
open_lists ds = map (λ d. laid_for (open_of d)) ds

-- All that was placed, by the lists of the seats of free places and by the seats of open clients, is what the segments say. Each of the openings that ended
-- made its segments through the seat of a place, and each seat placed what its segments say. Of all seats together, whatever an entry is worth, as much is
-- left as the expansions of all segments are worth: so each frame, channel and sample is there as often.
pub record IsReported (session : Session) (lists : List (Option (List Entry)))
    (ds : List LabClient) (xs : List (AtPort × Client)) : Type 0 where
  pub history : List SeatSegment
  pub free : (place : ℕ) (laid : List Entry) → slice_index_or lists place None ≡ Some laid
      → IsPlacedBy session laid (place_segments place history)
  pub clients : AreEach (IsClientPlaced session history) 0 ds xs
  pub as_often : (worth : Entry → ℤ) → worth_all worth lists +ℤ worth_all worth (open_lists ds)
      ≡ worth_of worth (entries_of session (all_segments xs))
