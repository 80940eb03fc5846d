-- The clients of the lab at the beginning of a run, and at its end.
use Rattle.std.specs.Prelude.{◌≡◌, ℕ, ◌+◌, ◌<◌, ℤ, List, [], ◌∷◌, ◌++◌, length, map, None, slice_index_or, ⊤}
use Rattle.std.specs.List.{flat_map}
use Rattle.std.proofs.Common.{refl, ◌∙◌, ap}
use Rattle.snd_base.specs.declared.places.Segment.{Segment}
use Rattle.mix_core.specs.declared.port.Entry.{Entry}
use Rattle.mix_core.specs.Laid.{standing, total}
use Rattle.sum_table.specs.declared.view.Key.{Key}
use Rattle.sum_table.specs.Seats.{TableId}
use Rattle.lab_run.specs.Client.{Client, segments_of}
use Rattle.lab_run.specs.Items.{Held}
use Rattle.lab_run.specs.LabRun.{all_segments, entries_of, with_numbers}
use Rattle.lab_run.specs.Rules.{AtPort}
use Rattle.lab_run.specs.Stage.{Session}
use Rattle.lab_places.specs.Held.{key_of_places, ring_of_places}
use Rattle.lab_places.specs.Holdings.{Holdings}
use Rattle.lab_actors.specs.Walks.{AreEach}
use Rattle.lab_clients.specs.declared.client.LabClient.{LabClient}
use Rattle.lab_clients.specs.OneClient.{client_in, number_of, rows_of}
use Rattle.lab_clients.specs.declared.clients.LabClients.{LabClients}
use Rattle.lab_clients.specs.AtStage.{AreAt, IsClientAt, clients_of, places_of}
use Rattle.lab_clients.specs.Placed.{IsPlacedBy, SeatSegment, client_segments, place_segments, worth_of}

-- a client that was never open
pub record IsNewClient (number : ℕ) (d : LabClient) : Type 0 where
  pub numbered : number_of d ≡ number
  pub client : client_in d ≡ record { own = None; ended = [] }
  pub rows : rows_of d ≡ []

-- clients that were never open, the first of which has a number
abbrev pub AreNewClients : ℕ → List LabClient → Type 0
AreNewClients number [] = ⊤
AreNewClients number (d ∷ ds) = IsNewClient number d × AreNewClients (number + 1) ds

-- the segments of a client, with its number
abbrev pub segments_by : LabClient → List (ℕ × Segment)
segments_by d = map (λ segment. (number_of d, segment)) (segments_of (client_in d))

-- the segments of the clients are those of the run
flat_map-segments : (session : Session) (ring : TableId) (key : Key) (holdings : Holdings) (number : ℕ) (ds : List LabClient) (xs : List (AtPort × Client))
    → AreEach (IsClientAt session ring key holdings) number ds xs → flat_map segments_by ds ≡ with_numbers (λ (client : AtPort × Client). segments_of client.1) number xs
flat_map-segments session ring key holdings number [] [] are = refl
flat_map-segments session ring key holdings number [] (x ∷ xs) are = absurd are
flat_map-segments session ring key holdings number (d ∷ ds) [] are = absurd are
flat_map-segments session ring key holdings number (d ∷ ds) (x ∷ xs) are =
    ap (λ n. map (λ segment. (n, segment)) (segments_of (client_in d)) ++ flat_map segments_by ds) are.0.is.numbered
    ∙ (ap (λ (c : Client). map (λ segment. (number, segment)) (segments_of c) ++ flat_map segments_by ds) are.0.is.client
    ∙ ap (λ more. map (λ segment. (number, segment)) (segments_of x.1) ++ more) (flat_map-segments session ring key holdings (number + 1) ds xs are.1))

pub all_segments-listed : (session : Session) (held : Held) (xs : List (AtPort × Client)) (cs : LabClients) → AreAt session held xs cs
    → flat_map segments_by (clients_of cs) ≡ all_segments xs
all_segments-listed session held xs cs are =
    flat_map-segments session (ring_of_places (places_of cs)) (key_of_places (places_of cs)) are.holdings 0 (clients_of cs) xs are.each

-- The clients of a run, of which some were closed since: they have the segments that they had, at as many places.
pub record HasEnded (session : Session) (held : Held) (xs : List (AtPort × Client))
    (cs : LabClients) : Type 0 where
  pub then_held : Held
  pub ys : List (AtPort × Client)
  pub are : AreAt session then_held ys cs
  pub segments : all_segments ys ≡ all_segments xs
  pub each : (number : ℕ) (x : AtPort × Client)
      → segments_of (slice_index_or ys number x).1 ≡ segments_of (slice_index_or xs number x).1
  pub count : length ys ≡ length xs
  pub places : length then_held.lobby.places ≡ length held.lobby.places

-- All that was placed, joined to one list in the order of the places, is what the segments of clients say. Each seat placed what the segments say that were
-- made through it, and these are those of the clients. Of all seats together, whatever an entry is worth, as much is left as the expansions of all segments
-- are worth: so each frame, channel and sample is there as often. The sums are theirs.
pub record IsPlacedAll (session : Session) (xs : List (AtPort × Client))
    (laid : List Entry) : Type 0 where
  pub lists : List (List Entry)
  pub joined : laid ≡ flat_map (λ es. es) lists
  pub history : List SeatSegment
  pub places : (place : ℕ) → place < length lists
      → IsPlacedBy session (slice_index_or lists place []) (place_segments place history)
  pub clients : (number : ℕ) (x : AtPort × Client) → number < length xs
      → segments_of (slice_index_or xs number x).1 ≡ client_segments number history
  pub as_often : (worth : Entry → ℤ) → worth_of worth (flat_map standing lists)
      ≡ worth_of worth (entries_of session (all_segments xs))
  pub totals : (f k : ℕ) → total laid f k ≡ total (entries_of session (all_segments xs)) f k
