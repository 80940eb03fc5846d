-- An open client at its place of a ring: how it is in a run of the script, and what a phase makes of it.
use Rattle.std.specs.Prelude.{◌≡◌, ℕ, ◌≤◌, ◌++◌, ◌+ℤ◌, ℤ, List, Option}
use Rattle.snd_base.specs.declared.places.Segment.{Segment}
use Rattle.mix_core.specs.declared.port.Entry.{Entry}
use Rattle.mix_core.specs.Laid.{standing, total}
use Rattle.mix_core.specs.Marks.{high_frame}
use Rattle.sum_table.specs.declared.view.Key.{Key}
use Rattle.sum_table.specs.Seats.{TableId, marks_of_seat, member_of, seen_of}
use Rattle.lobby.specs.Seats.{IsPlace}
use Rattle.wav_io.specs.Sound.{Sound}
use Rattle.dmix_client.specs.declared.stream.PlaybackStream.{PlaybackStream}
use Rattle.dmix_client.specs.Growth.{segment_entries}
use Rattle.card_sim.specs.declared.card.Card.{Card}
use Rattle.lab_lines.specs.declared.line.Line.{Line}
use Rattle.lab_run.specs.Phases.{is_client, ops_by}
use Rattle.lab_run.specs.PortSteps.{IsLastSince, MarksAlike}
use Rattle.lab_run.specs.Rules.{AtPort}
use Rattle.lab_clients.specs.Lines.{IsReady, stretches_entries}
use Rattle.lab_clients.specs.Parts.{ClientPart}
use Rattle.lab_actors.specs.Shares.{at_gate_in, left_in, stops_in}
use Rattle.lab_card.specs.Meets.{IsInformedClient, IsSameClient, KnowsClient}
use Rattle.lab_clients.specs.declared.open_client.OpenClient.{OpenClient}
use Rattle.lab_clients.specs.SeatPort.{seat_port}

-- what an open client's stream is
abbrev pub stream_of : OpenClient → PlaybackStream
stream_of o = o.actor.client.stream

-- an open client can use its seat with its file
abbrev pub IsOpenReady : Sound → OpenClient → Type 0
IsOpenReady wav o = IsReady seat_port wav o.seat o.actor.client

-- An open client of a number, with its file, is at its place of a ring as a client of a run is at its port; the last frame that was placed by the
-- place before is known. The place's marks, which former clients moved, are to it what those of the client in the run are.
pub record IsOpenAt (ring : TableId) (key : Key) (wav : Sound) (last : Option ℕ)
    (number : ℕ) (o : OpenClient) (a : AtPort) : Type 0 where
  pub numbered : o.actor.number ≡ number
  pub bindings : o.bindings ≡ (stream_of o).setup.bindings
  pub place : IsPlace ring key (member_of o.seat) o.seat
  pub ready : IsOpenReady wav o
  pub after : o.opened_at ≤ seen_of o.seat
  pub seen : a.seen ≤ seen_of o.seat
  pub left : a.left ≡ o.actor.left
  pub alike : MarksAlike key.geometry o.opened_at (marks_of_seat o.seat).high
      a.marks (marks_of_seat o.seat)
  pub since : IsLastSince o.opened_at last (high_frame key.geometry (marks_of_seat o.seat))

-- what an open client keeps from its opening to its closing
pub record IsSameOpening (o p : OpenClient) : Type 0 where
  pub bindings : p.bindings ≡ o.bindings
  pub opened_at : p.opened_at ≡ o.opened_at
  pub member : member_of p.seat ≡ member_of o.seat

-- the same open client, but for its rows and its room
pub record IsSameOpen (o p : OpenClient) : Type 0 where
  pub same : IsSameOpening o p
  pub seat : p.seat ≡ o.seat
  pub number : p.actor.number ≡ o.actor.number
  pub client : p.actor.client ≡ o.actor.client
  pub left : p.actor.left ≡ o.actor.left
  pub ended : p.actor.ended.items ≡ o.actor.ended.items

-- before a phase the seat of an open client met a note of the card
pub record IsInformed (c : Card) (o p : OpenClient) : Type 0 where
  pub seat : IsInformedClient c o.seat p.seat
  pub actor : p.actor ≡ o.actor
  pub same : IsSameOpening o p

-- in it the open client did its lines, with a gate that had stopped so often before and so often after them, and that it asked so often
pub record HasRun (before after asks : ℕ) (phase : ℕ) (wav : Sound) (lines : List Line)
    (o p : OpenClient) : Type 0 where
  pub part : ClientPart seat_port left_in stops_in at_gate_in (o.seat, (o.actor.left, before, 0))
      (p.seat, (p.actor.left, after, asks)) phase wav o.actor p.actor
      (ops_by (is_client o.actor.number) lines)
  pub ready : IsOpenReady wav p
  pub same : IsSameOpening o p

-- after it the card met a note of the seat
pub record IsHeard (c : Card) (o p : OpenClient) : Type 0 where
  pub seat : IsSameClient o.seat p.seat
  pub knows : KnowsClient c p.seat
  pub actor : p.actor ≡ o.actor
  pub same : IsSameOpening o p

-- What a seat placed for a client in a phase, by the samples of its file: the client had a stretch there before. At the end of the seat's standing adds
-- its stretches, those that it ended and then the present one, took the place of that one; and they give each sum as much more as the seat placed.
pub record HasLaidPhase (samples : List ℤ) (before after : List Entry) (c d : PlaybackStream)
    (ended : List Segment) : Type 0 where
  pub totals : (f k : ℕ)
      → total after f k +ℤ total (segment_entries c samples) f k
      ≡ total before f k +ℤ total (stretches_entries d samples ended) f k
  pub standing_adds : (early : List Entry) → standing before ≡ early ++ segment_entries c samples
      → standing after ≡ early ++ stretches_entries d samples ended
  pub same_member : d.identity.member ≡ c.identity.member
  pub same_bindings : d.setup.bindings ≡ c.setup.bindings
