-- What an opening and a closing make of a client of the lab.
use Rattle.std.specs.Prelude.{◌≡◌, ℕ, List, None, IsSomeAnd}
use Rattle.mix_core.specs.Marks.{high_frame}
use Rattle.sum_table.specs.declared.seats.mix.MixSeat.{MixSeat}
use Rattle.sum_table.specs.Seats.{geometry_of, marks_of_seat, member_of}
use Rattle.lobby.specs.Seats.{last_of}
use Rattle.lab_run.specs.Client.{Client, segments_of}
use Rattle.lab_run.specs.Stage.{Setup, opened_client}
use Rattle.lab_clients.specs.declared.client.LabClient.{LabClient}
use Rattle.lab_clients.specs.declared.open_client.OpenClient.{OpenClient}
use Rattle.lab_clients.specs.OneClient.{client_in, ended_of, number_of, open_of, rows_of}
use Rattle.lab_clients.specs.OpenClient.{stream_of}

-- a client that is opened at a seat and a position: its stream is new, and the segments and rows that it had are its own
pub record IsNewlyOpen (seat : MixSeat) (setup : Setup) (position : ℕ) (d : LabClient)
    (o : OpenClient) : Type 0 where
  pub number : o.actor.number ≡ number_of d
  pub stream : stream_of o ≡ opened_client (geometry_of seat) (member_of seat) setup
  pub left : o.actor.left ≡ None
  pub ended : o.actor.ended.items ≡ (client_in d).ended
  pub rows : o.actor.rows.items ≡ rows_of d
  pub bindings : o.bindings ≡ setup.bindings
  pub seat_is : o.seat ≡ seat
  pub opened_at : o.opened_at ≡ position

-- the segment that its last closing ended is among the others
abbrev pub HasKeptLast : LabClient → Type 0
HasKeptLast d = d.ended.items ≡ ended_of d

-- the last frame of a seat is that before its high
abbrev pub IsHigh : MixSeat → Type 0
IsHigh s = last_of s ≡ high_frame (geometry_of s) (marks_of_seat s)

-- an opening
pub record HasOpened (seat : MixSeat) (setup : Setup) (position : ℕ)
    (d e : LabClient) : Type 0 where
  pub number : number_of e ≡ number_of d
  pub own : IsSomeAnd (open_of e) (IsNewlyOpen seat setup position d)
  pub high : IsHigh seat

-- the client of a run that was closed
abbrev pub closed_client : Client → Client
closed_client client = record { own = None; ended = segments_of client }

-- a closing, which gives the seat of a client back, with its bindings and the position of its opening
pub record HasClosed (d : LabClient) (o : OpenClient) (seat : MixSeat)
    (channels : List ℕ) (position : ℕ) (e : LabClient) : Type 0 where
  pub number : number_of e ≡ number_of d
  pub closed : open_of e ≡ None
  pub client : client_in e ≡ closed_client (client_in d)
  pub rows : rows_of e ≡ rows_of d
  pub seat_is : seat ≡ o.seat
  pub channels_are : channels ≡ o.bindings
  pub opened_at : position ≡ o.opened_at
  pub high : IsHigh seat
