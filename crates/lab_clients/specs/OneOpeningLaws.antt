-- An opened client and a closed one are those of a run.
use Rattle.std.specs.Prelude.{◌≡◌, ℕ, ◌≤◌, nat_le, nat_lt, Bool, true, false, ℤ, List, length, Option, None, Some, IfSome, IsSomeAnd, if◌then◌else◌}
use Rattle.std.proofs.Common.{refl, sym, ◌∙◌, ap, subst, arith}
use Rattle.std.proofs.lemmas.Bool.{false≢true}
use Rattle.std.proofs.lemmas.List.{append-nil}
use Rattle.snd_base.specs.declared.geometry.Geometry.{Geometry}
use Rattle.snd_base.specs.declared.places.Segment.{Segment}
use Rattle.mix_core.specs.Laid.{standing}
use Rattle.mix_core.specs.Marks.{high_frame, start_marks}
use Rattle.sum_table.specs.declared.seats.mix.MixSeat.{MixSeat}
use Rattle.sum_table.specs.declared.view.Key.{Key}
use Rattle.sum_table.specs.Seats.{TableId, geometry_of, marks_of_seat, member_of, places_of_seat, seen_of, view_of}
use Rattle.lobby.specs.Seats as seats
use Rattle.wav_io.specs.Sound.{Sound}
use Rattle.dmix_client.specs.declared.stream.PlaybackStream.{PlaybackStream}
use Rattle.lab_run.specs.Client.{Client}
use Rattle.lab_run.specs.Members.{with_member}
use Rattle.lab_run.specs.Places.{last_of}
use Rattle.lab_run.specs.PortSteps.{IsLastSince, MarksAlike, last_from}
use Rattle.lab_run.specs.Rules.{AtPort}
use Rattle.lab_run.specs.Stage.{Setup, new_port, opened_client}
use Rattle.lab_clients.specs.Lines.{IsReady}
use Rattle.lab_places.specs.declared.places.Places.{Places}
use Rattle.lab_places.specs.Held.{IsGiven, IsOwnLast, key_of_places, ring_of_places}
use Rattle.lab_clients.specs.declared.client.LabClient.{LabClient}
use Rattle.lab_clients.specs.declared.open_client.OpenClient.{OpenClient}
use Rattle.lab_clients.specs.OnePhase.{LastsAreOwn}
use Rattle.lab_clients.specs.OneClient.{CanRun, IsAt, IsAtBy, client_by, client_in, ended_of, number_of, open_of}
use Rattle.lab_clients.specs.OpenClient.{IsOpenAt, IsOpenReady}
use Rattle.lab_clients.specs.OneOpening.{HasOpened, IsHigh, IsNewlyOpen}
use Rattle.lab_clients.specs.SeatPort.{seat_port}

-- a client that is opened with as many bindings as its file has channels can use its seat
IsReady-new : (wav : Sound) (seat : MixSeat) (setup : Setup) (held : List ℤ) → places_of_seat seat ≡ 1 → length setup.bindings ≡ wav.channels
    → IsReady seat_port wav seat (record { stream = opened_client (geometry_of seat) (member_of seat) setup; ring = held })
IsReady-new wav seat setup held one channels = record {
  usable = record {
    same_geometry = refl;
    same_member = refl;
    can = ap (nat_lt 0) one;
    behind = λ moves goes. absurd (false≢true moves);
    newer = λ moves goes. absurd (false≢true moves);
  };
  backed = record {
    stands = λ j q low high channel. absurd (omega (arith, high));
    segment = (standing (view_of seat).laid, sym (append-nil (standing (view_of seat).laid)));
  };
  channels = channels;
  fed = omega arith;
}

IsReady-opened : (wav : Sound) (seat : MixSeat) (setup : Setup) (position : ℕ) (d : LabClient) (o : OpenClient) → places_of_seat seat ≡ 1 → length setup.bindings ≡ wav.channels
    → IsNewlyOpen seat setup position d o → IsOpenReady wav o
IsReady-opened wav seat setup position d o one channels new =
    subst (λ (s : MixSeat). IsReady seat_port wav s o.actor.client) (sym new.seat_is)
    (subst (λ (c : PlaybackStream). IsReady seat_port wav seat (record { stream = c; ring = o.actor.client.ring })) (sym new.stream)
    (IsReady-new wav seat setup o.actor.client.ring one channels))

-- the client of a run that is opened, with segments that it had before
abbrev pub new_client : Setup → Geometry → ℕ → List Segment → Client
new_client setup ring number ended = record { own = Some (opened_client ring number setup); ended = ended }

-- the last frame before an opening is the one since
IsLastSince-opening : (from : ℕ) (last : Option ℕ) → IsLastSince from last last
IsLastSince-opening from None = refl
IsLastSince-opening from (Some last) = by_test (nat_le from last)
  where
    by_test : (test : Bool) → Some last ≡ last_of (if test then Some last else None) (Some last)
    by_test true = refl
    by_test false = refl

module _ (p : Places) (position : ℕ) (seat : MixSeat) (setup : Setup) (d e : LabClient) (given : IsGiven p position seat) (opened : HasOpened seat setup position d e) where
  high-given : seats.last_of seat ≡ high_frame (key_of_places p).geometry (marks_of_seat seat)
  high-given = opened.high ∙ ap (λ (k : Key). high_frame k.geometry (marks_of_seat seat)) given.place.of_key

  -- A client that was opened at the seat that it was given is at a new port in the run, however often its gate stopped it before, and was asked. The last frame
  -- of its place before the opening is the seat's.
  pub IsAt-opened : (wav : Sound) (stops asks : ℕ) → length setup.bindings ≡ wav.channels
      → IsAt (ring_of_places p) (key_of_places p) wav (seats.last_of seat) e (new_port (key_of_places p).geometry stops asks)
  IsAt-opened wav stops asks channels = by_open (open_of e) opened.own
    where
      by_open : (o : Option OpenClient) → IsSomeAnd o (IsNewlyOpen seat setup position d)
          → IsAtBy (ring_of_places p) (key_of_places p) wav (seats.last_of seat) (number_of e) o (new_port (key_of_places p).geometry stops asks)
      by_open None never = absurd never
      by_open (Some o) new = record {
        numbered = new.number ∙ sym opened.number;
        bindings = new.bindings ∙ ap (λ (c : PlaybackStream). c.setup.bindings) (sym new.stream);
        place = subst (λ (s : MixSeat). seats.IsPlace (ring_of_places p) (key_of_places p) (member_of s) s) (sym new.seat_is) given.place;
        ready = IsReady-opened wav seat setup position d o given.place.places channels new;
        after = subst (λ (s : MixSeat). o.opened_at ≤ seen_of s) (sym new.seat_is) (let low = given.seen in let at = new.opened_at in omega (arith, low, at));
        seen = omega arith;
        left = sym new.left;
        alike = subst (λ (s : MixSeat). MarksAlike (key_of_places p).geometry o.opened_at (marks_of_seat s).high (start_marks (key_of_places p).geometry) (marks_of_seat s))
            (sym new.seat_is)
            (subst (λ (n : ℕ). MarksAlike (key_of_places p).geometry n (marks_of_seat seat).high (start_marks (key_of_places p).geometry) (marks_of_seat seat))
            (sym new.opened_at) given.marks);
        since = subst (λ (s : MixSeat). IsLastSince o.opened_at (seats.last_of seat) (high_frame (key_of_places p).geometry (marks_of_seat s))) (sym new.seat_is)
            (subst (IsLastSince o.opened_at (seats.last_of seat)) high-given (IsLastSince-opening o.opened_at (seats.last_of seat)));
      }

  -- and it is the client that is opened there
  pub client-opened : client_in e ≡ new_client setup (key_of_places p).geometry (number_of d) (client_in d).ended
  client-opened = by_open (open_of e) opened.own
    where
      by_open : (o : Option OpenClient) → IsSomeAnd o (IsNewlyOpen seat setup position d)
          → client_by (ended_of e) o ≡ new_client setup (key_of_places p).geometry (number_of d) (client_in d).ended
      by_open None never = absurd never
      by_open (Some o) new =
          ap (λ (c : PlaybackStream). record { own = Some (with_member o.actor.number c); ended = o.actor.ended.items }) new.stream
          ∙ (ap (λ (k : Key). new_client setup k.geometry o.actor.number o.actor.ended.items) given.place.of_key
          ∙ (ap (λ (n : ℕ). new_client setup (key_of_places p).geometry n o.actor.ended.items) new.number
          ∙ ap (new_client setup (key_of_places p).geometry (number_of d)) new.ended))

-- it can use its seat with its file
pub CanRun-opened : (position : ℕ) (seat : MixSeat) (setup : Setup) (wav : Sound) (d e : LabClient) → places_of_seat seat ≡ 1 → length setup.bindings ≡ wav.channels
    → HasOpened seat setup position d e → CanRun wav e
CanRun-opened position seat setup wav d e one channels opened = by_open (open_of e) opened.own
  where
    by_open : (o : Option OpenClient) → IsSomeAnd o (IsNewlyOpen seat setup position d) → IfSome o (IsOpenReady wav)
    by_open None never = tt
    by_open (Some o) new = IsReady-opened wav seat setup position d o one channels new

-- a client that isn't open is at a new port
pub IsAt-closed : (ring : TableId) (key : Key) (wav : Sound) (last : Option ℕ) (e : LabClient) (stops asks : ℕ) → open_of e ≡ None
    → IsAt ring key wav last e (new_port key.geometry stops asks)
IsAt-closed ring key wav last e stops asks closed =
    subst (λ (o : Option OpenClient). IsAtBy ring key wav last (number_of e) o (new_port key.geometry stops asks)) (sym closed) refl

-- the last frame of an open client's seat is the client's own, or the one that was known at its opening
pub IsOwnLast-closed : (ring : TableId) (key : Key) (wav : Sound) (last : Option ℕ) (number : ℕ) (o : OpenClient) (a : AtPort) → LastsAreOwn → IsHigh o.seat
    → IsOpenAt ring key wav last number o a → IsOwnLast o.opened_at last (high_frame key.geometry a.marks) (seats.last_of o.seat)
IsOwnLast-closed ring key wav last number o a lasts high is =
    let own = lasts key.geometry o.opened_at (marks_of_seat o.seat) a.marks (marks_of_seat o.seat) is.alike in
    let at : seats.last_of o.seat ≡ high_frame key.geometry (marks_of_seat o.seat) = high ∙ ap (λ (k : Key). high_frame k.geometry (marks_of_seat o.seat)) is.place.of_key in
    record {
      last_is = at ∙ (is.since ∙ ap (λ (x : Option ℕ). last_of x last) (sym own.own_last));
      own_is = own.own_last ∙ ap (last_from o.opened_at) (sym at);
    }
