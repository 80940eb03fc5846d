-- What the steps of a phase keep: the client is of the card's ring, can use its seat, and has the room of its lines.
use Rattle.std.specs.Prelude.{◌≡◌, ℕ, List, Option, None, Some, IfSome, ⊤}
use Rattle.std.specs.Global.{Vec}
use Rattle.std.proofs.Common.{sym, ◌∙◌, ap, subst, arith}
use Rattle.snd_base.specs.declared.places.Segment.{Segment}
use Rattle.mix_core.specs.Marks.{high_frame}
use Rattle.sum_table.specs.declared.seats.mix.MixSeat.{MixSeat}
use Rattle.wav_io.specs.Sound.{Sound}
use Rattle.sum_table.specs.declared.view.Key.{Key}
use Rattle.sum_table.specs.Players.{player_key, player_ring}
use Rattle.sum_table.specs.Seats.{TableId, key_of, marks_of_seat, member_of, ring_of, seen_of}
use Rattle.lobby.specs.Seats.{IsPlace}
use Rattle.dmix_client.specs.View.{ClientView}
use Rattle.card_sim.specs.declared.card.Card.{Card}
use Rattle.lab_lines.specs.declared.line.Actor.TheVariants as actor
use Rattle.lab_lines.specs.declared.line.Line.{Line}
use Rattle.lab_lines.specs.declared.row.Row.{Row}
use Rattle.lab_run.specs.Client.{Client}
use Rattle.lab_run.specs.Members.{with_member}
use Rattle.lab_run.specs.PortSteps.{IsLastSince, MarksAlike}
use Rattle.lab_run.specs.Rules.{AtPort}
use Rattle.lab_clients.specs.declared.lines.ClientActor.{ClientActor}
use Rattle.lab_clients.specs.Lines.{IsReady}
use Rattle.lab_actors.specs.Room.{HasSpace}
use Rattle.lab_actors.specs.Lines.{line_count}
use Rattle.lab_card.specs.Meets.{IsClientOf}
use Rattle.lab_card.specs.Moves.{seat_of_card}
use Rattle.lab_clients.specs.declared.client.LabClient.{LabClient}
use Rattle.lab_clients.specs.declared.open_client.OpenClient.{OpenClient}
use Rattle.lab_clients.specs.OneClient.{AllRefused, CanRun, HasRoom, HasRoomBy, IsAt, IsAtBy, IsCardOfRing, IsClientHeard, IsClientInformed, IsOfCard, IsSameBut, RunsLines, GoesOrRests, client_by, client_in, ended_of, number_of, open_of}
use Rattle.lab_clients.specs.OpenClient.{HasRun, IsHeard, IsInformed, IsOpenReady, IsSameOpen}
use Rattle.lab_clients.specs.SeatLaws.{IsReady-same, IsSameSeat-informed, IsSameSeat-same}
use Rattle.lab_clients.specs.SeatPort.{seat_port}

-- an open client that is the same but for its rows can use its seat
CanRun-open : (wav : Sound) (o p : OpenClient) → IsSameOpen o p → IsOpenReady wav o → IsOpenReady wav p
CanRun-open wav o p same ready =
    subst (λ (s : MixSeat). IsReady seat_port wav s p.actor.client) (sym same.seat) (subst (λ (v : ClientView). IsReady seat_port wav o.seat v) (sym same.client) ready)

-- a client of a run, by its stream
abbrev pub run_client : ℕ → ClientView → List Segment → Client
run_client number v ended = record { own = Some (with_member number v.stream); ended = ended }

-- where a client is open, its seat is of a ring
pub record IsSeatOf (ring : TableId) (key : Key) (o : OpenClient) : Type 0 where
  pub of_ring : ring_of o.seat ≡ ring
  pub of_key : key_of o.seat ≡ key

abbrev pub IsOfRing : TableId → Key → LabClient → Type 0
IsOfRing ring key d = IfSome (open_of d) (IsSeatOf ring key)

module _ (ring : TableId) (key : Key) where
  pub IsOfCard-ring : (c : Card) (d : LabClient) → IsCardOfRing ring key c → IsOfRing ring key d → IsOfCard c d
  IsOfCard-ring c d of is = by_open (open_of d) is
    where
      by_open : (o : Option OpenClient) → IfSome o (IsSeatOf ring key) → IfSome o (λ (x : OpenClient). IsClientOf c x.seat)
      by_open None seat = tt
      by_open (Some o) seat = (seat.of_ring ∙ sym of.of_ring, seat.of_key ∙ sym of.of_key)

  -- a client at its port is of the ring, and can use its seat with its file
  pub IsOfRing-at : (wav : Sound) (last : Option ℕ) (d : LabClient) (a : AtPort) → IsAt ring key wav last d a → IsOfRing ring key d
  IsOfRing-at wav last d a at = by_open (open_of d) at
    where
      by_open : (o : Option OpenClient) → IsAtBy ring key wav last (number_of d) o a → IfSome o (IsSeatOf ring key)
      by_open None is = tt
      by_open (Some o) is = record { of_ring = is.place.of_ring; of_key = is.place.of_key }

  pub CanRun-at : (wav : Sound) (last : Option ℕ) (d : LabClient) (a : AtPort) → IsAt ring key wav last d a → CanRun wav d
  CanRun-at wav last d a at = by_open (open_of d) at
    where
      by_open : (o : Option OpenClient) → IsAtBy ring key wav last (number_of d) o a → IfSome o (IsOpenReady wav)
      by_open None is = tt
      by_open (Some o) is = is.ready

  -- it stays of the ring while it meets a note and does its lines
  pub IsOfRing-informed : (c : Card) (d e : LabClient) → IsClientInformed c d e → IsOfRing ring key d → IsOfRing ring key e
  IsOfRing-informed c d e informed is = by_open (open_of d) (open_of e) informed.own is
    where
      by_open : (o p : Option OpenClient) → GoesOrRests (IsInformed c) (e.rows ≡ d.rows) o p → IfSome o (IsSeatOf ring key) → IfSome p (IsSeatOf ring key)
      by_open None None goes seat = tt
      by_open (Some o) (Some p) goes seat = record { of_ring = goes.seat.ring ∙ seat.of_ring; of_key = goes.seat.key ∙ seat.of_key }
      by_open None (Some p) never seat = absurd never
      by_open (Some o) None never seat = absurd never

  pub IsOfRing-run : (before after asks phase : ℕ) (wav : Sound) (lines : List Line) (d e : LabClient) → RunsLines before after asks phase wav lines d e → IsOfRing ring key d → IsOfRing ring key e
  IsOfRing-run before after asks phase wav lines d e run is = by_open (open_of d) (open_of e) run.own is
    where
      by_open : (o p : Option OpenClient) → GoesOrRests (HasRun before after asks phase wav lines) (AllRefused before after asks phase (number_of d) lines d.rows.items e.rows.items) o p
          → IfSome o (IsSeatOf ring key) → IfSome p (IsSeatOf ring key)
      by_open None None goes seat = tt
      by_open (Some o) (Some p) goes seat =
          let went = goes.part.extends.away.laid_them.goes in record { of_ring = went.ring ∙ seat.of_ring; of_key = went.key ∙ seat.of_key }
      by_open None (Some p) never seat = absurd never
      by_open (Some o) None never seat = absurd never

  -- and while its rows are taken, or room for others
  pub IsOfRing-same : (d e : LabClient) → IsSameBut d e → IsOfRing ring key d → IsOfRing ring key e
  IsOfRing-same d e same is = by_open (open_of d) (open_of e) same.own is
    where
      by_open : (o p : Option OpenClient) → GoesOrRests IsSameOpen ⊤ o p → IfSome o (IsSeatOf ring key) → IfSome p (IsSeatOf ring key)
      by_open None None stays seat = tt
      by_open (Some o) (Some p) stays seat =
          record { of_ring = ap ring_of stays.seat ∙ seat.of_ring; of_key = ap key_of stays.seat ∙ seat.of_key }
      by_open None (Some p) never seat = absurd never
      by_open (Some o) None never seat = absurd never

  -- then it is the same in the run too
  pub IsAt-same : (wav : Sound) (last : Option ℕ) (d e : LabClient) (a : AtPort) → IsSameBut d e → IsAt ring key wav last d a → IsAt ring key wav last e a
  IsAt-same wav last d e a same at =
      subst (λ (n : ℕ). IsAtBy ring key wav last n (open_of e) a) (sym same.rest.number) (by_open (open_of d) (open_of e) same.own at)
    where
      by_open : (o p : Option OpenClient) → GoesOrRests IsSameOpen ⊤ o p → IsAtBy ring key wav last (number_of d) o a → IsAtBy ring key wav last (number_of d) p a
      by_open None None stays is = is
      by_open (Some o) (Some p) stays is = record {
        numbered = stays.number ∙ is.numbered;
        bindings = stays.same.bindings ∙ (is.bindings ∙ ap (λ (c : ClientView). c.stream.setup.bindings) (sym stays.client));
        place = subst (λ (s : MixSeat). IsPlace ring key (member_of s) s) (sym stays.seat) is.place;
        ready = CanRun-open wav o p stays is.ready;
        after = let low = is.after in let at = stays.same.opened_at in let seat = ap seen_of stays.seat in omega (arith, low, at, seat);
        seen = let low = is.seen in let seat = ap seen_of stays.seat in omega (arith, low, seat);
        left = is.left ∙ sym stays.left;
        alike = subst (λ (s : MixSeat). MarksAlike key.geometry p.opened_at (marks_of_seat s).high a.marks (marks_of_seat s)) (sym stays.seat)
            (subst (λ (n : ℕ). MarksAlike key.geometry n (marks_of_seat o.seat).high a.marks (marks_of_seat o.seat)) (sym stays.same.opened_at) is.alike);
        since = subst (λ (s : MixSeat). IsLastSince p.opened_at last (high_frame key.geometry (marks_of_seat s))) (sym stays.seat)
            (subst (λ (n : ℕ). IsLastSince n last (high_frame key.geometry (marks_of_seat o.seat))) (sym stays.same.opened_at) is.since);
      }
      by_open None (Some p) never is = absurd never
      by_open (Some o) None never is = absurd never

pub client_in-same : (d e : LabClient) → IsSameBut d e → client_in e ≡ client_in d
client_in-same d e same = by_open (open_of d) (open_of e) same.own
  where
    by_open : (o p : Option OpenClient) → GoesOrRests IsSameOpen ⊤ o p → client_by (ended_of e) p ≡ client_by (ended_of d) o
    by_open None None stays = ap (λ (es : List Segment). client_by es None) same.rest.ended
    by_open (Some o) (Some p) stays =
        ap (λ (n : ℕ). run_client n p.actor.client p.actor.ended.items) stays.number
        ∙ (ap (λ (v : ClientView). run_client o.actor.number v p.actor.ended.items) stays.client
        ∙ ap (λ (es : List Segment). run_client o.actor.number o.actor.client es) stays.ended)
    by_open None (Some p) never = absurd never
    by_open (Some o) None never = absurd never

pub CanRun-same : (wav : Sound) (d e : LabClient) → IsSameBut d e → CanRun wav d → CanRun wav e
CanRun-same wav d e same can = by_open (open_of d) (open_of e) same.own can
  where
    by_open : (o p : Option OpenClient) → GoesOrRests IsSameOpen ⊤ o p → IfSome o (IsOpenReady wav) → IfSome p (IsOpenReady wav)
    by_open None None stays ready = tt
    by_open (Some o) (Some p) stays ready = CanRun-open wav o p stays ready
    by_open None (Some p) never ready = absurd never
    by_open (Some o) None never ready = absurd never

pub CanRun-heard : (c : Card) (wav : Sound) (d e : LabClient) → IsClientHeard c d e → CanRun wav d → CanRun wav e
CanRun-heard c wav d e heard can = by_open (open_of d) (open_of e) heard.own can
  where
    by_open : (o p : Option OpenClient) → GoesOrRests (IsHeard c) (e.rows ≡ d.rows) o p → IfSome o (IsOpenReady wav) → IfSome p (IsOpenReady wav)
    by_open None None goes ready = tt
    by_open (Some o) (Some p) goes ready =
        subst (λ (x : ClientActor). IsReady seat_port wav p.seat x.client) (sym goes.actor)
        (IsReady-same wav o.actor.client o.seat p.seat (IsSameSeat-same o.seat p.seat goes.seat) ready)
    by_open None (Some p) never ready = absurd never
    by_open (Some o) None never ready = absurd never

pub CanRun-run : (before after asks phase : ℕ) (wav : Sound) (lines : List Line) (d e : LabClient) → RunsLines before after asks phase wav lines d e → CanRun wav e
CanRun-run before after asks phase wav lines d e run = by_open (open_of d) (open_of e) run.own
  where
    by_open : (o p : Option OpenClient) → GoesOrRests (HasRun before after asks phase wav lines) (AllRefused before after asks phase (number_of d) lines d.rows.items e.rows.items) o p
        → IfSome p (IsOpenReady wav)
    by_open None None goes = tt
    by_open (Some o) (Some p) goes = goes.ready
    by_open None (Some p) never = absurd never
    by_open (Some o) None never = absurd never

-- a client of a card's ring
pub IsOfRing-card : (c : Card) (d : LabClient) → IsOfCard c d → IsOfRing (player_ring (seat_of_card c)) (player_key (seat_of_card c)) d
IsOfRing-card c d is = by_open (open_of d) is
  where
    by_open : (o : Option OpenClient) → IfSome o (λ (x : OpenClient). IsClientOf c x.seat) → IfSome o (IsSeatOf (player_ring (seat_of_card c)) (player_key (seat_of_card c)))
    by_open None seat = tt
    by_open (Some o) seat = record { of_ring = seat.0; of_key = seat.1 }

-- after the first meet a client can use its seat, and has the room of its lines, as before
pub CanRun-informed : (c : Card) (wav : Sound) (d e : LabClient) → IsClientInformed c d e → CanRun wav d → CanRun wav e
CanRun-informed c wav d e informed can = by_open (open_of d) (open_of e) informed.own can
  where
    by_open : (o p : Option OpenClient) → GoesOrRests (IsInformed c) (e.rows ≡ d.rows) o p → IfSome o (IsOpenReady wav) → IfSome p (IsOpenReady wav)
    by_open None None goes ready = tt
    by_open (Some o) (Some p) goes ready =
        subst (λ (x : ClientActor). IsReady seat_port wav p.seat x.client) (sym goes.actor)
        (IsReady-same wav o.actor.client o.seat p.seat (IsSameSeat-informed c o.seat p.seat goes.seat) ready)
    by_open None (Some p) never ready = absurd never
    by_open (Some o) None never ready = absurd never

pub HasRoom-informed : (c : Card) (lines : List Line) (d e : LabClient) → IsClientInformed c d e → HasRoom lines d → HasRoom lines e
HasRoom-informed c lines d e informed room = by_open (open_of d) (open_of e) informed.own room
  where
    by_open : (o p : Option OpenClient) → GoesOrRests (IsInformed c) (e.rows ≡ d.rows) o p → HasRoomBy lines d o → HasRoomBy lines e p
    by_open None None same space =
        subst (λ (n : ℕ). HasSpace (line_count (actor.Client n) lines) e.rows) (sym informed.rest.number)
        (subst (λ (rows : Vec Row). HasSpace (line_count (actor.Client d.number) lines) rows) (sym same) space)
    by_open (Some o) (Some p) goes space = record {
      rows = subst (λ (x : ClientActor). HasSpace (line_count (actor.Client x.number) lines) x.rows) (sym goes.actor) space.rows;
      ended = subst (λ (x : ClientActor). HasSpace (line_count (actor.Client x.number) lines) x.ended) (sym goes.actor) space.ended;
    }
    by_open None (Some p) never space = absurd never
    by_open (Some o) None never space = absurd never
