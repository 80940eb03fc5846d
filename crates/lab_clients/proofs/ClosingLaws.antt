-- A closing of a client makes of the clients of the lab what it makes of those of a run.
use Rattle.lab_clients.specs.Prelude.{ap, arith, IsSome, length, List, refl, subst, sym, ℕ, ◌∙◌, ◌≡◌, nat_tests, ints, append-nil, All, false, IfSome, is_some}
use Rattle.lab_clients.specs.Prelude.{None, Option, pos, slice_index_or, slice_set, Some, true, ◌<◌, ◌≢◌, BadState, Geometry, standing, high_frame, MixSeat}
use Rattle.lab_clients.specs.Prelude.{key_of, member_of, ring_of, TableId, free_seats, last_of, PlaybackStream, Done, Failed, Client, row_by, segments_of, Held}
use Rattle.lab_clients.specs.Prelude.{held_of, held_without, is_stopped, with_member, AtPort, after_close, client_at, close_client, ended_client, new_port}
use Rattle.lab_clients.specs.Prelude.{no_client, Session, Stage, CanClose, closed_held, Closes, HoldsPlace, IsHeldBy, IsOwnLast, IsSameCard, key_of_places}
use Rattle.lab_clients.specs.Prelude.{lobby_of, ring_of_places, share_of, shares_of, AreHeld, AreHeld-closed, CanClose-held, Holding, Holdings, laid_list}
use Rattle.lab_clients.specs.Prelude.{laid_lists, AreEach-map, LabClient, LabClients, OpenClient, AreAfter, AreAt, AreIn, clients_of, holding_by, IsClientAt}
use Rattle.lab_clients.specs.Prelude.{IsClientDone, IsClientIn, IsSetUp, places_of, AreIn-exchanged, ChangesAt-with_holding, IsAsOften-exchanged, IsInRun}
use Rattle.lab_clients.specs.Prelude.{IsLaidWith, KeepsHolding, MovesLaid, Relation, with_holding, worth_all-with, client_by, client_in, ended_of, is_open}
use Rattle.lab_clients.specs.Prelude.{IsAt, IsAtBy, number_of, open_of, rows_of, seen_by, closed_client, HasClosed, IsHigh, IsAt-closed, IsOwnLast-closed}
use Rattle.lab_clients.specs.Prelude.{IsOpenAt, stream_of, AreAtStage, client_among, clients_but, held_but, open_at, IsReported, laid_for, worth_left, worth_of}
use Rattle.lab_clients.specs.Prelude.{sound_at}
use Rattle.dshare.specs.Shared.{AreOfCard}
use Rattle.sum_table.specs.declared.view.Key.{Key}
use Rattle.sum_table.specs.Joins.{OneRing}
use Rattle.lab_places.specs.declared.places.Places.{Places}
use Rattle.lab_places.specs.HeldLaws.{HoldsPlace-one}
use Rattle.lab_clients.specs.OnePhase.{LastsAreOwn}
use Rattle.lab_clients.proofs.OpenAt.{open_at-read}
use Rattle.lab_clients.proofs.OpeningLaws.{client-number, is_some-own, none-own, own-is, row-is}
use Rattle.lab_clients.proofs.ReportedLaws.{IsApart, IsPlacedFor-at, IsReported-closed}
use Rattle.pcm_states.specs.declared.states.State.TheVariants as state
use Rattle.lab_lines.specs.declared.line.Actor.TheVariants as actor
use Rattle.lab_lines.specs.declared.line.Op.TheVariants as op

-- a closing at the places, whichever client it is
abbrev pub ClosesAny : Places → List ℕ → ℕ → MixSeat → Places → Type 0
ClosesAny p channels position s q = (number : ℕ) (held : Held) → IsHeldBy p held → Closes (share_of p) number channels position s held q

-- a client that is open is closed
pub record Closing (d e : LabClient) (seat : MixSeat) (channels : List ℕ) (position : ℕ) : Type 0 where
  pub own : OpenClient
  pub open_is : open_of d ≡ Some own
  pub closed : HasClosed d own seat channels position e

pub Closing-at : (cs : LabClients) (number : ℕ) (d e : LabClient) (seat : MixSeat) (channels : List ℕ) (position : ℕ) → number < length (clients_of cs) → d ≡ slice_index_or (clients_of cs) number d
    → IsSome (open_at (clients_of cs) number) → IfSome (open_of d) (λ (o : OpenClient). HasClosed d o seat channels position e) → Closing d e seat channels position
Closing-at cs number d e seat channels position inside is there closed = by_open (open_of d) refl (subst IsSome (open_at-read (clients_of cs) number d inside is) there) closed
  where
    by_open : (o : Option OpenClient) → open_of d ≡ o → IsSome o → IfSome o (λ (own : OpenClient). HasClosed d own seat channels position e) → Closing d e seat channels position
    by_open None open_is there closed = absurd (cc)
    by_open (Some own) open_is there closed = record { own = own; open_is = open_is; closed = closed }

-- a client is one of a run: it stays so while it holds what it held, and is so again once it is closed
pub record KeepsRun (Is : Relation (AtPort × Client)) : Type 0 where
  pub holding : KeepsHolding Is
  pub in_run : IsInRun Is
  pub closed : (session : Session) (ring : TableId) (key : Key) (holdings after : Holdings) (n : ℕ) (d e : LabClient) (x y : AtPort × Client) → Is session ring key holdings n d x
      → rows_of e ≡ rows_of d → is_stopped y.1.own ≡ false → IsClientIn session ring key after n e y → Is session ring key after n e y

pub IsClientAt-keeps : KeepsRun IsClientAt
IsClientAt-keeps = grind (arith, nat_tests)

pub IsClientDone-keeps : KeepsRun IsClientDone
IsClientDone-keeps = grind (arith, nat_tests)

-- An open client of a list is closed, whatever else is so of clients.
module _ (Is : Relation (AtPort × Client)) (keeps : KeepsRun Is) (session : Session) (held : Held) (xs : List (AtPort × Client)) (cs : LabClients) (number : ℕ) (d e : LabClient) (seat : MixSeat)
    (channels : List ℕ) (position : ℕ) (are : AreIn Is session held xs cs) (inside : number < length (clients_of cs)) (is : d ≡ slice_index_or (clients_of cs) number d)
    (closing : Closing d e seat channels position) where
  abbrev ring : TableId
  ring = ring_of_places (places_of cs)

  abbrev key : Key
  key = key_of_places (places_of cs)

  abbrev client : AtPort × Client
  client = client_among session xs number

  abbrev own : OpenClient
  own = closing.own

  was : IsClientIn session ring key are.holdings number d client
  was = keeps.in_run session ring key are.holdings number d client (client-number Is session held xs cs number d are inside is)

  at_port : IsOpenAt ring key (sound_at session.sounds number) was.last (number_of d) own client.0
  at_port = subst (λ (o : Option OpenClient). IsAtBy ring key (sound_at session.sounds number) was.last (number_of d) o client.0) closing.open_is was.at

  -- what it holds
  abbrev own-holding : Holding
  own-holding = record { place = member_of own.seat; before = was.last; channels = own.bindings }

  holds_it : are.holdings number ≡ Some own-holding
  holds_it = was.holds ∙ ap (holding_by was.last) closing.open_is

  -- its seat is of the card's ring
  pub OneRing-closing : OneRing (ring_of seat) (key_of seat) ring key
  OneRing-closing = rw closing.closed.seat_is (at_port.place.of_ring, at_port.place.of_key)

  -- and can be taken back with its channels, which are the card's
  pub CanClose-closing : CanClose (places_of cs) seat channels
  CanClose-closing =
      let set_up = subst (IsSetUp (slice_index_or session.clients number None)) closing.open_is was.setup in
      let fits = are.card.setups number set_up.0 set_up.1 in
      let on_card : AreOfCard (shares_of (places_of cs)) own.bindings =
      subst (λ (bound : List ℕ). AreOfCard (shares_of (places_of cs)) bound) (sym (at_port.bindings ∙ set_up.2))
      (subst (λ (n : ℕ). All (λ (channel : ℕ). channel < n) set_up.0.bindings) (sym are.card.channels) fits.usable.on_card) in
      rw (closing.closed.seat_is, closing.closed.channels_are)
      (CanClose-held (places_of cs) held are.holdings number own-holding own.seat are.held_by are.are_held holds_it refl at_port.place.places on_card)

  -- Its place is taken back: the others are as they were, and it isn't open any more.
  module _ (ds : LabClients) (lasts : LastsAreOwn) (closes : ClosesAny (places_of cs) channels position seat (places_of ds)) (same : IsSameCard (places_of cs) (places_of ds))
      (clients : clients_of ds ≡ slice_set (clients_of cs) number e) (laid : IsLaidWith (free_seats (lobby_of (places_of cs))) seat (free_seats (lobby_of (places_of ds)))) where
    own_is : client.1.own ≡ Some (with_member own.actor.number (stream_of own))
    own_is = ap (λ (c : Client). c.own) (sym was.client) ∙ ap (λ (o : Option OpenClient). (client_by (ended_of d) o).own) closing.open_is

    abbrev last : Option ℕ
    last = high_frame session.ring client.0.marks

    abbrev then_held : Held
    then_held = closed_held session.card.share number own.bindings last held

    own_last : IsOwnLast own.opened_at was.last last (last_of own.seat)
    own_last =
        subst (λ (g : Geometry). IsOwnLast own.opened_at was.last (high_frame g client.0.marks) (last_of own.seat)) are.card.ring
        (IsOwnLast-closed ring key (sound_at session.sounds number) was.last (number_of d) own client.0 lasts (subst IsHigh closing.closed.seat_is closing.closed.high) at_port)

    closes_own : Closes (share_of (places_of cs)) number own.bindings own.opened_at own.seat held (places_of ds)
    closes_own =
        rw (closing.closed.channels_are, closing.closed.opened_at, closing.closed.seat_is) at (closes number held are.held_by)

    held_by : IsHeldBy (places_of ds) then_held
    held_by =
        subst (λ sharing. IsHeldBy (places_of ds) (closed_held sharing number own.bindings last held)) are.card.share
        (closes_own was.last last (are.are_held.place number own-holding holds_it) own_last)

    abbrev then_holdings : Holdings
    then_holdings = with_holding number None are.holdings

    held_closed : AreHeld (share_of (places_of cs)) then_held then_holdings
    held_closed =
        subst (λ sharing. AreHeld sharing then_held then_holdings) (sym are.card.share)
        (AreHeld-closed session.card.share number own-holding last held are.holdings then_holdings (subst (λ sharing. AreHeld sharing held are.holdings) are.card.share are.are_held) holds_it
        (ChangesAt-with_holding number None are.holdings))

    -- the client of the run then
    abbrev ended : AtPort × Client
    ended = ended_client session.ring client

    own_closed : Is session ring key then_holdings number e ended
    own_closed =
        let at : IsAt ring key (sound_at session.sounds number) None e ended.0 =
        subst (λ (g : Geometry). IsAt ring key (sound_at session.sounds number) None e (new_port g client.0.by_gate client.0.at_gate)) are.card.ring
        (IsAt-closed ring key (sound_at session.sounds number) None e client.0.by_gate client.0.at_gate closing.closed.closed) in
        keeps.closed session ring key are.holdings then_holdings number d e client ended (client-number Is session held xs cs number d are inside is) closing.closed.rows refl (record {
          numbered = closing.closed.number ∙ was.numbered;
          client = closing.closed.client ∙ ap closed_client was.client;
          last = None;
          at = at;
          holds = (ChangesAt-with_holding number None are.holdings).own ∙ ap (holding_by None) (sym closing.closed.closed);
          setup = subst (IsSetUp (slice_index_or session.clients number None)) (sym closing.closed.closed) tt;
        })

    moves : MovesLaid (free_seats (lobby_of (places_of cs))) (slice_index_or (clients_of cs) number d) (free_seats (lobby_of (places_of ds))) e
    moves worth =
        let old : worth_left worth (laid_for (open_of (slice_index_or (clients_of cs) number d))) ≡ worth_of worth (standing (laid_list seat)) =
        ap (λ (c : LabClient). worth_left worth (laid_for (open_of c))) (sym is)
        ∙ (ap (λ (o : Option OpenClient). worth_left worth (laid_for o)) closing.open_is ∙ ap (λ (s : MixSeat). worth_of worth (standing (laid_list s))) (sym closing.closed.seat_is)) in
        let new : worth_left worth (laid_for (open_of e)) ≡ pos 0 = ap (λ (o : Option OpenClient). worth_left worth (laid_for o)) closing.closed.closed in
        let places = worth_all-with worth (free_seats (lobby_of (places_of cs))) seat (free_seats (lobby_of (places_of ds))) laid in
        omega (arith, ints, old, new, places)

    -- no other client is at its place
    apart-by : (n : ℕ) (a : LabClient) (b : AtPort × Client) → IsClientIn session ring key are.holdings n a b → n ≢ number → (o : Option OpenClient) → open_of a ≡ o
        → IfSome o (λ (p : OpenClient). member_of seat ≢ member_of p.seat)
    apart-by n a b other differ None open_is = tt
    apart-by n a b other differ (Some p) open_is = λ same.
        differ (HoldsPlace-one n number (member_of p.seat) other.last was.last held.lobby.places
        (are.are_held.place n (record { place = member_of p.seat; before = other.last; channels = p.bindings }) (other.holds ∙ ap (holding_by other.last) open_is))
        (subst (λ place. HoldsPlace number place was.last held.lobby.places) (ap member_of (sym closing.closed.seat_is) ∙ same) (are.are_held.place number own-holding holds_it)))

    reported_still : IsReported session (laid_lists (free_seats (lobby_of (places_of ds)))) (slice_set (clients_of cs) number e) (slice_set xs number ended)
    reported_still =
        IsReported-closed session (free_seats (lobby_of (places_of cs))) seat (free_seats (lobby_of (places_of ds))) laid (clients_of cs) number e own own.actor.number xs client ended are.reported
        (IsPlacedFor-at session are.reported.history (clients_of cs) xs number d (no_client session.ring) are.reported.clients inside is (Some own) closing.open_is) own_is closing.closed.seat_is
        closing.closed.closed refl
        (AreEach-map (Is session ring key are.holdings) (λ n a b. IsApart number (member_of seat) n a) 0 (clients_of cs) xs
        (λ n a b each differ. apart-by n a b (keeps.in_run session ring key are.holdings n a b each) differ (open_of a) refl) are.each)
        (IsAsOften-exchanged session (free_seats (lobby_of (places_of cs))) (free_seats (lobby_of (places_of ds))) (clients_of cs) number d e xs (no_client session.ring) ended inside
        (append-nil (segments_of client.1)) moves are.reported.as_often)

    -- what is held then is what a run has
    held_is : held_but session held xs number ≡ then_held
    held_is =
        ap (λ own. held_without session number client.0 own held) own_is
        ∙ ap (λ bound. closed_held session.card.share number bound last held) (sym at_port.bindings)

    pub AreIn-closed : AreIn Is session (held_but session held xs number) (clients_but session xs number) ds
    AreIn-closed =
        subst (λ after. AreIn Is session after (clients_but session xs number) ds) (sym held_is)
        (AreIn-exchanged Is keeps.holding session held then_held xs cs ds number e ended None are same inside clients held_by held_closed own_closed reported_still)

-- ---- the row of a closing

module _ (session : Session) (stage : Stage) (phase number : ℕ) (cs : LabClients) (d : LabClient) (at : AreAtStage session stage phase cs) (inside : number < length (clients_of cs))
    (is : d ≡ slice_index_or (clients_of cs) number d) where
  abbrev own-then : Option PlaybackStream
  own-then = (client_at session stage number).1.own

  own_then-is : own-then ≡ (client_in d).own
  own_then-is = own-is session stage phase number cs d at inside is

  pub AreAfter-closed_already : open_of d ≡ None
      → AreAfter session stage (after_close session stage (actor.Client number)) (row_by phase (number_of d) op.Closes (client_in d).own (Failed BadState)) cs
  AreAfter-closed_already closed =
      rw (sym (row-is session stage phase number cs d at inside is op.Closes (Failed BadState))) (by_own own-then (own_then-is ∙ none-own d closed))
    where
      by_own : (own : Option PlaybackStream) → own ≡ None
          → AreAfter session stage (close_client session stage number (client_at session stage number) own) (row_by stage.phases number op.Closes own (Failed BadState)) cs
      by_own None is = record { are = at.are; rows = refl }
      by_own (Some c) is = absurd (cc)

  pub AreAfter-closed : (ds : LabClients) → is_open d ≡ true
      → AreAt session (held_but session (held_of stage) stage.clients number) (clients_but session stage.clients number) ds
      → AreAfter session stage (after_close session stage (actor.Client number))
      (record { phase = phase; actor = actor.Client number; op = op.Closes; answer = Done; state = state.Open; seen = seen_by (client_in d).own }) ds
  AreAfter-closed ds opened are = rw (at.phase_is, sym own_then-is) (by_own own-then (ap is_some own_then-is ∙ is_some-own d opened) are)
    where
      by_own : (own : Option PlaybackStream) → is_some own ≡ true
          → AreAt session (held_without session number (client_at session stage number).0 own (held_of stage)) (clients_but session stage.clients number) ds
          → AreAfter session stage (close_client session stage number (client_at session stage number) own)
          (record { phase = stage.phases; actor = actor.Client number; op = op.Closes; answer = Done; state = state.Open; seen = seen_by own }) ds
      by_own None is are = absurd (cc)
      by_own (Some c) is are = record { are = are; rows = refl }
