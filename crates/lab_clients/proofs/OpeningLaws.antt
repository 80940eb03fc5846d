-- An opening of a client makes of the clients of the lab what it makes of those of a run.
use Rattle.lab_clients.specs.Prelude.{ap, arith, length, List, refl, subst, sym, zero-add, ℕ, [], ◌++◌, ◌∙◌, ◌∷◌, ◌≡◌, false≢true, nat_tests, ints, Err}
use Rattle.lab_clients.specs.Prelude.{is_some, IsSomeAnd, None, Ok, Option, pos, Result, slice_index_or, slice_set, Some, true, ◌<◌, PcmError, BadState}
use Rattle.lab_clients.specs.Prelude.{Invalid, Geometry, standing, MixSeat, member_of, TableId, free_seats, last_of, PlaybackStream, Op, Answer, Done, Failed}
use Rattle.lab_clients.specs.Prelude.{Share, Client, present_of, row_by, segments_of, stretch_of, Held, held_of, AtPort, after_open, client_at, new_port}
use Rattle.lab_clients.specs.Prelude.{no_client, open_client, open_client_with, opened_client, renewed_port, Session, Setup, Stage, with_row, IsGiven}
use Rattle.lab_clients.specs.Prelude.{IsSameCard, key_of_places, lobby_of, Opens, ring_of_places, share_of, AreHeld, AreHeld-opened, AreHeld-refused, Holding}
use Rattle.lab_clients.specs.Prelude.{Holdings, laid_list, laid_lists, AreEach-at, LabClient, LabClients, OpenClient, AreAfter, AreAt, AreIn, clients_of}
use Rattle.lab_clients.specs.Prelude.{holding_by, IsClientAt, places_of, AreIn-exchanged, AreIn-places, ChangesAt-with_holding, IsAsOften, IsAsOften-exchanged}
use Rattle.lab_clients.specs.Prelude.{IsClientAt-holding, IsClientAt-in_run, IsInRun, IsLaidAlike, IsLaidWith, MovesLaid, Relation, with_holding}
use Rattle.lab_clients.specs.Prelude.{worth_all-with, client_by, client_in, ended_of, is_open, IsAt, number_of, open_of, HasOpened, IsNewlyOpen, client-opened}
use Rattle.lab_clients.specs.Prelude.{IsAt-opened, new_client, AreAtStage, AreBeforeOpening, client_among, IsReported, laid_for, worth_left, worth_of, sound_at}
use Rattle.sum_table.specs.declared.view.Key.{Key}
use Rattle.lab_places.specs.StageLaws.{came_of, open_client_with-done, open_client_with-refused, with_held}
use Rattle.lab_clients.proofs.ReportedLaws.{IsPlacedFor-at, IsReported-opened}
use Rattle.snd_base.specs.declared.errors.Why.TheVariants as why
use Rattle.lab_lines.specs.declared.line.Actor.TheVariants as actor
use Rattle.lab_lines.specs.declared.line.Op.TheVariants as op

-- ---- the client of a number

-- is that of the run, whatever else is so of it
module _ (Is : Relation (AtPort × Client)) (session : Session) (held : Held) (xs : List (AtPort × Client)) (cs : LabClients) (number : ℕ) (d : LabClient) (are : AreIn Is session held xs cs)
    (inside : number < length (clients_of cs)) (is : d ≡ slice_index_or (clients_of cs) number d) where
  pub client-number : Is session (ring_of_places (places_of cs)) (key_of_places (places_of cs)) are.holdings number d (client_among session xs number)
  client-number =
      let each : ℕ → LabClient → AtPort × Client → Type 0 = Is session (ring_of_places (places_of cs)) (key_of_places (places_of cs)) are.holdings in
      subst (λ e. each number e (client_among session xs number)) (sym is)
      (subst (λ n. each n (slice_index_or (clients_of cs) number d) (client_among session xs number)) (zero-add number) (AreEach-at each 0 (clients_of cs) xs are.each number d (no_client session.ring) inside))

  pub own-number : IsInRun Is → (client_among session xs number).1.own ≡ (client_in d).own
  own-number in_run = ap (λ (client : Client). client.own) (sym (in_run _ _ _ _ _ _ _ client-number).client)

pub is_some-own : (d : LabClient) → is_open d ≡ true → is_some (client_in d).own ≡ true
is_some-own d is = grind (arith, nat_tests)

pub none-own : (d : LabClient) → open_of d ≡ None → (client_in d).own ≡ None
none-own d is = ap (λ (o : Option OpenClient). (client_by (ended_of d) o).own) is

-- ---- refusals that name no place

module _ (session : Session) (stage : Stage) (phase number : ℕ) (cs : LabClients) (d : LabClient) (at : AreAtStage session stage phase cs) (inside : number < length (clients_of cs))
    (is : d ≡ slice_index_or (clients_of cs) number d) where
  pub number-is : number_of d ≡ number
  number-is = (client-number IsClientAt session (held_of stage) stage.clients cs number d at.are inside is).is.numbered

  pub own-is : (client_at session stage number).1.own ≡ (client_in d).own
  own-is = own-number IsClientAt session (held_of stage) stage.clients cs number d at.are inside is IsClientAt-in_run

  -- the row of its opening or closing is that of the run
  pub row-is : (asked : Op) (answer : Answer) → row_by stage.phases number asked (client_at session stage number).1.own answer ≡ row_by phase (number_of d) asked (client_in d).own answer
  row-is asked answer = λ i. row_by ((sym at.phase_is) i) ((sym number-is) i) asked (own-is i) answer

  pub AreAfter-open_already : is_open d ≡ true
      → AreAfter session stage (after_open session stage (actor.Client number)) (row_by phase (number_of d) op.Opens (client_in d).own (Failed BadState)) cs
  AreAfter-open_already opened = rw (sym (row-is op.Opens (Failed BadState))) (by_own (client_at session stage number).1.own (ap is_some own-is ∙ is_some-own d opened))
    where
      by_own : (own : Option PlaybackStream) → is_some own ≡ true
          → AreAfter session stage (open_client session stage number (client_at session stage number) own) (row_by stage.phases number op.Opens own (Failed BadState)) cs
      by_own None is = absurd (false≢true is)
      by_own (Some c) is = record { are = at.are; rows = refl }

  -- an opening that starts anew, by what there is to open the client with
  after_open-closed : open_of d ≡ None → (setup : Option Setup) → setup ≡ slice_index_or session.clients number None
      → after_open session stage (actor.Client number) ≡ open_client_with session stage number setup (client_at session stage number)
  after_open-closed closed setup setup_is =
      ap (open_client session stage number (client_at session stage number)) (own-is ∙ none-own d closed)
      ∙ ap (λ with_it. open_client_with session stage number with_it (client_at session stage number)) (sym setup_is)

  -- the row of a refused opening
  refused-row : (e : PcmError) → open_of d ≡ None
      → row_by stage.phases number op.Opens None (Failed e) ≡ row_by phase (number_of d) op.Opens (client_in d).own (Failed e)
  refused-row e closed = ap (λ own. row_by stage.phases number op.Opens own (Failed e)) (sym (own-is ∙ none-own d closed)) ∙ row-is op.Opens (Failed e)

  pub AreAfter-nothing : open_of d ≡ None → None ≡ slice_index_or session.clients number None
      → AreAfter session stage (after_open session stage (actor.Client number)) (row_by phase (number_of d) op.Opens (client_in d).own (Failed (Invalid why.Config))) cs
  AreAfter-nothing closed nothing = rw (after_open-closed closed None nothing) (record { are = at.are; rows = ap (λ row. stage.rows ++ row ∷ []) (refused-row (Invalid why.Config) closed) })

-- ---- an opening at the places

-- what came of it at the session's share and the stage's position
Opens-at : (session : Session) (stage : Stage) (number : ℕ) (setup : Setup) (position phase : ℕ) (cs ds : LabClients) (r : Result MixSeat PcmError)
    → AreBeforeOpening session stage number (Some setup) position phase cs
    → Opens (share_of (places_of cs)) number setup.bindings position (held_of stage) r (places_of ds)
    → Opens session.card.share number setup.bindings stage.position (held_of stage) r (places_of ds)
Opens-at session stage number setup position phase cs ds r before opens =
    rw (before.position_is, before.at.are.card.share) at opens

-- an opening that is refused: places that were claimed are free again
module _ (session : Session) (stage : Stage) (number : ℕ) (setup : Setup) (position phase : ℕ) (cs ds : LabClients) (d : LabClient)
    (before : AreBeforeOpening session stage number (Some setup) position phase cs) (inside : number < length (clients_of cs)) (is : d ≡ slice_index_or (clients_of cs) number d)
    (closed : open_of d ≡ None) (e : PcmError) (opens : Opens (share_of (places_of cs)) number setup.bindings position (held_of stage) (Err e) (places_of ds))
    (same : IsSameCard (places_of cs) (places_of ds)) (clients : clients_of ds ≡ clients_of cs)
    (laid : IsLaidAlike (free_seats (lobby_of (places_of cs))) (free_seats (lobby_of (places_of ds)))) where
  abbrev refused-held : Held
  refused-held = (came_of session stage number setup).0

  pub AreAfter-refused : AreAfter session stage (after_open session stage (actor.Client number)) (row_by phase (number_of d) op.Opens (client_in d).own (Failed e)) ds
  AreAfter-refused =
      let at = Opens-at session stage number setup position phase cs ds (Err e) before opens in
      let are = before.at.are in
      let after : after_open session stage (actor.Client number) ≡ with_row (row_by stage.phases number op.Opens None (Failed e)) (with_held refused-held stage) =
      after_open-closed session stage phase number cs d before.at inside is closed (Some setup) before.setup_is
      ∙ open_client_with-refused session stage number setup (client_at session stage number) e at.answer in
      rw after (record {
        are = AreIn-places IsClientAt session (held_of stage) refused-held stage.clients cs ds are same clients at.held_then
            (subst (λ sharing. AreHeld sharing refused-held are.holdings) (sym are.card.share)
            (AreHeld-refused session.card.share number setup.bindings stage.position (held_of stage) are.holdings e
            (subst (λ sharing. AreHeld sharing (held_of stage) are.holdings) are.card.share are.are_held) at.answer))
            laid;
        rows = ap (λ row. stage.rows ++ row ∷ []) (refused-row session stage phase number cs d before.at inside is e closed);
      })

-- an opening that is done: the client is at its place
module _ (session : Session) (stage : Stage) (number : ℕ) (setup : Setup) (position phase : ℕ) (cs ds : LabClients) (d e : LabClient) (seat : MixSeat)
    (before : AreBeforeOpening session stage number (Some setup) position phase cs) (inside : number < length (clients_of cs)) (is : d ≡ slice_index_or (clients_of cs) number d)
    (closed : open_of d ≡ None) (opens : Opens (share_of (places_of cs)) number setup.bindings position (held_of stage) (Ok seat) (places_of ds))
    (given : IsGiven (places_of cs) position seat) (opened : HasOpened seat setup position d e) (same : IsSameCard (places_of cs) (places_of ds))
    (clients : clients_of ds ≡ slice_set (clients_of cs) number e)
    (laid : IsLaidWith (free_seats (lobby_of (places_of ds))) seat (free_seats (lobby_of (places_of cs)))) where
  at : Opens session.card.share number setup.bindings stage.position (held_of stage) (Ok seat) (places_of ds)
  at = Opens-at session stage number setup position phase cs ds (Ok seat) before opens

  abbrev opened-ring : TableId
  opened-ring = ring_of_places (places_of cs)

  abbrev opened-key : Key
  opened-key = key_of_places (places_of cs)

  was : IsClientAt session opened-ring opened-key before.at.are.holdings number d (client_at session stage number)
  was = client-number IsClientAt session (held_of stage) stage.clients cs number d before.at.are inside is

  abbrev opened-held : Held
  opened-held = (came_of session stage number setup).0

  -- what the client holds then
  abbrev own-holding : Holding
  own-holding = record { place = member_of seat; before = last_of seat; channels = setup.bindings }

  abbrev opened-holdings : Holdings
  opened-holdings = with_holding number (Some own-holding) before.at.are.holdings

  -- the client of the run
  abbrev opened-as : AtPort × Client
  opened-as = (renewed_port session.ring (client_at session stage number).0, record (client_at session stage number).1 { own = Some (opened_client session.ring number setup) })

  client-is : client_in e ≡ opened-as.1
  client-is = client-opened (places_of cs) position seat setup d e given opened ∙ (λ i. new_client setup (before.at.are.card.ring i) (was.is.numbered i) (was.is.client i).ended)

  at-port : IsAt opened-ring opened-key (sound_at session.sounds number) (last_of seat) e opened-as.0
  at-port =
      subst (λ (g : Geometry). IsAt opened-ring opened-key (sound_at session.sounds number) (last_of seat) e (new_port g (client_at session stage number).0.by_gate (client_at session stage number).0.at_gate))
      before.at.are.card.ring
      (IsAt-opened (places_of cs) position seat setup d e given opened (sound_at session.sounds number) (client_at session stage number).0.by_gate (client_at session stage number).0.at_gate
      (before.at.are.card.setups number setup (sym before.setup_is)).channels)

  -- it is open then
  by_own : (o : Option OpenClient) → open_of e ≡ o → IsSomeAnd o (IsNewlyOpen seat setup position d) → (p : OpenClient) × (open_of e ≡ Some p) × IsNewlyOpen seat setup position d p
  by_own None open_is never = absurd never
  by_own (Some p) open_is newly = (p, open_is, newly)

  own-open : (p : OpenClient) × (open_of e ≡ Some p) × IsNewlyOpen seat setup position d p
  own-open = by_own (open_of e) refl opened.own

  own-client : IsClientAt session opened-ring opened-key opened-holdings number e opened-as
  own-client = record {
    is = record {
      numbered = opened.number ∙ was.is.numbered;
      client = client-is;
      last = last_of seat;
      at = at-port;
      holds = (ChangesAt-with_holding number (Some own-holding) before.at.are.holdings).own ∙ sym (ap (holding_by (last_of seat)) own-open.1 ∙ (λ i. Some (record { place = member_of (own-open.2.seat_is i); before = last_of seat; channels = own-open.2.bindings i })));
      setup = rw own-open.1 (setup, sym before.setup_is, ap (λ (c : PlaybackStream). c.setup.bindings) own-open.2.stream);
    };
    goes = refl;
    rows = rw own-open.1 (own-open.2.rows ∙ was.rows);
  }

  moves : MovesLaid (free_seats (lobby_of (places_of cs))) (slice_index_or (clients_of cs) number d) (free_seats (lobby_of (places_of ds))) e
  moves worth =
      let old : worth_left worth (laid_for (open_of (slice_index_or (clients_of cs) number d))) ≡ pos 0 =
      ap (λ (c : LabClient). worth_left worth (laid_for (open_of c))) (sym is) ∙ ap (λ (o : Option OpenClient). worth_left worth (laid_for o)) closed in
      let new : worth_left worth (laid_for (open_of e)) ≡ worth_of worth (standing (laid_list seat)) = rw (own-open.1, own-open.2.seat_is) refl in
      let places = worth_all-with worth (free_seats (lobby_of (places_of ds))) seat (free_seats (lobby_of (places_of cs))) laid in
      omega (arith, ints, old, new, places)

  segments-are : segments_of opened-as.1 ≡ segments_of (client_at session stage number).1
  segments-are =
      ap (λ (own : Option PlaybackStream). (client_at session stage number).1.ended ++ present_of own)
      (sym (own-is session stage phase number cs d before.at inside is ∙ none-own d closed))

  as-often : IsAsOften session (free_seats (lobby_of (places_of ds))) (slice_set (clients_of cs) number e) (slice_set stage.clients number opened-as)
  as-often =
      IsAsOften-exchanged session (free_seats (lobby_of (places_of cs))) (free_seats (lobby_of (places_of ds))) (clients_of cs) number d e stage.clients (no_client session.ring) opened-as
      inside segments-are moves before.at.are.reported.as_often

  -- what its seat placed before is what the segments say that were made through it
  reported-opened : IsReported session (laid_lists (free_seats (lobby_of (places_of ds)))) (slice_set (clients_of cs) number e) (slice_set stage.clients number opened-as)
  reported-opened =
      IsReported-opened session (free_seats (lobby_of (places_of ds))) seat (free_seats (lobby_of (places_of cs))) laid (clients_of cs) number e own-open.0 stage.clients opened-as
      before.at.are.reported own-open.1 own-open.2.seat_is (ap stretch_of own-open.2.stream)
      (IsPlacedFor-at session before.at.are.reported.history (clients_of cs) stage.clients number d (no_client session.ring) before.at.are.reported.clients inside is None closed) as-often

  held-opened : AreHeld (share_of (places_of cs)) opened-held opened-holdings
  held-opened =
      let held_none = before.at.are.are_held.none number (was.is.holds ∙ ap (holding_by was.is.last) closed) in
      subst (λ (sharing : Share). AreHeld sharing opened-held opened-holdings) (sym before.at.are.card.share)
      (AreHeld-opened session.card.share number own-holding stage.position (held_of stage) before.at.are.holdings opened-holdings
      (subst (λ (sharing : Share). AreHeld sharing (held_of stage) before.at.are.holdings) before.at.are.card.share before.at.are.are_held) at.answer
      (ChangesAt-with_holding number (Some own-holding) before.at.are.holdings) (at.place held_none))

  all-opened : AreAt session opened-held (slice_set stage.clients number opened-as) ds
  all-opened =
      AreIn-exchanged IsClientAt IsClientAt-holding session (held_of stage) opened-held stage.clients cs ds number e opened-as (Some own-holding) before.at.are same inside clients
      at.held_then held-opened own-client reported-opened

  pub AreAfter-opened : AreAfter session stage (after_open session stage (actor.Client number)) (row_by phase (number_of e) op.Opens (client_in e).own Done) ds
  AreAfter-opened =
      let row_is : row_by stage.phases number op.Opens (Some (opened_client session.ring number setup)) Done ≡ row_by phase (number_of e) op.Opens (client_in e).own Done =
      λ i. row_by ((sym before.at.phase_is) i) ((sym (opened.number ∙ was.is.numbered)) i) op.Opens ((sym client-is) i).own Done in
      let after = after_open-closed session stage phase number cs d before.at inside is closed (Some setup) before.setup_is
      ∙ open_client_with-done session stage number setup (client_at session stage number) at.answer in
      rw after (record { are = all-opened; rows = ap (λ row. stage.rows ++ row ∷ []) row_is })
