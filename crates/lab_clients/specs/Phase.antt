-- A phase of the clients of the lab is one that a run allows to its clients: they met the card, did their lines, met it again, and gave their rows to the lab.
use Rattle.std.specs.Prelude.{◌≡◌, ℕ, ◌+◌, ◌<◌, ◌≤◌, ◌+ℤ◌, ℤ, Bool, List, [], ◌∷◌, ◌++◌, length, map, Option, None, slice_index_or}
use Rattle.std.specs.List.{flat_map}
use Rattle.std.proofs.Common.{refl, sym, ◌∙◌, ap, subst, arith}
use Rattle.std.proofs.lemmas.Int.{ints}
use Rattle.mix_core.specs.declared.gate.Gate as gate
use Rattle.mix_core.specs.declared.port.Entry.{Entry}
use Rattle.sum_table.specs.declared.view.Key.{Key}
use Rattle.sum_table.specs.Seats.{TableId}
use Rattle.lobby.specs.Lobbies.{free_seats}
use Rattle.wav_io.specs.Sound.{Sound}
use Rattle.card_sim.specs.declared.card.Card.{Card}
use Rattle.lab_lines.specs.declared.line.Line.{Line}
use Rattle.lab_lines.specs.declared.line.Op.{Op}
use Rattle.lab_lines.specs.declared.row.Row.{Row}
use Rattle.lab_run.specs.ActorPart.{PartsAreRuns}
use Rattle.lab_run.specs.Client.{Client, client_kind}
use Rattle.lab_run.specs.Items.{Held, client_kinds, held_after, reaped_client, reaped_client_if, reaped_one, rules_of}
use Rattle.lab_run.specs.Lines.{EachMay, Kind, LinesMay}
use Rattle.lab_run.specs.Phases.{is_client, ops_by}
use Rattle.lab_run.specs.Rules.{AtPort, Rules}
use Rattle.lab_run.specs.Stage.{Session, Stage}
use Rattle.lab_places.specs.declared.places.Places.{Places}
use Rattle.lab_places.specs.Held.{key_of_places, lobby_of, ring_of_places}
use Rattle.lab_places.specs.Holdings.{Holdings}
use Rattle.lab_places.specs.Laid.{laid_lists}
use Rattle.lab_card.specs.declared.card.CardActor.{CardActor}
use Rattle.lab_card.specs.Findings.{CardPhase, rules_between}
use Rattle.lab_card.specs.MeetLaws.{CardPhase-between, rules_between-same}
use Rattle.lab_card.specs.Meets.{IsSameCard}
use Rattle.lab_card.specs.Stages.{CardPhase-rules, IsCardAt}
use Rattle.lab_actors.specs.Gates.{AreCounted, HasAskedMore, HaveAskedMore, stops_at}
use Rattle.lab_actors.specs.Rows.{EachMay-rows, lines_from}
use Rattle.lab_actors.specs.Walks.{AreEach, AreEach-joined, AreEach-length, AreJoined}
use Rattle.lab_clients.specs.declared.client.LabClient.{LabClient}
use Rattle.lab_clients.specs.OnePhase.{ClientRun, LastsAreOwn, client-phase}
use Rattle.lab_clients.specs.OneClient.{IsAt, IsCardOfRing, client_in, ended_of, number_of, open_of, rows_of}
use Rattle.lab_clients.specs.declared.clients.LabClients.{LabClients}
use Rattle.lab_clients.specs.AtStage.{AreAt, AreDone, IsClientAt, IsClientIn, clients_of, places_of}
use Rattle.lab_clients.specs.Kept.{AreEach-rows, IsClientIn-same, IsPlacedFor-same, IsReported-same, IsSameOpened-heard, IsSameOpened-informed, IsSameOpened-joined, IsSameOpened-run, IsSetUp-same, holding_by-same, laid_for-same}
use Rattle.lab_clients.specs.Placed.{IsClientPlaced, IsReported, SeatSegment, laid_for, open_lists, worth_all, worth_left}
use Rattle.lab_clients.specs.Reported.{AllLayAlike, IsPlacedFor-phase, given_by, given_by-append, own_segments, segments_from, worth_left-phase}
use Rattle.lab_clients.specs.Same.{with_places}
use Rattle.lab_clients.specs.Steps.{HasGivenRows, HasTakenRoom, IsHeardBy, IsInformedBy, RunsAt, sound_at}

-- ---- the card in a phase

-- what a phase of clients rests on (lab_run: `last_frames_are_own`, `parts_are_runs`, `members_are_unreported`)
pub record PhaseLaws : Type 0 where
  pub lasts : LastsAreOwn
  pub parts : (phase : ℕ) (wav : Sound) (number : ℕ) (rules : Rules)
      → PartsAreRuns (client_kind phase wav number) rules
  pub alike : AllLayAlike

-- The card in a phase of a stage: it is that of the stage and of the clients' ring, it did its lines, and no line unplugged it.
pub record CardInPhase (session : Session) (stage : Stage) (lines : List Line)
    (ring : TableId) (key : Key) (c d : Card) : Type 0 where
  pub capture : Option Sound
  pub before : CardActor
  pub after : CardActor
  pub phase : CardPhase capture (stage.phases + 1) c before after d lines
  pub at : IsCardAt session stage c
  pub of_ring : IsCardOfRing ring key c

-- ---- one client

-- a client took room for its lines, met a note of the card, did its lines with its gate, and gave a note to the card
abbrev pub GoesThrough : {T : Type 0} → gate.Ghosts T → List T → List T → List Sound
    → ℕ → List Line → Card → Card → ℕ → LabClient → LabClient → Type 0
GoesThrough G gates after sounds phase lines c d =
    AreJoined (AreJoined (AreJoined (HasTakenRoom lines) (IsInformedBy c))
    (RunsAt G gates after sounds phase lines)) (IsHeardBy d)

-- A client did in a phase what a run allows to the client of its number, and is that client then: with a gate that had stopped it so often
-- since the lab began, and that it asked. What its seat placed is what its segments grew by.
pub record ClientGoes (session : Session) (stage : Stage) (lines : List Line)
    (ring : TableId) (key : Key) (holdings : Holdings) (base after : ℕ → ℕ)
    (Asked : ℕ → AtPort × Client → AtPort × Client → Type 0) (number : ℕ)
    (d : LabClient) (x : AtPort × Client) (e : LabClient) : Type 0 where
  pub next : AtPort × Client
  pub may : LinesMay (client_kinds session stage number) (rules_of session stage lines)
      x (ops_by (is_client number) lines) next (rows_of e)
  pub is : IsClientIn session ring key holdings number e next
  pub counts : next.0.by_gate + base number ≡ after number
  pub asked : Asked number x next
  pub placed : (history : List SeatSegment) → IsClientPlaced session history number d x
      → IsClientPlaced session history number e next
  pub worth : (worth : Entry → ℤ)
      → worth_left worth (laid_for (open_of e)) +ℤ given_by worth session (own_segments number x.1)
      ≡ worth_left worth (laid_for (open_of d))
      +ℤ given_by worth session (own_segments number next.1)

module _ (session : Session) (stage : Stage) (lines : List Line) (ring : TableId) (key : Key) (holdings : Holdings) (base : ℕ → ℕ) (laws : PhaseLaws) {T : Type 0} (G : gate.Ghosts T)
    (gates after : List T) (c d : Card) (card : CardInPhase session stage lines ring key c d) where
  abbrev phase_of : ℕ
  phase_of = stage.phases + 1

  -- what a phase allows, from one of the meets before it
  rules-met : (e : Card) → IsSameCard c e → rules_between e card.after.card lines ≡ rules_of session stage lines
  rules-met e same =
      rules_between-same c e card.after.card lines same
      ∙ CardPhase-rules session stage card.capture phase_of c card.before card.after d lines card.phase card.at

  -- what a client that has room for its lines found in a phase is what the phase allows
  run-of : (number : ℕ) (w x y z : LabClient) (at : AtPort) (last : Option ℕ) (informed : IsInformedBy c number w x) → (run : RunsAt G gates after session.sounds phase_of lines number x y)
      → IsHeardBy d number y z → IsAt ring key (sound_at session.sounds number) last w at → at.by_gate + base number ≡ stops_at G.stops gates number
      → ClientRun phase_of (sound_at session.sounds number) (rules_between informed.card card.after.card lines) lines ring key last (base number) (stops_at G.stops after number) run.asks
      at w z
  run-of number w x y z at last informed run heard is counts =
      client-phase informed.card card.before card.after heard.card lines
      (CardPhase-between card.capture phase_of c card.before card.after d informed.card heard.card lines informed.same heard.same card.phase) ring key
      (record { of_ring = informed.same.player.ring ∙ card.of_ring.of_ring; of_key = informed.same.player.key ∙ card.of_ring.of_key })
      (sound_at session.sounds number) last (base number) (stops_at G.stops gates number) (stops_at G.stops after number) run.asks laws.lasts
      (λ n. laws.parts phase_of (sound_at session.sounds number) n (rules_between informed.card card.after.card lines)) w x y z at is counts informed.informed run.then heard.heard

  pub client-goes : (number : ℕ) (v z : LabClient) (before : AtPort × Client) → number < length session.sounds → IsClientAt session ring key holdings number v before
      → before.0.by_gate + base number ≡ stops_at G.stops gates number → GoesThrough G gates after session.sounds phase_of lines c d number v z
      → ClientGoes session stage lines ring key holdings base (stops_at G.stops after) (HasAskedMore G.asked gates after) number v before z
  client-goes number v z before file was counts goes =
      let w : LabClient = goes.first.first.between in
      let x : LabClient = goes.first.between in
      let y : LabClient = goes.between in
      let room : HasTakenRoom lines number v w = goes.first.first.first in
      let informed : IsInformedBy c number w x = goes.first.first.then in
      let lines_run : RunsAt G gates after session.sounds phase_of lines number x y = goes.first.then in
      let heard : IsHeardBy d number y z = goes.then in
      let is : IsClientIn session ring key holdings number w before = IsClientIn-same session ring key holdings number v w before room.same was.is in
      let run = run-of number w x y z before.0 is.last informed lines_run heard is.at counts in
      let opened = IsSameOpened-joined (open_of w) (open_of x) (open_of z) (IsSameOpened-informed informed.card w x informed.informed)
      (IsSameOpened-joined (open_of x) (open_of y) (open_of z)
      (IsSameOpened-run (stops_at G.stops gates number) (stops_at G.stops after number) lines_run.asks phase_of (sound_at session.sounds number) lines x y lines_run.then)
      (IsSameOpened-heard heard.card y z heard.heard)) in
      let numbered : number_of z ≡ number = heard.heard.rest.number ∙ (lines_run.then.rest.number ∙ (informed.informed.rest.number ∙ is.numbered)) in
      let setup = IsSetUp-same (slice_index_or session.clients number None) ring key (sound_at session.sounds number) is.last (number_of w) (number_of z) before.0 run.at
      (open_of w) (open_of z) opened is.at run.is is.setup in
      let rows_are : run.rows ≡ rows_of z = sym (run.rows_are ∙ ap (λ (rows : List Row). rows ++ run.rows) (room.rows ∙ was.rows)) in
      let wav : Sound = sound_at session.sounds number in
      let next : AtPort × Client = (run.at, client_in z) in
      let on_rules = subst (λ (rules : Rules). LinesMay (client_kind phase_of wav (number_of w)) rules (before.0, client_in w) (ops_by (is_client (number_of w)) lines) next run.rows)
      (rules-met informed.card informed.same) run.may in
      let of_number = subst (λ (n : ℕ). LinesMay (client_kind phase_of wav n) (rules_of session stage lines) (before.0, client_in w) (ops_by (is_client n) lines) next run.rows)
      is.numbered on_rules in
      let of_client = subst (λ (client : Client). LinesMay (client_kind phase_of wav number) (rules_of session stage lines) (before.0, client) (ops_by (is_client number) lines) next run.rows)
      is.client of_number in
      record {
        next = next;
        may = subst (λ (rows : List Row). LinesMay (client_kind phase_of wav number) (rules_of session stage lines) before (ops_by (is_client number) lines) next rows) rows_are of_client;
        is = record {
          numbered = numbered;
          client = refl;
          last = is.last;
          at = run.is;
          holds = is.holds ∙ sym (holding_by-same is.last (open_of w) (open_of z) opened);
          setup = setup;
        };
        counts = run.gate;
        asked = record { asks = lines_run.asks; asked_it = lines_run.asked; more = run.gate_asks };
        placed = λ history placed.
            IsPlacedFor-phase session number laws.alike file ring key is.last (number_of w) before.0 history before.1 (client_in z) run.ended (open_of w) (open_of z) is.at is.setup setup opened
            (run.ended_are ∙ ap (λ (client : Client). client.ended ++ run.ended) is.client) run.laid (IsPlacedFor-same session history number before.1 v w room.same placed);
        worth = λ worth.
            subst (λ (own : Option (List Entry)). worth_left worth (laid_for (open_of z)) +ℤ given_by worth session (own_segments number before.1)
            ≡ worth_left worth own +ℤ given_by worth session (own_segments number (client_in z))) (laid_for-same v w room.same)
            (subst (λ (client : Client). worth_left worth (laid_for (open_of z)) +ℤ given_by worth session (own_segments number client)
            ≡ worth_left worth (laid_for (open_of w)) +ℤ given_by worth session (own_segments number (client_in z))) is.client
            (worth_left-phase session number laws.alike file ring key is.last (number_of w) before.0 (ended_of w) (ended_of z) run.ended (open_of w) (open_of z) is.at is.setup setup run.ended_are
            run.laid worth));
      }

-- ---- all clients

-- all clients did what a run allows, the first of which has a number
pub record ClientsGo (session : Session) (stage : Stage) (lines : List Line)
    (ring : TableId) (key : Key) (holdings : Holdings) (base after : ℕ → ℕ)
    (Asked : ℕ → AtPort × Client → AtPort × Client → Type 0) (number : ℕ)
    (ds : List LabClient) (xs : List (AtPort × Client)) (es : List LabClient) : Type 0 where
  pub next : List (AtPort × Client)
  pub may : EachMay (client_kinds session stage) (rules_of session stage lines)
      (λ n. ops_by (is_client n) lines) number xs next (flat_map rows_of es)
  pub are : AreEach (IsClientIn session ring key holdings) number es next
  pub counted : AreCounted base after number next
  pub asked : AreEach Asked number xs next
  pub placed : (history : List SeatSegment) → AreEach (IsClientPlaced session history) number ds xs
      → AreEach (IsClientPlaced session history) number es next
  pub worth : (worth : Entry → ℤ)
      → worth_all worth (open_lists es) +ℤ given_by worth session (segments_from number xs)
      ≡ worth_all worth (open_lists ds) +ℤ given_by worth session (segments_from number next)

module _ (session : Session) (stage : Stage) (lines : List Line) (ring : TableId) (key : Key) (holdings : Holdings) (base : ℕ → ℕ) (laws : PhaseLaws) {T : Type 0} (G : gate.Ghosts T)
    (gates after : List T) (c d : Card) (card : CardInPhase session stage lines ring key c d) where
  pub clients-go : (number : ℕ) (ds es : List LabClient) (xs : List (AtPort × Client)) → number + length xs ≤ length session.sounds
      → AreEach (IsClientAt session ring key holdings) number ds xs → AreCounted base (stops_at G.stops gates) number xs
      → AreEach (GoesThrough G gates after session.sounds (stage.phases + 1) lines c d) number ds es
      → ClientsGo session stage lines ring key holdings base (stops_at G.stops after) (HasAskedMore G.asked gates after) number ds xs es
  clients-go number [] [] [] files are counted go = record {
    next = [];
    may = (refl, refl);
    are = tt;
    counted = tt;
    asked = tt;
    placed = λ history placed. tt;
    worth = λ worth. refl;
  }
  clients-go number (v ∷ ds) (z ∷ es) (before ∷ xs) files are counted go =
      let own : ClientGoes session stage lines ring key holdings base (stops_at G.stops after) (HasAskedMore G.asked gates after) number v before z =
      client-goes session stage lines ring key holdings base laws G gates after c d card number v z before (omega (arith, files)) are.0 counted.0 go.0 in
      let others : ClientsGo session stage lines ring key holdings base (stops_at G.stops after) (HasAskedMore G.asked gates after) (number + 1) ds xs es =
      clients-go (number + 1) ds es xs (omega (arith, files)) are.1 counted.1 go.1 in
      record {
        next = own.next ∷ others.next;
        may = (own.next, others.next, rows_of z, flat_map rows_of es, own.may, others.may, refl, refl);
        are = (own.is, others.are);
        counted = (own.counts, others.counted);
        asked = (own.asked, others.asked);
        placed = λ history placed. (own.placed history placed.0, others.placed history placed.1);
        worth = λ worth.
            let first = own.worth worth in
            let more = others.worth worth in
            let was = given_by-append worth session (own_segments number before.1) (segments_from (number + 1) xs) in
            let then_is = given_by-append worth session (own_segments number own.next.1) (segments_from (number + 1) others.next) in
            omega (arith, ints, first, more, was, then_is);
      }
  clients-go number [] (z ∷ es) xs files are counted go = absurd go
  clients-go number (v ∷ ds) [] xs files are counted go = absurd go
  clients-go number [] [] (before ∷ xs) files are counted go = absurd are
  clients-go number (v ∷ ds) (z ∷ es) [] files are counted go = absurd are

-- ---- the clients of the lab

-- The steps of a phase, one after the other: all clients took room for their lines, met notes of the card, did their lines each with its
-- gate, and gave notes to the card.
pub record ClientSteps {T : Type 0} (G : gate.Ghosts T) (gates after : List T)
    (sounds : List Sound) (phase : ℕ) (lines : List Line) (c d : Card)
    (before heard : LabClients) : Type 0 where
  pub roomy : LabClients
  pub informed : LabClients
  pub run : LabClients
  pub take_room : AreEach (HasTakenRoom lines) 0 (clients_of before) (clients_of roomy)
  pub inform : AreEach (IsInformedBy c) 0 (clients_of roomy) (clients_of informed)
  pub run_lines : AreEach (RunsAt G gates after sounds phase lines) 0
      (clients_of informed) (clients_of run)
  pub hear : AreEach (IsHeardBy d) 0 (clients_of run) (clients_of heard)

-- A phase of the clients of the lab: the clients of a run may do their lines so, with these rows; they are those of the lab then, whose gates had
-- stopped them so often since the lab began, and which asked these gates.
pub record ClientsPhase (session : Session) (stage : Stage) (lines : List Line)
    (held : Held) (base after : ℕ → ℕ)
    (Asked : List (AtPort × Client) → List (AtPort × Client) → Type 0)
    (xs : List (AtPort × Client)) (rows : List Row) (done : LabClients) : Type 0 where
  pub next : List (AtPort × Client)
  pub may : EachMay (client_kinds session stage) (rules_of session stage lines)
      (λ n. ops_by (is_client n) lines) 0 xs next rows
  pub are : AreDone session held next done
  pub counted : AreCounted base after 0 next
  pub asked : Asked xs next

-- what the steps of all clients make one after the other
steps-through : {T : Type 0} (G : gate.Ghosts T) (gates after : List T) (sounds : List Sound) (phase : ℕ) (lines : List Line) (c d : Card) (before heard : LabClients)
    → ClientSteps G gates after sounds phase lines c d before heard
    → AreEach (GoesThrough G gates after sounds phase lines c d) 0 (clients_of before) (clients_of heard)
steps-through G gates after sounds phase lines c d before heard steps =
    AreEach-joined (AreJoined (AreJoined (HasTakenRoom lines) (IsInformedBy c)) (RunsAt G gates after sounds phase lines)) (IsHeardBy d) 0
    (clients_of before) (clients_of steps.run) (clients_of heard)
    (AreEach-joined (AreJoined (HasTakenRoom lines) (IsInformedBy c)) (RunsAt G gates after sounds phase lines) 0 (clients_of before) (clients_of steps.informed)
    (clients_of steps.run)
    (AreEach-joined (HasTakenRoom lines) (IsInformedBy c) 0 (clients_of before) (clients_of steps.roomy) (clients_of steps.informed) steps.take_room steps.inform)
    steps.run_lines)
    steps.hear

module _ (session : Session) (stage : Stage) (lines : List Line) (held : Held) (xs : List (AtPort × Client)) (base : ℕ → ℕ) (laws : PhaseLaws) {T : Type 0} (G : gate.Ghosts T)
    (gates after : List T) (c d : Card) (before heard : LabClients) (files : length session.sounds ≡ length xs) (are : AreAt session held xs before)
    (card : CardInPhase session stage lines (ring_of_places (places_of before)) (key_of_places (places_of before)) c d) (counted : AreCounted base (stops_at G.stops gates) 0 xs)
    (steps : ClientSteps G gates after session.sounds (stage.phases + 1) lines c d before heard) where
  through : AreEach (GoesThrough G gates after session.sounds (stage.phases + 1) lines c d) 0 (clients_of before) (clients_of heard)
  through = steps-through G gates after session.sounds (stage.phases + 1) lines c d before heard steps

  go : ClientsGo session stage lines (ring_of_places (places_of before)) (key_of_places (places_of before)) are.holdings base (stops_at G.stops after)
      (HasAskedMore G.asked gates after) 0 (clients_of before) xs (clients_of heard)
  go =
      clients-go session stage lines (ring_of_places (places_of before)) (key_of_places (places_of before)) are.holdings base laws G gates after c d card 0 (clients_of before)
      (clients_of heard) xs (omega (arith, files)) are.each counted through

  -- The clients have a row for each of their lines then.
  pub length-client_rows : length (flat_map rows_of (clients_of heard)) ≡ lines_from (λ n. ops_by (is_client n) lines) 0 (length xs)
  length-client_rows =
      EachMay-rows (client_kinds session stage) (rules_of session stage lines) (λ n. ops_by (is_client n) lines) 0 xs go.next (flat_map rows_of (clients_of heard)) go.may

  reported-heard : IsReported session (laid_lists (free_seats (lobby_of (places_of before)))) (clients_of heard) go.next
  reported-heard = record {
    history = are.reported.history;
    free = are.reported.free;
    clients = go.placed are.reported.history are.reported.clients;
    as_often = λ worth.
        let was = are.reported.as_often worth in
        let more = go.worth worth in
        omega (arith, ints, was, more);
  }

  -- Once their rows are the lab's, what the steps make of the clients of the lab is what the phase allows to those of a run.
  pub clients-phase : (done : LabClients) → AreEach HasGivenRows 0 (clients_of heard) (clients_of done) → places_of done ≡ places_of before
      → ClientsPhase session stage lines held base (stops_at G.stops after) (HaveAskedMore G.asked gates after) xs (flat_map rows_of (clients_of heard)) done
  clients-phase done take_rows same_places =
      let ring : TableId = ring_of_places (places_of before) in
      let key : Key = key_of_places (places_of before) in
      let len : length (clients_of done) ≡ length (clients_of before) =
      AreEach-length HasGivenRows 0 (clients_of heard) (clients_of done) take_rows
      ∙ AreEach-length (GoesThrough G gates after session.sounds (stage.phases + 1) lines c d) 0 (clients_of before) (clients_of heard) through in
      let at_same : AreDone session held go.next (with_places done (places_of before)) = record {
        card = are.card;
        holdings = are.holdings;
        held_by = are.held_by;
        are_held = are.are_held;
        no_others = λ n past. are.no_others n (omega (arith, len, past));
        each = AreEach-rows session ring key are.holdings 0 (clients_of heard) (clients_of done) go.next take_rows go.are;
        reported = IsReported-same HasGivenRows (λ n d e taken. taken.same) session (laid_lists (free_seats (lobby_of (places_of before)))) (clients_of heard) (clients_of done) go.next
            take_rows reported-heard;
      } in
      record {
        next = go.next;
        may = go.may;
        are = subst (λ (p : Places). AreDone session held go.next (with_places done p)) (sym same_places) at_same;
        counted = go.counted;
        asked = go.asked;
      }

-- ---- a phase without a line of a client

-- actors without a line stay as they are
EachMay-still : {S : Type 0} (kind : ℕ → Kind S) (rules : Rules) (ops : ℕ → List Op) (number : ℕ) (xs : List (AtPort × S))
    → ((n : ℕ) → number ≤ n → n < number + length xs → ops n ≡ []) → EachMay kind rules ops number xs xs []
EachMay-still kind rules ops number [] none = (refl, refl)
EachMay-still kind rules ops number (x ∷ xs) none =
    let own : LinesMay (kind number) rules x (ops number) x [] =
    subst (λ (asked : List Op). LinesMay (kind number) rules x asked x []) (sym (none number (omega arith) (omega arith))) (refl, refl) in
    (x, xs, [], [], own, EachMay-still kind rules ops (number + 1) xs (λ n low high. none n (omega (arith, low)) (omega (arith, high))), refl, refl)

module _ (session : Session) (ring : TableId) (key : Key) (holdings : Holdings) where
  -- between two phases no client is stopped, so none is reaped
  reaped_client-still : (number : ℕ) (ds : List LabClient) (xs : List (AtPort × Client)) → AreEach (IsClientAt session ring key holdings) number ds xs
      → map (reaped_client session.ring) xs ≡ xs
  reaped_client-still number [] [] are = refl
  reaped_client-still number (d ∷ ds) (x ∷ xs) are =
      ap (λ (stopped : Bool). reaped_client_if stopped session.ring x ∷ map (reaped_client session.ring) xs) are.0.goes
      ∙ ap (λ (others : List (AtPort × Client)). x ∷ others) (reaped_client-still (number + 1) ds xs are.1)
  reaped_client-still number [] (x ∷ xs) are = absurd are
  reaped_client-still number (d ∷ ds) [] are = absurd are

  held_after-still : (number : ℕ) (ds : List LabClient) (xs : List (AtPort × Client)) (held : Held) → AreEach (IsClientAt session ring key holdings) number ds xs
      → held_after session number xs held ≡ held
  held_after-still number [] [] held are = refl
  held_after-still number (d ∷ ds) (x ∷ xs) held are =
      ap (λ (stopped : Bool). held_after session (number + 1) xs (reaped_one session number x stopped held)) are.0.goes
      ∙ held_after-still (number + 1) ds xs held are.1
  held_after-still number [] (x ∷ xs) held are = absurd are
  held_after-still number (d ∷ ds) [] held are = absurd are

-- A phase in which no client has a line leaves all of them, and none of them is reaped after it.
pub record ClientsRest (session : Session) (stage : Stage) (lines : List Line)
    (held : Held) (xs : List (AtPort × Client)) : Type 0 where
  pub may : EachMay (client_kinds session stage) (rules_of session stage lines)
      (λ n. ops_by (is_client n) lines) 0 xs xs []
  pub same_clients : map (reaped_client session.ring) xs ≡ xs
  pub same_held : held_after session 0 xs held ≡ held

pub clients-still : (session : Session) (stage : Stage) (lines : List Line) (held : Held) (xs : List (AtPort × Client)) (cs : LabClients) → AreAt session held xs cs
    → ((n : ℕ) → n < length xs → ops_by (is_client n) lines ≡ []) → ClientsRest session stage lines held xs
clients-still session stage lines held xs cs are none = record {
  may = EachMay-still (client_kinds session stage) (rules_of session stage lines) (λ n. ops_by (is_client n) lines) 0 xs (λ n low high. none n (omega (arith, high)));
  same_clients = reaped_client-still session (ring_of_places (places_of cs)) (key_of_places (places_of cs)) are.holdings 0 (clients_of cs) xs are.each;
  same_held = held_after-still session (ring_of_places (places_of cs)) (key_of_places (places_of cs)) are.holdings 0 (clients_of cs) xs held are.each;
}
