-- The actors of a stage can meet the card and do the lines of the next phase, once they took the room of the lines.
use Rattle.lab_phase.specs.Prelude.{ap, arith, refl, subst, sym, ◌+◌, ◌∙◌, ◌≡◌, nat_tests, All, length, List, Option, Some, suc, ℕ, [], ◌*◌, ◌∷◌, ◌≤◌, Geometry}
use Rattle.lab_phase.specs.Prelude.{player_key, player_ring, Card, Sound, Item, Line, CardLine, ClientLine, Script, IsPhase, is_of_card, held_of}
use Rattle.lab_phase.specs.Prelude.{AreClientOpenings, AreReaderOpenings, ops_by, IsReached, PhasesAreOfScripts, Session, Setup, Stage, key_of_places}
use Rattle.lab_phase.specs.Prelude.{ring_of_places, CardActor, frame_of_card, geometry_of_card, seat_of_card, FitsRing, AreEach-length, LabClients, clients_of}
use Rattle.lab_phase.specs.Prelude.{IsClientAt, places_of, AreOfCard-ring, AreOfRing-at, AreOfRing-room, AreReady-at, AreOfCard, AreReady, LabReaders}
use Rattle.lab_phase.specs.Prelude.{IsReaderAt, readers_of, ring_of, spare_of, IsOfCard, IsOver, AreOf-at, AreOf-room, AreReady-informed, PhaseInput}
use Rattle.lab_phase.specs.Prelude.{AreActorsOf, AreAll-reached, CanMeet, HaveRoom, FitsRing-next, IsFew-lines, IsFewRead-lines, IsPhase-next}
use Rattle.snd_base.specs.Places.{end_frame}
use Rattle.lab_lines.specs.declared.script.ReaderLine.{ReaderLine}
use Rattle.lab_card.specs.CardLines.{frames_by}
use Rattle.lab_card.specs.PositionLaws.{frames_by-ops_by}
use Rattle.lab_card.specs.Stages.{IsCardAt}
use Rattle.lab_lines.specs.declared.line.Item.TheVariants as item
use Rattle.lab_clients.specs.Steps as clients
use Rattle.lab_readers.specs.Steps as readers

-- a phase of a script asks this of the actors of a stage: there is a file for each client, and a gate for each actor
pub record IsAskedAt (session : Session) (stage : Stage) (gates client_count reader_count : ℕ) (asked : PhaseInput) : Type 0 where
  pub sounds : asked.wavs.now ≡ session.sounds
  pub files : length session.sounds ≡ length stage.clients
  pub few_clients : length stage.clients ≤ 64
  pub few_readers : 64 + length stage.readers ≤ gates
  pub phase : IsPhase client_count reader_count asked.lines.now

module _ (session : Session) (capture : Option Sound) (stage : Stage) (gates client_count reader_count : ℕ) (asked : PhaseInput) (a0 a : CardActor) (cs0 cs : LabClients) (rs0 rs : LabReaders)
    (is : IsAskedAt session stage gates client_count reader_count asked) (fits : FitsRing a0 (ops_by is_of_card asked.lines.now))
    (are : AreActorsOf session capture stage (Some a0) cs0 rs0) (room : HaveRoom asked.lines.now a0 a cs0 cs rs0 rs) where
  fits-after : FitsRing a (ops_by is_of_card asked.lines.now)
  fits-after = subst (λ (c : Card). frame_of_card c + frames_by (ops_by is_of_card asked.lines.now) ≤ end_frame (geometry_of_card c)) (sym room.card) fits

  clients-of_card : AreOfCard a.card (clients_of cs)
  clients-of_card =
      let ring = ring_of_places (places_of cs0) in
      let key = key_of_places (places_of cs0) in
      AreOfCard-ring ring key a.card (clients_of cs)
      (record {
        of_ring = ap (λ (c : Card). player_ring (seat_of_card c)) room.card ∙ sym are.card_is.rings.sum_ring;
        of_key = ap (λ (c : Card). player_key (seat_of_card c)) room.card ∙ sym are.card_is.rings.sum_key;
      })
      (AreOfRing-room ring key asked.lines.now (clients_of cs0) (clients_of cs) room.clients (AreOfRing-at session (held_of stage) stage.clients cs0 are.clients_are))

  over : IsOver (ring_of rs0) session.ring a.card
  over = grind (arith, nat_tests)

  readers-of_card : All (IsOfCard a.card) (readers_of rs)
  readers-of_card = AreOf-room a.card asked.lines.now rs0 rs room.readers (AreOf-at session capture stage.readers rs0 a.card are.readers_are over)

  client-count : length (clients_of cs) ≡ length stage.clients
  client-count =
      let taken = AreEach-length (clients.HasTakenRoom asked.lines.now) 0 (clients_of cs0) (clients_of cs) room.clients in
      let at = AreEach-length (IsClientAt session (ring_of_places (places_of cs0)) (key_of_places (places_of cs0)) are.clients_are.holdings) 0 (clients_of cs0) stage.clients are.clients_are.each in
      omega (arith, taken, at)

  reader-count : length (readers_of rs) ≡ length stage.readers
  reader-count =
      let taken = AreEach-length (readers.HasTakenRoom asked.lines.now) 0 (readers_of rs0) (readers_of rs) room.readers.each in
      let at = AreEach-length (IsReaderAt session capture (spare_of rs0) session.ring) 0 (readers_of rs0) stage.readers are.readers_are.each in
      omega (arith, taken, at)

  pub CanMeet-at : CanMeet gates asked a cs rs
  CanMeet-at =
      let own = client-count in
      let others = reader-count in
      let few_clients = is.few_clients in
      let few_readers = is.few_readers in
      record {
        card = record { fits = fits-after; room = room.room };
        clients_of_card = clients-of_card;
        readers_of_card = readers-of_card;
        few_clients = omega (arith, own, few_clients);
        few_readers = omega (arith, others, few_readers);
        files = ap length is.sounds ∙ (is.files ∙ sym own);
        writes = IsFew-lines client_count reader_count asked.lines.now is.phase;
        reads = IsFewRead-lines client_count reader_count asked.lines.now is.phase;
        clients_ready = λ c ds informed. subst (λ (sounds : List Sound). AreReady sounds asked.lines.now (clients_of ds)) (sym is.sounds)
            (AreReady-at session (held_of stage) stage.clients cs0 asked.lines.now c (clients_of cs) (clients_of ds) are.clients_are room.clients informed);
        readers_ready = λ c ss informed. AreReady-informed session capture stage.readers c asked.lines.now rs0 rs ss are.readers_are room.readers informed;
      }

-- ---- the next phase of a script, at a stage that a run of it has reached

-- a session has as many openings of clients, and of readers, as its script has lines of them, and as many files as clients
pub AreClientOpenings-length : (card : CardLine) (lines : List ClientLine) (wavs : List Sound) (setups : List (Option Setup)) → AreClientOpenings card lines wavs setups
    → (length setups ≡ length lines) × (length setups ≡ length wavs)
AreClientOpenings-length card [] [] [] are = (refl, refl)
AreClientOpenings-length card (line ∷ lines) (wav ∷ wavs) (setup ∷ setups) are =
    let more = AreClientOpenings-length card lines wavs setups are.1 in (ap suc more.0, ap suc more.1)
AreClientOpenings-length card lines wavs setups are = absurd are

pub AreReaderOpenings-length : (card : CardLine) (lines : List ReaderLine) (setups : List (Option Setup)) → AreReaderOpenings card lines setups → length setups ≡ length lines
AreReaderOpenings-length card [] [] are = refl
AreReaderOpenings-length card (line ∷ lines) (setup ∷ setups) are = ap suc (AreReaderOpenings-length card lines setups are.1)
AreReaderOpenings-length card lines setups are = absurd are

-- there is a file for each client
pub files-reached : (script : Script) (wavs : List Sound) (session : Session) (done others : List Item) (lines : List Line) (stage : Stage)
    → IsReached script wavs session done (item.Phase lines ∷ others) stage → length session.sounds ≡ length stage.clients
files-reached script wavs session done others lines stage is =
    let counts = AreAll-reached session stage done is.may in
    let own = AreClientOpenings-length script.card script.clients wavs session.clients is.session_is.clients in
    ap length is.session_is.sounds ∙ (sym own.1 ∙ sym counts.clients)

module _ (script : Script) (wavs : List Sound) (session : Session) (done others : List Item) (stage : Stage) (asked : PhaseInput)
    (is : IsReached script wavs session done (item.Phase asked.lines.now ∷ others) stage) where
  pub IsAskedAt-reached : (gates : ℕ) → asked.wavs.now ≡ wavs → 128 ≤ gates → IsAskedAt session stage gates (length script.clients) (length script.readers) asked
  IsAskedAt-reached gates same many =
      let counts = AreAll-reached session stage done is.may in
      let client_counts = counts.clients in
      let reader_counts = counts.readers in
      let own = AreClientOpenings-length script.card script.clients wavs session.clients is.session_is.clients in
      let client_lines = own.0 in
      let of_readers = AreReaderOpenings-length script.card script.readers session.readers is.session_is.readers in
      let few = is.script_is.clients in
      let few_more = is.script_is.readers in
      record {
        sounds = same ∙ sym is.session_is.sounds;
        files = files-reached script wavs session done others asked.lines.now stage is;
        few_clients = omega (arith, client_counts, client_lines, few);
        few_readers = omega (arith, reader_counts, of_readers, few_more, many);
        phase = IsPhase-next script done others asked.lines.now is.script_is is.body;
      }

  pub FitsRing-reached : (a : CardActor) → PhasesAreOfScripts → IsCardAt session stage a.card → FitsRing a (ops_by is_of_card asked.lines.now)
  FitsRing-reached a laws at =
      let few = FitsRing-next script wavs session done others asked.lines.now stage laws is in
      let frames = frames_by-ops_by asked.lines.now in
      let frame = at.frame in
      let end : end_frame (geometry_of_card a.card) ≡ 4294967295 * session.ring.frames = ap (λ (g : Geometry). 4294967295 * g.frames) at.ring in
      omega (arith, few, frames, frame, end)
