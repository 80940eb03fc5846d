-- What an opening and a closing of a run leave as it is.
use Rattle.std.specs.Prelude.{◌≡◌, ℕ, zero, suc, ◌+◌, List, [], ◌∷◌, Option, Some, None, Result, Ok, Err, length, slice_index_or, slice_set}
use Rattle.std.proofs.Common.{refl, sym, ap, subst, ◌∙◌}
use Rattle.std.proofs.lemmas.List.{length-set}
use Rattle.snd_base.specs.declared.errors.PcmError.{PcmError}
use Rattle.dmix_client.specs.declared.stream.PlaybackStream.{PlaybackStream}
use Rattle.dsnoop_client.specs.declared.stream.CaptureStream as reading
use Rattle.lab_run.specs.Claims.{claim_refusal}
use Rattle.lab_run.specs.Client.{Client}
use Rattle.lab_run.specs.Items.{held_of}
use Rattle.lab_run.specs.Places.{Lobby, after_attach}
use Rattle.lab_run.specs.Reader.{Reader}
use Rattle.lab_run.specs.Rules.{AtPort}
use Rattle.lab_run.specs.Stage.{Session, Setup, Stage, attached_client, claimed_client, client_at, close_client, close_reader, open_client, open_client_with, open_reader, open_reader_with, reader_at}
use Rattle.lab_actors.specs.Gates.{AreCounted}
use Rattle.lab_actors.specs.Walks.{AreEach, AreEach-same}

-- the card is where it was: by an item that is no phase
pub record IsSameAtCard (stage after : Stage) : Type 0 where
  pub phases : after.phases ≡ stage.phases
  pub position : after.position ≡ stage.position
  pub gone : after.gone ≡ stage.gone

-- the actors' gates stopped them as often as before
abbrev pub KeepsStops : {S : Type 0} → List (AtPort × S) → List (AtPort × S) → Type 0
KeepsStops xs ys = (base stops : ℕ → ℕ) → AreCounted base stops 0 xs → AreCounted base stops 0 ys

KeepsStops-none : {S : Type 0} (xs : List (AtPort × S)) → KeepsStops xs xs
KeepsStops-none xs base stops counted = counted

-- one actor became another that its gate stopped as often
AreCounted-set : {S : Type 0} (base stops : ℕ → ℕ) (number : ℕ) (xs : List (AtPort × S)) (at : ℕ) (d x : AtPort × S) → x.0.by_gate ≡ (slice_index_or xs at d).0.by_gate
    → AreCounted base stops number xs → AreCounted base stops number (slice_set xs at x)
AreCounted-set base stops number [] at d x same counted = tt
AreCounted-set base stops number (y ∷ ys) zero d x same counted = (ap (λ (n : ℕ). n + base number) same ∙ counted.0, counted.1)
AreCounted-set base stops number (y ∷ ys) (suc at) d x same counted = (counted.0, AreCounted-set base stops (number + 1) ys at d x same counted.1)

-- an actor asked its own gate as often as before
abbrev pub HasSameAsks : {S : Type 0} → ℕ → AtPort × S → AtPort × S → Type 0
HasSameAsks number x y = y.0.at_gate ≡ x.0.at_gate

-- one actor became another that asked its gate as often
AreEach-set_asks : {S : Type 0} (number : ℕ) (xs : List (AtPort × S)) (at : ℕ) (d x : AtPort × S) → x.0.at_gate ≡ (slice_index_or xs at d).0.at_gate
    → AreEach HasSameAsks number xs (slice_set xs at x)
AreEach-set_asks number [] at d x same = tt
AreEach-set_asks number (y ∷ ys) zero d x same = (same, AreEach-same HasSameAsks (number + 1) ys (λ n z. refl))
AreEach-set_asks number (y ∷ ys) (suc at) d x same = (refl, AreEach-set_asks (number + 1) ys at d x same)

-- an opening or a closing of a client: the card and the readers are as they were, and there are as many clients
pub record KeepsReaders (stage after : Stage) : Type 0 where
  pub card : IsSameAtCard stage after
  pub readers : after.readers ≡ stage.readers
  pub count : length after.clients ≡ length stage.clients
  pub stops : KeepsStops stage.clients after.clients
  pub asks : AreEach HasSameAsks 0 stage.clients after.clients

-- one of a reader: the card, the clients and what they hold are as they were, and there are as many readers
pub record KeepsClients (stage after : Stage) : Type 0 where
  pub card : IsSameAtCard stage after
  pub clients : after.clients ≡ stage.clients
  pub held : held_of after ≡ held_of stage
  pub count : length after.readers ≡ length stage.readers
  pub stops : KeepsStops stage.readers after.readers
  pub asks : AreEach HasSameAsks 0 stage.readers after.readers

module _ (session : Session) (stage : Stage) (number : ℕ) where
  -- ---- of a client

  keeps-clients : (after : Stage) → IsSameAtCard stage after → after.readers ≡ stage.readers → after.clients ≡ stage.clients → KeepsReaders stage after
  keeps-clients after card readers clients = record {
    card = card;
    readers = readers;
    count = ap length clients;
    stops = λ base stops counted. subst (AreCounted base stops 0) (sym clients) counted;
    asks = subst (λ (xs : List (AtPort × Client)). AreEach HasSameAsks 0 stage.clients xs) (sym clients) (AreEach-same HasSameAsks 0 stage.clients (λ n x. refl));
  }

  keeps-set_client : (after : Stage) (client : AtPort × Client) → IsSameAtCard stage after → after.readers ≡ stage.readers → after.clients ≡ slice_set stage.clients number client
      → client.0.by_gate ≡ (client_at session stage number).0.by_gate → client.0.at_gate ≡ (client_at session stage number).0.at_gate
      → KeepsReaders stage after
  keeps-set_client after client card readers clients same same_asks = record {
    card = card;
    readers = readers;
    count = ap length clients ∙ length-set stage.clients number client;
    stops = λ base stops counted.
        subst (AreCounted base stops 0) (sym clients) (AreCounted-set base stops 0 stage.clients number _ client same counted);
    asks = subst (λ (xs : List (AtPort × Client)). AreEach HasSameAsks 0 stage.clients xs) (sym clients) (AreEach-set_asks 0 stage.clients number _ client same_asks);
  }

  attached_client-keeps : (setup : Setup) (client : AtPort × Client) (attach : Lobby × Result (Unit {0}) PcmError) → client.0.by_gate ≡ (client_at session stage number).0.by_gate
      → client.0.at_gate ≡ (client_at session stage number).0.at_gate → KeepsReaders stage (attached_client session stage number setup client attach)
  attached_client-keeps setup (a, client) (lobby, Ok done) same same_asks = keeps-set_client _ _ (record { phases = refl; position = refl; gone = refl }) refl refl same same_asks
  attached_client-keeps setup (a, client) (lobby, Err e) same same_asks = keeps-clients _ (record { phases = refl; position = refl; gone = refl }) refl refl

  claimed_client-keeps : (setup : Setup) (client : AtPort × Client) (refusal : Option PcmError) → client.0.by_gate ≡ (client_at session stage number).0.by_gate
      → client.0.at_gate ≡ (client_at session stage number).0.at_gate → KeepsReaders stage (claimed_client session stage number setup client refusal)
  claimed_client-keeps setup client (Some e) same same_asks = keeps-clients _ (record { phases = refl; position = refl; gone = refl }) refl refl
  claimed_client-keeps setup client None same same_asks = attached_client-keeps setup client (after_attach number stage.position stage.lobby) same same_asks

  open_client_with-keeps : (setup : Option Setup) (client : AtPort × Client) → client.0.by_gate ≡ (client_at session stage number).0.by_gate
      → client.0.at_gate ≡ (client_at session stage number).0.at_gate → KeepsReaders stage (open_client_with session stage number setup client)
  open_client_with-keeps None client same same_asks = keeps-clients _ (record { phases = refl; position = refl; gone = refl }) refl refl
  open_client_with-keeps (Some setup) client same same_asks =
      claimed_client-keeps setup client (claim_refusal session.card.share stage.claims setup.bindings stage.position) same same_asks

  open_client-keeps : (own : Option PlaybackStream) → KeepsReaders stage (open_client session stage number (client_at session stage number) own)
  open_client-keeps (Some c) = keeps-clients _ (record { phases = refl; position = refl; gone = refl }) refl refl
  open_client-keeps None = open_client_with-keeps (slice_index_or session.clients number None) (client_at session stage number) refl refl

  pub after_open-keeps_readers : KeepsReaders stage (open_client session stage number (client_at session stage number) (client_at session stage number).1.own)
  after_open-keeps_readers = open_client-keeps (client_at session stage number).1.own

  close_client-keeps : (own : Option PlaybackStream) → KeepsReaders stage (close_client session stage number (client_at session stage number) own)
  close_client-keeps None = keeps-clients _ (record { phases = refl; position = refl; gone = refl }) refl refl
  close_client-keeps (Some c) = keeps-set_client _ _ (record { phases = refl; position = refl; gone = refl }) refl refl refl refl

  pub after_close-keeps_readers : KeepsReaders stage (close_client session stage number (client_at session stage number) (client_at session stage number).1.own)
  after_close-keeps_readers = close_client-keeps (client_at session stage number).1.own

  -- ---- of a reader

  keeps-readers : (after : Stage) → IsSameAtCard stage after → after.clients ≡ stage.clients → held_of after ≡ held_of stage → after.readers ≡ stage.readers → KeepsClients stage after
  keeps-readers after card clients held readers = record {
    card = card;
    clients = clients;
    held = held;
    count = ap length readers;
    stops = λ base stops counted. subst (AreCounted base stops 0) (sym readers) counted;
    asks = subst (λ (xs : List (AtPort × Reader)). AreEach HasSameAsks 0 stage.readers xs) (sym readers) (AreEach-same HasSameAsks 0 stage.readers (λ n x. refl));
  }

  keeps-set_reader : (after : Stage) (reader : AtPort × Reader) → IsSameAtCard stage after → after.clients ≡ stage.clients → held_of after ≡ held_of stage
      → after.readers ≡ slice_set stage.readers number reader → reader.0.by_gate ≡ (reader_at session stage number).0.by_gate
      → reader.0.at_gate ≡ (reader_at session stage number).0.at_gate → KeepsClients stage after
  keeps-set_reader after reader card clients held readers same same_asks = record {
    card = card;
    clients = clients;
    held = held;
    count = ap length readers ∙ length-set stage.readers number reader;
    stops = λ base stops counted.
        subst (AreCounted base stops 0) (sym readers) (AreCounted-set base stops 0 stage.readers number _ reader same counted);
    asks = subst (λ (xs : List (AtPort × Reader)). AreEach HasSameAsks 0 stage.readers xs) (sym readers) (AreEach-set_asks 0 stage.readers number _ reader same_asks);
  }

  open_reader_with-keeps : (setup : Option Setup) (reader : AtPort × Reader) → reader.0.by_gate ≡ (reader_at session stage number).0.by_gate
      → reader.0.at_gate ≡ (reader_at session stage number).0.at_gate → KeepsClients stage (open_reader_with session stage number setup reader)
  open_reader_with-keeps None reader same same_asks = keeps-readers _ (record { phases = refl; position = refl; gone = refl }) refl refl refl
  open_reader_with-keeps (Some setup) (a, reader) same same_asks =
      keeps-set_reader _ _ (record { phases = refl; position = refl; gone = refl }) refl refl refl same same_asks

  open_reader-keeps : (own : Option reading.CaptureStream) → KeepsClients stage (open_reader session stage number (reader_at session stage number) own)
  open_reader-keeps (Some r) = keeps-readers _ (record { phases = refl; position = refl; gone = refl }) refl refl refl
  open_reader-keeps None = open_reader_with-keeps (slice_index_or session.readers number None) (reader_at session stage number) refl refl

  pub after_open-keeps_clients : KeepsClients stage (open_reader session stage number (reader_at session stage number) (reader_at session stage number).1.own)
  after_open-keeps_clients = open_reader-keeps (reader_at session stage number).1.own

  close_reader-keeps : (own : Option reading.CaptureStream) → KeepsClients stage (close_reader session stage number (reader_at session stage number) own)
  close_reader-keeps None = keeps-readers _ (record { phases = refl; position = refl; gone = refl }) refl refl refl
  close_reader-keeps (Some r) = keeps-set_reader _ _ (record { phases = refl; position = refl; gone = refl }) refl refl refl refl refl

  pub after_close-keeps_clients : KeepsClients stage (close_reader session stage number (reader_at session stage number) (reader_at session stage number).1.own)
  after_close-keeps_clients = close_reader-keeps (reader_at session stage number).1.own
