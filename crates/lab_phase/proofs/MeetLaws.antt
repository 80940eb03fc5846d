-- The meets and the lines of a phase, one after the other: what each of them asks follows from what a phase asks of its actors.
use Rattle.lab_phase.specs.Prelude.{ap, arith, refl, ◌+◌, ◌∙◌, ◌≡◌, nat_tests, drop-append-le, drop_all, take-append-le, take_all, All, drop, length, List}
use Rattle.lab_phase.specs.Prelude.{slice_index_or, take, ℕ, ◌++◌, ◌≤◌, player_key, player_ring, Card, Line, CardActor, IsSameCard-joined, IsSameCard}
use Rattle.lab_phase.specs.Prelude.{seat_of_card, AreEach, AreEach-length, LabClients, clients_of, places_of, AreOfCard-ring, AreOfRing, AreOfRing-informed}
use Rattle.lab_phase.specs.Prelude.{AreOfRing-run, AreOfCard, LabReaders, readers_of, IsOfCard, IsOfCard-moved, AreOf-informed, AreOf-ran, AreOf-same}
use Rattle.lab_phase.specs.Prelude.{EachReader, PhaseInput, CanMeet, CardCanRun, ClientsCanRun, ReadersCanRun, Asks, CardHasRun, ClientsHaveRun, HaveMet}
use Rattle.lab_phase.specs.Prelude.{HaveRun, IsSameButCard, ReadersHaveRun}
use Rattle.lab_clients.specs.OneClientLaws.{IsOfRing-card}
use Rattle.mix_core.specs.declared.gate.Gate as gate
use Rattle.lab_clients.specs.Steps as clients
use Rattle.lab_readers.specs.Steps as readers

-- ---- before the lines

pub CardCanRun-met : (lines : List Line) (a b : CardActor) → IsSameButCard a b → CardCanRun lines a → CardCanRun lines b
CardCanRun-met lines a b same can = grind (arith, nat_tests)

module _ (gates : ℕ) (asked : PhaseInput) (a : CardActor) (cs ds : LabClients) (rs ss : LabReaders) (can : CanMeet gates asked a cs rs) where
  pub ClientsCanRun-met : (near : ℕ) → 64 ≤ near → AreEach (clients.IsInformedBy a.card) 0 (clients_of cs) (clients_of ds) → ClientsCanRun near asked ds
  ClientsCanRun-met near many informed =
      let len = AreEach-length (clients.IsInformedBy a.card) 0 (clients_of cs) (clients_of ds) informed in
      let few = can.few_clients in
      let files = can.files in
      record {
        writes = can.writes;
        enough = omega (arith, many, len, few);
        files = omega (arith, files, len);
        ready = can.clients_ready a.card ds informed;
      }

  pub ReadersCanRun-met : (far : ℕ) (c : Card) → gates ≤ 64 + far → EachReader (readers.IsInformedBy c) rs ss → ReadersCanRun far asked ss
  ReadersCanRun-met far c many informed =
      let len = AreEach-length (readers.IsInformedBy c) 0 (readers_of rs) (readers_of ss) informed.each in
      let few = can.few_readers in
      record {
        reads = can.reads;
        enough = omega (arith, many, len, few);
        ready = can.readers_ready c ss informed;
      }

-- ---- after the lines

-- the clients are of the ring of the card, which did its lines
pub AreOfCard-ran : {T : Type 0} (G : gate.Ghosts T) (gates after : List T) (asked : Asks) (a b d : CardActor) (cs ds es : LabClients) → IsSameCard a.card b.card → CardHasRun asked b d
    → AreEach (clients.IsInformedBy a.card) 0 (clients_of cs) (clients_of ds) → ClientsHaveRun G gates after asked ds es → AreOfCard a.card (clients_of cs)
    → AreOfCard d.card (clients_of es)
AreOfCard-ran G gates after asked a b d cs ds es same card informed run are =
    let ring = player_ring (seat_of_card a.card) in
    let key = player_key (seat_of_card a.card) in
    let before : AreOfRing ring key (clients_of cs) = λ i x inside. IsOfRing-card a.card (slice_index_or (clients_of cs) i x) (are i x inside) in
    let met : AreOfRing ring key (clients_of ds) = AreOfRing-informed ring key a.card (clients_of cs) (clients_of ds) informed before in
    AreOfCard-ring ring key d.card (clients_of es)
    (record { of_ring = card.did.moves.player.ring ∙ same.player.ring; of_key = card.did.moves.player.key ∙ same.player.key })
    (AreOfRing-run ring key G gates after asked.sounds asked.phase asked.lines (clients_of ds) (clients_of es) run.each met)

-- so are the readers, also once it met others
pub AreOf-lines : {T : Type 0} (G : gate.Ghosts T) (gates after : List T) (asked : Asks) (a b d : CardActor) (between heard : Card) (rs ss ts : LabReaders) → IsSameCard a.card b.card
    → CardHasRun asked b d → IsSameCard d.card heard → EachReader (readers.IsInformedBy between) rs ss → ReadersHaveRun G gates after asked ss ts → All (IsOfCard a.card) (readers_of rs)
    → All (IsOfCard heard) (readers_of ts)
AreOf-lines G gates after asked a b d between heard rs ss ts same card hears informed run are =
    let met : All (IsOfCard a.card) (readers_of ss) = AreOf-informed a.card between rs ss informed are in
    let here : All (IsOfCard b.card) (readers_of ss) = AreOf-same a.card b.card (readers_of ss) same met in
    let ran : All (IsOfCard b.card) (readers_of ts) = AreOf-ran G gates after b.card asked.phase asked.lines ss ts run here in
    let moved : All (IsOfCard d.card) (readers_of ts) =
    λ k r inside. IsOfCard-moved b.card d.card (slice_index_or (readers_of ts) k r) _ _ _ _ _ card.did.moves (ran k r inside) in
    AreOf-same d.card heard (readers_of ts) hears moved

-- ---- the gates of clients, and those of readers after them

take-front : {X : Type 0} (n : ℕ) (front back : List X) → length front ≡ n → take n (front ++ back) ≡ front
take-front n front back len = take-append-le n front back (omega (arith, len)) ∙ take_all n front (omega (arith, len))

drop-front : {X : Type 0} (n : ℕ) (front back : List X) → length front ≡ n → drop n (front ++ back) ≡ back
drop-front n front back len = drop-append-le n front back (omega (arith, len)) ∙ ap (λ xs. xs ++ back) (drop_all n front (omega (arith, len)))

-- all did their lines with the gates of a list, of which the first are the clients'
HaveRun-halves : {T : Type 0} (G : gate.Ghosts T) (count : ℕ) (gates near near_after far far_after : List T) (asked : Asks) (a b : CardActor) (cs ds : LabClients) (rs ss : LabReaders)
    → gates ≡ near ++ far → length near ≡ count → length near_after ≡ length near → HaveRun G near near_after far far_after asked a b cs ds rs ss
    → HaveRun G (take count gates) (take count (near_after ++ far_after)) (drop count gates) (drop count (near_after ++ far_after)) asked a b cs ds rs ss
HaveRun-halves {T = T} G count gates near near_after far far_after asked a b cs ds rs ss halves len same run =
    let after : length near_after ≡ count = same ∙ len in
    let front : take count gates ≡ near = ap (take count) halves ∙ take-front count near far len in
    let back : drop count gates ≡ far = ap (drop count) halves ∙ drop-front count near far len in
    rw (front, take-front count near_after far_after after, back, drop-front count near_after far_after after) run

-- the meets before the lines, the lines with the gates of a list, of which the first 64 are the clients', and the meets after them
pub HaveMet-halves : {T : Type 0} (G : gate.Ghosts T) (gates near near_after far far_after : List T) (asked : Asks) (a after : CardActor) (between informed heard last : Card)
    (cs ds es fs : LabClients) (rs ss ts us : LabReaders) → gates ≡ near ++ far → length near ≡ 64 → length near_after ≡ length near
    → IsSameCard a.card between → IsSameCard between informed → AreEach (clients.IsInformedBy a.card) 0 (clients_of cs) (clients_of ds) → EachReader (readers.IsInformedBy between) rs ss
    → HaveRun G near near_after far far_after asked (record a { card = informed }) after ds es ss ts
    → IsSameCard after.card heard → IsSameCard heard last → AreEach (clients.IsHeardBy after.card) 0 (clients_of es) (clients_of fs) → EachReader (readers.IsHeardBy heard) ts us
    → places_of ds ≡ places_of cs → places_of fs ≡ places_of es
    → HaveMet G (take 64 gates) (take 64 (near_after ++ far_after)) (drop 64 gates) (drop 64 (near_after ++ far_after)) asked a cs rs (record after { card = last }) fs us
HaveMet-halves G gates near near_after far far_after asked a after between informed heard last cs ds es fs rs ss ts us halves len same first second clients_met readers_met run third fourth clients_heard readers_heard before then = record {
  between = between;
  before = record a { card = informed };
  after = after;
  heard = heard;
  informed_clients = ds;
  informed_readers = ss;
  run_clients = es;
  run_readers = ts;
  first = first;
  second = record { card = IsSameCard-joined a.card between informed first second; played = refl; rows = refl; captured = refl };
  inform_clients = clients_met;
  inform_readers = readers_met;
  run = HaveRun-halves G 64 gates near near_after far far_after asked (record a { card = informed }) after ds es ss ts halves len same run;
  third = third;
  last = record { card = IsSameCard-joined after.card heard last third fourth; played = refl; rows = refl; captured = refl };
  hear_clients = clients_heard;
  hear_readers = readers_heard;
  places = then ∙ (run.clients.places ∙ before);
}
