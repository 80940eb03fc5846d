-- What each step of a phase asks of its caller: the clients of a stage are of the card's ring and can run their lines, and the steps before it keep that.
use Rattle.std.specs.Prelude.{◌≡◌, ℕ, zero, suc, ◌+◌, ◌<◌, Bool, true, false, List, [], ◌∷◌, count_by, length, slice_index_or}
use Rattle.std.proofs.Common.{cond, refl, sym, ◌∙◌, subst, arith}
use Rattle.std.proofs.lemmas.Bool.{ltb-false}
use Rattle.std.proofs.lemmas.List.{nil_from_length}
use Rattle.std.proofs.lemmas.List.Sums.{sum_by-cons}
use Rattle.mix_core.specs.declared.gate.Gate as gate
use Rattle.wav_io.specs.Sound.{Sound}
use Rattle.sum_table.specs.declared.view.Key.{Key}
use Rattle.sum_table.specs.Seats.{TableId}
use Rattle.card_sim.specs.declared.card.Card.{Card}
use Rattle.lab_lines.specs.declared.line.Line.{Line}
use Rattle.lab_run.specs.Client.{Client}
use Rattle.lab_run.specs.Items.{Held}
use Rattle.lab_run.specs.Phases.{is_client, ops_by}
use Rattle.lab_run.specs.Rules.{AtPort}
use Rattle.lab_run.specs.Stage.{Session}
use Rattle.lab_places.specs.Held.{key_of_places, ring_of_places}
use Rattle.lab_places.specs.Holdings.{Holdings}
use Rattle.lab_actors.specs.Walks.{AreEach, AreEach-at, AreEach-length, AreEach-map}
use Rattle.lab_clients.specs.declared.client.LabClient.{LabClient}
use Rattle.lab_clients.specs.OneClient.{CanRun, IsCardOfRing, number_of}
use Rattle.lab_clients.specs.OneClientLaws.{CanRun-at, CanRun-informed, CanRun-same, HasRoom-informed, IsOfCard-ring, IsOfRing, IsOfRing-at, IsOfRing-informed, IsOfRing-run, IsOfRing-same}
use Rattle.lab_clients.specs.declared.clients.LabClients.{LabClients}
use Rattle.lab_clients.specs.AtStage.{AreAt, IsClientAt, IsClientIn, clients_of, places_of}
use Rattle.lab_clients.specs.Steps.{AreOfCard, AreReady, HasTakenRoom, IsInformedBy, RunsAt, has_lines, sound_at}

-- where a client is open, its seat is of a ring
abbrev pub AreOfRing : TableId → Key → List LabClient → Type 0
AreOfRing ring key ds = (i : ℕ) (d : LabClient) → i < length ds → IsOfRing ring key (slice_index_or ds i d)

-- no item passes a test where none is counted
none-pass : (b : Bool) (n : ℕ) → cond b 1 0 + n ≡ 0 → (b ≡ false) × (n ≡ 0)
none-pass true n count = absurd (omega (arith, count))
none-pass false n count = (refl, omega (arith, count))

count_by-none : {X : Type 0} (p : X → Bool) (x : X) (xs : List X) → count_by p (x ∷ xs) ≡ 0 → (p x ≡ false) × (count_by p xs ≡ 0)
count_by-none p x xs none = none-pass (p x) (count_by p xs) (sym (sum_by-cons (λ y. cond (p y) 1 0) x xs) ∙ none)

module _ (ring : TableId) (key : Key) where
  -- then it is of a card of that ring
  pub AreOfCard-ring : (c : Card) (ds : List LabClient) → IsCardOfRing ring key c → AreOfRing ring key ds → AreOfCard c ds
  AreOfCard-ring c ds card are = λ i d inside. IsOfCard-ring ring key c (slice_index_or ds i d) card (are i d inside)

  -- a step that keeps each client of the ring keeps all of them
  AreOfRing-step : (R : ℕ → LabClient → LabClient → Type 0) (ds es : List LabClient) → ((n : ℕ) (d e : LabClient) → R n d e → IsOfRing ring key d → IsOfRing ring key e)
      → AreEach R 0 ds es → AreOfRing ring key ds → AreOfRing ring key es
  AreOfRing-step R ds es keeps step are = λ i d inside.
      let within : i < length ds = let len = AreEach-length R 0 ds es step in omega (arith, inside, len) in
      keeps (0 + i) (slice_index_or ds i d) (slice_index_or es i d) (AreEach-at R 0 ds es step i d d within) (are i d within)

  pub AreOfRing-room : (lines : List Line) (ds es : List LabClient) → AreEach (HasTakenRoom lines) 0 ds es → AreOfRing ring key ds → AreOfRing ring key es
  AreOfRing-room lines ds es step are = AreOfRing-step (HasTakenRoom lines) ds es (λ n d e taken is. IsOfRing-same ring key d e taken.same is) step are

  pub AreOfRing-informed : (c : Card) (ds es : List LabClient) → AreEach (IsInformedBy c) 0 ds es → AreOfRing ring key ds → AreOfRing ring key es
  AreOfRing-informed c ds es step are =
      AreOfRing-step (IsInformedBy c) ds es (λ n d e informed is. IsOfRing-informed ring key informed.card d e informed.informed is) step are

  pub AreOfRing-run : {T : Type 0} (G : gate.Ghosts T) (before after : List T) (sounds : List Sound) (phase : ℕ) (lines : List Line) (ds es : List LabClient)
      → AreEach (RunsAt G before after sounds phase lines) 0 ds es → AreOfRing ring key ds → AreOfRing ring key es
  AreOfRing-run G before after sounds phase lines ds es step are =
      AreOfRing-step (RunsAt G before after sounds phase lines) ds es
      (λ n d e run is. IsOfRing-run ring key _ _ run.asks phase (sound_at sounds n) lines d e run.then is) step are

  -- the clients of a run are of its ring
  pub AreOfRing-in : (session : Session) (holdings : Holdings) (ds : List LabClient) (xs : List (AtPort × Client)) → AreEach (IsClientIn session ring key holdings) 0 ds xs
      → AreOfRing ring key ds
  AreOfRing-in session holdings [] xs are = λ i d inside. absurd (omega (arith, inside))
  AreOfRing-in session holdings (d ∷ ds) [] are = absurd are
  AreOfRing-in session holdings (d ∷ ds) (x ∷ xs) are = λ i e inside.
      let is = AreEach-at (IsClientIn session ring key holdings) 0 (d ∷ ds) (x ∷ xs) are i e x inside in
      IsOfRing-at ring key (sound_at session.sounds (0 + i)) is.last (slice_index_or (d ∷ ds) i e) (slice_index_or (x ∷ xs) i x).0 is.at

  -- after the meet before their lines they can use their seats with their files, and have the room of their lines
  pub AreReady-informed : (session : Session) (holdings : Holdings) (lines : List Line) (c : Card) (ds es gs : List LabClient) (xs : List (AtPort × Client))
      → AreEach (IsClientAt session ring key holdings) 0 ds xs → AreEach (HasTakenRoom lines) 0 ds es → AreEach (IsInformedBy c) 0 es gs → AreReady session.sounds lines gs
  AreReady-informed session holdings lines c [] es gs xs are room informed = λ i d inside.
      let first = AreEach-length (HasTakenRoom lines) 0 [] es room in let then = AreEach-length (IsInformedBy c) 0 es gs informed in
      absurd (omega (arith, inside, first, then))
  AreReady-informed session holdings lines c (d ∷ ds) es gs [] are room informed = absurd are
  AreReady-informed session holdings lines c (d ∷ ds) es gs (x ∷ xs) are room informed = λ i e inside.
      let first = AreEach-length (HasTakenRoom lines) 0 (d ∷ ds) es room in
      let then = AreEach-length (IsInformedBy c) 0 es gs informed in
      let early : i < length (d ∷ ds) = omega (arith, inside, first, then) in
      let late : i < length es = omega (arith, inside, then) in
      let is = AreEach-at (IsClientAt session ring key holdings) 0 (d ∷ ds) (x ∷ xs) are i e x early in
      let taken = AreEach-at (HasTakenRoom lines) 0 (d ∷ ds) es room i e e early in
      let met = AreEach-at (IsInformedBy c) 0 es gs informed i e e late in
      let a = slice_index_or (d ∷ ds) i e in
      let b = slice_index_or es i e in
      let g = slice_index_or gs i e in
      let sound = sound_at session.sounds (0 + i) in
      let can : CanRun sound g =
      CanRun-informed met.card sound b g met.informed (CanRun-same sound a b taken.same (CanRun-at ring key sound is.is.last a (slice_index_or (x ∷ xs) i x).0 is.is.at)) in
      record {
        ready = subst (λ (n : ℕ). CanRun (sound_at session.sounds n) g) {x = 0 + i} (omega arith) can;
        room = HasRoom-informed met.card lines b g met.informed taken.room;
      }

  -- where no client has a line, the lines ask nothing of any
  ops_by-none : (session : Session) (holdings : Holdings) (lines : List Line) (number : ℕ) (ds : List LabClient) (xs : List (AtPort × Client))
      → AreEach (IsClientAt session ring key holdings) number ds xs → count_by (has_lines lines) ds ≡ 0 → (n : ℕ) → n < length xs → ops_by (is_client (number + n)) lines ≡ []
  ops_by-none session holdings lines number [] [] are none n inside = absurd (omega (arith, inside))
  ops_by-none session holdings lines number [] (x ∷ xs) are none n inside = absurd are
  ops_by-none session holdings lines number (d ∷ ds) [] are none n inside = absurd are
  ops_by-none session holdings lines number (d ∷ ds) (x ∷ xs) are none zero inside =
      let own = count_by-none (has_lines lines) d ds none in
      let few = ltb-false 0 (length (ops_by (is_client (number_of d)) lines)) own.0 in
      let numbered : number_of d ≡ number + 0 = are.0.is.numbered ∙ omega arith in
      subst (λ (n : ℕ). ops_by (is_client n) lines ≡ []) numbered (nil_from_length (ops_by (is_client (number_of d)) lines) (omega (arith, few)))
  ops_by-none session holdings lines number (d ∷ ds) (x ∷ xs) are none (suc n) inside =
      let others = count_by-none (has_lines lines) d ds none in
      subst (λ (n : ℕ). ops_by (is_client n) lines ≡ []) {x = number + 1 + n} (omega arith)
      (ops_by-none session holdings lines (number + 1) ds xs are.1 others.1 n (omega (arith, inside)))

-- the clients of a stage are of their places' ring
pub AreOfRing-at : (session : Session) (held : Held) (xs : List (AtPort × Client)) (cs : LabClients) → AreAt session held xs cs
    → AreOfRing (ring_of_places (places_of cs)) (key_of_places (places_of cs)) (clients_of cs)
AreOfRing-at session held xs cs at =
    let ring = ring_of_places (places_of cs) in
    let key = key_of_places (places_of cs) in
    AreOfRing-in ring key session at.holdings (clients_of cs) xs
    (AreEach-map (IsClientAt session ring key at.holdings) (IsClientIn session ring key at.holdings) 0 (clients_of cs) xs (λ n d x is. is.is) at.each)

-- so are the clients that can run, after the steps before their lines
pub AreReady-at : (session : Session) (held : Held) (xs : List (AtPort × Client)) (cs : LabClients) (lines : List Line) (c : Card) (es gs : List LabClient) → AreAt session held xs cs
    → AreEach (HasTakenRoom lines) 0 (clients_of cs) es → AreEach (IsInformedBy c) 0 es gs → AreReady session.sounds lines gs
AreReady-at session held xs cs lines c es gs at room informed =
    AreReady-informed (ring_of_places (places_of cs)) (key_of_places (places_of cs)) session at.holdings lines c (clients_of cs) es gs xs at.each room informed

-- where no client of a stage has a line, the lines ask nothing of any
pub ops_by-idle : (session : Session) (held : Held) (xs : List (AtPort × Client)) (cs : LabClients) (lines : List Line) → AreAt session held xs cs
    → count_by (has_lines lines) (clients_of cs) ≡ 0 → (n : ℕ) → n < length xs → ops_by (is_client n) lines ≡ []
ops_by-idle session held xs cs lines at none n inside =
    subst (λ (k : ℕ). ops_by (is_client k) lines ≡ []) {x = 0 + n} (omega arith)
    (ops_by-none (ring_of_places (places_of cs)) (key_of_places (places_of cs)) session at.holdings lines 0 (clients_of cs) xs at.each none n inside)
