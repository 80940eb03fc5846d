-- The segments of a run are of its clients' files: each line of a client leaves a stretch of its file, and so is each one that ended.
use Rattle.run_laws.specs.Prelude.{ap, arith, inl, inr, length, List, None, Option, refl, Some, subst, sym, ℕ, [], ◌+◌, ◌-◌, ◌∙◌, ◌∷◌, ◌≡◌, ◌≤◌, nat_tests}
use Rattle.run_laws.specs.Prelude.{All-from_recursion, get_or_from_slice_get, AllByRecursion, Contains, false, IfSome, map, slice_get, slice_index_or, suc}
use Rattle.run_laws.specs.Prelude.{Segment, AreBindings, length-rising, ends, PlaybackStream, Sound, Op, Answer, CardLine, Script, IsScript, first_frame}
use Rattle.run_laws.specs.Prelude.{Client, frames_of, present_of, segments_of, stretch_of, no_sound, all_segments, LabRun, Outcome, with_numbers, LineMay}
use Rattle.run_laws.specs.Prelude.{IsSessionOf, AtPort, Rules, opened_client, Session, Setup, AreBound}
use Rattle.run_laws.specs.Segments.{IsOfFrames, AreOfClients, IsOfClient}
use Rattle.run_laws.proofs.Bound.{HasBindings, line-bound}
use Rattle.run_laws.proofs.BoundChannels.{script-bound, setup-channels}
use Rattle.run_laws.proofs.FileCalls.{IsOfFile, waiting-file}
use Rattle.run_laws.proofs.FromFiles.{IsNumberUsed, IsUsed, clients-used, idle-segments, opened-at}
use Rattle.run_laws.proofs.Going.{still-client}
use Rattle.run_laws.proofs.Lists.{each-append}
use Rattle.run_laws.proofs.Onward.{Channels}
use Rattle.run_laws.proofs.OnwardLines.{InOpen}
use Rattle.run_laws.proofs.PlayedLines.{Leaves, LeavesBy, done-leaves, leaves-file}
use Rattle.run_laws.proofs.Stages.{IsKeptFrom, at, kind_at, reached-each}

-- ---- the segments of a client

stretch-right : (p limit : ℕ) (bindings : List ℕ) (c : PlaybackStream) → IsOfFile p limit c → c.setup.bindings ≡ bindings
    → AllByRecursion (IsOfFrames p (length bindings) limit) (stretch_of c)
stretch-right p limit bindings c is same = grind (arith, nat_tests)

segments-right : (p limit : ℕ) (bindings : List ℕ) (client : Client) → IfSome client.own (IsOfFile p limit) → HasBindings bindings client.own
    → AllByRecursion (IsOfFrames p (length bindings) limit) client.ended → AllByRecursion (IsOfFrames p (length bindings) limit) (segments_of client)
segments-right p limit bindings client own bound ended =
    each-append (IsOfFrames p (length bindings) limit) client.ended (present_of client.own) ended (by_own client.own own bound)
  where
    by_own : (own : Option PlaybackStream) → IfSome own (IsOfFile p limit) → HasBindings bindings own → AllByRecursion (IsOfFrames p (length bindings) limit) (present_of own)
    by_own None is same = tt
    by_own (Some c) is same = stretch-right p limit bindings c is same

-- ---- each client of a run

-- the frames of a client's file
abbrev pub frames_at : Session → ℕ → ℕ
frames_at session number = frames_of (slice_index_or session.sounds number no_sound)

-- where a client is open, its stretch is of its file, from a frame of the card on, and so are the segments that ended of one with a setup
pub record IsFileClient (session : Session) (f number : ℕ) (client : Client) : Type 0 where
  pub own : IfSome client.own (IsOfFile f (frames_at session number))
  pub of_setup : (setup : Setup) → slice_index_or session.clients number None ≡ Some setup
      → HasBindings setup.bindings client.own × AllByRecursion (IsOfFrames f (length setup.bindings) (frames_at session number)) client.ended

module _ (session : Session) (bound : AreBound session) (f : ℕ) where
  line-holds : (rules : Rules) → ((q : ℕ) → Contains rules.published q → f ≤ q) → (phase number : ℕ) (a b : AtPort) (client after : Client) (asked : Op) (answer : Answer)
      → IsFileClient session f number client → LineMay (kind_at session phase number) rules (a, client) asked (b, after) answer → IsFileClient session f number after
  line-holds rules least phase number a b client after asked answer so may = by_own client.own refl
    where
      wav : Sound
      wav = slice_index_or session.sounds number no_sound

      ended-so : (setup : Setup) (c : PlaybackStream) → IsOfFile f (frames_of wav) c → c.setup.bindings ≡ setup.bindings
          → AllByRecursion (IsOfFrames f (length setup.bindings) (frames_of wav)) client.ended → (own : Option PlaybackStream)
          → InOpen own (LeavesBy f f (frames_of wav) client.ended c after.ended) → AllByRecursion (IsOfFrames f (length setup.bindings) (frames_of wav)) after.ended
      ended-so setup c is same ended None leaves = absurd leaves
      ended-so setup c is same ended (Some d) (of, inl (as_before, alike)) = rw as_before ended
      ended-so setup c is same ended (Some d) (of, inr (with_stretch, past)) = rw with_stretch
          (each-append (IsOfFrames f (length setup.bindings) (frames_of wav)) client.ended (stretch_of c) ended (stretch-right f (frames_of wav) setup.bindings c is same))

      by_own : (own : Option PlaybackStream) → client.own ≡ own → IsFileClient session f number after
      by_own None none = subst (IsFileClient session f number) (sym (still-client rules phase wav number a b client after asked answer none may)) so
      by_own (Some c) own_is =
          let is : IsOfFile f (frames_of wav) c = subst (λ own. IfSome own (IsOfFile f (frames_of wav))) own_is so.own in
          let leaves : Leaves f f (frames_of wav) client c after = done-leaves f f (omega arith) rules least phase wav number a b client after asked answer c own_is is may in
          record {
            own = leaves-file f f (frames_of wav) client c after leaves;
            of_setup = λ setup setup_is. let holds = so.of_setup setup setup_is in (
              line-bound rules phase wav number setup.bindings a b client after asked answer holds.0 may,
              ended-so setup c is (subst (HasBindings setup.bindings) own_is holds.0) holds.1 after.own leaves,
            );
          }

  open-holds : (number : ℕ) (setup : Setup) → slice_index_or session.clients number None ≡ Some setup → (client : Client) → IsFileClient session f number client
      → IsFileClient session f number (record client { own = Some (opened_client session.ring number setup) })
  open-holds number setup is client so = record {
    own = waiting-file f (frames_at session number) setup.bindings false 0 0 0 channels (omega arith) (omega arith);
    of_setup = λ other other_is. (ap (λ (s : Setup). s.bindings) (some-same other (sym is ∙ other_is)), (so.of_setup other other_is).1);
  }
    where
      channels : Channels setup.bindings
      channels = let is_bound : AreBindings setup.bindings = subst (λ (o : Option Setup). IfSome o (λ s. AreBindings s.bindings)) is (bound number) in
          record { some = omega (arith, is_bound.some); whole = length-rising setup.bindings is_bound }

      some-same : (other : Setup) → Some setup ≡ Some other → setup ≡ other
      some-same other same = cc

  pub clients-hold : IsKeptFrom session f (IsFileClient session f)
  clients-hold = record {
    never = λ number. record { own = tt; of_setup = λ setup setup_is. (tt, tt) };
    lines = line-holds;
    opens = open-holds;
    ends = λ number client so. record {
      own = tt;
      of_setup = λ setup setup_is. let holds = so.of_setup setup setup_is in (tt, segments-right f (frames_at session number) setup.bindings client so.own holds.0 holds.1);
    };
  }

-- ---- the segments of a run are of its clients' files

module _ (script : Script) (wavs : List Sound) (session : Session) (is : IsSessionOf script wavs session) where
  abbrev Holds : ℕ × Segment → Type 0
  Holds pair = IsOfClient script wavs pair.0 pair.1

  -- a segment of a client that could be opened
  segment-of : (n : ℕ) (s : Setup) (segment : Segment) → slice_index_or session.clients n None ≡ Some s
      → IsOfFrames (first_frame session.card) (length s.bindings) (frames_at session n) segment → IsOfClient script wavs n segment
  segment-of n s segment setup_is of =
      let opened = opened-at script.card script.clients wavs session.clients n s is.clients setup_is in
      let wav_is : slice_get session.sounds n ≡ Some opened.wav = ap (λ (l : List Sound). slice_get l n) is.sounds ∙ opened.wav_is in
      let file : slice_index_or session.sounds n no_sound ≡ opened.wav = get_or_from_slice_get session.sounds n opened.wav no_sound wav_is in
      record {
        line = opened.line;
        wav = opened.wav;
        line_is = opened.line_is;
        wav_is = opened.wav_is;
        bound = ap length (sym opened.opening.bindings) ∙ opened.opening.channels;
        channels = (setup-channels script.card opened.line opened.wav s opened.opening).1;
        frames =
            subst (λ (c : CardLine). IsOfFrames (first_frame c) opened.wav.channels (frames_of opened.wav) segment) is.card
            (subst (λ (k : ℕ). IsOfFrames (first_frame session.card) k (frames_of opened.wav) segment) opened.opening.channels
            (subst (λ (wav : Sound). IsOfFrames (first_frame session.card) (length s.bindings) (frames_of wav) segment) file of));
      }

  segments-of : (n : ℕ) (s : Setup) (segments : List Segment) → slice_index_or session.clients n None ≡ Some s
      → AllByRecursion (IsOfFrames (first_frame session.card) (length s.bindings) (frames_at session n)) segments
      → AllByRecursion Holds (map (λ segment. (n, segment)) segments)
  segments-of n s [] setup_is are = tt
  segments-of n s (segment ∷ segments) setup_is are = (segment-of n s segment setup_is are.0, segments-of n s segments setup_is are.1)

  -- those of one client
  client-of : (n : ℕ) (client : Client) (setup : Option Setup) → slice_index_or session.clients n None ≡ setup → IsUsed setup client
      → IsFileClient session (first_frame session.card) n client → AllByRecursion Holds (map (λ segment. (n, segment)) (segments_of client))
  client-of n client None setup_is used holds =
      subst (λ (l : List Segment). AllByRecursion Holds (map (λ segment. (n, segment)) l)) (sym (idle-segments client (used refl))) tt
  client-of n client (Some s) setup_is used holds = let has = holds.of_setup s setup_is in
      segments-of n s (segments_of client) setup_is (segments-right (first_frame session.card) (frames_at session n) s.bindings client holds.own has.0 has.1)

  clients-of : (n : ℕ) (clients : List (AtPort × Client)) → ((i m : ℕ) → n + i ≡ m
      → IsUsed (slice_index_or session.clients m None) (at session clients i).1 × IsFileClient session (first_frame session.card) m (at session clients i).1)
      → AllByRecursion Holds (with_numbers (λ (client : AtPort × Client). segments_of client.1) n clients)
  clients-of n [] each = tt
  clients-of n (client ∷ clients) each = let here = each 0 n (omega arith) in
      each-append Holds (map (λ segment. (n, segment)) (segments_of client.1)) (with_numbers (λ (x : AtPort × Client). segments_of x.1) (n + 1) clients)
      (client-of n client.1 (slice_index_or session.clients n None) refl here.0 here.1)
      (clients-of (n + 1) clients (λ i m is. each (suc i) m (omega (arith, is))))

pub LabRun-segments : (script : Script) (wavs : List Sound) (session : Session) (capture : Option Sound) (client_stops reader_stops : ℕ → ℕ) (outcome : Outcome)
    → IsScript script → IsSessionOf script wavs session → LabRun session capture script.body client_stops reader_stops outcome
    → AreOfClients script wavs outcome.report
LabRun-segments script wavs session capture client_stops reader_stops outcome script_is is run =
    subst (λ (o : Outcome). AreOfClients script wavs o.report) (sym run.is)
    (All-from_recursion (λ (pair : ℕ × Segment). IsOfClient script wavs pair.0 pair.1) (all_segments run.end.clients)
    (clients-of script wavs session is 0 run.end.clients (λ i m is. let same : i ≡ m = omega (arith, is) in
    subst (λ k. IsUsed (slice_index_or session.clients k None) (at session run.end.clients i).1 × IsFileClient session (first_frame session.card) k (at session run.end.clients i).1) same (
      (reached-each session 0 (IsNumberUsed session) (clients-used session) script.body run.end (omega arith) run.may).1 i,
      (reached-each session (first_frame session.card) (IsFileClient session (first_frame session.card)) (clients-hold session bound (first_frame session.card)) script.body run.end
          (omega arith) run.may).1 i,
    ))))
  where
    bound : AreBound session
    bound = script-bound script wavs session script_is is
