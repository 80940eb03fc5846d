-- A report's segments are of clients that could be opened, each with its line and its file.
use Rattle.run_laws.specs.Prelude.{ap, arith, List, None, Option, refl, Some, subst, sym, ℕ, [], ◌++◌, ◌+◌, ◌∙◌, ◌∷◌, ◌≡◌, nat_tests, flat_map-append}
use Rattle.run_laws.specs.Prelude.{flat_map-map, flat_map, map, slice_get, slice_index_or, suc, zero, ℤ, Segment, Entry, expand, Sound, Report, CardLine}
use Rattle.run_laws.specs.Prelude.{ClientLine, Script, Client, segments_of, no_sound, entries_by, LabRun, Outcome, with_numbers, AreClientOpenings}
use Rattle.run_laws.specs.Prelude.{IsClientSetup, IsSessionOf, AtPort, Session, Setup, IsMixOf}
use Rattle.run_laws.specs.Files.{IsMixOfFiles, IsPlacedFrom, file_samples}
use Rattle.run_laws.proofs.Going.{still-client}
use Rattle.run_laws.proofs.Stages.{IsKeptFrom, at, reached-each}

-- ---- a client without a setup has no segments

abbrev pub IsIdle : Client → Type 0
IsIdle client = (client.own ≡ None) × (client.ended ≡ [])

abbrev pub IsUsed : Option Setup → Client → Type 0
IsUsed setup client = setup ≡ None → IsIdle client

pub idle-segments : (client : Client) → IsIdle client → segments_of client ≡ []
idle-segments client (closed, none) = rw closed (rw none refl)

-- the client of a number, by its setup
abbrev pub IsNumberUsed : Session → ℕ → Client → Type 0
IsNumberUsed session number client = IsUsed (slice_index_or session.clients number None) client

pub clients-used : (session : Session) → IsKeptFrom session 0 (IsNumberUsed session)
clients-used session = record {
  never = λ number none. (refl, refl);
  lines = λ rules least phase number a b client after asked answer used may none. subst IsIdle
      (sym (still-client rules phase (slice_index_or session.sounds number no_sound) number a b client after asked answer (used none).0 may)) (used none);
  opens = λ number setup there client used none. let both : Some setup ≡ None = sym there ∙ none in absurd (cc);
  ends = λ number client used none. (refl, idle-segments client (used none));
}

-- ---- a client with a setup has its line and its file

pub record IsOpened (card : CardLine) (lines : List ClientLine) (wavs : List Sound) (n : ℕ) (s : Setup) : Type 0 where
  pub line : ClientLine
  pub wav : Sound
  pub line_is : slice_get lines n ≡ Some line
  pub wav_is : slice_get wavs n ≡ Some wav
  pub opening : IsClientSetup card line wav s

pub opened-at : (card : CardLine) (lines : List ClientLine) (wavs : List Sound) (setups : List (Option Setup)) (n : ℕ) (s : Setup) → AreClientOpenings card lines wavs setups
    → slice_index_or setups n None ≡ Some s → IsOpened card lines wavs n s
opened-at card [] [] [] n s are is = absurd (cc)
opened-at card (line ∷ lines) (wav ∷ wavs) (None ∷ setups) zero s are is = absurd (cc)
opened-at card (line ∷ lines) (wav ∷ wavs) (Some t ∷ setups) zero s are is =
    let same : t ≡ s = cc in
    record { line = line; wav = wav; line_is = refl; wav_is = refl; opening = subst (IsClientSetup card line wav) same are.0 }
opened-at card (line ∷ lines) (wav ∷ wavs) (setup ∷ setups) (suc n) s are is =
    let rest = opened-at card lines wavs setups n s are.1 is in
    record { line = rest.line; wav = rest.wav; line_is = rest.line_is; wav_is = rest.wav_is; opening = rest.opening }
opened-at card lines wavs setups n s are is = absurd are

-- what a segment of a client placed, by its line and file
abbrev from_file : Script → List Sound → ℕ × Segment → List Entry
from_file script wavs pair = file_samples pair.0 pair.1 (slice_get script.clients pair.0) (slice_get wavs pair.0)

segment-from : (script : Script) (wavs : List Sound) (session : Session) (n : ℕ) (s : Setup) (segment : Segment) → IsSessionOf script wavs session
    → slice_index_or session.clients n None ≡ Some s → entries_by session (n, segment) ≡ from_file script wavs (n, segment)
segment-from script wavs session n s segment is setup_is =
    let opened = opened-at script.card script.clients wavs session.clients n s is.clients setup_is in
    let wav_is : slice_get session.sounds n ≡ Some opened.wav = ap (λ (l : List Sound). slice_get l n) is.sounds ∙ opened.wav_is in
    rw wav_is (rw setup_is (rw opened.line_is (rw opened.wav_is (ap (λ b. expand n segment opened.wav.samples b) opened.opening.bindings))))

-- ---- all segments

parts-from : (script : Script) (wavs : List Sound) (session : Session) (n : ℕ) (s : Setup) (segments : List Segment) → IsSessionOf script wavs session
    → slice_index_or session.clients n None ≡ Some s
    → flat_map (entries_by session) (map (λ segment. (n, segment)) segments) ≡ flat_map (from_file script wavs) (map (λ segment. (n, segment)) segments)
parts-from script wavs session n s segments is setup_is =
    flat_map-map (entries_by session) (λ segment. (n, segment)) segments
    ∙ (λ i. flat_map (λ segment. segment-from script wavs session n s segment is setup_is i) segments)
    ∙ sym (flat_map-map (from_file script wavs) (λ segment. (n, segment)) segments)

client-from : (script : Script) (wavs : List Sound) (session : Session) (n : ℕ) (client : Client) → IsSessionOf script wavs session
    → (setup : Option Setup) → slice_index_or session.clients n None ≡ setup → IsUsed setup client
    → flat_map (entries_by session) (map (λ segment. (n, segment)) (segments_of client))
    ≡ flat_map (from_file script wavs) (map (λ segment. (n, segment)) (segments_of client))
client-from script wavs session n client is (Some s) setup_is used = parts-from script wavs session n s (segments_of client) is setup_is
client-from script wavs session n client is None setup_is used = rw (idle-segments client (used refl)) refl

clients-from : (script : Script) (wavs : List Sound) (session : Session) (n : ℕ) (clients : List (AtPort × Client)) → IsSessionOf script wavs session
    → ((i m : ℕ) → n + i ≡ m → IsUsed (slice_index_or session.clients m None) (at session clients i).1)
    → flat_map (entries_by session) (with_numbers (λ (client : AtPort × Client). segments_of client.1) n clients)
    ≡ flat_map (from_file script wavs) (with_numbers (λ (client : AtPort × Client). segments_of client.1) n clients)
clients-from script wavs session n [] is are = refl
clients-from script wavs session n (client ∷ clients) is are =
    flat_map-append (entries_by session) own others
    ∙ ap (λ l. l ++ flat_map (entries_by session) others) (client-from script wavs session n client.1 is (slice_index_or session.clients n None) refl (are 0 n (omega arith)))
    ∙ ap (λ l. flat_map (from_file script wavs) own ++ l) (clients-from script wavs session (n + 1) clients is (λ i m at_m. are (suc i) m (omega (arith, at_m))))
    ∙ sym (flat_map-append (from_file script wavs) own others)
  where
    own : List (ℕ × Segment)
    own = map (λ segment. (n, segment)) (segments_of client.1)

    others : List (ℕ × Segment)
    others = with_numbers (λ (client : AtPort × Client). segments_of client.1) (n + 1) clients

pub LabRun-files : (script : Script) (wavs : List Sound) (session : Session) (capture : Option Sound) (client_stops reader_stops : ℕ → ℕ) (outcome : Outcome)
    → IsSessionOf script wavs session → LabRun session capture script.body client_stops reader_stops outcome → IsPlacedFrom script wavs session outcome.report
LabRun-files script wavs session capture client_stops reader_stops outcome is run =
    subst (λ (o : Outcome). IsPlacedFrom script wavs session o.report) (sym run.is)
    (clients-from script wavs session 0 run.end.clients is (λ i m at_m. let same : i ≡ m = omega (arith, at_m) in
    subst (λ k. IsUsed (slice_index_or session.clients k None) (at session run.end.clients i).1) same ((reached-each session 0 (IsNumberUsed session) (clients-used session) script.body run.end (omega arith) run.may).1 i)))

-- the mix of a session is that of its script and files
pub mix-files : (script : Script) (wavs : List Sound) (session : Session) (report : Report) (played : List ℤ) → IsSessionOf script wavs session
    → IsPlacedFrom script wavs session report → IsMixOf session report played → IsMixOfFiles script wavs report played
mix-files script wavs session report played is from mix = grind (arith, nat_tests)
