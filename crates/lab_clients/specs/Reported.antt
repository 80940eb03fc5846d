-- In a phase the seat of a client places what its segments grow by.
use Rattle.std.specs.Prelude.{◌≡◌, ℕ, ◌+◌, ◌<◌, ◌+ℤ◌, ◌&&◌, ℤ, nat_eq, Bool, true, false, if◌then◌else◌, List, [], ◌∷◌, ◌++◌, length, map, Option, None, Some, slice_get, slice_index_or}
use Rattle.std.specs.List.{flat_map}
use Rattle.std.proofs.Common.{refl, sym, ◌∙◌, ap, append_assoc, arith}
use Rattle.std.proofs.lemmas.Bool.Decides.{nat_tests}
use Rattle.std.proofs.lemmas.Int.{ints}
use Rattle.std.proofs.lemmas.List.{append-nil, map-append}
use Rattle.std.proofs.lemmas.List.Concat.{flat_map-append}
use Rattle.std.proofs.lemmas.Option.{slice_get-get_or}
use Rattle.snd_base.specs.declared.places.Segment.{Segment}
use Rattle.mix_core.specs.declared.port.Entry.{Entry}
use Rattle.mix_core.specs.HistoryLaws.{total-append}
use Rattle.mix_core.specs.Laid.{EndsIn, standing, total}
use Rattle.sum_table.specs.declared.view.Key.{Key}
use Rattle.sum_table.specs.Seats.{TableId, member_of}
use Rattle.dmix_client.specs.declared.stream.PlaybackStream.{PlaybackStream}
use Rattle.dmix_client.specs.Calls.{segment_of}
use Rattle.dmix_client.specs.Expansion.{expand, run_entries, sample_at}
use Rattle.dmix_client.specs.Growth.{segment_entries}
use Rattle.lab_run.specs.Client.{Client, segments_of, stretch_of}
use Rattle.lab_run.specs.Items.{no_sound}
use Rattle.lab_run.specs.LabRun.{entries_by, entries_of, with_numbers}
use Rattle.lab_run.specs.Members.{MembersLayAlike, of_member}
use Rattle.lab_run.specs.Rules.{AtPort}
use Rattle.lab_run.specs.Stage.{Session, Setup}
use Rattle.lab_clients.specs.Lines.{entries_by as stretch_entries}
use Rattle.lab_places.specs.Laid.{laid_list}
use Rattle.lab_clients.specs.declared.open_client.OpenClient.{OpenClient}
use Rattle.lab_clients.specs.OneClient.{HasLaidBy, IsAtBy, GoesOrRests, client_by}
use Rattle.lab_clients.specs.OpenClient.{stream_of}
use Rattle.lab_clients.specs.AtStage.{IsSetUp}
use Rattle.lab_clients.specs.Kept.{IsSameOpened}
use Rattle.lab_clients.specs.Placed.{ArePlacedAlike, IsPlacedFor, IsPlacedOpen, SeatSegment, client_segments, laid_for, place_segments, with_number, worth_left, worth_of}
use Rattle.lab_clients.specs.PlacedLaws.{ArePlacedAlike-append, ArePlacedAlike-before, ArePlacedAlike-of_member, worth_of-alike, worth_of-append}
use Rattle.lab_clients.specs.Steps.{sound_at}

-- the members of clients place alike (lab_run: `members_are_unreported`)
abbrev pub AllLayAlike : Type 0
AllLayAlike = (member other : ℕ) → MembersLayAlike member other

-- the segments of a client with its number, and those of clients from one of a number on
abbrev pub own_segments : ℕ → Client → List (ℕ × Segment)
own_segments number client = map (with_number number) (segments_of client)

abbrev pub segments_from : ℕ → List (AtPort × Client) → List (ℕ × Segment)
segments_from number clients =
    with_numbers (λ (client : AtPort × Client). segments_of client.1) number clients

-- what the expansions of some segments are worth
abbrev pub given_by : (Entry → ℤ) → Session → List (ℕ × Segment) → ℤ
given_by worth session segments = worth_of worth (entries_of session segments)

pub given_by-append : (worth : Entry → ℤ) (session : Session) (xs ys : List (ℕ × Segment)) → given_by worth session (xs ++ ys) ≡ given_by worth session xs +ℤ given_by worth session ys
given_by-append worth session xs ys =
    ap (worth_of worth) (flat_map-append (entries_by session) xs ys) ∙ worth_of-append worth (entries_of session xs) (entries_of session ys)

pub given_by-more : (worth : Entry → ℤ) (session : Session) (number : ℕ) (xs ys : List Segment)
    → given_by worth session (map (with_number number) (xs ++ ys)) ≡ given_by worth session (map (with_number number) xs) +ℤ given_by worth session (map (with_number number) ys)
given_by-more worth session number xs ys =
    ap (given_by worth session) (map-append (with_number number) xs ys) ∙ given_by-append worth session (map (with_number number) xs) (map (with_number number) ys)

-- ---- the entries of a stretch

-- a stretch in which nothing was placed has no entries
segment_entries-none : (c : PlaybackStream) (samples : List ℤ) → c.stretch.committed ≡ 0 → c.stretch.part ≡ 0 → segment_entries c samples ≡ []
segment_entries-none c samples no_frame no_part =
    ap (λ (n : ℕ). run_entries c.identity.member c.setup.bindings (λ j. sample_at samples (length c.setup.bindings) (c.stretch.source + j)) c.stretch.card 0 n c.stretch.part) no_frame
    ∙ ap (λ (n : ℕ). run_entries c.identity.member c.setup.bindings (λ j. sample_at samples (length c.setup.bindings) (c.stretch.source + j)) c.stretch.card 0 0 n) no_part

-- so its entries are those of its segment, where it has one
stretch_entries-stretch_of : (c : PlaybackStream) (samples : List ℤ) → flat_map (stretch_entries c samples) (stretch_of c) ≡ segment_entries c samples
stretch_entries-stretch_of c samples = by_test (nat_eq c.stretch.committed 0 && nat_eq c.stretch.part 0) refl
  where
    by_test : (test : Bool) → (nat_eq c.stretch.committed 0 && nat_eq c.stretch.part 0) ≡ test
        → flat_map (stretch_entries c samples) (if test then [] else segment_of c ∷ []) ≡ segment_entries c samples
    by_test true none = sym (segment_entries-none c samples (grind (arith, nat_tests, none)) (grind (arith, nat_tests, none)))
    by_test false some = append-nil (segment_entries c samples)

-- ---- the segments of an open client, by its file and with what it was opened

-- an open client of a number is set up as the session has it
pub record IsOpenOf (session : Session) (number : ℕ) (c : PlaybackStream) : Type 0 where
  pub file : number < length session.sounds
  pub own : Setup
  pub setup : slice_index_or session.clients number None ≡ Some own
  pub bindings : c.setup.bindings ≡ own.bindings

module _ (session : Session) (number : ℕ) (alike : AllLayAlike) (c : PlaybackStream) (is : IsOpenOf session number c) where
  abbrev samples_of : List ℤ
  samples_of = (sound_at session.sounds number).samples

  entries_by-expand : (segment : Segment) → entries_by session (number, segment) ≡ expand number segment samples_of is.own.bindings
  entries_by-expand segment =
      let wav : slice_get session.sounds number ≡ Some (sound_at session.sounds number) = slice_get-get_or session.sounds number no_sound is.file in
      let setup : slice_index_or session.clients number None ≡ Some is.own = is.setup in
      rw (wav, setup) refl

  -- a segment's entries are the client's own entries of it, but for the member
  ArePlacedAlike-entries_by : (segment : Segment) → ArePlacedAlike (entries_by session (number, segment)) (stretch_entries c samples_of segment)
  ArePlacedAlike-entries_by segment =
      let lay = alike number c.identity.member in
      let own : entries_by session (number, segment) ≡ map (of_member number) (stretch_entries c samples_of segment) =
      entries_by-expand segment ∙ (ap (λ (bindings : List ℕ). expand number segment samples_of bindings) (sym is.bindings) ∙ lay.segment segment samples_of c.setup.bindings) in
      ap (map (of_member 0)) own ∙ ArePlacedAlike-of_member number (stretch_entries c samples_of segment)

  pub ArePlacedAlike-stretches : (segments : List Segment) → ArePlacedAlike (entries_of session (map (with_number number) segments)) (flat_map (stretch_entries c samples_of) segments)
  ArePlacedAlike-stretches [] = refl
  ArePlacedAlike-stretches (segment ∷ segments) =
      ArePlacedAlike-append (entries_by session (number, segment)) (stretch_entries c samples_of segment) (entries_of session (map (with_number number) segments))
      (flat_map (stretch_entries c samples_of) segments) (ArePlacedAlike-entries_by segment) (ArePlacedAlike-stretches segments)

  -- so are those of its present stretch
  pub ArePlacedAlike-stretch_of : ArePlacedAlike (entries_of session (map (with_number number) (stretch_of c))) (segment_entries c samples_of)
  ArePlacedAlike-stretch_of = ArePlacedAlike-stretches (stretch_of c) ∙ ap (map (of_member 0)) (stretch_entries-stretch_of c samples_of)

  pub given_by-stretches : (worth : Entry → ℤ) (segments : List Segment)
      → given_by worth session (map (with_number number) segments) ≡ worth_of worth (flat_map (stretch_entries c samples_of) segments)
  given_by-stretches worth segments =
      worth_of-alike worth (entries_of session (map (with_number number) segments)) (flat_map (stretch_entries c samples_of) segments) (ArePlacedAlike-stretches segments)

  pub given_by-stretch_of : (worth : Entry → ℤ) → given_by worth session (map (with_number number) (stretch_of c)) ≡ worth_of worth (segment_entries c samples_of)
  given_by-stretch_of worth =
      worth_of-alike worth (entries_of session (map (with_number number) (stretch_of c))) (segment_entries c samples_of) ArePlacedAlike-stretch_of

-- the entries of segments with those of a client after them
entries_of-more : (session : Session) (number : ℕ) (segments : List (ℕ × Segment)) (xs ys : List Segment)
    → entries_of session (segments ++ map (with_number number) (xs ++ ys))
    ≡ entries_of session (segments ++ map (with_number number) xs) ++ entries_of session (map (with_number number) ys)
entries_of-more session number segments xs ys =
    ap (entries_of session)
    (ap (λ (more : List (ℕ × Segment)). segments ++ more) (map-append (with_number number) xs ys) ∙ sym (append_assoc segments (map (with_number number) xs) (map (with_number number) ys)))
    ∙ flat_map-append (entries_by session) (segments ++ map (with_number number) xs) (map (with_number number) ys)

-- ---- a client in a phase

-- The seat of an open client, whose list ended in the entries of its present stretch, and ends in those of the stretches of the phase.
module _ (session : Session) (number : ℕ) (alike : AllLayAlike) (o p : OpenClient) (ended : List Segment) (is : IsOpenOf session number (stream_of o))
    (then_is : IsOpenOf session number (stream_of p)) (laid : HasLaidBy (sound_at session.sounds number) ended o p)
    (ends : EndsIn (standing (laid_list o.seat)) (segment_entries (stream_of o) (sound_at session.sounds number).samples)) where
  abbrev samples : List ℤ
  samples = (sound_at session.sounds number).samples

  abbrev early : List Entry
  early = ends.0

  abbrev grown : List Entry
  grown = flat_map (stretch_entries (stream_of p) samples) ended

  after-is : standing (laid_list p.seat) ≡ early ++ (grown ++ segment_entries (stream_of p) samples)
  after-is = laid.standing_adds early ends.1

  -- as much more is left as its segments give more
  worth_left-open : p.actor.ended.items ≡ o.actor.ended.items ++ ended → (worth : Entry → ℤ)
      → worth_of worth (standing (laid_list p.seat)) +ℤ given_by worth session (map (with_number number) (o.actor.ended.items ++ stretch_of (stream_of o)))
      ≡ worth_of worth (standing (laid_list o.seat)) +ℤ given_by worth session (map (with_number number) (p.actor.ended.items ++ stretch_of (stream_of p)))
  worth_left-open ended_are worth =
      let was : worth_of worth (standing (laid_list o.seat)) ≡ worth_of worth early +ℤ worth_of worth (segment_entries (stream_of o) samples) =
      ap (worth_of worth) ends.1 ∙ worth_of-append worth early (segment_entries (stream_of o) samples) in
      let now : worth_of worth (standing (laid_list p.seat)) ≡ worth_of worth early +ℤ worth_of worth (grown ++ segment_entries (stream_of p) samples) =
      ap (worth_of worth) after-is ∙ worth_of-append worth early (grown ++ segment_entries (stream_of p) samples) in
      let more = worth_of-append worth grown (segment_entries (stream_of p) samples) in
      let own = given_by-more worth session number o.actor.ended.items (stretch_of (stream_of o)) in
      let own_stretch = given_by-stretch_of session number alike (stream_of o) is worth in
      let next = given_by-more worth session number p.actor.ended.items (stretch_of (stream_of p)) in
      let next_stretch = given_by-stretch_of session number alike (stream_of p) then_is worth in
      let next_ended : given_by worth session (map (with_number number) p.actor.ended.items)
      ≡ given_by worth session (map (with_number number) o.actor.ended.items) +ℤ given_by worth session (map (with_number number) ended) =
      ap (λ (segments : List Segment). given_by worth session (map (with_number number) segments)) ended_are ∙ given_by-more worth session number o.actor.ended.items ended in
      let stretches = given_by-stretches session number alike (stream_of p) then_is worth ended in
      omega (arith, ints, was, now, more, own, own_stretch, next, next_stretch, next_ended, stretches)

  -- its seat placed what the segments of its opening say, as before
  IsPlacedOpen-run : (history : List SeatSegment) (client next : Client) → member_of p.seat ≡ member_of o.seat → next.ended ≡ client.ended ++ ended
      → IsPlacedOpen session history number o client → IsPlacedOpen session history number p next
  IsPlacedOpen-run history client next member ended_are was =
      let others : List (ℕ × Segment) = place_segments (member_of o.seat) history in
      let former : List Entry = entries_of session (others ++ map (with_number number) was.stretches) in
      let before : ArePlacedAlike early former =
      ArePlacedAlike-before early former (segment_entries (stream_of o) samples) (entries_of session (map (with_number number) (stretch_of (stream_of o))))
      (sym (ArePlacedAlike-stretch_of session number alike (stream_of o) is))
      (ap (map (of_member 0)) (sym ends.1)
      ∙ (was.placed.entries ∙ ap (map (of_member 0)) (entries_of-more session number others was.stretches (stretch_of (stream_of o))))) in
      let ended_entries : List Entry = entries_of session (map (with_number number) ended) in
      let stretch : List Entry = entries_of session (map (with_number number) (stretch_of (stream_of p))) in
      let all : ArePlacedAlike (early ++ (grown ++ segment_entries (stream_of p) samples)) (former ++ (ended_entries ++ stretch)) =
      ArePlacedAlike-append early former (grown ++ segment_entries (stream_of p) samples) (ended_entries ++ stretch) before
      (ArePlacedAlike-append grown ended_entries (segment_entries (stream_of p) samples) stretch (sym (ArePlacedAlike-stretches session number alike (stream_of p) then_is ended))
      (sym (ArePlacedAlike-stretch_of session number alike (stream_of p) then_is))) in
      let segments : former ++ (ended_entries ++ stretch) ≡ entries_of session (others ++ map (with_number number) ((was.stretches ++ ended) ++ stretch_of (stream_of p))) =
      sym (append_assoc former ended_entries stretch)
      ∙ (ap (λ (es : List Entry). es ++ stretch) (sym (entries_of-more session number others was.stretches ended))
      ∙ sym (entries_of-more session number others (was.stretches ++ ended) (stretch_of (stream_of p)))) in
      record {
        stretches = was.stretches ++ ended;
        ended_are = ended_are ∙ (ap (λ (own : List Segment). own ++ ended) was.ended_are ∙ append_assoc (client_segments number history) was.stretches ended);
        placed = record {
          entries = ap (map (of_member 0)) after-is
              ∙ (all ∙ ap (map (of_member 0)) (segments ∙ ap (λ (place : ℕ). entries_of session (place_segments place history ++ map (with_number number) ((was.stretches ++ ended) ++ stretch_of (stream_of p)))) (sym member)));
          totals = λ f k.
              let sums = laid.totals f k in
              let own = was.placed.totals f k in
              let first = ap (λ (es : List Entry). total es f k) ends.1 ∙ total-append early (segment_entries (stream_of o) samples) f k in
              let last = ap (λ (es : List Entry). total es f k) after-is ∙ total-append early (grown ++ segment_entries (stream_of p) samples) f k in
              omega (arith, ints, sums, own, first, last);
        };
      }

-- So it is of each client, open or not.
module _ (session : Session) (number : ℕ) (alike : AllLayAlike) (file : number < length session.sounds) (ring : TableId) (key : Key) (last : Option ℕ) (m : ℕ) (a : AtPort) where
  pub worth_left-phase : (segments next ended : List Segment) (o p : Option OpenClient) → IsAtBy ring key (sound_at session.sounds number) last m o a
      → IsSetUp (slice_index_or session.clients number None) o → IsSetUp (slice_index_or session.clients number None) p
      → (client_by next p).ended ≡ (client_by segments o).ended ++ ended → GoesOrRests (HasLaidBy (sound_at session.sounds number) ended) (ended ≡ []) o p → (worth : Entry → ℤ)
      → worth_left worth (laid_for p) +ℤ given_by worth session (own_segments number (client_by segments o))
      ≡ worth_left worth (laid_for o) +ℤ given_by worth session (own_segments number (client_by next p))
  worth_left-phase segments next ended None None at is then_is ended_are laid worth =
      let same : next ≡ segments = ended_are ∙ (ap (λ (more : List Segment). segments ++ more) laid ∙ append-nil segments) in
      ap (λ (all : List Segment). worth_left worth (laid_for None) +ℤ given_by worth session (own_segments number (client_by all None))) (sym same)
  worth_left-phase segments next ended (Some o) (Some p) at is then_is ended_are laid worth =
      worth_left-open session number alike o p ended (record { file = file; own = is.0; setup = is.1; bindings = is.2 })
      (record { file = file; own = then_is.0; setup = then_is.1; bindings = then_is.2 }) laid at.ready.backed.segment ended_are worth
  worth_left-phase segments next ended None (Some p) at is then_is ended_are never worth = absurd never
  worth_left-phase segments next ended (Some o) None at is then_is ended_are never worth = absurd never

  pub IsPlacedFor-phase : (history : List SeatSegment) (client next : Client) (ended : List Segment) (o p : Option OpenClient) → IsAtBy ring key (sound_at session.sounds number) last m o a
      → IsSetUp (slice_index_or session.clients number None) o → IsSetUp (slice_index_or session.clients number None) p → IsSameOpened o p → next.ended ≡ client.ended ++ ended
      → GoesOrRests (HasLaidBy (sound_at session.sounds number) ended) (ended ≡ []) o p → IsPlacedFor session history number o client → IsPlacedFor session history number p next
  IsPlacedFor-phase history client next ended None None at is then_is opened ended_are laid was =
      ended_are ∙ (ap (λ (more : List Segment). client.ended ++ more) laid ∙ (append-nil client.ended ∙ was))
  IsPlacedFor-phase history client next ended (Some o) (Some p) at is then_is opened ended_are laid was =
      IsPlacedOpen-run session number alike o p ended (record { file = file; own = is.0; setup = is.1; bindings = is.2 })
      (record { file = file; own = then_is.0; setup = then_is.1; bindings = then_is.2 }) laid at.ready.backed.segment history client next opened.member ended_are was
  IsPlacedFor-phase history client next ended None (Some p) at is then_is opened ended_are never was = absurd never
  IsPlacedFor-phase history client next ended (Some o) None at is then_is opened ended_are never was = absurd never
