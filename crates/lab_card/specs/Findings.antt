-- What the meets before a phase and after it say of what an actor found in it: it is what the phase allows.
use Rattle.std.specs.Prelude.{◌≡◌, suc, ◌⊎◌, ℕ, ◌+◌, ◌%◌, ◌<◌, ◌≤◌, ◌||◌, ◌-◌, ◌*◌, ◌/◌, nat_lt, if◌then◌else◌, Bool, true, false, List, [], ◌∷◌, ◌++◌, length, map, max, All, Contains, Option, None, Some}
use Rattle.std.specs.List.{list_any, slice_index_or}
use Rattle.std.proofs.Common.{refl, sym, ap, subst, ◌∙◌, arith, inl, inr, append_assoc}
use Rattle.std.proofs.lemmas.Bool.{cases_lt, false≢true}
use Rattle.std.proofs.lemmas.Bool.Decides.{nat_tests}
use Rattle.std.proofs.lemmas.Nat.{le-div}
use Rattle.std.proofs.Math.Nat.{add-mod_left, div-add-mod, div-mul-le_self, mod-lt, mul-le-mul_right}
use mathlib.Core.Option.{some}
use lib.ListN.{get_elem?}
use Rattle.snd_base.specs.declared.geometry.Geometry.{Geometry}
use Rattle.snd_base.specs.declared.places.Cursor.{Cursor}
use Rattle.snd_base.specs.Places.{first_frame, first_free}
use Rattle.snd_base.specs.PlaceLaws.{mod-same_lt, mod-window}
use Rattle.lap_word.specs.Word.{lap_of}
use Rattle.ring_rule.specs.Lists.{at_append, at_second}
use Rattle.ring_rule.specs.Positions.{IsPosition}
use Rattle.ring_rule.specs.Words.{index_of}
use Rattle.mix_core.specs.declared.port.Position.{Position}
use Rattle.mix_core.specs.Port as mix_port
use Rattle.mix_core.specs.Port.{AreRisingFrom}
use Rattle.sum_table.specs.declared.seats.mix.MixSeat.{MixSeat}
use Rattle.sum_table.specs.declared.view.Key.{Key}
use Rattle.sum_table.specs.declared.view.Track.{Track}
use Rattle.sum_table.specs.declared.view.View.{View}
use Rattle.sum_table.specs.Players.{next_of_player, player_geometry, player_key, track_of}
use Rattle.sum_table.specs.Seats.{SeatLoaded, key_of, seat_view, seen_of, noted_word, view_of}
use Rattle.snoop_core.specs.Port as snoop_port
use Rattle.snoop_core.specs.Word.{laps_of}
use Rattle.snoop_table.specs.declared.seats.reader.ReaderSeat.{ReaderSeat}
use Rattle.snoop_table.specs.declared.view.Track as snoop_track
use Rattle.snoop_table.specs.declared.view.View as snoop_view
use Rattle.snoop_table.specs.Captured.{next_to_store, position_of}
use Rattle.snoop_table.specs.Readers as readers
use Rattle.snoop_table.specs.Writers.{writer_geometry, writer_track}
use Rattle.wav_io.specs.Sound.{Sound}
use Rattle.card_player.specs.Plays.{at_frame}
use Rattle.card_sim.specs.declared.card.Card.{Card}
use Rattle.card_sim.specs.Runs.{captured_if, period_of, records_of, writer_of}
use Rattle.lab_lines.specs.declared.line.Line.{Line}
use Rattle.lab_lines.specs.Script.{is_of_card}
use Rattle.lab_run.specs.ActorPart.{AreOf, Each, Findings}
use Rattle.lab_run.specs.Phases.{ops_by, phase_positions, published_by}
use Rattle.lab_run.specs.Rules.{Rules}
use Rattle.lab_card.specs.declared.card.CardActor.{CardActor}
use Rattle.lab_card.specs.CardLines.{CardPart, positions_by, unplugs_by}
use Rattle.lab_card.specs.Lists.{Contains-at, Each-at, Each-both, Each-less}
use Rattle.lab_card.specs.Meets.{IsClientOf, IsInformedClient, IsInformedReader, IsReaderOf, IsSameCard, IsSameClient, IsSameReader, KnowsClient, KnowsReader}
use Rattle.lab_card.specs.Moves.{frame_of_card, geometry_of_card, is_gone, seat_of_card}
use Rattle.lab_card.specs.MovesLaws.{frame-least, next-at_frame, or-false, writer-least, writer-next}
use Rattle.lab_card.specs.PositionLaws.{positions_by-published_by}
use Rattle.lab_card.specs.Rests.{Rests}

-- what a phase allows, of a card before it and after it
abbrev pub rules_between : Card → Card → List Line → Rules
rules_between c d lines = record {
  at = record { ring = geometry_of_card c; position = frame_of_card d; gone = is_gone c };
  published = phase_positions (period_of c) (frame_of_card c) lines;
}

-- A card in a phase: it rested before it, in which no line unplugged it; then it did its lines. Before them and after them it gave notes and met
-- some.
pub record CardPhase (capture : Option Sound) (phase : ℕ) (c : Card) (a b : CardActor)
    (d : Card) (lines : List Line) : Type 0 where
  pub rests : Rests c
  pub before : IsSameCard c a.card
  pub part : CardPart capture phase a b (ops_by is_of_card lines)
  pub plugged : unplugs_by (ops_by is_of_card lines) ≡ false
  pub after : IsSameCard b.card d

-- A client's seat in a phase, with what it found. It met a note of the card before it; then it loaded positions and shows words of later laps; and
-- the card met its note after it.
pub record ClientPhase (c d : Card) (s t u v : MixSeat) (found : Findings) : Type 0 where
  pub of_ring : IsClientOf c s
  pub informed : IsInformedClient c s t
  pub key : key_of u ≡ key_of t
  pub loads : SeatLoaded t u found.loads
  pub late : Each
      (λ (place : ℕ × ℕ). (word : ℕ) × mix_port.IsPast seat_view noted_word u place.0 place.1 word)
      found.late
  pub overtaken : found.overtaken ≡ []
  pub same : IsSameClient u v
  pub knows : KnowsClient d v

-- a reader's seat in a phase, likewise
pub record ReaderPhase (c d : Card) (s t u v : ReaderSeat) (found : Findings) : Type 0 where
  pub of_ring : IsReaderOf c s
  pub informed : IsInformedReader c s t
  pub geometry : readers.geometry_of u ≡ readers.geometry_of t
  pub loads : readers.SeatLoaded t u found.loads
  pub late : found.late ≡ []
  pub overtaken : Each
      (λ (place : ℕ × ℕ). (word : ℕ)
      × snoop_port.IsPast readers.seat_view readers.noted_word u place.0 place.1 word) found.overtaken
  pub same : IsSameReader u v
  pub knows : KnowsReader d v

-- ---- loads

-- each loaded position is among those that a seat has seen, and none is below the first
loads-each : (Q : ℕ → Type 0) (from low : ℕ) (old : List ℕ) (ps : List Position) → from ≤ low → AreRisingFrom low ps
    → ((i x : ℕ) → get_elem? (old ++ map (λ (p : Position). p.frame) ps) i ≡ some x → from ≤ x → Q x) → Each (λ (p : Position). Q p.frame) ps
loads-each Q from low old [] start rising known = tt
loads-each Q from low old (p ∷ ps) start rising known =
    let here = at_second old (p.frame ∷ map (λ (x : Position). x.frame) ps) 0 p.frame refl in
    let from_here : from ≤ p.frame = omega (arith, start, rising.0) in (
      known here.0 p.frame here.1 from_here,
      loads-each Q from p.frame (old ++ p.frame ∷ []) ps from_here rising.1
          (λ i x at up. known i x (ap (λ (xs : List ℕ). get_elem? xs i) (sym (append_assoc old (p.frame ∷ []) (map (λ (y : Position). y.frame) ps))) ∙ at) up),
    )

All-each : {X : Type 0} (P : X → Type 0) (xs : List X) → All P xs → Each P xs
All-each P [] all = tt
All-each P (x ∷ xs) all = (all 0 x (omega arith), All-each P xs (λ k d inside. all (suc k) d (omega (arith, inside))))

or-both_false : (a b : Bool) → (a || b) ≡ false → (a ≡ false) × (b ≡ false)
or-both_false true b is = absurd (false≢true (sym is))
or-both_false false b is = (refl, is)

none-gone : (ps : List Position) → list_any (λ (p : Position). p.gone) ps ≡ false → Each (λ (p : Position). p.gone ≡ false) ps
none-gone [] none = tt
none-gone (p ∷ ps) none = let parts = or-both_false p.gone (list_any (λ (x : Position). x.gone) ps) none in (parts.0, none-gone ps parts.1)

or-true : (a : Bool) → (a || true) ≡ true
or-true true = refl
or-true false = refl

-- a seat that has seen the card gone where it was before a phase loads it gone in it exactly there, if it has seen nothing but what is so
loaded-gone : (gone before after : Bool) (seen : Bool) (ps : List Position) → before ≡ (seen || gone) → after ≡ (before || list_any (λ (p : Position). p.gone) ps)
    → (before ≡ true → All (λ (p : Position). p.gone ≡ true) ps) → (after ≡ true → gone ≡ true) → Each (λ (p : Position). p.gone ≡ gone) ps
loaded-gone true before after seen ps informed loaded later known = All-each (λ (p : Position). p.gone ≡ true) ps (later (informed ∙ or-true seen))
loaded-gone false before true seen ps informed loaded later known = absurd (false≢true (known refl))
loaded-gone false before false seen ps informed loaded later known =
    none-gone ps (or-both_false before (list_any (λ (p : Position). p.gone) ps) (sym loaded)).1

-- a position that was published, of a card that rested, is published in the phase, where it isn't below the first one
published-position : (period first from : ℕ) (before : List ℕ) (lines : List Line) (x : ℕ) → first ≤ from → Each (λ (y : ℕ). y ≤ from) before
    → (x ≡ first) ⊎ ((i : ℕ) × (get_elem? (before ++ positions_by period from (ops_by is_of_card lines)) i ≡ some x)) → from ≤ x
    → Contains (phase_positions period from lines) x
published-position period first from before lines x least rested is up = elim is [
  | inl start ↦ head (omega (arith, start, least, up))
  | inr inside ↦ elim (at_append before (positions_by period from (ops_by is_of_card lines)) x inside.0 inside.1) [
    | inl old ↦ head (let low = Each-at (λ (y : ℕ). y ≤ from) before inside.0 x old rested in omega (arith, low, up))
    | inr new ↦ tail (positions_by-published_by period from lines x (Contains-at (positions_by period from (ops_by is_of_card lines)) new.0 x new.1))
  ]
]
  where
    head : from ≡ x → Contains (phase_positions period from lines) x
    head same = (0, omega arith, same)

    tail : Contains (published_by period from lines) x → Contains (phase_positions period from lines) x
    tail there = (suc there.0, omega (arith, there.1), there.2)

-- ---- words of later laps

-- a later frame isn't of an earlier lap
div-mono : (n k f : ℕ) → 0 < n → k ≤ f → k / n ≤ f / n
div-mono n k f positive up = le-div (k / n) f n positive (let low = div-mul-le_self k n in omega (arith, low, up))

-- of two frames of a slot the one of the later lap is later, by a lap at least
later-lap : (n f k : ℕ) → 0 < n → k % n ≡ f % n → f / n < k / n → f + n ≤ k
later-lap n f k positive same up = elim (cases_lt k (f + n)) [
  | inr far ↦ far
  | inl near ↦ elim (cases_lt f k) [
    | inl below ↦ absurd (mod-same_lt n f k (sym same) (omega (arith, below)) near below)
    | inr above ↦ absurd (let down : k / n ≤ f / n = div-mono n k f positive above in omega (arith, up, down))
  ]
]

-- a word of a later lap than a frame's is not the word of its slot that a ring has now, unless the frame is taken
taken-below : (n from f : ℕ) → 0 < n → (word : ℕ) → f / n < word
    → ((k : ℕ) → from ≤ k → k < from + n → k % n ≡ f % n → word ≤ k / n) → f < from
taken-below n from f positive word past known =
    let k = mod-window n from f positive in
    let most : word ≤ k.0 / n = known k.0 k.1.0 k.1.1.0 k.1.1.1 in
    let far : f + n ≤ k.0 = later-lap n f k.0 positive k.1.1.1 (omega (arith, past, most)) in
    let near : k.0 < from + n = k.1.1.0 in
    omega (arith, far, near)

-- a stored word of a later lap than a frame's was stored over the frame, before the next one
stored-over : (n first_lap from f : ℕ) → 0 < n → first_lap * n ≤ from → (word : ℕ) → f / n + 1 < word
    → ((k : ℕ) → first_lap * n ≤ k → k < from → from ≤ k + n → k % n ≡ f % n → word ≤ k / n + 1)
    → ((k : ℕ) → from ≤ k → k < first_lap * n + n → k % n ≡ f % n → word ≤ first_lap) → f + n < from
stored-over n first_lap from f positive least word past known unused =
    let k = mod-window n from f positive in
    let low : from ≤ k.0 = k.1.0 in
    let near : k.0 < from + n = k.1.1.0 in
    elim (cases_lt k.0 (first_lap * n + n)) [
      | inl first ↦
          let most : word ≤ first_lap = unused k.0 low first k.1.1.1 in
          let laps : (f / n + 2) * n ≤ first_lap * n = mul-le-mul_right n (omega (arith, past, most)) in
          let is : n * (f / n) + f % n ≡ f = div-add-mod f n in
          let slot_low : f % n < n = mod-lt f positive in
          omega (arith, laps, is, slot_low, least)
      | inr later ↦
          let j : ℕ = k.0 - n in
          let back : k.0 ≡ n + j = omega (arith, later) in
          let same : j % n ≡ f % n = sym (add-mod_left n j) ∙ (ap (λ (x : ℕ). x % n) (sym back) ∙ k.1.1.1) in
          let most : word ≤ j / n + 1 = known j (omega (arith, later)) (omega (arith, near, later)) (omega (arith, low, later)) same in
          let far : f + n ≤ j = later-lap n f j positive same (omega (arith, past, most)) in
          omega (arith, far, near, later)
    ]

-- the first word of a frame, in each channel
first_free-at_frame : (at : Cursor) (f c : ℕ) → at ≡ at_frame f → first_free at c ≡ f
first_free-at_frame at f c is =
    ap (λ (x : Cursor). first_free x c) is ∙ ap (λ (b : Bool). if b then f + 1 else f) (let e : nat_lt c 0 ≡ false = grind (arith, nat_tests) in e)

-- ---- what stays of a card

module _ {capture : Option Sound} {phase : ℕ} (c : Card) (a b : CardActor) (d : Card) (lines : List Line) (is : CardPhase capture phase c a b d lines) where
  geometry-between : player_geometry (seat_of_card d) ≡ player_geometry (seat_of_card c)
  geometry-between = ap (λ (k : Key). k.geometry) (is.after.player.key ∙ (is.part.did.moves.player.key ∙ is.before.player.key))

  frame-before : frame_of_card a.card ≡ frame_of_card c
  frame-before = ap (λ (at : Cursor). at.frame) is.before.player.next

  frame-after : frame_of_card d ≡ frame_of_card b.card
  frame-after = ap (λ (at : Cursor). at.frame) is.after.player.next

  gone-between : is_gone d ≡ is_gone c
  gone-between =
      ap (λ (t : Track). t.gone) is.after.player.track
      ∙ (is.part.did.moves.player.gone
      ∙ (ap (λ (x : Bool). is_gone a.card || x) is.plugged ∙ (sym (or-false (is_gone a.card)) ∙ ap (λ (t : Track). t.gone) is.before.player.track)))

  positions-between : positions_by (period_of a.card) (frame_of_card a.card) (ops_by is_of_card lines) ≡ positions_by (period_of c) (frame_of_card c) (ops_by is_of_card lines)
  positions-between =
      ap (λ (n : ℕ). positions_by n (frame_of_card a.card) (ops_by is_of_card lines)) is.before.period
      ∙ ap (λ (n : ℕ). positions_by (period_of c) n (ops_by is_of_card lines)) frame-before

  published-between : (track_of (seat_of_card d)).published ≡ (track_of (seat_of_card c)).published ++ positions_by (period_of c) (frame_of_card c) (ops_by is_of_card lines)
  published-between =
      ap (λ (t : Track). t.published) is.after.player.track
      ∙ (is.part.did.moves.player.published
      ∙ (ap (λ (t : Track). t.published ++ positions_by (period_of a.card) (frame_of_card a.card) (ops_by is_of_card lines)) is.before.player.track
      ∙ ap (λ (ps : List ℕ). (track_of (seat_of_card c)).published ++ ps) positions-between))

  -- a position of a client that the card knows is published in the phase, where it isn't below the first one
  client-position : (x : ℕ) → IsPosition (player_geometry (seat_of_card d)) (track_of (seat_of_card d)).published x → frame_of_card c ≤ x
      → Contains (phase_positions (period_of c) (frame_of_card c) lines) x
  client-position x at up =
      published-position (period_of c) (first_frame (geometry_of_card c)) (frame_of_card c) (track_of (seat_of_card c)).published lines x (frame-least c) is.rests.played
      (subst (λ (ps : List ℕ). IsPosition (geometry_of_card c) ps x) published-between
      (subst (λ (g : Geometry). IsPosition g (track_of (seat_of_card d)).published x) geometry-between at)) up

  -- a frame of which a client shows a word of a later lap is taken
  client-late : (s t u v : MixSeat) (found : Findings) → ClientPhase c d s t u v found → (f n word : ℕ) → mix_port.IsPast seat_view noted_word u f n word → f < frame_of_card b.card
  client-late s t u v found client f n word past =
      let g : Geometry = player_geometry (seat_of_card d) in
      let own : key_of u ≡ player_key (seat_of_card c) = client.key ∙ (client.informed.key ∙ client.of_ring.1) in
      let same : u.key.geometry ≡ g = ap (λ (k : Key). k.geometry) own ∙ sym geometry-between in
      let next : next_of_player (seat_of_card d) ≡ at_frame (frame_of_card d) = next-at_frame d in
      let start : first_free (next_of_player (seat_of_card d)) n ≡ frame_of_card d = first_free-at_frame (next_of_player (seat_of_card d)) (frame_of_card d) n next in
      let channel : n < g.channels = subst (λ (h : Geometry). n < h.channels) same past.channel in
      let later : f / g.frames < lap_of word = subst (λ (h : Geometry). f / h.frames < lap_of word) same past.past in
      let known : (k : ℕ) → frame_of_card d ≤ k → k < frame_of_card d + g.frames → k % g.frames ≡ f % g.frames → lap_of word ≤ k / g.frames =
      λ k low near slot_is.
      let slot_own : k % u.key.geometry.frames ≡ f % u.key.geometry.frames = subst (λ (h : Geometry). k % h.frames ≡ f % h.frames) (sym same) slot_is in
      client.knows.noted k n word (record { channel = channel; low = omega (arith, start, low); high = omega (arith, start, near) })
      (ap (λ (w : View). slice_index_or w.noted (index_of v.key.geometry k n) None) client.same.view
      ∙ (ap (λ (key : Key). slice_index_or (view_of u).noted (index_of key.geometry k n) None) client.same.key
      ∙ (ap (λ (m : ℕ). slice_index_or (view_of u).noted (m * u.key.geometry.channels + n + 1) None) slot_own ∙ past.shown))) in
      let below : f < frame_of_card d = taken-below g.frames (frame_of_card d) f (omega (arith, g.frames_least)) (lap_of word) later known in
      omega (arith, below, frame-after)

  -- What a client found in a phase is what the phase allows: each position that it loaded is published in it, and gone where the card is;
  -- and each frame that was late is taken by then.
  pub client-found : (s t u v : MixSeat) (found : Findings) → ClientPhase c d s t u v found → AreOf (rules_between c b.card lines) found
  client-found s t u v found client =
      let positions : (view_of v).positions ≡ (view_of t).positions ++ map (λ (p : Position). p.frame) found.loads = ap (λ (w : View). w.positions) client.same.view ∙ client.loads.positions in
      let seen : (view_of v).seen_gone ≡ (view_of u).seen_gone = ap (λ (w : View). w.seen_gone) client.same.view in
      record {
        loads = Each-both (λ (p : Position). Contains (phase_positions (period_of c) (frame_of_card c) lines) p.frame) (λ (p : Position). p.gone ≡ is_gone c) found.loads
            (loads-each (Contains (phase_positions (period_of c) (frame_of_card c) lines)) (frame_of_card c) (seen_of t) (view_of t).positions found.loads
            (omega (arith, client.informed.seen)) client.loads.rising
            (λ i x at up. client-position x (client.knows.positions i x (ap (λ (xs : List ℕ). get_elem? xs i) positions ∙ at)) up))
            (loaded-gone (is_gone c) (view_of t).seen_gone (view_of u).seen_gone (view_of s).seen_gone found.loads client.informed.gone client.loads.gone client.loads.after_gone
            (λ is_so. sym gone-between ∙ client.knows.gone (seen ∙ is_so)));
        late = Each-less (λ (place : ℕ × ℕ). (word : ℕ) × mix_port.IsPast seat_view noted_word u place.0 place.1 word) (λ (place : ℕ × ℕ). place.0 < frame_of_card b.card) found.late
            (λ place past. client-late s t u v found client place.0 place.1 past.0 past.1) client.late;
        overtaken = subst (Each (λ (place : ℕ × ℕ). place.0 + (geometry_of_card c).frames < frame_of_card b.card)) (sym client.overtaken) tt;
      }

  -- ---- of a reader, whose card records

  pub records-between : records_of d ≡ records_of c
  records-between = is.after.records ∙ (is.part.did.moves.records ∙ is.before.records)

  writer-geometry : writer_geometry (writer_of d) ≡ writer_geometry (writer_of c)
  writer-geometry = is.after.writer.geometry ∙ (is.part.did.moves.writer.geometry ∙ is.before.writer.geometry)

  writer-gone : (writer_track (writer_of d)).gone ≡ is_gone c
  writer-gone =
      ap (λ (t : snoop_track.Track). t.gone) is.after.writer.track
      ∙ (is.part.did.moves.writer.gone
      ∙ (ap (λ (x : Bool). (writer_track (writer_of a.card)).gone || x) is.plugged
      ∙ (sym (or-false (writer_track (writer_of a.card)).gone) ∙ (ap (λ (t : snoop_track.Track). t.gone) is.before.writer.track ∙ is.rests.gone))))

  stored-positions : records_of c ≡ true → (writer_track (writer_of d)).published ≡ (writer_track (writer_of c)).published ++ positions_by (period_of c) (frame_of_card c) (ops_by is_of_card lines)
  stored-positions records =
      ap (λ (t : snoop_track.Track). t.published) is.after.writer.track
      ∙ (is.part.did.moves.writer.published
      ∙ (ap (λ (x : Bool). (writer_track (writer_of a.card)).published ++ captured_if x (positions_by (period_of a.card) (frame_of_card a.card) (ops_by is_of_card lines)))
      (is.before.records ∙ records)
      ∙ (ap (λ (t : snoop_track.Track). t.published ++ positions_by (period_of a.card) (frame_of_card a.card) (ops_by is_of_card lines)) is.before.writer.track
      ∙ ap (λ (ps : List ℕ). (writer_track (writer_of c)).published ++ ps) positions-between)))

  -- a position of a reader that the card knows, likewise
  reader-position : records_of c ≡ true → (x : ℕ) → IsPosition (writer_geometry (writer_of d)) (writer_track (writer_of d)).published x → frame_of_card c ≤ x
      → Contains (phase_positions (period_of c) (frame_of_card c) lines) x
  reader-position records x at up =
      let same : writer_geometry (writer_of d) ≡ geometry_of_card c = writer-geometry ∙ sym c.in_step.geometry in
      published-position (period_of c) (first_frame (geometry_of_card c)) (frame_of_card c) (writer_track (writer_of c)).published lines x (frame-least c) is.rests.captured
      (subst (λ (ps : List ℕ). IsPosition (geometry_of_card c) ps x) (stored-positions records)
      (subst (λ (g : Geometry). IsPosition g (writer_track (writer_of d)).published x) same at)) up

  -- a frame of which a reader shows a word of a later lap is stored over
  reader-overtaken : records_of c ≡ true → (s t u v : ReaderSeat) (found : Findings) → ReaderPhase c d s t u v found → (f n word : ℕ) → snoop_port.IsPast readers.seat_view readers.noted_word u f n word
      → f + (geometry_of_card c).frames < frame_of_card b.card
  reader-overtaken records s t u v found reader f n word past =
      let g : Geometry = writer_geometry (writer_of d) in
      let own : readers.geometry_of u ≡ writer_geometry (writer_of c) = reader.geometry ∙ (reader.informed.geometry ∙ reader.of_ring.1) in
      let same : readers.geometry_of u ≡ g = own ∙ sym writer-geometry in
      let rings : g ≡ geometry_of_card c = writer-geometry ∙ sym c.in_step.geometry in
      let next : next_to_store g (writer_track (writer_of d)) ≡ at_frame (frame_of_card d) = writer-next d (records-between ∙ records) in
      let start : first_free (next_to_store g (writer_track (writer_of d))) n ≡ frame_of_card d = first_free-at_frame (next_to_store g (writer_track (writer_of d))) (frame_of_card d) n next in
      let channel : n < g.channels = subst (λ (h : Geometry). n < h.channels) same past.channel in
      let later : f / g.frames + 1 < laps_of word = subst (λ (h : Geometry). f / h.frames + 1 < laps_of word) same past.past in
      let noted : (k : ℕ) → k % g.frames ≡ f % g.frames → slice_index_or (readers.view_of v).noted (index_of g k n) None ≡ Some word =
      λ k slot_is.
      ap (λ (w : snoop_view.View). slice_index_or w.noted (index_of g k n) None) reader.same.view
      ∙ (ap (λ (m : ℕ). slice_index_or (readers.view_of u).noted (m * g.channels + n + 1) None) slot_is
      ∙ (ap (λ (h : Geometry). slice_index_or (readers.view_of u).noted (index_of h f n) None) (sym same) ∙ past.shown)) in
      let least : g.first_lap * g.frames ≤ frame_of_card d = writer-least d (records-between ∙ records) in
      let over : f + g.frames < frame_of_card d =
      stored-over g.frames g.first_lap (frame_of_card d) f (omega (arith, g.frames_least)) least (laps_of word) later
      (λ k low below last slot_is.
      reader.knows.noted k n word (record { channel = channel; least = low; stored = omega (arith, start, below); last = omega (arith, start, last) }) (noted k slot_is))
      (λ k low first slot_is. reader.knows.unused k n word (record { channel = channel; unstored = omega (arith, start, low); first_lap = first }) (noted k slot_is)) in
      let ring : g.frames ≡ (geometry_of_card c).frames = ap (λ (h : Geometry). h.frames) rings in
      omega (arith, over, ring, frame-after)

  -- What a reader found in a phase is what the phase allows: each position that it loaded is published in it, and gone where the card is;
  -- and each frame that was overtaken is stored over by then.
  pub reader-found : records_of c ≡ true → (s t u v : ReaderSeat) (found : Findings) → ReaderPhase c d s t u v found → AreOf (rules_between c b.card lines) found
  reader-found records s t u v found reader =
      let positions : (readers.view_of v).positions ≡ (readers.view_of t).positions ++ map (λ (p : Position). p.frame) found.loads =
      ap (λ (w : snoop_view.View). w.positions) reader.same.view ∙ reader.loads.positions in
      let seen : (readers.view_of v).seen_gone ≡ (readers.view_of u).seen_gone = ap (λ (w : snoop_view.View). w.seen_gone) reader.same.view in
      let informed : (readers.view_of t).seen_gone ≡ ((readers.view_of s).seen_gone || is_gone c) =
      reader.informed.gone ∙ ap (λ (x : Bool). (readers.view_of s).seen_gone || x) is.rests.gone in
      let start : position_of (writer_geometry (writer_of c)) (writer_track (writer_of c)) ≡ frame_of_card c =
      ap (λ (h : Geometry). position_of h (writer_track (writer_of c))) (sym c.in_step.geometry) ∙ is.rests.position records in
      record {
        loads = Each-both (λ (p : Position). Contains (phase_positions (period_of c) (frame_of_card c) lines) p.frame) (λ (p : Position). p.gone ≡ is_gone c) found.loads
            (loads-each (Contains (phase_positions (period_of c) (frame_of_card c) lines)) (frame_of_card c) (readers.seen_of t) (readers.view_of t).positions found.loads
            (omega (arith, reader.informed.seen, start)) reader.loads.rising
            (λ i x at up. reader-position records x (reader.knows.positions i x (ap (λ (xs : List ℕ). get_elem? xs i) positions ∙ at)) up))
            (loaded-gone (is_gone c) (readers.view_of t).seen_gone (readers.view_of u).seen_gone (readers.view_of s).seen_gone found.loads informed reader.loads.gone reader.loads.after_gone
            (λ is_so. sym writer-gone ∙ reader.knows.gone (seen ∙ is_so)));
        late = subst (Each (λ (place : ℕ × ℕ). place.0 < frame_of_card b.card)) (sym reader.late) tt;
        overtaken = Each-less (λ (place : ℕ × ℕ). (word : ℕ) × snoop_port.IsPast readers.seat_view readers.noted_word u place.0 place.1 word)
            (λ (place : ℕ × ℕ). place.0 + (geometry_of_card c).frames < frame_of_card b.card) found.overtaken
            (λ place past. reader-overtaken records s t u v found reader place.0 place.1 past.0 past.1) reader.overtaken;
      }
