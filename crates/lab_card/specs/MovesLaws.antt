-- What a card did first and then, put together.
use Rattle.std.specs.Prelude.{◌≡◌, ℕ, ◌+◌, ◌*◌, ◌≤◌, ◌||◌, Bool, true, false, ℤ, List, [], ◌∷◌, ◌++◌, length, Option}
use Rattle.std.specs.List.{flat_map, range_with_len}
use Rattle.std.proofs.Common.{refl, sym, ap, subst, ◌∙◌, arith, append_assoc}
use Rattle.std.proofs.lemmas.Grind.{flat_map-append}
use Rattle.std.proofs.lemmas.List.{append-nil, length-append}
use Rattle.std.proofs.lemmas.List.Folds.{list_any-append}
use Rattle.std.proofs.lemmas.List.Sums.{sum_by-append, sum_by-cons}
use Rattle.snd_base.specs.declared.geometry.Geometry.{Geometry}
use Rattle.snd_base.specs.declared.places.Cursor.{Cursor}
use Rattle.snd_base.specs.Places.{first_frame}
use Rattle.mix_core.specs.declared.event.Taken.{Taken}
use Rattle.sum_table.specs.declared.seats.player.PlayerSeat.{PlayerSeat}
use Rattle.sum_table.specs.declared.view.Key.{Key}
use Rattle.sum_table.specs.Players.{next_of_player, player_geometry, track_of}
use Rattle.snoop_table.specs.declared.seats.writer.WriterSeat.{WriterSeat}
use Rattle.snoop_table.specs.Captured.{next_to_store}
use Rattle.snoop_table.specs.Writers.{next_frame, writer_geometry, writer_track}
use Rattle.wav_io.specs.Sound.{Sound}
use Rattle.card_player.specs.PlayLaws.{behind_words-append, words_at-append}
use Rattle.card_player.specs.Plays.{at_frame, behind_words, words_at}
use Rattle.card_sim.specs.declared.card.Card.{Card}
use Rattle.card_sim.specs.Runs.{captured_if, period_of, records_of, writer_of}
use Rattle.lab_lines.specs.declared.line.Op.{Op}
use Rattle.lab_lines.specs.Script.{is_unplug, played_by}
use Rattle.lab_lines.specs.declared.row.Row.{Row}
use Rattle.lab_run.specs.Phases.{card_row, card_rows}
use Rattle.lab_card.specs.declared.card.CardActor.{CardActor}
use Rattle.lab_card.specs.Captures.{captured_frame, captured_frames}
use Rattle.lab_card.specs.CardLines.{CardDid, CardPart, frames_by, positions_at, positions_by, unplugs_by}
use Rattle.lab_card.specs.Lists.{range_with_len-append}
use Rattle.lab_card.specs.Moves.{CardMoves, PlayerMoves, WriterMoves, frame_of_card, frames_since_first, geometry_of_card, seat_of_card}

pub or-false : (a : Bool) → a ≡ (a || false)
or-false true = refl
or-false false = refl

or-assoc : (a b c : Bool) → ((a || b) || c) ≡ (a || (b || c))
or-assoc true b c = refl
or-assoc false b c = refl

pub PlayerMoves-none : (p : PlayerSeat) → PlayerMoves p p [] [] false
PlayerMoves-none p = record {
  ring = refl;
  key = refl;
  taken = sym (append-nil (track_of p).taken);
  published = sym (append-nil (track_of p).published);
  next = refl;
  gone = or-false (track_of p).gone;
}

pub PlayerMoves-joined : (p q r : PlayerSeat) (xs ys : List ℤ) (early late : List ℕ) (before after : Bool)
    → PlayerMoves p q xs early before → PlayerMoves q r ys late after → PlayerMoves p r (xs ++ ys) (early ++ late) (before || after)
PlayerMoves-joined p q r xs ys early late before after first then_ =
    let g : Geometry = player_geometry p in
    let same : player_geometry q ≡ g = ap (λ (k : Key). k.geometry) first.key in
    let words : words_at (player_geometry q) (next_of_player q) ys ≡ words_at g (behind_words g (next_of_player p) xs) ys =
    ap (λ (h : Geometry). words_at h (next_of_player q) ys) same ∙ ap (λ (at : Cursor). words_at g at ys) first.next in
    record {
      ring = then_.ring ∙ first.ring;
      key = then_.key ∙ first.key;
      taken = then_.taken
          ∙ (ap (λ (ts : List Taken). ts ++ words_at (player_geometry q) (next_of_player q) ys) first.taken
          ∙ (append_assoc (track_of p).taken (words_at g (next_of_player p) xs) (words_at (player_geometry q) (next_of_player q) ys)
          ∙ ap (λ (ws : List Taken). (track_of p).taken ++ ws)
          (ap (λ (ws : List Taken). words_at g (next_of_player p) xs ++ ws) words ∙ sym (words_at-append g (next_of_player p) xs ys))));
      published = then_.published ∙ (ap (λ (ps : List ℕ). ps ++ late) first.published ∙ append_assoc (track_of p).published early late);
      next = then_.next
          ∙ (ap (λ (h : Geometry). behind_words h (next_of_player q) ys) same
          ∙ (ap (λ (at : Cursor). behind_words g at ys) first.next ∙ sym (behind_words-append g (next_of_player p) xs ys)));
      gone = then_.gone ∙ (ap (λ (b : Bool). b || after) first.gone ∙ or-assoc (track_of p).gone before after);
    }

pub WriterMoves-none : (w : WriterSeat) → WriterMoves w w [] [] false
WriterMoves-none w = record {
  ring = refl;
  geometry = refl;
  stored = sym (append-nil (writer_track w).stored);
  published = sym (append-nil (writer_track w).published);
  gone = or-false (writer_track w).gone;
}

pub WriterMoves-joined : (w v u : WriterSeat) (xs ys : List ℤ) (early late : List ℕ) (before after : Bool)
    → WriterMoves w v xs early before → WriterMoves v u ys late after → WriterMoves w u (xs ++ ys) (early ++ late) (before || after)
WriterMoves-joined w v u xs ys early late before after first then_ = record {
  ring = then_.ring ∙ first.ring;
  geometry = then_.geometry ∙ first.geometry;
  stored = then_.stored ∙ (ap (λ (s : List ℤ). s ++ ys) first.stored ∙ append_assoc (writer_track w).stored xs ys);
  published = then_.published ∙ (ap (λ (s : List ℕ). s ++ late) first.published ∙ append_assoc (writer_track w).published early late);
  gone = then_.gone ∙ (ap (λ (b : Bool). b || after) first.gone ∙ or-assoc (writer_track w).gone before after);
}

-- a card's geometry stays
pub CardMoves-geometry : (c d : Card) (n : ℕ) (xs ys : List ℤ) (ps : List ℕ) (b : Bool) → CardMoves c d n xs ys ps b → geometry_of_card d ≡ geometry_of_card c
CardMoves-geometry c d n xs ys ps b moves = ap (λ (k : Key). k.geometry) moves.player.key

-- nothing is captured of nothing, and of two parts what is captured of each
pub captured_if-none : {T : Type 0} (records : Bool) → captured_if {T = T} records [] ≡ []
captured_if-none true = refl
captured_if-none false = refl

pub captured_if-append : {T : Type 0} (records : Bool) (xs ys : List T) → captured_if records xs ++ captured_if records ys ≡ captured_if records (xs ++ ys)
captured_if-append true xs ys = refl
captured_if-append false xs ys = refl

pub CardMoves-none : (c : Card) → CardMoves c c 0 [] [] [] false
CardMoves-none c = record {
  player = PlayerMoves-none (seat_of_card c);
  writer = subst (λ (xs : List ℤ). WriterMoves (writer_of c) (writer_of c) xs (captured_if (records_of c) []) false) (sym (captured_if-none (records_of c)))
      (subst (λ (ps : List ℕ). WriterMoves (writer_of c) (writer_of c) [] ps false) (sym (captured_if-none (records_of c))) (WriterMoves-none (writer_of c)));
  period = refl;
  records = refl;
  frame = omega arith;
  whole = omega arith;
}

pub CardMoves-joined : (c d e : Card) (n m : ℕ) (xs ys first_captured then_captured : List ℤ) (early late : List ℕ) (before after : Bool)
    → CardMoves c d n xs first_captured early before → CardMoves d e m ys then_captured late after
    → CardMoves c e (n + m) (xs ++ ys) (first_captured ++ then_captured) (early ++ late) (before || after)
CardMoves-joined c d e n m xs ys first_captured then_captured early late before after first then_ = record {
  player = PlayerMoves-joined (seat_of_card c) (seat_of_card d) (seat_of_card e) xs ys early late before after first.player then_.player;
  writer =
      let records : Bool = records_of c in
      let later : WriterMoves (writer_of d) (writer_of e) (captured_if records then_captured) (captured_if records late) after =
      subst (λ (b : Bool). WriterMoves (writer_of d) (writer_of e) (captured_if b then_captured) (captured_if b late) after) first.records then_.writer in
      subst (λ (xs : List ℤ). WriterMoves (writer_of c) (writer_of e) xs (captured_if records (early ++ late)) (before || after))
      (captured_if-append records first_captured then_captured)
      (subst (λ (ps : List ℕ). WriterMoves (writer_of c) (writer_of e) (captured_if records first_captured ++ captured_if records then_captured) ps (before || after))
      (captured_if-append records early late)
      (WriterMoves-joined (writer_of c) (writer_of d) (writer_of e) (captured_if records first_captured) (captured_if records then_captured) (captured_if records early)
      (captured_if records late) before after first.writer later));
  period = then_.period ∙ first.period;
  records = then_.records ∙ first.records;
  frame = omega (arith, first.frame, then_.frame);
  whole =
      let size : length (xs ++ ys) ≡ length xs + length ys = length-append xs ys in
      let same : length ys ≡ m * (geometry_of_card c).channels =
      then_.whole ∙ ap (λ (g : Geometry). m * g.channels) (CardMoves-geometry c d n xs first_captured early before first) in
      let sum : (n + m) * (geometry_of_card c).channels ≡ n * (geometry_of_card c).channels + m * (geometry_of_card c).channels = omega arith in
      omega (arith, size, same, sum, first.whole);
}

-- the captured samples of so many frames, and of the next ones
pub captured_frames-append : (capture : Option Sound) (channels from n m : ℕ)
    → captured_frames capture channels from (n + m) ≡ captured_frames capture channels from n ++ captured_frames capture channels (from + n) m
captured_frames-append capture channels from n m =
    ap (flat_map (captured_frame capture channels)) (range_with_len-append from n m)
    ∙ flat_map-append (captured_frame capture channels) (range_with_len from n) (range_with_len (from + n) m)

-- a card is never before its rings' first frame
pub frame-least : (c : Card) → first_frame (geometry_of_card c) ≤ frame_of_card c
frame-least c = (seat_of_card c).known.next_within.least

-- between calls a card has taken whole frames
pub next-at_frame : (c : Card) → next_of_player (seat_of_card c) ≡ at_frame (frame_of_card c)
next-at_frame c = c.in_step.whole

-- and stored as many where it records
pub writer-next : (c : Card) → records_of c ≡ true → next_to_store (writer_geometry (writer_of c)) (writer_track (writer_of c)) ≡ at_frame (frame_of_card c)
writer-next c records =
    let w : WriterSeat = writer_of c in
    sym w.desk.known.next_is
    ∙ (ap (λ (n : ℕ). record { frame = w.desk.place.next.frame; channel = n }) w.whole
    ∙ ap at_frame (sym (ap (λ (at : Cursor). at.frame) (c.in_step.next records))))

pub writer-least : (c : Card) → records_of c ≡ true → first_frame (writer_geometry (writer_of c)) ≤ frame_of_card c
writer-least c records =
    let low = (writer_of c).desk.known.next_within.least in
    let next : frame_of_card c ≡ next_frame (writer_of c) = ap (λ (at : Cursor). at.frame) (c.in_step.next records) in
    omega (arith, low, next)

frames_since-after : (c d : Card) (n : ℕ) → geometry_of_card d ≡ geometry_of_card c → frame_of_card d ≡ frame_of_card c + n → frames_since_first d ≡ frames_since_first c + n
frames_since-after c d n same moved =
    let low = frame-least c in
    let first : first_frame (geometry_of_card d) ≡ first_frame (geometry_of_card c) = ap first_frame same in
    omega (arith, low, first, moved)

pub CardDid-none : (capture : Option Sound) (a : CardActor) → CardDid capture a a 0 [] false
CardDid-none capture a = record {
  samples = [];
  moves = CardMoves-none a.card;
  played = sym (append-nil a.played.items);
}

pub CardDid-joined : (capture : Option Sound) (a b c : CardActor) (n m : ℕ) (early late : List ℕ) (before after : Bool)
    → CardDid capture a b n early before → CardDid capture b c m late after → CardDid capture a c (n + m) (early ++ late) (before || after)
CardDid-joined capture a b c n m early late before after first then_ =
    let channels : ℕ = (geometry_of_card a.card).channels in
    let from : ℕ = frames_since_first a.card in
    let same : geometry_of_card b.card ≡ geometry_of_card a.card = ap (λ (k : Key). k.geometry) first.moves.player.key in
    let next : captured_frames capture (geometry_of_card b.card).channels (frames_since_first b.card) m ≡ captured_frames capture channels (from + n) m =
    ap (λ (g : Geometry). captured_frames capture g.channels (frames_since_first b.card) m) same
    ∙ ap (λ (k : ℕ). captured_frames capture channels k m) (frames_since-after a.card b.card n same first.moves.frame) in
    let all : captured_frames capture channels from n ++ captured_frames capture (geometry_of_card b.card).channels (frames_since_first b.card) m ≡ captured_frames capture channels from (n + m) =
    ap (λ (xs : List ℤ). captured_frames capture channels from n ++ xs) next ∙ sym (captured_frames-append capture channels from n m) in
    record {
      samples = first.samples ++ then_.samples;
      moves = subst (λ (xs : List ℤ). CardMoves a.card c.card (n + m) (first.samples ++ then_.samples) xs (early ++ late) (before || after)) all
          (CardMoves-joined a.card b.card c.card n m first.samples then_.samples (captured_frames capture channels from n)
          (captured_frames capture (geometry_of_card b.card).channels (frames_since_first b.card) m) early late before after first.moves then_.moves);
      played = then_.played ∙ (ap (λ (xs : List ℤ). xs ++ then_.samples) first.played ∙ append_assoc a.played.items first.samples then_.samples);
    }

pub positions_by-append : (period from : ℕ) (xs ys : List Op) → positions_by period from (xs ++ ys) ≡ positions_by period from xs ++ positions_by period (from + frames_by xs) ys
positions_by-append period from [] ys = ap (λ (k : ℕ). positions_by period k ys) (let e : from ≡ from + 0 = omega arith in e)
positions_by-append period from (x ∷ xs) ys =
    let sum : frames_by (x ∷ xs) ≡ played_by x + frames_by xs = sum_by-cons played_by x xs in
    ap (λ (ps : List ℕ). positions_at period from x ++ ps)
    (positions_by-append period (from + played_by x) xs ys
    ∙ ap (λ (k : ℕ). positions_by period (from + played_by x) xs ++ positions_by period k ys) (let e : from + played_by x + frames_by xs ≡ from + frames_by (x ∷ xs) = omega (arith, sum) in e))
    ∙ sym (append_assoc (positions_at period from x) (positions_by period (from + played_by x) xs) (positions_by period (from + frames_by (x ∷ xs)) ys))

pub card_rows-append : (phase position : ℕ) (xs ys : List Op) → card_rows phase position (xs ++ ys) ≡ card_rows phase position xs ++ card_rows phase (position + frames_by xs) ys
card_rows-append phase position [] ys = ap (λ (k : ℕ). card_rows phase k ys) (let e : position ≡ position + 0 = omega arith in e)
card_rows-append phase position (x ∷ xs) ys =
    let sum : frames_by (x ∷ xs) ≡ played_by x + frames_by xs = sum_by-cons played_by x xs in
    ap (λ (rows : List Row). card_row phase position x ∷ rows)
    (card_rows-append phase (position + played_by x) xs ys
    ∙ ap (λ (k : ℕ). card_rows phase (position + played_by x) xs ++ card_rows phase k ys) (let e : position + played_by x + frames_by xs ≡ position + frames_by (x ∷ xs) = omega (arith, sum) in e))

pub CardPart-none : (capture : Option Sound) (phase : ℕ) (a : CardActor) → CardPart capture phase a a []
CardPart-none capture phase a = record { did = CardDid-none capture a; rows = sym (append-nil a.rows.items) }

pub CardPart-joined : (capture : Option Sound) (phase : ℕ) (a b c : CardActor) (xs ys : List Op) → CardPart capture phase a b xs → CardPart capture phase b c ys → CardPart capture phase a c (xs ++ ys)
CardPart-joined capture phase a b c xs ys first then_ =
    let period : ℕ = period_of a.card in
    let from : ℕ = frame_of_card a.card in
    let moved : frame_of_card b.card ≡ from + frames_by xs = first.did.moves.frame in
    let late : positions_by (period_of b.card) (frame_of_card b.card) ys ≡ positions_by period (from + frames_by xs) ys =
    ap (λ (k : ℕ). positions_by k (frame_of_card b.card) ys) first.did.moves.period ∙ ap (λ (k : ℕ). positions_by period k ys) moved in
    let positions : positions_by period from xs ++ positions_by (period_of b.card) (frame_of_card b.card) ys ≡ positions_by period from (xs ++ ys) =
    ap (λ (ps : List ℕ). positions_by period from xs ++ ps) late ∙ sym (positions_by-append period from xs ys) in
    record {
      did = subst (λ (n : ℕ). CardDid capture a c n (positions_by period from (xs ++ ys)) (unplugs_by (xs ++ ys))) (sym (sum_by-append played_by xs ys))
          (subst (λ (b : Bool). CardDid capture a c (frames_by xs + frames_by ys) (positions_by period from (xs ++ ys)) b) (sym (list_any-append is_unplug xs ys))
          (subst (λ (ps : List ℕ). CardDid capture a c (frames_by xs + frames_by ys) ps (unplugs_by xs || unplugs_by ys)) positions
          (CardDid-joined capture a b c (frames_by xs) (frames_by ys) (positions_by period from xs) (positions_by (period_of b.card) (frame_of_card b.card) ys) (unplugs_by xs) (unplugs_by ys) first.did then_.did)));
      rows = then_.rows
          ∙ (ap (λ (k : ℕ). b.rows.items ++ card_rows phase k ys) moved
          ∙ (ap (λ (rows : List Row). rows ++ card_rows phase (from + frames_by xs) ys) first.rows
          ∙ (append_assoc a.rows.items (card_rows phase from xs) (card_rows phase (from + frames_by xs) ys)
          ∙ ap (λ (rows : List Row). a.rows.items ++ rows) (sym (card_rows-append phase from xs ys)))));
    }
