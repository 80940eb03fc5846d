-- The card of a lab at a stage of a run: all that it took it played, and all that it stored is what the capture file has.
use Rattle.std.specs.Prelude.{◌≡◌, ℕ, ◌+◌, ◌*◌, ◌-◌, nat_lt, Bool, List, [], ◌++◌, length, Option, All}
use Rattle.std.proofs.Common.{refl, sym, ap, ◌∙◌, arith}
use Rattle.std.proofs.lemmas.List.{length-append}
use Rattle.snd_base.specs.declared.geometry.Geometry.{Geometry}
use Rattle.snd_base.specs.declared.places.Cursor.{Cursor}
use Rattle.snd_base.specs.Places.{first_frame}
use Rattle.mix_core.specs.declared.event.Taken.{Taken}
use Rattle.sum_table.specs.declared.view.Track.{Track}
use Rattle.sum_table.specs.Players.{next_of_player, track_of}
use Rattle.wav_io.specs.Sound.{Sound}
use Rattle.card_player.specs.Plays.{at_frame, behind_words, words_at}
use Rattle.card_player.specs.PlayLaws.{behind_words-append, words_at-append}
use Rattle.card_sim.specs.Runs.{records_of}
use Rattle.lab_lines.specs.declared.line.Line.{Line}
use Rattle.lab_lines.specs.declared.line.Op.{Op}
use Rattle.lab_lines.specs.Limits.{IsLine}
use Rattle.lab_lines.specs.Script.{is_of_card}
use Rattle.lab_lines.specs.declared.row.Row.{Row}
use Rattle.lab_run.specs.Client.{Client}
use Rattle.lab_run.specs.Items.{phase_end}
use Rattle.lab_run.specs.Phases.{ops_by}
use Rattle.lab_run.specs.Reader.{Reader}
use Rattle.lab_run.specs.Rules.{AtPort}
use Rattle.lab_run.specs.Stage.{Session, Stage}
use Rattle.lab_card.specs.declared.card.CardActor.{CardActor}
use Rattle.lab_card.specs.CardLines.{CardPart, frames_by}
use Rattle.lab_card.specs.MeetLaws.{IsSameCard-none, Rests-same, frame-same, geometry-same}
use Rattle.lab_card.specs.Meets.{IsSameCard}
use Rattle.lab_card.specs.Moves.{frame_of_card, frames_since_first, geometry_of_card, seat_of_card}
use Rattle.lab_card.specs.MovesLaws.{CardMoves-geometry, frame-least}
use Rattle.lab_card.specs.Rests.{Rests, Rests-after}
use Rattle.lab_card.specs.Stages.{IsCardAt, IsCardAt-after, IsCardAt-same}
use Rattle.lab_readers.specs.Recorded.{IsCapturedUpTo}
use Rattle.lab_readers.specs.RecordedLaws.{IsCapturedUpTo-part, IsCapturedUpTo-same}
use Rattle.lab_phase.specs.Borders.{IsSameAtCard}

-- the first word of the sum ring of a shape
abbrev pub first_word : Geometry → Cursor
first_word g = at_frame (first_frame g)

-- all words that a card took are what it played, from the first frame on
pub record PlaysAll (a : CardActor) : Type 0 where
  pub taken : (track_of (seat_of_card a.card)).taken
      ≡ words_at (geometry_of_card a.card) (first_word (geometry_of_card a.card)) a.played.items
  pub next : next_of_player (seat_of_card a.card)
      ≡ behind_words (geometry_of_card a.card) (first_word (geometry_of_card a.card)) a.played.items
  pub len : length a.played.items ≡ frames_since_first a.card * (geometry_of_card a.card).channels

-- whether a session has a reader
abbrev pub has_readers : Session → Bool
has_readers session = nat_lt 0 (length session.readers)

-- the card of a lab between two items: it stores what it captures where the session has a reader
pub record IsCardIn (session : Session) (capture : Option Sound) (stage : Stage)
    (a : CardActor) : Type 0 where
  pub at : IsCardAt session stage a.card
  pub rests : Rests a.card
  pub records : records_of a.card ≡ has_readers session
  pub captured : IsCapturedUpTo capture a.card
  pub plays : PlaysAll a

-- ---- what it played

pub PlaysAll-new : (a : CardActor) → a.played.items ≡ [] → (track_of (seat_of_card a.card)).taken ≡ [] → next_of_player (seat_of_card a.card) ≡ first_word (geometry_of_card a.card) → PlaysAll a
PlaysAll-new a none_played none_taken first =
    let frame : frame_of_card a.card ≡ first_frame (geometry_of_card a.card) = ap (λ (at : Cursor). at.frame) first in
    let since : frames_since_first a.card ≡ 0 = omega (arith, frame) in
    record {
      taken = none_taken ∙ ap (words_at (geometry_of_card a.card) (first_word (geometry_of_card a.card))) (sym none_played);
      next = first ∙ ap (behind_words (geometry_of_card a.card) (first_word (geometry_of_card a.card))) (sym none_played);
      len = ap length none_played ∙ (let zero_frames : 0 ≡ 0 * (geometry_of_card a.card).channels = omega arith in
          zero_frames ∙ ap (λ (n : ℕ). n * (geometry_of_card a.card).channels) (sym since));
    }

-- a card that met notes, or whose seats were borrowed, and that played nothing
pub record IsSameActor (a b : CardActor) : Type 0 where
  pub card : IsSameCard a.card b.card
  pub played : b.played.items ≡ a.played.items

pub IsSameActor-none : (a : CardActor) → IsSameActor a a
IsSameActor-none a = record { card = IsSameCard-none a.card; played = refl }

PlaysAll-same : (a b : CardActor) → IsSameActor a b → PlaysAll a → PlaysAll b
PlaysAll-same a b same is =
    let shape : geometry_of_card b.card ≡ geometry_of_card a.card = geometry-same a.card b.card same.card in
    let frame : frame_of_card b.card ≡ frame_of_card a.card = frame-same a.card b.card same.card in
    record {
      taken = ap (λ (t : Track). t.taken) same.card.player.track ∙ (is.taken
          ∙ (ap (λ (g : Geometry). words_at g (first_word g) a.played.items) (sym shape) ∙ ap (words_at (geometry_of_card b.card) (first_word (geometry_of_card b.card))) (sym same.played)));
      next = same.card.player.next ∙ (is.next
          ∙ (ap (λ (g : Geometry). behind_words g (first_word g) a.played.items) (sym shape)
          ∙ ap (behind_words (geometry_of_card b.card) (first_word (geometry_of_card b.card))) (sym same.played)));
      len = ap length same.played ∙ (is.len
          ∙ (ap (λ (n : ℕ). (n - first_frame (geometry_of_card a.card)) * (geometry_of_card a.card).channels) (sym frame)
          ∙ ap (λ (g : Geometry). (frame_of_card b.card - first_frame g) * g.channels) (sym shape)));
    }

PlaysAll-after : (capture : Option Sound) (phase : ℕ) (a b : CardActor) (ops : List Op) → CardPart capture phase a b ops → PlaysAll a → PlaysAll b
PlaysAll-after capture phase a b ops part is =
    let did = part.did in
    let moves = did.moves in
    let g : Geometry = geometry_of_card a.card in
    let shape : geometry_of_card b.card ≡ g =
    CardMoves-geometry a.card b.card (frames_by ops) did.samples _ _ _ moves in
    let words : words_at g (next_of_player (seat_of_card a.card)) did.samples ≡ words_at g (behind_words g (first_word g) a.played.items) did.samples =
    ap (λ (at : Cursor). words_at g at did.samples) is.next in
    let all : words_at g (first_word g) (a.played.items ++ did.samples) ≡ words_at g (first_word g) a.played.items ++ words_at g (behind_words g (first_word g) a.played.items) did.samples =
    words_at-append g (first_word g) a.played.items did.samples in
    let low = frame-least a.card in
    let moved = moves.frame in
    let since : frame_of_card b.card - first_frame g ≡ frames_since_first a.card + frames_by ops = omega (arith, low, moved) in
    let count : frames_since_first a.card * g.channels + frames_by ops * g.channels ≡ (frames_since_first a.card + frames_by ops) * g.channels = omega arith in
    record {
      taken = moves.player.taken
          ∙ (ap (λ (ts : List Taken). ts ++ words_at g (next_of_player (seat_of_card a.card)) did.samples) is.taken
          ∙ (ap (λ (ts : List Taken). words_at g (first_word g) a.played.items ++ ts) words
          ∙ (sym all
          ∙ (ap (words_at g (first_word g)) (sym did.played) ∙ ap (λ (h : Geometry). words_at h (first_word h) b.played.items) (sym shape)))));
      next = moves.player.next
          ∙ (ap (λ (at : Cursor). behind_words g at did.samples) is.next
          ∙ (sym (behind_words-append g (first_word g) a.played.items did.samples)
          ∙ (ap (behind_words g (first_word g)) (sym did.played) ∙ ap (λ (h : Geometry). behind_words h (first_word h) b.played.items) (sym shape))));
      len = ap length did.played
          ∙ (length-append a.played.items did.samples
          ∙ (ap (λ (n : ℕ). n + length did.samples) is.len
          ∙ (ap (λ (n : ℕ). frames_since_first a.card * g.channels + n) moves.whole
          ∙ (count
          ∙ (ap (λ (n : ℕ). n * g.channels) (sym since) ∙ ap (λ (h : Geometry). (frame_of_card b.card - first_frame h) * h.channels) (sym shape))))));
    }

-- ---- the card of a lab

pub IsCardIn-same : (session : Session) (capture : Option Sound) (stage after : Stage) (a b : CardActor) → IsSameActor a b → IsSameAtCard stage after → IsCardIn session capture stage a
    → IsCardIn session capture after b
IsCardIn-same session capture stage after a b same stays is =
    let at = IsCardAt-same session stage a.card b.card same.card is.at in
    record {
      at = record { ring = at.ring; period = at.period; frame = at.frame ∙ sym stays.position; gone = at.gone ∙ sym stays.gone };
      rests = Rests-same a.card b.card same.card is.rests;
      records = same.card.records ∙ is.records;
      captured = IsCapturedUpTo-same capture a.card b.card same.card is.captured;
      plays = PlaysAll-same a b same is.plays;
    }

pub IsCardIn-after : (session : Session) (capture : Option Sound) (stage : Stage) (phase clients readers : ℕ) (a b : CardActor) (lines : List Line)
    (client_ends : List (AtPort × Client) × List Row) (reader_ends : List (AtPort × Reader) × List Row) → All (IsLine clients readers) lines
    → CardPart capture phase a b (ops_by is_of_card lines) → IsCardIn session capture stage a
    → IsCardIn session capture (phase_end session stage lines client_ends reader_ends) b
IsCardIn-after session capture stage phase clients readers a b lines client_ends reader_ends each part is = record {
  at = IsCardAt-after session stage capture phase clients readers a b lines client_ends reader_ends each part is.at;
  rests = Rests-after capture phase a b (ops_by is_of_card lines) is.rests part;
  records = part.did.moves.records ∙ is.records;
  captured = IsCapturedUpTo-part capture a.card a b b.card (ops_by is_of_card lines) (IsSameCard-none a.card) part (IsSameCard-none b.card) is.captured;
  plays = PlaysAll-after capture phase a b (ops_by is_of_card lines) part is.plays;
}
