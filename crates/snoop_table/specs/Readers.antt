-- What contracts say of a reader's seat, and what its steps do.
use Rattle.std.specs.Prelude.{◌≡◌, ◌≢◌, ℕ, ◌+◌, ◌≤◌, Bool, true, false, ◌||◌, Option, None, Some, List, ◌++◌, map, All, ⊤}
use Rattle.std.specs.List.{list_any, slice_index_or}
use Rattle.std.proofs.Common.{refl, sym, ap, ◌∙◌, subst, arith, append_assoc}
use Rattle.std.proofs.lemmas.List.{append-nil, map-append}
use Rattle.std.proofs.lemmas.List.Elements.{All-append}
use Rattle.std.proofs.lemmas.List.Folds.{list_any-append}
use Rattle.atomic_table.specs.Seated.{TableId}
use Rattle.snd_base.specs.declared.geometry.Geometry.{Geometry}
use Rattle.snd_base.specs.Places.{IsWithin, lap}
use Rattle.snd_base.specs.Relations.{Composes}
use Rattle.mix_core.specs.declared.port.Position.{Position}
use Rattle.mix_core.specs.Port.{AreRisingFrom, last_frame}
use Rattle.mix_core.specs.PortLaws.{AreRisingFrom-append, last_frame-append}
use Rattle.ring_rule.specs.NoteLaws.{NeverFall-joined, NeverFall-same}
use Rattle.ring_rule.specs.Notes.{NeverFall}
use Rattle.ring_rule.specs.WordLaws.{NotPast-upper}
use Rattle.ring_rule.specs.Words.{index_of}
use Rattle.snoop_core.specs.declared.port.Frame.{Frame}
use Rattle.snoop_core.specs.declared.port.Got.{Got}
use Rattle.snoop_core.specs.Port.{ShowsFrom, SnoopView}
use Rattle.snoop_core.specs.Word.{laps_of, sample_of}
use Rattle.snoop_table.specs.declared.seats.reader.ReaderSeat.{ReaderSeat}
use Rattle.snoop_table.specs.declared.view.View.{View}
use Rattle.snoop_table.specs.Steps.{Finds, with_note, with_position, with_sample}

-- what a seat knows, and did
abbrev pub view_of : ReaderSeat → View
view_of s = s.seat.me.0

-- which ring it is: no two rings have one identity
abbrev pub ring_of : ReaderSeat → TableId
ring_of s = s.seat.table_id

abbrev pub geometry_of : ReaderSeat → Geometry
geometry_of s = s.geometry

-- the greatest position that it saw
abbrev pub seen_of : ReaderSeat → ℕ
seen_of s = s.seen

-- what is plain of a seat
abbrev pub seat_view : ReaderSeat → SnoopView
seat_view s = record { geometry = s.geometry; seen = s.seen }

-- the word that a seat noted last at a frame and channel
abbrev pub noted_word : ReaderSeat → ℕ → ℕ → Option ℕ
noted_word s f c = slice_index_or (view_of s).noted (index_of s.geometry f c) None

-- a seat of the same ring
abbrev pub SameReader : ReaderSeat → ReaderSeat → Type 0
SameReader s t = (ring_of t ≡ ring_of s) × (t.geometry ≡ s.geometry)

-- a seat of one ring, later, which met no other seat in between: none of its noted words falls
pub record IsLaterSeat (s t : ReaderSeat) : Type 0 where
  pub ring : ring_of t ≡ ring_of s
  pub geometry : t.geometry ≡ s.geometry
  pub notes : NeverFall (view_of s).noted (view_of t).noted

-- a seat got some frames: the list of those that it got has them at its end
pub record SeatGot (s t : ReaderSeat) (fs : List Frame) : Type 0 where
  pub goes : IsLaterSeat s t
  pub got : (view_of t).got ≡ (view_of s).got ++ fs

-- a seat loaded some positions: the list of those that it saw has them at its end, they never fall, and the last of them is
-- the one seen; the seat has seen the card gone exactly where it had before or one of them is gone, and once it has, each later
-- one is gone
pub record SeatLoaded (s t : ReaderSeat) (ps : List Position) : Type 0 where
  pub positions : (view_of t).positions ≡ (view_of s).positions ++ map (λ (p : Position). p.frame) ps
  pub rising : AreRisingFrom s.seen ps
  pub last : t.seen ≡ last_frame s.seen ps
  pub gone : (view_of t).seen_gone ≡ ((view_of s).seen_gone || list_any (λ (p : Position). p.gone) ps)
  pub after_gone : (view_of s).seen_gone ≡ true → All (λ (p : Position). p.gone ≡ true) ps

-- a ring between threads adds nothing to what a load of a frame says: another thread may store over the frame at any time
abbrev pub SeatFinds : ReaderSeat → ReaderSeat → ℕ → Got → Type 0
SeatFinds s t f end = ⊤

-- a position was loaded, which is not before the one seen before
pub record HasLocated (s t : ReaderSeat) (p : Position) : Type 0 where
  pub goes : IsLaterSeat s t
  pub view : view_of t ≡ with_position (view_of s) p.frame p.gone
  pub seen : t.seen ≡ p.frame
  pub not_before : s.seen ≤ p.frame
  pub within : IsWithin s.geometry p.frame
  pub gone : (view_of s).seen_gone ≡ true → p.gone ≡ true

-- the word of a frame and channel was found, and noted; where it has the frame's lap, it is the frame's sample
pub record HasLooked (s t : ReaderSeat) (f c n : ℕ) : Type 0 where
  pub goes : IsLaterSeat s t
  pub own : laps_of n ≡ lap s.geometry f + 1 → view_of t ≡ with_sample (with_note (view_of s) (index_of s.geometry f c) n) f c (sample_of n)
  pub other : laps_of n ≢ lap s.geometry f + 1 → view_of t ≡ with_note (view_of s) (index_of s.geometry f c) n
  pub seen : t.seen ≡ s.seen
  pub shows : noted_word t f c ≡ Some n
  pub found : Finds (view_of s) f c n

pub IsLaterSeat-same : (s : ReaderSeat) → IsLaterSeat s s
IsLaterSeat-same s = record { ring = refl; geometry = refl; notes = NeverFall-same (view_of s).noted (view_of s).noted refl }

pub IsLaterSeat-joined : (p q r : ReaderSeat) → IsLaterSeat p q → IsLaterSeat q r → IsLaterSeat p r
IsLaterSeat-joined p q r first then = record {
  ring = then.ring ∙ first.ring;
  geometry = then.geometry ∙ first.geometry;
  notes = NeverFall-joined (view_of p).noted (view_of q).noted (view_of r).noted first.notes then.notes;
}

pub SeatGot-composes : Composes SeatGot
SeatGot-composes = record {
  none = λ s. record { goes = IsLaterSeat-same s; got = sym (append-nil (view_of s).got) };
  joined = λ p q r xs ys first then. record {
    goes = IsLaterSeat-joined p q r first.goes then.goes;
    got = then.got ∙ (ap (λ fs. fs ++ ys) first.got ∙ append_assoc (view_of p).got xs ys);
  };
}

pub or_false : (a : Bool) → a ≡ (a || false)
or_false true = refl
or_false false = refl

or_assoc : (a b c : Bool) → ((a || b) || c) ≡ (a || (b || c))
or_assoc true b c = refl
or_assoc false b c = refl

pub SeatLoaded-composes : Composes SeatLoaded
SeatLoaded-composes = record {
  none = λ s. record {
    positions = sym (append-nil (view_of s).positions);
    rising = tt;
    last = refl;
    gone = or_false (view_of s).seen_gone;
    after_gone = λ is k d inside. absurd (omega arith);
  };
  joined = λ p q r xs ys first then. record {
    positions =
        then.positions
        ∙ (ap (λ ps. ps ++ map (λ (x : Position). x.frame) ys) first.positions
        ∙ (append_assoc (view_of p).positions (map (λ (x : Position). x.frame) xs) (map (λ (x : Position). x.frame) ys)
        ∙ ap (λ ps. (view_of p).positions ++ ps) (sym (map-append (λ (x : Position). x.frame) xs ys))));
    rising = AreRisingFrom-append p.seen xs ys first.rising (subst (λ d. AreRisingFrom d ys) first.last then.rising);
    last = then.last ∙ (ap (λ d. last_frame d ys) first.last ∙ sym (last_frame-append p.seen xs ys));
    gone = then.gone
        ∙ (ap (λ a. a || list_any (λ (x : Position). x.gone) ys) first.gone
        ∙ (or_assoc (view_of p).seen_gone (list_any (λ (x : Position). x.gone) xs) (list_any (λ (x : Position). x.gone) ys)
        ∙ ap (λ a. (view_of p).seen_gone || a) (sym (list_any-append (λ (x : Position). x.gone) xs ys))));
    after_gone = λ is. All-append (λ (x : Position). x.gone ≡ true) xs ys (first.after_gone is) (then.after_gone (first.gone ∙ ap (λ a. a || list_any (λ (x : Position). x.gone) xs) is));
  };
}

-- no word that a seat shows falls, by its lap
pub SeatGot-shown : (p q : ReaderSeat) (fs : List Frame) (f c word : ℕ) → SeatGot p q fs → noted_word p f c ≡ Some word → ShowsFrom noted_word q f c word
SeatGot-shown p q fs f c word got is =
    let later = got.goes.notes (index_of p.geometry f c) word is in
    record {
      now = later.0;
      shown = ap (λ (g : Geometry). slice_index_or (view_of q).noted (index_of g f c) None) got.goes.geometry ∙ later.1;
      not_before = NotPast-upper word later.0 later.2;
    }
