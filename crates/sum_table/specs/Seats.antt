-- What contracts say of a mix seat, and what its steps do.
use Rattle.std.specs.Prelude.{◌≡◌, ℕ, ◌+◌, ◌-◌, ◌*◌, ◌<◌, ◌≤◌, Bool, true, false, Option, None, Some, List, [], ◌∷◌, ◌++◌, ◌||◌, map, All, nat_lt, ℤ}
use Rattle.std.specs.List.{list_any, slice_index_or}
use Rattle.std.proofs.Common.{refl, sym, ap, ◌∙◌, subst, arith, append_assoc}
use Rattle.std.proofs.lemmas.List.{append-nil, map-append}
use Rattle.std.proofs.lemmas.List.Elements.{All-append}
use Rattle.std.proofs.lemmas.List.Folds.{list_any-append}
use Rattle.std.proofs.lemmas.List.Sums.{fold-append}
pub use Rattle.atomic_table.specs.Seated.{TableId}
use Rattle.snd_base.specs.declared.geometry.Geometry.{Geometry}
use Rattle.snd_base.specs.declared.places.Cursor.{Cursor}
use Rattle.snd_base.specs.Places.{IsFrom, IsWithin, lap}
use Rattle.snd_base.specs.Relations.{Composes}
use Rattle.mix_core.specs.declared.gate.Pass.{Pass}
use Rattle.mix_core.specs.declared.gate.StepKind.{StepKind}
use Rattle.mix_core.specs.declared.marks.Marks.{Marks}
use Rattle.mix_core.specs.declared.port.Ended.{Ended}
use Rattle.mix_core.specs.declared.port.Ended.TheVariants.{Whole, Late, Stopped}
use Rattle.mix_core.specs.declared.port.Entry.{Entry}
use Rattle.mix_core.specs.declared.port.Kind.{Kind}
use Rattle.mix_core.specs.declared.port.Kind.TheVariants.{Added, Withdrawn}
use Rattle.mix_core.specs.declared.port.Position.{Position}
use Rattle.mix_core.specs.History.{IsLegal, IsReply, Row, laid_of, late_row}
use Rattle.mix_core.specs.Laid.{AreAdds, EndsIn, a_withdrawal, an_add, marks_after, marks_from, standing, without_last}
use Rattle.mix_core.specs.MarkLaws.{without_last-more}
use Rattle.mix_core.specs.OwnLaws.{standing-more}
use Rattle.mix_core.specs.PortLaws.{AreRisingFrom-append, last_frame-append, standing-append_adds}
use Rattle.mix_core.specs.Port.{AreRisingFrom, Lays, OnLate, OnWhole, PortView, ShowsFrom, last_frame}
use Rattle.sum_table.specs.declared.seats.mix.MixSeat.{MixSeat}
use Rattle.sum_table.specs.declared.seats.mix.RingSpot.{RingSpot}
use Rattle.sum_table.specs.declared.view.Key.{Key}
use Rattle.sum_table.specs.declared.view.View.{View}
use Rattle.sum_table.specs.Exact.{BeginsWith}
use Rattle.sum_table.specs.Known.{greater}
use Rattle.sum_table.specs.Laid.{by_member, own_entries}
use Rattle.sum_table.specs.Steps.{Finds, IsStep, IsSumOf, Makes, MakesLook, in_row, sighting, with_entry, with_note, with_position}
use Rattle.ring_rule.specs.Spots.{IsSpot}
use Rattle.ring_rule.specs.Words.{index_of, rank}
use Rattle.ring_rule.specs.NoteLaws.{NeverFall-joined, NeverFall-same}
use Rattle.ring_rule.specs.Notes.{NeverFall}
use Rattle.ring_rule.specs.WordLaws.{NotPast-rank}

-- what a seat knows, and did
abbrev pub view_of : MixSeat → View
view_of s = s.seat.me.0

-- which ring it is: no two rings have one identity
abbrev pub ring_of : MixSeat → TableId
ring_of s = s.seat.table_id

-- what was settled when the ring was made
abbrev pub key_of : MixSeat → Key
key_of s = s.key

abbrev pub geometry_of : MixSeat → Geometry
geometry_of s = s.key.geometry

-- the member whose seat it is
abbrev pub member_of : MixSeat → ℕ
member_of s = s.member

-- how many places the seat has, how far it has placed samples, the greatest position that it saw, and the greatest frame that it placed in
abbrev pub places_of_seat : MixSeat → ℕ
places_of_seat s = s.places

abbrev pub cursor_of_seat : MixSeat → Cursor
cursor_of_seat s = s.reach.marks.cursor

abbrev pub seen_of : MixSeat → ℕ
seen_of s = s.seen

abbrev pub last_of_seat : MixSeat → Option ℕ
last_of_seat s = s.reach.last

-- the marks of a seat, and the lists in which its standing adds end
abbrev pub marks_of_seat : MixSeat → Marks
marks_of_seat s = s.reach.marks

abbrev pub SeatEndsIn : MixSeat → List Entry → Type 0
SeatEndsIn s es = EndsIn (standing (view_of s).laid) es

-- a seat can add where it has a place
abbrev pub CanAdd : MixSeat → Type 0
CanAdd s = 0 < s.places

-- a seat that went to the lap of a frame, and is the same but for this
pub record IsTurned (s t : MixSeat) (frame : ℕ) : Type 0 where
  pub in_lap : lap s.key.geometry frame ≡ t.start.lap
  pub ring : ring_of t ≡ ring_of s
  pub view : view_of t ≡ view_of s
  pub key : t.key ≡ s.key
  pub member : t.member ≡ s.member
  pub places : t.places ≡ s.places
  pub marks : t.reach.marks ≡ s.reach.marks
  pub seen : t.seen ≡ s.seen

-- a seat finds the word of a frame and channel there: it is the seat's ring, and the word's spot
pub record IsRingSpot (s : MixSeat) (frame channel : ℕ) (r : RingSpot) : Type 0 where
  pub table : r.ring.now.table_id ≡ ring_of s
  pub key : r.ring.now.key ≡ s.key
  pub spot : IsSpot s.key.geometry frame channel r.spot

-- what is plain of a seat
abbrev pub seat_view : MixSeat → PortView
seat_view s = record { geometry = s.key.geometry; member = s.member; can_add = nat_lt 0 s.places; marks = s.reach.marks; seen = s.seen }

-- the ring's history up to the last step of a seat
abbrev pub history_of : MixSeat → List Row
history_of s = (view_of s).history

-- the entry that a seat places: it adds a sample, or withdraws it
abbrev pub entry_by : MixSeat → Kind → ℕ → ℕ → ℤ → Entry
entry_by s k f c x = record { member = s.member; frame = f; channel = c; sample = x; kind = k }

-- a seat may add a sample at a frame and channel, or withdraw it there
abbrev pub MayLay : Kind → MixSeat → ℕ → ℕ → ℤ → Type 0
MayLay Added s f c x =
    CanAdd s × (c < s.key.geometry.channels) × IsFrom s.reach.marks.cursor f c × (f < s.seen + s.key.geometry.frames) × (lap s.key.geometry f < 4294967295)
MayLay Withdrawn s f c x = SeatEndsIn s (an_add s.member f c x ∷ []) × IsFrom s.reach.marks.floor f c

-- the word that a seat noted last at a frame and channel
abbrev pub noted_word : MixSeat → ℕ → ℕ → Option ℕ
noted_word s f c = slice_index_or (view_of s).noted (index_of s.key.geometry f c) None

-- no noted word is followed by an earlier one, by lap and then by count
abbrev pub NotesRise : View → View → Type 0
NotesRise v w = NeverFall v.noted w.noted

-- a seat of one ring, later, which met no other seat in between: its key and member are the same, it has seen no less of the
-- ring's history, and none of its noted words falls
pub record IsLaterSeat (s t : MixSeat) : Type 0 where
  pub ring : ring_of t ≡ ring_of s
  pub key : t.key ≡ s.key
  pub member : t.member ≡ s.member
  pub places : t.places ≡ s.places
  pub history : BeginsWith (view_of t).history (view_of s).history
  pub heard : (view_of t).heard ≡ (view_of s).heard
  pub notes : NotesRise (view_of s) (view_of t)

-- a history goes on to a later one in which a seat's own adds, which were these, have some entries more, in order: each is an
-- add with the reply `In` of the seat's number, whose adds are exactly those that the seat made
abbrev pub Adds : Geometry → List Row → List Entry → List Entry → List Row → Type 0
Adds g h mine [] later = BeginsWith later h
Adds g h mine (e ∷ es) later =
    (by : ℕ) × (members : ℕ) × (between : List Row) × (j : List Row)
    × (j ≡ (h ++ between) ++ in_row by e ∷ [])
    × IsLegal g members j
    × (own_entries by (laid_of j) ≡ map (by_member by) (mine ++ e ∷ []))
    × Adds g j (mine ++ e ∷ []) es later

-- a seat placed some entries: its list of placed entries, and the list of what it placed itself, have them at their end, and so has the
-- ring's history as far as the seat has seen it; and its marks went on by them
pub record SeatLaid (s t : MixSeat) (es : List Entry) : Type 0 where
  pub goes : IsLaterSeat s t
  pub marks : t.reach.marks ≡ marks_from s.key.geometry s.reach.marks es
  pub laid : (view_of t).laid ≡ (view_of s).laid ++ es
  pub mine : (view_of t).mine ≡ (view_of s).mine ++ es
  pub adds : Adds s.key.geometry (view_of s).history (view_of s).mine es (view_of t).history

-- a seat loaded some positions: the list of those that it saw has them at its end, they never fall, and the last of them is
-- the one seen; the seat has seen the card gone exactly where it had before or one of them is gone, and once it has, each later
-- one is gone
pub record SeatLoaded (s t : MixSeat) (ps : List Position) : Type 0 where
  pub positions : (view_of t).positions ≡ (view_of s).positions ++ map (λ (p : Position). p.frame) ps
  pub rising : AreRisingFrom s.seen ps
  pub last : t.seen ≡ last_frame s.seen ps
  pub gone : (view_of t).seen_gone ≡ ((view_of s).seen_gone || list_any (λ (p : Position). p.gone) ps)
  pub after_gone : (view_of s).seen_gone ≡ true → All (λ (p : Position). p.gone ≡ true) ps

-- a word was found at a frame and channel, and noted; nothing else changed. Where it has the frame's lap, it represents what
-- the history placed there; where its lap is past the frame's, this was an add with the reply `Late`
pub record HasNoted (s t : MixSeat) (f c n : ℕ) : Type 0 where
  pub goes : IsLaterSeat s t
  pub view : view_of t ≡ with_note (view_of s) (view_of t).history (index_of s.key.geometry f c) n
  pub marks : t.reach.marks ≡ s.reach.marks
  pub seen : t.seen ≡ s.seen
  pub last : t.reach.last ≡ s.reach.last
  pub shows : noted_word t f c ≡ Some n
  pub found : Finds (view_of s) (index_of s.key.geometry f c) n
  pub sum : IsSumOf s.key.geometry (view_of t).history f c n
  pub event : MakesLook (view_of s) (view_of t) (index_of s.key.geometry f c) n

-- an entry was placed, and the cursor is right after it. This was an add with the reply `In`
pub record HasLaid (s t : MixSeat) (e : Entry) : Type 0 where
  pub goes : IsLaterSeat s t
  pub view : view_of t ≡ with_entry (view_of s) (view_of t).history e
  pub marks : t.reach.marks ≡ marks_after s.key.geometry s.reach.marks e
  pub seen : t.seen ≡ s.seen
  pub last : t.reach.last ≡ greater s.reach.last (Some e.frame)
  pub event : Makes (view_of s) (view_of t) (λ by. in_row by e ∷ [])

-- another word than the expected one was found, and noted: it is past it by lap and then by count
pub record HasLost (s t : MixSeat) (f c old n : ℕ) : Type 0 where
  pub noted : HasNoted s t f c n
  pub past : rank old < rank n

-- a position was loaded, which is not before the one seen before
pub record HasLocated (s t : MixSeat) (p : Position) : Type 0 where
  pub goes : IsLaterSeat s t
  pub view : view_of t ≡ with_position (view_of s) (view_of t).history p.frame p.gone
  pub marks : t.reach.marks ≡ s.reach.marks
  pub seen : t.seen ≡ p.frame
  pub last : t.reach.last ≡ s.reach.last
  pub not_before : s.seen ≤ p.frame
  pub within : IsWithin s.key.geometry p.frame
  pub gone : (view_of s).seen_gone ≡ true → p.gone ≡ true
  pub event : Makes (view_of s) (view_of t) (λ _. [])

-- from one state of a seat to another, the last of its steps was an add with the reply `In` of the seat's own number
abbrev pub MakesIn : MixSeat → MixSeat → Entry → Type 0
MakesIn s t e = Makes (view_of s) (view_of t) (λ by. in_row by e ∷ [])

-- the last of them was an add with the reply `Late`: the history so far determines this reply
abbrev pub MakesLate : MixSeat → MixSeat → Entry → Type 0
MakesLate s t e =
    (by : ℕ) × (members : ℕ) × (between : List Row)
    × IsStep (view_of s) (view_of t) by members between []
    × IsReply (geometry_of s) members (view_of t).history (late_row (by_member by e))

-- what an attempt to place an entry found: exactly these words more, in order, at the entry's frame and channel. One that was in
-- time is an event with the reply `In`, and one that was late an event with the reply `Late`, as the history determines
pub record SeatFinds (s t : MixSeat) (e : Entry) (ended : Ended) (words : List ℕ) : Type 0 where
  pub sightings : (view_of t).sightings ≡ (view_of s).sightings ++ map (sighting (index_of s.key.geometry e.frame e.channel)) words
  pub in_event : OnWhole ended (MakesIn s t e)
  pub late_event : OnLate ended (λ word. MakesLate s t e)

-- a placement or withdrawal of one entry by a seat
abbrev pub SeatLays : {T : Type 0} → (T → ℕ) → (T → T → List StepKind → Pass → Type 0) → MixSeat → T → Entry → Ended → MixSeat → T → Type 0
SeatLays stops asked s g e ended t h = Lays seat_view SeatLaid SeatLoaded noted_word SeatFinds stops asked s g e ended t h

-- how many of its asks were passed
abbrev pub pass_count : Ended → ℕ → ℕ
pass_count Whole asks = asks
pass_count (Late word) asks = asks
pass_count Stopped asks = asks - 1

-- the same with a counter of the steps on the ring's words: one for each ask that was passed, a load for the first and an
-- exchange for each other; and there are at most three exchanges for each place of the ring
pub record LaysCounted {T : Type 0} (stops : T → ℕ) (asked : T → T → List StepKind → Pass → Type 0)
    (s : MixSeat) (g : T) (before : ℕ) (e : Entry) (ended : Ended) (t : MixSeat) (h : T) (after : ℕ) : Type 0 where
  pub step : SeatLays stops asked s g e ended t h
  pub counted : after ≡ before + pass_count ended step.asks
  pub bound : pass_count ended step.asks ≤ 1 + 3 * s.key.places

pub BeginsWith-trans : (h j early : List Row) → BeginsWith h j → BeginsWith j early → BeginsWith h early
BeginsWith-trans h j early late first = (first.0 ++ late.0, late.1 ∙ (ap (λ x. x ++ late.0) first.1 ∙ append_assoc early first.0 late.0))

pub NotesRise-same : (v w : View) → w.noted ≡ v.noted → NotesRise v w
NotesRise-same v w same = NeverFall-same v.noted w.noted same

pub NotesRise-joined : (u v w : View) → NotesRise u v → NotesRise v w → NotesRise u w
NotesRise-joined u v w first then = NeverFall-joined u.noted v.noted w.noted first then

pub IsLaterSeat-same : (s : MixSeat) → IsLaterSeat s s
IsLaterSeat-same s = record {
  ring = refl;
  key = refl;
  member = refl;
  places = refl;
  history = ([], sym (append-nil (view_of s).history));
  heard = refl;
  notes = NotesRise-same (view_of s) (view_of s) refl;
}

pub IsLaterSeat-joined : (p q r : MixSeat) → IsLaterSeat p q → IsLaterSeat q r → IsLaterSeat p r
IsLaterSeat-joined p q r first then = record {
  ring = then.ring ∙ first.ring;
  key = then.key ∙ first.key;
  member = then.member ∙ first.member;
  places = then.places ∙ first.places;
  history = BeginsWith-trans (view_of r).history (view_of q).history (view_of p).history then.history first.history;
  heard = then.heard ∙ first.heard;
  notes = NotesRise-joined (view_of p) (view_of q) (view_of r) first.notes then.notes;
}

-- adds of a longer history
Adds-after : (g : Geometry) (early h : List Row) (mine es : List Entry) (later : List Row) → BeginsWith h early → Adds g h mine es later → Adds g early mine es later
Adds-after g early h mine [] later begins adds = BeginsWith-trans later h early adds begins
Adds-after g early h mine (e ∷ es) later begins adds = (
  adds.0,
  adds.1,
  begins.0 ++ adds.2,
  adds.3,
  adds.4 ∙ ap (λ x. x ++ in_row adds.0 e ∷ []) (ap (λ x. x ++ adds.2) begins.1 ∙ append_assoc early begins.0 adds.2),
  adds.5,
  adds.6,
  adds.7,
)

-- adds, and then more of them
pub Adds-joined : (g : Geometry) (h : List Row) (mine xs ys : List Entry) (j later : List Row) → Adds g h mine xs j → Adds g j (mine ++ xs) ys later → Adds g h mine (xs ++ ys) later
Adds-joined g h mine [] ys j later first then = Adds-after g h j mine ys later first (subst (λ es. Adds g j es ys later) (append-nil mine) then)
Adds-joined g h mine (x ∷ xs) ys j later first then = (
  first.0,
  first.1,
  first.2,
  first.3,
  first.4,
  first.5,
  first.6,
  Adds-joined g first.3 (mine ++ x ∷ []) xs ys j later first.7 (subst (λ es. Adds g j es ys later) (sym (append_assoc mine (x ∷ []) xs)) then),
)

pub SeatLaid-composes : Composes SeatLaid
SeatLaid-composes = record {
  none = λ s. record {
    goes = IsLaterSeat-same s;
    marks = refl;
    laid = sym (append-nil (view_of s).laid);
    mine = sym (append-nil (view_of s).mine);
    adds = ([], sym (append-nil (view_of s).history));
  };
  joined = λ p q r xs ys first then. record {
    goes = IsLaterSeat-joined p q r first.goes then.goes;
    marks = then.marks
        ∙ (ap (λ (k : Key). marks_from k.geometry q.reach.marks ys) first.goes.key
        ∙ (ap (λ m. marks_from p.key.geometry m ys) first.marks ∙ sym (fold-append (marks_after p.key.geometry) p.reach.marks xs ys)));
    laid = then.laid ∙ (ap (λ es. es ++ ys) first.laid ∙ append_assoc (view_of p).laid xs ys);
    mine = then.mine ∙ (ap (λ es. es ++ ys) first.mine ∙ append_assoc (view_of p).mine xs ys);
    adds = Adds-joined p.key.geometry (view_of p).history (view_of p).mine xs ys (view_of q).history (view_of r).history first.adds
        (subst (λ (k : Key). Adds k.geometry (view_of q).history ((view_of p).mine ++ xs) ys (view_of r).history) first.goes.key
        (subst (λ es. Adds q.key.geometry (view_of q).history es ys (view_of r).history) first.mine then.adds));
  };
}

pub or_false : (a : Bool) → a ≡ (a || false)
or_false true = refl
or_false false = refl

or_assoc : (a b c : Bool) → ((a || b) || c) ≡ (a || (b || c))
or_assoc true b c = refl
or_assoc false b c = refl

pub SeatLoaded-composes : Composes SeatLoaded
SeatLoaded-composes = record {
  none = λ s. record {
    positions = sym (append-nil (view_of s).positions);
    rising = tt;
    last = refl;
    gone = or_false (view_of s).seen_gone;
    after_gone = λ is k d inside. absurd (omega arith);
  };
  joined = λ p q r xs ys first then. record {
    positions =
        then.positions
        ∙ (ap (λ ps. ps ++ map (λ (x : Position). x.frame) ys) first.positions
        ∙ (append_assoc (view_of p).positions (map (λ (x : Position). x.frame) xs) (map (λ (x : Position). x.frame) ys)
        ∙ ap (λ ps. (view_of p).positions ++ ps) (sym (map-append (λ (x : Position). x.frame) xs ys))));
    rising = AreRisingFrom-append p.seen xs ys first.rising (subst (λ d. AreRisingFrom d ys) first.last then.rising);
    last = then.last ∙ (ap (λ d. last_frame d ys) first.last ∙ sym (last_frame-append p.seen xs ys));
    gone = then.gone
        ∙ (ap (λ a. a || list_any (λ (x : Position). x.gone) ys) first.gone
        ∙ (or_assoc (view_of p).seen_gone (list_any (λ (x : Position). x.gone) xs) (list_any (λ (x : Position). x.gone) ys)
        ∙ ap (λ a. (view_of p).seen_gone || a) (sym (list_any-append (λ (x : Position). x.gone) xs ys))));
    after_gone = λ is. All-append (λ (x : Position). x.gone ≡ true) xs ys (first.after_gone is) (then.after_gone (first.gone ∙ ap (λ a. a || list_any (λ (x : Position). x.gone) xs) is));
  };
}

-- a seat's standing adds end in each part at the end of a list in which they end
pub SeatEndsIn-part : (s : MixSeat) (xs ys : List Entry) → SeatEndsIn s (xs ++ ys) → SeatEndsIn s ys
SeatEndsIn-part s xs ys ends = (ends.0 ++ xs, ends.1 ∙ sym (append_assoc ends.0 xs ys))

-- after adds the standing ones end in these as well
pub SeatEndsIn-laid : (p q : MixSeat) (xs es : List Entry) → AreAdds es → SeatLaid p q es → SeatEndsIn p xs → SeatEndsIn q (xs ++ es)
SeatEndsIn-laid p q xs es adds laid ends = (
  ends.0,
  ap standing laid.laid
      ∙ (standing-append_adds (view_of p).laid es adds
      ∙ (ap (λ held. held ++ es) ends.1 ∙ append_assoc ends.0 xs es)),
)

-- after nothing they are the same
pub SeatEndsIn-nothing : (p q : MixSeat) (xs : List Entry) → SeatLaid p q [] → SeatEndsIn p xs → SeatEndsIn q xs
SeatEndsIn-nothing p q xs laid ends = (ends.0, ap standing (laid.laid ∙ append-nil (view_of p).laid) ∙ ends.1)

-- and after a withdrawal the last of them is gone
pub SeatEndsIn-back : (p q : MixSeat) (xs : List Entry) (f c : ℕ) (x : ℤ) → IsFrom p.reach.marks.floor f c
    → SeatLaid p q (a_withdrawal p.member f c x ∷ []) → SeatEndsIn p (xs ++ an_add p.member f c x ∷ []) → SeatEndsIn q xs
SeatEndsIn-back p q xs f c x from laid ends =
    let a : Entry = an_add p.member f c x in
    let was : standing (view_of p).laid ≡ (ends.0 ++ xs) ++ a ∷ [] = ends.1 ∙ sym (append_assoc ends.0 xs (a ∷ [])) in
    (ends.0, ap standing laid.laid ∙ (standing-more (view_of p).laid (a_withdrawal p.member f c x) ∙ (ap without_last was ∙ without_last-more (ends.0 ++ xs) a)))

-- the words that a seat shows never fall
pub SeatLaid-shows : (p q : MixSeat) (es : List Entry) (f c word : ℕ) → SeatLaid p q es → noted_word p f c ≡ Some word → ShowsFrom noted_word q f c word
SeatLaid-shows p q es f c word laid is =
    let later = laid.goes.notes (index_of p.key.geometry f c) word is in
    record {
      now = later.0;
      shown = ap (λ (k : Key). slice_index_or (view_of q).noted (index_of k.geometry f c) None) laid.goes.key ∙ later.1;
      not_before = NotPast-rank word later.0 later.2;
    }
