-- What a seat's steps may do and do, said of the seat's fields.
use Rattle.sum_table.specs.Prelude.{ap, append_assoc, arith, get_or, IfSome, inl, inr, length, List, negsuc, None, of_z, Option, pos, refl, set, Some, subst}
use Rattle.sum_table.specs.Prelude.{suc, sym, to_z, true, ℕ, ℤ, [], ◌++◌, ◌+ℤ◌, ◌+◌, ◌<◌, ◌==◌, ◌∙◌, ◌∷◌, ◌≡◌, ◌≢◌, ◌≤ℤ◌, ◌≤◌, cases_eq, nat_tests, ints}
use Rattle.sum_table.specs.Prelude.{to_z-of_z, get_or-set_other, get_or-set_same, length-set, Allows, Me, step, get_elem?, none, some, w16, SFits, either}
use Rattle.sum_table.specs.Prelude.{Geometry, suc-le-end_frame, end_frame, first_frame, first_free, IsFrom, IsWithin, lap, gone_in, position_in, word_of-fields}
use Rattle.sum_table.specs.Prelude.{count_of, lap_of, StandsFor, sum_of, Marks, Entry, Kind, Added, Withdrawn, Position, Row, an_add, EndsIn, marks_after}
use Rattle.sum_table.specs.Prelude.{marks_with, signed_sample, standing, added_at, withdrawn_at, noted_set, position_fits, index_of-lt, index_of, NotPast}
use Rattle.sum_table.specs.Prelude.{words_of, MixSeat, View, BeginsWith, Exact, IsLaid, greater, IsKnown, IsNoted, IsReach, last_frame, entry_by, HasLaid}
use Rattle.sum_table.specs.Prelude.{HasLocated, HasLost, HasNoted, IsLaterSeat, IsRingSpot, MayLay, NotesRise, NotesRise-same, view_of, Finds, HoldsLast}
use Rattle.sum_table.specs.Prelude.{in_row, IsStep, IsSumOf, IsWord, Lays, Makes, MakesLook, Notes, position_load, with_entry, with_note, with_position}
use Rattle.sum_table.specs.Prelude.{word_exchange, word_load}
use Rattle.atomic_table.specs.Seated.{TableId}
use Rattle.mix_core.proofs.Soundness.{HasRoom}
use Rattle.sum_table.specs.declared.seats.mix.RingSpot.{RingSpot}
use Rattle.sum_table.specs.declared.view.Key.{Key}
use Rattle.sum_table.proofs.Highs.{IsReach-added, IsReach-withdrawn, last_frame-has}
use Rattle.sum_table.proofs.Keeps.{MayPut, exchanges, looks, may_put}
use Rattle.sum_table.proofs.Kept.{IsLaid-later, held_each, held_laid, held_of, laid_more}

-- a step's history goes on from what was seen
pub step_begins : (v w : View) (by members : ℕ) (between rows : List Row) → IsStep v w by members between rows → BeginsWith w.history v.history
step_begins v w by members between rows is = (between ++ rows, is.history ∙ append_assoc v.history between rows)

-- a view with a note more
pub IsNoted-more : (v w : View) (k : Key) (i n : ℕ) → w.noted ≡ set v.noted i (Some n) → IsNoted v k → IsWord n k.places → IsNoted w k
IsNoted-more v w k i n is noted word = record {
  room = ap length is ∙ (length-set v.noted i (Some n) ∙ noted.room);
  words = λ j o there. elim (noted_set v.noted i j n o (ap (λ l. get_or l j None) (sym is) ∙ there)) [
    | inl here ↦ subst (λ x. IsWord x k.places) (sym here.1) word
    | inr old ↦ noted.words j o old
  ];
}

-- the fields after a load of the position
pub known_located : (k : Key) (places : ℕ) (marks : Marks) (seen : ℕ) (last : Option ℕ) (slots n : ℕ) (m r : Me Entry View)
    → IsKnown m.0 k places marks seen last → position_load (step slots 0 0 0 none) m n r → IsKnown r.0 k places marks (position_in n) last
known_located k places marks seen last slots n m r is told =
    let p : ℕ = told.1 in
    let most : p ≤ end_frame k.geometry = subst (λ (x : Key). p ≤ end_frame x.geometry) is.same_key told.6 in
    let frame : position_in n ≡ p = ap position_in told.4 ∙ (word_of-fields p told.2 (position_fits k.geometry p most)).0 in
    let within : IsWithin k.geometry p = record { least = omega (arith, told.5, is.same_seen, is.seen_within.least); most = most } in
    let laid : (i : ℕ) (e : Entry) → get_elem? m.0.laid i ≡ some e → IsLaid k.geometry p e = λ i e there. IsLaid-later k.geometry m.0.seen p told.5 e (is.laid i e there) in
    let known : IsKnown (with_position m.0 told.0 p told.2) k places marks p last = assumption in
    rw (told.3, frame) known

-- the fields after a load of a word
pub known_looked : (k : Key) (places : ℕ) (marks : Marks) (seen : ℕ) (last : Option ℕ) (slots i n : ℕ) (m r : Me Entry View)
    → IsKnown m.0 k places marks seen last → word_load (step slots i 0 0 none) m n r → IsKnown r.0 k places marks seen last
known_looked k places marks seen last slots i n m r is told =
    let word : IsWord n k.places = subst (λ (x : Key). IsWord n x.places) is.same_key told.0.word in
    let noted = IsNoted-more m.0 (with_note m.0 told.1.0 i n) k i n refl is.noted word in
    let known : IsKnown (with_note m.0 told.1.0 i n) k places marks seen last = assumption in
    subst (λ (x : Me Entry View). IsKnown x.0 k places marks seen last) (sym told.1.1) known

-- a seat whose fields, but for its view, are another's
pub record SameFields (s t : MixSeat) : Type 0 where
  pub ring : t.seat.table_id ≡ s.seat.table_id
  pub key : t.key ≡ s.key
  pub member : t.member ≡ s.member
  pub places : t.places ≡ s.places
  pub seen : t.seen ≡ s.seen

-- no note falls where one word more is noted
notes_more : (v w : View) (i n : ℕ) → w.noted ≡ set v.noted i (Some n) → i < length v.noted → ((o : ℕ) → get_or v.noted i None ≡ Some o → NotPast o n) → NotesRise v w
notes_more v w i n is inside past j o there = elim (cases_eq j i) [
  | inl same ↦ (
    n,
    ap (λ l. get_or l j None) is ∙ (ap (λ x. get_or (set v.noted i (Some n)) x None) same ∙ get_or-set_same v.noted i (Some n) None inside),
    past o (ap (λ x. get_or v.noted x None) (sym same) ∙ there),
  )
  | inr other ↦ (o, ap (λ l. get_or l j None) is ∙ (get_or-set_other v.noted i j (Some n) None other ∙ there), inl refl)
]

-- so a step leaves the seat, by what it leaves of the view
later_seat : (s t : MixSeat) → SameFields s t → BeginsWith (view_of t).history (view_of s).history → (view_of t).heard ≡ (view_of s).heard → NotesRise (view_of s) (view_of t) → IsLaterSeat s t
later_seat s t same history heard notes = assumption

-- a seat that noted a word
pub has_noted : (s t : MixSeat) (f c n : ℕ) → SameFields s t → t.reach.marks ≡ s.reach.marks → t.reach.last ≡ s.reach.last → c < s.key.geometry.channels
    → Finds (view_of s) (index_of s.key.geometry f c) n
    → Notes s.seat.me.0 s.seat.me.1 (index_of s.key.geometry f c) n t.seat.me
    → HasNoted s t f c n
has_noted s t f c n same marks last in_range found told =
    let i : ℕ = index_of s.key.geometry f c in
    let view : view_of t ≡ with_note (view_of s) told.0 i n = ap (λ (x : Me Entry View). x.0) told.1 in
    let history : told.0 ≡ (view_of t).history = sym (ap (λ (x : View). x.history) view) in
    let look : MakesLook (view_of s) (view_of t) i n = subst (λ x. MakesLook (view_of s) x i n) (sym view) told.2 in
    let own : (view_of s).key ≡ s.key = s.known.same_key in
    let in_notes : i < length (view_of s).noted = omega (arith, s.known.noted.room, index_of-lt s.key.geometry f c in_range) in
    record {
      goes = later_seat s t same (step_begins (view_of s) (view_of t) look.0 look.1 look.2 [] look.3) (ap (λ (x : View). x.heard) view)
          (notes_more (view_of s) (view_of t) i n (ap (λ (x : View). x.noted) view) in_notes found.noted);
      view = view ∙ ap (λ x. with_note (view_of s) x i n) history;
      marks = marks;
      seen = same.seen;
      last = last;
      shows = ap (λ (k : Key). get_or (view_of t).noted (index_of k.geometry f c) None) same.key
          ∙ (ap (λ (x : View). get_or x.noted i None) view ∙ get_or-set_same (view_of s).noted i (Some n) None in_notes);
      found = found;
      sum = subst (λ (k : Key). IsSumOf k.geometry (view_of t).history f c n) own
          (subst (λ x. IsSumOf (view_of s).key.geometry x f c n) history (told.3 f c (ap (λ (k : Key). index_of k.geometry f c) own) (subst (λ (k : Key). c < k.geometry.channels) (sym own) in_range)));
      event = look;
    }

-- the ring that a seat's step is given has room for the word, and the step may load it
pub ring_spot_room : (s : MixSeat) (f c : ℕ) (r : RingSpot) → IsRingSpot s f c r → r.ring.now.table_id.words ≡ words_of s.key.geometry
ring_spot_room s f c r is = ap (λ (t : TableId). t.words) (is.table ∙ s.same_ring.0) ∙ s.same_ring.3

pub ring_spot_looks : (s : MixSeat) (r : RingSpot) (f c : ℕ) → c < s.key.geometry.channels → IsRingSpot s f c r
    → Allows (Exact r.ring.now.key) r.ring.now.table_id.slots s.seat.id s.seat.me r.spot.index (λ n. n) (word_load (step r.ring.now.table_id.slots r.spot.index 0 0 none) s.seat.me)
ring_spot_looks s r f c in_range is = rw (is.spot.index_is, is.key, ← s.known.same_key) (looks r.ring.now.table_id.slots s.seat.id s.seat.me f c s.known.lasts (rw s.known.same_key in_range))

-- a word has room for one more sample
pub HasRoom-of : (w most : ℕ) (value : ℤ) → IsWord w most → most ≤ 64 → negsuc 32767 ≤ℤ value → value ≤ℤ pos 32768 → HasRoom w value
HasRoom-of w most value word few low high = grind (arith, nat_tests)

-- what a seat shows before an exchange that adds a sample, or withdraws it
pub record MayExchange (s : MixSeat) (k : Kind) (f c old : ℕ) (sample : ℤ) : Type 0 where
  pub may : may_put k (view_of s) f c sample
  pub channel : c < s.key.geometry.channels
  pub noted : get_or (view_of s).noted (index_of s.key.geometry f c) None ≡ Some old
  pub of_lap : lap_of old ≡ lap s.key.geometry f
  pub low : negsuc 32767 ≤ℤ signed_sample k sample
  pub high : signed_sample k sample ≤ℤ pos 32768

-- a seat's last standing add is a sample at a frame and channel that are not before its floor, at its fields
pub holds_of : (s : MixSeat) (f c : ℕ) (sample : ℤ) → EndsIn (standing (view_of s).laid) (an_add s.member f c sample ∷ []) → IsFrom s.reach.marks.floor f c → HoldsLast (view_of s) f c sample
holds_of s f c sample ends from = grind (arith, nat_tests)

-- what a seat knows of it
pub record HoldsFacts (s : MixSeat) (f c : ℕ) : Type 0 where
  pub channel : c < s.key.geometry.channels
  pub low : first_frame s.key.geometry ≤ f
  pub ahead : f < (view_of s).seen + s.key.geometry.frames
  pub fits : lap s.key.geometry f < 4294967295

pub holds_facts : (s : MixSeat) (f c : ℕ) (sample : ℤ) → HoldsLast (view_of s) f c sample → HoldsFacts s f c
holds_facts s f c sample holds =
    let l = held_laid s.key.geometry (view_of s).laid (view_of s).marks (view_of s).seen f c sample s.known.laid (held_of (view_of s) f c sample holds) in
    rw (← holds.frame, ← holds.channel) (record { channel = l.channel; low = l.low; ahead = l.ahead; fits = l.fits })

-- where a seat may place
pub lay_facts : (s : MixSeat) (k : Kind) (f c : ℕ) (sample : ℤ) → MayLay k s f c sample → HoldsFacts s f c
lay_facts s Added f c sample lay =
    let start : s.reach.marks.cursor.frame ≤ first_free s.reach.marks.cursor c = grind (arith, nat_tests) in
    record { channel = lay.1; low = omega (arith, s.known.cursor_within.least, start, lay.2); ahead = omega (arith, s.known.same_seen, lay.3); fits = lay.4 }
lay_facts s Withdrawn f c sample lay = holds_facts s f c sample (holds_of s f c sample lay.0 lay.1)

pub may_lay : (s : MixSeat) (k : Kind) (f c old : ℕ) (sample : ℤ) → SFits w16 sample → MayLay k s f c sample
    → get_or (view_of s).noted (index_of s.key.geometry f c) None ≡ Some old → lap_of old ≡ lap s.key.geometry f
    → MayExchange s k f c old (to_z w16 (of_z w16 sample))
may_lay s k f c old sample in_range lay noted of_lap =
    let low : negsuc 32767 ≤ℤ signed_sample k sample = signed_low k in
    let high : signed_sample k sample ≤ℤ pos 32768 = signed_high k in
    let channel : c < s.key.geometry.channels = (lay_facts s k f c sample lay).channel in
    let may : may_put k (view_of s) f c sample = may_kind k lay in
    let all : MayExchange s k f c old sample = assumption in
    subst (MayExchange s k f c old) (sym (to_z-of_z w16 sample in_range)) all
  where
    signed_low : (k : Kind) → negsuc 32767 ≤ℤ signed_sample k sample
    signed_low Added = omega (arith, ints, in_range)
    signed_low Withdrawn = omega (arith, ints, in_range)

    signed_high : (k : Kind) → signed_sample k sample ≤ℤ pos 32768
    signed_high Added = omega (arith, ints, in_range)
    signed_high Withdrawn = omega (arith, ints, in_range)

    may_kind : (k : Kind) → MayLay k s f c sample → may_put k (view_of s) f c sample
    may_kind Added lay = (
      rw s.known.same_key lay.1,
      subst (λ (m : Marks). IsFrom m.cursor f c) (sym s.known.same_marks) lay.2,
      omega (arith, lay.3, s.known.same_seen, ap (λ (k : Key). k.geometry.frames) s.known.same_key),
      omega (arith, s.known.same_places, lay.0),
      rw s.known.same_key lay.4,
    )
    may_kind Withdrawn lay = holds_of s f c sample lay.0 lay.1

pub room_there : (s : MixSeat) (k : Kind) (f c old : ℕ) (sample : ℤ) → MayExchange s k f c old sample → HasRoom old (signed_sample k sample)
room_there s k f c old sample may = HasRoom-of old s.key.places (signed_sample k sample) (s.known.noted.words (index_of s.key.geometry f c) old may.noted) s.key.most may.low may.high

pub to_put : (s : MixSeat) (k : Kind) (f c old new : ℕ) (sample : ℤ) → MayExchange s k f c old sample → StandsFor new (lap_of old) (count_of old + 1) (sum_of old +ℤ signed_sample k sample)
    → MayPut (view_of s) (entry_by s k f c sample) old new
to_put s k f c old new sample may stands = grind (arith, nat_tests)

pub ring_spot_exchanges : (s : MixSeat) (r : RingSpot) (kind : Kind) (f c old new : ℕ) (sample : ℤ) → IsRingSpot s f c r → MayExchange s kind f c old sample → StandsFor new (lap_of old) (count_of old + 1) (sum_of old +ℤ signed_sample kind sample)
    → Allows (Exact r.ring.now.key) r.ring.now.table_id.slots s.seat.id s.seat.me r.spot.index (λ n. either (n == old) new n) (word_exchange (step r.ring.now.table_id.slots r.spot.index old new (some (entry_by s kind f c sample))) s.seat.me)
ring_spot_exchanges s r kind f c old new sample is may stands =
    rw (is.spot.index_is, is.key, ← s.known.same_key) (exchanges r.ring.now.table_id.slots s.seat.id s.seat.me (entry_by s kind f c sample) old new (to_put s kind f c old new sample may stands))

-- the greatest frame of joined lists
greater-assoc : (a b c : Option ℕ) → greater (greater a b) c ≡ greater a (greater b c)
greater-assoc a b c = grind (arith, nat_tests)

pub last_frame-append : (xs ys : List Entry) → last_frame (xs ++ ys) ≡ greater (last_frame xs) (last_frame ys)
last_frame-append [] ys = refl
last_frame-append (x ∷ xs) ys = ap (greater (Some x.frame)) (last_frame-append xs ys) ∙ sym (greater-assoc (Some x.frame) (last_frame xs) (last_frame ys))

-- the greatest frame of some entries is below what each of them is below
pub last_frame-before : (es : List Entry) (end : ℕ) → ((i : ℕ) (e : Entry) → get_elem? es i ≡ some e → e.frame < end) → IfSome (last_frame es) (λ f. f < end)
last_frame-before [] end each = tt
last_frame-before (e ∷ es) end each = step (last_frame es) (last_frame-before es end (λ i. each (suc i))) (each 0 e refl) where
  step : (o : Option ℕ) → IfSome o (λ f. f < end) → e.frame < end → IfSome (greater (Some e.frame) o) (λ f. f < end)
  step None rest own = own
  step (Some f) rest own = omega arith

-- the marks after an entry stay within the ring's frames
pub record MarksWithin (g : Geometry) (m : Marks) : Type 0 where
  pub cursor : IsWithin g m.cursor.frame
  pub floor : IsWithin g m.floor.frame
  pub high : IsWithin g m.high.frame

within_added : (g : Geometry) (m : Marks) (f c : ℕ) → MarksWithin g m → IsFrom m.cursor f c → lap g f < 4294967295 → MarksWithin g (added_at g m f c)
within_added g m f c x from fits =
    let end : f + 1 ≤ end_frame g = suc-le-end_frame g f fits in
    let start : m.cursor.frame ≤ first_free m.cursor c = grind (arith, nat_tests) in
    let least : first_frame g ≤ f = omega (arith, x.cursor.least, start, from) in
    record {
      cursor = record { least = grind (arith, nat_tests); most = grind (arith, nat_tests) };
      floor = record { least = grind (arith, nat_tests, x.floor.least, x.high.least); most = grind (arith, nat_tests, x.floor.most, x.high.most) };
      high = record { least = grind (arith, nat_tests, x.high.least); most = grind (arith, nat_tests, x.high.most, end) };
    }

within_withdrawn : (g : Geometry) (m : Marks) (f c : ℕ) → MarksWithin g m → first_frame g ≤ f → lap g f < 4294967295 → MarksWithin g (withdrawn_at m f c)
within_withdrawn g m f c x least fits = grind (arith, nat_tests)

-- what an entry leaves, by its kind
pub record Leaves (k : Key) (v : View) (e : Entry) : Type 0 where
  pub within : MarksWithin k.geometry (marks_after k.geometry v.marks e)
  pub laid : IsLaid k.geometry v.seen e

leaves : (k : Key) (v : View) (e : Entry) → v.key ≡ k → MarksWithin k.geometry v.marks → ((i : ℕ) (a : Entry) → get_elem? v.laid i ≡ some a → IsLaid k.geometry v.seen a)
    → may_put e.kind v e.frame e.channel e.sample → Leaves k v e
leaves k v e key within laid may = by_kind e.kind refl may where
  by_kind : (kind : Kind) → e.kind ≡ kind → may_put kind v e.frame e.channel e.sample → Leaves k v e
  by_kind Added kind may =
      let at_key = rw key at may in
      let start : v.marks.cursor.frame ≤ first_free v.marks.cursor e.channel = grind (arith, nat_tests) in
      let own : IsLaid k.geometry v.seen e = record { channel = at_key.0; low = omega (arith, within.cursor.least, start, at_key.1); ahead = at_key.2; fits = at_key.4 } in
      record { within = rw kind (within_added k.geometry v.marks e.frame e.channel within at_key.1 at_key.4); laid = own }
  by_kind Withdrawn kind may =
      let l = held_laid k.geometry v.laid v.marks v.seen e.frame e.channel e.sample laid (held_of v e.frame e.channel e.sample may) in
      let own : IsLaid k.geometry v.seen e = record { channel = rw (← may.channel) l.channel; low = rw (← may.frame) l.low; ahead = rw (← may.frame) l.ahead; fits = rw (← may.frame) l.fits } in
      record { within = rw kind (within_withdrawn k.geometry v.marks e.frame e.channel within own.low own.fits); laid = own }

-- the greatest frame after an entry was placed: a withdrawal is in a frame that was placed in before
last_laid : (k : Key) (places : ℕ) (marks : Marks) (seen : ℕ) (last : Option ℕ) (v : View) (e : Entry)
    → IsKnown v k places marks seen last → may_put e.kind v e.frame e.channel e.sample → IsLaid k.geometry v.seen e
    → IsReach k.geometry (marks_after k.geometry marks e) places (greater last (Some e.frame))
last_laid k places marks seen last v e is may in_ring = by_kind e.kind may where
  by_kind : (kind : Kind) → may_put kind v e.frame e.channel e.sample → IsReach k.geometry (marks_with kind k.geometry marks e.frame e.channel) places (greater last (Some e.frame))
  by_kind Added may = IsReach-added k.geometry marks places last e.frame e.channel is.reach_is (omega (arith, is.same_places, may.3)) in_ring.channel in_ring.low
  by_kind Withdrawn may =
      let had = held_each (λ (a : Entry). greater (last_frame v.laid) (Some a.frame) ≡ last_frame v.laid) v.laid v.marks e.frame e.channel e.sample (last_frame-has v.laid) (held_of v e.frame e.channel e.sample may) in
      IsReach-withdrawn k.geometry marks places last e.frame e.channel is.reach_is (rw (← is.same_last, ← may.frame) had)

-- the fields after an entry was placed
known_laid : (k : Key) (places : ℕ) (marks : Marks) (seen : ℕ) (last : Option ℕ) (v : View) (h : List Row) (e : Entry)
    → IsKnown v k places marks seen last → may_put e.kind v e.frame e.channel e.sample
    → IsKnown (with_entry v h e) k places (marks_after k.geometry marks e) seen (greater last (Some e.frame))
known_laid k places marks seen last v h e is may =
    let before : MarksWithin k.geometry marks = assumption in
    let left = leaves k v e is.same_key (subst (MarksWithin k.geometry) (sym is.same_marks) before) is.laid may in
    let after : MarksWithin k.geometry (marks_after k.geometry marks e) = subst (λ m. MarksWithin k.geometry (marks_after k.geometry m e)) is.same_marks left.within in
    let same : marks_after v.key.geometry v.marks e ≡ marks_after k.geometry marks e = rw (is.same_key, is.same_marks) in
    let last_is = last_frame-append v.laid (e ∷ []) ∙ ap (λ x. greater x (Some e.frame)) is.same_last in
    let reach = last_laid k places marks seen last v e is may left.laid in
    let laid = laid_more k.geometry v.laid v.seen e is.laid left.laid in
    assumption

-- a seat that placed an entry
pub has_laid : (s t : MixSeat) (e : Entry) → SameFields s t → t.reach.marks ≡ marks_after s.key.geometry s.reach.marks e → t.reach.last ≡ greater s.reach.last (Some e.frame)
    → Lays s.seat.me.0 s.seat.me.1 e t.seat.me → HasLaid s t e
has_laid s t e same marks last told =
    let view : view_of t ≡ with_entry (view_of s) told.0 e = ap (λ (x : Me Entry View). x.0) told.1 in
    let made : Makes (view_of s) (view_of t) (λ by. in_row by e ∷ []) = subst (λ x. Makes (view_of s) x (λ by. in_row by e ∷ [])) (sym view) told.2 in
    let goes = later_seat s t same (step_begins (view_of s) (view_of t) made.0 made.1 made.2 (in_row made.0 e ∷ []) made.3) (ap (λ (x : View). x.heard) view)
    (NotesRise-same (view_of s) (view_of t) (ap (λ (x : View). x.noted) view)) in
    let all = view ∙ ap (λ x. with_entry (view_of s) x e) (sym (ap (λ (x : View). x.history) view)) in
    assumption

-- the fields and the seat after an exchange that was lost
pub lost_notes : (slots i old new n : ℕ) (e : Entry) (m r : Me Entry View) → n ≢ old → word_exchange (step slots i old new (some e)) m n r → Finds m.0 i n × Notes m.0 m.1 i n r
lost_notes slots i old new n e m r other told = (told.0, told.2 other)

pub has_lost : (s t : MixSeat) (slots i f c old new n : ℕ) (e : Entry) → SameFields s t → t.reach.marks ≡ s.reach.marks → t.reach.last ≡ s.reach.last → c < s.key.geometry.channels
    → get_or (view_of s).noted (index_of s.key.geometry f c) None ≡ Some old → i ≡ index_of s.key.geometry f c
    → n ≢ old → word_exchange (step slots i old new (some e)) s.seat.me n t.seat.me → HasLost s t f c old n
has_lost s t slots i f c old new n e same marks last in_range noted index other told =
    let j : ℕ = index_of s.key.geometry f c in
    let told_at : word_exchange (step slots j old new (some e)) s.seat.me n t.seat.me = subst (λ x. word_exchange (step slots x old new (some e)) s.seat.me n t.seat.me) index told in
    let found : Finds (view_of s) j n = told_at.0 in
    record {
      noted = has_noted s t f c n same marks last in_range found (told_at.2 other);
      past = elim (found.noted old noted) [ inl one ↦ absurd (other (sym one)) | inr below ↦ below ];
    }

-- and after one that was won
entry_or : Entry → mathlib.Core.Option.Option Entry → Entry
entry_or e none = e
entry_or e (some x) = x

pub won_lays : (slots i old new n : ℕ) (e : Entry) (m r : Me Entry View) → n ≡ old → word_exchange (step slots i old new (some e)) m n r → Lays m.0 m.1 e r
unfolding entry_or
won_lays slots i old new n e m r same told = grind (arith, nat_tests)

pub known_won : (k : Key) (places : ℕ) (marks : Marks) (seen : ℕ) (last : Option ℕ) (slots i old new n : ℕ) (e : Entry) (m r : Me Entry View)
    → IsKnown m.0 k places marks seen last → may_put e.kind m.0 e.frame e.channel e.sample
    → n ≡ old → word_exchange (step slots i old new (some e)) m n r → IsKnown r.0 k places (marks_after k.geometry marks e) seen (greater last (Some e.frame))
known_won k places marks seen last slots i old new n e m r is may same told =
    let lays : Lays m.0 m.1 e r = won_lays slots i old new n e m r same told in
    subst (λ (x : Me Entry View). IsKnown x.0 k places (marks_after k.geometry marks e) seen (greater last (Some e.frame))) (sym lays.1) (known_laid k places marks seen last m.0 lays.0 e is may)

-- a seat that loaded the position
pub has_located : (s t : MixSeat) (slots n : ℕ) (p : Position) → t.seat.table_id ≡ s.seat.table_id → t.key ≡ s.key → t.member ≡ s.member → t.places ≡ s.places
    → t.reach.marks ≡ s.reach.marks → t.reach.last ≡ s.reach.last → t.seen ≡ p.frame → p.frame ≡ position_in n → p.gone ≡ gone_in n
    → position_load (step slots 0 0 0 none) s.seat.me n t.seat.me → HasLocated s t p
has_located s t slots n p ring key member places marks last seen frame gone told =
    let most : told.1 ≤ end_frame s.key.geometry = subst (λ (x : Key). told.1 ≤ end_frame x.geometry) s.known.same_key told.6 in
    let fields = word_of-fields told.1 told.2 (position_fits s.key.geometry told.1 most) in
    let at : told.1 ≡ p.frame = sym (frame ∙ (ap position_in told.4 ∙ fields.0)) in
    let is_gone : told.2 ≡ p.gone = sym (gone ∙ (ap gone_in told.4 ∙ fields.1)) in
    let view : view_of t ≡ with_position (view_of s) told.0 told.1 told.2 = ap (λ (x : Me Entry View). x.0) told.3 in
    let made : Makes (view_of s) (view_of t) (λ _. []) = subst (λ x. Makes (view_of s) x (λ _. [])) (sym view) told.8 in
    let begins = step_begins (view_of s) (view_of t) made.0 made.1 made.2 [] made.3 in
    let heard : (view_of t).heard ≡ (view_of s).heard = ap (λ (x : View). x.heard) view in
    let notes = NotesRise-same (view_of s) (view_of t) (ap (λ (x : View). x.noted) view) in
    let all : view_of t ≡ with_position (view_of s) (view_of t).history p.frame p.gone =
    rw (← at, ← is_gone) (view ∙ ap (λ x. with_position (view_of s) x told.1 told.2) (sym (ap (λ (x : View). x.history) view))) in
    let not_before : s.seen ≤ p.frame = omega (arith, s.known.same_seen, told.5, at) in
    let within : IsWithin s.key.geometry p.frame = record { least = omega (arith, s.known.seen_within.least, not_before); most = omega (arith, most, at) } in
    let stays : (view_of s).seen_gone ≡ true → p.gone ≡ true = λ was. sym is_gone ∙ told.7 was in
    assumption
