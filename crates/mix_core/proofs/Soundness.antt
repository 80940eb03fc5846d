-- What each event keeps true of every core.
use Rattle.mix_core.specs.Prelude.{arith, get_or, inl, inr, length, List, negsuc, pos, set, ℕ, ℤ, ◌*◌, ◌+ℤ◌, ◌+◌, ◌<◌, ◌∙◌, ◌≡◌, ◌≤ℤ◌, ◌≤◌, add-div_right}
use Rattle.mix_core.specs.Prelude.{cases_Bool, nat_tests, length-set, All-set, sum_by-le, sum_by-set, Geometry, first_free-behind_grows, first_free-behind_low}
use Rattle.mix_core.specs.Prelude.{suc-le-end_frame, cursor_after, end_frame, first_frame, first_free, IsFrom, lap, word_index, count_of, lap_of, StandsFor}
use Rattle.mix_core.specs.Prelude.{sum_of, Marks, Entry, marks_after, value_of, later_up_to, up_to, up_to_later, added_at, is_before, later_of, all_hold}
use Rattle.mix_core.specs.Prelude.{AreWithin, hold_at, HoldsAtMost, IsNow, IsSound, may_hold, marks_at, View, word_at, IsNow-next, word_places, words-taken}
use Rattle.mix_core.specs.Prelude.{words-written}
use Rattle.mix_core.proofs.Agreement.{laid_view, taken_view}

-- one member's marks move
pub all_hold-set : (ms : List Marks) (m : ℕ) (at d : Marks) (f c : ℕ) → m < length ms → all_hold (set ms m at) f c + may_hold (get_or ms m d) f c ≡ all_hold ms f c + may_hold at f c
all_hold-set ms m at d f c within = sum_by-set (λ (x : Marks). may_hold x f c) ms m at d within

-- no member holds more than three anywhere
pub all_hold-most : (ms : List Marks) (f c : ℕ) → all_hold ms f c ≤ length ms * 3
all_hold-most ms f c = sum_by-le (λ (x : Marks). may_hold x f c) 3 ms (λ i d within. most f (first_free (get_or ms i d).floor c) (first_free (get_or ms i d).cursor c) (first_free (get_or ms i d).high c)) where
  most : (f a b c : ℕ) → hold_at f a b c ≤ 3
  most f a b c = grind (arith, nat_tests)

-- what a member may hold when its marks move: one more at the place, and no less elsewhere
pub record HoldsMoreAt (g : Geometry) (a b : Marks) (f c : ℕ) : Type 0 where
  pub own : may_hold a f c + 1 ≤ may_hold b f c
  pub others : (k d : ℕ) → d < g.channels → may_hold a k d ≤ may_hold b k d

hold-true : (f a b c x y : ℕ) → b ≤ x → c ≤ y → x ≤ y → b ≤ c → hold_at f a b c ≤ hold_at f c x y
hold-true f a b c x y bx cy xy bc = grind (arith, nat_tests)

hold-false : (f a b c x y : ℕ) → b ≤ x → c ≤ y → c ≤ b → a ≤ c → hold_at f a b c ≤ hold_at f a x y
hold-false f a b c x y bx cy cb ac = grind (arith, nat_tests)

own-true : (f a b c x y : ℕ) → b ≤ f → x ≡ f + 1 → x ≤ y → hold_at f a b c + 1 ≤ hold_at f c x y
own-true f a b c x y bf xf xy = grind (arith, nat_tests)

own-false : (f a b c x y : ℕ) → b ≤ f → c ≤ b → a ≤ c → x ≡ f + 1 → x ≤ y → hold_at f a b c + 1 ≤ hold_at f a x y
own-false f a b c x y bf cb ac xf xy = grind (arith, nat_tests)

pub holds-added : (g : Geometry) (m : Marks) (f c : ℕ) → AreWithin g m → c < g.channels → IsFrom m.cursor f c → HoldsMoreAt g m (added_at g m f c) f c
holds-added g m f c x channel from =
    let here : first_free (cursor_after g f c) c ≡ f + 1 = first_free-behind_low g f c c channel (omega arith) in
    elim (cases_Bool (is_before m.cursor m.high)) [
      | inl before ↦ rw before (record {
        own = own-true f (first_free m.floor c) (first_free m.cursor c) (first_free m.high c) (first_free (cursor_after g f c) c) (first_free (later_of m.high (cursor_after g f c)) c) from here (later_up_to m.high (cursor_after g f c) c);
        others = λ k d d_in. hold-true k (first_free m.floor d) (first_free m.cursor d) (first_free m.high d) (first_free (cursor_after g f c) d) (first_free (later_of m.high (cursor_after g f c)) d)
            (first_free-behind_grows g m.cursor f c d from d_in) (up_to_later m.high (cursor_after g f c) d) (later_up_to m.high (cursor_after g f c) d) (x.cursor_high d);
      })
      | inr level ↦ rw level (record {
        own = own-false f (first_free m.floor c) (first_free m.cursor c) (first_free m.high c) (first_free (cursor_after g f c) c) (first_free (later_of m.high (cursor_after g f c)) c)
            from (up_to m.high m.cursor c level) (x.floor_high c) here (later_up_to m.high (cursor_after g f c) c);
        others = λ k d d_in. hold-false k (first_free m.floor d) (first_free m.cursor d) (first_free m.high d) (first_free (cursor_after g f c) d) (first_free (later_of m.high (cursor_after g f c)) d)
            (first_free-behind_grows g m.cursor f c d from d_in) (up_to_later m.high (cursor_after g f c) d) (up_to m.high m.cursor d level) (x.floor_high d);
      })
    ]

-- the marks stay within the ring's frames
pub AreWithin-added : (g : Geometry) (m : Marks) (f c : ℕ) → AreWithin g m → first_frame g ≤ f → f + 1 ≤ end_frame g → AreWithin g (added_at g m f c)
AreWithin-added g m f c x least end = record {
  cursor = record { least = grind (arith, nat_tests); most = grind (arith, nat_tests) };
  floor = record { least = grind (arith, nat_tests, x.floor.least, x.high.least); most = grind (arith, nat_tests, x.floor.most, x.high.most) };
  high = record { least = grind (arith, nat_tests, x.high.least); most = grind (arith, nat_tests, x.high.most, end) };
  cursor_high = λ d. later_up_to m.high (cursor_after g f c) d;
  floor_high = λ d. elim (cases_Bool (is_before m.cursor m.high)) [
    | inl before ↦ rw before (up_to_later m.high (cursor_after g f c) d)
    | inr level ↦ rw level (omega (arith, x.floor_high d, up_to_later m.high (cursor_after g f c) d))
  ];
}

-- a word with fewer than 192 entries has room for one more
pub record HasRoom (w : ℕ) (sample : ℤ) : Type 0 where
  pub count : count_of w < 255
  pub low : negsuc 8388607 ≤ℤ (sum_of w +ℤ sample)
  pub high : (sum_of w +ℤ sample) ≤ℤ pos 8388607

pub HasRoom-of : (w l most : ℕ) (sample : ℤ) → HoldsAtMost w l most → most < 192 → negsuc 32767 ≤ℤ sample → sample ≤ℤ pos 32768 → HasRoom w sample
HasRoom-of w l most sample holds few low high = grind (arith, nat_tests)

-- a word with one more sample
pub HoldsAtMost-more : (w word l most : ℕ) (sample : ℤ) → HoldsAtMost w l most → negsuc 32767 ≤ℤ sample → sample ≤ℤ pos 32768
    → StandsFor word (lap_of w) (count_of w + 1) (sum_of w +ℤ sample) → HoldsAtMost word l (most + 1)
HoldsAtMost-more w word l most sample holds low high stands = grind (arith, nat_tests)

pub HoldsAtMost-mono : (w l most more : ℕ) → most ≤ more → HoldsAtMost w l most → HoldsAtMost w l more
HoldsAtMost-mono w l most more up holds = grind (arith, nat_tests)

-- an empty word
pub HoldsAtMost-empty : (word l most : ℕ) → StandsFor word l 0 (pos 0) → HoldsAtMost word l most
HoldsAtMost-empty word l most stands = grind (arith, nat_tests)

-- the next word was taken
pub IsSound-taken : (v : View) (word : ℕ) → IsSound v → lap v.geometry v.next.frame < 4294967295
    → StandsFor word (lap_of (word_at v v.next.frame v.next.channel) + 1) 0 (pos 0) → IsSound (taken_view v word)
IsSound-taken v word s fits stands =
    let g : Geometry = v.geometry in
    let nf : ℕ = v.next.frame in
    let nc : ℕ = v.next.channel in
    let lap_is : lap_of (word_at v nf nc) ≡ lap g nf = (s.words_now nf nc (IsNow-next g v.next s.next_channel)).of_lap in
    let some : 0 < g.frames = omega (arith, g.frames_least) in
    let next_lap : lap g (nf + g.frames) ≡ lap g nf + 1 = add-div_right nf some in
    let P : ℕ → ℕ → ℕ → Type 0 = λ w f c. HoldsAtMost w (lap g f) (all_hold v.marks f c) in
    let here : P word (nf + g.frames) nc = HoldsAtMost-empty word (lap g (nf + g.frames)) (all_hold v.marks (nf + g.frames) nc) (rw (next_lap, ← lap_is) stands) in
    let end : nf + 1 ≤ end_frame g = suc-le-end_frame g nf fits in
    record {
      room = length-set v.words (word_index g nf nc) word ∙ s.room;
      members = s.members;
      next_channel = grind (arith, nat_tests, g.channels_least, s.next_channel);
      next_least = grind (arith, nat_tests, s.next_least);
      next_most = grind (arith, nat_tests, s.next_most, end);
      position_least = s.position_least;
      position_most = grind (arith, nat_tests, s.position_most);
      marks_within = s.marks_within;
      words_now = words-taken g (word_index g) _ (word_places g) P v.next v.words word s.room s.next_channel here s.words_now;
    }

-- an entry was placed
pub IsSound-laid : (v : View) (e : Entry) (word : ℕ)
    → IsSound v → e.member < length v.marks → IsNow v.geometry v.next e.frame e.channel
    → HoldsMoreAt v.geometry (marks_at v e.member) (marks_after v.geometry (marks_at v e.member) e) e.frame e.channel
    → AreWithin v.geometry (marks_after v.geometry (marks_at v e.member) e)
    → negsuc 32767 ≤ℤ value_of e → value_of e ≤ℤ pos 32768
    → StandsFor word (lap_of (word_at v e.frame e.channel)) (count_of (word_at v e.frame e.channel) + 1) (sum_of (word_at v e.frame e.channel) +ℤ value_of e)
    → IsSound (laid_view v e word)
IsSound-laid v e word s member now more within low high stands =
    let g : Geometry = v.geometry in
    let f : ℕ = e.frame in
    let c : ℕ = e.channel in
    let moved : Marks = marks_after g (marks_at v e.member) e in
    let new : List Marks = set v.marks e.member moved in
    let P : ℕ → ℕ → ℕ → Type 0 = λ w k x. (x < g.channels) × HoldsAtMost w (lap g k) (all_hold v.marks k x) in
    let Q : ℕ → ℕ → ℕ → Type 0 = λ w k x. HoldsAtMost w (lap g k) (all_hold new k x) in
    let up : all_hold v.marks f c + 1 ≤ all_hold new f c = omega (arith, all_hold-set v.marks e.member moved (record { cursor = v.next; floor = v.next; high = v.next }) f c member, more.own) in
    let here : Q word f c = HoldsAtMost-mono word (lap g f) (all_hold v.marks f c + 1) (all_hold new f c) up (HoldsAtMost-more (word_at v f c) word (lap g f) (all_hold v.marks f c) (value_of e) (s.words_now f c now) low high stands) in
    let others : (w k x : ℕ) → ¬ ((f ≡ k) × (c ≡ x)) → P w k x → Q w k x = λ w k x elsewhere p.
    HoldsAtMost-mono w (lap g k) (all_hold v.marks k x) (all_hold new k x) (omega (arith, all_hold-set v.marks e.member moved (record { cursor = v.next; floor = v.next; high = v.next }) k x member, more.others k x p.0)) p.1 in
    let room = length-set v.words (word_index g f c) word ∙ s.room in
    let members : length new ≤ 64 = omega (arith, length-set v.marks e.member moved, s.members) in
    let marks_within = All-set (λ (m : Marks). AreWithin g m) v.marks e.member moved within s.marks_within in
    let words_now = words-written g (word_index g) _ (word_places g) P Q v.next v.words f c word s.room now here others (λ k x asked. (asked.channel, s.words_now k x asked)) in
    assumption

-- so there is room for the entry
pub room-laid : (v : View) (e : Entry) → IsSound v → e.member < length v.marks → IsNow v.geometry v.next e.frame e.channel
    → HoldsMoreAt v.geometry (marks_at v e.member) (marks_after v.geometry (marks_at v e.member) e) e.frame e.channel
    → negsuc 32767 ≤ℤ value_of e → value_of e ≤ℤ pos 32768 → HasRoom (word_at v e.frame e.channel) (value_of e)
room-laid v e s member now more low high =
    let moved : Marks = marks_after v.geometry (marks_at v e.member) e in
    let new : List Marks = set v.marks e.member moved in
    let up : all_hold v.marks e.frame e.channel + 1 ≤ all_hold new e.frame e.channel = omega (arith, all_hold-set v.marks e.member moved (record { cursor = v.next; floor = v.next; high = v.next }) e.frame e.channel member, more.own) in
    let most : all_hold new e.frame e.channel ≤ length new * 3 = all_hold-most new e.frame e.channel in
    HasRoom-of (word_at v e.frame e.channel) (lap v.geometry e.frame) (all_hold v.marks e.frame e.channel) (value_of e) (s.words_now e.frame e.channel now)
    (omega (arith, up, most, length-set v.marks e.member moved, s.members)) low high
