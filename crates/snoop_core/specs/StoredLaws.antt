-- One more sample is stored, and what a word of a frame and channel says.
use Rattle.std.specs.Prelude.{◌≡◌, ◌≢◌, ℕ, ◌+◌, ◌-◌, ◌*◌, ◌/◌, ◌%◌, ◌<◌, ◌≤◌, List, [], ◌∷◌, ◌++◌, length, ℤ, pos, ◌⊎◌}
use Rattle.std.proofs.Common.{inl, inr, arith, subst, sym, ap, ◌∙◌}
use Rattle.std.proofs.lemmas.Bool.{cases_eq, cases_lt}
use Rattle.std.proofs.lemmas.Bool.Decides.{nat_tests}
use Rattle.std.proofs.lemmas.List.{get_or_append_left, get_or_at}
use Rattle.std.proofs.Math.Nat.{add-mod_right, div-mul-le_self, mod-lt, mul-le-mul_left}
use Rattle.std.proofs.lemmas.Nat.{div-add-mod', le-div}
use Rattle.snd_base.specs.declared.geometry.Geometry.{Geometry}
use Rattle.snd_base.specs.declared.places.Cursor.{Cursor}
use Rattle.snd_base.specs.PlaceLaws.{div-lt_same, first_free-behind_low, mod-same, mod-window, next_word-suc}
use Rattle.snd_base.specs.Places.{cursor_after, first_frame, first_free, lap, next_word, slot}
use Rattle.mix_core.specs.Written.{first_free-behind_other}
use Rattle.snoop_core.specs.Stored.{HaveLaps, HoldLast, IsCaptured, IsLast, IsUnused, next_after_stored, stored_place, sample_at}
use Rattle.snoop_core.specs.Word.{HoldsSample, HoldsSample-fields, laps_of, sample_of}
use Rattle.snoop_core.specs.declared.port.Frame.{Frame}

-- two frames are of one slot and channel, or not
pub slot_cases : (g : Geometry) (f c k d : ℕ) → ((slot g f ≡ slot g k) × (c ≡ d)) ⊎ (¬ ((slot g f ≡ slot g k) × (c ≡ d)))
slot_cases g f c k d = elim (cases_eq (slot g f) (slot g k)) [
  | inl same ↦ elim (cases_eq c d) [ inl channel ↦ inl (same, channel) | inr apart ↦ inr (λ both. apart both.1) ]
  | inr apart ↦ inr (λ both. apart both.0)
]

-- two words of one frame's slot: the words go by slots
abbrev pub BySlots : Geometry → (ℕ → ℕ → ℕ) → Type 0
BySlots g word = (f k c : ℕ) → slot g f ≡ slot g k → word f c ≡ word k c

-- the last frame that was stored in the slot of a stored frame
pub last_of_slot : (g : Geometry) (next : Cursor) (f c : ℕ) → c < g.channels → first_frame g ≤ f → f < first_free next c
    → (k : ℕ) × IsLast g next k c × (slot g k ≡ slot g f) × (f ≤ k) × (f < k → f + g.frames ≤ k)
last_of_slot g next f c in_range least stored =
    let some : 0 < g.frames = omega (arith, g.frames_least) in
    let w : (j : ℕ) × ((first_free next c ≤ j) × ((j < first_free next c + g.frames) × (j % g.frames ≡ f % g.frames))) = mod-window g.frames (first_free next c) f some in
    let j : ℕ = w.0 in
    let apart : f + g.frames ≤ j = elim (cases_lt j (f + g.frames)) [
      | inl near ↦ absurd (omega (arith, mod-same g.frames f j f (omega (arith, w.1.0)) near (omega arith) (omega arith) w.1.1.1, w.1.0))
      | inr far ↦ omega (arith, far)
    ] in
    let k : ℕ = j - g.frames in
    let back : k + g.frames ≡ j = omega (arith, apart) in
    let same : k % g.frames ≡ f % g.frames = sym (add-mod_right k g.frames) ∙ (ap (λ x. x % g.frames) back ∙ w.1.1.1) in
    let up : f ≤ k = omega (arith, apart) in (
      k,
      record { channel = in_range; least = omega (arith, up, least); stored = omega (arith, back, w.1.1.0); last = omega (arith, back, w.1.0) },
      same,
      up,
      (λ later. elim (cases_lt k (f + g.frames)) [
        | inl near ↦ absurd (omega (arith, mod-same g.frames f k f up near (omega arith) (omega arith) same, later))
        | inr far ↦ omega (arith, far)
      ]),
    )

-- what the laps of the word of a stored frame and channel say
pub record IsByLaps (g : Geometry) (next : Cursor) (word f c : ℕ) : Type 0 where
  pub not_before : lap g f + 1 ≤ laps_of word
  pub past : f + g.frames < first_free next c → lap g f + 1 < laps_of word
  pub overtaken : lap g f + 1 < laps_of word → f + g.frames < first_free next c

pub by_laps : (g : Geometry) (next : Cursor) (word : ℕ → ℕ → ℕ) (f c : ℕ) → HaveLaps g next word → BySlots g word
    → c < g.channels → first_frame g ≤ f → f < first_free next c → IsByLaps g next (word f c) f c
by_laps g next word f c laps by in_range least stored =
    let found = last_of_slot g next f c in_range least stored in
    let k : ℕ = found.0 in
    let same : k % g.frames ≡ f % g.frames = found.2 in
    let is : laps_of (word f c) ≡ lap g k + 1 = ap laps_of (by f k c (sym same)) ∙ laps k c found.1 in
    elim (cases_lt f k) [
      | inl later ↦
          let up : lap g f < lap g k = div-lt_same g.frames f k (sym same) later in
          record {
            not_before = omega (arith, is, up);
            past = λ far. omega (arith, is, up);
            overtaken = λ up. omega (arith, found.4 later, found.1.stored);
          }
      | inr not_later ↦
          let one : k ≡ f = omega (arith, not_later, found.3) in
          let lap_is : lap g k ≡ lap g f = ap (lap g) one in
          record {
            not_before = omega (arith, is, lap_is);
            past = λ far. absurd (omega (arith, far, found.1.last, one));
            overtaken = λ up. absurd (omega (arith, is, lap_is, up));
          }
    ]

-- a word with the frame's own lap holds the frame's sample
pub own_sample : (g : Geometry) (word : ℕ → ℕ → ℕ) (xs : List ℤ) (f c : ℕ) → HoldLast g word xs → BySlots g word
    → c < g.channels → first_frame g ≤ f → f < first_free (next_after_stored g xs) c → laps_of (word f c) ≡ lap g f + 1
    → sample_of (word f c) ≡ sample_at g xs f c
own_sample g word xs f c holds by in_range least stored own =
    let found = last_of_slot g (next_after_stored g xs) f c in_range least stored in
    let k : ℕ = found.0 in
    let same : k % g.frames ≡ f % g.frames = found.2 in
    let fields = HoldsSample-fields _ _ _ (holds.last k c found.1) in
    let there : word f c ≡ word k c = by f k c (sym same) in
    let is : laps_of (word f c) ≡ lap g k + 1 = ap laps_of there ∙ fields.0 in
    elim (cases_lt f k) [
      | inl later ↦ absurd (omega (arith, is, own, div-lt_same g.frames f k (sym same) later))
      | inr not_later ↦
          let one : k ≡ f = omega (arith, not_later, found.3) in
          ap sample_of there ∙ (fields.1 ∙ ap (λ j. sample_at g xs j c) one)
    ]

-- a word was stored over at the next frame and channel
pub record IsWritten (g : Geometry) (next : Cursor) (new : ℕ) (before after : ℕ → ℕ → ℕ) : Type 0 where
  pub here : (f : ℕ) → slot g f ≡ slot g next.frame → after f next.channel ≡ new
  pub elsewhere : (f c : ℕ) → c < g.channels → ¬ ((slot g f ≡ slot g next.frame) × (c ≡ next.channel)) → after f c ≡ before f c

-- what holds of the last stored words goes on, where it holds of the new word at the next frame and channel
pub last-written : (P Q : ℕ → ℕ → ℕ → Type 0) (g : Geometry) (next : Cursor) (new : ℕ) (before after : ℕ → ℕ → ℕ)
    → next.channel < g.channels → IsWritten g next new before after
    → Q new next.frame next.channel
    → ((w f c : ℕ) → c < g.channels → first_frame g ≤ f → f < first_free next c → P w f c → Q w f c)
    → ((f c : ℕ) → IsLast g next f c → P (before f c) f c)
    → (f c : ℕ) → IsLast g (cursor_after g next.frame next.channel) f c → Q (after f c) f c
last-written P Q g next new before after in_range written fresh keep old f c is = elim (slot_cases g f c next.frame next.channel) [
  | inl same ↦
      let moved : first_free (cursor_after g next.frame next.channel) c ≡ next.frame + 1 = first_free-behind_low g next.frame next.channel c in_range (omega (arith, same.1)) in
      let stored : f ≤ next.frame = omega (arith, moved, is.stored) in
      let near : next.frame < f + g.frames = omega (arith, moved, is.last) in
      let one : f ≡ next.frame = sym (mod-same g.frames f next.frame f stored near (omega arith) (omega (arith, g.frames_least)) (sym same.0)) in
      let word : after f next.channel ≡ new = written.here f same.0 in
      subst (λ d. Q (after f d) f d) (sym same.1) (subst (λ w. Q w f next.channel) (sym word) (subst (λ k. Q new k next.channel) (sym one) fresh))
  | inr apart ↦
      let was : IsLast g next f c = elim (cases_eq c next.channel) [
        | inl own ↦
            let moved : first_free (cursor_after g next.frame next.channel) c ≡ next.frame + 1 = first_free-behind_low g next.frame next.channel c in_range (omega (arith, own)) in
            let start : first_free next c ≡ next.frame = grind (arith, nat_tests, own) in
            let other : f ≢ next.frame = λ e. apart (ap (slot g) e, own) in
            record {
              channel = is.channel;
              least = is.least;
              stored = omega (arith, moved, is.stored, start, other);
              last = omega (arith, moved, is.last, start);
            }
        | inr other ↦
            let stays : first_free (cursor_after g next.frame next.channel) c ≡ first_free next c = first_free-behind_other g next c is.channel in_range other in
            record { channel = is.channel; least = is.least; stored = omega (arith, stays, is.stored); last = omega (arith, stays, is.last) }
      ] in
      subst (λ w. Q w f c) (sym (written.elsewhere f c is.channel apart)) (keep (before f c) f c is.channel is.least was.stored (old f c was))
]

-- a word that was not used was not used before, and is the same
pub unused-written : (g : Geometry) (next : Cursor) (new : ℕ) (before after : ℕ → ℕ → ℕ) (f c : ℕ)
    → next.channel < g.channels → first_frame g ≤ next.frame → IsWritten g next new before after
    → IsUnused g (cursor_after g next.frame next.channel) f c → IsUnused g next f c × (after f c ≡ before f c)
unused-written g next new before after f c in_range least written is = elim (cases_eq c next.channel) [
  | inl own ↦
      let moved : first_free (cursor_after g next.frame next.channel) c ≡ next.frame + 1 = first_free-behind_low g next.frame next.channel c in_range (omega (arith, own)) in
      let start : first_free next c ≡ next.frame = grind (arith, nat_tests, own) in
      let later : next.frame < f = omega (arith, moved, is.unstored) in
      let apart : ¬ ((slot g f ≡ slot g next.frame) × (c ≡ next.channel)) = λ same.
      omega (arith, later, mod-same g.frames next.frame f next.frame (omega (arith, later)) (omega (arith, is.first_lap, least)) (omega arith) (omega (arith, g.frames_least)) same.0) in
      (record { channel = is.channel; unstored = omega (arith, start, later); first_lap = is.first_lap }, written.elsewhere f c is.channel apart)
  | inr other ↦
      let stays : first_free (cursor_after g next.frame next.channel) c ≡ first_free next c = first_free-behind_other g next c is.channel in_range other in
      (record { channel = is.channel; unstored = omega (arith, stays, is.unstored); first_lap = is.first_lap }, written.elsewhere f c is.channel (λ same. other same.1))
]

-- the laps go on
pub HaveLaps-written : (g : Geometry) (next : Cursor) (new : ℕ) (x : ℤ) (before after : ℕ → ℕ → ℕ)
    → next.channel < g.channels → IsWritten g next new before after → HoldsSample new (lap g next.frame + 1) x
    → HaveLaps g next before → HaveLaps g (cursor_after g next.frame next.channel) after
HaveLaps-written g next new x before after in_range written holds laps =
    last-written (λ w f c. laps_of w ≡ lap g f + 1) (λ w f c. laps_of w ≡ lap g f + 1) g next new before after in_range written
    (HoldsSample-fields new _ x holds).0 (λ w f c d l s is. is) laps

-- the next place is after all that was stored
pub next_after_stored-channel : (g : Geometry) (xs : List ℤ) → (next_after_stored g xs).channel < g.channels
next_after_stored-channel g xs = mod-lt (length xs) (omega (arith, g.channels_least))

pub stored_place-next : (g : Geometry) (xs : List ℤ) → stored_place g (next_after_stored g xs).frame (next_after_stored g xs).channel ≡ length xs
stored_place-next g xs =
    let n : ℕ = length xs in
    let up : first_frame g + n / g.channels - first_frame g ≡ n / g.channels = omega arith in
    ap (λ q. q * g.channels + n % g.channels) up ∙ div-add-mod' n g.channels

pub stored_place-stored : (g : Geometry) (xs : List ℤ) (f c : ℕ) → c < g.channels → first_frame g ≤ f → f < first_free (next_after_stored g xs) c → stored_place g f c < length xs
stored_place-stored g xs f c in_range least stored =
    let n : ℕ = length xs in
    let q : ℕ = n / g.channels in
    let r : ℕ = n % g.channels in
    let d : ℕ = f - first_frame g in
    let whole : n ≡ q * g.channels + r = sym (div-add-mod' n g.channels) in
    elim (cases_lt d q) [
      | inl below ↦
          let product : g.channels * (d + 1) ≤ g.channels * q = mul-le-mul_left g.channels (omega (arith, below)) in
          omega (arith, whole, product, in_range)
      | inr from ↦
          let same : d ≡ q = grind (arith, nat_tests, stored, from, least) in
          let part : c < r = grind (arith, nat_tests, stored, from, least, same) in
          omega (arith, whole, part, ap (λ y. y * g.channels) same)
    ]

-- one more sample
pub next_after_stored-more : (g : Geometry) (xs : List ℤ) (x : ℤ) → next_after_stored g (xs ++ x ∷ []) ≡ cursor_after g (next_after_stored g xs).frame (next_after_stored g xs).channel
next_after_stored-more g xs x =
    ap (next_word g) (Rattle.std.proofs.lemmas.List.length-append xs (x ∷ [])) ∙ next_word-suc g (length xs)

pub sample_at-more : (g : Geometry) (xs ys : List ℤ) (f c : ℕ) → c < g.channels → first_frame g ≤ f → f < first_free (next_after_stored g xs) c
    → sample_at g (xs ++ ys) f c ≡ sample_at g xs f c
sample_at-more g xs ys f c in_range least stored = get_or_append_left xs ys (pos 0) (stored_place g f c) (stored_place-stored g xs f c in_range least stored)

pub sample_at-last : (g : Geometry) (xs : List ℤ) (x : ℤ) → sample_at g (xs ++ x ∷ []) (next_after_stored g xs).frame (next_after_stored g xs).channel ≡ x
sample_at-last g xs x = get_or_at xs x [] (pos 0) (stored_place g (next_after_stored g xs).frame (next_after_stored g xs).channel) (sym (stored_place-next g xs))

-- what the words hold goes on
pub HoldLast-written : (g : Geometry) (new : ℕ) (x : ℤ) (before after : ℕ → ℕ → ℕ) (xs : List ℤ)
    → IsWritten g (next_after_stored g xs) new before after → HoldsSample new (lap g (next_after_stored g xs).frame + 1) x
    → HoldLast g before xs → HoldLast g after (xs ++ x ∷ [])
HoldLast-written g new x before after xs written holds old =
    let next : Cursor = next_after_stored g xs in
    let ys : List ℤ = xs ++ x ∷ [] in
    let moved : next_after_stored g ys ≡ cursor_after g next.frame next.channel = next_after_stored-more g xs x in
    let in_range = next_after_stored-channel g xs in
    record {
      last = λ f c is.
          last-written (λ w f c. HoldsSample w (lap g f + 1) (sample_at g xs f c)) (λ w f c. HoldsSample w (lap g f + 1) (sample_at g ys f c))
          g next new before after in_range written
          (subst (HoldsSample new (lap g next.frame + 1)) (sym (sample_at-last g xs x)) holds)
          (λ w f c d l s one. subst (HoldsSample w (lap g f + 1)) (sym (sample_at-more g xs (x ∷ []) f c d l s)) one)
          old.last f c (subst (λ (y : Cursor). IsLast g y f c) moved is);
      unused = λ f c is.
          let was = unused-written g next new before after f c in_range (omega arith) written (subst (λ (y : Cursor). IsUnused g y f c) moved is) in
          subst (λ w. HoldsSample w g.first_lap (pos 0)) (sym was.1) (old.unused f c was.0);
    }

-- a stored frame stays the stored one
pub next_after_stored-grows : (g : Geometry) (xs ys : List ℤ) → (next_after_stored g xs).frame ≤ (next_after_stored g (xs ++ ys)).frame
next_after_stored-grows g xs ys =
    let some : 0 < g.channels = omega (arith, g.channels_least) in
    let more : length xs ≤ length (xs ++ ys) = omega (arith, Rattle.std.proofs.lemmas.List.length-append xs ys) in
    let up : length xs / g.channels ≤ length (xs ++ ys) / g.channels =
    le-div (length xs / g.channels) (length (xs ++ ys)) g.channels some (omega (arith, more, div-mul-le_self (length xs) g.channels)) in
    omega (arith, up)

-- and so does each place that was stored
pub first_free-next : (g : Geometry) (n m c : ℕ) → n ≤ m → first_free (next_word g n) c ≤ first_free (next_word g m) c
first_free-next g n m c up =
    let some : 0 < g.channels = omega (arith, g.channels_least) in
    let q : ℕ = n / g.channels in
    let r : ℕ = n % g.channels in
    let k : ℕ = m / g.channels in
    let s : ℕ = m % g.channels in
    let first : q * g.channels + r ≡ n = div-add-mod' n g.channels in
    let then : k * g.channels + s ≡ m = div-add-mod' m g.channels in
    let rows : q ≤ k = le-div q m g.channels some (omega (arith, up, div-mul-le_self n g.channels)) in
    elim (cases_lt q k) [
      | inl below ↦ grind (arith, nat_tests, below)
      | inr not_below ↦
          let same : q ≡ k = omega (arith, not_below, rows) in
          let part : r ≤ s = omega (arith, first, then, up, ap (λ y. y * g.channels) same) in
          grind (arith, nat_tests, same, part)
    ]

pub first_free-more : (g : Geometry) (xs ys : List ℤ) (c : ℕ) → first_free (next_after_stored g xs) c ≤ first_free (next_after_stored g (xs ++ ys)) c
first_free-more g xs ys c = first_free-next g (length xs) (length (xs ++ ys)) c (omega (arith, Rattle.std.proofs.lemmas.List.length-append xs ys))

-- what the words hold gives their laps
pub HaveLaps-holding : (g : Geometry) (word : ℕ → ℕ → ℕ) (xs : List ℤ) → HoldLast g word xs → HaveLaps g (next_after_stored g xs) word
HaveLaps-holding g word xs holds f c is = (HoldsSample-fields _ _ _ (holds.last f c is)).0

pub IsCaptured-more : (g : Geometry) (xs ys : List ℤ) (frame : Frame) → IsCaptured g xs frame → IsCaptured g (xs ++ ys) frame
IsCaptured-more g xs ys frame is = record {
  least = is.least;
  whole = omega (arith, is.whole, next_after_stored-grows g xs ys);
  size = is.size;
  samples = λ c in_range.
      is.samples c in_range ∙ sym (sample_at-more g xs ys frame.number c in_range is.least (grind (arith, nat_tests, is.whole)));
}
