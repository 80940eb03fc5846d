-- What is true of every legal history: how it goes on, and where its cursors and its next word are.
use Rattle.std.specs.Prelude.{◌≡◌, ◌≢◌, ◌⊎◌, ℕ, ◌*◌, ◌<◌, ◌≤◌, None, Some, List, [], ◌∷◌, ◌++◌, length, ℤ}
use Rattle.std.proofs.Common.{refl, sym, subst, ap, ◌∙◌, append_assoc, arith, inl, inr}
use Rattle.std.proofs.Math.Nat.{div-lt_iff_lt-mul}
use Rattle.std.proofs.lemmas.Bool.{cases_eq}
use Rattle.std.proofs.lemmas.Bool.Decides.{nat_tests}
use Rattle.std.proofs.lemmas.List.{append-nil, length-append}
use Rattle.std.proofs.lemmas.List.Elements.{filter_map-append}
use Rattle.snd_base.specs.declared.geometry.Geometry.{Geometry}
use Rattle.snd_base.specs.declared.places.Cursor.{Cursor}
use Rattle.snd_base.specs.PlaceLaws.{next_word-suc}
use Rattle.snd_base.specs.Places.{cursor_after, end_frame, first_frame, first_free, lap, next_word}
use Rattle.mix_core.specs.declared.port.Entry.{Entry}
use Rattle.mix_core.specs.declared.event.Event.TheVariants.{Add, Withdraw, Take, Publish}
use Rattle.mix_core.specs.declared.event.Reply.TheVariants.{In, Late, Outside, Took, Published, LapEnd}
use Rattle.mix_core.specs.declared.event.Taken.{Taken}
use Rattle.mix_core.specs.History.{AreReplies, IsHeld, IsInside, IsLegal, IsReply, Row, entry_of, laid_of, next_to_take, taken_words, taking_of}
use Rattle.mix_core.specs.declared.marks.Marks.{Marks}
use Rattle.mix_core.specs.declared.port.Kind.{Kind}
use Rattle.mix_core.specs.declared.port.Kind.TheVariants.{Added, Withdrawn}
use Rattle.mix_core.specs.Laid.{a_withdrawal, an_add, cursor_of, marks_with, marks_of}
use Rattle.mix_core.specs.OwnLaws.{marks_of-other, marks_of-own}

-- one more row at the end
pub AreReplies-more : (g : Geometry) (members : ℕ) (h rs : List Row) (r : Row)
    → AreReplies g members h rs → IsReply g members (h ++ rs) r → AreReplies g members h (rs ++ r ∷ [])
AreReplies-more g members h [] r are is = (subst (λ x. IsReply g members x r) (append-nil h) is, tt)
AreReplies-more g members h (x ∷ xs) r are is =
    (are.0, AreReplies-more g members (h ++ x ∷ []) xs r are.1 (subst (λ y. IsReply g members y r) (sym (append_assoc h (x ∷ []) xs)) is))

pub IsLegal-more : (g : Geometry) (members : ℕ) (h : List Row) (r : Row) → IsLegal g members h → IsReply g members h r → IsLegal g members (h ++ r ∷ [])
IsLegal-more g members h r legal is = AreReplies-more g members [] h r legal is

-- the last of such rows has the reply that all before it determine
pub AreReplies-last : (g : Geometry) (members : ℕ) (h rs : List Row) (r : Row) → AreReplies g members h (rs ++ r ∷ []) → IsReply g members (h ++ rs) r
AreReplies-last g members h [] r are = subst (λ x. IsReply g members x r) (sym (append-nil h)) are.0
AreReplies-last g members h (x ∷ xs) r are =
    subst (λ y. IsReply g members y r) (append_assoc h (x ∷ []) xs) (AreReplies-last g members (h ++ x ∷ []) xs r are.1)

-- what each reply keeps true holds after all of them
pub AreReplies-keep : (g : Geometry) (members : ℕ) (P : List Row → Type 0)
    → ((h : List Row) (r : Row) → IsReply g members h r → P h → P (h ++ r ∷ []))
    → (h rs : List Row) → P h → AreReplies g members h rs → P (h ++ rs)
AreReplies-keep g members P step h [] holds are = subst P (sym (append-nil h)) holds
AreReplies-keep g members P step h (r ∷ rs) holds are =
    subst P (append_assoc h (r ∷ []) rs) (AreReplies-keep g members P step (h ++ r ∷ []) rs (step h r are.0 holds) are.1)

-- the member of an entry may add or withdraw it
abbrev pub may_lay : Kind → Geometry → ℕ → List Row → ℕ → ℕ → ℕ → ℤ → Type 0
may_lay Added g members h m f c s = IsInside g members h m f c
may_lay Withdrawn g members h m f c s = IsHeld g members h m f c s

abbrev pub MayLay : Geometry → ℕ → List Row → Entry → Type 0
MayLay g members h e = may_lay e.kind g members h e.member e.frame e.channel e.sample

-- a row places nothing, or one entry where its member may
pub entry_of-cases : (g : Geometry) (members : ℕ) (h : List Row) (r : Row) → IsReply g members h r
    → (entry_of r ≡ None) ⊎ ((e : Entry) × ((entry_of r ≡ Some e) × MayLay g members h e))
entry_of-cases g members h (Add m f c s, In) is = inr (an_add m f c s, (refl, is.0))
entry_of-cases g members h (Add m f c s, Late) is = inl refl
entry_of-cases g members h (Add m f c s, Outside) is = inl refl
entry_of-cases g members h (Add m f c s, Took k d v) is = inl refl
entry_of-cases g members h (Add m f c s, Published k) is = inl refl
entry_of-cases g members h (Add m f c s, LapEnd) is = inl refl
entry_of-cases g members h (Withdraw m f c s, In) is = inr (a_withdrawal m f c s, (refl, is.0))
entry_of-cases g members h (Withdraw m f c s, Late) is = inl refl
entry_of-cases g members h (Withdraw m f c s, Outside) is = inl refl
entry_of-cases g members h (Withdraw m f c s, Took k d v) is = inl refl
entry_of-cases g members h (Withdraw m f c s, Published k) is = inl refl
entry_of-cases g members h (Withdraw m f c s, LapEnd) is = inl refl
entry_of-cases g members h (Take, r) is = inl refl
entry_of-cases g members h (Publish, r) is = inl refl

-- a row takes nothing, or one word whose frame has a lap that fits
pub taking_of-cases : (g : Geometry) (members : ℕ) (h : List Row) (r : Row) → IsReply g members h r
    → (taking_of r ≡ None) ⊎ ((t : Taken) × ((taking_of r ≡ Some t) × (lap g (next_to_take g h).frame ≢ 4294967295)))
taking_of-cases g members h (Add m f c s, r) is = inl refl
taking_of-cases g members h (Withdraw m f c s, r) is = inl refl
taking_of-cases g members h (Publish, r) is = inl refl
taking_of-cases g members h (Take, In) is = inl refl
taking_of-cases g members h (Take, Late) is = inl refl
taking_of-cases g members h (Take, Outside) is = inl refl
taking_of-cases g members h (Take, Took k d v) is = inr (record { frame = k; channel = d; value = v }, (refl, is.0))
taking_of-cases g members h (Take, Published k) is = inl refl
taking_of-cases g members h (Take, LapEnd) is = inl refl

-- no mark is before the first frame
pub record AreLeast (g : Geometry) (m : Marks) : Type 0 where
  pub cursor : first_frame g ≤ m.cursor.frame
  pub floor : first_frame g ≤ m.floor.frame
  pub high : first_frame g ≤ m.high.frame

AreLeast-marked : (g : Geometry) (k : Kind) (m : Marks) (f c : ℕ) → first_frame g ≤ f → AreLeast g m → AreLeast g (marks_with k g m f c)
AreLeast-marked g Added m f c least l = record {
  cursor = grind (arith, nat_tests);
  floor = grind (arith, nat_tests, l.floor, l.high);
  high = grind (arith, nat_tests, l.high);
}
AreLeast-marked g Withdrawn m f c least l = record { cursor = least; floor = l.floor; high = l.high }

-- the frame of an entry that its member may place is not before the first
laid-least : (g : Geometry) (members : ℕ) (h : List Row) (k : Kind) (m f c : ℕ) (s : ℤ) → AreLeast g (marks_of g m (laid_of h)) → may_lay k g members h m f c s → first_frame g ≤ f
laid-least g members h Added m f c s l may = grind (arith, nat_tests, l.cursor, may.from_cursor)
laid-least g members h Withdrawn m f c s l may = grind (arith, nat_tests, l.floor, may.from_floor)

pub marks_of-least : (g : Geometry) (members : ℕ) (h : List Row) (m : ℕ) → IsLegal g members h → AreLeast g (marks_of g m (laid_of h))
marks_of-least g members h m legal =
    let P : List Row → Type 0 = λ x. (k : ℕ) → AreLeast g (marks_of g k (laid_of x)) in
    AreReplies-keep g members P (
    λ x r is holds k. elim (entry_of-cases g members x r is) [
      | inl none ↦ rw (filter_map-append entry_of x (r ∷ []), none, append-nil (laid_of x)) (holds k)
      | inr one ↦
          let e : Entry = one.0 in
          rw (filter_map-append entry_of x (r ∷ []), one.1.0)
          (elim (cases_eq e.member k) [
            | inl same ↦ subst (AreLeast g) (sym (marks_of-own g k (laid_of x) e same))
                (AreLeast-marked g e.kind (marks_of g k (laid_of x)) e.frame e.channel (laid-least g members x e.kind e.member e.frame e.channel e.sample (holds e.member) one.1.1) (holds k))
            | inr other ↦ subst (AreLeast g) (sym (marks_of-other g k (laid_of x) e other)) (holds k)
          ])
    ]
    ) [] h (λ k. record { cursor = omega arith; floor = omega arith; high = omega arith }) legal m

-- no cursor is before the first frame
pub cursor_of-least : (g : Geometry) (members : ℕ) (h : List Row) (m : ℕ) → IsLegal g members h → first_frame g ≤ (cursor_of g m (laid_of h)).frame
cursor_of-least g members h m legal = (marks_of-least g members h m legal).cursor

-- the first frame is not past the end
pub first_frame-le : (g : Geometry) → first_frame g ≤ end_frame g
first_frame-le g = grind (arith, g.first_lap_most)

-- a frame up to the end whose lap fits is before the end
frame-before_end : (g : Geometry) (f : ℕ) → f ≤ end_frame g → lap g f ≢ 4294967295 → f < end_frame g
frame-before_end g f within other =
    let some : 0 < g.frames = omega (arith, g.frames_least) in
    let below : f < 4294967296 * g.frames = omega (arith, g.frames_least) in
    let fits : lap g f < 4294967296 = (div-lt_iff_lt-mul some).1 below in
    (div-lt_iff_lt-mul some).0 (omega (arith, other, fits))

-- the word after one before the end is none past it
behind-within : (g : Geometry) (at : Cursor) (c : ℕ) → at.frame < end_frame g → first_free (cursor_after g at.frame at.channel) c ≤ end_frame g
behind-within g at c before = grind (arith, nat_tests)

-- after one more take the next word is the one right after it, and after any other row it is the same
pub next_to_take-took : (g : Geometry) (h : List Row) (r : Row) (t : Taken) → taking_of r ≡ Some t → next_to_take g (h ++ r ∷ []) ≡ cursor_after g (next_to_take g h).frame (next_to_take g h).channel
next_to_take-took g h r t one =
    let more : taken_words (h ++ r ∷ []) ≡ taken_words h ++ t ∷ [] = rw (filter_map-append taking_of h (r ∷ []), one) refl in
    ap (λ ts. next_word g (length ts)) more ∙ (ap (next_word g) (length-append (taken_words h) (t ∷ [])) ∙ next_word-suc g (length (taken_words h)))

pub next_to_take-kept : (g : Geometry) (h : List Row) (r : Row) → taking_of r ≡ None → next_to_take g (h ++ r ∷ []) ≡ next_to_take g h
next_to_take-kept g h r none = rw (filter_map-append taking_of h (r ∷ []), none, append-nil (taken_words h)) refl

-- no frame from the end on is taken
pub next_to_take-most : (g : Geometry) (members : ℕ) (h : List Row) (c : ℕ) → IsLegal g members h → first_free (next_to_take g h) c ≤ end_frame g
next_to_take-most g members h c legal =
    let P : List Row → Type 0 = λ x. (d : ℕ) → first_free (next_to_take g x) d ≤ end_frame g in
    let start_is : next_word g 0 ≡ record { frame = first_frame g; channel = 0 } = grind arith in
    AreReplies-keep g members P (
    λ x r is holds d. elim (taking_of-cases g members x r is) [
      | inl none ↦ subst (λ (y : Cursor). first_free y d ≤ end_frame g) (sym (next_to_take-kept g x r none)) (holds d)
      | inr one ↦
          let at : Cursor = next_to_take g x in
          let own : at.frame ≤ end_frame g = grind (arith, nat_tests, holds at.channel) in
          subst (λ (y : Cursor). first_free y d ≤ end_frame g) (sym (next_to_take-took g x r one.0 one.1.0)) (behind-within g at d (frame-before_end g at.frame own one.1.1))
    ]
    ) [] h (λ d. subst (λ (x : Cursor). first_free x d ≤ end_frame g) (sym start_is) (grind (arith, nat_tests, first_frame-le g))) legal c

-- the lap of a frame and channel that were taken fits a word
pub lap-taken : (g : Geometry) (members : ℕ) (h : List Row) (f c : ℕ) → IsLegal g members h → f < first_free (next_to_take g h) c → lap g f < 4294967295
lap-taken g members h f c legal before =
    let some : 0 < g.frames = omega (arith, g.frames_least) in
    (div-lt_iff_lt-mul some).1 (omega (arith, next_to_take-most g members h c legal, before))
