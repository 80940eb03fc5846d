-- Rows with the reply `Outside` may be left out of a history: what it placed and took and its position stay the same, and
-- so do the replies that it determines.
use Rattle.std.specs.Prelude.{◌≡◌, ◌≢◌, ℕ, ◌+◌, ◌<◌, Bool, length, true, false, Option, None, List, [], ◌∷◌, ◌++◌, fold, filter, ℤ}
use Rattle.std.specs.List.{filter_map}
use Rattle.std.proofs.Common.{refl, sym, subst, ap, inl, inr}
use Rattle.std.proofs.lemmas.Bool.{cases_Bool}
use Rattle.std.proofs.lemmas.List.Elements.{filter_map-append}
use Rattle.std.proofs.lemmas.List.Sums.{fold-append}
use Rattle.snd_base.specs.declared.geometry.Geometry.{Geometry}
use Rattle.snd_base.specs.Places.{IsFrom, first_frame, lap, next_word}
use Rattle.lap_word.specs.Clamp.{clamp_of}
use Rattle.mix_core.specs.declared.event.Event.TheVariants.{Add, Withdraw, Take, Publish}
use Rattle.mix_core.specs.declared.event.Reply.TheVariants.{In, Late, Outside, Took, Published, LapEnd}
use Rattle.mix_core.specs.History.{AreReplies, IsHeld, IsInside, IsSample, IsReply, Row, entry_of, is_taken, laid_of, position_after, position_of, taken_words, taking_of}
use Rattle.mix_core.specs.Laid.{cursor_of, last_entry, marks_of, standing_of, total}
use Rattle.mix_core.specs.Run.{is_kept, kept_rows}

-- items that give nothing may be left out
filter_map-filter : {X Y : Type 0} (h : X → Option Y) (p : X → Bool) → ((x : X) → p x ≡ false → h x ≡ None) → (xs : List X) → filter_map h (filter p xs) ≡ filter_map h xs
filter_map-filter h p none [] = refl
filter_map-filter h p none (x ∷ xs) =
    let rest : filter_map h (filter p xs) ≡ filter_map h xs = filter_map-filter h p none xs in
    elim (cases_Bool (p x)) [
      | inl here ↦ rw (here, filter_map-append h (x ∷ []) (filter p xs), rest) (sym (filter_map-append h (x ∷ []) xs))
      | inr not_here ↦ rw (not_here, none x not_here) rest
    ]

-- and so may items that a fold passes over
fold-filter : {X Y : Type 0} (f : Y → X → Y) (p : X → Bool) → ((y : Y) (x : X) → p x ≡ false → f y x ≡ y) → (y : Y) (xs : List X) → fold f y (filter p xs) ≡ fold f y xs
fold-filter f p same y [] = refl
fold-filter f p same y (x ∷ xs) = elim (cases_Bool (p x)) [
  | inl here ↦ rw here (fold-filter f p same (f y x) xs)
  | inr not_here ↦ rw (not_here, same y x not_here) (fold-filter f p same y xs)
]

-- a row that is left out places nothing, takes nothing and leaves the position alone
entry_of-outside : (r : Row) → is_kept r ≡ false → entry_of r ≡ None
entry_of-outside (Add m f c s, In) out = cc
entry_of-outside (Withdraw m f c s, In) out = cc
entry_of-outside (e, r) out = refl

taking_of-outside : (r : Row) → is_kept r ≡ false → taking_of r ≡ None
taking_of-outside (Take, Took f c v) out = cc
taking_of-outside (e, r) out = refl

position_after-outside : (position : ℕ) (r : Row) → is_kept r ≡ false → position_after position r ≡ position
position_after-outside position (Publish, Published frame) out = cc
position_after-outside position (e, r) out = refl

-- what a history placed and took, and its position, without the rows that are left out
pub laid_of-kept : (h : List Row) → laid_of (kept_rows h) ≡ laid_of h
laid_of-kept h = filter_map-filter entry_of is_kept entry_of-outside h

pub taken_words-kept : (h : List Row) → taken_words (kept_rows h) ≡ taken_words h
taken_words-kept h = filter_map-filter taking_of is_kept taking_of-outside h

-- two histories that placed and took the same, with one position
pub record AreAlike (g : Geometry) (h k : List Row) : Type 0 where
  pub laid : laid_of h ≡ laid_of k
  pub taken : taken_words h ≡ taken_words k
  pub position : position_of g h ≡ position_of g k

pub AreAlike-sym : (g : Geometry) (h k : List Row) → AreAlike g h k → AreAlike g k h
AreAlike-sym g h k alike = record { laid = sym alike.laid; taken = sym alike.taken; position = sym alike.position }

-- they stay alike by the same rows at their ends
pub AreAlike-append : (g : Geometry) (h k rs : List Row) → AreAlike g h k → AreAlike g (h ++ rs) (k ++ rs)
AreAlike-append g h k rs alike = record {
  laid = rw (filter_map-append entry_of h rs, filter_map-append entry_of k rs) (ap (λ es. es ++ laid_of rs) alike.laid);
  taken = rw (filter_map-append taking_of h rs, filter_map-append taking_of k rs) (ap (λ ts. ts ++ taken_words rs) alike.taken);
  position = rw (fold-append position_after (first_frame g) h rs, fold-append position_after (first_frame g) k rs) (ap (λ p. fold position_after p rs) alike.position);
}

-- a history and what is kept of its last rows
pub AreAlike-kept : (g : Geometry) (h rs : List Row) → AreAlike g (h ++ kept_rows rs) (h ++ rs)
AreAlike-kept g h rs = record {
  laid = rw (filter_map-append entry_of h (kept_rows rs), filter_map-append entry_of h rs, laid_of-kept rs) refl;
  taken = rw (filter_map-append taking_of h (kept_rows rs), filter_map-append taking_of h rs, taken_words-kept rs) refl;
  position = rw (fold-append position_after (first_frame g) h (kept_rows rs), fold-append position_after (first_frame g) h rs)
      (fold-filter position_after is_kept position_after-outside (position_of g h) rs);
}

IsInside-alike : (g : Geometry) (members : ℕ) (h k : List Row) (m f c : ℕ) → AreAlike g h k → IsInside g members h m f c → IsInside g members k m f c
IsInside-alike g members h k m f c alike inside = record {
  member_in_range = inside.member_in_range;
  channel_in_range = inside.channel_in_range;
  from_cursor = subst (λ es. IsFrom (cursor_of g m es) f c) alike.laid inside.from_cursor;
  lap_fits = inside.lap_fits;
  ahead = subst (λ p. f < p + g.frames) alike.position inside.ahead;
}

IsHeld-alike : (g : Geometry) (members : ℕ) (h k : List Row) (m f c : ℕ) (s : ℤ) → AreAlike g h k → IsHeld g members h m f c s → IsHeld g members k m f c s
IsHeld-alike g members h k m f c s alike held = record {
  member_in_range = held.member_in_range;
  channel_in_range = held.channel_in_range;
  last = subst (λ es. IsSample (last_entry (standing_of m es)) f c s) alike.laid held.last;
  from_floor = subst (λ es. IsFrom (marks_of g m es).floor f c) alike.laid held.from_floor;
}

-- histories that are alike determine the same replies
pub IsReply-alike : (g : Geometry) (members : ℕ) (h k : List Row) (r : Row) → AreAlike g h k → IsReply g members h r → IsReply g members k r
IsReply-alike g members h k (Add m f c s, Outside) alike is = λ inside. is (IsInside-alike g members k h m f c (AreAlike-sym g h k alike) inside)
IsReply-alike g members h k (Add m f c s, Late) alike is =
    (IsInside-alike g members h k m f c alike is.0, subst (λ ts. is_taken ts f c ≡ true) alike.taken is.1)
IsReply-alike g members h k (Add m f c s, In) alike is =
    (IsInside-alike g members h k m f c alike is.0, subst (λ ts. is_taken ts f c ≡ false) alike.taken is.1)
IsReply-alike g members h k (Withdraw m f c s, Outside) alike is = λ held. is (IsHeld-alike g members k h m f c s (AreAlike-sym g h k alike) held)
IsReply-alike g members h k (Withdraw m f c s, Late) alike is =
    (IsHeld-alike g members h k m f c s alike is.0, subst (λ ts. is_taken ts f c ≡ true) alike.taken is.1)
IsReply-alike g members h k (Withdraw m f c s, In) alike is =
    (IsHeld-alike g members h k m f c s alike is.0, subst (λ ts. is_taken ts f c ≡ false) alike.taken is.1)
IsReply-alike g members h k (Take, LapEnd) alike is = subst (λ ts. lap g (next_word g (length ts)).frame ≡ 4294967295) alike.taken is
IsReply-alike g members h k (Take, Took f c v) alike is = (
  subst (λ ts. lap g (next_word g (length ts)).frame ≢ 4294967295) alike.taken is.0,
  subst (λ ts. f ≡ (next_word g (length ts)).frame) alike.taken is.1,
  subst (λ ts. c ≡ (next_word g (length ts)).channel) alike.taken is.2,
  subst (λ es. v ≡ clamp_of (total es f c)) alike.laid is.3,
)
IsReply-alike g members h k (Publish, Published frame) alike is = subst (λ ts. frame ≡ (next_word g (length ts)).frame) alike.taken is
IsReply-alike g members h k (e, r) alike is = is

pub AreReplies-alike : (g : Geometry) (members : ℕ) (h k rs : List Row) → AreAlike g h k → AreReplies g members h rs → AreReplies g members k rs
AreReplies-alike g members h k [] alike are = tt
AreReplies-alike g members h k (r ∷ rs) alike are = (
  IsReply-alike g members h k r alike are.0,
  AreReplies-alike g members (h ++ r ∷ []) (k ++ r ∷ []) rs (AreAlike-append g h k (r ∷ []) alike) are.1,
)

-- one row that is kept, and one that is left out
pub kept_rows-kept : (r : Row) (rs : List Row) → is_kept r ≡ true → r ∷ kept_rows rs ≡ kept_rows (r ∷ rs)
kept_rows-kept r rs kept = rw kept refl
