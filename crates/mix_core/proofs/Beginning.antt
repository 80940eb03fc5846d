-- A new core is sound, and represents the empty history.
use Rattle.mix_core.specs.Prelude.{arith, false, pos, refl, subst, ℕ, [], ◌*◌, ◌-◌, ◌<◌, ◌≡◌, ◌≤◌, nat_tests, get_or-replicate, length-replicate, All-replicate}
use Rattle.mix_core.specs.Prelude.{Geometry, Cursor, word_index-lt, first_frame, lap, word_index, StandsFor, Marks, IsNew, first_frame-le, start_marks}
use Rattle.mix_core.specs.Prelude.{AreWithin, IsNow, IsSound, RepresentsHistory, View, word_at}
use Rattle.std.proofs.Math.ListN.{replicate}
use Rattle.mix_core.proofs.Soundness.{HoldsAtMost-empty}

-- where everybody begins
abbrev pub start : Geometry → Cursor
start g = record { frame = first_frame g; channel = 0 }

-- a core with one word in every slot and channel
abbrev pub new_view : Geometry → ℕ → ℕ → View
new_view g members word = record {
  geometry = g;
  words = replicate (g.frames * g.channels) word;
  marks = replicate members (start_marks g);
  next = start g;
  position = first_frame g;
  gone = false;
}

-- the frames that a new ring has are those of the first lap
pub lap-first : (g : Geometry) (f c : ℕ) → IsNow g (start g) f c → lap g f ≡ g.first_lap
lap-first g f c now = grind (arith, nat_tests)

pub word_at-new : (g : Geometry) (members word f c : ℕ) → c < g.channels → word_at (new_view g members word) f c ≡ word
word_at-new g members word f c in_range = get_or-replicate (g.frames * g.channels) (word_index g f c) word 0 (word_index-lt g f c in_range)

pub IsSound-new : (g : Geometry) (members word : ℕ) → members ≤ 64 → StandsFor word g.first_lap 0 (pos 0) → IsSound (new_view g members word)
IsSound-new g members word few stands = record {
  room = length-replicate (g.frames * g.channels) word;
  members = omega (arith, length-replicate members (start_marks g));
  next_channel = omega (arith, g.channels_least);
  next_least = omega arith;
  next_most = first_frame-le g;
  position_least = omega arith;
  position_most = omega arith;
  marks_within = All-replicate (λ (m : Marks). AreWithin g m) members (start_marks g) (record {
    cursor = record { least = omega arith; most = first_frame-le g };
    floor = record { least = omega arith; most = first_frame-le g };
    high = record { least = omega arith; most = first_frame-le g };
    cursor_high = λ c. omega arith;
    floor_high = λ c. omega arith;
  });
  words_now = λ f c now. rw (word_at-new g members word f c now.channel, lap-first g f c now) (HoldsAtMost-empty word g.first_lap _ stands);
}

pub RepresentsHistory-new : (g : Geometry) (members word : ℕ) → StandsFor word g.first_lap 0 (pos 0) → RepresentsHistory (new_view g members word) []
RepresentsHistory-new g members word stands = record {
  legal = tt;
  position = refl;
  agrees = record {
    next = grind arith;
    marks = λ m d within. get_or-replicate members m (start_marks g) d (subst (λ n. m < n) (length-replicate members (start_marks g)) within);
    taken = λ f c in_range least. grind (arith, nat_tests, least);
    ahead = λ f c far. refl;
    words = λ f c now. rw (word_at-new g members word f c now.channel, lap-first g f c now) stands;
    in_order = λ i d none. absurd (omega arith);
    exact = λ i d none. absurd (omega arith);
  };
}

pub IsNew-of : (g : Geometry) (members word : ℕ) → StandsFor word g.first_lap 0 (pos 0) → IsNew (new_view g members word) g members
IsNew-of g members word stands = record {
  geometry = refl;
  members_is = length-replicate members (start_marks g);
  marks = λ m d within. get_or-replicate members m (start_marks g) d within;
  next = refl;
  position = refl;
  gone = refl;
  stands = RepresentsHistory-new g members word stands;
}
