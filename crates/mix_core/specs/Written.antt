-- Which words of a ring change when one is written: that of one frame and channel of the window.
use Rattle.std.specs.Prelude.{◌≡◌, ◌≢◌, ℕ, ◌+◌, ◌*◌, ◌%◌, ◌<◌, ◌≤◌, List, length}
use Rattle.std.proofs.Common.{get_or, set, inl, inr, arith, subst, sym, ap, ◌∙◌}
use Rattle.std.proofs.lemmas.List.{get_or-set_same, get_or-set_other}
use Rattle.std.proofs.Math.Nat.{add-mod_right}
use Rattle.std.proofs.lemmas.Bool.{cases_eq}
use Rattle.std.proofs.lemmas.Bool.Decides.{nat_tests}
use Rattle.snd_base.specs.declared.geometry.Geometry.{Geometry}
use Rattle.snd_base.specs.declared.places.Cursor.{Cursor}
use Rattle.snd_base.specs.PlaceLaws.{first_free-behind_grows, first_free-behind_low, mod-same, mod-window, word_index-lt, word_index-same}
use Rattle.snd_base.specs.Places.{cursor_after, first_free, slot, word_index}
use Rattle.mix_core.specs.Sound.{IsNow}

-- where a ring has its words: each frame and channel has a place, which it shares with those of its slot and channel alone
pub record HasPlaces (g : Geometry) (index : ℕ → ℕ → ℕ) (room : ℕ) : Type 0 where
  pub below : (f c : ℕ) → c < g.channels → index f c < room
  pub apart : (f c k d : ℕ) → c < g.channels → d < g.channels → index f c ≡ index k d → (slot g f ≡ slot g k) × (c ≡ d)
  pub by_slot : (f k c : ℕ) → slot g f ≡ slot g k → index f c ≡ index k c

-- slot by slot
pub word_places : (g : Geometry) → HasPlaces g (word_index g) (g.frames * g.channels)
word_places g = record { below = word_index-lt g; apart = word_index-same g; by_slot = λ f k c same. ap (λ s. s * g.channels + c) same }

-- the next word is one that the ring has now
pub IsNow-next : (g : Geometry) (at : Cursor) → at.channel < g.channels → IsNow g at at.frame at.channel
IsNow-next g at in_range = record { channel = in_range; low = grind (arith, nat_tests); high = grind (arith, nat_tests, g.frames_least) }

-- the next word's channel alone goes on with the next frame
pub first_free-behind_other : (g : Geometry) (at : Cursor) (d : ℕ) → d < g.channels → at.channel < g.channels → d ≢ at.channel
    → first_free (cursor_after g at.frame at.channel) d ≡ first_free at d
first_free-behind_other g at d asked in_range other = grind (arith, nat_tests)

module _ (g : Geometry) (index : ℕ → ℕ → ℕ) (room : ℕ) (places : HasPlaces g index room) where
  -- each slot and channel has a frame that the ring has now
  pub now_of : (at : Cursor) (f c : ℕ) → c < g.channels → (k : ℕ) × IsNow g at k c × (slot g k ≡ slot g f) × (index k c ≡ index f c)
  now_of at f c in_range =
      let window = mod-window g.frames (first_free at c) f (omega (arith, g.frames_least)) in
      let now : IsNow g at window.0 c = record { channel = in_range; low = window.1.0; high = window.1.1.0 } in
      (window.0, now, window.1.1.1, places.by_slot window.0 f c window.1.1.1)

  -- two frames and channels that the ring has now and that have one word are one
  IsNow-same : (at : Cursor) (f c k d : ℕ) → IsNow g at f c → IsNow g at k d → index f c ≡ index k d → (f ≡ k) × (c ≡ d)
  IsNow-same at f c k d one two same =
      let parts = places.apart f c k d one.channel two.channel same in
      let low : first_free at c ≤ k = subst (λ x. first_free at x ≤ k) (sym parts.1) two.low in
      let high : k < first_free at c + g.frames = subst (λ x. k < first_free at x + g.frames) (sym parts.1) two.high in
      (mod-same g.frames (first_free at c) f k one.low one.high low high parts.0, parts.1)

  -- a word was written over at a frame and channel that the ring has now: what holds of each old word, and of the new
  -- one there, holds of each word
  pub words-written : (P Q : ℕ → ℕ → ℕ → Type 0) (at : Cursor) (words : List ℕ) (f c word : ℕ)
      → length words ≡ room
      → IsNow g at f c
      → Q word f c
      → ((w k d : ℕ) → ¬ ((f ≡ k) × (c ≡ d)) → P w k d → Q w k d)
      → ((k d : ℕ) → IsNow g at k d → P (get_or words (index k d) 0) k d)
      → (k d : ℕ) → IsNow g at k d → Q (get_or (set words (index f c) word) (index k d) 0) k d
  words-written P Q at words f c word all now here others old k d asked =
      elim (cases_eq (index k d) (index f c)) [
        | inl same ↦
            let one = IsNow-same at f c k d now asked (sym same) in
            let inside : index f c < length words = omega (arith, all, places.below f c now.channel) in
            rw (same, get_or-set_same words (index f c) word 0 inside) (rw (one.0, one.1) at here)
        | inr other ↦
            let elsewhere : ¬ ((f ≡ k) × (c ≡ d)) = λ e. other (rw (e.0, e.1)) in
            rw (get_or-set_other words (index f c) (index k d) word 0 other) (others _ k d elsewhere (old k d asked))
      ]

  -- the next word was taken: its slot has the next lap's word now, and every other word stays
  pub words-taken : (P : ℕ → ℕ → ℕ → Type 0) (at : Cursor) (words : List ℕ) (word : ℕ)
      → length words ≡ room
      → at.channel < g.channels
      → P word (at.frame + g.frames) at.channel
      → ((k d : ℕ) → IsNow g at k d → P (get_or words (index k d) 0) k d)
      → (k d : ℕ) → IsNow g (cursor_after g at.frame at.channel) k d
      → P (get_or (set words (index at.frame at.channel) word) (index k d) 0) k d
  words-taken P at words word all in_range here old k d asked =
      let start : first_free at at.channel ≡ at.frame = grind (arith, nat_tests) in
      let from : first_free at at.channel ≤ at.frame = omega arith in
      let wrapped : (at.frame + g.frames) % g.frames ≡ at.frame % g.frames = add-mod_right at.frame g.frames in
      elim (cases_eq (index k d) (index at.frame at.channel)) [
        | inl same ↦
            let parts = places.apart k d at.frame at.channel asked.channel in_range same in
            let next : first_free (cursor_after g at.frame at.channel) d ≡ at.frame + 1 = first_free-behind_low g at.frame at.channel d in_range (omega arith) in
            let frame : k ≡ at.frame + g.frames = mod-same g.frames (at.frame + 1) k (at.frame + g.frames) (omega (arith, asked.low)) (omega (arith, asked.high)) (omega (arith, g.frames_least)) (omega arith) (parts.0 ∙ sym wrapped) in
            let inside : index at.frame at.channel < length words = omega (arith, all, places.below at.frame at.channel in_range) in
            rw (same, get_or-set_same words (index at.frame at.channel) word 0 inside, frame, parts.1) here
        | inr other ↦
            let grows : first_free at d ≤ first_free (cursor_after g at.frame at.channel) d = first_free-behind_grows g at at.frame at.channel d from asked.channel in
            let low : first_free at d ≤ k = omega (arith, grows, asked.low) in
            let high : k < first_free at d + g.frames = elim (cases_eq d at.channel) [
              | inl own ↦
                  let next : first_free (cursor_after g at.frame at.channel) d ≡ at.frame + 1 = first_free-behind_low g at.frame at.channel d in_range (omega arith) in
                  let here_is : first_free at d ≡ at.frame = subst (λ x. first_free at x ≡ at.frame) (sym own) start in
                  let not_last : k ≢ at.frame + g.frames = λ e. other (places.by_slot k at.frame d (ap (λ x. x % g.frames) e ∙ wrapped) ∙ ap (index at.frame) own) in
                  omega (arith, asked.high)
              | inr not_own ↦ subst (λ x. k < x + g.frames) (first_free-behind_other g at d asked.channel in_range not_own) asked.high
            ] in
            rw (get_or-set_other words (index at.frame at.channel) (index k d) word 0 other) (old k d (record { channel = asked.channel; low = low; high = high }))
      ]
