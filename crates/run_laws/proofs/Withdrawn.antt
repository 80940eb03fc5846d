-- What is left of a client's stretch when frames are taken back.
use Rattle.run_laws.specs.Prelude.{arith, length, List, ℕ, ◌+◌, ◌-◌, ◌<◌, ◌≤◌, nat_tests, max, min, slice_index, suc, zero, ℤ, first_free, rising}
use Rattle.run_laws.specs.Prelude.{rising_from-rises, Marks, Ended, withdrawn_at, Commit, back_on, rewind_left, take_each, take_frames, Rules}
use Rattle.run_laws.proofs.Onward.{Leads, Lies, begun, begun-most, earlier-lies, high_end, lays-lead}
use Rattle.run_laws.proofs.Yields.{Yields-ends, Yields-then}
use Rattle.mix_core.specs.declared.port.Ended.TheVariants as ended

-- ---- a rewind

pub below-sum : (n a b d : ℕ) → min n (a + (b - d)) - a ≤ b
below-sum n a b d = omega arith

-- a fact of steps that were all done, and one of steps that ended before
abbrev pub ByEnd : Ended → Type 0 → Type 0 → Type 0
ByEnd ended.Whole P Q = P
ByEnd (ended.Late word) P Q = Q
ByEnd ended.Stopped P Q = Q

-- the first channel in the order of the card is before the others
rising-first : (bindings : List ℕ) (n : ℕ) → 0 < n → n < length (rising bindings)
    → slice_index bindings (slice_index (rising bindings) 0) < slice_index bindings (slice_index (rising bindings) n)
unfolding rising
rising-first bindings n later within = rising_from-rises bindings 0 256 0 n later within

-- after the sample of the channel after n others of a frame was withdrawn
withdrawn-lies : {p x y card e : ℕ} {bindings : List ℕ} {m : Marks} (frame channel n : ℕ) → card ≤ frame → frame + 1 ≤ high_end m → Lies p x y bindings card e m → (0 < n → 0 < channel)
    → Lies p x y bindings card (frame + begun n) (withdrawn_at m frame channel)
withdrawn-lies {p = p} {x = x} {m = m} frame channel n after most lies rises = record {
  bound = lies.bound;
  past = lies.past;
  reached = record { low = low (first_free (withdrawn_at m frame channel).cursor 0) (grind (arith, nat_tests)); top = grind (arith, nat_tests, most); high = lies.reached.high };
  end = grind (arith, nat_tests, rises);
}
  where
    low : (free : ℕ) → frame ≤ free → x ≤ max p free
    low free is = omega (arith, is, lies.past, after)

module _ (rules : Rules) (p x y : ℕ) (bindings : List ℕ) (card : ℕ) where
  abbrev LiesTo : ℕ → Marks → Type 0
  LiesTo e m = Lies p x y bindings card e m

  -- what is left of the channels of a frame
  abbrev FrameLeft : ℕ → Marks → ℕ × Ended → Type 0
  FrameLeft frame k left = LiesTo (frame + begun left.0) k × ByEnd left.1 (LiesTo frame k) (0 < left.0)

  each-back : (member frame : ℕ) (sample_of : ℕ → ℤ) (n : ℕ) (m : Marks) → n ≤ length bindings → card ≤ frame → frame + 1 ≤ high_end m → LiesTo (frame + begun n) m
      → Leads rules (FrameLeft frame) m (take_each member frame bindings sample_of n)
  unfolding take_each
  each-back member frame sample_of zero m within after most lies = Yields-ends (lies, earlier-lies lies (omega arith))
  each-back member frame sample_of (suc n) m within after most lies = lays-lead
      (each-back member frame sample_of n _ (omega (arith, within)) after most (withdrawn-lies frame channel n after most lies rises))
      (λ word. Yields-ends (lies, omega arith)) (Yields-ends (lies, omega arith))
    where
      channel : ℕ
      channel = slice_index bindings (slice_index (rising bindings) n)

      rises : 0 < n → 0 < channel
      rises later = let is : slice_index bindings (slice_index (rising bindings) 0) < channel = rising-first bindings n later (omega (arith, within, lies.bound.whole)) in omega (arith, is)

  -- what is left of some frames
  abbrev pub FramesLeft : ℕ → Marks → Commit → Type 0
  FramesLeft first n left = LiesTo (card + (first + left.frames) + begun left.part) n

  left-lies : (first n left : ℕ) (end : Ended) (k : Marks) → 0 < left → LiesTo (card + (first + n) + begun left) k → FramesLeft first k (rewind_left n left (length bindings) end)
  left-lies first n left end k later lies = earlier-lies lies (grind (arith, nat_tests, later))

  pub frames-back : (member : ℕ) (samples : ℕ → ℕ → ℤ) (first n : ℕ) (m : Marks) → LiesTo (card + (first + n)) m
      → Leads rules (FramesLeft first) m (take_frames member card bindings samples first n)
  unfolding take_frames
  frames-back member samples first zero m lies = Yields-ends (earlier-lies lies (omega arith))
  frames-back member samples first (suc n) m lies =
      Yields-then (each-back member (card + (first + n)) (samples (first + n)) (length bindings) m (omega arith) (omega arith) (omega (arith, lies.end, lies.reached.top))
      (earlier-lies lies (omega (arith, begun-most (length bindings)))))
      (on (λ k rest. frames-back member samples first n k rest))
    where
      on : ((k : Marks) → LiesTo (card + (first + n)) k → Leads rules (FramesLeft first) k (take_frames member card bindings samples first n))
          → (k : Marks) (end : ℕ × Ended) → FrameLeft (card + (first + n)) k end
          → Leads rules (FramesLeft first) k (back_on end n (length bindings) (take_frames member card bindings samples first n))
      on rest k (left, ended.Whole) (is, before) = rest k before
      on rest k (left, ended.Late word) (is, some) = Yields-ends (left-lies first n left (ended.Late word) k some is)
      on rest k (left, ended.Stopped) (is, some) = Yields-ends (left-lies first n left ended.Stopped k some is)
