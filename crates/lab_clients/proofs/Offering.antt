-- What a write offers of a client's file.
use Rattle.lab_clients.specs.Prelude.{ap, arith, drop, get_or, length, List, subst, take, ℕ, ◌%◌, ◌*◌, ◌+◌, ◌∙◌, ◌≡◌, ◌≤◌, nat_tests, get_or-drop, get_or-take}
use Rattle.lab_clients.specs.Prelude.{length-drop, length-take, min, pos, ℤ, ◌-◌, ◌/◌, ◌<◌, ◌^◌, PlaybackStream, Follows, frames_in, IsOffer, Sound, frames_of}
use Rattle.std.proofs.Math.Nat.{div-mul-le_self, mul-div_cancel, mul-le-mul_right, mul-mod_left}

-- a write offers the next frames of a client's file
pub record Offers (wav : Sound) (c : PlaybackStream) (offer : List ℤ) (n : ℕ) : Type 0 where
  pub frames : frames_in c offer ≡ n
  pub held : n * length c.setup.bindings ≤ length offer
  pub most : c.fed + n ≤ frames_of wav
  pub each : (k q : ℕ) → k < n → q < length c.setup.bindings
      → get_or offer (k * length c.setup.bindings + q) (pos 0) ≡ get_or wav.samples ((c.fed + k) * length c.setup.bindings + q) (pos 0)

-- a slice of the file from the frames that are fed on
pub slice-Offers : (wav : Sound) (c : PlaybackStream) (n : ℕ) → 1 ≤ length c.setup.bindings → length c.setup.bindings ≡ wav.channels → c.fed + n ≤ frames_of wav
    → Offers wav c (take (n * wav.channels) (drop (c.fed * wav.channels) wav.samples)) n
slice-Offers wav c n some channels most =
    subst (λ (k : ℕ). Offers wav c (take (n * k) (drop (c.fed * k) wav.samples)) n) channels (record {
      frames = ap (λ (k : ℕ). k / length c.setup.bindings) size ∙ mul-div_cancel n some;
      held = omega (arith, size);
      most = most;
      each = λ k q within in_range.
          get_or-take count (drop from wav.samples) (k * length c.setup.bindings + q) (pos 0) (frame_within k q within in_range)
          ∙ get_or-drop from wav.samples (k * length c.setup.bindings + q) (pos 0)
          ∙ ap (λ (i : ℕ). get_or wav.samples i (pos 0)) (omega arith);
    })
  where
    from : ℕ
    from = c.fed * length c.setup.bindings

    count : ℕ
    count = n * length c.setup.bindings

    file_holds : (c.fed + n) * length c.setup.bindings ≤ length wav.samples
    file_holds =
        let low : (c.fed + n) * length c.setup.bindings ≤ frames_of wav * length c.setup.bindings = mul-le-mul_right (length c.setup.bindings) most in
        let file : frames_of wav * wav.channels ≤ length wav.samples = div-mul-le_self (length wav.samples) wav.channels in
        omega (arith, low, file, ap (λ (k : ℕ). frames_of wav * k) channels)

    size : length (take count (drop from wav.samples)) ≡ n * length c.setup.bindings
    size = omega (arith, length-take count (drop from wav.samples), length-drop from wav.samples, file_holds)

    frame_within : (k q : ℕ) → k < n → q < length c.setup.bindings → k * length c.setup.bindings + q < n * length c.setup.bindings
    frame_within k q within in_range =
        let scaled : (k + 1) * length c.setup.bindings ≤ n * length c.setup.bindings = mul-le-mul_right (length c.setup.bindings) (let h : k + 1 ≤ n = omega arith in h) in
        omega (arith, scaled)

-- the next frames of a file are whole, and not too many
pub Offers-IsOffer : (wav : Sound) (c : PlaybackStream) (frames : ℕ) → 1 ≤ length c.setup.bindings → length c.setup.bindings ≡ wav.channels → c.fed ≤ frames_of wav → frames_of wav < 2 ^ 63 → frames ≤ 4194304
    → IsOffer c (take (min frames (frames_of wav - c.fed) * wav.channels) (drop (c.fed * wav.channels) wav.samples))
Offers-IsOffer wav c frames some channels fed room few =
    let n = min frames (frames_of wav - c.fed) in
    let offer = take (n * wav.channels) (drop (c.fed * wav.channels) wav.samples) in
    let most : c.fed + n ≤ frames_of wav = grind (arith, nat_tests) in
    let offers = slice-Offers wav c n some channels most in
    let size : length offer ≡ n * length c.setup.bindings =
    let low : length offer ≤ n * wav.channels = omega (arith, length-take (n * wav.channels) (drop (c.fed * wav.channels) wav.samples)) in
    omega (arith, low, offers.held, ap (λ (k : ℕ). n * k) channels) in
    record {
      whole = ap (λ (k : ℕ). k % length c.setup.bindings) size ∙ mul-mod_left n (length c.setup.bindings);
      few = omega (arith, offers.frames, few, (let h : n ≤ frames = grind (arith, nat_tests) in h));
      fed = omega (arith, fed, room);
    }

-- what is offered follows, in the file, what was accepted
pub Offers-Follows : (wav : Sound) (c : PlaybackStream) (offer : List ℤ) (n : ℕ) → c.stretch.written + c.stretch.source ≡ c.fed → Offers wav c offer n → Follows c wav.samples offer n
Offers-Follows wav c offer n fed offers k q within in_range = grind (arith, nat_tests)
