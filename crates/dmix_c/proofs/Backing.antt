-- A client's seat ends in its segment, and still does after each call.
use Rattle.dmix_c.specs.Prelude.{ap, arith, get_or, length, length-append, List, refl, subst, suc, sym, take, zero, ℕ, ℤ, [], ◌*◌, ◌++◌, ◌+◌, ◌<◌, ◌∙◌, ◌∷◌}
use Rattle.dmix_c.specs.Prelude.{◌≡◌, ◌≤◌, ∥∥₁_elim, ∥∥₁_map, append-nil, take-append-le, Bool, false, if◌then◌else◌, None, not, Option, pos, Result, Some}
use Rattle.dmix_c.specs.Prelude.{true, ◌&&◌, ◌-◌, PcmError, Call, State, Playback, is_set_up, refusal_of, NeverStops, MixSeat, SeatEndsIn, SeatEndsIn-laid}
use Rattle.dmix_c.specs.Prelude.{SeatEndsIn-part, view_of, PlaybackStream, base_of, is_paused, with_new_base, held_entries, ClientView, IsSoundClient}
use Rattle.dmix_c.specs.Prelude.{IsBackedBy, IsBackedSeat, no_gate, seat_port}
use Rattle.std.proofs.Math.Nat.{mul-le-mul_right}
use Rattle.std.specs.Coded.{Coded-set}
use base.Stored.{coded_list}
use Rattle.bindings.specs.Bound.{AreBindings}
use Rattle.mix_core.specs.declared.port.Entry.{Entry}
use Rattle.mix_core.specs.Laid.{EndsIn, standing}
use Rattle.dmix_client.specs.Expansion.{sample_at}
use Rattle.dmix_client.specs.ExpansionLaws.{frames_used, run_entries-same}
use Rattle.dmix_client.specs.Growth.{AnySamples, Follows, Keeps, KeepsBack, segment_entries}
use Rattle.dmix_client.specs.StandingLaws.{IsBacked-back, IsBacked-grows, IsBacked-held, IsBacked-new, IsBacked-rebased}
use Rattle.mix_core.specs.contracts.port.Entry as entries
use Rattle.pcm_states.specs.declared.calls.Call.TheVariants as call
use Rattle.pcm_states.specs.declared.states.State.TheVariants as state

-- the first samples of a list, silent ones where it has no more, and then others
splice : ℕ → List ℤ → List ℤ → List ℤ
splice zero xs ys = ys
splice (suc m) [] ys = pos 0 ∷ splice m [] ys
splice (suc m) (x ∷ xs) ys = x ∷ splice m xs ys

splice-low : (m : ℕ) (xs ys : List ℤ) (i : ℕ) → i < m → get_or (splice m xs ys) i (pos 0) ≡ get_or xs i (pos 0)
unfolding splice
splice-low zero xs ys i low = absurd (omega arith)
splice-low (suc m) [] ys zero low = refl
splice-low (suc m) [] ys (suc i) low = splice-low m [] ys i (omega arith)
splice-low (suc m) (x ∷ xs) ys zero low = refl
splice-low (suc m) (x ∷ xs) ys (suc i) low = splice-low m xs ys i (omega arith)

splice-high : (m : ℕ) (xs ys : List ℤ) (i k : ℕ) → i ≡ m + k → get_or (splice m xs ys) i (pos 0) ≡ get_or ys k (pos 0)
unfolding splice
splice-high zero xs ys i k is = let same : i ≡ k = omega (arith, is) in ap (λ (n : ℕ). get_or ys n (pos 0)) same
splice-high (suc m) [] ys zero k is = absurd (omega (arith, is))
splice-high (suc m) [] ys (suc i) k is = splice-high m [] ys i k (omega (arith, is))
splice-high (suc m) (x ∷ xs) ys zero k is = absurd (omega (arith, is))
splice-high (suc m) (x ∷ xs) ys (suc i) k is = splice-high m xs ys i k (omega (arith, is))

-- the frames before one are the first list's, and those from there on the second one's
sample-low : (xs ys : List ℤ) (channels from f q : ℕ) → f < from → q < channels → sample_at (splice (from * channels) xs ys) channels f q ≡ sample_at xs channels f q
sample-low xs ys channels from f q below inside =
    let scaled : (f + 1) * channels ≤ from * channels = mul-le-mul_right channels (let h : f + 1 ≤ from = omega arith in h) in
    splice-low (from * channels) xs ys (f * channels + q) (omega (arith, scaled))

sample-high : (xs ys : List ℤ) (channels from f k q : ℕ) → f ≡ from + k → sample_at (splice (from * channels) xs ys) channels f q ≡ sample_at ys channels k q
sample-high xs ys channels from f k q is =
    ap (λ (n : ℕ). get_or (splice (from * channels) xs ys) (n * channels + q) (pos 0)) is
    ∙ splice-high (from * channels) xs ys ((from + k) * channels + q) (k * channels + q) (omega arith)

-- where a client is backed by some samples, it is by a list that has the offered ones after those which it accepted
pub offered-after : (s : MixSeat) (c : ClientView) (samples offered : List ℤ) (n : ℕ) → AreBindings c.stream.setup.bindings
    → c.stream.stretch.part ≡ 0 → c.stream.stretch.committed ≤ c.stream.stretch.written → IsBackedBy s c samples
    → (all : List ℤ) × IsBackedBy s c all × Follows c.stream all offered n
offered-after s c samples offered n bound whole laid is = (
  all,
  record {
    stands = λ j q least most inside. is.stands j q least most inside ∙ sym (sample-low samples offered channels from (d.stretch.source + j) q (omega (arith, most)) inside);
    segment = subst (SeatEndsIn s) same is.segment;
  },
  λ k q low inside. sample-high samples offered channels from (d.stretch.source + (d.stretch.written + k)) k q (omega arith),
)
  where
    d : PlaybackStream
    d = c.stream

    channels : ℕ
    channels = length d.setup.bindings

    from : ℕ
    from = d.stretch.source + d.stretch.written

    all : List ℤ
    all = splice (from * channels) samples offered

    used : frames_used d.stretch.committed d.stretch.part ≡ d.stretch.committed
    used = ap (frames_used d.stretch.committed) whole

    same : segment_entries d samples ≡ segment_entries d all
    same = run_entries-same d.identity.member d.setup.bindings (λ j. sample_at samples channels (d.stretch.source + j)) (λ j. sample_at all channels (d.stretch.source + j)) d.stretch.card 0 d.stretch.committed d.stretch.part bound
        (λ j q least most inside. sym (sample-low samples offered channels from (d.stretch.source + j) q (omega (arith, most, used, laid)) inside))

-- each other call that a state admits is of a stream with a configuration
pub admitted-set_up : (what : Call) (stopped : Bool) (s : State) → (what ≡ call.HwParams → ⊥) → refusal_of Playback (record { state = s; stopped = stopped }) what ≡ None → is_set_up s ≡ true
admitted-set_up what true s other is = absurd (cc)
admitted-set_up call.HwParams false s other is = absurd (other refl)
admitted-set_up what false state.Open other is = absurd (cc)
admitted-set_up what false state.Disconnected other is = absurd (cc)
admitted-set_up what false s other is = refl

pub still-set_up : (what : Call) (c : ClientView) → (what ≡ call.HwParams → ⊥) → IsSoundClient c.stream c.ring → refusal_of Playback c.stream.status what ≡ None → c.stream.setup.configured ≡ true
still-set_up what c other sound admitted = sound.set_up (admitted-set_up what c.stream.status.stopped c.stream.status.state other admitted)

-- a call that is refused changes nothing, and another one is of a stream with a configuration
pub still-configured : (what : Call) (c d : ClientView) → (what ≡ call.HwParams → ⊥) → IsSoundClient c.stream c.ring
    → ((e : PcmError) → refusal_of Playback c.stream.status what ≡ Some e → d ≡ c) → d.stream.setup.configured ≡ true → c.stream.setup.configured ≡ true
still-configured what c d other sound refused has = by_refusal (refusal_of Playback c.stream.status what) refl
  where
    by_refusal : (refusal : Option PcmError) → refusal_of Playback c.stream.status what ≡ refusal → c.stream.setup.configured ≡ true
    by_refusal None is = still-set_up what c other sound is
    by_refusal (Some e) is = ap (λ (v : ClientView). v.stream.setup.configured) (sym (refused e is)) ∙ has

-- a list is its first entries, where it has no more
take-whole : (es : List Entry) → take (length es) es ≡ es
take-whole [] = refl
take-whole (e ∷ es) = ap (λ (more : List Entry). e ∷ more) (take-whole es)

-- a list ends in another one, since it does so in some way
EndsIn-some : (xs ys : List Entry) → ∥ EndsIn xs ys ∥₁ → EndsIn xs ys
EndsIn-some xs ys ends = (early, ∥∥₁_elim ends (Coded-set (coded_list (entries.the_row).coded) xs (early ++ ys)) is)
  where
    early : List Entry
    early = take (length xs - length ys) xs

    is : EndsIn xs ys → xs ≡ early ++ ys
    is found =
        let size : length xs ≡ length found.0 + length ys = ap length found.1 ∙ length-append found.0 ys in
        let first : early ≡ found.0 =
        ap (λ (n : ℕ). take n xs) (let h : length xs - length ys ≡ length found.0 = omega (arith, size) in h)
        ∙ (ap (take (length found.0)) found.1 ∙ (take-append-le (length found.0) found.0 ys (omega arith) ∙ take-whole found.0)) in
        found.1 ∙ ap (λ (es : List Entry). es ++ ys) (sym first)

-- what a rewind asks
pub standing-held : (s : MixSeat) (c : ClientView) → IsSoundClient c.stream c.ring → IsBackedSeat s c → c.stream.status.state ≡ state.Running → c.stream.status.stopped ≡ false
    → SeatEndsIn s (held_entries c.stream c.ring)
standing-held s c sound backed runs going =
    EndsIn-some (standing (view_of s).laid) (held_entries c.stream c.ring)
    (∥∥₁_map (backed (sound.set_up (ap is_set_up runs)))
    (λ found. IsBacked-held seat_port no_gate s c found.0 SeatEndsIn-part sound runs going found.1))

-- after a call that places entries, of whichever samples
pub backed-grows : {X : Type 0} (s t : MixSeat × NeverStops) (c d : ClientView) (answer : Result X PcmError) → Keeps seat_port no_gate s t c d answer AnySamples
    → (samples : List ℤ) → IsBackedBy s.0 c samples → IsBackedBy t.0 d samples
backed-grows s t c d answer keeps samples is = IsBacked-grows seat_port no_gate s t c d answer AnySamples samples SeatEndsIn-laid keeps tt is

-- after a pause or a resume, which begins with its counts based anew where the client was paused and isn't any more
pub backed-paused : {X : Type 0} (s t : MixSeat × NeverStops) (c d : ClientView) (answer : Result X PcmError) → IsSoundClient c.stream c.ring
    → Keeps seat_port no_gate s t (record { stream = base_of c.stream d.stream; ring = c.ring }) d answer AnySamples
    → (samples : List ℤ) → IsBackedBy s.0 c samples → IsBackedBy t.0 d samples
backed-paused s t c d answer sound keeps samples is = by_test (is_paused c.stream.status.state && not (is_paused d.stream.status.state)) refl
  where
    in_pause : (now : State) (other : Bool) → (is_paused now && other) ≡ true → now ≡ state.Paused
    in_pause state.Paused other both = refl
    in_pause now other both = absurd (cc)

    by_test : (test : Bool) → (is_paused c.stream.status.state && not (is_paused d.stream.status.state)) ≡ test → IsBackedBy t.0 d samples
    by_test true both =
        let since : Keeps seat_port no_gate s t (record { stream = with_new_base c.stream; ring = c.ring }) d answer AnySamples =
        subst (λ (b : PlaybackStream). Keeps seat_port no_gate s t (record { stream = b; ring = c.ring }) d answer AnySamples) (ap (λ (test : Bool). if test then with_new_base c.stream else c.stream) both) keeps in
        backed-grows s t (record { stream = with_new_base c.stream; ring = c.ring }) d answer since samples
        (IsBacked-rebased seat_port no_gate s.0 c.stream c.ring samples SeatEndsIn-part sound (in_pause c.stream.status.state _ both) is)
    by_test false both =
        backed-grows s t c d answer
        (subst (λ (b : PlaybackStream). Keeps seat_port no_gate s t (record { stream = b; ring = c.ring }) d answer AnySamples) (ap (λ (test : Bool). if test then with_new_base c.stream else c.stream) both) keeps)
        samples is

-- what was placed ends in nothing
SeatEndsIn-nothing_left : (s : MixSeat) → SeatEndsIn s []
SeatEndsIn-nothing_left s = (standing (view_of s).laid, sym (append-nil (standing (view_of s).laid)))

-- a client that has written and placed nothing is backed by every list of samples
pub backed-new : (s : MixSeat) (c : ClientView) → c.stream.stretch.written ≡ 0 → c.stream.stretch.committed ≡ 0 → c.stream.stretch.part ≡ 0 → (samples : List ℤ) → IsBackedBy s c samples
backed-new s c none no_frame no_part samples = IsBacked-new seat_port no_gate s c samples none no_frame no_part (SeatEndsIn-nothing_left s)

-- after a write
pub backed-written : (s t : MixSeat × NeverStops) (c d : ClientView) (answer : Result ℕ PcmError) (offered : List ℤ) (n : ℕ) → AreBindings c.stream.setup.bindings
    → c.stream.stretch.part ≡ 0 → c.stream.stretch.committed ≤ c.stream.stretch.written
    → Keeps seat_port no_gate s t c d answer (λ all. Follows c.stream all offered n)
    → ((samples : List ℤ) × IsBackedBy s.0 c samples) → (samples : List ℤ) × IsBackedBy t.0 d samples
backed-written s t c d answer offered n bound whole laid keeps found =
    let more = offered-after s.0 c found.0 offered n bound whole laid found.1 in
    (more.0, IsBacked-grows seat_port no_gate s t c d answer (λ all. Follows c.stream all offered n) more.0 SeatEndsIn-laid keeps more.2 more.1)

-- after a rewind
pub backed-back : {X : Type 0} (s t : MixSeat × NeverStops) (c d : ClientView) (answer : Result X PcmError) → KeepsBack seat_port no_gate s t c d answer
    → (samples : List ℤ) → IsBackedBy s.0 c samples → IsBackedBy t.0 d samples
backed-back s t c d answer keeps samples is = IsBacked-back seat_port no_gate s t c d answer samples keeps is
