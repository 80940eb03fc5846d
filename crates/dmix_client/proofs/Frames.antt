-- How a frame is placed, channel by channel.
use Rattle.dmix_client.specs.Prelude.{ap, arith, length, List, suc, sym, zero, ℕ, ◌%◌, ◌*◌, ◌+◌, ◌/◌, ◌<◌, ◌∙◌, ◌≡◌, ◌≤◌, div-lt_iff_lt-mul, nat_tests, pos}
use Rattle.dmix_client.specs.Prelude.{slice_index, slice_index_or, ℤ, Geometry, Cursor, cursor_after, first_free, IsFrom, AreBindings, rising, rising-rises}
use Rattle.dmix_client.specs.Prelude.{rising-within, Marks, Ended, Late, Stopped, Whole, Entry, PortView, PlaybackStream, slot-behind, ring_sample, slot_sample}

-- what holds of a late end and of a stop holds of each that isn't whole
pub not-whole : (X : Ended → Type 0) (e : Ended) → (e ≡ Whole → ⊥) → ((word : ℕ) → X (Late word)) → X Stopped → X e
not-whole X e not_so late stopped = grind (arith, nat_tests)

-- a frame before the end is below the last lap
pub lap-below : (frame n : ℕ) → frame < 4294967295 * n → frame / n < 4294967295
lap-below frame zero low = absurd (omega (arith, low))
lap-below frame (suc n) low = (div-lt_iff_lt-mul (omega arith)).1 low

-- two steps in a row leave all of a view but its marks
pub marks-joined : (u v w : PortView) (m : Marks) → v ≡ record u { marks = v.marks } → w ≡ record v { marks = m } → w ≡ record u { marks = w.marks }
marks-joined u v w m before later =
    later ∙ ap (λ (x : PortView). record x { marks = m }) before ∙ ap (λ (k : Marks). record u { marks = k }) (sym (ap (λ (x : PortView). x.marks) later))

-- after a channel the later channels of its frame are free, and the next frame is
pub behind-later : (g : Geometry) (f c d : ℕ) → c < d → d < g.channels → IsFrom (cursor_after g f c) f d
behind-later g f c d later within = grind (arith, nat_tests)

-- a cursor at a frame's channel is at its later channels
pub IsFrom-later : (at : Cursor) (f c d : ℕ) → c ≤ d → IsFrom at f c → IsFrom at f d
IsFrom-later at f c d later from = grind (arith, nat_tests)

-- a frame that is free in a channel is free in each channel of the next frame
pub IsFrom-next : (at : Cursor) (f c d : ℕ) → IsFrom at f c → first_free at d ≤ f + 1
IsFrom-next at f c d from = grind (arith, nat_tests)

-- the channels rise from the least
pub rising-least : (bindings : List ℕ) (j : ℕ) → AreBindings bindings → j < length bindings
    → slice_index bindings (slice_index (rising bindings) 0) ≤ slice_index bindings (slice_index (rising bindings) j)
rising-least bindings zero are within = omega arith
rising-least bindings (suc j) are within = omega (arith, rising-rises bindings 0 (suc j) are (omega arith) within)

-- the one channel of a client is the first
pub rising-single : (bindings : List ℕ) → AreBindings bindings → length bindings ≡ 1 → slice_index (rising bindings) 0 ≡ 0
rising-single bindings are single = omega (arith, rising-within bindings 0 are (omega (arith, single)), single)

-- the entry of a sample that a client holds, by where its frame begins in the local ring
pub entry-ring_sample : (E : ℕ → ℕ → ℤ → Entry) (stream : PlaybackStream) (ring : List ℤ) (number slot q member channel : ℕ) (x : ℤ)
    → member ≡ stream.identity.member → channel ≡ slice_index stream.setup.bindings q
    → slot ≡ (stream.stretch.source + number) % stream.setup.config.buffer_size * length stream.setup.bindings → x ≡ slice_index_or ring (slot + q) (pos 0)
    → E member channel x ≡ E stream.identity.member (slice_index stream.setup.bindings q) (ring_sample stream ring number q)
entry-ring_sample E stream ring number slot q member channel x is_member is_channel is_slot is = grind (arith, nat_tests)

-- the entry of a sample in a frame of the local ring, by the slot where the frame begins
pub entry-bound : (E : ℕ → ℕ → ℤ → Entry) (bindings : List ℕ) (ring : List ℤ) (slot q m member channel : ℕ) (x : ℤ) → m ≡ member
    → channel ≡ slice_index bindings q
    → x ≡ slice_index_or ring (slot + q) (pos 0) → E m channel x ≡ E member (slice_index bindings q) (slot_sample ring slot q)
entry-bound E bindings ring slot q m member channel x is_member is_channel is =
    ap (λ (n : ℕ). E n channel x) is_member ∙ ap (λ (k : ℕ). E member k x) is_channel ∙ ap (E member (slice_index bindings q)) is

-- where the frames of a run begin in the local ring
pub slot-run : (buffer channels number k : ℕ) → number % buffer + k < buffer → (number + k) % buffer * channels ≡ number % buffer * channels + k * channels
slot-run buffer channels number k below = ap (λ (n : ℕ). n * channels) (slot-behind buffer number k below) ∙ omega arith
