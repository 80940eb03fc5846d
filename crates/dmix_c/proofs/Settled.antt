-- A client that can be written to has no part of a frame, and has written all that it placed.
use Rattle.dmix_c.specs.Prelude.{ap, arith, inl, inr, List, refl, ℤ, ◌≡◌, ◌≤◌, Bool, false, None, ◌⊎◌, State, Prepared, Running, Playback, is_moving}
use Rattle.dmix_c.specs.Prelude.{refusal_of, PlaybackStream, IsSoundClient}
use Rattle.pcm_states.specs.declared.calls.Call.TheVariants.{Transfer}

-- the states in which frames are written
abbrev IsWritable : Bool → State → Type 0
IsWritable stopped s = (stopped ≡ false) × ((s ≡ Prepared) ⊎ (s ≡ Running))

writable : (stopped : Bool) (s : State) → refusal_of Playback (record { state = s; stopped = stopped }) Transfer ≡ None → IsWritable stopped s
writable false Prepared is = (refl, inl refl)
writable false Running is = (refl, inr refl)
writable stopped s is = absurd (cc)

settled-by : (c : PlaybackStream) (ring : List ℤ) → IsSoundClient c ring → c.status.stopped ≡ false → (c.status.state ≡ Prepared) ⊎ (c.status.state ≡ Running)
    → (c.stretch.part ≡ 0) × (c.stretch.committed ≤ c.stretch.written)
settled-by c ring sound going (inl waits) = let waiting = sound.prepared waits in (waiting.no_part, omega (arith, waiting.no_frame))
settled-by c ring sound going (inr runs) = let moving = sound.moving (ap is_moving runs) going in (moving.whole, moving.laid_most)

pub settled : (c : PlaybackStream) (ring : List ℤ) → IsSoundClient c ring → refusal_of Playback c.status Transfer ≡ None
    → (c.stretch.part ≡ 0) × (c.stretch.committed ≤ c.stretch.written)
settled c ring sound admitted =
    let is : IsWritable c.status.stopped c.status.state = writable c.status.stopped c.status.state admitted in
    settled-by c ring sound is.0 is.1
