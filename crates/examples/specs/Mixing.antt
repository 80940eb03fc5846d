-- What two clients at one core placed, and what the card took.
use Rattle.std.specs.Prelude.{◌≡◌, ℕ, List, ℤ}
use Rattle.bindings.specs.Bound.{identity}
use Rattle.snd_base.specs.declared.geometry.Geometry.{Geometry}
use Rattle.snd_base.specs.declared.places.Segment.{Segment}
use Rattle.mix_core.specs.declared.event.Taken.{Taken}
use Rattle.mix_core.specs.declared.port.Entry.{Entry}
use Rattle.mix_core.specs.History.{AreExact, AreInOrder, Row, laid_of, taken_words}
use Rattle.mix_core.specs.Stands.{RepresentsHistory}
use Rattle.mix_core.specs.View.{View}
use Rattle.pcm_states.specs.declared.states.State.TheVariants.{Prepared}
use Rattle.dmix_client.specs.declared.stream.PlaybackStream.{PlaybackStream}
use Rattle.dmix_client.specs.Calls.{waiting_stretch}
use Rattle.dmix_client.specs.Expansion.{expand}

-- what a member placed, by its segment and its samples: each of its channels is in the card's of the same number
abbrev pub member_entries : Geometry → ℕ → Segment → List ℤ → List Entry
member_entries g member segment samples = expand member segment samples (identity g.channels)

-- a core represents a history in which these entries were placed, and these words taken
pub record HasMixed (core : View) (placed : List Entry) (taken : List Taken) : Type 0 where
  pub history : List Row
  pub represented : RepresentsHistory core history
  pub placed_is : laid_of history ≡ placed
  pub taken_is : taken_words history ≡ taken

-- the words of a ring from its first frame on, in the order of frames and channels: each value is the saturated sum of what was
-- placed at its frame and channel
pub record AreSums (g : Geometry) (placed : List Entry) (taken : List Taken) : Type 0 where
  pub in_order : AreInOrder g taken
  pub exact : AreExact placed taken

-- a client of a ring's member that is set up and prepared, and has written nothing yet
pub record IsFresh (c : PlaybackStream) (g : Geometry) (member : ℕ) : Type 0 where
  pub geometry : c.identity.geometry ≡ g
  pub member_is : c.identity.member ≡ member
  pub bindings : c.setup.bindings ≡ identity g.channels
  pub state : c.status.state ≡ Prepared
  pub stretch : c.stretch ≡ waiting_stretch 0 0
