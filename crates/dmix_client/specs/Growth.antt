-- Which accepted frames a client represents, and how its segment grows by what a port placed for it.
use Rattle.std.specs.Prelude.{◌≡◌, ℕ, ◌+◌, ◌<◌, ◌≤◌, false, fold, min, ℤ, ◌+ℤ◌, List, ◌++◌, length, Result, ⊤}
use Rattle.snd_base.specs.declared.errors.PcmError.{PcmError}
use Rattle.mix_core.specs.declared.gate.Gate as gates
use Rattle.mix_core.specs.declared.port.Entry.{Entry}
use Rattle.mix_core.specs.declared.port.MixPort as mixport
use Rattle.mix_core.specs.Laid.{stand_after, total}
use Rattle.dmix_client.specs.declared.stream.PlaybackStream.{PlaybackStream}
use Rattle.dmix_client.specs.Calls.{segment_of}
use Rattle.dmix_client.specs.Expansion.{expand, sample_at}
use Rattle.course.specs.Stops.{CountsStop}
use Rattle.dmix_client.specs.Port.{CanUse}
use Rattle.dmix_client.specs.View.{ClientView, IsSoundClient, hw_of, ring_sample}

-- of some samples, interleaved, the frames of a client before one that are not both placed and played are in its local
-- ring: frame j since the last prepare is frame `source + j` of the samples
abbrev pub StandsUpTo : PlaybackStream → List ℤ → List ℤ → ℕ → Type 0
StandsUpTo c ring samples to =
    (j q : ℕ) → min c.stretch.committed (hw_of c) ≤ j → j < to → q < length c.setup.bindings
    → ring_sample c ring j q ≡ sample_at samples (length c.setup.bindings) (c.stretch.source + j) q

-- a client represents some samples: its accepted frames are theirs, as far as it still needs them
abbrev pub StandsFor : PlaybackStream → List ℤ → List ℤ → Type 0
StandsFor c ring samples = StandsUpTo c ring samples c.stretch.written

-- some samples have n frames that are offered after those that a client accepted
abbrev pub Follows : PlaybackStream → List ℤ → List ℤ → ℕ → Type 0
Follows c samples offered n =
    (k q : ℕ) → k < n → q < length c.setup.bindings
    → sample_at samples (length c.setup.bindings) (c.stretch.source + (c.stretch.written + k)) q
    ≡ sample_at offered (length c.setup.bindings) k q

-- the entries of a client's segment, by its samples
abbrev pub segment_entries : PlaybackStream → List ℤ → List Entry
segment_entries c samples = expand c.identity.member (segment_of c) samples c.setup.bindings

-- a port placed exactly the entries by which a client's segment grew, by some samples
pub record Grows {S : Type 0} (laid : S → S → List Entry → Type 0) (p q : S) (c d : PlaybackStream)
    (samples : List ℤ) : Type 0 where
  pub entries : List Entry
  pub laid_them : laid p q entries
  pub grown : segment_entries d samples ≡ segment_entries c samples ++ entries
  pub same_member : d.identity.member ≡ c.identity.member
  pub same_bindings : d.setup.bindings ≡ c.setup.bindings

-- what every call that takes steps at a port keeps: the client's counts fit each other and its ring, it can use the port again,
-- the gate's count rose exactly where it answers `Stopped`, and for each list of samples which the client represents, and for which
-- this fact holds, its segment grew by exactly what was placed, and it represents the list afterwards
pub record Keeps {S T X : Type 0} (P : mixport.Ghosts S) (G : gates.Ghosts T) (s t : S × T)
    (c d : ClientView) (answer : Result X PcmError) (For : List ℤ → Type 0) : Type 0 where
  pub sound : IsSoundClient d.stream d.ring
  pub port : CanUse d.stream (P.view t.0)
  pub told : c.stream.status.stopped ≡ false → CountsStop answer (G.stops s.1) (G.stops t.1)
  pub grows : (samples : List ℤ) → StandsFor c.stream c.ring samples → For samples
      → Grows P.laid s.0 t.0 c.stream d.stream samples
  pub stands : (samples : List ℤ) → StandsFor c.stream c.ring samples → For samples
      → StandsFor d.stream d.ring samples

-- a port lost at the end of its standing adds: they ended in some entries, and end in others now, whatever is before these; what
-- it placed in between takes the one to the other, and gives each sum what these gain or lose
pub record TakesAway {S : Type 0} (laid : S → S → List Entry → Type 0)
    (ends_in : S → List Entry → Type 0) (p q : S) (before after : List Entry) : Type 0 where
  pub entries : List Entry
  pub laid_them : laid p q entries
  pub lost : (early : List Entry) → fold stand_after (early ++ before) entries ≡ early ++ after
  pub held : (early : List Entry) → ends_in p (early ++ before) → ends_in q (early ++ after)
  pub totals : (f k : ℕ) → total before f k +ℤ total entries f k ≡ total after f k

-- it lost exactly what a client's segment lost, by some samples
pub record Loses {S : Type 0} (laid : S → S → List Entry → Type 0)
    (ends_in : S → List Entry → Type 0) (p q : S) (c d : PlaybackStream)
    (samples : List ℤ) : Type 0 where
  pub away : TakesAway laid ends_in p q (segment_entries c samples) (segment_entries d samples)
  pub same_member : d.identity.member ≡ c.identity.member
  pub same_bindings : d.setup.bindings ≡ c.setup.bindings

-- what a rewind keeps: as every call that takes steps, but that for each list of samples its segment lost exactly what the port
-- lost at the end of its standing adds
pub record KeepsBack {S T X : Type 0} (P : mixport.Ghosts S) (G : gates.Ghosts T) (s t : S × T)
    (c d : ClientView) (answer : Result X PcmError) : Type 0 where
  pub sound : IsSoundClient d.stream d.ring
  pub port : CanUse d.stream (P.view t.0)
  pub told : c.stream.status.stopped ≡ false → CountsStop answer (G.stops s.1) (G.stops t.1)
  pub loses : (samples : List ℤ) → StandsFor c.stream c.ring samples
      → Loses P.laid P.ends_in s.0 t.0 c.stream d.stream samples
  pub stands : (samples : List ℤ) → StandsFor c.stream c.ring samples
      → StandsFor d.stream d.ring samples

-- a port's standing adds end in a client's segment, by some samples that the client represents
pub record IsBacked {S : Type 0} (ends_in : S → List Entry → Type 0) (p : S) (c : ClientView)
    (samples : List ℤ) : Type 0 where
  pub stands : StandsFor c.stream c.ring samples
  pub segment : ends_in p (segment_entries c.stream samples)

-- no list of samples is left out
abbrev pub AnySamples : List ℤ → Type 0
AnySamples samples = ⊤

-- the counts of what was accepted are the same
pub record KeepsAccepted (c d : PlaybackStream) : Type 0 where
  pub written : d.stretch.written ≡ c.stretch.written
  pub fed : d.fed ≡ c.fed
  pub bindings : d.setup.bindings ≡ c.setup.bindings
