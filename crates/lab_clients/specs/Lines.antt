-- What a line of an open client does at its port.
use Rattle.std.specs.Prelude.{◌≡◌, ℕ, ◌≤◌, ⊤, ℤ, List, ◌++◌, length, Bool, true, false, not, ◌&&◌, nat_eq, if◌then◌else◌, [], ◌∷◌, Option, Some}
use Rattle.std.specs.List.{flat_map}
use Rattle.snd_base.specs.declared.places.Segment.{Segment}
use Rattle.snd_base.specs.declared.geometry.Geometry.{Geometry}
use Rattle.mix_core.specs.declared.gate.Gate as gates
use Rattle.mix_core.specs.declared.port.Entry.{Entry}
use Rattle.mix_core.specs.declared.port.MixPort as mixport
use Rattle.course.specs.AtPort.{TakesAt}
use Rattle.dmix_client.specs.declared.stream.PlaybackStream.{PlaybackStream}
use Rattle.dmix_client.specs.Expansion.{expand}
use Rattle.dmix_client.specs.Growth.{IsBacked, TakesAway, segment_entries}
use Rattle.dmix_client.specs.Port.{CanUse}
use Rattle.dmix_client.specs.View.{ClientView}
use Rattle.wav_io.specs.Sound.{Sound}
use Rattle.lab_lines.specs.declared.line.Op.{Op}
use Rattle.lab_lines.specs.declared.line.Op.TheVariants as op
use Rattle.lab_lines.specs.declared.row.Answer.{Answer}
use Rattle.lab_lines.specs.declared.row.Answer.TheVariants.{Done}
use Rattle.lab_run.specs.Client.{ended_by, frames_of}
use Rattle.lab_run.specs.ClientAtPort.{IsClientLine, IsOffered, made_call}
use Rattle.lab_run.specs.Members.{with_member}
use Rattle.lab_run.specs.PortSteps.{IsAtPort}
use Rattle.lab_run.specs.ActorPart.{Doing}

-- An open client at its port: it can use it, it represents the samples of its file there, and the port's standing adds end in its
-- segment. Its channels are those of the file, and it has accepted no more frames than the file has.
pub record IsReady {S : Type 0} (P : mixport.Ghosts S) (wav : Sound) (p : S)
    (c : ClientView) : Type 0 where
  pub usable : CanUse c.stream (P.view p)
  pub backed : IsBacked P.ends_in p c wav.samples
  pub channels : length c.stream.setup.bindings ≡ wav.channels
  pub fed : c.stream.fed ≤ frames_of wav

-- the entries of a segment of a client
abbrev pub entries_by : PlaybackStream → List ℤ → Segment → List Entry
entries_by c samples segment = expand c.identity.member segment samples c.setup.bindings

-- those of the stretches that a client ended, and then those of its present one
abbrev pub stretches_entries : PlaybackStream → List ℤ → List Segment → List Entry
stretches_entries c samples ended =
    flat_map (entries_by c samples) ended ++ segment_entries c samples

-- A client kept its member and its bindings, and at the end of the standing adds of its port its stretches took the place of the one
-- that it had.
pub record ExtendsStretches {S : Type 0} (P : mixport.Ghosts S) (samples : List ℤ) (p q : S)
    (c d : PlaybackStream) (ended : List Segment) : Type 0 where
  pub away : TakesAway P.laid P.ends_in p q (segment_entries c samples)
      (stretches_entries d samples ended)
  pub same_member : d.identity.member ≡ c.identity.member
  pub same_bindings : d.setup.bindings ≡ c.setup.bindings

-- an open client made the call that a line names, and is ready for the next line
pub record HasClientCalled {S T : Type 0} (P : mixport.Ghosts S) (G : gates.Ghosts T)
    (s t : S × T) (wav : Sound) (c d : ClientView) (asked : Op) (answer : Answer) : Type 0 where
  pub samples : List ℤ
  pub offered : IsOffered wav c.stream samples asked
  pub takes : TakesAt P G s (made_call c.ring samples (P.view s.0).marks c.stream asked)
      t (d.stream, answer)
  pub ready : IsReady P wav t.0 d
  pub extends : ExtendsStretches P wav.samples s.0 t.0 c.stream d.stream
      (ended_by asked answer c.stream d.stream)

-- a line of at most so many frames as a call takes
abbrev pub IsFew : Op → Type 0
IsFew (op.Write frames) = frames ≤ 4194304
IsFew other = ⊤

-- an open client was answered a line, and is ready for the next one: whichever segments it had, it is its line as a run has it
pub record HasClientAnswered {S T : Type 0} (P : mixport.Ghosts S) (left : T → Option ℕ) (by_gate at_gate : T → ℕ)
    (s t : S × T) (wav : Sound) (c d : ClientView) (asked : Op) (answer : Answer) : Type 0 where
  pub line : (phase number : ℕ) (ended : List Segment) (first : S) (ring : Geometry)
      (from : ℕ) (before : Doing) → IsAtPort P left by_gate at_gate first ring from s before
      → IsClientLine P left by_gate at_gate first ring from t phase wav number before
      (record { own = Some (with_member number c.stream); ended = ended })
      asked (record {
        own = Some (with_member number d.stream);
        ended = ended ++ ended_by asked answer c.stream d.stream;
      }) answer
  pub ready : IsReady P wav t.0 d
  pub extends : ExtendsStretches P wav.samples s.0 t.0 c.stream d.stream
      (ended_by asked answer c.stream d.stream)

-- a line ends a stretch: a prepare that was done, and a resume after which a client that was paused isn't
abbrev pub ends_stretch : Op → Answer → Bool → Bool → Bool
ends_stretch op.Prepare Done was_paused paused = true
ends_stretch op.Resume answer was_paused paused = was_paused && not paused
ends_stretch asked answer was_paused paused = false

-- a segment, where it has at least one sample
abbrev pub laid_of : Segment → List Segment
laid_of segment = if nat_eq segment.whole 0 && nat_eq segment.part 0 then [] else segment ∷ []
