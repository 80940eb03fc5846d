-- What a call that takes steps keeps, and what it asks of the gate.
use Rattle.std.specs.Prelude.{◌≡◌, ℕ, ◌+◌, ◌-◌, ◌*◌, ◌≤◌, ◌↔◌, true, false, ◌++◌, replicate, Result, Ok, Err}
use Rattle.snd_base.specs.declared.errors.PcmError.{PcmError}
use Rattle.snd_base.specs.declared.errors.PcmError.TheVariants.{Stopped, Xrun}
use Rattle.snd_base.specs.declared.errors.XrunWhy.TheVariants.{Overtaken}
use Rattle.mix_core.specs.declared.gate.Gate as gates
use Rattle.mix_core.specs.declared.gate.StepKind.TheVariants as kind
use Rattle.snoop_core.specs.declared.port.SnoopPort as snoopport
use Rattle.course.specs.Stops.{CountsStop, pass_by}
use Rattle.dsnoop_client.specs.declared.stream.CaptureStream.{CaptureStream}
use Rattle.dsnoop_client.specs.View.{CanUse, IsSoundReader}

-- what every call that takes steps keeps: the reader's counts fit each other, it can use the port again, its ring and its setup are the
-- same, it is stopped exactly where it answers `Stopped`, and where it wasn't stopped before, so is the gate's count of stops
pub record Keeps {S T X : Type 0} (P : snoopport.Ghosts S) (G : gates.Ghosts T)
    (s t : S × T) (c d : CaptureStream) (answer : Result X PcmError) : Type 0 where
  pub sound : IsSoundReader d
  pub port : CanUse d (P.view t.0)
  pub same_ring : d.geometry ≡ c.geometry
  pub same_setup : d.setup ≡ c.setup
  pub stopped : (answer ≡ Err Stopped) ↔ (d.status.stopped ≡ true)
  pub told : c.status.stopped ≡ false → CountsStop answer (G.stops s.1) (G.stops t.1)

-- how many channels a read of n frames asked for, by its answer: all of the frames that it counts, all before the one that was
-- overtaken, and none where its load decided
abbrev pub IsLookNumber : Result ℕ PcmError → ℕ → ℕ → ℕ → ℕ → Type 0
IsLookNumber (Ok done) next channels n looks = looks ≡ done * channels
IsLookNumber (Err (Xrun (Overtaken frame channel word))) next channels n looks =
    looks ≡ (frame - next) * channels + (channel + 1)
IsLookNumber (Err Stopped) next channels n looks = looks ≤ n * channels
IsLookNumber (Err other) next channels n looks = looks ≡ 0

-- the asks of a read of n frames that loaded the position: one for the position, and then one for each channel that it loaded
pub record Asks {T : Type 0} (G : gates.Ghosts T) (g h : T) (d : CaptureStream)
    (n : ℕ) (answer : Result ℕ PcmError) : Type 0 where
  pub looks : ℕ
  pub looks_number : IsLookNumber answer d.next d.geometry.channels n looks
  pub asked_them : G.asked g h (replicate 1 kind.Position ++ replicate looks kind.Look)
      (pass_by answer)
