-- A course at a port to captured frames and its gate.
use Rattle.std.specs.Prelude.{◌≡◌, ℕ, ℤ, List, Option}
use Rattle.std.proofs.Common.{refl, ◌∙◌, ap}
use Rattle.mix_core.specs.declared.gate.Gate as gates
use Rattle.mix_core.specs.declared.port.Ended.{Ended}
use Rattle.mix_core.specs.declared.port.Entry.{Entry}
use Rattle.mix_core.specs.declared.port.Position.{Position}
use Rattle.snoop_core.specs.declared.port.Got.{Got}
use Rattle.snoop_core.specs.declared.port.SnoopPort as snoopport
use Rattle.snoop_core.specs.Port.{Gets, LoadsPosition, SnoopView, numbered_frame}
use Rattle.course.specs.Course.{Course, Takes}
use Rattle.course.specs.CourseLaws.{Takes-keeps_getting}

-- the single steps, between states of port and gate
abbrev pub LoadsAtSnoop : {S T : Type 0} → snoopport.Ghosts S → gates.Ghosts T → S × T → Option Position → S × T → Type 0
LoadsAtSnoop P G s load t = LoadsPosition P.view P.loaded P.got G.stops G.asked s.0 s.1 load t.0 t.1

-- the frame of a number was loaded, with some samples where it was got
abbrev pub GetsAtSnoop : {S T : Type 0} → snoopport.Ghosts S → gates.Ghosts T → S × T → ℕ → Got → S × T → Type 0
GetsAtSnoop P G s number got t =
    (samples : List ℤ) × Gets P.view P.shows P.loaded P.got P.finds G.stops G.asked s.0 s.1 (numbered_frame number samples) got t.0 t.1

-- nothing is placed at a port to captured frames
abbrev pub NoLay : {S : Type 0} → S → Entry → Ended → S → Type 0
NoLay s e ended t = ⊥

-- a course was taken at a port to captured frames and its gate, from one state of both to another
abbrev pub TakesAtSnoop : {S T X : Type 0} → snoopport.Ghosts S → gates.Ghosts T → S × T → Course X → S × T → X → Type 0
TakesAtSnoop P G s course t y = Takes (LoadsAtSnoop P G) NoLay (GetsAtSnoop P G) s course t y

-- no step changes the geometry of a port
pub TakesAtSnoop-same : {S T X : Type 0} (P : snoopport.Ghosts S) (G : gates.Ghosts T) (s t : S × T) (m : Course X) (y : X)
    → TakesAtSnoop P G s m t y → (P.view t.0).geometry ≡ (P.view s.0).geometry
TakesAtSnoop-same {S = S} {T = T} P G s t m y takes =
    Takes-keeps_getting (LoadsAtSnoop P G) (GetsAtSnoop P G) (λ (a b : S × T). (P.view b.0).geometry ≡ (P.view a.0).geometry)
    (λ a. refl)
    (λ a b c one two. two ∙ one)
    (λ a b load step. ap (λ (v : SnoopView). v.geometry) step.view_is)
    (λ a b number got step. ap (λ (v : SnoopView). v.geometry) step.1.view_is)
    s t m y takes
