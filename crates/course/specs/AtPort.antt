-- A course at a mix port and its gate.
use Rattle.std.specs.Prelude.{◌≡◌, ℕ, Option}
use Rattle.std.proofs.Common.{refl, ◌∙◌, ap}
use Rattle.mix_core.specs.declared.gate.Gate as gates
use Rattle.mix_core.specs.declared.port.Ended.{Ended}
use Rattle.mix_core.specs.declared.port.Entry.{Entry}
use Rattle.mix_core.specs.declared.port.MixPort as mixport
use Rattle.mix_core.specs.declared.port.Position.{Position}
use Rattle.mix_core.specs.Port.{Lays, Loads, PortView}
use Rattle.snoop_core.specs.declared.port.Got.{Got}
use Rattle.course.specs.Course.{Course, Takes}
use Rattle.course.specs.CourseLaws.{Takes-keeps}

-- the single steps, between states of port and gate
abbrev pub LoadsAt : {S T : Type 0} → mixport.Ghosts S → gates.Ghosts T → S × T → Option Position → S × T → Type 0
LoadsAt P G s load t = Loads P.view P.laid P.loaded G.stops G.asked s.0 s.1 load t.0 t.1

abbrev pub LaysAt : {S T : Type 0} → mixport.Ghosts S → gates.Ghosts T → S × T → Entry → Ended → S × T → Type 0
LaysAt P G s e ended t = Lays P.view P.laid P.loaded P.shows P.finds G.stops G.asked s.0 s.1 e ended t.0 t.1

-- no captured frame is loaded at a mix port
abbrev pub NoGet : {S : Type 0} → S → ℕ → Got → S → Type 0
NoGet s frame got t = ⊥

-- a course was taken at a port and its gate, from one state of both to another
abbrev pub TakesAt : {S T X : Type 0} → mixport.Ghosts S → gates.Ghosts T → S × T → Course X → S × T → X → Type 0
TakesAt P G s course t y = Takes (LoadsAt P G) (LaysAt P G) NoGet s course t y

-- what no step changes of a port
pub record IsSamePort (v w : PortView) : Type 0 where
  pub same_geometry : w.geometry ≡ v.geometry
  pub same_member : w.member ≡ v.member
  pub same_can_add : w.can_add ≡ v.can_add

same_by : (v w u : PortView) → w ≡ u → IsSamePort v u → IsSamePort v w
same_by v w u is same = record {
  same_geometry = ap (λ (x : PortView). x.geometry) is ∙ same.same_geometry;
  same_member = ap (λ (x : PortView). x.member) is ∙ same.same_member;
  same_can_add = ap (λ (x : PortView). x.can_add) is ∙ same.same_can_add;
}

pub TakesAt-same : {S T X : Type 0} (P : mixport.Ghosts S) (G : gates.Ghosts T) (s t : S × T) (m : Course X) (y : X)
    → TakesAt P G s m t y → IsSamePort (P.view s.0) (P.view t.0)
TakesAt-same {S = S} {T = T} P G s t m y takes =
    Takes-keeps (LoadsAt P G) (LaysAt P G) (λ (a b : S × T). IsSamePort (P.view a.0) (P.view b.0))
    (λ a. record { same_geometry = refl; same_member = refl; same_can_add = refl })
    (λ a b c one two. record {
      same_geometry = two.same_geometry ∙ one.same_geometry;
      same_member = two.same_member ∙ one.same_member;
      same_can_add = two.same_can_add ∙ one.same_can_add;
    })
    (λ a b load step. same_by (P.view a.0) (P.view b.0) _ step.view_is (record { same_geometry = refl; same_member = refl; same_can_add = refl }))
    (λ a b e ended step. same_by (P.view a.0) (P.view b.0) _ step.view_is (record { same_geometry = refl; same_member = refl; same_can_add = refl }))
    s t m y takes
