-- A course with a gate that counts down leaves the own gate behind the same reference.
use Rattle.mix_core.specs.declared.gate.Gate as gates
use Rattle.mix_core.specs.declared.gate.Pass.{Pass}
use Rattle.mix_core.specs.declared.gate.StepKind.{StepKind}
use Rattle.mix_core.specs.declared.port.MixPort as mixport
use Rattle.std.specs.Prelude.{List}
use Rattle.course.specs.AtPort.{LaysAt, LoadsAt, TakesAt}
use Rattle.course.specs.Course.{Course}
use Rattle.course.specs.AtSnoopPort.{GetsAtSnoop, LoadsAtSnoop, TakesAtSnoop}
use Rattle.course.specs.CourseLaws.{Takes-keeps, Takes-keeps_getting}
use Rattle.snoop_core.specs.declared.port.SnoopPort as snoopport

-- a port and a gate
abbrev pub both : {S T : Type 0} → S → T → S × T
both port gate = (port, gate)

-- what each ask keeps, a course keeps
pub TakesAt-gate : {S T X : Type 0} (P : mixport.Ghosts S) (G : gates.Ghosts T) (K : T → T → Type 0) → ((g : T) → K g g) → ((g h k : T) → K g h → K h k → K g k)
    → ((g h : T) (kinds : List StepKind) (pass : Pass) → G.asked g h kinds pass → K g h)
    → (s t : S × T) (m : Course X) (y : X) → TakesAt P G s m t y → K s.1 t.1
TakesAt-gate {S = S} {T = T} P G K none joined by_ask s t m y takes =
    Takes-keeps (LoadsAt P G) (LaysAt P G) (λ (a b : S × T). K a.1 b.1)
    (λ a. none a.1) (λ a b c one two. joined a.1 b.1 c.1 one two)
    (λ a b load step. by_ask a.1 b.1 _ _ step.asked_it)
    (λ a b e ended step. by_ask a.1 b.1 _ _ step.asked_them)
    s t m y takes

pub TakesAtSnoop-gate : {S T X : Type 0} (P : snoopport.Ghosts S) (G : gates.Ghosts T) (K : T → T → Type 0) → ((g : T) → K g g) → ((g h k : T) → K g h → K h k → K g k)
    → ((g h : T) (kinds : List StepKind) (pass : Pass) → G.asked g h kinds pass → K g h)
    → (s t : S × T) (m : Course X) (y : X) → TakesAtSnoop P G s m t y → K s.1 t.1
TakesAtSnoop-gate {S = S} {T = T} P G K none joined by_ask s t m y takes =
    Takes-keeps_getting (LoadsAtSnoop P G) (GetsAtSnoop P G) (λ (a b : S × T). K a.1 b.1)
    (λ a. none a.1) (λ a b c one two. joined a.1 b.1 c.1 one two)
    (λ a b load step. by_ask a.1 b.1 _ _ step.asked_it)
    (λ a b number got step. by_ask a.1 b.1 _ _ step.1.asked_them)
    s t m y takes
