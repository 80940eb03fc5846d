-- What a phase of a script allows to an actor at its port, step by step.
use Rattle.std.specs.Prelude.{◌≡◌, ℕ, ◌+◌, ◌-◌, ◌<◌, ◌≤◌, ◌⊎◌, nat_le, Bool, true, false, List, Contains, Option, Some, None}
use Rattle.snd_base.specs.declared.geometry.Geometry.{Geometry}
use Rattle.mix_core.specs.declared.marks.Marks.{Marks}
use Rattle.mix_core.specs.declared.port.Ended.{Ended}
use Rattle.mix_core.specs.declared.port.Ended.TheVariants.{Whole, Late, Stopped}
use Rattle.mix_core.specs.declared.port.Entry.{Entry}
use Rattle.mix_core.specs.declared.port.Position.{Position}
use Rattle.mix_core.specs.Laid.{marks_after}
use Rattle.snoop_core.specs.declared.port.Got.{Got}
use Rattle.snoop_core.specs.declared.port.Got.TheVariants as got
use Rattle.course.specs.Course.{Course, Takes}

-- the card at the end of a phase: the shape of its ring, its position, and whether it is gone
pub record CardEnd : Type 0 where
  pub ring : Geometry
  pub position : ℕ
  pub gone : Bool

-- what a phase allows: the card at its end, and the positions that the card publishes in it
pub record Rules : Type 0 where
  pub at : CardEnd
  pub published : List ℕ

-- an actor at its port: the position that it saw last, its marks, how many asks a `die` lets pass yet, how often its own gate stopped
-- it, and how often it asked this gate, but for the asks of kind Again
pub record AtPort : Type 0 where
  pub seen : ℕ
  pub marks : Marks
  pub left : Option ℕ
  pub by_gate : ℕ
  pub at_gate : ℕ

-- a `die` lets so many asks pass
abbrev pub lets_pass : ℕ → Option ℕ → Bool
lets_pass asks None = true
lets_pass asks (Some left) = nat_le asks left

-- what it lets pass after them
abbrev pub left_after : ℕ → Option ℕ → Option ℕ
left_after asks None = None
left_after asks (Some left) = Some (left - asks)

-- after so many asks that passed, each of which came to the actor's own gate
abbrev pub with_asks : ℕ → AtPort → AtPort
with_asks asks a = record a { left = left_after asks a.left; at_gate = a.at_gate + asks }

-- after a stop by the actor's own gate
abbrev pub with_gate_stop : AtPort → AtPort
with_gate_stop a = record a { by_gate = a.by_gate + 1 }

-- after a stop: by the `die`, where it is at its end, or else by the actor's own gate, which the `die` lets be asked
abbrev pub with_stop_by : Bool → AtPort → AtPort
with_stop_by true a = with_gate_stop (with_asks 1 a)
with_stop_by false a = a

abbrev pub with_stop : AtPort → AtPort
with_stop a = with_stop_by (lets_pass 1 a.left) a

-- after a load of a position, which is one ask
abbrev pub with_load : ℕ → AtPort → AtPort
with_load position a = record (with_asks 1 a) { seen = position }

-- after an entry was placed, which is two asks
abbrev pub with_entry : Geometry → Entry → AtPort → AtPort
with_entry ring e a = record (with_asks 2 a) { marks = marks_after ring a.marks e }

-- a load gives a position that the card publishes in the phase, and never one below what the actor saw
abbrev pub MayLoad : Rules → AtPort → Option Position → AtPort → Type 0
MayLoad rules a None after = after ≡ with_stop a
MayLoad rules a (Some position) after =
    (lets_pass 1 a.left ≡ true) × Contains rules.published position.frame
    × (a.seen ≤ position.frame)
    × (position.gone ≡ rules.at.gone) × (after ≡ with_load position.frame a)

-- how many asks are made of an entry before the last one of a step that isn't whole: at most one where its frame isn't below the
-- position seen, and else none, since the first look finds the later lap
abbrev pub MayAsk : AtPort → Entry → ℕ → Type 0
MayAsk a e asks = (asks ≡ 0) ⊎ ((asks ≡ 1) × (a.seen ≤ e.frame))

-- An entry is placed, unless its frame is below the position seen. It may be late where the card plays its frame by the end of the
-- phase; the word that shows it isn't part of a report, and is 0 here. A stop is at the look, at the exchange, or at a further
-- exchange, which a `die` doesn't count.
abbrev pub MayLay : Rules → AtPort → Entry → Ended → AtPort → Type 0
MayLay rules a e Whole after =
    (a.seen ≤ e.frame) × (lets_pass 2 a.left ≡ true) × (after ≡ with_entry rules.at.ring e a)
MayLay rules a e (Late word) after =
    (asks : ℕ) × (word ≡ 0) × (e.frame < rules.at.position) × MayAsk a e asks
    × (lets_pass (asks + 1) a.left ≡ true)
    × (after ≡ with_asks (asks + 1) a)
MayLay rules a e Stopped after =
    ((asks : ℕ) × MayAsk a e asks × (lets_pass asks a.left ≡ true)
    × (after ≡ with_stop (with_asks asks a)))
    ⊎ ((a.seen ≤ e.frame) × (lets_pass 2 a.left ≡ true) × (after ≡ with_gate_stop (with_asks 2 a)))

-- A captured frame is got, one ask a channel, unless the frame that takes its slot is below the position seen. It may be overtaken
-- where the card stores that one by the end of the phase: at any channel, or at the first alone where that one is below the position
-- seen.
abbrev pub MayGet : Rules → AtPort → ℕ → Got → AtPort → Type 0
MayGet rules a frame got.Whole after =
    (a.seen ≤ frame + rules.at.ring.frames) × (lets_pass rules.at.ring.channels a.left ≡ true)
    × (after ≡ with_asks rules.at.ring.channels a)
MayGet rules a frame (got.Overtaken channel word) after =
    (word ≡ 0) × (frame + rules.at.ring.frames < rules.at.position)
    × (channel < rules.at.ring.channels)
    × ((channel ≡ 0) ⊎ (a.seen ≤ frame + rules.at.ring.frames))
    × (lets_pass (channel + 1) a.left ≡ true)
    × (after ≡ with_asks (channel + 1) a)
MayGet rules a frame got.Stopped after =
    (asks : ℕ) × (asks < rules.at.ring.channels)
    × ((asks ≡ 0) ⊎ (a.seen ≤ frame + rules.at.ring.frames))
    × (lets_pass asks a.left ≡ true) × (after ≡ with_stop (with_asks asks a))

-- a course may be taken so in a phase
abbrev pub May : {X : Type 0} → Rules → AtPort → Course X → AtPort → X → Type 0
May rules before course after result =
    Takes (MayLoad rules) (MayLay rules) (MayGet rules) before course after result
