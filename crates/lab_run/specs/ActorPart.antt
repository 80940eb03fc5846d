-- One actor's part in a phase: what it did at its port, without a word of the card or of another actor; and the rule that it follows once it
-- is known which positions the card published, and which frames it took and stored.
use Rattle.std.specs.Prelude.{◌≡◌, ℕ, ◌+◌, ◌<◌, ◌≤◌, ◌⊎◌, true, List, [], ◌∷◌, ◌++◌, Contains, Option, Some, None, ⊤}
use Rattle.snd_base.specs.declared.geometry.Geometry.{Geometry}
use Rattle.mix_core.specs.declared.port.Ended.{Ended}
use Rattle.mix_core.specs.declared.port.Ended.TheVariants.{Whole, Late, Stopped}
use Rattle.mix_core.specs.declared.port.Entry.{Entry}
use Rattle.mix_core.specs.declared.port.Position.{Position}
use Rattle.snoop_core.specs.declared.port.Got.{Got}
use Rattle.snoop_core.specs.declared.port.Got.TheVariants as got
use Rattle.course.specs.Course.{Takes}
use Rattle.lab_lines.specs.declared.line.Op.{Op}
use Rattle.lab_lines.specs.declared.row.Answer.{Answer}
use Rattle.lab_lines.specs.declared.row.Row.{Row}
use Rattle.lab_run.specs.Lines.{Kind, LinesMay}
use Rattle.lab_run.specs.Rules.{AtPort, MayAsk, Rules, lets_pass, with_asks, with_entry, with_gate_stop, with_load, with_stop}

-- what an actor found: the positions that it loaded, and the frames and channels that were late or overtaken, all in order
pub record Findings : Type 0 where
  pub loads : List Position
  pub late : List (ℕ × ℕ)
  pub overtaken : List (ℕ × ℕ)

abbrev pub nothing_found : Findings
nothing_found = record { loads = []; late = []; overtaken = [] }

abbrev pub with_position : Position → Findings → Findings
with_position position found = record found { loads = found.loads ++ position ∷ [] }

abbrev pub with_late : ℕ → ℕ → Findings → Findings
with_late frame channel found = record found { late = found.late ++ (frame, channel) ∷ [] }

abbrev pub with_overtaken : ℕ → ℕ → Findings → Findings
with_overtaken frame channel found =
    record found { overtaken = found.overtaken ++ (frame, channel) ∷ [] }

-- the steps of an actor at its port, with what it found so far
abbrev pub Doing : Type 0
Doing = AtPort × Findings

abbrev pub DoesLoad : Doing → Option Position → Doing → Type 0
DoesLoad (a, found) None (b, after) = (b ≡ with_stop a) × (after ≡ found)
DoesLoad (a, found) (Some position) (b, after) =
    (lets_pass 1 a.left ≡ true) × (a.seen ≤ position.frame) × (b ≡ with_load position.frame a)
    × (after ≡ with_position position found)

abbrev pub DoesLay : Geometry → Doing → Entry → Ended → Doing → Type 0
DoesLay ring (a, found) e Whole (b, after) =
    (a.seen ≤ e.frame) × (lets_pass 2 a.left ≡ true) × (b ≡ with_entry ring e a) × (after ≡ found)
DoesLay ring (a, found) e (Late word) (b, after) =
    (asks : ℕ) × (word ≡ 0) × MayAsk a e asks × (lets_pass (asks + 1) a.left ≡ true)
    × (b ≡ with_asks (asks + 1) a)
    × (after ≡ with_late e.frame e.channel found)
DoesLay ring (a, found) e Stopped (b, after) =
    (((asks : ℕ) × MayAsk a e asks × (lets_pass asks a.left ≡ true)
    × (b ≡ with_stop (with_asks asks a)))
    ⊎ ((a.seen ≤ e.frame) × (lets_pass 2 a.left ≡ true) × (b ≡ with_gate_stop (with_asks 2 a))))
    × (after ≡ found)

abbrev pub DoesGet : Geometry → Doing → ℕ → Got → Doing → Type 0
DoesGet ring (a, found) frame got.Whole (b, after) =
    (a.seen ≤ frame + ring.frames) × (lets_pass ring.channels a.left ≡ true)
    × (b ≡ with_asks ring.channels a) × (after ≡ found)
DoesGet ring (a, found) frame (got.Overtaken channel word) (b, after) =
    (word ≡ 0) × (channel < ring.channels) × ((channel ≡ 0) ⊎ (a.seen ≤ frame + ring.frames))
    × (lets_pass (channel + 1) a.left ≡ true)
    × (b ≡ with_asks (channel + 1) a) × (after ≡ with_overtaken frame channel found)
DoesGet ring (a, found) frame got.Stopped (b, after) =
    (asks : ℕ) × (asks < ring.channels) × ((asks ≡ 0) ⊎ (a.seen ≤ frame + ring.frames))
    × (lets_pass asks a.left ≡ true)
    × (b ≡ with_stop (with_asks asks a)) × (after ≡ found)

-- a line was done so
abbrev pub LineDone : {S : Type 0} → Kind S → Geometry → (AtPort × S) × Findings
    → Op → (AtPort × S) × Findings → Answer → Type 0
LineDone kind ring ((a, s), found) asked ((b, t), after) answer =
    Takes DoesLoad (DoesLay ring) (DoesGet ring) (kind.begins s asked a, found)
    (kind.course (kind.begins s asked a) s asked) (b, after) (t, answer)

-- lines were done so, one after the other, with these rows
abbrev pub ActorPart : {S : Type 0} → Kind S → Geometry → (AtPort × S) × Findings
    → List Op → (AtPort × S) × Findings → List Row → Type 0
ActorPart kind ring before [] after rows = (after ≡ before) × (rows ≡ [])
ActorPart {S = S} kind ring before (asked ∷ more) after rows =
    (between : (AtPort × S) × Findings) × (answer : Answer) × (others : List Row)
    × LineDone kind ring before asked between answer × ActorPart kind ring between more after others
    × (rows ≡ kind.row asked between.0.1 answer ∷ others)

-- one line more, and its row
abbrev pub PartsGrow : {S : Type 0} → Kind S → Geometry → Type 0
PartsGrow {S = S} kind ring =
    (before between after : (AtPort × S) × Findings) (ops : List Op) (rows : List Row)
    (asked : Op) (answer : Answer) → ActorPart kind ring before ops between rows
    → LineDone kind ring between asked after answer
    → ActorPart kind ring before (ops ++ asked ∷ []) after
    (rows ++ kind.row asked after.0.1 answer ∷ [])

-- each member of a list has a fact
abbrev pub Each : {X : Type 0} → (X → Type 0) → List X → Type 0
Each P [] = ⊤
Each P (x ∷ xs) = P x × Each P xs

-- what is known of an actor's findings after its phase: each position that it loaded was published, each frame that was late is taken by
-- then, and each that was overtaken is stored over
pub record AreOf (rules : Rules) (found : Findings) : Type 0 where
  pub loads : Each
      (λ (position : Position). Contains rules.published position.frame
      × (position.gone ≡ rules.at.gone)) found.loads
  pub late : Each (λ (place : ℕ × ℕ). place.0 < rules.at.position) found.late
  pub overtaken : Each (λ (place : ℕ × ℕ). place.0 + rules.at.ring.frames < rules.at.position)
      found.overtaken

-- then the actor did what the phase allows
abbrev pub PartsAreRuns : {S : Type 0} → Kind S → Rules → Type 0
PartsAreRuns {S = S} kind rules =
    (before after : AtPort × S) (found : Findings) (ops : List Op) (rows : List Row)
    → ActorPart kind rules.at.ring (before, nothing_found) ops (after, found) rows
    → AreOf rules found → LinesMay kind rules before ops after rows
