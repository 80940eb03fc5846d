-- What a course gives where a phase leaves no choice: each load gives the position at the phase's end, and a frame is in time exactly
-- where it isn't below that.
use Rattle.std.specs.Prelude.{◌≡◌, ℕ, ◌+◌, nat_le, Bool, true, false, Contains, Option, Some, None}
use Rattle.mix_core.specs.declared.port.Ended.{Ended}
use Rattle.mix_core.specs.declared.port.Ended.TheVariants.{Whole, Late, Stopped}
use Rattle.mix_core.specs.declared.port.Entry.{Entry}
use Rattle.mix_core.specs.declared.port.Position.{Position}
use Rattle.snoop_core.specs.declared.port.Got.{Got}
use Rattle.snoop_core.specs.declared.port.Got.TheVariants as got
use Rattle.course.specs.Course.{Course, ends, gets, lays, loads}
use Rattle.lab_run.specs.Rules.{AtPort, CardEnd, Rules, lets_pass, with_asks, with_entry, with_load}

-- how many asks a `die` lets pass yet, where there was one
abbrev pub asks_left : Option ℕ → ℕ
asks_left None = 0
asks_left (Some left) = left

-- after a stop by a `die`, which let the asks before it pass
abbrev pub out_of_asks : AtPort → AtPort
out_of_asks a = record a { left = Some 0; at_gate = a.at_gate + asks_left a.left }

-- what each kind of step gives, and the actor at its port afterwards
abbrev pub load_by : Bool → CardEnd → AtPort → Option Position × AtPort
load_by true card a =
    (Some (record { frame = card.position; gone = card.gone }), with_load card.position a)
load_by false card a = (None, out_of_asks a)

abbrev pub load_text : CardEnd → AtPort → Option Position × AtPort
load_text card a = load_by (lets_pass 1 a.left) card a

abbrev pub lay_by : Bool → Bool → Bool → CardEnd → Entry → AtPort → Ended × AtPort
lay_by true true one card e a = (Whole, with_entry card.ring e a)
lay_by false two true card e a = (Late 0, with_asks 1 a)
lay_by in_time two one card e a = (Stopped, out_of_asks a)

abbrev pub lay_text : CardEnd → AtPort → Entry → Ended × AtPort
lay_text card a e =
    lay_by (nat_le card.position e.frame) (lets_pass 2 a.left) (lets_pass 1 a.left) card e a

abbrev pub get_by : Bool → Bool → Bool → CardEnd → AtPort → Got × AtPort
get_by true true one card a = (got.Whole, with_asks card.ring.channels a)
get_by false all true card a = (got.Overtaken 0 0, with_asks 1 a)
get_by in_time all one card a = (got.Stopped, out_of_asks a)

abbrev pub get_text : CardEnd → AtPort → ℕ → Got × AtPort
get_text card a frame =
    get_by (nat_le card.position (frame + card.ring.frames)) (lets_pass card.ring.channels a.left)
    (lets_pass 1 a.left) card a

-- what a course gives, and the actor at its port afterwards
unfoldable pub course_text : {X : Type 0} → CardEnd → AtPort → Course X → AtPort × X
course_text card a (ends x) = (a, x)
course_text card a (loads next) = course_text card (load_text card a).1 (next (load_text card a).0)
course_text card a (lays e next) =
    course_text card (lay_text card a e).1 (next (lay_text card a e).0)
course_text card a (gets frame next) =
    course_text card (get_text card a frame).1 (next (get_text card a frame).0)

-- a phase leaves no choice: the card publishes no position in it but the one at its end
abbrev pub IsStill : Rules → Type 0
IsStill rules = (position : ℕ) → Contains rules.published position → position ≡ rules.at.position
