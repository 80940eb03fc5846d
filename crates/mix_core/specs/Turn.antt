-- What a turn places and loads: its core is a value behind a reference, and every history that the core represents goes on.
use Rattle.std.specs.Prelude.{◌≡◌, ◌≢◌, ◌<◌, ◌≤◌, ℕ, true, Option, Some, List, [], ◌∷◌, ◌++◌, All, ⊤, ℤ, length, map, slice_index}
use Rattle.std.specs.Borrow.{MutBor}
use Rattle.std.specs.List.{slice_index_or}
use Rattle.snd_base.specs.declared.places.Cursor.{Cursor}
use Rattle.snd_base.specs.Places.{first_free}
use Rattle.mix_core.specs.declared.port.Ended.{Ended}
use Rattle.mix_core.specs.declared.port.Entry.{Entry}
use Rattle.mix_core.specs.declared.port.Position.{Position}
use Rattle.mix_core.specs.declared.turn.Turn.{Turn}
use Rattle.mix_core.specs.History.{IsHeld, Row, laid_of, late_row, entry_row}
use Rattle.mix_core.specs.declared.marks.Marks.{Marks}
use Rattle.mix_core.specs.declared.port.Kind.{Kind}
use Rattle.mix_core.specs.declared.port.Kind.TheVariants.{Added, Withdrawn}
use Rattle.mix_core.specs.Laid.{EndsIn, marks_from, standing_of}
use Rattle.mix_core.specs.Port.{IsNotBefore, OnLate, OnWhole, PortView}
use Rattle.snd_base.specs.declared.geometry.Geometry.{Geometry}
use Rattle.mix_core.specs.Stands.{RepresentsHistory}
use Rattle.mix_core.specs.View.{View, cursor_at, marks_at, word_at}

-- the core of a turn, as it is now
abbrev pub core_of : Turn → View
core_of t = t.core.now

-- the member whose turn it is
abbrev pub member_of : Turn → ℕ
member_of t = t.member

-- the member's cursor and its marks
abbrev pub cursor_of_turn : Turn → Cursor
cursor_of_turn t = cursor_at t.core.now t.member

abbrev pub marks_of_turn : Turn → Marks
marks_of_turn t = marks_at t.core.now t.member

-- what is plain of a turn: it can always add, and the position that it has seen is the core's
abbrev pub view_of_turn : Turn → PortView
view_of_turn t = record { geometry = t.core.now.geometry; member = t.member; can_add = true; marks = marks_of_turn t; seen = t.core.now.position }

-- the word that the core has at a frame and channel
abbrev pub word_of_turn : Turn → ℕ → ℕ → Option ℕ
word_of_turn t f c = Some (word_at t.core.now f c)

-- the member's standing adds end in a list, in a history that the core represents
abbrev pub TurnEndsIn : Turn → List Entry → Type 0
TurnEndsIn t es = (h : List Row) × (RepresentsHistory t.core.now h × EndsIn (standing_of t.member (laid_of h)) es)

-- an entry legally continues a history: an add does that where the core's member may make it, and a withdrawal where the
-- history holds its sample last
abbrev pub continues : Kind → Geometry → ℕ → List Row → ℕ → ℕ → ℕ → ℤ → Type 0
continues Added g members h m f c s = ⊤
continues Withdrawn g members h m f c s = IsHeld g members h m f c s

abbrev pub ContinuesRows : Geometry → ℕ → List Row → Entry → Type 0
ContinuesRows g members h e = continues e.kind g members h e.member e.frame e.channel e.sample

-- entries do, one after the other
abbrev pub AllContinue : Geometry → ℕ → List Row → List Entry → Type 0
AllContinue g members h [] = ⊤
AllContinue g members h (e ∷ es) = ContinuesRows g members h e × AllContinue g members (h ++ entry_row e ∷ []) es

-- the turn holds the core that a reference borrows
abbrev pub HoldsCore : Turn → MutBor View → Type 0
HoldsCore t core = t.core.ghost_name ≡ core.ghost_name

-- what adding leaves alone
pub record KeepsRest (v w : View) : Type 0 where
  pub geometry : w.geometry ≡ v.geometry
  pub members : length w.marks ≡ length v.marks
  pub next : w.next ≡ v.next
  pub position : w.position ≡ v.position
  pub gone : w.gone ≡ v.gone

-- a turn placed some entries of its member: each history that the core represented has their adds at its end, all in time
pub record TurnLaid (t u : Turn) (es : List Entry) : Type 0 where
  pub same_core : u.core.ghost_name ≡ t.core.ghost_name
  pub same_member : u.member ≡ t.member
  pub rest : KeepsRest (core_of t) (core_of u)
  pub own : All (λ (e : Entry). e.member ≡ t.member) es
  -- each entry's frame and channel were not taken yet
  pub in_time : All (λ (e : Entry). first_free (core_of t).next e.channel ≤ e.frame) es
  pub marks : marks_of_turn u ≡ marks_from (core_of t).geometry (marks_of_turn t) es
  -- no word falls, by its lap and then its count
  pub words : (i : ℕ) → IsNotBefore (slice_index (core_of t).words i) (slice_index (core_of u).words i)
  pub others : (m : ℕ) (d : Marks) → m ≢ t.member → slice_index_or (core_of u).marks m d ≡ slice_index_or (core_of t).marks m d
  pub stands : (h : List Row) → RepresentsHistory (core_of t) h → AllContinue (core_of t).geometry (length (core_of t).marks) h es → RepresentsHistory (core_of u) (h ++ map entry_row es)

-- a turn's add of an entry was late: each history that the core represented has this add at its end
abbrev pub TurnMissed : Turn → Turn → Entry → Type 0
TurnMissed t u e =
    (h : List Row) → RepresentsHistory (core_of t) h → ContinuesRows (core_of t).geometry (length (core_of t).marks) h e → RepresentsHistory (core_of u) (h ++ late_row e ∷ [])

-- the words that a turn finds at a frame and channel are at most one, which the core has there
abbrev pub AreFound : List ℕ → ℕ → Type 0
AreFound [] word = ⊤
AreFound (w ∷ []) word = w ≡ word
AreFound (w ∷ v ∷ ws) word = ⊥

-- what a turn finds where it is to place an entry: it is done only where the frame and channel aren't taken yet, and late only where
-- they are, and each history has the late row then
pub record TurnFinds (t u : Turn) (e : Entry) (ended : Ended) (words : List ℕ) : Type 0 where
  pub in_time : OnWhole ended (first_free (core_of t).next e.channel ≤ e.frame)
  pub late : OnLate ended (λ _. e.frame < first_free (core_of t).next e.channel)
  pub missed : OnLate ended (λ _. TurnMissed t u e)
  pub are_found : AreFound words (word_at (core_of t) e.frame e.channel)

-- a turn loaded some positions: each is the core's, with its gone bit
pub record TurnLoaded (t u : Turn) (ps : List Position) : Type 0 where
  pub same_frame : (core_of u).position ≡ (core_of t).position
  pub same_gone : (core_of u).gone ≡ (core_of t).gone
  pub each : All (λ (p : Position). (p.frame ≡ (core_of t).position) × (p.gone ≡ (core_of t).gone)) ps
