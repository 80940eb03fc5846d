-- What each call of a core does to it, and to every history that it represents.
use Rattle.std.specs.Prelude.{◌≡◌, ◌≢◌, ℕ, ◌<◌, true, false, List, [], ◌∷◌, ◌++◌, length, slice_index, slice_index_or}
use Rattle.snd_base.specs.declared.geometry.Geometry.{Geometry}
use Rattle.snd_base.specs.Places.{cursor_after, first_frame}
use Rattle.lap_word.specs.Clamp.{clamp_of}
use Rattle.mix_core.specs.declared.port.Entry.{Entry}
use Rattle.mix_core.specs.declared.event.Event.TheVariants.{Publish, Take}
use Rattle.mix_core.specs.declared.event.Reply.TheVariants.{LapEnd, Published, Took}
use Rattle.mix_core.specs.declared.event.Taken.{Taken}
use Rattle.mix_core.specs.History.{IsReply, Row, is_taken, laid_of, entry_row, taken_words}
use Rattle.mix_core.specs.Laid.{marks_after, total}
use Rattle.mix_core.specs.Marks.{start_marks}
use Rattle.mix_core.specs.Port.{IsNotBefore}
use Rattle.mix_core.specs.declared.marks.Marks.{Marks}
use Rattle.mix_core.specs.Stands.{RepresentsHistory}
use Rattle.mix_core.specs.View.{View, marks_at}

-- a core of a geometry and a number of members, to which nothing has happened
pub record IsNew (v : View) (g : Geometry) (members : ℕ) : Type 0 where
  pub geometry : v.geometry ≡ g
  pub members_is : length v.marks ≡ members
  pub marks : (m : ℕ) (d : Marks) → m < members → slice_index_or v.marks m d ≡ start_marks g
  pub next : v.next ≡ record { frame = first_frame g; channel = 0 }
  pub position : v.position ≡ first_frame g
  pub gone : v.gone ≡ false
  pub stands : RepresentsHistory v []

-- an entry was placed, an add or a withdrawal: its member's marks move, and each history that it legally continues has it at its
-- end
pub record IsLaidBy (v w : View) (e : Entry) : Type 0 where
  pub geometry : w.geometry ≡ v.geometry
  -- no word falls, by its lap and then its count
  pub words : (i : ℕ) → IsNotBefore (slice_index v.words i) (slice_index w.words i)
  pub members : length w.marks ≡ length v.marks
  pub own : (d : Marks) → slice_index_or w.marks e.member d ≡ marks_after v.geometry (marks_at v e.member) e
  pub others : (m : ℕ) (d : Marks) → m ≢ e.member → slice_index_or w.marks m d ≡ slice_index_or v.marks m d
  pub next : w.next ≡ v.next
  pub position : w.position ≡ v.position
  pub gone : w.gone ≡ v.gone
  pub untaken : (h : List Row) → RepresentsHistory v h → is_taken (taken_words h) e.frame e.channel ≡ false
  pub stands : (h : List Row) → RepresentsHistory v h → IsReply v.geometry (length v.marks) h (entry_row e) → RepresentsHistory w (h ++ entry_row e ∷ [])

-- the next word was taken: its value is the total there, saturated to a sample, and each history has the take at its end
pub record IsTaken (v w : View) (t : Taken) : Type 0 where
  pub geometry : w.geometry ≡ v.geometry
  pub marks : w.marks ≡ v.marks
  pub position : w.position ≡ v.position
  pub gone : w.gone ≡ v.gone
  pub frame : t.frame ≡ v.next.frame
  pub channel : t.channel ≡ v.next.channel
  pub next : w.next ≡ cursor_after v.geometry v.next.frame v.next.channel
  pub value : (h : List Row) → RepresentsHistory v h → t.value ≡ clamp_of (total (laid_of h) t.frame t.channel)
  pub stands : (h : List Row) → RepresentsHistory v h → RepresentsHistory w (h ++ (Take, Took t.frame t.channel t.value) ∷ [])

-- the take was refused: nothing changed, and each history has the refusal at its end
pub record IsRefused (v w : View) : Type 0 where
  pub same : w ≡ v
  pub stands : (h : List Row) → RepresentsHistory v h → RepresentsHistory w (h ++ (Take, LapEnd) ∷ [])

-- the position became the frame of the next word, and each history has this publication at its end
pub record IsPublished (v w : View) : Type 0 where
  pub changed : w ≡ record v { position = v.next.frame }
  pub stands : (h : List Row) → RepresentsHistory v h → RepresentsHistory w (h ++ (Publish, Published v.next.frame) ∷ [])

-- the card is gone, which is no event of a history
pub record IsUnplugged (v w : View) : Type 0 where
  pub changed : w ≡ record v { gone = true }
  pub stands : (h : List Row) → RepresentsHistory v h → RepresentsHistory w h
