-- That a core represents a legal history: the core keeps no history, so this is a relation.
use Rattle.std.specs.Prelude.{◌≡◌, ℕ, ◌+◌, ◌<◌, ◌≤◌, List, [], length, nat_lt}
use Rattle.std.specs.List.{slice_index_or}
use Rattle.mix_core.specs.declared.marks.Marks.{Marks}
use Rattle.snd_base.specs.Places.{first_frame, first_free, lap, next_word}
use Rattle.lap_word.specs.Word.{StandsFor}
use Rattle.mix_core.specs.declared.port.Entry.{Entry}
use Rattle.mix_core.specs.declared.event.Taken.{Taken}
use Rattle.mix_core.specs.History.{AreExact, AreInOrder, IsLegal, Row, is_taken, laid_of, position_of, taken_words}
use Rattle.mix_core.specs.Laid.{at, marks_of, total}
use Rattle.mix_core.specs.Sound.{IsNow}
use Rattle.mix_core.specs.View.{View, word_at}

-- the core's parts are those of a list of entries that were placed and a list of what was taken
pub record Agrees (v : View) (es : List Entry) (ts : List Taken) : Type 0 where
  pub next : v.next ≡ next_word v.geometry (length ts)
  pub marks : (m : ℕ) (d : Marks) → m < length v.marks → slice_index_or v.marks m d ≡ marks_of v.geometry m es
  -- what was taken is what is before the next word, and nothing is placed a ring's length past the position
  pub taken : (f c : ℕ) → c < v.geometry.channels → first_frame v.geometry ≤ f → is_taken ts f c ≡ nat_lt f (first_free v.next c)
  pub ahead : (f c : ℕ) → v.position + v.geometry.frames ≤ f → at es f c ≡ []
  -- each word that the ring has now has the lap of its frame, the number of the samples placed there, and their sum
  pub words : (f c : ℕ) → IsNow v.geometry v.next f c → StandsFor (word_at v f c) (lap v.geometry f) (length (at es f c)) (total es f c)
  -- what was taken is in the order of frames and channels, and each value is the sum of all that was placed there
  pub in_order : AreInOrder v.geometry ts
  pub exact : AreExact es ts

-- the core represents the history: it is legal, and the core's parts are what it says
pub record RepresentsHistory (v : View) (h : List Row) : Type 0 where
  pub legal : IsLegal v.geometry (length v.marks) h
  pub position : v.position ≡ position_of v.geometry h
  pub agrees : Agrees v (laid_of h) (taken_words h)
