-- What a core replies to events one after the other, and which history it represents afterwards. The standing adds of such a run are
-- those of its own events alone.
use Rattle.std.specs.Prelude.{◌≡◌, ℕ, ◌+◌, ◌<◌, Bool, true, false, List, [], ◌∷◌, ◌++◌, length, filter, fold, drop, slice_index_or, ⊤, ℤ}
use Rattle.std.specs.List.{zip}
use Rattle.snd_base.specs.declared.geometry.Geometry.{Geometry}
use Rattle.snd_base.specs.Places.{IsFrom, first_free}
use Rattle.mix_core.specs.declared.event.Event.{Event}
use Rattle.mix_core.specs.declared.event.Event.TheVariants.{Withdraw}
use Rattle.mix_core.specs.declared.event.Reply.{Reply}
use Rattle.mix_core.specs.declared.event.Reply.TheVariants.{In, Late, Outside}
use Rattle.mix_core.specs.declared.port.Entry.{Entry}
use Rattle.mix_core.specs.History.{IsReply, IsSample, Row, is_taken, laid_of, taken_words}
use Rattle.mix_core.specs.Laid.{last_entry, marks_of, own_entries, stand_after, standing_of}
use Rattle.mix_core.specs.Stands.{RepresentsHistory}
use Rattle.mix_core.specs.View.{View, cursor_at, marks_at}

-- whether a row stays in a core's history: an event with the reply `Outside` is left out
abbrev pub is_kept : Row → Bool
is_kept (e, Outside) = false
is_kept (e, r) = true

abbrev pub kept_rows : List Row → List Row
kept_rows rows = filter is_kept rows

-- a member may withdraw a sample at a frame and channel after some rows of a run: its last standing add among these rows is
-- this sample there, and its floor is not past them
pub record IsHeldSince (g : Geometry) (members : ℕ) (h rows : List Row) (m f c : ℕ) (s : ℤ) : Type 0 where
  pub member_in_range : m < members
  pub channel_in_range : c < g.channels
  pub last : IsSample (last_entry (standing_of m (laid_of rows))) f c s
  pub from_floor : IsFrom (marks_of g m (laid_of (h ++ rows))).floor f c

-- the reply to an event of a run, after a history and the rows of the run before it: that of the whole history, but for
-- withdrawals, which take back what this run added
abbrev pub IsReplySince : Geometry → ℕ → List Row → List Row → Row → Type 0
IsReplySince g members h rows (Withdraw m f c s, Outside) = ¬ (IsHeldSince g members h rows m f c s)
IsReplySince g members h rows (Withdraw m f c s, Late) = IsHeldSince g members h rows m f c s × (is_taken (taken_words (h ++ rows)) f c ≡ true)
IsReplySince g members h rows (Withdraw m f c s, In) = IsHeldSince g members h rows m f c s × (is_taken (taken_words (h ++ rows)) f c ≡ false)
IsReplySince g members h rows (e, r) = IsReply g members (h ++ rows) (e, r)

abbrev pub AreRepliesSince : Geometry → ℕ → List Row → List Row → List Row → Type 0
AreRepliesSince g members h rows [] = ⊤
AreRepliesSince g members h rows (r ∷ rs) = IsReplySince g members h rows r × AreRepliesSince g members h (rows ++ r ∷ []) rs

-- events got one reply each: those that each history determines, which goes on with the rows that are kept
pub record IsRun (v w : View) (es : List Event) (rs : List Reply) : Type 0 where
  pub geometry : w.geometry ≡ v.geometry
  pub members : length w.marks ≡ length v.marks
  pub gone : w.gone ≡ v.gone
  pub one_each : length rs ≡ length es
  pub replies : (h : List Row) → RepresentsHistory v h → AreRepliesSince v.geometry (length v.marks) h [] (zip es rs)
  pub stands : (h : List Row) → RepresentsHistory v h → RepresentsHistory w (h ++ kept_rows (zip es rs))

-- a list holds the standing adds of all members after some rows, and these follow whatever was before the rows
pub record KeepsAdds (st : List Entry) (rows : List Row) : Type 0 where
  pub holds : (m : ℕ) → own_entries m st ≡ standing_of m (laid_of rows)
  pub backed : (m : ℕ) (before : List Entry) → fold stand_after before (own_entries m (laid_of rows)) ≡ before ++ standing_of m (laid_of rows)

-- an event got its reply: the one that each history determines, which goes on with this row if it is kept
pub record IsReplied (v w : View) (e : Event) (r : Reply) : Type 0 where
  pub geometry : w.geometry ≡ v.geometry
  pub members : length w.marks ≡ length v.marks
  pub gone : w.gone ≡ v.gone
  pub reply : (h : List Row) → RepresentsHistory v h → IsReply v.geometry (length v.marks) h (e, r)
  pub stands : (h : List Row) → RepresentsHistory v h → RepresentsHistory w (h ++ kept_rows ((e, r) ∷ []))

-- the same of an event of a run, with the list of standing adds before and after it
pub record IsAnswered (v w : View) (st su : List Entry) (e : Event) (r : Reply) : Type 0 where
  pub geometry : w.geometry ≡ v.geometry
  pub members : length w.marks ≡ length v.marks
  pub gone : w.gone ≡ v.gone
  pub reply : (h rows : List Row) → KeepsAdds st rows → RepresentsHistory v (h ++ kept_rows rows) → IsReplySince v.geometry (length v.marks) h rows (e, r)
  pub stands : (h rows : List Row) → KeepsAdds st rows → RepresentsHistory v (h ++ kept_rows rows) → RepresentsHistory w ((h ++ kept_rows rows) ++ kept_rows ((e, r) ∷ []))
  pub keeps : (rows : List Row) → KeepsAdds st rows → KeepsAdds su (rows ++ (e, r) ∷ [])

-- the last standing add of a member is at a place of the list
pub record IsLastOf (st : List Entry) (m i : ℕ) : Type 0 where
  pub within : i < length st
  pub of_member : (d : Entry) → (slice_index_or st i d).member ≡ m
  pub none_later : own_entries m (drop (i + 1) st) ≡ []

-- a withdrawal's member has this standing add last: it is the sample that is withdrawn, from the floor on, and before the cursor and
-- the ring's length past the position, as each standing add is
pub record MayWithdraw (v : View) (e last : Entry) : Type 0 where
  pub member_in_range : e.member < length v.marks
  pub channel_in_range : e.channel < v.geometry.channels
  pub frame : last.frame ≡ e.frame
  pub channel : last.channel ≡ e.channel
  pub sample : last.sample ≡ e.sample
  pub from_floor : IsFrom (marks_at v e.member).floor e.frame e.channel
  pub before : e.frame < first_free (cursor_at v e.member) e.channel
  pub ahead : e.frame < v.position + v.geometry.frames
