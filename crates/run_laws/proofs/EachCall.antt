-- What the answer of each call of a client has, as a report names it, by what holds of what the parts of the call end with.
use Rattle.run_laws.specs.Prelude.{refl, ℕ, [], ◌-◌, ◌≡◌, min, Marks, Course, ends, Gives, Gives-then, Commit, PlaybackStream, Answered, avail_answer}
use Rattle.run_laws.specs.Prelude.{delay_answer, CallLeaves, CountLeaves, drain-done, drop-done, number-counted, pause-done, prepare-done, resume-done}
use Rattle.run_laws.specs.Prelude.{rewindable-counted, start-done, sync-done, write-counted, WriteLeaves, Sound, Op, Answer, Failed, call_answer, call_of}
use Rattle.run_laws.specs.Prelude.{count_answer, done_answer, frames_of}
use Rattle.snd_base.specs.declared.errors.PcmError.TheVariants as error
use Rattle.lab_lines.specs.declared.line.Op.TheVariants as op

-- of an answer without a number, and with one
pub done_answer-gives : (Done : Answered (Unit {0}) → Type 0) (Named : PlaybackStream × Answer → Type 0) (m : Course (Answered (Unit {0})))
    → ((x : Answered (Unit {0})) → Done x → Named (x.0, done_answer x.1)) → Gives Done m → Gives Named (call_answer done_answer m)
done_answer-gives Done Named m named gives = Gives-then Done Named m (λ done. ends (done.0, done_answer done.1)) gives named

pub count_answer-gives : (Counted : Answered ℕ → Type 0) (Named : PlaybackStream × Answer → Type 0) (m : Course (Answered ℕ))
    → ((x : Answered ℕ) → Counted x → Named (x.0, count_answer x.1)) → Gives Counted m → Gives Named (call_answer count_answer m)
count_answer-gives Counted Named m named gives = Gives-then Counted Named m (λ done. ends (done.0, count_answer done.1)) gives named

module _ {Fits : PlaybackStream → Type 0} {Placed : Commit → Type 0} {Done : Answered (Unit {0}) → Type 0} {Counted : Answered ℕ → Type 0}
    (leaves : CallLeaves Fits Placed Done) (counts : CountLeaves Fits Done Counted) (writes : (n : ℕ) → WriteLeaves Fits Placed Done Counted n) where
  -- the call that a line names, where this is known of a rewind
  pub call_of-gives : (Named : PlaybackStream × Answer → Type 0)
      → ((x : Answered (Unit {0})) → Done x → Named (x.0, done_answer x.1))
      → ((x : Answered ℕ) → Counted x → Named (x.0, count_answer x.1))
      → ((c : PlaybackStream) → Fits c → Named (c, Failed error.BadState))
      → (wav : Sound) (marks : Marks) (c : PlaybackStream) (asked : Op) → Fits c
      → ((n : ℕ) → asked ≡ op.Rewind n → Gives Named (call_of wav marks c (op.Rewind n)))
      → Gives Named (call_of wav marks c asked)
  call_of-gives Named done count none wav marks c asked fits rewinds = by_op asked rewinds
    where
      by_done : (m : Course (Answered (Unit {0}))) → Gives Done m → Gives Named (call_answer done_answer m)
      by_done m gives = done_answer-gives Done Named m done gives

      by_count : (m : Course (Answered ℕ)) → Gives Counted m → Gives Named (call_answer count_answer m)
      by_count m gives = count_answer-gives Counted Named m count gives

      by_op : (o : Op) → ((n : ℕ) → o ≡ op.Rewind n → Gives Named (call_of wav marks c (op.Rewind n))) → Gives Named (call_of wav marks c o)
      by_op (op.Write n) rewind = by_count _ (write-counted leaves (writes (min n (frames_of wav - c.fed))) c [] [] marks.cursor fits)
      by_op op.Start rewind = by_done _ (start-done leaves c [] marks.cursor fits)
      by_op op.Sync rewind = by_done _ (sync-done leaves c [] fits)
      by_op op.Avail rewind = by_count _ (number-counted leaves counts avail_answer c [] fits)
      by_op op.Delay rewind = by_count _ (number-counted leaves counts delay_answer c [] fits)
      by_op op.Drain rewind = by_done _ (drain-done leaves c [] marks.cursor fits)
      by_op op.Drop rewind = by_done _ (drop-done leaves c fits)
      by_op op.Prepare rewind = by_done _ (prepare-done leaves c fits)
      by_op op.Pause rewind = by_done _ (pause-done leaves c fits)
      by_op op.Resume rewind = by_done _ (resume-done leaves c [] marks.cursor fits)
      by_op op.Rewindable rewind = by_count _ (rewindable-counted leaves counts c marks.floor fits)
      by_op (op.Rewind n) rewind = rewind n refl
      by_op other rewind = none c fits
