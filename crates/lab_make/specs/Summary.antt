-- The summary of a run of a workload, and its text.
use Rattle.std.specs.Prelude.{◌≡◌, ℕ, ◌+◌, ◌*◌, Bool, true, false, List, ◌++◌, length, codes, sum_by, count_by, fold, ℤ, pos, ◌+ℤ◌}
use Rattle.std.specs.Fmt.{decimal, signed_decimal}
use Rattle.snd_base.specs.declared.errors.PcmError.{PcmError}
use Rattle.snd_base.specs.declared.errors.PcmError.TheVariants.{Xrun}
use Rattle.snd_base.specs.declared.places.Segment.{Segment}
use Rattle.lab_lines.specs.declared.report.Report.{Report}
use Rattle.lab_lines.specs.declared.row.Answer.{Answer}
use Rattle.lab_lines.specs.declared.row.Answer.TheVariants.{Failed}
use Rattle.lab_lines.specs.declared.row.Row.{Row}
use Rattle.lab_make.specs.declared.summary.Summary.{Summary}
use Rattle.lab_make.specs.declared.workload.Workload.{Workload}

-- a refusal is an xrun
abbrev pub is_xrun : PcmError → Bool
is_xrun (Xrun why) = true
is_xrun other = false

-- an answer is EPIPE, whatever its cause
abbrev pub is_pipe : Answer → Bool
is_pipe (Failed error) = is_xrun error
is_pipe other = false

-- how many rows are answered EPIPE
abbrev pub xrun_count : List Row → ℕ
xrun_count rows = count_by (λ (row : Row). is_pipe row.answer) rows

-- how many words of a stereo card a segment filled: two for each whole frame, and the channels of its last one
abbrev pub words_laid : ℕ × Segment → ℕ
words_laid segment = 2 * segment.1.whole + segment.1.part

-- the sum of samples
abbrev pub sample_sum : List ℤ → ℤ
sample_sum samples = fold ◌+ℤ◌ (pos 0) samples

-- a summary is that of a workload, of a report and of the samples that the card played
pub record IsSummaryOf (workload : Workload) (report : Report) (played : List ℤ) (summary : Summary) : Type 0 where
  pub seed_is : summary.seed ≡ workload.seed
  pub clients_are : summary.clients ≡ workload.clients
  pub phases_are : summary.phases ≡ workload.phases
  pub played_is : summary.played ≡ report.frames
  pub segments_are : summary.segments ≡ length report.segments
  pub laid_is : summary.laid ≡ sum_by words_laid report.segments
  pub xruns_are : summary.xruns ≡ xrun_count report.rows
  pub sum_is : summary.sum ≡ sample_sum played

-- the text of a summary, a line for each number but those of the workload, which share one
abbrev pub summary_text : Summary → List ℕ
summary_text s =
    codes "made " ++ (decimal s.seed ++ (codes " " ++ (decimal s.clients ++ (codes " " ++ (decimal s.phases
    ++ (codes "\nplayed " ++ (decimal s.played ++ (codes "\nsegments " ++ (decimal s.segments
    ++ (codes "\nlaid " ++ (decimal s.laid ++ (codes "\nxruns " ++ (decimal s.xruns
    ++ (codes "\nsum " ++ (signed_decimal s.sum ++ codes "\n")))))))))))))))
