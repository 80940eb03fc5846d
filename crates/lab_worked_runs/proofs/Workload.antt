-- The worked run of a workload: the script and the files of a seed, its report, and its summary.
use Rattle.std.proofs.lemmas.Bool.Decides.{nat_tests}
use Rattle.std.proofs.Common.{◌≡◌, refl, arith, None}
use Rattle.std.specs.Prelude.{[], ◌∷◌, pos, Ok}
use Rattle.snd_base.specs.declared.geometry.Geometry.{Geometry}
use Rattle.lab_script.specs.Reading.{script_of}
use Rattle.lab_run.specs.LabRun.{Outcome, lab_text}
use Rattle.lab_make.specs.declared.summary.Summary.{Summary}
use Rattle.lab_make.specs.Files.{made_sounds}
use Rattle.lab_make.specs.Lines.{made_text}
use Rattle.lab_make.specs.Script.{made_body, made_script}
use Rattle.lab_make.specs.Summary.{IsSummaryOf, summary_text}
use Rattle.lab_worked_runs.proofs.Printouts.{printed, printout_by, printout_of, session_of, silence, stereo, text_of}

-- the card of a workload
made_ring : Geometry
made_ring = record stereo { frames = 1024; frames_least = omega arith; frames_most = omega arith }

-- the workload of the seed 7, with one client and one turn, is this script
made_text_script : script_of (made_text 1 1) ≡ Ok (made_script 1 1)
unfolding printout_of made_text
made_text_script = refl

made_outcome : Outcome
made_outcome = lab_text (session_of made_ring (made_sounds 7 1) (made_script 1 1)) None (made_body 1 1)

made_printout : printout_by (made_script 1 1) made_outcome ≡ printed
    ("0 c0 open = ok PREPARED -"
    ∷ "1 c0 write 65 = 65 RUNNING 0"
    ∷ "2 card play 64 = 64 RUNNING 64"
    ∷ "segment c0 0 64 65 0" ∷ "played 0 64" ∷ [])
    (silence 128) []
unfolding printout_of made_outcome made_ring
made_printout = refl

made_summary : Summary
made_summary =
    record { seed = 7; clients = 1; phases = 1; played = 64; segments = 1; laid = 130; xruns = 0; sum = pos 0 }

made_summary_is : IsSummaryOf (record { seed = 7; clients = 1; phases = 1 }) made_outcome.report made_outcome.played made_summary
unfolding printout_of made_outcome made_ring made_summary
made_summary_is = grind (arith, nat_tests)

made_summary_text : summary_text made_summary
    ≡ text_of (
    "made 7 1 1" ∷ "played 64" ∷ "segments 1" ∷ "laid 130" ∷ "xruns 0" ∷ "sum 0" ∷ [])
unfolding printout_of made_summary
made_summary_text = refl
