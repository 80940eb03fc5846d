-- Worked runs of readers, from the script's text to the report's text and the recorded samples.
use Rattle.std.proofs.Common.{◌≡◌, refl, Some}
use Rattle.std.specs.Prelude.{List, [], ◌∷◌, ◌++◌, pos}
use Rattle.lab_worked_runs.proofs.Printouts.{Shown, a_file, mono, printout_of, printouts_of, prints, sequence, silence, stereo, worked_out}

capture : List Shown
capture =
    -- a reader that is too late loses frames, and what it recorded are two runs of captured frames
    prints mono [] (Some (a_file 1 (sequence 0 512)))
    ("card channels 1 rate 48000 period 64 ring 256 capture c.wav" ∷ "reader r\nopen r" ∷ "phase\nr start\nend"
    ∷ "phase\ncard play 64\nend" ∷ "phase\nr read 64\nend" ∷ "phase\ncard play 320\nend"
    ∷ "phase\nr read 64\nr prepare\nr read 64\nend" ∷ "phase\ncard play 64\nend" ∷ "phase\nr read 64\nend" ∷ [])
    ("0 r open = ok PREPARED -"
    ∷ "1 r start = ok RUNNING 0"
    ∷ "2 card play 64 = 64 RUNNING 64"
    ∷ "3 r read 64 = 64 RUNNING 64"
    ∷ "4 card play 320 = 320 RUNNING 384"
    ∷ "5 r read 64 = EPIPE avail 320 XRUN 384"
    ∷ "5 r prepare = ok PREPARED 384"
    ∷ "5 r read 64 = EAGAIN RUNNING 384"
    ∷ "6 card play 64 = 64 RUNNING 448"
    ∷ "7 r read 64 = 64 RUNNING 448"
    ∷ "run r 0 64" ∷ "run r 384 64" ∷ "played 0 448" ∷ [])
    (silence 448) ((sequence 0 64 ++ sequence 384 64) ∷ [])
    -- a reader that starts again begins at the position that it sees
    ∷ prints mono [] (Some (a_file 1 (sequence 0 512)))
    ("card channels 1 rate 48000 period 64 ring 256 capture c.wav" ∷ "reader r\nopen r" ∷ "phase\nr start\nend"
    ∷ "phase\ncard play 64\nend" ∷ "phase\nr read 64\nend" ∷ "phase\nr drop\nr prepare\nr start\nr read 1\nend" ∷ [])
    ("0 r open = ok PREPARED -"
    ∷ "1 r start = ok RUNNING 0"
    ∷ "2 card play 64 = 64 RUNNING 64"
    ∷ "3 r read 64 = 64 RUNNING 64"
    ∷ "4 r drop = ok SETUP 64"
    ∷ "4 r prepare = ok PREPARED 64"
    ∷ "4 r start = ok RUNNING 64"
    ∷ "4 r read 1 = EAGAIN RUNNING 64"
    ∷ "run r 0 64" ∷ "played 0 64" ∷ [])
    (silence 64) (sequence 0 64 ∷ [])
    -- bindings record the card's second channel in the file's first one; past its end the capture file is silent
    ∷ prints stereo [] (Some (a_file 2 (pos 1 ∷ pos 10 ∷ pos 2 ∷ pos 20 ∷ [])))
    ("card channels 2 rate 48000 period 64 ring 256 capture c.wav" ∷ "reader r bindings 1,0\nopen r" ∷ "phase\nr start\nend"
    ∷ "phase\ncard play 64\nend" ∷ "phase\nr read 3\nend" ∷ [])
    ("0 r open = ok PREPARED -"
    ∷ "1 r start = ok RUNNING 0"
    ∷ "2 card play 64 = 64 RUNNING 64"
    ∷ "3 r read 3 = 3 RUNNING 64"
    ∷ "run r 0 3" ∷ "played 0 64" ∷ [])
    (silence 128) ((pos 10 ∷ pos 1 ∷ pos 20 ∷ pos 2 ∷ silence 2) ∷ [])
    ∷ []

capture_printouts : printouts_of capture ≡ worked_out capture
unfolding printout_of capture
capture_printouts = refl
