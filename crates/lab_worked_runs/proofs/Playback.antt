-- Worked runs of clients, from the script's text to the report's text and the played samples.
use Rattle.std.proofs.Common.{◌≡◌, refl, None}
use Rattle.std.specs.Prelude.{List, [], ◌∷◌, ◌++◌, replicate, pos, negsuc}
use Rattle.wav_io.specs.Canonical.{canonical}
use Rattle.lab_script.specs.declared.error.ScriptWhy.TheVariants as why
use Rattle.lab_worked_runs.proofs.Printouts.{Shown, a_file, mono, mono_card, printout_of, printouts_of, prints, refused, sequence, silence, stereo, stereo_card, worked_out}

playback : List Shown
playback =
    -- a client plays its file, one period after the position that it saw
    prints mono (a_file 1 (sequence 1 64) ∷ []) None
    (mono_card ∷ "client a a.wav\nopen a" ∷ "phase\na write 64\nend" ∷ "phase\ncard play 256\nend" ∷ [])
    ("0 a open = ok PREPARED -"
    ∷ "1 a write 64 = 64 RUNNING 0"
    ∷ "2 card play 256 = 256 RUNNING 256"
    ∷ "segment a 0 64 64 0" ∷ "played 0 256" ∷ [])
    (silence 64 ++ sequence 1 64 ++ silence 128) []
    -- a card plays nothing
    ∷ prints mono [] None
    (mono_card ∷ "phase\ncard play 0\nend" ∷ [])
    ("1 card play 0 = 0 RUNNING 0"
    ∷ "played 0 0" ∷ [])
    [] []
    -- where two clients' samples pass the range their sum is played as the range's end
    ∷ prints mono (a_file 1 (replicate 64 (pos 30000)) ∷ a_file 1 (replicate 64 (pos 10000)) ∷ []) None
    (mono_card ∷ "client a a.wav\nclient b b.wav\nopen a\nopen b" ∷ "phase\na write 64\nb write 64\nend"
    ∷ "phase\ncard play 128\nend" ∷ [])
    ("0 a open = ok PREPARED -"
    ∷ "0 b open = ok PREPARED -"
    ∷ "1 a write 64 = 64 RUNNING 0"
    ∷ "1 b write 64 = 64 RUNNING 0"
    ∷ "2 card play 128 = 128 RUNNING 128"
    ∷ "segment a 0 64 64 0" ∷ "segment b 0 64 64 0" ∷ "played 0 128" ∷ [])
    (silence 64 ++ replicate 64 (pos 32767)) []
    -- the sum is saturated once, after all samples: with a third client it is in the range again
    ∷ prints mono (a_file 1 (pos 30000 ∷ []) ∷ a_file 1 (pos 10000 ∷ []) ∷ a_file 1 (negsuc 19999 ∷ []) ∷ []) None
    (mono_card ∷ "client a a.wav\nclient b b.wav\nclient c c.wav\nopen a\nopen b\nopen c"
    ∷ "phase\na write 1\nb write 1\nc write 1\nend" ∷ "phase\ncard play 128\nend" ∷ [])
    ("0 a open = ok PREPARED -"
    ∷ "0 b open = ok PREPARED -"
    ∷ "0 c open = ok PREPARED -"
    ∷ "1 a write 1 = 1 RUNNING 0"
    ∷ "1 b write 1 = 1 RUNNING 0"
    ∷ "1 c write 1 = 1 RUNNING 0"
    ∷ "2 card play 128 = 128 RUNNING 128"
    ∷ "segment a 0 64 1 0" ∷ "segment b 0 64 1 0" ∷ "segment c 0 64 1 0" ∷ "played 0 128" ∷ [])
    (silence 64 ++ pos 20000 ∷ silence 63) []
    -- a write is accepted as far as the buffer has room, and placed as far as the ring has
    ∷ prints mono (a_file 1 (sequence 1 300) ∷ []) None
    (mono_card ∷ "client a a.wav\nopen a" ∷ "phase\na write 300\nend" ∷ [])
    ("0 a open = ok PREPARED -"
    ∷ "1 a write 300 = 256 RUNNING 0"
    ∷ "segment a 0 64 192 0" ∷ "played 0 0" ∷ [])
    [] []
    -- bindings play the file's first channel in the card's second one, and its second one in the card's first
    ∷ prints stereo (a_file 2 (pos 1 ∷ pos 10 ∷ pos 2 ∷ pos 20 ∷ []) ∷ []) None
    (stereo_card ∷ "client a a.wav bindings 1,0\nopen a" ∷ "phase\na write 2\nend" ∷ "phase\ncard play 128\nend" ∷ [])
    ("0 a open = ok PREPARED -"
    ∷ "1 a write 2 = 2 RUNNING 0"
    ∷ "2 card play 128 = 128 RUNNING 128"
    ∷ "segment a 0 64 2 0" ∷ "played 0 128" ∷ [])
    (silence 128 ++ pos 10 ∷ pos 1 ∷ pos 20 ∷ pos 2 ∷ silence 124) []
    -- two channels of a file can't play in one channel of the card
    ∷ refused stereo (a_file 2 (sequence 1 128) ∷ []) None
    (stereo_card ∷ "client a a.wav bindings 0,0" ∷ [])
    (record { line = 2; why = why.BindingTwice 0 })
    -- two clients write in one phase
    ∷ prints mono (a_file 1 (sequence 1 64) ∷ a_file 1 (replicate 64 (pos 100)) ∷ []) None
    (mono_card ∷ "client a a.wav\nclient b b.wav\nopen a\nopen b" ∷ "phase\na write 64\nb write 64\nend"
    ∷ "phase\ncard play 128\nend" ∷ [])
    ("0 a open = ok PREPARED -"
    ∷ "0 b open = ok PREPARED -"
    ∷ "1 a write 64 = 64 RUNNING 0"
    ∷ "1 b write 64 = 64 RUNNING 0"
    ∷ "2 card play 128 = 128 RUNNING 128"
    ∷ "segment a 0 64 64 0" ∷ "segment b 0 64 64 0" ∷ "played 0 128" ∷ [])
    (silence 64 ++ sequence 101 64) []
    -- whichever of two clients is first at a frame, it plays their sum
    ∷ prints mono (a_file 1 (sequence 1 64) ∷ a_file 1 (replicate 64 (pos 100)) ∷ []) None
    (mono_card ∷ "client a a.wav\nclient b b.wav\nopen a\nopen b" ∷ "phase\na write 1\nb write 2\nend"
    ∷ "phase\ncard play 128\nend" ∷ [])
    ("0 a open = ok PREPARED -"
    ∷ "0 b open = ok PREPARED -"
    ∷ "1 a write 1 = 1 RUNNING 0"
    ∷ "1 b write 2 = 2 RUNNING 0"
    ∷ "2 card play 128 = 128 RUNNING 128"
    ∷ "segment a 0 64 1 0" ∷ "segment b 0 64 2 0" ∷ "played 0 128" ∷ [])
    (silence 64 ++ pos 101 ∷ pos 100 ∷ silence 62) []
    -- a client is stopped between the two channels of a frame: what it placed is played, and the other client is as before
    ∷ prints stereo (a_file 2 (replicate 128 (pos 100)) ∷ a_file 2 (sequence 1 128) ∷ []) None
    (stereo_card ∷ "client a a.wav\nclient b b.wav\nopen a\nopen b" ∷ "phase\na die 3\na write 64\nend"
    ∷ "phase\nb write 64\nend" ∷ "phase\ncard play 128\nend" ∷ [])
    ("0 a open = ok PREPARED -"
    ∷ "0 b open = ok PREPARED -"
    ∷ "1 a die 3 = ok PREPARED -"
    ∷ "1 a write 64 = stopped RUNNING 0"
    ∷ "2 b write 64 = 64 RUNNING 0"
    ∷ "3 card play 128 = 128 RUNNING 128"
    ∷ "segment a 0 64 0 1" ∷ "segment b 0 64 64 0" ∷ "played 0 128" ∷ [])
    (silence 128 ++ pos 101 ∷ sequence 2 127) []
    -- a client that starts again begins after what it placed before, and that is played
    ∷ prints mono (a_file 1 (sequence 1 512) ∷ []) None
    (mono_card ∷ "client a a.wav\nopen a" ∷ "phase\na write 256\na drop\na prepare\na write 256\nend"
    ∷ "phase\ncard play 256\nend" ∷ "phase\na sync\nend" ∷ "phase\ncard play 256\nend" ∷ [])
    ("0 a open = ok PREPARED -"
    ∷ "1 a write 256 = 256 RUNNING 0"
    ∷ "1 a drop = ok SETUP 0"
    ∷ "1 a prepare = ok PREPARED 0"
    ∷ "1 a write 256 = 256 RUNNING 0"
    ∷ "2 card play 256 = 256 RUNNING 256"
    ∷ "3 a sync = ok RUNNING 256"
    ∷ "4 card play 256 = 256 RUNNING 512"
    ∷ "segment a 0 64 192 0" ∷ "segment a 256 256 256 0" ∷ "played 0 512" ∷ [])
    (silence 64 ++ sequence 1 192 ++ sequence 257 256) []
    -- what a client takes back isn't played
    ∷ prints mono (a_file 1 (sequence 1 64) ∷ []) None
    (mono_card ∷ "client a a.wav\nopen a" ∷ "phase\na write 64\nend" ∷ "phase\na rewind 32\nend"
    ∷ "phase\ncard play 256\nend" ∷ [])
    ("0 a open = ok PREPARED -"
    ∷ "1 a write 64 = 64 RUNNING 0"
    ∷ "2 a rewind 32 = 32 RUNNING 0"
    ∷ "3 card play 256 = 256 RUNNING 256"
    ∷ "segment a 0 64 32 0" ∷ "played 0 256" ∷ [])
    (silence 64 ++ sequence 1 32 ++ silence 160) []
    -- a client that pauses goes on after a gap
    ∷ prints mono (a_file 1 (sequence 1 512) ∷ []) None
    (mono_card ∷ "client a a.wav\nopen a" ∷ "phase\na write 256\na pause\nend" ∷ "phase\ncard play 256\nend"
    ∷ "phase\na resume\nend" ∷ "phase\ncard play 256\nend" ∷ [])
    ("0 a open = ok PREPARED -"
    ∷ "1 a write 256 = 256 RUNNING 0"
    ∷ "1 a pause = ok PAUSED 0"
    ∷ "2 card play 256 = 256 RUNNING 256"
    ∷ "3 a resume = ok RUNNING 256"
    ∷ "4 card play 256 = 256 RUNNING 512"
    ∷ "segment a 0 64 192 0" ∷ "segment a 192 320 64 0" ∷ "played 0 512" ∷ [])
    (silence 64 ++ sequence 1 192 ++ silence 64 ++ sequence 193 64 ++ silence 128) []
    ∷ []

playback_printouts : printouts_of playback ≡ worked_out playback
unfolding printout_of playback
playback_printouts = refl

-- the file of no samples is its head alone
no_client_file : canonical (a_file 1 []) ≡
    82 ∷ 73 ∷ 70 ∷ 70 ∷ 36 ∷ 0 ∷ 0 ∷ 0 ∷ 87 ∷ 65 ∷ 86 ∷ 69 ∷ 102 ∷ 109 ∷ 116 ∷ 32 ∷ 16 ∷ 0 ∷ 0 ∷ 0 ∷ 1 ∷ 0 ∷ 1 ∷ 0
    ∷ 128 ∷ 187 ∷ 0 ∷ 0 ∷ 0 ∷ 119 ∷ 1 ∷ 0 ∷ 2 ∷ 0 ∷ 16 ∷ 0 ∷ 100 ∷ 97 ∷ 116 ∷ 97 ∷ 0 ∷ 0 ∷ 0 ∷ 0 ∷ []
no_client_file = refl
