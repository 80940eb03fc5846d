-- Worked runs at the limits: 64 clients, the last laps, a session with a quarter of the default card; and the words of the mix ring in them.
use Rattle.std.proofs.Common.{◌≡◌, ℕ, refl, arith, None}
use Rattle.std.specs.Prelude.{List, [], ◌∷◌, ◌++◌, map, replicate, ℤ, pos, negsuc, Ok}
use Rattle.std.specs.List.{range_with_len}
use Rattle.snd_base.specs.declared.geometry.Geometry.{Geometry}
use Rattle.lap_word.specs.Word.{count_of, lap_of, sum_of}
use Rattle.lab_script.specs.declared.error.ScriptWhy.TheVariants as why
use Rattle.lab_lines.specs.declared.line.Actor.TheVariants.{Client}
use Rattle.lab_lines.specs.declared.line.Item.{Item}
use Rattle.lab_lines.specs.declared.line.Item.TheVariants as item
use Rattle.lab_lines.specs.declared.line.Op.TheVariants as op
use Rattle.lab_lines.specs.declared.script.Share.TheVariants as share
use Rattle.lab_run.specs.LabRun.{Outcome, lab_text}
use Rattle.lab_run.specs.Stage.{Session}
use Rattle.lab_worked_runs.proofs.Printouts.{Shown, a_file, mono, printout_of, printouts_of, prints, refused, report_of, silence, stereo, text_of, worked_out}
use Rattle.lab_worked_runs.proofs.Sessions.{card, line, play, players, reports_of, segment, some}

-- 64 clients, each with 64 frames of the least sample
crowd : Session
crowd = players (card 1 64 share.Dmix) mono (replicate 64 (a_file 1 (replicate 64 (negsuc 32767)))) (replicate 64 (some (0 ∷ [])))

crowd_body : List Item
crowd_body =
    map (λ n. item.Opens 0 (Client n)) (range_with_len 0 64)
    ++ item.Phase (map (λ n. line (Client n) (op.Write 64)) (range_with_len 0 64)) ∷ play 128 ∷ []

crowd_outcome : Outcome
crowd_outcome = lab_text crowd None crowd_body

crowd_sum : (crowd_outcome.played ≡ silence 64 ++ replicate 64 (negsuc 32767))
    × (crowd_outcome.report.segments ≡ map (λ n. segment n 0 64 64 0) (range_with_len 0 64))
unfolding reports_of crowd_outcome crowd crowd_body
crowd_sum = (refl, refl)

-- a word of the mix ring: its lap, how many samples, and their sum
abbrev IsWord : ℕ → ℕ → ℕ → ℤ → Type 0
IsWord word lap count sum = (lap_of word ≡ lap) × (count_of word ≡ count) × (sum_of word ≡ sum)

-- just before, its word has 64 samples and their sum
crowd_word : IsWord 1080033280 0 64 (negsuc 2097151)
crowd_word = (refl, refl, refl)

-- the word of the samples 30000, 10000 and -20000, and words without samples in the first two laps
small_word : IsWord 58740256 0 3 (pos 20000)
small_word = (refl, refl, refl)

empty_word : IsWord 8388608 0 0 (pos 0)
empty_word = (refl, refl, refl)

next_empty_word : IsWord 4303355904 1 0 (pos 0)
next_empty_word = (refl, refl, refl)

-- a ring that was wound almost as often as a ring can be
high_ring : Geometry
high_ring = record mono { first_lap = 4294967293; first_lap_most = omega arith }

-- one lap is left to play, and not two
laps : List Shown
laps =
    prints high_ring [] None
    ("card channels 1 rate 48000 period 64 ring 256 lap 4294967293" ∷ "phase\ncard play 256\nend" ∷ [])
    ("1 card play 256 = 256 RUNNING 1099511627264" ∷ "played 1099511627008 256" ∷ [])
    (silence 256) []
    ∷ refused high_ring [] None
    ("card channels 1 rate 48000 period 64 ring 256 lap 4294967293" ∷ "phase\ncard play 256\nend" ∷ "phase\ncard play 256\nend" ∷ [])
    (record { line = 6; why = why.LapEnd })
    ∷ []

laps_printouts : printouts_of laps ≡ worked_out laps
unfolding printout_of laps high_ring
laps_printouts = refl

-- a quarter of the card by default: each number of frames is a fourth, since a ring of 8,192 frames is too large to be computed here
quarter_ring : Geometry
quarter_ring = record stereo { frames = 2048; frames_least = omega arith; frames_most = omega arith }

-- its client fills its buffer, waits for a free period, writes the rest of its file and drains
whole_session : List ℕ
whole_session = text_of (
    "card period 256 ring 2048\nclient music music.wav\nopen music"
    ∷ "phase\nmusic write 2048\nend"
    ∷ "phase\ncard play 256\nend"
    ∷ "phase\nmusic write 256\nend"
    ∷ "phase\ncard play 256\nend"
    ∷ "phase\nmusic write 256\nmusic drain\nend"
    ∷ "phase\ncard play 2048\nend"
    ∷ "phase\nmusic drain\nend"
    ∷ [])

whole_session_report : report_of quarter_ring (a_file 2 (silence 4608) ∷ []) whole_session ≡ Ok (text_of (
    "dmixlab 1"
    ∷ "0 music open = ok PREPARED -"
    ∷ "1 music write 2048 = 2048 RUNNING 0"
    ∷ "2 card play 256 = 256 RUNNING 256"
    ∷ "3 music write 256 = EAGAIN RUNNING 256"
    ∷ "4 card play 256 = 256 RUNNING 512"
    ∷ "5 music write 256 = 256 RUNNING 512"
    ∷ "5 music drain = EAGAIN DRAINING 512"
    ∷ "6 card play 2048 = 2048 RUNNING 2560"
    ∷ "7 music drain = ok SETUP 2560"
    ∷ "segment music 0 256 2304 0"
    ∷ "played 0 2560"
    ∷ "end"
    ∷ []))
unfolding report_of quarter_ring whole_session
whole_session_report = refl
