-- The script of a workload, as its lines, each as its words, and as a text.
use Rattle.std.specs.Prelude.{ℕ, ◌+◌, ◌%◌, List, [], ◌∷◌, ◌++◌, map, codes}
use Rattle.std.specs.List.{flat_map, range_with_len}
use Rattle.std.specs.Fmt.{decimal}
use Rattle.text_words.specs.Lexing.{lines_text}
use Rattle.lab_make.specs.Files.{file_name}

-- the name of the client of this number, counted from 0
abbrev pub client_name : ℕ → List ℕ
client_name client = codes "c" ++ decimal client

-- how many frames a client writes in a turn, counted from 1: one period of the card, and 0 to 32 frames
abbrev pub frames_written : ℕ → ℕ → ℕ
frames_written turn client = 64 + (client + turn) % 33

-- the card's line
abbrev pub card_words : List (List ℕ)
card_words =
    codes "card" ∷ codes "channels" ∷ codes "2" ∷ codes "rate" ∷ codes "48000" ∷ codes "period" ∷ codes "64"
    ∷ codes "ring" ∷ codes "1024" ∷ codes "places" ∷ codes "64" ∷ []

-- the line of a client
abbrev pub client_words : ℕ → List (List ℕ)
client_words client = codes "client" ∷ client_name client ∷ file_name client ∷ []

-- the line that opens a client
abbrev pub open_words : ℕ → List (List ℕ)
open_words client = codes "open" ∷ client_name client ∷ []

-- the line with which a client writes in a turn
abbrev pub write_words : ℕ → ℕ → List (List ℕ)
write_words turn client = client_name client ∷ codes "write" ∷ decimal (frames_written turn client) ∷ []

-- the phase in which the card plays one period
abbrev pub play_lines : List (List (List ℕ))
play_lines = (codes "phase" ∷ []) ∷ (codes "card" ∷ codes "play" ∷ codes "64" ∷ []) ∷ (codes "end" ∷ []) ∷ []

-- the lines of so many clients
abbrev pub client_lines : ℕ → List (List (List ℕ))
client_lines clients = map client_words (range_with_len 0 clients)

-- the lines that open so many clients
abbrev pub open_lines : ℕ → List (List (List ℕ))
open_lines clients = map open_words (range_with_len 0 clients)

-- the lines with which so many clients write in a turn
abbrev pub write_lines : ℕ → ℕ → List (List (List ℕ))
write_lines turn clients = map (write_words turn) (range_with_len 0 clients)

-- the phases of a turn: all clients write, and then the card plays
abbrev pub turn_lines : ℕ → ℕ → List (List (List ℕ))
turn_lines clients turn = (codes "phase" ∷ []) ∷ write_lines turn clients ++ (codes "end" ∷ []) ∷ play_lines

-- the lines of so many turns
abbrev pub all_turn_lines : ℕ → ℕ → List (List (List ℕ))
all_turn_lines clients turns = flat_map (turn_lines clients) (range_with_len 1 turns)

-- the lines of a workload's script
abbrev pub made_lines : ℕ → ℕ → List (List (List ℕ))
made_lines clients turns = card_words ∷ client_lines clients ++ (open_lines clients ++ all_turn_lines clients turns)

-- the text of a workload's script
unfoldable pub made_text : ℕ → ℕ → List ℕ
made_text clients turns = lines_text (made_lines clients turns)
