-- The words of a call, and which forms of them are listed.
use Rattle.std.specs.Prelude.{ℕ, ◌==◌, ◌&&◌, not, nat_lt, nat_le, if◌then◌else◌, Bool, List, [], ◌∷◌, ◌++◌, length, map, codes, Option, Some, None, Result, Ok, Err, ⊤}
use Rattle.std.specs.List.{list_all, list_any}
use Rattle.std.specs.Str.{bytes_eq, is_utf8}
use Rattle.std.specs.Global.{Vec}
use Rattle.lab_make.specs.declared.workload.Workload.{Workload}
use Rattle.lab_make.specs.declared.workload.WorkloadError.{WorkloadError}
use Rattle.lab_make.specs.Workload.{IsWorkload, workload_of}
use Rattle.lab_commands.specs.declared.words.Command.{Command}
use Rattle.lab_commands.specs.declared.words.Command.TheVariants as commands

-- what the words ask for: a run of a script with the output's name, a check of a script's run by its report and the output's name, answers to a text on a
-- parameter space, the device of a name in a configuration, a run of a workload that is made, the help text, or the version
pub data Form : Type 0 where
  run : List ℕ → List ℕ → Form
  check : List ℕ → List ℕ → List ℕ → Form
  refine : List ℕ → Form
  conf : List ℕ → List ℕ → Form
  make : Workload → Form
  help : Form
  version : Form

-- the bytes of words
abbrev pub texts : List (Vec ℕ) → List (List ℕ)
texts words = map (λ word. word.items) words

-- a word that can name a file: 1 to 4096 bytes of UTF-8, none of them zero
abbrev pub names_file : List ℕ → Bool
names_file word = nat_lt 0 (length word) && nat_le (length word) 4096 && is_utf8 word
    && not (list_any (λ b. b == 0) word)

-- the form of `run SCRIPT OUT`, whose two words name files
abbrev pub run_of : List ℕ → List ℕ → Option Form
run_of script out = if names_file script && names_file out then Some (run script out) else None

-- the form of `check SCRIPT REPORT OUT`, whose three words name files
abbrev pub check_of : List ℕ → List ℕ → List ℕ → Option Form
check_of script report out =
    if names_file script && names_file report && names_file out
    then Some (check script report out) else None

-- the form of `refine TEXT`, whose second word names a file
abbrev pub refine_of : List ℕ → Option Form
refine_of text = if names_file text then Some (refine text) else None

-- a visible ASCII character
abbrev pub is_visible : ℕ → Bool
is_visible b = nat_le 33 b && nat_le b 126

-- a word that can name a device: 1 to 64 visible ASCII characters
abbrev pub names_device : List ℕ → Bool
names_device word = nat_lt 0 (length word) && nat_le (length word) 64 && list_all is_visible word

-- the form of `conf FILE NAME`, whose words name a file and a device
abbrev pub conf_of : List ℕ → List ℕ → Option Form
conf_of file name = if names_file file && names_device name then Some (conf file name) else None

-- the form of `make SEED CLIENTS PHASES`, whose three words give a workload
abbrev pub made_of : Result Workload WorkloadError → Option Form
made_of (Ok workload) = Some (make workload)
made_of (Err why) = None

abbrev pub make_of : List ℕ → List ℕ → List ℕ → Option Form
make_of seed clients phases = made_of (workload_of seed clients phases)

-- the form of a single word
abbrev pub single_of : List ℕ → Option Form
single_of word = if bytes_eq word (codes "--help") then Some help
    else (if bytes_eq word (codes "--version") then Some version else None)

-- the form of some words, if it is listed
abbrev pub form_of : List (List ℕ) → Option Form
form_of [] = None
form_of (word ∷ []) = single_of word
form_of (word ∷ text ∷ []) = if bytes_eq word (codes "refine") then refine_of text else None
form_of (word ∷ second ∷ third ∷ []) =
    if bytes_eq word (codes "run") then run_of second third
    else (if bytes_eq word (codes "conf") then conf_of second third else None)
form_of (word ∷ second ∷ third ∷ fourth ∷ []) =
    if bytes_eq word (codes "make") then make_of second third fourth
    else (if bytes_eq word (codes "check") then check_of second third fourth else None)
form_of (word ∷ second ∷ third ∷ fourth ∷ more ∷ rest) = None

-- the form that a command has
abbrev pub form_seen : Option Command → Option Form
form_seen None = None
form_seen (Some (commands.Run script out)) = Some (run script.now out.now)
form_seen (Some (commands.Check script report out)) = Some (check script.now report.now out.now)
form_seen (Some (commands.Refine text)) = Some (refine text.now)
form_seen (Some (commands.Conf file name)) = Some (conf file.now name.now)
form_seen (Some (commands.Make workload)) = Some (make workload)
form_seen (Some commands.Help) = Some help
form_seen (Some commands.Version) = Some version

-- a workload that is to be made is within the limits of workloads
abbrev pub IsWithinLimits : Command → Type 0
IsWithinLimits (commands.Run script out) = ⊤
IsWithinLimits (commands.Check script report out) = ⊤
IsWithinLimits (commands.Refine text) = ⊤
IsWithinLimits (commands.Conf file name) = ⊤
IsWithinLimits (commands.Make workload) = IsWorkload workload
IsWithinLimits commands.Help = ⊤
IsWithinLimits commands.Version = ⊤

-- lines of text, each with its line feed
abbrev pub text_of_lines : List (List ℕ) → List ℕ
text_of_lines [] = []
text_of_lines (line ∷ lines) = line ++ 10 ∷ text_of_lines lines

-- what `--version` puts
abbrev pub version_text : List ℕ
version_text = text_of_lines (codes "dmixlab 0.1.0" ∷ [])

-- what `--help` puts; a long text, into which no proof but that of `help` looks
unfoldable pub help_text : List ℕ
help_text = text_of_lines (codes "usage: dmixlab run SCRIPT OUT"
    ∷ codes "       dmixlab check SCRIPT REPORT OUT"
    ∷ codes "       dmixlab refine TEXT"
    ∷ codes "       dmixlab conf FILE NAME"
    ∷ codes "       dmixlab make SEED CLIENTS PHASES"
    ∷ codes "       dmixlab --help"
    ∷ codes "       dmixlab --version"
    ∷ []
    ∷ codes "run plays the WAV files of a script's clients into one simulated card, which"
    ∷ codes "mixes them as ALSA's dmix does. It reads SCRIPT, the file that the card captures"
    ∷ codes "and the file of each client, stores what the card plays as OUT.wav and what each"
    ∷ codes "reader records as OUT.READER.wav, and prints a report. OUT is without an ending;"
    ∷ codes "files of these names are overwritten. WAV files are of 16-bit PCM; the file of a"
    ∷ codes "client with plug linear may have 8, 24 or 32 bits, and any rate and channels."
    ∷ []
    ∷ codes "check tests the files of a run, whoever made them: it reads SCRIPT and what that"
    ∷ codes "names as run does, the report in the file REPORT, OUT.wav and each"
    ∷ codes "OUT.READER.wav. The report must be one of the script, and the files hold, to the"
    ∷ codes "byte, what it says was played and recorded. It stores and prints nothing."
    ∷ []
    ∷ codes "refine narrows the hardware parameters that a card leaves to a client, as the"
    ∷ codes "lines of TEXT ask, and prints what is left of them."
    ∷ []
    ∷ codes "conf reads FILE, which is written as asound.conf is, and prints the type of its"
    ∷ codes "device pcm.NAME, the device's card as a script's card line, and its bindings."
    ∷ []
    ∷ codes "make stores WAV files of pseudorandom samples for CLIENTS clients, a script in"
    ∷ codes "which they write in PHASES turns, what the card plays of it (made.wav) and its"
    ∷ codes "report (made.report), and prints a summary. SEED is below 2^64, CLIENTS 1 to 64,"
    ∷ codes "PHASES 1 to 1000."
    ∷ []
    ∷ codes "Files are named from the folder in which the program runs. What is read may be a"
    ∷ codes "pipe or a FIFO, and what is stored may not."
    ∷ []
    ∷ codes "A script, in which # begins a comment and keys may be left out:"
    ∷ []
    ∷ codes "  card KEYS               first: channels N rate N period N ring N places N"
    ∷ codes "                          lap N capture FILE share dmix|dshare"
    ∷ codes "  client NAME FILE KEYS   a file to play: bindings N,N.. buffer N period N"
    ∷ codes "                          start N stop N|never lead N plug linear"
    ∷ codes "  reader NAME KEYS        a recording: a client's keys but for lead and plug"
    ∷ codes "  open NAME               opens a client or a reader; close NAME closes it"
    ∷ codes "  phase                   begins a phase, whose actors run at the same time:"
    ∷ codes "  card play N             plays N frames; card unplug unplugs the card"
    ∷ codes "  NAME write N            a client writes N frames of its file"
    ∷ codes "  NAME read N             a reader reads N captured frames"
    ∷ codes "  NAME CALL               start sync avail drop prepare pause die N; of a client"
    ∷ codes "                          also delay drain resume rewindable rewind N"
    ∷ codes "  end                     ends the phase"
    ∷ []
    ∷ codes "A text of refine, in which PARAM is access, format, sample_bits, frame_bits,"
    ∷ codes "channels, rate, period_time, period_size, period_bytes, periods, buffer_time,"
    ∷ codes "buffer_size or buffer_bytes:"
    ∷ []
    ∷ codes "  slave channels N rate N period N ring N      first: the card"
    ∷ codes "  set PARAM N             PARAM is N; also min, max and near PARAM N"
    ∷ codes "  integer PARAM           PARAM is a whole number"
    ∷ codes "  show PARAM              prints PARAM"
    ∷ codes "  choose                  prints what open takes"
    ∷ []
    ∷ codes "Example: the script my.script, with a mono file a.wav of 48000 Hz, and what"
    ∷ codes "dmixlab run my.script my prints."
    ∷ []
    ∷ codes "  card channels 1 rate 48000 period 64 ring 256"
    ∷ codes "  client a a.wav"
    ∷ codes "  open a"
    ∷ codes "  phase"
    ∷ codes "  a write 64"
    ∷ codes "  end"
    ∷ codes "  phase"
    ∷ codes "  card play 256"
    ∷ codes "  end"
    ∷ []
    ∷ codes "  dmixlab 1"
    ∷ codes "  0 a open = ok PREPARED -"
    ∷ codes "  1 a write 64 = 64 RUNNING 0"
    ∷ codes "  2 card play 256 = 256 RUNNING 256"
    ∷ codes "  segment a 0 64 64 0"
    ∷ codes "  played 0 256"
    ∷ codes "  end"
    ∷ []
    ∷ codes "A row is the phase, the line, its answer, the state after it, and the card's"
    ∷ codes "position that was seen. The segment says that from frame 0 of a.wav on 64 frames"
    ∷ codes "were mixed from the card's frame 64 on, and 0 channels of one frame more."
    ∷ []
    ∷ codes "Where the exit status isn't 0, a line on standard error says why:"
    ∷ []
    ∷ codes "  0                       all was done; only the report says which calls were"
    ∷ codes "                          refused, as the opening of a file of another rate"
    ∷ codes "  1  words                these words are no command"
    ∷ codes "  2  script line L: WHY   SCRIPT or TEXT is refused"
    ∷ codes "     conf line L: WHY     FILE or its device is refused"
    ∷ codes "  3  wav FILE: WHY        a WAV file is refused"
    ∷ codes "  4  read FILE            a file can't be read"
    ∷ codes "  5  write                a file or standard output can't be written"
    ∷ codes "  6  memory               memory ran out"
    ∷ codes "  7  no: line L           in check, line L of REPORT fails a test, or the file"
    ∷ codes "                          that it speaks of isn't what it says"
    ∷ []
    ∷ codes "The manual is docs/SCRIPTS.md: every key, call, answer and WHY, with what to do."
    ∷ codes "In short it is docs/dmixlab.1, which man -l docs/dmixlab.1 shows."
    ∷ [])
