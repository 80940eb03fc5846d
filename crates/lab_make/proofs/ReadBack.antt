-- What is stored of a workload is what a run of it reads.
use Rattle.lab_make.specs.Prelude.{ap, arith, Bool, codes, drop, false, get_or, inl, inr, length, List, map, nat_lt, None, Ok, refl, Some, subst, suc, take}
use Rattle.lab_make.specs.Prelude.{true, zero, ℕ, [], ◌*◌, ◌++◌, ◌+◌, ◌<◌, ◌^◌, ◌∙◌, ◌∷◌, ◌≡◌, ◌≢◌, ◌≤◌, ltb-false, nat_tests, decimal_injective}
use Rattle.lab_make.specs.Prelude.{append_cancel_left, append_cancel_right, take_all, get_or-map-range_with_len, length-map-range_with_len, decimal}
use Rattle.lab_make.specs.Prelude.{range_with_len, option_map, All, Err, if◌then◌else◌, Option, Result, canonical, Sound, bytes_under, bytes_under-with_file}
use Rattle.lab_make.specs.Prelude.{bytes_under-with_file_other, bytes_under-with_file_same, Files, with_file, Script, ScriptError, script_of, file_name}
use Rattle.lab_make.specs.Prelude.{IsMadeSound, made_sound, made_sounds, made_text, made_client, made_script, IsReadBack, made_input, script_name, sound_files}
use Rattle.lab_make.specs.Prelude.{with_files, with_workload, IsWorkload}
use Rattle.lab_lines.specs.declared.script.CardLine.{CardLine}
use Rattle.lab_stop.specs.Causes.{Cause, bytes_or_cause, ◌>>=◌}
use Rattle.lab_input.specs.Input.{RunInput, as_script, capture_in, input_in, most_of_run, script_in, sound_in, sounds_in, wav_in}
use Rattle.lab_make.specs.declared.workload.Workload.{Workload}
use Rattle.lab_make.proofs.SoundSizes.{length-made}

abbrev run_input : Script → Option Sound → List Sound → RunInput
run_input script capture sounds = record { script = script; capture = capture; sounds = sounds }

-- ---- the script

-- a text that spells a script isn't too long
short_if : (long : Bool) (n : ℕ) (e : ScriptError) (r : Result Script ScriptError) (script : Script) → nat_lt 1048576 n ≡ long
    → (if long then Err e else r) ≡ Ok script → n ≤ 1048576
short_if true n e r script test is = absurd cc
short_if false n e r script test is = ltb-false 1048576 n test

short : (text : List ℕ) (script : Script) → script_of text ≡ Ok script → length text ≤ 1048576
short text script is = short_if (nat_lt 1048576 (length text)) (length text) _ _ script refl is

-- a text that is held and spells a script is read as that script
script_in-spelled : (files : Files) (name text : List ℕ) (script : Script) → bytes_under files name ≡ Some text → script_of text ≡ Ok script → script_in files name ≡ Ok script
unfolding script_in
script_in-spelled files name text script is spelled =
    let few = short text script spelled in
    let whole : take 1048577 text ≡ text = take_all 1048577 text (omega (arith, few)) in
    ap (λ (content : Option (List ℕ)). bytes_or_cause name (option_map (λ (c : List ℕ). take 1048577 (drop 0 c)) content) >>= λ (t : List ℕ). as_script (script_of t)) is
    ∙ (ap (λ (t : List ℕ). as_script (script_of t)) whole ∙ ap as_script spelled)

-- ---- the clients' files

-- two clients' files have one name only where they are one
file_name-one : (k n : ℕ) → k < 2 ^ 64 → n < 2 ^ 64 → file_name k ≡ file_name n → k ≡ n
file_name-one k n few less same =
    decimal_injective k n few less
    (append_cancel_right (decimal k) (decimal n) (codes ".wav")
    (append_cancel_left (codes "made-") (decimal k ++ codes ".wav") (decimal n ++ codes ".wav") same))

-- no client's file has the script's name
not-script : (k : ℕ) → file_name k ≢ script_name
not-script k e = absurd (let n : 45 ≡ 46 = ap (λ (l : List ℕ). get_or l 4 0) e in cc)

-- a client's file that is held stays held where another client's is stored
kept-once : (seed k n : ℕ) (files : Files) → k < 2 ^ 64 → n < 2 ^ 64
    → bytes_under files (file_name k) ≡ Some (canonical (made_sound seed k))
    → bytes_under (with_file files (file_name n) (canonical (made_sound seed n))) (file_name k) ≡ Some (canonical (made_sound seed k))
kept-once seed k n files few less is =
    elim (bytes_under-with_file files (file_name n) (canonical (made_sound seed n)) (file_name k)) [
      | inl same ↦
          subst
          (λ (j : ℕ). bytes_under (with_file files (file_name j) (canonical (made_sound seed j))) (file_name k) ≡ Some (canonical (made_sound seed k)))
          (file_name-one k n few less same) (bytes_under-with_file_same files (file_name k) (canonical (made_sound seed k)))
      | inr other ↦ other ∙ is
    ]

-- it stays held where those of more clients are stored
kept : (seed k first count : ℕ) (files : Files) → k < 2 ^ 64 → first + count < 2 ^ 64
    → bytes_under files (file_name k) ≡ Some (canonical (made_sound seed k))
    → bytes_under (with_files (sound_files first (map (made_sound seed) (range_with_len first count))) files) (file_name k) ≡ Some (canonical (made_sound seed k))
kept seed k first zero files few less is = is
kept seed k first (suc count) files few less is =
    kept seed k (first + 1) count (with_file files (file_name first) (canonical (made_sound seed first))) few (omega (arith, less))
    (kept-once seed k first files few (omega (arith, less)) is)

-- each client's file is held once all are stored
bytes_under-with_files : (seed first count j : ℕ) (files : Files) → j < count → first + count < 2 ^ 64
    → bytes_under (with_files (sound_files first (map (made_sound seed) (range_with_len first count))) files) (file_name (first + j))
    ≡ Some (canonical (made_sound seed (first + j)))
bytes_under-with_files seed first zero j files inside less = absurd (omega (arith, inside))
bytes_under-with_files seed first (suc count) zero files inside less =
    let files_then = with_file files (file_name first) (canonical (made_sound seed first)) in
    subst
    (λ (i : ℕ). bytes_under (with_files (sound_files (first + 1) (map (made_sound seed) (range_with_len (first + 1) count))) files_then) (file_name i)
    ≡ Some (canonical (made_sound seed i)))
    (omega arith)
    (kept seed first (first + 1) count files_then (omega (arith, less)) (omega (arith, less))
    (bytes_under-with_file_same files (file_name first) (canonical (made_sound seed first))))
bytes_under-with_files seed first (suc count) (suc j) files inside less =
    let files_then = with_file files (file_name first) (canonical (made_sound seed first)) in
    subst
    (λ (i : ℕ). bytes_under (with_files (sound_files (first + 1) (map (made_sound seed) (range_with_len (first + 1) count))) files_then) (file_name i)
    ≡ Some (canonical (made_sound seed i)))
    (omega arith)
    (bytes_under-with_files seed (first + 1) count j files_then (omega (arith, inside)) (omega (arith, less)))

-- so it is once the script is stored as well
bytes_under-with_workload : (w : Workload) (k : ℕ) (files : Files) → k < w.clients → w.clients ≤ 64
    → bytes_under (with_workload w files) (file_name k) ≡ Some (canonical (made_sound w.seed k))
bytes_under-with_workload w k files inside few =
    let clients = sound_files 0 (made_sounds w.seed w.clients) in
    bytes_under-with_file_other (with_files clients files) script_name (made_text w.clients w.phases) (file_name k) (not-script k)
    ∙ subst (λ (i : ℕ). bytes_under (with_files clients files) (file_name i) ≡ Some (canonical (made_sound w.seed i))) (omega arith)
    (bytes_under-with_files w.seed 0 w.clients k files inside (omega (arith, few)))

-- ---- what is read of them

-- a file is held that is read as its sound
pub record IsReadable (files : Files) (name : List ℕ) (sound : Sound) : Type 0 where
  pub is_held : bytes_under files name ≡ Some (canonical sound)
  pub back : IsReadBack sound
  pub size : length (canonical sound) ≡ 16428

-- the sound in it, where the files before it leave room
sound_in-readable : (files : Files) (total : ℕ) (name : List ℕ) (sound : Sound) → IsReadable files name sound → total + 16428 ≤ most_of_run
    → sound_in files total None name ≡ Ok (sound, total + 16428)
unfolding sound_in wav_in
sound_in-readable files total name sound is room = grind (arith, nat_tests)

-- the sounds of all clients' files
sounds_in-readable : (files : Files) (card : CardLine) (seed first count total : ℕ)
    → ((j : ℕ) → j < count → IsReadable files (file_name (first + j)) (made_sound seed (first + j))) → total + count * 16428 ≤ most_of_run
    → sounds_in files total card (map made_client (range_with_len first count)) ≡ Ok (map (made_sound seed) (range_with_len first count))
unfolding sounds_in
sounds_in-readable files card seed first zero total are room = refl
sounds_in-readable files card seed first (suc count) total are room =
    let own : IsReadable files (file_name first) (made_sound seed first) =
    subst (λ (k : ℕ). IsReadable files (file_name k) (made_sound seed k)) (omega arith) (are 0 (omega arith)) in
    let next : (j : ℕ) → j < count → IsReadable files (file_name (first + 1 + j)) (made_sound seed (first + 1 + j)) =
    λ j inside. subst (λ (k : ℕ). IsReadable files (file_name k) (made_sound seed k)) (omega arith) (are (suc j) (omega (arith, inside))) in
    ap
    (λ (r : Result (Sound × ℕ) Cause). r >>= λ (read : Sound × ℕ). sounds_in files read.1 card (map made_client (range_with_len (first + 1) count)) >>= λ (sounds : List Sound). Ok (read.0 ∷ sounds))
    (sound_in-readable files total (file_name first) (made_sound seed first) own (omega (arith, room)))
    ∙ ap (λ (r : Result (List Sound) Cause). r >>= λ (sounds : List Sound). Ok (made_sound seed first ∷ sounds))
    (sounds_in-readable files card seed (first + 1) count (total + 16428) next (omega (arith, room)))

-- what holds of all sounds of a workload holds of each
of-client : (P : Sound → Type 0) (seed n j : ℕ) → All P (made_sounds seed n) → j < n → P (made_sound seed (0 + j))
of-client P seed n j all inside =
    subst P (get_or-map-range_with_len (made_sound seed) 0 n j (0 + j) (made_sound seed 0) inside refl)
    (all j (made_sound seed 0) (let len = length-map-range_with_len (made_sound seed) 0 n in omega (arith, inside, len)))

-- what `run made.script made` reads where a workload is stored
pub input-made : (w : Workload) → IsWorkload w → script_of (made_text w.clients w.phases) ≡ Ok (made_script w.clients w.phases)
    → All IsMadeSound (made_sounds w.seed w.clients) → All IsReadBack (made_sounds w.seed w.clients) → (files : Files)
    → input_in (with_workload w files) script_name ≡ Ok (made_input w)
unfolding input_in capture_in
input-made w is spelled made back files =
    let all : Files = with_workload w files in
    let script : Script = made_script w.clients w.phases in
    let readable : (j : ℕ) → j < w.clients → IsReadable all (file_name (0 + j)) (made_sound w.seed (0 + j)) = λ j inside. record {
      is_held = subst (λ (k : ℕ). bytes_under all (file_name k) ≡ Some (canonical (made_sound w.seed k))) (omega arith) (bytes_under-with_workload w j files inside is.few_clients);
      back = of-client IsReadBack w.seed w.clients j back inside;
      size = length-made (made_sound w.seed (0 + j)) (of-client IsMadeSound w.seed w.clients j made inside);
    } in
    ap
    (λ (r : Result Script Cause). r >>= λ (s : Script). capture_in all s.card.capture >>= λ (capture : Option Sound × ℕ). sounds_in all capture.1 s.card s.clients >>= λ (sounds : List Sound). Ok (run_input s capture.0 sounds))
    (script_in-spelled all script_name (made_text w.clients w.phases) script
    (bytes_under-with_file_same (with_files (sound_files 0 (made_sounds w.seed w.clients)) files) script_name (made_text w.clients w.phases)) spelled)
    ∙ ap (λ (r : Result (List Sound) Cause). r >>= λ (sounds : List Sound). Ok (run_input script None sounds))
    (sounds_in-readable all script.card w.seed 0 w.clients 0 readable (let few = is.few_clients in omega (arith, few)))
