-- The samples that a run leaves are whole frames, no more than a script may play.
use Rattle.run_laws.specs.Prelude.{ap, arith, length, List, mul-le-mul, None, Option, Some, subst, sym, ℕ, [], ◌*◌, ◌+◌, ◌<◌, ◌∙◌, ◌≡◌, ◌≤◌, mul-mod_left}
use Rattle.run_laws.specs.Prelude.{nat_tests, length-map-range_with_len, length-range_with_len, sum_by-take-le, get_or_from_slice_get, slice_get_within, Ok}
use Rattle.run_laws.specs.Prelude.{slice_get, slice_index_or, take, unwrap_or, ℤ, ◌%◌, identity, Sound, Item, CardLine, ReaderLine, Script, IsBoundWhere}
use Rattle.run_laws.specs.Prelude.{IsCardLine, IsReaderLine, first_frame, frames_played, phases_of, all_segments, bindings_of, captured_sample, entries_of}
use Rattle.run_laws.specs.Prelude.{mixed_at, outcome_of, report_of, IsReaderOpening, read_by, Reader, IsReached, no_reader, reader_at, Session, Setup, Stage}
use Rattle.run_laws.specs.Prelude.{recorded_from-at, recorded_from-size}
use Rattle.bindings.specs.Answers.{answer_of}
use Rattle.lab_run.proofs.ScriptWords.{stages-of_scripts}
use Rattle.run_laws.specs.Sizes.{AreWholeFrames, IsPlayed, IsRecorded, StagesHaveSizes}
use Rattle.run_laws.proofs.Captured.{reader_at-within, run-within}
use Rattle.run_laws.proofs.ReaderFrames.{frames-few}
use Rattle.run_laws.proofs.Recorded.{opening-at, samples-count}
use Rattle.run_laws.proofs.RowStages.{reached-reportable}
use Rattle.lab_lines.specs.Script as scripts

-- ---- the frames that were played

reached-few : (script : Script) (wavs : List Sound) (session : Session) (done others : List Item) (stage : Stage) → IsReached script wavs session done others stage
    → (report_of session stage).frames ≤ 4194304
reached-few script wavs session done others stage is =
    let after = stages-of_scripts script wavs session done others stage is in
    let at : stage.position ≡ first_frame script.card + frames_played (take stage.phases (phases_of script.body)) = after.position in
    let first : first_frame session.card ≡ first_frame script.card = ap first_frame is.session_is.card in
    let few : frames_played (take stage.phases (phases_of script.body)) ≤ frames_played (phases_of script.body) = sum_by-take-le scripts.played_in (phases_of script.body) stage.phases in
    let most : frames_played (phases_of script.body) ≤ 4194304 = is.script_is.frames in
    omega (arith, at, first, few, most)

-- whole frames
frames-whole : (channels frames : ℕ) (samples : List ℤ) → 1 ≤ channels → channels ≤ 8 → frames ≤ 4194304 → length samples ≡ frames * channels → AreWholeFrames channels samples
frames-whole channels frames samples some few_channels few is = record {
  some_channel = some;
  few_channels = few_channels;
  whole = ap (λ (n : ℕ). n % channels) is ∙ mul-mod_left frames channels;
  few =
      let most : frames * channels ≤ 4194304 * 8 = mul-le-mul {n₁ = frames} {m₁ = channels} {n₂ = 4194304} {m₂ = 8} few few_channels in
      omega (arith, most, is);
}

played-frames : (script : Script) (wavs : List Sound) (session : Session) (capture : Option Sound) (done others : List Item) (stage : Stage)
    → IsReached script wavs session done others stage → IsPlayed script (outcome_of session capture stage)
played-frames script wavs session capture done others stage is =
    let few = reached-few script wavs session done others stage is in
    let frames : ℕ = (report_of session stage).frames in
    let each : length (outcome_of session capture stage).played ≡ frames * script.card.channels =
    length-map-range_with_len (mixed_at session.card.channels (first_frame session.card) (entries_of session (all_segments stage.clients))) 0 (frames * session.card.channels)
    ∙ ap (λ (card : CardLine). frames * card.channels) is.session_is.card in
    record {
      first = ap first_frame is.session_is.card;
      few_frames = few;
      each = each;
      frames = frames-whole script.card.channels frames (outcome_of session capture stage).played is.script_is.card.channels.low is.script_is.card.channels.high few each;
    }

-- ---- the frames that were read

-- an open reader's bindings are those of its line
bound-size : (card : CardLine) (line : ReaderLine) (setup : Option Setup) (frames : ℕ) → IsReaderOpening card line setup
    → (m : ℕ) × (m ≤ frames) × (frames * length (bindings_of setup) ≡ m * length (read_by card line))
bound-size card line None frames is = (0, omega arith, omega arith)
bound-size card line (Some setup) frames is = (frames, omega arith, ap (λ (bindings : List ℕ). frames * length bindings) is.bindings)

-- bindings that are read bind 1 to 8 channels
read-some : (list : List ℕ) (channels : ℕ) → answer_of list channels ≡ Ok list → (1 ≤ length list) × (length list ≤ 8)
read-some list channels is = (grind (arith, nat_tests, is), grind (arith, nat_tests, is))

pub line-channels : (card : CardLine) (line : ReaderLine) → IsCardLine card → IsReaderLine card line → (1 ≤ length (read_by card line)) × (length (read_by card line) ≤ 8)
line-channels card line is line_is = by_bindings line.bindings line_is.bindings
  where
    by_bindings : (given : Option (List ℕ)) → IsBoundWhere card.channels given
        → (1 ≤ length (unwrap_or given (identity card.channels))) × (length (unwrap_or given (identity card.channels)) ≤ 8)
    by_bindings None bound =
        let low : 1 ≤ card.channels = is.channels.low in
        let high : card.channels ≤ 8 = is.channels.high in
        let size : length (identity card.channels) ≡ card.channels = length-range_with_len 0 card.channels in
        (omega (arith, low, size), omega (arith, high, size))
    by_bindings (Some list) bound = read-some list card.channels bound

recorded-frames : (script : Script) (wavs : List Sound) (session : Session) (capture : Option Sound) (done others : List Item) (stage : Stage)
    → IsReached script wavs session done others stage → (number : ℕ) (line : ReaderLine) → slice_get script.readers number ≡ Some line
    → IsRecorded script (outcome_of session capture stage) number line
recorded-frames script wavs session capture done others stage is number line there =
    let few = reached-few script wavs session done others stage is in
    let reportable = reached-reportable script wavs session done others stage is in
    let within : number < length script.readers = slice_get_within script.readers number line there in
    let is_line : slice_index_or script.readers number line ≡ line = get_or_from_slice_get script.readers number line line there in
    let all : length stage.readers ≡ length script.readers = reportable.all_readers in
    let channels = line-channels script.card line is.script_is.card (subst (IsReaderLine script.card) is_line (is.script_is.each_reader number line within)) in
    let reader : Reader = (reader_at session stage number).1 in
    let setup : Option Setup = slice_index_or session.readers number None in
    let opening : IsReaderOpening script.card line setup = opening-at script.card script.readers session.readers number line is.session_is.readers there in
    let inside = reader_at-within (first_frame session.card) session stage number (run-within session stage done is.may) in
    let below : first_frame session.card + length reader.frames ≤ stage.position =
    frames-few (first_frame session.card) stage.position reader inside.1 in
    let bound = bound-size script.card line setup (length reader.frames) opening in
    let size : length (slice_index_or (outcome_of session capture stage).recorded number []) ≡ bound.0 * length (read_by script.card line) =
    ap length (recorded_from-at session capture stage.readers number (no_reader session.ring) (omega (arith, within, all)))
    ∙ samples-count (captured_sample session capture) (bindings_of setup) reader.frames ∙ bound.2 in
    let fewer : bound.0 ≤ (report_of session stage).frames = let low : bound.0 ≤ length reader.frames = bound.1 in omega (arith, below, low) in
    record {
      frames = frames-whole (length (read_by script.card line)) bound.0 _ channels.0 channels.1 (omega (arith, fewer, few)) size;
      captured = subst (λ (n : ℕ). n ≤ (report_of session stage).frames * length (read_by script.card line)) (sym size)
          (mul-le-mul {n₁ = bound.0} {m₁ = length (read_by script.card line)} {n₂ = (report_of session stage).frames} {m₂ = length (read_by script.card line)} fewer (omega arith));
    }

pub stages-have_sizes : StagesHaveSizes
stages-have_sizes script wavs session capture done others stage is = record {
  played = played-frames script wavs session capture done others stage is;
  readers = recorded_from-size session capture 0 stage.readers ∙ (reached-reportable script wavs session done others stage is).all_readers;
  recorded = recorded-frames script wavs session capture done others stage is;
}
