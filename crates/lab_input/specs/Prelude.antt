-- The names that most proofs of this crate cite, passed on from one place. Declares nothing.
pub use Rattle.std.proofs.Common.{add-one, ap, append-nil, append_assoc, arith, drop, drop-cons, false, get_or, inl, inr, leb, length, List, refl, subst, suc}
pub use Rattle.std.proofs.Common.{sym, take, true, ℕ, ℤ, [], ◌%◌, ◌*◌, ◌++◌, ◌+◌, ◌-◌, ◌<◌, ◌∙◌, ◌∷◌, ◌≡◌, ◌≤◌, ◌⊎◌}
pub use Rattle.std.proofs.lemmas.Bool.{cond-false, cond-true, false_from_ne_true, le-leb, lt-leb}
pub use Rattle.std.proofs.lemmas.Bool.Decides.{nat_tests}
pub use Rattle.std.proofs.lemmas.List.{drop_all, length-append, take-append-le}
pub use Rattle.std.specs.Global.{Vec}
pub use Rattle.std.specs.Option.{ForSome}
pub use Rattle.std.specs.Prelude.{Bool, Err, IfErr, IfSome, IsOk, IsTrue, None, Ok, OnOk, Option, Result, Some, ◌↔◌}
pub use Rattle.plug_chain.specs.Plugs.{Completes, Continues, HasTakenBytes, IsBeginning, known_of, plug_of, Stage}
pub use Rattle.wav_io.specs.declared.error.WavError.{WavError}
pub use Rattle.wav_io.specs.declared.error.WavError.TheVariants.{TooLong}
pub use Rattle.wav_io.specs.Readers.{error_of, IsOfHead, Raw, raw_file, raw_to_come, raws, Reader, sound_to_come, with_bytes, with_samples}
pub use Rattle.wav_io.specs.Reading.{before_end, body_found, Contents, contents, ended, Finding, format_cut, found_in, IsRefusal, most_bytes, refused, sounds}
pub use Rattle.wav_io.specs.Reading.{wav_file}
unfoldable pub use Rattle.wav_io.specs.Reading.{within_limit}
pub use Rattle.wav_io.specs.Sound.{Sound}
pub use Rattle.lab_shelf.specs.Files.{Files}
pub use Rattle.lab_lines.specs.declared.script.ClientLine.{ClientLine}
pub use Rattle.lab_stop.specs.declared.stop.Stop.{Stop}
pub use Rattle.lab_stop.specs.Causes.{Cause, content_in, fetched_from, first_bytes, piece_bytes, wav_refused, ◌>>=◌}
pub use Rattle.lab_stop.specs.Effects.{IsSameShelf, OnlyReads}
pub use Rattle.lab_stop.specs.ReadLaws.{AnswersFrom-passed, IsSameShelf-reads, IsSameShelf-same, IsSameShelf-then, OnlyReads-after, OnlyReads-done}
pub use Rattle.lab_stop.specs.ReadLaws.{OnlyReads-passed}
pub use Rattle.lab_stop.specs.Stops.{FetchFaults, IsCauseOf, IsScriptStop, IsWavStop, Misses, NamesWav}
pub use Rattle.lab_input.specs.declared.plug.PlugReader.{PlugReader}
pub use Rattle.lab_input.specs.declared.shape.Shape.{Shape}
pub use Rattle.lab_input.specs.declared.sound.FileReader.{FileReader}
pub use Rattle.lab_input.specs.Converting.{IsConverted, IsConverting, IsFed, IsSoFar}
pub use Rattle.lab_input.specs.Input.{as_script, capture_in, most_of_run, RunInput, sound_in, with_weight}
unfoldable pub use Rattle.lab_input.specs.Input.{input_in, script_in, sounds_in, wav_in}
pub use Rattle.lab_input.specs.Plug.{conversion_to, converted_file, converted_sound, IsShape, plug_file, shape_for, short_enough, sound_file, weight}
pub use Rattle.lab_input.specs.Sound.{IsAfter, IsPlainAfter, IsPlainOfFile}
