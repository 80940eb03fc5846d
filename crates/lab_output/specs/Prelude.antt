-- The names that most proofs of this crate cite, passed on from one place. Declares nothing.
pub use Rattle.std.proofs.Common.{add-one, ap, append_assoc, arith, Bool, cond, drop, false, get_or, inl, inr, length, length-append, List, map, None}
pub use Rattle.std.proofs.Common.{option_map, refl, rules, Some, subst, suc, sym, take, true, zero, ℕ, [], ◌++◌, ◌+◌, ◌-◌, ◌/◌, ◌<◌, ◌∙◌, ◌∷◌, ◌≡◌, ◌≢◌, ◌≤◌}
pub use Rattle.std.proofs.Math.ListN.{drop_of_length-le, length-set, set}
pub use Rattle.std.proofs.Math.Seq.{drop-cons, take-append_seam, take-length}
pub use Rattle.std.proofs.lemmas.Bool.{eqb-true}
pub use Rattle.std.proofs.lemmas.Bool.Decides.{nat_tests}
pub use Rattle.std.proofs.lemmas.List.{append-nil, append_cancel_left, append_cancel_right, drop-append-le, get_or-set_same, get_or_default, length-drop}
pub use Rattle.std.proofs.lemmas.List.{length-take, length-take-le, nil_from_length, take-take, take_all, take_min}
pub use Rattle.std.proofs.lemmas.List.Elements.{All-drop, All-from_recursion, All-same, All-take, recursion_from_All}
pub use Rattle.std.proofs.lemmas.Result.{err_from_is_err_and, on_err_weaker, on_ok_weaker}
pub use Rattle.std.specs.List.{AllByRecursion, AllPairs, flat_map}
pub use Rattle.std.specs.Option.{option_map_or}
pub use Rattle.std.specs.Prelude.{All, codes, Err, IfSome, IsErrAnd, IsErrOf, IsSome, IsSomeAnd, min, Ok, OnErr, OnOk, Option, Result, ℤ}
pub use Rattle.wav_io.specs.Canonical.{head, sample_bytes}
pub use Rattle.lab_shelf.specs.Files.{bytes_under, bytes_under-with_file_other, bytes_under-with_file_same, Files, IsPartAppended, IsPartFinished}
pub use Rattle.lab_shelf.specs.Files.{IsPartWritten, name_test-Decides, with_change, with_file, with_first_bytes}
pub use Rattle.lab_lines.specs.declared.row.Row.{Row}
pub use Rattle.lab_lines.specs.declared.script.CardLine.{CardLine}
pub use Rattle.lab_lines.specs.declared.script.ReaderLine.{ReaderLine}
pub use Rattle.lab_lines.specs.declared.script.Script.{Script}
pub use Rattle.lab_lines.specs.Limits.{IsCardLine, IsReaderLine, IsScript}
pub use Rattle.lab_report.specs.Text.{IsRowOf, row_line, tail_text}
pub use Rattle.lab_stop.specs.EffectLaws.{CountsNoFault-same, CountsNoFault-then, CountsNoFault-writes, OnlyWrites-after, OnlyWrites-done, OnlyWrites-memory}
pub use Rattle.lab_stop.specs.EffectLaws.{OnlyWrites-passed, OnlyWrites-written, PutsText-done, PutsText-memory, PutsText-named, PutsText-nothing}
pub use Rattle.lab_stop.specs.EffectLaws.{PutsText-passed}
pub use Rattle.lab_stop.specs.Writing.{OnErr-written, OnOk-written, written-no_write}
pub use Rattle.lab_output.specs.declared.file.OutputFile.{OutputFile}
pub use Rattle.lab_output.specs.Files.{AreApart, finished_file, finished_files, head_of, IsFormOf, IsOutputFile, MayHold, nothing, open_file, open_head_of}
pub use Rattle.lab_output.specs.Files.{output_files, played_name, recorded_file, recorded_name, unfinished_files, with_outputs}
pub use Rattle.lab_output.specs.Going.{AreLonger, closed_files, ClosedInPart, FitsWavFile, HasFile, HasHeadRoom, HasSamples, HaveFiles, HaveHeadRoom}
pub use Rattle.lab_output.specs.Going.{HaveSamples, IsGoingOn, IsPartOf, KeepSamples, opened_files, OpenedInPart}
pub use Rattle.lab_output.specs.GoingLaws.{AllForms, AreLonger-forms, Into, IsGoingOn-Changes, open_file-more, with_outputs-Changes, written-Changes}
pub use Rattle.lab_output.specs.Text.{rows_text, tail_from}
