-- The names that most proofs of this crate cite, passed on from one place. Declares nothing.
pub use Rattle.std.proofs.Common.{add-one, add-zero, ap, append_assoc, arith, Bool, bytes_eq, codes, cond, drop, false, FitsSigned, get_or, inl, inr, is_none}
pub use Rattle.std.proofs.Common.{length, length-append, List, map, nat_le, nat_lt, None, Ok, refl, rules, Some, string_bytes, subst, suc, suc-add, sum_by, sym}
pub use Rattle.std.proofs.Common.{take, true, zero, zero-add, ℕ, ℤ, [], ◌&&◌, ◌*◌, ◌++◌, ◌+◌, ◌-◌, ◌<◌, ◌==◌, ◌^◌, ◌||◌, ◌∙◌, ◌∷◌, ◌≡◌, ◌≢◌, ◌≤◌}
pub use Rattle.std.proofs.lemmas.Bool.{and_parts, false≢true, le-leb, le-ltb, leb-true, lt-leb, lt-ltb, ltb-false, ne_eqb}
pub use Rattle.std.proofs.lemmas.Bool.Decides.{Decides-eqb, nat_tests, same_from_decides}
pub use Rattle.std.proofs.lemmas.Fmt.{decimal_injective, length-decimal-le}
pub use Rattle.std.proofs.lemmas.Grind.{flat_map-append}
pub use Rattle.std.proofs.lemmas.Int.{ints, to_z-of_z}
pub use Rattle.std.proofs.lemmas.List.{append-nil, append_cancel_left, append_cancel_right, take_all}
pub use Rattle.std.proofs.lemmas.List.Elements.{All-more, All-nil}
pub use Rattle.std.proofs.lemmas.List.FromFn.{get_or-map-range_with_len, length-map-range_with_len, map-range_with_len_more}
pub use Rattle.std.proofs.lemmas.List.Sums.{count_by_more_no, count_by_more_yes, fold_more, position_or_len_is}
pub use Rattle.std.proofs.lemmas.Result.{err_from_is_err_and, on_err_weaker, on_ok_weaker}
pub use Rattle.std.specs.Fmt.{decimal}
unfoldable pub use Rattle.std.specs.Fmt.{digits}
pub use Rattle.std.specs.List.{enumerate_from, flat_map, list_all, position, position_or_len, range_with_len}
pub use Rattle.std.specs.Option.{option_map}
pub use Rattle.std.specs.Prelude.{All, Err, IfOk, if◌then◌else◌, IsErrAnd, OnErr, OnOk, Option, Result, ◌%◌}
pub use Rattle.rand_pcg.proofs.LcgLemmas.{advance_zero}
pub use Rattle.rand_pcg.specs.Pcg.{multiplier_64}
pub use Rattle.wav_io.specs.Canonical.{canonical}
pub use Rattle.wav_io.specs.Reading.{most_bytes, wav_file}
pub use Rattle.wav_io.specs.Sound.{Sound}
pub use Rattle.lab_shelf.specs.Files.{bytes_under, bytes_under-with_file, bytes_under-with_file_other, bytes_under-with_file_same, Files, IsPartWritten}
pub use Rattle.lab_shelf.specs.Files.{with_file}
pub use Rattle.text_words.specs.Lexing.{line_text, lines_text, word_lines}
pub use Rattle.text_words.proofs.Decimals.{is_plain_word-decimal, number_of_word-decimal}
pub use Rattle.text_words.proofs.PlainLines.{is_plain_line, is_plain_word, lines_from-lines_text}
pub use Rattle.lab_lines.specs.declared.line.Actor.{Actor}
pub use Rattle.lab_lines.specs.declared.line.Actor.TheVariants.{Card, Client, Reader}
pub use Rattle.lab_lines.specs.declared.line.Item.{Item}
pub use Rattle.lab_lines.specs.declared.line.Line.{Line}
pub use Rattle.lab_lines.specs.declared.script.Script.{Script}
pub use Rattle.lab_lines.specs.Names.{is_file, is_name}
pub use Rattle.lab_script.specs.declared.error.ScriptError.{ScriptError}
pub use Rattle.lab_script.specs.Draft.{actor_named, card_alone, ends_lap, inside, is_beside, is_client, is_reader, keywords, or_else, State, unknown_inside}
pub use Rattle.lab_script.specs.Draft.{with_words}
unfoldable pub use Rattle.lab_script.specs.Draft.{border_of, card_of, client_of, with_client, with_end, with_line, with_open, with_phase}
pub use Rattle.lab_script.specs.Reading.{after, card_line, on_line, refusal_at, RefusesAt, script_at, script_of, script_of_lines}
pub use Rattle.lab_stop.specs.declared.stop.Stop.TheVariants.{Memory, Write}
pub use Rattle.lab_stop.specs.EffectLaws.{CountsNoFault-same, CountsNoFault-then, CountsNoFault-writes, OnlyWrites-after, OnlyWrites-done, OnlyWrites-memory}
pub use Rattle.lab_stop.specs.EffectLaws.{OnlyWrites-nothing, OnlyWrites-passed}
pub use Rattle.lab_make.specs.Files.{after_words, file_name, IsMadeSound, made_sound, made_sounds, next_sample, sound_from}
unfoldable pub use Rattle.lab_make.specs.Files.{generator_of}
pub use Rattle.lab_make.specs.Lines.{all_turn_lines, card_words, client_lines, client_name, client_words, frames_written, made_lines, open_lines, open_words}
pub use Rattle.lab_make.specs.Lines.{play_lines, turn_lines, write_lines, write_words}
unfoldable pub use Rattle.lab_make.specs.Lines.{made_text}
pub use Rattle.lab_make.specs.Script.{made_card, made_client, made_opening, made_script, turn_items, turn_line, write_line}
pub use Rattle.lab_make.specs.Stored.{IsReadBack, made_input, NamedFile, script_name, sound_files, StoredInPart, with_files, with_input, with_workload}
pub use Rattle.lab_make.specs.Summary.{is_pipe, words_laid, xrun_count}
pub use Rattle.lab_make.specs.Workload.{is_numeral, IsWorkload, number_between}
unfoldable pub use Rattle.lab_make.specs.Workload.{number_in}
