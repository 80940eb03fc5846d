-- The names that most proofs of this crate cite, passed on from one place. Declares nothing.
pub use Rattle.std.proofs.Common.{ap, append_assoc, arith, Bool, bytes_eq, codes, cond, Err, false, get_or, inl, inr, is_some, length, length-append, List, map}
pub use Rattle.std.proofs.Common.{nat_le, nat_lt, None, not, Ok, Option, option_map, refl, Result, Some, subst, suc, sym, true, ℕ, [], ◌%◌, ◌&&◌, ◌*◌, ◌++◌}
pub use Rattle.std.proofs.Common.{◌+◌, ◌/◌, ◌<◌, ◌==◌, ◌^◌, ◌||◌, ◌∙◌, ◌∷◌, ◌≡◌, ◌≢◌, ◌≤◌}
pub use Rattle.std.proofs.lemmas.Bool.{cases_Bool, leb-false, ltb-false, or_parts}
pub use Rattle.std.proofs.lemmas.Bool.Decides.{nat_tests, not_from_Decides}
pub use Rattle.std.proofs.lemmas.List.{append-nil, map-append}
pub use Rattle.std.proofs.lemmas.Slice.Eq.{bytes_eq-Decides}
pub use Rattle.std.specs.List.{All, AllPairs, list_any, position, position_or_len}
pub use Rattle.text_words.specs.Lexing.{first_and_rest, lines_from, words_between}
pub use Rattle.text_words.specs.Table.{row_of}
pub use Rattle.lab_lines.specs.declared.line.Actor.{Actor}
pub use Rattle.lab_lines.specs.declared.line.Actor.TheVariants.{Card, Client, Reader}
pub use Rattle.lab_lines.specs.declared.line.Op.{Op}
pub use Rattle.lab_lines.specs.declared.script.CardLine.{CardLine}
pub use Rattle.lab_lines.specs.declared.script.ClientLine.{ClientLine}
pub use Rattle.lab_lines.specs.declared.script.ReaderLine.{ReaderLine}
pub use Rattle.lab_lines.specs.Limits.{IsActor, IsAlone, IsBorder, IsBoundWhere, IsCardLine, IsClientLine, IsFileWhere, IsGoneAfter, IsIn, IsInWhere, IsItem}
pub use Rattle.lab_lines.specs.Limits.{IsLine, IsOpOf, IsReaderLine, IsScript, IsStopWhere}
pub use Rattle.lab_lines.specs.Names.{is_file, is_name, is_reserved}
pub use Rattle.lab_script.specs.declared.error.ScriptError.{ScriptError}
pub use Rattle.lab_script.specs.declared.error.ScriptWhy.{ScriptWhy}
pub use Rattle.lab_script.specs.declared.keys.Kind.{Kind}
pub use Rattle.lab_script.specs.declared.keys.Takes.{Takes}
pub use Rattle.lab_script.specs.Causes.{end_of, refuse_if, Refuses, some_or, word_and_rest, ◌>>=◌}
pub use Rattle.lab_script.specs.Draft.{actor_named, card_alone, divides, ends_lap, inside, is_beside, is_client, is_reader, keywords, line_at, or_else, outside}
pub use Rattle.lab_script.specs.Draft.{State, unknown_inside, unknown_outside, view, with_words}
unfoldable pub use Rattle.lab_script.specs.Draft.{border_of, card_of, client_of, reader_of, with_client, with_close, with_end, with_line, with_open, with_phase}
unfoldable pub use Rattle.lab_script.specs.Draft.{with_reader}
pub use Rattle.lab_script.specs.Keys.{bindings_where, byte_given, check_of, file_of, file_where, keys_from, keys_of, name_of, number_given, number_in}
pub use Rattle.lab_script.specs.Keys.{number_or_zero, number_within, numbers_from, small_given, small_where, stop_given, stop_of, value_of, word_after}
unfoldable pub use Rattle.lab_script.specs.Keys.{key_value}
pub use Rattle.lab_script.specs.Ops.{count_text, op_count, op_text, op_with, op_word, ops_of, with_count}
unfoldable pub use Rattle.lab_script.specs.Ops.{op_of}
pub use Rattle.lab_script.specs.Reading.{after, Answers, card_line, first_by, on_line, refusal_at, RefusesAt, script_at, script_at_end, script_of_lines}
