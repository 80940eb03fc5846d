-- The names that most proofs of this crate cite, passed on from one place. Declares nothing.
pub use Rattle.std.proofs.Common.{ap, append_assoc, ap₂, arith, Bool, codes, cond, drop, Err, false, get_or, IfErr, IfOk, inl, inr, is_none, length}
pub use Rattle.std.proofs.Common.{length-append, List, map, min, nat_le, None, not, Ok, OnErr, OnOk, Option, refl, replicate, Result, rules, set, Some}
pub use Rattle.std.proofs.Common.{string_bytes, subst, suc, sym, take, true, zero, ℕ, [], ◌&&◌, ◌++◌, ◌+◌, ◌-◌, ◌<◌, ◌^◌, ◌||◌, ◌∙◌, ◌∷◌, ◌≡◌, ◌≤◌, ◌⊎◌}
pub use Rattle.std.proofs.Math.ListN.{get_or-append}
pub use Rattle.std.proofs.Math.Seq.{drop-length, get_or-append_seam, map-set_same, take-length}
pub use Rattle.std.proofs.lemmas.Bool.{and_parts, cases_Bool, cases_eq, cases_lt, cond-true, false_from_ne_true, false≢true, leb-true, ltb-true, not-true}
pub use Rattle.std.proofs.lemmas.Bool.{or_parts, or_right}
pub use Rattle.std.proofs.lemmas.Bool.Decides.{nat_tests, same_from_decides}
pub use Rattle.std.proofs.lemmas.Fmt.{decimal_injective}
pub use Rattle.std.proofs.lemmas.Grind.{get_or-set_at}
pub use Rattle.std.proofs.lemmas.List.{append-nil, drop-append-le, drop-drop, drop-map, drop-set-add, drop-take, drop_all, drop_at, get_or-drop, get_or-map}
pub use Rattle.std.proofs.lemmas.List.{get_or-replicate, get_or-set_other, get_or_default, get_or_past, get_or_read, length-drop, length-map, length-replicate}
pub use Rattle.std.proofs.lemmas.List.{length-reverse, length-set, length-take, length-take-le, map-append, map-set, nil_from_length, reverse-append}
pub use Rattle.std.proofs.lemmas.List.{take-append-drop, take-append-le, take-take, take_all, take_at, take_rest}
pub use Rattle.std.proofs.lemmas.Result.{err_from_is_err_and}
pub use Rattle.std.proofs.lemmas.Slice.Eq.{bytes_eq-Decides}
pub use Rattle.std.specs.Fmt.{decimal}
pub use Rattle.std.specs.List.{join_with_byte, list_any, position, slice_split}
pub use Rattle.std.specs.Prelude.{count_by, if◌then◌else◌, nat_lt, option_map, reverse, slice_index, vec_len, ◌==◌}
pub use Rattle.std.specs.Str.{bytes_eq}
pub use Rattle.text_words.proofs.Decimals.{bytes_eq-decimal, decimal_of-decimal}
pub use Rattle.asound_conf.specs.declared.bracket.Awaits.{Awaits}
pub use Rattle.asound_conf.specs.declared.cell.Cell.{Cell}
pub use Rattle.asound_conf.specs.declared.cell.Content.{Content}
pub use Rattle.asound_conf.specs.declared.cell.Content.TheVariants.{Group, Removed}
pub use Rattle.asound_conf.specs.declared.cell.Name.{Name}
pub use Rattle.asound_conf.specs.declared.cell.Span.{Span}
pub use Rattle.asound_conf.specs.declared.error.ConfWhy.{ConfWhy}
pub use Rattle.asound_conf.specs.declared.token.Mark.{Mark}
pub use Rattle.asound_conf.specs.Answer.{answer_view, Leads, Refuses}
pub use Rattle.asound_conf.specs.Device.{bindings_in, bound, count_of_names, number_of_node, value_more}
unfoldable pub use Rattle.asound_conf.specs.Device.{numbered_values}
pub use Rattle.asound_conf.specs.Grammar.{after_item, after_token, at_key, Bracket, close_to, end_of_text, in_group, last_line, open_group, put_key, put_text}
pub use Rattle.asound_conf.specs.Grammar.{start, State, step, value_place}
unfoldable pub use Rattle.asound_conf.specs.Grammar.{meaning}
pub use Rattle.asound_conf.specs.Items.{named_nodes}
pub use Rattle.asound_conf.specs.Node.{entries_in, node_of}
pub use Rattle.asound_conf.specs.Opening.{AreAround, bracket_of, IsHere, IsOpen, key_cause, or_cause, state_in}
pub use Rattle.asound_conf.specs.Parts.{part_in, parts_in, text_in}
pub use Rattle.asound_conf.specs.Place.{base, clashes, is_last, node_met, put_or_clash, put_there}
unfoldable pub use Rattle.asound_conf.specs.Place.{meets_text, node_at, put}
pub use Rattle.asound_conf.specs.Reading.{IsReading, Reads, RefusesText, rest_of_key, state_of}
pub use Rattle.asound_conf.specs.Rows.{Alters, ConfRow, Contents, entries_from, group_in_rows, group_of, is_in, IsAbsent, IsNode, IsOnlyIn, no_row, node}
pub use Rattle.asound_conf.specs.Rows.{row_at, with_row}
pub use Rattle.asound_conf.specs.Start.{AreAt, AreBefore, IsBefore, IsSuffix, IsTokenAt}
pub use Rattle.asound_conf.specs.Table.{bucket_at, bucket_of, cell_at, cell_row, content_of, content_with, contents_of, fits, HasBelow, hash_by, is_live}
pub use Rattle.asound_conf.specs.Table.{IsIndexed, IsLink, IsTable, lacks, name_in, new_row, no_cell, no_number, number_after, parent_of, removed_row, span_in}
pub use Rattle.asound_conf.specs.Table.{text_bytes, value_in}
pub use Rattle.asound_conf.specs.Token.{bad, end_at, ends_word, is_quote, is_skipped, is_word_byte, line_after, LineToken, mark, mark_of, quoted, quoted_end}
pub use Rattle.asound_conf.specs.Token.{quoted_size, quoted_token, token_of, word}
unfoldable pub use Rattle.asound_conf.specs.Token.{token_at, token_end, tokens}
pub use Rattle.asound_conf.specs.Tree.{empty, Entries, entry, get, group, group_in, has_node, is_text, text, Tree, without_name}
pub use Rattle.asound_conf.specs.Way.{IsKeyStep, IsWay}
