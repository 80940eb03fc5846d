-- The names that most proofs of this crate cite, passed on from one place. Declares nothing.
pub use Rattle.std.proofs.Common.{add-zero, ap, append_assoc, arith, Bool, cond, drop, false, filter, get_or, length, List, nat_le, None, not, one-add, Option}
pub use Rattle.std.proofs.Common.{refl, rules, Some, suc, sym, take, true, zero, ℕ, [], ◌&&◌, ◌*◌, ◌+◌, ◌-◌, ◌<◌, ◌==◌, ◌^◌, ◌||◌, ◌∙◌, ◌∷◌, ◌≡◌, ◌≢◌, ◌≤◌}
pub use Rattle.std.proofs.lemmas.Bool.{false≢true}
pub use Rattle.std.proofs.lemmas.Bool.Decides.{Decides-eqb, nat_tests, same_from_decides}
pub use Rattle.std.proofs.lemmas.List.{append-nil, drop_all, get_or-drop, length-drop, length-take, take_all}
pub use Rattle.std.proofs.lemmas.List.Splits.{slice_split-cons_yes, slice_split_at, slice_split_first, slice_split_none}
pub use Rattle.std.proofs.lemmas.List.Sums.{fails_before_first, passes_at_first}
pub use Rattle.std.specs.Char.{is_ascii_digit}
pub use Rattle.std.specs.List.{All, before_first, enumerate_from, join_with_byte, list_all, position, position_or_len, slice_split}
pub use Rattle.std.specs.Str.{all_ascii_digits, bytes_eq}
pub use Rattle.std.specs.Str.Parse.{digits_value}
pub use Rattle.text_words.specs.Lexing.{first_and_rest, is_blank, is_hash, is_of_word, is_word, line_text, lines_from, lines_text, numbered_lines, put_line}
pub use Rattle.text_words.specs.Lexing.{word_lines, words_between, words_in}
pub use Rattle.text_words.specs.Word.{decimal_of, is_comma, is_decimal, is_feed, is_number, lacks_leading_zero, number_of_word, within}
