-- The names that most proofs of this crate cite, passed on from one place. Declares nothing.
pub use Rattle.std.proofs.Common.{add-one, All, ap, append_assoc, arith, Bool, cond, Err, false, filter, get_or, inl, inr, length, List, refl, rules}
pub use Rattle.std.proofs.Common.{string_bytes, subst, suc, sym, take, tests, true, zero, ℕ, [], ◌++◌, ◌+◌, ◌<◌, ◌^◌, ◌∙◌, ◌∷◌, ◌≡◌, ◌⊎◌}
pub use Rattle.std.proofs.lemmas.List.{append-nil, take_all, take_more}
pub use Rattle.std.proofs.lemmas.List.Elements.{All-append, All-cons, All-nil, filter-append}
pub use Rattle.std.proofs.lemmas.Result.{err_from_is_err_and}
pub use Rattle.std.specs.Prelude.{IfOk, None, Ok, Option, option_map, Result, Some, unwrap_or}
pub use Rattle.text_words.specs.Lexing.{first_and_rest, lines_from}
pub use Rattle.lab_script.specs.declared.error.ScriptError.{ScriptError}
pub use Rattle.lab_script.specs.declared.error.ScriptWhy.{ScriptWhy}
pub use Rattle.lab_stop.specs.Causes.{Cause, cause, first_bytes}
pub use Rattle.lab_stop.specs.ReadLaws.{AnswersFrom-passed, IsSameShelf-reads, IsSameShelf-same, OnlyReads-done, OnlyReads-memory, OnlyReads-passed}
pub use Rattle.lab_refine.specs.declared.request.Ask.{Ask}
pub use Rattle.lab_refine.specs.declared.request.Request.{Request}
pub use Rattle.lab_refine.specs.Answers.{Answers, AreAnswers, chosen_line, IsAnswer, IsAppended, IsNarrowing, left_line}
pub use Rattle.lab_refine.specs.Grammar.{ask_of, IsAsk, slave_of}
pub use Rattle.lab_refine.specs.Reading.{on_line, Reads, Refuses, request_of_text, ◌>>=◌}
unfoldable pub use Rattle.lab_refine.specs.Reading.{asked_in, asks_of}
