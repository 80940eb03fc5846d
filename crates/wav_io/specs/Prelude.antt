-- The names that most proofs of this crate cite, passed on from one place. Declares nothing.
pub use Rattle.std.proofs.Common.{ap, append-nil, append_assoc, arith, Bool, cond, drop, eqb, Err, false, get_or, inl, inr, length, length-append, length-set}
pub use Rattle.std.proofs.Common.{List, ltb, None, of_z, Ok, Option, pos, refl, Result, rules, set, Some, subst, suc, sym, take, to_z, true, zero, ℕ, ℤ, []}
pub use Rattle.std.proofs.Common.{◌%◌, ◌*◌, ◌++◌, ◌+◌, ◌-◌, ◌/◌, ◌<◌, ◌^◌, ◌||◌, ◌∙◌, ◌∷◌, ◌≡◌, ◌≢◌, ◌≤◌, ◌⊎◌}
pub use Rattle.std.proofs.Math.Nat.{div-eq_of_lt, div-mul-le_self, mul-add-div_right, mul-div_cancel, mul-mod_left}
pub use Rattle.std.proofs.Math.Seq.{drop-append-add, take-append-add, take-append_seam}
pub use Rattle.std.proofs.lemmas.Bool.{cases_Bool, cases_lt, cond-false, cond-true, false_from_ne_true, le-leb, le-ltb, lt-leb, lt-ltb}
pub use Rattle.std.proofs.lemmas.Bool.Decides.{nat_tests}
pub use Rattle.std.proofs.lemmas.Int.{to_z-of_z}
pub use Rattle.std.proofs.lemmas.List.{drop-append-le, drop-drop, drop_all, drop_more, flat_map_more, length-drop, length-take, length-take-le, nil_from_length}
pub use Rattle.std.proofs.lemmas.List.{take-append-drop, take-append-le, take-take, take_all, take_at, take_more, take_more_set}
pub use Rattle.std.proofs.lemmas.List.Elements.{All-more, recursion_from_All}
pub use Rattle.std.proofs.lemmas.Nat.{div-add-mod', from_le_bytes-to_le_bytes_2, from_le_bytes-to_le_bytes_4, mod_below}
pub use Rattle.std.specs.Int.{cast_signed, cast_unsigned, from_le_bytes, to_le_bytes, w16, w32}
pub use Rattle.std.specs.List.{AllByRecursion, flat_map}
pub use Rattle.std.specs.Prelude.{All, codes, FitsSigned, IfOk, IfSome, is_some, IsOk, min, OnOk}
pub use Rattle.std.specs.Str.{bytes_eq}
pub use Rattle.wav_io.specs.declared.error.WavError.{WavError}
pub use Rattle.wav_io.specs.declared.error.WavError.TheVariants.{Bits, Channels, FormatTwice, Memory, NoFormat, NotRiff, NotWave, RateZero, ShortFormat}
pub use Rattle.wav_io.specs.declared.error.WavError.TheVariants.{TooLong}
pub use Rattle.wav_io.specs.declared.format.Depths.{Depths}
pub use Rattle.wav_io.specs.declared.format.Depths.TheVariants.{Sixteen, UpTo32}
pub use Rattle.wav_io.specs.declared.format.Format.{Format}
pub use Rattle.wav_io.specs.declared.place.Place.{Place}
pub use Rattle.wav_io.specs.declared.place.Place.TheVariants.{DataBody, FormatBody, Head, Opening, Refused}
pub use Rattle.wav_io.specs.declared.scan.Part.{Part}
pub use Rattle.wav_io.specs.declared.scan.Scan.{Scan}
pub use Rattle.wav_io.specs.Canonical.{canonical, HasFile, open_head, sample_bytes}
pub use Rattle.wav_io.specs.Chunks.{after_chunk, Chunk, first_chunk, size_at}
unfoldable pub use Rattle.wav_io.specs.Chunks.{chunks, chunks_in}
pub use Rattle.wav_io.specs.Fields.{number_at, samples_of_bytes, whole, whole_frames}
pub use Rattle.wav_io.specs.Formats.{IsFormat}
unfoldable pub use Rattle.wav_io.specs.Formats.{format_of, terms_of}
pub use Rattle.wav_io.specs.Frames.{IsCut}
pub use Rattle.wav_io.specs.Pieces.{bytes_after, chunk_of_size, GoesOn, HasSeen, IsSoundPlace, IsWalked, LeadsTo, with_front}
unfoldable pub use Rattle.wav_io.specs.Pieces.{found_from}
pub use Rattle.wav_io.specs.Readers.{error_of, IsOfHead, IsPart, Raw, raw_file, raw_frame, raw_to_come, raws, Reader, sound_to_come, wav_frame, with_bytes}
pub use Rattle.wav_io.specs.Readers.{with_samples}
unfoldable pub use Rattle.wav_io.specs.Readers.{rest_of}
pub use Rattle.wav_io.specs.Reading.{at_end, before_end, body_found, Contents, contents, decides, ended, Finding, finding_after, format_chunk, format_cut}
pub use Rattle.wav_io.specs.Reading.{goes_on, IsRefusal, most_bytes, Reads, refused, scan_of, sound_of, sounds, Verdict, verdict_of_format, wav_file}
unfoldable pub use Rattle.wav_io.specs.Reading.{found_in, verdict_of, within_limit}
pub use Rattle.wav_io.specs.Scans.{ContinuesData, FollowsData, GoesThrough, IsAfterData, IsScan, part_bytes, refusal_of, to_come, with_body}
pub use Rattle.wav_io.specs.Sound.{IsWholeSound, Sound}
