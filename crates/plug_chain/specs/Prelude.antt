-- The names that most proofs of this crate cite, passed on from one place. Declares nothing.
pub use Rattle.std.proofs.Common.{All, ap, append_assoc, arith, drop, Err, FitsSigned, get_or, inl, inr, length, length-append, length-drop, List, map, negsuc}
pub use Rattle.std.proofs.Common.{Ok, pos, refl, Result, rules, subst, suc, sym, take, zero, ℕ, ℤ, [], ◌%◌, ◌*◌, ◌++◌, ◌+◌, ◌-◌, ◌/◌, ◌<◌, ◌^◌, ◌∙◌, ◌∷◌, ◌≡◌}
pub use Rattle.std.proofs.Common.{◌≤◌}
pub use Rattle.std.proofs.Math.ListN.{length-set, set}
pub use Rattle.std.proofs.Math.Nat.{div-le_self, div-mul-le_self, mul-le-mul, mul-le-mul_left, mul-le-mul_right}
pub use Rattle.std.proofs.Math.Seq.{drop-cons, get_or-append_seam, take-length, take-suc-set}
pub use Rattle.std.proofs.lemmas.Bool.{cases_lt}
pub use Rattle.std.proofs.lemmas.Bool.Decides.{nat_tests}
pub use Rattle.std.proofs.lemmas.Int.{clamps, ints, to_z-of_z}
pub use Rattle.std.proofs.lemmas.List.{append-nil, drop-append-le, drop-drop, drop_at, get_or_append_left, get_or_default, length-replicate, nil_from_length}
pub use Rattle.std.proofs.lemmas.List.{take-append-drop, take-append-le, take-replicate, take_at, take_more}
pub use Rattle.std.proofs.lemmas.List.FromFn.{length-map-range_with_len, map-range_with_len_more}
pub use Rattle.std.proofs.lemmas.Nat.{div-add-mod', div-mul-add, div_below, le-div, mod-mul-add, mod_below}
pub use Rattle.std.proofs.lemmas.Result.{err_from_is_err_and}
pub use Rattle.std.specs.Int.{cast_signed, div_ceil, from_le_bytes, int_div_euclid, int_max, int_min, saturate_signed, w16, w32, w64}
pub use Rattle.std.specs.Int.RustNames.{unsigned_abs}
pub use Rattle.std.specs.List.{flat_map, range_with_len}
pub use Rattle.std.specs.Prelude.{IsErrAnd, min, OnOk, slice_index_or, slice_range, ◌*ℤ◌, ◌+ℤ◌, ◌-ℤ◌, ◌<ℤ◌, ◌≤ℤ◌}
pub use mir.Val.{of_z, to_z}
pub use Rattle.plug_chain.specs.declared.interpolation.Course.{Course}
pub use Rattle.plug_chain.specs.declared.wide.Wide.{Wide}
pub use Rattle.plug_chain.specs.Courses.{Advances, Ends, IsAdvance}
pub use Rattle.plug_chain.specs.Frames.{Conversion, first_frames, frame_bytes, frame_count, frame_from_bytes, samples_in}
unfoldable pub use Rattle.plug_chain.specs.Frames.{frames_of_bytes, rest_of}
pub use Rattle.plug_chain.specs.Growth.{Appends, Extends}
pub use Rattle.plug_chain.specs.Held.{part_bytes, samples_of}
pub use Rattle.plug_chain.specs.Plugs.{Completes, Continues, HasTakenBytes, IsStage, known_of, plug_of, Stage}
pub use Rattle.plug_chain.specs.Rates.{AreRates, frame_at, frame_between, IsCourse, IsRateAt, IsRise, IsUnderway, known_count, known_samples, on_line}
pub use Rattle.plug_chain.specs.Rates.{output_count, RatePair, resampled_samples, silence}
unfoldable pub use Rattle.plug_chain.specs.Rates.{output_frame, output_frames}
pub use Rattle.plug_chain.specs.Samples.{bytes_of, low_first, signed_number, wide_sample}
pub use Rattle.plug_chain.specs.Tables.{ChannelTable, IsSumOf, IsTable, IsWeight, row, usual_weight, weighted_sum}
unfoldable pub use Rattle.plug_chain.specs.Tables.{output_channel, output_samples}
pub use Rattle.plug_chain.specs.Views.{conversion_of, stage_of}
