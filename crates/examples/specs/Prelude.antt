-- The names that most proofs of this crate cite, passed on from one place. Declares nothing.
pub use Rattle.std.proofs.Common.{ap, append-nil, ap₂, arith, drop, Err, length, List, map, Ok, refl, Result, rules, SFits, subst, sym, to_z-of_z, w16, ℕ, []}
pub use Rattle.std.proofs.Common.{◌%◌, ◌++◌, ◌+◌, ◌∙◌, ◌∷◌, ◌≡◌, ◌≢◌}
pub use Rattle.std.specs.Prelude.{IsErrAnd, None, OnOk, ℤ, ◌+ℤ◌}
pub use Rattle.snd_base.specs.declared.geometry.Geometry.{Geometry}
pub use Rattle.snd_base.specs.declared.places.Segment.{Segment}
pub use Rattle.snd_base.specs.Places.{first_frame}
pub use Rattle.lap_word.specs.Clamp.{clamp_of}
pub use Rattle.mix_core.specs.declared.event.Taken.{Taken}
pub use Rattle.mix_core.specs.declared.port.Entry.{Entry}
pub use Rattle.mix_core.specs.History.{AreExact, AreInOrder, entry_row, Row, taken_words}
pub use Rattle.mix_core.specs.Laid.{an_add, AreAdds, total}
pub use Rattle.mix_core.specs.Turn.{AllContinue, continues, core_of, TurnLaid}
pub use Rattle.mix_core.specs.View.{View}
pub use Rattle.sum_table.specs.Seats.{member_of, SeatLaid, view_of}
pub use Rattle.dmix_client.specs.Calls.{segment_of}
pub use Rattle.wav_io.specs.Readers.{error_of, Reader, sound_to_come, with_samples}
pub use Rattle.wav_io.specs.Reading.{IsRefusal, Reads, wav_file}
pub use Rattle.examples.specs.Mixing.{AreSums, HasMixed, IsFresh, member_entries}
pub use Rattle.examples.specs.Pieces.{bytes_of_pieces}
