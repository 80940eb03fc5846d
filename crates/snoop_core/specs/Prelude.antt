-- The names that most proofs of this crate cite, passed on from one place. Declares nothing.
pub use Rattle.std.proofs.Common.{All, ap, append_assoc, arith, get_or, inl, inr, length, List, pos, refl, replicate, rules, set, Some, subst, suc, sym, take}
pub use Rattle.std.proofs.Common.{zero, ℕ, ℤ, [], ◌*◌, ◌++◌, ◌+◌, ◌<◌, ◌∙◌, ◌∷◌, ◌≡◌, ◌≢◌, ◌≤◌}
pub use Rattle.std.proofs.lemmas.Bool.Decides.{nat_tests}
pub use Rattle.std.proofs.lemmas.Int.{to_z-of_z}
pub use Rattle.std.proofs.lemmas.List.{get_or-set_other, get_or-set_same, length-set, length-take, take_more}
pub use mir.Syntax.{w16}
pub use mir.Val.{SFits}
pub use Rattle.snd_base.specs.declared.geometry.Geometry.{Geometry}
pub use Rattle.snd_base.specs.declared.places.Cursor.{Cursor}
pub use Rattle.snd_base.specs.Places.{cursor_after, end_frame, first_frame, first_free, lap, word_index}
pub use Rattle.mix_core.specs.declared.gate.Pass.TheVariants.{Go, Stop}
pub use Rattle.mix_core.specs.declared.gate.StepKind.TheVariants.{Look}
pub use Rattle.snoop_core.specs.Ring.{after_samples, ArePartStored, HoldsSamples, IsSampleStored, IsSoundRing, RingView, word_in}
pub use Rattle.snoop_core.specs.Stored.{IsCaptured, next_after_stored, sample_at}
pub use Rattle.snoop_core.specs.StoredLaws.{by_laps, BySlots, HaveLaps-written, HoldLast-written, IsByLaps, IsWritten, next_after_stored-more, own_sample}
pub use Rattle.snoop_core.specs.Turn.{core_of, IsSame, TurnFinds, TurnGot, TurnLoaded, view_of_turn, word_of_turn}
pub use Rattle.snoop_core.specs.View.{geometry_of, IsFoundWord, IsSoundSnoop, next_frame, Represents, SnoopCoreView, word_at}
pub use Rattle.snoop_core.specs.Word.{HoldsSample, laps_of, sample_of}
