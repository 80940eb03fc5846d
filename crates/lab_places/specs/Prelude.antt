-- The names that most proofs of this crate cite, passed on from one place. Declares nothing.
pub use Rattle.std.proofs.Common.{All, ap, arith, Bool, cond, Err, false, get_or, IfErr, IfOk, IfSome, if◌then◌else◌, IsSome, length, List, map, min, nat_lt}
pub use Rattle.std.proofs.Common.{None, not, Ok, OnErr, OnOk, Option, refl, replicate, Result, set, Some, subst, suc, sym, true, true≢false, zero, ℕ, [], ◌&&◌}
pub use Rattle.std.proofs.Common.{◌+◌, ◌<◌, ◌∙◌, ◌∷◌, ◌≡◌, ◌≤◌}
pub use Rattle.std.proofs.lemmas.Bool.Decides.{nat_tests}
pub use Rattle.std.proofs.lemmas.Option.{none-some, same_Some}
pub use Rattle.std.specs.List.{cons_option, list_any, position, position_or_len}
pub use Rattle.std.specs.Option.{is_some, option_and_then}
pub use Rattle.snd_base.specs.declared.errors.PcmError.{PcmError}
pub use Rattle.snd_base.specs.declared.errors.PcmError.TheVariants.{Busy}
pub use Rattle.dshare.specs.Shared.{Ownership, StandsFor}
pub use Rattle.mix_core.specs.declared.port.Position.{Position}
pub use Rattle.mix_core.specs.Marks.{high_frame, is_before, last_before, start_marks, start_of}
pub use Rattle.sum_table.specs.declared.seats.mix.MixSeat.{MixSeat}
pub use Rattle.sum_table.specs.declared.seats.player.PlayerSeat.{PlayerSeat}
pub use Rattle.sum_table.specs.declared.view.View.{View}
pub use Rattle.sum_table.specs.Known.{free_from, last_frame}
pub use Rattle.sum_table.specs.Players.{position_of_player}
pub use Rattle.sum_table.specs.Seats.{key_of, marks_of_seat, member_of, places_of_seat, view_of}
pub use Rattle.lobby.specs.declared.lobby.Lobby.{Lobby}
pub use Rattle.lobby.specs.Lobbies.{Attaches, CanTakeBack, free_seats, HandsOut, IsNewLobby, IsSilentSeat, key_of_lobby, LoadsAt, Outcome, ring_of_lobby}
pub use Rattle.lobby.specs.Lobbies.{seen_of_lobby, TakesBack}
pub use Rattle.lobby.specs.Seats.{IsBusy, IsLeast, IsPlace, last_frames, last_of, lowest_free, lowest_silent, seat_at}
pub use Rattle.lab_lines.specs.declared.script.Share.{Share}
pub use Rattle.lab_run.specs.Claims.{claim_refusal, ClaimIsOwners, with_claim, with_release}
pub use Rattle.lab_run.specs.Items.{Held}
pub use Rattle.lab_run.specs.Places.{after_attach, attached_by, held_by, is_below, is_free, is_held_by, is_silent, last_if_free, least, least_last, left_place}
pub use Rattle.lab_run.specs.Places.{Place, place_after}
pub use Rattle.lab_run.specs.PortSteps.{IsLow, last_from, MarksAlike, untouched}
pub use Rattle.lab_places.specs.declared.places.Places.{Places}
pub use Rattle.lab_places.specs.Held.{AreAtPlaces, attached_held, AttachesAt, closed_held, HasMetPlayer, HoldsGiven, HoldsNone, HoldsPlace, IsAnswerOfRun}
pub use Rattle.lab_places.specs.Held.{IsAtPlace, IsClaimed, IsGiven, IsHeldBy, IsLobby, IsOwnLast, lobby_of, opened_held, opened_if, Opens, share_of, shares_of}
