-- The names that most proofs of this crate cite, passed on from one place. Declares nothing.
pub use Rattle.std.proofs.Common.{add-one, All, ap, append_assoc, arith, Bool, cond, Err, false, get_or, IfSome, inl, inr, is_some, IsSome, length, List}
pub use Rattle.std.proofs.Common.{MatchOption, min, nat_lt, None, Ok, Option, refl, Result, set, Some, subst, suc, sym, take, true, vec_capacity, zero, ℕ, []}
pub use Rattle.std.proofs.Common.{◌++◌, ◌+◌, ◌-◌, ◌<◌, ◌^◌, ◌∙◌, ◌∷◌, ◌≡◌, ◌≤◌}
pub use Rattle.std.proofs.Math.Seq.{get_or-append_seam, take-suc}
pub use Rattle.std.proofs.lemmas.Bool.{cases_eq, cases_lt, false≢true}
pub use Rattle.std.proofs.lemmas.Bool.Decides.{nat_tests}
pub use Rattle.std.proofs.lemmas.List.{append-nil, get_or-set_other, get_or-set_same, get_or_append_left, get_or_default, get_or_push, length-append}
pub use Rattle.std.proofs.lemmas.List.{length-set, nil_from_length}
pub use Rattle.std.proofs.lemmas.Option.{none-some, same_Some}
pub use Rattle.std.specs.List.{cons_option, filter_map, position, position_or_len}
pub use Rattle.std.specs.Option.{option_and_then, option_to_list}
pub use Rattle.mix_core.specs.declared.port.Position.{Position}
pub use Rattle.sum_table.specs.declared.seats.mix.MixSeat.{MixSeat}
pub use Rattle.sum_table.specs.declared.seats.player.PlayerSeat.{PlayerSeat}
pub use Rattle.sum_table.specs.declared.view.View.{View}
pub use Rattle.sum_table.specs.Cuts.{part_of, with_places, without_places}
pub use Rattle.sum_table.specs.Joins.{HasJoined, HasSplit, KeepsSeat, OneRing}
pub use Rattle.sum_table.specs.Seats.{IsLaterSeat, key_of, member_of, places_of_seat, ring_of, TableId, view_of}
pub use Rattle.lobby.specs.declared.lobby.Lobby.{Lobby}
pub use Rattle.lobby.specs.Loads.{HasLoaded, HasLoadedBeside}
pub use Rattle.lobby.specs.Lobbies.{Attaches, base_of, free_seats, IsSplitSeat, JoinsAll, JoinsEach, key_of_lobby, laid_by, laid_by_all, LoadsAt, Outcome}
pub use Rattle.lobby.specs.Lobbies.{ring_of_lobby, seen_of_lobby}
pub use Rattle.lobby.specs.Seats.{AreFree, ArePlaces, earlier, is_below, is_silent, IsLeast, IsPlace, KeepsLasts, last_frames, last_of, lowest_free}
pub use Rattle.lobby.specs.Seats.{lowest_silent, seat_at}
