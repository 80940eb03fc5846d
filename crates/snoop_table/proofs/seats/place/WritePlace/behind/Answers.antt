use Rattle.std.proofs.Common.{◌≡◌, ◌+◌, arith}
use Rattle.snoop_table.proofs.Writing.{place_behind_lap, place_in_lap}
use Rattle.snoop_table.proofs.seats.place.WritePlace.behind.Goals as goal

pub returns-then-self-geometry-clause-place : goal.returns-then-self-geometry-clause-place
returns-then-self-geometry-clause-place c =
    let last : c.args.self.now.next.channel + 1 ≡ c.args.geometry.now.channels = omega (arith, c.if-channel-geometry.false, c.requires.channel) in
    place_in_lap c.args.geometry.now c.args.self.now c.requires.place last c.if-self-geometry.true

pub returns-clause-place : goal.returns-clause-place
returns-clause-place c =
    let last : c.args.self.now.next.channel + 1 ≡ c.args.geometry.now.channels = omega (arith, c.if-channel-geometry.false, c.requires.channel) in
    place_behind_lap c.args.geometry.now c.args.self.now c.requires.place last (omega (arith, c.if-self-geometry.false))
