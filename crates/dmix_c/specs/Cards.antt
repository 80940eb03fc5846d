-- What a call does to a card that a handle stands for, and what it answers.
use Rattle.std.specs.Prelude.{◌≡◌, ℕ, ℤ, pos, List, Result, IfErr, IfOk, IsErrOf, ◌↔◌}
use Rattle.snd_base.specs.declared.errors.PcmError.{PcmError}
use Rattle.snd_base.specs.declared.errors.PcmError.TheVariants.{LapEnd}
use Rattle.sum_table.specs.Players.{HasUnplugged}
use Rattle.card_player.specs.Plays.{EndsEarly, PlaysAndPublishes, frames_in, frames_left, period_of, seat_of}
use Rattle.dmix_c.specs.declared.playing_card.PlayingCard.{PlayingCard}
use Rattle.dmix_c.specs.Answers.{number_of}

-- a card played as many whole frames as a buffer has room for: each sample is the sum of what was placed there by then, saturated once.
-- It answers how many, or that the ring's end came before
pub record HasPlayed (old new : List ℤ) (a b : PlayingCard) (answer : ℤ) : Type 0 where
  pub made : Result ℕ PcmError
  pub answered : answer ≡ number_of made
  pub plays : PlaysAndPublishes a.player b.player (frames_left a.player old) old new
  pub count : IfOk made (λ n. n ≡ frames_in a.player old)
  pub lap_end : IsErrOf made LapEnd ↔ EndsEarly a.player old
  pub only : IfErr made (λ e. e ≡ LapEnd)

-- a card was unplugged
pub record IsUnplugged (a b : PlayingCard) (answer : ℤ) : Type 0 where
  pub unplugged : HasUnplugged (seat_of a.player) (seat_of b.player)
  pub period : period_of b.player ≡ period_of a.player
  pub answered : answer ≡ pos 0
