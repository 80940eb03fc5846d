-- What a call does to a card that captures and plays, which a handle stands for, and what it answers.
use Rattle.std.specs.Prelude.{◌≡◌, ℕ, ◌%◌, ℤ, pos, List, length, Result, Err, IfErr, IfOk, IsErrOf, ◌↔◌}
use Rattle.snd_base.specs.declared.errors.PcmError.{PcmError}
use Rattle.snd_base.specs.declared.errors.PcmError.TheVariants.{Invalid, LapEnd}
use Rattle.snd_base.specs.declared.errors.Why.TheVariants.{Config}
use Rattle.sum_table.specs.Players.{HasUnplugged}
use Rattle.snoop_table.specs.Writers as writers
use Rattle.card_player.specs.Plays.{EndsEarly, frames_in, geometry_of, seat_of}
use Rattle.card_sim.specs.Runs.{RunsThrough, period_of, player_of, writer_of}
use Rattle.dmix_c.specs.declared.duplex_card.DuplexCard.{DuplexCard}
use Rattle.dmix_c.specs.Answers.{number_of}

-- captured samples, and room for as many played ones, of whole frames
pub record AreBuffers (a : DuplexCard) (captured out : List ℤ) : Type 0 where
  pub same : length captured ≡ length out
  pub whole : length out % (geometry_of (player_of a.card)).channels ≡ 0

-- a card ran for as many frames as buffers hold, and answers how many, or that the rings' end came before
pub record RunsFittingBuffers (captured old new : List ℤ) (a b : DuplexCard) (made : Result ℕ PcmError) : Type 0 where
  pub runs : RunsThrough a.card b.card captured old new
  pub count : IfOk made (λ n. n ≡ frames_in (player_of a.card) old)
  pub lap_end : IsErrOf made LapEnd ↔ EndsEarly (player_of a.card) old
  pub only : IfErr made (λ e. e ≡ LapEnd)

-- a card ran, or refused the buffers with nothing changed
pub record RunsBuffers (captured old new : List ℤ) (a b : DuplexCard) (made : Result ℕ PcmError) : Type 0 where
  pub defect : (AreBuffers a captured old → ⊥) → (made ≡ Err (Invalid Config)) × (b ≡ a) × (new ≡ old)
  pub ran : AreBuffers a captured old → RunsFittingBuffers captured old new a b made
  pub period : period_of b.card ≡ period_of a.card

pub record HasRunCard (captured old new : List ℤ) (a b : DuplexCard) (answer : ℤ) : Type 0 where
  pub made : Result ℕ PcmError
  pub answered : answer ≡ number_of made
  pub ran : RunsBuffers captured old new a b made

-- a card that captures was unplugged from both rings
pub record IsDuplexUnplugged (a b : DuplexCard) (answer : ℤ) : Type 0 where
  pub played : HasUnplugged (seat_of (player_of a.card)) (seat_of (player_of b.card))
  pub captured : writers.HasUnplugged (writers.desk_of (writer_of a.card)) (writers.desk_of (writer_of b.card))
  pub period : period_of b.card ≡ period_of a.card
  pub answered : answer ≡ pos 0
