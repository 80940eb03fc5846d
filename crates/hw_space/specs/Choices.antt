-- How a configuration is chosen: the steps, in their order, and what they leave.
use Rattle.std.specs.Prelude.{◌≡◌, ℕ, ◌<◌, List, [], ◌∷◌, Option, Some, None, Result, Ok, Err}
use Rattle.pcm_interval.specs.declared.empty.Empty.{Empty}
use Rattle.pcm_interval.specs.declared.mask.Mask.{Mask}
use Rattle.pcm_interval.specs.Masks.{HasNumber}
use Rattle.hw_space.specs.declared.choice.Choice.{Choice}
use Rattle.hw_space.specs.declared.choice.Choice.TheVariants.{Settle, FirstAccess, FirstFormat, First, Last, Near}
use Rattle.hw_space.specs.declared.config.Config.{Config}
use Rattle.hw_space.specs.declared.param_box.ParamBox.{ParamBox}
use Rattle.hw_space.specs.declared.quantity.Quantity.TheVariants.{Channels, Rate, PeriodSize, Periods, BufferSize}
use Rattle.hw_space.specs.Boxes.{part}
use Rattle.hw_space.specs.Narrowings.{with_refined, least_end, greatest_end, with_access, with_format, IsNear}
use Rattle.hw_space.specs.Settled.{Leaves}
use Rattle.hw_space.specs.Widest.{whole_from_to}

-- the least number of a mask
pub record IsFirstNumber (m : Mask) (n : ℕ) : Type 0 where
  pub has : HasNumber m n
  pub least : (k : ℕ) → k < n → ¬ HasNumber m k

-- what one step leaves of a box, if it leaves anything
abbrev pub ChoiceLeaves : Choice → ParamBox → Option ParamBox → Type 0
ChoiceLeaves Settle b o = Leaves b o
ChoiceLeaves FirstAccess b o = (n : ℕ) × IsFirstNumber b.access n × Leaves (with_access b n) o
ChoiceLeaves FirstFormat b o = (n : ℕ) × IsFirstNumber b.format n × Leaves (with_format b n) o
ChoiceLeaves (First q) b o = Leaves (with_refined b q (least_end (part b q))) o
ChoiceLeaves (Last q) b o = Leaves (with_refined b q (greatest_end (part b q))) o
ChoiceLeaves (Near q n) b o = IsNear b q n o

-- what steps leave of a box, one after the other: nothing, as soon as one leaves nothing
pub data Chooses : List Choice → ParamBox → Option ParamBox → Type 0 where
  done : {b : ParamBox} → Chooses [] b (Some b)
  fails : {c : Choice} {cs : List Choice} {b : ParamBox} → ChoiceLeaves c b None → Chooses (c ∷ cs) b None
  goes : {c : Choice} {cs : List Choice} {b d : ParamBox} {o : Option ParamBox} → ChoiceLeaves c b (Some d) → Chooses cs d o → Chooses (c ∷ cs) b o

-- the steps, with the period of the slave
abbrev pub choices : ℕ → List Choice
choices period =
    Settle
    ∷ FirstAccess
    ∷ FirstFormat
    ∷ First Channels
    ∷ First Rate
    ∷ Near PeriodSize period
    ∷ Last BufferSize
    ∷ First Periods
    ∷ []

-- the parameters of a configuration are points of a box
pub record HasPoints (b : ParamBox) (c : Config) : Type 0 where
  pub channels : b.channels ≡ whole_from_to c.channels c.channels
  pub rate : b.rate ≡ whole_from_to c.rate c.rate
  pub period_size : b.period_size ≡ whole_from_to c.period_size c.period_size
  pub buffer_size : b.buffer_size ≡ whole_from_to c.buffer_size c.buffer_size
  pub periods : b.periods ≡ whole_from_to c.periods c.periods

-- an answer to a choice: the points after all steps, or that a step left nothing
abbrev pub IsChoice : ParamBox → ℕ → Result Config Empty → Type 0
IsChoice b period (Ok c) = (last : ParamBox) × Chooses (choices period) b (Some last) × HasPoints last c
IsChoice b period (Err e) = Chooses (choices period) b None
