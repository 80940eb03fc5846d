-- What a pass over some rules does to a box, whatever the rules and their order.
use Rattle.std.specs.Prelude.{◌≡◌, ◌<◌, Bool, true, false}
use Rattle.hw_space.specs.declared.param_box.ParamBox.{ParamBox}
use Rattle.hw_space.specs.Boxes.{IsBoxWithin, size_of_box}
use Rattle.hw_space.specs.Settled.{IsSettled, KeepsConfigurations}
use Rattle.hw_space.specs.Proper.{IsProper}

-- the box became smaller, or stayed as it was, and no settled box and no configuration was lost
pub record IsBoxStep (old new : ParamBox) (changed : Bool) : Type 0 where
  pub within : IsBoxWithin new old
  pub settled : (s : ParamBox) → IsSettled s → IsBoxWithin s old → IsBoxWithin s new
  pub configurations : KeepsConfigurations old new
  pub proper : IsProper new
  pub moved : changed ≡ true → size_of_box new < size_of_box old
  pub still : changed ≡ false → new ≡ old
