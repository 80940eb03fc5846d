-- The text of a device.
use Rattle.std.specs.Prelude.{ℕ, List, [], ◌∷◌, ◌++◌, map, codes, Option, Some, None}
use Rattle.std.specs.Fmt.{decimal}
use Rattle.std.specs.List.{join_with_byte}
use Rattle.asound_conf.specs.declared.plugin.Device.{Device}
use Rattle.asound_conf.specs.declared.plugin.DeviceKind.{DeviceKind}
use Rattle.asound_conf.specs.declared.plugin.DeviceKind.TheVariants as kinds

-- the type of a device by its name
abbrev pub kind_text : DeviceKind → List ℕ
kind_text kinds.Dmix = codes "dmix"
kind_text kinds.Dsnoop = codes "dsnoop"
kind_text kinds.Dshare = codes "dshare"

-- `type KIND`
abbrev pub type_line : DeviceKind → List ℕ
type_line kind = codes "type " ++ kind_text kind ++ 10 ∷ []

-- a word and a number
abbrev pub field_text : List ℕ → ℕ → List ℕ
field_text word number = word ++ decimal number

-- `card channels C rate R period P ring N`
abbrev pub card_line : Device → List ℕ
card_line d =
    field_text (codes "card channels ") d.channels
    ++ field_text (codes " rate ") d.rate
    ++ field_text (codes " period ") d.period
    ++ field_text (codes " ring ") d.ring
    ++ 10 ∷ []

-- `bindings` and the card channels, joined by commas
abbrev pub channels_line : List ℕ → List ℕ
channels_line channels = codes "bindings " ++ join_with_byte 44 (map decimal channels) ++ 10 ∷ []

-- the line of the bindings, where they are given
abbrev pub bindings_line : Option (List ℕ) → List ℕ
bindings_line None = []
bindings_line (Some channels) = channels_line channels

-- the lines of a device
abbrev pub device_text : Device → List ℕ
device_text d = type_line d.kind ++ card_line d ++ bindings_line d.bindings
