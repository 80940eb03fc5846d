-- Tables of weights, and the output channels of a frame.
use Rattle.std.specs.Prelude.{◌≡◌, ℕ, ◌+◌, ◌*◌, ◌/◌, ◌%◌, ◌≤◌, ◌==◌, if◌then◌else◌, List, [], ◌∷◌, length, map, All, slice_range, ℤ, pos, negsuc, ◌+ℤ◌, ◌*ℤ◌, ◌≤ℤ◌}
use Rattle.std.specs.List.{range_with_len}
use Rattle.std.specs.Int.{w16, int_div_euclid, saturate_signed}

-- how many channels come in and go out, and a weight for each pair, by output; 65536 counts a channel once
pub record ChannelTable : Type 0 where
  pub inputs : ℕ
  pub outputs : ℕ
  pub weights : List ℤ

-- a weight from -1 to 1
pub record IsWeight (weight : ℤ) : Type 0 where
  pub low : negsuc 65535 ≤ℤ weight
  pub high : weight ≤ℤ pos 65536

-- 1 to 8 channels in and out, and a weight for each pair
pub record IsTable (t : ChannelTable) : Type 0 where
  pub some_input : 1 ≤ t.inputs
  pub few_inputs : t.inputs ≤ 8
  pub some_output : 1 ≤ t.outputs
  pub few_outputs : t.outputs ≤ 8
  pub each_pair : length t.weights ≡ t.inputs * t.outputs
  pub each_weight : All IsWeight t.weights

-- the weights of one output
abbrev pub row : ChannelTable → ℕ → List ℤ
row t output = slice_range t.weights (output * t.inputs) (output * t.inputs + t.inputs)

-- the sum of samples, each times its weight
abbrev pub weighted_sum : List ℤ → List ℤ → ℤ
weighted_sum [] samples = pos 0
weighted_sum (w ∷ weights) [] = pos 0
weighted_sum (w ∷ weights) (x ∷ samples) = (w *ℤ x) +ℤ weighted_sum weights samples

-- a number that a sum of n products can be, each of a weight and a sample
pub record IsSumOf (n : ℕ) (z : ℤ) : Type 0 where
  pub low : pos 0 ≤ℤ (z +ℤ pos (n * 2147483648))
  pub high : z ≤ℤ pos (n * 2147483648)

-- one output channel of a frame: the whole sum is divided, rounded down, and saturated once
unfoldable pub output_channel : ChannelTable → List ℤ → ℕ → ℤ
output_channel t samples output =
    saturate_signed w16 (int_div_euclid (weighted_sum (row t output) samples) (pos 65536))

-- all output channels of a frame
unfoldable pub output_samples : ChannelTable → List ℤ → List ℤ
output_samples t samples = map (output_channel t samples) (range_with_len 0 t.outputs)

-- each channel to the channel of its number
abbrev pub identity_weight : ℕ → ℕ → ℤ
identity_weight output input = if input == output then pos 65536 else pos 0

-- a single input goes to each output, a single output has an equal part of each input, and else each channel goes to its own
abbrev pub usual_weight : ℕ → ℕ → ℕ → ℕ → ℤ
usual_weight inputs outputs output input =
    if inputs == outputs then identity_weight output input
    else if inputs == 1 then pos 65536
    else if outputs == 1 then pos (65536 / inputs)
    else identity_weight output input

-- the usual table between these numbers of channels
abbrev pub usual_weights : ℕ → ℕ → List ℤ
usual_weights inputs outputs =
    map (λ place. usual_weight inputs outputs (place / inputs) (place % inputs))
    (range_with_len 0 (inputs * outputs))

abbrev pub usual_table : ℕ → ℕ → ChannelTable
usual_table inputs outputs =
    record { inputs = inputs; outputs = outputs; weights = usual_weights inputs outputs }
