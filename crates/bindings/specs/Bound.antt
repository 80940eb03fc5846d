-- Bindings of a stream's channels to channels of the card: a list of card channels, one for each client channel.
use Rattle.std.specs.Prelude.{◌≡◌, ◌≢◌, ℕ, ◌-◌, ◌<◌, ◌≤◌, ◌==◌, nat_lt, ◌++◌, List, All, count_by, length, position, replicate, slice_index, take, Option}
use Rattle.std.specs.List.{filter_map, range_with_len}
use Rattle.bindings.specs.declared.channels.Bindings.TheInside.{Inside}

-- a list binds 1 to 8 client channels, each to a card channel of its own below 256
pub record AreBindings (list : List ℕ) : Type 0 where
  pub some : 1 ≤ length list
  pub most : length list ≤ 8
  pub below : All (λ channel. channel < 256) list
  pub distinct : (i j : ℕ) → i < j → j < length list → slice_index list i ≢ slice_index list j

-- the bindings that bind each client channel to the card channel of the same number
abbrev pub identity : ℕ → List ℕ
identity channels = range_with_len 0 channels

-- the client channel that is bound to a card channel, where there is one
abbrev pub bound_to : List ℕ → ℕ → Option ℕ
bound_to bindings card_channel = position (λ bound. bound == card_channel) bindings

-- the client channels that are bound to n card channels from a first one on, by rising card channel
abbrev pub rising_from : List ℕ → ℕ → ℕ → List ℕ
rising_from bindings first n = filter_map (bound_to bindings) (range_with_len first n)

-- all client channels, by rising card channel
unfoldable pub rising : List ℕ → List ℕ
rising bindings = rising_from bindings 0 256

-- how many of the bound card channels are below a card channel
abbrev pub count_below : List ℕ → ℕ → ℕ
count_below bindings card_channel = count_by (λ bound. nat_lt bound card_channel) bindings

-- so many zeros
abbrev pub zeros : ℕ → List ℕ
zeros n = replicate n 0

-- a list of at most 8 numbers in 8 places, with zeros after it
abbrev pub in_eight_places : List ℕ → List ℕ
in_eight_places list = list ++ zeros (8 - length list)

-- the list that the fields hold
abbrev pub list_of : Inside → List ℕ
list_of b = take b.len b.channels

-- what the fields keep: the list, its order, and nothing after them
pub record HoldsList (b : Inside) : Type 0 where
  pub length_is : length (list_of b) ≡ b.len
  pub channels_are : b.channels ≡ in_eight_places (list_of b)
  pub order_is : b.order ≡ in_eight_places (rising (list_of b))
  pub bound : AreBindings (list_of b)
