-- The device that a configuration defines under a name, or why it defines none.
use Rattle.std.specs.Prelude.{◌≡◌, ◌≤◌, ℕ, zero, suc, ◌+◌, ◌*◌, ◌/◌, ◌%◌, ◌==◌, ◌&&◌, ◌||◌, not, nat_lt, nat_le, Bool, if◌then◌else◌, List, [], ◌∷◌, ◌++◌, length, codes, bytes_eq, Option, Some, None, Result, Ok, Err}
use Rattle.std.specs.Str.{all_ascii_digits}
use Rattle.std.specs.Str.Parse.{digits_value}
use Rattle.std.specs.Fmt.{decimal}
use Rattle.bindings.specs.Answers.{answer_of}
use Rattle.snd_base.specs.declared.errors.Why.{Why}
use Rattle.snd_base.specs.declared.errors.Why.TheVariants as base
use Rattle.asound_conf.specs.declared.plugin.Card.{Card}
use Rattle.asound_conf.specs.declared.plugin.Device.{Device}
use Rattle.asound_conf.specs.declared.plugin.DeviceKind.{DeviceKind}
use Rattle.asound_conf.specs.declared.plugin.DeviceKind.TheVariants as kinds
use Rattle.asound_conf.specs.declared.plugin.Numbers.{Numbers}
use Rattle.asound_conf.specs.declared.error.ConfError.{ConfError}
use Rattle.asound_conf.specs.declared.error.ConfWhy.{ConfWhy}
use Rattle.asound_conf.specs.declared.error.ConfWhy.TheVariants as why
use Rattle.asound_conf.specs.Tree.{Tree, text, group, Entries, empty, entry, get}

-- what follows from a result where it is Ok
infixl 10 ◌>>=◌
abbrev pub ◌>>=◌ : {A B : Type 0} → Result A ConfWhy → (A → Result B ConfWhy) → Result B ConfWhy
(Ok x) >>= f = f x
(Err e) >>= f = Err e

-- the group that a node is
abbrev pub as_group : Option Tree → Result Entries ConfWhy
as_group (Some (group g)) = Ok g
as_group (Some (text t)) = Err why.Missing
as_group None = Err why.Missing

-- the group of this name in the text's group of this kind: `kind.name`
unfoldable pub definition_of : List ℕ → List ℕ → Entries → Result Entries ConfWhy
definition_of kind name root = do
  all ← as_group (get kind root)
  as_group (get name all)

-- the slave of a device: a group of its own, or the name of one among those of `pcm_slave`
abbrev pub device_slave : Entries → Option Tree → Result Entries ConfWhy
device_slave root (Some (group g)) = Ok g
device_slave root (Some (text t)) = definition_of (codes "pcm_slave") t root
device_slave root None = Err why.Missing

-- the kind that a device's type names
abbrev pub kind_named : List ℕ → Result DeviceKind ConfWhy
kind_named t =
    if bytes_eq t (codes "dmix") then Ok kinds.Dmix else
    if bytes_eq t (codes "dsnoop") then Ok kinds.Dsnoop else
    if bytes_eq t (codes "dshare") then Ok kinds.Dshare else Err why.PluginType

-- the kind that a device's type is
abbrev pub device_kind : Option Tree → Result DeviceKind ConfWhy
device_kind (Some (text t)) = kind_named t
device_kind (Some (group g)) = Err why.PluginType
device_kind None = Err why.PluginType

-- samples are of 16 bits, little-endian, where a format is given
abbrev pub format_of : Option Tree → Result (Unit {0}) ConfWhy
format_of (Some (text t)) = if bytes_eq t (codes "S16_LE") || bytes_eq t (codes "S16") then Ok tt else Err why.Format
format_of (Some (group g)) = Err why.Format
format_of None = Ok tt

-- a text is a number: 1 to 10 decimal digits, below 2 ^ 32
abbrev pub is_small_numeral : List ℕ → Bool
is_small_numeral t = nat_le 1 (length t) && nat_le (length t) 10 && all_ascii_digits t && nat_lt (digits_value 10 t) 4294967296

-- the number that a text is
abbrev pub number_of_text : List ℕ → Option ℕ
number_of_text t = if is_small_numeral t then Some (digits_value 10 t) else None

-- the number that a node is
abbrev pub number_of_node : Option Tree → Option ℕ
number_of_node (Some (text t)) = number_of_text t
number_of_node (Some (group g)) = None
number_of_node None = None

-- a number field: 0 where it isn't given
abbrev pub field_in : Option Tree → Option ℕ
field_in None = Some 0
field_in (Some node) = number_of_node (Some node)

-- what is refused with this cause where it isn't there
abbrev pub or_refuse : {X : Type 0} → ConfWhy → Option X → Result X ConfWhy
or_refuse cause (Some x) = Ok x
or_refuse cause None = Err cause

-- a number field of a slave
abbrev pub field : List ℕ → Entries → Result ℕ ConfWhy
field name slave = or_refuse why.Number (field_in (get name slave))

-- the number fields of a slave, in this order
unfoldable pub slave_numbers : Entries → Result Numbers ConfWhy
slave_numbers slave = do
  channels ← field (codes "channels") slave
  rate ← field (codes "rate") slave
  period_size ← field (codes "period_size") slave
  period_time ← field (codes "period_time") slave
  buffer_size ← field (codes "buffer_size") slave
  periods ← field (codes "periods") slave
  buffer_time ← field (codes "buffer_time") slave
  Ok (record { channels = channels; rate = rate; period_size = period_size; period_time = period_time; buffer_size = buffer_size; periods = periods; buffer_time = buffer_time })

-- a number, or another one where it isn't given
abbrev pub or_default : ℕ → ℕ → ℕ
or_default n other = if n == 0 then other else n

-- how many frames a time in microseconds is
abbrev pub frames_in_time : ℕ → ℕ → ℕ
frames_in_time rate time = rate * time / 1000000

-- the period in frames: its size, else its time, else 1024
abbrev pub slave_period : Numbers → ℕ → ℕ
slave_period n rate = or_default n.period_size (if n.period_time == 0 then 1024 else frames_in_time rate n.period_time)

-- the ring in frames: the buffer's size, else its periods, else its time, else eight periods
abbrev pub slave_ring : Numbers → ℕ → ℕ → ℕ
slave_ring n rate period =
    or_default n.buffer_size (
    if n.periods == 0 then (if n.buffer_time == 0 then 8 * period else frames_in_time rate n.buffer_time) else period * n.periods)

-- channels and rate are in their ranges
abbrev pub is_stream : ℕ → ℕ → Bool
is_stream channels rate = nat_le 1 channels && nat_le channels 8 && nat_le 4000 rate && nat_le rate 192000

-- a period is in its range: at least 16 frames, and at most 16384 where it was computed
abbrev pub is_period : Numbers → ℕ → Bool
is_period n period = nat_le 16 period && (nat_lt 0 n.period_size || nat_le period 16384)

-- a ring is in its range
abbrev pub is_ring : ℕ → Bool
is_ring ring = nat_le 64 ring && nat_le ring 16384

-- a period divides its ring at least twice
abbrev pub is_fit : ℕ → ℕ → Bool
is_fit period ring = nat_le period (ring / 2) && ring % period == 0

-- a card's numbers are in their ranges, and its period divides its ring at least twice
pub record IsCard (channels rate period ring : ℕ) : Type 0 where
  pub channels_low : 1 ≤ channels
  pub channels_high : channels ≤ 8
  pub rate_low : 4000 ≤ rate
  pub rate_high : rate ≤ 192000
  pub period_low : 16 ≤ period
  pub ring_low : 64 ≤ ring
  pub ring_high : ring ≤ 16384
  pub period_twice : period * 2 ≤ ring
  pub period_divides : ring % period ≡ 0

-- the card of these numbers
abbrev pub card_with : Numbers → ℕ → ℕ → ℕ → ℕ → Result Card ConfWhy
card_with n channels rate period ring =
    if not (is_stream channels rate) then Err why.Range else
    if not (is_period n period) then Err why.Range else
    if not (is_ring ring) then Err why.Range else
    if not (is_fit period ring) then Err why.Fit else Ok (record { channels = channels; rate = rate; period = period; ring = ring })

-- the card of a slave's numbers
abbrev pub card_of_slave : Numbers → Result Card ConfWhy
card_of_slave n =
    let rate = or_default n.rate 48000 in
    let period = slave_period n rate in
    card_with n (or_default n.channels 2) rate period (slave_ring n rate period)

-- how many names a group has
abbrev pub count_of_names : Entries → ℕ
count_of_names empty = 0
count_of_names (entry name node rest) = count_of_names rest + 1

-- a list with one value more, where there are both
abbrev pub value_more : Option (List ℕ) → Option ℕ → Option (List ℕ)
value_more (Some values) (Some value) = Some (values ++ value ∷ [])
value_more (Some values) None = None
value_more None value = None

-- the values of the names 0, 1 and so on, so many
unfoldable pub numbered_values : Entries → ℕ → Option (List ℕ)
numbered_values g zero = Some []
numbered_values g (suc n) = value_more (numbered_values g n) (number_of_node (get (decimal n) g))

-- why a list of channels is refused
abbrev pub bindings_cause : Why → ConfWhy
bindings_cause base.BindingsTooMany = why.BindingsTooMany
bindings_cause (base.BindingRange channel) = why.BindingRange channel
bindings_cause (base.BindingTwice channel) = why.BindingTwice channel
bindings_cause other = why.BindingsEmpty

-- the bindings that a list of channels is
abbrev pub bound : Result (List ℕ) Why → Result (Option (List ℕ)) ConfWhy
bound (Ok list) = Ok (Some list)
bound (Err cause) = Err (bindings_cause cause)

-- the bindings of a group of channels: its names are 0 to n - 1 in some order, and its values numbers
abbrev pub bindings_in : Option (List ℕ) → ℕ → Result (Option (List ℕ)) ConfWhy
bindings_in (Some list) channels = bound (answer_of list channels)
bindings_in None channels = Err why.BindingKey

-- the bindings of a device on a card of so many channels
abbrev pub device_bindings : Option Tree → ℕ → Result (Option (List ℕ)) ConfWhy
device_bindings (Some (group g)) channels = bindings_in (numbered_values g (count_of_names g)) channels
device_bindings (Some (text t)) channels = Err why.BindingKey
device_bindings None channels = Ok None

-- the device of this name, or why there is none
unfoldable pub device_by : Entries → List ℕ → Result Device ConfWhy
device_by root name = do
  definition ← definition_of (codes "pcm") name root
  slave ← device_slave root (get (codes "slave") definition)
  kind ← device_kind (get (codes "type") definition)
  fits ← format_of (get (codes "format") slave)
  numbers ← slave_numbers slave
  card ← card_of_slave numbers
  bindings ← device_bindings (get (codes "bindings") definition) card.channels
  Ok (record { kind = kind; channels = card.channels; rate = card.rate; period = card.period; ring = card.ring; bindings = bindings })

-- a refusal of the text as a whole
abbrev pub of_text : Result Device ConfWhy → Result Device ConfError
of_text (Ok device) = Ok device
of_text (Err cause) = Err (record { line = 0; why = cause })

-- the device of this name, or the refusal of the text as a whole
abbrev pub device_of : Entries → List ℕ → Result Device ConfError
device_of root name = of_text (device_by root name)
