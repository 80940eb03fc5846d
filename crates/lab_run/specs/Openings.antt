-- With what the actors of a script are opened: their configurations, bindings and parameters, or none.
use Rattle.std.specs.Prelude.{◌≡◌, ◌≢◌, ◌⊎◌, ℕ, List, [], ◌∷◌, ◌++◌, length, Option, Some, None, unwrap_or, Result, Ok, Err, ⊤}
use Rattle.snd_base.specs.declared.geometry.Geometry.{Geometry}
use Rattle.bindings.specs.Bound.{identity}
use Rattle.pcm_interval.specs.declared.empty.Empty.{Empty}
use Rattle.hw_space.specs.declared.config.Config.{Config}
use Rattle.hw_space.specs.declared.param.Param.{Param}
use Rattle.hw_space.specs.declared.param.Param.TheVariants.{BufferSize, Channels, PeriodSize, Rate}
use Rattle.hw_space.specs.declared.param_box.ParamBox.{ParamBox}
use Rattle.hw_space.specs.Choices.{IsChoice}
use Rattle.hw_space.specs.Narrowings.{with_value}
use Rattle.hw_space.specs.Settled.{Leaves}
use Rattle.hw_space.specs.Widest.{widest}
use Rattle.sw_limits.specs.declared.params.SwParams.{SwParams}
use Rattle.sw_limits.specs.Boundary.{IsBoundary}
use Rattle.wav_io.specs.Sound.{Sound}
use Rattle.lab_lines.specs.declared.script.CardLine.{CardLine}
use Rattle.lab_lines.specs.declared.script.ClientLine.{ClientLine}
use Rattle.lab_lines.specs.declared.script.ReaderLine.{ReaderLine}
use Rattle.lab_lines.specs.declared.script.Script.{Script}
use Rattle.lab_lines.specs.declared.script.Stop.{Stop}
use Rattle.lab_lines.specs.declared.script.Stop.TheVariants.{At, Never}
use Rattle.lab_run.specs.Stage.{Session, Setup}

-- parameters with a value each
abbrev pub Values : Type 0
Values = List (Param × ℕ)

-- what is left of a space after it was narrowed to these values, one after the other, if anything is
abbrev pub IsNarrowed : ParamBox → Values → Option ParamBox → Type 0
IsNarrowed b [] left = left ≡ Some b
IsNarrowed b ((param, value) ∷ more) (Some left) =
    (d : ParamBox) × Leaves (with_value b param value) (Some d) × IsNarrowed d more (Some left)
IsNarrowed b ((param, value) ∷ more) None =
    Leaves (with_value b param value) None
    ⊎ ((d : ParamBox) × Leaves (with_value b param value) (Some d) × IsNarrowed d more None)

-- the configuration that the card's space leaves by choice to a stream with these values, or that there is none
abbrev pub IsChosen : CardLine → Values → Result Config Empty → Type 0
IsChosen card values (Ok config) =
    (left : ParamBox) × IsNarrowed (widest card.channels card.rate card.ring) values (Some left)
    × IsChoice left card.period (Ok config)
IsChosen card values (Err e) =
    IsNarrowed (widest card.channels card.rate card.ring) values None
    ⊎ ((left : ParamBox) × IsNarrowed (widest card.channels card.rate card.ring) values (Some left)
    × IsChoice left card.period (Err e))

-- the value of a key, where its line gives it
abbrev pub value_if : Param → Option ℕ → Values
value_if param None = []
value_if param (Some value) = (param, value) ∷ []

-- the values of a stream of so many channels and a rate, in the order in which they narrow
abbrev pub values_of : ℕ → ℕ → Option ℕ → Option ℕ → Values
values_of channels rate period buffer =
    (Channels, channels) ∷ (Rate, rate) ∷ [] ++ value_if PeriodSize period
    ++ value_if BufferSize buffer

-- the stop threshold of a line: the buffer size where it gives none, or the boundary
abbrev pub IsStop : Config → Option Stop → ℕ → Type 0
IsStop config None stop = stop ≡ config.buffer_size
IsStop config (Some (At frames)) stop = stop ≡ frames
IsStop config (Some Never) stop = IsBoundary config.buffer_size stop

-- the software parameters of a line
pub record AreParams (config : Config) (starts_at : ℕ) (stops_at : Option Stop)
    (params : SwParams) : Type 0 where
  pub start : params.start_threshold ≡ starts_at
  pub stop : IsStop config stops_at params.stop_threshold
  pub avail_min : params.avail_min ≡ config.period_size

-- a client's bindings: those of its line, or each channel of its file to the card's channel of the same number
abbrev pub bound_by : ClientLine → Sound → List ℕ
bound_by line wav = unwrap_or line.bindings (identity wav.channels)

abbrev pub client_values : ClientLine → Sound → Values
client_values line wav = values_of wav.channels wav.rate line.period line.buffer

-- a client with its file is opened with a setup
pub record IsClientSetup (card : CardLine) (line : ClientLine) (wav : Sound)
    (setup : Setup) : Type 0 where
  pub config : IsChosen card (client_values line wav) (Ok setup.config)
  pub bindings : setup.bindings ≡ bound_by line wav
  pub channels : length setup.bindings ≡ wav.channels
  pub params : AreParams setup.config line.start line.stop setup.params
  pub lead : setup.lead ≡ line.lead

-- or with none: the card has no configuration for its file and line, or its line binds another number of channels than its file has
abbrev pub IsClientOpening : CardLine → ClientLine → Sound → Option Setup → Type 0
IsClientOpening card line wav (Some setup) = IsClientSetup card line wav setup
IsClientOpening card line wav None =
    ((e : Empty) × IsChosen card (client_values line wav) (Err e))
    ⊎ (length (bound_by line wav) ≢ wav.channels)

-- a reader's bindings: those of its line, or each of the card's channels
abbrev pub read_by : CardLine → ReaderLine → List ℕ
read_by card line = unwrap_or line.bindings (identity card.channels)

abbrev pub reader_values : CardLine → ReaderLine → Values
reader_values card line = values_of (length (read_by card line)) card.rate line.period line.buffer

-- a reader is opened with a setup, or with none
pub record IsReaderSetup (card : CardLine) (line : ReaderLine) (setup : Setup) : Type 0 where
  pub config : IsChosen card (reader_values card line) (Ok setup.config)
  pub bindings : setup.bindings ≡ read_by card line
  pub params : AreParams setup.config line.start line.stop setup.params
  pub lead : setup.lead ≡ 0

abbrev pub IsReaderOpening : CardLine → ReaderLine → Option Setup → Type 0
IsReaderOpening card line (Some setup) = IsReaderSetup card line setup
IsReaderOpening card line None = (e : Empty) × IsChosen card (reader_values card line) (Err e)

-- each client of a list, with its file
abbrev pub AreClientOpenings : CardLine → List ClientLine → List Sound
    → List (Option Setup) → Type 0
AreClientOpenings card [] [] [] = ⊤
AreClientOpenings card (line ∷ lines) (wav ∷ wavs) (setup ∷ setups) =
    IsClientOpening card line wav setup × AreClientOpenings card lines wavs setups
AreClientOpenings card lines wavs setups = ⊥

-- each reader of a list
abbrev pub AreReaderOpenings : CardLine → List ReaderLine → List (Option Setup) → Type 0
AreReaderOpenings card [] [] = ⊤
AreReaderOpenings card (line ∷ lines) (setup ∷ setups) =
    IsReaderOpening card line setup × AreReaderOpenings card lines setups
AreReaderOpenings card lines setups = ⊥

-- the shape of a card's ring
pub record IsRingOf (card : CardLine) (ring : Geometry) : Type 0 where
  pub frames : ring.frames ≡ card.ring
  pub channels : ring.channels ≡ card.channels
  pub first_lap : ring.first_lap ≡ card.lap

-- a session is that of a script, with the samples of each client's file
pub record IsSessionOf (script : Script) (wavs : List Sound) (session : Session) : Type 0 where
  pub card : session.card ≡ script.card
  pub ring : IsRingOf script.card session.ring
  pub sounds : session.sounds ≡ wavs
  pub clients : AreClientOpenings script.card script.clients wavs session.clients
  pub readers : AreReaderOpenings script.card script.readers session.readers
