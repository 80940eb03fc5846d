-- The answers to a request: a line for each that it asks, about the boxes that the narrowings leave.
use Rattle.std.specs.Prelude.{◌≡◌, ℕ, ◌++◌, List, [], ◌∷◌, codes, Option, Some, None, unwrap_or, Result, Ok, Err}
use Rattle.std.specs.Fmt.{decimal}
use Rattle.hw_space.specs.declared.config.Config.{Config}
use Rattle.hw_space.specs.declared.param.Param.{Param}
use Rattle.hw_space.specs.declared.param.ParamKind.{ParamKind}
use Rattle.hw_space.specs.declared.param.ParamKind.TheVariants as kinds
use Rattle.hw_space.specs.declared.param_box.ParamBox.{ParamBox}
use Rattle.hw_space.specs.Boxes.{part}
use Rattle.hw_space.specs.Params.{kind_of}
use Rattle.hw_space.specs.Narrowings.{with_value, with_min, with_max, with_integer, LeavesNear}
use Rattle.hw_space.specs.Choices.{IsChoice}
use Rattle.pcm_interval.specs.declared.empty.Empty.{Empty}
use Rattle.hw_space.specs.Settled.{IsGreatest, Leaves}
use Rattle.hw_space.specs.Widest.{widest}
use Rattle.lab_refine.specs.declared.request.Ask.{Ask}
use Rattle.lab_refine.specs.declared.request.Ask.TheVariants as asks
use Rattle.lab_refine.specs.declared.request.Request.{Request}
use Rattle.lab_refine.specs.Params.{param_name}
use Rattle.lab_refine.specs.Values.{interval_text, mask_text}

-- what a parameter may still be
abbrev pub kind_text : ParamBox → ParamKind → List ℕ
kind_text b kinds.Access = mask_text b.access
kind_text b kinds.Format = mask_text b.format
kind_text b (kinds.Number q) = interval_text (part b q)

-- the line of a parameter
abbrev pub value_line : ParamBox → Param → List ℕ
value_line b param = codes "ok " ++ (param_name param ++ (codes " " ++ (kind_text b (kind_of param) ++ 10 ∷ [])))

-- the line of a narrowing that leaves nothing
abbrev pub empty_line : List ℕ
empty_line = codes "empty" ++ 10 ∷ []

-- the line of a configuration
abbrev pub choice_line : Config → List ℕ
choice_line c =
    codes "choice channels " ++ (decimal c.channels ++ (codes " rate " ++ (decimal c.rate
    ++ (codes " period " ++ (decimal c.period_size ++ (codes " buffer " ++ (decimal c.buffer_size
    ++ (codes " periods " ++ (decimal c.periods ++ 10 ∷ [])))))))))

-- the line where none can be chosen
abbrev pub no_choice_line : List ℕ
no_choice_line = codes "choice empty" ++ 10 ∷ []

-- the line of what a narrowing leaves of a parameter, or that it leaves nothing
abbrev pub left_line : Param → Option ParamBox → List ℕ
left_line param (Some b) = value_line b param
left_line param None = empty_line

-- the line of the configuration that is chosen, if there is one
abbrev pub chosen_line : Result Config Empty → List ℕ
chosen_line (Ok config) = choice_line config
chosen_line (Err e) = no_choice_line

-- the answer to a narrowing says what is left of the parameter; where nothing is left, the box is as before
pub record IsNarrowing (leaves : Option ParamBox → Type 0) (param : Param) (old : ParamBox) (line : List ℕ)
    (new : ParamBox) : Type 0 where
  pub left : Option ParamBox
  pub is_left : leaves left
  pub is_line : line ≡ left_line param left
  pub stays : new ≡ unwrap_or left old

-- the answer to a choice is the configuration that is chosen, if there is one; the box stays
pub record IsChoosing (chooses : Result Config Empty → Type 0) (old : ParamBox) (line : List ℕ) (new : ParamBox) : Type 0
  where
    pub choice : Result Config Empty
    pub is_choice : chooses choice
    pub is_line : line ≡ chosen_line choice
    pub stays : new ≡ old

-- a parameter is shown; the box stays
pub record IsShowing (param : Param) (old : ParamBox) (line : List ℕ) (new : ParamBox) : Type 0 where
  pub is_line : line ≡ value_line old param
  pub stays : new ≡ old

-- a line answers what is asked of a box, and another box is left; a choice takes its period size nearest to the slave's period
abbrev pub IsAnswer : ℕ → ParamBox → Ask → List ℕ → ParamBox → Type 0
IsAnswer period old (asks.Set param value) line new = IsNarrowing (Leaves (with_value old param value)) param old line new
IsAnswer period old (asks.Min param value) line new = IsNarrowing (Leaves (with_min old param value)) param old line new
IsAnswer period old (asks.Max param value) line new = IsNarrowing (Leaves (with_max old param value)) param old line new
IsAnswer period old (asks.Near param value) line new = IsNarrowing (LeavesNear old param value) param old line new
IsAnswer period old (asks.Integer param) line new = IsNarrowing (Leaves (with_integer old param)) param old line new
IsAnswer period old (asks.Show param) line new = IsShowing param old line new
IsAnswer period old asks.Choose line new = IsChoosing (IsChoice old period) old line new

-- a line answers the first that is asked, and the rest of the text the others
pub record AnswersFirst (period : ℕ) (old : ParamBox) (ask : Ask) (follows : ParamBox → List ℕ → Type 0)
    (text : List ℕ) : Type 0 where
  pub line : List ℕ
  pub rest : List ℕ
  pub next : ParamBox
  pub answers : IsAnswer period old ask line next
  pub others : follows next rest
  pub is_text : text ≡ line ++ rest

-- a text answers what is asked of a box, line by line, each line of the box that the one before left
abbrev pub Answers : ℕ → ParamBox → List Ask → List ℕ → ParamBox → Type 0
Answers period old [] text new = (text ≡ []) × (new ≡ old)
Answers period old (ask ∷ asks) text new = AnswersFirst period old ask (λ next rest. Answers period next asks rest new) text

-- a text has the answers to a request, which begin with the greatest settled box within the widest one of its slave
pub record AreAnswers (request : Request) (text : List ℕ) : Type 0 where
  pub first : ParamBox
  pub last : ParamBox
  pub begins : IsGreatest (widest request.slave.channels request.slave.rate request.slave.ring) first
  pub answered : Answers request.slave.period first request.asks text last

-- a line that answers what was asked was appended to a text
pub record IsAppended (period : ℕ) (old new : ParamBox) (ask : Ask) (before after : List ℕ) : Type 0 where
  pub line : List ℕ
  pub answers : IsAnswer period old ask line new
  pub put : after ≡ before ++ line
