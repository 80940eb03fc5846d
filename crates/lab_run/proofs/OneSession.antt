-- A script has one session on its clients' files: with what an actor is opened is settled by the card, its line and its file.
use Rattle.lab_run.specs.Prelude.{ap, inl, inr, length, None, Option, refl, Some, subst, sym, ℕ, ◌∙◌, ◌≡◌, ◌≤◌, Err, List, Ok, Result, [], ◌∷◌, Geometry, Sound}
use Rattle.lab_run.specs.Prelude.{Script, Session}
use Rattle.std.proofs.Props.{props}
use Rattle.pcm_interval.specs.declared.empty.Empty.{Empty}
use Rattle.hw_space.specs.declared.config.Config.{Config}
use Rattle.hw_space.specs.declared.param_box.ParamBox.{ParamBox}
use Rattle.hw_space.specs.ChoiceLaws.{IsChoice-unique, Leaves-unique}
use Rattle.hw_space.specs.Choices.{IsChoice}
use Rattle.hw_space.specs.Narrowings.{with_value}
use Rattle.hw_space.specs.Settled.{Leaves}
use Rattle.hw_space.specs.Widest.{widest}
use Rattle.sw_limits.specs.declared.params.SwParams.{SwParams}
use Rattle.sw_limits.specs.BoundaryLaws.{IsBoundary-unique}
use Rattle.lab_lines.specs.declared.script.CardLine.{CardLine}
use Rattle.lab_lines.specs.declared.script.ClientLine.{ClientLine}
use Rattle.lab_lines.specs.declared.script.ReaderLine.{ReaderLine}
use Rattle.lab_lines.specs.declared.script.Stop.{Stop}
use Rattle.lab_lines.specs.declared.script.Stop.TheVariants.{At, Never}
use Rattle.lab_run.specs.Openings.{AreClientOpenings, AreParams, AreReaderOpenings, client_values, IsChosen, IsClientOpening, IsNarrowed, IsReaderOpening, IsRingOf, IsSessionOf, IsStop, reader_values, Values}
use Rattle.lab_run.specs.Stage.{Setup}

-- ---- configurations

boxes-same : (b d e : ParamBox) → Leaves b (Some d) → Leaves b (Some e) → d ≡ e
boxes-same b d e one other = let same : Some d ≡ Some e = Leaves-unique b (Some d) (Some e) one other in cc

-- a space narrowed to values leaves one box, or nothing
IsNarrowed-unique : (b : ParamBox) (values : Values) (o p : Option ParamBox) → IsNarrowed b values o → IsNarrowed b values p → o ≡ p
IsNarrowed-unique b [] o p one other = one ∙ sym other
IsNarrowed-unique b ((param, value) ∷ more) (Some x) (Some y) one other = IsNarrowed-unique other.0 more (Some x) (Some y)
    (subst (λ (d : ParamBox). IsNarrowed d more (Some x)) (boxes-same (with_value b param value) one.0 other.0 one.1 other.1) one.2) other.2
IsNarrowed-unique b ((param, value) ∷ more) (Some x) None one (inl none) =
    let same : Some one.0 ≡ None = Leaves-unique (with_value b param value) (Some one.0) None one.1 none in absurd (cc)
IsNarrowed-unique b ((param, value) ∷ more) (Some x) None one (inr other) = IsNarrowed-unique other.0 more (Some x) None
    (subst (λ (d : ParamBox). IsNarrowed d more (Some x)) (boxes-same (with_value b param value) one.0 other.0 one.1 other.1) one.2) other.2
IsNarrowed-unique b ((param, value) ∷ more) None (Some y) (inl none) other =
    let same : Some other.0 ≡ None = Leaves-unique (with_value b param value) (Some other.0) None other.1 none in absurd (cc)
IsNarrowed-unique b ((param, value) ∷ more) None (Some y) (inr one) other = IsNarrowed-unique other.0 more None (Some y)
    (subst (λ (d : ParamBox). IsNarrowed d more None) (boxes-same (with_value b param value) one.0 other.0 one.1 other.1) one.2) other.2
IsNarrowed-unique b ((param, value) ∷ more) None None one other = refl

-- how the choice ends on what is left
abbrev EndsAt : ℕ → Option ParamBox → Result Config Empty → Type 0
EndsAt period None r = (e : Empty) × (r ≡ Err e)
EndsAt period (Some left) r = IsChoice left period r

abbrev card_space : CardLine → ParamBox
card_space card = widest card.channels card.rate card.ring

-- a configuration: what is left, and the choice on it
steps_of : (card : CardLine) (values : Values) (r : Result Config Empty) → IsChosen card values r
    → (o : Option ParamBox) × IsNarrowed (card_space card) values o × EndsAt card.period o r
steps_of card values (Ok config) is = (Some is.0, is.1, is.2)
steps_of card values (Err e) (inl none) = (None, none, (e, refl))
steps_of card values (Err e) (inr (left, narrowed, chosen)) = (Some left, narrowed, chosen)

EndsAt-unique : (period : ℕ) (o : Option ParamBox) (r s : Result Config Empty) → EndsAt period o r → EndsAt period o s → r ≡ s
EndsAt-unique period None r s one other = one.1 ∙ sym other.1
EndsAt-unique period (Some left) r s one other = IsChoice-unique left period r s one other

-- a card and values have one configuration, or none
IsChosen-unique : (card : CardLine) (values : Values) (r s : Result Config Empty) → IsChosen card values r → IsChosen card values s → r ≡ s
IsChosen-unique card values r s one other =
    let x = steps_of card values r one in
    let y = steps_of card values s other in
    let same : y.0 ≡ x.0 = IsNarrowed-unique (card_space card) values y.0 x.0 y.1 x.1 in
    EndsAt-unique card.period x.0 r s x.2 (subst (λ (o : Option ParamBox). EndsAt card.period o s) same y.2)

-- ---- parameters

IsStop-unique : (config : Config) (asked : Option Stop) (a b : ℕ) → IsStop config asked a → IsStop config asked b → a ≡ b
IsStop-unique config None a b one other = one ∙ sym other
IsStop-unique config (Some (At frames)) a b one other = one ∙ sym other
IsStop-unique config (Some Never) a b one other = IsBoundary-unique config.buffer_size a b one other

AreParams-unique : (config : Config) (start : ℕ) (stop : Option Stop) (a b : SwParams) → AreParams config start stop a → AreParams config start stop b → a ≡ b
AreParams-unique config start stop a b one other =
    let stops : a.stop_threshold ≡ b.stop_threshold = IsStop-unique config stop a.stop_threshold b.stop_threshold one.stop other.stop in
    λ k. record {
      start_threshold = (one.start ∙ sym other.start) k;
      stop_threshold = stops k;
      avail_min = (one.avail_min ∙ sym other.avail_min) k;
    }

-- ---- openings

-- a stream's setups are one, where their parts are
setup-same : (a b : Setup) → a.config ≡ b.config → a.bindings ≡ b.bindings → a.params ≡ b.params → a.lead ≡ b.lead → a ≡ b
setup-same a b config bindings params lead = λ k. record { config = config k; bindings = bindings k; params = params k; lead = lead k }

opened-same : (card : CardLine) (values : Values) (start : ℕ) (stop : Option Stop) (a b : Setup) → IsChosen card values (Ok a.config) → IsChosen card values (Ok b.config)
    → AreParams a.config start stop a.params → AreParams b.config start stop b.params → a.bindings ≡ b.bindings → a.lead ≡ b.lead → a ≡ b
opened-same card values start stop a b one other params others bindings lead =
    let same : Ok a.config ≡ Ok b.config = IsChosen-unique card values (Ok a.config) (Ok b.config) one other in
    let config : a.config ≡ b.config = cc in
    setup-same a b config bindings
    (AreParams-unique b.config start stop a.params b.params (subst (λ (c : Config). AreParams c start stop a.params) config params) others) lead

-- values that leave a configuration don't leave none
not-both : (card : CardLine) (values : Values) (config : Config) (e : Empty) → IsChosen card values (Ok config) → IsChosen card values (Err e) → ⊥
not-both card values config e one none = let same : Ok config ≡ Err e = IsChosen-unique card values (Ok config) (Err e) one none in absurd (cc)

-- a client is opened with one setup, or with none
pub IsClientOpening-unique : (card : CardLine) (line : ClientLine) (wav : Sound) (a b : Option Setup)
    → IsClientOpening card line wav a → IsClientOpening card line wav b → a ≡ b
IsClientOpening-unique card line wav (Some a) (Some b) one other = ap (λ x. Some x) (opened-same card (client_values line wav) line.start line.stop a b
    one.config other.config one.params other.params (one.bindings ∙ sym other.bindings) (one.lead ∙ sym other.lead))
IsClientOpening-unique card line wav (Some a) None one (inl none) = absurd (not-both card (client_values line wav) a.config none.0 one.config none.1)
IsClientOpening-unique card line wav (Some a) None one (inr other) = absurd (other (ap length (sym one.bindings) ∙ one.channels))
IsClientOpening-unique card line wav None (Some b) (inl none) other = absurd (not-both card (client_values line wav) b.config none.0 other.config none.1)
IsClientOpening-unique card line wav None (Some b) (inr one) other = absurd (one (ap length (sym other.bindings) ∙ other.channels))
IsClientOpening-unique card line wav None None one other = refl

pub IsReaderOpening-unique : (card : CardLine) (line : ReaderLine) (a b : Option Setup) → IsReaderOpening card line a → IsReaderOpening card line b → a ≡ b
IsReaderOpening-unique card line (Some a) (Some b) one other = ap (λ x. Some x) (opened-same card (reader_values card line) line.start line.stop a b
    one.config other.config one.params other.params (one.bindings ∙ sym other.bindings) (one.lead ∙ sym other.lead))
IsReaderOpening-unique card line (Some a) None one none = absurd (not-both card (reader_values card line) a.config none.0 one.config none.1)
IsReaderOpening-unique card line None (Some b) none other = absurd (not-both card (reader_values card line) b.config none.0 other.config none.1)
IsReaderOpening-unique card line None None one other = refl

-- the clients of a script, and its readers, are opened with the same setups
AreClientOpenings-unique : (card : CardLine) (lines : List ClientLine) (wavs : List Sound) (a b : List (Option Setup))
    → AreClientOpenings card lines wavs a → AreClientOpenings card lines wavs b → a ≡ b
AreClientOpenings-unique card [] [] [] [] one other = refl
AreClientOpenings-unique card (line ∷ lines) (wav ∷ wavs) (x ∷ a) (y ∷ b) one other =
    let first : x ≡ y = IsClientOpening-unique card line wav x y one.0 other.0 in
    let others : a ≡ b = AreClientOpenings-unique card lines wavs a b one.1 other.1 in
    λ k. first k ∷ others k
AreClientOpenings-unique card [] [] [] (y ∷ b) one other = absurd other
AreClientOpenings-unique card (line ∷ lines) (wav ∷ wavs) (x ∷ a) [] one other = absurd other
AreClientOpenings-unique card lines wavs a b one other = absurd one

AreReaderOpenings-unique : (card : CardLine) (lines : List ReaderLine) (a b : List (Option Setup))
    → AreReaderOpenings card lines a → AreReaderOpenings card lines b → a ≡ b
AreReaderOpenings-unique card [] [] [] one other = refl
AreReaderOpenings-unique card (line ∷ lines) (x ∷ a) (y ∷ b) one other =
    let first : x ≡ y = IsReaderOpening-unique card line x y one.0 other.0 in
    let others : a ≡ b = AreReaderOpenings-unique card lines a b one.1 other.1 in
    λ k. first k ∷ others k
AreReaderOpenings-unique card [] [] (y ∷ b) one other = absurd other
AreReaderOpenings-unique card (line ∷ lines) (x ∷ a) [] one other = absurd other
AreReaderOpenings-unique card lines a b one other = absurd one

-- ---- rings

-- the numbers of a ring, and that they are in their ranges
abbrev InRange : ℕ × ℕ × ℕ → Type 0
InRange n = (64 ≤ n.0) × (n.0 ≤ 16384) × (1 ≤ n.1) × (n.1 ≤ 8) × (n.2 ≤ 4294967294)

abbrev numbers : Geometry → ℕ × ℕ × ℕ
numbers g = (g.frames, g.channels, g.first_lap)

abbrev ranges : (g : Geometry) → InRange (numbers g)
ranges g = (g.frames_least, g.frames_most, g.channels_least, g.channels_most, g.first_lap_most)

InRange-prop : (n : ℕ × ℕ × ℕ) → IsProp (InRange n)
InRange-prop n = hlevel props

abbrev geometry_of : (n : ℕ × ℕ × ℕ) → InRange n → Geometry
geometry_of n fits = record {
  frames = n.0;
  channels = n.1;
  first_lap = n.2;
  frames_least = fits.0;
  frames_most = fits.1;
  channels_least = fits.2;
  channels_most = fits.3;
  first_lap_most = fits.4;
}

geometry_of-unique : (n m : ℕ × ℕ × ℕ) → n ≡ m → (a : InRange n) (b : InRange m) → geometry_of n a ≡ geometry_of m b
geometry_of-unique n m same a =
    subst (λ k. (b : InRange k) → geometry_of n a ≡ geometry_of k b) same (λ b. ap (geometry_of n) (InRange-prop n a b))

-- a card has one ring
pub IsRingOf-unique : (card : CardLine) (a b : Geometry) → IsRingOf card a → IsRingOf card b → a ≡ b
IsRingOf-unique card a b one other =
    let same : numbers a ≡ numbers b =
    λ k. ((one.frames ∙ sym other.frames) k, (one.channels ∙ sym other.channels) k, (one.first_lap ∙ sym other.first_lap) k) in
    geometry_of-unique (numbers a) (numbers b) same (ranges a) (ranges b)

-- ---- sessions

pub IsSessionOf-unique : (script : Script) (wavs : List Sound) (session other : Session)
    → IsSessionOf script wavs session → IsSessionOf script wavs other → session ≡ other
IsSessionOf-unique script wavs session other one two =
    let ring : session.ring ≡ other.ring = IsRingOf-unique script.card session.ring other.ring one.ring two.ring in
    let clients : session.clients ≡ other.clients =
    AreClientOpenings-unique script.card script.clients wavs session.clients other.clients one.clients two.clients in
    let readers : session.readers ≡ other.readers =
    AreReaderOpenings-unique script.card script.readers session.readers other.readers one.readers two.readers in
    λ k. record {
      card = (one.card ∙ sym two.card) k;
      ring = ring k;
      sounds = (one.sounds ∙ sym two.sounds) k;
      clients = clients k;
      readers = readers k;
    }
