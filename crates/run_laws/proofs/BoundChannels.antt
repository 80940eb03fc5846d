-- The clients of a script are bound to channels of the card that differ.
use Rattle.run_laws.specs.Prelude.{arith, inl, inr, List, None, Option, refl, Some, subst, sym, ℕ, [], ◌≡◌, ◌≤◌, get_or_from_slice_get, slice_get_within}
use Rattle.run_laws.specs.Prelude.{IfSome, slice_index_or, unwrap_or, AreBindings, identity, AreBindings-identity, Sound, CardLine, ClientLine, Script}
use Rattle.run_laws.specs.Prelude.{IsBoundWhere, IsClientLine, IsScript, IsClientSetup, IsSessionOf, Session, Setup, AreBound}
use Rattle.bindings.specs.AnswerLaws.{AreBindings-answered}
use Rattle.pcm_interval.specs.declared.interval.Interval.{Interval}
use Rattle.pcm_interval.specs.IntervalLaws.{IsNonEmpty-le, refined-IsWithin_left, refined-IsWithin_right}
use Rattle.pcm_interval.specs.Intervals.{IsLowerWithin, IsUpperWithin, IsIntervalWithin, refinement}
use Rattle.hw_space.specs.declared.param.Param.TheVariants.{Channels}
use Rattle.hw_space.specs.declared.param_box.ParamBox.{ParamBox}
use Rattle.hw_space.specs.Narrowings.{point, with_value}
use Rattle.hw_space.specs.Settled.{IsLeft}
use Rattle.hw_space.specs.Widest.{whole_from_to, widest}
use Rattle.run_laws.proofs.FromFiles.{opened-at}
use Rattle.hw_space.specs.declared.quantity.Quantity.TheVariants as quantity

-- ---- the channels of a file

lower-least : (a b : Interval) → IsLowerWithin a b → b.min ≤ a.min
lower-least a b (inl is) = omega (arith, is)
lower-least a b (inr is) = let same : a.min ≡ b.min = is.0 in omega (arith, same)

upper-most : (a b : Interval) → IsUpperWithin a b → a.max ≤ b.max
upper-most a b (inl is) = omega (arith, is)
upper-most a b (inr is) = let same : a.max ≡ b.max = is.0 in omega (arith, same)

-- a space in which the channels are one number leaves the card's channels at most
left-channels : (channels rate ring n : ℕ) (left : ParamBox) → IsLeft (with_value (widest channels rate ring) Channels n) left → (1 ≤ n) × (n ≤ channels)
left-channels channels rate ring n left is = (
  between 1 n (lower-least part (whole_from_to 1 channels) whole.lower) (upper-most part (point n) one.upper),
  between n channels (lower-least part (point n) one.lower) (upper-most part (whole_from_to 1 channels) whole.upper),
)
  where
    part : Interval
    part = refinement (whole_from_to 1 channels) (point n)

    whole : IsIntervalWithin part (whole_from_to 1 channels)
    whole = refined-IsWithin_left (whole_from_to 1 channels) (point n)

    one : IsIntervalWithin part (point n)
    one = refined-IsWithin_right (whole_from_to 1 channels) (point n)

    within : IsIntervalWithin left.channels part
    within = is.greatest.within.parts quantity.Channels

    between : (u v : ℕ) → u ≤ part.min → part.max ≤ v → u ≤ v
    between u v low high = chain part.min left.channels.min left.channels.max part.max low (lower-least left.channels part within.lower)
        (IsNonEmpty-le left.channels (is.greatest.settled.parts quantity.Channels)) (upper-most left.channels part within.upper) high
      where
        chain : (w x y z : ℕ) → u ≤ w → w ≤ x → x ≤ y → y ≤ z → z ≤ v → u ≤ v
        chain w x y z one two three four five = omega (arith, one, two, three, four, five)

-- ---- the clients of a script

-- a client's file has a channel, and no more than the card
pub setup-channels : (card : CardLine) (line : ClientLine) (wav : Sound) (setup : Setup) → IsClientSetup card line wav setup
    → (1 ≤ wav.channels) × (wav.channels ≤ card.channels)
setup-channels card line wav setup opening = left-channels card.channels card.rate card.ring wav.channels opening.config.1.0 opening.config.1.1

opening-bound : (card : CardLine) (line : ClientLine) (wav : Sound) (setup : Setup) → card.channels ≤ 8 → IsClientLine card line → IsClientSetup card line wav setup
    → AreBindings setup.bindings
opening-bound card line wav setup few is opening = subst AreBindings (sym opening.bindings) (by_line line.bindings is.bindings)
  where
    channels : (1 ≤ wav.channels) × (wav.channels ≤ card.channels)
    channels = setup-channels card line wav setup opening

    by_line : (o : Option (List ℕ)) → IsBoundWhere card.channels o → AreBindings (unwrap_or o (identity wav.channels))
    by_line None bound = AreBindings-identity wav.channels channels.0 (omega (arith, channels.1, few))
    by_line (Some list) bound = AreBindings-answered list card.channels (omega (arith, few)) bound

pub script-bound : (script : Script) (wavs : List Sound) (session : Session) → IsScript script → IsSessionOf script wavs session → AreBound session
script-bound script wavs session is of_script number = by_setup (slice_index_or session.clients number None) refl
  where
    by_setup : (setup : Option Setup) → slice_index_or session.clients number None ≡ setup → IfSome setup (λ (s : Setup). AreBindings s.bindings)
    by_setup None none = tt
    by_setup (Some s) setup_is =
        let opened = opened-at script.card script.clients wavs session.clients number s of_script.clients setup_is in
        opening-bound script.card opened.line opened.wav s is.card.channels.high
        (subst (IsClientLine script.card) (get_or_from_slice_get script.clients number opened.line opened.line opened.line_is)
        (is.each_client number opened.line (slice_get_within script.clients number opened.line opened.line_is))) opened.opening
