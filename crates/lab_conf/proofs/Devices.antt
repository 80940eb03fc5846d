-- Why the device of a name in a configuration's file can't be had: the file is missing, or the configuration or the device is refused.
use Rattle.std.proofs.Common.{◌≡◌, ◌⊎◌, ℕ, List, ap, sym, subst, inl, inr, ◌∙◌, refl}
use Rattle.std.specs.Prelude.{Option, Result, Ok, Err}
use Rattle.std.specs.Option.{ForSome}
use Rattle.asound_conf.specs.declared.error.ConfError.{ConfError}
use Rattle.asound_conf.specs.declared.error.ConfWhy.{ConfWhy}
use Rattle.asound_conf.specs.declared.error.ConfWhy.TheVariants as why
use Rattle.asound_conf.specs.declared.plugin.Device.{Device}
use Rattle.asound_conf.specs.Device.{device_of}
use Rattle.asound_conf.specs.Grammar.{conf_of}
use Rattle.asound_conf.specs.Reading.{RefusesText}
use Rattle.asound_conf.specs.Tree.{Entries}
use Rattle.lab_shelf.specs.Files.{Files}
use Rattle.lab_stop.specs.declared.stop.Stop.{Stop}
use Rattle.lab_stop.specs.declared.stop.Stop.TheVariants as stops
use Rattle.lab_stop.specs.Causes.{Cause, first_bytes, ◌>>=◌}
use Rattle.lab_stop.specs.Passing.{IsCauseOf-passed}
use Rattle.lab_stop.specs.Stops.{FetchFaults, IsCauseOf, IsConfStop, Misses}
use Rattle.lab_conf.specs.Described.{as_conf, device_in}

-- ---- the stops

-- a stop at a configuration that is refused is for memory, or with the refusal
IsConfStop-either : (cause : ConfWhy) (error : ConfError) (stop : Stop) → IsConfStop cause error stop
    → (stop ≡ stops.Memory) ⊎ (stop ≡ stops.Conf error)
IsConfStop-either why.Memory error stop is = inl is
IsConfStop-either cause error stop is = inr is

-- it is at the cause that is given, if it isn't for memory
IsCauseOf-text : (cause : ConfWhy) (error : ConfError) (stop : Stop) (given : Result Entries ConfError) → RefusesText cause error given → IsConfStop cause error stop
    → IsCauseOf stop (as_conf given)
IsCauseOf-text why.Memory error stop given refuses is = rw is tt
IsCauseOf-text cause error stop given refuses is = rw is (ap as_conf refuses)

-- a stop at a configuration that is refused is at no missing file
pub Misses-conf : {Y : Type 0} (error : ConfError) (stop : Stop) (given : Result Y Cause) → IsConfStop error.why error stop
    → Misses {X = Unit {0}} (Err stop) given
Misses-conf error stop given is = elim (IsConfStop-either error.why error stop is) [ inl e ↦ rw e tt | inr e ↦ rw e tt ]

-- a stop at a configuration that is refused counts no fault
pub FetchFaults-conf : (error : ConfError) (stop : Stop) (before now : ℕ) → IsConfStop error.why error stop
    → now ≡ before → FetchFaults {X = Unit {0}} (Err stop) before now
FetchFaults-conf error stop before now is same = elim (IsConfStop-either error.why error stop is) [ inl e ↦ rw e same | inr e ↦ rw e same ]

-- ---- the device

-- the device in a configuration, where there is one
abbrev device_from : List ℕ → Result Entries Cause → Result Device Cause
device_from name conf = conf >>= λ root. as_conf (device_of root name)

-- the device in a configuration's text, where it is there
abbrev device_at : List ℕ → Result (List ℕ) Cause → Result Device Cause
device_at name bytes = bytes >>= λ text. device_from name (as_conf (conf_of text))

-- the device of a configuration whose bytes are these, or are refused so
pub device_in-text : (files : Files) (file name : List ℕ) (bytes : Result (List ℕ) Cause) → first_bytes files file 1048577 ≡ bytes
    → device_in files file name ≡ device_at name bytes
unfolding device_in
device_in-text files file name bytes is = ap (device_at name) is

device_in-read : (files : Files) (file name text spelled : List ℕ) (conf : Result Entries ConfError)
    → first_bytes files file 1048577 ≡ Ok text → spelled ≡ text → conf_of spelled ≡ conf
    → device_in files file name ≡ device_from name (as_conf conf)
device_in-read files file name text spelled conf read same is =
    device_in-text files file name (Ok text) read
    ∙ ap (λ (t : List ℕ). device_from name (as_conf (conf_of t))) (sym same)
    ∙ ap (λ (c : Result Entries ConfError). device_from name (as_conf c)) is

refused_at : (name : List ℕ) (error : ConfError) (stop : Stop) (conf : Result Entries ConfError)
    → IsCauseOf stop (as_conf conf) → IsCauseOf stop (device_from name (as_conf conf))
refused_at name error stop conf is =
    IsCauseOf-passed stop (as_conf conf) (device_from name (as_conf conf)) (λ e is. ap (device_from name) is) is

-- a stop at a configuration that is refused is at that cause
pub device_in-refused : (files : Option Files) (file name text spelled : List ℕ) (error : ConfError) (stop : Stop)
    → ForSome files (λ m. first_bytes m file 1048577 ≡ Ok text) → spelled ≡ text
    → RefusesText error.why error (conf_of spelled) → IsConfStop error.why error stop
    → ForSome files (λ m. IsCauseOf stop (device_in m file name))
device_in-refused files file name text spelled error stop read same refuses is m told =
    subst (λ (r : Result Device Cause). IsCauseOf stop r) (sym (device_in-read m file name text spelled (conf_of spelled) (read m told) same refl))
    (refused_at name error stop (conf_of spelled) (IsCauseOf-text error.why error stop (conf_of spelled) refuses is))

-- what the device of a configuration that is read is, or why there is none
pub device_in-read_of : (files : Option Files) (file name text spelled : List ℕ) (root : Entries) (found : Result Device ConfError)
    → ForSome files (λ m. first_bytes m file 1048577 ≡ Ok text) → spelled ≡ text → conf_of spelled ≡ Ok root
    → found ≡ device_of root name → ForSome files (λ m. device_in m file name ≡ as_conf found)
device_in-read_of files file name text spelled root found read same is found_is m told =
    device_in-read m file name text spelled (Ok root) (read m told) same is ∙ ap as_conf (sym found_is)

-- a stop at a device that is refused is at that cause
pub device_in-lacks : (files : Option Files) (file name text spelled : List ℕ) (root : Entries) (error : ConfError) (stop : Stop)
    → ForSome files (λ m. first_bytes m file 1048577 ≡ Ok text) → spelled ≡ text → conf_of spelled ≡ Ok root
    → Err error ≡ device_of root name → IsConfStop error.why error stop
    → ForSome files (λ m. IsCauseOf stop (device_in m file name))
device_in-lacks files file name text spelled root error stop read same is lacks stopped m told =
    subst (λ (r : Result Device Cause). IsCauseOf stop r)
    (sym (device_in-read_of files file name text spelled root (Err error) read same is lacks m told))
    (elim (IsConfStop-either error.why error stop stopped) [ inl e ↦ rw e tt | inr e ↦ rw e refl ])
