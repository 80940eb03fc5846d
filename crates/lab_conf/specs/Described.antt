-- The device that a configuration file defines, its lines, and what the command that puts them leaves.
use Rattle.std.specs.Prelude.{◌≡◌, ◌++◌, ℕ, List, [], Option, Some, None, Result, Ok, Err}
use Rattle.std.specs.Option.{ForSome, option_map}
use Rattle.asound_conf.specs.declared.error.ConfError.{ConfError}
use Rattle.asound_conf.specs.declared.plugin.Device.{Device}
use Rattle.asound_conf.specs.Grammar.{conf_of}
use Rattle.asound_conf.specs.Device.{device_of}
use Rattle.asound_conf.specs.Text.{card_line, device_text}
use Rattle.lab_lines.specs.declared.script.Script.{Script}
use Rattle.lab_lines.specs.declared.script.Share.TheVariants as share
use Rattle.lab_script.specs.Reading.{script_of}
use Rattle.lab_shelf.specs.Files.{Files, TookPart}
use Rattle.lab_stop.specs.Causes.{Cause, conf_refused, first_bytes, ◌>>=◌}

-- what a configuration says, or its refusal as a cause
abbrev pub as_conf : {X : Type 0} → Result X ConfError → Result X Cause
as_conf (Ok x) = Ok x
as_conf (Err e) = Err (conf_refused e)

-- the device of a name in the configuration in a file, of which one byte more is fetched than a configuration may have
unfoldable pub device_in : Files → List ℕ → List ℕ → Result Device Cause
device_in files file name = do
  text ← first_bytes files file 1048577
  root ← as_conf (conf_of text)
  as_conf (device_of root name)

-- the script that has a device's card on its first line, with what a card has where it isn't given, and nothing else
abbrev pub card_script : Device → Script
card_script d = record {
  card = record {
    number = 1;
    channels = d.channels;
    rate = d.rate;
    period = d.period;
    ring = d.ring;
    places = 64;
    lap = 0;
    capture = None;
    share = share.Dmix;
  };
  clients = [];
  readers = [];
  body = [];
}

-- a text is a whole script: `read_script` accepts it, as this script
abbrev pub IsScriptText : List ℕ → Script → Type 0
IsScriptText text script = script_of text ≡ Ok script

-- a text has the lines of the device of a name in the configuration in a file, of which the card's line is a whole script
pub record IsDeviceText (files : Option Files) (file name text : List ℕ) : Type 0 where
  pub device : Device
  pub read : ForSome files (λ m. device_in m file name ≡ Ok device)
  pub lines : text ≡ device_text device
  pub card : IsScriptText (card_line device) (card_script device)

-- the lines of the device were put, and no file changed; `taken` is what the output took before, and `took` what it took by now
pub record IsDescribed (file name : List ℕ) (before after : Option Files) (taken took : Option (List ℕ)) : Type 0 where
  pub text : List ℕ
  pub is_text : IsDeviceText before file name text
  pub files : after ≡ before
  pub put : took ≡ option_map (λ t. t ++ text) taken

-- the first bytes of the device's lines were put, and no file changed
pub record DescribedPart (file name : List ℕ) (before after : Option Files) (taken took : Option (List ℕ)) : Type 0 where
  pub text : List ℕ
  pub is_text : IsDeviceText before file name text
  pub files : after ≡ before
  pub put : TookPart taken took text

-- what was put is the one text of a device, and the files are those that were read
pub record IsOnlyDevice (after : Option Files) (was : Files) (taken took : Option (List ℕ)) (device : Device) : Type 0 where
  pub files : after ≡ Some was
  pub text : took ≡ option_map (λ t. t ++ device_text device) taken
