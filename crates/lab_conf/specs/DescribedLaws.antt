-- What was put has the lines of the only device that the file defines under the name.
use Rattle.std.proofs.Common.{◌≡◌, ℕ, List, ◌++◌, sym, ap, ◌∙◌}
use Rattle.std.specs.Prelude.{Option, Ok}
use Rattle.std.specs.Option.{ForSome, option_map}
use Rattle.asound_conf.specs.declared.plugin.Device.{Device}
use Rattle.asound_conf.specs.Text.{device_text}
use Rattle.lab_shelf.specs.Files.{Files}
use Rattle.lab_conf.specs.Described.{IsDescribed, IsOnlyDevice, device_in}

-- a configuration has one device of a name
pub Described-only : (file name : List ℕ) (before after : Option Files) (taken took : Option (List ℕ)) → IsDescribed file name before after taken took
    → ForSome before (λ files. (device : Device) → device_in files file name ≡ Ok device → IsOnlyDevice after files taken took device)
Described-only file name before after taken took done files is device read =
    let held : Ok done.is_text.device ≡ Ok device = sym (done.is_text.read files is) ∙ read in
    let same : done.is_text.device ≡ device = cc in
    record {
      files = done.files ∙ is;
      text = done.put ∙ ap (λ text. option_map (λ t. t ++ text) taken) (done.is_text.lines ∙ ap device_text same);
    }
