-- What was read, as contracts see it.
use Rattle.lab_input.specs.declared.input.Input.{Input}
use Rattle.lab_input.specs.Input.{RunInput}

-- the input that was read
abbrev pub input_of : Input → RunInput
input_of input =
    record { script = input.script; capture = input.capture; sounds = input.wavs.items }
