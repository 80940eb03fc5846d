-- The parts of a key as the reader has them: their names are bytes of the text, or numbers.
use Rattle.std.specs.Prelude.{ℕ, List, map, Option, Some, None}
use Rattle.asound_conf.specs.declared.cell.Span.{Span}
use Rattle.asound_conf.specs.declared.part.Part as code
use Rattle.asound_conf.specs.Key.{Part}
use Rattle.asound_conf.specs.Table.{name_in, span_in}

-- the part of a key that a part is
abbrev pub part_in : List ℕ → code.Part → Part
part_in text part = record { removes = part.removes; name = name_in text part.name }

-- the parts of a key
abbrev pub parts_in : List ℕ → List code.Part → List Part
parts_in text parts = map (part_in text) parts

-- the text of an item, where it has one
abbrev pub text_in : List ℕ → Option Span → Option (List ℕ)
text_in text None = None
text_in text (Some span) = Some (span_in text span)
