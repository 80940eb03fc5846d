-- What contracts see of the code's parts.
use Rattle.plug_chain.specs.declared.converter.Converter.{Converter}
use Rattle.plug_chain.specs.declared.converter.Progress.{Progress}
use Rattle.plug_chain.specs.Frames.{Conversion}
use Rattle.plug_chain.specs.Held.{samples_of, part_bytes}
use Rattle.plug_chain.specs.Plugs.{Stage}

-- how a converter converts
abbrev pub conversion_of : Converter → Conversion
conversion_of c = record { from = c.from; table = c.table; rates = c.rates }

-- how far it has come
abbrev pub stage_of : Converter → Progress → Stage
stage_of c p =
    record {
      conversion = conversion_of c;
      part = part_bytes p.part;
      last = samples_of p.course.last;
      place = p.course.place;
    }
