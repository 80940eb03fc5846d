use Rattle.lab_readers.specs.Prelude.{ap, subst, sym, ◌∙◌, CaptureStream, configured_with, Setup, IsUsable}
use Rattle.lab_readers.proofs.Params.{params-taken}
use Rattle.lab_readers.proofs.stream.set_up.Goals as goal

pub unreachable-requires : goal.unreachable-requires
unreachable-requires c =
    let inside = c.opening.inside in
    let setup : Setup = record { config = inside.config; bindings = inside.bindings; params = inside.params; lead = inside.lead } in
    let usable : IsUsable c.args.geometry.channels c.args.geometry.frames setup =
    subst (IsUsable c.args.geometry.channels c.args.geometry.frames) (sym c.opening.view_is) c.requires in
    let is = c.in_ok-hw_params.ensures.ok ∙ ap (λ (r : CaptureStream). configured_with r setup.config setup.bindings) c.new-reader.ensures in
    params-taken c.args.geometry setup c.hw_params.new.self c.sw_params.result c.in_default.field-0 usable is c.sw_params.ensures.checked c.in_default.is
