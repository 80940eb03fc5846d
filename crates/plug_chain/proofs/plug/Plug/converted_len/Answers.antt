use Rattle.plug_chain.specs.Prelude.{ap, length, subst, sym, ℕ, ◌*◌, ◌/◌, ◌∙◌, ◌≡◌, Conversion, frame_bytes, plug_of, Stage, output_count, conversion_of}
use Rattle.plug_chain.proofs.Lengths.{length-plug_of}
use Rattle.plug_chain.proofs.plug.Plug.converted_len.Goals as goal

pub returns-clause-value : goal.returns-clause-value
returns-clause-value c fed is =
    let by : Conversion = conversion_of c.self.inside.converter in
    let count : output_count by.rates (length fed / frame_bytes by) * by.table.outputs ≡ c.output_count.result * c.from.result =
    ap (λ (n : ℕ). output_count by.rates (n / frame_bytes by) * by.table.outputs) is
    ∙ ap (λ (n : ℕ). output_count by.rates (c.args.bytes / n) * by.table.outputs) (sym c.frame_bytes.ensures.value)
    ∙ ap (λ (n : ℕ). n * by.table.outputs) (sym c.output_count.ensures.value)
    ∙ ap (λ (n : ℕ). c.output_count.result * n) (sym c.outputs.ensures.value ∙ sym c.from.ensures) in
    subst (λ (s : Stage). length (plug_of s.conversion fed) ≡ c.output_count.result * c.from.result) c.self.view_is
    (length-plug_of by fed c.self.invariant.rates ∙ count)
