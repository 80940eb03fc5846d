use Rattle.plug_chain.specs.Prelude.{All, ap, arith, FitsSigned, length, map, rules, subst, sym, ℕ, ℤ, [], ◌%◌, ◌*◌, ◌++◌, ◌/◌, ◌∙◌, ◌∷◌, ◌≡◌, to_z-of_z}
use Rattle.plug_chain.specs.Prelude.{length-map-range_with_len, map-range_with_len_more, err_from_is_err_and, w32, range_with_len, IsWeight, usual_weight}
use Rattle.std.proofs.lemmas.List.Elements.{All-append, All-cons, All-nil}
use Rattle.plug_chain.proofs.table.Table.usual.Goals as goal

abbrev weight_at : ℕ → ℕ → ℕ → ℤ
weight_at inputs outputs place = usual_weight inputs outputs (place / inputs) (place % inputs)

pub loop-place-preserved : goal.loop-place-preserved
loop-place-preserved c =
    let fits : FitsSigned w32 c.usual_weight.result = search rules in
    let grown : c.push.new.self.items ≡ c.loop-place.weights.items ++ c.usual_weight.result ∷ [] = simp to_z-of_z at c.in_ok-push.ensures.items in
    record {
      weights = rw (grown, c.loop-place.invariant.weights, c.usual_weight.ensures.value)
          (sym (map-range_with_len_more (weight_at c.args.inputs c.args.outputs) 0 c.loop-place.place c.loop-place.place (omega arith)));
      each = subst (All IsWeight) (sym grown) (All-append IsWeight c.loop-place.weights.items (c.usual_weight.result ∷ []) c.loop-place.invariant.each (All-cons IsWeight c.usual_weight.result [] c.usual_weight.ensures.within (All-nil IsWeight)));
    }

pub invariant_of-result : goal.invariant_of-result
invariant_of-result c = record {
  some_input = c.requires.some_input;
  few_inputs = c.requires.few_inputs;
  some_output = c.requires.some_output;
  few_outputs = c.requires.few_outputs;
  each_pair = omega (arith, ap length c.loop-place.invariant.weights, length-map-range_with_len (weight_at c.args.inputs c.args.outputs) 0 c.loop-place.place);
  each_weight = c.loop-place.invariant.each;
}

pub usual_weight-requires : goal.usual_weight-requires
usual_weight-requires c = c.requires.some_input

pub returns-in_err-push : goal.returns-in_err-push
returns-in_err-push c =
    let p = err_from_is_err_and c.from_residual.result c.from_residual.ensures.1 in
    record {
      ok = rw p.1 tt;
      only_memory = rw p.1 p.2;
    }

pub returns-clause-ok : goal.returns-clause-ok
returns-clause-ok c =
    let all : c.loop-place.place ≡ c.args.inputs * c.args.outputs = omega arith in
    ap (λ weights. record { inputs = c.args.inputs; outputs = c.args.outputs; weights = weights })
    (c.loop-place.invariant.weights ∙ ap (λ n. map (weight_at c.args.inputs c.args.outputs) (range_with_len 0 n)) all)
