use Rattle.examples.specs.Prelude.{arith, subst, sym, [], ◌++◌, ◌∙◌, core_of, View, segment_of, HasMixed, member_entries}
use Rattle.examples.proofs.Mixing.{Grows-fresh, HasMixed-written}
use Rattle.examples.proofs.two_clients.write.Goals as goal

pub returns-clause-mixed : goal.returns-clause-mixed
returns-clause-mixed c = λ placed mixed.
    let g = c.args.core.now.geometry in
    let m = c.args.member in
    let client = c.args.client.now in
    let after = c.writei.new.self in
    let samples = c.args.samples.now in
    let turn = c.turn-turn.result in
    let port = c.writei.new.port in
    let grows = Grows-fresh turn port g m client.stream after.stream client.ring samples _ c.requires.fresh c.writei.ensures.keeps.grows in
    let same_core = sym (grows.laid_them.same_core ∙ c.turn-turn.ensures.same_core) in
    let at : HasMixed (core_of turn) placed [] = subst (λ (v : View). HasMixed v placed []) (sym c.turn-turn.ensures.value) mixed in
    subst (λ (v : View). HasMixed v (placed ++ member_entries g m (segment_of after.stream) samples) []) (grind (arith, same_core))
    (HasMixed-written turn port g m client.stream after.stream samples placed [] c.requires.fresh grows at)
