use Rattle.plug_chain.specs.Prelude.{ap, arith, drop, FitsSigned, get_or, pos, rules, [], ◌++◌, ◌+◌, ◌∙◌, ◌∷◌, ◌≡◌, to_z-of_z, w16, frame_between, on_line}
use Rattle.plug_chain.proofs.Courses.{Extends-more}
use Rattle.plug_chain.proofs.Lines.{between-step}
use Rattle.plug_chain.proofs.interpolation.push_between.Goals as goal

pub loop-channel-preserved : goal.loop-channel-preserved
loop-channel-preserved c =
    let from_fits : FitsSigned w16 (get_or c.args.from.now c.loop-channel.channel (pos 0)) = search rules in
    let to_fits : FitsSigned w16 (get_or c.args.to.now c.loop-channel.channel (pos 0)) = search rules in
    let fits : FitsSigned w16 c.sample_between.result = search rules in
    let sample : c.sample_between.result ≡ on_line c.args.part c.args.parts (get_or c.args.from.now c.loop-channel.channel (pos 0)) (get_or c.args.to.now c.loop-channel.channel (pos 0)) = simp to_z-of_z at c.sample_between.ensures in
    let grown : c.push.new.self.items ≡ c.loop-channel.out.items ++ c.sample_between.result ∷ [] = simp to_z-of_z at c.in_ok-push.ensures.items in
    record {
      rest = ap (λ xs. xs ++ frame_between c.args.part c.args.parts (drop (c.loop-channel.channel + 1) c.args.from.now) (drop (c.loop-channel.channel + 1) c.args.to.now)) grown
          ∙ between-step c.args.part c.args.parts c.loop-channel.channel c.args.from.now c.args.to.now c.loop-channel.out.items (c.args.out.now.items ++ frame_between c.args.part c.args.parts c.args.from.now c.args.to.now)
          c.sample_between.result (omega arith) c.requires.channels sample c.loop-channel.invariant.rest;
      grows = Extends-more c.args.out.now.items c.loop-channel.out.items c.push.new.self.items (c.sample_between.result ∷ []) c.loop-channel.invariant.grows grown;
    }
