use Rattle.card_sim.specs.Prelude.{ap, refl, sym, [], ◌∙◌, ◌∷◌, ◌≡◌, Cursor, next_of_player, WriterSeat, next_frame, CardPlayer, at_frame, frame_of, seat_of}
use Rattle.card_sim.specs.Prelude.{moment_of, position_of_writer, HasCaptured-published}
use Rattle.card_sim.proofs.Watching.{moment_of-at, position_of_writer-captured, saw-both}
use Rattle.card_sim.proofs.run.publish.Goals as goal

pub returns-clause-watched : goal.returns-clause-watched
returns-clause-watched g c =
    let p : CardPlayer = c.args.player.now in
    let q : CardPlayer = c.publish.new.self in
    let w : WriterSeat = c.args.writer.now in
    let v : WriterSeat = c.publish-2.new.self in
    let did = c.publish.ensures.published in
    let same : frame_of p ≡ next_frame w = ap (λ (x : Cursor). x.frame) c.requires.next in
    let takes : next_of_player (seat_of q) ≡ at_frame (frame_of p) = did.next ∙ (c.requires.next ∙ ap at_frame (sym same)) in
    let stores : next_frame v ≡ frame_of p = ap (λ (x : Cursor). x.frame) c.publish-2.ensures.next ∙ sym same in
    let captured : position_of_writer v ≡ frame_of p =
    position_of_writer-captured w v [] (next_frame w ∷ []) (HasCaptured-published w v c.publish-2.ensures) ∙ sym same in
    saw-both g.W.Watch.saw g.met.W.Watch.saw_composes _ _ _ (moment_of q w) (moment_of q v) _ _ c.see.ensures c.see-2.ensures
    (moment_of-at q w _ _ _ _ (sym same) takes did.position refl)
    (moment_of-at q v _ _ _ _ stores takes did.position captured)
