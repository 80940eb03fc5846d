use Rattle.std.proofs.Common.{◌≡◌, ◌≤◌, ◌∙◌, subst, ap}
use Rattle.snd_base.specs.declared.places.Cursor.{Cursor}
use Rattle.snd_base.specs.Places.{end_frame, lap}
use Rattle.card_player.specs.Plays.{frame_of, geometry_of}
use Rattle.card_player.proofs.Laps.{end_frame-above}
use Rattle.card_player.proofs.player.CardPlayer.take_frame.Goals as goal

pub take_frame_at-requires-clause-fits : goal.take_frame_at-requires-clause-fits
take_frame_at-requires-clause-fits c =
    let frame : c.next.result.frame ≡ frame_of c.args.self.now = ap (λ (w : Cursor). w.frame) c.next.ensures.value in
    let same : c.lap.result ≡ lap (geometry_of c.args.self.now) (frame_of c.args.self.now) =
    c.lap.ensures ∙ (ap (λ g. lap g c.next.result.frame) c.geometry-geometry.ensures ∙ ap (λ f. lap (geometry_of c.args.self.now) f) frame) in
    end_frame-above (geometry_of c.args.self.now) (frame_of c.args.self.now)
    (subst (λ f. f ≤ end_frame (geometry_of c.args.self.now)) frame c.next.ensures.within.most)
    (λ last. c.if-lap-eq4294967295.false (same ∙ last))
