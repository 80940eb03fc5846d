use Rattle.card_sim.specs.Prelude.{ap, arith, drop, List, refl, subst, sym, take, ℕ, ℤ, [], ◌+◌, ◌-◌, ◌∙◌, ◌≡◌, Cursor, next_of_player, WriterSeat, next_frame}
use Rattle.card_sim.specs.Prelude.{CardPlayer, at_frame, frame_of, geometry_of, seat_of, moment_of, position_of_writer, HasCaptured-stored, HasCaptured}
use Rattle.std.proofs.lemmas.List.{drop-take}
use Rattle.std.specs.Prelude.{slice_range}
use Rattle.sum_table.specs.declared.view.Key.{Key}
use Rattle.card_sim.proofs.Watching.{moment_of-at, position_of_writer-captured, saw-both}
use Rattle.card_sim.proofs.run.run_frame.Goals as goal

-- the samples from an index on, and so many of them
range_is : (at n m : ℕ) (xs : List ℤ) → n ≡ m → slice_range xs at (at + n) ≡ drop at (take (at + m) xs)
range_is at n m xs same =
    let count : at + n - at ≡ m = omega (arith, same) in
    ap (λ (k : ℕ). take k (drop at xs)) count ∙ sym (drop-take at m xs)

pub returns-clause-runs : goal.returns-clause-runs
returns-clause-runs g c =
    let stored : HasCaptured c.args.writer.now c.store_frame.new.self (drop c.args.at (take (c.args.at + (geometry_of c.args.player.now).channels) c.args.captured.now)) [] =
    subst (λ (xs : List ℤ). HasCaptured c.args.writer.now c.store_frame.new.self xs [])
    (range_is c.args.at c.args.channels (geometry_of c.args.player.now).channels c.args.captured.now c.requires.channels)
    (HasCaptured-stored c.args.writer.now c.store_frame.new.self (slice_range c.args.captured.now c.args.at (c.args.at + c.args.channels)) c.in-Ok.ensures.ok) in
    record {
      stored = stored;
      takes = c.take_frame_of.ensures;
      in_step = record {
        geometry = ap (λ (k : Key). k.geometry) c.take_frame_of.ensures.played.goes.key ∙ (c.requires.in_step.geometry ∙ sym c.in-Ok.ensures.ok.geometry);
        next = c.take_frame_of.ensures.next ∙ sym (ap (λ (w : Cursor). record { frame = w.frame; channel = 0 }) c.in-Ok.ensures.ok.next ∙ ap (λ (n : ℕ). at_frame (n + 1)) (sym (ap (λ (w : Cursor). w.frame) c.requires.in_step.next)));
      };
    }

pub returns-clause-watched : goal.returns-clause-watched
returns-clause-watched g c =
    let p : CardPlayer = c.args.player.now in
    let w : WriterSeat = c.args.writer.now in
    let v : WriterSeat = c.store_frame.new.self in
    let q : CardPlayer = c.take_frame_of.new.self in
    let same : frame_of p ≡ next_frame w = ap (λ (x : Cursor). x.frame) c.requires.in_step.next in
    let takes : next_of_player (seat_of p) ≡ at_frame (frame_of p) = c.requires.in_step.next ∙ ap at_frame (sym same) in
    let stores : next_frame v ≡ frame_of p + 1 = ap (λ (x : Cursor). x.frame) c.in-Ok.ensures.ok.next ∙ ap (λ (n : ℕ). n + 1) (sym same) in
    let captured : position_of_writer v ≡ position_of_writer w =
    position_of_writer-captured w v _ [] (HasCaptured-stored w v _ c.in-Ok.ensures.ok) in
    saw-both g.W.Watch.saw g.met.W.Watch.saw_composes _ _ _ (moment_of p v) (moment_of q v) _ _ c.see.ensures c.see-2.ensures
    (moment_of-at p v _ _ _ _ stores takes refl captured)
    (moment_of-at q v _ _ _ _ stores c.take_frame_of.ensures.next c.take_frame_of.ensures.played.position captured)
