use Rattle.lab_card.specs.Prelude.{ap, arith, List, Some, sym, ℕ, ℤ, ◌*◌, ◌++◌, ◌+◌, ◌∙◌, ◌≡◌, append-nil, Option, Sound, captured_frame, captured_frames}
use Rattle.lab_card.specs.Prelude.{captured_frames-append}
use Rattle.lab_card.proofs.capture.capture_file.Goals as goal

pub loop-index-preserved : goal.loop-index-preserved
loop-index-preserved c =
    let capture : Option Sound = Some c.args.wav.now in
    let channels : ℕ = c.args.channels in
    let from : ℕ = c.args.from in
    let index : ℕ = c.loop-index.index in
    let was = c.loop-index.invariant in
    let size : (index + 1) * channels ≡ index * channels + channels = omega arith in
    record {
      items = c.push_frame.ensures.items
          ∙ (ap (λ (xs : List ℤ). xs ++ captured_frame capture channels (from + index)) was.items
          ∙ (ap (λ (xs : List ℤ). captured_frames capture channels from index ++ xs) (sym (append-nil (captured_frame capture channels (from + index))))
          ∙ sym (captured_frames-append capture channels from index 1)));
      len = omega (arith, size, was.len, c.push_frame.ensures.len);
      room = omega (arith, was.room, c.push_frame.ensures.room);
    }
