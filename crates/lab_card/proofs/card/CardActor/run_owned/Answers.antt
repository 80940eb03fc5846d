use Rattle.lab_card.specs.Prelude.{ap, arith, drop, length, List, take, ℕ, ℤ, ◌*◌, ◌++◌, ◌+◌, ◌-◌, ◌∙◌, ◌≡◌, length-append, length-drop, option_copied, Option}
use Rattle.lab_card.specs.Prelude.{pos, replicate, post_of, Geometry, first_frame, Sound, CardActor, captured_frames, frame_of_card, frames_since_first}
use Rattle.lab_card.specs.Prelude.{geometry_of_card}
use Rattle.std.specs.Vec.{with_items}
use Rattle.lab_card.proofs.Running.{CardDid-run, last-part, last-written, refilled, whole-frames}
use Rattle.lab_card.proofs.card.CardActor.run_owned.Goals as goal

-- how many samples a part of a buffer has
part-size : (xs : List ℤ) (at n : ℕ) → length xs ≡ at + n → length (take (length xs - at) (drop at xs)) ≡ n
part-size xs at n size = ap length (last-part xs at) ∙ (let rest = length-drop at xs in omega (arith, rest, size))

pub run_over-card-requires-clause-whole : goal.run_over-card-requires-clause-whole
run_over-card-requires-clause-whole c =
    let xs : List ℤ = c.deref_mut.result.now in
    let at : ℕ = c.len-at.result in
    let channels : ℕ = (geometry_of_card c.args.self.card).channels in
    let count : c.args.asked.1 * c.geometry-geometry.result.channels ≡ c.args.asked.1 * channels = ap (λ (g : Geometry). c.args.asked.1 * g.channels) c.geometry-geometry.ensures in
    let size : length xs ≡ at + c.args.asked.1 * channels = omega (arith, count, c.deref_mut.ensures.len, c.push_silence.ensures.len, c.len-at.ensures) in
    whole-frames c.args.asked.1 channels (length (take (length xs - at) (drop at xs))) (part-size xs at (c.args.asked.1 * channels) size)

pub returns-clause-did : goal.returns-clause-did
returns-clause-did c =
    let capture : Option Sound = option_copied c.args.asked.0 in
    let a : CardActor = c.args.self in
    let n : ℕ = c.args.asked.1 in
    let g : Geometry = geometry_of_card a.card in
    let shape : c.geometry-geometry.result ≡ g = c.geometry-geometry.ensures in
    let xs : List ℤ = c.deref_mut.result.now in
    let at : ℕ = c.len-at.result in
    let new : List ℤ = c.run_over-card.new.out in
    let count : n * c.geometry-geometry.result.channels ≡ n * g.channels = ap (λ (h : Geometry). n * h.channels) shape in
    let size : length xs ≡ at + n * g.channels = omega (arith, count, c.deref_mut.ensures.len, c.push_silence.ensures.len, c.len-at.ensures) in
    let old_size : length (take (length xs - at) (drop at xs)) ≡ n * g.channels = part-size xs at (n * g.channels) size in
    let position : c.position.result ≡ frame_of_card a.card = c.position.ensures ∙ a.card.published in
    let first : c.first_frame.result ≡ first_frame g = c.first_frame.ensures ∙ ap first_frame shape in
    let from : c.position.result - c.first_frame.result ≡ frames_since_first a.card = omega (arith, position, first) in
    let items : c.as_slice.result.now ≡ captured_frames capture g.channels (frames_since_first a.card) n =
    c.as_slice.ensures.value
    ∙ (c.capture_frames.ensures.items
    ∙ (ap (λ (h : Geometry). captured_frames capture h.channels (c.position.result - c.first_frame.result) n) shape
    ∙ ap (λ (k : ℕ). captured_frames capture g.channels k n) from)) in
    let captured_size : length c.as_slice.result.now ≡ n * g.channels = omega (arith, count, c.as_slice.ensures.len, c.capture_frames.ensures.len) in
    let silence : List ℤ = replicate (n * c.geometry-geometry.result.channels) (pos 0) in
    let new_size : length new ≡ n * g.channels = c.run_over-card.auto.out ∙ old_size in
    let ws : List ℤ = take at xs ++ (new ++ post_of at (length xs - at) xs) in
    let written : ws ≡ a.played.items ++ new =
    last-written a.played.items silence new xs at (c.deref_mut.ensures.value ∙ c.push_silence.ensures.items) (omega (arith, c.len-at.ensures, a.played.ok.0)) in
    let all : length ws ≡ c.push_silence.new.samples.len =
    ap length written ∙ (length-append a.played.items new ∙ (omega (arith, new_size, count, a.played.ok.0, c.push_silence.ensures.len))) in
    let b : CardActor = record {
      card = c.run_over-card.result;
      played = with_items c.push_silence.new.samples ws;
      rows = a.rows;
      captured = c.capture_frames.new.captured;
    } in
    CardDid-run capture a b n c.as_slice.result.now (take (length xs - at) (drop at xs)) new c.run_over-card.ensures.runs c.run_over-card.ensures.period c.run_over-card.ensures.records
    items captured_size old_size new_size c.requires.fits
    (refilled ws c.push_silence.new.samples.items c.push_silence.new.samples.len all ∙ written)
