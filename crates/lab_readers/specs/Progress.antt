-- How far a reader gets by its calls, as its port sees it: no frame comes twice, and none that the ring doesn't have any more.
use Rattle.std.specs.Prelude.{◌≡◌, ℕ, ◌+◌, ◌≤◌, ◌⊎◌, Bool, true, false, min, if◌then◌else◌}
use Rattle.std.proofs.Common.{arith, inl, inr, ◌∙◌, ap}
use Rattle.snd_base.specs.declared.geometry.Geometry.{Geometry}
use Rattle.snoop_core.specs.Port.{SnoopView}
use Rattle.dsnoop_client.specs.declared.stream.CaptureStream.{CaptureStream}
use Rattle.dsnoop_client.specs.View.{is_running}

-- the frame below which a reader gets none any more: its next one where it runs, and else the position that its port has seen
abbrev pub least_next : CaptureStream → SnoopView → ℕ
least_next r v = if is_running r.status.state then min r.next v.seen else v.seen

pub least_next-seen : (r : CaptureStream) (v : SnoopView) → least_next r v ≤ v.seen
least_next-seen r v = by_running (is_running r.status.state)
  where
    by_running : (running : Bool) → (if running then min r.next v.seen else v.seen) ≤ v.seen
    by_running true = omega arith
    by_running false = omega arith

-- A reader got so many frames: they are below the ones that it gets later, and the ring had each of them when the port had seen the first position.
pub record Progress (count : ℕ) (r after : CaptureStream) (v w : SnoopView) : Type 0 where
  pub ring : w.geometry ≡ v.geometry
  pub rising : v.seen ≤ w.seen
  pub next : least_next r v + count ≤ least_next after w
  pub held : (count ≡ 0) ⊎ (v.seen + count ≤ least_next after w + v.geometry.frames)

pub Progress-joined : (m n : ℕ) (r x d : CaptureStream) (u v w : SnoopView) → Progress m r x u v → Progress n x d v w → Progress (m + n) r d u w
Progress-joined m n r x d u v w one two =
    let rising = one.rising in
    let later = two.rising in
    let next = one.next in
    let more = two.next in
    let frames : v.geometry.frames ≡ u.geometry.frames = ap (λ (ring : Geometry). ring.frames) one.ring in
    record {
      ring = two.ring ∙ one.ring;
      rising = omega (arith, rising, later);
      next = omega (arith, next, more);
      held = elim one.held [
        | inl none ↦ elim two.held [
          | inl none_either ↦ inl (omega (arith, none, none_either))
          | inr had ↦ inr (omega (arith, none, had, rising, frames))
        ]
        | inr had ↦ inr (omega (arith, had, more))
      ];
    }

-- a port saw no more frames than the card plays
abbrev pub SeesAtMost : ℕ → SnoopView → SnoopView → Type 0
SeesAtMost played v w = w.seen ≤ v.seen + played

-- then a reader got no more frames than the ring has and the card plays
pub Progress-most : (count played : ℕ) (r d : CaptureStream) (v w : SnoopView) → Progress count r d v w → SeesAtMost played v w → count ≤ v.geometry.frames + played
Progress-most count played r d v w progress most =
    let below = least_next-seen d w in
    elim progress.held [
      | inl none ↦ omega (arith, none)
      | inr had ↦ omega (arith, had, below, most)
    ]
