use Rattle.std.proofs.Common.{◌≡◌, ◌+◌, ◌-◌, ◌∙◌, ◌%◌, ℕ, ap, sym, arith}
use Rattle.ring_pointers.specs.Wrapped.{AreNear, StandFor}
use Rattle.dmix_client.proofs.stream.PlaybackStream.avail.Goals as goal

pub returns : goal.returns
returns c =
    let stream = c.args.self.now in
    let same : c.boundary-boundary.result ≡ c.at.result.boundary = sym c.at.ensures.boundary in
    let stand : StandFor c.at.result c.hw.result stream.stretch.written = record {
      hw_wraps = c.at.ensures.hw ∙ c.wrap_count-hw.ensures ∙ ap (λ (b : ℕ). c.hw.result % b) same;
      appl_wraps = c.at.ensures.appl ∙ c.wrap_count-appl.ensures ∙ ap (λ (b : ℕ). stream.stretch.written % b) same;
    } in
    let near : AreNear c.hw.result stream.stretch.written = record {
      above = omega (arith, c.hw.ensures, c.requires.near);
      below = omega (arith, c.hw.ensures, c.requires.fits, c.requires.buffer_most);
    } in
    let counts : c.avail_playback.result ≡ c.hw.result + c.at.result.size - stream.stretch.written = c.avail_playback.ensures.counts c.hw.result
    stream.stretch.written stand near (omega (arith, c.hw.ensures, c.at.ensures.size, c.requires.fits)) in
    omega (arith, counts, c.hw.ensures, c.at.ensures.size)
