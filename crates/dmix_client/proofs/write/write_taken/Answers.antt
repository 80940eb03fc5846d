use Rattle.dmix_client.specs.Prelude.{ap, arith, length, List, subst, sym, ℕ, ◌+◌, ◌-◌, ◌<◌, ◌^◌, ◌∙◌, ◌≡◌, ◌≤◌, nat_tests, false, min, true, unwrap_or, ℤ}
use Rattle.dmix_client.specs.Prelude.{Composes, is_moving, Ended, Late, OnLate, PortView, TakesAt, Commit, PlaybackStream, window_end, commits, TakesAt-frames}
use Rattle.dmix_client.specs.Prelude.{IsCommit, IsConfigured, IsSoundClient, ring_sample, count_with, ring_with}
use Rattle.dmix_client.proofs.CallLaws.{both}
use Rattle.dmix_client.proofs.Looking.{takes_more-by}
use Rattle.dmix_client.proofs.Readiness.{IsOnCard-configured, IsReady-moving}
use Rattle.dmix_client.proofs.Sound.{configured-moving, set_up-moving}
use Rattle.mix_core.specs.declared.gate.Gate as gates
use Rattle.mix_core.specs.declared.port.MixPort as mixport
use Rattle.dmix_client.proofs.write.write_taken.Goals as goal

-- frames that are to be committed are before the window's end, also where a later position was seen
before_end : (count upto position seen frames end card committed : ℕ) → count ≤ min upto (min (position + frames) end - card) - committed → position ≤ seen → 0 < count
    → card + (committed + count) ≤ min (seen + frames) end
before_end count upto position seen frames end card committed few newer some = omega (arith, few, newer, some)

count-ahead : (c : PlaybackStream) (v : PortView) (taken count : ℕ) → count ≡ count_with c taken → v.geometry ≡ c.identity.geometry → unwrap_or c.seen 0 ≤ v.seen → 0 < count
    → c.stretch.card + (c.stretch.committed + count) ≤ window_end v.geometry v.seen
count-ahead c v taken count is same newer some = grind (arith, nat_tests)

-- what the commit ended in
commit-of : {S T : Type 0} (P : mixport.Ghosts S) (G : gates.Ghosts T) → Composes P.laid → Composes P.loaded → (s t : S × T) (c : PlaybackStream) (ring : List ℤ) (count taken : ℕ) (x : Commit)
    → IsConfigured c ring → count ≡ count_with c taken → TakesAt P G s (commits c ring count) t x
    → IsCommit x.ended x.frames x.part (count_with c taken) (length c.setup.bindings)
commit-of P G laying loading s t c ring count taken x k is takes =
    (TakesAt-frames P G laying loading c.identity.member c.stretch.card c.setup.bindings (ring_sample c ring) (count_with c taken) c.stretch.committed s t x k.bound
    (subst (λ (n : ℕ). TakesAt P G s (commits c ring n) t x) is takes)).commit_is

part-below : (e : Ended) (frames part count channels : ℕ) → IsCommit e frames part count channels → OnLate e (λ word. part < channels)
part-below (Late word) frames part count channels is = is.1
part-below other frames part count channels is = tt

commit-fits : (c : PlaybackStream) (ring : List ℤ) (taken : ℕ) (x : Commit) → IsSoundClient c ring → is_moving c.status.state ≡ true → c.status.stopped ≡ false
    → taken ≤ c.setup.config.buffer_size → IsCommit x.ended x.frames x.part (count_with c taken) (length c.setup.bindings)
    → c.stretch.card + (c.stretch.committed + x.frames) < 2 ^ 64
commit-fits c ring taken x sound moves going few is = grind (arith, nat_tests)

pub returns-clause-takes : goal.returns-clause-takes
returns-clause-takes g c =
    let s = both c.args.port.now c.args.gate.now in
    let t = both c.lay_frames-last.new.port c.lay_frames-last.new.gate in
    takes_more-by g.P.MixPort g.G.Gate s t
    c.args.stream.now c.args.ring.now c.args.samples.now c.store_taken.new.ring c.args.frames c.taken_within-taken.result c.lay_frames-last.result
    (c.written_after.new.stream, c.written_after.result) c.taken_within-taken.ensures c.store_taken.ensures.ring
    (subst (λ (n : ℕ). TakesAt g.P.MixPort g.G.Gate s (commits c.args.stream.now c.store_taken.new.ring n) t c.lay_frames-last.result) c.count_with-count.ensures
    c.lay_frames-last.ensures) (sym c.written_after.ensures)

pub returns-clause-ring : goal.returns-clause-ring
returns-clause-ring g c = c.store_taken.ensures.ring ∙ ap (λ (m : ℕ). ring_with c.args.stream.now c.args.ring.now c.args.samples.now m) c.taken_within-taken.ensures

pub avail-avail-requires : goal.avail-avail-requires
avail-avail-requires g c = IsReady-moving c.args.stream.now c.args.ring.now c.requires.sound c.requires.moving c.requires.unstopped

pub store_taken-requires-clause-sound : goal.store_taken-requires-clause-sound
store_taken-requires-clause-sound g c = c.requires.sound

pub store_taken-requires-clause-configured : goal.store_taken-requires-clause-configured
store_taken-requires-clause-configured g c = c.requires.sound.set_up (set_up-moving c.args.stream.now.status.state c.requires.moving)

pub count_with-count-requires : goal.count_with-count-requires
count_with-count-requires g c =
    let ready = IsReady-moving c.args.stream.now c.args.ring.now c.requires.sound c.requires.moving c.requires.unstopped in
    record {
      written = omega (arith, ready.fits, ready.near, ready.buffer_most, c.taken_within-taken.ensures);
      seen = omega (arith, c.requires.sound.seen, c.args.stream.now.identity.geometry.frames_most);
    }

pub lay_frames-last-requires : goal.lay_frames-last-requires
lay_frames-last-requires g c = record {
  can_add = c.requires.port.can;
  member = c.requires.port.same_member;
  bound = IsOnCard-configured c.args.stream.now c.args.ring.now (g.P.MixPort.view c.args.port.now).geometry
      (configured-moving c.args.stream.now c.args.ring.now c.requires.sound c.requires.moving) c.requires.port.same_geometry;
  buffer = (configured-moving c.args.stream.now c.args.ring.now c.requires.sound c.requires.moving).buffer_least;
  room = (configured-moving c.args.stream.now c.store_taken.new.ring c.store_taken.ensures.sound c.requires.moving).room;
  from_cursor = c.requires.port.behind c.requires.moving c.requires.unstopped;
  ahead = λ some.
      count-ahead c.args.stream.now (g.P.MixPort.view c.args.port.now) c.taken_within-taken.result c.count_with-count.result c.count_with-count.ensures
      c.requires.port.same_geometry (c.requires.port.newer c.requires.moving c.requires.unstopped) some;
}

pub written_after-requires : goal.written_after-requires
written_after-requires g c =
    let met = g.met.P.MixPort in
    let s = both c.args.port.now c.args.gate.now in
    let t = both c.lay_frames-last.new.port c.lay_frames-last.new.gate in
    let stream = c.args.stream.now in
    let ring = c.store_taken.new.ring in
    let taken = c.taken_within-taken.result in
    let x = c.lay_frames-last.result in
    let sound = c.store_taken.ensures.sound in
    let commit = commit-of g.P.MixPort g.G.Gate met.laid_composes met.loaded_composes s t stream ring c.count_with-count.result taken x
    (configured-moving stream ring sound c.requires.moving) c.count_with-count.ensures c.lay_frames-last.ensures in
    record {
      ready = IsReady-moving stream c.args.ring.now c.requires.sound c.requires.moving c.requires.unstopped;
      avail = c.avail-avail.ensures;
      fits = commit-fits stream ring taken x sound c.requires.moving c.requires.unstopped (omega (arith, c.taken_within-taken.ensures)) commit;
      part = part-below x.ended x.frames x.part (count_with stream taken) (length stream.setup.bindings) commit;
      written = omega arith;
      fed = omega arith;
    }
