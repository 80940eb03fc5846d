use Rattle.dmix_c.specs.Prelude.{refl, subst, ◌≡◌, false, OnOk, SwParams, Checks, CaptureStream}
use Rattle.snoop_table.specs.Readers.{seat_view}
use Rattle.dsnoop_client.specs.Calls.{with_params}
use Rattle.dsnoop_client.specs.View.{CanUse}
use Rattle.dmix_c.proofs.ReaderMaking.{CanUse-seen}
use Rattle.dmix_c.proofs.SettingUp.{kept-by}
use Rattle.dmix_c.proofs.recording.Recording.sw_params.Goals as goal

pub returns : goal.returns
returns c =
    let ensures = c.sw_params.ensures in
    record {
      refused = λ e some. (ensures.refused e some).0;
      checked = λ admitted.
          let found = ensures.checked admitted in
          (found.0, found.1, subst (λ (x : SwParams). Checks c.sw_params.result x found.0) c.thresholds.ensures found.2);
      done = subst (λ (x : SwParams). OnOk c.sw_params.result (c.sw_params.new.self ≡ with_params c.args.self.now.reader x)) c.thresholds.ensures ensures.ok;
      kept = ensures.err;
      seat = refl;
      rate = refl;
    }

pub invariant_of-self : goal.invariant_of-self
invariant_of-self c =
    let p = c.args.self.now in
    let d = c.sw_params.new.self in
    let end = with_params p.reader c.thresholds.result in
    let r = c.sw_params.result in
    let ensures = c.sw_params.ensures in
    record {
      unstopped = kept-by (λ (v : CaptureStream). v.status.stopped ≡ false) p.reader d end r ensures.ok ensures.err p.unstopped p.unstopped;
      usable = kept-by (λ (v : CaptureStream). CanUse v (seat_view p.seat)) p.reader d end r ensures.ok ensures.err
          (CanUse-seen p.reader end (seat_view p.seat) refl refl p.usable) p.usable;
    }
