use Rattle.dmix_c.specs.Prelude.{refl, subst, ◌≡◌, false, OnOk, SwParams, Checks, seat_view, CanUse, ClientView, IsBackedSeat}
use Rattle.dmix_c.proofs.SettingUp.{kept-by}
use Rattle.dmix_c.proofs.Thresholds.{CanUse-given, backed-given, given}
use Rattle.dmix_c.proofs.playback.Playback.sw_params.Goals as goal

pub returns : goal.returns
returns c =
    let ensures = c.sw_params.ensures in
    record {
      refused = λ e some. (ensures.refused e some).0;
      checked = λ admitted.
          let found = ensures.checked admitted in
          (found.0, found.1, subst (λ (x : SwParams). Checks c.sw_params.result x found.0) c.thresholds.ensures found.2);
      done = subst (λ (x : SwParams). OnOk c.sw_params.result (c.sw_params.new.self ≡ given c.args.self.now.client x)) c.thresholds.ensures ensures.ok;
      kept = ensures.err;
      seat = refl;
      rate = refl;
    }

pub invariant_of-self : goal.invariant_of-self
invariant_of-self c =
    let p = c.args.self.now in
    let d = c.sw_params.new.self in
    let end = given p.client c.thresholds.result in
    let r = c.sw_params.result in
    let ensures = c.sw_params.ensures in
    record {
      unstopped = kept-by (λ (v : ClientView). v.stream.status.stopped ≡ false) p.client d end r ensures.ok ensures.err p.unstopped p.unstopped;
      usable = kept-by (λ (v : ClientView). CanUse v.stream (seat_view p.seat)) p.client d end r ensures.ok ensures.err
          (CanUse-given p.client c.thresholds.result (seat_view p.seat) p.usable) p.usable;
      backed = kept-by (IsBackedSeat p.seat) p.client d end r ensures.ok ensures.err (backed-given p.seat p.client c.thresholds.result p.backed) p.backed;
      own_way = p.own_way;
      has_room = p.has_room;
    }
