use Rattle.dmix_c.specs.Prelude.{ap, refl, [], ◌∙◌, new_client, ClientView}
use Rattle.dmix_c.proofs.Opening.{CanUse-opened, backed-opened}
use Rattle.dmix_c.proofs.playback.Playback.new.Goals as goal

pub invariant_of-result : goal.invariant_of-result
invariant_of-result c =
    let s = c.args.seat in
    record {
      unstopped = ap (λ (v : ClientView). v.stream.status.stopped) c.new-client.ensures;
      usable = CanUse-opened s c.new-client.result c.geometry.result c.member.result c.args.lead c.new-client.ensures c.geometry.ensures c.member.ensures c.requires.one_place;
      backed = backed-opened s c.new-client.result c.geometry.result c.member.result c.args.lead c.new-client.ensures;
      own_way = c.requires.own_way;
      has_room = c.requires.has_room;
    }

pub returns : goal.returns
returns c = record {
  seat = refl;
  client = c.new-client.ensures ∙ (λ i. let opened : ClientView = record { stream = new_client (c.geometry.ensures i) (c.member.ensures i) c.args.lead; ring = [] } in opened);
  rate_is = refl;
}
