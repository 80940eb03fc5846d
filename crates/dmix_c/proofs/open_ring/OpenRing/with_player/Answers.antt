use Rattle.dmix_c.specs.Prelude.{ap, arith, refl, subst, sym, ◌∙◌, ◌≡◌, Geometry, key_of_lobby, ring_of_lobby, IsGeometryOf, IsAtStart}
use Rattle.sum_table.specs.declared.ring.SumRing.{SumRing}
use Rattle.sum_table.specs.declared.view.Key.{Key}
use Rattle.sum_table.specs.Rings.{key_of_ring}
use Rattle.dmix_c.proofs.Opening.{IsAtStart-made, IsNewOpenRing-made}
use Rattle.dmix_c.proofs.Ringed.{LeadTo-none}
use Rattle.dmix_c.proofs.open_ring.OpenRing.with_player.Goals as goal

pub invariant_of-ring : goal.invariant_of-ring
invariant_of-ring c =
    let lobby = c.in_ok-lobby.lobby in
    let words = c.leak-words.ensures.value ∙ c.in_ok-new.ensures.ok in
    let frames : (key_of_lobby lobby).geometry.frames ≡ c.args.params.now.buffer_size =
    ap (λ (k : Key). k.geometry.frames) (c.in_ok-lobby.ensures.ok.key ∙ c.seats-player.ensures.mix_key)
    ∙ (ap (λ (r : SumRing). (key_of_ring r).geometry.frames) words
    ∙ (ap (λ (g : Geometry). g.frames) c.in_ok-words.ensures.ok.of_geometry ∙ c.requires.of_params.frames)) in
    record {
      lead = omega (arith, c.requires.can.period_most, frames);
      each = c.in_ok-ways.ensures.count
          ∙ sym (c.in_ok-lobby.ensures.ok.places
          ∙ (c.seats-player.ensures.places ∙ (ap (λ (r : SumRing). (key_of_ring r).places) words ∙ c.in_ok-words.ensures.ok.of_places)));
      ways_lead = LeadTo-none (ring_of_lobby lobby) (key_of_lobby lobby) c.in_ok-ways.ways.items c.in_ok-ways.ensures.none;
    }

pub returns-clause-ok : goal.returns-clause-ok
returns-clause-ok c =
    let words = c.leak-words.ensures.value ∙ c.in_ok-new.ensures.ok in
    let geometry = c.in_ok-words.ensures.ok.of_geometry in
    IsNewOpenRing-made c.args.params.now (key_of_ring c.leak-words.result.now) c.seats-player.result.0 c.seats-player.result.1 _ c.new-player.result
    (subst (IsGeometryOf c.args.params.now) (sym (ap (λ (r : SumRing). (key_of_ring r).geometry) words ∙ geometry)) c.requires.of_params)
    (ap (λ (r : SumRing). (key_of_ring r).places) words ∙ c.in_ok-words.ensures.ok.of_places)
    c.seats-player.ensures c.in_ok-lobby.ensures.ok c.new-player.ensures.seat c.new-player.ensures.period refl refl

pub returns-clause-at_start : goal.returns-clause-at_start
returns-clause-at_start c =
    let words = c.leak-words.ensures.value ∙ c.in_ok-new.ensures.ok in
    subst (λ (g : Geometry). IsAtStart g c.new-player.result) (ap (λ (r : SumRing). (key_of_ring r).geometry) words ∙ c.in_ok-words.ensures.ok.of_geometry)
    (IsAtStart-made (key_of_ring c.leak-words.result.now) c.seats-player.result.0 c.seats-player.result.1 c.new-player.result c.seats-player.ensures c.new-player.ensures.seat)
