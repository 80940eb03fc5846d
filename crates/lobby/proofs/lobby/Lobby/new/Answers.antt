use Rattle.lobby.specs.Prelude.{ap, arith, List, Option, refl, subst, sym, ℕ, ◌+◌, ◌<◌, ◌∙◌, ◌≡◌, MixSeat, without_places, places_of_seat, view_of}
use Rattle.snd_base.specs.Places.{first_frame}
use Rattle.sum_table.specs.declared.view.Key.{Key}
use Rattle.lobby.proofs.Splitting.{ArePlaces-split, IsSplitting, IsSplitting-more, IsSplitting-none}
use Rattle.lobby.proofs.lobby.Lobby.new.Goals as goal

pub loop-place-init : goal.loop-place-init
loop-place-init c = record {
  splitting = subst (λ (xs : List (Option MixSeat)). IsSplitting c.args.seat c.args.seat xs 0) (sym c.in_ok-seats.ensures.items) (IsSplitting-none c.args.seat c.requires);
  room = omega (arith, c.in_ok-seats.ensures.exact, c.places-places.ensures.value);
}

pub loop-place-preserved : goal.loop-place-preserved
loop-place-preserved c = record {
  splitting = subst (λ (xs : List (Option MixSeat)). IsSplitting c.args.seat c.split-one.new.self xs (c.loop-place.place + 1)) (sym c.keep.ensures.items)
      (IsSplitting-more c.args.seat c.loop-place.base c.split-one.new.self c.split-one.result c.loop-place.seats.items c.loop-place.place c.loop-place.invariant.splitting c.split-one.ensures);
  room = omega (arith, c.keep.ensures.capacity, c.loop-place.invariant.room);
}

pub invariant_of-result : goal.invariant_of-result
invariant_of-result c =
    let is : IsSplitting c.args.seat c.loop-place.base c.loop-place.seats.items c.loop-place.place = c.loop-place.invariant.splitting in
    record {
      no_places = omega (arith, is.places, c.loop-place-test.false, c.places-places.ensures.value);
      laid_nothing = is.laid;
      placed = ArePlaces-split c.args.seat c.loop-place.base c.loop-place.seats.items c.loop-place.place is;
    }

pub returns-clause-ok : goal.returns-clause-ok
returns-clause-ok c =
    let is : IsSplitting c.args.seat c.loop-place.base c.loop-place.seats.items c.loop-place.place = c.loop-place.invariant.splitting in
    let all : c.loop-place.place ≡ places_of_seat c.args.seat = omega (arith, c.loop-place-test.false, c.loop-place.auto.place-end, c.places-places.ensures.value) in
    record {
      base = is.stays;
      base_view = is.view ∙ ap (λ (n : ℕ). without_places (view_of c.args.seat) n) all;
      ring = is.stays.ring;
      key = is.stays.key;
      places = is.count ∙ all;
      each = λ place below. is.each place (subst (λ n. place < n) (sym all) below);
      saw_none = c.first_frame-seen.ensures ∙ (ap first_frame c.geometry.ensures ∙ ap (λ (k : Key). first_frame k.geometry) is.stays.key);
      reaped_none = refl;
    }
