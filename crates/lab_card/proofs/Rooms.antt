-- The room of a card, as it is used.
use Rattle.lab_card.specs.Prelude.{ap, arith, refl, ℕ, ◌*◌, ◌+◌, ◌∙◌, ◌≡◌, ◌≤◌, mul-le-mul_right, Geometry, period_of, CardActor, geometry_of_card, HasRoom}
use Rattle.lab_card.specs.Prelude.{KeepsRoom}

pub KeepsRoom-none : (a : CardActor) → KeepsRoom a a 0 0
KeepsRoom-none a = record {
  geometry = refl;
  period = refl;
  rows = omega arith;
  played = omega arith;
  rows_room = omega arith;
  played_room = omega arith;
  captured_room = omega arith;
}

pub KeepsRoom-joined : (a b c : CardActor) (r q n m : ℕ) → KeepsRoom a b r n → KeepsRoom b c q m → KeepsRoom a c (r + q) (n + m)
KeepsRoom-joined a b c r q n m first then_ =
    let channels : ℕ = (geometry_of_card a.card).channels in
    let same : m * (geometry_of_card b.card).channels ≡ m * channels = ap (λ (g : Geometry). m * g.channels) first.geometry in
    let sum : (n + m) * channels ≡ n * channels + m * channels = omega arith in
    record {
      geometry = then_.geometry ∙ first.geometry;
      period = then_.period ∙ first.period;
      rows = omega (arith, first.rows, then_.rows);
      played = omega (arith, first.played, then_.played, same, sum);
      rows_room = omega (arith, first.rows_room, then_.rows_room);
      played_room = omega (arith, first.played_room, then_.played_room);
      captured_room = omega (arith, first.captured_room, then_.captured_room);
    }

-- what is left of the room
pub HasRoom-after : (a b : CardActor) (r q n m count frames : ℕ) → KeepsRoom a b r n → HasRoom a count frames → r + q ≤ count → n + m ≤ frames → HasRoom b q m
HasRoom-after a b r q n m count frames keeps room rows played =
    let channels : ℕ = (geometry_of_card a.card).channels in
    let same : m * (geometry_of_card b.card).channels ≡ m * channels = ap (λ (g : Geometry). m * g.channels) keeps.geometry in
    let most : (n + m) * channels ≤ frames * channels = mul-le-mul_right channels played in
    let sum : (n + m) * channels ≡ n * channels + m * channels = omega arith in
    let piece : period_of b.card * (geometry_of_card b.card).channels ≡ period_of a.card * channels =
    ap (λ (p : ℕ). p * (geometry_of_card b.card).channels) keeps.period ∙ ap (λ (g : Geometry). period_of a.card * g.channels) keeps.geometry in
    record {
      rows = omega (arith, keeps.rows, keeps.rows_room, room.rows, rows);
      played = omega (arith, keeps.played, keeps.played_room, room.played, same, most, sum);
      captured = omega (arith, keeps.captured_room, room.captured, piece);
    }
