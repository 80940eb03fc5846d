-- No phase of a workload's script is mixed.
use Rattle.lab_commands.specs.Prelude.{ap, false, List, map, refl, ℕ, [], ◌++◌, ◌∷◌, ◌≡◌, not, ◌&&◌, Item, AreUnmixed, made_body, made_opening, turn_items}
use Rattle.lab_commands.specs.Prelude.{write_line}
use Rattle.std.specs.List.{flat_map, list_any, range_with_len}
use Rattle.lab_lines.specs.declared.line.Line.{Line}
use Rattle.lab_lines.specs.Script.{is_card_line}

-- items, and then others
AreUnmixed-append : (xs ys : List Item) → AreUnmixed xs → AreUnmixed ys → AreUnmixed (xs ++ ys)
AreUnmixed-append [] ys front back = back
AreUnmixed-append (x ∷ xs) ys front back = (front.0, AreUnmixed-append xs ys front.1 back)

-- clients are opened
AreUnmixed-openings : (clients : ℕ) (numbers : List ℕ) → AreUnmixed (map (made_opening clients) numbers)
AreUnmixed-openings clients [] = tt
AreUnmixed-openings clients (n ∷ numbers) = (tt, AreUnmixed-openings clients numbers)

-- clients write, and the card has no line
no-card : (clients turn : ℕ) (numbers : List ℕ) → list_any is_card_line (map (write_line clients turn) numbers) ≡ false
no-card clients turn [] = refl
no-card clients turn (n ∷ numbers) = no-card clients turn numbers

-- the phases of turns
AreUnmixed-turns : (clients : ℕ) (turns : List ℕ) → AreUnmixed (flat_map (turn_items clients) turns)
AreUnmixed-turns clients [] = tt
AreUnmixed-turns clients (turn ∷ turns) = (
  ap
      (λ b. b && list_any (λ (line : Line). not (is_card_line line)) (map (write_line clients turn) (range_with_len 0 clients)))
      (no-card clients turn (range_with_len 0 clients)),
  (refl, AreUnmixed-turns clients turns),
)

-- so it has one run where no gate stops a client
pub AreUnmixed-made : (clients turns : ℕ) → AreUnmixed (made_body clients turns)
AreUnmixed-made clients turns =
    AreUnmixed-append (map (made_opening clients) (range_with_len 0 clients)) (flat_map (turn_items clients) (range_with_len 1 turns))
    (AreUnmixed-openings clients (range_with_len 0 clients)) (AreUnmixed-turns clients (range_with_len 1 turns))
