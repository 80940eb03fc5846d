-- A file in pieces.
use Rattle.std.specs.Prelude.{ℕ, List}
use Rattle.std.specs.Borrow.{Bor}
use Rattle.std.specs.List.{flat_map}

-- the bytes of all pieces, in order
abbrev pub bytes_of_pieces : List (Bor (List ℕ)) → List ℕ
bytes_of_pieces pieces = flat_map (λ (piece : Bor (List ℕ)). piece.now) pieces
