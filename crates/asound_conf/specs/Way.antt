-- The rows to whose groups the parts of a key lead.
use Rattle.std.specs.Prelude.{◌≡◌, ℕ, false, List, [], ◌∷◌, None}
use Rattle.asound_conf.specs.Key.{Part}
use Rattle.asound_conf.specs.Rows.{ConfRow, IsNode, row_at}

-- a part of a key leads from the group of a row to that of another one
pub record IsKeyStep (rows : List ConfRow) (p : ℕ) (part : Part) (n : ℕ) : Type 0 where
  pub stays : part.removes ≡ false
  pub is_node : IsNode rows p part.name n
  pub is_group : (row_at rows n).value ≡ None

-- parts of a key lead from the group of a row to that of another one
abbrev pub IsWay : List ConfRow → ℕ → List Part → ℕ → Type 0
IsWay rows p [] q = p ≡ q
IsWay rows p (part ∷ path) q = (n : ℕ) × (IsKeyStep rows p part n × IsWay rows n path q)
