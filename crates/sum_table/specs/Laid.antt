-- What all seats placed, what one member placed, and which places the seats have.
use Rattle.std.specs.Prelude.{◌≡◌, ℕ, ◌+◌, List, [], ◌∷◌, ◌++◌}
use Rattle.mix_core.specs.declared.port.Entry.{Entry}
pub use Rattle.mix_core.specs.Laid.{count, own_entries, total}
use Rattle.sum_table.specs.declared.view.View.{View}

-- two lists have equally many samples, of one sum, at each frame and channel
pub record SameSums (xs ys : List Entry) : Type 0 where
  pub counts : (f c : ℕ) → count xs f c ≡ count ys f c
  pub totals : (f c : ℕ) → total xs f c ≡ total ys f c

-- everything that was placed: the lists of all views together
abbrev pub all_laid : List View → List Entry
all_laid [] = []
all_laid (v ∷ vs) = v.laid ++ all_laid vs

-- the places of all views together
abbrev pub total_places : List View → ℕ
total_places [] = 0
total_places (v ∷ vs) = v.places + total_places vs

-- the entry as that of a member
abbrev pub by_member : ℕ → Entry → Entry
by_member m e = record { member = m; frame = e.frame; channel = e.channel; sample = e.sample; kind = e.kind }
