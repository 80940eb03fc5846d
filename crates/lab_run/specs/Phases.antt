-- What the lines of a phase say: what the card plays and publishes in it, and which lines are whose.
use Rattle.std.specs.Prelude.{◌≡◌, ℕ, ◌+◌, ◌%◌, ◌==◌, nat_eq, Bool, false, if◌then◌else◌, List, [], ◌∷◌, ◌++◌, filter, sum_by, Some, ⊤}
use Rattle.std.specs.List.{range_with_len}
use Rattle.pcm_states.specs.declared.states.State.TheVariants as state
use Rattle.lab_lines.specs.declared.line.Actor.{Actor}
use Rattle.lab_lines.specs.declared.line.Actor.TheVariants.{Card, Client, Reader}
use Rattle.lab_lines.specs.declared.line.Item.{Item}
use Rattle.lab_lines.specs.declared.line.Item.TheVariants as item
use Rattle.lab_lines.specs.declared.line.Line.{Line}
use Rattle.lab_lines.specs.declared.line.Op.{Op}
use Rattle.lab_lines.specs.declared.line.Op.TheVariants as op
use Rattle.lab_lines.specs.Script.{is_card_line, is_mixed, played_by}
use Rattle.lab_lines.specs.declared.row.Answer.TheVariants.{Count, Done}
use Rattle.lab_lines.specs.declared.row.Row.{Row}

-- the frames that the card plays by a line, and by some lines; a line of another actor plays none
abbrev pub played_at : Line → ℕ
played_at line = if is_card_line line then played_by line.op else 0

abbrev pub played_in : List Line → ℕ
played_in lines = sum_by played_at lines

-- the positions that the card publishes while it plays so many frames from a position on: each multiple of its period, and the
-- position after the last of them
abbrev pub on_the_way : ℕ → ℕ → ℕ → List ℕ
on_the_way period from frames =
    filter (λ q. q % period == 0) (range_with_len (from + 1) frames) ++ (from + frames) ∷ []

abbrev pub published_by : ℕ → ℕ → List Line → List ℕ
published_by period from [] = []
published_by period from (line ∷ lines) = on_the_way period from (played_at line)
    ++ published_by period (from + played_at line) lines

-- the position at which a phase begins, and those that the card publishes in it
abbrev pub phase_positions : ℕ → ℕ → List Line → List ℕ
phase_positions period from lines = from ∷ published_by period from lines

-- no phase is mixed
abbrev pub IsUnmixedItem : Item → Type 0
IsUnmixedItem (item.Opens number actor) = ⊤
IsUnmixedItem (item.Closes number actor) = ⊤
IsUnmixedItem (item.Phase lines) = is_mixed lines ≡ false

abbrev pub AreUnmixed : List Item → Type 0
AreUnmixed [] = ⊤
AreUnmixed (item ∷ items) = IsUnmixedItem item × AreUnmixed items

-- the client, and the reader, of a number
abbrev pub is_client : ℕ → Actor → Bool
is_client number (Client n) = nat_eq n number
is_client number other = false

abbrev pub is_reader : ℕ → Actor → Bool
is_reader number (Reader n) = nat_eq n number
is_reader number other = false

-- what a phase asks of an actor, in order
abbrev pub ops_by : (Actor → Bool) → List Line → List Op
ops_by is_theirs [] = []
ops_by is_theirs (line ∷ lines) =
    (if is_theirs line.actor then line.op ∷ [] else []) ++ ops_by is_theirs lines

-- the rows of the card's lines, of a card that is at a position before them
abbrev pub card_row : ℕ → ℕ → Op → Row
card_row phase position op.Unplug =
    record {
      phase = phase;
      actor = Card;
      op = op.Unplug;
      answer = Done;
      state = state.Disconnected;
      seen = Some position;
    }
card_row phase position asked = record {
  phase = phase;
  actor = Card;
  op = asked;
  answer = Count (played_by asked);
  state = state.Running;
  seen = Some (position + played_by asked);
}

abbrev pub card_rows : ℕ → ℕ → List Op → List Row
card_rows phase position [] = []
card_rows phase position (asked ∷ more) =
    card_row phase position asked ∷ card_rows phase (position + played_by asked) more
