-- What a script says: its phases, the frames that the card plays in them, and the positions that it publishes.
use Rattle.std.specs.Prelude.{◌≡◌, ℕ, ◌+◌, ◌-◌, ◌*◌, ◌<◌, ◌≤◌, ◌⊎◌, Bool, true, false, ◌&&◌, not, List, [], ◌∷◌, take, length, sum_by, slice_index_or}
use Rattle.std.specs.List.{list_any}
use Rattle.lab_lines.specs.declared.line.Actor.{Actor}
use Rattle.lab_lines.specs.declared.line.Actor.TheVariants.{Card, Client, Reader}
use Rattle.lab_lines.specs.declared.line.Item.{Item}
use Rattle.lab_lines.specs.declared.line.Item.TheVariants as item
use Rattle.lab_lines.specs.declared.line.Line.{Line}
use Rattle.lab_lines.specs.declared.line.Op.{Op}
use Rattle.lab_lines.specs.declared.line.Op.TheVariants as op
use Rattle.lab_lines.specs.declared.script.CardLine.{CardLine}
use Rattle.lab_lines.specs.declared.script.Script.{Script}

-- the frames that the card plays by what is asked for
abbrev pub played_by : Op → ℕ
played_by (op.Play frames) = frames
played_by other = 0

-- the phases of a body, in order
abbrev pub phases_of : List Item → List (List Line)
phases_of [] = []
phases_of (item.Phase lines ∷ items) = lines ∷ phases_of items
phases_of (item.Opens number actor ∷ items) = phases_of items
phases_of (item.Closes number actor ∷ items) = phases_of items

-- the frames that the card plays by some lines
abbrev pub played_in : List Line → ℕ
played_in lines = sum_by (λ (line : Line). played_by line.op) lines

-- the frames that the card plays in some phases
abbrev pub frames_played : List (List Line) → ℕ
frames_played phases = sum_by played_in phases

-- the frame at which the card begins
abbrev pub first_frame : CardLine → ℕ
first_frame card = card.lap * card.ring

-- the position of the card after so many phases
abbrev pub position_after_phases : Script → ℕ → ℕ
position_after_phases script phases = first_frame script.card + frames_played (take phases (phases_of script.body))

-- the lines of the phase of this number, from 1
abbrev pub phase_at : Script → ℕ → List Line
phase_at script phase = slice_index_or (phases_of script.body) (phase - 1) []

-- a position that the card publishes in the phase of this number, or has before it: where the phase begins, a multiple of the
-- period on the way, or after one of its lines
abbrev pub IsCardPosition : Script → ℕ → ℕ → Type 0
IsCardPosition script phase position =
    (position ≡ position_after_phases script (phase - 1))
    ⊎ (((k : ℕ) × (position ≡ k * script.card.period) × (position_after_phases script (phase - 1) ≤ position) × (position < position_after_phases script phase))
    ⊎ ((lines : ℕ) × (lines ≤ length (phase_at script phase)) × (position ≡ position_after_phases script (phase - 1) + played_in (take lines (phase_at script phase)))))

-- it is asked of the card
abbrev pub is_of_card : Actor → Bool
is_of_card Card = true
is_of_card (Client number) = false
is_of_card (Reader number) = false

-- a line is of the card
abbrev pub is_card_line : Line → Bool
is_card_line line = is_of_card line.actor

-- a phase is mixed where the card and another actor have lines in it
abbrev pub is_mixed : List Line → Bool
is_mixed lines = list_any is_card_line lines && list_any (λ (line : Line). not (is_card_line line)) lines

-- the card is unplugged by what is asked for
abbrev pub is_unplug : Op → Bool
is_unplug op.Unplug = true
is_unplug other = false

-- the card is unplugged in a phase
abbrev pub unplugs : List Line → Bool
unplugs lines = list_any (λ (line : Line). is_unplug line.op) lines

-- the card is gone in the phase of this number, from 1: it was unplugged in an earlier one
abbrev pub is_gone : Script → ℕ → Bool
is_gone script phase = list_any unplugs (take (phase - 1) (phases_of script.body))
