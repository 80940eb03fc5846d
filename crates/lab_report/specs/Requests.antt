-- What the rows of a report are about: each line of a script once, in the order of the rows.
use Rattle.std.specs.Prelude.{◌≡◌, ℕ, ◌+◌, ◌<◌, ◌==◌, List, [], ◌∷◌, ◌++◌, length, map, filter, slice_index_or, zero, suc}
use Rattle.lab_lines.specs.declared.line.Actor.{Actor}
use Rattle.lab_lines.specs.declared.line.Actor.TheVariants.{Card, Client, Reader}
use Rattle.lab_lines.specs.declared.line.Item.{Item}
use Rattle.lab_lines.specs.declared.line.Item.TheVariants as item
use Rattle.lab_lines.specs.declared.line.Line.{Line}
use Rattle.lab_lines.specs.declared.line.Op.TheVariants as op
use Rattle.lab_lines.specs.declared.script.Script.{Script}
use Rattle.lab_lines.specs.Script.{phases_of}
use Rattle.lab_lines.specs.declared.request.Request.{Request}

-- the place of an actor among the rows of a phase: the card is first, then the clients, then the readers
abbrev pub place_of_actor : Actor → ℕ
place_of_actor Card = 0
place_of_actor (Client number) = 1 + number
place_of_actor (Reader number) = 65 + number

-- the request of a line of this phase
abbrev pub request_of : ℕ → Line → Request
request_of phase line = record { phase = phase; actor = line.actor; op = line.op }

-- the lines of the actor of this place, in order
abbrev pub of_place : List Line → ℕ → List Line
of_place lines place = filter (λ (line : Line). place_of_actor line.actor == place) lines

-- the lines of the actors before a place, actor by actor
unfoldable pub before_place : List Line → ℕ → List Line
before_place lines zero = []
before_place lines (suc place) = before_place lines place ++ of_place lines place

-- the lines of a phase in the order of their rows: those of the card, of each of 64 clients, and of each of 64 readers
abbrev pub in_order : List Line → List Line
in_order lines = before_place lines 129

-- each place has the requests of its lines in a phase, in order
abbrev pub AreSorted : ℕ → List Line → List (List Request) → Type 0
AreSorted phase lines places = (k : ℕ) → k < length places → slice_index_or places k [] ≡ map (request_of phase) (of_place lines k)

-- the request of a line comes after those of its actor's place, where there is one, and the other places are as before
abbrev pub AddsRequest : ℕ → Line → List (List Request) → List (List Request) → Type 0
AddsRequest phase line before after =
    (k : ℕ) → k < length before → slice_index_or after k [] ≡ slice_index_or before k [] ++ map (request_of phase) (of_place (line ∷ []) k)

-- the requests of an item of a body, after so many phases
abbrev pub item_requests : ℕ → Item → List Request
item_requests phases (item.Opens number actor) = (record { phase = phases; actor = actor; op = op.Opens }) ∷ []
item_requests phases (item.Closes number actor) = (record { phase = phases; actor = actor; op = op.Closes }) ∷ []
item_requests phases (item.Phase lines) = map (request_of (phases + 1)) (in_order lines)

-- the requests of a body, after so many phases
abbrev pub requests_from : ℕ → List Item → List Request
requests_from phases [] = []
requests_from phases (i ∷ items) = item_requests phases i ++ requests_from (phases + length (phases_of (i ∷ []))) items

-- what the rows of a script's report are about, in order
abbrev pub requests_of : Script → List Request
requests_of script = requests_from 0 script.body
