-- What each script that is read keeps: ranges, names that differ, actors that there are, and the card's limits.
use Rattle.std.specs.Prelude.{◌≡◌, ◌≢◌, ℕ, ◌+◌, ◌*◌, ◌%◌, ◌<◌, ◌≤◌, true, false, List, length, Option, Some, None, Ok, All, AllPairs}
use Rattle.std.specs.List.{list_any}
use Rattle.bindings.specs.Answers.{answer_of}
use Rattle.lab_lines.specs.declared.line.Actor.{Actor}
use Rattle.lab_lines.specs.declared.line.Actor.TheVariants.{Card, Client, Reader}
use Rattle.lab_lines.specs.declared.line.Item.{Item}
use Rattle.lab_lines.specs.declared.line.Item.TheVariants as item
use Rattle.lab_lines.specs.declared.line.Line.{Line}
use Rattle.lab_lines.specs.declared.line.Op.{Op}
use Rattle.lab_lines.specs.declared.line.Op.TheVariants as op
use Rattle.lab_lines.specs.declared.script.CardLine.{CardLine}
use Rattle.lab_lines.specs.declared.script.ClientLine.{ClientLine}
use Rattle.lab_lines.specs.declared.script.ReaderLine.{ReaderLine}
use Rattle.lab_lines.specs.declared.script.Script.{Script}
use Rattle.lab_lines.specs.declared.script.Stop.{Stop}
use Rattle.lab_lines.specs.declared.script.Stop.TheVariants as stop
use Rattle.lab_lines.specs.Script.{phases_of, frames_played, first_frame, unplugs, is_card_line}
use Rattle.lab_lines.specs.Names.{is_name, is_file}

-- a number is in a range
pub record IsIn (least most n : ℕ) : Type 0 where
  pub low : least ≤ n
  pub high : n ≤ most

-- a number, where it is given, is in a range
abbrev pub IsInWhere : ℕ → ℕ → Option ℕ → Type 0
IsInWhere least most None = Unit {0}
IsInWhere least most (Some n) = IsIn least most n

-- a file's name, where it is given, has the form of one
abbrev pub IsFileWhere : Option (List ℕ) → Type 0
IsFileWhere None = Unit {0}
IsFileWhere (Some file) = is_file file ≡ true

-- a stop threshold, where it is given, is from 1 to 65536 frames, or the boundary
abbrev pub IsStopWhere : Option Stop → Type 0
IsStopWhere None = Unit {0}
IsStopWhere (Some stop.Never) = Unit {0}
IsStopWhere (Some (stop.At frames)) = IsIn 1 65536 frames

-- bindings, where they are given, are such as `Bindings::read` gives on a card of so many channels
abbrev pub IsBoundWhere : ℕ → Option (List ℕ) → Type 0
IsBoundWhere channels None = Unit {0}
IsBoundWhere channels (Some list) = answer_of list channels ≡ Ok list

-- the card's numbers are in their ranges, and its period divides its ring at least twice
pub record IsCardLine (card : CardLine) : Type 0 where
  pub channels : IsIn 1 8 card.channels
  pub rate : IsIn 4000 192000 card.rate
  pub ring : IsIn 64 16384 card.ring
  pub period_low : 16 ≤ card.period
  pub period_high : 2 * card.period ≤ card.ring
  pub period_divides : card.ring % card.period ≡ 0
  pub places : IsIn 1 64 card.places
  pub lap : card.lap ≤ 4294967294
  pub capture : IsFileWhere card.capture

-- a client's words are of their forms, its numbers in their ranges, and its lead is below the ring
pub record IsClientLine (card : CardLine) (client : ClientLine) : Type 0 where
  pub name : is_name client.name ≡ true
  pub file : is_file client.file ≡ true
  pub bindings : IsBoundWhere card.channels client.bindings
  pub buffer : IsInWhere 32 16384 client.buffer
  pub period : IsInWhere 16 8192 client.period
  pub start : IsIn 1 65536 client.start
  pub stop : IsStopWhere client.stop
  pub lead : client.lead < card.ring

-- a reader's words are of their forms, and its numbers in their ranges
pub record IsReaderLine (card : CardLine) (reader : ReaderLine) : Type 0 where
  pub name : is_name reader.name ≡ true
  pub bindings : IsBoundWhere card.channels reader.bindings
  pub buffer : IsInWhere 32 16384 reader.buffer
  pub period : IsInWhere 16 8192 reader.period
  pub start : IsIn 1 65536 reader.start
  pub stop : IsStopWhere reader.stop

-- a client or reader is one of so many
abbrev pub IsBorder : ℕ → ℕ → Actor → Type 0
IsBorder clients readers Card = ⊥
IsBorder clients readers (Client number) = number < clients
IsBorder clients readers (Reader number) = number < readers

-- an actor is the card, or one of so many clients and readers
abbrev pub IsActor : ℕ → ℕ → Actor → Type 0
IsActor clients readers Card = Unit {0}
IsActor clients readers (Client number) = number < clients
IsActor clients readers (Reader number) = number < readers

-- what each actor can be asked for, with its numbers in their ranges
abbrev pub IsOpOf : Actor → Op → Type 0
IsOpOf Card (op.Play frames) = frames ≤ 4194304
IsOpOf Card op.Unplug = Unit {0}
IsOpOf Card other = ⊥
IsOpOf (Client number) (op.Write frames) = frames ≤ 4194304
IsOpOf (Client number) op.Start = Unit {0}
IsOpOf (Client number) op.Sync = Unit {0}
IsOpOf (Client number) op.Avail = Unit {0}
IsOpOf (Client number) op.Delay = Unit {0}
IsOpOf (Client number) op.Drain = Unit {0}
IsOpOf (Client number) op.Drop = Unit {0}
IsOpOf (Client number) op.Prepare = Unit {0}
IsOpOf (Client number) op.Pause = Unit {0}
IsOpOf (Client number) op.Resume = Unit {0}
IsOpOf (Client number) (op.Rewind frames) = frames ≤ 4194304
IsOpOf (Client number) op.Rewindable = Unit {0}
IsOpOf (Client number) (op.Die steps) = steps ≤ 1000000
IsOpOf (Client number) other = ⊥
IsOpOf (Reader number) (op.Read frames) = frames ≤ 4194304
IsOpOf (Reader number) op.Start = Unit {0}
IsOpOf (Reader number) op.Sync = Unit {0}
IsOpOf (Reader number) op.Avail = Unit {0}
IsOpOf (Reader number) op.Drop = Unit {0}
IsOpOf (Reader number) op.Prepare = Unit {0}
IsOpOf (Reader number) op.Pause = Unit {0}
IsOpOf (Reader number) (op.Die steps) = steps ≤ 1000000
IsOpOf (Reader number) other = ⊥

-- a line is of an actor that there is, and asks for something that this actor can be asked for
pub record IsLine (clients readers : ℕ) (line : Line) : Type 0 where
  pub actor : IsActor clients readers line.actor
  pub op : IsOpOf line.actor line.op

-- a phase that unplugs the card has no other line
abbrev pub IsAlone : List Line → Type 0
IsAlone lines = unplugs lines ≡ true → length lines ≡ 1

-- a phase: its lines, of which one that unplugs the card is alone
pub record IsPhase (clients readers : ℕ) (lines : List Line) : Type 0 where
  pub each : All (IsLine clients readers) lines
  pub alone : IsAlone lines

-- a client or reader that there is is opened or closed, or there is a phase
abbrev pub IsItem : ℕ → ℕ → Item → Type 0
IsItem clients readers (item.Opens number actor) = IsBorder clients readers actor
IsItem clients readers (item.Closes number actor) = IsBorder clients readers actor
IsItem clients readers (item.Phase lines) = IsPhase clients readers lines

-- the card has no line in a phase after one that unplugs it
abbrev pub IsGoneAfter : List Line → List Line → Type 0
IsGoneAfter before after = unplugs before ≡ true → list_any is_card_line after ≡ false

-- a script: its lines are in their ranges, names differ, each actor is declared, and the card keeps its limits
pub record IsScript (script : Script) : Type 0 where
  pub card : IsCardLine script.card
  pub clients : length script.clients ≤ 64
  pub readers : length script.readers ≤ 64
  pub each_client : All (IsClientLine script.card) script.clients
  pub each_reader : All (IsReaderLine script.card) script.readers
  pub clients_differ : AllPairs (λ (a : ClientLine) (b : ClientLine). a.name ≢ b.name) script.clients
  pub readers_differ : AllPairs (λ (a : ReaderLine) (b : ReaderLine). a.name ≢ b.name) script.readers
  pub apart : All (λ (client : ClientLine). All (λ (reader : ReaderLine). client.name ≢ reader.name) script.readers) script.clients
  pub body : All (IsItem (length script.clients) (length script.readers)) script.body
  pub phases : length (phases_of script.body) ≤ 4096
  pub gone : AllPairs IsGoneAfter (phases_of script.body)
  pub frames : frames_played (phases_of script.body) ≤ 4194304
  pub laps : first_frame script.card + frames_played (phases_of script.body) + script.card.ring ≤ 4294967295 * script.card.ring
