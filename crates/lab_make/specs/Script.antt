-- The script that the text of a workload spells.
use Rattle.std.specs.Prelude.{ℕ, ◌+◌, ◌-◌, ◌*◌, List, [], ◌∷◌, ◌++◌, map, None, false}
use Rattle.std.specs.List.{flat_map, range_with_len}
use Rattle.lab_lines.specs.declared.line.Actor.TheVariants.{Card, Client}
use Rattle.lab_lines.specs.declared.line.Item.{Item}
use Rattle.lab_lines.specs.declared.line.Item.TheVariants as item
use Rattle.lab_lines.specs.declared.line.Line.{Line}
use Rattle.lab_lines.specs.declared.line.Op.TheVariants as op
use Rattle.lab_lines.specs.declared.script.CardLine.{CardLine}
use Rattle.lab_lines.specs.declared.script.ClientLine.{ClientLine}
use Rattle.lab_lines.specs.declared.script.Script.{Script}
use Rattle.lab_lines.specs.declared.script.Share.TheVariants as share
use Rattle.lab_make.specs.Files.{file_name}
use Rattle.lab_make.specs.Lines.{client_name, frames_written}

-- the card, on line 1
abbrev pub made_card : CardLine
made_card = record {
  number = 1;
  channels = 2;
  rate = 48000;
  period = 64;
  ring = 1024;
  places = 64;
  lap = 0;
  capture = None;
  share = share.Dmix;
}

-- the client of this number, counted from 0; the clients' lines follow the card's
abbrev pub made_client : ℕ → ClientLine
made_client client = record {
  number = client + 2;
  name = client_name client;
  file = file_name client;
  bindings = None;
  buffer = None;
  period = None;
  start = 1;
  stop = None;
  lead = 64;
  plug = false;
}

-- a client of so many is opened; these lines follow the clients'
abbrev pub made_opening : ℕ → ℕ → Item
made_opening clients client = item.Opens (clients + 2 + client) (Client client)

-- the first line of a turn, counted from 1; the turns' lines follow those that open clients
abbrev pub turn_line : ℕ → ℕ → ℕ
turn_line clients turn = 2 * clients + 2 + (turn - 1) * (clients + 5)

-- a client writes in a turn
abbrev pub write_line : ℕ → ℕ → ℕ → Line
write_line clients turn client = record {
  number = turn_line clients turn + 1 + client;
  actor = Client client;
  op = op.Write (frames_written turn client);
}

-- the card plays one period in a turn
abbrev pub play_line : ℕ → ℕ → Line
play_line clients turn = record { number = turn_line clients turn + clients + 3; actor = Card; op = op.Play 64 }

-- the phases of a turn: all clients write, and then the card plays
abbrev pub turn_items : ℕ → ℕ → List Item
turn_items clients turn =
    item.Phase (map (write_line clients turn) (range_with_len 0 clients)) ∷ item.Phase (play_line clients turn ∷ []) ∷ []

-- what is done: each client is opened, and then come the turns
abbrev pub made_body : ℕ → ℕ → List Item
made_body clients turns =
    map (made_opening clients) (range_with_len 0 clients) ++ flat_map (turn_items clients) (range_with_len 1 turns)

-- the script of so many clients and turns
abbrev pub made_script : ℕ → ℕ → Script
made_script clients turns = record {
  card = made_card;
  clients = map made_client (range_with_len 0 clients);
  readers = [];
  body = made_body clients turns;
}
