use Rattle.lab_phase.specs.Prelude.{ap, arith, if◌then◌else◌, refl, ◌+◌, ◌∙◌, ◌≡◌, length-append, flat_map, Bool, length, List, vec_len, ℕ, [], ◌++◌, Row}
use Rattle.lab_phase.specs.Prelude.{CardActor, LabClients, clients_of, LabReaders, readers_of, rows_by}
use Rattle.lab_clients.specs.OneClient as client
use Rattle.lab_readers.specs.OneReader as reader
use Rattle.lab_phase.proofs.steps.take_rows.Goals as goal

abbrev client_rows : LabClients → List Row
client_rows cs = flat_map client.rows_of (clients_of cs)

abbrev reader_rows : LabReaders → List Row
reader_rows rs = flat_map reader.rows_of (readers_of rs)

length-rows_by : (a : CardActor) (cs : LabClients) (rs : LabReaders) → length (rows_by a cs rs) ≡ length a.rows.items + length (client_rows cs) + length (reader_rows rs)
length-rows_by a cs rs =
    length-append (a.rows.items ++ client_rows cs) (reader_rows rs) ∙ ap (λ (n : ℕ). n + length (reader_rows rs)) (length-append a.rows.items (client_rows cs))

pub unwrap-requires : goal.unwrap-requires
unwrap-requires c =
    let all = length-rows_by c.args.card.now c.args.clients.now c.args.readers.now in
    let own = c.args.card.now.rows.ok.0 in
    let room = c.requires in
    c.append.ensures.succeeds (omega (arith, all, own, room))

pub take_rows-requires : goal.take_rows-requires
take_rows-requires c =
    let all = length-rows_by c.args.card.now c.args.clients.now c.args.readers.now in
    let own = c.args.card.now.rows.ok.0 in
    let room = c.requires in
    let len = c.append.ensures.len ∙ ap (λ (ok : Bool). if ok then vec_len c.args.rows.now + vec_len c.args.card.now.rows else vec_len c.args.rows.now)
    (c.append.ensures.succeeds (omega (arith, all, own, room))) in
    let capacity = c.append.ensures.capacity in
    omega (arith, all, own, room, len, capacity)

pub take_rows-requires-2 : goal.take_rows-requires-2
take_rows-requires-2 c =
    let all = length-rows_by c.args.card.now c.args.clients.now c.args.readers.now in
    let own = c.args.card.now.rows.ok.0 in
    let room = c.requires in
    let len = c.append.ensures.len ∙ ap (λ (ok : Bool). if ok then vec_len c.args.rows.now + vec_len c.args.card.now.rows else vec_len c.args.rows.now)
    (c.append.ensures.succeeds (omega (arith, all, own, room))) in
    let capacity = c.append.ensures.capacity in
    let kept = c.take_rows.ensures.room in
    let before = c.append.new.self.ok.0 in
    let after = c.take_rows.new.rows.ok.0 in
    let count = ap length c.take_rows.ensures.rows in
    let both = length-append c.append.new.self.items (client_rows c.args.clients.now) in
    omega (arith, all, own, room, len, capacity, kept, before, after, count, both)

pub returns : goal.returns
returns c =
    let all = length-rows_by c.args.card.now c.args.clients.now c.args.readers.now in
    let own = c.args.card.now.rows.ok.0 in
    let room = c.requires in
    let moved = c.append.ensures.succeeds (omega (arith, all, own, room)) in
    let rows : List Row = c.args.rows.now.items in
    let mine : List Row = c.args.card.now.rows.items in
    record {
      all = c.take_rows-2.ensures.rows
          ∙ ap (λ (rs : List Row). rs ++ reader_rows c.args.readers.now)
          (c.take_rows.ensures.rows
          ∙ ap (λ (rs : List Row). rs ++ client_rows c.args.clients.now) (c.append.ensures.items ∙ ap (λ (ok : Bool). if ok then rows ++ mine else rows) moved));
      card = refl;
      played = refl;
      none = c.append.ensures.other_items ∙ ap (λ (ok : Bool). if ok then [] else mine) moved;
      clients = c.take_rows.ensures.clients;
      places = c.take_rows.ensures.places;
      readers = c.take_rows-2.ensures.readers;
    }
