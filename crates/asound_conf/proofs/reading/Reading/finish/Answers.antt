use Rattle.asound_conf.specs.Prelude.{arith, length, map, sym, [], ◌<◌, ◌∙◌, ◌≡◌, nat_tests, length-map, length-reverse, nil_from_length, reverse, last_line}
use Rattle.asound_conf.specs.Prelude.{bracket_of, state_of}
use Rattle.asound_conf.proofs.Readings.{end_of_text-open}
use Rattle.asound_conf.proofs.reading.Reading.finish.Goals as goal

pub returns-then-not-is_empty : goal.returns-then-not-is_empty
returns-then-not-is_empty c =
    let r = c.args.self in
    let outer = reverse r.outer.items in
    let count : length (map bracket_of outer) ≡ length r.outer.items = length-map outer bracket_of ∙ length-reverse r.outer.items in
    let open_ones = sym c.is_empty.ensures ∙ c.if-not-is_empty.true in
    let some : 0 < length r.outer.items = grind (arith, nat_tests, open_ones, r.outer.ok) in
    end_of_text-open (state_of r) (last_line r.table.text) (map bracket_of outer) r.awaits (omega (arith, some, count))

pub returns-in-Value : goal.returns-in-Value
returns-in-Value c =
    let items = c.args.self.outer.items in
    let open_ones = sym c.is_empty.ensures ∙ c.if-not-is_empty.false in
    let none : items ≡ [] = nil_from_length items (grind (arith, nat_tests, open_ones, c.args.self.outer.ok)) in
    rw (none, c.in-Value.is, c.last_line.ensures, c.text.ensures)

pub returns : goal.returns
returns c =
    let items = c.args.self.outer.items in
    let open_ones = sym c.is_empty.ensures ∙ c.if-not-is_empty.false in
    let none : items ≡ [] = nil_from_length items (grind (arith, nat_tests, open_ones, c.args.self.outer.ok)) in
    rw (none, c.in_default.is, c.of.ensures)
