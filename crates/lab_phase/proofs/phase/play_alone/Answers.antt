use Rattle.lab_phase.specs.Prelude.{ap, arith, if◌then◌else◌, refl, ◌+◌, ◌∙◌, ◌≡◌, Vec, Bool, length, List, vec_len, ℕ, [], ◌++◌, ◌≤◌, Line, Row, is_of_card}
use Rattle.lab_phase.specs.Prelude.{card_rows, ops_by, frame_of_card, own-at-most, length-card_rows}
use Rattle.lab_phase.proofs.phase.play_alone.Goals as goal

-- the card's rows are no more than the lines of a phase
len-card_rows : (phase position : ℕ) (lines : List Line) (before rows : Vec Row) → before.items ≡ [] → rows.items ≡ before.items ++ card_rows phase position (ops_by is_of_card lines)
    → vec_len rows ≤ length lines
len-card_rows phase position lines before rows none are =
    let count = ap length (are ∙ ap (λ (rs : List Row). rs ++ card_rows phase position (ops_by is_of_card lines)) none) in
    let own = length-card_rows phase position (ops_by is_of_card lines) in
    let most = own-at-most lines in
    let len = rows.ok.0 in
    omega (arith, count, own, most, len)

pub unwrap-requires : goal.unwrap-requires
unwrap-requires c =
    let asked = c.args.asked.now in
    let most = len-card_rows asked.phase (frame_of_card c.take_room.new.self.card) asked.lines.now c.take_room.new.self.rows c.run_lines.new.self.rows
    (c.take_room.ensures.rows ∙ c.requires.none) c.run_lines.ensures.rows in
    let space = c.in_ok-reserve.ensures.ok in
    c.append.ensures.succeeds (omega (arith, most, space))

pub returns-clause-plays : goal.returns-clause-plays
returns-clause-plays c =
    let asked = c.args.asked.now in
    let most = len-card_rows asked.phase (frame_of_card c.take_room.new.self.card) asked.lines.now c.take_room.new.self.rows c.run_lines.new.self.rows
    (c.take_room.ensures.rows ∙ c.requires.none) c.run_lines.ensures.rows in
    let space = c.in_ok-reserve.ensures.ok in
    let moved = c.append.ensures.succeeds (omega (arith, most, space)) in
    record {
      roomy = c.take_room.new.self;
      played = c.run_lines.new.self;
      same_card = c.take_room.ensures.card;
      same_samples = c.take_room.ensures.played;
      same_rows = c.take_room.ensures.rows;
      part = c.run_lines.ensures;
      card_is = refl;
      samples_are = refl;
      none = c.append.ensures.other_items ∙ ap (λ (ok : Bool). if ok then [] else c.run_lines.new.self.rows.items) moved;
      all = c.append.ensures.items
          ∙ (ap (λ (ok : Bool). if ok then c.reserve.new.self.items ++ c.run_lines.new.self.rows.items else c.reserve.new.self.items) moved
          ∙ ap (λ (rs : List Row). rs ++ c.run_lines.new.self.rows.items) c.reserve.ensures.items);
      few =
          let len = c.append.ensures.len ∙ ap (λ (ok : Bool). if ok then vec_len c.reserve.new.self + vec_len c.run_lines.new.self.rows else vec_len c.reserve.new.self) moved in
          let after = c.append.new.self.ok.0 in
          let before = c.args.rows.now.ok.0 in
          let same = c.reserve.ensures.len in
          omega (arith, most, len, after, before, same);
    }
