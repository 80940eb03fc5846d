-- The rows of a run only grow.
use Rattle.lab_run.specs.Prelude.{ap, refl, sym, ◌+◌, ◌∙◌, ◌≡◌, append-nil, append_assoc, List, [], ◌++◌, ◌∷◌, Item, Row, is_of_card, ItemsMay, card_rows}
use Rattle.lab_run.specs.Prelude.{ops_by, Session, Stage}
use Rattle.lab_run.proofs.BorderLaws.{OverItems, items-over}

-- the rows of a stage, and more
pub record HasMore (stage after : Stage) : Type 0 where
  pub more : List Row
  pub rows : after.rows ≡ stage.rows ++ more

pub rows-over : (session : Session) → OverItems session HasMore
rows-over session = record {
  same = none;
  border = λ stage who. record {
    none = λ card. none stage;
    refused = λ lobby row of. one stage _ row refl;
    client = λ n client lobby claims row who_is of same. one stage _ row refl;
    reader = λ n own anew row who_is of. one stage _ row refl;
  };
  phase = λ stage after lines may. record {
    more = card_rows (stage.phases + 1) stage.position (ops_by is_of_card lines) ++ (may.client_rows ++ may.reader_rows);
    rows = ap (λ (s : Stage). s.rows) may.is
        ∙ append_assoc (stage.rows ++ card_rows (stage.phases + 1) stage.position (ops_by is_of_card lines)) may.client_rows may.reader_rows
        ∙ append_assoc stage.rows (card_rows (stage.phases + 1) stage.position (ops_by is_of_card lines)) (may.client_rows ++ may.reader_rows);
  };
  then = λ x y z here there.
      record { more = here.more ++ there.more; rows = there.rows ∙ ap (λ r. r ++ there.more) here.rows ∙ append_assoc x.rows here.more there.more };
}
  where
    one : (stage after : Stage) (row : Row) → after.rows ≡ stage.rows ++ row ∷ [] → HasMore stage after
    one stage after row is = record { more = row ∷ []; rows = is }

    none : (stage : Stage) → HasMore stage stage
    none stage = record { more = []; rows = sym (append-nil stage.rows) }

pub items-more : (session : Session) (stage after : Stage) (items : List Item) → ItemsMay session stage items after → HasMore stage after
items-more session = items-over session HasMore (rows-over session)
