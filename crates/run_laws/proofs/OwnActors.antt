-- What an actor of any kind does where no phase leaves a choice is what it does by itself.
use Rattle.run_laws.specs.Prelude.{ap, length, List, None, Option, refl, Some, sym, ℕ, [], ◌++◌, ◌+◌, ◌<◌, ◌∙◌, ◌∷◌, ◌≡◌, ◌≢◌, eq-eqb, append-nil, append_assoc}
use Rattle.run_laws.specs.Prelude.{map-append, filter-append, Bool, false, filter, if◌then◌else◌, map, nat_eq, slice_index_or, true, PlaybackStream}
use Rattle.run_laws.specs.Prelude.{CaptureStream, Actor, Item, Line, Op, Answer, Row, first_frame, unplugs, item_text, items_text, phase_text, lines_text}
use Rattle.run_laws.specs.Prelude.{Alone, alone_at, alone_by, answers_of, close_alone, Given, HasLines, HaveLines, is_opening, NoneOpen, open_alone, own_close}
use Rattle.run_laws.specs.Prelude.{own_item, own_items, own_open, OwnItem, phase_alone, reaped_by, rows_by, ops_by, played_in, AtPort, CardEnd, after_close}
use Rattle.run_laws.specs.Prelude.{after_open, first_stage, Session, Stage, Border, close-by, open-by}
use Rattle.run_laws.proofs.OwnLines.{other-row, own-row, none-answers}
use Rattle.lab_lines.specs.declared.line.Actor.TheVariants as actor
use Rattle.lab_run.specs.Client as clients
use Rattle.lab_run.specs.Reader as readers
use Rattle.lab_lines.specs.declared.line.Item.TheVariants as item

-- whose the row of a client's line is, and of a reader's, and of which line
pub client_row-is : (phase m : ℕ) (asked : Op) (own : Option PlaybackStream) (answer : Answer)
    → ((clients.row_by phase m asked own answer).actor ≡ actor.Client m) × ((clients.row_by phase m asked own answer).op ≡ asked)
client_row-is phase m asked None answer = (refl, refl)
client_row-is phase m asked (Some c) answer = (refl, refl)

pub reader_row-is : (phase m : ℕ) (asked : Op) (own : Option CaptureStream) (answer : Answer)
    → ((readers.row_by phase m asked own answer).actor ≡ actor.Reader m) × ((readers.row_by phase m asked own answer).op ≡ asked)
reader_row-is phase m asked None answer = (refl, refl)
reader_row-is phase m asked (Some r) answer = (refl, refl)

-- what a stage is to one actor
abbrev pub view_of : {S : Type 0} → (Actor → Bool) → AtPort × S → Stage → Alone S
view_of is_theirs x stage =
    record { phases = stage.phases; position = stage.position; gone = stage.gone; actor = x; rows = rows_by is_theirs stage.rows }

-- with other rows
with-view : {S : Type 0} (is_theirs : Actor → Bool) (x y : AtPort × S) (stage : Stage) (rows own : List Row) → y ≡ x → rows_by is_theirs rows ≡ own
    → view_of is_theirs y (record stage { rows = rows }) ≡ record (view_of is_theirs x stage) { rows = own }
with-view is_theirs x y stage rows own same is =
    λ i. record { phases = stage.phases; position = stage.position; gone = stage.gone; actor = same i; rows = is i }

-- with a row of another actor, and with a row of this one
pub other-view : {S : Type 0} (is_theirs : Actor → Bool) (x y : AtPort × S) (stage : Stage) (row : Row) → y ≡ x → is_theirs row.actor ≡ false
    → view_of is_theirs y (record stage { rows = stage.rows ++ row ∷ [] }) ≡ view_of is_theirs x stage
other-view is_theirs x y stage row same is = with-view is_theirs x y stage (stage.rows ++ row ∷ []) (rows_by is_theirs stage.rows) same (other-row is_theirs stage.rows row is)

pub own-view : {S : Type 0} (is_theirs : Actor → Bool) (y z : AtPort × S) (stage : Stage) (row : Row) → y ≡ z → is_theirs row.actor ≡ true
    → view_of is_theirs y (record stage { rows = stage.rows ++ row ∷ [] }) ≡ record (view_of is_theirs z stage) { rows = rows_by is_theirs stage.rows ++ row ∷ [] }
own-view is_theirs y z stage row same is =
    with-view is_theirs z y stage (stage.rows ++ row ∷ []) (rows_by is_theirs stage.rows ++ row ∷ []) same (own-row is_theirs stage.rows row is)

-- what an item makes of an actor: rows of its own, and what the actor makes of its own item by itself
pub record ItemAlone {S : Type 0} (given : Given S) (before after : Alone S) (own : List OwnItem) : Type 0 where
  pub more : List Row
  pub rows : after.rows ≡ before.rows ++ more
  pub alone : (rest : List OwnItem) (answers : List Answer)
      → alone_by given before (own ++ rest) (answers_of more ++ answers) ≡ alone_by given after rest answers

pub other-item : {S : Type 0} (given : Given S) (before after : Alone S) (own : List OwnItem) → own ≡ [] → after ≡ before → ItemAlone given before after own
other-item given before after own none is = record {
  more = [];
  rows = ap (λ (a : Alone _). a.rows) is ∙ sym (append-nil before.rows);
  alone = λ rest answers. rw none (ap (λ a. alone_by given a rest answers) (sym is));
}

-- the answers of openings that a row has
answers-one : (opens : Bool) (row : Row) → is_opening row.op ≡ opens → answers_of (row ∷ []) ≡ (if opens then row.answer ∷ [] else [])
answers-one true row is = rw is refl
answers-one false row is = rw is refl

-- the row of an opening of this actor, and of a closing, by what the actor is afterwards
pub opens-own : {S : Type 0} (given : Given S) (is_theirs : Actor → Bool) (x y z : AtPort × S) (stage : Stage) (row : Row) → is_opening row.op ≡ true → is_theirs row.actor ≡ true → y ≡ z
    → record (view_of is_theirs z stage) { rows = rows_by is_theirs stage.rows ++ row ∷ [] } ≡ open_alone given (view_of is_theirs x stage) row.answer
    → ItemAlone given (view_of is_theirs x stage) (view_of is_theirs y (record stage { rows = stage.rows ++ row ∷ [] })) (own_open ∷ [])
opens-own given is_theirs x y z stage row opening own same is = record {
  more = row ∷ [];
  rows = own-row is_theirs stage.rows row own;
  alone = λ rest answers. ap (λ xs. alone_by given (view_of is_theirs x stage) (own_open ∷ rest) (xs ++ answers)) (answers-one true row opening)
      ∙ ap (λ a. alone_by given a rest answers) (sym (own-view is_theirs y z stage row same own ∙ is));
}

pub closes-own : {S : Type 0} (given : Given S) (is_theirs : Actor → Bool) (x y z : AtPort × S) (stage : Stage) (row : Row) → is_opening row.op ≡ false → is_theirs row.actor ≡ true → y ≡ z
    → record (view_of is_theirs z stage) { rows = rows_by is_theirs stage.rows ++ row ∷ [] } ≡ close_alone given (view_of is_theirs x stage)
    → ItemAlone given (view_of is_theirs x stage) (view_of is_theirs y (record stage { rows = stage.rows ++ row ∷ [] })) (own_close ∷ [])
closes-own given is_theirs x y z stage row closing own same is = record {
  more = row ∷ [];
  rows = own-row is_theirs stage.rows row own;
  alone = λ rest answers. ap (λ xs. alone_by given (view_of is_theirs x stage) (own_close ∷ rest) (xs ++ answers)) (answers-one false row closing)
      ∙ ap (λ a. alone_by given a rest answers) (sym (own-view is_theirs y z stage row same own ∙ is));
}

-- no test has both answers
pub both : {b : Bool} → b ≡ true → b ≡ false → ⊥
both x y = absurd (cc)

pub not-own : (n m : ℕ) → nat_eq m n ≡ false → n ≢ m
not-own n m is same = absurd (both (eq-eqb m n (sym same)) is)

pub answers_of-append : (a b : List Row) → answers_of (a ++ b) ≡ answers_of a ++ answers_of b
answers_of-append a b =
    ap (map (λ (row : Row). row.answer)) (filter-append _ a b)
    ∙ map-append (λ (row : Row). row.answer) (filter (λ (row : Row). is_opening row.op) a) (filter (λ (row : Row). is_opening row.op) b)

-- two items in a row
pub items-then : {S : Type 0} (given : Given S) (x y z : Alone S) (own others : List OwnItem) → ItemAlone given x y own → ItemAlone given y z others → ItemAlone given x z (own ++ others)
items-then given x y z own others one two = record {
  more = one.more ++ two.more;
  rows = two.rows ∙ ap (λ r. r ++ two.more) one.rows ∙ append_assoc x.rows one.more two.more;
  alone = λ rest answers. (λ i. alone_by given x (append_assoc own others rest i)
      ((ap (λ r. r ++ answers) (answers_of-append one.more two.more) ∙ append_assoc (answers_of one.more) (answers_of two.more) answers) i))
      ∙ one.alone (others ++ rest) (answers_of two.more ++ answers) ∙ two.alone rest answers;
}

-- ---- what an actor of any kind does where no phase leaves a choice is what it does by itself

-- an actor of a session: which rows are its own, the actors of its kind, which of them it is, one that was never open, and what the actor
-- is by its line and file
pub record Own (S : Type 0) : Type 0 where
  pub is_theirs : Actor → Bool
  pub actors : Stage → List (AtPort × S)
  pub number : ℕ
  pub nobody : AtPort × S
  pub given : Given S

abbrev pub actor_in : {S : Type 0} → Own S → Stage → AtPort × S
actor_in own stage = slice_index_or (own.actors stage) own.number own.nobody

-- what a stage is to the actor
abbrev pub view : {S : Type 0} → Own S → Stage → Alone S
view own stage = view_of own.is_theirs (actor_in own stage) stage

-- an opening or closing of another leaves the actor as it was, and any leaves as many of its kind
pub record LeavesOthers {S : Type 0} (own : Own S) (who : Actor) (stage after : Stage) : Type 0 where
  pub same : own.is_theirs who ≡ false → view own after ≡ view own stage
  pub size : length (own.actors after) ≡ length (own.actors stage)

-- the card at a phase's end, and the lines of the actor in the phase
abbrev pub own_card : {S : Type 0} → Own S → Stage → List Line → CardEnd
own_card own stage lines = record { ring = own.given.ring; position = stage.position + played_in lines; gone = stage.gone }

abbrev pub own_lines : {S : Type 0} → Own S → Stage → List Line → (AtPort × S) × List Row
own_lines own stage lines =
    lines_text (own.given.kind (stage.phases + 1)) (own_card own stage lines) (actor_in own stage) (ops_by own.is_theirs lines)

-- a phase adds the rows of these lines, and leaves the actor as they do, or reaped
pub record PhaseOf {S : Type 0} (own : Own S) (stage : Stage) (lines : List Line) (after : Stage) : Type 0 where
  pub rows : rows_by own.is_theirs after.rows ≡ rows_by own.is_theirs stage.rows ++ (own_lines own stage lines).1
  pub actor : actor_in own after ≡ reaped_by own.given (own.given.is_stopped (own_lines own stage lines).0.1) (own_lines own stage lines).0

-- what is known of an actor
pub record IsOwn {S : Type 0} (session : Session) (own : Own S) : Type 0 where
  pub border : (stage : Stage) (who : Actor) → Border session stage who (LeavesOthers own who stage)
  pub opens : (stage : Stage) (who : Actor) → own.is_theirs who ≡ true → own.number < length (own.actors stage)
      → ItemAlone own.given (view own stage) (view own (after_open session stage who)) (own_open ∷ [])
  pub closes : (stage : Stage) (who : Actor) → own.is_theirs who ≡ true → own.number < length (own.actors stage)
      → ItemAlone own.given (view own stage) (view own (after_close session stage who)) (own_close ∷ [])
  pub phase : (stage : Stage) (lines : List Line) → own.number < length (own.actors stage) → PhaseOf own stage lines (phase_text session stage lines)
  pub size : (stage : Stage) (lines : List Line) → length (own.actors (phase_text session stage lines)) ≡ length (own.actors stage)
  pub row_op : (phase : ℕ) (asked : Op) (s : S) (answer : Answer) → ((own.given.kind phase).row asked s answer).op ≡ asked

module _ {S : Type 0} (session : Session) (own : Own S) (is : IsOwn session own) where
  item-size : (stage : Stage) (one : Item) → length (own.actors (item_text session stage one)) ≡ length (own.actors stage)
  item-size stage (item.Opens number who) = (open-by session stage (LeavesOthers own who stage) who (is.border stage who)).size
  item-size stage (item.Closes number who) = (close-by session stage (LeavesOthers own who stage) who (is.border stage who)).size
  item-size stage (item.Phase lines) = is.size stage lines

  phase-alone : (stage : Stage) (lines : List Line) → own.number < length (own.actors stage) → NoneOpen (ops_by own.is_theirs lines)
      → ItemAlone own.given (view own stage) (view own (phase_text session stage lines)) (own_item own.is_theirs (item.Phase lines))
  phase-alone stage lines there none = record {
    more = (own_lines own stage lines).1;
    rows = phase.rows;
    alone = λ rest answers. ap (λ xs. alone_by own.given (phase_alone own.given (view own stage) (played_in lines) (unplugs lines) (ops_by own.is_theirs lines)) rest (xs ++ answers))
        (none-answers (own.given.kind (stage.phases + 1)) (own_card own stage lines) (actor_in own stage) (ops_by own.is_theirs lines) (is.row_op (stage.phases + 1)) none)
        ∙ ap (λ x. alone_by own.given x rest answers) (sym same);
  }
    where
      phase : PhaseOf own stage lines (phase_text session stage lines)
      phase = is.phase stage lines there

      same : view own (phase_text session stage lines) ≡ phase_alone own.given (view own stage) (played_in lines) (unplugs lines) (ops_by own.is_theirs lines)
      same = λ i. record {
        phases = stage.phases + 1;
        position = stage.position + played_in lines;
        gone = (phase_text session stage lines).gone;
        actor = phase.actor i;
        rows = phase.rows i;
      }

  -- an opening or closing, by whether it is the actor's own
  border-alone : (stage after : Stage) (who : Actor) (one : OwnItem) (mine : Bool) → own.is_theirs who ≡ mine → LeavesOthers own who stage after
      → (own.is_theirs who ≡ true → ItemAlone own.given (view own stage) (view own after) (one ∷ []))
      → ItemAlone own.given (view own stage) (view own after) (if own.is_theirs who then one ∷ [] else [])
  border-alone stage after who one true mine leaves does = rw mine (does mine)
  border-alone stage after who one false mine leaves does = other-item own.given _ _ _ (rw mine refl) (leaves.same mine)

  item-alone : (stage : Stage) (one : Item) → own.number < length (own.actors stage) → HasLines own.is_theirs one
      → ItemAlone own.given (view own stage) (view own (item_text session stage one)) (own_item own.is_theirs one)
  item-alone stage (item.Opens number who) there lines = border-alone stage (after_open session stage who) who own_open (own.is_theirs who) refl
      (open-by session stage (LeavesOthers own who stage) who (is.border stage who)) (λ mine. is.opens stage who mine there)
  item-alone stage (item.Closes number who) there lines = border-alone stage (after_close session stage who) who own_close (own.is_theirs who) refl
      (close-by session stage (LeavesOthers own who stage) who (is.border stage who)) (λ mine. is.closes stage who mine there)
  item-alone stage (item.Phase phase) there lines = phase-alone stage phase there lines

  items-alone : (stage : Stage) (items : List Item) → own.number < length (own.actors stage) → HaveLines own.is_theirs items
      → ItemAlone own.given (view own stage) (view own (items_text session stage items)) (own_items own.is_theirs items)
  items-alone stage [] there lines = other-item own.given _ _ _ refl refl
  items-alone stage (one ∷ items) there lines =
      items-then own.given _ (view own (item_text session stage one)) _ (own_item own.is_theirs one) (own_items own.is_theirs items)
      (item-alone stage one there lines.0)
      (items-alone (item_text session stage one) items (rw (item-size stage one) there) lines.1)

  -- after a body the actor is what it is by itself, with the answers of its own opens
  pub own-alone : (body : List Item) → own.number < length (own.actors (first_stage session)) → actor_in own (first_stage session) ≡ own.nobody → HaveLines own.is_theirs body
      → view own (items_text session (first_stage session) body)
      ≡ alone_by own.given (alone_at (first_frame session.card) own.nobody) (own_items own.is_theirs body) (answers_of (rows_by own.is_theirs (items_text session (first_stage session) body).rows))
  own-alone body there begins lines =
      sym (all.alone [] [])
      ∙ (λ i. alone_by own.given (first i) (append-nil (own_items own.is_theirs body) i) ((append-nil (answers_of all.more) ∙ ap answers_of (sym all.rows)) i))
    where
      all : ItemAlone own.given (view own (first_stage session)) (view own (items_text session (first_stage session) body)) (own_items own.is_theirs body)
      all = items-alone (first_stage session) body there lines

      first : view own (first_stage session) ≡ alone_at (first_frame session.card) own.nobody
      first = ap (λ (x : AtPort × S). let a : Alone S = alone_at (first_frame session.card) x in a) begins
