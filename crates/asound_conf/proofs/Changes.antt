-- What the functions of a table change, by the cells that they read and write.
use Rattle.asound_conf.specs.Prelude.{ap, arith, false, get_or, inl, inr, is_none, length, length-append, List, map, Option, refl, set, Some, sym, true, ℕ, []}
use Rattle.asound_conf.specs.Prelude.{◌++◌, ◌<◌, ◌^◌, ◌∙◌, ◌∷◌, ◌≡◌, get_or-append, cases_eq, cases_lt, false≢true, nat_tests, same_from_decides}
use Rattle.asound_conf.specs.Prelude.{decimal_injective, get_or-set_at, get_or-set_other, get_or_default, get_or_read, length-map, length-set, map-set}
use Rattle.asound_conf.specs.Prelude.{bytes_eq-Decides, decimal, ◌==◌, bytes_eq, Cell, Content, Name, Span, ConfRow, Contents, row_at, with_row, bucket_at}
use Rattle.asound_conf.specs.Prelude.{bucket_of, cell_at, cell_row, content_of, content_with, contents_of, fits, HasBelow, is_live, IsIndexed, IsLink, IsTable}
use Rattle.asound_conf.specs.Prelude.{name_in, new_row, no_cell, no_number, parent_of, removed_row, span_in, value_in}
use Rattle.asound_conf.proofs.Tables.{IsNew, IsNoted, IsSame, IsTable-push, IsTable-set, content_with-same, row_at-map, row_is, rows-push}
use Rattle.asound_conf.specs.declared.cell.Name.TheVariants as names
use Rattle.asound_conf.specs.declared.cell.Content.TheVariants as contents

-- numbers are the same where their decimal texts are
pub bytes_eq-numbers : (m n : ℕ) → m < 2 ^ 32 → n < 2 ^ 32 → (m == n) ≡ bytes_eq (decimal m) (decimal n)
bytes_eq-numbers m n small fits =
    same_from_decides (m == n) (bytes_eq (decimal m) (decimal n))
    ((λ e. ap decimal (let same : m ≡ n = grind (arith, nat_tests, e) in same)), (λ e. let same : m ≡ n = decimal_injective m n (omega (arith, small)) (omega (arith, fits)) e in grind (arith, nat_tests, same)))
    (bytes_eq-Decides (decimal m) (decimal n))

-- a row's number is a cell's
pub inside-rows : (text : List ℕ) (cells : List Cell) (now : Contents) (n : ℕ) → contents_of text cells ≡ now → n < length now.rows → n < length cells
inside-rows text cells now n view inside =
    let rows : length (map (cell_row text) cells) ≡ length now.rows = ap (λ (k : Contents). length k.rows) view in
    omega (arith, rows, inside, length-map cells (cell_row text))

-- what is known of a cell that is given another content
pub record IsChanged (cells : List Cell) (n : ℕ) (content : Content) (new : Cell) : Type 0 where
  pub inside : n < length cells
  pub same : IsSame new (cell_at cells n)
  pub content_is : new.content ≡ content

pub IsChanged-read : (cells : List Cell) (n : ℕ) (content : Content) (cell new : Cell) → n < length cells → (is_live content ≡ true → is_live (cell_at cells n).content ≡ true) → cell ≡ get_or cells n cell → new ≡ record cell { content = content }
    → IsChanged cells n content new
IsChanged-read cells n content cell new inside was read made =
    let is : cell ≡ cell_at cells n = get_or_read cells n cell inside read no_cell in
    record {
      inside = inside;
      same = record {
        parent = ap (λ (d : Cell). d.parent) made ∙ ap (λ (d : Cell). d.parent) is;
        name = ap (λ (d : Cell). d.name) made ∙ ap (λ (d : Cell). d.name) is;
        earlier = ap (λ (d : Cell). d.earlier) made ∙ ap (λ (d : Cell). d.earlier) is;
        live = λ live. was (ap (λ (d : Cell). is_live d.content) (sym made) ∙ live);
      };
      content_is = ap (λ (d : Cell). d.content) made;
    }

-- what is known of rows and their text
abbrev pub with_rows : List ℕ → List ConfRow → Contents
with_rows text rows = record { text = text; rows = rows }

-- a cell that is removed, or that gets another text
pub IsTable-changed : (text : List ℕ) (cells : List Cell) (heads : List ℕ) (n : ℕ) (content : Content) (new : Cell) → HasBelow text cells n content → IsChanged cells n content new → IsTable text cells heads → IsTable text (set cells n new) heads
IsTable-changed text cells heads n content new below it is = IsTable-set text cells heads n new it.inside it.same (rw it.content_is below) is

pub contents-removed : (text : List ℕ) (cells : List Cell) (now : Contents) (n : ℕ) (new : Cell) → IsChanged cells n contents.Removed new → contents_of text cells ≡ now
    → contents_of text (set cells n new) ≡ with_rows now.text (set now.rows n (removed_row (row_at now.rows n)))
contents-removed text cells now n new it view =
    let old = row_at-map text cells n it.inside in
    let row : cell_row text new ≡ removed_row (row_at (map (cell_row text) cells) n) =
    row_is (ap (parent_of new.parent) it.content_is) (ap (name_in text) it.same.name ∙ ap (λ (r : ConfRow). r.name) (sym old)) (ap (value_in text) it.content_is) in
    ap (with_rows text) (map-set (cell_row text) cells n new ∙ ap (set (map (cell_row text) cells) n) row) ∙ ap (λ (k : Contents). with_rows k.text (set k.rows n (removed_row (row_at k.rows n)))) view

-- a row with another text
abbrev pub with_text : List ℕ → ConfRow → ConfRow
with_text t row = record { parent = row.parent; name = row.name; value = Some t }

-- a cell whose row has a text
text-is : (text : List ℕ) (content : Content) → is_none (value_in text content) ≡ false → (s : Span) × (content ≡ contents.Text s)
text-is text (contents.Text s) some = (s, refl)
text-is text other some = absurd (false≢true (sym some))

pub contents-text : (text : List ℕ) (cells : List Cell) (now : Contents) (n : ℕ) (span : Span) (new : Cell) → IsChanged cells n (contents.Text span) new → contents_of text cells ≡ now → is_none (row_at now.rows n).value ≡ false
    → contents_of text (set cells n new) ≡ with_rows now.text (set now.rows n (with_text (span_in now.text span) (row_at now.rows n)))
contents-text text cells now n span new it view some =
    let old = row_at-map text cells n it.inside in
    let its : is_none (value_in text (cell_at cells n).content) ≡ false = ap (λ (r : ConfRow). is_none r.value) (sym old) ∙ ap (λ (k : Contents). is_none (row_at k.rows n).value) view ∙ some in
    let row : cell_row text new ≡ with_text (span_in text span) (row_at (map (cell_row text) cells) n) =
    row_is
    (ap (parent_of new.parent) it.content_is ∙ ap (λ (q : ℕ). parent_of q (contents.Text span)) it.same.parent ∙ sym (ap (parent_of (cell_at cells n).parent) (text-is text (cell_at cells n).content its).1) ∙ ap (λ (r : ConfRow). r.parent) (sym old))
    (ap (name_in text) it.same.name ∙ ap (λ (r : ConfRow). r.name) (sym old))
    (ap (value_in text) it.content_is) in
    ap (with_rows text) (map-set (cell_row text) cells n new ∙ ap (set (map (cell_row text) cells) n) row) ∙ ap (λ (k : Contents). with_rows k.text (set k.rows n (with_text (span_in k.text span) (row_at k.rows n)))) view

-- a cell is added, and its group's cell notes its name: the table, and its rows
pub table-added : (text : List ℕ) (cells more : List Cell) (heads : List ℕ) (p n b e : ℕ) (name : Name) (value : Option Span) (content note : Content) (read again : Cell)
    → p < length cells → n ≡ length cells → n < no_number → b < length heads → b ≡ bucket_of (length heads) p (name_in text name) → content ≡ content_of value → e ≡ get_or heads b e
    → more ≡ cells ++ record { parent = p; name = name; content = content; earlier = e } ∷ [] → read ≡ get_or more p read → note ≡ content_with read.content name → again ≡ get_or more p again
    → IsTable text cells heads
    → IsTable text (set more p (record again { content = note })) (set heads b n)
    × (contents_of text (set more p (record again { content = note })) ≡ with_row (new_row text p name value) (contents_of text cells))
table-added text cells more heads p n b e name value content note read again inside number room within bucket content_is earlier all read_is note_is again_is is =
    let c : Cell = record { parent = p; name = name; content = content; earlier = e } in
    let in_more : p < length more = omega (arith, ap (λ (x : List Cell). length x) all, length-append cells (c ∷ []), inside) in
    let at_more : cell_at more p ≡ cell_at cells p = ap (λ (x : List Cell). cell_at x p) all ∙ get_or-append cells (c ∷ []) no_cell p inside in
    let group : read ≡ cell_at cells p = get_or_read more p read in_more read_is no_cell ∙ at_more in
    let same : again ≡ cell_at cells p = get_or_read more p again in_more again_is no_cell ∙ at_more in
    let content_noted : note ≡ content_with (cell_at cells p).content name = note_is ∙ ap (λ (d : Cell). content_with d.content name) group in
    let new : IsNew text cells heads c b = record {
      room = omega (arith, room, number);
      parent = inside;
      inside = within;
      bucket = bucket;
      earlier = get_or_read heads b
          e within earlier 0;
    } in
    let noted : IsNoted cells c (record again { content = note }) = record {
      place = record {
        parent = ap (λ (d : Cell). d.parent) same;
        name = ap (λ (d : Cell). d.name) same;
        earlier = ap (λ (d : Cell). d.earlier) same;
        live = λ live. sym (content_with-same is_live (cell_at cells p).content name (λ m n. refl)) ∙ ap is_live (sym content_noted) ∙ live;
      };
      content = content_noted;
    } in
    rw (all, number) (
      IsTable-push text cells heads c (record again { content = note }) b value new noted content_is is,
      ap (with_rows text) (rows-push text cells heads c (record again { content = note }) b value new noted content_is),
    )

-- the cell of zeros
abbrev pub zero_cell : Cell
zero_cell = record { parent = 0; name = names.Bytes (record { start = 0; count = 0 }); content = contents.Text (record { start = 0; count = 0 }); earlier = 0 }

-- a row with a text is a cell that wasn't removed
pub live-row : (text : List ℕ) (cells : List Cell) (now : Contents) (n : ℕ) → n < length cells → contents_of text cells ≡ now → is_none (row_at now.rows n).value ≡ false → is_live (cell_at cells n).content ≡ true
live-row text cells now n inside view some =
    let its = ap (λ (r : ConfRow). is_none r.value) (sym (row_at-map text cells n inside)) ∙ ap (λ (k : Contents). is_none (row_at k.rows n).value) view ∙ some in
    ap is_live (text-is text (cell_at cells n).content its).1

-- the last cell of a bucket is taken off it, where it was removed
head-forget : (text : List ℕ) (cells : List Cell) (heads : List ℕ) (n b e k : ℕ) → 0 < n → is_live (cell_at cells n).content ≡ false → b ≡ bucket_at (length heads) text cells n → b < length heads
    → get_or heads b 0 ≡ n → e ≡ (cell_at cells n).earlier → IsIndexed text cells heads → k < length heads → IsLink (length heads) text cells k (get_or (set heads b e) k 0) (length cells)
head-forget text cells heads n b e k some gone bucket within at before_it is inside = elim (cases_eq k b) [
  | inl same_bucket ↦
      let head : get_or (set heads b e) k 0 ≡ e = get_or-set_at heads b k e 0 same_bucket within in
      let last = is.head b within in
      let in_cells : n < length cells = omega (arith, last.order, at) in
      let link = is.link n some in_cells in
      record {
        order = omega (arith, head, before_it, link.order, in_cells);
        gap = λ j after before live same. elim (cases_lt j n) [
          | inl less ↦ link.gap j (omega (arith, head, before_it, after)) less live (same ∙ same_bucket ∙ bucket)
          | inr more ↦ elim (cases_eq j n) [
            | inl is_it ↦ false≢true (sym (ap (λ (i : ℕ). is_live (cell_at cells i).content) is_it ∙ gone) ∙ live)
            | inr ne ↦ last.gap j (omega (arith, at, more, ne)) before live (same ∙ same_bucket)
          ]
        ];
        same = λ more. ap (bucket_at (length heads) text cells) (head ∙ before_it) ∙ link.same (omega (arith, head, before_it, more)) ∙ sym bucket ∙ sym same_bucket;
      }
  | inr ne ↦ rw (get_or-set_other heads b k e 0 ne) (is.head k inside)
]

pub IsTable-forget : (text : List ℕ) (cells : List Cell) (heads : List ℕ) (n b e : ℕ) → 0 < n → is_live (cell_at cells n).content ≡ false → b ≡ bucket_at (length heads) text cells n → b < length heads
    → get_or heads b 0 ≡ n → e ≡ (cell_at cells n).earlier → IsTable text cells heads → IsTable text cells (set heads b e)
IsTable-forget text cells heads n b e some gone bucket within at before_it is =
    let wide : length heads ≡ length (set heads b e) = sym (length-set heads b e) in
    record {
      indexed = record {
        some = is.indexed.some;
        most = is.indexed.most;
        buckets = omega (arith, wide, is.indexed.buckets);
        root = is.indexed.root;
        falls = is.indexed.falls;
        head = λ k inside. rw (length-set heads b e) (head-forget text cells heads n b e k some gone bucket within at before_it is.indexed (omega (arith, wide, inside)));
        link = λ i more inside. rw (length-set heads b e) (is.indexed.link i more inside);
      };
      below = is.below;
    }

-- the same, of what is read: the cell, the bucket of its name, and the bucket's last cell
pub IsTable-forgot : (text : List ℕ) (cells : List Cell) (heads : List ℕ) (n b wide last : ℕ) (beside : Cell) (name : List ℕ) → IsTable text cells heads → n < length cells → 0 < n → is_live (cell_at cells n).content ≡ false
    → wide ≡ length heads → b < wide → b ≡ bucket_of wide (get_or cells n beside).parent name → name ≡ name_in text (get_or cells n beside).name → last ≡ get_or heads b last → last ≡ n
    → IsTable text cells (set heads b (get_or cells n beside).earlier)
IsTable-forgot text cells heads n b wide last beside name is inside some gone width within bucket named read at =
    let cell = get_or cells n beside in
    let same : cell ≡ cell_at cells n = get_or_default cells n beside no_cell inside in
    let bucket_is : b ≡ bucket_at (length heads) text cells n =
    bucket ∙ ap (λ w. bucket_of w cell.parent name) width ∙ ap (bucket_of (length heads) cell.parent) named ∙ ap (λ (c : Cell). bucket_of (length heads) c.parent (name_in text c.name)) same in
    let low : b < length heads = omega (arith, within, width) in
    IsTable-forget text cells heads n b cell.earlier some gone bucket_is low (sym (get_or_read heads b last low read 0) ∙ at) (ap (λ (c : Cell). c.earlier) same) is

-- the cell that was changed
pub gone-changed : (cells : List Cell) (n : ℕ) (new : Cell) → IsChanged cells n contents.Removed new → is_live (cell_at (set cells n new) n).content ≡ false
gone-changed cells n new it = ap (λ (d : Cell). is_live d.content) (get_or-set_at cells n n new no_cell refl it.inside) ∙ ap is_live it.content_is
