-- The rows that a table's cells are, and the order in which cells are sought.
use Rattle.std.specs.Prelude.{◌≡◌, ℕ, ◌+◌, ◌*◌, ◌-◌, ◌%◌, ◌^◌, ◌<◌, ◌≤◌, ◌==◌, ◌&&◌, if◌then◌else◌, bit_and, max, nat_le, nat_lt, Bool, true, false, option_map, List, take, drop, map, length, fold, get_or, bytes_eq, Option, Some, None}
use Rattle.std.specs.Fmt.{decimal}
use Rattle.asound_conf.specs.declared.cell.Span.{Span}
use Rattle.asound_conf.specs.declared.cell.Name.{Name}
use Rattle.asound_conf.specs.declared.cell.Name.TheVariants as names
use Rattle.asound_conf.specs.declared.cell.ConfText.{ConfText}
use Rattle.asound_conf.specs.declared.cell.ConfText.TheVariants as keys
use Rattle.asound_conf.specs.declared.cell.Content.{Content}
use Rattle.asound_conf.specs.declared.cell.Content.TheVariants as contents
use Rattle.asound_conf.specs.declared.cell.Cell.{Cell}
use Rattle.text_words.specs.Word.{decimal_of}
use Rattle.asound_conf.specs.Rows.{ConfRow, Contents, is_in}

-- the greatest number of a cell's kind
abbrev pub no_number : ℕ
no_number = 4294967295

-- the bytes of a text that a span is
abbrev pub span_in : List ℕ → Span → List ℕ
span_in text s = take s.count (drop s.start text)

-- the bytes that a name is
abbrev pub name_in : List ℕ → Name → List ℕ
name_in text (names.Bytes s) = span_in text s
name_in text (names.Number n) = decimal n

-- the bytes of a name
abbrev pub text_bytes : ConfText → List ℕ
text_bytes (keys.Bytes b) = b.now
text_bytes (keys.Number n) = decimal n

-- the text that a cell has, where it is no group
abbrev pub value_in : List ℕ → Content → Option (List ℕ)
value_in text (contents.Text s) = Some (span_in text s)
value_in text (contents.Group numbers) = None
value_in text contents.Removed = None

-- the number of the group that a cell is in, where it is in one
abbrev pub parent_of : ℕ → Content → Option ℕ
parent_of p (contents.Text s) = if p == no_number then None else Some p
parent_of p (contents.Group numbers) = if p == no_number then None else Some p
parent_of p contents.Removed = None

-- the row that a cell is
abbrev pub cell_row : List ℕ → Cell → ConfRow
cell_row text c = record { parent = parent_of c.parent c.content; name = name_in text c.name; value = value_in text c.content }

-- what a table has
abbrev pub contents_of : List ℕ → List Cell → Contents
contents_of text cells = record { text = text; rows = map (cell_row text) cells }

-- a row is a node of a group, under a name
abbrev pub fits : ℕ → List ℕ → ConfRow → Bool
fits p name row = is_in p row.parent && bytes_eq row.name name

-- the content of a new cell
abbrev pub content_of : Option Span → Content
content_of (Some s) = contents.Text s
content_of None = contents.Group 0

-- the row of a new cell
abbrev pub new_row : List ℕ → ℕ → Name → Option Span → ConfRow
new_row text p name value = record { parent = Some p; name = name_in text name; value = option_map (span_in text) value }

-- a row that isn't in its group any more
abbrev pub removed_row : ConfRow → ConfRow
removed_row row = record { parent = None; name = row.name; value = None }

-- the number that is past a group's names, where it gets this one
abbrev pub number_after : ℕ → Name → ℕ
number_after numbers (names.Bytes s) = no_number
number_after numbers (names.Number n) = if nat_lt n no_number then max numbers (n + 1) else no_number

-- what a group's cell has, where the group gets this name
abbrev pub content_with : Content → Name → Content
content_with (contents.Text s) name = contents.Text s
content_with (contents.Group numbers) name = contents.Group (number_after numbers name)
content_with contents.Removed name = contents.Removed

-- what is sought is a number past a group's names
abbrev pub lacks : Content → ConfText → Bool
lacks (contents.Text s) key = false
lacks (contents.Group numbers) (keys.Bytes b) = false
lacks (contents.Group numbers) (keys.Number n) = nat_le numbers n && nat_lt n no_number
lacks contents.Removed key = false

-- a hash that one byte more is mixed into
abbrev pub hash_with_byte : ℕ → ℕ → ℕ
hash_with_byte hash byte = ((hash + byte) % 2 ^ 32) * 0x9E37_79B1 % 2 ^ 32

-- a hash of a group's number and a name
abbrev pub hash_by : ℕ → Option ℕ → List ℕ → ℕ
hash_by p (Some number) name = (p * 8 % 2 ^ 32 + number % 2 ^ 32) % 2 ^ 32
hash_by p None name = (p + fold hash_with_byte 0 name) % 2 ^ 32

-- a hash of a group's number and a name, which may be the decimal text of a number
abbrev pub hash_of : ℕ → List ℕ → ℕ
hash_of p name = hash_by p (decimal_of 18446744073709551615 name) name

-- the bucket of a group's number and a name, where there are so many
unfoldable pub bucket_of : ℕ → ℕ → List ℕ → ℕ
bucket_of buckets p name = bit_and (hash_of p name) (buckets - 1)

-- what is beside the cells
abbrev pub no_cell : Cell
no_cell = record { parent = no_number; name = names.Number 0; content = contents.Removed; earlier = 0 }

-- the cell of this number
abbrev pub cell_at : List Cell → ℕ → Cell
cell_at cells j = get_or cells j no_cell

-- the bucket of a cell
abbrev pub bucket_at : ℕ → List ℕ → List Cell → ℕ → ℕ
bucket_at buckets text cells j = bucket_of buckets (cell_at cells j).parent (name_in text (cell_at cells j).name)

-- a cell wasn't removed
abbrev pub is_live : Content → Bool
is_live (contents.Text s) = true
is_live (contents.Group numbers) = true
is_live contents.Removed = false

-- between two cells there is none of a bucket but removed ones, and the first one is of it, where it isn't cell 0
pub record IsLink (buckets : ℕ) (text : List ℕ) (cells : List Cell) (b from to : ℕ) : Type 0 where
  pub order : from < to
  pub gap : (j : ℕ) → from < j → j < to → is_live (cell_at cells j).content ≡ true → bucket_at buckets text cells j ≡ b → ⊥
  pub same : 0 < from → bucket_at buckets text cells from ≡ b

-- no name of a group is the decimal text of a number that its content has for the next, or of a greater one
abbrev pub HasBelow : List ℕ → List Cell → ℕ → Content → Type 0
HasBelow text cells p (contents.Group numbers) = (j n : ℕ) → (cell_at cells j).parent ≡ p → numbers ≤ n → n < no_number → name_in text (cell_at cells j).name ≡ decimal n → ⊥
HasBelow text cells p (contents.Text s) = Unit {0}
HasBelow text cells p contents.Removed = Unit {0}

-- the cells of each bucket follow each other, the last one first, and each cell's group is an earlier cell
pub record IsIndexed (text : List ℕ) (cells : List Cell) (heads : List ℕ) : Type 0 where
  pub some : 0 < length cells
  pub most : length cells ≤ no_number
  pub buckets : 0 < length heads
  pub root : (cell_at cells 0).parent ≡ no_number
  pub falls : (j : ℕ) → 0 < j → j < length cells → (cell_at cells j).parent < j
  pub head : (b : ℕ) → b < length heads → IsLink (length heads) text cells b (get_or heads b 0) (length cells)
  pub link : (i : ℕ) → 0 < i → i < length cells → IsLink (length heads) text cells (bucket_at (length heads) text cells i) (cell_at cells i).earlier i

-- the cells and buckets of a table
pub record IsTable (text : List ℕ) (cells : List Cell) (heads : List ℕ) : Type 0 where
  pub indexed : IsIndexed text cells heads
  pub below : (p : ℕ) → HasBelow text cells p (cell_at cells p).content
