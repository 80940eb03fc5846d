-- Cells of a table: how they are sought, and what holds as they are added and changed.
use Rattle.asound_conf.specs.Prelude.{ap, arith, false, get_or, inl, inr, length, length-append, List, map, nat_le, None, Option, refl, set, Some, subst, sym}
use Rattle.asound_conf.specs.Prelude.{true, ℕ, [], ◌++◌, ◌+◌, ◌<◌, ◌∙◌, ◌∷◌, ◌≡◌, ◌≤◌, get_or-append, get_or-append_seam, map-set_same, and_parts, cases_eq}
use Rattle.asound_conf.specs.Prelude.{cases_lt, false_from_ne_true, false≢true, leb-true, ltb-true, nat_tests, decimal_injective, get_or-set_at, get_or-map}
use Rattle.asound_conf.specs.Prelude.{get_or-set_other, get_or_past, length-map, length-set, map-append, bytes_eq-Decides, decimal, if◌then◌else◌, nat_lt, ◌==◌}
use Rattle.asound_conf.specs.Prelude.{bytes_eq, Cell, Content, Name, Span, ConfRow, is_in, IsAbsent, IsNode, no_row, row_at, bucket_at, bucket_of, cell_at}
use Rattle.asound_conf.specs.Prelude.{cell_row, content_of, content_with, fits, HasBelow, is_live, IsIndexed, IsLink, IsTable, lacks, name_in, new_row, no_cell}
use Rattle.asound_conf.specs.Prelude.{no_number, number_after, parent_of, text_bytes, value_in}
use Rattle.asound_conf.specs.declared.cell.ConfText.{ConfText}
use Rattle.asound_conf.proofs.Rows.{is_in-true}
use Rattle.asound_conf.specs.declared.cell.Name.TheVariants as names
use Rattle.asound_conf.specs.declared.cell.ConfText.TheVariants as keys
use Rattle.asound_conf.specs.declared.cell.Content.TheVariants as contents

-- a cell in a group wasn't removed
parent_of-Some : (q : ℕ) (content : Content) (p : ℕ) → parent_of q content ≡ Some p → (q ≡ p) × (is_live content ≡ true)
parent_of-Some q content p e = grind (arith, nat_tests)

-- a cell in no group
parent_of-root : (content : Content) → parent_of no_number content ≡ None
parent_of-root (contents.Text s) = refl
parent_of-root other = refl

-- a cell that is the node of this name in a group
pub record Fits (text : List ℕ) (cell : Cell) (p : ℕ) (name : List ℕ) : Type 0 where
  pub in_it : parent_of cell.parent cell.content ≡ Some p
  pub parent : cell.parent ≡ p
  pub live : is_live cell.content ≡ true
  pub named : name_in text cell.name ≡ name

fits-true : (text : List ℕ) (cell : Cell) (p : ℕ) (name : List ℕ) → fits p name (cell_row text cell) ≡ true → Fits text cell p name
fits-true text cell p name e =
    let parts = and_parts (is_in p (parent_of cell.parent cell.content)) (bytes_eq (name_in text cell.name) name) e in
    let in_it = is_in-true p (parent_of cell.parent cell.content) parts.0 in
    let it = parent_of-Some cell.parent cell.content p in_it in
    record {
      in_it = in_it;
      parent = it.0;
      live = it.1;
      named = (bytes_eq-Decides (name_in text cell.name) name).0 parts.1;
    }

-- a row of a group that isn't its node of this name has another name
other_name : (row : ConfRow) (p : ℕ) (name : List ℕ) → fits p name row ≡ false → row.parent ≡ Some p → bytes_eq row.name name ≡ false
other_name row p name none e = grind (arith, nat_tests)

-- the row of a cell
pub row_at-map : (text : List ℕ) (cells : List Cell) (j : ℕ) → j < length cells → row_at (map (cell_row text) cells) j ≡ cell_row text (cell_at cells j)
row_at-map text cells j inside = get_or-map (cell_row text) cells j no_cell no_row inside

-- a row of a group is that of a cell
row-inside : (text : List ℕ) (cells : List Cell) (j p : ℕ) → (row_at (map (cell_row text) cells) j).parent ≡ Some p → j < length cells
row-inside text cells j p e = elim (cases_lt j (length cells)) [
  | inl inside ↦ inside
  | inr past ↦
      let beside = get_or_past (map (cell_row text) cells) j no_row (omega (arith, past, length-map cells (cell_row text))) in
      absurd (let none : None ≡ Some p = rw beside at e in cc)
]

-- where a search for a name in a group is: it is left to look at the cells of the bucket up to this one
pub record IsSought (text : List ℕ) (cells : List Cell) (buckets p : ℕ) (name : List ℕ) (at : ℕ) : Type 0 where
  pub inside : at < length cells
  pub same : 0 < at → bucket_at buckets text cells at ≡ bucket_of buckets p name
  pub behind : (j : ℕ) → at < j → fits p name (cell_row text (cell_at cells j)) ≡ false

-- a cell of another bucket isn't sought
apart : (text : List ℕ) (cells : List Cell) (buckets p : ℕ) (name : List ℕ) (j : ℕ) → (is_live (cell_at cells j).content ≡ true → bucket_at buckets text cells j ≡ bucket_of buckets p name → ⊥)
    → fits p name (cell_row text (cell_at cells j)) ≡ false
apart text cells buckets p name j other = false_from_ne_true (fits p name (cell_row text (cell_at cells j))) (λ e.
    let it = fits-true text (cell_at cells j) p name e in
    other it.live (ap (λ (q : ℕ). bucket_of buckets q (name_in text (cell_at cells j).name)) it.parent ∙ ap (bucket_of buckets p) it.named))

pub IsSought-first : (text : List ℕ) (cells : List Cell) (heads : List ℕ) (p : ℕ) (name : List ℕ) → IsIndexed text cells heads → bucket_of (length heads) p name < length heads
    → IsSought text cells (length heads) p name (get_or heads (bucket_of (length heads) p name) 0)
IsSought-first text cells heads p name is inside =
    let link = is.head (bucket_of (length heads) p name) inside in
    record {
      inside = link.order;
      same = link.same;
      behind = λ j after. elim (cases_lt j (length cells)) [
        | inl in_it ↦ apart text cells (length heads) p name j (link.gap j after in_it)
        | inr past ↦ ap (λ (c : Cell). fits p name (cell_row text c)) (get_or_past cells j no_cell past)
      ];
    }

pub IsSought-next : (text : List ℕ) (cells : List Cell) (heads : List ℕ) (p : ℕ) (name : List ℕ) (at : ℕ) → IsIndexed text cells heads
    → IsSought text cells (length heads) p name at → 0 < at → fits p name (cell_row text (cell_at cells at)) ≡ false
    → IsSought text cells (length heads) p name (cell_at cells at).earlier
IsSought-next text cells heads p name at is sought some other =
    let link = is.link at some sought.inside in
    record {
      inside = omega (arith, link.order, sought.inside);
      same = λ h. link.same h ∙ sought.same some;
      behind = λ j after. elim (cases_lt at j) [
        | inl more ↦ sought.behind j more
        | inr less ↦ elim (cases_eq j at) [
          | inl e ↦ ap (λ (k : ℕ). fits p name (cell_row text (cell_at cells k))) e ∙ other
          | inr ne ↦ apart text cells (length heads) p name j (λ live e. link.gap j after (omega arith) live (e ∙ sym (sought.same some)))
        ]
      ];
    }

-- rows of a group after a place have other names
behind-row : (text : List ℕ) (cells : List Cell) (p : ℕ) (name : List ℕ) (at j : ℕ) → ((k : ℕ) → at < k → fits p name (cell_row text (cell_at cells k)) ≡ false) → at < j
    → (row_at (map (cell_row text) cells) j).parent ≡ Some p → bytes_eq (row_at (map (cell_row text) cells) j).name name ≡ false
behind-row text cells p name at j behind after e =
    other_name (row_at (map (cell_row text) cells) j) p name (ap (fits p name) (row_at-map text cells j (row-inside text cells j p e)) ∙ behind j after) e

pub IsAbsent-sought : (text : List ℕ) (cells : List Cell) (heads : List ℕ) (p : ℕ) (name : List ℕ) (at : ℕ) → IsIndexed text cells heads
    → IsSought text cells (length heads) p name at → at ≡ 0 → IsAbsent (map (cell_row text) cells) p name
IsAbsent-sought text cells heads p name at is sought none j e = elim (cases_lt at j) [
  | inl after ↦ behind-row text cells p name at j sought.behind after e
  | inr not_after ↦
      let root : j ≡ 0 = omega arith in
      let parent : (row_at (map (cell_row text) cells) j).parent ≡ None =
      ap (λ (k : ℕ). (row_at (map (cell_row text) cells) k).parent) root ∙ ap (λ (r : ConfRow). r.parent) (row_at-map text cells 0 is.some)
      ∙ ap (λ (q : ℕ). parent_of q (cell_at cells 0).content) is.root ∙ parent_of-root (cell_at cells 0).content in
      absurd (let bad : None ≡ Some p = sym parent ∙ e in cc)
]

pub IsNode-sought : (text : List ℕ) (cells : List Cell) (heads : List ℕ) (p : ℕ) (name : List ℕ) (at : ℕ) → IsIndexed text cells heads
    → IsSought text cells (length heads) p name at → 0 < at → fits p name (cell_row text (cell_at cells at)) ≡ true → IsNode (map (cell_row text) cells) p name at
IsNode-sought text cells heads p name at is sought some found =
    let it = fits-true text (cell_at cells at) p name found in
    let row = row_at-map text cells at sought.inside in
    let falls = is.falls at some sought.inside in
    record {
      inside = omega (arith, length-map cells (cell_row text), sought.inside);
      parent = ap (λ (r : ConfRow). r.parent) row ∙ it.in_it;
      named = ap (λ (r : ConfRow). r.name) row ∙ it.named;
      falls = omega (arith, falls, it.parent);
      last = λ j after e. behind-row text cells p name at j sought.behind after e;
    }

-- a number past a group's names isn't there
pub IsAbsent-lacks : (text : List ℕ) (cells : List Cell) (heads : List ℕ) (p : ℕ) (key : ConfText) → IsTable text cells heads
    → lacks (cell_at cells p).content key ≡ true → IsAbsent (map (cell_row text) cells) p (text_bytes key)
IsAbsent-lacks text cells heads p key is lacking j e = by (cell_at cells p).content key lacking (is.below p)
  where
    row : row_at (map (cell_row text) cells) j ≡ cell_row text (cell_at cells j)
    row = row_at-map text cells j (row-inside text cells j p e)

    by : (content : Content) (k : ConfText) → lacks content k ≡ true → HasBelow text cells p content
        → bytes_eq (row_at (map (cell_row text) cells) j).name (text_bytes k) ≡ false
    by (contents.Group numbers) (keys.Number n) lacking below =
        let parts = and_parts (nat_le numbers n) (nat_lt n no_number) lacking in
        let place = (parent_of-Some (cell_at cells j).parent (cell_at cells j).content p (rw row at e)).0 in
        rw row (false_from_ne_true _ (λ t. below j n place (leb-true numbers n parts.0) (ltb-true n no_number parts.1) ((bytes_eq-Decides (name_in text (cell_at cells j).name) (decimal n)).0 t)))
    by content k lacking below = absurd (false≢true lacking)

-- two cells have the same place
pub record IsSame (c d : Cell) : Type 0 where
  pub parent : c.parent ≡ d.parent
  pub name : c.name ≡ d.name
  pub earlier : c.earlier ≡ d.earlier
  pub live : is_live c.content ≡ true → is_live d.content ≡ true

-- a link stays where the cells before its end have the same places
IsLink-kept : (m : ℕ) (text : List ℕ) (old new : List Cell) (b from to : ℕ) → ((j : ℕ) → j < to → IsSame (cell_at new j) (cell_at old j)) → IsLink m text old b from to → IsLink m text new b from to
IsLink-kept m text old new b from to same link = grind (arith, nat_tests)

-- what is needed of a new cell
pub record IsNew (text : List ℕ) (cells : List Cell) (heads : List ℕ) (c : Cell) (b : ℕ) : Type 0 where
  pub room : length cells < no_number
  pub parent : c.parent < length cells
  pub inside : b < length heads
  pub bucket : b ≡ bucket_of (length heads) c.parent (name_in text c.name)
  pub earlier : c.earlier ≡ get_or heads b 0

-- a cell with another content, in the place of the group of a new cell
pub record IsNoted (cells : List Cell) (c g : Cell) : Type 0 where
  pub place : IsSame g (cell_at cells c.parent)
  pub content : g.content ≡ content_with (cell_at cells c.parent).content c.name

-- a list of cells with a new one at its end, which its group's cell notes
record IsGrown (cells new : List Cell) (c : Cell) : Type 0 where
  pub count : length new ≡ length cells + 1
  pub old : (j : ℕ) → j < length cells → IsSame (cell_at new j) (cell_at cells j)
  pub last : cell_at new (length cells) ≡ c
  pub past : (j : ℕ) → length cells < j → cell_at new j ≡ no_cell
  pub noted : (cell_at new c.parent).content ≡ content_with (cell_at cells c.parent).content c.name
  pub others : (j : ℕ) → j < length cells → (j ≡ c.parent → ⊥) → (cell_at new j).content ≡ (cell_at cells j).content

grown : (cells : List Cell) (c g : Cell) → c.parent < length cells → IsNoted cells c g → IsGrown cells (set (cells ++ c ∷ []) c.parent g) c
grown cells c g inside noted =
    let more = cells ++ c ∷ [] in
    let count : length more ≡ length cells + 1 = length-append cells (c ∷ []) in
    let in_more : c.parent < length more = omega (arith, count, inside) in
    let other : (j : ℕ) → (j ≡ c.parent → ⊥) → cell_at (set more c.parent g) j ≡ cell_at more j = λ j ne. get_or-set_other more c.parent j g no_cell ne in
    record {
      count = length-set more c.parent g ∙ count;
      old = λ j low. elim (cases_eq j c.parent) [
        | inl e ↦ rw (get_or-set_at more c.parent j g no_cell e in_more, e) noted.place
        | inr ne ↦ rw (other j ne, get_or-append cells (c ∷ []) no_cell j low) (record { parent = refl; name = refl; earlier = refl; live = λ live. live })
      ];
      last = other (length cells) (λ e. omega (arith, e, inside)) ∙ get_or-append_seam cells c [] no_cell;
      past = λ j high. other j (λ e. omega (arith, e, inside, high)) ∙ get_or_past more j no_cell (omega (arith, count, high));
      noted = ap (λ (d : Cell). d.content) (get_or-set_at more c.parent c.parent g no_cell refl in_more) ∙ noted.content;
      others = λ j low ne. ap (λ (d : Cell). d.content) (other j ne ∙ get_or-append cells (c ∷ []) no_cell j low);
    }

-- the cells of a bucket, where a cell is added to this one
head-grown : (text : List ℕ) (cells new : List Cell) (heads : List ℕ) (c : Cell) (b k : ℕ) → IsGrown cells new c → IsNew text cells heads c b → IsIndexed text cells heads → k < length heads
    → IsLink (length heads) text new k (get_or (set heads b (length cells)) k 0) (length cells + 1)
head-grown text cells new heads c b k more added is inside =
    let of_it : bucket_at (length heads) text new (length cells) ≡ b = ap (λ (d : Cell). bucket_of (length heads) d.parent (name_in text d.name)) more.last ∙ sym added.bucket in
    elim (cases_eq k b) [
      | inl e ↦
          rw (get_or-set_at heads b k (length cells) 0 e added.inside)
          (record { order = omega arith; gap = λ j after before live same. absurd (omega (arith, after, before)); same = λ some. of_it ∙ sym e })
      | inr ne ↦
          let link = IsLink-kept (length heads) text cells new k (get_or heads k 0) (length cells) more.old (is.head k inside) in
          rw (get_or-set_other heads b k (length cells) 0 ne)
          (record {
            order = omega (arith, link.order);
            gap = λ j after before live same. elim (cases_lt j (length cells)) [
              | inl low ↦ link.gap j after low live same
              | inr last ↦
                  let at : j ≡ length cells = omega (arith, last, before) in
                  ne (sym same ∙ ap (bucket_at (length heads) text new) at ∙ of_it)
            ];
            same = link.same;
          })
    ]

-- the cell before each in its bucket, where a cell is added
link-grown : (text : List ℕ) (cells new : List Cell) (heads : List ℕ) (c : Cell) (b i : ℕ) → IsGrown cells new c → IsNew text cells heads c b → IsIndexed text cells heads → 0 < i → i < length cells + 1
    → IsLink (length heads) text new (bucket_at (length heads) text new i) (cell_at new i).earlier i
link-grown text cells new heads c b i more added is some inside = grind (arith, nat_tests)

IsIndexed-grown : (text : List ℕ) (cells new : List Cell) (heads : List ℕ) (c : Cell) (b : ℕ) → IsGrown cells new c → IsNew text cells heads c b → IsIndexed text cells heads
    → IsIndexed text new (set heads b (length cells))
IsIndexed-grown text cells new heads c b more added is =
    let count = more.count in
    let wide : length (set heads b (length cells)) ≡ length heads = length-set heads b (length cells) in
    record {
      some = omega (arith, count);
      most = omega (arith, count, added.room);
      buckets = omega (arith, wide, is.buckets);
      root = (more.old 0 is.some).parent ∙ is.root;
      falls = λ j some inside. elim (cases_lt j (length cells)) [
        | inl low ↦ let falls = is.falls j some low in let parent = (more.old j low).parent in omega (arith, falls, parent)
        | inr last ↦ let at : length cells ≡ j = omega (arith, last, inside, count) in rw (← at, more.last) added.parent
      ];
      head = λ k inside. rw (count, wide) (head-grown text cells new heads c b k more added is (omega (arith, wide, inside)));
      link = λ i some inside. rw wide (link-grown text cells new heads c b i more added is some (omega (arith, count, inside)));
    }

-- a cell is given another content
kept : (cells : List Cell) (i : ℕ) (c : Cell) → i < length cells → IsSame c (cell_at cells i) → (j : ℕ) → IsSame (cell_at (set cells i c) j) (cell_at cells j)
kept cells i c inside same j = elim (cases_eq j i) [
  | inl e ↦ rw (get_or-set_at cells i j c no_cell e inside, e) same
  | inr ne ↦ rw (get_or-set_other cells i j c no_cell ne) (record { parent = refl; name = refl; earlier = refl; live = λ live. live })
]

IsIndexed-kept : (text : List ℕ) (old new : List Cell) (heads : List ℕ) → length new ≡ length old → ((j : ℕ) → IsSame (cell_at new j) (cell_at old j)) → IsIndexed text old heads → IsIndexed text new heads
IsIndexed-kept text old new heads count same is = grind (arith, nat_tests)

HasBelow-kept : (text : List ℕ) (old new : List Cell) (p : ℕ) (content : Content) → ((j : ℕ) → IsSame (cell_at new j) (cell_at old j)) → HasBelow text old p content → HasBelow text new p content
HasBelow-kept text old new p content same below = grind (arith, nat_tests)

-- a cell is given a content that suits its names
pub IsTable-set : (text : List ℕ) (cells : List Cell) (heads : List ℕ) (i : ℕ) (c : Cell) → i < length cells → IsSame c (cell_at cells i) → HasBelow text cells i c.content → IsTable text cells heads
    → IsTable text (set cells i c) heads
IsTable-set text cells heads i c inside same own is = record {
  indexed = IsIndexed-kept text cells (set cells i c) heads (length-set cells i c) (kept cells i c inside same) is.indexed;
  below = λ p. elim (cases_eq p i) [
    | inl e ↦ rw (get_or-set_at cells i p c no_cell e inside, e) (HasBelow-kept text cells (set cells i c) i c.content (kept cells i c inside same) own)
    | inr ne ↦ rw (get_or-set_other cells i p c no_cell ne) (HasBelow-kept text cells (set cells i c) p (cell_at cells p).content (kept cells i c inside same) (is.below p))
  ];
}

-- what is past a group's names once it gets this one
raised-name : (text : List ℕ) (numbers n : ℕ) (name : Name) → number_after numbers name ≤ n → n < no_number → name_in text name ≡ decimal n → ⊥
raised-name text numbers n (names.Bytes s) low fits named = omega (arith, low, fits)
raised-name text numbers n (names.Number m) low fits named =
    let small : m < no_number = grind (arith, nat_tests, low, fits) in
    let same : m ≡ n = decimal_injective m n (omega (arith, small)) (omega (arith, fits)) named in
    grind (arith, nat_tests, low, same, small)

raised-more : (numbers n : ℕ) (name : Name) → number_after numbers name ≤ n → n < no_number → numbers ≤ n
raised-more numbers n (names.Bytes s) low fits = absurd (omega (arith, low, fits))
raised-more numbers n (names.Number m) low fits = grind (arith, nat_tests, low, fits)

-- a group's names go on where a cell is added, to it or to another one
HasBelow-grown : (text : List ℕ) (cells new : List Cell) (c : Cell) (p numbers raised : ℕ) → IsGrown cells new c → p < no_number → ((n : ℕ) → raised ≤ n → n < no_number → numbers ≤ n)
    → (c.parent ≡ p → (n : ℕ) → raised ≤ n → n < no_number → name_in text c.name ≡ decimal n → ⊥) → HasBelow text cells p (contents.Group numbers) → HasBelow text new p (contents.Group raised)
HasBelow-grown text cells new c p numbers raised more small up own below = grind (arith, nat_tests)

below-grown : (text : List ℕ) (cells new : List Cell) (heads : List ℕ) (c : Cell) (b p : ℕ) (value : Option Span) → IsGrown cells new c → IsNew text cells heads c b → c.content ≡ content_of value
    → IsTable text cells heads → HasBelow text new p (cell_at new p).content
below-grown text cells new heads c b p value more added content is = elim (cases_lt p (length cells)) [
  | inl old ↦ elim (cases_eq p c.parent) [
    | inl e ↦ rw (e, more.noted) (noted (cell_at cells c.parent).content (is.below c.parent))
    | inr ne ↦ rw (more.others p old ne) (other old ne (cell_at cells p).content (is.below p))
  ]
  | inr high ↦ elim (cases_lt (length cells) p) [
    | inl past ↦ rw (more.past p past) tt
    | inr last ↦
        let at : p ≡ length cells = omega (arith, high, last) in
        rw (at, more.last) (subst (HasBelow text new (length cells)) (sym content) (own value))
  ]
]
  where
    noted : (content : Content) → HasBelow text cells c.parent content → HasBelow text new c.parent (content_with content c.name)
    noted (contents.Group numbers) below =
        HasBelow-grown text cells new c c.parent numbers (number_after numbers c.name) more (omega (arith, added.parent, added.room))
        (λ n low fits. raised-more numbers n c.name low fits) (λ e n low fits named. raised-name text numbers n c.name low fits named) below
    noted content below = tt

    other : p < length cells → (p ≡ c.parent → ⊥) → (content : Content) → HasBelow text cells p content → HasBelow text new p content
    other old ne (contents.Group numbers) below =
        HasBelow-grown text cells new c p numbers numbers more (omega (arith, old, added.room)) (λ n low fits. low) (λ e. absurd (ne (sym e))) below
    other old ne content below = tt

    childless : (j : ℕ) → (cell_at cells j).parent ≡ length cells → ⊥
    childless j e = elim (cases_lt j (length cells)) [
      | inl old ↦ elim (cases_lt 0 j) [
        | inl some ↦ let falls = is.indexed.falls j some old in omega (arith, falls, e, old)
        | inr none ↦ let first : j ≡ 0 = omega (arith, none) in let root : no_number ≡ length cells = sym is.indexed.root ∙ (rw first at e) in omega (arith, root, added.room)
      ]
      | inr past ↦ let none : no_number ≡ length cells = rw (get_or_past cells j no_cell past) at e in omega (arith, none, added.room)
    ]

    own : (value : Option Span) → HasBelow text new (length cells) (content_of value)
    own (Some s) = tt
    own None =
        HasBelow-grown text cells new c (length cells) 0 0 more added.room (λ n low fits. low)
        (λ e. absurd (omega (arith, e, added.parent))) (λ j n e low fits named. childless j e)

-- a cell is added
pub IsTable-push : (text : List ℕ) (cells : List Cell) (heads : List ℕ) (c g : Cell) (b : ℕ) (value : Option Span) → IsNew text cells heads c b → IsNoted cells c g → c.content ≡ content_of value
    → IsTable text cells heads → IsTable text (set (cells ++ c ∷ []) c.parent g) (set heads b (length cells))
IsTable-push text cells heads c g b value added is_noted content is =
    let more = grown cells c g added.parent is_noted in
    record {
      indexed = IsIndexed-grown text cells (set (cells ++ c ∷ []) c.parent g) heads c b more added is.indexed;
      below = λ p. below-grown text cells (set (cells ++ c ∷ []) c.parent g) heads c b p value more added content is;
    }

-- a group with one name more is the same but for what is past its names
pub content_with-same : {X : Type 0} (f : Content → X) (content : Content) (name : Name) → ((m n : ℕ) → f (contents.Group m) ≡ f (contents.Group n)) → f (content_with content name) ≡ f content
content_with-same f content name same = grind (arith, nat_tests)

abbrev row_with : Option ℕ → List ℕ → Option (List ℕ) → ConfRow
row_with parent name value = record { parent = parent; name = name; value = value }

pub row_is : {a b : Option ℕ} {m n : List ℕ} {v w : Option (List ℕ)} → a ≡ b → m ≡ n → v ≡ w → row_with a m v ≡ row_with b n w
row_is p q r i = record { parent = p i; name = q i; value = r i }

-- the rows where a cell is added
pub rows-push : (text : List ℕ) (cells : List Cell) (heads : List ℕ) (c g : Cell) (b : ℕ) (value : Option Span) → IsNew text cells heads c b → IsNoted cells c g → c.content ≡ content_of value
    → map (cell_row text) (set (cells ++ c ∷ []) c.parent g) ≡ map (cell_row text) cells ++ new_row text c.parent c.name value ∷ []
rows-push text cells heads c g b value new is_noted content =
    let old = get_or-append cells (c ∷ []) no_cell c.parent new.parent in
    let group : cell_row text g ≡ cell_row text (cell_at (cells ++ c ∷ []) c.parent) =
    row_is
    (ap (λ (q : ℕ). parent_of q g.content) is_noted.place.parent ∙ ap (parent_of (cell_at cells c.parent).parent) is_noted.content ∙ content_with-same (parent_of (cell_at cells c.parent).parent) (cell_at cells c.parent).content c.name (λ m n. refl))
    (ap (name_in text) is_noted.place.name)
    (ap (value_in text) is_noted.content ∙ content_with-same (value_in text) (cell_at cells c.parent).content c.name (λ m n. refl))
    ∙ ap (cell_row text) (sym old) in
    map-set_same (cell_row text) (cells ++ c ∷ []) c.parent g no_cell group ∙ map-append (cell_row text) cells (c ∷ []) ∙ ap (λ (r : ConfRow). map (cell_row text) cells ++ r ∷ []) (row value content)
  where
    none : (c.parent == no_number) ≡ false
    none = let less = new.parent in let most = new.room in grind (arith, nat_tests, less, most)

    row : (value : Option Span) → c.content ≡ content_of value → cell_row text c ≡ new_row text c.parent c.name value
    row (Some s) content = row_is (ap (parent_of c.parent) content ∙ ap (λ t. if t then None else Some c.parent) none) refl (ap (value_in text) content)
    row None content = row_is (ap (parent_of c.parent) content ∙ ap (λ t. if t then None else Some c.parent) none) refl (ap (value_in text) content)

-- the cells of a table before anything is read
pub IsTable-new : (text : List ℕ) (root : Cell) (heads : List ℕ) → root.parent ≡ no_number → root.content ≡ contents.Group 0 → 0 < length heads → ((b : ℕ) → b < length heads → get_or heads b 0 ≡ 0)
    → IsTable text (root ∷ []) heads
IsTable-new text root heads parent content some empty = grind (arith, nat_tests)
