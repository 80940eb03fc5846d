-- How many nodes a group has.
use Rattle.asound_conf.specs.Prelude.{ap, arith, Bool, cond, drop, false, List, map, refl, suc, sym, true, zero, ℕ, [], ◌+◌, ◌∙◌, ◌∷◌, ◌≡◌, count_by}
use Rattle.asound_conf.specs.Prelude.{if◌then◌else◌, Cell, count_of_names, ConfRow, Contents, group_in_rows, group_of, is_in, node, cell_row, contents_of}
use Rattle.asound_conf.specs.Prelude.{parent_of, entry}
use Rattle.std.proofs.lemmas.List.Sums.{sum_by-cons}

-- a cell is a node of a group
abbrev pub counts : ℕ → Cell → Bool
counts p c = is_in p (parent_of c.parent c.content)

-- a group has as many nodes as there are such cells
count_of_names-within : (text : List ℕ) (p first : ℕ) (cells : List Cell) → count_of_names (group_in_rows p first (map (cell_row text) cells)) ≡ count_by (counts p) cells
count_of_names-within text p first [] = refl
count_of_names-within text p first (c ∷ cells) = by (counts p c) (count_of_names-within text p (suc first) cells) ∙ sym (sum_by-cons (λ (x : Cell). cond (counts p x) 1 0) c cells)
  where
    by : (t : Bool) → count_of_names (group_in_rows p (suc first) (map (cell_row text) cells)) ≡ count_by (counts p) cells
        → count_of_names (if t then entry (cell_row text c).name (node (cell_row text c).value (group_in_rows first (suc first) (map (cell_row text) cells))) (group_in_rows p (suc first) (map (cell_row text) cells)) else group_in_rows p (suc first) (map (cell_row text) cells))
        ≡ cond t 1 0 + count_by (counts p) cells
    by true e = omega (arith, e)
    by false e = omega (arith, e)

drop-map : (text : List ℕ) (n : ℕ) (cells : List Cell) → drop n (map (cell_row text) cells) ≡ map (cell_row text) (drop n cells)
drop-map text zero cells = refl
drop-map text (suc n) [] = refl
drop-map text (suc n) (c ∷ cells) = drop-map text n cells

pub count_of_names-cells : (text : List ℕ) (p : ℕ) (cells : List Cell) (now : Contents) → contents_of text cells ≡ now → count_by (counts p) (drop (p + 1) cells) ≡ count_of_names (group_of p now.rows)
count_of_names-cells text p cells now view =
    let next : p + 1 ≡ suc p = omega arith in
    ap (λ (n : ℕ). count_by (counts p) (drop n cells)) next ∙ sym (count_of_names-within text p (suc p) (drop (suc p) cells)) ∙ ap (λ (rows : List ConfRow). count_of_names (group_in_rows p (suc p) rows)) (sym (drop-map text (suc p) cells))
    ∙ ap (λ (k : Contents). count_of_names (group_of p k.rows)) view
