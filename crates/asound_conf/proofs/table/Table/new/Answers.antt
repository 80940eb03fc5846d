use Rattle.asound_conf.specs.Prelude.{ap, ap₂, arith, get_or, length, List, refl, replicate, subst, sym, ℕ, [], ◌++◌, ◌<◌, ◌∙◌, ◌∷◌, ◌≡◌, get_or-replicate}
use Rattle.asound_conf.specs.Prelude.{length-replicate, Cell, Group, contents_of, IsTable, no_number}
use Rattle.asound_conf.specs.declared.cell.Name.TheVariants.{Bytes}
use Rattle.asound_conf.proofs.Tables.{IsTable-new}
use Rattle.asound_conf.proofs.table.Table.new.Goals as goal

-- the cell of the text's own group
root : Cell
root = record { parent = no_number; name = Bytes (record { start = 0; count = 0 }); content = Group 0; earlier = 0 }

pub invariant_of-result : goal.invariant_of-result
unfolding root
invariant_of-result c =
    let cells : c.push.new.self.items ≡ root ∷ [] = c.in_ok-push.ensures.items ∙ ap (λ (l : List Cell). l ++ root ∷ []) c.in_ok-cells.ensures.items in
    let heads : c.in_ok-heads.heads.items ≡ replicate c.buckets_for.result 0 = c.in_ok-heads.ensures.items_if_clones_equal (λ y e. e) in
    let count : length c.in_ok-heads.heads.items ≡ c.buckets_for.result = ap length heads ∙ length-replicate c.buckets_for.result 0 in
    let empty : (b : ℕ) → b < length c.in_ok-heads.heads.items → get_or c.in_ok-heads.heads.items b 0 ≡ 0 =
    λ b inside. ap (λ (l : List ℕ). get_or l b 0) heads ∙ get_or-replicate c.buckets_for.result b 0 0 (omega (arith, inside, count)) in
    subst (λ (l : List Cell). IsTable c.in_ok-text.text.items l c.in_ok-heads.heads.items) (sym cells)
    (IsTable-new c.in_ok-text.text.items root c.in_ok-heads.heads.items refl refl (omega (arith, count, c.buckets_for.ensures)) empty)

pub returns : goal.returns
unfolding root
returns c =
    let cells : c.push.new.self.items ≡ root ∷ [] = c.in_ok-push.ensures.items ∙ ap (λ (l : List Cell). l ++ root ∷ []) c.in_ok-cells.ensures.items in
    ap₂ contents_of (c.in_ok-text.ensures.items_if_clones_equal (λ x y e. e)) cells
