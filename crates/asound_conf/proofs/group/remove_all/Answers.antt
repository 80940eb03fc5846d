use Rattle.asound_conf.specs.Prelude.{ap, ap₂, List, None, refl, set, subst, sym, ℕ, ◌<◌, ◌∙◌, ◌≡◌, Alters, ConfRow, Contents, group_of, row_at, name_in}
use Rattle.asound_conf.specs.Prelude.{without_name}
use Rattle.asound_conf.proofs.Groups.{Alters-both, Alters-same, group-removed, has_node-IsAbsent, members, members-removed}
use Rattle.asound_conf.proofs.Places.{without-none}
use Rattle.asound_conf.proofs.Rows.{Alters-set, is_in-Some, only-None}
use Rattle.asound_conf.proofs.group.remove_all.Goals as goal

pub loop-number-init : goal.loop-number-init
loop-number-init c = record { left = refl; text = refl; alters = Alters-same c.args.group c.args.table.now.rows }

pub loop-number-preserved : goal.loop-number-preserved
loop-number-preserved c =
    let q = c.args.group in
    let rows = c.loop-number.table.rows in
    let n = c.in-Some.number in
    let name = name_in c.loop-number.table.text c.args.name in
    let is = rw c.key.ensures at c.in-Some.ensures.some in
    let s : ConfRow = record { parent = None; name = (row_at rows n).name; value = None } in
    let new : c.remove.new.self.rows ≡ set rows n s = ap (λ (x : Contents). x.rows) c.remove.ensures in
    let same : c.remove.new.self.text ≡ c.loop-number.table.text = ap (λ (x : Contents). x.text) c.remove.ensures in
    record {
      left = ap₂ (λ (t : List ℕ) (rs : List ConfRow). without_name (name_in t c.args.name) (group_of q rs)) same new ∙ group-removed rows q name n s is refl ∙ c.loop-number.invariant.left;
      text = same ∙ c.loop-number.invariant.text;
      alters = Alters-both q c.args.table.now.rows rows c.remove.new.self.rows c.loop-number.invariant.alters (subst (λ (rs : List ConfRow). Alters q rows rs) (sym new) (Alters-set q n s rows is.parent (only-None q s refl)));
    }

pub loop-number-smaller : goal.loop-number-smaller
loop-number-smaller c =
    let q = c.args.group in
    let rows = c.loop-number.table.rows in
    let n = c.in-Some.number in
    let is = c.in-Some.ensures.some in
    let s : ConfRow = record { parent = None; name = (row_at rows n).name; value = None } in
    let new : c.remove.new.self.rows ≡ set rows n s = ap (λ (x : Contents). x.rows) c.remove.ensures in
    subst (λ (rs : List ConfRow). members q rs < members q rows) (sym new) (members-removed q n s rows is.inside (is_in-Some q (row_at rows n).parent is.parent) refl)

pub returns-clause-value : goal.returns-clause-value
returns-clause-value c =
    sym (without-none _ _ (has_node-IsAbsent _ _ _ (rw c.key.ensures at c.in_default.ensures.none))) ∙ c.loop-number.invariant.left
