use Rattle.std.proofs.Common.{◌≡◌, ◌≤◌, List, ℕ, length, drop, ap, sym, subst, ◌∙◌}
use Rattle.std.proofs.lemmas.List.{take_at}
use Rattle.lab_shelf.specs.Files.{with_first_bytes}
use Rattle.lab_shelf.proofs.entries.put_head.Goals as goal

pub put_front-requires : goal.put_front-requires
put_front-requires c =
    subst (λ (content : List ℕ). length c.args.head.now ≤ length content) (sym c.as_mut_slice.ensures.value) c.requires

pub returns : goal.returns
returns c =
    let content = c.args.content.now in
    let new = c.put_front.new.content in
    let all : length new ≡ content.len = c.put_front.auto.content ∙ c.as_mut_slice.ensures.len in
    take_at new (drop (length new) content.items) content.len all ∙ c.put_front.ensures ∙ ap (with_first_bytes c.args.head.now) c.as_mut_slice.ensures.value
