-- `unseal`: the two words are handed to the call that makes a box of them, with what is at the address.
use Rattle.dmix_c.specs.Prelude.{ap, List, refl, subst, sym, [], ◌++◌, ◌∙◌, ◌∷◌, ◌≡◌, leaves, proved_at, IsSome, Some, Goes-blank, fm, Good, box_in, box_out}
use Rattle.dmix_c.specs.Prelude.{passed, flft, ftrue, full_share, emp, ent, id⊢, SProp, ⊑_refl, ◌⊑◌, fact, fact_i, tables, layout, glues, owns, block_ptr}
use Rattle.dmix_c.specs.Prelude.{plain, types_at, heard, nothing, only, calls_at_last, Lasts, lasts, alive, triple_of, stay_dropped, Stays, walk_of, Val, vptr}
use Rattle.dmix_c.specs.Prelude.{WpFn, alloc_all, env, free_all, get, get_in, lands_last, look_at, pass_all, sets, at_ret, await, by, drop, feq_i, fjoin}
use Rattle.dmix_c.specs.Prelude.{fsplit, join, keep, later, move, pick, qed, rewrite, some, split, split3, suffices, use0, use1, !, ‵, ◌$◌, ◌∵◌, ◌⊛◌, sub}
use Rattle.dmix_c.specs.Prelude.{whole, and_then, blocks, enter, exec, first, fld, no_more, of_opd, returns, stop}
use Rattle.core.proofs.alloc.Shapes.{after}
use Rattle.std_alloc.proofs.boxed.Box.from_raw.Met.{met}
use types.Kit.{raw}
use Rattle.dmix_c.specs.contracts.handle.Held.unseal.{ended, clauses}
use Rattle.dmix_c.specs.contracts.handle.Held.unseal.Key.{name as #self}
use Rattle.dmix_c.proofs.Destruct++none.drop.Code.{code as no_drop_code}
use Rattle.dmix_c.proofs.Handles.{E, R, Held, held_out, some_of, words, words_typed, unending}
use Rattle.dmix_c.proofs.handle.Held.unseal.Statement.{statement}
use Rattle.std_alloc.proofs.BoxSteps.Form as box
use Rattle.std_alloc.specs.contracts.boxed.Box.from_raw as joined
use Rattle.dmix_c.proofs.handle.Held.unseal.Code as code

pub unseal_spec : {M : Type 1} → statement M
unfolding no_drop_code
unseal_spec {M} 𝓤 𝓛 𝓜 𝓡 wired =
    let 𝓣 = tables 𝓤 𝓛.H 𝓜 𝓡 𝓡.env in
    let fn = code.function in
    let says = clauses 𝓛 𝓜.mem 𝓡.returns in
    let stays : Stays ended.signature.params ended.kept = (stay_dropped (plain (λ _. Held)) ended.kept.0, tt) in
    let allocator = passed 𝓡.env (code.calls-std_heap::GlobalAllocator::allocate 𝓡.env wired)
    (code.calls-std_heap::GlobalAllocator::deallocate 𝓡.env wired) (code.calls-std_heap::GlobalAllocator::grow 𝓡.env wired)
    (code.calls-std_heap::GlobalAllocator::shrink 𝓡.env wired) M 𝓤 𝓛 𝓜 𝓡 in
    let glued = glues "dmix_c::Destruct++none::drop" 𝓡.env (code.calls-dmix_c::Destruct++none::drop 𝓡.env wired) E.al.row E.al.laws M 𝓤 𝓛 𝓜 𝓡 in
    proved_at 𝓛 ended stays says 𝓜 𝓡 (Goes-blank 𝓛 0 (plain (λ _. Held)) ended.kept.0 (λ κs x f. tt), tt) #self fn (code.unfolded 𝓤 𝓛.H 𝓜 𝓡 wired) (λ z are.
    let held = z.0.3.0 in
    let heap = held.alloc in
    let Post : Val → SProp 𝓤 = (walk_of 𝓛 ended stays says).post z in
    let Run : List Val → SProp 𝓤 = λ ws. WpFn 𝓤 𝓛.H 𝓣.C 𝓣.Λ fn ws Post in
    let tokens = ‵ (flft [] full_share) ⊛ ‵ (flft [] full_share) ⊛ ‵ ftrue in
    qed 𝓛 ((raw (alive 𝓛 ended.signature z.0.0 z.0.1) ⊛ ‵ (owns (types_at ended.signature.params z.0.0) z.0.3 z.0.4)) ∷ raw (fact 𝓤 (IsSome held.value)) ∷ []) ∵
    move ! (1 ∷ []) $ heard ! (IsSome held.value) (λ is. let x = (some_of held.value is).0 in let is_some = (some_of held.value is).1 in
    split ! $ move ! (1 ∷ []) $ fsplit ! $ held_out ! held x is_some z.0.4.0 (λ b o h is_block is_words good.
    let w : Val = words (vptr b o) h in
    let call = triple_of 𝓛 (joined.signature E.row E.al.row E.al.g E.al.d E.al.drops) (joined.spec E.row E.al.row E.al.g E.al.d E.al.drops 𝓛 𝓜.mem 𝓡.returns) in
    let asks : call.Ghost = ((([], ([], tt)), (full_share, (full_share, tt)), tt, (heap, (block_ptr b o, tt)), (h ∷ [], (vptr b o ∷ [], tt))), x) in
    -- what the call asks: two lifetimes that never end, the two words, and what is at the address
    use0 𝓛 (raw (fact 𝓤 ([] ⊑ E.al.row.lives))) (fact_i 𝓤 ([] ⊑ E.al.row.lives) (emp 𝓤) (⊑_refl [])) $ join ! $
    use0 𝓛 (raw (fact 𝓤 ([] ⊑ E.row.lives))) (fact_i 𝓤 ([] ⊑ E.row.lives) (emp 𝓤) (⊑_refl [])) $ join ! $
    move ! (2 ∷ []) $ feq_i ! (List Val) (vptr b o ∷ []) (vptr b o ∷ []) refl $ fjoin ! $ move ! (2 ∷ 0 ∷ []) $ fjoin ! $
    unending ! $
    join ! $ join ! $ use1 𝓛 (raw (call.pre asks)) (id⊢ 𝓤 _) $
    suffices ! (Run (w ∷ [])) (subst (λ (us : List Val). ent 𝓤 (Run (w ∷ [])) (Run us)) (sym (λ i. is_words i ++ [])) (id⊢ 𝓤 (Run (w ∷ [])))) $
    enter ! 𝓣.C 𝓣.Λ fn (w ∷ []) Post $ alloc_all ! (λ l. pass_all ! refl (words_typed b o h good, tt) $
    sets ! (of_opd ! (get_in ! (fld ! refl (stop !)) (sub ! 0 refl (whole !)))) refl (tt, tt) $
    sets ! (of_opd ! (get_in ! (fld ! refl (stop !)) (sub ! 1 refl (whole !)))) refl good $
    first ! $ blocks ! $ sets ! (of_opd ! (get ! refl)) refl (tt, tt) $
    calls_at_last ! (fm 𝓛 𝓜 𝓡) call (met 𝓤 𝓛 𝓜 𝓡 (code.calls-std_alloc::boxed::Box::from_raw 𝓡.env wired) E.row E.al.row E.laws E.al.laws E.al.g E.al.d E.al.drops allocator glued) asks (and_then ! (get ! refl) (and_then ! (get ! refl) (no_more !))) (λ u.
    -- what the call gave: a box of the value, which is the result
    use1 𝓛 (later (some (λ (r : box.D E). (tokens ⊛ ‵ ((box.B E).own_val r (u ∷ []))) ⊛ some (λ (ls : Lasts (joined.ended E.row E.al.row E.al.g E.al.d E.al.drops) asks.0.0 asks.0.3). ‵ (lasts (joined.ended E.row E.al.row E.al.g E.al.d E.al.drops) asks.0.0 asks.0.3 ls) ⊛ (raw (fact 𝓤 (r.value ≡ x)) ⊛ raw (fact 𝓤 (r.alloc ≡ heap))))))) (id⊢ 𝓤 (call.post asks u)) $
    await ! tt $ pick ! (λ r. split ! $ move ! (1 ∷ []) $ pick ! (λ _. split3 ! $ drop ! $ heard ! (r.value ≡ x) (λ is_value. move ! (1 ∷ []) $ split ! $ move ! (1 ∷ []) $
    box_out E ! r (u ∷ []) (λ to_b to_o to_h is_at is_word to_good. box_in E ! r to_b to_o r.value is_at refl $
    rewrite ! 0 (λ (ws : List Val). ‵ ((box.B E).own_val r ws)) (sym is_word) refl $
    let made : Good (layout (box.B E)) u = subst (Good (layout (box.B E))) (sym (ap only is_word)) (words_typed to_b to_o to_h to_good) in
    lands_last ! refl made $ exec ! 𝓣.C 𝓣.Λ (env fn.locals l) (after 3 fn.body) (at_ret (env fn.locals l) Post) $
    sets ! (of_opd ! (get ! refl)) refl made $
    use0 𝓛 (raw (fact 𝓤 (held.value ≡ Some r.value))) (fact_i 𝓤 (held.value ≡ Some r.value) (emp 𝓤) (is_some ∙ ap (λ (y : R.Denot). Some y) (sym is_value))) $ nothing ! $ nothing ! $ fjoin ! $
    returns ! (look_at ! 0 refl) $ free_all ! refl $ keep ! (5 ∷ 0 ∷ 2 ∷ 1 ∷ []) $
    by ! (leaves 𝓛 ended stays says z u r (tt, tt) (tt, tt)))))))))))
