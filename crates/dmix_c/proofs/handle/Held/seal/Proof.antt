-- `seal`: the box is handed to the call that takes it apart, and the two words are put into the handle.
use Rattle.dmix_c.specs.Prelude.{ap, List, refl, subst, sym, [], ◌++◌, ◌∙◌, ◌∷◌, ◌≡◌, leaves, proved_at, Some, Goes-blank, handle_tells, fm, box_in, box_out}
use Rattle.dmix_c.specs.Prelude.{box_owns, passed, flft, fsep, ftrue, full_share, emp, ent, fst∗, id⊢, never, SProp, ⊑_refl, ◌⊑◌, fact, fact_i, tables, RawPtr}
use Rattle.dmix_c.specs.Prelude.{layout, glues, owns, block_ptr, in_a_block, null_ptr, Ptr, ptr_val, plain, types_at, heard, nothing, only, calls_at, alive}
use Rattle.dmix_c.specs.Prelude.{triple_of, stay_dropped, Stays, walk_of, raw as bare, of_list, Val, vptr, vstruct, WpFn, alloc_all, free_all, get, get_in}
use Rattle.dmix_c.specs.Prelude.{lands_as, look_at, pass_all, sets, await, by, drop, feq_l, fjoin, fpick, fsplit, join, keep, later, move, pick, qed, rewrite}
use Rattle.dmix_c.specs.Prelude.{some, split, split3, suffices, use0, use1, !, ‵, ◌$◌, ◌∵◌, ◌⊛◌, sem, agg, sub, whole, and_then, enter, fld, no_more, of_opd}
use Rattle.dmix_c.specs.Prelude.{returns, stop}
use Rattle.std_alloc.proofs.boxed.Box.into_raw_with_allocator.Met.{met}
use denote.Struct.Tuple.{Tuple}
use types.Kit.{raw}
use Rattle.dmix_c.specs.contracts.handle.Held.seal.{ended, clauses}
use Rattle.dmix_c.specs.contracts.handle.Held.seal.Key.{name as #self}
use Rattle.dmix_c.proofs.Destruct++none.drop.Code.{code as no_drop_code}
use Rattle.dmix_c.proofs.Handles.{E, Boxed, R, Z, held_in, words, words_typed, drops_opened, glues_opened, unending}
use Rattle.dmix_c.proofs.handle.Held.seal.Statement.{statement}
use Rattle.std_alloc.proofs.BoxSteps.Form as box
use Rattle.std_alloc.specs.contracts.boxed.Box.into_raw_with_allocator as apart
use Rattle.dmix_c.proofs.handle.Held.seal.Code as code

pub seal_spec : {M : Type 1} → statement M
unfolding no_drop_code
seal_spec {M} 𝓤 𝓛 𝓜 𝓡 wired =
    let 𝓣 = tables 𝓤 𝓛.H 𝓜 𝓡 𝓡.env in
    let fn = code.function in
    let says = clauses 𝓛 𝓜.mem 𝓡.returns in
    let stays : Stays ended.signature.params ended.kept = (stay_dropped (plain (λ _. Boxed)) ended.kept.0, tt) in
    let allocator = passed 𝓡.env (code.calls-std_heap::GlobalAllocator::allocate 𝓡.env wired)
    (code.calls-std_heap::GlobalAllocator::deallocate 𝓡.env wired) (code.calls-std_heap::GlobalAllocator::grow 𝓡.env wired)
    (code.calls-std_heap::GlobalAllocator::shrink 𝓡.env wired) M 𝓤 𝓛 𝓜 𝓡 in
    let glued = glues "dmix_c::Destruct++none::drop" 𝓡.env (code.calls-dmix_c::Destruct++none::drop 𝓡.env wired) E.al.row E.al.laws M 𝓤 𝓛 𝓜 𝓡 in
    let glue = glues_opened 𝓛 𝓜 𝓡 (code.calls-dmix_c::dmix_c++opened++Opened+Destruct::drop 𝓡.env wired) in
    proved_at 𝓛 ended stays says 𝓜 𝓡 (Goes-blank 𝓛 0 (plain (λ _. Boxed)) ended.kept.0 (λ κs x f. tt), tt) #self fn (code.unfolded 𝓤 𝓛.H 𝓜 𝓡 wired) (λ z are.
    let given = z.0.3.0 in
    let heap = given.alloc in
    let Post : Val → SProp 𝓤 = (walk_of 𝓛 ended stays says).post z in
    let Run : List Val → SProp 𝓤 = λ ws. WpFn 𝓤 𝓛.H 𝓣.C 𝓣.Λ fn ws Post in
    let tokens = ‵ (flft [] full_share) ⊛ ‵ (flft [] full_share) ⊛ ‵ ftrue in
    qed 𝓛 ((raw (alive 𝓛 ended.signature z.0.0 z.0.1) ⊛ ‵ (owns (types_at ended.signature.params z.0.0) z.0.3 z.0.4)) ∷ raw ((says z.0.0 z.0.3).requires z.1) ∷ []) ∵
    move ! (1 ∷ []) $ drop ! $ split ! $ move ! (1 ∷ []) $ fsplit ! $
    -- the box as its two words, and whole again for the call
    box_out E ! given z.0.4.0 (λ b o h is_block is_words good. box_in E ! given b o given.value is_block refl $
    let w : Val = words (vptr b o) h in
    let call = triple_of 𝓛 (apart.signature E.row E.al.row E.al.g E.al.d E.al.drops drops_opened) (apart.spec E.row E.al.row E.al.g E.al.d E.al.drops drops_opened 𝓛 𝓜.mem 𝓡.returns) in
    let asks : call.Ghost = ((([], ([], tt)), (full_share, (full_share, tt)), tt, (given, tt), (w ∷ [], tt)), tt) in
    -- what the call asks: two lifetimes that never end, and the box
    fjoin ! $ unending ! $ join ! $
    nothing ! $ use0 𝓛 (raw (fact 𝓤 ([] ⊑ E.al.row.lives))) (fact_i 𝓤 ([] ⊑ E.al.row.lives) (emp 𝓤) (⊑_refl [])) $ join ! $
    use0 𝓛 (raw (fact 𝓤 ([] ⊑ E.row.lives))) (fact_i 𝓤 ([] ⊑ E.row.lives) (emp 𝓤) (⊑_refl [])) $ join ! $
    move ! (1 ∷ 0 ∷ []) $ join ! $ use1 𝓛 (raw (call.pre asks)) (id⊢ 𝓤 _) $
    suffices ! (Run (w ∷ [])) (subst (λ (us : List Val). ent 𝓤 (Run (w ∷ [])) (Run us)) (sym (λ i. is_words i ++ [])) (id⊢ 𝓤 (Run (w ∷ [])))) $
    enter ! 𝓣.C 𝓣.Λ fn (w ∷ []) Post $ alloc_all ! (λ l. pass_all ! refl (words_typed b o h good, tt) $ sets ! (of_opd ! (get ! refl)) refl (words_typed b o h good) $
    calls_at ! (fm 𝓛 𝓜 𝓡) call (met 𝓤 𝓛 𝓜 𝓡 (code.calls-std_alloc::boxed::Box::into_raw_with_allocator 𝓡.env wired) E.row E.al.row E.laws E.al.laws E.al.g E.al.d E.al.drops drops_opened allocator glued glue) asks (and_then ! (get ! refl) (no_more !)) (λ u.
    -- what the call gave: an address, the allocator, and what is at the address
    use1 𝓛 (later (some (λ (r : Ptr × Z.Denot). (tokens ⊛ ‵ ((Tuple (RawPtr ∷ box.P E ∷ [])).own_val r (u ∷ []))) ⊛ some (λ (_ : (Unit {0} × (Unit {0} × Unit {0})) × Unit {0}). ‵ (fsep (fsep ftrue (fsep ftrue ftrue)) ftrue) ⊛ (raw (fact 𝓤 (r.1 ≡ heap)) ⊛ ‵ (box_owns (E.al.g.dealloc_token heap) R r.0 given.value)))))) (id⊢ 𝓤 _) $
    await ! tt $ pick ! (λ r. split ! $ move ! (1 ∷ []) $ pick ! (λ _. split3 ! $ drop ! $ heard ! (r.1 ≡ heap) (λ is_heap.
    in_a_block ! r.0 (λ p. box_owns (E.al.g.dealloc_token heap) R p given.value) (fst∗ 𝓤 (never 𝓤) (sem 𝓛 (E.al.g.dealloc_token heap (bare (layout R)) null_ptr))) (λ to_b to_o is_at.
    move ! (1 ∷ []) $ split ! $ move ! (1 ∷ []) $ fpick ! (λ parts. fsplit ! $ feq_l ! (λ is_pair. fsplit ! $ feq_l ! (λ is_address. fsplit ! $
    rewrite ! 0 (λ (s : Z.Denot). ‵ (Z.own_val s parts.1.0)) is_heap refl $ handle_tells E.al ! heap parts.1.0 (λ to_h is_handle to_good.
    let made = words_typed to_b to_o to_h to_good in
    lands_as ! (ap only (is_pair ∙ (λ j. vstruct (of_list ((is_address ∙ ap (λ (p : Ptr). ptr_val p ∷ []) is_at) j ++ (is_handle j ++ []))) ∷ []))) refl made $
    -- the pair's parts, and the handle of them
    sets ! (of_opd ! (get_in ! (fld ! refl (stop !)) (sub ! 0 refl (whole !)))) refl (tt, tt) $
    sets ! (of_opd ! (get_in ! (fld ! refl (stop !)) (sub ! 1 refl (whole !)))) refl to_good $
    sets ! (of_opd ! (get ! refl)) refl (tt, tt) $
    sets ! (agg ! (and_then ! (get ! refl) (and_then ! (get ! refl) (no_more !)))) refl made $
    move ! (3 ∷ 0 ∷ []) $ held_in ! to_b to_o to_h heap given.value $
    use0 𝓛 (raw (fact 𝓤 (Some given.value ≡ Some given.value))) (fact_i 𝓤 (Some given.value ≡ Some given.value) (emp 𝓤) refl) $ nothing ! $ nothing ! $ fjoin ! $
    returns ! (look_at ! 0 refl) $ free_all ! refl $ keep ! (5 ∷ 0 ∷ 2 ∷ 1 ∷ []) $
    by ! (leaves 𝓛 ended stays says z (words (vptr to_b to_o) to_h) (record { at = block_ptr to_b to_o; alloc = heap; value = Some given.value }) (tt, tt) (tt, tt))))))))))))))
