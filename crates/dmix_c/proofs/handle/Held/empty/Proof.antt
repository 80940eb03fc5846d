-- `empty` owns nothing but the allocator.
use Rattle.dmix_c.specs.Prelude.{List, lit<, refl, subst, sym, w64, [], ◌++◌, ◌∷◌, ◌≡◌, leaves, proved_at, None, Option, Goes-blank, handle_tells, and_tt, emp}
use Rattle.dmix_c.specs.Prelude.{ent, id⊢, SProp, fact, fact_i, tables, layout, owns, null_ptr, plain, types_at, nothing, alive, stay_dropped, Stays, walk_of}
use Rattle.dmix_c.specs.Prelude.{has_ty, Val, vint, WpFn, alloc_all, free_all, get, look_at, pass_all, sets, by, drop, fjoin, fsplit, keep, move, qed, split}
use Rattle.dmix_c.specs.Prelude.{suffices, use0, !, ‵, ◌$◌, ◌∵◌, ◌⊛◌, agg, and_then, enter, lit, no_more, returns}
use types.Kit.{raw}
use Rattle.dmix_c.specs.contracts.handle.Held.empty.{ended, clauses}
use Rattle.dmix_c.specs.contracts.handle.Held.empty.Key.{name as #self}
use Rattle.dmix_c.proofs.Handles.{E, R, Z, held_none, words}
use Rattle.dmix_c.proofs.handle.Held.empty.Statement.{statement}
use Rattle.dmix_c.proofs.handle.Held.empty.Code as code

pub empty_spec : {M : Type 1} → statement M
empty_spec 𝓤 𝓛 𝓜 𝓡 wired =
    let H = 𝓛.H in let 𝓣 = tables 𝓤 H 𝓜 𝓡 𝓡.env in let fn = code.function in let c = clauses 𝓛 𝓜.mem 𝓡.returns in
    let hs : Stays ended.signature.params ended.kept = (stay_dropped (plain (λ _. Z)) ended.kept.0, tt) in
    proved_at 𝓛 ended hs c 𝓜 𝓡 (Goes-blank 𝓛 0 (plain (λ _. Z)) ended.kept.0 (λ κs x f. tt), tt) #self fn (code.unfolded 𝓤 H 𝓜 𝓡 wired) (λ z are.
    let a = z.0.3.0 in let Post : Val → SProp 𝓤 = (walk_of 𝓛 ended hs c).post z in let Run : List Val → SProp 𝓤 = λ ws. WpFn 𝓤 H 𝓣.C 𝓣.Λ fn ws Post in
    qed 𝓛 ((raw (alive 𝓛 ended.signature z.0.0 z.0.1) ⊛ ‵ (owns (types_at ended.signature.params z.0.0) z.0.3 z.0.4)) ∷ raw ((c z.0.0 z.0.3).requires z.1) ∷ []) ∵
    move ! (1 ∷ []) $ drop ! $ split ! $ move ! (1 ∷ []) $ fsplit ! $ handle_tells E.al ! a z.0.4.0 (λ h ws fits.
    let w : Val = words (vint w64 0) h in let none : Option R.Denot = None in let none_is : Type 0 = none ≡ None in
    suffices ! (Run (h ∷ [])) (subst (λ (us : List Val). ent 𝓤 (Run (h ∷ [])) (Run us)) (sym (λ i. ws i ++ [])) (id⊢ 𝓤 (Run (h ∷ [])))) $
    enter ! 𝓣.C 𝓣.Λ fn (h ∷ []) Post $ alloc_all ! (λ l. pass_all ! refl (fits, tt) $
    sets ! (agg ! (and_then ! (lit ! tt) (and_then ! (get ! refl) (no_more !)))) refl (and_tt (has_ty (layout Z) h) fits.0, (record { fits = lit< tt }, (fits.1, tt))) $
    held_none ! h a $ use0 𝓛 (raw (fact 𝓤 none_is)) (fact_i 𝓤 none_is (emp 𝓤) refl) $ nothing ! $ nothing ! $ fjoin ! $
    returns ! (look_at ! 0 refl) $ free_all ! refl $ keep ! (4 ∷ 0 ∷ 2 ∷ 1 ∷ []) $ by ! (leaves 𝓛 ended hs c z w (record { at = null_ptr; alloc = a; value = None }) (tt, tt) (tt, tt)))))
