-- The machine values of a `Held`: two words, an address and what stands for the allocator. Assumes `Logic`.
use Rattle.dmix_c.specs.Prelude.{List, refl, subst, w64, ℕ, [], ◌++◌, ◌∷◌, ◌≡◌, false≢true, IsSome, None, Option, Some, true, ◌&&◌, handle_tells, Good, and_tt}
use Rattle.dmix_c.specs.Prelude.{box_owns, flft, ftrue, full_share, fst∗, never, ⊑_static, RawPtr, lone, arg, layout, RattleType, Valss, block_ptr, in_a_block}
use Rattle.dmix_c.specs.Prelude.{null_ptr, Ptr, ptr_val, nothing, shape, within, at_exit, Ended, Lasts, lasts, Fit, raw as bare, has_ty, of_list, Val, vcons}
use Rattle.dmix_c.specs.Prelude.{vint, vnil, vptr, vstruct, WT, drop, feq_i, feq_l, fjoin, fpack, fpick, fsplit, Goal, Item, join, move, rewrite, Seq, Step}
use Rattle.dmix_c.specs.Prelude.{step, use0, ‵, ◌$◌, ◌⊛◌, Logic, sem, may_own}
use Rattle.std_heap.specs.contracts.GlobalAllocator.TheImpl.{ghosts, dict}
use borrow.Fn.Glue.{glue_by, glue_ps}
use borrow.Fn.Impl.{via_longer}
use borrow.Fn.Kinds.{ended_of, stays, r_unit}
use borrow.Fn.Run.{Over}
use borrow.Fn.World.{World}
use contract.Lifetimes.{Lfts}
use contract.Running.{Running}
use denote.Exit.{no}
use denote.Param.Laws.{Laws, arg_laws}
use denote.Triple.Carry.{AllWithin}
use denote.Triple.Table.{widened}
use lib.Dec.{T}
use mir.Syntax.{impl, tnil, dnil, Dict, tcons, method, no_args}
use prog.Model.{Model}
use prog.Wired.{Wired}
use seplogic.Ra.Ura.{Ura}
use denote.Param.Glue as glue
use Rattle.dmix_c.proofs.dmix_c++opened++Opened+Destruct.drop.Kinds as ends
use Rattle.dmix_c.proofs.dmix_c++opened++Opened+Destruct.drop.Reads as reads
use Rattle.dmix_c.proofs.dmix_c++opened++Opened+Destruct.drop.Symbol as symbol
use Rattle.dmix_c.proofs.dmix_c++opened++Opened+Destruct.drop.Met as ended_met
use Rattle.std_alloc.proofs.BoxSteps.Form as box
use Rattle.std.specs.contracts.alloc.Global as heap
use Rattle.std_alloc.specs.contracts.boxed.Box as boxed
use Rattle.std.proofs.alloc.Global.TheLaws as heap_laws
use Rattle.dmix_c.specs.contracts.opened.Opened as opened
use Rattle.dmix_c.proofs.opened.Opened.TheLaws as opened_laws
use Rattle.dmix_c.specs.contracts.handle.Held as held

abbrev pub R : RattleType
R = opened.the_row

abbrev pub Z : RattleType
Z = heap.the_row

-- the allocator as a field of another struct: its row, and its value there
abbrev pub F : RattleType
F = (heap.the_field).row

abbrev pub inside : Z.Denot → F.Denot
inside = (heap.the_field).into

abbrev pub LZ : Laws Z
LZ = heap_laws.the_row_laws

abbrev pub Held : RattleType
Held = held.the_row

abbrev pub Boxed : RattleType
Boxed = boxed.the_row R Z ghosts

-- what is in the box and the allocator, as what a call passes for its type parameters
abbrev passed : (T : RattleType) → RattleType
passed T = arg (bare (layout T)) no T

-- the box, as the steps of std_alloc take it: nothing drops an allocator
abbrev pub E : box.Bx
E = record {
  row = passed R;
  laws = arg_laws (bare (layout R)) no R opened_laws.the_row_laws refl;
  al = record {
    row = passed Z;
    laws = arg_laws (bare (layout Z)) no Z LZ refl;
    g = ghosts;
    d = dict;
    drops = impl ("dmix_c::Destruct++none::drop" ∷ []) (tcons (layout (passed Z)) tnil) dnil;
  };
}

-- what drops what is in the box
abbrev pub drops_opened : Dict
drops_opened = impl ("dmix_c::dmix_c++opened++Opened+Destruct::drop" ∷ []) tnil dnil

-- it is for `'static`, which never ends
abbrev kinds_end : Ended
kinds_end = ended_of 1 ends.ps ends.r

abbrev unending_lives : Lfts 1
unending_lives = ([], tt)

module _ {M : Type 1} {𝓤 : Ura M} (𝓛 : Logic 𝓤) (𝓜 : Model 𝓤 𝓛.H) (𝓡 : Running 𝓤 𝓛.H 𝓜) where
  pub glues_opened : Wired 𝓡.env symbol.code → glue.Met 𝓛 𝓜 𝓡 𝓡.env E.row drops_opened
  glues_opened wired =
      let w : World = record { M = M; 𝓤 = 𝓤; 𝓛 = 𝓛; 𝓜 = 𝓜; 𝓡 = 𝓡 } in
      let at = method drops_opened 0 no_args in
      glue_by E.row E.laws w drops_opened 𝓡.env (λ κs a. Lasts kinds_end unending_lives a) (λ κs a. lasts kinds_end unending_lives a)
      (λ κs a x ws. Fit kinds_end (stays ends.ps) unending_lives a ws × reads.Learnt unending_lives a x (at_exit kinds_end unending_lives a ws))
      (λ κs a. AllWithin 1 (κs.0, tt) ((E.row).lives, tt) × Unit {0}) 1 ((0, tt), tt) (λ κs a h. ((h, tt), tt))
      (via_longer 𝓛 (Over 𝓛 𝓜 𝓡 𝓡.env) 1 (glue_ps E.row E.laws) r_unit (λ κs a. Lasts kinds_end unending_lives a) (λ κs a. lasts kinds_end unending_lives a)
      (λ κs a x ws. Fit kinds_end (stays ends.ps) unending_lives a ws × reads.Learnt unending_lives a x (at_exit kinds_end unending_lives a ws))
      (λ κs a. AllWithin 1 (κs.0, tt) ((E.row).lives, tt) × Unit {0}) at 1 ((0, tt), tt) (λ κs. unending_lives) (λ κs a. reads.Asked unending_lives a)
      (λ κs a p. ((⊑_static κs.0, tt), tt))
      (λ κs bd within a vss qs. reads.known w 𝓡.env at (𝓡.env at) refl (widened 𝓤 𝓛.H _ 𝓜 𝓡 𝓡.env (𝓡.env symbol.name) (𝓡.env at)
      (symbol.as_method 𝓡.env wired at refl) (ended_met.met 𝓤 𝓛 𝓜 𝓡 wired)) ((unending_lives, qs, (⊑_static [], tt), a, vss), tt)))

-- the machine value of a struct of an address and an allocator
abbrev pub words : Val → Val → Val
words address allocator = vstruct (vcons address (vcons allocator vnil))

pub words_typed : (b o : ℕ) (h : Val) → Good (layout Z) h → T (has_ty (layout Z) h && true) × WT (words (vptr b o) h)
words_typed b o h good = (and_tt (has_ty (layout Z) h) good.0, (tt, (good.1, tt)))

pub some_of : {X : Type 0} (o : Option X) → IsSome o → (x : X) × (o ≡ Some x)
some_of (Some x) s = (x, refl)
some_of None s = absurd (false≢true s)

module _ {M : Type 1} {𝓤 : Ura M} {𝓛 : Logic 𝓤} {K : Type 0} {Γ : List (Item 𝓤)} {G : Goal 𝓤 𝓛.H} where
  pub held_in : K → (b o : ℕ) (h : Val) (a : Z.Denot) (x : R.Denot)
      → Step K 𝓛 (‵ (Held.own_val (record { at = block_ptr b o; alloc = a; value = Some x }) (words (vptr b o) h ∷ [])) ∷ Γ) G (‵ (box_owns (ghosts.dealloc_token a) R (block_ptr b o) x) ∷ ‵ (Z.own_val a (h ∷ [])) ∷ Γ) G
  held_in t b o h a x = step (λ s. let v : Val = words (vptr b o) h in
      nothing t $ move t (2 ∷ 0 ∷ []) $ fjoin t $ feq_i t (List Val) (vptr b o ∷ []) (vptr b o ∷ []) refl $ fjoin t $ feq_i t (List Val) (v ∷ []) (v ∷ []) refl $ fjoin t $
      fpack t (Valss (RawPtr ∷ F ∷ [])) (within (shape held.the_type) (block_ptr b o, (inside a, tt)) (v ∷ [])) (vptr b o ∷ [], (h ∷ [], tt)) $ fjoin t $ s)

  pub held_none : K → (h : Val) (a : Z.Denot)
      → Step K 𝓛 (‵ (Held.own_val (record { at = null_ptr; alloc = a; value = None }) (words (vint w64 0) h ∷ [])) ∷ Γ) G (‵ (Z.own_val a (h ∷ [])) ∷ Γ) G
  held_none t h a = step (λ s. let v : Val = words (vint w64 0) h in
      nothing t $ move t (1 ∷ 0 ∷ []) $ fjoin t $ feq_i t (List Val) (vint w64 0 ∷ []) (vint w64 0 ∷ []) refl $ fjoin t $ feq_i t (List Val) (v ∷ []) (v ∷ []) refl $ fjoin t $
      fpack t (Valss (RawPtr ∷ F ∷ [])) (within (shape held.the_type) (null_ptr, (inside a, tt)) (v ∷ [])) (vint w64 0 ∷ [], (h ∷ [], tt)) $ nothing t $ move t (1 ∷ 0 ∷ []) $ fjoin t $ s)

  pub held_out : K → (d : Held.Denot) (x : R.Denot) → d.value ≡ Some x → (vs : List Val)
      → ((b o : ℕ) (h : Val) → d.at ≡ block_ptr b o → vs ≡ words (vptr b o) h ∷ [] → Good (layout Z) h → Seq K 𝓛 (‵ (box_owns (ghosts.dealloc_token d.alloc) R (block_ptr b o) x) ∷ ‵ (Z.own_val d.alloc (h ∷ [])) ∷ Γ) G)
      → Seq K 𝓛 (‵ (Held.own_val d vs) ∷ Γ) G
  held_out t d x is vs k =
      fsplit t $ fpick t (λ vss. fsplit t $ feq_l t (λ ev. fsplit t $ feq_l t (λ ep. fsplit t $ handle_tells E.al t d.alloc vss.1.0 (λ h ea fits. move t (1 ∷ []) $ drop t $ move t (1 ∷ []) $
      rewrite t 0 (λ (o : Option R.Denot). ‵ (may_own R d.alloc d.at o)) is refl $
      in_a_block t d.at (λ p. box_owns (ghosts.dealloc_token d.alloc) R p x) (fst∗ 𝓤 (never 𝓤) (sem 𝓛 (ghosts.dealloc_token d.alloc (bare (lone R.mir)) null_ptr))) (λ b o e. k b o h e
      (subst (λ (p : Ptr). vs ≡ vstruct (of_list (ptr_val p ∷ h ∷ [])) ∷ []) e
      (subst (λ (ws : List Val). vs ≡ vstruct (of_list (ptr_val d.at ∷ (ws ++ []))) ∷ []) ea (subst (λ (ps : List Val). vs ≡ vstruct (of_list (ps ++ (vss.1.0 ++ []))) ∷ []) ep ev))) fits)))))

  -- the tokens of a box's two lifetimes, of its value and its allocator, which never end
  pub unending : K → Step K 𝓛 ((‵ (flft [] full_share) ⊛ ‵ (flft [] full_share) ⊛ ‵ ftrue) ∷ Γ) G Γ G
  unending t = step (λ s.
      nothing t $ use0 𝓛 (‵ (flft [] full_share)) (𝓛.lfts.lft-nil full_share) $ join t $
      use0 𝓛 (‵ (flft [] full_share)) (𝓛.lfts.lft-nil full_share) $ join t $ s)
