-- The loop that gets frames takes its course.
use Rattle.dsnoop_client.specs.Prelude.{arith, refl, subst, suc, sym, ℕ, ◌+◌, ◌-◌, ◌<◌, ◌≡◌, Got, Whole, GetsAtSnoop, LoadsAtSnoop, NoLay, TakesAtSnoop, ends}
use Rattle.dsnoop_client.specs.Prelude.{Takes-then, get_on, gets_frames, one_more}
use Rattle.mix_core.specs.declared.gate.Gate as gates
use Rattle.snoop_core.specs.declared.port.SnoopPort as snoopport

-- what the frames from here on end in is what all end in
pub record Rest {S T : Type 0} (P : snoopport.Ghosts S) (G : gates.Ghosts T) (count first : ℕ) (start now : S × T) (i : ℕ) : Type 0 where
  pub rest : (t : S × T) (done : ℕ) (ended : Got) → TakesAtSnoop P G now (gets_frames (count - i) (first + i)) t (done, ended)
      → TakesAtSnoop P G start (gets_frames count first) t (i + done, ended)

module _ {S T : Type 0} {P : snoopport.Ghosts S} {G : gates.Ghosts T} {count first : ℕ} where
  pub Rest-none : {s : S × T} → Rest P G count first s s 0
  Rest-none {s} = record {
    rest = λ t done ended takes.
        subst (λ n. TakesAtSnoop P G s (gets_frames count first) t (n, ended)) (let same : done ≡ 0 + done = omega arith in same)
        (subst (λ n. TakesAtSnoop P G s (gets_frames count n) t (done, ended)) (let here : first + 0 ≡ first = omega arith in here)
        (subst (λ n. TakesAtSnoop P G s (gets_frames n (first + 0)) t (done, ended)) (let counted : count - 0 ≡ count = omega arith in counted) takes));
  }

  pub Rest-next : {start now next : S × T} {i : ℕ} → i < count → Rest P G count first start now i → GetsAtSnoop P G now (first + i) Whole next
      → Rest P G count first start next (i + 1)
  unfolding gets_frames
  Rest-next {start} {now} {next} {i} low so_far step = record {
    rest = λ t done ended takes.
        let one_less : count - i ≡ suc (count - (i + 1)) = omega (arith, low) in
        subst (λ n. TakesAtSnoop P G start (gets_frames count first) t (n, ended)) (let counted : i + (done + 1) ≡ i + 1 + done = omega arith in counted)
        (so_far.rest t (done + 1) ended (subst (λ n. TakesAtSnoop P G now (gets_frames n (first + i)) t (done + 1, ended)) (sym one_less) (
          Whole,
          next,
          step,
          Takes-then (LoadsAtSnoop P G) NoLay (GetsAtSnoop P G) next t t (gets_frames (count - (i + 1)) (first + i + 1)) (λ end. ends (one_more end))
              (done, ended) (done + 1, ended)
              (subst (λ n. TakesAtSnoop P G next (gets_frames (count - (i + 1)) n) t (done, ended))
              (let at : first + (i + 1) ≡ first + i + 1 = omega arith in at) takes) (record { there = refl; result = refl }),
        )));
  }

  pub Rest-ended : {start now : S × T} {i : ℕ} (next : S × T) (end : Got) → i < count → (end ≡ Whole → ⊥)
      → Rest P G count first start now i → GetsAtSnoop P G now (first + i) end next → TakesAtSnoop P G start (gets_frames count first) next (i, end)
  unfolding gets_frames
  Rest-ended {start} {now} {i} next end low not_whole so_far step =
      let one_less : count - i ≡ suc (count - (i + 1)) = omega (arith, low) in
      subst (λ n. TakesAtSnoop P G start (gets_frames count first) next (n, end)) (let counted : i + 0 ≡ i = omega arith in counted)
      (so_far.rest next 0 end (subst (λ n. TakesAtSnoop P G now (gets_frames n (first + i)) next (0, end)) (sym one_less)
      (end, next, step, stays end not_whole)))
    where
      stays : (e : Got) → (e ≡ Whole → ⊥) → TakesAtSnoop P G next (get_on e (gets_frames (count - (i + 1)) (first + i + 1))) next (0, e)
      stays Whole not_so = absurd (not_so refl)
      stays other not_so = record { there = refl; result = refl }

  pub Rest-all : {start now : S × T} {i : ℕ} → count ≡ i → Rest P G count first start now i
      → TakesAtSnoop P G start (gets_frames count first) now (count, Whole)
  unfolding gets_frames
  Rest-all {start} {now} {i} is so_far =
      subst (λ n. TakesAtSnoop P G start (gets_frames count first) now (n, Whole)) (let counted : i + 0 ≡ count = omega (arith, is) in counted)
      (so_far.rest now 0 Whole (subst (λ n. TakesAtSnoop P G now (gets_frames n (first + i)) now (0, Whole))
      (sym (let none : count - i ≡ 0 = omega (arith, is) in none)) (record { there = refl; result = refl })))
