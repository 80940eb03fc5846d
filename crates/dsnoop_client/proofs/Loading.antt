-- The calls take their courses, by what their parts took.
use Rattle.dsnoop_client.specs.Prelude.{refl, subst, sym, ℕ, ◌≡◌, Option, Call, Position, Got, GetsAtSnoop, LoadsAtSnoop, NoLay, TakesAtSnoop, Course}
use Rattle.dsnoop_client.specs.Prelude.{Takes-map, Takes-then, CaptureStream, after_start, after_sync, Answered, read_after, taken_of, with_avail, counts}
use Rattle.dsnoop_client.specs.Prelude.{gets_frames, reads_first, reads_on, starts, syncs, transfer_on, transfers}
use Rattle.mix_core.specs.declared.gate.Gate as gates
use Rattle.pcm_states.specs.declared.calls.Call.TheVariants as call
use Rattle.snoop_core.specs.declared.port.SnoopPort as snoopport

module _ {S T : Type 0} (P : snoopport.Ghosts S) (G : gates.Ghosts T) where
  -- a start and a sync, by their loads
  pub starts-by : (s t : S × T) (c : CaptureStream) (call : Call) (load : Option Position) (done : Answered (Unit {0})) → LoadsAtSnoop P G s load t
      → done ≡ after_start c call load → TakesAtSnoop P G s (starts c call) t done
  unfolding starts
  starts-by s t c call load done step is = (load, t, step, record { there = refl; result = is })

  pub syncs-by : (s t : S × T) (c : CaptureStream) (call : Call) (load : Option Position) (done : Answered (Unit {0})) → LoadsAtSnoop P G s load t
      → done ≡ after_sync c call load → TakesAtSnoop P G s (syncs c call) t done
  unfolding syncs
  syncs-by s t c call load done step is = (load, t, step, record { there = refl; result = is })

  -- a sync's answer with the frames available
  pub counts-by : (s t : S × T) (m : Course (Answered (Unit {0}))) (done : Answered (Unit {0})) (x : Answered ℕ) → TakesAtSnoop P G s m t done
      → with_avail done ≡ x → TakesAtSnoop P G s (counts m) t x
  unfolding counts
  counts-by s t m done x takes is = Takes-map (LoadsAtSnoop P G) NoLay (GetsAtSnoop P G) s t m with_avail done x takes is

  -- the frames of a read
  pub transfers-by : (s t : S × T) (c : CaptureStream) (n count done : ℕ) (ended : Got) (x : Answered ℕ) → count ≡ taken_of c n
      → TakesAtSnoop P G s (gets_frames count c.next) t (done, ended) → x ≡ read_after c n done ended → TakesAtSnoop P G s (transfers c n) t x
  unfolding transfers
  transfers-by s t c n count done ended x is_count takes is =
      Takes-map (LoadsAtSnoop P G) NoLay (GetsAtSnoop P G) s t (gets_frames (taken_of c n) c.next)
      (λ (end : ℕ × Got). read_after c n end.0 end.1) (done, ended) x
      (subst (λ k. TakesAtSnoop P G s (gets_frames k c.next) t (done, ended)) is_count takes) (sym is)

  -- a read of a reader that runs, and one that starts it
  pub reads_on-by : (s t u : S × T) (c : CaptureStream) (n : ℕ) (first : Answered (Unit {0})) (done : Answered ℕ)
      → TakesAtSnoop P G s (syncs c call.Transfer) t first
      → TakesAtSnoop P G t (transfer_on n first) u done → TakesAtSnoop P G s (reads_on c n) u done
  unfolding reads_on
  reads_on-by s t u c n first done one two =
      Takes-then (LoadsAtSnoop P G) NoLay (GetsAtSnoop P G) s t u (syncs c call.Transfer) (transfer_on n) first done one two

  pub reads_first-by : (s t u : S × T) (c : CaptureStream) (n : ℕ) (first : Answered (Unit {0})) (done : Answered ℕ)
      → TakesAtSnoop P G s (starts c call.Transfer) t first
      → TakesAtSnoop P G t (transfer_on n first) u done → TakesAtSnoop P G s (reads_first c n) u done
  unfolding reads_first
  reads_first-by s t u c n first done one two =
      Takes-then (LoadsAtSnoop P G) NoLay (GetsAtSnoop P G) s t u (starts c call.Transfer) (transfer_on n) first done one two
