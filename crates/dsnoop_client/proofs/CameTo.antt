-- What frames that a port was to get ended in: how many were got, what was asked and counted, and that an overtaken one is shown.
use Rattle.dsnoop_client.specs.Prelude.{ap, arith, refl, subst, suc, sym, zero, ℕ, [], ◌*◌, ◌+◌, ◌<◌, ◌∙◌, ◌≡◌, ◌≤◌, replicate-append-replicate, Option}
use Rattle.dsnoop_client.specs.Prelude.{replicate, Composes, AsksCompose, stops_after, Got, Overtaken, Stopped, Whole, IsPast, OnOvertaken, pass_of_got}
use Rattle.dsnoop_client.specs.Prelude.{SnoopView, GetsAtSnoop, LoadsAtSnoop, NoLay, TakesAtSnoop, ends, Takes-parts, gets_frames, one_more}
use Rattle.mix_core.specs.declared.gate.Gate as gates
use Rattle.mix_core.specs.declared.gate.StepKind.TheVariants as kind
use Rattle.snoop_core.specs.declared.port.SnoopPort as snoopport

-- how many channels were asked for
abbrev pub IsLooks : Got → ℕ → ℕ → ℕ → Type 0
IsLooks Whole done channels looks = looks ≡ done * channels
IsLooks (Overtaken channel word) done channels looks = looks ≡ done * channels + (channel + 1)
IsLooks Stopped done channels looks = looks ≤ (done + 1) * channels

-- how far some frames got: to their end, or before it
abbrev pub IsUpTo : Got → ℕ → ℕ → Type 0
IsUpTo Whole done all = done ≡ all
IsUpTo other done all = done < all

pub record CameTo {S T : Type 0} (P : snoopport.Ghosts S) (G : gates.Ghosts T) (s t : S × T) (count first done : ℕ) (ended : Got) : Type 0 where
  pub view_is : P.view t.0 ≡ P.view s.0
  pub up_to : IsUpTo ended done count
  pub loaded_nothing : P.loaded s.0 t.0 []
  pub overtaken : OnOvertaken ended (λ channel word. IsPast P.view P.shows t.0 (first + done) channel word)
  pub stops : G.stops t.1 ≡ stops_after (pass_of_got ended) (G.stops s.1)
  pub looks : ℕ
  pub looks_number : IsLooks ended done (P.view s.0).geometry.channels looks
  pub asked_them : G.asked s.1 t.1 (replicate looks kind.Look) (pass_of_got ended)

up_to-more : (e : Got) (done all : ℕ) → IsUpTo e done all → IsUpTo e (done + 1) (suc all)
up_to-more Whole done all is = omega (arith, is)
up_to-more other done all is = omega (arith, is)

looks-more : (e : Got) (done channels asks looks : ℕ) → asks ≡ channels → IsLooks e done channels looks → IsLooks e (done + 1) channels (asks + looks)
looks-more Whole done channels asks looks all is = omega (arith, all, is)
looks-more other done channels asks looks all is = omega (arith, all, is)

past-at : {S : Type 0} (view : S → SnoopView) (shows : S → ℕ → ℕ → Option ℕ) (p : S) (e : Got) (a b : ℕ) → a ≡ b
    → OnOvertaken e (λ channel word. IsPast view shows p a channel word) → OnOvertaken e (λ channel word. IsPast view shows p b channel word)
past-at view shows p e a b same past = subst (λ (n : ℕ). OnOvertaken e (λ channel word. IsPast view shows p n channel word)) same past

module _ {S T : Type 0} (P : snoopport.Ghosts S) (G : gates.Ghosts T) (composes : Composes P.loaded) (asks : AsksCompose G.asked) where
  pub gets_frames-come : (count first : ℕ) (s t : S × T) (done : ℕ) (ended : Got) → TakesAtSnoop P G s (gets_frames count first) t (done, ended)
      → CameTo P G s t count first done ended
  unfolding gets_frames
  gets_frames-come zero first s t done ended takes =
      subst (λ (u : S × T). CameTo P G s u zero first done ended) (sym takes.there)
      (subst (λ (r : ℕ × Got). CameTo P G s s zero first r.0 r.1) (sym takes.result) (record {
        view_is = refl;
        up_to = refl;
        loaded_nothing = composes.none s.0;
        overtaken = tt;
        stops = refl;
        looks = 0;
        looks_number = omega arith;
        asked_them = asks.none s.1;
      }))
  gets_frames-come (suc count) first s t done ended (Whole, m, step, rest) =
      let parts = Takes-parts (LoadsAtSnoop P G) NoLay (GetsAtSnoop P G) m t (gets_frames count (first + 1)) (λ end. ends (one_more end)) (done, ended) rest in
      let later = gets_frames-come count (first + 1) m parts.0 parts.1.0 parts.1.1 parts.2 in
      subst (λ (u : S × T). CameTo P G s u (suc count) first done ended) (sym parts.3.there)
      (subst (λ (r : ℕ × Got). CameTo P G s parts.0 (suc count) first r.0 r.1) (sym parts.3.result) (record {
        view_is = later.view_is ∙ step.1.view_is;
        up_to = up_to-more parts.1.1 parts.1.0 count later.up_to;
        loaded_nothing = composes.joined s.0 m.0 parts.0.0 [] [] step.1.loaded_nothing later.loaded_nothing;
        overtaken = past-at P.view P.shows parts.0.0 parts.1.1 (first + 1 + parts.1.0) (first + (parts.1.0 + 1)) (omega arith) later.overtaken;
        stops = later.stops ∙ ap (stops_after (pass_of_got parts.1.1)) step.1.stopped;
        looks = step.1.asks + later.looks;
        looks_number = looks-more parts.1.1 parts.1.0 (P.view s.0).geometry.channels step.1.asks later.looks step.1.asks_number
            (subst (λ (v : SnoopView). IsLooks parts.1.1 parts.1.0 v.geometry.channels later.looks) step.1.view_is later.looks_number);
        asked_them = subst (λ xs. G.asked s.1 parts.0.1 xs (pass_of_got parts.1.1)) (replicate-append-replicate step.1.asks later.looks kind.Look)
            (asks.joined s.1 m.1 parts.0.1 (replicate step.1.asks kind.Look) (replicate later.looks kind.Look) (pass_of_got parts.1.1)
            step.1.asked_them later.asked_them);
      }))
  gets_frames-come (suc count) first s t done ended (other, m, step, rest) =
      let asked = step.1.asks_number in
      subst (λ (u : S × T). CameTo P G s u (suc count) first done ended) (sym rest.there)
      (subst (λ (r : ℕ × Got). CameTo P G s m (suc count) first r.0 r.1) (sym rest.result) (record {
        view_is = step.1.view_is;
        up_to = omega arith;
        loaded_nothing = step.1.loaded_nothing;
        overtaken = past-at P.view P.shows m.0 other first (first + 0) (omega arith) step.1.overtaken;
        stops = step.1.stopped;
        looks = step.1.asks;
        looks_number = omega (arith, asked);
        asked_them = step.1.asked_them;
      }))
