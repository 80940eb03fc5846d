-- What a turn did in two parts is joined.
use Rattle.std.specs.Prelude.{◌≡◌, ℕ, Some, List, [], ◌∷◌, All, ℤ}
use Rattle.std.proofs.Common.{refl, sym, ap, ◌∙◌, subst, arith, suc, get_or}
use Rattle.std.proofs.lemmas.List.Elements.{All-append}
use Rattle.snd_base.specs.Relations.{Composes}
use Rattle.mix_core.specs.declared.port.Position.{Position}
use Rattle.mix_core.specs.Port.{AreRisingFrom, last_frame}
use Rattle.snoop_core.specs.declared.port.Frame.{Frame}
use Rattle.snoop_core.specs.declared.turn.SnoopTurn.{SnoopTurn}
use Rattle.snoop_core.specs.Port.{ShowsFrom}
use Rattle.snoop_core.specs.Stored.{IsCaptured}
use Rattle.snoop_core.specs.Turn.{IsSame, TurnGot, TurnLoaded, core_of, word_of_turn}
use Rattle.snoop_core.specs.View.{Represents, SnoopCoreView, geometry_of, word_at}

pub IsSame-joined : (p q r : SnoopTurn) → IsSame p q → IsSame q r → IsSame p r
IsSame-joined p q r first then = record { same_core = then.same_core ∙ first.same_core; core = then.core ∙ first.core }

pub TurnLoaded-composes : Composes TurnLoaded
TurnLoaded-composes = record {
  none = λ p. record { same = record { same_core = refl; core = refl }; each = λ k d within. absurd (omega arith) };
  joined = λ p q r xs ys first then. record {
    same = IsSame-joined p q r first.same then.same;
    each = All-append (λ (x : Position). (x.frame ≡ (core_of p).position) × (x.gone ≡ (core_of p).gone)) xs ys first.each
        (λ k d within.
        ((then.each k d within).0 ∙ ap (λ (v : SnoopCoreView). v.position) first.same.core, (then.each k d within).1 ∙ ap (λ (v : SnoopCoreView). v.gone) first.same.core));
  };
}

pub TurnGot-composes : Composes TurnGot
TurnGot-composes = record {
  none = λ p. record { same = record { same_core = refl; core = refl }; each = λ k d within. absurd (omega arith) };
  joined = λ p q r xs ys first then. record {
    same = IsSame-joined p q r first.same then.same;
    each = All-append (λ (f : Frame). (zs : List ℤ) → Represents (core_of p) zs → IsCaptured (geometry_of (core_of p)) zs f) xs ys first.each
        (λ k d within.
        subst (λ (v : SnoopCoreView). (zs : List ℤ) → Represents v zs → IsCaptured (geometry_of v) zs (get_or ys k d)) first.same.core (then.each k d within));
  };
}

-- the positions that a turn loaded are all the core's
loaded-each : (d : ℕ) (ps : List Position) → All (λ (p : Position). p.frame ≡ d) ps → AreRisingFrom d ps × (last_frame d ps ≡ d)
loaded-each d [] all = (tt, refl)
loaded-each d (p ∷ ps) all =
    let is : p.frame ≡ d = all 0 p (omega arith) in
    let rest = loaded-each d ps (λ k x within. all (suc k) x (omega (arith, within))) in
    ((omega (arith, is), rw is rest.0), rw is rest.1)

pub TurnLoaded-rising : (t u : SnoopTurn) (ps : List Position) → TurnLoaded t u ps → AreRisingFrom (core_of t).position ps
TurnLoaded-rising t u ps loaded = (loaded-each (core_of t).position ps (λ k d within. (loaded.each k d within).0)).0

pub TurnLoaded-last : (t u : SnoopTurn) (ps : List Position) → TurnLoaded t u ps → (core_of u).position ≡ last_frame (core_of t).position ps
TurnLoaded-last t u ps loaded =
    ap (λ (v : SnoopCoreView). v.position) loaded.same.core ∙ sym (loaded-each (core_of t).position ps (λ k d within. (loaded.each k d within).0)).1

-- the words that a turn shows stay
pub TurnGot-shown : (t u : SnoopTurn) (fs : List Frame) (f c word : ℕ) → TurnGot t u fs → word_of_turn t f c ≡ Some word → ShowsFrom word_of_turn u f c word
TurnGot-shown t u fs f c word got is = record {
  now = word;
  shown = ap (λ (v : SnoopCoreView). Some (word_at v f c)) got.same.core ∙ is;
  not_before = omega arith;
}
