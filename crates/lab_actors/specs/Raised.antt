-- What an actor does in its lines doesn't depend on how often its own gate stopped it before, or was asked: the same lines are a part of the actor
-- that counts so many stops less, and so many asks more.
use Rattle.std.specs.Prelude.{◌≡◌, ℕ, ◌+◌, Bool, true, false, List, [], ◌∷◌, Option, Some, None}
use Rattle.std.proofs.Common.{refl, sym, ◌∙◌, ap, subst, arith, inl, inr}
use Rattle.snd_base.specs.declared.geometry.Geometry.{Geometry}
use Rattle.mix_core.specs.declared.port.Ended.{Ended}
use Rattle.mix_core.specs.declared.port.Ended.TheVariants.{Whole, Late, Stopped}
use Rattle.mix_core.specs.declared.port.Entry.{Entry}
use Rattle.mix_core.specs.declared.port.Position.{Position}
use Rattle.snoop_core.specs.declared.port.Got.{Got}
use Rattle.snoop_core.specs.declared.port.Got.TheVariants as got
use Rattle.course.specs.Course.{Course, Takes}
use Rattle.course.specs.CourseLaws.{Takes-follow}
use Rattle.lab_lines.specs.declared.line.Op.{Op}
use Rattle.lab_lines.specs.declared.line.Op.TheVariants as op
use Rattle.lab_lines.specs.declared.row.Answer.{Answer}
use Rattle.lab_lines.specs.declared.row.Row.{Row}
use Rattle.lab_run.specs.ActorPart.{ActorPart, DoesGet, DoesLay, DoesLoad, Doing, Findings, LineDone}
use Rattle.lab_run.specs.Client.{dies_if}
use Rattle.lab_run.specs.Lines.{Kind}
use Rattle.lab_run.specs.Rules.{AtPort, lets_pass, with_asks, with_entry, with_gate_stop, with_load, with_stop, with_stop_by}

-- an actor that its own gate stopped so many times more, and that asked this gate so often
abbrev pub with_counts : ℕ → ℕ → AtPort → AtPort
with_counts k asks a = record a { by_gate = a.by_gate + k; at_gate = asks }

-- one actor is another, but that it counts so many stops more, and so many asks less
pub record IsRaised (k m : ℕ) (x w : AtPort) : Type 0 where
  pub is : x ≡ with_counts k x.at_gate w
  pub asks : w.at_gate ≡ x.at_gate + m

-- the same of actors with what they found
record IsRaisedDoing (k m : ℕ) (x w : Doing) : Type 0 where
  pub port : IsRaised k m x.0 w.0
  pub found : x.1 ≡ w.1

-- a kind of actor doesn't ask how often the gate stopped it, or was asked
pub record IsBlind {S : Type 0} (kind : Kind S) : Type 0 where
  pub begins : (k n : ℕ) (a : AtPort) (s : S) (asked : Op)
      → kind.begins s asked (with_counts k n a) ≡ with_counts k n (kind.begins s asked a)
  pub same_asks : (a : AtPort) (s : S) (asked : Op) → (kind.begins s asked a).at_gate ≡ a.at_gate
  pub course : (k n : ℕ) (a : AtPort) (s : S) (asked : Op)
      → kind.course (with_counts k n a) s asked ≡ kind.course a s asked

module _ (k m : ℕ) where
  raised-same : (n : ℕ) (a : AtPort) → a.at_gate ≡ n + m → IsRaised k m (with_counts k n a) a
  raised-same n a more = record { is = refl; asks = more }

  raised-by : (b x w : AtPort) → b ≡ x → IsRaised k m x w → IsRaised k m b w
  raised-by b x w is one = subst (λ (y : AtPort). IsRaised k m y w) (sym is) one

  -- each step of both keeps them so
  raised-asks : (asks : ℕ) (x w : AtPort) → IsRaised k m x w → IsRaised k m (with_asks asks x) (with_asks asks w)
  raised-asks asks x w one = record { is = ap (with_asks asks) one.is; asks = let more = one.asks in omega (arith, more) }

  raised-gate_stop : (x w : AtPort) → IsRaised k m x w → IsRaised k m (with_gate_stop x) (with_gate_stop w)
  raised-gate_stop x w one =
      let same : (w.by_gate + k) + 1 ≡ (w.by_gate + 1) + k = omega arith in
      record { is = ap with_gate_stop one.is ∙ ap (λ (n : ℕ). record w { by_gate = n; at_gate = x.at_gate }) same; asks = one.asks }

  raised-stop_by : (passes : Bool) (x w : AtPort) → IsRaised k m x w → IsRaised k m (with_stop_by passes x) (with_stop_by passes w)
  raised-stop_by true x w one = raised-gate_stop (with_asks 1 x) (with_asks 1 w) (raised-asks 1 x w one)
  raised-stop_by false x w one = one

  raised-stop : (x w : AtPort) → IsRaised k m x w → IsRaised k m (with_stop x) (with_stop w)
  raised-stop x w one =
      subst (λ (passes : Bool). IsRaised k m (with_stop_by passes x) (with_stop w)) (sym (ap (λ (y : AtPort). lets_pass 1 y.left) one.is))
      (raised-stop_by (lets_pass 1 w.left) x w one)

  raised-load : (position : ℕ) (x w : AtPort) → IsRaised k m x w → IsRaised k m (with_load position x) (with_load position w)
  raised-load position x w one = record { is = ap (with_load position) one.is; asks = let more = one.asks in omega (arith, more) }

  raised-entry : (ring : Geometry) (e : Entry) (x w : AtPort) → IsRaised k m x w → IsRaised k m (with_entry ring e x) (with_entry ring e w)
  raised-entry ring e x w one = record { is = ap (with_entry ring e) one.is; asks = let more = one.asks in omega (arith, more) }

module _ (ring : Geometry) (k m : ℕ) where
  -- a step of the one actor is one of the other, after which they are so again
  DoesLoad-lowered : (n : ℕ) (a : AtPort) → a.at_gate ≡ n + m → (found : Findings) (load : Option Position) (b : AtPort) (after : Findings)
      → DoesLoad (with_counts k n a, found) load (b, after) → (c : AtPort) × DoesLoad (a, found) load (c, after) × IsRaised k m b c
  DoesLoad-lowered n a more found None b after (is, same) =
      (with_stop a, (refl, same), raised-by k m b (with_stop (with_counts k n a)) (with_stop a) is (raised-stop k m (with_counts k n a) a (raised-same k m n a more)))
  DoesLoad-lowered n a more found (Some position) b after (passes, above, is, same) = (
    with_load position.frame a,
    (passes, above, refl, same),
    raised-by k m b (with_load position.frame (with_counts k n a)) (with_load position.frame a) is
        (raised-load k m position.frame (with_counts k n a) a (raised-same k m n a more)),
  )

  DoesLay-lowered : (n : ℕ) (a : AtPort) → a.at_gate ≡ n + m → (found : Findings) (e : Entry) (ended : Ended) (b : AtPort) (after : Findings)
      → DoesLay ring (with_counts k n a, found) e ended (b, after) → (c : AtPort) × DoesLay ring (a, found) e ended (c, after) × IsRaised k m b c
  DoesLay-lowered n a more found e Whole b after (above, passes, is, same) = (
    with_entry ring e a,
    (above, passes, refl, same),
    raised-by k m b (with_entry ring e (with_counts k n a)) (with_entry ring e a) is
        (raised-entry k m ring e (with_counts k n a) a (raised-same k m n a more)),
  )
  DoesLay-lowered n a more found e (Late word) b after (asks, none, may, passes, is, same) = (
    with_asks (asks + 1) a,
    (asks, none, may, passes, refl, same),
    raised-by k m b (with_asks (asks + 1) (with_counts k n a)) (with_asks (asks + 1) a) is
        (raised-asks k m (asks + 1) (with_counts k n a) a (raised-same k m n a more)),
  )
  DoesLay-lowered n a more found e Stopped b after (inl (asks, may, passes, is), same) = (
    with_stop (with_asks asks a),
    (inl (asks, may, passes, refl), same),
    raised-by k m b (with_stop (with_asks asks (with_counts k n a))) (with_stop (with_asks asks a)) is
        (raised-stop k m (with_asks asks (with_counts k n a)) (with_asks asks a) (raised-asks k m asks (with_counts k n a) a (raised-same k m n a more))),
  )
  DoesLay-lowered n a more found e Stopped b after (inr (above, passes, is), same) = (
    with_gate_stop (with_asks 2 a),
    (inr (above, passes, refl), same),
    raised-by k m b (with_gate_stop (with_asks 2 (with_counts k n a))) (with_gate_stop (with_asks 2 a)) is
        (raised-gate_stop k m (with_asks 2 (with_counts k n a)) (with_asks 2 a) (raised-asks k m 2 (with_counts k n a) a (raised-same k m n a more))),
  )

  DoesGet-lowered : (n : ℕ) (a : AtPort) → a.at_gate ≡ n + m → (found : Findings) (frame : ℕ) (got : Got) (b : AtPort) (after : Findings)
      → DoesGet ring (with_counts k n a, found) frame got (b, after) → (c : AtPort) × DoesGet ring (a, found) frame got (c, after) × IsRaised k m b c
  DoesGet-lowered n a more found frame got.Whole b after (above, passes, is, same) = (
    with_asks ring.channels a,
    (above, passes, refl, same),
    raised-by k m b (with_asks ring.channels (with_counts k n a)) (with_asks ring.channels a) is
        (raised-asks k m ring.channels (with_counts k n a) a (raised-same k m n a more)),
  )
  DoesGet-lowered n a more found frame (got.Overtaken channel word) b after (none, below, may, passes, is, same) = (
    with_asks (channel + 1) a,
    (none, below, may, passes, refl, same),
    raised-by k m b (with_asks (channel + 1) (with_counts k n a)) (with_asks (channel + 1) a) is
        (raised-asks k m (channel + 1) (with_counts k n a) a (raised-same k m n a more)),
  )
  DoesGet-lowered n a more found frame got.Stopped b after (asks, below, may, passes, is, same) = (
    with_stop (with_asks asks a),
    (asks, below, may, passes, refl, same),
    raised-by k m b (with_stop (with_asks asks (with_counts k n a))) (with_stop (with_asks asks a)) is
        (raised-stop k m (with_asks asks (with_counts k n a)) (with_asks asks a) (raised-asks k m asks (with_counts k n a) a (raised-same k m n a more))),
  )

  -- the actor that counts more stops, by its own number of asks
  counts-of : (x w : Doing) → IsRaisedDoing k m x w → x ≡ (with_counts k x.0.at_gate w.0, w.1)
  counts-of x w one = λ i. (one.port.is i, one.found i)

  by_load : (s t w : Doing) (load : Option Position) → IsRaisedDoing k m s w → DoesLoad s load t → (v : Doing) × DoesLoad w load v × IsRaisedDoing k m t v
  by_load s t w load at step =
      let low = DoesLoad-lowered s.0.at_gate w.0 at.port.asks w.1 load t.0 t.1 (subst (λ (x : Doing). DoesLoad x load t) (counts-of s w at) step) in
      ((low.0, t.1), low.1, record { port = low.2; found = refl })

  by_lay : (s t w : Doing) (e : Entry) (ended : Ended) → IsRaisedDoing k m s w → DoesLay ring s e ended t → (v : Doing) × DoesLay ring w e ended v × IsRaisedDoing k m t v
  by_lay s t w e ended at step =
      let low = DoesLay-lowered s.0.at_gate w.0 at.port.asks w.1 e ended t.0 t.1 (subst (λ (x : Doing). DoesLay ring x e ended t) (counts-of s w at) step) in
      ((low.0, t.1), low.1, record { port = low.2; found = refl })

  by_get : (s t w : Doing) (frame : ℕ) (got : Got) → IsRaisedDoing k m s w → DoesGet ring s frame got t → (v : Doing) × DoesGet ring w frame got v × IsRaisedDoing k m t v
  by_get s t w frame got at step =
      let low = DoesGet-lowered s.0.at_gate w.0 at.port.asks w.1 frame got t.0 t.1 (subst (λ (x : Doing). DoesGet ring x frame got t) (counts-of s w at) step) in
      ((low.0, t.1), low.1, record { port = low.2; found = refl })

module _ {S : Type 0} (kind : Kind S) (ring : Geometry) (blind : IsBlind kind) (k m : ℕ) where
  pub LineDone-lowered : (n : ℕ) (a : AtPort) → a.at_gate ≡ n + m → (s : S) (found : Findings) (asked : Op) (b : AtPort) (t : S) (after : Findings) (answer : Answer)
      → LineDone kind ring ((with_counts k n a, s), found) asked ((b, t), after) answer
      → (c : AtPort) × IsRaised k m b c × LineDone kind ring ((a, s), found) asked ((c, t), after) answer
  LineDone-lowered n a more s found asked b t after answer done =
      let began = kind.begins s asked (with_counts k n a) in
      let begun = kind.begins s asked a in
      let same : kind.course began s asked ≡ kind.course begun s asked =
      ap (λ (x : AtPort). kind.course x s asked) (blind.begins k n a s asked) ∙ blind.course k n begun s asked in
      let taken = subst (λ (c : Course (S × Answer)). Takes DoesLoad (DoesLay ring) (DoesGet ring) (began, found) c (b, after) (t, answer)) same done in
      let start : IsRaised k m began begun =
      raised-by k m began (with_counts k n begun) begun (blind.begins k n a s asked) (raised-same k m n begun (blind.same_asks a s asked ∙ more)) in
      let low = Takes-follow DoesLoad (DoesLay ring) (DoesGet ring) DoesLoad (DoesLay ring) (DoesGet ring) (IsRaisedDoing k m)
      (λ x y w. by_load ring k m x y w) (λ x y w. by_lay ring k m x y w) (λ x y w. by_get ring k m x y w)
      (began, found) (b, after) (begun, found) (kind.course begun s asked) (t, answer)
      (record { port = start; found = refl }) taken in (
        low.0.0,
        low.2.port,
        subst (λ (x : Findings). Takes DoesLoad (DoesLay ring) (DoesGet ring) (begun, found) (kind.course begun s asked) (low.0.0, x) (t, answer)) (sym low.2.found) low.1,
      )

  -- lines that were done by an actor that its gate had stopped k times more, and that had asked it m times less, are a part of the other one
  pub ActorPart-lowered : (ops : List Op) (n : ℕ) (a : AtPort) → a.at_gate ≡ n + m → (s : S) (found : Findings) (b : AtPort) (t : S) (after : Findings) (rows : List Row)
      → ActorPart kind ring ((with_counts k n a, s), found) ops ((b, t), after) rows
      → (c : AtPort) × IsRaised k m b c × ActorPart kind ring ((a, s), found) ops ((c, t), after) rows
  ActorPart-lowered [] n a more s found b t after rows (is, none) = (
    a,
    raised-by k m b (with_counts k n a) a (ap (λ (x : (AtPort × S) × Findings). x.0.0) is) (raised-same k m n a more),
    (ap (λ (x : (AtPort × S) × Findings). ((a, x.0.1), x.1)) is, none),
  )
  ActorPart-lowered (asked ∷ ops) n a more s found b t after rows (between, answer, others, line, rest, rows_are) =
      let low = LineDone-lowered n a more s found asked between.0.0 between.0.1 between.1 answer line in
      let last = ActorPart-lowered ops between.0.0.at_gate low.0 low.1.asks between.0.1 between.1 b t after others
      (subst (λ (x : AtPort). ActorPart kind ring ((x, between.0.1), between.1) ops ((b, t), after) others) low.1.is rest) in
      (last.0, last.1, (((low.0, between.0.1), between.1), answer, others, low.2, last.2, rows_are))

-- what a `die` leaves doesn't depend on it
pub dies_if-raised : (k n : ℕ) (stopped : Bool) (asked : Op) (a : AtPort) → dies_if stopped asked (with_counts k n a) ≡ with_counts k n (dies_if stopped asked a)
dies_if-raised k n false (op.Die j) a = refl
dies_if-raised k n stopped asked a = refl

pub dies_if-asks : (stopped : Bool) (asked : Op) (a : AtPort) → (dies_if stopped asked a).at_gate ≡ a.at_gate
dies_if-asks false (op.Die j) a = refl
dies_if-asks stopped asked a = refl
