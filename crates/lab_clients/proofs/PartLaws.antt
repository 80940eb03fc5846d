-- A client's lines, one after the other.
use Rattle.lab_clients.specs.Prelude.{ap, append_assoc, arith, List, refl, subst, sym, ℕ, [], ◌++◌, ◌+◌, ◌∙◌, ◌∷◌, ◌≡◌, nat_tests, append-nil, Option, Some}
use Rattle.lab_clients.specs.Prelude.{Geometry, Segment, Composes, ClientView, Sound, Op, Row, Doing, PartsGrow, Client, client_kind, row_by, IsClientLine}
use Rattle.lab_clients.specs.Prelude.{with_member, IsAtPort, ExtendsStretches, client_of, ClientLine, ClientPart, HasClientDone}
use Rattle.lab_clients.specs.declared.lines.ClientActor.{ClientActor}
use Rattle.lab_clients.proofs.StretchLaws.{ExtendsStretches-joined, ExtendsStretches-still}
use Rattle.mix_core.specs.declared.port.MixPort as mixport

module _ {S T : Type 0} (P : mixport.Ghosts S) (composes : Composes P.laid) (left : T → Option ℕ) (by_gate at_gate : T → ℕ) where
  pub ClientPart-none : (s : S × T) (phase : ℕ) (wav : Sound) (a : ClientActor) → ClientPart P left by_gate at_gate s s phase wav a a []
  ClientPart-none s phase wav a = record {
    rows = [];
    rows_are = sym (append-nil a.rows.items);
    part = λ first ring from before at. record { doing = before; done = (refl, refl); at = at };
    ended = [];
    ended_are = sym (append-nil a.ended.items);
    extends = ExtendsStretches-still P composes s.0 a.client.stream a.client.stream wav.samples [] refl refl refl;
    same = refl;
  }

  pub ClientPart-more : ((ring : Geometry) (phase : ℕ) (wav : Sound) (number : ℕ) → PartsGrow (client_kind phase wav number) ring)
      → (s t u : S × T) (phase : ℕ) (wav : Sound) (a x b : ClientActor) (ops : List Op) (asked : Op)
      → ClientPart P left by_gate at_gate s t phase wav a x ops → ClientLine P left by_gate at_gate t u phase wav x b asked → ClientPart P left by_gate at_gate s u phase wav a b (ops ++ asked ∷ [])
  ClientPart-more grow s t u phase wav a x b ops asked one line =
      let row : Row = row_by phase a.number asked (Some b.client.stream) line.answer in
      record {
        rows = one.rows ++ row ∷ [];
        rows_are =
            line.rows_are
            ∙ ap (λ (n : ℕ). x.rows.items ++ row_by phase n asked (Some b.client.stream) line.answer ∷ []) one.same
            ∙ ap (λ (rows : List Row). rows ++ row ∷ []) one.rows_are
            ∙ append_assoc a.rows.items one.rows (row ∷ []);
        part = λ first ring from before at.
            let p = one.part first ring from before at in
            let l = subst (λ (n : ℕ). IsClientLine P left by_gate at_gate first ring from u phase wav n p.doing (client_of x) asked (client_of b) line.answer) one.same
            (line.line first ring from p.doing p.at) in
            record {
              doing = l.doing;
              done = grow ring phase wav a.number ((before.0, client_of a), before.1) ((p.doing.0, client_of x), p.doing.1) ((l.doing.0, client_of b), l.doing.1)
                  ops one.rows asked line.answer p.done l.done;
              at = l.at;
            };
        ended = one.ended ++ line.ended;
        ended_are = line.ended_are ∙ ap (λ (segments : List Segment). segments ++ line.ended) one.ended_are ∙ append_assoc a.ended.items one.ended line.ended;
        extends = ExtendsStretches-joined P composes s.0 t.0 u.0 a.client.stream x.client.stream b.client.stream wav.samples one.ended line.ended one.extends line.extends;
        same = line.same ∙ one.same;
      }

-- the same at a gate of which the shares are the same
pub IsAtPort-shared : {S T U : Type 0} (P : mixport.Ghosts S) (left : T → Option ℕ) (by_gate at_gate : T → ℕ) (other_left : U → Option ℕ) (by_other at_other : U → ℕ)
    (first : S) (ring : Geometry) (from : ℕ) (p : S) (g : T) (h : U) (doing : Doing) → left g ≡ other_left h → by_gate g ≡ by_other h → at_gate g ≡ at_other h
    → IsAtPort P left by_gate at_gate first ring from (p, g) doing → IsAtPort P other_left by_other at_other first ring from (p, h) doing
IsAtPort-shared P left by_gate at_gate other_left by_other at_other first ring from p g h doing same_left same_gate same_asks at = grind (arith, nat_tests)

pub ClientPart-shared : {S T U : Type 0} (P : mixport.Ghosts S) (left : T → Option ℕ) (by_gate at_gate : T → ℕ) (other_left : U → Option ℕ) (by_other at_other : U → ℕ)
    (p q : S) (g h : T) (k m : U) (phase : ℕ) (wav : Sound) (a b c : ClientActor) (ops : List Op)
    → left g ≡ other_left k → by_gate g ≡ by_other k → at_gate g ≡ at_other k → left h ≡ other_left m → by_gate h ≡ by_other m → at_gate h ≡ at_other m
    → c.rows.items ≡ b.rows.items → c.ended.items ≡ b.ended.items → c.client ≡ b.client → c.number ≡ b.number
    → ClientPart P left by_gate at_gate (p, g) (q, h) phase wav a b ops → ClientPart P other_left by_other at_other (p, k) (q, m) phase wav a c ops
ClientPart-shared P left by_gate at_gate other_left by_other at_other p q g h k m phase wav a b c ops left_before gate_before asks_before left_after gate_after asks_after rows ended client number part =
    let same : client_of b ≡ client_of c = λ i. record { own = Some (with_member ((sym number) i) ((sym client) i).stream); ended = (sym ended) i } in
    record {
      rows = part.rows;
      rows_are = rows ∙ part.rows_are;
      part = λ first ring from before at.
          let done = part.part first ring from before
          (IsAtPort-shared P other_left by_other at_other left by_gate at_gate first ring from p k g before (sym left_before) (sym gate_before) (sym asks_before) at) in
          subst (λ (own : Client). HasClientDone P other_left by_other at_other first ring from (q, m) phase wav a.number before (client_of a) ops own part.rows) same (record {
            doing = done.doing;
            done = done.done;
            at = IsAtPort-shared P left by_gate at_gate other_left by_other at_other first ring from q h m done.doing left_after gate_after asks_after done.at;
          });
      ended = part.ended;
      ended_are = ended ∙ part.ended_are;
      extends = subst (λ (v : ClientView). ExtendsStretches P wav.samples p q a.client.stream v.stream part.ended) (sym client) part.extends;
      same = number ∙ part.same;
    }
