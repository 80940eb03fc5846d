-- A client's channels are bound as its setup says, in each stage of a run and between its lines.
use Rattle.run_laws.specs.Prelude.{List, None, Option, refl, Some, subst, sym, ℕ, ◌≡◌, IfSome, slice_index_or, PlaybackStream, Sound, Op, Answer, Client}
use Rattle.run_laws.specs.Prelude.{client_kind, no_sound, LineMay, AtPort, Rules, Session, Setup}
use Rattle.run_laws.proofs.Going.{in-open, open-map, still-client}
use Rattle.run_laws.proofs.LateParts.{NamedBy, Place, line-late}
use Rattle.run_laws.proofs.Stages.{IsKeptFrom}

-- ---- a line

-- an open client is bound so
abbrev pub HasBindings : List ℕ → Option PlaybackStream → Type 0
HasBindings bindings own = IfSome own (λ c. c.setup.bindings ≡ bindings)

pub line-bound : (rules : Rules) (phase : ℕ) (wav : Sound) (number : ℕ) (bindings : List ℕ) (a b : AtPort) (client after : Client) (asked : Op) (answer : Answer)
    → HasBindings bindings client.own → LineMay (client_kind phase wav number) rules (a, client) asked (b, after) answer → HasBindings bindings after.own
line-bound rules phase wav number bindings a b client after asked answer bound may = by_own client.own refl
  where
    by_own : (own : Option PlaybackStream) → client.own ≡ own → HasBindings bindings after.own
    by_own None none = subst (λ (x : Client). HasBindings bindings x.own) (sym (still-client rules phase wav number a b client after asked answer none may)) bound
    by_own (Some c) is = in-open (λ d. d.setup.bindings ≡ bindings) after.own
        (open-map (λ d. NamedBy (Place bindings asked) bindings (d, answer)) (λ d. d.setup.bindings ≡ bindings) after.own (λ d named. named.0)
        (line-late rules phase wav number bindings a b client after c asked answer is (subst (HasBindings bindings) is bound) may))

-- ---- a run

-- an open client is bound as its setup says
abbrev pub IsBound : Option Setup → Option PlaybackStream → Type 0
IsBound setup own = IfSome setup (λ (s : Setup). HasBindings s.bindings own)

abbrev pub IsClientBound : Option Setup → Client → Type 0
IsClientBound setup client = IsBound setup client.own

closed-bound : (setup : Option Setup) → IsBound setup None
closed-bound None = tt
closed-bound (Some s) = tt

pub lines-bound : (rules : Rules) (phase : ℕ) (wav : Sound) (number : ℕ) (setup : Option Setup) (a b : AtPort) (client after : Client) (asked : Op) (answer : Answer)
    → IsClientBound setup client → LineMay (client_kind phase wav number) rules (a, client) asked (b, after) answer → IsClientBound setup after
lines-bound rules phase wav number None a b client after asked answer bound may = tt
lines-bound rules phase wav number (Some s) a b client after asked answer bound may = line-bound rules phase wav number s.bindings a b client after asked answer bound may

-- the client of a number, by its setup
abbrev pub IsNumberBound : Session → ℕ → Client → Type 0
IsNumberBound session number client = IsClientBound (slice_index_or session.clients number None) client

pub clients-bound : (session : Session) (from : ℕ) → IsKeptFrom session from (IsNumberBound session)
clients-bound session from = record {
  never = λ number. closed-bound (slice_index_or session.clients number None);
  lines = λ rules least phase number a b client after asked answer bound may. lines-bound rules phase (slice_index_or session.sounds number no_sound) number
      (slice_index_or session.clients number None) a b client after asked answer bound may;
  opens = λ number setup there client bound. rw there refl;
  ends = λ number client bound. closed-bound (slice_index_or session.clients number None);
}
