-- The clients that their gates stopped in a phase are closed after it, one after the other, as a run reaps them.
use Rattle.std.specs.Prelude.{◌≡◌, ℕ, zero, suc, ◌+◌, ◌<◌, ◌≤◌, Bool, true, false, List, [], ◌∷◌, length, map, slice_index_or, slice_set}
use Rattle.std.proofs.Common.{refl, sym, ◌∙◌, ap, arith, add-one}
use Rattle.snd_base.specs.declared.geometry.Geometry.{Geometry}
use Rattle.sum_table.specs.declared.view.Key.{Key}
use Rattle.sum_table.specs.Seats.{TableId}
use Rattle.lab_run.specs.Client.{Client}
use Rattle.lab_run.specs.Items.{Held, held_after, is_stopped, reaped_client, reaped_client_if, reaped_one}
use Rattle.lab_run.specs.Rules.{AtPort}
use Rattle.lab_run.specs.Stage.{Session, no_client}
use Rattle.lab_places.specs.Held.{key_of_places, ring_of_places}
use Rattle.lab_places.specs.Holdings.{Holdings}
use Rattle.lab_actors.specs.Walks.{AreEach}
use Rattle.lab_clients.specs.declared.client.LabClient.{LabClient}
use Rattle.lab_clients.specs.declared.clients.LabClients.{LabClients}
use Rattle.lab_clients.specs.AtStage.{AreAt, AreDone, IsClientAt, IsClientDone, clients_of, places_of}
use Rattle.lab_clients.specs.Exchanged.{IsClientIn-holding, IsInRun, KeepsHolding}
use Rattle.lab_clients.specs.Opening.{client_among}

-- the clients of the lab are those of some run, after the lines of a phase
pub record AreDoneInRun (cs : LabClients) : Type 0 where
  pub session : Session
  pub held : Held
  pub xs : List (AtPort × Client)
  pub are : AreDone session held xs cs

-- what is held, and the clients of a run, after one of a number was reaped, if it was stopped
abbrev pub held_reaped : Session → Held → List (AtPort × Client) → ℕ → Held
held_reaped session held xs number =
    reaped_one session number (client_among session xs number)
    (is_stopped (client_among session xs number).1.own) held

abbrev pub clients_reaped : Session → List (AtPort × Client) → ℕ → List (AtPort × Client)
clients_reaped session xs number =
    slice_set xs number (reaped_client session.ring (client_among session xs number))

-- after those before one of a number were
abbrev pub reaped_to : Geometry → ℕ → List (AtPort × Client) → List (AtPort × Client)
reaped_to ring zero xs = xs
reaped_to ring (suc to) [] = []
reaped_to ring (suc to) (x ∷ xs) = reaped_client ring x ∷ reaped_to ring to xs

abbrev pub held_to : Session → ℕ → ℕ → List (AtPort × Client) → Held → Held
held_to session number zero xs held = held
held_to session number (suc to) [] held = held
held_to session number (suc to) (x ∷ xs) held =
    held_to session (number + 1) to xs (reaped_one session number x (is_stopped x.1.own) held)

-- ---- from one number to the next

-- the client of the number is as it was
pub reaped_to-at : (ring : Geometry) (to : ℕ) (xs : List (AtPort × Client)) (d : AtPort × Client) → slice_index_or (reaped_to ring to xs) to d ≡ slice_index_or xs to d
reaped_to-at ring zero xs d = refl
reaped_to-at ring (suc to) [] d = refl
reaped_to-at ring (suc to) (x ∷ xs) d = reaped_to-at ring to xs d

reaped_to-suc : (ring : Geometry) (to : ℕ) (xs : List (AtPort × Client)) (d : AtPort × Client) → to < length xs
    → reaped_to ring (suc to) xs ≡ slice_set (reaped_to ring to xs) to (reaped_client ring (slice_index_or xs to d))
reaped_to-suc ring to [] d inside = absurd (omega (arith, inside))
reaped_to-suc ring zero (x ∷ xs) d inside = refl
reaped_to-suc ring (suc to) (x ∷ xs) d inside =
    ap (λ (others : List (AtPort × Client)). reaped_client ring x ∷ others) (reaped_to-suc ring to xs d (omega (arith, inside)))

held_to-suc : (session : Session) (number to : ℕ) (xs : List (AtPort × Client)) (held : Held) (d : AtPort × Client) → to < length xs
    → held_to session number (suc to) xs held
    ≡ reaped_one session (number + to) (slice_index_or xs to d) (is_stopped (slice_index_or xs to d).1.own) (held_to session number to xs held)
held_to-suc session number to [] held d inside = absurd (omega (arith, inside))
held_to-suc session number zero (x ∷ xs) held d inside =
    ap (λ (n : ℕ). reaped_one session n x (is_stopped x.1.own) held) (omega arith)
held_to-suc session number (suc to) (x ∷ xs) held d inside =
    let before : Held = held_to session (number + 1) to xs (reaped_one session number x (is_stopped x.1.own) held) in
    held_to-suc session (number + 1) to xs (reaped_one session number x (is_stopped x.1.own) held) d (omega (arith, inside))
    ∙ ap (λ (n : ℕ). reaped_one session n (slice_index_or xs to d) (is_stopped (slice_index_or xs to d).1.own) before) (omega arith)

module _ (session : Session) (to : ℕ) (xs : List (AtPort × Client)) (inside : to < length xs) where
  -- the clients of a run after the next one
  pub reaped_to-next : clients_reaped session (reaped_to session.ring to xs) to ≡ reaped_to session.ring (to + 1) xs
  reaped_to-next =
      ap (λ (x : AtPort × Client). slice_set (reaped_to session.ring to xs) to (reaped_client session.ring x)) (reaped_to-at session.ring to xs (no_client session.ring))
      ∙ (sym (reaped_to-suc session.ring to xs (no_client session.ring) inside) ∙ ap (λ (n : ℕ). reaped_to session.ring n xs) (sym (add-one to)))

  pub held_to-next : (held : Held) → held_reaped session (held_to session 0 to xs held) (reaped_to session.ring to xs) to ≡ held_to session 0 (to + 1) xs held
  held_to-next held =
      ap (λ (x : AtPort × Client). reaped_one session to x (is_stopped x.1.own) (held_to session 0 to xs held)) (reaped_to-at session.ring to xs (no_client session.ring))
      ∙ (ap (λ (n : ℕ). reaped_one session n (client_among session xs to) (is_stopped (client_among session xs to).1.own) (held_to session 0 to xs held)) (omega arith)
      ∙ (sym (held_to-suc session 0 to xs held (no_client session.ring) inside) ∙ ap (λ (n : ℕ). held_to session 0 n xs held) (sym (add-one to))))

-- ---- to the end

pub reaped_to-all : (ring : Geometry) (to : ℕ) (xs : List (AtPort × Client)) → length xs ≤ to → reaped_to ring to xs ≡ map (reaped_client ring) xs
reaped_to-all ring zero [] all = refl
reaped_to-all ring (suc to) [] all = refl
reaped_to-all ring zero (x ∷ xs) all = absurd (omega (arith, all))
reaped_to-all ring (suc to) (x ∷ xs) all = ap (λ (others : List (AtPort × Client)). reaped_client ring x ∷ others) (reaped_to-all ring to xs (omega (arith, all)))

pub held_to-all : (session : Session) (number to : ℕ) (xs : List (AtPort × Client)) (held : Held) → length xs ≤ to → held_to session number to xs held ≡ held_after session number xs held
held_to-all session number zero [] held all = refl
held_to-all session number (suc to) [] held all = refl
held_to-all session number zero (x ∷ xs) held all = absurd (omega (arith, all))
held_to-all session number (suc to) (x ∷ xs) held all =
    held_to-all session (number + 1) to xs (reaped_one session number x (is_stopped x.1.own) held) (omega (arith, all))

-- a client that was reaped, if it was stopped, isn't stopped
is_stopped-reaped_client : (ring : Geometry) (x : AtPort × Client) → is_stopped (reaped_client ring x).1.own ≡ false
is_stopped-reaped_client ring x = by_test (is_stopped x.1.own) refl
  where
    by_test : (stopped : Bool) → is_stopped x.1.own ≡ stopped → is_stopped (reaped_client_if stopped ring x).1.own ≡ false
    by_test true is = refl
    by_test false is = is

module _ (session : Session) (ring : TableId) (key : Key) (holdings : Holdings) where
  AreEach-reaped : (number : ℕ) (ds : List LabClient) (xs : List (AtPort × Client)) → AreEach (IsClientDone session ring key holdings) number ds (map (reaped_client session.ring) xs)
      → AreEach (IsClientAt session ring key holdings) number ds (map (reaped_client session.ring) xs)
  AreEach-reaped number [] [] are = tt
  AreEach-reaped number (d ∷ ds) (x ∷ xs) are = (
    record { is = are.0.is; goes = is_stopped-reaped_client session.ring x; rows = are.0.rows },
    AreEach-reaped (number + 1) ds xs are.1,
  )
  AreEach-reaped number [] (x ∷ xs) are = absurd are
  AreEach-reaped number (d ∷ ds) [] are = absurd are

-- so then the clients of the lab are those of a run between two phases
pub AreAt-reaped : (session : Session) (held : Held) (xs : List (AtPort × Client)) (cs : LabClients) → AreDone session held (map (reaped_client session.ring) xs) cs
    → AreAt session held (map (reaped_client session.ring) xs) cs
AreAt-reaped session held xs cs done = record {
  card = done.card;
  holdings = done.holdings;
  held_by = done.held_by;
  are_held = done.are_held;
  no_others = done.no_others;
  each = AreEach-reaped session (ring_of_places (places_of cs)) (key_of_places (places_of cs)) done.holdings 0 (clients_of cs) xs done.each;
  reported = done.reported;
}

-- a client after the lines of a phase is what it was where it holds what it held
pub IsClientDone-holding : KeepsHolding IsClientDone
IsClientDone-holding session ring key holdings after n d x same done =
    record { is = IsClientIn-holding session ring key holdings after n d x same done.is; rows = done.rows }

pub IsClientDone-in_run : IsInRun IsClientDone
IsClientDone-in_run session ring key holdings n d x done = done.is
