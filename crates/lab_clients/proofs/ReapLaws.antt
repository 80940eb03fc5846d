-- A client that is reaped is one that a run reaps.
use Rattle.lab_clients.specs.Prelude.{ap, arith, IsSome, length, List, map, sym, ℕ, ◌+◌, ◌∙◌, ◌≡◌, ◌≤◌, nat_tests, set-get_or, Bool, false, slice_index_or}
use Rattle.lab_clients.specs.Prelude.{true, ◌<◌, Client, Held, held_after, is_stopped, reaped_client, AtPort, no_client, Session, key_of_places, ring_of_places}
use Rattle.lab_clients.specs.Prelude.{AreEach-length, LabClient, LabClients, AreAt, AreDone, clients_of, IsClientDone, places_of, client_in, open_of}
use Rattle.lab_clients.specs.Prelude.{client_among, clients_but, held_but, AreAt-reaped, clients_reaped, held_reaped, held_to, held_to-all, held_to-next}
use Rattle.lab_clients.specs.Prelude.{IsClientDone-in_run, reaped_to, reaped_to-all, reaped_to-next}
use Rattle.lab_clients.proofs.OpeningLaws.{own-number}

-- a client whose gate stopped it is open
pub IsSome-stopped : (d : LabClient) → is_stopped (client_in d).own ≡ true → IsSome (open_of d)
IsSome-stopped d stopped = grind (arith, nat_tests)

module _ (session : Session) (held : Held) (xs : List (AtPort × Client)) (cs : LabClients) (number : ℕ) (d : LabClient) (done : AreDone session held xs cs)
    (inside : number < length (clients_of cs)) (is : d ≡ slice_index_or (clients_of cs) number d) where
  stopped-number : (stopped : Bool) → is_stopped (client_in d).own ≡ stopped → is_stopped (client_among session xs number).1.own ≡ stopped
  stopped-number stopped is_so = ap is_stopped (own-number IsClientDone session held xs cs number d done inside is IsClientDone-in_run) ∙ is_so

  -- one that wasn't stopped stays, and one that was is closed
  pub AreDone-going : is_stopped (client_in d).own ≡ false → AreDone session (held_reaped session held xs number) (clients_reaped session xs number) cs
  AreDone-going goes = rw (stopped-number false goes, set-get_or xs number (no_client session.ring)) done

  pub AreDone-stopped : (ds : LabClients) → is_stopped (client_in d).own ≡ true → AreDone session (held_but session held xs number) (clients_but session xs number) ds
      → AreDone session (held_reaped session held xs number) (clients_reaped session xs number) ds
  AreDone-stopped ds stopped closed = rw (stopped-number true stopped) closed

-- ---- one after the other

pub length-done : (session : Session) (held : Held) (xs : List (AtPort × Client)) (cs : LabClients) → AreDone session held xs cs → length xs ≡ length (clients_of cs)
length-done session held xs cs done =
    AreEach-length (IsClientDone session (ring_of_places (places_of cs)) (key_of_places (places_of cs)) done.holdings) 0 (clients_of cs) xs done.each

-- the clients up to a number are reaped, and then the next one
pub AreDone-next : (session : Session) (held : Held) (xs : List (AtPort × Client)) (cs : LabClients) (number : ℕ) → number < length xs
    → AreDone session (held_reaped session (held_to session 0 number xs held) (reaped_to session.ring number xs) number) (clients_reaped session (reaped_to session.ring number xs) number) cs
    → AreDone session (held_to session 0 (number + 1) xs held) (reaped_to session.ring (number + 1) xs) cs
AreDone-next session held xs cs number inside done =
    rw (sym (held_to-next session number xs inside held), sym (reaped_to-next session number xs inside)) done

-- all of them are
pub AreAt-end : (session : Session) (held : Held) (xs : List (AtPort × Client)) (cs : LabClients) (number : ℕ) → length xs ≤ number
    → AreDone session (held_to session 0 number xs held) (reaped_to session.ring number xs) cs
    → AreAt session (held_after session 0 xs held) (map (reaped_client session.ring) xs) cs
AreAt-end session held xs cs number all done =
    AreAt-reaped session (held_after session 0 xs held) xs cs (rw (held_to-all session 0 number xs held all, reaped_to-all session.ring number xs all) at done)
