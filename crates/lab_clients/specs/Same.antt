-- Clients that are as they were, but for their room, are those of the same stage.
use Rattle.std.specs.Prelude.{◌≡◌, ℕ, ◌+◌, List, [], ◌∷◌, length}
use Rattle.std.proofs.Common.{sym, ◌∙◌, subst, arith}
use Rattle.sum_table.specs.declared.view.Key.{Key}
use Rattle.sum_table.specs.Seats.{TableId}
use Rattle.lobby.specs.Lobbies.{free_seats}
use Rattle.lab_run.specs.Client.{Client}
use Rattle.lab_run.specs.Items.{Held}
use Rattle.lab_run.specs.Rules.{AtPort}
use Rattle.lab_run.specs.Stage.{Session}
use Rattle.lab_places.specs.declared.places.Places.{Places}
use Rattle.lab_places.specs.Held.{key_of_places, lobby_of, ring_of_places}
use Rattle.lab_places.specs.Holdings.{Holdings}
use Rattle.lab_places.specs.Laid.{laid_lists}
use Rattle.lab_actors.specs.Walks.{AreEach, AreEach-length}
use Rattle.lab_clients.specs.declared.client.LabClient.{LabClient}
use Rattle.lab_clients.specs.declared.clients.LabClients.{LabClients}
use Rattle.lab_clients.specs.AtStage.{AreAt, IsClientAt, clients_of, places_of}
use Rattle.lab_clients.specs.Kept.{IsClientIn-same, IsReported-same}
use Rattle.lab_clients.specs.Steps.{IsSameWithRows}

module _ (session : Session) (ring : TableId) (key : Key) (holdings : Holdings) where
  AreEach-same_rows : (number : ℕ) (ds es : List LabClient) (xs : List (AtPort × Client)) → AreEach IsSameWithRows number ds es
      → AreEach (IsClientAt session ring key holdings) number ds xs → AreEach (IsClientAt session ring key holdings) number es xs
  AreEach-same_rows number [] [] [] same are = tt
  AreEach-same_rows number (d ∷ ds) (e ∷ es) (x ∷ xs) same are = (
    record { is = IsClientIn-same session ring key holdings number d e x same.0.same are.0.is; goes = are.0.goes; rows = same.0.rows ∙ are.0.rows },
    AreEach-same_rows (number + 1) ds es xs same.1 are.1,
  )
  AreEach-same_rows number [] (e ∷ es) xs same are = absurd same
  AreEach-same_rows number (d ∷ ds) [] xs same are = absurd same
  AreEach-same_rows number [] [] (x ∷ xs) same are = absurd are
  AreEach-same_rows number (d ∷ ds) (e ∷ es) [] same are = absurd are

-- the same clients at the same places
abbrev pub with_places : LabClients → Places → LabClients
with_places cs p = record cs { places = p }

pub AreAt-same : (session : Session) (held : Held) (xs : List (AtPort × Client)) (cs ds : LabClients) → AreEach IsSameWithRows 0 (clients_of cs) (clients_of ds)
    → places_of ds ≡ places_of cs → AreAt session held xs cs → AreAt session held xs ds
AreAt-same session held xs cs ds same places are =
    let len : length (clients_of ds) ≡ length (clients_of cs) = AreEach-length IsSameWithRows 0 (clients_of cs) (clients_of ds) same in
    let at_same : AreAt session held xs (with_places ds (places_of cs)) = record {
      card = are.card;
      holdings = are.holdings;
      held_by = are.held_by;
      are_held = are.are_held;
      no_others = λ n past. are.no_others n (omega (arith, len, past));
      each = AreEach-same_rows session (ring_of_places (places_of cs)) (key_of_places (places_of cs)) are.holdings 0 (clients_of cs) (clients_of ds) xs same are.each;
      reported = IsReported-same IsSameWithRows (λ n d e kept. kept.same) session (laid_lists (free_seats (lobby_of (places_of cs)))) (clients_of cs) (clients_of ds) xs same are.reported;
    } in
    subst (λ (p : Places). AreAt session held xs (with_places ds p)) (sym places) at_same
