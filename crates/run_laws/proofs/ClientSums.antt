-- What the segments of a report placed is what each client placed.
use Rattle.run_laws.specs.Prelude.{ap, arith, length, List, Option, refl, subst, sym, ℕ, [], ◌++◌, ◌∙◌, ◌∷◌, ◌≡◌, ints, flat_map, range_with_len, map, pos}
use Rattle.run_laws.specs.Prelude.{◌+ℤ◌, Entry, fold-from, total-append, sum_of_samples, total, Sound, Item, Client, segments_of, entries_by, LabRun, Outcome}
use Rattle.run_laws.specs.Prelude.{report_of, AtPort, Session, placed_entries}
use Rattle.run_laws.specs.Clients.{IsSumOfClients, placed_by}
use Rattle.run_laws.proofs.Numbered.{numbered-parts}
use Rattle.run_laws.proofs.Sizes.{run-size}

-- the total of lists one after the other
totals-sum : (of : ℕ → List Entry) (numbers : List ℕ) (frame channel : ℕ)
    → total (flat_map of numbers) frame channel ≡ sum_of_samples (map (λ n. total (of n) frame channel) numbers)
totals-sum of [] frame channel = refl
totals-sum of (n ∷ numbers) frame channel =
    let both : total (of n ++ flat_map of numbers) frame channel ≡ total (of n) frame channel +ℤ total (flat_map of numbers) frame channel =
    total-append (of n) (flat_map of numbers) frame channel in
    let others : total (flat_map of numbers) frame channel ≡ sum_of_samples (map (λ m. total (of m) frame channel) numbers) = totals-sum of numbers frame channel in
    let sums : sum_of_samples (map (λ m. total (of m) frame channel) (n ∷ numbers))
    ≡ (pos 0 +ℤ total (of n) frame channel) +ℤ sum_of_samples (map (λ m. total (of m) frame channel) numbers)
    = fold-from (pos 0 +ℤ total (of n) frame channel) (map (λ m. total (of m) frame channel) numbers) in
    omega (arith, ints, both, others, sums)

pub LabRun-clients : (session : Session) (capture : Option Sound) (body : List Item) (client_stops reader_stops : ℕ → ℕ) (outcome : Outcome)
    → LabRun session capture body client_stops reader_stops outcome → IsSumOfClients session outcome.report
LabRun-clients session capture body client_stops reader_stops outcome run = subst (λ (o : Outcome). IsSumOfClients session o.report) (sym run.is) of_end
  where
    parts : placed_entries session (report_of session run.end) ≡ flat_map (placed_by session (report_of session run.end)) (range_with_len 0 (length session.clients))
    parts = numbered-parts (λ (client : AtPort × Client). segments_of client.1) (entries_by session) 0 run.end.clients
        ∙ ap (λ n. flat_map (placed_by session (report_of session run.end)) (range_with_len 0 n)) (run-size session body run.end run.may).clients

    of_end : IsSumOfClients session (report_of session run.end)
    of_end = record {
      each = parts;
      sums = λ frame channel.
          ap (λ es. total es frame channel) parts
          ∙ totals-sum (placed_by session (report_of session run.end)) (range_with_len 0 (length session.clients)) frame channel;
    }
