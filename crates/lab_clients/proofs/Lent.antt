-- A lab's clients are lent to a step as a slice: what the step left of the slice is what the lab has then.
use Rattle.lab_clients.specs.Prelude.{arith, drop, length, List, subst, sym, take, ℕ, ◌++◌, ◌∙◌, ◌≡◌, take-append-le, take_all, AreEach, LabClient}

pub AreEach-lent : (R : ℕ → LabClient → LabClient → Type 0) (clients lent after : List LabClient) (count : ℕ) → lent ≡ clients → length after ≡ count → AreEach R 0 lent after
    → AreEach R 0 clients (take count (after ++ drop (length after) clients))
AreEach-lent R clients lent after count same len each =
    let back : take count (after ++ drop (length after) clients) ≡ after =
    take-append-le count after (drop (length after) clients) (omega (arith, len)) ∙ take_all count after (omega (arith, len)) in
    subst (λ (ds : List LabClient). AreEach R 0 ds (take count (after ++ drop (length after) clients))) same (subst (AreEach R 0 lent) (sym back) each)
