-- The sounds of clients, read one after the other.
use Rattle.lab_input.specs.Prelude.{add-one, ap, append-nil, append_assoc, drop, drop-cons, get_or, length, List, refl, suc, sym, ℕ, [], ◌++◌, ◌+◌, ◌<◌, ◌∙◌}
use Rattle.lab_input.specs.Prelude.{◌∷◌, ◌≡◌, ◌≤◌, drop_all, length-append, ForSome, Err, Ok, Option, Result, Some, Sound, Files, ClientLine, Cause, ◌>>=◌}
use Rattle.lab_input.specs.Prelude.{IsSameShelf, IsSameShelf-then, Shape, most_of_run, sound_in, sounds_in, shape_for}
use Rattle.lab_lines.specs.declared.script.CardLine.{CardLine}
use Rattle.lab_shelf.specs.declared.traits.Shelf as shelves

-- sounds that were read before others
abbrev pub with_front : List Sound → Result (List Sound) Cause → Result (List Sound) Cause
with_front front (Ok rest) = Ok (front ++ rest)
with_front front (Err e) = Err e

-- what a loop over the clients keeps
pub record Loading {S : Type 0} (H : shelves.Ghosts S) (old now : S) (card : CardLine) (clients : List ClientLine) (index : ℕ)
    (sounds : List Sound) (start total : ℕ) : Type 0 where
  pub so_far : ForSome (H.files old) (λ m. with_front sounds (sounds_in m total card (drop index clients)) ≡ sounds_in m start card clients)
  pub few : total ≤ most_of_run
  pub number : length sounds ≡ index
  pub same : IsSameShelf H old now

-- nothing before
pub with_front-nil : (r : Result (List Sound) Cause) → with_front [] r ≡ r
with_front-nil (Ok rest) = refl
with_front-nil (Err e) = refl

-- one more before
with_front-cons : (front : List Sound) (sound : Sound) (r : Result (List Sound) Cause)
    → with_front front (r >>= λ rest. Ok (sound ∷ rest)) ≡ with_front (front ++ sound ∷ []) r
with_front-cons front sound (Ok rest) = ap Ok (sym (append_assoc front (sound ∷ []) rest))
with_front-cons front sound (Err e) = refl

-- the sound of the first client is read
pub sounds_in-read : (files : Files) (total : ℕ) (card : CardLine) (client : ClientLine) (rest : List ClientLine) (front : List Sound) (read : Sound × ℕ)
    → sound_in files total (shape_for card client) client.file ≡ Ok read
    → with_front front (sounds_in files total card (client ∷ rest)) ≡ with_front (front ++ read.0 ∷ []) (sounds_in files read.1 card rest)
unfolding sounds_in
sounds_in-read files total card client rest front read is =
    ap (λ r. with_front front (r >>= λ s. sounds_in files s.1 card rest >>= λ ss. Ok (s.0 ∷ ss))) is
    ∙ with_front-cons front read.0 (sounds_in files read.1 card rest)

-- the file of the first client is refused
pub sounds_in-refused : (files : Files) (total : ℕ) (card : CardLine) (client : ClientLine) (rest : List ClientLine) (front : List Sound) (e : Cause)
    → sound_in files total (shape_for card client) client.file ≡ Err e → with_front front (sounds_in files total card (client ∷ rest)) ≡ Err e
unfolding sounds_in
sounds_in-refused files total card client rest front e is =
    ap (λ r. with_front front (r >>= λ s. sounds_in files s.1 card rest >>= λ ss. Ok (s.0 ∷ ss))) is

-- all sounds are read
pub sounds_in-all : (files : Files) (total : ℕ) (card : CardLine) (front : List Sound)
    → with_front front (sounds_in files total card []) ≡ Ok (front ++ [])
unfolding sounds_in
sounds_in-all files total card front = refl

-- the clients that are left, at an index
left_at : (clients : List ClientLine) (index : ℕ) (client : ClientLine) → index < length clients → client ≡ get_or clients index client
    → drop index clients ≡ client ∷ drop (suc index) clients
left_at clients index client within is =
    drop-cons clients index client within ∙ ap (λ c. c ∷ drop (suc index) clients) (sym is)

-- what the next client's file is refused for, the clients' files are
pub Loading-passed : {S : Type 0} (H : shelves.Ghosts S) (old now : S) (card : CardLine) (clients : List ClientLine) (index : ℕ)
    (sounds : List Sound) (start total : ℕ) (client : ClientLine) (shape : Option Shape) (name : List ℕ) (m : Files)
    → Loading H old now card clients index sounds start total
    → index < length clients → client ≡ get_or clients index client → shape ≡ shape_for card client → name ≡ client.file → H.files old ≡ Some m
    → (e : Cause) → sound_in m total shape name ≡ Err e → sounds_in m start card clients ≡ Err e
Loading-passed H old now card clients index sounds start total client shape name m so_far within is shaped named told e refused =
    sym (so_far.so_far m told)
    ∙ ap (λ cs. with_front sounds (sounds_in m total card cs)) (left_at clients index client within is)
    ∙ sounds_in-refused m total card client (drop (suc index) clients) sounds e (ap (λ (o : Option Shape). sound_in m total o client.file) (sym shaped) ∙ ap (λ n. sound_in m total shape n) (sym named) ∙ refused)

-- the sound of the next client is read
pub Loading-next : {S : Type 0} (H : shelves.Ghosts S) (old now then_ : S) (card : CardLine) (clients : List ClientLine) (index : ℕ)
    (sounds longer : List Sound) (start total : ℕ) (client : ClientLine) (shape : Option Shape) (name : List ℕ) (read : Sound × ℕ)
    → Loading H old now card clients index sounds start total
    → index < length clients → client ≡ get_or clients index client → shape ≡ shape_for card client → name ≡ client.file
    → ForSome (H.files now) (λ m. sound_in m total shape name ≡ Ok read)
    → read.1 ≤ most_of_run → longer ≡ sounds ++ read.0 ∷ [] → IsSameShelf H now then_
    → Loading H old then_ card clients (index + 1) longer start read.1
Loading-next H old now then_ card clients index sounds longer start total client shape name read so_far within is shaped named sounds_so few longer_is same = record {
  so_far = λ m told.
      ap (λ l. with_front l (sounds_in m read.1 card (drop (index + 1) clients))) longer_is
      ∙ ap (λ n. with_front (sounds ++ read.0 ∷ []) (sounds_in m read.1 card (drop n clients))) (add-one index)
      ∙ sym (sounds_in-read m total card client (drop (suc index) clients) sounds read (ap (λ (o : Option Shape). sound_in m total o client.file) (sym shaped) ∙ ap (λ n. sound_in m total shape n) (sym named) ∙ sounds_so m (so_far.same.files ∙ told)))
      ∙ ap (λ cs. with_front sounds (sounds_in m total card cs)) (sym (left_at clients index client within is))
      ∙ so_far.so_far m told;
  few = few;
  number = ap length longer_is ∙ length-append sounds (read.0 ∷ []) ∙ ap (λ n. n + 1) so_far.number;
  same = IsSameShelf-then H old now then_ so_far.same same;
}

-- all sounds are read
pub Loading-all : {S : Type 0} (H : shelves.Ghosts S) (old now : S) (card : CardLine) (clients : List ClientLine) (index : ℕ)
    (sounds : List Sound) (start total : ℕ) → Loading H old now card clients index sounds start total → length clients ≤ index
    → ForSome (H.files old) (λ m. sounds_in m start card clients ≡ Ok sounds)
Loading-all H old now card clients index sounds start total so_far all m told =
    sym (so_far.so_far m told)
    ∙ ap (λ cs. with_front sounds (sounds_in m total card cs)) (drop_all index clients all)
    ∙ sounds_in-all m total card sounds
    ∙ ap Ok (append-nil sounds)
