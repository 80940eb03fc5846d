-- Each request of a script is of an actor that it declares.
use Rattle.lab_report.specs.Prelude.{add-one, append_assoc, length, List, map, refl, suc, zero, ℕ, [], ◌++◌, ◌+◌, ◌∷◌, ◌≡◌, map-append, All-append, All-cons}
use Rattle.lab_report.specs.Prelude.{All-filter, All-map, All-nil, recursion_from_All, All, AllByRecursion, Line, Request, Script, IsActor, IsItem, IsScript}
use Rattle.lab_report.specs.Prelude.{phases_of, before_place, in_order, item_requests, of_place, request_of, requests_from, requests_of}
use Rattle.lab_lines.specs.declared.line.Item.{Item}
use Rattle.lab_script.proofs.States.{border-actor}
use Rattle.lab_lines.specs.declared.line.Item.TheVariants as item

-- a request is of one of so many clients and readers, or of the card
abbrev pub IsAsked : ℕ → ℕ → Request → Type 0
IsAsked m n request = IsActor m n request.actor

before_place-all : (P : Line → Type 0) (lines : List Line) (place : ℕ) → All P lines → All P (before_place lines place)
unfolding before_place
before_place-all P lines zero h = All-nil P
before_place-all P lines (suc place) h = All-append P (before_place lines place) (of_place lines place) (before_place-all P lines place h) (All-filter _ P lines h)

item_requests-asked : (m n phases : ℕ) (i : Item) → IsItem m n i → All (IsAsked m n) (item_requests phases i)
item_requests-asked m n phases (item.Opens number actor) h = All-cons (IsAsked m n) _ [] (border-actor m n actor h) (All-nil (IsAsked m n))
item_requests-asked m n phases (item.Closes number actor) h = All-cons (IsAsked m n) _ [] (border-actor m n actor h) (All-nil (IsAsked m n))
item_requests-asked m n phases (item.Phase lines) h =
    All-map (IsAsked m n) (request_of (phases + 1)) (in_order lines) (before_place-all (λ (line : Line). IsActor m n line.actor) lines 129 (λ k d l. (h.each k d l).actor))

requests_from-asked : (m n phases : ℕ) (items : List Item) → AllByRecursion (IsItem m n) items → All (IsAsked m n) (requests_from phases items)
requests_from-asked m n phases [] h = All-nil (IsAsked m n)
requests_from-asked m n phases (i ∷ items) h =
    All-append (IsAsked m n) (item_requests phases i) (requests_from (phases + length (phases_of (i ∷ []))) items) (item_requests-asked m n phases i h.0)
    (requests_from-asked m n (phases + length (phases_of (i ∷ []))) items h.1)

-- each request of a script is of an actor that it declares
pub requests_of-asked : (script : Script) → IsScript script → All (IsAsked (length script.clients) (length script.readers)) (requests_of script)
requests_of-asked script h =
    requests_from-asked (length script.clients) (length script.readers) 0 script.body
    (recursion_from_All (IsItem (length script.clients) (length script.readers)) script.body h.body)

pub before_place-zero : (lines : List Line) → before_place lines 0 ≡ []
unfolding before_place
before_place-zero lines = refl

before_place-more : (lines : List Line) (place : ℕ) → before_place lines (place + 1) ≡ before_place lines place ++ of_place lines place
unfolding before_place
before_place-more lines place = rw add-one refl

-- the requests of one place more
pub requests-more : (phase place : ℕ) (lines : List Line) (a r s : List Request)
    → r ≡ a ++ map (request_of phase) (before_place lines place) → s ≡ r ++ map (request_of phase) (of_place lines place)
    → s ≡ a ++ map (request_of phase) (before_place lines (place + 1))
requests-more phase place lines a r s e f =
    rw (f, e, before_place-more lines place, map-append (request_of phase) (before_place lines place) (of_place lines place))
    (append_assoc a (map (request_of phase) (before_place lines place)) (map (request_of phase) (of_place lines place)))
