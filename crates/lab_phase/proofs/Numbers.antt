-- The numbers of clients and readers of a lab, and with what they can be opened.
use Rattle.lab_phase.specs.Prelude.{arith, subst, sym, ◌<◌, ◌∙◌, ◌≡◌, nat_tests, get_or_default, get_or_from_slice_get, IfSome, length, None, Option}
use Rattle.lab_phase.specs.Prelude.{slice_index_or, ℕ, [], Geometry, Item, CardLine, IsItem, IsScript, IsRingOf, Setup, Stage, key_of_places, IsUsable}
use Rattle.lab_phase.specs.Prelude.{AreEach-length, Lab, IsAtStage, IsNextItem, session_of, next-inside, AreAll-reached}
use Rattle.lab_phase.proofs.StageLaws.{AreClientOpenings-length, AreReaderOpenings-length}
use Rattle.lab_clients.specs.AtStage as clients
use Rattle.lab_readers.specs.AtStage as readers

-- the next item is one that its script can have
pub IsItem-next : (lab : Lab) (one : Item) → IsScript lab.script.now → IsNextItem lab one → IsItem (length lab.script.now.clients) (length lab.script.now.readers) one
IsItem-next lab one script is =
    subst (IsItem (length lab.script.now.clients) (length lab.script.now.readers)) (get_or_from_slice_get lab.script.now.body lab.next one one is)
    (script.body lab.next one (next-inside lab one is))

-- what fits a card fits its ring
usable-ring : (opening : Option Setup) (card : CardLine) (ring shape : Geometry) → IsRingOf card ring → shape ≡ ring → IfSome opening (IsUsable card.channels card.ring)
    → IfSome opening (IsUsable shape.channels shape.frames)
usable-ring opening card ring shape is same own = grind (arith, nat_tests)

module _ (lab : Lab) (stage : Stage) (at : IsAtStage lab stage) where
  -- there is an opening, or none, for each client and each reader of the script
  pub client_openings : length lab.openings.clients.items ≡ length lab.script.now.clients
  client_openings = (AreClientOpenings-length lab.script.now.card lab.script.now.clients lab.wavs.now lab.openings.clients.items at.has_done.reached.session_is.clients).0

  pub reader_openings : length lab.openings.readers.items ≡ length lab.script.now.readers
  reader_openings = AreReaderOpenings-length lab.script.now.card lab.script.now.readers lab.openings.readers.items at.has_done.reached.session_is.readers

  -- and there are as many of both
  pub client_count : length (clients.clients_of lab.clients) ≡ length lab.script.now.clients
  client_count =
      sym (AreEach-length _ 0 (clients.clients_of lab.clients) stage.clients at.actors.clients_are.each)
      ∙ ((AreAll-reached (session_of lab) stage at.has_done.done at.has_done.reached.may).clients ∙ client_openings)

  pub reader_count : length (readers.readers_of lab.readers) ≡ length lab.script.now.readers
  reader_count =
      sym (AreEach-length _ 0 (readers.readers_of lab.readers) stage.readers at.actors.readers_are.each)
      ∙ ((AreAll-reached (session_of lab) stage at.has_done.done at.has_done.reached.may).readers ∙ reader_openings)

  -- what a client is opened with fits the ring of the places
  pub client_usable : (number : ℕ) (opening : Option Setup) → number < length lab.script.now.clients → slice_index_or lab.openings.clients.items number None ≡ opening
      → IfSome opening (IsUsable (key_of_places (clients.places_of lab.clients)).geometry.channels (key_of_places (clients.places_of lab.clients)).geometry.frames)
  client_usable number opening inside is =
      usable-ring opening lab.script.now.card _ _ at.has_done.reached.session_is.ring at.actors.clients_are.card.ring
      (subst (λ (o : Option Setup). IfSome o (IsUsable lab.script.now.card.channels lab.script.now.card.ring)) is
      (at.set_up.clients number None (let count = client_openings in omega (arith, inside, count))))

  -- the opening of a client, whatever the default
  pub client_opening-any : (number : ℕ) (opening own : Option Setup) → number < length lab.script.now.clients → own ≡ slice_index_or lab.openings.clients.items number own
      → opening ≡ own → slice_index_or lab.openings.clients.items number None ≡ opening
  client_opening-any number opening own inside is same =
      get_or_default lab.openings.clients.items number None own (let count = client_openings in omega (arith, inside, count)) ∙ (sym is ∙ sym same)

  pub reader_opening-any : (number : ℕ) (opening own : Option Setup) → number < length lab.script.now.readers → own ≡ slice_index_or lab.openings.readers.items number own
      → opening ≡ own → slice_index_or lab.openings.readers.items number None ≡ opening
  reader_opening-any number opening own inside is same =
      get_or_default lab.openings.readers.items number None own (let count = reader_openings in omega (arith, inside, count)) ∙ (sym is ∙ sym same)

  -- what a reader is opened with fits the ring of the seat from which theirs are split
  pub reader_usable : (number : ℕ) (opening : Option Setup) → number < length lab.script.now.readers → slice_index_or lab.openings.readers.items number None ≡ opening
      → IfSome opening (IsUsable (readers.geometry_of lab.readers).channels (readers.geometry_of lab.readers).frames)
  reader_usable number opening inside is =
      usable-ring opening lab.script.now.card _ _ at.has_done.reached.session_is.ring at.actors.readers_are.card.ring
      (subst (λ (o : Option Setup). IfSome o (IsUsable lab.script.now.card.channels lab.script.now.card.ring)) is
      (at.set_up.readers number None (let count = reader_openings in omega (arith, inside, count))))
