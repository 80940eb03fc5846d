use Rattle.lab_clients.specs.Prelude.{ap, refl, subst, sym, ℕ, ◌∙◌, ◌≡◌, get_or-set_same, Option, slice_set, unwrap_or, opened_client, next_place}
use Rattle.lab_clients.specs.Prelude.{AreEach-set_same, LabClient, clients_of, places_of, HasKeptLast, HasKeptLastAt, IsMadeFor, IsSameWithRows}
use Rattle.lab_clients.specs.Prelude.{IsSameWithRows-none}
use Rattle.std.proofs.lemmas.Result.{IfOk-weaker}
use Rattle.lab_clients.proofs.OpenAt.{open_at-read, open_at-set_same}
use Rattle.lab_clients.proofs.Results.{OnOk-more}
use Rattle.lab_clients.proofs.clients.LabClients.make_stream.Goals as goal

pub make_stream-requires-clause-closed : goal.make_stream-requires-clause-closed
make_stream-requires-clause-closed c =
    sym (open_at-read (clients_of c.args.self.now) c.args.number c.index_mut.result.now c.requires.number c.index_mut.ensures.value) ∙ c.requires.closed

pub returns : goal.returns
returns c =
    let ds = clients_of c.args.self.now in
    let e : LabClient = c.make_stream.new.self in
    let setup = c.args.opening.now in
    record {
      stream = IfOk-weaker c.make_stream.result (λ client. client.stream ≡ opened_client c.args.ring c.unwrap_or-place.result setup)
          (λ client. IsMadeFor c.args.ring (next_place c.args.position (places_of c.args.self.now)) setup client.stream)
          (λ client is place given. is ∙ ap (λ n. opened_client c.args.ring n setup)
          (c.unwrap_or-place.ensures ∙ ap (λ (o : Option ℕ). unwrap_or o 0) (c.next_place.ensures ∙ given)))
          c.make_stream.ensures.stream;
      kept = OnOk-more (HasKeptLast e) (HasKeptLastAt c.args.number (slice_set ds c.args.number e)) c.make_stream.result
          (λ kept d. subst HasKeptLast (sym (get_or-set_same ds c.args.number e d c.requires.number)) kept) c.make_stream.ensures.kept;
      closed = open_at-set_same ds c.args.number e c.requires.number ∙ c.make_stream.ensures.closed;
      same = AreEach-set_same IsSameWithRows IsSameWithRows-none 0 ds c.args.number c.index_mut.result.now e c.requires.number c.index_mut.ensures.value
          (record { same = c.make_stream.ensures.same; rows = c.make_stream.ensures.same_rows });
      places = refl;
      only = c.make_stream.ensures.only;
    }
