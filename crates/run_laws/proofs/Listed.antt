-- What a client ended by an xrun is in the report: each item of the script's body keeps it.
use Rattle.run_laws.specs.Prelude.{ap, arith, inl, inr, List, None, Option, refl, Some, subst, sym, ℕ, [], ◌++◌, ◌∙◌, ◌≡◌, append-nil, IfSome, slice_index_or}
use Rattle.run_laws.specs.Prelude.{slice_set, true, Segment, Xrun, ClaimRow as Claim, PlaybackStream, Sound, Op, Answer, Client, client_kind, segments_of}
use Rattle.run_laws.specs.Prelude.{no_sound, report_of, LineMay, segments_by, AtPort, Rules, client_at, ended_client, no_client, opened_client, Session, Stage}
use Rattle.run_laws.specs.Prelude.{IsLate}
use Rattle.run_laws.proofs.LateRows.{late-ends}
use Rattle.run_laws.proofs.Numbered.{numbered-at}
use Rattle.run_laws.proofs.OnwardLines.{InOpen}
use Rattle.run_laws.proofs.Sealed.{IsStart, Over, is_sealed, over-ends, over-line, over-opens, over-start}
use Rattle.run_laws.proofs.Stages.{IsLasting, at, client_opened, set-so}

-- the segments of a client after a line that was late are settled
pub late-over : (rules : Rules) (phase : ℕ) (wav : Sound) (number : ℕ) (a b : AtPort) (client after : Client) (asked : Op) (answer : Answer) (frame channel : ℕ)
    → IsLate answer frame channel → LineMay (client_kind phase wav number) rules (a, client) asked (b, after) answer → Over (segments_of after) after
late-over rules phase wav number a b client after asked answer frame channel late may =
    by_own after.own refl (late-ends rules phase wav number a b client after asked answer frame channel late may)
  where
    by_own : (own : Option PlaybackStream) → after.own ≡ own → IfSome own (λ d. d.status.state ≡ Xrun) → Over (segments_of after) after
    by_own None own is = inl ([], rw own (sym (append-nil (after.ended ++ []) ∙ append-nil after.ended)))
    by_own (Some d) own is = inr (refl, subst (λ o. InOpen o (λ e. is_sealed e.status.state ≡ true)) (sym own) (ap is_sealed is))

-- each item of a body keeps what is over
module _ (session : Session) (list : List Segment) (n : ℕ) where
  abbrev pub OverAt : List (AtPort × Client) → List Claim → ℕ → Type 0
  OverAt clients claims position = Over list (at session clients n).1

  over-set : (clients : List (AtPort × Client)) (m : ℕ) (y : AtPort × Client) → Over list (at session clients n).1 → (Over list (at session clients m).1 → Over list y.1)
      → Over list (at session (slice_set clients m y) n).1
  over-set clients m y over new = set-so session (λ j z. n ≡ j → Over list z.1) clients m y (λ same. new (subst (λ k. Over list (at session clients k).1) same over))
      (λ j not same. subst (λ k. Over list (at session clients k).1) same over) n refl

  pub over-held : IsLasting session OverAt
  over-held = record {
    line = λ rules phase clients claims position m y asked answer least within may over. over-set clients m y over (λ before.
        over-line rules phase (slice_index_or session.sounds m no_sound) m (at session clients m).0 y.0 (at session clients m).1 y.1 asked answer may list before);
    opens = λ clients claims position m setup is closed granted over.
        over-set clients m (client_opened session clients m setup) over (over-opens list (at session clients m).1 (Some (opened_client session.ring m setup)) closed);
    ends = λ clients claims position m c within is over.
        over-set clients m (ended_client session.ring (at session clients m)) over (over-ends list (at session clients m).1);
    later = λ clients claims position q after over. over;
  }

-- at the end they are the first ones of those that the report lists
pub listed-at : (session : Session) (end : Stage) (list : List Segment) (n : ℕ) → Over list (client_at session end n).1
    → IsStart list (segments_by n (report_of session end).segments)
listed-at session end list n over =
    let start = over-start list (client_at session end n).1 over in (
      start.0,
      numbered-at (λ (client : AtPort × Client). segments_of client.1) (no_client session.ring) n 0 n end.clients (omega arith) refl ∙ start.1,
    )
