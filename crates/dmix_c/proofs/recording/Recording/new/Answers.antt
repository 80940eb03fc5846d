use Rattle.dmix_c.specs.Prelude.{ap, arith, refl, subst, sym, ◌∙◌, CaptureStream, new_reader}
use Rattle.snoop_table.specs.Readers.{seat_view}
use Rattle.dsnoop_client.specs.View.{CanUse}
use Rattle.dmix_c.proofs.recording.Recording.new.Goals as goal

pub invariant_of-result : goal.invariant_of-result
invariant_of-result c =
    let s = c.args.seat in
    record {
      unstopped = ap (λ (r : CaptureStream). r.status.stopped) c.new-reader.ensures;
      usable = subst (λ (r : CaptureStream). CanUse r (seat_view s)) (sym c.new-reader.ensures) (record {
        same_geometry = sym c.geometry.ensures;
        newer = omega arith;
      });
    }

pub returns : goal.returns
returns c = record { seat = refl; reader = c.new-reader.ensures ∙ ap new_reader c.geometry.ensures; rate_is = refl }
