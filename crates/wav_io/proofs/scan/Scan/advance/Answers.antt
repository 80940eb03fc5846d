use Rattle.wav_io.specs.Prelude.{ap, List, refl, subst, sym, take, ℕ, ◌++◌, ◌∙◌, TooLong, Place, IsSoundPlace, to_come}
use Rattle.wav_io.proofs.Readers.{refused_place}
use Rattle.wav_io.proofs.Scans.{refused_comes, piece_refused, piece_too_long, piece_whole, piece_fits, piece_through, still_scan, follows_from, follows_err}
use Rattle.wav_io.proofs.scan.Scan.advance.Goals as goal

pub returns-in-Refused-clause-err : goal.returns-in-Refused-clause-err
returns-in-Refused-clause-err c more = refused_comes c.args.depths c.args.self.now c.in-Refused.error c.in-Refused.is (c.args.piece.now ++ more)

pub returns-in-Refused-place : goal.returns-in-Refused-place
returns-in-Refused-place c =
    let old = c.args.self.now in
    let near = c.split_at.result.0.now in
    let through = c.go-part.ensures in
    let is = c.split_at.ensures.front ∙ ap (λ (n : ℕ). take n c.args.piece.now) c.min.ensures in
    record {
      scan = still_scan c.args.depths old c.go-part.new.self near c.go-part.result c.requires through (piece_fits old c.args.piece.now near is c.requires);
      ok = tt;
      err = piece_refused c.args.depths old c.go-part.new.self c.args.piece.now near c.go-part.result c.in-Refused-place.error is through c.requires c.in-Refused-place.is;
      refused = (c.in-Refused-place.is, subst (λ (q : Place). IsSoundPlace q c.go-part.new.self.kept) c.in-Refused-place.is through.place);
      behind = tt;
      no_refusal = tt;
      follows = follows_err old.place c.in-Refused-place.error c.in_default.not-Refused;
    }

pub returns-then-near-piece : goal.returns-then-near-piece
returns-then-near-piece c =
    let old = c.args.self.now in
    let near = c.split_at.result.0.now in
    let through = c.go-part.ensures in
    let is = c.split_at.ensures.front ∙ ap (λ (n : ℕ). take n c.args.piece.now) c.min.ensures in
    let scan = still_scan c.args.depths old c.go-part.new.self near c.go-part.result c.requires through (piece_fits old c.args.piece.now near is c.requires) in
    record {
      scan = record { place = λ e. cc; seen = tt; limit = scan.limit };
      ok = tt;
      err = piece_too_long c.args.depths old c.go-part.new.self c.args.piece.now near c.go-part.result is through c.requires c.if-near-piece.true c.in_default-place.not-Refused;
      refused = (refl, λ e. cc);
      behind = tt;
      no_refusal = tt;
      follows = follows_err old.place TooLong c.in_default.not-Refused;
    }

pub returns : goal.returns
returns c =
    let old = c.args.self.now in
    let near = c.split_at.result.0.now in
    let through = c.go-part.ensures in
    let is = c.split_at.ensures.front ∙ ap (λ (n : ℕ). take n c.args.piece.now) c.min.ensures in
    let short = piece_fits old c.args.piece.now near is c.requires in
    let all = piece_whole old c.args.piece.now near is c.if-near-piece.false in
    record {
      scan = still_scan c.args.depths old c.go-part.new.self near c.go-part.result c.requires through short;
      ok = λ more. ap (λ (b : List ℕ). to_come c.args.depths old (b ++ more)) (sym all) ∙ piece_through c.args.depths old c.go-part.new.self near c.go-part.result through short more;
      err = tt;
      refused = tt;
      behind = through.behind;
      no_refusal = refused_place c.go-part.new.self.place c.in_default-place.not-Refused;
      follows = follows_from old.place c.go-part.result through.continues c.in_default.not-Refused;
    }
