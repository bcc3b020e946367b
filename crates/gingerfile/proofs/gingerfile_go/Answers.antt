-- What refuses file or words is answered, and nothing is written; else what go promises and what `keep` writes are the promise:
-- `call_made`. Scratch by `report_stays`. Assumes nothing.
use Rattle.gingerfile.proofs.Returns.{begun_long, call_refused, call_made, report_stays}
use Rattle.std.proofs.Common.{refl}
use Rattle.crossing.specs.Crossing.{report_of}
use Rattle.gingerfile.proofs.gingerfile_go.Goals as goal

pub keep-requires : goal.keep-requires
keep-requires c = begun_long c.begin.ensures _ c.in-Ok.is

pub returns-in-Ok : goal.returns-in-Ok
unfolding report_of
returns-in-Ok c =
    record {
      crosses = call_made c.begin.ensures _ c.in-Ok.is c.go-outcome.ensures.go_meets c.keep.ensures;
      scratch_stays =
          report_stays c.keep.ensures.report c.go-outcome.ensures.scratch_stays refl (λ e. (c.go-outcome.ensures.go_meets.accepts e).answer);
    }

pub returns-in-Err : goal.returns-in-Err
returns-in-Err c =
    record {
      crosses = call_refused c.begin.ensures _ c.in-Err.is c.refused_for.ensures refl;
      scratch_stays = λ _. refl;
    }
