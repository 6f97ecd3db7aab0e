use Rattle.std.proofs.Common.{◌≡◌, suc, ◌+◌, ◌≤◌, length}
use Rattle.model.proofs.Comes.{Comes}
use Rattle.records.specs.Pushed.{OnlyPushed}
use Rattle.sheet.specs.Sheets.{meant}
use Rattle.plan.specs.Steps.{run_for, verdict_for}
use Rattle.plan.specs.Tracks.{reached}
use Rattle.plan.proofs.verdict.judge.Given as goal

-- the run from here on, with commands enough, comes to what the verdict says
abbrev pub invariant-loop-reader : goal.invariant-loop-reader
invariant-loop-reader g l =
    record {
      steps : l.track.boundary + length l.reader.bytes.rest.now ≤ l.reader.bytes.total;
      total : l.reader.bytes.total ≡ length l.bytes;
      pushed : OnlyPushed l.initial.list l.list;
      come : Comes g.S.Lane.side (meant l.sheet).rack.homes (meant l.sheet).rack.frames (meant l.sheet).rack.fetch (meant l.sheet).requests (length l.initial.list.slots.now) l.bytes (reached l.track l.list) l.reader.bytes.rest.now;
      runs : run_for g.S.Lane.side (meant l.sheet) (length l.initial.list.slots.now) (suc (length l.bytes)) l.reader.bytes.total (reached l.track l.list) l.reader.bytes.rest.now ≡ verdict_for g.S.Lane.side (meant l.sheet) (length l.initial.list.slots.now) l.bytes;
    }

abbrev pub decreases-loop-reader : goal.decreases-loop-reader
decreases-loop-reader g l = length l.reader.bytes.rest.now
