use Rattle.std.proofs.Common.{length}
use Rattle.records.specs.Pushed.{OnlyPushed}
use Rattle.sheet.specs.Drafts.{so_far}
use Rattle.sheet.specs.Reading.{reading}
use Rattle.sheet.proofs.Runs.{Leads}
use Rattle.sheet.proofs.reading.read_commands.Given as goal

-- the run from here on, with commands enough, comes to what the whole reading comes to
abbrev pub invariant-loop-reader : goal.invariant-loop-reader
invariant-loop-reader l =
    record {
      pushed : OnlyPushed l.initial.list l.list;
      leads : Leads l.reader.total l.reader.rest.now (so_far l.draft l.list.len l.list.slots.now) (reading l.bytes l.initial.list.slots.now);
    }

abbrev pub decreases-loop-reader : goal.decreases-loop-reader
decreases-loop-reader l = length l.reader.rest.now
