use Rattle.std.proofs.Common.{refl}
use Rattle.model.specs.Replay.{doing_of, replies, all_granted, asked_all, loading, collects, starts, asks_up_to}
use Rattle.model.specs.Timetable.{count, served, waited}
use Rattle.model.proofs.replay_rows_hold.Goals as goal

pub returns : goal.returns
unfolding doing_of replies all_granted asked_all loading collects starts asks_up_to count served waited
returns c = record { first = refl; other = refl; second = refl; over = refl; tally = refl; calls = refl; asks = refl; quiet = refl; idle = refl; early = refl }
