use Rattle.std.proofs.Common.{refl}
use Rattle.bank.specs.declared.state.DiskState.TheVariants.{Idle}
use Rattle.bank.proofs.Fetches.{set_fetch_below}
use Rattle.bank.proofs.drives.Drives.collect.Goals as goal

pub invariant_of-self-clause-there : goal.invariant_of-self-clause-there
invariant_of-self-clause-there c = set_fetch_below c.args.self.now.blocks c.args.self.now.list c.from-place.result Idle c.args.self.now.there refl
