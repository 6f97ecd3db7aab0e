use Rattle.std.proofs.lemmas.Bool.{lt-ltb}
use Rattle.bank.proofs.Fetches.{set_fetch_below}
use Rattle.bank.proofs.drives.Drives.start.Goals as goal

pub invariant_of-self-clause-there : goal.invariant_of-self-clause-there
invariant_of-self-clause-there c =
    let drives = c.args.self.now in
    set_fetch_below drives.blocks drives.list c.from-place.result _ drives.there (lt-ltb _ _ c.requires.block)
