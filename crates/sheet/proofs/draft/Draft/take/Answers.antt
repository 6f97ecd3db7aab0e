use Rattle.sheet.proofs.draft.Draft.take.Goals as goal

pub returns-in-Name-clause-after : goal.returns-in-Name-clause-after
returns-in-Name-clause-after c = rw c.in-Name.is (c.take_name.ensures.leaves c.args.list.now.len c.args.list.now.slots.now)
