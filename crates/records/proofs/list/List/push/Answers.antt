use Rattle.std.proofs.Common.{sym, rules}
use Rattle.std.proofs.lemmas.List.{set_past}
use Rattle.std.proofs.lemmas.Bool.{cond-false, le-ltb}
use Rattle.records.proofs.list.List.push.Goals as goal

pub returns-then-self : goal.returns-then-self
returns-then-self g c =
    let full = le-ltb _ _ c.if-self.true in
    record {
      answer = sym (cond-false _ _ _ full);
      len = sym (cond-false _ _ _ full);
      slots = sym (set_past _ _ _ c.if-self.true);
      lent = search rules;
    }
