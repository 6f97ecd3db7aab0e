use Rattle.std.proofs.Common.{◌≡◌, ℕ, ◌+◌, set, subst, refl, ap, ◌∙◌}
use Rattle.model.specs.Sheet.{Rack}
use Rattle.model.specs.declared.Exchange.{Exchange}
use Rattle.model.specs.declared.Mark.TheVariants.{Away, Here}
use Rattle.model.specs.View.{View, disk_of}
use Rattle.plan.specs.Headings.{side_of}
use Rattle.sheet.specs.Sheets.{meant}
use Rattle.planner.specs.Boards.{state_of}
use Rattle.planner.specs.Views.{seen_of}
use Rattle.planner.proofs.Begun.{begins}
use Rattle.planner.proofs.course.Course.start.Goals as goal

pub returns : goal.returns
returns c =
    let side = side_of c.args.self.now.heading in
    let sheet = meant c.args.self.now.sheet in
    let old = c.args.self.now.board in
    let p = c.args.brings in
    let q = c.args.sends in
    let disk : c.disk_of-disk.result ≡ disk_of (seen_of side sheet (state_of old)) p q = c.disk_of-disk.ensures ∙ ap (λ (v : View). disk_of v p q) c.view.ensures in
    let fetch : c.fetch-fetch.result ≡ sheet.rack.fetch = c.fetch-fetch.ensures.fetch ∙ ap (λ (r : Rack). r.fetch) c.rack.ensures in
    record {
      heading = refl;
      sheet = refl;
      position = c.start.ensures.position;
      boundary = c.start.ensures.boundary;
      now = (ap (λ (x : Exchange). x.start) c.start.ensures.exchange, tt);
      comes = λ s h. rw c.start.ensures.exchange (begins side sheet old c.start.new.self p q (record {
        position = c.start.ensures.position;
        boundary = c.start.ensures.boundary;
        marks = subst (λ (n : ℕ). c.start.new.self.places.marks ≡ set (set old.places.marks q (Away (old.boundary + 1))) p (Here (old.boundary + n))) fetch c.start.ensures.marks;
        idle = c.start.ensures.idle ∙ (ap (λ (d : ℕ). set old.places.idle d (old.boundary + c.fetch-fetch.result)) disk ∙ ap (λ (n : ℕ). set old.places.idle (disk_of (seen_of side sheet (state_of old)) p q) (old.boundary + n)) fetch);
      }) s h);
    }
