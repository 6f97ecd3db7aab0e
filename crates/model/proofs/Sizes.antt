-- How many bytes the mirror of a plan has, and what follows for the mirror of accepted bytes.
use Rattle.std.proofs.Common.{◌≡◌, ℕ, List, reverse, length, sym, refl, ap, ◌∙◌, arith}
use Rattle.model.specs.Timetable.{Exchange, opposite, waited, Plan}
use Rattle.model.specs.PlanBytes.{plan_bytes}
use Rattle.model.specs.Verdict.{Accepted, Outcome}
use Rattle.model.specs.Statements.{plan_outcome}
use Rattle.model.specs.Mirror.{mirrored}
use Rattle.model.specs.MirrorLaws.{MirrorSize, MirrorWritten, MirrorAccepted}
use Rattle.model.proofs.Once.{keeps_form}
use Rattle.model.proofs.Exact.{accepts_exactly}
use Rattle.model.proofs.Written.{written_accepted}
use Rattle.model.proofs.Mirroring.{mirror_keeps, mirror_alike}
use Rattle.model.proofs.Twice.{mirror_twice}
use Rattle.model.proofs.Letters.{plan_size}

pub mirror_size : MirrorSize
mirror_size side homes frames fetch requests plan f k =
    let m = mirror_keeps side homes frames fetch requests plan f k in
    let a = mirror_alike (length homes) fetch plan in
    let p = plan_size plan (keeps_form side homes frames fetch requests plan f k) in
    let q = plan_size (mirrored (length homes) fetch plan) (keeps_form (opposite side) homes frames fetch (reverse requests) (mirrored (length homes) fetch plan) f m) in
    omega (arith, a.steps, a.trades, k.fills, m.fills)

pub mirror_written : MirrorWritten
mirror_written side homes frames fetch requests bytes plan f w =
    let n : length bytes ≡ length (plan_bytes plan) = ap (λ (bs : List ℕ). length bs) w.written in
    record {
      keeps = mirror_keeps side homes frames fetch requests plan f w.keeps;
      written = refl;
      within = omega (arith, mirror_size side homes frames fetch requests plan f w.keeps, w.within);
    }

pub mirror_accepted : MirrorAccepted
mirror_accepted side homes frames fetch requests room bytes fit small steps waits exchanges e =
    let r = (accepts_exactly side homes frames fetch requests room bytes fit small).0 steps waits exchanges e in
    let plan : Plan = r.0 in
    let other : Plan = mirrored (length homes) fetch plan in
    let alike = mirror_alike (length homes) fetch plan in
    let said : Accepted steps waits exchanges ≡ (plan_outcome plan).answer = sym e ∙ ap (λ (o : Outcome). o.answer) r.2 in
    let i : steps ≡ length plan.acts = cc in
    let j : waits ≡ waited plan.acts = cc in
    let m : exchanges ≡ length plan.exchanges = cc in (
      plan,
      record {
        written = r.1;
        accepted = λ more l.
            let w = mirror_written side homes frames fetch requests bytes plan fit.lasts r.1 in
            let v = written_accepted (opposite side) homes frames fetch (reverse requests) more (plan_bytes other) other fit w (omega (arith, alike.trades)) in
            v ∙ same other.exchanges (alike.steps ∙ sym i) (alike.waits ∙ sym j) (alike.trades ∙ sym m);
        back = ap (λ (p : Plan). plan_bytes p) (mirror_twice side homes frames fetch requests plan fit.lasts r.1.keeps) ∙ sym r.1.written;
      },
    )
  where
    same : {a b c d g h : ℕ} (xs : List Exchange) → a ≡ b → c ≡ d → g ≡ h →
        ◌≡◌ {A = Outcome} (record { answer = Accepted a c g; records = xs }) (record { answer = Accepted b d h; records = xs })
    same xs p q r = λ i. record { answer = Accepted (p i) (q i) (r i); records = xs }
