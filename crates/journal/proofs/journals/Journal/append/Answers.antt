use Rattle.std.proofs.Common.{ℕ, ◌+◌, ◌-◌, List, ◌++◌, length, sym, ◌∙◌, ap, subst, arith}
use Rattle.journal.specs.Device.{Only, Over}
use Rattle.journal.specs.Recovery.{said}
use Rattle.journal.specs.Journals.{IsBetween}
use Rattle.journal.proofs.Moments.{started, goes_on}
use Rattle.journal.proofs.Settled.{Rests, torn_batch, whole_batch, unchanged, length_zeros}
use Rattle.journal.proofs.journals.Journal.append.Goals as goal

pub returns-in_err-write_at-clause-any_moment : goal.returns-in_err-write_at-clause-any_moment
returns-in_err-write_at-clause-any_moment g c =
    let s = c.requires.1.0 in
    let t = g.told in
    let j = c.args.self.now in
    let P = IsBetween t.first t.entries t.batch in
    let torn : (f : List ℕ) → g.D.Device.may_leave c.write_at.new.self f → P f = λ f now.
    let from = c.write_at.ensures.crash f now in
    torn_batch t.first t.entries t.batch j.end j.room c.args.text.now (g.D.Device.seen j.device) f s.says.entries s.blank s.says.end c.requires.1.1.1.1.1 c.requires.1.1.1.1.0 c.requires.1.1.0
    (subst (λ (d : List ℕ). Over j.end c.args.text.now d f) (s.says.durable from.0 from.1) from.2) in
    let at_start = started g.D.Device.moment g.D.Device.left_since j.device P (λ f left. unchanged t.first t.entries t.batch f (ap (said t.first) (s.says.durable f (g.met.D.Device.only_now j.device f left)) ∙ s.says.entries)) in
    goes_on g.D.Device.moment g.D.Device.left_since j.device j.device c.write_at.new.self P _ at_start c.write_at.ensures.time torn

pub returns-in_err-sync-clause-any_moment : goal.returns-in_err-sync-clause-any_moment
returns-in_err-sync-clause-any_moment g c =
    let s = c.requires.1.0 in
    let t = g.told in
    let j = c.args.self.now in
    let P = IsBetween t.first t.entries t.batch in
    let torn : (f : List ℕ) → g.D.Device.may_leave c.write_at.new.self f → P f = λ f now.
    let from = c.write_at.ensures.crash f now in
    torn_batch t.first t.entries t.batch j.end j.room c.args.text.now (g.D.Device.seen j.device) f s.says.entries s.blank s.says.end c.requires.1.1.1.1.1 c.requires.1.1.1.1.0 c.requires.1.1.0
    (subst (λ (d : List ℕ). Over j.end c.args.text.now d f) (s.says.durable from.0 from.1) from.2) in
    let at_start = started g.D.Device.moment g.D.Device.left_since j.device P (λ f left. unchanged t.first t.entries t.batch f (ap (said t.first) (s.says.durable f (g.met.D.Device.only_now j.device f left)) ∙ s.says.entries)) in
    let wrote = goes_on g.D.Device.moment g.D.Device.left_since j.device j.device c.write_at.new.self P _ at_start c.write_at.ensures.time torn in
    goes_on g.D.Device.moment g.D.Device.left_since j.device c.write_at.new.self c.sync.new.self P _ wrote c.sync.ensures.time (λ f now. torn f (c.sync.ensures.crash f now))

pub overflow_add-self : goal.overflow_add-self
overflow_add-self g c = omega (arith, c.requires.1.1.1.0)

pub returns-clause-any_moment : goal.returns-clause-any_moment
returns-clause-any_moment g c =
    let s = c.requires.1.0 in
    let t = g.told in
    let j = c.args.self.now in
    let P = IsBetween t.first t.entries t.batch in
    let torn : (f : List ℕ) → g.D.Device.may_leave c.write_at.new.self f → P f = λ f now.
    let from = c.write_at.ensures.crash f now in
    torn_batch t.first t.entries t.batch j.end j.room c.args.text.now (g.D.Device.seen j.device) f s.says.entries s.blank s.says.end c.requires.1.1.1.1.1 c.requires.1.1.1.1.0 c.requires.1.1.0
    (subst (λ (d : List ℕ). Over j.end c.args.text.now d f) (s.says.durable from.0 from.1) from.2) in
    let at_start = started g.D.Device.moment g.D.Device.left_since j.device P (λ f left. unchanged t.first t.entries t.batch f (ap (said t.first) (s.says.durable f (g.met.D.Device.only_now j.device f left)) ∙ s.says.entries)) in
    let wrote = goes_on g.D.Device.moment g.D.Device.left_since j.device j.device c.write_at.new.self P _ at_start c.write_at.ensures.time torn in
    goes_on g.D.Device.moment g.D.Device.left_since j.device c.write_at.new.self c.sync.new.self P _ wrote c.sync.ensures.time (λ f now. torn f (c.sync.ensures.crash f now))

-- and then the batch is on the disk
pub returns-clause-acknowledged : goal.returns-clause-acknowledged
returns-clause-acknowledged g c =
    let s = c.requires.1.0 in
    let t = g.told in
    let j = c.args.self.now in
    let r = subst (λ (f : List ℕ). Rests t.first (t.entries ++ t.batch) f (j.end + length c.args.text.now) (j.room - length c.args.text.now)) (sym c.sync.ensures.seen)
    (whole_batch t.first t.entries t.batch j.end j.room c.args.text.now (g.D.Device.seen j.device) (g.D.Device.seen c.write_at.new.self) s.says.entries s.blank s.says.end c.requires.1.1.1.1.1 c.requires.1.1.1.1.0 c.requires.1.1.0 c.in_ok-write_at.ensures.written) in
    record {
      says = record {
        entries = r.entries;
        end = r.end_is;
        room = sym (ap length r.blank ∙ length_zeros (j.room - length c.args.text.now));
        durable = subst (λ f. Only f (g.D.Device.may_leave c.sync.new.self)) (sym c.sync.ensures.seen) c.in_ok-sync.ensures.durable;
      };
      blank = r.blank;
    }
