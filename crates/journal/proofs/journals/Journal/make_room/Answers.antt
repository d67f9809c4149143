use Rattle.std.proofs.Common.{ℕ, ◌+◌, List, [], ◌++◌, length, sym, ◌∙◌, ap, subst}
use Rattle.journal.specs.Tails.{zeros}
use Rattle.journal.specs.Device.{Only}
use Rattle.journal.specs.Recovery.{said}
use Rattle.journal.specs.Journals.{IsBetween}
use Rattle.journal.proofs.Moments.{started, goes_on}
use Rattle.journal.proofs.Settled.{roomier, unchanged, length_zeros}
use Rattle.journal.proofs.journals.Journal.make_room.Goals as goal

pub returns-in_err-grow-clause-any_moment : goal.returns-in_err-grow-clause-any_moment
returns-in_err-grow-clause-any_moment g c =
    let s = c.requires.1.0 in
    let t = g.told in
    let j = c.args.self.now in
    let P = IsBetween t.first t.entries [] in
    let longer : (f : List ℕ) → g.D.Device.may_leave c.grow.new.self f → P f = λ f now.
    let from = c.grow.ensures.crash f now in
    let r = roomier t.first t.entries j.end j.room from.2.more (g.D.Device.seen j.device) f s.says.entries s.blank s.says.end (from.2.is ∙ ap (λ (d : List ℕ). d ++ zeros from.2.more) (s.says.durable from.0 from.1)) in
    unchanged t.first t.entries [] f r.entries in
    let at_start = started g.D.Device.moment g.D.Device.left_since j.device P (λ f left. unchanged t.first t.entries [] f (ap (said t.first) (s.says.durable f (g.met.D.Device.only_now j.device f left)) ∙ s.says.entries)) in
    goes_on g.D.Device.moment g.D.Device.left_since j.device j.device c.grow.new.self P _ at_start c.grow.ensures.time longer

pub returns-in_err-sync-clause-any_moment : goal.returns-in_err-sync-clause-any_moment
returns-in_err-sync-clause-any_moment g c =
    let s = c.requires.1.0 in
    let t = g.told in
    let j = c.args.self.now in
    let P = IsBetween t.first t.entries [] in
    let longer : (f : List ℕ) → g.D.Device.may_leave c.grow.new.self f → P f = λ f now.
    let from = c.grow.ensures.crash f now in
    let r = roomier t.first t.entries j.end j.room from.2.more (g.D.Device.seen j.device) f s.says.entries s.blank s.says.end (from.2.is ∙ ap (λ (d : List ℕ). d ++ zeros from.2.more) (s.says.durable from.0 from.1)) in
    unchanged t.first t.entries [] f r.entries in
    let at_start = started g.D.Device.moment g.D.Device.left_since j.device P (λ f left. unchanged t.first t.entries [] f (ap (said t.first) (s.says.durable f (g.met.D.Device.only_now j.device f left)) ∙ s.says.entries)) in
    let grew = goes_on g.D.Device.moment g.D.Device.left_since j.device j.device c.grow.new.self P _ at_start c.grow.ensures.time longer in
    goes_on g.D.Device.moment g.D.Device.left_since j.device c.grow.new.self c.sync.new.self P _ grew c.sync.ensures.time (λ f now. longer f (c.sync.ensures.crash f now))

pub returns-clause-any_moment : goal.returns-clause-any_moment
returns-clause-any_moment g c =
    let s = c.requires.1.0 in
    let t = g.told in
    let j = c.args.self.now in
    let P = IsBetween t.first t.entries [] in
    let longer : (f : List ℕ) → g.D.Device.may_leave c.grow.new.self f → P f = λ f now.
    let from = c.grow.ensures.crash f now in
    let r = roomier t.first t.entries j.end j.room from.2.more (g.D.Device.seen j.device) f s.says.entries s.blank s.says.end (from.2.is ∙ ap (λ (d : List ℕ). d ++ zeros from.2.more) (s.says.durable from.0 from.1)) in
    unchanged t.first t.entries [] f r.entries in
    let at_start = started g.D.Device.moment g.D.Device.left_since j.device P (λ f left. unchanged t.first t.entries [] f (ap (said t.first) (s.says.durable f (g.met.D.Device.only_now j.device f left)) ∙ s.says.entries)) in
    let grew = goes_on g.D.Device.moment g.D.Device.left_since j.device j.device c.grow.new.self P _ at_start c.grow.ensures.time longer in
    goes_on g.D.Device.moment g.D.Device.left_since j.device c.grow.new.self c.sync.new.self P _ grew c.sync.ensures.time (λ f now. longer f (c.sync.ensures.crash f now))

pub returns-clause-roomy : goal.returns-clause-roomy
returns-clause-roomy g c =
    let s = c.requires.1.0 in
    let t = g.told in
    let j = c.args.self.now in
    let r = roomier t.first t.entries j.end j.room c.args.count (g.D.Device.seen j.device) (g.D.Device.seen c.sync.new.self) s.says.entries s.blank s.says.end (c.sync.ensures.seen ∙ c.in_ok-grow.ensures.grown) in
    record {
      says = record {
        entries = r.entries;
        end = r.end_is;
        room = sym (ap length r.blank ∙ length_zeros (j.room + c.args.count));
        durable = subst (λ f. Only f (g.D.Device.may_leave c.sync.new.self)) (sym c.sync.ensures.seen) c.in_ok-sync.ensures.durable;
      };
      blank = r.blank;
    }
