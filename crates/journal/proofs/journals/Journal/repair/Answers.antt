use Rattle.std.proofs.Common.{ℕ, List, [], length, sym, ◌∙◌, ap, subst, arith, length-append}
use Rattle.journal.specs.Tails.{fed, lines_of, tail_of}
use Rattle.journal.specs.Device.{Only, Over}
use Rattle.journal.specs.Recovery.{said}
use Rattle.journal.specs.Journals.{IsBetween}
use Rattle.journal.proofs.Moments.{started, goes_on}
use Rattle.journal.proofs.Shapes.{whole}
use Rattle.journal.proofs.Settled.{Rests, unchanged, length_zeros}
use Rattle.journal.proofs.Repaired.{torn_repair, whole_repair}
use Rattle.journal.proofs.journals.Journal.repair.Goals as goal

pub write_at-requires : goal.write_at-requires
write_at-requires g c =
    let s = c.requires.1.0 in
    let file = g.D.Device.seen c.args.self.now.device in
    let w = whole file in
    omega (arith, s.end, s.room, ap length w.0, length-append (fed (lines_of file)) (tail_of file), ap length c.requires.1.1, length_zeros c.args.self.now.room)

pub returns-in_err-write_at-clause-any_moment : goal.returns-in_err-write_at-clause-any_moment
returns-in_err-write_at-clause-any_moment g c =
    let s = c.requires.1.0 in
    let t = g.told in
    let j = c.args.self.now in
    let P = IsBetween t.first t.entries [] in
    let torn : (f : List ℕ) → g.D.Device.may_leave c.write_at.new.self f → P f = λ f now.
    let from = c.write_at.ensures.crash f now in
    torn_repair t.first t.entries [] j.end j.room c.args.blank.now (g.D.Device.seen j.device) f s.entries s.end s.room c.requires.1.1
    (subst (λ (d : List ℕ). Over j.end c.args.blank.now d f) (s.durable from.0 from.1) from.2) in
    let at_start = started g.D.Device.moment g.D.Device.left_since j.device P (λ f left. unchanged t.first t.entries [] f (ap (said t.first) (s.durable f (g.met.D.Device.only_now j.device f left)) ∙ s.entries)) in
    goes_on g.D.Device.moment g.D.Device.left_since j.device j.device c.write_at.new.self P _ at_start c.write_at.ensures.time torn

pub returns-in_err-sync-clause-any_moment : goal.returns-in_err-sync-clause-any_moment
returns-in_err-sync-clause-any_moment g c =
    let s = c.requires.1.0 in
    let t = g.told in
    let j = c.args.self.now in
    let P = IsBetween t.first t.entries [] in
    let torn : (f : List ℕ) → g.D.Device.may_leave c.write_at.new.self f → P f = λ f now.
    let from = c.write_at.ensures.crash f now in
    torn_repair t.first t.entries [] j.end j.room c.args.blank.now (g.D.Device.seen j.device) f s.entries s.end s.room c.requires.1.1
    (subst (λ (d : List ℕ). Over j.end c.args.blank.now d f) (s.durable from.0 from.1) from.2) in
    let at_start = started g.D.Device.moment g.D.Device.left_since j.device P (λ f left. unchanged t.first t.entries [] f (ap (said t.first) (s.durable f (g.met.D.Device.only_now j.device f left)) ∙ s.entries)) in
    let wrote = goes_on g.D.Device.moment g.D.Device.left_since j.device j.device c.write_at.new.self P _ at_start c.write_at.ensures.time torn in
    goes_on g.D.Device.moment g.D.Device.left_since j.device c.write_at.new.self c.sync.new.self P _ wrote c.sync.ensures.time (λ f now. torn f (c.sync.ensures.crash f now))

pub returns-clause-any_moment : goal.returns-clause-any_moment
returns-clause-any_moment g c =
    let s = c.requires.1.0 in
    let t = g.told in
    let j = c.args.self.now in
    let P = IsBetween t.first t.entries [] in
    let torn : (f : List ℕ) → g.D.Device.may_leave c.write_at.new.self f → P f = λ f now.
    let from = c.write_at.ensures.crash f now in
    torn_repair t.first t.entries [] j.end j.room c.args.blank.now (g.D.Device.seen j.device) f s.entries s.end s.room c.requires.1.1
    (subst (λ (d : List ℕ). Over j.end c.args.blank.now d f) (s.durable from.0 from.1) from.2) in
    let at_start = started g.D.Device.moment g.D.Device.left_since j.device P (λ f left. unchanged t.first t.entries [] f (ap (said t.first) (s.durable f (g.met.D.Device.only_now j.device f left)) ∙ s.entries)) in
    let wrote = goes_on g.D.Device.moment g.D.Device.left_since j.device j.device c.write_at.new.self P _ at_start c.write_at.ensures.time torn in
    goes_on g.D.Device.moment g.D.Device.left_since j.device c.write_at.new.self c.sync.new.self P _ wrote c.sync.ensures.time (λ f now. torn f (c.sync.ensures.crash f now))

pub returns-clause-settled : goal.returns-clause-settled
returns-clause-settled g c =
    let s = c.requires.1.0 in
    let t = g.told in
    let j = c.args.self.now in
    let r = subst (λ (f : List ℕ). Rests t.first t.entries f j.end j.room) (sym c.sync.ensures.seen)
    (whole_repair t.first t.entries j.end j.room c.args.blank.now (g.D.Device.seen j.device) (g.D.Device.seen c.write_at.new.self) s.entries s.end s.room c.requires.1.1 c.in_ok-write_at.ensures.written) in
    record {
      says = record {
        entries = r.entries;
        end = r.end_is;
        room = sym (ap length r.blank ∙ length_zeros j.room);
        durable = subst (λ f. Only f (g.D.Device.may_leave c.sync.new.self)) (sym c.sync.ensures.seen) c.in_ok-sync.ensures.durable;
      };
      blank = r.blank;
    }
