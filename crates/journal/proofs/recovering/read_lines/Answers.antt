use Rattle.std.proofs.Common.{ℕ, ◌≡◌, ◌+◌, [], Some, None, sym, refl, subst, rules, length}
use Rattle.std.proofs.lemmas.Result.{err_from_is_err_and}
use Rattle.journal.specs.Recovery.{entry_at, recovered}
use Rattle.journal.proofs.Gathered.{begun, goes_on, ends, is_done, piece_some, piece_none, shorter}
use Rattle.journal.proofs.Shapes.{passed_none, passed_one, passed_all}
use Rattle.journal.proofs.recovering.read_lines.Goals as goal

pub loop-line-init : goal.loop-line-init
loop-line-init c =
    let none : c.new-entries.result.items ≡ [] = search rules in
    record {
      read = rw none (begun c.args.first c.args.bytes.now (recovered c.args.first c.args.bytes.now) refl);
      passed = passed_none c.args.bytes.now;
    }

pub returns-in_err-entry-clause-refused : goal.returns-in_err-entry-clause-refused
returns-in_err-entry-clause-refused c =
    let p = err_from_is_err_and c.from_residual.result c.from_residual.ensures.1 in
    let count : c.len.result ≡ length c.loop-line.entries.items = search rules in
    rw (p.1, p.2) (λ other. ends _ c.loop-line.entries.items c.loop-line.rest.now c.in-Some.line.now c.in-Some.behind.now (recovered c.args.first c.args.bytes.now)
    (sym c.in-Some.ensures) (subst (λ (n : ℕ). entry_at (c.args.first + n) c.in-Some.line.now ≡ None) count (c.in_err-entry.ensures.refused other)) c.loop-line.invariant.read)

pub loop-line-smaller : goal.loop-line-smaller
loop-line-smaller c = shorter c.loop-line.rest.now c.in-Some.line.now c.in-Some.behind.now (sym c.in-Some.ensures)

pub loop-line-preserved : goal.loop-line-preserved
loop-line-preserved c =
    let p = piece_some c.loop-line.rest.now c.in-Some.line.now c.in-Some.behind.now (sym c.in-Some.ensures) in
    let count : c.len.result ≡ length c.loop-line.entries.items = search rules in
    let found = subst (λ (n : ℕ). entry_at (c.args.first + n) c.in-Some.line.now ≡ Some c.in_ok-entry.entry) count c.in_ok-entry.ensures.found in
    record {
      read = rw c.in_ok-push.ensures.items (goes_on c.args.first c.loop-line.entries.items c.loop-line.rest.now c.in-Some.line.now c.in-Some.behind.now c.in_ok-entry.entry (recovered c.args.first c.args.bytes.now)
          (sym c.in-Some.ensures) found c.loop-line.invariant.read);
      passed = passed_one c.args.bytes.now c.loop-line.rest.now c.in-Some.line.now c.in-Some.behind.now c.loop-line.invariant.passed p.1 p.0;
    }

pub returns-clause-found : goal.returns-clause-found
returns-clause-found c = is_done _ c.loop-line.entries.items c.loop-line.rest.now (recovered c.args.first c.args.bytes.now) (sym c.in_default.ensures) c.loop-line.invariant.read

pub returns-clause-behind : goal.returns-clause-behind
returns-clause-behind c = passed_all c.args.bytes.now c.loop-line.rest.now c.loop-line.invariant.passed (piece_none c.loop-line.rest.now (sym c.in_default.ensures))
