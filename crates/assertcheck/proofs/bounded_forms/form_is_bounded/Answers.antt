use Rattle.std.proofs.Common.{◌≡◌, rules}
use Rattle.assertcheck.specs.Widths.{is_bounded_form}
use Rattle.assertcheck.proofs.BoundedForms.{is_exact}
use Rattle.assertcheck.proofs.bounded_forms.form_is_bounded.Goals as goal

pub returns-after-is_bounded-clause-exact : goal.returns-after-is_bounded-clause-exact
returns-after-is_bounded-clause-exact c = let e : c.if-is_bounded.result ≡ is_bounded_form c.args.form.now = search rules in is_exact _ _ e

pub returns-after-is_bounded-2-clause-exact : goal.returns-after-is_bounded-2-clause-exact
returns-after-is_bounded-2-clause-exact c = let e : c.if-is_bounded-2.result ≡ is_bounded_form c.args.form.now = search rules in is_exact _ _ e

pub returns-after-is_bounded-3-clause-exact : goal.returns-after-is_bounded-3-clause-exact
returns-after-is_bounded-3-clause-exact c = let e : c.if-is_bounded-3.result ≡ is_bounded_form c.args.form.now = search rules in is_exact _ _ e
