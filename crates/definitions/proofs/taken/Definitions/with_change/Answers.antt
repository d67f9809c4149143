use Rattle.std.proofs.Common.{◌≡◌, ℕ, ◌∙◌, ap, sym, subst}
use Rattle.value.specs.Ordered.{HasKey, IsAscending}
use Rattle.value.specs.ValueOrder.{value_cmp}
use Rattle.delta.proofs.TableLemmas.{good_order}
use Rattle.table.specs.Rows.{layouts_of, value_in, key_of}
use Rattle.assertion.specs.Declarations.{layouts_in}
use Rattle.assertion.specs.Meaning.{State, rows_of}
use Rattle.assertion.specs.Changes.{IsChangeOf, state_after}
use Rattle.delta.specs.Views.{IsFitting, ViewState}
use Rattle.definitions.proofs.taken.Definitions.with_change.Goals as goal

pub put_change-requires-clause-keyed : goal.put_change-requires-clause-keyed
put_change-requires-clause-keyed c =
    let is : IsChangeOf (layouts_of c.self.inside.catalog) c.args.change.now c.self.inside.rows.items = subst (λ (s : ViewState). IsChangeOf (layouts_in s.declared) c.args.change.now s.state) (sym c.self.view_is) c.requires.is in
    let column : c.key-key.result ≡ key_of c.args.change.now.table (layouts_of c.self.inside.catalog) = c.key-key.ensures.value ∙ ap (λ l. l.key) c.schema_at.ensures in
    subst (λ (n : ℕ). HasKey value_cmp (value_in n) c.args.change.now.key c.args.change.now.new) (sym column) is.keyed

pub put_change-requires-clause-ordered : goal.put_change-requires-clause-ordered
put_change-requires-clause-ordered c =
    let layouts = layouts_of c.self.inside.catalog in
    let table : ℕ = c.args.change.now.table in
    let column : c.key-key.result ≡ key_of table layouts = c.key-key.ensures.value ∙ ap (λ l. l.key) c.schema_at.ensures in
    subst (λ (n : ℕ). IsAscending value_cmp (value_in n) (rows_of table c.self.inside.rows.items)) (sym column) (good_order layouts c.self.inside.rows.items c.self.invariant.1 table)

pub invariant_of-result : goal.invariant_of-result
invariant_of-result c =
    let layouts = layouts_of c.self.inside.catalog in
    let is : IsChangeOf layouts c.args.change.now c.self.inside.rows.items = subst (λ (s : ViewState). IsChangeOf (layouts_in s.declared) c.args.change.now s.state) (sym c.self.view_is) c.requires.is in
    let fits : IsFitting layouts c.args.change.now = subst (λ (s : ViewState). IsFitting (layouts_in s.declared) c.args.change.now) (sym c.self.view_is) c.requires.fits in
    let step = c.in_ok-rows.ensures layouts (c.key-key.ensures.value ∙ ap (λ l. l.key) c.schema_at.ensures) c.self.invariant.1 is fits in
    (c.self.invariant.0, step.good_after)

pub returns : goal.returns
returns c =
    let layouts = layouts_of c.self.inside.catalog in
    let is : IsChangeOf layouts c.args.change.now c.self.inside.rows.items = subst (λ (s : ViewState). IsChangeOf (layouts_in s.declared) c.args.change.now s.state) (sym c.self.view_is) c.requires.is in
    let fits : IsFitting layouts c.args.change.now = subst (λ (s : ViewState). IsFitting (layouts_in s.declared) c.args.change.now) (sym c.self.view_is) c.requires.fits in
    let step = c.in_ok-rows.ensures layouts (c.key-key.ensures.value ∙ ap (λ l. l.key) c.schema_at.ensures) c.self.invariant.1 is fits in
    ap (λ (state : State). record { declared = record { tables = c.self.inside.catalog; assertions = c.self.inside.assertions.items }; state = state }) step.changed
    ∙ ap (λ (s : ViewState). record s { state = state_after (layouts_in s.declared) c.args.change.now s.state }) c.self.view_is
