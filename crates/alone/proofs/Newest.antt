-- What stands in the newest tables where no commit after a snapshot has written.
use Rattle.std.proofs.Common.{◌≡◌, ℕ, ◌<◌, ◌≤◌, cond, List, [], ◌∷◌, inl, inr, refl, sym, ap, ◌∙◌, arith}
use Rattle.std.specs.Prelude.{Contains, nat_le}
use Rattle.std.proofs.lemmas.Bool.{cases_Bool, leb-true, leb-false}
use Rattle.table.specs.declared.rows.Change.{Change}
use Rattle.assertion.specs.Declarations.{Declared, layouts_in}
use Rattle.assertion.specs.Meaning.{State}
use Rattle.siread.specs.declared.keys.Place.{Place}
use Rattle.siread.specs.Keys.{place_of}
use Rattle.alone.specs.States.{row_in, IsState}
use Rattle.siread.proofs.Members.{in_head, in_tail}
use Rattle.alone.proofs.Lists.{Each, each_weaker}
use Rattle.alone.proofs.Stores.{all_fit, changed, change_at_cases, row_in-put}
use Rattle.alone.specs.declared.records.Record.{Record}
use Rattle.alone.specs.Epoch.{newest, state_of}
use Rattle.alone.specs.Replay.{commits_in_snapshot}
use Rattle.alone.proofs.Replays.{Falls, HaveNets, held_all}
use Rattle.alone.proofs.Semantics.{AreNets}

module _ (declared : Declared) (start : State) (fit : IsState (layouts_in declared) start) where
  pub newest_fits : (log : List Record) → HaveNets (AreNets declared) log → IsState (layouts_in declared) (newest declared start log)
  newest_fits [] nets = fit
  newest_fits (c ∷ rest) nets = all_fit (layouts_in declared) c.changes (newest declared start rest) (newest_fits rest nets.1) nets.0

  -- no commit after the snapshot has this row
  abbrev pub Unwritten : List Record → ℕ → Place → Type 0
  Unwritten log snapshot place = (other : Record) (change : Change)
      → Contains log other → snapshot < other.number → Contains other.changes change → place_of change ≡ place → ⊥

  pub unwritten : (log : List Record) → HaveNets (AreNets declared) log → Falls log → (snapshot : ℕ) (place : Place) → Unwritten log snapshot place
      → row_in (layouts_in declared) (newest declared start log) place ≡ row_in (layouts_in declared) (state_of declared start log snapshot) place
  unwritten [] nets falls snapshot place none = refl
  unwritten (c ∷ rest) nets falls snapshot place none = elim (cases_Bool (nat_le c.number snapshot)) [
    | inl in' ↦
        let all : Each (λ w. w.number ≤ snapshot) (c ∷ rest)
        = (leb-true _ _ in', each_weaker (λ w. w.number < c.number) (λ w. w.number ≤ snapshot) (λ w l. let m = leb-true _ _ in' in omega arith) rest falls.0) in
        ap (λ log. row_in (layouts_in declared) (newest declared start log) place) (sym (held_all snapshot (c ∷ rest) all))
    | inr out ↦
        let later : snapshot < c.number = leb-false _ _ out in
        row_in-put (layouts_in declared) c.changes (newest declared start rest) place (newest_fits rest nets.1) nets.0
        ∙ elim (change_at_cases c.changes place) [
          | inl absent ↦ ap (λ o. changed o (row_in (layouts_in declared) (newest declared start rest) place)) absent
          | inr found ↦ absurd (none c found.0 (in_head c rest) later found.1.listed found.1.there)
        ]
        ∙ unwritten rest nets.1 falls.1 snapshot place (λ other change m. none other change (in_tail c rest other m))
        ∙ ap (λ log. row_in (layouts_in declared) (newest declared start log) place) (sym (ap (λ b. cond b (c ∷ commits_in_snapshot snapshot rest) (commits_in_snapshot snapshot rest)) out))
  ]
