-- Places that are the same, and the change that a net change has for a place.
use Rattle.std.proofs.Common.{◌≡◌, true, List, sym, ◌∙◌, subst}
use Rattle.std.specs.Prelude.{Contains}
use Rattle.std.specs.List.{list_any}
use Rattle.table.specs.declared.rows.Change.{Change}
use Rattle.siread.specs.declared.keys.Place.{Place}
use Rattle.siread.specs.declared.keys.LockKey.{LockKey}
use Rattle.siread.specs.Keys.{same_place, touches, place_of}
use Rattle.alone.specs.Commits.{share_row, touch_any}
use Rattle.siread.proofs.KeyOrder.{same_place-refl}
use Rattle.alone.proofs.Stores.{Found}
use Rattle.alone.proofs.Members.{any_from}

-- two net changes have a change of one place each
pub share_row-at : (these those : List Change) (place : Place) (c d : Change) → Contains these c → place_of c ≡ place → Contains those d → place_of d ≡ place
    → share_row these those ≡ true
unfolding share_row
share_row-at these those place c d mc ec md ed =
    any_from (λ change. list_any (λ other. same_place (place_of change) (place_of other)) those) these c mc
    (any_from (λ other. same_place (place_of c) (place_of other)) those d md (subst (λ p. same_place (place_of c) p ≡ true) (ec ∙ sym ed) (same_place-refl (place_of c))))

pub share_row-from : (these those : List Change) (place : Place) (c d : Change) → Found these place c → Found those place d → share_row these those ≡ true
share_row-from these those place c d f g = share_row-at these those place c d f.listed f.there g.listed g.there

pub touch_any-from : (changes : List Change) (keys : List LockKey) (c : Change) (key : LockKey) → Contains changes c → Contains keys key → touches c key ≡ true → touch_any changes keys ≡ true
unfolding touch_any
touch_any-from changes keys c key mc mk h =
    any_from (λ key. list_any (λ change. touches change key) changes) keys key mk (any_from (λ change. touches change key) changes c mc h)
