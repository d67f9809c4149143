-- What the record says after a call is what was asked for.
use Rattle.std.proofs.Common.{◌≡◌, ℕ, ◌+◌, ◌≤◌, List, [], ◌∷◌, ◌++◌, length, take, drop, refl, sym, ◌∙◌, ap, arith, append_assoc, subst}
use Rattle.std.specs.Prelude.{Result, Ok, Err, OnOk, is_ok}
use Rattle.std.specs.Int.{from_bool}
use Rattle.std.proofs.lemmas.List.{drop_at, drop-replicate}
use Rattle.journal.specs.Tails.{zeros}
use Rattle.journal.specs.Device.{Written}
use Rattle.journal.proofs.Done.{whole_write}
use Rattle.journal_file.specs.Calls.{Event, event_of, seen}

-- a write that was done
overlaid : (at : ℕ) (bytes old : List ℕ) → at + length bytes ≤ length old → Written at bytes old (take at old ++ (bytes ++ drop (length bytes) (drop at old)))
overlaid at bytes old within =
    whole_write at bytes old (take at old) (take at old ++ bytes) (take at old ++ (bytes ++ drop (length bytes) (drop at old))) within refl refl
    (sym (append_assoc (take at old) bytes (drop (length bytes) (drop at old))))

pub wrote : {A E : Type 0} (r : Result A E) (at : ℕ) (bytes : List ℕ) (old new : List Event) → at + length bytes ≤ length (seen old)
    → new ≡ event_of (2 ∷ at ∷ from_bool (is_ok r) ∷ []) bytes ∷ old → OnOk r (Written at bytes (seen old) (seen new))
wrote (Err e) at bytes old new within is = tt
wrote (Ok x) at bytes old new within is = subst (λ (events : List Event). Written at bytes (seen old) (seen events)) (sym is) (overlaid at bytes (seen old) within)

-- ---- a whole new file

none_in : (l : List ℕ) → length l ≡ 0 → l ≡ []
none_in [] none = refl
none_in (b ∷ l) none = absurd (omega (arith, none))

drop_zeros : (count room : ℕ) → drop count (zeros (count + room)) ≡ zeros room
drop_zeros count room = drop-replicate count (count + room) 0 ∙ ap zeros (omega arith)

filled_from : (bytes written : List ℕ) (room : ℕ) → Written 0 bytes (zeros (length bytes + room)) written → written ≡ bytes ++ zeros room
filled_from bytes written room w =
    let front = none_in w.front w.at_is in
    let whole : zeros (length bytes + room) ≡ w.was ++ w.behind = w.old_is ∙ ap (λ (l : List ℕ). l ++ (w.was ++ w.behind)) front in
    let left : w.behind ≡ zeros room = sym (drop_at w.was w.behind (length bytes) w.same_length) ∙ ap (drop (length bytes)) (sym whole) ∙ drop_zeros (length bytes) room in
    w.new_is ∙ ap (λ (l : List ℕ). l ++ (bytes ++ w.behind)) front ∙ ap (λ (l : List ℕ). bytes ++ l) left

-- zeros behind nothing, and bytes over the first of them
pub filled : {A E : Type 0} (r : Result A E) (bytes empty grown written synced : List ℕ) (length_all room : ℕ) → empty ≡ [] → grown ≡ empty ++ zeros length_all
    → length_all ≡ length bytes + room → Written 0 bytes grown written → synced ≡ written → OnOk r (synced ≡ bytes ++ zeros room)
filled (Err e) bytes empty grown written synced n room none grows is writes same = tt
filled (Ok x) bytes empty grown written synced n room none grows is writes same =
    let zeroed : grown ≡ zeros (length bytes + room) = grows ∙ ap (λ (l : List ℕ). l ++ zeros n) none ∙ ap zeros is in
    same ∙ filled_from bytes written room (subst (λ (old : List ℕ). Written 0 bytes old written) zeroed writes)
