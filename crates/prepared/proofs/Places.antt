-- Where parameters stand, one turn at a time, and zeros at their places.
use Rattle.std.proofs.Common.{◌≡◌, ℕ, zero, suc, ◌-◌, ◌<◌, ◌≤◌, List, [], ◌∷◌, ◌++◌, length, set, append-nil, sym, Some, None, refl, ap, arith, ◌∙◌}
use Rattle.std.proofs.lemmas.List.{length-set, set_past}
use Rattle.token.specs.Bytes.{Text}
use Rattle.prepared.specs.declared.masks.Next.{Next}
use Rattle.prepared.specs.Masks.{next_at, places_by, places_within, with_zeros, places, mask}

places_next : (n : ℕ) (text : Text) (from : ℕ) → 0 < n
    → places_within n text from ≡ places_by (places_within (n - 1) text) (next_at text from)
places_next zero text from some = absurd (omega arith)
places_next (suc n) text from some =
    let less : n ≡ suc n - 1 = omega arith in
    ap (λ m. places_by (places_within m text) (next_at text from)) less

-- nothing stands there any more
pub places_end : (n : ℕ) (text : Text) (from : ℕ) (found all : List ℕ) → found ++ places_within n text from ≡ all → 0 < n
    → next_at text from ≡ None → found ≡ all
places_end n text from found all before some e =
    sym (append-nil found) ∙ ap (λ z. found ++ z) (sym (places_next n text from some ∙ ap (places_by (places_within (n - 1) text)) e)) ∙ before

-- what stands next is passed
pub places_passed : (n m : ℕ) (text : Text) (from to : ℕ) (next : Next) (found more all : List ℕ) → found ++ places_within n text from ≡ all
    → n ≡ suc m → next_at text from ≡ Some next → ((behind : ℕ → List ℕ) → more ++ behind to ≡ found ++ places_by behind (Some next))
    → more ++ places_within m text to ≡ all
places_passed n m text from to next found more all before turn e put =
    put (places_within m text)
    ∙ ap (λ z. found ++ z) (sym (ap (λ k. places_within k text from) turn ∙ ap (places_by (places_within m text)) e)) ∙ before

-- a place past the end takes no zero
pub zero_past : (at : ℕ) (rest : List ℕ) (text : Text) → length text ≤ at → with_zeros (at ∷ rest) text ≡ with_zeros rest text
zero_past at rest text past = ap (with_zeros rest) (set_past text at 48 past)

pub zeros_length : (places : List ℕ) (text : Text) → length (with_zeros places text) ≡ length text
zeros_length [] text = refl
zeros_length (at ∷ rest) text = zeros_length rest (set text at 48) ∙ length-set text at 48

pub mask_length : (text : Text) → length (mask text) ≡ length text
unfolding mask
mask_length text = zeros_length (places text) text
