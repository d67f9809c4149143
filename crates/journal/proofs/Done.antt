-- Calls that are done at once.
use Rattle.std.proofs.Common.{◌≡◌, inl, inr, ℕ, ◌+◌, ◌≤◌, List, [], ◌∷◌, ◌++◌, length, take, drop, refl, sym, ◌∙◌, ap, arith, append_assoc, take-append-drop, length-drop}
use Rattle.std.proofs.lemmas.List.{length-take-le}
use Rattle.journal.specs.Tails.{zeros}
use Rattle.journal.specs.Device.{IsEither, Over, Written, Grown, Follows}

either_was : (bytes was : List ℕ) → length was ≡ length bytes → IsEither bytes was was
either_was [] [] same = tt
either_was [] (w ∷ was) same = absurd (omega (arith, same))
either_was (b ∷ bytes) [] same = absurd (omega (arith, same))
either_was (b ∷ bytes) (w ∷ was) same = (inl refl, either_was bytes was (omega (arith, same)))

either_bytes : (bytes was : List ℕ) → length was ≡ length bytes → IsEither bytes was bytes
either_bytes [] [] same = tt
either_bytes [] (w ∷ was) same = absurd (omega (arith, same))
either_bytes (b ∷ bytes) [] same = absurd (omega (arith, same))
either_bytes (b ∷ bytes) (w ∷ was) same = (inr refl, either_bytes bytes was (omega (arith, same)))

pub whole_write : (at : ℕ) (bytes old first second next : List ℕ) → at + length bytes ≤ length old → first ≡ take at old → second ≡ first ++ bytes → next ≡ second ++ drop (length bytes) (drop at old)
    → Written at bytes old next
whole_write at bytes old first second next within first_is second_is next_is = record {
  front = take at old;
  was = take (length bytes) (drop at old);
  behind = drop (length bytes) (drop at old);
  at_is = length-take-le at old (omega (arith, within));
  same_length = length-take-le (length bytes) (drop at old) (omega (arith, within, length-drop at old));
  old_is = sym (take-append-drop at old) ∙ ap (λ (l : List ℕ). take at old ++ l) (sym (take-append-drop (length bytes) (drop at old)));
  new_is = next_is ∙ ap (λ (l : List ℕ). l ++ drop (length bytes) (drop at old)) (second_is ∙ ap (λ (l : List ℕ). l ++ bytes) first_is) ∙ append_assoc (take at old) bytes (drop (length bytes) (drop at old));
}

-- where it was done, a crash leaves what was written
pub over_done : (at : ℕ) (bytes old new : List ℕ) → Written at bytes old new → Follows (Over at bytes) (λ c. c ≡ old) (λ c. c ≡ new)
over_done at bytes old new written c is = (
  old,
  refl,
  record {
    front = written.front;
    was = written.was;
    now = bytes;
    behind = written.behind;
    at_is = written.at_is;
    old_is = written.old_is;
    new_is = is ∙ written.new_is;
    either = either_bytes bytes written.was written.same_length;
  },
)

-- and where it was not, what was there
pub over_not : (at : ℕ) (bytes old new : List ℕ) → at + length bytes ≤ length old → new ≡ old → Follows (Over at bytes) (λ c. c ≡ old) (λ c. c ≡ new)
over_not at bytes old new within same c is = (
  old,
  refl,
  record {
    front = take at old;
    was = take (length bytes) (drop at old);
    now = take (length bytes) (drop at old);
    behind = drop (length bytes) (drop at old);
    at_is = length-take-le at old (omega (arith, within));
    old_is = sym (take-append-drop at old) ∙ ap (λ (l : List ℕ). take at old ++ l) (sym (take-append-drop (length bytes) (drop at old)));
    new_is = is ∙ same ∙ sym (take-append-drop at old) ∙ ap (λ (l : List ℕ). take at old ++ l) (sym (take-append-drop (length bytes) (drop at old)));
    either = either_was bytes (take (length bytes) (drop at old)) (length-take-le (length bytes) (drop at old) (omega (arith, within, length-drop at old)));
  },
)

pub grown_to : (old new : List ℕ) (more : ℕ) → new ≡ old ++ zeros more → Follows Grown (λ c. c ≡ old) (λ c. c ≡ new)
grown_to old new more is c left = (old, refl, record { more = more; is = left ∙ is })
