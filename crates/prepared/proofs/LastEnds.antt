-- Where the last token of a text ends, one turn at a time.
use Rattle.std.proofs.Common.{◌≡◌, ℕ, zero, suc, ◌-◌, ◌<◌, Some, None, ap, sym, arith, ◌∙◌}
use Rattle.token.specs.Bytes.{Text}
use Rattle.prepared.specs.declared.masks.Next.{Next}
use Rattle.prepared.specs.Masks.{next_at}
use Rattle.prepared.specs.Ends.{end_by, end_of, end_within}

end_next : (n : ℕ) (text : Text) (from : ℕ) → 0 < n → end_within n text from ≡ end_by (end_within (n - 1) text) from (next_at text from)
end_next zero text from some = absurd (omega arith)
end_next (suc n) text from some =
    let less : n ≡ suc n - 1 = omega arith in
    ap (λ m. end_by (end_within m text) from (next_at text from)) less

-- nothing stands there any more
pub end_found : (n : ℕ) (text : Text) (from all : ℕ) → end_within n text from ≡ all → 0 < n → next_at text from ≡ None → from ≡ all
end_found n text from all before some e = sym (end_next n text from some ∙ ap (end_by (end_within (n - 1) text) from) e) ∙ before

-- what stands next is passed
pub end_passed : (n m : ℕ) (text : Text) (from to : ℕ) (next : Next) (all : ℕ) → end_within n text from ≡ all → n ≡ suc m → next_at text from ≡ Some next → to ≡ end_of next
    → end_within m text to ≡ all
end_passed n m text from to next all before turn e there =
    ap (end_within m text) there ∙ sym (ap (λ k. end_within k text from) turn ∙ ap (end_by (end_within m text) from) e) ∙ before
