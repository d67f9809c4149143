-- The laws on readers with their arguments left to be found, and the laws on languages.
use Rattle.std.proofs.Common.{◌≡◌, ℕ, ◌≤◌, Bool, false, List, [], ◌++◌, length, Some, refl, sym, ◌∙◌, ap, subst, inl, inr, arith, append_assoc}
use Rattle.token.specs.declared.kinds.Kind.{Kind}
use Rattle.token.specs.declared.kinds.Kind.TheVariants as k
use Rattle.syntax.specs.Language.{Lexeme, Lexemes, Language, Then, Behind, after_kind}
use Rattle.syntax.specs.Language as lang
use Rattle.syntax.specs.Reading.{Reader, ◌>>=◌, pure, expect, all}
use Rattle.syntax.proofs.WordLaws.{append-nil, Sound, sound_then, sound_pure, sound_expect, weaken}
use Rattle.syntax.proofs.Loops.{sound_all}

pub then_s : {A B : Type 0} {n l m : ℕ} {K : Language A} {M : A → Language B} {p : Reader A} {f : A → Reader B}
    → Sound n l K p → ((w : Lexemes) (a : A) → K w a → Sound l m (M a) (f a)) → Sound n m (Then K M) (p >>= f)
then_s {n = n} {l = l} {m = m} {K = K} {M = M} {p = p} {f = f} sp sf = sound_then n l m K M p f sp sf

pub map_s : {A B : Type 0} {n m : ℕ} {K : Language A} {p : Reader A} (g : A → B) → Sound n m K p → Sound n m (Then K (λ a. lang.pure (g a))) (p >>= (λ a. pure (g a)))
map_s {n = n} {m = m} {K = K} {p = p} g sp = sound_then n m m K (λ a. lang.pure (g a)) p (λ a. pure (g a)) sp (λ w a h. sound_pure m (g a))

pub tok_s : {n : ℕ} (kind : Kind) → after_kind kind n ≡ Some n → Sound n n (lang.token kind) (expect kind)
tok_s {n = n} kind neutral = sound_expect n n kind neutral

pub seq_s : {B : Type 0} {n m : ℕ} {M : Language B} {q : Reader B} (kind : Kind) → after_kind kind n ≡ Some n → Sound n m M q → Sound n m (Then (lang.token kind) (λ _. M)) (expect kind >>= (λ _. q))
seq_s {n = n} {m = m} {M = M} {q = q} kind neutral s = sound_then n n m (lang.token kind) (λ _. M) (expect kind) (λ _. q) (sound_expect n n kind neutral) (λ _ _ _. s)

pub weak : {A : Type 0} {n m : ℕ} {K L : Language A} {p : Reader A} → ((w : Lexemes) (a : A) → K w a → L w a) → Sound n m K p → Sound n m L p
weak {n = n} {m = m} {K = K} {L = L} {p = p} into s = weaken n m K L p into s

pub all_s : {A : Type 0} {n : ℕ} {L : Language A} {item : Reader A} (goes_on : Kind → Bool) → Sound n n L item → ((w : Lexemes) (a : A) → L w a → 1 ≤ length w) → goes_on k.End ≡ false
    → (found : List A) → Sound n n (Behind found L) (all goes_on item found)
all_s {n = n} {L = L} {item = item} goes_on s some ends found = sound_all n L goes_on item s some ends found

-- a text that begins with a token is not empty
pub token_some : {B : Type 0} (kind : Kind) (M : Lexeme → Language B) (w : Lexemes) (b : B) → Then (lang.token kind) M w b → 1 ≤ length w
token_some kind M w b h = let e = ap length (h.split.cut ∙ ap (λ t. t ++ h.split.back) h.split.first.0) in omega arith

-- ---- languages

pub mapped : {A B : Type 0} (g : A → B) (K : Language A) (w : Lexemes) (b : B) → Then K (λ a. lang.pure (g a)) w b → (a : A) × K w a × (b ≡ g a)
mapped g K w b h =
    let s = h.split in
    let same : s.front ≡ w = sym (append-nil s.front) ∙ ap (λ t. s.front ++ t) (sym s.second.0) ∙ sym s.cut in
    (h.tree, subst (λ t. K t h.tree) same s.first, s.second.1)

pub mapping : {A B : Type 0} (g : A → B) (K : Language A) (w : Lexemes) (a : A) → K w a → Then K (λ a. lang.pure (g a)) w (g a)
mapping g K w a h = record { tree = a; split = record { front = w; back = []; cut = sym (append-nil w); first = h; second = (refl, refl) } }

pub regroup : {A B C : Type 0} (K : Language A) (M : A → Language B) (N : B → Language C) (w : Lexemes) (c : C) → Then (Then K M) N w c → Then K (λ a. Then (M a) N) w c
regroup K M N w c h =
    let outer = h.split in
    let one = outer.first.split in
    record {
      tree = outer.first.tree;
      split = record {
        front = one.front;
        back = one.back ++ outer.back;
        cut = outer.cut ∙ ap (λ t. t ++ outer.back) one.cut ∙ append_assoc one.front one.back outer.back;
        first = one.first;
        second = record { tree = h.tree; split = record { front = one.back; back = outer.back; cut = refl; first = one.second; second = outer.second } };
      };
    }

pub regroup_left : {A B C : Type 0} (K : Language A) (M : A → Language B) (N : B → Language C) (w : Lexemes) (c : C) → Then K (λ a. Then (M a) N) w c → Then (Then K M) N w c
regroup_left K M N w c h =
    let outer = h.split in
    let two = outer.second.split in
    record {
      tree = outer.second.tree;
      split = record {
        front = outer.front ++ two.front;
        back = two.back;
        cut = outer.cut ∙ ap (λ t. outer.front ++ t) two.cut ∙ sym (append_assoc outer.front two.front two.back);
        first = record { tree = h.tree; split = record { front = outer.front; back = two.front; cut = refl; first = outer.first; second = two.first } };
        second = two.second;
      };
    }

-- the first, or the second, by a larger language
pub then_into : {A B : Type 0} (K L : Language A) (M N : A → Language B) → ((w : Lexemes) (a : A) → K w a → L w a) → ((a : A) (w : Lexemes) (b : B) → M a w b → N a w b) → (w : Lexemes) (b : B) → Then K M w b → Then L N w b
then_into K L M N f g w b h = let s = h.split in record { tree = h.tree; split = record { front = s.front; back = s.back; cut = s.cut; first = f s.front h.tree s.first; second = g h.tree s.back b s.second } }

-- one token before either of two
pub token_either : {A : Type 0} (kind : Kind) (L M N : Language A) → ((w : Lexemes) (a : A) → Then (lang.token kind) (λ _. L) w a → N w a) → ((w : Lexemes) (a : A) → Then (lang.token kind) (λ _. M) w a → N w a)
    → (w : Lexemes) (a : A) → Then (lang.token kind) (λ _. lang.◌∪◌ L M) w a → N w a
token_either kind L M N f g w a h =
    let d = h.split in
    elim d.second [
      | inl o ↦ f w a (record { tree = h.tree; split = record { front = d.front; back = d.back; cut = d.cut; first = d.first; second = o } })
      | inr o ↦ g w a (record { tree = h.tree; split = record { front = d.front; back = d.back; cut = d.cut; first = d.first; second = o } })
    ]
