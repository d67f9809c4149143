-- Languages whose trees, filled with constants, are those of the texts with the constants written.
use Rattle.std.proofs.Common.{◌≡◌, false, List, [], ◌∷◌, ◌++◌, map, Option, Some, None, Result, Ok, Err, refl, sym, ap, subst, ◌∙◌, inl, inr, ◌⊎◌, append_assoc}
use Rattle.std.specs.Prelude.{if◌then◌else◌}
use Rattle.token.specs.declared.kinds.Kind.{Kind}
use Rattle.token.specs.declared.kinds.Kind.TheVariants as k
use Rattle.value.specs.declared.values.Value.{Value}
use Rattle.syntax.specs.Language.{Lexeme, Lexemes, Language, Then, Each, Behind}
use Rattle.syntax.specs.Language as lang
use Rattle.prepared.specs.declared.faults.FillFault.{FillFault}
use Rattle.prepared.specs.Numbers.{is_number, is_sign, ends_operand}
use Rattle.prepared.specs.Constants.{Argument, Constants, and_then, then_made, all, Filling}
use Rattle.prepared.specs.Written.{for_token, behind_token, written_token, tokens_with_constants}

-- ---- what stands before a token

-- the end of what a sum adds to; a sign that is no operator of a sum; something else
pub data Prior : Type 0 where
  Operand : Prior
  Sign : Prior
  Other : Prior

abbrev pub signed : Prior → Prior
signed Operand = Other
signed Sign = Sign
signed Other = Sign

abbrev pub step : Prior → Kind → Prior
step p kind = if ends_operand kind then Operand else (if is_sign kind then signed p else Other)

abbrev pub after : Prior → Lexemes → Prior
after p [] = p
after p (x ∷ ts) = after (step p x.kind) ts

-- behind an operand; behind anything
abbrev pub Ends : Prior → Type 0
Ends q = q ≡ Operand

abbrev pub Any : Prior → Type 0
Any q = Unit {0}

abbrev pub NotSign : Prior → Type 0
NotSign Sign = ⊥
NotSign _ = Unit {0}

-- a parameter stands behind no such sign, and its value may stand there
abbrev pub ClearAt : (Value → Type 0) → Prior → Option Argument → Type 0
ClearAt ok p None = Unit {0}
ClearAt ok p (Some given) = NotSign p × ok given.value

abbrev pub Clear : (Value → Type 0) → Prior → Lexemes → Constants → Type 0
Clear ok p [] now = Unit {0}
Clear ok p (x ∷ ts) now = ClearAt ok p (for_token (is_number x.kind) now) × Clear ok (step p x.kind) ts (behind_token (is_number x.kind) now)

-- the constants that are left behind these tokens
abbrev pub left : Lexemes → Constants → Constants
left [] now = now
left (x ∷ ts) now = left ts (behind_token (is_number x.kind) now)

-- ---- two texts one behind the other

pub left_append : (u w : Lexemes) (now : Constants) → left (u ++ w) now ≡ left w (left u now)
left_append [] w now = refl
left_append (x ∷ u) w now = left_append u w (behind_token (is_number x.kind) now)

pub after_append : (p : Prior) (u w : Lexemes) → after p (u ++ w) ≡ after (after p u) w
after_append p [] w = refl
after_append p (x ∷ u) w = after_append (step p x.kind) u w

pub clear_front : (ok : Value → Type 0) (p : Prior) (u w : Lexemes) (now : Constants) → Clear ok p (u ++ w) now → Clear ok p u now
clear_front ok p [] w now c = tt
clear_front ok p (x ∷ u) w now c = (c.0, clear_front ok (step p x.kind) u w (behind_token (is_number x.kind) now) c.1)

pub clear_back : (ok : Value → Type 0) (p : Prior) (u w : Lexemes) (now : Constants) → Clear ok p (u ++ w) now → Clear ok (after p u) w (left u now)
clear_back ok p [] w now c = c
clear_back ok p (x ∷ u) w now c = clear_back ok (step p x.kind) u w (behind_token (is_number x.kind) now) c.1

pub written_append : (write : Argument → Lexemes) (u w : Lexemes) (now : Constants) → tokens_with_constants write (u ++ w) now ≡ tokens_with_constants write u now ++ tokens_with_constants write w (left u now)
written_append write [] w now = refl
written_append write (x ∷ u) w now =
    ap (λ z. written_token write x (for_token (is_number x.kind) now) ++ z) (written_append write u w (behind_token (is_number x.kind) now))
    ∙ sym (append_assoc (written_token write x (for_token (is_number x.kind) now)) (tokens_with_constants write u (behind_token (is_number x.kind) now)) (tokens_with_constants write w (left u (behind_token (is_number x.kind) now))))

-- ---- what is kept

-- the filled tree, and that it is one of the written text
pub record Kept {A : Type 0} (L : Language A) (w : Lexemes) (result : Result (A × Constants) FillFault) (rest : Constants) : Type 0 where
  pub tree : A
  pub is : result ≡ Ok (tree, rest)
  pub reads : L w tree

-- a part that may be missing
abbrev pub some_result : {A B : Type 0} → (A → Result (B × Constants) FillFault) → Constants → Option A → Result (Option B × Constants) FillFault
some_result result now None = Ok (None, now)
some_result result now (Some a) = then_made Some (result a)

-- how the constants of a written text are spelled, and which values may stand there
module _ (write : Argument → Lexemes) (ok : Value → Type 0) where
  -- Texts of the first language that stand behind such a token: with the constants written they are of the second, with
  -- the trees that they are filled to.
  pub record Keeps {A B : Type 0} (L : Language A) (M : Language B) (now : Constants) (result : A → Result (B × Constants) FillFault) (p : Prior) (Q : Prior → Type 0) : Type 0 where
    pub keeps : (w : Lexemes) (a : A) → L w a → Clear ok p w now → Kept M (tokens_with_constants write w now) (result a) (left w now) × Q (after p w)

  module _ {A B : Type 0} where
    pub keeps_pure : (a : A) (b : B) (now : Constants) (result : A → Result (B × Constants) FillFault) (p : Prior) (Q : Prior → Type 0)
        → result a ≡ Ok (b, now) → Q p → Keeps (lang.pure a) (lang.pure b) now result p Q
    keeps_pure a b now result p Q e q = record {
      keeps = λ w x h clear. (
        record {
          tree = b;
          is = ap result h.1 ∙ e ∙ ap (λ z. Ok (b, left z now)) (sym h.0);
          reads = (ap (λ z. tokens_with_constants write z now) h.0, refl);
        },
        subst (λ z. Q (after p z)) (sym h.0) q,
      );
    }

    pub keeps_or : (L M : Language A) (N O : Language B) (now : Constants) (result : A → Result (B × Constants) FillFault) (p : Prior) (Q : Prior → Type 0)
        → Keeps L N now result p Q → Keeps M O now result p Q → Keeps (lang.◌∪◌ L M) (lang.◌∪◌ N O) now result p Q
    keeps_or L M N O now result p Q l m = record { keeps = go }
      where
        go : (w : Lexemes) (a : A) → L w a ⊎ M w a → Clear ok p w now → Kept (lang.◌∪◌ N O) (tokens_with_constants write w now) (result a) (left w now) × Q (after p w)
        go w a (inl h) clear = let k = l.keeps w a h clear in (record { tree = k.0.tree; is = k.0.is; reads = inl k.0.reads }, k.1)
        go w a (inr h) clear = let k = m.keeps w a h clear in (record { tree = k.0.tree; is = k.0.is; reads = inr k.0.reads }, k.1)

    -- two languages into one
    pub keeps_either : (L M : Language A) (N : Language B) (now : Constants) (result : A → Result (B × Constants) FillFault) (p : Prior) (Q : Prior → Type 0)
        → Keeps L N now result p Q → Keeps M N now result p Q → Keeps (lang.◌∪◌ L M) N now result p Q
    keeps_either L M N now result p Q l m = record { keeps = go }
      where
        go : (w : Lexemes) (a : A) → L w a ⊎ M w a → Clear ok p w now → Kept N (tokens_with_constants write w now) (result a) (left w now) × Q (after p w)
        go w a (inl h) clear = l.keeps w a h clear
        go w a (inr h) clear = m.keeps w a h clear

    -- into a larger language
    pub keeps_into : (L : Language A) (M N : Language B) (now : Constants) (result : A → Result (B × Constants) FillFault) (p : Prior) (Q : Prior → Type 0)
        → ((w : Lexemes) (b : B) → M w b → N w b) → Keeps L M now result p Q → Keeps L N now result p Q
    keeps_into L M N now result p Q into l = record {
      keeps = λ w a h clear.
          let k = l.keeps w a h clear in (record { tree = k.0.tree; is = k.0.is; reads = into _ _ k.0.reads }, k.1);
    }

    -- with less said of what stands before the next token
    pub keeps_less : (L : Language A) (M : Language B) (now : Constants) (result : A → Result (B × Constants) FillFault) (p : Prior) (Q R : Prior → Type 0)
        → ((q : Prior) → Q q → R q) → Keeps L M now result p Q → Keeps L M now result p R
    keeps_less L M now result p Q R less l = record { keeps = λ w a h clear. let k = l.keeps w a h clear in (k.0, less _ k.1) }

    -- the same result in other words
    pub keeps_as : (L : Language A) (M : Language B) (now : Constants) (result other : A → Result (B × Constants) FillFault) (p : Prior) (Q : Prior → Type 0)
        → ((a : A) (b : B) (rest : Constants) → result a ≡ Ok (b, rest) → other a ≡ Ok (b, rest)) → Keeps L M now result p Q → Keeps L M now other p Q
    keeps_as L M now result other p Q e l = record {
      keeps = λ w a h clear.
          let k = l.keeps w a h clear in (record { tree = k.0.tree; is = e _ _ _ k.0.is; reads = k.0.reads }, k.1);
    }

  module _ {A B C D : Type 0} (L : Language A) (M : Language B) (N : A → Language C) (O : B → Language D) (now : Constants)
      (first : A → Result (B × Constants) FillFault) (result : C → Result (D × Constants) FillFault) (p : Prior) (Q R : Prior → Type 0) where
    then_go : Keeps L M now first p Q → ((a : A) (b : B) (rest : Constants) (q : Prior) → Q q → first a ≡ Ok (b, rest) → Keeps (N a) (O b) rest result q R)
        → (w front back : Lexemes) (a : A) (c : C) → w ≡ front ++ back → L front a → N a back c → Clear ok p w now
        → Kept (lang.◌>>=◌ M O) (tokens_with_constants write w now) (result c) (left w now) × R (after p w)
    then_go l n w front back a c cut h g clear =
        let both : Clear ok p (front ++ back) now = subst (λ z. Clear ok p z now) cut clear in
        let one = l.keeps front a h (clear_front ok p front back now both) in
        let two = (n a one.0.tree (left front now) (after p front) one.1 one.0.is).keeps back c g (clear_back ok p front back now both) in (
          record {
            tree = two.0.tree;
            is = two.0.is ∙ ap (λ z. Ok (two.0.tree, z)) (sym (left_append front back now) ∙ ap (λ z. left z now) (sym cut));
            reads = record {
              tree = one.0.tree;
              split = record {
                front = tokens_with_constants write front now;
                back = tokens_with_constants write back (left front now);
                cut = ap (λ z. tokens_with_constants write z now) cut ∙ written_append write front back now;
                first = one.0.reads;
                second = two.0.reads;
              };
            };
          },
          subst R (sym (after_append p front back) ∙ ap (after p) (sym cut)) two.1,
        )

    pub keeps_then : Keeps L M now first p Q → ((a : A) (b : B) (rest : Constants) (q : Prior) → Q q → first a ≡ Ok (b, rest) → Keeps (N a) (O b) rest result q R)
        → Keeps (lang.◌>>=◌ L N) (lang.◌>>=◌ M O) now result p R
    keeps_then l n = record { keeps = λ w c t clear. then_go l n w t.split.front t.split.back t.tree c t.split.cut t.split.first t.split.second clear }

  pub keeps_map : {A B C D : Type 0} (make : A → C) (make' : B → D) (L : Language A) (M : Language B) (now : Constants) (first : A → Result (B × Constants) FillFault)
      (result : C → Result (D × Constants) FillFault) (p : Prior) (Q : Prior → Type 0)
      → Keeps L M now first p Q → ((a : A) (b : B) (rest : Constants) → first a ≡ Ok (b, rest) → result (make a) ≡ Ok (make' b, rest))
      → Keeps (lang.◌<$>◌ make L) (lang.◌<$>◌ make' M) now result p Q
  keeps_map make make' L M now first result p Q l e =
      keeps_then L M (λ a. lang.pure (make a)) (λ b. lang.pure (make' b)) now first result p Q Q l
      (λ a b rest q ends is. keeps_pure (make a) (make' b) rest result q Q (e a b rest is) ends)

  -- ---- tokens that are no numbers

  plain_token : (x : Lexeme) (now : Constants) → is_number x.kind ≡ false → tokens_with_constants write (x ∷ []) now ≡ x ∷ []
  plain_token x now e = ap (λ b. written_token write x (for_token b now) ++ []) e

  pub keeps_token : (kind : Kind) (now : Constants) (p : Prior) → is_number kind ≡ false
      → Keeps (lang.token kind) (lang.token kind) now (λ x. Ok (x, now)) p (λ q. q ≡ step p kind)
  keeps_token kind now p e = record {
    keeps = λ w x h clear. (
      record {
        tree = x;
        is = ap (λ z. Ok (x, z)) (sym (ap (λ z. left z now) h.0 ∙ ap (λ b. behind_token b now) (ap is_number h.1 ∙ e)));
        reads = (ap (λ z. tokens_with_constants write z now) h.0 ∙ plain_token x now (ap is_number h.1 ∙ e), h.1);
      },
      ap (after p) h.0 ∙ ap (step p) h.1,
    );
  }

  answered : {A : Type 0} → A × Constants → Result (A × Constants) FillFault → A × Constants
  answered other (Ok m) = m
  answered other (Err fault) = other

  same_answer : {A : Type 0} (a b : A) (now rest : Constants) → ◌≡◌ {A = Result (A × Constants) FillFault} (Ok (a, now)) (Ok (b, rest)) → ◌≡◌ {A = A × Constants} (a, now) (b, rest)
  unfolding answered
  same_answer a b now rest e = ap (answered (a, now)) e

  module _ {A B : Type 0} where
    -- behind a token that is no number
    pub keeps_seq : (kind : Kind) (L : Language A) (M : Language B) (now : Constants) (result : A → Result (B × Constants) FillFault) (p q : Prior) (R : Prior → Type 0)
        → is_number kind ≡ false → step p kind ≡ q → Keeps L M now result q R → Keeps (lang.◌>>◌ (lang.token kind) L) (lang.◌>>◌ (lang.token kind) M) now result p R
    keeps_seq kind L M now result p q R e s l =
        keeps_then (lang.token kind) (lang.token kind) (λ _. L) (λ _. M) now (λ x. Ok (x, now)) result p (λ q. q ≡ step p kind) R (keeps_token kind now p e)
        (λ x y rest r is same.
        subst (λ z. Keeps L M z result r R) (ap (λ m. m.1) (same_answer x y now rest same)) (subst (λ z. Keeps L M now result z R) (sym (is ∙ s)) l))

    pub keeps_parens : (L : Language A) (M : Language B) (now : Constants) (result : A → Result (B × Constants) FillFault) (p : Prior) (R : Prior → Type 0)
        → Keeps L M now result Other R → Keeps (lang.parens L) (lang.parens M) now result p (λ q. q ≡ Operand)
    keeps_parens L M now result p R l =
        keeps_seq k.Open _ _ now result p Other (λ q. q ≡ Operand) refl refl
        (keeps_then L M _ _ now result result Other R (λ q. q ≡ Operand) l
        (λ a b rest q ends is. keeps_seq k.Close _ _ rest result q Operand (λ q. q ≡ Operand) refl refl (keeps_pure a b rest result Operand (λ q. q ≡ Operand) is refl)))

  -- ---- languages without a number

  abbrev pub Quiet : {A : Type 0} → Language A → Prior → (Prior → Type 0) → Type 0
  Quiet L p Q = (now : Constants) → Keeps L L now (λ a. Ok (a, now)) p Q

  module _ {A : Type 0} where
    pub quiet_pure : (a : A) (p : Prior) (Q : Prior → Type 0) → Q p → Quiet (lang.pure a) p Q
    quiet_pure a p Q q now = keeps_pure a a now (λ a. Ok (a, now)) p Q refl q

    pub quiet_or : (L M : Language A) (p : Prior) (Q : Prior → Type 0) → Quiet L p Q → Quiet M p Q → Quiet (lang.◌∪◌ L M) p Q
    quiet_or L M p Q l m now = keeps_or L M L M now (λ a. Ok (a, now)) p Q (l now) (m now)

    pub quiet_seq : (kind : Kind) (L : Language A) (p q : Prior) (R : Prior → Type 0) → is_number kind ≡ false → step p kind ≡ q → Quiet L q R → Quiet (lang.◌>>◌ (lang.token kind) L) p R
    quiet_seq kind L p q R e s l now = keeps_seq kind L L now (λ a. Ok (a, now)) p q R e s (l now)

    pub quiet_less : (L : Language A) (p : Prior) (Q R : Prior → Type 0) → ((q : Prior) → Q q → R q) → Quiet L p Q → Quiet L p R
    quiet_less L p Q R less l now = keeps_less L L now (λ a. Ok (a, now)) p Q R less (l now)

    pub quiet_parens : (L : Language A) (p : Prior) (R : Prior → Type 0) → Quiet L Other R → Quiet (lang.parens L) p (λ q. q ≡ Operand)
    quiet_parens L p R l now = keeps_parens L L now (λ a. Ok (a, now)) p R (l now)

  pub quiet_token : (kind : Kind) (p : Prior) → is_number kind ≡ false → Quiet (lang.token kind) p (λ q. q ≡ step p kind)
  quiet_token kind p e now = keeps_token kind now p e

  module _ {A B : Type 0} where
    pub quiet_map : (make : A → B) (L : Language A) (p : Prior) (Q : Prior → Type 0) → Quiet L p Q → Quiet (lang.◌<$>◌ make L) p Q
    quiet_map make L p Q l now = keeps_map make make L L now (λ a. Ok (a, now)) (λ b. Ok (b, now)) p Q (l now) (λ a b rest e. ap (then_made make) e)

    -- a part without a number, as it is filled
    pub keeps_quiet : (make : A → B) (L : Language A) (fill : B → Filling B) (p : Prior) (Q : Prior → Type 0) → ((a : A) (now : Constants) → fill (make a) now ≡ Ok (make a, now))
        → Quiet L p Q → (now : Constants) → Keeps (lang.◌<$>◌ make L) (lang.◌<$>◌ make L) now (λ b. fill b now) p Q
    keeps_quiet make L fill p Q e l now = keeps_map make make L L now (λ a. Ok (a, now)) (λ b. fill b now) p Q (l now) (λ a b rest is. e a now ∙ ap (then_made make) is)

    -- what follows a part without a number
    pub keeps_behind : {C : Type 0} (L : Language A) (M : A → Language B) (N : A → Language C) (now : Constants) (result : B → Result (C × Constants) FillFault) (p : Prior) (Q R : Prior → Type 0)
        → Quiet L p Q → ((a : A) (q : Prior) → Q q → Keeps (M a) (N a) now result q R) → Keeps (lang.◌>>=◌ L M) (lang.◌>>=◌ L N) now result p R
    keeps_behind L M N now result p Q R l m =
        keeps_then L L M N now (λ a. Ok (a, now)) result p Q R (l now)
        (λ a b rest q ends is.
        subst (λ z. Keeps (M a) (N z.0) z.1 result q R) (same_answer a b now rest is) (m a q ends))

    pub quiet_then : (L : Language A) (M : A → Language B) (p : Prior) (Q R : Prior → Type 0) → Quiet L p Q → ((a : A) (q : Prior) → Q q → Quiet (M a) q R) → Quiet (lang.◌>>=◌ L M) p R
    quiet_then L M p Q R l m now = keeps_behind L M M now (λ b. Ok (b, now)) p Q R l (λ a q ends. m a q ends now)

  -- ---- parts that may be missing, and lists

  module _ {A B : Type 0} where
    pub keeps_optional : (L : Language A) (M : Language B) (now : Constants) (result : A → Result (B × Constants) FillFault) (p : Prior) (Q : Prior → Type 0)
        → Q p → Keeps L M now result p Q → Keeps (lang.optional L) (lang.optional M) now (some_result result now) p Q
    keeps_optional L M now result p Q q l =
        keeps_or _ _ _ _ now (some_result result now) p Q (keeps_pure None None now (some_result result now) p Q refl q)
        (keeps_map Some Some L M now result (some_result result now) p Q l (λ a b rest is. ap (then_made Some) is))

    -- items, each of which may stand behind the one before
    abbrev pub Items : Language A → Language B → (A → Filling B) → (Prior → Type 0) → Type 0
    Items L M fill Q = (p : Prior) → Q p → (now : Constants) → Keeps L M now (λ a. fill a now) p Q

    each_keeps : (L : Language A) (M : Language B) (fill : A → Filling B) (Q : Prior → Type 0) → Items L M fill Q
        → (w : Lexemes) (xs : List A) (now : Constants) (p : Prior) → Q p → Each L w xs → Clear ok p w now
        → Kept (Each M) (tokens_with_constants write w now) (all (map fill xs) now) (left w now) × Q (after p w)
    each_keeps L M fill Q l w [] now p q h clear = (
      record {
        tree = [];
        is = ap (λ z. Ok ([], left z now)) (sym h);
        reads = ap (λ z. tokens_with_constants write z now) h;
      },
      subst (λ z. Q (after p z)) (sym h) q,
    )
    each_keeps L M fill Q l w (x ∷ xs) now p q h clear =
        let both : Clear ok p (h.front ++ h.back) now = subst (λ z. Clear ok p z now) h.cut clear in
        let one = (l p q now).keeps h.front x h.first (clear_front ok p h.front h.back now both) in
        let two = each_keeps L M fill Q l h.back xs (left h.front now) (after p h.front) one.1 h.second (clear_back ok p h.front h.back now both) in (
          record {
            tree = one.0.tree ∷ two.0.tree;
            is =
                ap (λ r. and_then r (λ first. then_made (λ others. first.0 ∷ others) (all (map fill xs) first.1))) one.0.is
                ∙ ap (then_made (λ others. one.0.tree ∷ others)) two.0.is
                ∙ ap (λ z. Ok (one.0.tree ∷ two.0.tree, z)) (sym (left_append h.front h.back now) ∙ ap (λ z. left z now) (sym h.cut));
            reads = record {
              front = tokens_with_constants write h.front now;
              back = tokens_with_constants write h.back (left h.front now);
              cut = ap (λ z. tokens_with_constants write z now) h.cut ∙ written_append write h.front h.back now;
              first = one.0.reads;
              second = two.0.reads;
            };
          },
          subst Q (sym (after_append p h.front h.back) ∙ ap (after p) (sym h.cut)) two.1,
        )

    -- items behind a first
    pub keeps_more : (x : A) (y : B) (L : Language A) (M : Language B) (fill : A → Filling B) (start now : Constants) (p : Prior) (Q : Prior → Type 0)
        → fill x start ≡ Ok (y, now) → Q p → Items L M fill Q → Keeps (Behind (x ∷ []) L) (Behind (y ∷ []) M) now (λ xs. all (map fill xs) start) p Q
    keeps_more x y L M fill start now p Q is q l = record {
      keeps = λ w xs h clear.
          let more = each_keeps L M fill Q l w h.0 now p q h.2 clear in (
            record {
              tree = y ∷ more.0.tree;
              is =
                  ap (λ z. all (map fill z) start) h.1
                  ∙ ap (λ r. and_then r (λ first. then_made (λ others. first.0 ∷ others) (all (map fill h.0) first.1))) is
                  ∙ ap (then_made (λ others. y ∷ others)) more.0.is;
              reads = (more.0.tree, refl, more.0.reads);
            },
            more.1,
          );
    }

    -- a list
    pub keeps_list : (L : Language A) (M : Language B) (fill : A → Filling B) (Q : Prior → Type 0)
        → ((now : Constants) → Keeps L M now (λ a. fill a now) Other Q) → (now : Constants) → Keeps (lang.list L) (lang.list M) now (λ xs. all (map fill xs) now) Other Q
    keeps_list L M fill Q l now =
        keeps_then L M _ _ now (λ a. fill a now) (λ xs. all (map fill xs) now) Other Q Q (l now)
        (λ a b rest p q is. keeps_more a b _ _ fill now rest p Q is q (λ r _ later. keeps_seq k.Comma L M later (λ a. fill a later) r Other Q refl refl (l later)))

  none_filled : {A : Type 0} (xs : List A) (now : Constants) → all (map (λ x later. Ok (x, later)) xs) now ≡ Ok (xs, now)
  none_filled [] now = refl
  none_filled (x ∷ xs) now = ap (then_made (λ others. x ∷ others)) (none_filled xs now)

  pub quiet_list : {A : Type 0} (L : Language A) (Q : Prior → Type 0) → Quiet L Other Q → Quiet (lang.list L) Other Q
  quiet_list L Q l now =
      keeps_as (lang.list L) (lang.list L) now (λ xs. all (map (λ x later. Ok (x, later)) xs) now) (λ xs. Ok (xs, now)) Other Q
      (λ xs ys rest is. sym (none_filled xs now) ∙ is) (keeps_list L L (λ x later. Ok (x, later)) Q l now)

  pub quiet_optional : {A : Type 0} (L : Language A) (p : Prior) (Q : Prior → Type 0) → Q p → Quiet L p Q → Quiet (lang.optional L) p Q
  quiet_optional L p Q q l = quiet_or _ _ p Q (quiet_pure None p Q q) (quiet_map Some L p Q l)
