-- The bytes of an item give it again, and it is all that they can give.
use Rattle.std.proofs.Common.{◌≡◌, ℕ, zero, suc, ◌<◌, ◌≤◌, Bool, true, false, cond, eqb, leb, List, [], ◌∷◌, ◌++◌}
use Rattle.std.proofs.Common.{length, get_or, drop, Option, Some, None, ◌⊎◌, inl, inr, refl, sym, ap, ◌∙◌, arith}
use Rattle.std.proofs.lemmas.Bool.{eqb-true, ne_eqb, le-leb, leb-true, not-true, and_parts}
use Rattle.alpha_image.specs.Layout.{quadword, longword}
use Rattle.alpha_image.specs.Reading.{quadword_at, longword_at}
use Rattle.alpha_image.proofs.LittleEndianNumbers.{IsBytes, quadword_at-front, longword_at-front, drop-quadword}
use Rattle.alpha_image.proofs.LittleEndianNumbers.{drop-longword}
use Rattle.alpha_image.proofs.LittleEndianNumbers.{quadword_at-lt, longword_at-lt}
use Rattle.alpha_replay.specs.declared.item.Item.{Item}
use Rattle.alpha_replay.specs.declared.item.Item.TheVariants.{Units, Trigger, Wait, Report}
use Rattle.alpha_replay.specs.Items.{flag, item_bytes, item_size, is_units, FitsItem, item_in}

-- what bytes have that begin with an item
pub data ItemAt (behind : Bool) (bytes : List ℕ) (i : Item) : Type 0 where
  SeenUnits : get_or bytes 0 0 ≡ 0 → behind ≡ false → 5 ≤ length bytes → 0 < longword_at 1 bytes
      → i ≡ Units (longword_at 1 bytes) → ItemAt behind bytes i
  SeenTrigger : get_or bytes 0 0 ≡ 1 → 9 ≤ length bytes → i ≡ Trigger (quadword_at 1 bytes) → ItemAt behind bytes i
  SeenWait : get_or bytes 0 0 ≡ 2 → 10 ≤ length bytes → get_or bytes 1 0 ≤ 1
      → i ≡ Wait (eqb (get_or bytes 1 0) 1) (quadword_at 2 bytes) → ItemAt behind bytes i
  SeenReport : get_or bytes 0 0 ≡ 3 → 1 ≤ length bytes → i ≡ Report → ItemAt behind bytes i

-- which of two a choice is
cond-Some : (b : Bool) (o p : Option Item) (i : Item) → cond b o p ≡ Some i
    → ((b ≡ true) × (o ≡ Some i)) ⊎ ((b ≡ false) × (p ≡ Some i))
cond-Some true o p i e = inl (refl, e)
cond-Some false o p i e = inr (refl, e)

-- a choice that is there
cond-Some_or_None : (b : Bool) (j i : Item) → cond b (Some j) None ≡ Some i → (b ≡ true) × (i ≡ j)
cond-Some_or_None true j i e = (refl, cc)
cond-Some_or_None false j i e = absurd cc

eqb-positive : (n : ℕ) → eqb n 0 ≡ false → 0 < n
eqb-positive zero e = absurd cc
eqb-positive (suc n) e = omega arith

pub item_in-ItemAt : (behind : Bool) (bytes : List ℕ) (i : Item) → item_in behind bytes ≡ Some i → ItemAt behind bytes i
item_in-ItemAt behind bytes i e =
    elim (cond-Some (eqb (length bytes) 0) _ _ i e) [
      | inl h ↦ absurd (let none : None ≡ Some i = h.1 in cc)
      | inr h ↦
          let long = eqb-positive (length bytes) h.0 in
          elim (cond-Some (eqb (get_or bytes 0 0) 0) _ _ i h.1) [
            | inl u ↦
                let t = cond-Some_or_None _ _ i u.1 in
                let ab = and_parts _ _ t.0 in
                let a = and_parts _ _ ab.0 in
                SeenUnits (eqb-true _ _ u.0) (not-true behind a.0) (leb-true _ _ a.1)
                (eqb-positive _ (not-true _ ab.1)) t.1
            | inr n ↦
                elim (cond-Some (eqb (get_or bytes 0 0) 1) _ _ i n.1) [
                  | inl u ↦ let t = cond-Some_or_None _ _ i u.1 in SeenTrigger (eqb-true _ _ u.0) (leb-true _ _ t.0) t.1
                  | inr n ↦
                      elim (cond-Some (eqb (get_or bytes 0 0) 2) _ _ i n.1) [
                        | inl u ↦
                            let t = cond-Some_or_None _ _ i u.1 in
                            let ab = and_parts _ _ t.0 in
                            SeenWait (eqb-true _ _ u.0) (leb-true _ _ ab.0) (leb-true _ _ ab.1) t.1
                        | inr n ↦ let t = cond-Some_or_None _ _ i n.1 in SeenReport (eqb-true _ _ t.0) long t.1
                      ]
                ]
          ]
    ]

seen-size : (behind : Bool) (bytes : List ℕ) (i : Item) → ItemAt behind bytes i → item_size i ≤ length bytes
seen-size behind bytes i (SeenUnits k b long n e) = rw e long
seen-size behind bytes i (SeenTrigger k long e) = rw e long
seen-size behind bytes i (SeenWait k long f e) = rw e long
seen-size behind bytes i (SeenReport k long e) = rw e long

-- an item lies within the bytes that give it
pub item_in-size : (behind : Bool) (bytes : List ℕ) (i : Item) → item_in behind bytes ≡ Some i
    → item_size i ≤ length bytes
item_in-size behind bytes i e = seen-size behind bytes i (item_in-ItemAt behind bytes i e)

-- the first byte and those behind it
first_byte : (bytes : List ℕ) (n : ℕ) → 1 ≤ length bytes → get_or bytes 0 0 ≡ n → bytes ≡ n ∷ drop 1 bytes
first_byte [] n long e = absurd (omega arith)
first_byte (b ∷ bytes) n long e = ap (λ (x : ℕ). x ∷ bytes) e

second_byte : (bytes : List ℕ) → 2 ≤ length bytes → drop 1 bytes ≡ get_or bytes 1 0 ∷ drop 2 bytes
second_byte [] long = absurd (omega arith)
second_byte (a ∷ []) long = absurd (omega arith)
second_byte (a ∷ b ∷ bytes) long = refl

flag-eqb : (n : ℕ) → n ≤ 1 → flag (eqb n 1) ≡ n
flag-eqb zero h = refl
flag-eqb (suc zero) h = refl
flag-eqb (suc (suc n)) h = absurd (omega arith)

-- what is known of an item that bytes give
pub record IsReadItem (behind : Bool) (bytes : List ℕ) (i : Item) : Type 0 where
  pub is : bytes ≡ item_bytes i ++ drop (item_size i) bytes
  pub fits : FitsItem i
  pub merged : behind ≡ true → is_units i ≡ false

seen-IsReadItem : (behind : Bool) (bytes : List ℕ) (i : Item) → IsBytes bytes → ItemAt behind bytes i
    → IsReadItem behind bytes i
seen-IsReadItem behind bytes i bytes_fit (SeenUnits k b long n e) =
    rw e record {
      is =
          first_byte bytes 0 (omega arith) k ∙ ap (λ (t : List ℕ). 0 ∷ t) (drop-longword bytes 1 5 bytes_fit long refl);
      fits = (n, longword_at-lt 1 bytes bytes_fit);
      merged = λ h. absurd cc;
    }
seen-IsReadItem behind bytes i bytes_fit (SeenTrigger k long e) =
    rw e record {
      is =
          first_byte bytes 1 (omega arith) k ∙ ap (λ (t : List ℕ). 1 ∷ t) (drop-quadword bytes 1 9 bytes_fit long refl);
      fits = quadword_at-lt 1 bytes bytes_fit;
      merged = λ h. refl;
    }
seen-IsReadItem behind bytes i bytes_fit (SeenWait k long f e) =
    rw e record {
      is = first_byte bytes 2 (omega arith) k
          ∙ (ap (λ (t : List ℕ). 2 ∷ t) (second_byte bytes (omega arith))
          ∙ (ap (λ (n : ℕ). 2 ∷ n ∷ drop 2 bytes) (sym (flag-eqb (get_or bytes 1 0) f))
          ∙ ap (λ (t : List ℕ). 2 ∷ flag (eqb (get_or bytes 1 0) 1) ∷ t)
          (drop-quadword bytes 2 10 bytes_fit long refl)));
      fits = quadword_at-lt 2 bytes bytes_fit;
      merged = λ h. refl;
    }
seen-IsReadItem behind bytes i bytes_fit (SeenReport k long e) =
    rw e record {
      is = first_byte bytes 3 long k;
      fits = tt;
      merged = λ h. refl;
    }

pub item_in-IsReadItem : (behind : Bool) (bytes : List ℕ) (i : Item) → IsBytes bytes → item_in behind bytes ≡ Some i
    → IsReadItem behind bytes i
item_in-IsReadItem behind bytes i fits e = seen-IsReadItem behind bytes i fits (item_in-ItemAt behind bytes i e)

pub length-item_bytes : (i : Item) → length (item_bytes i) ≡ item_size i
unfolding quadword longword
length-item_bytes (Units n) = refl
length-item_bytes (Trigger v) = refl
length-item_bytes (Wait adds v) = refl
length-item_bytes Report = refl

not_zero : (n : ℕ) → 0 < n → eqb n 0 ≡ false
not_zero n h = ne_eqb n 0 (λ e. omega arith)

-- the bytes of an item that may stand there give it again
pub item_in-item_bytes : (behind : Bool) (i : Item) (rest : List ℕ) → FitsItem i → (behind ≡ true → is_units i ≡ false)
    → item_in behind (item_bytes i ++ rest) ≡ Some i
unfolding quadword longword
item_in-item_bytes true (Units n) rest fits merged = let no : true ≡ false = merged refl in absurd cc
item_in-item_bytes false (Units n) rest fits merged =
    let t = item_bytes (Units n) ++ rest in
    let some = not_zero (length t) (omega arith) in
    let long : leb 5 (length t) ≡ true = le-leb 5 (length t) (omega arith) in
    let number : longword_at 1 t ≡ n = longword_at-front t 1 n rest refl fits.1 in
    rw (some, long, number, not_zero n fits.0) refl
item_in-item_bytes behind (Trigger v) rest fits merged =
    let t = item_bytes (Trigger v) ++ rest in
    let some = not_zero (length t) (omega arith) in
    let long : leb 9 (length t) ≡ true = le-leb 9 (length t) (omega arith) in
    let number : quadword_at 1 t ≡ v = quadword_at-front t 1 v rest refl fits in
    rw (some, long, number) refl
item_in-item_bytes behind (Wait false v) rest fits merged =
    let t = item_bytes (Wait false v) ++ rest in
    let some = not_zero (length t) (omega arith) in
    let long : leb 10 (length t) ≡ true = le-leb 10 (length t) (omega arith) in
    let number : quadword_at 2 t ≡ v = quadword_at-front t 2 v rest refl fits in
    rw (some, long, number) refl
item_in-item_bytes behind (Wait true v) rest fits merged =
    let t = item_bytes (Wait true v) ++ rest in
    let some = not_zero (length t) (omega arith) in
    let long : leb 10 (length t) ≡ true = le-leb 10 (length t) (omega arith) in
    let number : quadword_at 2 t ≡ v = quadword_at-front t 2 v rest refl fits in
    rw (some, long, number) refl
item_in-item_bytes behind Report rest fits merged =
    let some = not_zero (length (item_bytes Report ++ rest)) (omega arith) in
    rw some refl
